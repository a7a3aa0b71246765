use Rattle.std.proofs.Common.{Some, sym, ap, ◌∙◌}
use Rattle.std.proofs.lemmas.Result.{err_from_is_err_and}
use Rattle.fc_path.specs.Stray.{misplaced}
use Rattle.fc_path.specs.Reading.{path_or, path_at}
use Rattle.fc_text.specs.Text.{path_text}
use Rattle.fc_showing.proofs.Appending.{goes, stops}
use Rattle.fc_showing.proofs.Keeping.{keeps_on}
use Rattle.fc_showing.proofs.showing.show_more_paths.Goals as goal

pub items-preserved : goal.items-preserved
items-preserved c = record {
  so_far =
      goes (path_or misplaced (path_at c.args.kind 16)) (λ path. path_text path 3) c.items.tlvs.items c.items.tlvs.fault c.in-Ok.tlv c.next.new.self _ c.items.into.items c.show_path.new.into.items _ c.items.invariant.so_far
      (ap Some (sym c.in-Ok.is) ∙ c.in-Some.ensures.next) c.next.ensures.rest c.in_ok-show_path-in-Ok.ensures.shown;
  kept = keeps_on c.args.into.now.items c.items.into.items c.show_path.new.into.items c.items.invariant.kept c.in_ok-show_path-in-Ok.ensures.kept;
}

pub returns-in_err-show_path-in-Ok-clause-shown : goal.returns-in_err-show_path-in-Ok-clause-shown
returns-in_err-show_path-in-Ok-clause-shown c =
    let p = err_from_is_err_and c.from_residual.result c.from_residual.ensures.1 in
    rw (p.1, p.2) (stops (path_or misplaced (path_at c.args.kind 16)) (λ path. path_text path 3) c.items.tlvs.items c.items.tlvs.fault c.in-Ok.tlv c.next.new.self _ c.items.into.items _ c.in_err-show_path-in-Ok.field-0.0 c.items.invariant.so_far
    (ap Some (sym c.in-Ok.is) ∙ c.in-Some.ensures.next) c.next.ensures.rest c.in_err-show_path-in-Ok.ensures.shown)
