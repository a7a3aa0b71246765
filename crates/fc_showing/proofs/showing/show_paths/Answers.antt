use Rattle.std.proofs.Common.{Some, sym, ap, ◌∙◌}
use Rattle.std.proofs.lemmas.Result.{err_from_is_err_and}
use Rattle.fc_path.specs.Stray.{misplaced}
use Rattle.fc_path.specs.Reading.{path_or, path_at}
use Rattle.fc_text.specs.Text.{path_text}
use Rattle.fc_showing.proofs.Appending.{then_others, first_fails}
use Rattle.fc_showing.proofs.showing.show_paths.Goals as goal

pub returns-in_ok-show_path-in-Some-Ok-clause-shown : goal.returns-in_ok-show_path-in-Some-Ok-clause-shown
returns-in_ok-show_path-in-Some-Ok-clause-shown c =
    then_others (path_or misplaced (path_at c.args.kind 16)) (λ path. path_text path 3) c.show_more_paths.result c.args.end c.args.tlvs.items c.args.tlvs.fault c.in-Some-Ok.tlv c.next.new.self c.args.into.now.items c.show_path.new.into.items c.show_more_paths.new.into.items
    (ap Some (sym c.in-Some-Ok.field-0-is) ∙ c.in-Some-Ok.ensures.next) c.next.ensures.rest c.in_ok-show_path-in-Some-Ok.ensures.shown c.show_more_paths.ensures.shown

pub returns-in_err-show_path-in-Some-Ok-clause-shown : goal.returns-in_err-show_path-in-Some-Ok-clause-shown
returns-in_err-show_path-in-Some-Ok-clause-shown c =
    let p = err_from_is_err_and c.from_residual.result c.from_residual.ensures.1 in
    rw (p.1, p.2) (first_fails (path_or misplaced (path_at c.args.kind 16)) (λ path. path_text path 3) c.args.end c.args.tlvs.items c.args.tlvs.fault c.in-Some-Ok.tlv c.next.new.self c.in_err-show_path-in-Some-Ok.field-0.0
    (ap Some (sym c.in-Some-Ok.field-0-is) ∙ c.in-Some-Ok.ensures.next) c.next.ensures.rest c.in_err-show_path-in-Some-Ok.ensures.shown)
