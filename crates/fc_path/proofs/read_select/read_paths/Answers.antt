use Rattle.std.proofs.Common.{Some, sym, ap, ◌∙◌}
use Rattle.std.proofs.lemmas.Result.{err_from_is_err_and}
use Rattle.fc_path.specs.Stray.{misplaced}
use Rattle.fc_path.specs.Reading.{path_at, path_or}
use Rattle.fc_path.proofs.Steps.{loop_fails, loop_goes, some_fails}
use Rattle.fc_path.proofs.read_select.read_paths.Goals as goal

pub returns-in_err-path-in-Ok : goal.returns-in_err-path-in-Ok
returns-in_err-path-in-Ok c =
    let p = err_from_is_err_and c.from_residual.result c.from_residual.ensures.1 in
    let one = path_or misplaced (path_at c.args.kind 16) in
    rw (p.1, p.2) (some_fails one c.args.end c.args.tlvs.items c.args.tlvs.fault c.in_err-path-in-Ok.field-0.0
    (loop_fails one c.items.tlvs.items c.items.tlvs.fault c.in-Ok.tlv c.next.new.self c.items.paths _ c.in_err-path-in-Ok.field-0.0 c.items.invariant
    (ap Some (sym c.in-Ok.is) ∙ c.in-Some.ensures.next) c.next.ensures.rest c.in_err-path-in-Ok.ensures))

pub items-preserved : goal.items-preserved
items-preserved c =
    loop_goes (path_or misplaced (path_at c.args.kind 16)) c.items.tlvs.items c.items.tlvs.fault c.in-Ok.tlv c.next.new.self c.items.paths c.push.new.self _ c.in_ok-path-in-Ok.path c.items.invariant
    (ap Some (sym c.in-Ok.is) ∙ c.in-Some.ensures.next) c.next.ensures.rest c.in_ok-path-in-Ok.ensures c.in_ok-push-in-Ok.ensures.ok
