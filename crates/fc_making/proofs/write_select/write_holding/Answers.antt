use Rattle.std.proofs.Common.{◌∷◌, [], ◌++◌, Err, Ok, ap, length, map, ◌∙◌}
use Rattle.std.proofs.lemmas.Result.{err_from_is_err_and}
use Rattle.fc_wire.specs.Writing.{head_bytes, writing}
use Rattle.fc_path.specs.Canon.{joined, path_written}
use Rattle.fc_path.specs.Kinds.{number_of}
use Rattle.fc_text.specs.TextReading.{operation_paths_at}
use Rattle.fc_making.specs.Writes.{unwritten_by}
use Rattle.fc_making.proofs.WrittenParts.{answered, held, held_refused}
use Rattle.fc_making.proofs.write_select.write_holding.Goals as goal

pub returns-clause-exact : goal.returns-clause-exact
returns-clause-exact c =
    let old = c.args.to.now in
    held (operation_paths_at c.args.kind c.args.level c.args.lines.now) c.write_all_paths.new.lines (λ paths. joined (map path_written paths)) old c.begin.new.self c.write_all_paths.new.to c.end.new.self (number_of c.args.kind) c.in_ok-begun.begun
    c.end.result (Ok tt) (ap answered c.in_ok-end.was) c.in_ok-begun.ensures.begun (c.in_ok-begun.ensures.ok ∙ ap (λ k. writing (old.text ++ head_bytes k) (old.places ++ length old.text ∷ [])) c.number.ensures) c.in_ok-write_all_paths.ensures.exact
    c.end.ensures.tlv c.end.ensures.long

pub returns-in_err-end-clause-exact : goal.returns-in_err-end-clause-exact
returns-in_err-end-clause-exact c =
    let old = c.args.to.now in
    let p = err_from_is_err_and c.from_residual-in_err-end.result c.from_residual-in_err-end.ensures.1 in
    rw (p.1, p.2) (held (operation_paths_at c.args.kind c.args.level c.args.lines.now) c.write_all_paths.new.lines (λ paths. joined (map path_written paths)) old c.begin.new.self c.write_all_paths.new.to c.end.new.self (number_of c.args.kind) c.in_ok-begun.begun
    c.end.result (Err (unwritten_by c.in_err-end.field-0.0)) (ap answered c.in_err-end.was) c.in_ok-begun.ensures.begun (c.in_ok-begun.ensures.ok ∙ ap (λ k. writing (old.text ++ head_bytes k) (old.places ++ length old.text ∷ [])) c.number.ensures) c.in_ok-write_all_paths.ensures.exact
    c.end.ensures.tlv c.end.ensures.long)

pub returns-in_err-write_all_paths-clause-exact : goal.returns-in_err-write_all_paths-clause-exact
returns-in_err-write_all_paths-clause-exact c =
    let p = err_from_is_err_and c.from_residual-in_err-write_all_paths.result c.from_residual-in_err-write_all_paths.ensures.1 in
    rw (p.1, p.2) (held_refused (operation_paths_at c.args.kind c.args.level c.args.lines.now) (λ paths. joined (map path_written paths)) (number_of c.args.kind) c.in_err-write_all_paths.field-0.0 c.in_err-write_all_paths.ensures.exact)
