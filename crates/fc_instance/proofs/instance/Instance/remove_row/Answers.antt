use Rattle.std.proofs.Common.{refl}
use Rattle.std.proofs.lemmas.Result.{err_from_is_err_and}
use Rattle.fc_instance.proofs.EntryChanges.{row_is_removed, row_not_removed}
use Rattle.fc_instance.proofs.instance.Instance.remove_row.Goals as goal

pub returns-in_err-new-clause-changed : goal.returns-in_err-new-clause-changed
returns-in_err-new-clause-changed c =
    let p = err_from_is_err_and c.from_residual.result c.from_residual.ensures.1 in
    rw (p.1, p.2) (row_not_removed c.args.ty.now c.args.component c.args.self.now.now c.args.steps.now c.args.path.now c.in_err-new.field-0.0 c.requires.path c.in_err-new.ensures, refl)

pub returns-in-true-clause-changed : goal.returns-in-true-clause-changed
returns-in-true-clause-changed c = row_is_removed c.args.ty.now c.args.component c.args.self.now.now c.put_entry.new.self.now c.args.steps.now c.args.path.now c.in_ok-new.new c.in_ok-put_entry.field-0
    c.requires.path c.in_ok-new.ensures c.in-true.is c.in_ok-put_entry.ensures.now
