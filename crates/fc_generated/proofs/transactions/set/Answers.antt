use Rattle.std.proofs.Common.{◌∙◌, ap, map}
use Rattle.fc_path.specs.declared.oper.OperKind.TheVariants as kinds
use Rattle.fc_path.specs.declared.oper.Oper.TheVariants as oper
use Rattle.fc_generated.specs.Transactions.{row_path}
use Rattle.fc_generated.proofs.Appending.{rows_are}
use Rattle.fc_generated.proofs.transactions.set.Goals as goal

pub returns : goal.returns
returns c = ap (oper.Paths kinds.Set) (c.in_ok-of.ensures ∙ c.in_ok-paths.ensures ∙ ap (map (row_path c.args.element)) (rows_are c.args.number c.requires.some))
