use Rattle.std.proofs.Common.{map, Some, None, subst}
use Rattle.fc_path.specs.Canon.{joined, oper_written}
use Rattle.fc_path.specs.Results.{Held}
use Rattle.fc_path.proofs.Measures.{select_fails, select_sized}
use Rattle.fc_path.proofs.measuring.written_select.Goals as goal

pub returns-in-Some-clause-size : goal.returns-in-Some-clause-size
returns-in-Some-clause-size c =
    select_sized c.args.select.now c.in-Some.size (subst (λ l. Held 65524 (Some c.in-Some.size) (joined (map oper_written l))) c.as_slice.ensures c.in-Some.ensures)

pub returns-in-None-clause-size : goal.returns-in-None-clause-size
returns-in-None-clause-size c = select_fails c.args.select.now (subst (λ l. Held 65524 None (joined (map oper_written l))) c.as_slice.ensures c.in-None.ensures)
