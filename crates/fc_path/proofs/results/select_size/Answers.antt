use Rattle.std.proofs.Common.{map, Some, None, subst}
use Rattle.fc_path.specs.Canon.{joined}
use Rattle.fc_path.specs.Results.{Held}
use Rattle.fc_path.proofs.Sizes.{oper_part, select_none, select_zero, select_over, select_some, positive}
use Rattle.fc_path.proofs.results.select_size.Goals as goal

pub returns-in-None-clause-size : goal.returns-in-None-clause-size
returns-in-None-clause-size c =
    select_none c.args.select.now (subst (λ l. Held 65532 None (joined (map oper_part l))) c.as_slice.ensures c.in-None.ensures)

pub returns-in-Some-eq0-clause-size : goal.returns-in-Some-eq0-clause-size
returns-in-Some-eq0-clause-size c =
    select_zero c.args.select.now (subst (λ n. Held 65532 (Some n) (joined (map oper_part c.args.select.now.opers))) c.in-Some-eq0.field-0-test
    (subst (λ l. Held 65532 (Some c.in-Some-eq0.field-0) (joined (map oper_part l))) c.as_slice.ensures c.in-Some-eq0.ensures))

pub returns-then-size-gt-VALUE-clause-size : goal.returns-then-size-gt-VALUE-clause-size
returns-then-size-gt-VALUE-clause-size c =
    select_over c.args.select.now c.in-Some.size (subst (λ l. Held 65532 (Some c.in-Some.size) (joined (map oper_part l))) c.as_slice.ensures c.in-Some.ensures) (positive c.in-Some.size c.in-Some.size-test.1) c.if-size-gt-VALUE.true

pub returns-else-size-gt-VALUE-clause-size : goal.returns-else-size-gt-VALUE-clause-size
returns-else-size-gt-VALUE-clause-size c =
    select_some c.args.select.now c.in-Some.size (subst (λ l. Held 65532 (Some c.in-Some.size) (joined (map oper_part l))) c.as_slice.ensures c.in-Some.ensures) (positive c.in-Some.size c.in-Some.size-test.1) c.if-size-gt-VALUE.false
