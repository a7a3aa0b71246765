use Rattle.std.proofs.Common.{◌+◌, ◌*◌, ◌/◌, Some, sym, subst, arith}
use Rattle.fc_path.specs.Canon.{full_written}
use Rattle.fc_path.specs.Results.{Held}
use Rattle.fc_path.proofs.Measures.{full_long, full_over, full_sized}
use Rattle.fc_path.proofs.measuring.full_size.Goals as goal

pub returns-then-len-gt-VALUE : goal.returns-then-len-gt-VALUE
returns-then-len-gt-VALUE c = full_long c.args.value.now (omega (arith, c.len-len.ensures))

pub returns-then-size-gt-VALUE : goal.returns-then-size-gt-VALUE
returns-then-size-gt-VALUE c = full_over c.args.value.now (omega (arith, c.len-len.ensures))

pub returns-else-size-gt-VALUE : goal.returns-else-size-gt-VALUE
returns-else-size-gt-VALUE c =
    subst (λ n. Held 65532 (Some (4 + (n + 3) / 4 * 4)) (full_written c.args.value.now)) (sym c.len-len.ensures) (full_sized c.args.value.now (omega (arith, c.len-len.ensures)))
