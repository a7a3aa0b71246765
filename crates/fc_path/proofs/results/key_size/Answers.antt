use Rattle.std.proofs.Common.{◌+◌, ◌*◌, ◌/◌, length, Some, None, sym, subst, arith}
use Rattle.fc_path.specs.Canon.{key_written}
use Rattle.fc_path.specs.Results.{Sized}
use Rattle.fc_path.proofs.Sizes.{key_over, key_sized}
use Rattle.fc_path.proofs.results.key_size.Goals as goal

pub returns-then-size-gt-VALUE-clause-size : goal.returns-then-size-gt-VALUE-clause-size
returns-then-size-gt-VALUE-clause-size c =
    subst (λ k. Sized None (key_written k)) (sym c.in-Some.is) (key_over c.in-Some.key (omega (arith, c.len-len.ensures)))

pub returns-else-size-gt-VALUE-clause-size : goal.returns-else-size-gt-VALUE-clause-size
returns-else-size-gt-VALUE-clause-size c =
    subst (λ n. Sized (Some (4 + (4 + (n + 3) / 4 * 4) + 4)) (key_written c.args.key.now)) (sym c.len-len.ensures)
    (subst (λ k. Sized (Some (4 + (4 + (length c.in-Some.key.value + 3) / 4 * 4) + 4)) (key_written k)) (sym c.in-Some.is) (key_sized c.in-Some.key (omega (arith, c.len-len.ensures))))
