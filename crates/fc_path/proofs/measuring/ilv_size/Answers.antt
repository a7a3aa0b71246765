use Rattle.std.proofs.Common.{◌+◌, ◌*◌, ◌/◌, Some, sym, subst, arith}
use Rattle.fc_path.specs.Canon.{ilv_written}
use Rattle.fc_path.specs.Results.{Sized}
use Rattle.fc_path.proofs.Measures.{ilv_long, ilv_sized}
use Rattle.fc_path.proofs.measuring.ilv_size.Goals as goal

pub returns-then-len-gt-ILV_VALUE-clause-size : goal.returns-then-len-gt-ILV_VALUE-clause-size
returns-then-len-gt-ILV_VALUE-clause-size c = ilv_long c.args.ilv.now (omega (arith, c.len-len.ensures))

pub returns-else-len-gt-ILV_VALUE-clause-size : goal.returns-else-len-gt-ILV_VALUE-clause-size
returns-else-len-gt-ILV_VALUE-clause-size c =
    subst (λ n. Sized (Some (8 + (n + 3) / 4 * 4)) (ilv_written c.args.ilv.now)) (sym c.len-len.ensures) (ilv_sized c.args.ilv.now (omega (arith, c.len-len.ensures)))
