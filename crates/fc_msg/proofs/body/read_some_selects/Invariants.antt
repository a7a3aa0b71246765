use Rattle.std.proofs.Common.{◌≡◌, ◌++◌, length, Ok}
use Rattle.fc_base.specs.Answers.{◌>>=◌}
use Rattle.fc_path.specs.Reading.{each_in, select_at}
use Rattle.fc_msg.proofs.body.read_some_selects.Given as goal

abbrev pub invariant-items : goal.invariant-items
invariant-items l =
    (each_in (select_at l.message) l.tlvs.items l.tlvs.fault >>= λ more. Ok (l.selects ++ more))
    ≡ each_in (select_at l.message) l.fn.tlvs.items l.fn.tlvs.fault

abbrev pub decreases-items : goal.decreases-items
decreases-items l = length l.tlvs.items
