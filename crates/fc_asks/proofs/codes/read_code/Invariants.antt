use Rattle.std.proofs.Common.{◌≡◌, take}
use Rattle.std.specs.List.{flat_map}
use Rattle.fc_asks.specs.Codes.{select_codes}
use Rattle.fc_asks.proofs.codes.read_code.Given as goal

abbrev pub invariant-loop-select : goal.invariant-loop-select
invariant-loop-select l = l.codes.items ≡ flat_map select_codes (take l.select-index l.selects)
