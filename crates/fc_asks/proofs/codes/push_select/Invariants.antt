use Rattle.std.proofs.Common.{◌≡◌, ◌++◌, take}
use Rattle.std.specs.List.{flat_map}
use Rattle.fc_asks.specs.Codes.{oper_codes}
use Rattle.fc_asks.proofs.codes.push_select.Given as goal

abbrev pub invariant-loop-oper : goal.invariant-loop-oper
invariant-loop-oper l = l.codes.items ≡ l.fn.codes.items ++ flat_map oper_codes (take l.oper-index l.select.opers)
