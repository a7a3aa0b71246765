use Rattle.std.proofs.Common.{◌≡◌, drop}
use Rattle.std.specs.List.{list_all}
use Rattle.fc_types.specs.Types.{is_key}
use Rattle.fc_types.proofs.type_rules.are_keys.Given as goal

abbrev pub invariant-loop-key : goal.invariant-loop-key
invariant-loop-key l = list_all (is_key l.fields) (drop l.key-index l.keys) ≡ list_all (is_key l.fields) l.keys
