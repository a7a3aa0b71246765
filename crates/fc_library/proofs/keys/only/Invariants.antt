use Rattle.std.proofs.Common.{◌≡◌, ◌++◌, map}
use Rattle.std.specs.List.Sorted.{IsStrictlySortedBy}
use Rattle.std.specs.Map.{keys_of as entry_keys}
use Rattle.std.specs.String.{string_cmp}
use Rattle.toml.specs.View.{members_view}
use Rattle.fc_library.specs.Keys.{only}
use Rattle.fc_library.proofs.keys.only.Given as goal

abbrev pub invariant-members : goal.invariant-members
invariant-members l = record {
  meaning : only (map (λ k. k.now) l.own ++ map (λ k. k.now) l.more) (members_view l.name-iterator) ≡ only (map (λ k. k.now) l.own ++ map (λ k. k.now) l.more) (members_view l.table.entries);
  ordered : IsStrictlySortedBy string_cmp (entry_keys l.name-iterator);
}
