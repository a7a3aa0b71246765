use Rattle.std.proofs.Common.{◌≡◌, drop, map}
use Rattle.fc_library.specs.Keys.{is_among}
use Rattle.fc_library.proofs.keys.is_among.Given as goal

abbrev pub invariant-keys : goal.invariant-keys
invariant-keys l = is_among l.name (map (λ key. key.now) (drop l.key-index l.known)) ≡ is_among l.name (map (λ key. key.now) l.known)
