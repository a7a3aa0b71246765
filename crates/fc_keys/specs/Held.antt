-- The bytes of a key as a node holds them. This profile's own.
use Rattle.std.specs.Prelude.{◌≤◌, ℕ, List, take}
use Rattle.fc_keys.specs.declared.held.Bytes.{Bytes}
use Rattle.fc_keys.specs.declared.held.Bytes.TheVariants.{Few, Many}

-- as many as are told of those in place, or those that stand elsewhere
abbrev pub bytes_of : Bytes → List ℕ
bytes_of (Few len few) = take len few
bytes_of (Many key) = key

-- no more are told than there is place for
abbrev pub Fits : Bytes → Type 0
Fits (Few len few) = len ≤ 16
Fits (Many key) = Unit {0}
