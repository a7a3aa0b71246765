-- The peers that are open, as a finite map. This profile's own.
use Rattle.std.specs.Prelude.{ℕ, List}
use Rattle.std.specs.Coded.{Coded, coded_list, coded_ℕ}
use Rattle.std.specs.Ordering.{nat_cmp}
use Rattle.std.specs.FinMap.{FinMap, code, from_entries}

-- from the number of each peer that is open, the bytes of it that are left
abbrev pub PeerMap : Type 0
PeerMap = FinMap nat_cmp (List ℕ)

abbrev pub peer_map_code : Coded PeerMap
peer_map_code = code coded_ℕ (coded_list coded_ℕ)

abbrev pub peers_of : List (ℕ × List ℕ) → PeerMap
peers_of entries = from_entries entries
