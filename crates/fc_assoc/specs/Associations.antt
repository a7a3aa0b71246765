-- The associations of a forwarding element with control elements (RFC 5810, section 4.4), as a finite map; their bound
-- is this profile's own.
use Rattle.std.specs.Prelude.{ℕ, ◌+◌, ◌||◌, Bool, false, not, List, Option, Some, None, if◌then◌else◌, nat_lt, refl}
use Rattle.std.specs.Coded.{Coded, code_by, coded×, coded_ℕ}
use Rattle.std.specs.Ordering.{nat_cmp}
use Rattle.std.specs.FinMap.{FinMap, code, contains_key, get, insert, len, keys, retain_keys}
use Rattle.fc_assoc.specs.declared.heard.Heard.{Heard}

-- the associations: from each control element's ID, when it was last heard and over which peer
abbrev pub AssociationMap : Type 0
AssociationMap = FinMap nat_cmp Heard

abbrev pub heard_code : Coded Heard
heard_code = code_by (ℕ × ℕ) (coded× coded_ℕ coded_ℕ) (λ h. (h.last, h.peer)) (λ p. record { last = p.0; peer = p.1 }) (λ _. refl)

abbrev pub association_map_code : Coded AssociationMap
association_map_code = code coded_ℕ heard_code

abbrev pub heard_at : ℕ → ℕ → Heard
heard_at now peer = record { last = now; peer = peer }

-- a control element is taken in where it has an association, or fewer than 64 stand
abbrev pub takes_in : AssociationMap → ℕ → Bool
takes_in m ce = contains_key m ce || nat_lt (len m) 64

-- an accepted association is entered or renewed, where there is room
abbrev pub entered : AssociationMap → ℕ → ℕ → ℕ → AssociationMap
entered m ce peer now = if takes_in m ce then insert m ce (heard_at now peer) else m

-- what is heard renews an association and enters none
abbrev pub renewed : AssociationMap → ℕ → ℕ → ℕ → AssociationMap
renewed m ce peer now = if contains_key m ce then insert m ce (heard_at now peer) else m

-- the last moment plus the time allowed is less than now
abbrev pub is_past : Heard → ℕ → ℕ → Bool
is_past h now dead = nat_lt (h.last + dead) now

abbrev pub is_silent : Option Heard → ℕ → ℕ → Bool
is_silent None now dead = false
is_silent (Some h) now dead = is_past h now dead

-- the control elements that are silent for too long, by rising ID
abbrev pub silent : AssociationMap → ℕ → ℕ → List ℕ
silent m now dead = keys (retain_keys m (λ ce. is_silent (get m ce) now dead))

-- the associations of the others
abbrev pub still_heard : AssociationMap → ℕ → ℕ → AssociationMap
still_heard m now dead = retain_keys m (λ ce. not (is_silent (get m ce) now dead))
