-- The settings of heartbeats, which stand in the configuration: RFC 5810, section 7.3.1 and appendix B; the policies are this profile's own.
use Rattle.std.specs.Prelude.{ℕ, ◌^◌, ℤ, pos, negsuc, nat_lt, List, [], ◌∷◌, if◌then◌else◌, Result, Ok, Err}
use Rattle.fc_path.specs.declared.oper.Spot.{Spot}
use Rattle.fc_path.specs.declared.oper.Step.TheVariants as step
use Rattle.fc_types.specs.declared.ty.Ty.{Ty}
use Rattle.fc_value.specs.declared.value.Value.{Value, out-Value}
use Rattle.fc_value.specs.declared.value.Value.TheOpen.{Value-F}
use Rattle.fc_store.specs.Stores.{Stored, seen}
use Rattle.fc_store.specs.declared.spots.Purpose.TheVariants as purpose
use Rattle.fc_blocks.specs.declared.settings.HeartbeatSettings.{HeartbeatSettings}

-- a number of 32 bits, 0 where it is none
abbrev pub word_of : ℤ → ℕ
word_of (pos n) = if nat_lt n (2 ^ 32) then n else 0
word_of (negsuc n) = 0

abbrev pub number_layer : Value-F Value → ℕ
number_layer (Value-F.Truth truth) = 0
number_layer (Value-F.Number number) = word_of number
number_layer (Value-F.Text text) = 0
number_layer (Value-F.Raw bytes) = 0
number_layer (Value-F.Group values) = 0
number_layer (Value-F.Table entries) = 0

abbrev pub number_of : Value → ℕ
number_of v = number_layer (out-Value v)

abbrev pub number_in : Result (Ty × Value) ℕ → ℕ
number_in (Ok node) = number_of node.1
number_in (Err code) = 0

-- a component of the FE Protocol LFB
abbrev pub protocol_spot : ℕ → Spot
protocol_spot id = record { class = 2; instance = 1; steps = step.Id id ∷ [] }

-- the number that stands there
abbrev pub setting : ℕ → Stored → ℕ
setting id s = number_in (seen purpose.Look (protocol_spot id) s)

-- CEHBPolicy: 0 the element ends associations that are silent for too long, 1 it does not
abbrev pub ce_policy : Stored → ℕ
ce_policy s = setting 4 s

-- CEHDI: so many milliseconds of silence are allowed
abbrev pub ce_dead : Stored → ℕ
ce_dead s = setting 5 s

-- FEHBPolicy: 1 the element sends heartbeats, 0 it does not
abbrev pub fe_policy : Stored → ℕ
fe_policy s = setting 6 s

-- FEHI: so many milliseconds pass between them at least
abbrev pub fe_interval : Stored → ℕ
fe_interval s = setting 7 s

abbrev pub settings_in : Stored → HeartbeatSettings
settings_in s = record { ce_policy = ce_policy s; ce_dead = ce_dead s; fe_policy = fe_policy s; fe_interval = fe_interval s }
