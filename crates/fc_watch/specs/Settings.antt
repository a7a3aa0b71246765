-- The properties of an event, as they are set and told: RFC 5812, section 4.8.5; their numbers, the codes and their order are this
-- profile's own.
use Rattle.std.specs.Prelude.{ℕ, ◌==◌, ◌&&◌, ◌||◌, not, nat_lt, ℤ, pos, ◌-ℤ◌, Bool, true, false, List, [], ◌∷◌, ◌++◌, length, Result, Ok, Err, if◌then◌else◌}
use Rattle.std.specs.List.{list_any}
use Rattle.fc_base.specs.Answers.{◌>>=◌}
use Rattle.fc_types.specs.declared.class.When.{When}
use Rattle.fc_wire.specs.Bytes.{u32_at, u32_bytes}
use Rattle.fc_wire.specs.declared.ilvs.Ilv.{Ilv}
use Rattle.fc_watch.specs.declared.settings.Settings.{Settings}
use Rattle.fc_watch.specs.declared.watch.Condition.{Condition}

-- the identifiers
abbrev pub registration : ℕ
registration = 2

abbrev pub threshold : ℕ
threshold = 3

abbrev pub hysteresis : ℕ
hysteresis = 4

abbrev pub count : ℕ
count = 5

-- the codes
abbrev pub invalid_parameters : ℕ
invalid_parameters = 16

abbrev pub invalid_tlv : ℕ
invalid_tlv = 19

abbrev pub out_of_range : ℕ
out_of_range = 14

abbrev pub settings : Bool → ℕ → ℕ → ℕ → Settings
settings r t h c = record { registered = r; threshold = t; hysteresis = h; count = c }

-- those of an event for which nothing was set
abbrev pub opening : Settings
opening = settings false 0 0 1

-- one property set to a word: a registration is 0 or 1, and a count at least 1
abbrev pub with_word : Settings → ℕ → ℕ → Result Settings ℕ
with_word s ident w =
    if ident == registration then (if nat_lt 1 w then Err out_of_range else Ok (settings (w == 1) s.threshold s.hysteresis s.count))
    else (if ident == threshold then Ok (settings s.registered w s.hysteresis s.count)
    else (if ident == hysteresis then Ok (settings s.registered s.threshold w s.count)
    else (if w == 0 then Err out_of_range else Ok (settings s.registered s.threshold s.hysteresis w))))

-- one ILV behind others: in this order another property, a repeated one, a wrong width, and a word out of range
abbrev pub with_prop : List Ilv → Settings → Ilv → Result Settings ℕ
with_prop before s ilv =
    if nat_lt ilv.ident registration || nat_lt count ilv.ident then Err invalid_parameters
    else (if list_any (λ (other : Ilv). other.ident == ilv.ident) before then Err invalid_tlv
    else (if not (length ilv.value == 4) then Err invalid_tlv else with_word s ilv.ident (u32_at ilv.value 0)))

-- the settings after ILVs that stand behind others, or the code of the first that is refused
abbrev pub settings_after : List Ilv → Settings → List Ilv → Result Settings ℕ
settings_after before s [] = Ok s
settings_after before s (ilv ∷ ilvs) = with_prop before s ilv >>= λ t. settings_after (before ++ ilv ∷ []) t ilvs

-- a threshold, of the four bytes in which it is set
abbrev pub threshold_of : Bool → ℕ → ℤ
threshold_of signed w = if signed && not (nat_lt w 2147483648) then pos w -ℤ pos 4294967296 else pos w

-- when an event happens, by its declaration and its settings
abbrev pub condition_of : When → Bool → Settings → Condition
condition_of when signed s = record { when = when; threshold = threshold_of signed s.threshold; hysteresis = s.hysteresis; count = s.count }

abbrev pub prop : ℕ → ℕ → Ilv
prop ident w = record { ident = ident; value = u32_bytes w }

abbrev pub with_prop_told : List Ilv → ℕ → ℕ → List Ilv
with_prop_told props ident w = props ++ prop ident w ∷ []

-- the properties as they are told
abbrev pub event_props : Settings → List Ilv
event_props s =
    prop registration (if s.registered then 1 else 0) ∷ prop threshold s.threshold ∷ prop hysteresis s.hysteresis ∷ prop count s.count ∷ []
