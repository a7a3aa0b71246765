-- The order of codes as one list: the tests of a full form in reading order, whatever loops read it, each with its code. A value is
-- tested from left to right, the keys of an array behind its last entry, and last of all whether bytes are left over. The codes and
-- their order are this profile's own.
use Rattle.std.specs.Prelude.{◌≡◌, ℕ, ℤ, zero, suc, ◌-◌, ◌%◌, ◌==◌, nat_lt, nat_le, int_lt, Bool, true, false, not, ◌&&◌, ◌||◌, List, [], ◌∷◌, ◌++◌, length, take, drop, map, Option, Some, None, Result, Ok, Err}
use Rattle.std.specs.List.{AllByRecursion, list_any}
use Rattle.std.specs.Str.{is_utf8}
use Rattle.fc_types.specs.Types.{fields_of}
use Rattle.fc_types.specs.declared.ty.KeyDecl.{KeyDecl}
use Rattle.fc_types.specs.declared.ty.Field.{Field}
use Rattle.fc_types.specs.declared.ty.Ty.{Ty}
use Rattle.fc_types.specs.declared.ty.Ty.TheOpen.{Ty-F, Field-F}
use Rattle.fc_types.specs.declared.ty.Ty.TheViews.{out-Ty}
use Rattle.fc_types.specs.declared.ty.Ty.TheFolds.{para-Ty, para-Field}
use Rattle.fc_wire.specs.Bytes.{u16_at, u32_at}
use Rattle.fc_wire.specs.Types as types
use Rattle.fc_value.specs.Keys.{keys_differ}
use Rattle.fc_value.specs.Numbers.{is_width, number_of}
use Rattle.fc_value.specs.Outcomes.{invalid_tlv, invalid_parameters, out_of_range}
use Rattle.fc_value.specs.Reading.{Reader, entries_in, inside}
use Rattle.fc_value.specs.declared.value.Value.{Value}

-- a test: none where it passes, and else its code
abbrev pub Trial : Type 0
Trial = Option ℕ

abbrev pub IsPassed : Trial → Type 0
IsPassed t = t ≡ None

-- the code is that of the first test that fails
abbrev pub FirstFailed : ℕ → List Trial → Type 0
FirstFailed code trials = (before : List Trial) × (rest : List Trial) × (trials ≡ before ++ Some code ∷ rest) × AllByRecursion IsPassed before

-- a test that fails where this holds
abbrev pub fails : Bool → ℕ → Trial
fails true code = Some code
fails false code = None

-- the tests of the value at the front of bytes, and what stands behind it
abbrev pub Walk : Type 0
Walk = List ℕ → List Trial × List ℕ

-- no byte is there
abbrev pub is_none : List ℕ → Bool
is_none [] = true
is_none (b ∷ bytes) = false

-- the first byte is neither 0 nor 1
abbrev pub no_bit : List ℕ → Bool
no_bit [] = false
no_bit (b ∷ bytes) = not (b == 0) && not (b == 1)

abbrev pub truth_walk : Walk
truth_walk bytes = (fails (is_none bytes) invalid_tlv ∷ fails (no_bit bytes) out_of_range ∷ [], drop 1 bytes)

-- a number is outside of the range
abbrev pub is_outside : ℤ → ℤ → ℤ → Bool
is_outside min max z = int_lt z min || int_lt max z

abbrev pub number_walk : ℕ → Bool → ℤ → ℤ → Walk
number_walk width signed min max bytes = (
  fails (not (is_width width)) out_of_range ∷ fails (nat_lt (length bytes) width) invalid_tlv
      ∷ fails (is_outside min max (number_of signed (take width bytes))) out_of_range ∷ [],
  drop width bytes,
)

abbrev pub fixed_walk : ℕ → Walk
fixed_walk n bytes = (fails (nat_lt (length bytes) n) invalid_tlv ∷ [], drop n bytes)

abbrev pub text_trials : ℕ → List ℕ → List Trial
text_trials limit bytes = fails (not (is_utf8 bytes)) invalid_parameters ∷ fails (nat_lt limit (length bytes)) out_of_range ∷ []

abbrev pub octets_trials : ℕ → List ℕ → List Trial
octets_trials limit bytes = fails (nat_lt limit (length bytes)) out_of_range ∷ []

-- the value of the FULLDATA at the front, what stands behind it, and how much padding that begins with
abbrev pub held_in : List ℕ → List ℕ
held_in bytes = drop 4 (take (u16_at bytes 2) bytes)

abbrev pub behind : List ℕ → List ℕ
behind bytes = drop (u16_at bytes 2) bytes

abbrev pub padding_of : List ℕ → ℕ
padding_of body = (4 - length body % 4) % 4

-- a value in a FULLDATA of its own: its header, the value, and its padding
abbrev pub held_walk : (List ℕ → List Trial) → Walk
held_walk inner bytes = (
  fails (nat_lt (length bytes) 4) invalid_tlv ∷ fails (not (u16_at bytes 0 == types.full_data) || nat_lt (u16_at bytes 2) 4) invalid_tlv
      ∷ fails (nat_lt (length bytes) (u16_at bytes 2)) invalid_tlv
      ∷ (inner (held_in bytes) ++ fails (nat_lt (length (behind bytes)) (padding_of (held_in bytes))) invalid_tlv ∷ []),
  drop (padding_of (held_in bytes)) (behind bytes),
)

-- one value after the other
abbrev pub each_walk : List Walk → Walk
each_walk [] bytes = ([], bytes)
each_walk (one ∷ more) bytes = ((one bytes).0 ++ (each_walk more (one bytes).1).0, (each_walk more (one bytes).1).1)

-- entries, each a subscript that none before it has, one not too many, and a value
abbrev pub entries_trials : Walk → ℕ → ℕ → List ℕ → List ℕ → List Trial
entries_trials one limit fuel seen [] = []
entries_trials one limit zero seen (b ∷ bytes) = Some invalid_tlv ∷ []
entries_trials one limit (suc fuel) seen (b ∷ bytes) =
    fails (nat_lt (length (b ∷ bytes)) 4) invalid_tlv
    ∷ fails (list_any (λ s. u32_at (b ∷ bytes) 0 == s) seen) invalid_tlv
    ∷ fails (nat_le limit (length seen)) out_of_range
    ∷ ((one (drop 4 (b ∷ bytes))).0 ++ entries_trials one limit fuel (u32_at (b ∷ bytes) 0 ∷ seen) (one (drop 4 (b ∷ bytes))).1)

-- the entries that were read have an equal key
abbrev pub keys_trial : List Field → List KeyDecl → Result (List (ℕ × Value)) ℕ → Trial
keys_trial fields keys (Ok es) = fails (not (keys_differ fields keys es)) invalid_parameters
keys_trial fields keys (Err code) = None

abbrev pub table_trials : Reader → Walk → List Field → ℕ → List KeyDecl → List ℕ → List Trial
table_trials read one fields limit keys bytes =
    entries_trials one limit (length bytes) [] bytes ++ keys_trial fields keys (entries_in read limit [] bytes) ∷ []

abbrev pub walk_step : Ty-F (Ty × Walk) (Field × Walk) → Walk
walk_step Ty-F.Bool = truth_walk
walk_step (Ty-F.Number width signed min max) = number_walk width signed min max
walk_step (Ty-F.String limit) = held_walk (text_trials limit)
walk_step (Ty-F.Octets limit) = held_walk (octets_trials limit)
walk_step (Ty-F.Bytes n) = fixed_walk n
walk_step (Ty-F.Struct fields) = each_walk (map (λ f. f.1) fields)
walk_step (Ty-F.Array entry limit keys) = held_walk (table_trials (inside entry.0) entry.1 (fields_of entry.0) limit keys)

abbrev pub walk_field : Field-F (Ty × Walk) (Field × Walk) → Walk
walk_field f = f.ty.1

-- a value that stands in a struct or an entry
unfoldable pub inside_walk : Ty → Walk
inside_walk = para-Ty Walk Walk walk_step walk_field

unfoldable pub inside_walk_at : Field → Walk
inside_walk_at = para-Field Walk Walk walk_step walk_field

-- a value that stands by itself
abbrev pub full_trials_layer : Ty-F Ty Field → Ty → List ℕ → List Trial
full_trials_layer (Ty-F.String limit) ty bytes = text_trials limit bytes
full_trials_layer (Ty-F.Octets limit) ty bytes = octets_trials limit bytes
full_trials_layer (Ty-F.Array entry limit keys) ty bytes = table_trials (inside entry) (inside_walk entry) (fields_of entry) limit keys bytes
full_trials_layer _ ty bytes = (inside_walk ty bytes).0 ++ fails (not (is_none (inside_walk ty bytes).1)) invalid_tlv ∷ []

unfoldable pub full_trials : Ty → List ℕ → List Trial
full_trials ty bytes = full_trials_layer (out-Ty ty) ty bytes
