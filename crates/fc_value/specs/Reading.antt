-- What the full form of a value is read as: the value, or the code of the first failure from left to right (RFC 5810, section
-- 7.1, on FULLDATA; the codes and their order are this profile's own).
use Rattle.std.specs.Prelude.{ℕ, ℤ, zero, suc, ◌-◌, ◌%◌, ◌==◌, nat_lt, nat_le, int_lt, Bool, true, false, not, ◌||◌, List, [], ◌∷◌, length, take, drop, map, is_some, Result, Ok, Err, if◌then◌else◌}
use Rattle.std.specs.Str.{is_utf8}
use Rattle.std.specs.Ordering.{nat_cmp}
use Rattle.std.specs.BTreeMap.{insert_entry, is_at}
use Rattle.std.specs.Map.{lookup}
use Rattle.fc_types.specs.Types.{fields_of}
use Rattle.fc_types.specs.declared.ty.KeyDecl.{KeyDecl}
use Rattle.fc_types.specs.declared.ty.Field.{Field}
use Rattle.fc_types.specs.declared.ty.Ty.{Ty}
use Rattle.fc_types.specs.declared.ty.Ty.TheOpen.{Ty-F, Field-F}
use Rattle.fc_types.specs.declared.ty.Ty.TheViews.{out-Ty}
use Rattle.fc_types.specs.declared.ty.Ty.TheFolds.{para-Ty, para-Field}
use Rattle.fc_wire.specs.Bytes.{u16_at, u32_at}
use Rattle.fc_wire.specs.Types as types
use Rattle.fc_base.specs.Answers.{◌>>=◌}
use Rattle.fc_value.specs.Outcomes.{invalid_tlv, invalid_parameters, out_of_range}
use Rattle.fc_value.specs.Numbers.{is_width, number_of}
use Rattle.fc_value.specs.Keys.{keys_differ}
use Rattle.fc_value.specs.declared.value.Value.{Value}
use Rattle.fc_value.specs.declared.value.Value.TheVariants as value

-- what bytes are read as: the value at their front, and what stands behind it
abbrev pub Reader : Type 0
Reader = List ℕ → Result (Value × List ℕ) ℕ

-- so many bytes, and what stands behind them
abbrev pub taken : ℕ → List ℕ → Result (List ℕ × List ℕ) ℕ
taken n bytes = if nat_lt (length bytes) n then Err invalid_tlv else Ok (take n bytes, drop n bytes)

abbrev pub truth_in : Reader
truth_in [] = Err invalid_tlv
truth_in (b ∷ bytes) =
    if b == 0 then Ok (value.Truth false, bytes)
    else (if b == 1 then Ok (value.Truth true, bytes) else Err out_of_range)

-- a number of the range
abbrev pub ranged : ℤ → ℤ → ℤ → List ℕ → Result (Value × List ℕ) ℕ
ranged min max z rest = if int_lt z min || int_lt max z then Err out_of_range else Ok (value.Number z, rest)

abbrev pub number_in : ℕ → Bool → ℤ → ℤ → Reader
number_in width signed min max bytes =
    if is_width width then taken width bytes >>= (λ x. ranged min max (number_of signed x.0) x.1) else Err out_of_range

abbrev pub fixed_in : ℕ → Reader
fixed_in n bytes = taken n bytes >>= λ x. Ok (value.Raw x.0, x.1)

abbrev pub text_of : ℕ → List ℕ → Result Value ℕ
text_of limit bytes =
    if is_utf8 bytes then (if nat_lt limit (length bytes) then Err out_of_range else Ok (value.Text bytes))
    else Err invalid_parameters

abbrev pub octets_of : ℕ → List ℕ → Result Value ℕ
octets_of limit bytes = if nat_lt limit (length bytes) then Err out_of_range else Ok (value.Raw bytes)

-- the value of the FULLDATA at the front, and what stands behind it, which begins with its padding
unfoldable pub cut : List ℕ → Result (List ℕ × List ℕ) ℕ
cut bytes =
    if nat_lt (length bytes) 4 then Err invalid_tlv
    else (if not (u16_at bytes 0 == types.full_data) || nat_lt (u16_at bytes 2) 4 then Err invalid_tlv
    else (if nat_lt (length bytes) (u16_at bytes 2) then Err invalid_tlv
    else Ok (drop 4 (take (u16_at bytes 2) bytes), drop (u16_at bytes 2) bytes)))

-- what stands behind the padding of a value of a length
abbrev pub unpadded : ℕ → List ℕ → Result (List ℕ) ℕ
unpadded n bytes = taken ((4 - n % 4) % 4) bytes >>= λ x. Ok x.1

-- a value of a length, with what stands behind its padding
abbrev pub closed : Value → ℕ → Reader
closed v n bytes = unpadded n bytes >>= λ rest. Ok (v, rest)

-- a value in a FULLDATA of its own
abbrev pub held : (List ℕ → Result Value ℕ) → Reader
held one bytes = cut bytes >>= λ x. one x.0 >>= λ v. closed v (length x.0) x.1

-- one value after the other
abbrev pub each_in : List Reader → List ℕ → Result (List Value × List ℕ) ℕ
each_in [] bytes = Ok ([], bytes)
each_in (one ∷ more) bytes = one bytes >>= λ x. each_in more x.1 >>= λ y. Ok (x.0 ∷ y.0, y.1)

abbrev pub group_in : List Reader → Reader
group_in readers bytes = each_in readers bytes >>= λ x. Ok (value.Group x.0, x.1)

-- one of the entries has the subscript
abbrev pub has_subscript : List (ℕ × Value) → ℕ → Bool
has_subscript es subscript = is_some (lookup (is_at (nat_cmp subscript)) es)

-- the subscript at the front, which no entry may have and which may not be one too many, and what stands behind it
abbrev pub subscript_in : ℕ → List (ℕ × Value) → List ℕ → Result (ℕ × List ℕ) ℕ
subscript_in limit es bytes =
    if nat_lt (length bytes) 4 then Err invalid_tlv
    else (if has_subscript es (u32_at bytes 0) then Err invalid_tlv
    else (if nat_le limit (length es) then Err out_of_range
    else Ok (u32_at bytes 0, drop 4 bytes)))

-- the entries, by rising subscript, with the one at the front of the bytes, and what stands behind it
unfoldable pub entry_in : Reader → ℕ → List (ℕ × Value) → List ℕ → Result (List (ℕ × Value) × List ℕ) ℕ
entry_in one limit es bytes = subscript_in limit es bytes >>= λ s. one s.1 >>= λ x. Ok (insert_entry nat_cmp es s.0 x.0, x.1)

abbrev pub entries_by : Reader → ℕ → ℕ → List (ℕ × Value) → List ℕ → Result (List (ℕ × Value)) ℕ
entries_by one limit fuel es [] = Ok es
entries_by one limit zero es (b ∷ bytes) = Err invalid_tlv
entries_by one limit (suc fuel) es (b ∷ bytes) = entry_in one limit es (b ∷ bytes) >>= λ x. entries_by one limit fuel x.0 x.1

-- the entries, by rising subscript, with those that the bytes are
unfoldable pub entries_in : Reader → ℕ → List (ℕ × Value) → List ℕ → Result (List (ℕ × Value)) ℕ
entries_in one limit es bytes = entries_by one limit (length bytes) es bytes

-- an array whose entries the bytes are, and no two of whose entries have an equal key
abbrev pub table_of : Reader → List Field → ℕ → List KeyDecl → List ℕ → Result Value ℕ
table_of one fields limit keys bytes =
    entries_in one limit [] bytes >>= λ es. if keys_differ fields keys es then Ok (value.Table es) else Err invalid_parameters

abbrev pub inside_step : Ty-F (Ty × Reader) (Field × Reader) → Reader
inside_step Ty-F.Bool = truth_in
inside_step (Ty-F.Number width signed min max) = number_in width signed min max
inside_step (Ty-F.String limit) = held (text_of limit)
inside_step (Ty-F.Octets limit) = held (octets_of limit)
inside_step (Ty-F.Bytes n) = fixed_in n
inside_step (Ty-F.Struct fields) = group_in (map (λ f. f.1) fields)
inside_step (Ty-F.Array entry limit keys) = held (table_of entry.1 (fields_of entry.0) limit keys)

abbrev pub field_step : Field-F (Ty × Reader) (Field × Reader) → Reader
field_step f = f.ty.1

-- a value that stands in a struct or an entry
unfoldable pub inside : Ty → Reader
inside = para-Ty Reader Reader inside_step field_step

unfoldable pub inside_at : Field → Reader
inside_at = para-Field Reader Reader inside_step field_step

-- nothing is left over
abbrev pub alone : Value × List ℕ → Result Value ℕ
alone (v, []) = Ok v
alone (v, b ∷ rest) = Err invalid_tlv

abbrev pub full_layer : Ty-F Ty Field → Ty → List ℕ → Result Value ℕ
full_layer (Ty-F.String limit) ty bytes = text_of limit bytes
full_layer (Ty-F.Octets limit) ty bytes = octets_of limit bytes
full_layer (Ty-F.Array entry limit keys) ty bytes = table_of (inside entry) (fields_of entry) limit keys bytes
full_layer _ ty bytes = inside ty bytes >>= alone

-- a value that stands by itself
unfoldable pub full_in : Ty → List ℕ → Result Value ℕ
full_in ty bytes = full_layer (out-Ty ty) ty bytes
