-- One entry, test by test.
use Rattle.std.proofs.Common.{◌≡◌, refl, ℕ, Bool, true, false, List, length, drop, nat_lt, nat_le, nat_cmp, Result, Ok, Err, if◌then◌else◌}
use Rattle.std.specs.BTreeMap.{insert_entry}
use Rattle.fc_wire.specs.Bytes.{u32_at}
use Rattle.fc_base.specs.Answers.{◌>>=◌}
use Rattle.fc_value.specs.Outcomes.{invalid_tlv, out_of_range}
use Rattle.fc_value.specs.Reading.{Reader, entry_in, has_subscript}
use Rattle.fc_value.specs.declared.value.Value.{Value}

through : {A B : Type 0} (a b c : Bool) (x y : ℕ) (s : A) (f : A → Result B ℕ)
    → ((if a then Err x else (if b then Err x else (if c then Err y else Ok s))) >>= f) ≡ (if a then Err x else (if b then Err x else (if c then Err y else f s)))
through true b c x y s f = refl
through false true c x y s f = refl
through false false true x y s f = refl
through false false false x y s f = refl

abbrev pub entry_by_tests : Reader → ℕ → List (ℕ × Value) → List ℕ → Result (List (ℕ × Value) × List ℕ) ℕ
entry_by_tests one limit es bytes =
    if nat_lt (length bytes) 4 then Err invalid_tlv
    else (if has_subscript es (u32_at bytes 0) then Err invalid_tlv
    else (if nat_le limit (length es) then Err out_of_range
    else one (drop 4 bytes) >>= (λ x. Ok (insert_entry nat_cmp es (u32_at bytes 0) x.0, x.1))))

pub entry_is : (one : Reader) (limit : ℕ) (es : List (ℕ × Value)) (bytes : List ℕ) → entry_in one limit es bytes ≡ entry_by_tests one limit es bytes
unfolding entry_in
entry_is one limit es bytes =
    through (nat_lt (length bytes) 4) (has_subscript es (u32_at bytes 0)) (nat_le limit (length es)) invalid_tlv out_of_range (u32_at bytes 0, drop 4 bytes)
    (λ s. one s.1 >>= λ x. Ok (insert_entry nat_cmp es s.0 x.0, x.1))
