-- A body with a number is read as it is spelled.
use Rattle.std.proofs.Common.{◌≡◌, ◌<◌, ◌^◌, ◌==◌, ℕ, Bool, true, false, cond, List, [], ◌∷◌, length, Ok, Err, Option, refl, sym, ap, ◌∙◌, arith, eqb-true}
use Rattle.fc_wire.specs.Bytes.{AreBytes, u32_at}
use Rattle.fc_wire.specs.Tlvs.{TlvItem, tlvs}
use Rattle.fc_wire.specs.declared.header.WireFault.{WireFault}
use Rattle.fc_path.specs.Reading.{single}
use Rattle.fc_base.specs.Answers.{◌>>=◌}
use Rattle.fc_path.specs.declared.fault.PathFault.TheVariants as faults
use Rattle.fc_path.proofs.Complete.{alone, by_tiling, item}
use Rattle.fc_path.proofs.Sound.{Tiles, bind_ok, bytes_padded, bytes_split, ok_same, single_spelled, then_ok}
use Rattle.fc_msg.specs.Bodies.{number_at}
use Rattle.fc_msg.specs.Messages.{IsNumber}
use Rattle.fc_msg.specs.declared.message.MsgBody.{MsgBody}

same_yes : (n m : ℕ) → n ≡ m → (n == m) ≡ true
same_yes n m e = grind arith

taken : {A : Type 0} (b : Bool) (x y : A) → b ≡ true → cond b x y ≡ x
taken true x y e = refl
taken false x y e = cc

number_read : (kind n place : ℕ) (bytes : List ℕ) (is : IsNumber kind n bytes) → number_at (item kind place is.value is.padded) ≡ Ok n
number_read kind n place bytes is =
    taken (length is.value == 4) (Ok (u32_at is.value 0)) (Err (faults.WrongBody place)) (same_yes (length is.value) 4 is.four) ∙ ap Ok (sym is.same)

pub only_number : (kind n end place : ℕ) (bytes : List ℕ) → IsNumber kind n bytes → single kind number_at end (tlvs place bytes).items (tlvs place bytes).fault ≡ Ok n
only_number kind n end place bytes is =
    by_tiling (single kind number_at end) (tlvs place bytes) _ (Ok n) (alone kind place is.value is.padded bytes is.tlv)
    (taken (kind == kind) _ _ (same_yes kind kind refl) ∙ ap (λ q. q >>= λ x. Ok x) (number_read kind n place bytes is))

pub number_is : (kind end place : ℕ) (make : ℕ → MsgBody) (ts : List TlvItem) (fault : Option WireFault) (bytes : List ℕ) (body : MsgBody) → Tiles place ts fault bytes
    → (single kind number_at end ts fault >>= λ n. Ok (make n)) ≡ Ok body → (n : ℕ) × (make n ≡ body) × IsNumber kind n bytes
number_is kind end place make ts fault bytes body are e =
    let found : (n : ℕ) × (single kind number_at end ts fault ≡ Ok n) × (Ok (make n) ≡ Ok body) = bind_ok (single kind number_at end ts fault) (λ n. Ok (make n)) body e in
    let one = single_spelled kind number_at end ts fault place bytes found.0 are found.1 in
    let four : ((length one.0.body == 4) ≡ true) × (Ok (u32_at one.0.body 0) ≡ Ok found.0) = then_ok _ _ _ found.0 one.2 in
    (found.0, ok_same (make found.0) body found.2, record { value = one.0.body; padded = one.0.padded; tlv = one.1; four = eqb-true _ _ four.0; same = sym (ok_same _ found.0 four.1) })

-- four bytes are a number of four bytes
four_small : (value : List ℕ) → AreBytes value → length value ≡ 4 → u32_at value 0 < 2 ^ 32
four_small [] fine e = absurd (omega arith)
four_small (a ∷ []) fine e = absurd (omega arith)
four_small (a ∷ b ∷ []) fine e = absurd (omega arith)
four_small (a ∷ b ∷ c ∷ []) fine e = absurd (omega arith)
four_small (a ∷ b ∷ c ∷ d ∷ w) (fa, (fb, (fc, (fd, more)))) e = omega arith

pub number_small : (kind n : ℕ) (bytes : List ℕ) → AreBytes bytes → IsNumber kind n bytes → n < 2 ^ 32
number_small kind n bytes fine is =
    let padded = bytes_padded kind is.value is.padded bytes is.tlv fine in
    let value = bytes_split is.padded is.value is.tlv.padding is.tlv.value padded in
    omega (arith, is.same, four_small is.value value.0 is.four)
