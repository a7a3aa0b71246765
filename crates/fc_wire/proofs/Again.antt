-- What is put is read again.
use Rattle.std.proofs.Common.{◌≡◌, ◌<◌, ◌≤◌, ◌^◌, ◌*◌, ◌/◌, ◌%◌, ◌↔◌, if◌then◌else◌, IsTrue, lit≤, ℕ, refl, sym, subst, ◌∙◌, arith, Bool, true, false}
use Rattle.std.specs.Int.{to_be_bytes, w32}
use Rattle.fc_wire.specs.Bytes.{u32_at}
use Rattle.fc_wire.specs.Flags.{FlagValues, FlagsFit}
use Rattle.fc_wire.specs.declared.header.Header.{Header}
use Rattle.fc_wire.specs.Header.{IsHeader, HasFlags, InRange, header_bytes, word_of}

word_again : (n : ℕ) → n < 2 ^ 32 → u32_at (to_be_bytes w32 n) 0 ≡ n
word_again n small = omega arith

-- the one bit as a number
bit_of : (b : Bool) → (up : ℕ) × (up ≤ 1) × ((if b then 2 ^ 21 else 0) ≡ 2 ^ 21 * up) × (IsTrue b ↔ (up ≡ 1))
bit_of true = (1, lit≤ tt, refl, (λ _. refl, λ _. refl))
bit_of false = (0, lit≤ tt, refl, (λ t. cc, λ e. cc))

flags_again : (flags : FlagValues) → FlagsFit flags → HasFlags flags (word_of flags)
flags_again flags (a, p, e, t) =
    let (up, le, is, tells) = bit_of flags.at in
    let bit : word_of flags / 2 ^ 21 % 2 ≡ up = omega arith in
    record {
      acknowledgement = omega arith;
      priority = omega arith;
      mode = omega arith;
      atomic = (λ t. bit ∙ tells.0 t, λ e. tells.1 (sym bit ∙ e));
      phase = omega arith;
    }

word_small : (flags : FlagValues) → FlagsFit flags → word_of flags < 2 ^ 32
word_small flags (a, p, e, t) =
    let (up, le, is, tells) = bit_of flags.at in
    omega arith

pub again : (h : Header) → InRange h → IsHeader h (header_bytes h)
again h small = record {
  size = refl;
  version = refl;
  kind = refl;
  words = let lt = small.words in omega arith;
  source = let lt = small.source in omega arith;
  dest = let lt = small.dest in omega arith;
  correlator = let lt = small.correlator in omega arith;
  flags = subst (HasFlags h.flags) (sym (word_again (word_of h.flags) (word_small h.flags small.flags))) (flags_again h.flags small.flags);
}
