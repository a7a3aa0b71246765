-- Bytes have exactly one header.
use Rattle.std.proofs.Common.{◌≡◌, ℕ, ◌/◌, ◌%◌, ◌^◌, ◌==◌, List, length, slice_index, Bool, true, false, IsTrue, ◌↔◌, arith, refl, sym, ◌∙◌}
use Rattle.std.proofs.lemmas.Bool.Decides.{nat_tests}
use Rattle.fc_wire.specs.Bytes.{u16_at, u32_at, u64_at}
use Rattle.fc_wire.specs.Flags.{FlagValues}
use Rattle.fc_wire.specs.declared.header.Header.{Header}
use Rattle.fc_wire.specs.Header.{IsHeader, HasFlags}

same_bool : (a b : Bool) (P : Type 0) → (IsTrue a ↔ P) → (IsTrue b ↔ P) → a ≡ b
same_bool true true P f g = refl
same_bool false false P f g = refl
same_bool true false P f g = sym (g.1 (f.0 refl))
same_bool false true P f g = f.1 (g.0 refl)

abbrev flags_of : ℕ → ℕ → ℕ → Bool → ℕ → FlagValues
flags_of ack pri em at tp = record { ack = ack; pri = pri; em = em; at = at; tp = tp }

abbrev header_of : ℕ → ℕ → ℕ → ℕ → ℕ → FlagValues → Header
header_of kind words source dest corr flags =
    record { kind = kind; words = words; source = source; dest = dest; corr = corr; flags = flags }

pub same_flags : (f k : FlagValues) (word : ℕ) → HasFlags f word → HasFlags k word → f ≡ k
same_flags f k word a b =
    let at = same_bool f.at k.at _ a.atomic b.atomic in
    let ack = a.acknowledgement ∙ sym b.acknowledgement in
    let priority = a.priority ∙ sym b.priority in
    let mode = a.mode ∙ sym b.mode in
    let phase = a.phase ∙ sym b.phase in
    let same : flags_of f.ack f.pri f.em f.at f.tp ≡ flags_of k.ack k.pri k.em k.at k.tp = rw (ack, priority, mode, at, phase) refl in
    same

pub same_header : (h k : Header) (bytes : List ℕ) → IsHeader h bytes → IsHeader k bytes → h ≡ k
same_header h k bytes a b =
    let kind = a.kind ∙ sym b.kind in
    let words = a.words ∙ sym b.words in
    let source = a.source ∙ sym b.source in
    let dest = a.dest ∙ sym b.dest in
    let corr = a.correlator ∙ sym b.correlator in
    let flags = same_flags h.flags k.flags _ a.flags b.flags in
    let same : header_of h.kind h.words h.source h.dest h.corr h.flags ≡ header_of k.kind k.words k.source k.dest k.corr k.flags =
    rw (kind, words, source, dest, corr, flags) refl in
    same

-- the flags of a word
flags_exist : (word : ℕ) → (flags : FlagValues) × HasFlags flags word
flags_exist word = (
  flags_of (word / 2 ^ 30) (word / 2 ^ 27 % 8) (word / 2 ^ 22 % 4) (word / 2 ^ 21 % 2 == 1) (word / 2 ^ 19 % 4),
  record {
    acknowledgement = refl;
    priority = refl;
    mode = refl;
    atomic = (λ t. grind (arith, nat_tests, t), λ e. grind (arith, nat_tests, e));
    phase = refl;
  },
)

pub header_exists : (bytes : List ℕ) → length bytes ≡ 24 → slice_index bytes 0 / 16 ≡ 1 → (h : Header) × IsHeader h bytes
header_exists bytes size version =
    let flags = flags_exist (u32_at bytes 20) in (
      header_of (slice_index bytes 1) (u16_at bytes 2) (u32_at bytes 4) (u32_at bytes 8) (u64_at bytes 12) flags.0,
      record {
        size = size;
        version = version;
        kind = refl;
        words = refl;
        source = refl;
        dest = refl;
        correlator = refl;
        flags = flags.1;
      },
    )
