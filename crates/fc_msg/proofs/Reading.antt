-- The message in bytes is the one that they spell.
use Rattle.std.proofs.Common.{◌≡◌, ◌<◌, ◌≤◌, ◌+◌, ◌*◌, ◌/◌, ◌^◌, ◌⊎◌, inl, inr, ℕ, zero, suc, true, List, [], ◌∷◌, ◌++◌, length, take, drop, slice_index, arith, refl, sym, ap, subst, ◌∙◌, Option, None, Some, Result, Ok, Err, IfOk, IfErr, length-append}
use Rattle.std.proofs.lemmas.Bool.Decides.{nat_tests}
use Rattle.std.proofs.lemmas.List.{get_or-take, length-drop, length-take, length-take-le, get_or_append_left}
use Rattle.fc_wire.specs.Bytes.{AreBytes, u16_at, u32_at, u64_at}
use Rattle.fc_wire.specs.Flags.{FlagValues, FlagsFit}
use Rattle.fc_wire.specs.Header.{HasFlags, IsHeader}
use Rattle.fc_wire.specs.Tiling.{Tiling}
use Rattle.fc_wire.specs.Tlvs.{TlvItem, tlvs}
use Rattle.fc_wire.specs.declared.header.Header.{Header}
use Rattle.fc_wire.proofs.Numbers.{two_of_front, four_of_front, eight_of_front}
use Rattle.fc_wire.proofs.Spelled.{bytes_drop, bytes_take}
use Rattle.fc_wire.proofs.Unique.{header_exists, same_flags}
use Rattle.fc_path.specs.declared.fault.PathFault.{PathFault}
use Rattle.fc_path.specs.declared.fault.PathFault.TheVariants as faults
use Rattle.fc_path.specs.Stray.{Fails}
use Rattle.fc_path.proofs.Placed.{HasPlace}
use Rattle.fc_msg.specs.Decoding.{Gives, Refuses, fault_from}
use Rattle.fc_msg.specs.declared.fault.MsgFault.{MsgFault}
use Rattle.fc_msg.specs.declared.fault.MsgFault.TheVariants.{At, Memory}
use Rattle.fc_msg.specs.declared.fault.Refusal.{Refusal}
use Rattle.fc_msg.specs.declared.message.Message.{Message}
use Rattle.fc_msg.specs.declared.message.MsgBody.{MsgBody}
use Rattle.fc_msg.specs.declared.message.MsgBody.TheVariants.{Setup, SetupResponse, Teardown, Config, ConfigResponse, Query, QueryResponse, Event, Heartbeat}
use Rattle.fc_msg.specs.Bodies.{body_at}
use Rattle.fc_msg.specs.Faults.{first_broken, first_of, header_rules, type_rules, is_type, body_in, fault_in, told_of, head_fault, fault_of}
use Rattle.fc_msg.specs.Messages.{Spells, IsProper, header_of, kind_of}
use Rattle.fc_msg.specs.Reading.{Tells, fields_in, flags_in, message_in, unless_broken}
use Rattle.fc_msg.proofs.Bodies.{body_is, body_of, body_proper, body_read, has_place}

-- the fields of a message stand in its header
pub has_flags : (word : ℕ) → HasFlags (flags_in word) word
has_flags word = record {
  acknowledgement = refl;
  priority = refl;
  mode = refl;
  atomic = (λ t. grind (arith, nat_tests, t), λ e. grind (arith, nat_tests, e));
  phase = refl;
}

abbrev message_of : ℕ → ℕ → ℕ → FlagValues → MsgBody → Message
message_of source dest corr flags body = record { source = source; dest = dest; corr = corr; flags = flags; body = body }

abbrev pub with_header : Header → MsgBody → Message
with_header h body = message_of h.source h.dest h.corr h.flags body

pub fields_are : (h : Header) (bytes : List ℕ) (body : MsgBody) → 24 ≤ length bytes → IsHeader h (take 24 bytes) → fields_in bytes body ≡ with_header h body
fields_are h bytes body many is =
    let source : u32_at bytes 4 ≡ h.source = sym (is.source ∙ four_of_front 24 bytes 4 (omega arith)) in
    let dest : u32_at bytes 8 ≡ h.dest = sym (is.dest ∙ four_of_front 24 bytes 8 (omega arith)) in
    let corr : u64_at bytes 12 ≡ h.corr = sym (is.correlator ∙ eight_of_front 24 bytes 12 (omega arith)) in
    let word : u32_at (take 24 bytes) 20 ≡ u32_at bytes 20 = four_of_front 24 bytes 20 (omega arith) in
    let flags : flags_in (u32_at bytes 20) ≡ h.flags = same_flags (flags_in (u32_at bytes 20)) h.flags (u32_at bytes 20) (has_flags (u32_at bytes 20)) (subst (HasFlags h.flags) word is.flags) in
    ap (λ n. message_of n (u32_at bytes 8) (u64_at bytes 12) (flags_in (u32_at bytes 20)) body) source
    ∙ ap (λ n. message_of h.source n (u64_at bytes 12) (flags_in (u32_at bytes 20)) body) dest
    ∙ ap (λ n. message_of h.source h.dest n (flags_in (u32_at bytes 20)) body) corr
    ∙ ap (λ f. message_of h.source h.dest h.corr f body) flags

-- bytes that spell a message break no rule of the header or the type
header_sound : (bytes : List ℕ) (words : ℕ) → 24 ≤ length bytes → slice_index bytes 0 / 16 ≡ 1 → words ≡ u16_at bytes 2 → length bytes ≡ 4 * words
    → first_broken (header_rules bytes) ≡ None
header_sound bytes words many version is size = grind (arith, nat_tests)

type_sound : (body : MsgBody) → first_broken (type_rules (kind_of body)) ≡ None
type_sound (Setup ss) = refl
type_sound (SetupResponse n) = refl
type_sound (Teardown n) = refl
type_sound (Config ss) = refl
type_sound (ConfigResponse ss) = refl
type_sound (Query ss) = refl
type_sound (QueryResponse ss) = refl
type_sound (Event ss) = refl
type_sound Heartbeat = refl

pub enough : (n : ℕ) (bytes : List ℕ) → length (take n bytes) ≡ n → n ≤ length bytes
enough n bytes e = omega (arith, length-take n bytes)

both_none : (a b : Option Refusal) → a ≡ None → b ≡ None → first_of a b ≡ None
both_none None b p q = q
both_none (Some t) b p q = cc

pub none_both : (a b : Option Refusal) → first_of a b ≡ None → (a ≡ None) × (b ≡ None)
none_both None b is = (refl, is)
none_both (Some told) b is = cc

given : (r : Option Refusal) (b : Result MsgBody PathFault) (bytes : List ℕ) (body : MsgBody) (m : Message) → r ≡ None → b ≡ Ok body → fields_in bytes body ≡ m → unless_broken r b bytes ≡ Some m
given None (Ok x) bytes body m p q e = let same : x ≡ body = cc in ap (λ y. Some (fields_in bytes y)) same ∙ ap Some e
given None (Err f) bytes body m p q e = cc
given (Some t) b bytes body m p q e = cc

pub read : (m : Message) (bytes : List ℕ) → Spells m bytes → message_in bytes ≡ Some m
unfolding message_in
read m bytes is =
    let many : 24 ≤ length bytes = enough 24 bytes is.header.size in
    let version : slice_index bytes 0 / 16 ≡ 1 = sym (ap (λ n. n / 16) (get_or-take 24 bytes 0 0 (omega arith))) ∙ is.header.version in
    let kind : slice_index bytes 1 ≡ kind_of m.body = sym (is.header.kind ∙ get_or-take 24 bytes 1 0 (omega arith)) in
    let words : is.words ≡ u16_at bytes 2 = is.header.words ∙ two_of_front 24 bytes 2 (omega arith) in
    let head : head_fault bytes ≡ None = both_none (first_broken (header_rules bytes)) (first_broken (type_rules (slice_index bytes 1))) (header_sound bytes is.words many version words is.size) (ap (λ k. first_broken (type_rules k)) kind ∙ type_sound m.body) in
    let body : body_in bytes ≡ Ok m.body = ap (λ k. body_of k (length bytes) 24 (drop 24 bytes)) kind ∙ body_read m.body (length bytes) 24 (drop 24 bytes) is.body in
    given (head_fault bytes) (body_in bytes) bytes m.body m head body (fields_are (header_of m is.words) bytes m.body many is.header)

some_same : {A : Type 0} (x y : A) → ◌≡◌ {A = Option A} (Some x) (Some y) → x ≡ y
some_same x y e = cc

pub once : (m n : Message) (bytes : List ℕ) → Spells m bytes → Spells n bytes → m ≡ n
once m n bytes a b = some_same m n (sym (read m bytes a) ∙ read n bytes b)

-- what is read: no rule of the head is broken, and the body is read
abbrev IsRead : Option Refusal → Result MsgBody PathFault → List ℕ → Message → Type 0
IsRead r b bytes m = (r ≡ None) × (body : MsgBody) × (b ≡ Ok body) × (fields_in bytes body ≡ m)

taken : (r : Option Refusal) (b : Result MsgBody PathFault) (bytes : List ℕ) (m : Message) → unless_broken r b bytes ≡ Some m → IsRead r b bytes m
taken None (Ok x) bytes m e = (refl, x, refl, some_same _ m e)
taken None (Err f) bytes m e = cc
taken (Some t) b bytes m e = cc

-- what no rule of the header refuses
pub record Headed (bytes : List ℕ) : Type 0 where
  pub many : 24 ≤ length bytes
  pub version : slice_index bytes 0 / 16 ≡ 1
  pub some : 6 ≤ u16_at bytes 2
  pub size : length bytes ≡ 4 * u16_at bytes 2

pub headed : (bytes : List ℕ) → first_broken (header_rules bytes) ≡ None → Headed bytes
headed bytes rules = record {
  many = grind (arith, nat_tests);
  version = grind (arith, nat_tests);
  some = grind (arith, nat_tests);
  size = grind (arith, nat_tests);
}

typed : (kind : ℕ) → first_broken (type_rules kind) ≡ None → is_type kind ≡ true
typed kind rules = grind (arith, nat_tests)

-- a header is that of a message of its type
header_is : (h : Header) (body : MsgBody) (bytes : List ℕ) → kind_of body ≡ h.kind → IsHeader h bytes → IsHeader (header_of (with_header h body) h.words) bytes
header_is h body bytes same is = record {
  size = is.size;
  version = is.version;
  kind = same ∙ is.kind;
  words = is.words;
  source = is.source;
  dest = is.dest;
  correlator = is.correlator;
  flags = is.flags;
}

pub whole : (bytes : List ℕ) (m : Message) → AreBytes bytes → message_in bytes ≡ Some m → Spells m bytes
unfolding message_in
whole bytes m fine e =
    let parts = taken (head_fault bytes) (body_in bytes) bytes m e in
    let rules = none_both (first_broken (header_rules bytes)) (first_broken (type_rules (slice_index bytes 1))) parts.0 in
    let head = headed bytes rules.0 in
    let front = take 24 bytes in
    let found = header_exists front (length-take-le 24 bytes head.many) (ap (λ n. n / 16) (get_or-take 24 bytes 0 0 (omega arith)) ∙ head.version) in
    let h = found.0 in
    let kind : h.kind ≡ slice_index bytes 1 = found.1.kind ∙ get_or-take 24 bytes 1 0 (omega arith) in
    let words : h.words ≡ u16_at bytes 2 = found.1.words ∙ two_of_front 24 bytes 2 (omega arith) in
    let size = head.size in
    let some = head.some in
    let body = parts.1 in
    let is = body_is (slice_index bytes 1) (length bytes) 24 (drop 24 bytes) body (bytes_drop 24 bytes fine) (omega (arith, length-drop 24 bytes)) (typed (slice_index bytes 1) rules.1) parts.2 in
    let same : with_header h body ≡ m = sym (fields_are h bytes body head.many found.1) ∙ parts.3 in
    subst (λ n. Spells n bytes) same (record {
      words = h.words;
      header = header_is h body front (is.0 ∙ sym kind) found.1;
      size = size ∙ ap (λ w. 4 * w) (sym words);
      body = is.1;
    })

-- the fault
pub accepted : (bytes : List ℕ) (m : Message) → message_in bytes ≡ Some m → fault_of bytes ≡ None
unfolding message_in fault_of
accepted bytes m e =
    let parts = taken (head_fault bytes) (body_in bytes) bytes m e in
    both_none (head_fault bytes) (fault_in (body_in bytes)) parts.0 (ap fault_in parts.2)

refused_by : (r : Option Refusal) (b : Result MsgBody PathFault) (bytes : List ℕ) (told : Refusal) → first_of r (fault_in b) ≡ Some told → unless_broken r b bytes ≡ None
refused_by (Some t) b bytes told e = refl
refused_by None (Ok x) bytes told e = cc
refused_by None (Err f) bytes told e = refl

pub refused : (bytes : List ℕ) (told : Refusal) → fault_of bytes ≡ Some told → message_in bytes ≡ None
unfolding message_in fault_of
refused bytes told e = refused_by (head_fault bytes) (body_in bytes) bytes told e

second : (r : Option Refusal) (b : Result MsgBody PathFault) (f : PathFault) (told : Refusal) → r ≡ None → b ≡ Err f → told_of f ≡ Some told → first_of r (fault_in b) ≡ Some told
second None (Err g) f told p q e = let same : g ≡ f = cc in ap told_of same ∙ e
second None (Ok x) f told p q e = cc
second (Some t) b f told p q e = cc

first : (r : Option Refusal) (b : Option Refusal) (told : Refusal) → r ≡ Some told → first_of r b ≡ Some told
first (Some t) b told e = e
first None b told e = cc

-- the fault that decoding tells
pub head_refuses : (bytes : List ℕ) (told : Refusal) → head_fault bytes ≡ Some told → fault_of bytes ≡ Some told
unfolding fault_of
head_refuses bytes told e = first (head_fault bytes) (fault_in (body_in bytes)) told e

fails_in : (f : PathFault) (r : Option Refusal) (b : Result MsgBody PathFault) → r ≡ None → Fails f b → Refuses (first_of r (fault_in b)) (fault_from f)
fails_in (faults.Wire fault) r b p e = second r b _ _ p e refl
fails_in (faults.UnknownTlv place) r b p e = second r b _ _ p e refl
fails_in (faults.CountPast place) r b p e = second r b _ _ p e refl
fails_in (faults.KeyFlag place) r b p e = second r b _ _ p e refl
fails_in (faults.TwoBodies place) r b p e = second r b _ _ p e refl
fails_in (faults.Deep place) r b p e = second r b _ _ p e refl
fails_in (faults.WrongBody place) r b p e = second r b _ _ p e refl
fails_in (faults.Trailing place) r b p e = second r b _ _ p e refl
fails_in faults.Memory r b p e = tt

pub is_body_in : (bytes tail : List ℕ) (kind end : ℕ) (t : Tiling TlvItem) → kind ≡ slice_index bytes 1 → tail ≡ drop 24 bytes → end ≡ length bytes → t ≡ tlvs 24 tail → body_at kind end t.items t.fault ≡ body_in bytes
is_body_in bytes tail kind end t k d e i =
    ap (λ (t : Tiling TlvItem). body_at kind end t.items t.fault) i ∙ ap (λ n. body_of n end 24 tail) k ∙ ap (λ n. body_of (slice_index bytes 1) n 24 tail) e ∙ ap (body_of (slice_index bytes 1) (length bytes) 24) d

pub body_refuses : (bytes tail : List ℕ) (kind end : ℕ) (t : Tiling TlvItem) (f : PathFault) → kind ≡ slice_index bytes 1 → tail ≡ drop 24 bytes → end ≡ length bytes → t ≡ tlvs 24 tail → head_fault bytes ≡ None
    → Fails f (body_at kind end t.items t.fault) → Refuses (fault_of bytes) (fault_from f)
unfolding fault_of
body_refuses bytes tail kind end t f k d e i head h = fails_in f (head_fault bytes) (body_in bytes) head (subst (Fails f) (is_body_in bytes tail kind end t k d e i) h)

-- the message that decoding gives
pub body_gives : (bytes tail : List ℕ) (kind end : ℕ) (t : Tiling TlvItem) (h : Header) (body : MsgBody) → kind ≡ slice_index bytes 1 → tail ≡ drop 24 bytes → end ≡ length bytes → t ≡ tlvs 24 tail → head_fault bytes ≡ None
    → length bytes ≡ 4 * h.words → 6 ≤ h.words → IsHeader h (take 24 bytes) → body_at kind end t.items t.fault ≡ Ok body → message_in bytes ≡ Some (with_header h body)
unfolding message_in
body_gives bytes tail kind end t h body k d e i head size some is read =
    given (head_fault bytes) (body_in bytes) bytes body (with_header h body) head (sym (is_body_in bytes tail kind end t k d e i) ∙ read) (fields_are h bytes body (omega arith) is)

abbrev Judged : List ℕ → Type 0
Judged bytes = ((m : Message) × Spells m bytes) ⊎ ((told : Refusal) × (fault_of bytes ≡ Some told))

pub told_some : (f : PathFault) → HasPlace f → (told : Refusal) × (told_of f ≡ Some told)
told_some (faults.Wire fault) h = (_, refl)
told_some (faults.UnknownTlv place) h = (_, refl)
told_some (faults.CountPast place) h = (_, refl)
told_some (faults.KeyFlag place) h = (_, refl)
told_some (faults.TwoBodies place) h = (_, refl)
told_some (faults.Deep place) h = (_, refl)
told_some (faults.WrongBody place) h = (_, refl)
told_some (faults.Trailing place) h = (_, refl)
told_some faults.Memory h = absurd h

judged_by : (bytes : List ℕ) (r : Option Refusal) (b : Result MsgBody PathFault) → AreBytes bytes → head_fault bytes ≡ r → body_in bytes ≡ b → Judged bytes
unfolding message_in fault_of
judged_by bytes (Some told) b fine p q = inr (told, first (head_fault bytes) (fault_in (body_in bytes)) told p)
judged_by bytes None (Ok body) fine p q = inl (fields_in bytes body, whole bytes (fields_in bytes body) fine (given (head_fault bytes) (body_in bytes) bytes body (fields_in bytes body) p q refl))
judged_by bytes None (Err f) fine p q =
    let told = told_some f (has_place (slice_index bytes 1) (length bytes) _ _ f q) in
    inr (told.0, second (head_fault bytes) (body_in bytes) f told.0 p q told.1)

pub judged : (bytes : List ℕ) → AreBytes bytes → ((m : Message) × Spells m bytes) ⊎ ((told : Refusal) × (fault_of bytes ≡ Some told))
judged bytes fine = judged_by bytes (head_fault bytes) (body_in bytes) fine refl refl

pub never_both : (bytes : List ℕ) (m : Message) (told : Refusal) → Spells m bytes → fault_of bytes ≡ Some told → ⊥
never_both bytes m told is e = let none = sym (refused bytes told e) ∙ read m bytes is in cc

-- a message that is spelled is proper
pub byte_small : (bytes : List ℕ) (i : ℕ) → AreBytes bytes → slice_index bytes i < 256
byte_small [] i fine = omega arith
byte_small (b ∷ bytes) zero fine = fine.0
byte_small (b ∷ bytes) (suc i) fine = byte_small bytes i fine.1

u32_small : (bytes : List ℕ) (i : ℕ) → AreBytes bytes → u32_at bytes i < 2 ^ 32
u32_small bytes i fine = omega (arith, byte_small bytes i fine, byte_small bytes (i + 1) fine, byte_small bytes (i + 2) fine, byte_small bytes (i + 3) fine)

u64_small : (bytes : List ℕ) (i : ℕ) → AreBytes bytes → u64_at bytes i < 2 ^ 64
u64_small bytes i fine =
    omega (arith, byte_small bytes i fine, byte_small bytes (i + 1) fine, byte_small bytes (i + 2) fine, byte_small bytes (i + 3) fine, byte_small bytes (i + 4) fine, byte_small bytes (i + 5) fine, byte_small bytes (i + 6) fine, byte_small bytes (i + 7) fine)

pub flags_fit : (f : FlagValues) (word : ℕ) → word < 2 ^ 32 → HasFlags f word → FlagsFit f
flags_fit f word small is = (omega (arith, is.acknowledgement), omega (arith, is.priority), omega (arith, is.mode), omega (arith, is.phase))

pub proper : (m : Message) (bytes : List ℕ) → AreBytes bytes → Spells m bytes → IsProper m
proper m bytes fine is =
    let front = bytes_take 24 bytes fine in record {
      source = subst (λ n. n < 2 ^ 32) (sym is.header.source) (u32_small (take 24 bytes) 4 front);
      dest = subst (λ n. n < 2 ^ 32) (sym is.header.dest) (u32_small (take 24 bytes) 8 front);
      correlator = subst (λ n. n < 2 ^ 64) (sym is.header.correlator) (u64_small (take 24 bytes) 12 front);
      flags = flags_fit m.flags (u32_at (take 24 bytes) 20) (u32_small (take 24 bytes) 20 front) is.header.flags;
      body = body_proper m.body (drop 24 bytes) (bytes_drop 24 bytes fine) is.body;
    }

-- no spelling is a front of another
none_of : (xs : List ℕ) → length xs ≡ 0 → xs ≡ []
none_of [] e = refl
none_of (x ∷ xs) e = absurd (omega arith)

words_in : (m : Message) (bytes : List ℕ) → Spells m bytes → length bytes ≡ 4 * u16_at bytes 2
words_in m bytes is = is.size ∙ ap (λ n. 4 * n) (is.header.words ∙ two_of_front 24 bytes 2 (omega arith))

pub no_front : (m n : Message) (bytes more : List ℕ) → Spells m bytes → Spells n (bytes ++ more) → more ≡ []
no_front m n bytes more a b =
    let many : 24 ≤ length bytes = enough 24 bytes a.header.size in
    let same : u16_at (bytes ++ more) 2 ≡ u16_at bytes 2 = omega (arith, get_or_append_left bytes more 0 2 (omega arith), get_or_append_left bytes more 0 3 (omega arith)) in
    none_of more (omega (arith, words_in m bytes a, words_in n (bytes ++ more) b, length-append bytes more))

-- what decoding answers
pub gives_spelled : (bytes : List ℕ) (r : Result Message MsgFault) → AreBytes bytes → IfOk r (λ m. message_in bytes ≡ Some m) → IfOk r (λ m. Spells m bytes)
gives_spelled bytes (Ok m) fine h = whole bytes m fine h
gives_spelled bytes (Err e) fine h = tt

pub gives_proper : (bytes : List ℕ) (r : Result Message MsgFault) → AreBytes bytes → IfOk r (λ m. message_in bytes ≡ Some m) → IfOk r (λ m. IsProper m)
gives_proper bytes (Ok m) fine h = proper m bytes fine (whole bytes m fine h)
gives_proper bytes (Err e) fine h = tt

pub gives_only : (bytes : List ℕ) (r : Result Message MsgFault) → IfOk r (λ m. message_in bytes ≡ Some m) → IfErr r (λ fault. Refuses (fault_of bytes) fault)
    → (m : Message) → Spells m bytes → Gives r (Ok m)
gives_only bytes (Ok n) h k m is = ap Ok (some_same m n (sym (read m bytes is) ∙ h))
gives_only bytes (Err (At told)) h k m is = absurd (never_both bytes m told is k)
gives_only bytes (Err Memory) h k m is = tt

pub gives_exact : (bytes : List ℕ) (r : Result Message MsgFault) → IfOk r (λ m. message_in bytes ≡ Some m) → IfErr r (λ fault. Refuses (fault_of bytes) fault) → Tells (message_in bytes) r
gives_exact bytes (Ok m) h k = h
gives_exact bytes (Err (At told)) h k = refused bytes told k
gives_exact bytes (Err Memory) h k = tt

pub gives_accepted : (bytes : List ℕ) (r : Result Message MsgFault) → IfOk r (λ m. message_in bytes ≡ Some m) → IfOk r (λ _. fault_of bytes ≡ None)
gives_accepted bytes (Ok m) h = accepted bytes m h
gives_accepted bytes (Err e) h = tt
