-- Laws of selects and their spellings.
use Rattle.std.proofs.Common.{◌≡◌, ℕ, ◌+◌, ◌-◌, ◌<◌, List, [], ◌++◌, length, Result, Ok, Err, refl, sym, ap, ◌∙◌, arith, length-append, ◌⊎◌, inl, inr}
use Rattle.fc_wire.specs.Bytes.{AreBytes}
use Rattle.fc_wire.specs.Tiling.{in_front}
use Rattle.fc_wire.specs.Tlvs.{TlvItem, IsTlv, Lent, tlvs, one_tlv}
use Rattle.fc_wire.proofs.Stepping.{one_tlv_falls, tiles_step}
use Rattle.fc_wire.proofs.Spelled.{tlv_read}
use Rattle.fc_path.specs.Grammar.{IsSelect, IsSelectOf}
use Rattle.fc_path.specs.Reading.{select_at}
use Rattle.fc_path.specs.declared.fault.PathFault.{PathFault}
use Rattle.fc_path.specs.declared.oper.Select.{Select}
use Rattle.fc_path.proofs.Complete.{select_read, item}
use Rattle.fc_path.proofs.Sound.{select_spelled, ok_same}

pub once : (message : ℕ) (tlv : TlvItem) (s r : Select) → Lent tlv → IsSelectOf message s tlv → IsSelectOf message r tlv → s ≡ r
once message tlv s r lent a b = ok_same s r (sym (select_read message s tlv lent.few a) ∙ select_read message r tlv lent.few b)

-- a padded value is longer than its value by less than four
few_more : (kind : ℕ) (body padded bytes : List ℕ) → IsTlv kind body padded bytes → length padded < length body + 4
few_more kind body padded bytes h = let few = h.few in omega (arith, ap length h.value, length-append body h.padding)

pub read_as : (message place : ℕ) (s : Select) (bytes : List ℕ) → (h : IsSelect message s bytes) → select_at message (item 4096 place h.0 h.1) ≡ Ok s
read_as message place s bytes h = select_read message s (item 4096 place h.0 h.1) (few_more 4096 h.0 h.1 bytes h.3) (refl, h.2, h.4)

one_of : (message place : ℕ) (s : Select) (bytes : List ℕ) (h : IsSelect message s bytes) → one_tlv place (bytes ++ []) ≡ Ok (item 4096 place h.0 h.1, [])
one_of message place s bytes h = tlv_read place (item 4096 place h.0 h.1) bytes [] (refl, h.3)

pub once_bytes : (message : ℕ) (bytes : List ℕ) (s r : Select) → IsSelect message s bytes → IsSelect message r bytes → s ≡ r
once_bytes message bytes s r a b =
    let both : Ok (item 4096 0 a.0 a.1, []) ≡ Ok (item 4096 0 b.0 b.1, []) = sym (one_of message 0 s bytes a) ∙ one_of message 0 r bytes b in
    let pair : ◌≡◌ {A = TlvItem × List ℕ} (item 4096 0 a.0 a.1, []) (item 4096 0 b.0 b.1, []) = ok_same _ _ both in
    let same = ap (λ (x : TlvItem × List ℕ). x.0) pair in
    ok_same s r (sym (read_as message 0 s bytes a) ∙ ap (select_at message) same ∙ read_as message 0 r bytes b)

pub grammar : (message : ℕ) (tlv : TlvItem) (s : Select) → Lent tlv → AreBytes tlv.padded → (IsSelectOf message s tlv → select_at message tlv ≡ Ok s) × (select_at message tlv ≡ Ok s → IsSelectOf message s tlv)
grammar message tlv s lent fine = (select_read message s tlv lent.few, select_spelled message s tlv fine lent.whole lent.cut)

some_bytes : (kind : ℕ) (body padded bytes more : List ℕ) → IsTlv kind body padded bytes → 0 < length (bytes ++ more)
some_bytes kind body padded bytes more h = omega (arith, length-append bytes more, ap length h.spelled)

pub again : (message place : ℕ) (s : Select) (bytes more : List ℕ) → IsSelect message s bytes
    → (tlv : TlvItem) × (tlvs place (bytes ++ more) ≡ in_front tlv (tlvs (place + length bytes) more)) × (tlv.place ≡ place) × (select_at message tlv ≡ Ok s)
again message place s bytes more h =
    let t = item 4096 place h.0 h.1 in
    let next : place + (length (bytes ++ more) - length more) ≡ place + length bytes = omega (arith, length-append bytes more) in
    (t, tiles_step one_tlv one_tlv_falls place (bytes ++ more) (t, more) (some_bytes 4096 h.0 h.1 bytes more h.3) (tlv_read place t bytes more (refl, h.3)) ∙ ap (λ p. in_front t (tlvs p more)) next, refl, read_as message place s bytes h)

abbrev Either : ℕ → TlvItem → Type 0
Either message tlv = ((s : Select) × IsSelectOf message s tlv) ⊎ ((fault : PathFault) × (select_at message tlv ≡ Err fault) × ((s : Select) → IsSelectOf message s tlv → ⊥))

apart : (s : Select) (fault : PathFault) → ◌≡◌ {A = Result Select PathFault} (Err fault) (Ok s) → ⊥
apart s fault e = cc

either_of : (message : ℕ) (tlv : TlvItem) (r : Result Select PathFault) → Lent tlv → AreBytes tlv.padded → select_at message tlv ≡ r → Either message tlv
either_of message tlv (Ok s) lent fine e = inl (s, select_spelled message s tlv fine lent.whole lent.cut e)
either_of message tlv (Err fault) lent fine e = inr (fault, e, λ s h. apart s fault (sym e ∙ select_read message s tlv lent.few h))

pub either : (message : ℕ) (tlv : TlvItem) → Lent tlv → AreBytes tlv.padded → Either message tlv
either message tlv lent fine = either_of message tlv (select_at message tlv) lent fine refl
