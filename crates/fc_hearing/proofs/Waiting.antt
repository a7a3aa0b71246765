-- What a master makes of the answer to one of its two questions, whatever waits there.
use Rattle.std.proofs.Common.{◌≡◌, ℕ, ◌==◌, ◌&&◌, Bool, true, false, if◌then◌else◌, List, Option, Some, None, refl, sym, ap, ap₂, ◌∙◌, eqb-true, arith}
use Rattle.fc_asks.specs.Queries.{query_meaning}
use Rattle.fc_base.specs.Ids.{Txn}
use Rattle.fc_jobs.specs.Answers.{answer_meaning, asked_meaning, asked_of}
use Rattle.fc_path.specs.declared.oper.Select.{Select}
use Rattle.fc_protocol.specs.Collections.{put}
use Rattle.fc_protocol.specs.Jobs.{answer, answered_by, on_job}
use Rattle.fc_protocol.specs.MasterMachine.{Master, Waiting, at_put, by_epoch, dropped, heard, held_told, matches, record_told, unmatched, unread_told}
use Rattle.fc_protocol.specs.Messages.{Body, Claim, Sot, Mot, Eot, Trcomp, Abt, Floor, Malformed, Plain, Ask, Ask_record, Message, Stamp, Holds, Tells, Unread, is_query, same, same_stamp}
use Rattle.fc_protocol.specs.declared.answers.TxnEntry.{TxnEntry}
use Rattle.fc_protocol.specs.declared.states.Seen.{Seen}

-- ---- two transactions

swapped : (m n : ℕ) → (m == n) ≡ (n == m)
swapped m n = grind arith

same_swapped : (x y : Txn) → same x y ≡ same y x
same_swapped x y = ap₂ (λ (a b : Bool). a && b) (swapped x.epoch y.epoch) (swapped x.number y.number)

and_left : (a b : Bool) → (a && b) ≡ true → a ≡ true
and_left true b h = refl
and_left false b h = cc

and_right : (a b : Bool) → (a && b) ≡ true → b ≡ true
and_right true b h = h
and_right false b h = cc

one_txn : (x y : Txn) → same x y ≡ true → x ≡ y
one_txn x y e =
    let epochs = eqb-true x.epoch y.epoch (and_left (x.epoch == y.epoch) (x.number == y.number) e) in
    let numbers = eqb-true x.number y.number (and_right (x.epoch == y.epoch) (x.number == y.number) e) in
    λ i. record { epoch = epochs i; number = numbers i }

-- ---- by what waits
module _ (c : Master) (p : ℕ) (s : Stamp) (selects : List Select) where
  abbrev lost : Master
  lost = at_put c p (unmatched (c.at p))

  -- an answer that is matched, and one that is not, by what is said of it
  abbrev Hears : Message → (Option Waiting → Master) → Type 0
  Hears x told = heard c p x ≡ (if matches s true (c.at p).waits then told (c.at p).waits else c)

  missed : (x : Message) (told : Option Waiting → Master) → Hears x told → (w : Option Waiting) → (c.at p).waits ≡ w → matches s true w ≡ false → heard c p x ≡ c
  missed x told is w i f = is ∙ ap (λ (v : Option Waiting). if matches s true v then told v else c) i ∙ ap (λ (b : Bool). if b then told w else c) f

  met : (x : Message) (told : Option Waiting → Master) → Hears x told → (w : Option Waiting) → (c.at p).waits ≡ w → matches s true w ≡ true → heard c p x ≡ told w
  met x told is w i f = is ∙ ap (λ (v : Option Waiting). if matches s true v then told v else c) i ∙ ap (λ (b : Bool). if b then told w else c) f

  -- where nothing that waits is matched, no answer does anything
  none_met : (x : Message) (told : Option Waiting → Master) → Hears x told → (w : Option Waiting) → (c.at p).waits ≡ w → matches s true w ≡ false
      → heard c p (answer_meaning w s selects) ≡ heard c p x
  none_met x told is w i f =
      ap (λ (b : Bool). heard c p (if b then asked_meaning (asked_of w) s selects else Unread s None)) f
      ∙ missed (Unread s None) (λ _. unread_told c p None) refl w i f ∙ sym (missed x told is w i f)

  -- where the question that waits is matched, the answer is what was asked
  read_met : (w : Option Waiting) → matches s true w ≡ true → (y : Message) → asked_meaning (asked_of w) s selects ≡ y → heard c p (answer_meaning w s selects) ≡ heard c p y
  read_met w f y e = ap (λ (b : Bool). heard c p (if b then asked_meaning (asked_of w) s selects else Unread s None)) f ∙ ap (heard c p) e

  lost_met : (w : Option Waiting) → (c.at p).waits ≡ w → matches s true w ≡ true → heard c p (Unread s None) ≡ lost
  lost_met w i f = met (Unread s None) (λ _. unread_told c p None) refl w i f

  -- whether a message that waits is matched, by its correlator and whether it is a Query
  no_query : (a b : Bool) → b ≡ false → (a && b) ≡ false
  no_query true b e = e
  no_query false b e = refl

  abbrev waiting : Stamp → Body → Option Waiting
  waiting t b = Some (record { stamp = t; body = b })

  matched : (t : Stamp) (b : Body) (same : Bool) → same_stamp s t ≡ same → is_query b ≡ true → matches s true (waiting t b) ≡ same
  matched t b same e query = ap₂ (λ (x y : Bool). x && y) e query ∙ with_true same
    where
      with_true : (x : Bool) → (x && true) ≡ x
      with_true true = refl
      with_true false = refl

  unmatched_at : (t : Stamp) (b : Body) → is_query b ≡ false → matches s true (waiting t b) ≡ false
  unmatched_at t b query = no_query (same_stamp s t) (is_query b) query

  -- ---- the answer to the question for what is held
  module _ (e : ℕ) (ns : List TxnEntry) (own : query_meaning Ask s selects ≡ Holds s e ns) (others : (y : Txn) → query_meaning (Ask_record y) s selects ≡ Unread s None) where
    abbrev HeldSame : Option Waiting → Type 0
    HeldSame w = heard c p (answer_meaning w s selects) ≡ heard c p (Holds s e ns)

    held_missed : (w : Option Waiting) → (c.at p).waits ≡ w → matches s true w ≡ false → HeldSame w
    held_missed w i f = none_met (Holds s e ns) (held_told c p e ns) refl w i f

    held_ask : (t : Stamp) (b : Bool) → same_stamp s t ≡ b → (c.at p).waits ≡ waiting t Ask → HeldSame (waiting t Ask)
    held_ask t true f i = read_met (waiting t Ask) (matched t Ask true f refl) (Holds s e ns) own
    held_ask t false f i = held_missed (waiting t Ask) i (matched t Ask false f refl)

    held_other : (t : Stamp) (y : Txn) (b : Bool) → same_stamp s t ≡ b → (c.at p).waits ≡ waiting t (Ask_record y) → HeldSame (waiting t (Ask_record y))
    held_other t y true f i =
        let m = matched t (Ask_record y) true f refl in
        read_met (waiting t (Ask_record y)) m (Unread s None) (others y) ∙ lost_met (waiting t (Ask_record y)) i m
        ∙ sym (met (Holds s e ns) (held_told c p e ns) refl (waiting t (Ask_record y)) i m)
    held_other t y false f i = held_missed (waiting t (Ask_record y)) i (matched t (Ask_record y) false f refl)

    held_waiting : (t : Stamp) (b : Body) → (c.at p).waits ≡ waiting t b → HeldSame (waiting t b)
    held_waiting t (Claim w) i = held_missed (waiting t (Claim w)) i (unmatched_at t (Claim w) refl)
    held_waiting t (Sot x ps sc) i = held_missed (waiting t (Sot x ps sc)) i (unmatched_at t (Sot x ps sc) refl)
    held_waiting t (Mot x n) i = held_missed (waiting t (Mot x n)) i (unmatched_at t (Mot x n) refl)
    held_waiting t (Eot x) i = held_missed (waiting t (Eot x)) i (unmatched_at t (Eot x) refl)
    held_waiting t (Trcomp x) i = held_missed (waiting t (Trcomp x)) i (unmatched_at t (Trcomp x) refl)
    held_waiting t (Abt x) i = held_missed (waiting t (Abt x)) i (unmatched_at t (Abt x) refl)
    held_waiting t (Floor x) i = held_missed (waiting t (Floor x)) i (unmatched_at t (Floor x) refl)
    held_waiting t Malformed i = held_missed (waiting t Malformed) i (unmatched_at t Malformed refl)
    held_waiting t Plain i = held_missed (waiting t Plain) i (unmatched_at t Plain refl)
    held_waiting t Ask i = held_ask t (same_stamp s t) refl i
    held_waiting t (Ask_record y) i = held_other t y (same_stamp s t) refl i

    held_by_waits : (w : Option Waiting) → (c.at p).waits ≡ w → HeldSame w
    held_by_waits None i = held_missed None i refl
    held_by_waits (Some o) i = held_waiting o.stamp o.body i

    pub held_heard : heard c p (answer_meaning (c.at p).waits s selects) ≡ heard c p (Holds s e ns)
    held_heard = held_by_waits (c.at p).waits refl

  -- ---- the answer to the question for one record
  module _ (x : Txn) (e : ℕ) (t : Seen) (own : query_meaning (Ask_record x) s selects ≡ Tells s x e t) (held : query_meaning Ask s selects ≡ Unread s None)
      (others : (y : Txn) → same x y ≡ false → query_meaning (Ask_record y) s selects ≡ Unread s None) where
    abbrev RecordSame : Option Waiting → Type 0
    RecordSame w = heard c p (answer_meaning w s selects) ≡ heard c p (Tells s x e t)

    -- what the answer says counts, where y was asked of
    abbrev counted : Txn → Master
    counted y = by_epoch c p e (record c { at = put c.at p (dropped (c.at p)); jobs = on_job y (answered_by p (answer e t)) c.jobs })

    record_missed : (w : Option Waiting) → (c.at p).waits ≡ w → matches s true w ≡ false → RecordSame w
    record_missed w i f = none_met (Tells s x e t) (record_told c p x e t) refl w i f

    record_held : (u : Stamp) (b : Bool) → same_stamp s u ≡ b → (c.at p).waits ≡ waiting u Ask → RecordSame (waiting u Ask)
    record_held u true f i =
        let m = matched u Ask true f refl in
        read_met (waiting u Ask) m (Unread s None) held ∙ lost_met (waiting u Ask) i m ∙ sym (met (Tells s x e t) (record_told c p x e t) refl (waiting u Ask) i m)
    record_held u false f i = record_missed (waiting u Ask) i (matched u Ask false f refl)

    -- one of the same transaction, and one of another
    record_met : (u : Stamp) (y : Txn) (b : Bool) → same x y ≡ b → matches s true (waiting u (Ask_record y)) ≡ true → (c.at p).waits ≡ waiting u (Ask_record y) → RecordSame (waiting u (Ask_record y))
    record_met u y true is m i =
        read_met (waiting u (Ask_record y)) m (Tells s x e t) (ap (λ (z : Txn). query_meaning (Ask_record z) s selects) (sym (one_txn x y is)) ∙ own)
    record_met u y false is m i =
        let told : heard c p (Tells s x e t) ≡ lost =
        met (Tells s x e t) (record_told c p x e t) refl (waiting u (Ask_record y)) i m
        ∙ ap (λ (b : Bool). if b then counted y else lost) (same_swapped y x ∙ is) in
        read_met (waiting u (Ask_record y)) m (Unread s None) (others y is) ∙ lost_met (waiting u (Ask_record y)) i m ∙ sym told

    record_ask : (u : Stamp) (y : Txn) (b : Bool) → same_stamp s u ≡ b → (c.at p).waits ≡ waiting u (Ask_record y) → RecordSame (waiting u (Ask_record y))
    record_ask u y true f i = record_met u y (same x y) refl (matched u (Ask_record y) true f refl) i
    record_ask u y false f i = record_missed (waiting u (Ask_record y)) i (matched u (Ask_record y) false f refl)

    record_waiting : (u : Stamp) (b : Body) → (c.at p).waits ≡ waiting u b → RecordSame (waiting u b)
    record_waiting u (Claim w) i = record_missed (waiting u (Claim w)) i (unmatched_at u (Claim w) refl)
    record_waiting u (Sot y ps sc) i = record_missed (waiting u (Sot y ps sc)) i (unmatched_at u (Sot y ps sc) refl)
    record_waiting u (Mot y n) i = record_missed (waiting u (Mot y n)) i (unmatched_at u (Mot y n) refl)
    record_waiting u (Eot y) i = record_missed (waiting u (Eot y)) i (unmatched_at u (Eot y) refl)
    record_waiting u (Trcomp y) i = record_missed (waiting u (Trcomp y)) i (unmatched_at u (Trcomp y) refl)
    record_waiting u (Abt y) i = record_missed (waiting u (Abt y)) i (unmatched_at u (Abt y) refl)
    record_waiting u (Floor y) i = record_missed (waiting u (Floor y)) i (unmatched_at u (Floor y) refl)
    record_waiting u Malformed i = record_missed (waiting u Malformed) i (unmatched_at u Malformed refl)
    record_waiting u Plain i = record_missed (waiting u Plain) i (unmatched_at u Plain refl)
    record_waiting u Ask i = record_held u (same_stamp s u) refl i
    record_waiting u (Ask_record y) i = record_ask u y (same_stamp s u) refl i

    record_by_waits : (w : Option Waiting) → (c.at p).waits ≡ w → RecordSame w
    record_by_waits None i = record_missed None i refl
    record_by_waits (Some o) i = record_waiting o.stamp o.body i

    pub record_heard : heard c p (answer_meaning (c.at p).waits s selects) ≡ heard c p (Tells s x e t)
    record_heard = record_by_waits (c.at p).waits refl
