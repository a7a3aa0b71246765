-- One life makes a transaction, once, with one list of participants.
use Rattle.std.proofs.Common.{◌≡◌, ℕ, ◌+◌, ◌*◌, ◌^◌, ◌<◌, ◌≤◌, ◌&&◌, ◌||◌, ◌==◌, eqb-true, Bool, true, false, cond, nat_lt, List, [], ◌∷◌, ◌++◌, Option, Some, None, is_some, inl, inr, ⊎_elim, refl, sym, ap, ◌∙◌, subst, arith}
use Rattle.fc_agreement.specs.Agreement.{Agree, SettleOnce, Ready, OnePlan, Settled, SettledWhole, BegunOnce, SaysOnce, SaysDecision, Mirrors, FollowsCore, FloorsSettle, FloorsReach, FloorsAnswered, AtRest, Bounded}
use Rattle.fc_protocol.specs.Collections.{put, among}
use Rattle.fc_agreement.specs.Core.{Core, moves, start}
use Rattle.fc_protocol.specs.ElementMachine.{Circumstance}
use Rattle.fc_protocol.specs.Jobs.{discover, on_job, answered_by, answer, all_settled, Job}
use Rattle.fc_protocol.specs.MasterMachine.{last_count, after_ask, dropped, Refusal, begin_refusal, plain_refusal, give_up_refusal, forget_refusal, forgets, unread_told, Waiting, Master, new_master, at_put, due, sends_one, sends_all, heard, matches, coded, by_epoch, depose, is_lower, unmatched, held_by, held_told, record_by, record_told, begins, gives_up, decide_all, finish, Speaks}
use Rattle.fc_protocol.specs.Messages.{Floor, Malformed, Beat, Unread, sent, same, Body, Claim, Sot, Mot, Eot, Trcomp, Abt, Ask, Ask_record, Plain, Message, Setup, Request, Reply, Holds, Tells, Other_up, Other_down, Sent}
use Rattle.fc_protocol.specs.WorldSteps.{Open, Give_up, Network, controller_of, World, Begun, Step, Deliver, Moment, Start, Stop, Begin, Change, Resend, Forget, forget_by, forget_at, Restart, restarts, murmurs, says, numbered, may_start, begin_by, give_up_by, change_by, change_at, first_world, with_begun, speaks, to_master, delivered, delivers, starts, begin_at, give_up_at, resend_at, happens, run}
use Rattle.fc_protocol.specs.Scopes.{Scope}
use Rattle.fc_protocol.specs.declared.answers.TxnEntry.{TxnEntry}
use Rattle.fc_protocol.specs.declared.states.Seen.{Seen}
use Rattle.fc_base.specs.Ids.{Txn}
use Rattle.fc_protocol.proofs.Puts.{put_here, both_first, both_second}
use Rattle.fc_protocol.proofs.Basics.{In, all_in, both, cond_true, same_true, same_of, put_rest}
use Rattle.fc_protocol.proofs.Order.{under_is}
use Rattle.fc_agreement.proofs.Facts.{Past, past, Lives, Named, EntryFine}
use Rattle.fc_agreement.proofs.Hears.{cond_all}
use Rattle.fc_agreement.proofs.Calls.{begin_low, may_begin}
use Rattle.fc_agreement.proofs.Calm.{LifeCalm, calm_finishes, all_calm}
use Rattle.fc_agreement.proofs.Binding.{same_life, fresh_life, may_start_is, first_tied}
use Rattle.fc_agreement.proofs.Runs.{Bound, run_tied, agrees, settles_once, readies, opens_alike, settled_there, says_apart, says_decided, begun_run, mirrors, below_settled, floor_reached, floor_answered, floor_life, bounded}

abbrev pub Alike : Master → Master → Type 0
Alike m n = (n.epoch ≡ m.epoch) × (n.begun ≡ m.begun) × (n.elements ≡ m.elements)

coded_alike : (m : Master) (p code : ℕ) (o : Option Waiting) → Alike m (coded m p code o)
coded_alike m p code None = (refl, refl, refl)
coded_alike m p code (Some o) = (refl, refl, refl)

epoch_alike : (m n : Master) (p e : ℕ) → Alike m n → Alike m (by_epoch m p e n)
epoch_alike m n p e a = cond_all (Alike m) (nat_lt m.epoch e) (depose m e) _ (λ _. (refl, refl, refl)) (λ _. cond_all (Alike m) (is_lower m p e) (at_put m p (unmatched (m.at p))) n (λ _. (refl, refl, refl)) (λ _. a))

held_by_alike : (m : Master) (p e : ℕ) (ns : List TxnEntry) (b : Body) → Alike m (held_by m p e ns b)
held_by_alike m p e ns Ask = epoch_alike m (record m { at = put m.at p (after_ask (m.at p)); jobs = discover ns m.jobs }) p e (refl, refl, refl)
held_by_alike m p e ns (Ask_record y) = (refl, refl, refl)
held_by_alike m p e ns (Claim w) = (refl, refl, refl)
held_by_alike m p e ns (Sot y ps sc) = (refl, refl, refl)
held_by_alike m p e ns (Mot y i) = (refl, refl, refl)
held_by_alike m p e ns (Eot y) = (refl, refl, refl)
held_by_alike m p e ns (Trcomp y) = (refl, refl, refl)
held_by_alike m p e ns (Abt y) = (refl, refl, refl)
held_by_alike m p e ns Plain = (refl, refl, refl)
held_by_alike m p e ns (Floor f) = (refl, refl, refl)
held_by_alike m p e ns Malformed = (refl, refl, refl)

held_alike : (m : Master) (p e : ℕ) (ns : List TxnEntry) (o : Option Waiting) → Alike m (held_told m p e ns o)
held_alike m p e ns None = (refl, refl, refl)
held_alike m p e ns (Some o) = held_by_alike m p e ns o.body

record_by_alike : (m : Master) (p : ℕ) (z : Txn) (e : ℕ) (t : Seen) (b : Body) → Alike m (record_by m p z e t b)
record_by_alike m p z e t Ask = (refl, refl, refl)
record_by_alike m p z e t (Ask_record y) = cond_all (Alike m) (same y z) _ _ (λ _. epoch_alike m (record m { at = put m.at p (dropped (m.at p)); jobs = on_job y (answered_by p (answer e t)) m.jobs }) p e (refl, refl, refl)) (λ _. (refl, refl, refl))
record_by_alike m p z e t (Claim w) = (refl, refl, refl)
record_by_alike m p z e t (Sot y ps sc) = (refl, refl, refl)
record_by_alike m p z e t (Mot y i) = (refl, refl, refl)
record_by_alike m p z e t (Eot y) = (refl, refl, refl)
record_by_alike m p z e t (Trcomp y) = (refl, refl, refl)
record_by_alike m p z e t (Abt y) = (refl, refl, refl)
record_by_alike m p z e t Plain = (refl, refl, refl)
record_by_alike m p z e t (Floor f) = (refl, refl, refl)
record_by_alike m p z e t Malformed = (refl, refl, refl)

record_alike : (m : Master) (p : ℕ) (z : Txn) (e : ℕ) (t : Seen) (o : Option Waiting) → Alike m (record_told m p z e t o)
record_alike m p z e t None = (refl, refl, refl)
record_alike m p z e t (Some o) = record_by_alike m p z e t o.body

unread_alike : (m : Master) (p : ℕ) (e : Option ℕ) → Alike m (unread_told m p e)
unread_alike m p None = (refl, refl, refl)
unread_alike m p (Some e) = epoch_alike m (at_put m p (unmatched (m.at p))) p e (refl, refl, refl)

pub heard_alike : (m : Master) (p : ℕ) (i : Message) → Alike m (heard m p i)
heard_alike m p Setup = cond_all (Alike m) (among p m.elements) (at_put m p (record (m.at p) { met = true })) m (λ _. (refl, refl, refl)) (λ _. (refl, refl, refl))
heard_alike m p Beat = (refl, refl, refl)
heard_alike m p (Unread s e) = cond_all (Alike m) (matches s true (m.at p).waits) (unread_told m p e) m (λ _. unread_alike m p e) (λ _. (refl, refl, refl))
heard_alike m p (Request s b) = (refl, refl, refl)
heard_alike m p (Reply s code) = cond_all (Alike m) (matches s false (m.at p).waits) _ m (λ _. coded_alike m p code (m.at p).waits) (λ _. (refl, refl, refl))
heard_alike m p (Holds s e ns) = cond_all (Alike m) (matches s true (m.at p).waits) (held_told m p e ns (m.at p).waits) m (λ _. held_alike m p e ns (m.at p).waits) (λ _. (refl, refl, refl))
heard_alike m p (Tells s z e t) = cond_all (Alike m) (matches s true (m.at p).waits) (record_told m p z e t (m.at p).waits) m (λ _. record_alike m p z e t (m.at p).waits) (λ _. (refl, refl, refl))
heard_alike m p Other_up = (refl, refl, refl)
heard_alike m p Other_down = (refl, refl, refl)

pub one_alike : (k : ℕ) (m : Master) (p : ℕ) (o : Option Body) → Alike m (sends_one k m p o).master
one_alike k m p None = (refl, refl, refl)
one_alike k m p (Some b) = (refl, refl, refl)

alike_then : (m n o : Master) → Alike m n → Alike n o → Alike m o
alike_then m n o a b = (b.0 ∙ a.0, b.1 ∙ a.1, b.2 ∙ a.2)

all_alike : (k : ℕ) (es : List ℕ) (m : Master) → Alike m (sends_all k es m).master
all_alike k [] m = (refl, refl, refl)
all_alike k (p ∷ ps) m = let n = (sends_one k m p (due m p)).master in alike_then m n (sends_all k ps n).master (one_alike k m p (due m p)) (all_alike k ps n)

pub finish_alike : (k : ℕ) (m : Master) → Alike m (finish k m).master
finish_alike k m = all_alike k m.elements (decide_all m)

pub record Numbered (h : Past) (k : ℕ) (m : Master) : Type 0 where
  pub life : Lives h k m.epoch
  pub numbers : (b : Begun) → In b h.begun → b.txn.epoch ≡ m.epoch → b.txn.number ≤ m.begun

abbrev pub LifeNumbered : Past → ℕ → Option Master → Type 0
LifeNumbered h k None = Unit {0}
LifeNumbered h k (Some m) = Numbered h k m

abbrev pub at_start : World → Past
at_start w = record { core = start; sent = []; used = w.used; begun = w.begun; elements = [] }

-- no two are of one transaction
abbrev pub Singles : List Begun → Type 0
Singles [] = Unit {0}
Singles (b ∷ bs) = ((a : Begun) → In a bs → a.txn ≡ b.txn → ⊥) × Singles bs

-- each master has all elements of the network
abbrev Manned : List ℕ → Option Master → Type 0
Manned es None = Unit {0}
Manned es (Some m) = m.elements ≡ es

pub record Ids (w : World) : Type 0 where
  pub inside : (b : Begun) → In b w.begun → (q : ℕ) → among q b.parts ≡ true → among q w.network.elements ≡ true
  pub manned : (k : ℕ) → Manned w.network.elements (w.masters k)
  pub lives : (k : ℕ) → LifeNumbered (at_start w) k (w.masters k)
  pub owners : (b : Begun) → In b w.begun → (k : ℕ) × Lives (at_start w) k b.txn.epoch
  pub once : (a b : Begun) → In a w.begun → In b w.begun → a.txn ≡ b.txn → a.parts ≡ b.parts
  pub single : Singles w.begun
  pub low : (b : Begun) → In b w.begun → b.txn.number ≤ last_count

alike_numbered : (h : Past) (k : ℕ) (m n : Master) → Alike m n → Numbered h k m → Numbered h k n
alike_numbered h k m n a f = record { life = subst (Lives h k) (sym a.0) f.life; numbers = λ b i e. subst (λ v. b.txn.number ≤ v) (sym a.1) (f.numbers b i (e ∙ a.0)) }

speaks_ids : (w : World) (k : ℕ) (m n : Master) (r : Speaks) (first : List Sent) → Ids w → w.masters k ≡ Some m → Alike m n → Alike n r.master → Ids (speaks w k first r)
speaks_ids w k m n r first i e a b = record {
  lives = put_rest (LifeNumbered (at_start w)) w.masters k (Some r.master) (alike_numbered (at_start w) k m r.master (alike_then m n r.master a b) (subst (LifeNumbered (at_start w) k) e (i.lives k))) (λ j _. i.lives j);
  owners = i.owners;
  once = i.once;
  single = i.single;
  low = i.low;
  inside = i.inside;
  manned = put_rest (λ _. Manned w.network.elements) w.masters k (Some r.master) (b.2 ∙ a.2 ∙ subst (Manned w.network.elements) e (i.manned k)) (λ j _. i.manned j);
}

to_master_ids : (w : World) (p k : ℕ) (t : Message) (o : Option Master) → Ids w → w.masters k ≡ o → Ids (to_master w p k t o)
to_master_ids w p k t None i e = i
to_master_ids w p k t (Some m) i e = speaks_ids w k m (heard m p t) _ _ i e (heard_alike m p t) (finish_alike k (heard m p t))

delivered_ids : (w : World) (ok : Circumstance) (p k : ℕ) (t : Message) → Ids w → Ids (delivered w ok p k t)
delivered_ids w ok p k Setup i = to_master_ids w p k Setup (w.masters k) i refl
delivered_ids w ok p k (Request s b) i = record { lives = i.lives; owners = i.owners; once = i.once; single = i.single; low = i.low; inside = i.inside; manned = i.manned }
delivered_ids w ok p k (Reply s b) i = to_master_ids w p k (Reply s b) (w.masters k) i refl
delivered_ids w ok p k (Holds s e b) i = to_master_ids w p k (Holds s e b) (w.masters k) i refl
delivered_ids w ok p k (Tells s z e b) i = to_master_ids w p k (Tells s z e b) (w.masters k) i refl
delivered_ids w ok p k Beat i = to_master_ids w p k Beat (w.masters k) i refl
delivered_ids w ok p k (Unread s e) i = to_master_ids w p k (Unread s e) (w.masters k) i refl
delivered_ids w ok p k Other_up i = to_master_ids w p k Other_up (w.masters k) i refl
delivered_ids w ok p k Other_down i = record { lives = i.lives; owners = i.owners; once = i.once; single = i.single; low = i.low; inside = i.inside; manned = i.manned }

delivers_ids : (w : World) (ok : Circumstance) (o : Option Sent) → Ids w → Ids (delivers w ok o)
delivers_ids w ok None i = i
delivers_ids w ok (Some s) i = delivered_ids w ok s.element s.controller s.message i

used_on : (w : World) (k r j e : ℕ) → Lives (at_start w) j e → Lives (at_start (starts w k r)) j e
used_on w k r j e v = (v.0, put_rest (λ i u. In v.0 (w.used i) → In v.0 u) w.used k (r ∷ w.used k) (λ i. inr i) (λ _ _ i. i) j v.1, v.2, v.3, v.4, v.5)

numbered_on : (w : World) (k r j : ℕ) (o : Option Master) → LifeNumbered (at_start w) j o → LifeNumbered (at_start (starts w k r)) j o
numbered_on w k r j None f = tt
numbered_on w k r j (Some m) f = record { life = used_on w k r j m.epoch f.life; numbers = f.numbers }

start_ids : (w : World) (k r : ℕ) → k < 256 → (r < 2 ^ 24) × (0 < r) → among r (w.used k) ≡ false → Ids w → Ids (starts w k r)
start_ids w k r small few new i = record {
  lives = put_rest (LifeNumbered (at_start (starts w k r))) w.masters k (Some (new_master (256 * r + k) w.network.elements))
      (record {
        life = (r, subst (In r) (sym (put_here w.used k (r ∷ w.used k))) (inl refl), refl, small, few.0, few.1);
        numbers = λ b n e. let v = i.owners b n in absurd (fresh_life w start k r v.0 small new (subst (Lives (at_start w) v.0) e v.1));
      })
      (λ j _. numbered_on w k r j (w.masters j) (i.lives j));
  owners = λ b n. let v = i.owners b n in (v.0, used_on w k r v.0 b.txn.epoch v.1);
  once = i.once;
  single = i.single;
  low = i.low;
  inside = i.inside;
  manned = put_rest (λ _. Manned w.network.elements) w.masters k (Some (new_master (256 * r + k) w.network.elements)) refl (λ j _. i.manned j);
}

-- others are not of the new transaction's life
others_on : (w : World) (b : Begun) (k j : ℕ) (o : Option Master) → Lives (at_start w) k b.txn.epoch → (j ≡ k → ⊥) → LifeNumbered (at_start w) j o → LifeNumbered (at_start (with_begun w b)) j o
others_on w b k j None l n f = tt
others_on w b k j (Some m) l n f = record { life = f.life; numbers = λ a i e. ⊎_elim (λ u. absurd (n (same_life (at_start w) (at_start w) j k m.epoch f.life (subst (Lives (at_start w) k) (ap (λ (v : Begun). v.txn.epoch) (sym u) ∙ e) l)))) (λ u. f.numbers a u e) i }

begin_by_ids : (w : World) (k : ℕ) (ps : List ℕ) (changes : ℕ → ℕ) (scopes : ℕ → Scope) (m : Master) (r : Option Refusal) → begin_refusal m ps changes scopes ≡ r → Ids w → w.masters k ≡ Some m → Ids (begin_by w k ps changes scopes m r)
begin_by_ids w k ps changes scopes m (Some r) q i e = i
begin_by_ids w k ps changes scopes m None q i e =
    let b : Begun = record { txn = record { epoch = m.epoch; number = m.begun + 1 }; parts = ps } in
    let n = begins m ps changes scopes in
    let manned : m.elements ≡ w.network.elements = subst (Manned w.network.elements) e (i.manned k) in
    let r = finish k n in
    let f : Numbered (at_start w) k m = subst (LifeNumbered (at_start w) k) e (i.lives k) in
    let g : Numbered (at_start (with_begun w b)) k n = record {
      life = f.life;
      numbers = λ a u v. ⊎_elim (λ s. let t : a.txn.number ≡ m.begun + 1 = ap (λ (z : Begun). z.txn.number) s in omega arith) (λ s. let t : a.txn.number ≤ m.begun = f.numbers a s v in omega arith) u;
    } in
    let clash = λ (a : Begun) (u : In a w.begun) (s : a.txn ≡ b.txn).
    let low : a.txn.number ≤ m.begun = f.numbers a u (ap (λ (v : Txn). v.epoch) s) in
    let now : a.txn.number ≡ m.begun + 1 = ap (λ (v : Txn). v.number) s in
    absurd {A = ⊥} (omega arith) in
    record {
      lives = put_rest (LifeNumbered (at_start (with_begun w b))) w.masters k (Some r.master) (alike_numbered (at_start (with_begun w b)) k n r.master (finish_alike k n) g) (λ j d. others_on w b k j (w.masters j) f.life d (i.lives j));
      owners = λ a u. ⊎_elim (λ s. (k, subst (Lives (at_start w) k) (ap (λ (v : Begun). v.txn.epoch) (sym s)) f.life)) (λ s. i.owners a s) u;
      once = λ a c u v s. ⊎_elim (λ y. ⊎_elim (λ z. ap (λ (t : Begun). t.parts) (y ∙ sym z)) (λ z. absurd (clash c z (sym s ∙ ap (λ (t : Begun). t.txn) y))) v)
          (λ y. ⊎_elim (λ z. absurd (clash a y (s ∙ ap (λ (t : Begun). t.txn) z))) (λ z. i.once a c y z s) v) u;
      single = (clash, i.single);
      low = λ a u. ⊎_elim (λ s. let t : a.txn.number ≡ m.begun + 1 = ap (λ (z : Begun). z.txn.number) s in let k : m.begun + 1 ≤ last_count = begin_low m ps changes scopes q in omega arith) (λ s. i.low a s) u;
      inside = λ a u p v. ⊎_elim (λ s. ap (among p) (sym manned) ∙ ((may_begin m ps changes scopes q).free p (ap (λ (t : Begun). among p t.parts) (sym s) ∙ v)).inside) (λ s. i.inside a s p v) u;
      manned = put_rest (λ _. Manned w.network.elements) w.masters k (Some r.master) ((finish_alike k n).2 ∙ manned) (λ j _. i.manned j);
    }

begin_ids : (w : World) (k : ℕ) (ps : List ℕ) (changes : ℕ → ℕ) (scopes : ℕ → Scope) (o : Option Master) → Ids w → w.masters k ≡ o → Ids (begin_at w k ps changes scopes o)
begin_ids w k ps changes scopes None i e = i
begin_ids w k ps changes scopes (Some m) i e = begin_by_ids w k ps changes scopes m (begin_refusal m ps changes scopes) refl i e

give_up_by_ids : (w : World) (k : ℕ) (y : Txn) (m : Master) (r : Option Refusal) → Ids w → w.masters k ≡ Some m → Ids (give_up_by w k y m r)
give_up_by_ids w k y m (Some r) i e = i
give_up_by_ids w k y m None i e = speaks_ids w k m (gives_up m y) _ [] i e (refl, refl, refl) (finish_alike k (gives_up m y))

give_up_ids : (w : World) (k : ℕ) (y : Txn) (o : Option Master) → Ids w → w.masters k ≡ o → Ids (give_up_at w k y o)
give_up_ids w k y None i e = i
give_up_ids w k y (Some m) i e = give_up_by_ids w k y m (give_up_refusal m y) i e

forget_by_ids : (w : World) (k : ℕ) (m : Master) (r : Option Refusal) → Ids w → w.masters k ≡ Some m → Ids (forget_by w k m r)
forget_by_ids w k m (Some r) i e = i
forget_by_ids w k m None i e = speaks_ids w k m (forgets m) _ [] i e (refl, refl, refl) (finish_alike k (forgets m))

forget_ids : (w : World) (k : ℕ) (o : Option Master) → Ids w → w.masters k ≡ o → Ids (forget_at w k o)
forget_ids w k None i e = i
forget_ids w k (Some m) i e = forget_by_ids w k m (forget_refusal m) i e

resend_ids : (w : World) (k p : ℕ) (o : Option Master) → Ids w → Ids (resend_at w k p o)
resend_ids w k p None i = i
resend_ids w k p (Some m) i = record { lives = i.lives; owners = i.owners; once = i.once; single = i.single; low = i.low; inside = i.inside; manned = i.manned }

change_by_ids : (w : World) (k p : ℕ) (m : Master) (r : Option Refusal) → Ids w → w.masters k ≡ Some m → Ids (change_by w k p m r)
change_by_ids w k p m (Some r) i e = i
change_by_ids w k p m None i e = speaks_ids w k m m _ [] i e (refl, refl, refl) (one_alike k m p (Some Plain))

change_ids : (w : World) (k p : ℕ) (o : Option Master) → Ids w → w.masters k ≡ o → Ids (change_at w k p o)
change_ids w k p None i e = i
change_ids w k p (Some m) i e = change_by_ids w k p m (plain_refusal m p) i e

says_ids : (w : World) (ss : List Sent) → Ids w → Ids (says w ss)
says_ids w ss i = record { lives = i.lives; owners = i.owners; once = i.once; single = i.single; low = i.low; inside = i.inside; manned = i.manned }

happens_ids : (w : World) (s : Step) → Ids w → Ids (happens w s)
happens_ids w (Open p k) i = cond_all Ids (among p w.network.elements && is_some (controller_of w.network.controllers k)) (says w (sent p k Setup ∷ [])) w (λ _. says_ids w _ i) (λ _. i)
happens_ids w (Moment p ks) i = cond_all Ids (among p w.network.elements) (says w (murmurs p ks)) w (λ _. says_ids w _ i) (λ _. i)
happens_ids w (Change k p) i = change_ids w k p (w.masters k) i refl
happens_ids w (Deliver n ok) i = delivers_ids w ok (numbered w.sent n) i
happens_ids w (Start k r) i = cond_all Ids (may_start w k r) (starts w k r) w (λ e. let v = may_start_is w k r e in start_ids w k r v.0 v.1 v.2 i) (λ _. i)
happens_ids w (Stop k) i = record { lives = put_rest (LifeNumbered (at_start w)) w.masters k None tt (λ j _. i.lives j); owners = i.owners; once = i.once; single = i.single; low = i.low; inside = i.inside; manned = put_rest (λ _. Manned w.network.elements) w.masters k None tt (λ j _. i.manned j) }
happens_ids w (Begin k ps changes scopes) i = begin_ids w k ps changes scopes (w.masters k) i refl
happens_ids w (Give_up k y) i = give_up_ids w k y (w.masters k) i refl
happens_ids w (Resend k p) i = resend_ids w k p (w.masters k) i
happens_ids w (Forget k) i = forget_ids w k (w.masters k) i refl
happens_ids w (Restart p) i = cond_all Ids (among p w.network.elements) (restarts w p) w (λ _. record { lives = i.lives; owners = i.owners; once = i.once; single = i.single; low = i.low; inside = i.inside; manned = i.manned }) (λ _. i)

run_ids : (ss : List Step) (w : World) → Ids w → Ids (run ss w)
run_ids [] w i = i
run_ids (s ∷ ss) w i = run_ids ss (happens w s) (happens_ids w s i)

first_ids : (net : Network) → Ids (first_world net)
first_ids net = record { lives = λ _. tt; owners = λ b i. absurd i; once = λ a b i. absurd i; single = tt; low = λ b i. absurd i; inside = λ b i. absurd i; manned = λ _. tt }

-- the network stays as it is
to_master_net : (w : World) (p k : ℕ) (t : Message) (o : Option Master) → (to_master w p k t o).network ≡ w.network
to_master_net w p k t None = refl
to_master_net w p k t (Some m) = refl

delivered_net : (w : World) (ok : Circumstance) (p k : ℕ) (t : Message) → (delivered w ok p k t).network ≡ w.network
delivered_net w ok p k Setup = to_master_net w p k Setup (w.masters k)
delivered_net w ok p k (Request s b) = refl
delivered_net w ok p k (Reply s b) = to_master_net w p k (Reply s b) (w.masters k)
delivered_net w ok p k (Holds s e b) = to_master_net w p k (Holds s e b) (w.masters k)
delivered_net w ok p k (Tells s z e b) = to_master_net w p k (Tells s z e b) (w.masters k)
delivered_net w ok p k Beat = to_master_net w p k Beat (w.masters k)
delivered_net w ok p k (Unread s e) = to_master_net w p k (Unread s e) (w.masters k)
delivered_net w ok p k Other_up = to_master_net w p k Other_up (w.masters k)
delivered_net w ok p k Other_down = refl

delivers_net : (w : World) (ok : Circumstance) (o : Option Sent) → (delivers w ok o).network ≡ w.network
delivers_net w ok None = refl
delivers_net w ok (Some s) = delivered_net w ok s.element s.controller s.message

begin_by_net : (w : World) (k : ℕ) (ps : List ℕ) (changes : ℕ → ℕ) (scopes : ℕ → Scope) (m : Master) (r : Option Refusal) → (begin_by w k ps changes scopes m r).network ≡ w.network
begin_by_net w k ps changes scopes m (Some r) = refl
begin_by_net w k ps changes scopes m None = refl

begin_net : (w : World) (k : ℕ) (ps : List ℕ) (changes : ℕ → ℕ) (scopes : ℕ → Scope) (o : Option Master) → (begin_at w k ps changes scopes o).network ≡ w.network
begin_net w k ps changes scopes None = refl
begin_net w k ps changes scopes (Some m) = begin_by_net w k ps changes scopes m (begin_refusal m ps changes scopes)

give_up_by_net : (w : World) (k : ℕ) (y : Txn) (m : Master) (r : Option Refusal) → (give_up_by w k y m r).network ≡ w.network
give_up_by_net w k y m (Some r) = refl
give_up_by_net w k y m None = refl

give_up_net : (w : World) (k : ℕ) (y : Txn) (o : Option Master) → (give_up_at w k y o).network ≡ w.network
give_up_net w k y None = refl
give_up_net w k y (Some m) = give_up_by_net w k y m (give_up_refusal m y)

resend_net : (w : World) (k p : ℕ) (o : Option Master) → (resend_at w k p o).network ≡ w.network
resend_net w k p None = refl
resend_net w k p (Some m) = refl

change_by_net : (w : World) (k p : ℕ) (m : Master) (r : Option Refusal) → (change_by w k p m r).network ≡ w.network
change_by_net w k p m (Some r) = refl
change_by_net w k p m None = refl

change_net : (w : World) (k p : ℕ) (o : Option Master) → (change_at w k p o).network ≡ w.network
change_net w k p None = refl
change_net w k p (Some m) = change_by_net w k p m (plain_refusal m p)

forget_by_net : (w : World) (k : ℕ) (m : Master) (r : Option Refusal) → (forget_by w k m r).network ≡ w.network
forget_by_net w k m (Some r) = refl
forget_by_net w k m None = refl

forget_net : (w : World) (k : ℕ) (o : Option Master) → (forget_at w k o).network ≡ w.network
forget_net w k None = refl
forget_net w k (Some m) = forget_by_net w k m (forget_refusal m)

happens_net : (w : World) (s : Step) → (happens w s).network ≡ w.network
happens_net w (Open p k) = cond_all (λ (v : World). v.network ≡ w.network) (among p w.network.elements && is_some (controller_of w.network.controllers k)) (says w (sent p k Setup ∷ [])) w (λ _. refl) (λ _. refl)
happens_net w (Moment p ks) = cond_all (λ (v : World). v.network ≡ w.network) (among p w.network.elements) (says w (murmurs p ks)) w (λ _. refl) (λ _. refl)
happens_net w (Change k p) = change_net w k p (w.masters k)
happens_net w (Deliver n ok) = delivers_net w ok (numbered w.sent n)
happens_net w (Start k r) = cond_all (λ (v : World). v.network ≡ w.network) (may_start w k r) (starts w k r) w (λ _. refl) (λ _. refl)
happens_net w (Stop k) = refl
happens_net w (Begin k ps changes scopes) = begin_net w k ps changes scopes (w.masters k)
happens_net w (Give_up k y) = give_up_net w k y (w.masters k)
happens_net w (Resend k p) = resend_net w k p (w.masters k)
happens_net w (Forget k) = forget_net w k (w.masters k)
happens_net w (Restart p) = cond_all (λ (v : World). v.network ≡ w.network) (among p w.network.elements) (restarts w p) w (λ _. refl) (λ _. refl)

run_net : (ss : List Step) (w : World) → (run ss w).network ≡ w.network
run_net [] w = refl
run_net (s ∷ ss) w = run_net ss (happens w s) ∙ happens_net w s

-- the participants that x was begun with
abbrev pub parts_of : Txn → List Begun → List ℕ
parts_of x [] = []
parts_of x (b ∷ bs) = cond (same x b.txn) b.parts (parts_of x bs)

parts_in : (x : Txn) (bs : List Begun) (b : Begun) → In b bs → b.txn ≡ x → (a : Begun) × In a bs × (a.txn ≡ x) × (a.parts ≡ parts_of x bs)
parts_in x [] b i e = absurd i
parts_in x (a ∷ bs) b i e =
    ⊎_elim (λ s. (a, inl refl, sym (same_true x a.txn s), sym (cond_true _ a.parts _ s)))
    (λ s. ⊎_elim (λ u. let t : true ≡ false = sym (same_of x a.txn (sym e ∙ ap (λ (v : Begun). v.txn) u)) ∙ s in cc)
    (λ u. let r = parts_in x bs b u e in (r.0, inr r.1, r.2, r.3 ∙ sym (false_parts (same x a.txn) a.parts (parts_of x bs) s))) i) (both (same x a.txn))
  where
    false_parts : (b : Bool) (v w : List ℕ) → b ≡ false → cond b v w ≡ w
    false_parts true v w e = cc
    false_parts false v w e = refl

-- participants are elements
parts_inside : (x : Txn) (es : List ℕ) (bs : List Begun) → ((b : Begun) → In b bs → (q : ℕ) → among q b.parts ≡ true → among q es ≡ true) → (q : ℕ) → among q (parts_of x bs) ≡ true → among q es ≡ true
parts_inside x es [] f = λ q a. cc
parts_inside x es (b ∷ bs) f = cond_all (λ ps. (q : ℕ) → among q ps ≡ true → among q es ≡ true) (same x b.txn) b.parts (parts_of x bs) (λ _. f b (inl refl)) (λ _. parts_inside x es bs (λ c i. f c (inr i)))

within : (net : Network) (x : Txn) (w : World) → w.network ≡ net → Ids w → (q : ℕ) → among q (parts_of x w.begun) ≡ true → among q net.elements ≡ true
within net x w e i = parts_inside x net.elements w.begun (λ b n q a. ap (λ (v : Network). among q v.elements) (sym e) ∙ i.inside b n q a)

named : (w : World) (x : Txn) → Ids w → Named x (parts_of x w.begun) w.begun
named w x i b n e = let r = parts_in x w.begun b n e in i.once b r.0 n r.1 (e ∙ sym r.2) ∙ r.3

-- a job that is settled whole is settled at each participant
settled_among : (j : Job) (ps : List ℕ) (p : ℕ) → all_settled j ps ≡ true → among p ps ≡ true → j.settled p ≡ true
settled_among j [] p e a = cc
settled_among j (q ∷ ps) p e a =
    ⊎_elim (λ u. ap j.settled (eqb-true p q u) ∙ both_first (j.settled q) _ e) (λ u. settled_among j ps p (both_second (j.settled q) _ e) (or_false (p == q) (among p ps) u a)) (both (p == q))
  where
    or_false : (a b : Bool) → a ≡ false → (a || b) ≡ true → b ≡ true
    or_false true b e f = cc
    or_false false b e f = f

singles_at : (later before : List Begun) (a : Begun) → Singles (later ++ a ∷ before) → (b : Begun) → In b before → b.txn ≡ a.txn → ⊥
singles_at [] before a s = s.0
singles_at (c ∷ later) before a s = singles_at later before a s.1

module _ (net : Network) (ss : List Step) where
  abbrev pub world : World
  world = run ss (first_world net)

  pub goes : (x : Txn) → Bound x (parts_of x world.begun) world
  goes x =
      let v = run_tied x (parts_of x world.begun) ss (first_world net) start (named world x (run_ids ss (first_world net) (first_ids net))) (first_tied x (parts_of x world.begun) net (within net x world (run_net ss (first_world net)) (run_ids ss (first_world net) (first_ids net)))) in
      (v.0, v.2)

  pub ids : Ids world
  ids = run_ids ss (first_world net) (first_ids net)

  pub agree_law : Agree world.facts
  agree_law x p q d g = agrees x (parts_of x world.begun) world (goes x) p q d g

  pub once_law : SettleOnce world.facts
  once_law x p d g later before = settles_once x (parts_of x world.begun) world (goes x) p d g later before

  pub ready_law : Ready world.facts
  ready_law x p later before = readies x (parts_of x world.begun) world (goes x) p later before

  pub one_plan_law : OnePlan world.facts
  one_plan_law x p q ps qs = opens_alike x (parts_of x world.begun) world (goes x) p q ps qs

  pub settled_law : Settled world
  settled_law k m j p e i s = settled_there j.txn (parts_of j.txn world.begun) world (goes j.txn) k m j p e i refl s

  pub settled_whole_law : SettledWhole world
  settled_whole_law k m j p e i s a = settled_law k m j p e i (settled_among j j.parts p s a)

  pub begun_once_law : BegunOnce world
  begun_once_law a b later before e i t = singles_at later before a (subst Singles e ids.single) b i (sym t)

  pub says_once_law : SaysOnce world
  says_once_law x p q j k m n = says_apart x (parts_of x world.begun) world (goes x) p q j k m n

  pub says_decision_law : SaysDecision world
  says_decision_law x p j k m n = says_decided x (parts_of x world.begun) world (goes x) p j k m n

  pub follows_core_law : (more : List Step) → FollowsCore world (run more world)
  follows_core_law more x =
      let v = run more world in
      let ps = parts_of x v.begun in
      let all = named v x (run_ids more world ids) in
      let a = run_tied x ps ss (first_world net) start (λ b i e. all b (begun_run x ps more world b i) e) (first_tied x ps net (within net x v (run_net more world ∙ run_net ss (first_world net)) (run_ids more world ids))) in
      let b = run_tied x ps more world a.0 all a.2 in
      let now : Mirrors x (moves x.epoch ps a.1.0 start) world = subst (λ (c : Core). Mirrors x c world) (sym a.1.1) (mirrors x ps world a.0 a.2) in
      let then : Mirrors x (moves x.epoch ps b.1.0 (moves x.epoch ps a.1.0 start)) v = subst (λ (c : Core). Mirrors x c v) (sym (ap (moves x.epoch ps b.1.0) a.1.1 ∙ b.1.1)) (mirrors x ps v b.0 b.2) in
      (ps, all, a.1.0, b.1.0, now, then)

  pub floors_settle_law : FloorsSettle world
  floors_settle_law x f p q k m = below_settled x (parts_of x world.begun) world (goes x) f p q k m

  pub floors_reach_law : FloorsReach world
  floors_reach_law f p q k m = floor_reached f (parts_of f world.begun) world (goes f) f p q k m

  pub floors_answered_law : FloorsAnswered world
  floors_answered_law f p q j k m n e i l a =
      let x : Txn = record { epoch = 0; number = 0 } in
      let b = goes x in
      let manned : m.elements ≡ world.network.elements = subst (Manned world.network.elements) e (ids.manned k) in
      floor_answered x (parts_of x world.begun) world b f p q j k m n e i l (under_is x f (inl (floor_life x (parts_of x world.begun) world b f q j n i))) (ap (among p) manned ∙ a)

  pub at_rest_law : AtRest world
  at_rest_law k m e = calm_finishes k m (subst LifeCalm e (all_calm net ss k))

  -- the parts of a transaction that was begun fit in their 32 bits
  begun_low : (b : Begun) → In b world.begun → (b.txn.epoch < 2 ^ 32) × (b.txn.number < 2 ^ 32)
  begun_low b i =
      let v = ids.owners b i in
      let l = v.1 in
      let e : b.txn.epoch ≡ 256 * l.0 + v.0 = l.2 in
      let k : v.0 < 256 = l.3 in
      let r : l.0 < 2 ^ 24 = l.4 in
      let n : b.txn.number ≤ last_count = ids.low b i in
      (omega arith, omega arith)

  -- and so do those of one of which there is a record, since it was begun
  record_low : (p : ℕ) (n : TxnEntry) → In n (world.at p).records → (n.txn.epoch < 2 ^ 32) × (n.txn.number < 2 ^ 32)
  record_low p n i =
      let ps = parts_of n.txn world.begun in
      let g = goes n.txn in
      let b = (all_in (EntryFine n.txn ps (past world g.0) (world.at p).epoch) n (world.at p).records (g.1.elements p).entries i refl).2 in
      subst (λ (z : Txn). (z.epoch < 2 ^ 32) × (z.number < 2 ^ 32)) b.2 (begun_low b.0 b.1)

  pub bounded_law : Bounded world
  bounded_law = let y : Txn = record { epoch = 0; number = 0 } in bounded y (parts_of y world.begun) world (goes y) begun_low record_low
