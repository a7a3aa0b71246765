-- A whole run is moves of the core, and what its facts show.
use Rattle.std.proofs.Common.{◌≡◌, ℕ, ◌+◌, ◌*◌, ◌^◌, ◌<◌, ◌≤◌, ◌&&◌, true, false, List, [], ◌∷◌, ◌++◌, Option, Some, None, is_some, inr, ⊎_elim, refl, sym, ap, ◌∙◌, subst, arith}
use Rattle.fc_agreement.specs.Agreement.{decision_of, Mirrors, Bounded}
use Rattle.fc_protocol.specs.Collections.{among}
use Rattle.fc_agreement.specs.Core.{Core}
use Rattle.fc_protocol.specs.ElementMachine.{Circumstance}
use Rattle.fc_protocol.specs.Floors.{is_under, is_below}
use Rattle.fc_protocol.specs.Jobs.{Job, find}
use Rattle.fc_protocol.specs.MasterMachine.{last_count, Refusal, begin_refusal, plain_refusal, give_up_refusal, forget_refusal, Master}
use Rattle.fc_protocol.specs.Messages.{same, Floor, Trcomp, Abt, Beat, Unread, Stamp, Message, Setup, Request, Reply, Holds, Tells, Other_up, Other_down, Sent, sent}
use Rattle.fc_protocol.specs.OneElement.{end_of as record_end}
use Rattle.fc_protocol.specs.Records.{seen, state_of, is_held}
use Rattle.fc_protocol.specs.Trace.{Fact, Opened_at, Prepared_at, Settled_at}
use Rattle.fc_protocol.specs.WorldSteps.{Open, Give_up, controller_of, World, Begun, Step, Deliver, Moment, Start, Stop, Begin, Change, Resend, Forget, forget_by, forget_at, Restart, restarts, murmurs, numbered, may_start, begin_by, give_up_by, change_by, change_at, says, to_master, delivered, delivers, starts, begin_at, give_up_at, resend_at, happens, run}
use Rattle.fc_protocol.specs.Scopes.{Scope}
use Rattle.fc_protocol.specs.declared.states.Decision.{Decision}
use Rattle.fc_protocol.specs.declared.states.Decision.TheVariants.{Complete, Abort}
use Rattle.fc_protocol.specs.declared.answers.TxnEntry.{TxnEntry}
use Rattle.fc_protocol.specs.declared.states.Seen.{Seen}
use Rattle.fc_protocol.specs.declared.states.Seen.TheVariants.{Absent, Started, Prepared, Completed, Aborted}
use Rattle.fc_protocol.specs.declared.states.TxnState.{TxnState}
use Rattle.fc_protocol.specs.declared.states.TxnState.TheVariants.{Started as RecordStarted, Prepared as RecordPrepared, Completed as RecordCompleted, Aborted as RecordAborted}
use Rattle.fc_base.specs.Ids.{Txn}
use Rattle.fc_protocol.proofs.Basics.{In, AllOf, all_in, both, cond_false, same_true}
use Rattle.fc_agreement.proofs.Facts.{Past, past, EntryFine, Named, RequestFine, JobFine, Tied, GoodFact, GoodFacts, done}
use Rattle.fc_agreement.proofs.Keeps.{agree}
use Rattle.fc_agreement.proofs.Sealing.{is_live}
use Rattle.fc_agreement.proofs.Moves.{leads_then, live_in}
use Rattle.fc_agreement.proofs.Hears.{cond_all}
use Rattle.fc_agreement.proofs.Binding.{Goes, master_is, request_low, happens_tied}

module _ (x : Txn) (parts : List ℕ) where
  abbrev pub Bound : World → Type 0
  Bound w = (c : Core) × Tied x parts w c

  begun_master : (w : World) (p k : ℕ) (i : Message) (o : Option Master) → (to_master w p k i o).begun ≡ w.begun
  begun_master w p k i None = refl
  begun_master w p k i (Some m) = refl

  begun_delivered : (w : World) (ok : Circumstance) (p k : ℕ) (i : Message) → (delivered w ok p k i).begun ≡ w.begun
  begun_delivered w ok p k Setup = begun_master w p k Setup (w.masters k)
  begun_delivered w ok p k (Request s b) = refl
  begun_delivered w ok p k (Reply s b) = begun_master w p k (Reply s b) (w.masters k)
  begun_delivered w ok p k (Holds s e b) = begun_master w p k (Holds s e b) (w.masters k)
  begun_delivered w ok p k (Tells s z e b) = begun_master w p k (Tells s z e b) (w.masters k)
  begun_delivered w ok p k Beat = begun_master w p k Beat (w.masters k)
  begun_delivered w ok p k (Unread s e) = begun_master w p k (Unread s e) (w.masters k)
  begun_delivered w ok p k Other_up = begun_master w p k Other_up (w.masters k)
  begun_delivered w ok p k Other_down = refl

  begun_delivers : (w : World) (ok : Circumstance) (o : Option Sent) → (delivers w ok o).begun ≡ w.begun
  begun_delivers w ok None = refl
  begun_delivers w ok (Some s) = begun_delivered w ok s.element s.controller s.message

  begun_begin_by : (w : World) (k : ℕ) (ps : List ℕ) (changes : ℕ → ℕ) (scopes : ℕ → Scope) (m : Master) (r : Option Refusal) (b : Begun) → In b w.begun → In b (begin_by w k ps changes scopes m r).begun
  begun_begin_by w k ps changes scopes m (Some r) b i = i
  begun_begin_by w k ps changes scopes m None b i = inr i

  begun_begin : (w : World) (k : ℕ) (ps : List ℕ) (changes : ℕ → ℕ) (scopes : ℕ → Scope) (o : Option Master) (b : Begun) → In b w.begun → In b (begin_at w k ps changes scopes o).begun
  begun_begin w k ps changes scopes None b i = i
  begun_begin w k ps changes scopes (Some m) b i = begun_begin_by w k ps changes scopes m (begin_refusal m ps changes scopes) b i

  begun_give_up_by : (w : World) (k : ℕ) (y : Txn) (m : Master) (r : Option Refusal) → (give_up_by w k y m r).begun ≡ w.begun
  begun_give_up_by w k y m (Some r) = refl
  begun_give_up_by w k y m None = refl

  begun_give_up : (w : World) (k : ℕ) (y : Txn) (o : Option Master) → (give_up_at w k y o).begun ≡ w.begun
  begun_give_up w k y None = refl
  begun_give_up w k y (Some m) = begun_give_up_by w k y m (give_up_refusal m y)

  begun_forget_by : (w : World) (k : ℕ) (m : Master) (r : Option Refusal) → (forget_by w k m r).begun ≡ w.begun
  begun_forget_by w k m (Some r) = refl
  begun_forget_by w k m None = refl

  begun_forget : (w : World) (k : ℕ) (o : Option Master) → (forget_at w k o).begun ≡ w.begun
  begun_forget w k None = refl
  begun_forget w k (Some m) = begun_forget_by w k m (forget_refusal m)

  begun_resend : (w : World) (k p : ℕ) (o : Option Master) → (resend_at w k p o).begun ≡ w.begun
  begun_resend w k p None = refl
  begun_resend w k p (Some m) = refl

  begun_change_by : (w : World) (k p : ℕ) (m : Master) (r : Option Refusal) → (change_by w k p m r).begun ≡ w.begun
  begun_change_by w k p m (Some r) = refl
  begun_change_by w k p m None = refl

  begun_change : (w : World) (k p : ℕ) (o : Option Master) → (change_at w k p o).begun ≡ w.begun
  begun_change w k p None = refl
  begun_change w k p (Some m) = begun_change_by w k p m (plain_refusal m p)

  pub begun_on : (w : World) (s : Step) (b : Begun) → In b w.begun → In b (happens w s).begun
  begun_on w (Open p k) b i = cond_all (λ (v : World). In b v.begun) (among p w.network.elements && is_some (controller_of w.network.controllers k)) (says w (sent p k Setup ∷ [])) w (λ _. i) (λ _. i)
  begun_on w (Moment p ks) b i = cond_all (λ (v : World). In b v.begun) (among p w.network.elements) (says w (murmurs p ks)) w (λ _. i) (λ _. i)
  begun_on w (Change k p) b i = subst (In b) (sym (begun_change w k p (w.masters k))) i
  begun_on w (Deliver n ok) b i = subst (In b) (sym (begun_delivers w ok (numbered w.sent n))) i
  begun_on w (Start k r) b i = cond_all (λ (v : World). In b v.begun) (may_start w k r) (starts w k r) w (λ _. i) (λ _. i)
  begun_on w (Stop k) b i = i
  begun_on w (Begin k ps changes scopes) b i = begun_begin w k ps changes scopes (w.masters k) b i
  begun_on w (Give_up k y) b i = subst (In b) (sym (begun_give_up w k y (w.masters k))) i
  begun_on w (Resend k p) b i = subst (In b) (sym (begun_resend w k p (w.masters k))) i
  begun_on w (Forget k) b i = subst (In b) (sym (begun_forget w k (w.masters k))) i
  begun_on w (Restart p) b i = cond_all (λ (v : World). In b v.begun) (among p w.network.elements) (restarts w p) w (λ _. i) (λ _. i)

  pub begun_run : (ss : List Step) (w : World) (b : Begun) → In b w.begun → In b (run ss w).begun
  begun_run [] w b i = i
  begun_run (s ∷ ss) w b i = begun_run ss (happens w s) b (begun_on w s b i)

  pub run_tied : (ss : List Step) (w : World) (c : Core) → Named x parts (run ss w).begun → Tied x parts w c → Goes x parts c (run ss w)
  run_tied [] w c n t = (c, ([], refl), t)
  run_tied (s ∷ ss) w c n t =
      let u = happens_tied x parts w c s (λ b i e. n b (begun_run ss (happens w s) b i) e) t in
      let v = run_tied ss (happens w s) u.0 n u.2 in
      (v.0, leads_then x.epoch parts c u.0 v.0 u.1 v.1, v.2)

  -- the facts of a whole run

  agreed : (d g : Decision) → (d ≡ Complete → g ≡ Abort → ⊥) → (g ≡ Complete → d ≡ Abort → ⊥) → d ≡ g
  agreed Complete Complete f h = refl
  agreed Complete Abort f h = absurd (f refl refl)
  agreed Abort Complete f h = absurd (h refl refl)
  agreed Abort Abort f h = refl

  apart : (w : World) (c : Core) → Tied x parts w c → (p q : ℕ) (d g : Decision) → In (Settled_at p x d) w.facts → In (Settled_at q x g) w.facts → d ≡ Complete → g ≡ Abort → ⊥
  apart w c t p q d g i n a b =
      let r = t.reached in
      agree x.epoch parts r.0 p q (ap (λ (v : Core). (v.at p).state) r.1 ∙ (t.marks p).settled d i ∙ ap done a) (ap (λ (v : Core). (v.at q).state) r.1 ∙ (t.marks q).settled g n ∙ ap done b)

  pub agrees : (w : World) → Bound w → (p q : ℕ) (d g : Decision) → In (Settled_at p x d) w.facts → In (Settled_at q x g) w.facts → d ≡ g
  agrees w u p q d g i n = agreed d g (apart w u.0 u.1 p q d g i n) (apart w u.0 u.1 q p g d n i)

  good_at : (later before : List Fact) (f : Fact) → GoodFacts x parts (later ++ f ∷ before) → GoodFact x parts before f
  good_at [] before f g = g.0
  good_at (e ∷ later) before f g = good_at later before f g.1

  pub settles_once : (w : World) → Bound w → (p : ℕ) (d g : Decision) (later before : List Fact) → w.facts ≡ later ++ Settled_at p x d ∷ before → In (Settled_at p x g) before → ⊥
  settles_once w u p d g later before e = (good_at later before (Settled_at p x d) (subst (GoodFacts x parts) e u.1.good) refl).0 g

  pub readies : (w : World) → Bound w → (p : ℕ) (later before : List Fact) → w.facts ≡ later ++ Settled_at p x Complete ∷ before → (ps : List ℕ) × In (Opened_at p x ps) before × ((q : ℕ) → among q ps ≡ true → In (Prepared_at q x) before)
  readies w u p later before e = let v = (good_at later before (Settled_at p x Complete) (subst (GoodFacts x parts) e u.1.good) refl).1 refl in (parts, v.0, v.1)

  opened_of : (fs : List Fact) (p : ℕ) (ps : List ℕ) → GoodFacts x parts fs → In (Opened_at p x ps) fs → ps ≡ parts
  opened_of [] p ps g i = absurd i
  opened_of (f ∷ fs) p ps g i = ⊎_elim (λ e. let h : GoodFact x parts fs (Opened_at p x ps) = subst (GoodFact x parts fs) (sym e) g.0 in (h refl).0) (λ n. opened_of fs p ps g.1 n) i

  pub opens_alike : (w : World) → Bound w → (p q : ℕ) (ps qs : List ℕ) → In (Opened_at p x ps) w.facts → In (Opened_at q x qs) w.facts → ps ≡ qs
  opens_alike w u p q ps qs i n = opened_of w.facts p ps u.1.good i ∙ sym (opened_of w.facts q qs u.1.good n)

  -- what a master counts as settled
  pub settled_there : (w : World) → Bound w → (k : ℕ) (m : Master) (j : Job) (p : ℕ) → w.masters k ≡ Some m → In j m.jobs → j.txn ≡ x → j.settled p ≡ true → (d : Decision) × (j.decision ≡ Some d) × In (Settled_at p x d) w.facts
  settled_there w u k m j p e i t s =
      let f = master_is x parts (past w u.0) k (w.masters k) m e (u.1.masters k) in
      let v = (all_in (JobFine x parts (past w u.0) m.epoch) j m.jobs f.jobs.each i t).settled p s in
      (v.0, v.1, (u.1.marks p).ended v.0 v.2)

  -- no life says both ends
  pub says_apart : (w : World) → Bound w → (p q j k : ℕ) (m n : Stamp) → In (sent p j (Request m (Trcomp x))) w.sent → In (sent q k (Request n (Abt x))) w.sent → m.life ≡ n.life → ⊥
  says_apart w u p q j k m n a b e =
      let f : RequestFine x parts (past w u.0) j p m (Trcomp x) = u.1.sent (sent p j (Request m (Trcomp x))) a in
      let g : RequestFine x parts (past w u.0) k q n (Abt x) = u.1.sent (sent q k (Request n (Abt x))) b in
      let clash : Some Complete ≡ Some Abort = sym (f.means refl).0 ∙ ap u.0.decided e ∙ (g.means refl).0 in
      cc

  -- what a life says of the end is its decision
  pub says_decided : (w : World) → Bound w → (p j k : ℕ) (m : Master) (n : Stamp) → w.masters k ≡ Some m → n.life ≡ m.epoch
      → (In (sent p j (Request n (Trcomp x))) w.sent → decision_of (find x m.jobs) ≡ Some Complete) × (In (sent p j (Request n (Abt x))) w.sent → decision_of (find x m.jobs) ≡ Some Abort)
  says_decided w u p j k m n e l =
      let f = master_is x parts (past w u.0) k (w.masters k) m e (u.1.masters k) in
      let own : decision_of (find x m.jobs) ≡ u.0.decided n.life = sym f.jobs.decided ∙ ap u.0.decided (sym l) in (
        (λ a. let g : RequestFine x parts (past w u.0) j p n (Trcomp x) = u.1.sent (sent p j (Request n (Trcomp x))) a in own ∙ (g.means refl).0),
        (λ a. let g : RequestFine x parts (past w u.0) j p n (Abt x) = u.1.sent (sent p j (Request n (Abt x))) a in own ∙ (g.means refl).0),
      )

  -- the world is what the core tells
  pub mirrors : (w : World) (c : Core) → Tied x parts w c → Mirrors x c w
  mirrors w c t = (
    (λ p. (sym (t.elements p).epoch, λ b. sym ((t.elements p).state b))),
    (λ p d. ((λ i. (t.marks p).settled d i ∙ sym (ended d)), (λ e. (t.marks p).ended d (e ∙ ended d)))),
    (λ p. (t.marks p).prepared),
    (λ k m e. (master_is x parts (past w c) k (w.masters k) m e (t.masters k)).jobs.decided),
  )
    where
      ended : (d : Decision) → seen (Some (record_end d)) ≡ done d
      ended Complete = refl
      ended Abort = refl

  -- what is below a floor that was sent has settled
  end_of : (s : Seen) → is_live s ≡ false → (s ≡ Absent → ⊥) → (d : Decision) × (s ≡ done d)
  end_of Absent l n = absurd (n refl)
  end_of Started l n = let u : true ≡ false = l in cc
  end_of Prepared l n = let u : true ≡ false = l in cc
  end_of Completed l n = (Complete, refl)
  end_of Aborted l n = (Abort, refl)

  opened_low : (fs : List Fact) (p : ℕ) (ps : List ℕ) → GoodFacts x parts fs → In (Opened_at p x ps) fs → 0 < x.number
  opened_low [] p ps g i = absurd i
  opened_low (f ∷ fs) p ps g i = ⊎_elim (λ e. let h : GoodFact x parts fs (Opened_at p x ps) = subst (GoodFact x parts fs) (sym e) g.0 in (h refl).1) (λ n. opened_low fs p ps g.1 n) i

  -- no element holds it
  below_dead : (w : World) (c : Core) → Tied x parts w c → (p q k : ℕ) (m : Stamp) (f : Txn) → In (sent q k (Request m (Floor f))) w.sent → is_under x f ≡ true → 0 < x.number → is_live (c.at p).state ≡ false
  below_dead w c t p q k m f i u n =
      let g : RequestFine x parts (past w c) k q m (Floor f) = t.sent (sent q k (Request m (Floor f))) i in
      ⊎_elim (λ l. (g.means.1 u n p (live_in x.epoch parts c p t.reached l)).shut.0) (λ l. l) (both (is_live (c.at p).state))

  pub floor_reached : (w : World) → Bound w → (f : Txn) (p q k : ℕ) (m : Stamp) → In (sent q k (Request m (Floor f))) w.sent → among p w.network.elements ≡ true → (f.epoch ≡ m.life) × (m.life ≤ (w.at p).epoch)
  floor_reached w b f p q k m i a =
      let c = b.0 in
      let g : RequestFine x parts (past w c) k q m (Floor f) = b.1.sent (sent q k (Request m (Floor f))) i in
      let at : f.epoch ≡ m.life = g.means.0 in
      let up : m.life ≤ (c.at p).epoch = g.means.3 p a in
      let same_epoch : (w.at p).epoch ≡ (c.at p).epoch = (b.1.elements p).epoch in
      (at, omega arith)

  -- while the life of a floor runs, each of its elements has answered it; here x is below the floor
  pub floor_answered : (w : World) → Bound w → (f : Txn) (p q j k : ℕ) (m : Master) (n : Stamp) → w.masters k ≡ Some m → In (sent q j (Request n (Floor f))) w.sent → n.life ≡ m.epoch → is_under x f ≡ true → among p m.elements ≡ true → (m.at p).answered ≡ true
  floor_answered w b f p q j k m n e i l u a =
      let v = master_is x parts (past w b.0) k (w.masters k) m e (b.1.masters k) in
      let known = (v.forgets.floors q j n f i l).1 u in
      known.0 p a

  -- a floor that was sent is of a life
  pub floor_life : (w : World) → Bound w → (f : Txn) (q j : ℕ) (n : Stamp) → In (sent q j (Request n (Floor f))) w.sent → 0 < f.epoch
  floor_life w b f q j n i =
      let g : RequestFine x parts (past w b.0) j q n (Floor f) = b.1.sent (sent q j (Request n (Floor f))) i in
      let at : f.epoch ≡ n.life = g.means.0 in
      let e : n.life ≡ 256 * g.life.0 + j = g.life.2 in
      let r : 0 < g.life.0 = g.life.5 in
      omega arith

  pub below_settled : (w : World) → Bound w → (f : Txn) (p q k : ℕ) (m : Stamp) → In (sent q k (Request m (Floor f))) w.sent → is_under x f ≡ true
      → ((s : TxnState) → state_of x (w.at p).records ≡ Some s → is_held s ≡ false) × ((ps : List ℕ) → In (Opened_at p x ps) w.facts → (d : Decision) × In (Settled_at p x d) w.facts)
  below_settled w b f p q k m i u =
      let c = b.0 in
      let t = b.1 in
      let e = t.elements p in (
        (λ s r.
            ⊎_elim (λ z. let v : None ≡ Some s = sym (e.gone z).0 ∙ r in cc)
            (λ z. not_held_now s (λ l.
            let born = state_born (w.at p).records s (past w c) (w.at p).epoch e.entries r in
            sym (ap is_live (sym (e.state z) ∙ ap seen r)) ∙ below_dead w c t p q k m f i u born)) (both (is_below x (w.at p).floor))),
        (λ ps o.
            let v = end_of (c.at p).state (below_dead w c t p q k m f i u (opened_low w.facts p ps t.good o)) ((t.marks p).was ps o) in
            (v.0, (t.marks p).ended v.0 v.1)),
      )
    where
      not_held_now : (s : TxnState) → (is_held s ≡ true → is_live (seen (Some s)) ≡ false) → is_held s ≡ false
      not_held_now RecordStarted f = let u : true ≡ false = f refl in cc
      not_held_now RecordPrepared f = let u : true ≡ false = f refl in cc
      not_held_now RecordCompleted f = refl
      not_held_now RecordAborted f = refl

      state_born : (ns : List TxnEntry) (s : TxnState) (h : Past) (d : ℕ) → AllOf (EntryFine x parts h d) ns → state_of x ns ≡ Some s → 0 < x.number
      state_born [] s h d a r = cc
      state_born (n ∷ ns) s h d a r = ⊎_elim (λ v. (a.0 (sym (same_true x n.txn v))).2.3) (λ v. state_born ns s h d a.1 (sym (cond_false (same x n.txn) (Some n.state) (state_of x ns) v) ∙ r)) (both (same x n.txn))

  -- all numbers fit in their 32 bits
  pub bounded : (w : World) → Bound w → ((b : Begun) → In b w.begun → (b.txn.epoch < 2 ^ 32) × (b.txn.number < 2 ^ 32)) → ((p : ℕ) (n : TxnEntry) → In n (w.at p).records → (n.txn.epoch < 2 ^ 32) × (n.txn.number < 2 ^ 32)) → Bounded w
  bounded w u begun_low record_low =
      let c = u.0 in
      let t = u.1 in (
        (λ p k m b i.
            let f : RequestFine x parts (past w c) k p m b = t.sent (sent p k (Request m b)) i in
            let l : m.life < 2 ^ 32 = (request_low x parts (past w c) k p m b f).0 in
            let n : m.count ≤ last_count = f.low in
            (l, omega arith)),
        (λ p. let l = (t.elements p).low in let n : (w.at p).sequence ≤ last_count = l.1 in (l.0, omega arith)),
        (λ p k m f i.
            let q : RequestFine x parts (past w c) k p m (Floor f) = t.sent (sent p k (Request m (Floor f))) i in
            let l : m.life < 2 ^ 32 = (request_low x parts (past w c) k p m (Floor f) q).0 in
            let e : f.epoch ≡ m.life = q.means.0 in
            let n : f.number ≤ last_count = q.means.2 in
            (omega arith, omega arith)),
        (λ p f i.
            let g = (t.elements p).floor f i in
            let s : Stamp = g.1 in
            let q : RequestFine x parts (past w c) g.0 p s (Floor f) = t.sent (sent p g.0 (Request s (Floor f))) g.2 in
            let l : s.life < 2 ^ 32 = (request_low x parts (past w c) g.0 p s (Floor f) q).0 in
            let e : f.epoch ≡ s.life = q.means.0 in
            let n : f.number ≤ last_count = q.means.2 in
            (omega arith, omega arith)),
        (λ k m e.
            let f = master_is x parts (past w c) k (w.masters k) m e (t.masters k) in
            let n : m.begun ≤ last_count = f.low in
            let g : m.epoch ≡ 256 * f.life.0 + k = f.life.2 in
            let i : k < 256 = f.life.3 in
            let j : f.life.0 < 2 ^ 24 = f.life.4 in (
              omega arith,
              omega arith,
              (λ p.
                  let l = (f.peers p).low in
                  let a : (m.at p).last ≤ last_count = l.0 in
                  let b : (m.at p).queries ≤ last_count = l.1 in
                  (omega arith, omega arith)),
            )),
        begun_low,
        record_low,
      )
