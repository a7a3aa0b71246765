-- For forgetting: an element that does not hold the transaction, and can no longer open it, stays so under every move, and tells no later life that it holds it.
use Rattle.std.proofs.Common.{◌≡◌, ℕ, zero, suc, ◌<◌, ◌≤◌, ◌==◌, ◌&&◌, Bool, true, false, cond, nat_lt, List, [], ◌∷◌, slice_get, Option, Some, None, is_none, refl, sym, ap, ◌∙◌, subst, arith, eqb-true}
use Rattle.fc_protocol.specs.Collections.{among}
use Rattle.fc_agreement.specs.Core.{Note, Element, Core, Move, Raise, Open, Fail, Prepare, Tell, Decide, Give_up, Commit, Settle, start, moved, moves, decides_by, commits_by, settles_by, changed, decides, to, raised, settled, answers}
use Rattle.fc_protocol.specs.Decide.{every, is_absent, is_started, is_prepared}
use Rattle.fc_protocol.specs.declared.states.Decision.{Decision}
use Rattle.fc_protocol.specs.declared.states.Decision.TheVariants.{Complete, Abort}
use Rattle.fc_protocol.specs.declared.states.Seen.{Seen}
use Rattle.fc_protocol.specs.declared.states.Seen.TheVariants.{Absent, Started, Prepared, Completed, Aborted}
use Rattle.fc_protocol.proofs.Puts.{both_first, both_second}
use Rattle.fc_agreement.proofs.States.{was_absent, was_started}
use Rattle.fc_protocol.proofs.Basics.{put_rest}

-- started or prepared
abbrev pub is_live : Seen → Bool
is_live Absent = false
is_live Started = true
is_live Prepared = true
is_live Completed = false
is_live Aborted = false

lt_of : (m n : ℕ) → nat_lt m n ≡ true → m < n
lt_of m n h = grind arith

keep_if : (P : Core → Type 0) (b : Bool) (c d : Core) → (b ≡ true → P d) → P c → P (cond b d c)
keep_if P true c d f h = f refl
keep_if P false c d f h = h

module _ (own : ℕ) (parts : List ℕ) where
  -- not held, and not to be opened any more
  abbrev pub Shut : Element → Type 0
  Shut y = (is_live y.state ≡ false) × (y.state ≡ Absent → own < y.epoch)

  -- p is shut, and has told no life above e that it holds the transaction
  pub record Sealed (e p : ℕ) (c : Core) : Type 0 where
    pub shut : Shut (c.at p)
    pub unheld : (w : ℕ) (n : Note) → slice_get c.notes w ≡ Some n → n.element ≡ p → e < n.life → is_live n.state ≡ false

  raised_shut : (s : Seen) (k e : ℕ) → k < e → (is_live s ≡ false) × (s ≡ Absent → own < k) → (is_live (raised s) ≡ false) × (raised s ≡ Absent → own < e)
  raised_shut Absent k e l h = (refl, (λ _. let u : own < k = h.1 refl in omega arith))
  raised_shut Started k e l h = (refl, (λ u. cc))
  raised_shut Prepared k e l h = let u : true ≡ false = h.0 in cc
  raised_shut Completed k e l h = (refl, (λ u. cc))
  raised_shut Aborted k e l h = (refl, (λ u. cc))

  settled_shut : (d : Decision) (s : Seen) (k : ℕ) → (is_live s ≡ false) × (s ≡ Absent → own < k) → (is_live (settled d s) ≡ false) × (settled d s ≡ Absent → own < k)
  settled_shut Complete Absent k h = h
  settled_shut Abort Absent k h = (refl, (λ u. cc))
  settled_shut d Started k h = let u : true ≡ false = h.0 in cc
  settled_shut d Prepared k h = let u : true ≡ false = h.0 in cc
  settled_shut Complete Completed k h = h
  settled_shut Abort Completed k h = h
  settled_shut Complete Aborted k h = h
  settled_shut Abort Aborted k h = h

  one_shut : (e p q : ℕ) (c : Core) (y : Element) → (Shut (c.at q) → Shut y) → Sealed e p c → Sealed e p (changed c q y)
  one_shut e p q c y k s = record {
    shut = put_rest (λ r v. r ≡ p → Shut v) c.at q y (λ i. k (subst (λ r. Shut (c.at r)) (sym i) s.shut)) (λ r _ i. subst (λ v. Shut (c.at v)) (sym i) s.shut) p refl;
    unheld = s.unheld;
  }

  told_shut : (e p q : ℕ) (c : Core) → Sealed e p c → (w : ℕ) (n : Note) → slice_get (record { life = (c.at q).epoch; element = q; state = (c.at q).state } ∷ c.notes) w ≡ Some n → n.element ≡ p → e < n.life → is_live n.state ≡ false
  told_shut e p q c s zero n i k l =
      let same : record { life = (c.at q).epoch; element = q; state = (c.at q).state } ≡ n = cc in
      let here : q ≡ p = ap (λ (m : Note). m.element) same ∙ k in
      ap (λ (m : Note). is_live m.state) (sym same) ∙ ap (λ r. is_live (c.at r).state) here ∙ s.shut.0
  told_shut e p q c s (suc w) n i k l = s.unheld w n i k l

  by_option : (e p : ℕ) (c : Core) (f : ℕ) (o : Option (List Seen)) → Sealed e p c → Sealed e p (decides_by c f o)
  by_option e p c f None s = s
  by_option e p c f (Some ss) s = record { shut = s.shut; unheld = s.unheld }

  by_commit : (e p : ℕ) (c : Core) (o : Option (List Seen)) → Sealed e p c → Sealed e p (commits_by c own o)
  by_commit e p c None s = s
  by_commit e p c (Some ss) s = keep_if (Sealed e p) (every is_prepared ss) c (decides c own Complete) (λ _. record { shut = s.shut; unheld = s.unheld }) s

  by_settle : (e p q : ℕ) (c : Core) (o : Option Decision) → Sealed e p c → Sealed e p (settles_by c q o)
  by_settle e p q c None s = s
  by_settle e p q c (Some d) s = one_shut e p q c (to (c.at q) (settled d (c.at q).state)) (λ h. settled_shut d (c.at q).state (c.at q).epoch h) s

  started_live : {P : Type 0} (s : Seen) → s ≡ Started → is_live s ≡ false → P
  started_live s e h = let u : true ≡ false = ap is_live (sym e) ∙ h in cc

  sealed_moved : (e p : ℕ) (c : Core) (m : Move) → Sealed e p c → Sealed e p (moved own parts c m)
  sealed_moved e p c (Raise q f) s = keep_if (Sealed e p) (nat_lt (c.at q).epoch f) c _ (λ t. one_shut e p q c _ (λ h. raised_shut (c.at q).state (c.at q).epoch f (lt_of _ _ t) h) s) s
  sealed_moved e p c (Open q) s =
      keep_if (Sealed e p) (among q parts && ((c.at q).epoch == own && is_absent (c.at q).state)) c _
      (λ t.
      let u = both_second (among q parts) _ t in
      let at_own : (c.at q).epoch ≡ own = eqb-true _ _ (both_first ((c.at q).epoch == own) _ u) in
      one_shut e p q c _ (λ h. let v : own < (c.at q).epoch = h.1 (was_absent _ (both_second ((c.at q).epoch == own) _ u)) in absurd (omega arith)) s) s
  sealed_moved e p c (Fail q) s = keep_if (Sealed e p) (is_started (c.at q).state) c _ (λ t. one_shut e p q c _ (λ h. (refl, (λ u. cc))) s) s
  sealed_moved e p c (Prepare q) s =
      keep_if (Sealed e p) ((c.at q).epoch == own && is_started (c.at q).state) c _
      (λ t. one_shut e p q c _ (λ h. started_live (c.at q).state (was_started _ (both_second ((c.at q).epoch == own) _ t)) h.0) s) s
  sealed_moved e p c (Tell q) s = record { shut = s.shut; unheld = told_shut e p q c s }
  sealed_moved e p c (Decide f which) s = keep_if (Sealed e p) (nat_lt own f && is_none (c.decided f)) c _ (λ _. by_option e p c f (answers f c.notes parts which) s) s
  sealed_moved e p c Give_up s = keep_if (Sealed e p) (is_none (c.decided own)) c _ (λ _. record { shut = s.shut; unheld = s.unheld }) s
  sealed_moved e p c (Commit which) s = keep_if (Sealed e p) (is_none (c.decided own)) c _ (λ _. by_commit e p c (answers own c.notes parts which) s) s
  sealed_moved e p c (Settle q) s = keep_if (Sealed e p) (among q parts) c _ (λ _. by_settle e p q c (c.decided (c.at q).epoch) s) s

  pub sealed_on : (e p : ℕ) (ms : List Move) (c : Core) → Sealed e p c → Sealed e p (moves own parts ms c)
  sealed_on e p [] c s = s
  sealed_on e p (m ∷ ms) c s = sealed_on e p ms (moved own parts c m) (sealed_moved e p c m s)

  -- who holds the transaction is a participant
  abbrev Members : Core → Type 0
  Members c = (p : ℕ) → is_live (c.at p).state ≡ true → among p parts ≡ true

  one_member : (c : Core) (q : ℕ) (y : Element) → (is_live y.state ≡ true → among q parts ≡ true) → Members c → Members (changed c q y)
  one_member c q y k m = put_rest (λ r v. is_live v.state ≡ true → among r parts ≡ true) c.at q y k (λ r _. m r)

  raised_live : (s : Seen) → is_live (raised s) ≡ true → is_live s ≡ true
  raised_live Absent e = e
  raised_live Started e = refl
  raised_live Prepared e = refl
  raised_live Completed e = e
  raised_live Aborted e = e

  settle_members : (c : Core) (q : ℕ) (o : Option Decision) → among q parts ≡ true → Members c → Members (settles_by c q o)
  settle_members c q None a m = m
  settle_members c q (Some d) a m = one_member c q _ (λ _. a) m

  decide_members : (c : Core) (f : ℕ) (o : Option (List Seen)) → Members c → Members (decides_by c f o)
  decide_members c f None m = m
  decide_members c f (Some ss) m = m

  commit_members : (c : Core) (o : Option (List Seen)) → Members c → Members (commits_by c own o)
  commit_members c None m = m
  commit_members c (Some ss) m = keep_if Members (every is_prepared ss) c (decides c own Complete) (λ _. m) m

  members_moved : (c : Core) (v : Move) → Members c → Members (moved own parts c v)
  members_moved c (Raise q f) m = keep_if Members (nat_lt (c.at q).epoch f) c _ (λ _. one_member c q _ (λ e. m q (raised_live (c.at q).state e)) m) m
  members_moved c (Open q) m = keep_if Members (among q parts && ((c.at q).epoch == own && is_absent (c.at q).state)) c _ (λ t. one_member c q _ (λ _. both_first (among q parts) _ t) m) m
  members_moved c (Fail q) m = keep_if Members (is_started (c.at q).state) c _ (λ t. one_member c q _ (λ e. cc) m) m
  members_moved c (Prepare q) m = keep_if Members ((c.at q).epoch == own && is_started (c.at q).state) c _ (λ t. one_member c q _ (λ _. m q (ap is_live (was_started _ (both_second ((c.at q).epoch == own) _ t)))) m) m
  members_moved c (Tell q) m = m
  members_moved c (Decide f which) m = keep_if Members (nat_lt own f && is_none (c.decided f)) c _ (λ _. decide_members c f (answers f c.notes parts which) m) m
  members_moved c Give_up m = keep_if Members (is_none (c.decided own)) c _ (λ _. m) m
  members_moved c (Commit which) m = keep_if Members (is_none (c.decided own)) c _ (λ _. commit_members c (answers own c.notes parts which) m) m
  members_moved c (Settle q) m = keep_if Members (among q parts) c _ (λ t. settle_members c q (c.decided (c.at q).epoch) t m) m

  members_on : (ms : List Move) (c : Core) → Members c → Members (moves own parts ms c)
  members_on [] c m = m
  members_on (v ∷ ms) c m = members_on ms (moved own parts c v) (members_moved c v m)

  pub live_member : (ms : List Move) (p : ℕ) → is_live ((moves own parts ms start).at p).state ≡ true → among p parts ≡ true
  live_member ms = members_on ms start (λ p e. cc)

  -- epochs rise
  one_low : (e p q : ℕ) (c : Core) (y : Element) → (c.at q).epoch ≤ y.epoch → e ≤ (c.at p).epoch → e ≤ ((changed c q y).at p).epoch
  one_low e p q c y k l =
      let up : (c.at p).epoch ≤ ((changed c q y).at p).epoch = put_rest (λ r v. (c.at r).epoch ≤ v.epoch) c.at q y k (λ r _. same_low (c.at r).epoch) p in
      omega arith
    where
      same_low : (n : ℕ) → n ≤ n
      same_low n = omega arith

  still_low : (n : ℕ) → n ≤ n
  still_low n = omega arith

  less_low : (m n : ℕ) → m < n → m ≤ n
  less_low m n l = omega arith

  settle_low : (e p q : ℕ) (c : Core) (o : Option Decision) → e ≤ (c.at p).epoch → e ≤ ((settles_by c q o).at p).epoch
  settle_low e p q c None l = l
  settle_low e p q c (Some d) l = one_low e p q c _ (still_low (c.at q).epoch) l

  decide_low : (e p : ℕ) (c : Core) (f : ℕ) (o : Option (List Seen)) → e ≤ (c.at p).epoch → e ≤ ((decides_by c f o).at p).epoch
  decide_low e p c f None l = l
  decide_low e p c f (Some ss) l = l

  commit_low : (e p : ℕ) (c : Core) (o : Option (List Seen)) → e ≤ (c.at p).epoch → e ≤ ((commits_by c own o).at p).epoch
  commit_low e p c None l = l
  commit_low e p c (Some ss) l = keep_if (λ d. e ≤ (d.at p).epoch) (every is_prepared ss) c (decides c own Complete) (λ _. l) l

  low_moved : (e p : ℕ) (c : Core) (v : Move) → e ≤ (c.at p).epoch → e ≤ ((moved own parts c v).at p).epoch
  low_moved e p c (Raise q f) l = keep_if (λ d. e ≤ (d.at p).epoch) (nat_lt (c.at q).epoch f) c _ (λ t. one_low e p q c _ (less_low (c.at q).epoch f (lt_of _ _ t)) l) l
  low_moved e p c (Open q) l = keep_if (λ d. e ≤ (d.at p).epoch) (among q parts && ((c.at q).epoch == own && is_absent (c.at q).state)) c _ (λ _. one_low e p q c _ (still_low (c.at q).epoch) l) l
  low_moved e p c (Fail q) l = keep_if (λ d. e ≤ (d.at p).epoch) (is_started (c.at q).state) c _ (λ _. one_low e p q c _ (still_low (c.at q).epoch) l) l
  low_moved e p c (Prepare q) l = keep_if (λ d. e ≤ (d.at p).epoch) ((c.at q).epoch == own && is_started (c.at q).state) c _ (λ _. one_low e p q c _ (still_low (c.at q).epoch) l) l
  low_moved e p c (Tell q) l = l
  low_moved e p c (Decide f which) l = keep_if (λ d. e ≤ (d.at p).epoch) (nat_lt own f && is_none (c.decided f)) c _ (λ _. decide_low e p c f (answers f c.notes parts which) l) l
  low_moved e p c Give_up l = keep_if (λ d. e ≤ (d.at p).epoch) (is_none (c.decided own)) c _ (λ _. l) l
  low_moved e p c (Commit which) l = keep_if (λ d. e ≤ (d.at p).epoch) (is_none (c.decided own)) c _ (λ _. commit_low e p c (answers own c.notes parts which) l) l
  low_moved e p c (Settle q) l = keep_if (λ d. e ≤ (d.at p).epoch) (among q parts) c _ (λ _. settle_low e p q c (c.decided (c.at q).epoch) l) l

  pub low_on : (e p : ℕ) (ms : List Move) (c : Core) → e ≤ (c.at p).epoch → e ≤ ((moves own parts ms c).at p).epoch
  low_on e p [] c l = l
  low_on e p (v ∷ ms) c l = low_on e p ms (moved own parts c v) (low_moved e p c v l)
