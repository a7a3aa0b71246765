-- While an element stays at an epoch above the transaction's own, and that life has not decided, its state stays.
use Rattle.std.proofs.Common.{◌≡◌, ℕ, ◌<◌, ◌≤◌, ◌&&◌, ◌==◌, ◌++◌, Bool, true, false, cond, nat_lt, List, [], ◌∷◌, Option, Some, None, is_none, refl, sym, ap, ◌∙◌, subst, arith, eqb-true}
use Rattle.fc_protocol.specs.Collections.{among}
use Rattle.fc_agreement.specs.Core.{Core, Element, Move, Raise, Open, Fail, Prepare, Tell, Decide, Give_up, Commit, Settle, start, moved, moves, changed, decides, decides_by, commits_by, settles_by, answers, settled, raised, to}
use Rattle.fc_protocol.specs.Decide.{is_absent, is_started, is_prepared, every, decision_by}
use Rattle.fc_protocol.specs.declared.states.Decision.{Decision}
use Rattle.fc_protocol.specs.declared.states.Decision.TheVariants.{Complete, Abort}
use Rattle.fc_protocol.specs.declared.states.Seen.{Seen}
use Rattle.fc_protocol.specs.declared.states.Seen.TheVariants.{Started, Prepared, Aborted}
use Rattle.fc_protocol.proofs.Puts.{both_first, both_second}
use Rattle.fc_agreement.proofs.States.{was_started}
use Rattle.fc_protocol.proofs.Basics.{put_rest, none_some}
use Rattle.fc_agreement.proofs.Keeps.{started_own}
use Rattle.fc_agreement.proofs.Lasting.{decision_lasts}

module _ (own : ℕ) (parts : List ℕ) where
  -- of the element p in c, and what has become of it
  abbrev Stays : Core → ℕ → Element → Type 0
  Stays c p y = ((c.at p).epoch ≤ y.epoch) × (y.epoch ≡ (c.at p).epoch → own < (c.at p).epoch → c.decided (c.at p).epoch ≡ None → y.state ≡ (c.at p).state)

  abbrev Still : Core → Core → Type 0
  Still c d = (p : ℕ) → Stays c p (d.at p)

  still_same : (c d : Core) → ((p : ℕ) → d.at p ≡ c.at p) → Still c d
  still_same c d e p = let i : (d.at p).epoch ≡ (c.at p).epoch = ap (λ (v : Element). v.epoch) (e p) in (omega arith, (λ _ _ _. ap (λ (v : Element). v.state) (e p)))

  still_if : (b : Bool) (c d : Core) → (b ≡ true → Still c d) → Still c (cond b d c)
  still_if true c d f = f refl
  still_if false c d f = still_same c c (λ _. refl)

  still_changed : (c : Core) (q : ℕ) (y : Element) → Stays c q y → Still c (changed c q y)
  still_changed c q y k = put_rest (Stays c) c.at q y k (λ p _. (omega arith, (λ _ _ _. refl)))

  -- an element that does not change its epoch, and is at the transaction's own
  at_own : (c : Core) (q : ℕ) (s : Seen) (b : Bool) → (c.at q).epoch ≡ own → Stays c q (record { epoch = (c.at q).epoch; state = s; prepared = b })
  at_own c q s b e = (omega arith, (λ _ l _. absurd (omega arith)))

  still_decides : (c : Core) (e : ℕ) (o : Option (List Seen)) → Still c (decides_by c e o)
  still_decides c e None = still_same c c (λ _. refl)
  still_decides c e (Some ss) = still_same c (decides c e (decision_by ss)) (λ _. refl)

  still_commits : (c : Core) (e : ℕ) (o : Option (List Seen)) → Still c (commits_by c e o)
  still_commits c e None = still_same c c (λ _. refl)
  still_commits c e (Some ss) = still_if (every is_prepared ss) c (decides c e Complete) (λ _. still_same c (decides c e Complete) (λ _. refl))

  still_settles : (c : Core) (q : ℕ) (o : Option Decision) → c.decided (c.at q).epoch ≡ o → Still c (settles_by c q o)
  still_settles c q None i = still_same c c (λ _. refl)
  still_settles c q (Some d) i = still_changed c q (to (c.at q) (settled d (c.at q).state)) (omega arith, (λ _ _ n. none_some d (sym n ∙ i)))

  below : (m n : ℕ) → nat_lt m n ≡ true → m < n
  below m n h = grind arith

  still_moved : (c : Core) (m : Move) → ((q : ℕ) → (c.at q).state ≡ Started → (c.at q).epoch ≡ own) → Still c (moved own parts c m)
  still_moved c (Raise q e) g =
      still_if (nat_lt (c.at q).epoch e) c _
      (λ t. let l : (c.at q).epoch < e = below _ _ t in still_changed c q (record { epoch = e; state = raised (c.at q).state; prepared = (c.at q).prepared }) (omega arith, (λ i. absurd (omega arith))))
  still_moved c (Open q) g =
      still_if (among q parts && ((c.at q).epoch == own && is_absent (c.at q).state)) c _
      (λ t. still_changed c q (to (c.at q) Started) (at_own c q Started (c.at q).prepared (eqb-true _ _ (both_first ((c.at q).epoch == own) _ (both_second (among q parts) _ t)))))
  still_moved c (Fail q) g = still_if (is_started (c.at q).state) c _ (λ t. still_changed c q (to (c.at q) Aborted) (at_own c q Aborted (c.at q).prepared (g q (was_started _ t))))
  still_moved c (Prepare q) g =
      still_if ((c.at q).epoch == own && is_started (c.at q).state) c _
      (λ t. still_changed c q (record { epoch = (c.at q).epoch; state = Prepared; prepared = true }) (at_own c q Prepared true (eqb-true _ _ (both_first ((c.at q).epoch == own) _ t))))
  still_moved c (Tell q) g = still_same c (moved own parts c (Tell q)) (λ _. refl)
  still_moved c (Decide e which) g = still_if (nat_lt own e && is_none (c.decided e)) c _ (λ _. still_decides c e (answers e c.notes parts which))
  still_moved c Give_up g = still_if (is_none (c.decided own)) c _ (λ _. still_same c (decides c own Abort) (λ _. refl))
  still_moved c (Commit which) g = still_if (is_none (c.decided own)) c _ (λ _. still_commits c own (answers own c.notes parts which))
  still_moved c (Settle q) g = still_if (among q parts) c _ (λ _. still_settles c q (c.decided (c.at q).epoch) refl)

  snoc : (ms : List Move) (m : Move) (c : Core) → moves own parts (ms ++ m ∷ []) c ≡ moved own parts (moves own parts ms c) m
  snoc [] m c = refl
  snoc (n ∷ ms) m c = snoc ms m (moved own parts c n)

  abbrev Reached : Core → Type 0
  Reached c = (ms : List Move) × (moves own parts ms start ≡ c)

  started_at : (c : Core) → Reached c → (q : ℕ) → (c.at q).state ≡ Started → (c.at q).epoch ≡ own
  started_at c r q h = ap (λ (v : Core). (v.at q).epoch) (sym r.1) ∙ started_own own parts r.0 q (ap (λ (v : Core). (v.at q).state) r.1 ∙ h)

  was_none : (o o' : Option Decision) → o' ≡ None → ((d : Decision) → o ≡ Some d → o' ≡ Some d) → o ≡ None
  was_none None o' e f = refl
  was_none (Some d) o' e f = none_some d (sym e ∙ f d refl)

  epochs : (ns : List Move) (c : Core) (p : ℕ) → Reached c → (c.at p).epoch ≤ ((moves own parts ns c).at p).epoch
  epochs [] c p r = omega arith
  epochs (n ∷ ns) c p r =
      let d = moved own parts c n in
      let a : (c.at p).epoch ≤ (d.at p).epoch = (still_moved c n (started_at c r) p).0 in
      let b : (d.at p).epoch ≤ ((moves own parts ns d).at p).epoch = epochs ns d p (r.0 ++ n ∷ [], snoc r.0 n start ∙ ap (λ v. moved own parts v n) r.1) in
      omega arith

  stays_from : (ns : List Move) (c : Core) (p : ℕ) → Reached c → own < (c.at p).epoch → ((moves own parts ns c).at p).epoch ≡ (c.at p).epoch → (moves own parts ns c).decided (c.at p).epoch ≡ None → ((moves own parts ns c).at p).state ≡ (c.at p).state
  stays_from [] c p r l e n = refl
  stays_from (m ∷ ns) c p r l e n =
      let d = moved own parts c m in
      let s = still_moved c m (started_at c r) p in
      let q : Reached d = (r.0 ++ m ∷ [], snoc r.0 m start ∙ ap (λ v. moved own parts v m) r.1) in
      let a : (c.at p).epoch ≤ (d.at p).epoch = s.0 in
      let b : (d.at p).epoch ≤ ((moves own parts ns d).at p).epoch = epochs ns d p q in
      let same : (d.at p).epoch ≡ (c.at p).epoch = omega arith in
      let free : c.decided (c.at p).epoch ≡ None = was_none (c.decided (c.at p).epoch) _ n (λ g i. decision_lasts own parts (m ∷ ns) c (c.at p).epoch g i) in
      let rest : ((moves own parts ns d).at p).state ≡ (d.at p).state = stays_from ns d p q (omega arith) (e ∙ sym same) (subst (λ v. (moves own parts ns d).decided v ≡ None) (sym same) n) in
      rest ∙ s.1 same l free

  -- over any two lists of moves, one after the other
  pub answer_stays : (ms ns : List Move) (p : ℕ) → own < ((moves own parts ms start).at p).epoch → ((moves own parts ns (moves own parts ms start)).at p).epoch ≡ ((moves own parts ms start).at p).epoch
      → (moves own parts ns (moves own parts ms start)).decided ((moves own parts ms start).at p).epoch ≡ None → ((moves own parts ns (moves own parts ms start)).at p).state ≡ ((moves own parts ms start).at p).state
  answer_stays ms ns p l e n = stays_from ns (moves own parts ms start) p (ms, refl) l e n
