-- A life decides.
use Rattle.std.proofs.Common.{◌≡◌, ◌≢◌, ℕ, ◌<◌, ◌==◌, ◌&&◌, ◌||◌, not, Bool, true, false, cond, nat_lt, List, [], ◌∷◌, map, Option, Some, None, is_none, is_some, option_map, ◌⊎◌, inl, inr, ⊎_elim, refl, sym, ap, ◌∙◌, subst, arith, eqb-true, eq-eqb}
use Rattle.fc_agreement.specs.Agreement.{decision_of}
use Rattle.fc_protocol.specs.Collections.{among}
use Rattle.fc_agreement.specs.Core.{Note, Element, Core, Decide, Give_up, Commit, moved, decides, decides_by, commits_by, answers, picked}
use Rattle.fc_protocol.specs.Decide.{states_under, decision_by, any, every, is_completed, is_aborted, is_prepared, with_first, with_answer}
use Rattle.fc_protocol.specs.Jobs.{Job, find, decides_job, with_decision, decided_job, given_up, is_for, answer_is}
use Rattle.fc_protocol.specs.Messages.{same}
use Rattle.fc_protocol.specs.declared.answers.Answer.{Answer}
use Rattle.fc_protocol.specs.declared.states.Decision.{Decision}
use Rattle.fc_protocol.specs.declared.states.Decision.TheVariants.{Complete, Abort}
use Rattle.fc_protocol.specs.declared.states.Seen.{Seen}
use Rattle.fc_protocol.specs.declared.states.Seen.TheVariants.{Absent, Started, Prepared, Completed, Aborted}
use Rattle.fc_base.specs.Ids.{Txn}
use Rattle.fc_protocol.proofs.Puts.{both_first, both_second, put_keep, put_here, was_none}
use Rattle.fc_protocol.proofs.Basics.{all_in, cond_true, and_true, both, put_other, none_some}
use Rattle.fc_agreement.proofs.Moves.{sealed_leads, low_leads, over, Told, note, Leads}
use Rattle.fc_agreement.proofs.Facts.{Past, Forgotten, OfX, JobFine, JobsFine, Later, job_on, done, done_over}
use Rattle.fc_agreement.proofs.Hearing.{on}
use Rattle.fc_agreement.proofs.Forgetting.{Grows, grows_map}
use Rattle.fc_agreement.proofs.Jobs.{found_in, jobs_mapped}

-- the answers that the states were taken from
abbrev Taken : ℕ → (ℕ → Option Answer) → List ℕ → List Seen → Type 0
Taken e f [] [] = Unit {0}
Taken e f [] (s ∷ ss) = ⊥
Taken e f (p ∷ ps) [] = ⊥
Taken e f (p ∷ ps) (s ∷ ss) = ((a : Answer) × (f p ≡ Some a) × (a.epoch ≡ e) × (a.seen ≡ s)) × Taken e f ps ss

taken_first : (e p : ℕ) (f : ℕ → Option Answer) (ps : List ℕ) (a : Answer) (r : Option (List Seen)) (ss : List Seen) → f p ≡ Some a → a.epoch ≡ e → ((ts : List Seen) → r ≡ Some ts → Taken e f ps ts) → with_first a.seen r ≡ Some ss → Taken e f (p ∷ ps) ss
taken_first e p f ps a None ss i j g k = cc
taken_first e p f ps a (Some ts) ss i j g k = let s : a.seen ∷ ts ≡ ss = cc in subst (Taken e f (p ∷ ps)) s ((a, i, j, refl), g ts refl)

taken_if : (e p : ℕ) (f : ℕ → Option Answer) (ps : List ℕ) (a : Answer) (r : Option (List Seen)) (ss : List Seen) (b : Bool) → (a.epoch == e) ≡ b → f p ≡ Some a → ((ts : List Seen) → r ≡ Some ts → Taken e f ps ts) → cond b (with_first a.seen r) None ≡ Some ss → Taken e f (p ∷ ps) ss
taken_if e p f ps a r ss true j i g k = taken_first e p f ps a r ss i (eqb-true _ _ j) g k
taken_if e p f ps a r ss false j i g k = cc

taken_by : (e p : ℕ) (f : ℕ → Option Answer) (ps : List ℕ) (o : Option Answer) (r : Option (List Seen)) (ss : List Seen) → f p ≡ o → ((ts : List Seen) → r ≡ Some ts → Taken e f ps ts) → with_answer e o r ≡ Some ss → Taken e f (p ∷ ps) ss
taken_by e p f ps None r ss i g k = cc
taken_by e p f ps (Some a) r ss i g k = taken_if e p f ps a r ss (a.epoch == e) refl i g k

taken : (e : ℕ) (f : ℕ → Option Answer) (ps : List ℕ) (ss : List Seen) → states_under e (map f ps) ≡ Some ss → Taken e f ps ss
taken e f [] [] k = tt
taken e f [] (s ∷ ss) k = cc
taken e f (p ∷ ps) ss k = taken_by e p f ps (f p) (states_under e (map f ps)) ss refl (taken e f ps) k

or_left : (a b : Bool) → a ≡ true → (a || b) ≡ true
or_left true b e = refl
or_left false b e = cc

or_right : (a b : Bool) → b ≡ true → (a || b) ≡ true
or_right true b e = refl
or_right false b e = e

-- the moves that pick a note for each of them
picks : (e : ℕ) (f : ℕ → Option Answer) (ns : List Note) (ps : List ℕ) (ss : List Seen) (t : Seen → Bool) → Taken e f ps ss → every t ss ≡ true → ((p : ℕ) (a : Answer) → among p ps ≡ true → f p ≡ Some a → t a.seen ≡ true → Told ns (note a.epoch p a.seen)) → (ws : List ℕ) × (answers e ns ps ws ≡ Some ss)
picks e f ns [] [] t k v g = ([], refl)
picks e f ns [] (s ∷ ss) t k v g = absurd k
picks e f ns (p ∷ ps) [] t k v g = absurd k
picks e f ns (p ∷ ps) (s ∷ ss) t k v g =
    let a = k.0.0 in
    let w = g p a (or_left (p == p) (among p ps) (eq-eqb p p refl)) k.0.1 (ap t k.0.3 ∙ both_first (t s) _ v) in
    let r = picks e f ns ps ss t k.1 (both_second (t s) _ v) (λ q b i. g q b (or_right (q == p) (among q ps) i)) in (
      w.0 ∷ r.0,
      ap (λ o. picked e p o (answers e ns ps r.0)) w.1 ∙ ap (picked e p (Some (note a.epoch p a.seen))) r.1
          ∙ cond_true _ (with_first a.seen (Some ss)) None (and_true (a.epoch == e) (p == p) (eq-eqb _ _ k.0.2) (eq-eqb _ _ refl)) ∙ ap (λ v. Some (v ∷ ss)) k.0.3,
    )

every_state : (ss : List Seen) → every (λ _. true) ss ≡ true
every_state [] = refl
every_state (s ∷ ss) = every_state ss

not_completed : (s : Seen) → s ≢ Completed → is_completed s ≡ false
not_completed Absent n = refl
not_completed Started n = refl
not_completed Prepared n = refl
not_completed Completed n = absurd (n refl)
not_completed Aborted n = refl

none_completed : (e : ℕ) (f : ℕ → Option Answer) (ps : List ℕ) (ss : List Seen) → Taken e f ps ss → ((p : ℕ) (a : Answer) → f p ≡ Some a → a.seen ≢ Completed) → any is_completed ss ≡ false
none_completed e f [] [] k g = refl
none_completed e f [] (s ∷ ss) k g = absurd k
none_completed e f (p ∷ ps) [] k g = absurd k
none_completed e f (p ∷ ps) (s ∷ ss) k g =
    ap (λ b. b || any is_completed ss) (not_completed s (λ c. g p k.0.0 k.0.1 (k.0.3 ∙ c))) ∙ none_completed e f ps ss k.1 g

-- what the life that made it decides
own_choice : (a b e : Bool) (d : Decision) → cond a Complete (cond b Abort (cond e Complete Abort)) ≡ d → a ≡ false → ((d ≡ Abort) ⊎ ((d ≡ Complete) × (e ≡ true)))
own_choice true b e d h f = cc
own_choice false true e d h f = inl (sym h)
own_choice false false true d h f = inr (sym h, refl)
own_choice false false false d h f = inl (sym h)

was_prepared : (s : Seen) → is_prepared s ≡ true → s ≡ Prepared
was_prepared Absent e = cc
was_prepared Started e = cc
was_prepared Prepared e = refl
was_prepared Completed e = cc
was_prepared Aborted e = cc

lt_is : (m n : ℕ) → m < n → nat_lt m n ≡ true
lt_is m n h = grind arith

is_not : (b : Bool) → not b ≡ true → b ≡ false
is_not true e = cc
is_not false e = refl

for_done : (d : Decision) (s : Seen) → is_for d s ≡ true → s ≡ done d
for_done Complete Absent e = cc
for_done Complete Started e = cc
for_done Complete Prepared e = cc
for_done Complete Completed e = refl
for_done Complete Aborted e = cc
for_done Abort Absent e = cc
for_done Abort Started e = cc
for_done Abort Prepared e = cc
for_done Abort Completed e = cc
for_done Abort Aborted e = refl

answer_of : (d : Decision) (o : Option Answer) → answer_is d o ≡ true → (a : Answer) × (o ≡ Some a) × (a.seen ≡ done d)
answer_of d None e = cc
answer_of d (Some a) e = (a, refl, for_done d a.seen e)

module _ (x : Txn) (parts : List ℕ) where
  -- from c to d at most the life e has decided
  pub record Ruled (c d : Core) (e : ℕ) : Type 0 where
    pub at : (q : ℕ) → d.at q ≡ c.at q
    pub others : (f : ℕ) → (f ≡ e → ⊥) → d.decided f ≡ c.decided f
    pub grows : (f : ℕ) (g : Decision) → c.decided f ≡ Some g → d.decided f ≡ Some g
    pub told : (n : Note) → Told c.notes n → Told d.notes n
    pub leads : Leads x.epoch parts c d

  pub ruled_none : (c : Core) (e : ℕ) → Ruled c c e
  ruled_none c e = record { at = λ _. refl; others = λ _ _. refl; grows = λ _ _ i. i; told = λ _ i. i; leads = ([], refl) }

  ruled_by : (c d : Core) (e : ℕ) (r : Decision) → c.decided e ≡ None → Leads x.epoch parts c d → d ≡ decides c e r → Ruled c d e × (d.decided e ≡ Some r)
  ruled_by c d e r n k i =
      let at = λ (f : ℕ). ap (λ (v : Core). v.decided f) i in (
        record {
          at = λ q. ap (λ (v : Core). v.at q) i;
          others = λ f o. at f ∙ put_other c.decided e (Some r) f o;
          grows = λ f g h. at f ∙ put_keep c.decided e (Some r) f (Some g) h (λ s. none_some g (sym n ∙ ap c.decided (sym s) ∙ h));
          told = λ m t. subst (λ (v : Core). Told v.notes m) (sym i) t;
          leads = k;
        },
        at e ∙ put_here c.decided e (Some r),
      )

  abbrev pub Rules : Core → ℕ → Option Decision → Type 0
  Rules c e o = (d : Core) × Ruled c d e × (d.decided e ≡ o)

  none_test : (o : Option Decision) → o ≡ None → is_none o ≡ true
  none_test o e = ap is_none e

  gives_up_rules : (c : Core) → c.decided x.epoch ≡ None → Rules c x.epoch (Some Abort)
  gives_up_rules c n =
      let r = ruled_by c (moved x.epoch parts c Give_up) x.epoch Abort n (Give_up ∷ [], refl) (cond_true _ _ c (none_test _ n)) in
      (moved x.epoch parts c Give_up, r.0, r.1)

  commits_rules : (c : Core) (ws : List ℕ) (ss : List Seen) → c.decided x.epoch ≡ None → answers x.epoch c.notes parts ws ≡ Some ss → every is_prepared ss ≡ true → Rules c x.epoch (Some Complete)
  commits_rules c ws ss n a v =
      let m = Commit ws in
      let r = ruled_by c (moved x.epoch parts c m) x.epoch Complete n (m ∷ [], refl) (cond_true _ _ c (none_test _ n) ∙ ap (commits_by c x.epoch) a ∙ cond_true _ _ c v) in
      (moved x.epoch parts c m, r.0, r.1)

  decides_rules : (c : Core) (e : ℕ) (ws : List ℕ) (ss : List Seen) → x.epoch < e → c.decided e ≡ None → answers e c.notes parts ws ≡ Some ss → Rules c e (Some (decision_by ss))
  decides_rules c e ws ss l n a =
      let m = Decide e ws in
      let r = ruled_by c (moved x.epoch parts c m) e (decision_by ss) n (m ∷ [], refl) (cond_true _ _ c (and_true (nat_lt x.epoch e) _ (lt_is _ _ l) (none_test _ n)) ∙ ap (decides_by c e) a) in
      (moved x.epoch parts c m, r.0, r.1)

  rules_as : (c : Core) (e f : ℕ) (o r : Option Decision) → f ≡ e → o ≡ r → Rules c f o → Rules c e r
  rules_as c e f o r i j u = subst (λ v. Rules c v r) i (subst (Rules c f) j u)

  by_mine : (h : Past) (e : ℕ) (j : Job) (ss : List Seen) → OfX x parts h e j → h.core.decided e ≡ None → Taken e j.answers parts ss → e ≡ x.epoch → Rules h.core e (Some (decision_by ss))
  by_mine h e j ss o n t i =
      let free : h.core.decided x.epoch ≡ None = ap h.core.decided (sym i) ∙ n in
      ⊎_elim (λ k. rules_as h.core e x.epoch (Some Abort) (Some (decision_by ss)) (sym i) (ap Some (sym k)) (gives_up_rules h.core free))
      (λ k.
      let w = picks e j.answers h.core.notes parts ss is_prepared t k.1 (λ p a _ f v. (o.answers p a f).prepared (was_prepared a.seen v)) in
      rules_as h.core e x.epoch (Some Complete) (Some (decision_by ss)) (sym i) (ap Some (sym k.0)) (commits_rules h.core w.0 ss free (subst (λ v. answers v h.core.notes parts w.0 ≡ Some ss) i w.1) k.1))
      (own_choice (any is_completed ss) (any is_aborted ss) (every is_prepared ss) (decision_by ss) refl (none_completed e j.answers parts ss t (λ p a f. (o.answers p a f).own (sym i))))

  -- no answer of a participant is of what it has forgotten
  abbrev pub Remembered : Past → ℕ → Type 0
  Remembered h e = (p : ℕ) → among p parts ≡ true → Forgotten x parts h e → ⊥

  by_other : (h : Past) (e : ℕ) (j : Job) (ss : List Seen) → OfX x parts h e j → h.core.decided e ≡ None → Taken e j.answers parts ss → Remembered h e → x.epoch < e → Rules h.core e (Some (decision_by ss))
  by_other h e j ss o n t r l =
      let w = picks e j.answers h.core.notes parts ss (λ _. true) t (every_state ss) (λ p a i f _. ⊎_elim (λ u. u) (λ u. absurd (r p i u.1)) ((o.answers p a f).above l)) in
      decides_rules h.core e w.0 ss l n w.1

  by_taken : (h : Past) (e : ℕ) (j : Job) (ss : List Seen) → OfX x parts h e j → h.core.decided e ≡ None → Taken e j.answers parts ss → Remembered h e → Rules h.core e (Some (decision_by ss))
  by_taken h e j ss o n t r = ⊎_elim (λ b. by_mine h e j ss o n t (o.mine b)) (λ b. by_other h e j ss o n t r (o.other b)) (both j.mine)

  by_seen : (h : Past) (e : ℕ) (j : Job) (r : Option (List Seen)) → OfX x parts h e j → h.core.decided e ≡ j.decision → j.decision ≡ None → states_under e (map j.answers parts) ≡ r → Remembered h e → Rules h.core e (with_decision j (option_map decision_by r)).decision
  by_seen h e j None o d n s m = (h.core, ruled_none h.core e, d)
  by_seen h e j (Some ss) o d n s m = by_taken h e j ss o (d ∙ n) (taken e j.answers parts ss s) m

  job_rules : (h : Past) (e : ℕ) (j : Job) (q : Option Decision) → OfX x parts h e j → h.core.decided e ≡ j.decision → j.decision ≡ q → (j.decision ≡ None → Remembered h e) → Rules h.core e (decided_job e q j).decision
  job_rules h e j (Some r) o d i m = (h.core, ruled_none h.core e, d)
  job_rules h e j None o d i m = subst (λ v. Rules h.core e (with_decision j (option_map decision_by (states_under e (map j.answers v)))).decision) (sym o.named) (by_seen h e j (states_under e (map j.answers parts)) o d i refl (m i))

  found_rules : (h : Past) (e begun : ℕ) (js : List Job) (f : Job → Job) (o : Option Job) → JobsFine x parts h e begun js → find x js ≡ o → ((j : Job) → find x js ≡ Some j → OfX x parts h e j → h.core.decided e ≡ j.decision → Rules h.core e (f j).decision) → Rules h.core e (decision_of (option_map f o))
  found_rules h e begun js f None i k r = (h.core, ruled_none h.core e, i.decided ∙ ap decision_of k)
  found_rules h e begun js f (Some j) i k r = let t = found_in x js j k in r j k (all_in (JobFine x parts h e) j js i.each t.0 t.1) (i.decided ∙ ap decision_of k)

  with_decision_of : (h : Past) (e : ℕ) (j : Job) (r : Option Decision) → OfX x parts h e j → OfX x parts h e (with_decision j r)
  with_decision_of h e j None o = o
  with_decision_of h e j (Some d) o = record {
    named = o.named;
    born = o.born;
    low = o.low;
    mine = o.mine;
    other = o.other;
    answers = o.answers;
    found = o.found;
    settled = λ p u.
        let above = o.other (is_not j.mine (both_first (not j.mine) _ u)) in
        let a = answer_of d (j.answers p) (both_second (not j.mine) _ u) in
        let t = (o.answers p a.0 a.1).ended above (ap over a.2 ∙ done_over d) in
        (d, refl, t.0 ∙ a.2, t.1);
  }

  decided_txn : (e : ℕ) (j : Job) (q : Option Decision) → (decided_job e q j).txn ≡ j.txn
  decided_txn e j (Some d) = refl
  decided_txn e j None = with_txn (decides_job e j)
    where
      with_txn : (r : Option Decision) → (with_decision j r).txn ≡ j.txn
      with_txn None = refl
      with_txn (Some d) = refl

  decided_of : (h : Past) (e : ℕ) (j : Job) (q : Option Decision) → OfX x parts h e j → OfX x parts h e (decided_job e q j)
  decided_of h e j (Some d) o = o
  decided_of h e j None o = with_decision_of h e j (decides_job e j) o

  pub later_ruled : (h : Past) (d : Core) (e : ℕ) → Ruled h.core d e → Later x parts h (on h d)
  later_ruled h d e r = record { decided = r.grows; told = r.told; final = λ q s _ i. ap (λ (v : Element). v.state) (r.at q) ∙ i; sent = λ s i. i; used = λ k n i. i; born = λ b. b; closed = λ f q s. sealed_leads x.epoch parts h.core d f q r.leads s; rises = λ f q s. low_leads x.epoch parts h.core d f q r.leads s; crew = λ q a. a }

  -- a life whose jobs have changed, with the core that this is
  pub record Decided (h : Past) (e begun : ℕ) (js : List Job) : Type 0 where
    pub core : Core
    pub ruled : Ruled h.core core e
    pub jobs : JobsFine x parts (on h core) e begun js

  pub decide_fine : (h : Past) (e begun : ℕ) (js : List Job) → JobsFine x parts h e begun js → ((j : Job) → find x js ≡ Some j → OfX x parts h e j → j.decision ≡ None → Remembered h e) → Decided h e begun (map (λ j. decided_job e j.decision j) js)
  decide_fine h e begun js i m =
      let f = λ (j : Job). decided_job e j.decision j in
      let r = found_rules h e begun js f (find x js) i refl (λ j k o d. job_rules h e j j.decision o d refl (m j k o)) in
      let l = later_ruled h r.0 e r.1 in
      record {
        core = r.0;
        ruled = r.1;
        jobs = jobs_mapped x parts h (on h r.0) e begun js f i (λ j. decided_txn e j j.decision)
            (λ j _ g. job_on x parts h (on h r.0) l e (f j) (λ t. decided_of h e j j.decision (g (sym (decided_txn e j j.decision) ∙ t)))) r.2 (λ b. b);
      }

  given_if : (h : Past) (e : ℕ) (j : Job) (b : Bool) → OfX x parts h e j → h.core.decided e ≡ j.decision → (b ≡ true → (j.mine ≡ true) × (j.decision ≡ None)) → Rules h.core e (cond b (record j { decision = Some Abort }) j).decision
  given_if h e j true o d k =
      let i : e ≡ x.epoch = o.mine (k refl).0 in
      rules_as h.core e x.epoch (Some Abort) (Some Abort) (sym i) refl (gives_up_rules h.core (ap h.core.decided (sym i) ∙ d ∙ (k refl).1))
  given_if h e j false o d k = (h.core, ruled_none h.core e, d)

  given_of : (h : Past) (e : ℕ) (j : Job) (b : Bool) → (b ≡ true → j.decision ≡ None) → OfX x parts h e j → OfX x parts h e (cond b (record j { decision = Some Abort }) j)
  given_of h e j true n o = record {
    named = o.named;
    born = o.born;
    low = o.low;
    mine = o.mine;
    other = o.other;
    answers = o.answers;
    found = o.found;
    settled = λ p u. let v = o.settled p u in none_some v.0 (sym (n refl) ∙ v.1);
  }
  given_of h e j false n o = o

  given_txn : (j : Job) (b : Bool) → (cond b (record j { decision = Some Abort }) j).txn ≡ j.txn
  given_txn j true = refl
  given_txn j false = refl

  pub give_up_fine : (h : Past) (e begun : ℕ) (js : List Job) (y : Txn) → JobsFine x parts h e begun js → Decided h e begun (map (given_up y) js)
  give_up_fine h e begun js y i =
      let test = λ (j : Job). same y j.txn && (j.mine && is_none j.decision) in
      let r = found_rules h e begun js (given_up y) (find x js) i refl (λ j _ o d. given_if h e j (test j) o d (λ t.
      let u = both_second (same y j.txn) _ t in (both_first j.mine _ u, was_none j.decision (both_second j.mine _ u)))) in
      let l = later_ruled h r.0 e r.1 in
      record {
        core = r.0;
        ruled = r.1;
        jobs = jobs_mapped x parts h (on h r.0) e begun js (given_up y) i (λ j. given_txn j (test j))
            (λ j _ g. job_on x parts h (on h r.0) l e (given_up y j) (λ t. given_of h e j (test j) (λ u. was_none j.decision (both_second j.mine _ (both_second (same y j.txn) _ u))) (g (sym (given_txn j (test j)) ∙ t)))) r.2 (λ b. b);
      }

  -- deciding and giving up keep what is decided
  still_some : (e : ℕ) (j : Job) (q : Option Decision) → j.decision ≡ q → is_some q ≡ true → is_some (decided_job e q j).decision ≡ true
  still_some e j None i k = cc
  still_some e j (Some d) i k = ap is_some i

  pub decide_grows : (e : ℕ) (js : List Job) → Grows x js (map (λ j. decided_job e j.decision j) js)
  decide_grows e js = grows_map x (λ j. decided_job e j.decision j) js (λ j. decided_txn e j j.decision) (λ j k. still_some e j j.decision refl k)

  given_some : (j : Job) (b : Bool) → is_some j.decision ≡ true → is_some (cond b (record j { decision = Some Abort }) j).decision ≡ true
  given_some j true k = refl
  given_some j false k = k

  pub give_up_grows : (y : Txn) (js : List Job) → Grows x js (map (given_up y) js)
  give_up_grows y js = let test = λ (j : Job). same y j.txn && (j.mine && is_none j.decision) in grows_map x (given_up y) js (λ j. given_txn j (test j)) (λ j k. given_some j (test j) k)
