-- Jobs of a master, seen from one transaction.
use Rattle.std.proofs.Common.{◌≡◌, ◌≢◌, ℕ, ◌<◌, ◌≤◌, Bool, true, false, cond, List, [], ◌∷◌, ◌++◌, map, Option, Some, None, is_some, option_map, ◌⊎◌, inl, inr, ⊎_elim, refl, sym, ap, ◌∙◌, subst, arith}
use Rattle.fc_agreement.specs.Agreement.{decision_of}
use Rattle.fc_protocol.specs.Collections.{or_next}
use Rattle.fc_protocol.specs.Jobs.{answer, Job, find, on_job, answered_by, went_on, settled_at, stuck_at, by_code, recovered, discover}
use Rattle.fc_protocol.specs.Messages.{Floor, Malformed, same, Body, Claim, Sot, Mot, Eot, Trcomp, Abt, Ask, Ask_record, Plain}
use Rattle.fc_protocol.specs.declared.answers.Answer.{Answer}
use Rattle.fc_protocol.specs.declared.answers.TxnEntry.{TxnEntry}
use Rattle.fc_protocol.specs.declared.states.Decision.{Decision}
use Rattle.fc_protocol.specs.declared.states.Decision.TheVariants.{Complete, Abort}
use Rattle.fc_protocol.specs.declared.states.Seen.TheVariants.{Prepared, Completed, Aborted}
use Rattle.fc_base.specs.Ids.{Txn}
use Rattle.fc_protocol.proofs.Puts.{put_cases}
use Rattle.fc_protocol.proofs.Basics.{In, AllOf, all_append, cond_true, cond_false, both, same_true, same_of}
use Rattle.fc_agreement.proofs.Moves.{Told, note}
use Rattle.fc_agreement.proofs.Facts.{Past, Ends, Born, HeldFine, Means, AnswerFine, OfX, JobFine, Once, JobsFine, done}

find_if : (g : Job → Job) (b : Bool) (j : Job) (r s : Option Job) → r ≡ option_map g s → cond b (Some (g j)) r ≡ option_map g (cond b (Some j) s)
find_if g true j r s e = refl
find_if g false j r s e = e

pub find_map : (x : Txn) (g : Job → Job) (js : List Job) → ((j : Job) → (g j).txn ≡ j.txn) → find x (map g js) ≡ option_map g (find x js)
find_map x g [] k = refl
find_map x g (j ∷ js) k = ap (λ (y : Txn). cond (same x y) (Some (g j)) (find x (map g js))) (k j) ∙ find_if g (same x j.txn) j (find x (map g js)) (find x js) (find_map x g js k)

find_or : (b : Bool) (j : Job) (r s t : Option Job) → r ≡ or_next s t → cond b (Some j) r ≡ or_next (cond b (Some j) s) t
find_or true j r s t e = refl
find_or false j r s t e = e

pub find_append : (x : Txn) (js : List Job) (j : Job) → find x (js ++ j ∷ []) ≡ or_next (find x js) (cond (same x j.txn) (Some j) None)
find_append x [] j = refl
find_append x (i ∷ js) j = find_or (same x i.txn) i (find x (js ++ j ∷ [])) (find x js) (cond (same x j.txn) (Some j) None) (find_append x js j)

some_map : (g : Job → Job) (o : Option Job) → is_some (option_map g o) ≡ is_some o
some_map g None = refl
some_map g (Some j) = refl

none_map : (g : Job → Job) (o : Option Job) → o ≡ None → option_map g o ≡ None
none_map g None e = refl
none_map g (Some j) e = cc

decision_map : (g : Job → Job) (o : Option Job) → ((j : Job) → (g j).decision ≡ j.decision) → decision_of (option_map g o) ≡ decision_of o
decision_map g None k = refl
decision_map g (Some j) k = k j

all_map : (P Q : Job → Type 0) (g : Job → Job) (js : List Job) → ((j : Job) → In j js → P j → Q (g j)) → AllOf P js → AllOf Q (map g js)
all_map P Q g [] f a = tt
all_map P Q g (j ∷ js) f a = (f j (inl refl) a.0, all_map P Q g js (λ i n. f i (inr n)) a.1)

pub found_in : (x : Txn) (js : List Job) (j : Job) → find x js ≡ Some j → In j js × (j.txn ≡ x)
found_in x [] j e = cc
found_in x (i ∷ js) j e =
    ⊎_elim (λ k. let s : Some i ≡ Some j = sym (cond_true _ (Some i) _ k) ∙ e in let t : j ≡ i = cc in (inl t, ap (λ (v : Job). v.txn) t ∙ sym (same_true x i.txn k)))
    (λ k. let r = found_in x js j (sym (cond_false _ (Some i) _ k) ∙ e) in (inr r.0, r.1)) (both (same x i.txn))

maybe : (o : Option Job) → (o ≡ None) ⊎ ((j : Job) × (o ≡ Some j))
maybe None = inl refl
maybe (Some j) = inr (j, refl)

is_none_of : (o : Option Job) → is_some o ≡ false → o ≡ None
is_none_of None e = refl
is_none_of (Some j) e = cc

or_some : (o t : Option Job) → is_some o ≡ true → is_some (or_next o t) ≡ true
or_some None t e = cc
or_some (Some j) t e = refl

module _ (x : Txn) (parts : List ℕ) where
  pub once_found : (js : List Job) (j : Job) → Once x parts js → In j js → j.txn ≡ x → find x js ≡ Some j
  once_found [] j o i t = absurd i
  once_found (n ∷ js) j o i t =
      ⊎_elim (λ k. let s : n ≡ j = sym k in cond_true _ (Some n) _ (same_of x n.txn (sym t ∙ ap (λ (v : Job). v.txn) k)) ∙ ap Some s)
      (λ k. let r = once_found js j o.1 k t in
      ⊎_elim (λ b. let c : None ≡ Some j = sym (o.0 b) ∙ r in cc) (λ b. cond_false _ (Some n) _ b ∙ r) (both (same x n.txn))) i

  once_map : (g : Job → Job) (js : List Job) → ((j : Job) → (g j).txn ≡ j.txn) → Once x parts js → Once x parts (map g js)
  once_map g [] k o = tt
  once_map g (j ∷ js) k o = ((λ e. find_map x g js k ∙ none_map g (find x js) (o.0 (sym (ap (same x) (k j)) ∙ e))), once_map g js k o.1)

  once_append : (js : List Job) (j : Job) → (same x j.txn ≡ true → find x js ≡ None) → Once x parts js → Once x parts (js ++ j ∷ [])
  once_append [] j n o = ((λ _. refl), tt)
  once_append (i ∷ js) j n o =
      let rest = λ (e : same x j.txn ≡ true).
      ⊎_elim (λ b. let c : Some i ≡ None = sym (cond_true _ (Some i) (find x js) b) ∙ n e in cc) (λ b. sym (cond_false _ (Some i) (find x js) b) ∙ n e) (both (same x i.txn)) in (
        (λ b. find_append x js j ∙ ap (λ o. or_next o (cond (same x j.txn) (Some j) None)) (o.0 b) ∙
            ⊎_elim (λ e. let c : Some i ≡ None = sym (cond_true _ (Some i) (find x js) b) ∙ n e in cc) (λ e. cond_false _ (Some j) None e) (both (same x j.txn))),
        once_append js j rest o.1,
      )

  -- jobs that keep their transactions, whatever becomes of the decisions
  pub jobs_mapped : (h g : Past) (e begun : ℕ) (js : List Job) (f : Job → Job) → JobsFine x parts h e begun js → ((j : Job) → (f j).txn ≡ j.txn) → ((j : Job) → In j js → JobFine x parts h e j → JobFine x parts g e (f j))
      → g.core.decided e ≡ decision_of (option_map f (find x js)) → (Born x parts g → Born x parts h) → JobsFine x parts g e begun (map f js)
  jobs_mapped h g e begun js f i k m d b = record {
    decided = d ∙ ap decision_of (sym (find_map x f js k));
    each = all_map (JobFine x parts h e) (JobFine x parts g e) f js m i.each;
    once = once_map f js k i.once;
    numbers = λ u v. let n = i.numbers u (b v) in (n.0, ap is_some (find_map x f js k) ∙ some_map f (find x js) ∙ n.1);
    made = λ u v w. ap is_some (find_map x f js k) ∙ some_map f (find x js) ∙ i.made u v w;
  }

  pub jobs_map : (h : Past) (e begun : ℕ) (js : List Job) (f : Job → Job) → JobsFine x parts h e begun js → ((j : Job) → (f j).txn ≡ j.txn) → ((j : Job) → (f j).decision ≡ j.decision) → ((j : Job) → In j js → JobFine x parts h e j → JobFine x parts h e (f j)) → JobsFine x parts h e begun (map f js)
  jobs_map h e begun js f i k d m = jobs_mapped h h e begun js f i k m (i.decided ∙ sym (decision_map f (find x js) d)) (λ b. b)

  or_decision : (b : Bool) (o : Option Job) (j : Job) → j.decision ≡ None → (b ≡ true → o ≡ None) → decision_of (or_next o (cond b (Some j) None)) ≡ decision_of o
  or_decision true None j n u = n
  or_decision false None j n u = refl
  or_decision b (Some i) j n u = refl

  -- one more job, which is undecided
  pub jobs_add : (g : Past) (e more : ℕ) (js : List Job) (j : Job) → AllOf (JobFine x parts g e) js → Once x parts js → g.core.decided e ≡ decision_of (find x js) → j.decision ≡ None → (same x j.txn ≡ true → find x js ≡ None) → JobFine x parts g e j
      → (e ≡ x.epoch → Born x parts g → (x.number ≤ more) × (is_some (or_next (find x js) (cond (same x j.txn) (Some j) None)) ≡ true)) → (e ≡ x.epoch → 0 < x.number → x.number ≤ more → is_some (or_next (find x js) (cond (same x j.txn) (Some j) None)) ≡ true) → JobsFine x parts g e more (js ++ j ∷ [])
  jobs_add g e more js j a o d n u f m q = record {
    decided = d ∙ sym (ap decision_of (find_append x js j) ∙ or_decision (same x j.txn) (find x js) j n u);
    each = all_append (JobFine x parts g e) js (j ∷ []) a (f, tt);
    once = once_append js j u o;
    numbers = λ i b. let v = m i b in (v.0, ap is_some (find_append x js j) ∙ v.1);
    made = λ i b v. ap is_some (find_append x js j) ∙ q i b v;
  }

  module _ (h : Past) (e : ℕ) where
    -- a job with an answer more
    answered_of : (p : ℕ) (a : Answer) (j : Job) → AnswerFine x parts h e p a → OfX x parts h e j → OfX x parts h e (answered_by p a j)
    answered_of p a j f o = record {
      named = o.named;
      born = o.born;
      low = o.low;
      mine = o.mine;
      other = o.other;
      answers = λ q b i. ⊎_elim (λ t. let s : a ≡ b = cc in subst (λ v. AnswerFine x parts h e q v) s (subst (λ v. AnswerFine x parts h e v a) (sym t.0) f)) (λ t. o.answers q b t) (put_cases j.answers p (Some a) q (Some b) i);
      found = o.found;
      settled = o.settled;
    }

    went_of : (p : ℕ) (j : Job) → OfX x parts h e j → OfX x parts h e (went_on p j)
    went_of p j o = record { named = o.named; born = o.born; low = o.low; mine = o.mine; other = o.other; answers = o.answers; found = o.found; settled = o.settled }

    settled_of : (p : ℕ) (j : Job) (d : Decision) → j.decision ≡ Some d → Ends x parts h e p (done d) → OfX x parts h e j → OfX x parts h e (settled_at p j)
    settled_of p j d i k o = record {
      named = o.named;
      born = o.born;
      low = o.low;
      mine = o.mine;
      other = o.other;
      answers = o.answers;
      found = o.found;
      settled = λ q u. ⊎_elim (λ t. let v = subst (λ n. Ends x parts h e n (done d)) (sym t.0) k in (d, i, v.0, v.1)) (λ t. o.settled q t) (put_cases j.settled p true q true u);
    }

    -- a job of x has the decision of the life
    job_decision : (begun : ℕ) (js : List Job) (j : Job) (d : Decision) → JobsFine x parts h e begun js → In j js → j.txn ≡ x → h.core.decided e ≡ Some d → j.decision ≡ Some d
    job_decision begun js j d i n t k = sym (ap decision_of (once_found js j i.once n t)) ∙ sym i.decided ∙ k

    stuck_of : (p : ℕ) (j : Job) → OfX x parts h e j → OfX x parts h e (stuck_at p j)
    stuck_of p j o = record { named = o.named; born = o.born; low = o.low; mine = o.mine; other = o.other; answers = o.answers; found = o.found; settled = o.settled }

    if_txn : (b : Bool) (f : Job → Job) (j : Job) → (f j).txn ≡ j.txn → (cond b (f j) j).txn ≡ j.txn
    if_txn true f j k = k
    if_txn false f j k = refl

    if_decision : (b : Bool) (f : Job → Job) (j : Job) → (f j).decision ≡ j.decision → (cond b (f j) j).decision ≡ j.decision
    if_decision true f j k = k
    if_decision false f j k = refl

    if_fine : (b : Bool) (y : Txn) (f : Job → Job) (j : Job) → same y j.txn ≡ b → (f j).txn ≡ j.txn → (y ≡ x → OfX x parts h e j → OfX x parts h e (f j)) → JobFine x parts h e j → JobFine x parts h e (cond b (f j) j)
    if_fine true y f j s k m i = λ t. let u : j.txn ≡ x = sym k ∙ t in m (same_true y j.txn s ∙ u) (i u)
    if_fine false y f j s k m i = i

    pub on_job_fine : (begun : ℕ) (js : List Job) (y : Txn) (f : Job → Job) → JobsFine x parts h e begun js → ((j : Job) → (f j).txn ≡ j.txn) → ((j : Job) → (f j).decision ≡ j.decision) → ((j : Job) → In j js → y ≡ x → OfX x parts h e j → OfX x parts h e (f j)) → JobsFine x parts h e begun (on_job y f js)
    on_job_fine begun js y f i k d m =
        jobs_map h e begun js (λ j. cond (same y j.txn) (f j) j) i (λ j. if_txn (same y j.txn) f j (k j)) (λ j. if_decision (same y j.txn) f j (d j)) (λ j n g. if_fine (same y j.txn) y f j refl (k j) (m j n) g)

    pub answer_fine : (begun : ℕ) (js : List Job) (y : Txn) (p : ℕ) (a : Answer) → JobsFine x parts h e begun js → (y ≡ x → AnswerFine x parts h e p a) → JobsFine x parts h e begun (on_job y (answered_by p a) js)
    answer_fine begun js y p a i f = on_job_fine begun js y (answered_by p a) i (λ _. refl) (λ _. refl) (λ j _ t o. answered_of p a j (f t) o)

    aborted_answer : (p : ℕ) → e ≡ x.epoch → AnswerFine x parts h e p (answer e Aborted)
    aborted_answer p i = record { above = λ l. absurd (omega arith); prepared = λ k. cc; own = λ _ k. cc; ended = λ l. absurd (omega arith) }

    if_settled : (begun p : ℕ) (y : Txn) (d : Decision) (js : List Job) (j : Job) (b : Bool) → JobsFine x parts h e begun js → In j js → same y j.txn ≡ b → (y ≡ x → h.core.decided e ≡ Some d) → (y ≡ x → Ends x parts h e p (done d)) → JobFine x parts h e j → JobFine x parts h e (cond b (settled_at p j) j)
    if_settled begun p y d js j true i n s k m f = λ t. let u : y ≡ x = same_true y j.txn s ∙ t in settled_of p j d (job_decision begun js j d i n t (k u)) (m u) (f t)
    if_settled begun p y d js j false i n s k m f = f

    settle_fine : (begun p : ℕ) (y : Txn) (d : Decision) (js : List Job) → JobsFine x parts h e begun js → (y ≡ x → h.core.decided e ≡ Some d) → (y ≡ x → Ends x parts h e p (done d)) → JobsFine x parts h e begun (on_job y (settled_at p) js)
    settle_fine begun p y d js i k m =
        jobs_map h e begun js (λ j. cond (same y j.txn) (settled_at p j) j) i (λ j. if_txn (same y j.txn) (settled_at p) j refl) (λ j. if_decision (same y j.txn) (settled_at p) j refl) (λ j n f. if_settled begun p y d js j (same y j.txn) i n refl k m f)

    -- the response to a message of the life e to p
    pub by_code_fine : (begun p : ℕ) (b : Body) (good : Bool) (js : List Job) → JobsFine x parts h e begun js → Means x parts h e p b → (good ≡ true → b ≡ Eot x → Told h.core.notes (note e p Prepared)) × (good ≡ true → b ≡ Trcomp x → Ends x parts h e p Completed) × (good ≡ true → b ≡ Abt x → Ends x parts h e p Aborted) → JobsFine x parts h e begun (by_code e p b good js)
    by_code_fine begun p (Sot y ps sc) true js i m t = on_job_fine begun js y (went_on p) i (λ _. refl) (λ _. refl) (λ j _ _ o. went_of p j o)
    by_code_fine begun p (Sot y ps sc) false js i m t = answer_fine begun js y p (answer e Aborted) i (λ u. aborted_answer p (m u).0)
    by_code_fine begun p (Mot y n) true js i m t = on_job_fine begun js y (went_on p) i (λ _. refl) (λ _. refl) (λ j _ _ o. went_of p j o)
    by_code_fine begun p (Mot y n) false js i m t = answer_fine begun js y p (answer e Aborted) i (λ u. aborted_answer p (m u))
    by_code_fine begun p (Eot y) true js i m t = answer_fine begun js y p (answer e Prepared) i (λ u. record { above = λ l. let v : e ≡ x.epoch = m u in absurd (omega arith); prepared = λ _. t.0 refl (ap Eot u); own = λ _ k. cc; ended = λ l. let v : e ≡ x.epoch = m u in absurd (omega arith) })
    by_code_fine begun p (Eot y) false js i m t = answer_fine begun js y p (answer e Aborted) i (λ u. aborted_answer p (m u))
    by_code_fine begun p (Trcomp y) true js i m t = settle_fine begun p y Complete js i (λ u. (m u).0) (λ u. t.1 refl (ap Trcomp u))
    by_code_fine begun p (Trcomp y) false js i m t = on_job_fine begun js y (stuck_at p) i (λ _. refl) (λ _. refl) (λ j _ _ o. stuck_of p j o)
    by_code_fine begun p (Abt y) true js i m t = settle_fine begun p y Abort js i (λ u. (m u).0) (λ u. t.2 refl (ap Abt u))
    by_code_fine begun p (Abt y) false js i m t = on_job_fine begun js y (stuck_at p) i (λ _. refl) (λ _. refl) (λ j _ _ o. stuck_of p j o)
    by_code_fine begun p (Claim w) good js i m t = i
    by_code_fine begun p Ask good js i m t = i
    by_code_fine begun p (Ask_record y) good js i m t = i
    by_code_fine begun p Plain good js i m t = i
    by_code_fine begun p (Floor f) good js i m t = i
    by_code_fine begun p Malformed good js i m t = i

    -- a job that was not there
    recover : (begun p : ℕ) (n : TxnEntry) (js : List Job) → HeldFine x parts h p e n → find n.txn js ≡ None → JobsFine x parts h e begun js → JobsFine x parts h e begun (js ++ recovered n ∷ [])
    recover begun p n js f k i =
        let gone = λ (t : n.txn ≡ x). subst (λ y. find y js ≡ None) t k in
        jobs_add h e begun js (recovered n) i.each i.once i.decided refl (λ b. gone (sym (same_true x n.txn b)))
        (λ t. let v = f t in
        record {
          named = v.0;
          born = v.2;
          low = v.1;
          mine = λ u. cc;
          other = λ _.
              let low : x.epoch ≤ e = v.1 in
              let apart : e ≢ x.epoch = λ u. let s : false ≡ true = sym (ap is_some (gone t)) ∙ (i.numbers u v.2).1 in cc in
              omega arith;
          answers = λ p a u. cc;
          found = λ _. (p, v.3);
          settled = λ p u. cc;
        })
        (λ u b. let v = i.numbers u b in (v.0, or_some (find x js) _ v.1)) (λ u b v. or_some (find x js) _ (i.made u b v))

    discover_if : (begun p : ℕ) (n : TxnEntry) (js : List Job) (b : Bool) → is_some (find n.txn js) ≡ b → HeldFine x parts h p e n → JobsFine x parts h e begun js → JobsFine x parts h e begun (cond b js (js ++ recovered n ∷ []))
    discover_if begun p n js true k f i = i
    discover_if begun p n js false k f i = recover begun p n js f (is_none_of (find n.txn js) k) i

    pub discover_fine : (begun p : ℕ) (ns : List TxnEntry) (js : List Job) → AllOf (HeldFine x parts h p e) ns → JobsFine x parts h e begun js → JobsFine x parts h e begun (discover ns js)
    discover_fine begun p [] js a i = i
    discover_fine begun p (n ∷ ns) js a i = discover_fine begun p ns (cond (is_some (find n.txn js)) js (js ++ recovered n ∷ [])) a.1 (discover_if begun p n js (is_some (find n.txn js)) refl a.0 i)
