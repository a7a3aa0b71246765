-- What is known for forgetting stays known: how jobs grow, and what becomes of the marks of an element.
use Rattle.std.proofs.Common.{◌≡◌, ℕ, ◌<◌, ◌≤◌, Bool, true, false, cond, List, [], ◌∷◌, ◌++◌, map, Option, Some, None, is_some, option_map, ◌⊎◌, inl, inr, ⊎_elim, refl, sym, ap, ◌∙◌, subst, arith}
use Rattle.fc_base.specs.Ids.{Txn}
use Rattle.fc_protocol.specs.Collections.{among, or_next, put}
use Rattle.fc_protocol.specs.Jobs.{Job, find, on_job, answered_by, answer, went_on, settled_at, stuck_at, by_code, recovered, discover}
use Rattle.fc_protocol.specs.MasterMachine.{Waiting, Peer, Master, still_owed, after_code, after_ask, unmatched, dropped}
use Rattle.fc_protocol.specs.Messages.{same, Body, Claim, Sot, Mot, Eot, Trcomp, Abt, Floor, Malformed, Plain, Ask, Ask_record, Holds, sent}
use Rattle.fc_protocol.specs.declared.answers.TxnEntry.{TxnEntry}
use Rattle.fc_protocol.specs.declared.states.Seen.TheVariants.{Prepared, Aborted}
use Rattle.fc_protocol.proofs.Puts.{put_all}
use Rattle.fc_protocol.proofs.Basics.{In, AllOf, some_same, cond_true, cond_false, both, same_true, none_some, put_rest}
use Rattle.fc_agreement.proofs.Facts.{Past, has, Means, Born, Found, HeldFine, Closed, JobsFine, Settling, FloorKnown, Forgets}
use Rattle.fc_agreement.proofs.Jobs.{find_map, find_append}

-- Jobs of x grow: one that is there stays, none comes, and what is decided stays so
pub record Grows (x : Txn) (js ks : List Job) : Type 0 where
  pub kept : is_some (find x js) ≡ true → is_some (find x ks) ≡ true
  pub back : (k : Job) → find x ks ≡ Some k → (j : Job) × (find x js ≡ Some j) × (is_some j.decision ≡ true → is_some k.decision ≡ true)

pub grows_same : (x : Txn) (js : List Job) → Grows x js js
grows_same x js = record { kept = λ e. e; back = λ k e. (k, e, (λ d. d)) }

some_of : (g : Job → Job) (o : Option Job) (k : Job) → option_map g o ≡ Some k → (j : Job) × (o ≡ Some j) × (g j ≡ k)
some_of g None k e = cc
some_of g (Some j) k e = (j, refl, cc)

some_map : (g : Job → Job) (o : Option Job) → is_some o ≡ true → is_some (option_map g o) ≡ true
some_map g None e = e
some_map g (Some j) e = refl

pub grows_map : (x : Txn) (g : Job → Job) (js : List Job) → ((j : Job) → (g j).txn ≡ j.txn) → ((j : Job) → is_some j.decision ≡ true → is_some (g j).decision ≡ true) → Grows x js (map g js)
grows_map x g js t d = record {
  kept = λ e. ap is_some (find_map x g js t) ∙ some_map g (find x js) e;
  back = λ k e. let v = some_of g (find x js) k (sym (find_map x g js t) ∙ e) in (v.0, v.1, (λ u. subst (λ (i : Job). is_some i.decision ≡ true) v.2 (d v.0 u)));
}

if_txn : (b : Bool) (f : Job → Job) (j : Job) → (f j).txn ≡ j.txn → (cond b (f j) j).txn ≡ j.txn
if_txn true f j k = k
if_txn false f j k = refl

if_some : (b : Bool) (f : Job → Job) (j : Job) → (f j).decision ≡ j.decision → is_some j.decision ≡ true → is_some (cond b (f j) j).decision ≡ true
if_some true f j k e = ap is_some k ∙ e
if_some false f j k e = e

pub grows_on : (x y : Txn) (f : Job → Job) (js : List Job) → ((j : Job) → (f j).txn ≡ j.txn) → ((j : Job) → (f j).decision ≡ j.decision) → Grows x js (on_job y f js)
grows_on x y f js t d = grows_map x (λ j. cond (same y j.txn) (f j) j) js (λ j. if_txn (same y j.txn) f j (t j)) (λ j. if_some (same y j.txn) f j (d j))

pub grows_code : (x : Txn) (e p : ℕ) (b : Body) (good : Bool) (js : List Job) → Grows x js (by_code e p b good js)
grows_code x e p (Claim w) good js = grows_same x js
grows_code x e p (Sot y ps sc) true js = grows_on x y (went_on p) js (λ _. refl) (λ _. refl)
grows_code x e p (Sot y ps sc) false js = grows_on x y (answered_by p (answer e Aborted)) js (λ _. refl) (λ _. refl)
grows_code x e p (Mot y i) true js = grows_on x y (went_on p) js (λ _. refl) (λ _. refl)
grows_code x e p (Mot y i) false js = grows_on x y (answered_by p (answer e Aborted)) js (λ _. refl) (λ _. refl)
grows_code x e p (Eot y) true js = grows_on x y (answered_by p (answer e Prepared)) js (λ _. refl) (λ _. refl)
grows_code x e p (Eot y) false js = grows_on x y (answered_by p (answer e Aborted)) js (λ _. refl) (λ _. refl)
grows_code x e p (Trcomp y) true js = grows_on x y (settled_at p) js (λ _. refl) (λ _. refl)
grows_code x e p (Trcomp y) false js = grows_on x y (stuck_at p) js (λ _. refl) (λ _. refl)
grows_code x e p (Abt y) true js = grows_on x y (settled_at p) js (λ _. refl) (λ _. refl)
grows_code x e p (Abt y) false js = grows_on x y (stuck_at p) js (λ _. refl) (λ _. refl)
grows_code x e p (Floor f) good js = grows_same x js
grows_code x e p Malformed good js = grows_same x js
grows_code x e p Plain good js = grows_same x js
grows_code x e p Ask good js = grows_same x js
grows_code x e p (Ask_record y) good js = grows_same x js

-- Discovering

or_none : (o : Option Job) → or_next o None ≡ o
or_none None = refl
or_none (Some j) = refl

or_first : (o t : Option Job) (j : Job) → o ≡ Some j → or_next o t ≡ Some j
or_first None t j e = cc
or_first (Some i) t j e = e

or_last : (o : Option Job) (j : Job) → is_some (or_next o (Some j)) ≡ true
or_last None j = refl
or_last (Some i) j = refl

abbrev step : TxnEntry → List Job → Bool → List Job
step n js b = cond b js (js ++ recovered n ∷ [])

step_old : (x : Txn) (n : TxnEntry) (js : List Job) (j : Job) (b : Bool) → find x js ≡ Some j → find x (step n js b) ≡ Some j
step_old x n js j true e = e
step_old x n js j false e = find_append x js (recovered n) ∙ or_first (find x js) _ j e

step_other : (x : Txn) (n : TxnEntry) (js : List Job) (b : Bool) → same x n.txn ≡ false → find x (step n js b) ≡ find x js
step_other x n js true e = refl
step_other x n js false e = find_append x js (recovered n) ∙ ap (or_next (find x js)) (cond_false (same x n.txn) (Some (recovered n)) None e) ∙ or_none (find x js)

step_here : (x : Txn) (n : TxnEntry) (js : List Job) (b : Bool) → is_some (find n.txn js) ≡ b → same x n.txn ≡ true → is_some (find x (step n js b)) ≡ true
step_here x n js true e s = ap (λ (y : Txn). is_some (find y js)) (same_true x n.txn s) ∙ e
step_here x n js false e s = ap is_some (find_append x js (recovered n) ∙ ap (or_next (find x js)) (cond_true (same x n.txn) (Some (recovered n)) None s)) ∙ or_last (find x js) (recovered n)

pub discover_old : (x : Txn) (ns : List TxnEntry) (js : List Job) (j : Job) → find x js ≡ Some j → find x (discover ns js) ≡ Some j
discover_old x [] js j e = e
discover_old x (n ∷ ns) js j e = discover_old x ns (step n js (is_some (find n.txn js))) j (step_old x n js j (is_some (find n.txn js)) e)

pub some_is : (o : Option Job) → is_some o ≡ true → (j : Job) × (o ≡ Some j)
some_is None e = cc
some_is (Some j) e = (j, refl)

pub discover_kept : (x : Txn) (ns : List TxnEntry) (js : List Job) → is_some (find x js) ≡ true → is_some (find x (discover ns js)) ≡ true
discover_kept x ns js e = let v = some_is (find x js) e in ap is_some (discover_old x ns js v.0 v.1)

pub discover_other : (x : Txn) (ns : List TxnEntry) (js : List Job) → has x ns ≡ false → find x (discover ns js) ≡ find x js
discover_other x [] js e = refl
discover_other x (n ∷ ns) js e =
    ⊎_elim (λ u. let t : true ≡ false = sym (cond_true (same x n.txn) true (has x ns) u) ∙ e in cc)
    (λ u. discover_other x ns (step n js (is_some (find n.txn js))) (sym (cond_false (same x n.txn) true (has x ns) u) ∙ e) ∙ step_other x n js (is_some (find n.txn js)) u) (both (same x n.txn))

pub discover_has : (x : Txn) (ns : List TxnEntry) (js : List Job) → has x ns ≡ true → is_some (find x (discover ns js)) ≡ true
discover_has x [] js e = cc
discover_has x (n ∷ ns) js e =
    ⊎_elim (λ u. discover_kept x ns (step n js (is_some (find n.txn js))) (step_here x n js (is_some (find n.txn js)) refl u))
    (λ u. discover_has x ns (step n js (is_some (find n.txn js))) (sym (cond_false (same x n.txn) true (has x ns) u) ∙ e)) (both (same x n.txn))

-- The marks of an element: what waits or is wanted there is no more than before
pub record Tame (y z : Peer) : Type 0 where
  pub answered : z.answered ≡ y.answered
  pub waits : (o : Waiting) → z.waits ≡ Some o → y.waits ≡ Some o
  pub owes : (f : Txn) → z.owes ≡ Some f → y.owes ≡ Some f

pub tame_same : (y : Peer) → Tame y y
tame_same y = record { answered = refl; waits = λ o e. e; owes = λ f e. e }

still_is : (b : Body) (o : Option Txn) (f : Txn) → still_owed b o ≡ Some f → o ≡ Some f
still_is (Claim w) o f e = e
still_is (Sot x ps sc) o f e = e
still_is (Mot x i) o f e = e
still_is (Eot x) o f e = e
still_is (Trcomp x) o f e = e
still_is (Abt x) o f e = e
still_is (Floor g) o f e = cc
still_is Malformed o f e = e
still_is Plain o f e = e
still_is Ask o f e = e
still_is (Ask_record x) o f e = e

pub tame_code : (y : Peer) (b : Body) (code : ℕ) → Tame y (after_code y b code)
tame_code y b code = record { answered = refl; waits = λ o e. none_some o e; owes = λ f e. still_is b y.owes f e }

pub tame_unmatched : (y : Peer) → Tame y (unmatched y)
tame_unmatched y = record { answered = refl; waits = λ o e. none_some o e; owes = λ f e. e }

pub tame_dropped : (y : Peer) → Tame y (dropped y)
tame_dropped y = record { answered = refl; waits = λ o e. none_some o e; owes = λ f e. e }

pub tame_put : (at : ℕ → Peer) (p : ℕ) (y : Peer) → Tame (at p) y → (q : ℕ) → Tame (at q) (put at p y q)
tame_put at p y t q = put_all (λ r z. Tame (at r) z) at p y t (λ r. tame_same (at r)) q

module _ (x : Txn) (parts : List ℕ) (h : Past) where
  settling_on : (js ks : List Job) → Grows x js ks → Settling x parts js → Settling x parts ks
  settling_on js ks g s k e p a = let v = g.back k e in v.2 (s v.0 v.1 p a)

  pub forgets_tame : (m : Master) (at : ℕ → Peer) (js : List Job) → Grows x m.jobs js → ((q : ℕ) → Tame (m.at q) (at q)) → Forgets x parts h m → Forgets x parts h (record m { at = at; jobs = js })
  forgets_tame m at js g t f =
      let floor_on : (fl : Txn) → FloorKnown x parts m fl → FloorKnown x parts (record m { at = at; jobs = js }) fl = λ fl k. (k.0, (λ u. let v = k.1 u in ((λ q i. (t q).answered ∙ v.0 q i), settling_on m.jobs js g v.1)), k.2) in
      record {
        inside = f.inside;
        manned = f.manned;
        reached = λ p a. f.reached p (sym (t p).answered ∙ a);
        known = λ p a e. ⊎_elim (λ u. inl (g.kept u)) (λ u. inr (u.0, (λ o w. u.1 o ((t p).waits o w)))) (f.known p (sym (t p).answered ∙ a) e);
        owed = λ p fl i. let v = f.owed p fl ((t p).owes fl i) in (floor_on fl v.0, v.1);
        floors = λ p j s fl i e. floor_on fl (f.floors p j s fl i e);
      }

  has_fine : (p e : ℕ) (ns : List TxnEntry) → AllOf (HeldFine x parts h p e) ns → has x ns ≡ true → (x.epoch ≤ e) × Born x parts h × Found x parts h e p
  has_fine p e [] a k = cc
  has_fine p e (n ∷ ns) a k =
      ⊎_elim (λ u. let v = a.0 (sym (same_true x n.txn u)) in (v.1, v.2, v.3)) (λ u. has_fine p e ns a.1 (sym (cond_false (same x n.txn) true (has x ns) u) ∙ k)) (both (same x n.txn))

  -- the answer to the ask that waits at p: what it lists is known
  pub forgets_held : (m : Master) (p : ℕ) (o : Waiting) (j e : ℕ) (ns : List TxnEntry) → (m.at p).waits ≡ Some o → o.body ≡ Ask → In (sent p j (Holds o.stamp e ns)) h.sent → AllOf (HeldFine x parts h p m.epoch) ns → (x.epoch < m.epoch → has x ns ≡ false → Closed x parts h m.epoch p) → m.epoch ≤ (h.core.at p).epoch
      → JobsFine x parts h m.epoch m.begun m.jobs → Forgets x parts h m → Forgets x parts h (record m { at = put m.at p (after_ask (m.at p)); jobs = discover ns m.jobs })
  forgets_held m p o j e ns w b i a c up fine f =
      let ks = discover ns m.jobs in
      let all_on = λ (l : (q : ℕ) → among q m.elements ≡ true → (m.at q).answered ≡ true).
      put_all (λ q (z : Peer). among q m.elements ≡ true → z.answered ≡ true) m.at p (after_ask (m.at p)) (λ _. refl) l in
      -- where a floor is above x, and there is no job of x, none is found
      let none = λ (l : (q : ℕ) → among q m.elements ≡ true → (m.at q).answered ≡ true) (z : is_some (find x m.jobs) ≡ false) (t : has x ns ≡ true).
      let v = has_fine p m.epoch ns a t in
      let low : x.epoch ≤ m.epoch = v.0 in
      let apart = λ (u : m.epoch ≡ x.epoch). let n = (fine.numbers u v.1).1 in let s : true ≡ false = sym n ∙ z in absurd {A = ⊥} cc in
      let below : x.epoch < m.epoch = omega arith in
      ⊎_elim (λ u. let s : true ≡ false = sym u ∙ z in absurd {A = ⊥} cc) (λ u. let s : true ≡ false = sym t ∙ u.1 o w b j e ns i in absurd {A = ⊥} cc) (f.known p (l p (f.inside p v.2.3)) below) in
      let settling_now = λ (l : (q : ℕ) → among q m.elements ≡ true → (m.at q).answered ≡ true) (s : Settling x parts m.jobs) (k : Job) (n : find x ks ≡ Some k).
      ⊎_elim (λ z. let v = some_is (find x m.jobs) z in s k (v.1 ∙ (let same_job : v.0 ≡ k = some_same v.0 k (sym (discover_old x ns m.jobs v.0 v.1) ∙ n) in ap Some same_job)))
      (λ z. ⊎_elim (λ t. absurd (none l z t)) (λ t. s k (sym (discover_other x ns m.jobs t) ∙ n)) (both (has x ns))) (both (is_some (find x m.jobs))) in
      let floor_on : (fl : Txn) → FloorKnown x parts m fl → FloorKnown x parts (record m { at = put m.at p (after_ask (m.at p)); jobs = ks }) fl = λ fl k. (k.0, (λ u. let v = k.1 u in (all_on v.0, settling_now v.0 v.1)), k.2) in
      record {
        inside = f.inside;
        manned = f.manned;
        reached = put_rest (λ q (z : Peer). z.answered ≡ true → m.epoch ≤ (h.core.at q).epoch) m.at p (after_ask (m.at p)) (λ _. up) (λ q _. f.reached q);
        known = put_rest (λ q (z : Peer). z.answered ≡ true → x.epoch < m.epoch → (is_some (find x ks) ≡ true) ⊎ (Closed x parts h m.epoch q × ((o : Waiting) → z.waits ≡ Some o → o.body ≡ Ask → (j e : ℕ) (ns : List TxnEntry) → In (sent q j (Holds o.stamp e ns)) h.sent → has x ns ≡ false)))
            m.at p (after_ask (m.at p))
            (λ _ u. ⊎_elim (λ t. inl (discover_has x ns m.jobs t)) (λ t. inr (c u t, (λ o v. none_some o v))) (both (has x ns)))
            (λ q _ k u. ⊎_elim (λ t. inl (discover_kept x ns m.jobs t)) (λ t. inr t) (f.known q k u));
        owed = put_all (λ q (z : Peer). (fl : Txn) → z.owes ≡ Some fl → FloorKnown x parts (record m { at = put m.at p (after_ask (m.at p)); jobs = ks }) fl × Means x parts h m.epoch q (Floor fl)) m.at p (after_ask (m.at p))
            (λ fl k. let v = f.owed p fl k in (floor_on fl v.0, v.1)) (λ q fl k. let v = f.owed q fl k in (floor_on fl v.0, v.1));
        floors = λ q j s fl k u. floor_on fl (f.floors q j s fl k u);
      }
