-- What the records of an element say of what is kept of transactions.
use Rattle.std.proofs.Common.{◌≡◌, ℕ, Bool, true, false, cond, not, ◌&&◌, ◌||◌, List, [], ◌∷◌, ◌++◌, Some, None, option_map, refl, sym, ap, ◌∙◌, if◌then◌else◌}
use Rattle.fc_base.specs.Ids.{Txn}
use Rattle.fc_exec.specs.declared.operations.Operation.{Operation}
use Rattle.fc_headline.proofs.Held.{flat_rest}
use Rattle.fc_holding.specs.Holdings.{is_started_in}
use Rattle.fc_machine.specs.ElementState.{Entry, and_rest, bare, bares, entry, flat, no_rests, ops_at, ops_of, rest_added, undone_records, written}
use Rattle.fc_machine.specs.ElementState as machine
use Rattle.fc_machine.specs.Transactions.{scope_at}
use Rattle.fc_protocol.specs.Floors.{held_under, is_under}
use Rattle.fc_protocol.specs.Messages.{same}
use Rattle.fc_protocol.specs.OneElement.{Distinct}
use Rattle.fc_protocol.specs.Records.{is_held, state_of, undone}
use Rattle.fc_protocol.specs.Scopes.{Scope}
use Rattle.fc_protocol.specs.declared.answers.TxnEntry.{TxnEntry}
use Rattle.fc_protocol.specs.declared.states.TxnState.{TxnState}
use Rattle.fc_protocol.specs.declared.states.TxnState.TheVariants.{Started, Prepared, Completed, Aborted}
use Rattle.fc_protocol.proofs.Basics.{AllOf, none_some, same_self, same_true, some_same}
use Rattle.fc_standing.specs.Holding.{gone_back_to, holdings, marking, started_back}
use Rattle.fc_standing.specs.Holding as standing
use Rattle.fc_store.specs.Stores.{Stored, gone_back, over_mark}
use Rattle.fc_folding.proofs.Kept.{Kept, back_all, extend, find_in, leave, more_ops, stay}

pub never : {A : Type 0} (b : Bool) → b ≡ true → b ≡ false → A
never true e f = absurd cc
never false e f = absurd cc

-- ---- of each held record something
abbrev pub put_if : {A : Type 0} → Bool → A → List A → List A
put_if b a as' = if b then a ∷ as' else as'

abbrev pub of_held : {A : Type 0} → (Entry Operation → A) → List (Entry Operation) → List A
of_held f [] = []
of_held f (n ∷ ns) = put_if (is_held n.state) (f n) (of_held f ns)

module _ {A : Type 0} (f : Entry Operation → A) where
  -- one that is entered as aborted is nothing
  entered_by : (x : Txn) (ps : List ℕ) (sc : Scope) (n : Entry Operation) (ns : List (Entry Operation)) (b : Bool) → cond b (Some n.state) (state_of x (bares ns)) ≡ None
      → (state_of x (bares ns) ≡ None → of_held f (written x ps sc Aborted ns) ≡ of_held f ns)
      → of_held f (cond b (entry n.txn Aborted n.participants n.scope n.rests ∷ ns) (n ∷ written x ps sc Aborted ns)) ≡ of_held f (n ∷ ns)
  entered_by x ps sc n ns true e r = absurd (none_some n.state (sym e))
  entered_by x ps sc n ns false e r = ap (put_if (is_held n.state) (f n)) (r e)

  pub entered : (x : Txn) (ps : List ℕ) (sc : Scope) (ns : List (Entry Operation)) → state_of x (bares ns) ≡ None → of_held f (written x ps sc Aborted ns) ≡ of_held f ns
  entered x ps sc [] e = refl
  entered x ps sc (n ∷ ns) e = entered_by x ps sc n ns (same x n.txn) e (λ g. entered x ps sc ns g)

  -- nor is what goes with a floor
  or_left : (a b : Bool) → (a || b) ≡ false → a ≡ false
  or_left true b e = absurd cc
  or_left false b e = refl

  or_right : (a b : Bool) → (a || b) ≡ false → b ≡ false
  or_right true b e = absurd cc
  or_right false b e = e

  not_held : (h u : Bool) → (h && u) ≡ false → u ≡ true → h ≡ false
  not_held true u e g = never u g e
  not_held false u e g = refl

  forgotten_by : (y : Txn) (n : Entry Operation) (ns : List (Entry Operation)) (b : Bool) → (b ≡ true → is_held n.state ≡ false) → of_held f (machine.without (λ x. is_under x y) ns) ≡ of_held f ns
      → of_held f (cond b (machine.without (λ x. is_under x y) ns) (n ∷ machine.without (λ x. is_under x y) ns)) ≡ of_held f (n ∷ ns)
  forgotten_by y n ns true e r = r ∙ sym (ap (λ h. put_if h (f n) (of_held f ns)) (e refl))
  forgotten_by y n ns false e r = ap (put_if (is_held n.state) (f n)) r

  pub forgotten : (y : Txn) (ns : List (Entry Operation)) → held_under y (bares ns) ≡ false → of_held f (machine.without (λ x. is_under x y) ns) ≡ of_held f ns
  forgotten y [] e = refl
  forgotten y (n ∷ ns) e =
      forgotten_by y n ns (is_under n.txn y) (not_held (is_held n.state) (is_under n.txn y) (or_left (is_held n.state && is_under n.txn y) (held_under y (bares ns)) e))
      (forgotten y ns (or_right (is_held n.state && is_under n.txn y) (held_under y (bares ns)) e))

  -- what is prepared is held as it was
  prepared_by : (x : Txn) (ps : List ℕ) (sc : Scope) (n : Entry Operation) (ns : List (Entry Operation)) (b : Bool) → f (entry n.txn Prepared n.participants n.scope n.rests) ≡ f n → cond b (Some n.state) (state_of x (bares ns)) ≡ Some Started
      → (state_of x (bares ns) ≡ Some Started → of_held f (written x ps sc Prepared ns) ≡ of_held f ns)
      → of_held f (cond b (entry n.txn Prepared n.participants n.scope n.rests ∷ ns) (n ∷ written x ps sc Prepared ns)) ≡ of_held f (n ∷ ns)
  prepared_by x ps sc n ns true g e r = ap (λ a. a ∷ of_held f ns) g ∙ sym (ap (λ h. put_if h (f n) (of_held f ns)) (ap is_held (some_same n.state Started e)))
  prepared_by x ps sc n ns false g e r = ap (put_if (is_held n.state) (f n)) (r e)

  pub prepared : ((n : Entry Operation) → f (entry n.txn Prepared n.participants n.scope n.rests) ≡ f n) → (x : Txn) (ps : List ℕ) (sc : Scope) (ns : List (Entry Operation)) → state_of x (bares ns) ≡ Some Started
      → of_held f (written x ps sc Prepared ns) ≡ of_held f ns
  prepared g x ps sc [] e = absurd (none_some Started e)
  prepared g x ps sc (n ∷ ns) e = prepared_by x ps sc n ns (same x n.txn) (g n) e (λ i. prepared g x ps sc ns i)

-- ---- as transactions on a store
abbrev as_standing : Entry Operation → standing.Holding
as_standing n = record { scope = n.scope; ops = ops_of n }

pub holdings_are : (ns : List (Entry Operation)) → holdings ns ≡ of_held as_standing ns
holdings_are [] = refl
holdings_are (n ∷ ns) = ap (put_if (is_held n.state) (as_standing n)) (holdings_are ns)

pub holdings_entered : (x : Txn) (ps : List ℕ) (sc : Scope) (ns : List (Entry Operation)) → state_of x (bares ns) ≡ None → holdings (written x ps sc Aborted ns) ≡ holdings ns
holdings_entered x ps sc ns e = holdings_are (written x ps sc Aborted ns) ∙ entered as_standing x ps sc ns e ∙ sym (holdings_are ns)

pub holdings_forgotten : (y : Txn) (ns : List (Entry Operation)) → held_under y (bares ns) ≡ false → holdings (machine.without (λ x. is_under x y) ns) ≡ holdings ns
holdings_forgotten y ns e = holdings_are (machine.without (λ x. is_under x y) ns) ∙ forgotten as_standing y ns e ∙ sym (holdings_are ns)

-- ---- as what is kept
module _ (instances : List (ℕ × ℕ)) where
  abbrev pub one_kept : Entry Operation → Kept
  one_kept n = (n.txn, (marking n.scope instances, ops_of n))

  abbrev pub kept_of : List (Entry Operation) → List Kept
  kept_of ns = of_held one_kept ns

  pub kept_prepared : (x : Txn) (ps : List ℕ) (sc : Scope) (ns : List (Entry Operation)) → state_of x (bares ns) ≡ Some Started → kept_of (written x ps sc Prepared ns) ≡ kept_of ns
  kept_prepared = prepared one_kept (λ n. refl)

  -- the one of x
  abbrev mark_ops : Kept → List (ℕ × ℕ) × List Operation
  mark_ops k = k.1

  find_by : (x : Txn) (s : TxnState) (n : Entry Operation) (ns : List (Entry Operation)) (b h : Bool) → same x n.txn ≡ b → is_held n.state ≡ h → cond b (Some n.state) (state_of x (bares ns)) ≡ Some s → is_held s ≡ true
      → (state_of x (bares ns) ≡ Some s → option_map mark_ops (find_in x (kept_of ns)) ≡ Some (marking (scope_at x ns) instances, ops_at x ns))
      → option_map mark_ops (find_in x (put_if h (one_kept n) (kept_of ns))) ≡ Some (marking (cond b n.scope (scope_at x ns)) instances, cond b (ops_of n) (ops_at x ns))
  find_by x s n ns true true e i g k r = ap (λ c. option_map mark_ops (cond c (Some (one_kept n)) (find_in x (kept_of ns)))) e
  find_by x s n ns true false e i g k r = never (is_held n.state) (ap is_held (some_same n.state s g) ∙ k) i
  find_by x s n ns false true e i g k r = ap (λ c. option_map mark_ops (cond c (Some (one_kept n)) (find_in x (kept_of ns)))) e ∙ r g
  find_by x s n ns false false e i g k r = r g

  pub find_kept : (x : Txn) (s : TxnState) (ns : List (Entry Operation)) → state_of x (bares ns) ≡ Some s → is_held s ≡ true
      → option_map mark_ops (find_in x (kept_of ns)) ≡ Some (marking (scope_at x ns) instances, ops_at x ns)
  find_kept x s [] g k = absurd (none_some s g)
  find_kept x s (n ∷ ns) g k = find_by x s n ns (same x n.txn) (is_held n.state) refl refl g k (λ i. find_kept x s ns i k)

  leave_by : (x : Txn) (ps : List ℕ) (sc : Scope) (t s : TxnState) (n : Entry Operation) (ns : List (Entry Operation)) (b h : Bool) → is_held t ≡ false → same x n.txn ≡ b → is_held n.state ≡ h
      → cond b (Some n.state) (state_of x (bares ns)) ≡ Some s → is_held s ≡ true → (state_of x (bares ns) ≡ Some s → leave x (kept_of ns) ≡ kept_of (written x ps sc t ns))
      → leave x (put_if h (one_kept n) (kept_of ns)) ≡ kept_of (cond b (entry n.txn t n.participants n.scope n.rests ∷ ns) (n ∷ written x ps sc t ns))
  leave_by x ps sc t s n ns true true d e i g k r =
      ap (λ c. cond c (kept_of ns) (one_kept n ∷ leave x (kept_of ns))) e ∙ sym (ap (λ c. put_if c (one_kept (entry n.txn t n.participants n.scope n.rests)) (kept_of ns)) d)
  leave_by x ps sc t s n ns true false d e i g k r = never (is_held n.state) (ap is_held (some_same n.state s g) ∙ k) i
  leave_by x ps sc t s n ns false true d e i g k r =
      ap (λ c. cond c (kept_of ns) (one_kept n ∷ leave x (kept_of ns))) e ∙ ap (λ ks. one_kept n ∷ ks) (r g) ∙ sym (ap (λ c. put_if c (one_kept n) (kept_of (written x ps sc t ns))) i)
  leave_by x ps sc t s n ns false false d e i g k r = r g ∙ sym (ap (λ c. put_if c (one_kept n) (kept_of (written x ps sc t ns))) i)

  pub leave_kept : (x : Txn) (ps : List ℕ) (sc : Scope) (t s : TxnState) (ns : List (Entry Operation)) → is_held t ≡ false → state_of x (bares ns) ≡ Some s → is_held s ≡ true
      → leave x (kept_of ns) ≡ kept_of (written x ps sc t ns)
  leave_kept x ps sc t s [] d g k = absurd (none_some s g)
  leave_kept x ps sc t s (n ∷ ns) d g k = leave_by x ps sc t s n ns (same x n.txn) (is_held n.state) d refl refl g k (λ i. leave_kept x ps sc t s ns d i k)

  abbrev with_ops : Entry Operation → List Operation → Entry Operation
  with_ops n ops = record { txn = n.txn; state = n.state; participants = n.participants; scope = n.scope; rests = and_rest n.rests ops }

  more_kept : (n : Entry Operation) (ops : List Operation) → more_ops ops (one_kept n) ≡ one_kept (with_ops n ops)
  more_kept n ops = ap (λ (os : List Operation). (n.txn, (marking n.scope instances, os))) (sym (flat_rest n.rests ops))

  extend_by : (x : Txn) (ops : List Operation) (s : TxnState) (n : Entry Operation) (ns : List (Entry Operation)) (b h : Bool) → same x n.txn ≡ b → is_held n.state ≡ h
      → cond b (Some n.state) (state_of x (bares ns)) ≡ Some s → is_held s ≡ true → (state_of x (bares ns) ≡ Some s → extend x ops (kept_of ns) ≡ kept_of (rest_added x ops ns))
      → extend x ops (put_if h (one_kept n) (kept_of ns)) ≡ kept_of (cond b (with_ops n ops ∷ ns) (n ∷ rest_added x ops ns))
  extend_by x ops s n ns true true e i g k r =
      ap (λ c. cond c (more_ops ops (one_kept n) ∷ kept_of ns) (one_kept n ∷ extend x ops (kept_of ns))) e ∙ ap (λ a. a ∷ kept_of ns) (more_kept n ops)
      ∙ sym (ap (λ c. put_if c (one_kept (with_ops n ops)) (kept_of ns)) i)
  extend_by x ops s n ns true false e i g k r = never (is_held n.state) (ap is_held (some_same n.state s g) ∙ k) i
  extend_by x ops s n ns false true e i g k r =
      ap (λ c. cond c (more_ops ops (one_kept n) ∷ kept_of ns) (one_kept n ∷ extend x ops (kept_of ns))) e ∙ ap (λ ks. one_kept n ∷ ks) (r g) ∙ sym (ap (λ c. put_if c (one_kept n) (kept_of (rest_added x ops ns))) i)
  extend_by x ops s n ns false false e i g k r = r g ∙ sym (ap (λ c. put_if c (one_kept n) (kept_of (rest_added x ops ns))) i)

  pub extend_kept : (x : Txn) (ops : List Operation) (s : TxnState) (ns : List (Entry Operation)) → state_of x (bares ns) ≡ Some s → is_held s ≡ true → extend x ops (kept_of ns) ≡ kept_of (rest_added x ops ns)
  extend_kept x ops s [] g k = absurd (none_some s g)
  extend_kept x ops s (n ∷ ns) g k = extend_by x ops s n ns (same x n.txn) (is_held n.state) refl refl g k (λ i. extend_kept x ops s ns i k)

  -- one that begins
  opened_here : (x : Txn) (ps : List ℕ) (sc : Scope) (ops : List Operation) (n : Entry Operation) (ns : List (Entry Operation)) (b : Bool) → same x n.txn ≡ b → cond b (Some n.state) (state_of x (bares ns)) ≡ None
      → (state_of x (bares ns) ≡ None → kept_of (rest_added x ops (written x ps sc Started ns)) ≡ kept_of ns ++ (x, (marking sc instances, ops)) ∷ [])
      → kept_of (rest_added x ops (cond b (entry n.txn Started n.participants n.scope n.rests ∷ ns) (n ∷ written x ps sc Started ns))) ≡ put_if (is_held n.state) (one_kept n) (kept_of ns) ++ (x, (marking sc instances, ops)) ∷ []
  opened_here x ps sc ops n ns true e g r = absurd (none_some n.state (sym g))
  opened_here x ps sc ops n ns false e g r =
      ap (λ c. kept_of (cond c (with_ops n ops ∷ written x ps sc Started ns) (n ∷ rest_added x ops (written x ps sc Started ns)))) e ∙ ap (put_if (is_held n.state) (one_kept n)) (r g) ∙ put_more (is_held n.state)
    where
      put_more : (h : Bool) → put_if h (one_kept n) (kept_of ns ++ (x, (marking sc instances, ops)) ∷ []) ≡ put_if h (one_kept n) (kept_of ns) ++ (x, (marking sc instances, ops)) ∷ []
      put_more true = refl
      put_more false = refl

  pub opened_kept : (x : Txn) (ps : List ℕ) (sc : Scope) (ops : List Operation) (ns : List (Entry Operation)) → state_of x (bares ns) ≡ None
      → kept_of (rest_added x ops (written x ps sc Started ns)) ≡ kept_of ns ++ (x, (marking sc instances, ops)) ∷ []
  opened_kept x ps sc ops [] g =
      let n : Entry Operation = entry x Started ps sc [] in
      ap (λ c. kept_of (cond c (with_ops n ops ∷ []) (n ∷ []))) (same_self x) ∙ ap (λ (os : List Operation). (x, (marking sc instances, os)) ∷ []) (flat_rest [] ops)
  opened_kept x ps sc ops (n ∷ ns) g = opened_here x ps sc ops n ns (same x n.txn) refl g (λ i. opened_kept x ps sc ops ns i)

  -- ---- a claim
  module _ (ms : List TxnEntry) where
    abbrev pub Told : Entry Operation → Type 0
    Told n = state_of n.txn ms ≡ Some n.state

    abbrev now_undone : TxnState → Entry Operation → Entry Operation
    now_undone s n = entry n.txn (undone s) n.participants n.scope n.rests

    stay_by : (n : Entry Operation) (ns : List (Entry Operation)) (s : TxnState) → state_of n.txn ms ≡ Some s → stay ms (kept_of ns) ≡ kept_of (undone_records ns)
        → stay ms (put_if (is_held s) (one_kept n) (kept_of ns)) ≡ put_if (is_held (undone s)) (one_kept (now_undone s n)) (kept_of (undone_records ns))
    stay_by n ns Started e r = ap (λ o. cond (not (is_started_in o)) (one_kept n ∷ stay ms (kept_of ns)) (stay ms (kept_of ns))) e ∙ r
    stay_by n ns Prepared e r = ap (λ o. cond (not (is_started_in o)) (one_kept n ∷ stay ms (kept_of ns)) (stay ms (kept_of ns))) e ∙ ap (λ ks. one_kept n ∷ ks) r
    stay_by n ns Completed e r = r
    stay_by n ns Aborted e r = r

    pub stay_kept : (ns : List (Entry Operation)) → AllOf Told ns → stay ms (kept_of ns) ≡ kept_of (undone_records ns)
    stay_kept [] a = refl
    stay_kept (n ∷ ns) a = stay_by n ns n.state a.0 (stay_kept ns a.1)

    back_by : (n : Entry Operation) (ns : List (Entry Operation)) (s : TxnState) (t : Stored) → state_of n.txn ms ≡ Some s → ((u : Stored) → back_all ms (kept_of ns) u ≡ gone_back_to instances ns u)
        → back_all ms (put_if (is_held s) (one_kept n) (kept_of ns)) t ≡ gone_back_to instances ns (started_back instances s n.scope t)
    back_by n ns Started t e r = ap (λ o. back_all ms (kept_of ns) (cond (is_started_in o) (over_mark gone_back (marking n.scope instances) t) t)) e ∙ r (over_mark gone_back (marking n.scope instances) t)
    back_by n ns Prepared t e r = ap (λ o. back_all ms (kept_of ns) (cond (is_started_in o) (over_mark gone_back (marking n.scope instances) t) t)) e ∙ r t
    back_by n ns Completed t e r = r t
    back_by n ns Aborted t e r = r t

    pub back_kept : (ns : List (Entry Operation)) → AllOf Told ns → (t : Stored) → back_all ms (kept_of ns) t ≡ gone_back_to instances ns t
    back_kept [] a t = refl
    back_kept (n ∷ ns) a t = back_by n ns n.state t a.0 (back_kept ns a.1)

-- ---- where no two records are of one transaction, each tells the state of its own
told_by : (n m : Entry Operation) (ns : List (Entry Operation)) (b : Bool) → same m.txn n.txn ≡ b → state_of n.txn (bares ns) ≡ None → state_of m.txn (bares ns) ≡ Some m.state → cond b (Some n.state) (state_of m.txn (bares ns)) ≡ Some m.state
told_by n m ns true e none is = absurd (none_some m.state (sym none ∙ ap (λ x. state_of x (bares ns)) (sym (same_true m.txn n.txn e)) ∙ is))
told_by n m ns false e none is = is

told_behind : (n : Entry Operation) (ns ms : List (Entry Operation)) → state_of n.txn (bares ns) ≡ None → AllOf (λ (m : Entry Operation). state_of m.txn (bares ns) ≡ Some m.state) ms
    → AllOf (λ (m : Entry Operation). state_of m.txn (bares (n ∷ ns)) ≡ Some m.state) ms
told_behind n ns [] none a = tt
told_behind n ns (m ∷ ms) none a = (told_by n m ns (same m.txn n.txn) refl none a.0, told_behind n ns ms none a.1)

pub all_told : (ns : List (Entry Operation)) → Distinct (bares ns) → AllOf (λ (n : Entry Operation). state_of n.txn (bares ns) ≡ Some n.state) ns
all_told [] d = tt
all_told (n ∷ ns) d = (ap (λ c. cond c (Some n.state) (state_of n.txn (bares ns))) (same_self n.txn), told_behind n ns ns d.0 (all_told ns d.1))
