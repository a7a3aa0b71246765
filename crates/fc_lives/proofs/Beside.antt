-- Which instances are held, by the records of what is held.
use Rattle.std.proofs.Common.{◌≡◌, ℕ, ◌==◌, ◌&&◌, ◌||◌, not, Bool, true, false, cond, List, [], ◌∷◌, ◌++◌, slice_get, zero, suc, Option, Some, None, refl, sym, ap, ◌∙◌, if◌then◌else◌}
use Rattle.std.specs.List.{AllByRecursion, list_any}
use Rattle.fc_base.specs.Ids.{Txn}
use Rattle.fc_exec.specs.Operations.{place_of}
use Rattle.fc_exec.specs.declared.operations.Operation.{Operation}
use Rattle.fc_holding.specs.Held.{held_by, held_instances, instances_of}
use Rattle.fc_machine.specs.ElementState.{Entry, bare, bares, entry, written}
use Rattle.fc_protocol.proofs.Basics.{same_true}
use Rattle.fc_protocol.specs.Messages.{same}
use Rattle.fc_protocol.specs.OneElement.{Distinct}
use Rattle.fc_protocol.specs.Records.{is_held, state_of}
use Rattle.fc_protocol.specs.Scopes.{Scope}
use Rattle.fc_protocol.specs.declared.states.TxnState.{TxnState}
use Rattle.fc_protocol.specs.declared.states.TxnState.TheVariants.{Completed}
use Rattle.fc_standing.proofs.Leaves.{both_true, is_same}
use Rattle.fc_standing.proofs.Places.{IsBeside}
use Rattle.fc_standing.specs.Holding.{LieBeside, holdings, holdings_by, is_outside}
use Rattle.fc_store.proofs.Lists.{none_some, some_is}
use Rattle.fc_store.specs.Stores.{is_in}
use Rattle.fc_types.specs.Libraries.{same_instance}
use Rattle.fc_lives.proofs.Leaving.{IsElsewhere}

-- ---- some of two lists
or_false : (a b : Bool) → (a || b) ≡ false → (a ≡ false) × (b ≡ false)
or_false true b e = absurd cc
or_false false b e = (refl, e)

or_true : {G : Type 0} (a b : Bool) → (a || b) ≡ true → (a ≡ true → G) → (b ≡ true → G) → G
or_true true b e f g = f refl
or_true false b e f g = g e

or_assoc : (a b c : Bool) → ((a || b) || c) ≡ (a || (b || c))
or_assoc true b c = refl
or_assoc false b c = refl

any_more : {A : Type 0} (f : A → Bool) (xs ys : List A) → list_any f (xs ++ ys) ≡ (list_any f xs || list_any f ys)
any_more f [] ys = refl
any_more f (x ∷ xs) ys = ap (λ b. f x || b) (any_more f xs ys) ∙ sym (or_assoc (f x) (list_any f xs) (list_any f ys))

pub never : {G : Type 0} (b : Bool) → b ≡ true → b ≡ false → G
never true e f = absurd cc
never false e f = absurd cc

pair_same : (pair : ℕ × ℕ) → same_instance pair pair ≡ true
pair_same pair = both_true (pair.0 == pair.0) (pair.1 == pair.1) (is_same pair.0 pair.0 refl) (is_same pair.1 pair.1 refl)

or_second : (a b : Bool) → b ≡ true → (a || b) ≡ true
or_second true b e = refl
or_second false b e = e

or_first : (a b : Bool) → a ≡ true → (a || b) ≡ true
or_first true b e = refl
or_first false b e = absurd cc

any_there : (all : List (ℕ × ℕ)) (pair : ℕ × ℕ) (i : ℕ) → slice_get all i ≡ Some pair → list_any (same_instance pair) all ≡ true
any_there [] pair i e = absurd (none_some pair e)
any_there (q ∷ all) pair zero e = or_first (same_instance pair q) (list_any (same_instance pair) all) (ap (same_instance pair) (some_is q pair e) ∙ pair_same pair)
any_there (q ∷ all) pair (suc i) e = or_second (same_instance pair q) (list_any (same_instance pair) all) (any_there all pair i e)

-- ---- what is not held is beside all that is
abbrev pub is_among : ℕ × ℕ → List (ℕ × ℕ) → Bool
is_among pair held = list_any (same_instance pair) held

module _ (all : List (ℕ × ℕ)) (pair : ℕ × ℕ) where
  scope_free : (i : ℕ) → slice_get all i ≡ Some pair → (sc : Scope) → is_among pair (instances_of all sc) ≡ false → is_in sc pair ≡ false
  scope_free i there [] e = never (is_among pair all) (any_there all pair i there) e
  scope_free i there (q ∷ qs) e = e

  free_by : (i : ℕ) → slice_get all i ≡ Some pair → (n : Entry Operation) (ns : List (Entry Operation)) (b : Bool)
      → is_among pair ((if b then instances_of all n.scope else []) ++ held_instances all None (bares ns)) ≡ false
      → (is_among pair (held_instances all None (bares ns)) ≡ false → AllByRecursion (IsBeside pair) (holdings ns)) → AllByRecursion (IsBeside pair) (holdings_by b n (holdings ns))
  free_by i there n ns true e more =
      let t = or_false (is_among pair (instances_of all n.scope)) (is_among pair (held_instances all None (bares ns))) (sym (any_more (same_instance pair) (instances_of all n.scope) (held_instances all None (bares ns))) ∙ e) in
      (scope_free i there n.scope t.0, more t.1)
  free_by i there n ns false e more = more e

  pub free_beside : (i : ℕ) → slice_get all i ≡ Some pair → (ns : List (Entry Operation)) → is_among pair (held_instances all None (bares ns)) ≡ false → AllByRecursion (IsBeside pair) (holdings ns)
  free_beside i there [] e = tt
  free_beside i there (n ∷ ns) e = free_by i there n ns (is_held n.state) e (free_beside i there ns)

  -- ---- and where it is held, what lies beside all that is held lies elsewhere
  scope_taken : (sc : Scope) → is_among pair (instances_of all sc) ≡ true → is_in sc pair ≡ true
  scope_taken [] e = refl
  scope_taken (q ∷ qs) e = e

  outside_not : (sc : Scope) (o : Option (ℕ × ℕ)) → is_outside sc o ≡ true → is_in sc pair ≡ true → o ≡ Some pair → ⊥
  outside_not sc None e f g = none_some pair g
  outside_not sc (Some q) e f g = never (not (is_in sc pair)) (ap (λ x. not (is_in sc x)) (sym (some_is q pair g)) ∙ e) (ap not f)

  all_outside : (sc : Scope) (ops : List Operation) → AllByRecursion (λ op. is_outside sc (place_of op) ≡ true) ops → is_in sc pair ≡ true → AllByRecursion (IsElsewhere pair) ops
  all_outside sc [] a f = tt
  all_outside sc (op ∷ ops) a f = (outside_not sc (place_of op) a.0 f, all_outside sc ops a.1 f)

  taken_by : (ops : List Operation) (n : Entry Operation) (ns : List (Entry Operation)) (b : Bool)
      → is_among pair ((if b then instances_of all n.scope else []) ++ held_instances all None (bares ns)) ≡ true → AllByRecursion (LieBeside ops) (holdings_by b n (holdings ns))
      → (is_among pair (held_instances all None (bares ns)) ≡ true → AllByRecursion (LieBeside ops) (holdings ns) → AllByRecursion (IsElsewhere pair) ops) → AllByRecursion (IsElsewhere pair) ops
  taken_by ops n ns true e a more =
      or_true (is_among pair (instances_of all n.scope)) (is_among pair (held_instances all None (bares ns))) (sym (any_more (same_instance pair) (instances_of all n.scope) (held_instances all None (bares ns))) ∙ e)
      (λ f. all_outside n.scope ops a.0 (scope_taken n.scope f)) (λ f. more f a.1)
  taken_by ops n ns false e a more = more e a

  pub taken_elsewhere : (ops : List Operation) (ns : List (Entry Operation)) → is_among pair (held_instances all None (bares ns)) ≡ true → AllByRecursion (LieBeside ops) (holdings ns) → AllByRecursion (IsElsewhere pair) ops
  taken_elsewhere ops [] e a = absurd (let k : false ≡ true = e in cc)
  taken_elsewhere ops (n ∷ ns) e a = taken_by ops n ns (is_held n.state) e a (taken_elsewhere ops ns)

-- ---- without the transaction that completes
none_state : (n : TxnState) (o : Option TxnState) (b : Bool) → cond b (Some n) o ≡ None → (b ≡ false) × (o ≡ None)
none_state n o true e = absurd (none_some n (sym e))
none_state n o false e = (refl, e)

module _ (all : List (ℕ × ℕ)) (x : Txn) where
  none_counts : (ns : List (Entry Operation)) → state_of x (bares ns) ≡ None → held_instances all (Some x) (bares ns) ≡ held_instances all None (bares ns)
  none_counts [] e = refl
  none_counts (n ∷ ns) e =
      let t = none_state n.state (state_of x (bares ns)) (same x n.txn) e in
      ap (λ b. (if not b && is_held n.state then instances_of all n.scope else []) ++ held_instances all (Some x) (bares ns)) t.0
      ∙ ap (λ is. held_by all None (bare n) ++ is) (none_counts ns t.1)

  -- it has a record
  pub others_are : (ns : List (Entry Operation)) (s : TxnState) → Distinct (bares ns) → state_of x (bares ns) ≡ Some s → held_instances all (Some x) (bares ns) ≡ held_instances all None (bares (written x [] [] Completed ns))
  others_are [] s d e = absurd (none_some s e)
  others_are (n ∷ ns) s d e = others_at n ns s (same x n.txn) refl d e (λ f. others_are ns s d.1 f)
    where
      others_at : (n : Entry Operation) (ns : List (Entry Operation)) (s : TxnState) (b : Bool) → same x n.txn ≡ b → Distinct (bares (n ∷ ns)) → cond b (Some n.state) (state_of x (bares ns)) ≡ Some s
          → (state_of x (bares ns) ≡ Some s → held_instances all (Some x) (bares ns) ≡ held_instances all None (bares (written x [] [] Completed ns)))
          → held_instances all (Some x) (bares (n ∷ ns)) ≡ held_instances all None (bares (written x [] [] Completed (n ∷ ns)))
      others_at n ns s true f d e more =
          ap (λ b. (if not b && is_held n.state then instances_of all n.scope else []) ++ held_instances all (Some x) (bares ns)) f
          ∙ none_counts ns (ap (λ y. state_of y (bares ns)) (same_true x n.txn f) ∙ d.0)
          ∙ ap (λ b. held_instances all None (bares (cond b (entry n.txn Completed n.participants n.scope n.rests ∷ ns) (n ∷ written x [] [] Completed ns)))) (sym f)
      others_at n ns s false f d e more =
          ap (λ b. (if not b && is_held n.state then instances_of all n.scope else []) ++ held_instances all (Some x) (bares ns)) f
          ∙ ap (λ is. held_by all None (bare n) ++ is) (more e)
          ∙ ap (λ b. held_instances all None (bares (cond b (entry n.txn Completed n.participants n.scope n.rests ∷ ns) (n ∷ written x [] [] Completed ns)))) (sym f)
