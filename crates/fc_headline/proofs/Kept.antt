-- Operations stay in their scopes, and scopes that are held stay apart.
use Rattle.std.proofs.Common.{◌≡◌, ℕ, ◌&&◌, ◌||◌, Bool, true, false, cond, List, [], ◌∷◌, ◌++◌, Option, Some, None, refl, sym, ap, ◌∙◌, subst}
use Rattle.fc_base.specs.Ids.{Txn}
use Rattle.fc_machine.specs.ElementState.{Entry, flat, ops_of, ops_at, entry, no_rests, written, and_rest, rest_added, undone_records, bares}
use Rattle.fc_machine.specs.Ground.{Place, Ground}
use Rattle.fc_protocol.specs.Scopes.{meets}
use Rattle.fc_machine.specs.Transactions.{scope_at}
use Rattle.fc_headline.proofs.Held.{Is, flat_rest, rests_held}
use Rattle.fc_headline.proofs.Scopes.{Lies, Fine, Clear, Disjoint, or_left, or_right, never}
use Rattle.fc_protocol.specs.Messages.{same}
use Rattle.fc_protocol.specs.Records.{state_of, is_held, undone, clashes}
use Rattle.fc_protocol.specs.declared.states.TxnState.{TxnState}
use Rattle.fc_protocol.specs.declared.states.TxnState.TheVariants.{Started, Prepared, Completed, Aborted}
use Rattle.fc_protocol.proofs.Basics.{AllOf, all_append, cond_true, cond_false, same_true, same_of, same_self}
use Rattle.fc_agreement.proofs.Limits.{meets_sym}
use Rattle.fc_protocol.proofs.Records.{undone_or}

-- a record that becomes held was held, or there was none
abbrev pub Goes : TxnState → Option TxnState → Type 0
Goes s o = (t : TxnState) → o ≡ Some t → is_held s ≡ true → is_held t ≡ true

goes_on : (b : Bool) (s t : TxnState) (o : Option TxnState) → b ≡ false → Goes s (cond b (Some t) o) → Goes s o
goes_on b s t o e f u i h = f u (cond_false b (Some t) o e ∙ i) h

goes_here : (b : Bool) (s t : TxnState) (o : Option TxnState) → b ≡ true → Goes s (cond b (Some t) o) → is_held s ≡ true → is_held t ≡ true
goes_here b s t o e f h = f t (cond_true b (Some t) o e) h

no_nil : {Op : Type 0} (b : Bool) → cond {A = List (List Op)} b [] [] ≡ []
no_nil true = refl
no_nil false = refl

pub held_undone : (s : TxnState) → is_held (undone s) ≡ true → is_held s ≡ true
held_undone Started h = cc
held_undone Prepared h = refl
held_undone Completed h = cc
held_undone Aborted h = cc

abbrev pub is_over : Option TxnState → Bool
is_over None = false
is_over (Some Started) = false
is_over (Some Prepared) = false
is_over (Some Completed) = true
is_over (Some Aborted) = true

module _ {Config Op Subs : Type 0} (g : Ground Config Op Subs) where
  fine_if : (b : Bool) (x : Txn) (ps : List ℕ) (sc : List Place) (s : TxnState) (n : Entry Op) (ns : List (Entry Op)) → AllOf (Fine g) (n ∷ ns) → (b ≡ true → is_held s ≡ true → is_held n.state ≡ true)
      → (b ≡ false → AllOf (Fine g) (written x ps sc s ns)) → AllOf (Fine g) (cond b (entry n.txn s n.participants n.scope n.rests ∷ ns) (n ∷ written x ps sc s ns))
  fine_if true x ps sc s n ns f i r = ((λ h. subst (λ v. AllOf (Lies g n.scope) (flat v)) (sym (rests_held s n.rests h)) (f.0 (i refl h))), f.1)
  fine_if false x ps sc s n ns f i r = (f.0, r refl)

  pub fine_written : (x : Txn) (ps : List ℕ) (sc : List Place) (s : TxnState) (ns : List (Entry Op)) → Goes s (state_of x (bares ns)) → AllOf (Fine g) ns → AllOf (Fine g) (written x ps sc s ns)
  fine_written x ps sc s [] i f = ((λ h. subst (λ v. AllOf (Lies g sc) (flat v)) (sym (no_nil (is_held s))) tt), tt)
  fine_written x ps sc s (n ∷ ns) i f =
      fine_if (same x n.txn) x ps sc s n ns f (λ b. goes_here (same x n.txn) s n.state (state_of x (bares ns)) b i) (λ b. fine_written x ps sc s ns (goes_on (same x n.txn) s n.state (state_of x (bares ns)) b i) f.1)

  clear_if : (b : Bool) (ss : List Place) (x : Txn) (ps : List ℕ) (sc : List Place) (s : TxnState) (n : Entry Op) (ns : List (Entry Op)) → Clear g ss (n ∷ ns) → (b ≡ true → is_held s ≡ true → is_held n.state ≡ true)
      → (b ≡ false → Clear g ss (written x ps sc s ns)) → Clear g ss (cond b (entry n.txn s n.participants n.scope n.rests ∷ ns) (n ∷ written x ps sc s ns))
  clear_if true ss x ps sc s n ns f i r = ((λ h. f.0 (i refl h)), f.1)
  clear_if false ss x ps sc s n ns f i r = (f.0, r refl)

  pub clear_written : (ss : List Place) (x : Txn) (ps : List ℕ) (sc : List Place) (s : TxnState) (ns : List (Entry Op)) → Goes s (state_of x (bares ns)) → (state_of x (bares ns) ≡ None → is_held s ≡ true → meets ss sc ≡ false)
      → Clear g ss ns → Clear g ss (written x ps sc s ns)
  clear_written ss x ps sc s [] i m f = ((λ h. m refl h), tt)
  clear_written ss x ps sc s (n ∷ ns) i m f =
      clear_if (same x n.txn) ss x ps sc s n ns f (λ b. goes_here (same x n.txn) s n.state (state_of x (bares ns)) b i)
      (λ b. clear_written ss x ps sc s ns (goes_on (same x n.txn) s n.state (state_of x (bares ns)) b i) (λ e. m (cond_false _ (Some n.state) _ b ∙ e)) f.1)

  disjoint_if : (b : Bool) (x : Txn) (ps : List ℕ) (sc : List Place) (s : TxnState) (n : Entry Op) (ns : List (Entry Op)) → Disjoint g (n ∷ ns) → (b ≡ true → is_held s ≡ true → is_held n.state ≡ true)
      → (b ≡ false → (is_held n.state ≡ true → Clear g n.scope (written x ps sc s ns)) × Disjoint g (written x ps sc s ns)) → Disjoint g (cond b (entry n.txn s n.participants n.scope n.rests ∷ ns) (n ∷ written x ps sc s ns))
  disjoint_if true x ps sc s n ns f i r = ((λ h. f.0 (i refl h)), f.1)
  disjoint_if false x ps sc s n ns f i r = r refl

  clash_here : (a m c : Bool) → ((a && m) || c) ≡ false → a ≡ true → m ≡ false
  clash_here true m c e h = or_left m c e
  clash_here false m c e h = cc

  -- a new scope meets nothing that is held
  pub disjoint_written : (x : Txn) (ps : List ℕ) (sc : List Place) (s : TxnState) (ns : List (Entry Op)) → Goes s (state_of x (bares ns)) → (state_of x (bares ns) ≡ None → is_held s ≡ true → clashes sc (bares ns) ≡ false)
      → Disjoint g ns → Disjoint g (written x ps sc s ns)
  disjoint_written x ps sc s [] i m d = ((λ _. tt), tt)
  disjoint_written x ps sc s (n ∷ ns) i m d =
      disjoint_if (same x n.txn) x ps sc s n ns d (λ b. goes_here (same x n.txn) s n.state (state_of x (bares ns)) b i)
      (λ b.
      let on = goes_on (same x n.txn) s n.state (state_of x (bares ns)) b i in
      let free = λ (e : state_of x (bares ns) ≡ None) (h : is_held s ≡ true). m (cond_false _ (Some n.state) _ b ∙ e) h in (
        (λ h. clear_written n.scope x ps sc s ns on (λ e u. meets_sym sc n.scope (clash_here (is_held n.state) (meets sc n.scope) (clashes sc (bares ns)) (free e u) h)) (d.0 h)),
        disjoint_written x ps sc s ns on (λ e u. or_right (is_held n.state && meets sc n.scope) (clashes sc (bares ns)) (free e u)) d.1,
      ))

  -- a rest
  rest_fine_if : (b : Bool) (x : Txn) (ops : List Op) (n : Entry Op) (ns : List (Entry Op)) → AllOf (Lies g (cond b n.scope (scope_at x ns))) ops → AllOf (Fine g) (n ∷ ns) → (AllOf (Lies g (scope_at x ns)) ops → AllOf (Fine g) (rest_added x ops ns))
      → AllOf (Fine g) (cond b (record { txn = n.txn; state = n.state; participants = n.participants; scope = n.scope; rests = and_rest n.rests ops } ∷ ns) (n ∷ rest_added x ops ns))
  rest_fine_if true x ops n ns l f r = ((λ h. subst (AllOf (Lies g n.scope)) (sym (flat_rest n.rests ops)) (all_append (Lies g n.scope) (ops_of n) ops (f.0 h) l)), f.1)
  rest_fine_if false x ops n ns l f r = (f.0, r l)

  pub fine_rest : (x : Txn) (ops : List Op) (ns : List (Entry Op)) → AllOf (Lies g (scope_at x ns)) ops → AllOf (Fine g) ns → AllOf (Fine g) (rest_added x ops ns)
  fine_rest x ops [] l f = tt
  fine_rest x ops (n ∷ ns) l f = rest_fine_if (same x n.txn) x ops n ns l f (λ k. fine_rest x ops ns k f.1)

  rest_clear_if : (b : Bool) (ss : List Place) (x : Txn) (ops : List Op) (n : Entry Op) (ns : List (Entry Op)) → Clear g ss (n ∷ ns) → Clear g ss (rest_added x ops ns)
      → Clear g ss (cond b (record { txn = n.txn; state = n.state; participants = n.participants; scope = n.scope; rests = and_rest n.rests ops } ∷ ns) (n ∷ rest_added x ops ns))
  rest_clear_if true ss x ops n ns f r = f
  rest_clear_if false ss x ops n ns f r = (f.0, r)

  clear_rest : (ss : List Place) (x : Txn) (ops : List Op) (ns : List (Entry Op)) → Clear g ss ns → Clear g ss (rest_added x ops ns)
  clear_rest ss x ops [] f = tt
  clear_rest ss x ops (n ∷ ns) f = rest_clear_if (same x n.txn) ss x ops n ns f (clear_rest ss x ops ns f.1)

  rest_disjoint_if : (b : Bool) (x : Txn) (ops : List Op) (n : Entry Op) (ns : List (Entry Op)) → Disjoint g (n ∷ ns) → (is_held n.state ≡ true → Clear g n.scope (rest_added x ops ns)) → Disjoint g (rest_added x ops ns)
      → Disjoint g (cond b (record { txn = n.txn; state = n.state; participants = n.participants; scope = n.scope; rests = and_rest n.rests ops } ∷ ns) (n ∷ rest_added x ops ns))
  rest_disjoint_if true x ops n ns d c r = d
  rest_disjoint_if false x ops n ns d c r = (c, r)

  pub disjoint_rest : (x : Txn) (ops : List Op) (ns : List (Entry Op)) → Disjoint g ns → Disjoint g (rest_added x ops ns)
  disjoint_rest x ops [] d = tt
  disjoint_rest x ops (n ∷ ns) d = rest_disjoint_if (same x n.txn) x ops n ns d (λ h. clear_rest n.scope x ops ns (d.0 h)) (disjoint_rest x ops ns d.1)

  -- a claim
  pub fine_undone : (ns : List (Entry Op)) → AllOf (Fine g) ns → AllOf (Fine g) (undone_records ns)
  fine_undone [] f = tt
  fine_undone (n ∷ ns) f = ((λ h. subst (λ v. AllOf (Lies g n.scope) (flat v)) (sym (rests_held (undone n.state) n.rests h)) (f.0 (held_undone n.state h))), fine_undone ns f.1)

  clear_undone : (ss : List Place) (ns : List (Entry Op)) → Clear g ss ns → Clear g ss (undone_records ns)
  clear_undone ss [] f = tt
  clear_undone ss (n ∷ ns) f = ((λ h. f.0 (held_undone n.state h)), clear_undone ss ns f.1)

  pub disjoint_undone : (ns : List (Entry Op)) → Disjoint g ns → Disjoint g (undone_records ns)
  disjoint_undone [] d = tt
  disjoint_undone (n ∷ ns) d = ((λ h. clear_undone n.scope ns (d.0 (held_undone n.state h))), disjoint_undone ns d.1)

-- The operations of one transaction

other_if : {Op : Type 0} (b c : Bool) (x y : Txn) (ps : List ℕ) (sc : List Place) (s : TxnState) (n : Entry Op) (ns : List (Entry Op)) → same y n.txn ≡ b → same x n.txn ≡ c → same x y ≡ false → ops_at x (written y ps sc s ns) ≡ ops_at x ns
    → ops_at x (cond b (entry n.txn s n.participants n.scope n.rests ∷ ns) (n ∷ written y ps sc s ns)) ≡ cond c (ops_of n) (ops_at x ns)
other_if true true x y ps sc s n ns e f d r = never (same x y) (same_of x y (same_true x n.txn f ∙ sym (same_true y n.txn e))) d
other_if true false x y ps sc s n ns e f d r = cond_false (same x n.txn) _ _ f
other_if false true x y ps sc s n ns e f d r = cond_true (same x n.txn) _ _ f
other_if false false x y ps sc s n ns e f d r = cond_false (same x n.txn) _ _ f ∙ r

pub ops_other : {Op : Type 0} (x y : Txn) (ps : List ℕ) (sc : List Place) (s : TxnState) (ns : List (Entry Op)) → same x y ≡ false → ops_at x (written y ps sc s ns) ≡ ops_at x ns
ops_other x y ps sc s [] d = cond_false (same x y) _ _ d
ops_other x y ps sc s (n ∷ ns) d = other_if (same y n.txn) (same x n.txn) x y ps sc s n ns refl refl d (ops_other x y ps sc s ns d)

own_if : {Op : Type 0} (b : Bool) (x : Txn) (ps : List ℕ) (sc : List Place) (s : TxnState) (n : Entry Op) (ns : List (Entry Op)) → same x n.txn ≡ b → is_held s ≡ true → ops_at x (written x ps sc s ns) ≡ ops_at x ns
    → ops_at x (cond b (entry n.txn s n.participants n.scope n.rests ∷ ns) (n ∷ written x ps sc s ns)) ≡ cond b (ops_of n) (ops_at x ns)
own_if true x ps sc s n ns e h r = cond_true (same x n.txn) _ _ e ∙ ap (λ v. flat v) (rests_held s n.rests h)
own_if false x ps sc s n ns e h r = cond_false (same x n.txn) _ _ e ∙ r

pub ops_own : {Op : Type 0} (x : Txn) (ps : List ℕ) (sc : List Place) (s : TxnState) (ns : List (Entry Op)) → is_held s ≡ true → ops_at x (written x ps sc s ns) ≡ ops_at x ns
ops_own x ps sc s [] h = cond_true (same x x) _ _ (same_self x) ∙ ap (λ v. flat v) (no_nil (is_held s))
ops_own x ps sc s (n ∷ ns) h = own_if (same x n.txn) x ps sc s n ns refl h (ops_own x ps sc s ns h)

abbrev with_rest : {Op : Type 0} → Entry Op → List Op → Entry Op
with_rest n ops = record { txn = n.txn; state = n.state; participants = n.participants; scope = n.scope; rests = and_rest n.rests ops }

rest_other_if : {Op : Type 0} (b c : Bool) (x y : Txn) (ops : List Op) (n : Entry Op) (ns : List (Entry Op)) → same y n.txn ≡ b → same x n.txn ≡ c → same x y ≡ false → ops_at x (rest_added y ops ns) ≡ ops_at x ns
    → ops_at x (cond b (with_rest n ops ∷ ns) (n ∷ rest_added y ops ns)) ≡ cond c (ops_of n) (ops_at x ns)
rest_other_if true true x y ops n ns e f d r = never (same x y) (same_of x y (same_true x n.txn f ∙ sym (same_true y n.txn e))) d
rest_other_if true false x y ops n ns e f d r = cond_false (same x n.txn) _ _ f
rest_other_if false true x y ops n ns e f d r = cond_true (same x n.txn) _ _ f
rest_other_if false false x y ops n ns e f d r = cond_false (same x n.txn) _ _ f ∙ r

pub ops_rest_other : {Op : Type 0} (x y : Txn) (ops : List Op) (ns : List (Entry Op)) → same x y ≡ false → ops_at x (rest_added y ops ns) ≡ ops_at x ns
ops_rest_other x y ops [] d = refl
ops_rest_other x y ops (n ∷ ns) d = rest_other_if (same y n.txn) (same x n.txn) x y ops n ns refl refl d (ops_rest_other x y ops ns d)

rest_own_if : {Op : Type 0} (b : Bool) (x : Txn) (ops : List Op) (n : Entry Op) (ns : List (Entry Op)) (t : TxnState) → same x n.txn ≡ b → cond b (Some n.state) (state_of x (bares ns)) ≡ Some t → (Is x ns t → ops_at x (rest_added x ops ns) ≡ ops_at x ns ++ ops)
    → ops_at x (cond b (with_rest n ops ∷ ns) (n ∷ rest_added x ops ns)) ≡ cond b (ops_of n) (ops_at x ns) ++ ops
rest_own_if true x ops n ns t e i r = cond_true (same x n.txn) _ _ e ∙ flat_rest n.rests ops
rest_own_if false x ops n ns t e i r = cond_false (same x n.txn) _ _ e ∙ r i

pub ops_rest : {Op : Type 0} (x : Txn) (ops : List Op) (ns : List (Entry Op)) (t : TxnState) → Is x ns t → ops_at x (rest_added x ops ns) ≡ ops_at x ns ++ ops
ops_rest x ops [] t e = cc
ops_rest x ops (n ∷ ns) t e = rest_own_if (same x n.txn) x ops n ns t refl e (λ i. ops_rest x ops ns t i)

undone_one : {Op : Type 0} (s : TxnState) (rests : List (List Op)) → is_over (Some (undone s)) ≡ false → no_rests (undone s) rests ≡ rests
undone_one Started rests o = cc
undone_one Prepared rests o = refl
undone_one Completed rests o = cc
undone_one Aborted rests o = cc

undone_if : {Op : Type 0} (b : Bool) (x : Txn) (n : Entry Op) (ns : List (Entry Op)) → is_over (undone_or (cond b (Some n.state) (state_of x (bares ns)))) ≡ false → (is_over (undone_or (state_of x (bares ns))) ≡ false → ops_at x (undone_records ns) ≡ ops_at x ns)
    → cond b (flat (no_rests (undone n.state) n.rests)) (ops_at x (undone_records ns)) ≡ cond b (ops_of n) (ops_at x ns)
undone_if true x n ns o r = ap (λ v. flat v) (undone_one n.state n.rests o)
undone_if false x n ns o r = r o

pub ops_undone : {Op : Type 0} (x : Txn) (ns : List (Entry Op)) → is_over (undone_or (state_of x (bares ns))) ≡ false → ops_at x (undone_records ns) ≡ ops_at x ns
ops_undone x [] o = refl
ops_undone x (n ∷ ns) o = undone_if (same x n.txn) x n ns o (ops_undone x ns)
