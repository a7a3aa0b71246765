-- A change that is clean on the settled configuration, behind what its transaction has, is clean on the working one: what a clean round needs of an element.
use Rattle.std.proofs.Common.{◌≡◌, ℕ, zero, suc, Bool, true, false, cond, List, [], ◌∷◌, ◌++◌, length, replicate, Option, Some, None, refl, sym, ap, ◌∙◌, subst}
use Rattle.fc_base.specs.Ids.{Txn}
use Rattle.fc_modes.specs.Modes.{folded, codes_of, first_refused, outcome, outcome_by}
use Rattle.fc_modes.specs.declared.mode.Mode.TheVariants.{AllOrNone}
use Rattle.fc_modes.proofs.Positions.{position_none}
use Rattle.std.specs.List.{position}
use Rattle.fc_machine.specs.ElementState.{Entry, Element, ops_of, ops_at, held_ops, working, bares, first_code}
use Rattle.fc_headline.specs.Folds.{Clean}
use Rattle.fc_machine.specs.Ground.{Place, Ground, Lawful, inside_by}
use Rattle.fc_protocol.specs.Scopes.{meets}
use Rattle.fc_machine.specs.Transactions.{scope_at, within, rest_codes}
use Rattle.fc_headline.proofs.Blocks.{Apart, clean_append, clean_rest, swaps, apart_back}
use Rattle.fc_headline.proofs.Held.{Is}
use Rattle.fc_headline.proofs.Scopes.{Lies, Fine, Clear, Disjoint, lie_apart, apart_held}
use Rattle.fc_protocol.specs.Messages.{same}
use Rattle.fc_protocol.specs.Records.{state_of, is_held}
use Rattle.fc_protocol.specs.declared.states.TxnState.{TxnState}
use Rattle.fc_protocol.proofs.Basics.{AllOf, all_append, some_same}

module _ {Config Op Subs : Type 0} (g : Ground Config Op Subs) (law : Lawful g) where
  -- the scope of x does not meet a scope that is clear of all that is held
  clear_if : (b : Bool) (x : Txn) (ss : List Place) (n : Entry Op) (ns : List (Entry Op)) (t : TxnState) → is_held t ≡ true → cond b (Some n.state) (state_of x (bares ns)) ≡ Some t
      → (is_held n.state ≡ true → meets ss n.scope ≡ false) → (Is x ns t → meets ss (scope_at x ns) ≡ false) → meets ss (cond b n.scope (scope_at x ns)) ≡ false
  clear_if true x ss n ns t h e c r = c (ap is_held (some_same _ _ e) ∙ h)
  clear_if false x ss n ns t h e c r = r e

  clear_at : (x : Txn) (ss : List Place) (ns : List (Entry Op)) (t : TxnState) → is_held t ≡ true → Is x ns t → Clear g ss ns → meets ss (scope_at x ns) ≡ false
  clear_at x ss [] t h e c = cc
  clear_at x ss (n ∷ ns) t h e c = clear_if (same x n.txn) x ss n ns t h e c.0 (λ i. clear_at x ss ns t h i c.1)

  -- its operations lie in its scope
  lies_if : (b : Bool) (x : Txn) (n : Entry Op) (ns : List (Entry Op)) (t : TxnState) → is_held t ≡ true → cond b (Some n.state) (state_of x (bares ns)) ≡ Some t → (is_held n.state ≡ true → AllOf (Lies g n.scope) (ops_of n))
      → (Is x ns t → AllOf (Lies g (scope_at x ns)) (ops_at x ns)) → AllOf (Lies g (cond b n.scope (scope_at x ns))) (cond b (ops_of n) (ops_at x ns))
  lies_if true x n ns t h e f r = f (ap is_held (some_same _ _ e) ∙ h)
  lies_if false x n ns t h e f r = r e

  lies_at : (x : Txn) (ns : List (Entry Op)) (t : TxnState) → is_held t ≡ true → Is x ns t → AllOf (Fine g) ns → AllOf (Lies g (scope_at x ns)) (ops_at x ns)
  lies_at x [] t h e f = tt
  lies_at x (n ∷ ns) t h e f = lies_if (same x n.txn) x n ns t h e f.0 (λ i. lies_at x ns t h i f.1)

  here : (h : Bool) (c : Config) (xs ys zs : List Op) → h ≡ true → Apart g.effect ys zs → Clean g.effect c (xs ++ zs) → Clean g.effect (folded g.effect c (cond h (xs ++ ys) ys)) zs
  here true c xs ys zs e a k =
      subst (λ s. Clean g.effect s zs) (sym (Rattle.fc_headline.proofs.Blocks.folded_append g.effect c xs ys)) ((swaps g.effect (folded g.effect c xs) ys zs a).after (clean_rest g.effect c xs zs k))
  here false c xs ys zs e a k = cc

  there : (h : Bool) (c : Config) (xs ys os zs : List Op) → (h ≡ true → Apart g.effect xs (os ++ zs)) → ((d : Config) → Clean g.effect d (os ++ zs) → Clean g.effect (folded g.effect d ys) zs) → Clean g.effect c (os ++ zs)
      → Clean g.effect (folded g.effect c (cond h (xs ++ ys) ys)) zs
  there true c xs ys os zs a r k =
      subst (λ s. Clean g.effect s zs) (sym (Rattle.fc_headline.proofs.Blocks.folded_append g.effect c xs ys)) (r (folded g.effect c xs) ((swaps g.effect c xs (os ++ zs) (a refl)).after k))
  there false c xs ys os zs a r k = r c k

  next_if : (b : Bool) (x : Txn) (n : Entry Op) (ns : List (Entry Op)) (t : TxnState) (c : Config) (zs : List Op) → is_held t ≡ true → cond b (Some n.state) (state_of x (bares ns)) ≡ Some t → AllOf (Fine g) (n ∷ ns) → Disjoint g (n ∷ ns)
      → AllOf (Lies g (cond b n.scope (scope_at x ns))) zs → ((d : Config) → Is x ns t → AllOf (Lies g (scope_at x ns)) zs → Clean g.effect d (ops_at x ns ++ zs) → Clean g.effect (folded g.effect d (held_ops ns)) zs)
      → Clean g.effect c (cond b (ops_of n) (ops_at x ns) ++ zs) → Clean g.effect (folded g.effect c (held_ops (n ∷ ns))) zs
  next_if true x n ns t c zs h e f d l r k =
      let held : is_held n.state ≡ true = ap is_held (some_same _ _ e) ∙ h in
      here (is_held n.state) c (ops_of n) (held_ops ns) zs held (apart_back g.effect zs (held_ops ns) (apart_held g law n.scope zs ns (d.0 held) l f.1)) k
  next_if false x n ns t c zs h e f d l r k =
      there (is_held n.state) c (ops_of n) (held_ops ns) (ops_at x ns) zs
      (λ i. lie_apart g law n.scope (scope_at x ns) (ops_of n) (ops_at x ns ++ zs) (clear_at x n.scope ns t h e (d.0 i)) (f.0 i) (all_append (Lies g (scope_at x ns)) (ops_at x ns) zs (lies_at x ns t h e f.1) l)) (λ s. r s e l) k

  -- the next change of x
  pub next_clean : (x : Txn) (ns : List (Entry Op)) (t : TxnState) (c : Config) (zs : List Op) → is_held t ≡ true → Is x ns t → AllOf (Fine g) ns → Disjoint g ns → AllOf (Lies g (scope_at x ns)) zs
      → Clean g.effect c (ops_at x ns ++ zs) → Clean g.effect (folded g.effect c (held_ops ns)) zs
  next_clean x [] t c zs h e f d l k = cc
  next_clean x (n ∷ ns) t c zs h e f d l k = next_if (same x n.txn) x n ns t c zs h e f d l (λ s i j m. next_clean x ns t s zs h i f.1 d.1 j m) k

  inside_if : (b : Bool) (c : Config) (op : Op) → b ≡ true → cond b (g.effect c op) (c, 16) ≡ g.effect c op
  inside_if true c op e = refl
  inside_if false c op e = cc

  -- what is clean and lies in a scope is clean inside it
  clean_inside : (scope : List Place) (c : Config) (ops : List Op) → AllOf (Lies g scope) ops → Clean g.effect c ops → Clean (within g scope) c ops
  clean_inside scope c [] l k = tt
  clean_inside scope c (op ∷ ops) l k =
      let e = inside_if (inside_by scope (g.place_of op)) c op (ap (inside_by scope) l.0.1 ∙ l.0.2) in
      (ap (λ (v : Config × ℕ). v.1) e ∙ k.0, subst (λ (v : Config × ℕ). Clean (within g scope) v.0 ops) (sym e) (clean_inside scope (g.effect c op).0 ops l.1 k.1))

  zeros_of : (effect : Config → Op → Config × ℕ) (c : Config) (ops : List Op) → Clean effect c ops → codes_of effect c ops ≡ replicate (length ops) 0
  zeros_of effect c [] k = refl
  zeros_of effect c (op ∷ ops) k = ap (λ n. n ∷ codes_of effect (effect c op).0 ops) k.0 ∙ ap (λ ns. 0 ∷ ns) (zeros_of effect (effect c op).0 ops k.1)

  first_zero : (n : ℕ) → first_code (replicate n 0) ≡ 0
  first_zero zero = refl
  first_zero (suc n) = first_zero n

  code_by : (effect : Config → Op → Config × ℕ) (c : Config) (ops : List Op) (o : Option ℕ) → o ≡ None → first_code (outcome_by effect o AllOrNone c ops).codes ≡ 0
  code_by effect c ops None e = first_zero (length ops)
  code_by effect c ops (Some at) e = cc

  pub clean_code : (effect : Config → Op → Config × ℕ) (c : Config) (ops : List Op) → Clean effect c ops → first_code (outcome effect AllOrNone c ops).codes ≡ 0
  clean_code effect c ops k = code_by effect c ops (first_refused effect c ops) (ap (position Rattle.fc_modes.proofs.Positions.is_refused) (zeros_of effect c ops k) ∙ position_none (length ops))

  -- so the rest of the next MOT has code 0
  pub next_succeeds : (el : Element Config Op Subs) (x : Txn) (t : TxnState) (zs : List Op) → is_held t ≡ true → Is x el.records t → AllOf (Fine g) el.records → Disjoint g el.records → AllOf (Lies g (scope_at x el.records)) zs
      → Clean g.effect el.settled (ops_at x el.records ++ zs) → first_code (rest_codes g el (scope_at x el.records) zs) ≡ 0
  next_succeeds el x t zs h e f d l k =
      clean_code (within g (scope_at x el.records)) (working g el) zs (clean_inside (scope_at x el.records) (working g el) zs l (next_clean x el.records t el.settled zs h e f d l k))
