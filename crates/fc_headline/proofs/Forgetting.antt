-- Records that are gone take nothing with them that is held: what a floor needs of the fold.
use Rattle.std.proofs.Common.{◌≡◌, Bool, true, false, cond, not, List, [], ◌∷◌, ◌++◌, filter, Some, refl, sym, ap, ◌∙◌}
use Rattle.fc_base.specs.Ids.{Txn}
use Rattle.fc_machine.specs.ElementState.{Entry, ops_of, ops_at, held_ops, bare, bares, without}
use Rattle.fc_machine.specs.Ground.{Ground}
use Rattle.fc_protocol.specs.Scopes.{meets}
use Rattle.fc_headline.proofs.Scopes.{Fine, Clear, Disjoint, never}
use Rattle.fc_protocol.specs.Messages.{same}
use Rattle.fc_protocol.specs.Records.{state_of, is_held}
use Rattle.fc_protocol.proofs.Basics.{AllOf, same_true, cond_true, cond_false}

module _ {Op : Type 0} (gone : Txn → Bool) where
  -- nothing that is held is gone
  abbrev pub Live : List (Entry Op) → Type 0
  Live ns = AllOf (λ n. is_held n.state ≡ true → gone n.txn ≡ false) ns

  held_if : (b h : Bool) (n : Entry Op) (ns : List (Entry Op)) → is_held n.state ≡ h → (h ≡ true → b ≡ false) → held_ops (without gone ns) ≡ held_ops ns
      → held_ops (cond b (without gone ns) (n ∷ without gone ns)) ≡ cond h (ops_of n ++ held_ops ns) (held_ops ns)
  held_if true true n ns e l r = never true refl (l refl)
  held_if true false n ns e l r = r
  held_if false true n ns e l r = cond_true (is_held n.state) _ _ e ∙ ap (λ v. ops_of n ++ v) r
  held_if false false n ns e l r = cond_false (is_held n.state) _ _ e ∙ r

  pub forget_held : (ns : List (Entry Op)) → Live ns → held_ops (without gone ns) ≡ held_ops ns
  forget_held [] l = refl
  forget_held (n ∷ ns) l = held_if (gone n.txn) (is_held n.state) n ns refl l.0 (forget_held ns l.1)

  kept_if : (P : Entry Op → Type 0) (b : Bool) (n : Entry Op) (ns : List (Entry Op)) → P n → AllOf P (without gone ns) → AllOf P (cond b (without gone ns) (n ∷ without gone ns))
  kept_if P true n ns h r = r
  kept_if P false n ns h r = (h, r)

  pub forget_all : (P : Entry Op → Type 0) (ns : List (Entry Op)) → AllOf P ns → AllOf P (without gone ns)
  forget_all P [] h = tt
  forget_all P (n ∷ ns) h = kept_if P (gone n.txn) n ns h.0 (forget_all P ns h.1)

  same_gone : (x : Txn) (n : Entry Op) → same x n.txn ≡ true → gone x ≡ false → gone n.txn ≡ false
  same_gone x n e g = ap gone (sym (same_true x n.txn e)) ∙ g

  state_if : (b c : Bool) (x : Txn) (n : Entry Op) (ns : List (Entry Op)) → same x n.txn ≡ c → (c ≡ true → b ≡ false) → state_of x (bares (without gone ns)) ≡ state_of x (bares ns)
      → state_of x (bares (cond b (without gone ns) (n ∷ without gone ns))) ≡ cond c (Some n.state) (state_of x (bares ns))
  state_if true true x n ns e l r = never true refl (l refl)
  state_if true false x n ns e l r = r
  state_if false true x n ns e l r = cond_true (same x n.txn) _ _ e
  state_if false false x n ns e l r = cond_false (same x n.txn) _ _ e ∙ r

  -- of a transaction that is not gone the records tell what they told
  pub forget_state : (x : Txn) (ns : List (Entry Op)) → gone x ≡ false → state_of x (bares (without gone ns)) ≡ state_of x (bares ns)
  forget_state x [] g = refl
  forget_state x (n ∷ ns) g = state_if (gone n.txn) (same x n.txn) x n ns refl (λ e. same_gone x n e g) (forget_state x ns g)

  ops_if : (b c : Bool) (x : Txn) (n : Entry Op) (ns : List (Entry Op)) → same x n.txn ≡ c → (c ≡ true → b ≡ false) → ops_at x (without gone ns) ≡ ops_at x ns
      → ops_at x (cond b (without gone ns) (n ∷ without gone ns)) ≡ cond c (ops_of n) (ops_at x ns)
  ops_if true true x n ns e l r = never true refl (l refl)
  ops_if true false x n ns e l r = r
  ops_if false true x n ns e l r = cond_true (same x n.txn) _ _ e
  ops_if false false x n ns e l r = cond_false (same x n.txn) _ _ e ∙ r

  pub forget_ops : (x : Txn) (ns : List (Entry Op)) → gone x ≡ false → ops_at x (without gone ns) ≡ ops_at x ns
  forget_ops x [] g = refl
  forget_ops x (n ∷ ns) g = ops_if (gone n.txn) (same x n.txn) x n ns refl (λ e. same_gone x n e g) (forget_ops x ns g)

  bares_if : (b : Bool) (n : Entry Op) (ns : List (Entry Op)) → bares (without gone ns) ≡ filter (λ m. not (gone m.txn)) (bares ns) → bares (cond b (without gone ns) (n ∷ without gone ns)) ≡ cond (not b) (bare n ∷ filter (λ m. not (gone m.txn)) (bares ns)) (filter (λ m. not (gone m.txn)) (bares ns))
  bares_if true n ns r = r
  bares_if false n ns r = ap (λ v. bare n ∷ v) r

  -- as the protocol sees it
  pub bares_without : (ns : List (Entry Op)) → bares (without gone ns) ≡ filter (λ m. not (gone m.txn)) (bares ns)
  bares_without [] = refl
  bares_without (n ∷ ns) = bares_if (gone n.txn) n ns (bares_without ns)

module _ {Config Op Subs : Type 0} (g : Ground Config Op Subs) (gone : Txn → Bool) where
  disjoint_if : (b : Bool) (n : Entry Op) (ns : List (Entry Op)) → (is_held n.state ≡ true → Clear g n.scope ns) → Disjoint g (without gone ns) → Disjoint g (cond b (without gone ns) (n ∷ without gone ns))
  disjoint_if true n ns c r = r
  disjoint_if false n ns c r = ((λ h. forget_all gone (λ m. is_held m.state ≡ true → meets n.scope m.scope ≡ false) ns (c h)), r)

  pub forget_disjoint : (ns : List (Entry Op)) → Disjoint g ns → Disjoint g (without gone ns)
  forget_disjoint [] d = tt
  forget_disjoint (n ∷ ns) d = disjoint_if (gone n.txn) n ns d.0 (forget_disjoint ns d.1)

  pub forget_fine : (ns : List (Entry Op)) → AllOf (Fine g) ns → AllOf (Fine g) (without gone ns)
  forget_fine ns f = forget_all gone (Fine g) ns f
