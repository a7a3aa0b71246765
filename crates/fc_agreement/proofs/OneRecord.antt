-- The records of an element, seen from one transaction.
use Rattle.std.proofs.Common.{◌≡◌, ℕ, ◌≤◌, Bool, true, false, cond, List, [], ◌∷◌, ◌++◌, append_assoc, ◌||◌, not, Option, Some, None, inl, inr, ⊎_elim, refl, sym, ap, ◌∙◌, subst, arith}
use Rattle.fc_agreement.specs.Core.{raised}
use Rattle.fc_protocol.specs.Floors.{is_under, forgotten}
use Rattle.fc_protocol.specs.Messages.{same}
use Rattle.fc_protocol.specs.Records.{entry, state_of, seen, write, noted, undone, all_undone, listed, is_held, still_started}
use Rattle.fc_protocol.specs.Scopes.{Scope}
use Rattle.fc_protocol.specs.Trace.{Fact, Settled_at, undone_facts}
use Rattle.fc_protocol.specs.declared.answers.TxnEntry.{TxnEntry}
use Rattle.fc_protocol.specs.declared.states.Decision.{Decision}
use Rattle.fc_protocol.specs.declared.states.Decision.TheVariants.{Abort}
use Rattle.fc_protocol.specs.declared.states.TxnState.{TxnState}
use Rattle.fc_protocol.specs.declared.states.TxnState.TheVariants.{Started as RecordStarted, Prepared as RecordPrepared, Completed as RecordCompleted, Aborted as RecordAborted}
use Rattle.fc_base.specs.Ids.{Txn}
use Rattle.fc_protocol.proofs.Basics.{In, in_left, in_right, in_either, AllOf, cond_true, cond_false, both, same_true, same_of, some_same}
use Rattle.fc_agreement.proofs.Sealing.{is_live}
use Rattle.fc_agreement.proofs.Facts.{Past, EntryFine, Found, HeldFine, has, Single, GoodFacts}
use Rattle.fc_protocol.proofs.Records.{undone_or, write_all, was_started, held_or}

or_right : (b : Bool) → (b || true) ≡ true
or_right true = refl
or_right false = refl

pub raised_undone : (o : Option TxnState) → seen (undone_or o) ≡ raised (seen o)
raised_undone None = refl
raised_undone (Some RecordStarted) = refl
raised_undone (Some RecordPrepared) = refl
raised_undone (Some RecordCompleted) = refl
raised_undone (Some RecordAborted) = refl

module _ (x : Txn) (parts : List ℕ) where
  has_written : (b c : Bool) (y : Txn) (ps : List ℕ) (sc : Scope) (s : TxnState) (n : TxnEntry) (ns : List TxnEntry) → has x (write y ps sc s ns) ≡ (same x y || has x ns) → same x n.txn ≡ b → same y n.txn ≡ c
      → has x (cond c (entry n.txn n.participants n.scope s ∷ ns) (n ∷ write y ps sc s ns)) ≡ (same x y || cond b true (has x ns))
  has_written true true y ps sc s n ns e f g = cond_true _ true _ f ∙ sym (or_right (same x y))
  has_written true false y ps sc s n ns e f g = cond_true _ true _ f ∙ sym (or_right (same x y))
  has_written false true y ps sc s n ns e f g = cond_false _ true _ f ∙
      sym (ap (λ b. b || has x ns) (⊎_elim (λ u. let t : true ≡ false = sym (same_of x n.txn (same_true x y u ∙ same_true y n.txn g)) ∙ f in cc) (λ u. u) (both (same x y))))
  has_written false false y ps sc s n ns e f g = cond_false _ true _ f ∙ e

  pub has_write : (y : Txn) (ps : List ℕ) (sc : Scope) (s : TxnState) (ns : List TxnEntry) → has x (write y ps sc s ns) ≡ (same x y || has x ns)
  has_write y ps sc s [] = or_if (same x y)
    where
      or_if : (b : Bool) → cond b true false ≡ (b || false)
      or_if true = refl
      or_if false = refl
  has_write y ps sc s (n ∷ ns) = has_written (same x n.txn) (same y n.txn) y ps sc s n ns (has_write y ps sc s ns) refl refl ∙ refl_has (same x n.txn)
    where
      refl_has : (b : Bool) → (same x y || cond b true (has x ns)) ≡ (same x y || cond b true (has x ns))
      refl_has b = refl

  single_if : (c : Bool) (y : Txn) (ps : List ℕ) (sc : Scope) (s : TxnState) (n : TxnEntry) (ns : List TxnEntry) → Single x parts (n ∷ ns) → Single x parts (write y ps sc s ns) → same y n.txn ≡ c → Single x parts (cond c (entry n.txn n.participants n.scope s ∷ ns) (n ∷ write y ps sc s ns))
  single_if true y ps sc s n ns i r e = i
  single_if false y ps sc s n ns i r e =
      ((λ u. has_write y ps sc s ns ∙ ap (λ b. b || has x ns) (⊎_elim (λ v. let t : true ≡ false = sym (same_of y n.txn (sym (same_true x y v) ∙ same_true x n.txn u)) ∙ e in cc) (λ v. v) (both (same x y))) ∙ i.0 u), r)

  pub single_write : (y : Txn) (ps : List ℕ) (sc : Scope) (s : TxnState) (ns : List TxnEntry) → Single x parts ns → Single x parts (write y ps sc s ns)
  single_write y ps sc s [] i = ((λ _. refl), tt)
  single_write y ps sc s (n ∷ ns) i = single_if (same y n.txn) y ps sc s n ns i (single_write y ps sc s ns i.1) refl

  pub single_noted : (y : Txn) (ps : List ℕ) (sc : Scope) (new : Option TxnState) (ns : List TxnEntry) → Single x parts ns → Single x parts (noted y ps sc new ns)
  single_noted y ps sc None ns i = i
  single_noted y ps sc (Some s) ns i = single_write y ps sc s ns i

  has_undone : (ns : List TxnEntry) → has x (all_undone ns) ≡ has x ns
  has_undone [] = refl
  has_undone (n ∷ ns) = ap (cond (same x n.txn) true) (has_undone ns)

  pub single_undone : (ns : List TxnEntry) → Single x parts ns → Single x parts (all_undone ns)
  single_undone [] i = tt
  single_undone (n ∷ ns) i = ((λ u. has_undone ns ∙ i.0 u), single_undone ns i.1)

  pub absent_of : (ns : List TxnEntry) → has x ns ≡ false → state_of x ns ≡ None
  absent_of [] e = refl
  absent_of (n ∷ ns) e = ⊎_elim (λ u. let t : true ≡ false = sym (cond_true _ true (has x ns) u) ∙ e in cc) (λ u. cond_false _ (Some n.state) _ u ∙ absent_of ns (sym (cond_false _ true (has x ns) u) ∙ e)) (both (same x n.txn))

  has_gone : (b : Bool) (n : TxnEntry) (ns rest : List TxnEntry) → (has x ns ≡ false → has x rest ≡ false) → has x (n ∷ ns) ≡ false → has x (cond (not b) (n ∷ rest) rest) ≡ false
  has_gone true n ns rest r e = ⊎_elim (λ u. let t : true ≡ false = sym (cond_true _ true (has x ns) u) ∙ e in cc) (λ u. r (sym (cond_false _ true (has x ns) u) ∙ e)) (both (same x n.txn))
  has_gone false n ns rest r e = ⊎_elim (λ u. let t : true ≡ false = sym (cond_true _ true (has x ns) u) ∙ e in cc) (λ u. cond_false _ true (has x rest) u ∙ r (sym (cond_false _ true (has x ns) u) ∙ e)) (both (same x n.txn))

  has_forgotten : (f : Txn) (ns : List TxnEntry) → has x ns ≡ false → has x (forgotten f ns) ≡ false
  has_forgotten f [] e = refl
  has_forgotten f (n ∷ ns) e = has_gone (is_under n.txn f) n ns (forgotten f ns) (has_forgotten f ns) e

  single_gone : (b : Bool) (n : TxnEntry) (rest : List TxnEntry) → (same x n.txn ≡ true → has x rest ≡ false) → Single x parts rest → Single x parts (cond (not b) (n ∷ rest) rest)
  single_gone true n rest k s = s
  single_gone false n rest k s = (k, s)

  pub single_forgotten : (f : Txn) (ns : List TxnEntry) → Single x parts ns → Single x parts (forgotten f ns)
  single_forgotten f [] i = tt
  single_forgotten f (n ∷ ns) i = single_gone (is_under n.txn f) n (forgotten f ns) (λ s. has_forgotten f ns (i.0 s)) (single_forgotten f ns i.1)

  -- the facts of what a claim undoes
  abbrev one_undone : Bool → ℕ → Txn → List Fact
  one_undone b p y = cond b (Settled_at p y Abort ∷ []) []

  undone_if : (b : Bool) (p q : ℕ) (d : Decision) (n : TxnEntry) → still_started n.state ≡ b → In (Settled_at q x d) (one_undone b p n.txn) → (q ≡ p) × (n.txn ≡ x) × (n.state ≡ RecordStarted) × (d ≡ Abort)
  undone_if true p q d n e i = ⊎_elim (λ u. (cc, cc, was_started n.state e, cc)) (λ u. absurd u) i
  undone_if false p q d n e i = absurd i

  pub undone_only : (p q : ℕ) (d : Decision) (ns : List TxnEntry) → Single x parts ns → In (Settled_at q x d) (undone_facts p ns) → (q ≡ p) × (state_of x ns ≡ Some RecordStarted) × (d ≡ Abort)
  undone_only p q d [] s i = absurd i
  undone_only p q d (n ∷ ns) s i =
      ⊎_elim (λ u.
      let r = undone_only p q d ns s.1 u in
      ⊎_elim (λ v. let t : Some RecordStarted ≡ None = sym r.1 ∙ absent_of ns (s.0 v) in cc) (λ v. (r.0, cond_false _ (Some n.state) _ v ∙ r.1, r.2)) (both (same x n.txn)))
      (λ u. let v = undone_if (still_started n.state) p q d n refl u in (v.0, cond_true _ (Some n.state) _ (same_of x n.txn (sym v.1)) ∙ ap Some v.2, v.3))
      (in_either _ (undone_facts p ns) (one_undone (still_started n.state) p n.txn) i)

  has_one : (b : Bool) (p : ℕ) (y : Txn) → b ≡ true → x ≡ y → In (Settled_at p x Abort) (one_undone b p y)
  has_one true p y e i = inl (ap (λ (z : Txn). Settled_at p z Abort) i)
  has_one false p y e i = cc

  pub undone_has : (p : ℕ) (ns : List TxnEntry) → state_of x ns ≡ Some RecordStarted → In (Settled_at p x Abort) (undone_facts p ns)
  undone_has p [] e = cc
  undone_has p (n ∷ ns) e =
      let one = one_undone (still_started n.state) p n.txn in
      ⊎_elim (λ u.
      let t : n.state ≡ RecordStarted = some_same _ _ (sym (cond_true _ (Some n.state) _ u) ∙ e) in
      in_right _ (undone_facts p ns) one (has_one (still_started n.state) p n.txn (ap still_started t) (same_true x n.txn u)))
      (λ u. in_left _ (undone_facts p ns) one (undone_has p ns (sym (cond_false _ (Some n.state) _ u) ∙ e))) (both (same x n.txn))

  good_if : (b : Bool) (p : ℕ) (n : TxnEntry) (fs : List Fact) → still_started n.state ≡ b → GoodFacts x parts fs → (still_started n.state ≡ true → n.txn ≡ x → (g : Decision) → In (Settled_at p x g) fs → ⊥) → GoodFacts x parts (one_undone b p n.txn ++ fs)
  good_if true p n fs e g k = ((λ u. (k e u, (λ v. cc))), g)
  good_if false p n fs e g k = g

  pub undone_good : (p : ℕ) (ns : List TxnEntry) (fs : List Fact) → Single x parts ns → GoodFacts x parts fs → (state_of x ns ≡ Some RecordStarted → (g : Decision) → In (Settled_at p x g) fs → ⊥) → GoodFacts x parts (undone_facts p ns ++ fs)
  undone_good p [] fs s g k = g
  undone_good p (n ∷ ns) fs s g k =
      let one = one_undone (still_started n.state) p n.txn in
      let first = good_if (still_started n.state) p n fs refl g (λ e u. k (cond_true _ (Some n.state) _ (same_of x n.txn (sym u)) ∙ ap Some (was_started n.state e))) in
      subst (GoodFacts x parts) (sym (append_assoc (undone_facts p ns) one fs))
      (undone_good p ns (one ++ fs) s.1 first (λ e d i.
      ⊎_elim (λ v. let t : Some RecordStarted ≡ None = sym e ∙ absent_of ns (s.0 v) in absurd {A = ⊥} cc)
      (λ v. ⊎_elim (λ u. let w : n.txn ≡ x = (undone_if (still_started n.state) p p d n refl u).1 in let t : true ≡ false = sym (same_of x n.txn (sym w)) ∙ v in absurd {A = ⊥} cc) (λ u. k (cond_false _ (Some n.state) _ v ∙ e) d u) (in_either _ one fs i))
      (both (same x n.txn))))

-- what is listed
pub live_seen : (o : Option TxnState) → is_live (seen o) ≡ held_or o
live_seen None = refl
live_seen (Some RecordStarted) = refl
live_seen (Some RecordPrepared) = refl
live_seen (Some RecordCompleted) = refl
live_seen (Some RecordAborted) = refl

module _ (x : Txn) (parts : List ℕ) where
  pub single_state : (n : TxnEntry) (ns : List TxnEntry) → Single x parts ns → In n ns → n.txn ≡ x → state_of x ns ≡ Some n.state
  single_state n [] s i e = absurd i
  single_state n (m ∷ ns) s i e =
      ⊎_elim (λ k. cond_true (same x m.txn) (Some m.state) _ (same_of x m.txn (sym e ∙ ap (λ (v : TxnEntry). v.txn) k)) ∙ ap (λ (v : TxnEntry). Some v.state) (sym k))
      (λ k.
      let r = single_state n ns s.1 k e in
      ⊎_elim (λ u. let c : None ≡ Some n.state = sym (absent_of x parts ns (s.0 u)) ∙ r in cc) (λ u. cond_false (same x m.txn) (Some m.state) _ u ∙ r) (both (same x m.txn))) i

  less_listed : (b : Bool) (n : TxnEntry) (ns : List TxnEntry) → cond (same x n.txn) true (has x ns) ≡ false → (has x ns ≡ false → has x (listed ns) ≡ false) → has x (cond b (entry n.txn n.participants [] n.state ∷ listed ns) (listed ns)) ≡ false
  less_listed true n ns e r = ⊎_elim (λ u. let t : true ≡ false = sym (cond_true _ true (has x ns) u) ∙ e in cc) (λ u. cond_false _ true (has x (listed ns)) u ∙ r (sym (cond_false _ true (has x ns) u) ∙ e)) (both (same x n.txn))
  less_listed false n ns e r = ⊎_elim (λ u. let t : true ≡ false = sym (cond_true _ true (has x ns) u) ∙ e in cc) (λ u. r (sym (cond_false _ true (has x ns) u) ∙ e)) (both (same x n.txn))

  none_listed : (ns : List TxnEntry) → has x ns ≡ false → has x (listed ns) ≡ false
  none_listed [] e = refl
  none_listed (n ∷ ns) e = less_listed (is_held n.state) n ns e (none_listed ns)

  skip_listed : (b : Bool) (n : TxnEntry) (ns : List TxnEntry) → same x n.txn ≡ false → has x (listed ns) ≡ false → has x (cond b (entry n.txn n.participants [] n.state ∷ listed ns) (listed ns)) ≡ false
  skip_listed true n ns e r = cond_false _ true (has x (listed ns)) e ∙ r
  skip_listed false n ns e r = r

  drop_listed : (b : Bool) (n : TxnEntry) (ns : List TxnEntry) → b ≡ false → has x (listed ns) ≡ false → has x (cond b (entry n.txn n.participants [] n.state ∷ listed ns) (listed ns)) ≡ false
  drop_listed true n ns e r = cc
  drop_listed false n ns e r = r

  -- what is not held is not listed
  pub unlisted : (ns : List TxnEntry) → Single x parts ns → held_or (state_of x ns) ≡ false → has x (listed ns) ≡ false
  unlisted [] s e = refl
  unlisted (n ∷ ns) s e =
      ⊎_elim (λ u. drop_listed (is_held n.state) n ns (ap held_or (sym (cond_true (same x n.txn) (Some n.state) _ u)) ∙ e) (none_listed ns (s.0 u)))
      (λ u. skip_listed (is_held n.state) n ns u (unlisted ns s.1 (ap held_or (sym (cond_false (same x n.txn) (Some n.state) _ u)) ∙ e))) (both (same x n.txn))

  held_listed : (b : Bool) (n : TxnEntry) (ns : List TxnEntry) → same x n.txn ≡ true → has x (cond b (entry n.txn n.participants [] n.state ∷ listed ns) (listed ns)) ≡ false → b ≡ false
  held_listed true n ns u e = let t : true ≡ false = sym (cond_true _ true (has x (listed ns)) u) ∙ e in cc
  held_listed false n ns u e = refl

  rest_listed : (b : Bool) (n : TxnEntry) (ns : List TxnEntry) → same x n.txn ≡ false → has x (cond b (entry n.txn n.participants [] n.state ∷ listed ns) (listed ns)) ≡ false → has x (listed ns) ≡ false
  rest_listed true n ns u e = sym (cond_false _ true (has x (listed ns)) u) ∙ e
  rest_listed false n ns u e = e

  -- what is not listed is not held
  pub not_held : (ns : List TxnEntry) → has x (listed ns) ≡ false → held_or (state_of x ns) ≡ false
  not_held [] e = refl
  not_held (n ∷ ns) e =
      ⊎_elim (λ u. ap held_or (cond_true (same x n.txn) (Some n.state) _ u) ∙ held_listed (is_held n.state) n ns u e)
      (λ u. ap held_or (cond_false (same x n.txn) (Some n.state) _ u) ∙ not_held ns (rest_listed (is_held n.state) n ns u e)) (both (same x n.txn))

-- a record may be written where there was none, or where it was held
abbrev pub live_before : Option TxnState → Bool
live_before None = true
live_before (Some s) = is_held s

module _ (x : Txn) (parts : List ℕ) (h : Past) where
  -- how the new state fits the old one
  abbrev pub Fits : ℕ → Txn → List ℕ → Scope → Option TxnState → Option TxnState → Type 0
  Fits e y ps sc new t = (s : TxnState) → new ≡ Some s → (is_held s ≡ true → live_before t ≡ true) × (t ≡ None → EntryFine x parts h e (entry y ps sc s))

  pub noted_fine : (e : ℕ) (y : Txn) (ps : List ℕ) (sc : Scope) (new : Option TxnState) (ns : List TxnEntry) → AllOf (EntryFine x parts h e) ns → Fits e y ps sc new (state_of y ns) → AllOf (EntryFine x parts h e) (noted y ps sc new ns)
  noted_fine e y ps sc None ns a f = a
  noted_fine e y ps sc (Some s) ns a f =
      write_all (EntryFine x parts h e) y ps sc s (state_of y ns) ns refl a
      (λ n _ t g u. let v = g u in ((λ l. v.0 (ap live_before t ∙ (f s refl).0 l)), v.1, v.2)) (f s refl).1

  live_undone : (s : TxnState) → is_held (undone s) ≡ true → is_held s ≡ true
  live_undone RecordStarted e = refl
  live_undone RecordPrepared e = refl
  live_undone RecordCompleted e = e
  live_undone RecordAborted e = e

  pub undone_fine : (d e : ℕ) (ns : List TxnEntry) → d ≤ e → AllOf (EntryFine x parts h d) ns → AllOf (EntryFine x parts h e) (all_undone ns)
  undone_fine d e [] l a = tt
  undone_fine d e (n ∷ ns) l a = ((λ t. let v = a.0 t in let low : x.epoch ≤ d = v.1 in ((λ i. v.0 (live_undone n.state i)), omega arith, v.2)), undone_fine d e ns l a.1)

  held_if : (p e : ℕ) (b : Bool) (n : TxnEntry) (ms : List TxnEntry) → is_held n.state ≡ b → EntryFine x parts h e n → (n.txn ≡ x → b ≡ true → Found x parts h e p) → AllOf (HeldFine x parts h p e) ms → AllOf (HeldFine x parts h p e) (cond b (entry n.txn n.participants [] n.state ∷ ms) ms)
  held_if p e true n ms i f k a = ((λ t. let v = f t in (v.0 i, v.1, v.2, k t refl)), a)
  held_if p e false n ms i f k a = a

  -- what is listed, where p has told that it holds x
  pub listed_fine : (p e : ℕ) (ns : List TxnEntry) → AllOf (EntryFine x parts h e) ns → ((n : TxnEntry) → In n ns → n.txn ≡ x → is_held n.state ≡ true → Found x parts h e p) → AllOf (HeldFine x parts h p e) (listed ns)
  listed_fine p e [] a k = tt
  listed_fine p e (n ∷ ns) a k = held_if p e (is_held n.state) n (listed ns) refl a.0 (λ t b. k n (inl refl) t b) (listed_fine p e ns a.1 (λ m i. k m (inr i)))
