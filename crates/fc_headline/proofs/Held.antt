-- What is held stays clean, whatever happens to the records.
use Rattle.std.proofs.Common.{◌≡◌, ℕ, Bool, true, false, cond, List, [], ◌∷◌, ◌++◌, Option, Some, refl, sym, ap, ◌∙◌, subst, append_assoc, append-nil}
use Rattle.fc_base.specs.Ids.{Txn}
use Rattle.fc_modes.specs.Modes.{folded}
use Rattle.fc_machine.specs.ElementState.{Entry, flat, ops_of, ops_at, held_ops, entry, no_rests, written, and_rest, rest_added, undone_records, bare, bares}
use Rattle.fc_headline.specs.Folds.{Clean}
use Rattle.fc_machine.specs.Ground.{Place, Ground, Lawful}
use Rattle.fc_protocol.specs.Scopes.{meets}
use Rattle.fc_machine.specs.Transactions.{scope_at}
use Rattle.fc_headline.proofs.Blocks.{Apart, apart_back, folded_append, clean_append, clean_first, clean_rest, without_first, second_first, put_between}
use Rattle.fc_headline.proofs.Scopes.{Lies, Fine, Clear, Disjoint, lie_apart, apart_held}
use Rattle.fc_protocol.specs.Messages.{same}
use Rattle.fc_protocol.specs.Records.{state_of, is_held, undone, all_undone, write}
use Rattle.fc_protocol.specs.declared.states.TxnState.{TxnState}
use Rattle.fc_protocol.specs.declared.states.TxnState.TheVariants.{Started, Prepared, Completed, Aborted}
use Rattle.fc_protocol.proofs.Basics.{AllOf, cond_true, cond_false, some_same}

-- As the protocol sees them

written_if : {Op : Type 0} (b : Bool) (x : Txn) (ps : List ℕ) (scope : List Place) (s : TxnState) (n : Entry Op) (ns : List (Entry Op)) → bares (written x ps scope s ns) ≡ write x ps scope s (bares ns)
    → bares (cond b (entry n.txn s n.participants n.scope n.rests ∷ ns) (n ∷ written x ps scope s ns)) ≡ cond b (bare (entry n.txn s n.participants n.scope n.rests) ∷ bares ns) (bare n ∷ write x ps scope s (bares ns))
written_if true x ps scope s n ns r = refl
written_if false x ps scope s n ns r = ap (λ v. bare n ∷ v) r

pub bares_written : {Op : Type 0} (x : Txn) (ps : List ℕ) (scope : List Place) (s : TxnState) (ns : List (Entry Op)) → bares (written x ps scope s ns) ≡ write x ps scope s (bares ns)
bares_written x ps scope s [] = refl
bares_written x ps scope s (n ∷ ns) = written_if (same x n.txn) x ps scope s n ns (bares_written x ps scope s ns)

bares_rest_if : {Op : Type 0} (b : Bool) (x : Txn) (ops : List Op) (n : Entry Op) (ns : List (Entry Op)) → bares (rest_added x ops ns) ≡ bares ns
    → bares (cond b (record { txn = n.txn; state = n.state; participants = n.participants; scope = n.scope; rests = and_rest n.rests ops } ∷ ns) (n ∷ rest_added x ops ns)) ≡ bare n ∷ bares ns
bares_rest_if true x ops n ns r = refl
bares_rest_if false x ops n ns r = ap (λ v. bare n ∷ v) r

pub bares_rest : {Op : Type 0} (x : Txn) (ops : List Op) (ns : List (Entry Op)) → bares (rest_added x ops ns) ≡ bares ns
bares_rest x ops [] = refl
bares_rest x ops (n ∷ ns) = bares_rest_if (same x n.txn) x ops n ns (bares_rest x ops ns)

pub bares_undone : {Op : Type 0} (ns : List (Entry Op)) → bares (undone_records ns) ≡ all_undone (bares ns)
bares_undone [] = refl
bares_undone (n ∷ ns) = ap (λ v. bare (entry n.txn (undone n.state) n.participants n.scope n.rests) ∷ v) (bares_undone ns)

-- Operations of a record

pub flat_rest : {Op : Type 0} (rests : List (List Op)) (ops : List Op) → flat (and_rest rests ops) ≡ flat rests ++ ops
flat_rest rests [] = sym (append-nil (flat rests))
flat_rest [] (op ∷ ops) = append-nil (op ∷ ops)
flat_rest (r ∷ rests) (op ∷ ops) = ap (λ v. r ++ v) (flat_rest rests (op ∷ ops)) ∙ sym (append_assoc r (flat rests) (op ∷ ops))

pub rests_held : {Op : Type 0} (s : TxnState) (rests : List (List Op)) → is_held s ≡ true → no_rests s rests ≡ rests
rests_held s rests h = cond_true (is_held s) rests [] h

-- x has a record with this state
abbrev pub Is : {Op : Type 0} → Txn → List (Entry Op) → TxnState → Type 0
Is x ns t = state_of x (bares ns) ≡ Some t

here : (b : Bool) (s t : TxnState) (o : Option TxnState) → b ≡ true → cond b (Some s) o ≡ Some t → s ≡ t
here true s t o e k = some_same s t k
here false s t o e k = cc

there : (b : Bool) (s t : TxnState) (o : Option TxnState) → b ≡ false → cond b (Some s) o ≡ Some t → o ≡ Some t
there true s t o e k = cc
there false s t o e k = k

module _ {Config Op Subs : Type 0} (g : Ground Config Op Subs) (law : Lawful g) where
  -- the held record of x, and a scope that does not meet what is held
  record At (x : Txn) (ss : List Place) (ns : List (Entry Op)) : Type 0 where
    scope : List Place
    apart : meets ss scope ≡ false
    lies : AllOf (Lies g scope) (ops_at x ns)

  at_if : (b : Bool) (x : Txn) (ss : List Place) (n : Entry Op) (ns : List (Entry Op)) (t : TxnState) → is_held t ≡ true → cond b (Some n.state) (state_of x (bares ns)) ≡ Some t
      → (is_held n.state ≡ true → AllOf (Lies g n.scope) (ops_of n)) → (is_held n.state ≡ true → meets ss n.scope ≡ false) → (Is x ns t → At x ss ns)
      → (scope : List Place) × (meets ss scope ≡ false) × AllOf (Lies g scope) (cond b (ops_of n) (ops_at x ns))
  at_if true x ss n ns t h e f c r = let k : is_held n.state ≡ true = ap is_held (some_same _ _ e) ∙ h in (n.scope, c k, f k)
  at_if false x ss n ns t h e f c r = let v = r e in (v.scope, v.apart, v.lies)

  at_held : (x : Txn) (ss : List Place) (ns : List (Entry Op)) (t : TxnState) → is_held t ≡ true → Is x ns t → AllOf (Fine g) ns → Clear g ss ns → At x ss ns
  at_held x ss [] t h e f c = cc
  at_held x ss (n ∷ ns) t h e f c =
      let v = at_if (same x n.txn) x ss n ns t h e f.0 c.0 (λ k. at_held x ss ns t h k f.1 c.1) in
      record { scope = v.0; apart = v.1; lies = v.2 }

  -- x completes

  abbrev Completes : Config → List Op → List (Entry Op) → Type 0
  Completes c ops ns = Clean g.effect c ops × Clean g.effect (folded g.effect c ops) (held_ops ns)

  complete_here : (h : Bool) (c : Config) (xs ys : List Op) → h ≡ true → Clean g.effect c (cond h (xs ++ ys) ys) → Clean g.effect c xs × Clean g.effect (folded g.effect c xs) ys
  complete_here true c xs ys e k = (clean_first g.effect c xs ys k, clean_rest g.effect c xs ys k)
  complete_here false c xs ys e k = cc

  complete_there : (h : Bool) (c : Config) (xs ys zs ws : List Op) → (h ≡ true → Apart g.effect xs ys) → ((d : Config) → Clean g.effect d zs → Clean g.effect d ys × Clean g.effect (folded g.effect d ys) ws)
      → Clean g.effect c (cond h (xs ++ zs) zs) → Clean g.effect c ys × Clean g.effect (folded g.effect c ys) (cond h (xs ++ ws) ws)
  complete_there true c xs ys zs ws a r k =
      let v = r (folded g.effect c xs) (clean_rest g.effect c xs zs k) in
      second_first g.effect c xs ys ws (a refl) (clean_first g.effect c xs zs k) v.0 v.1
  complete_there false c xs ys zs ws a r k = r c k

  complete_if : (b : Bool) (x : Txn) (ps : List ℕ) (sc : List Place) (n : Entry Op) (ns : List (Entry Op)) (c : Config) → same x n.txn ≡ b → cond b (Some n.state) (state_of x (bares ns)) ≡ Some Prepared
      → AllOf (Fine g) (n ∷ ns) → Disjoint g (n ∷ ns) → ((d : Config) → Is x ns Prepared → Clean g.effect d (held_ops ns) → Completes d (ops_at x ns) (written x ps sc Completed ns))
      → Clean g.effect c (held_ops (n ∷ ns)) → Completes c (cond b (ops_of n) (ops_at x ns)) (cond b (entry n.txn Completed n.participants n.scope n.rests ∷ ns) (n ∷ written x ps sc Completed ns))
  complete_if true x ps sc n ns c s e f d r k = complete_here (is_held n.state) c (ops_of n) (held_ops ns) (ap is_held (some_same _ _ e)) k
  complete_if false x ps sc n ns c s e f d r k =
      complete_there (is_held n.state) c (ops_of n) (ops_at x ns) (held_ops ns) (held_ops (written x ps sc Completed ns))
      (λ h. let a = at_held x n.scope ns Prepared refl e f.1 (d.0 h) in lie_apart g law n.scope a.scope (ops_of n) (ops_at x ns) a.apart (f.0 h) a.lies) (λ t. r t e) k

  pub complete : (x : Txn) (ps : List ℕ) (sc : List Place) (ns : List (Entry Op)) (c : Config) → Is x ns Prepared → AllOf (Fine g) ns → Disjoint g ns → Clean g.effect c (held_ops ns) → Completes c (ops_at x ns) (written x ps sc Completed ns)
  complete x ps sc [] c e f d k = cc
  complete x ps sc (n ∷ ns) c e f d k = complete_if (same x n.txn) x ps sc n ns c refl e f d (λ t i. complete x ps sc ns t i f.1 d.1) k

  -- x aborts

  drop_if : (h : Bool) (c : Config) (xs ys : List Op) → (h ≡ true → Apart g.effect xs ys) → Clean g.effect c (cond h (xs ++ ys) ys) → Clean g.effect c ys
  drop_if true c xs ys a k = without_first g.effect c xs ys (a refl) k
  drop_if false c xs ys a k = k

  keep_if : (h : Bool) (c : Config) (xs ys zs : List Op) → ((d : Config) → Clean g.effect d ys → Clean g.effect d zs) → Clean g.effect c (cond h (xs ++ ys) ys) → Clean g.effect c (cond h (xs ++ zs) zs)
  keep_if true c xs ys zs r k = clean_append g.effect c xs zs (clean_first g.effect c xs ys k) (r (folded g.effect c xs) (clean_rest g.effect c xs ys k))
  keep_if false c xs ys zs r k = r c k

  drop_head : (n : Entry Op) (ns : List (Entry Op)) (c : Config) → AllOf (Fine g) (n ∷ ns) → Disjoint g (n ∷ ns) → Clean g.effect c (held_ops (n ∷ ns)) → Clean g.effect c (held_ops ns)
  drop_head n ns c f d k = drop_if (is_held n.state) c (ops_of n) (held_ops ns) (λ h. apart_held g law n.scope (ops_of n) ns (d.0 h) (f.0 h) f.1) k

  abort_if : (b : Bool) (x : Txn) (ps : List ℕ) (sc : List Place) (n : Entry Op) (ns : List (Entry Op)) (c : Config) → AllOf (Fine g) (n ∷ ns) → Disjoint g (n ∷ ns)
      → ((d : Config) → Clean g.effect d (held_ops ns) → Clean g.effect d (held_ops (written x ps sc Aborted ns)))
      → Clean g.effect c (held_ops (n ∷ ns)) → Clean g.effect c (held_ops (cond b (entry n.txn Aborted n.participants n.scope n.rests ∷ ns) (n ∷ written x ps sc Aborted ns)))
  abort_if true x ps sc n ns c f d r k = drop_head n ns c f d k
  abort_if false x ps sc n ns c f d r k = keep_if (is_held n.state) c (ops_of n) (held_ops ns) (held_ops (written x ps sc Aborted ns)) r k

  pub abort : (x : Txn) (ps : List ℕ) (sc : List Place) (ns : List (Entry Op)) (c : Config) → AllOf (Fine g) ns → Disjoint g ns → Clean g.effect c (held_ops ns) → Clean g.effect c (held_ops (written x ps sc Aborted ns))
  abort x ps sc [] c f d k = tt
  abort x ps sc (n ∷ ns) c f d k = abort_if (same x n.txn) x ps sc n ns c f d (λ t. abort x ps sc ns t f.1 d.1) k

  -- a claim

  undo_if : (s : TxnState) (n : Entry Op) (ns : List (Entry Op)) (c : Config) → n.state ≡ s → AllOf (Fine g) (n ∷ ns) → Disjoint g (n ∷ ns) → ((d : Config) → Clean g.effect d (held_ops ns) → Clean g.effect d (held_ops (undone_records ns)))
      → Clean g.effect c (cond (is_held s) (ops_of n ++ held_ops ns) (held_ops ns)) → Clean g.effect c (held_ops (entry n.txn (undone s) n.participants n.scope n.rests ∷ undone_records ns))
  undo_if Started n ns c e f d r k = r c (drop_head n ns c f d (subst (λ v. Clean g.effect c (cond (is_held v) (ops_of n ++ held_ops ns) (held_ops ns))) (sym e) k))
  undo_if Prepared n ns c e f d r k = keep_if true c (ops_of n) (held_ops ns) (held_ops (undone_records ns)) r k
  undo_if Completed n ns c e f d r k = r c k
  undo_if Aborted n ns c e f d r k = r c k

  pub undo : (ns : List (Entry Op)) (c : Config) → AllOf (Fine g) ns → Disjoint g ns → Clean g.effect c (held_ops ns) → Clean g.effect c (held_ops (undone_records ns))
  undo [] c f d k = tt
  undo (n ∷ ns) c f d k = undo_if n.state n ns c refl f d (λ t. undo ns t f.1 d.1) k

  -- x gets a rest

  rest_here : (h : Bool) (c : Config) (xs ys zs : List Op) → (h ≡ true → Apart g.effect ys zs) → Clean g.effect c (cond h (xs ++ ys) ys) → Clean g.effect (folded g.effect c (cond h (xs ++ ys) ys)) zs → Clean g.effect c (cond h ((xs ++ zs) ++ ys) ys)
  rest_here true c xs ys zs a k l = put_between g.effect c xs ys zs (a refl) k l
  rest_here false c xs ys zs a k l = k

  rest_there : (h : Bool) (c : Config) (xs ys ws zs : List Op) → ((d : Config) → Clean g.effect d ys → Clean g.effect (folded g.effect d ys) zs → Clean g.effect d ws)
      → Clean g.effect c (cond h (xs ++ ys) ys) → Clean g.effect (folded g.effect c (cond h (xs ++ ys) ys)) zs → Clean g.effect c (cond h (xs ++ ws) ws)
  rest_there true c xs ys ws zs r k l =
      clean_append g.effect c xs ws (clean_first g.effect c xs ys k) (r (folded g.effect c xs) (clean_rest g.effect c xs ys k) (subst (λ t. Clean g.effect t zs) (folded_append g.effect c xs ys) l))
  rest_there false c xs ys ws zs r k l = r c k l

  rest_if : (b : Bool) (x : Txn) (ops : List Op) (n : Entry Op) (ns : List (Entry Op)) (c : Config) → AllOf (Lies g (cond b n.scope (scope_at x ns))) ops → AllOf (Fine g) (n ∷ ns) → Disjoint g (n ∷ ns)
      → ((d : Config) → AllOf (Lies g (scope_at x ns)) ops → Clean g.effect d (held_ops ns) → Clean g.effect (folded g.effect d (held_ops ns)) ops → Clean g.effect d (held_ops (rest_added x ops ns)))
      → Clean g.effect c (held_ops (n ∷ ns)) → Clean g.effect (folded g.effect c (held_ops (n ∷ ns))) ops
      → Clean g.effect c (held_ops (cond b (record { txn = n.txn; state = n.state; participants = n.participants; scope = n.scope; rests = and_rest n.rests ops } ∷ ns) (n ∷ rest_added x ops ns)))
  rest_if true x ops n ns c i f d r k l =
      subst (λ v. Clean g.effect c (cond (is_held n.state) (v ++ held_ops ns) (held_ops ns))) (sym (flat_rest n.rests ops))
      (rest_here (is_held n.state) c (ops_of n) (held_ops ns) ops (λ h. apart_back g.effect ops (held_ops ns) (apart_held g law n.scope ops ns (d.0 h) i f.1)) k l)
  rest_if false x ops n ns c i f d r k l = rest_there (is_held n.state) c (ops_of n) (held_ops ns) (held_ops (rest_added x ops ns)) ops (λ t. r t i) k l

  pub rest : (x : Txn) (ops : List Op) (ns : List (Entry Op)) (c : Config) → AllOf (Lies g (scope_at x ns)) ops → AllOf (Fine g) ns → Disjoint g ns
      → Clean g.effect c (held_ops ns) → Clean g.effect (folded g.effect c (held_ops ns)) ops → Clean g.effect c (held_ops (rest_added x ops ns))
  rest x ops [] c i f d k l = tt
  rest x ops (n ∷ ns) c i f d k l = rest_if (same x n.txn) x ops n ns c i f d (λ t j. rest x ops ns t j f.1 d.1) k l

  -- a new record, or one that is still held, has the operations that it had

  kept_if : (b : Bool) (x : Txn) (ps : List ℕ) (sc : List Place) (s : TxnState) (n : Entry Op) (ns : List (Entry Op)) → is_held s ≡ true → (b ≡ true → is_held n.state ≡ true) → (b ≡ false → held_ops (written x ps sc s ns) ≡ held_ops ns)
      → held_ops (cond b (entry n.txn s n.participants n.scope n.rests ∷ ns) (n ∷ written x ps sc s ns)) ≡ held_ops (n ∷ ns)
  kept_if true x ps sc s n ns h i r =
      cond_true (is_held s) _ _ h ∙ ap (λ v. flat v ++ held_ops ns) (rests_held s n.rests h) ∙ sym (cond_true (is_held n.state) (ops_of n ++ held_ops ns) (held_ops ns) (i refl))
  kept_if false x ps sc s n ns h i r = ap (λ v. cond (is_held n.state) (ops_of n ++ v) v) (r refl)

  pub kept_held : (x : Txn) (ps : List ℕ) (sc : List Place) (s : TxnState) (ns : List (Entry Op)) → is_held s ≡ true → ((t : TxnState) → Is x ns t → is_held t ≡ true) → held_ops (written x ps sc s ns) ≡ held_ops ns
  kept_held x ps sc s [] h i = cond_true (is_held s) _ _ h ∙ ap (λ v. flat v ++ []) (rests_held s [] h)
  kept_held x ps sc s (n ∷ ns) h i =
      kept_if (same x n.txn) x ps sc s n ns h (λ u. i n.state (cond_true _ (Some n.state) _ u)) (λ u. kept_held x ps sc s ns h (λ t e. i t (cond_false _ (Some n.state) _ u ∙ e)))
