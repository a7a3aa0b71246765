-- The settled configuration is what was completed, whatever happens to a record.
use Rattle.std.proofs.Common.{◌≡◌, ℕ, ◌==◌, ◌&&◌, ◌||◌, Bool, true, false, cond, List, [], ◌∷◌, ◌++◌, Option, Some, None, ⊎_elim, refl, sym, ap, ◌∙◌, subst, eq-eqb}
use Rattle.fc_base.specs.Ids.{Txn}
use Rattle.fc_modes.specs.Modes.{folded}
use Rattle.fc_machine.specs.ElementState.{Entry, entry, and_rest, ops_at, held_ops, written, rest_added, undone_records, bares, without}
use Rattle.fc_headline.specs.Folds.{Clean}
use Rattle.fc_machine.specs.Ground.{Place, Ground, Lawful}
use Rattle.fc_machine.specs.Trace.{Fact, Of_protocol, Added_at, Plain_at, of_protocol, added, completed, completed_by}
use Rattle.fc_machine.specs.Transactions.{scope_at}
use Rattle.fc_headline.proofs.Blocks.{Apart, folded_append, clean_append, swaps}
use Rattle.fc_headline.proofs.Forgetting.{Live as Gone, forget_held, forget_fine, forget_disjoint, forget_state, forget_ops}
use Rattle.fc_headline.proofs.Held.{Is, bares_written, bares_rest, bares_undone, complete, abort, undo, rest, kept_held}
use Rattle.fc_headline.proofs.Kept.{Goes, is_over, held_undone, fine_written, disjoint_written, fine_rest, disjoint_rest, fine_undone, disjoint_undone, ops_other, ops_own, ops_rest_other, ops_rest, ops_undone}
use Rattle.fc_headline.proofs.Scopes.{Lies, Fine, Disjoint, never, or_left, or_right}
use Rattle.fc_protocol.specs.Messages.{same}
use Rattle.fc_protocol.specs.Records.{state_of, is_held, still_started, clashes}
use Rattle.fc_protocol.specs.Floors.{is_under, is_below, held_under}
use Rattle.fc_protocol.specs.Trace as protocol
use Rattle.fc_protocol.specs.Trace.{undone_facts}
use Rattle.fc_protocol.specs.declared.answers.TxnEntry.{TxnEntry}
use Rattle.fc_protocol.specs.declared.states.Decision.TheVariants.{Complete, Abort}
use Rattle.fc_protocol.specs.declared.states.TxnState.{TxnState}
use Rattle.fc_protocol.specs.declared.states.TxnState.TheVariants.{Started, Prepared, Completed, Aborted}
use Rattle.fc_protocol.proofs.Basics.{AllOf, all_append, both, cond_true, cond_false, same_true, same_self, some_same}
use Rattle.fc_protocol.proofs.Order.{floor_rises}
use Rattle.fc_protocol.proofs.Records.{state_written, state_undone, undone_or}

-- Facts that complete nothing

abbrev pub is_quiet : protocol.Fact → Bool
is_quiet (protocol.Opened_at p x ps) = true
is_quiet (protocol.Prepared_at p x) = true
is_quiet (protocol.Settled_at p x Complete) = false
is_quiet (protocol.Settled_at p x Abort) = true
is_quiet (protocol.Claimed_at p e) = true

if_same : {A : Type 0} (b : Bool) (v : A) → cond b v v ≡ v
if_same true v = refl
if_same false v = refl

quiet_one : {Op : Type 0} (p : ℕ) (f : protocol.Fact) (fs : List (Fact Op)) (before : List Op) → is_quiet f ≡ true → completed_by p f fs before ≡ before
quiet_one p (protocol.Opened_at q x ps) fs before e = refl
quiet_one p (protocol.Prepared_at q x) fs before e = refl
quiet_one p (protocol.Settled_at q x Complete) fs before e = cc
quiet_one p (protocol.Settled_at q x Abort) fs before e = if_same (p == q) before
quiet_one p (protocol.Claimed_at q e) fs before h = refl

pub completed_quiet : {Op : Type 0} (p : ℕ) (new : List protocol.Fact) (fs : List (Fact Op)) → AllOf (λ f. is_quiet f ≡ true) new → completed p (of_protocol new ++ fs) ≡ completed p fs
completed_quiet p [] fs h = refl
completed_quiet p (f ∷ new) fs h = quiet_one p f (of_protocol new ++ fs) (completed p (of_protocol new ++ fs)) h.0 ∙ completed_quiet p new fs h.1

pub added_protocol : {Op : Type 0} (p : ℕ) (x : Txn) (new : List protocol.Fact) (fs : List (Fact Op)) → added p x (of_protocol new ++ fs) ≡ added p x fs
added_protocol p x [] fs = refl
added_protocol p x (f ∷ new) fs = added_protocol p x new fs

quiet_undone_if : (b : Bool) (p : ℕ) (x : Txn) → AllOf (λ f. is_quiet f ≡ true) (cond b (protocol.Settled_at p x Abort ∷ []) [])
quiet_undone_if true p x = (refl, tt)
quiet_undone_if false p x = tt

pub quiet_undone : (p : ℕ) (ns : List TxnEntry) → AllOf (λ f. is_quiet f ≡ true) (undone_facts p ns)
quiet_undone p [] = tt
quiet_undone p (n ∷ ns) = all_append (λ f. is_quiet f ≡ true) (undone_facts p ns) (cond (still_started n.state) (protocol.Settled_at p n.txn Abort ∷ []) []) (quiet_undone p ns) (quiet_undone_if (still_started n.state) p n.txn)

over_held : (t : TxnState) → is_held t ≡ true → is_over (Some t) ≡ false
over_held Started h = refl
over_held Prepared h = refl
over_held Completed h = cc
over_held Aborted h = cc

pub goes_over : (s : TxnState) (o : Option TxnState) → is_held s ≡ true → Goes s o → is_over o ≡ false
goes_over s None h i = refl
goes_over s (Some t) h i = over_held t (i t refl h)

-- Nothing that is held is below the floor
abbrev pub Live : {Op : Type 0} → Option Txn → List (Entry Op) → Type 0
Live fl ns = AllOf (λ n. is_held n.state ≡ true → is_below n.txn fl ≡ false) ns

live_at_if : {Op : Type 0} (b : Bool) (fl : Option Txn) (x : Txn) (n : Entry Op) (ns : List (Entry Op)) (t : TxnState) → same x n.txn ≡ b → is_held t ≡ true → cond b (Some n.state) (state_of x (bares ns)) ≡ Some t
    → (is_held n.state ≡ true → is_below n.txn fl ≡ false) → (state_of x (bares ns) ≡ Some t → is_below x fl ≡ false) → is_below x fl ≡ false
live_at_if true fl x n ns t s h e l r = subst (λ v. is_below v fl ≡ false) (sym (same_true x n.txn s)) (l (ap is_held (some_same _ _ e) ∙ h))
live_at_if false fl x n ns t s h e l r = r e

pub live_at : {Op : Type 0} (fl : Option Txn) (x : Txn) (ns : List (Entry Op)) (t : TxnState) → is_held t ≡ true → Is x ns t → Live fl ns → is_below x fl ≡ false
live_at fl x [] t h e l = cc
live_at fl x (n ∷ ns) t h e l = live_at_if (same x n.txn) fl x n ns t refl h e l.0 (λ i. live_at fl x ns t h i l.1)

live_written_if : {Op : Type 0} (b : Bool) (fl : Option Txn) (x : Txn) (ps : List ℕ) (sc : List Place) (s : TxnState) (n : Entry Op) (ns : List (Entry Op)) → same x n.txn ≡ b → (is_held s ≡ true → is_below x fl ≡ false) → Live fl (n ∷ ns)
    → Live fl (written x ps sc s ns) → Live fl (cond b (entry n.txn s n.participants n.scope n.rests ∷ ns) (n ∷ written x ps sc s ns))
live_written_if true fl x ps sc s n ns e i l r = ((λ h. subst (λ v. is_below v fl ≡ false) (same_true x n.txn e) (i h)), l.1)
live_written_if false fl x ps sc s n ns e i l r = (l.0, r)

pub live_written : {Op : Type 0} (fl : Option Txn) (x : Txn) (ps : List ℕ) (sc : List Place) (s : TxnState) (ns : List (Entry Op)) → (is_held s ≡ true → is_below x fl ≡ false) → Live fl ns → Live fl (written x ps sc s ns)
live_written fl x ps sc s [] i l = (i, tt)
live_written fl x ps sc s (n ∷ ns) i l = live_written_if (same x n.txn) fl x ps sc s n ns refl i l (live_written fl x ps sc s ns i l.1)

live_rest_if : {Op : Type 0} (b : Bool) (fl : Option Txn) (x : Txn) (ops : List Op) (n : Entry Op) (ns : List (Entry Op)) → Live fl (n ∷ ns) → Live fl (rest_added x ops ns)
    → Live fl (cond b (record { txn = n.txn; state = n.state; participants = n.participants; scope = n.scope; rests = and_rest n.rests ops } ∷ ns) (n ∷ rest_added x ops ns))
live_rest_if true fl x ops n ns l r = (l.0, l.1)
live_rest_if false fl x ops n ns l r = (l.0, r)

pub live_rest : {Op : Type 0} (fl : Option Txn) (x : Txn) (ops : List Op) (ns : List (Entry Op)) → Live fl ns → Live fl (rest_added x ops ns)
live_rest fl x ops [] l = tt
live_rest fl x ops (n ∷ ns) l = live_rest_if (same x n.txn) fl x ops n ns l (live_rest fl x ops ns l.1)

pub live_undone : {Op : Type 0} (fl : Option Txn) (ns : List (Entry Op)) → Live fl ns → Live fl (undone_records ns)
live_undone fl [] l = tt
live_undone fl (n ∷ ns) l = ((λ h. l.0 (held_undone n.state h)), live_undone fl ns l.1)

live_floor_if : {Op : Type 0} (b : Bool) (f : Txn) (n : Entry Op) (ns : List (Entry Op)) → is_under n.txn f ≡ b → Live (Some f) ns → Live (Some f) (cond b ns (n ∷ ns))
live_floor_if true f n ns e r = r
live_floor_if false f n ns e r = ((λ h. e), r)

live_floor : {Op : Type 0} (f : Txn) (ns : List (Entry Op)) → Live (Some f) (without (λ x. is_under x f) ns)
live_floor f [] = tt
live_floor f (n ∷ ns) = live_floor_if (is_under n.txn f) f n (without (λ x. is_under x f) ns) refl (live_floor f ns)

none_held : (h u : Bool) (r : Bool) → ((h && u) || r) ≡ false → h ≡ true → u ≡ false
none_held true u r e h = or_left u r e
none_held false u r e h = cc

-- nothing that is held goes with a floor that is taken
held_stays : {Op : Type 0} (f : Txn) (ns : List (Entry Op)) → held_under f (bares ns) ≡ false → Gone (λ x. is_under x f) ns
held_stays f [] e = tt
held_stays f (n ∷ ns) e = ((λ h. none_held (is_held n.state) (is_under n.txn f) (held_under f (bares ns)) e h), held_stays f ns (or_right (is_held n.state && is_under n.txn f) (held_under f (bares ns)) e))

module _ {Config Op Subs : Type 0} (g : Ground Config Op Subs) (opening : Config) (p : ℕ) (fl : Option Txn) where
  -- what holds of an element's settled configuration and records, and of all facts
  pub record Folds (settled : Config) (records : List (Entry Op)) (fs : List (Fact Op)) : Type 0 where
    pub settles : settled ≡ folded g.effect opening (completed p fs)
    pub clean : Clean g.effect opening (completed p fs)
    pub works : Clean g.effect settled (held_ops records)
    pub fine : AllOf (Fine g) records
    pub disjoint : Disjoint g records
    pub live : Live fl records
    pub known : (x : Txn) → is_below x fl ≡ false → is_over (state_of x (bares records)) ≡ false → added p x fs ≡ ops_at x records

  state_at : (x y : Txn) (ps : List ℕ) (sc : _) (s : TxnState) (ns : List (Entry Op)) → state_of x (bares (written y ps sc s ns)) ≡ cond (same x y) (Some s) (state_of x (bares ns))
  state_at x y ps sc s ns = ap (state_of x) (bares_written y ps sc s ns) ∙ state_written x y ps sc s (bares ns)

  module _ (law : Lawful g) where
    -- nothing but facts that complete nothing
    pub same_folds : (c : Config) (ns : List (Entry Op)) (new : List protocol.Fact) (fs : List (Fact Op)) → AllOf (λ f. is_quiet f ≡ true) new → Folds c ns fs → Folds c ns (of_protocol new ++ fs)
    same_folds c ns new fs q f = record {
      settles = f.settles ∙ ap (folded g.effect opening) (sym (completed_quiet p new fs q));
      clean = subst (Clean g.effect opening) (sym (completed_quiet p new fs q)) f.clean;
      works = f.works;
      fine = f.fine;
      disjoint = f.disjoint;
      live = f.live;
      known = λ x b o. added_protocol p x new fs ∙ f.known x b o;
    }

    -- x aborts, or is entered as aborted
    pub abort_folds : (x : Txn) (ps : List ℕ) (sc : List Place) (c : Config) (ns : List (Entry Op)) (fs : List (Fact Op)) → Folds c ns fs → Folds c (written x ps sc Aborted ns) fs
    abort_folds x ps sc c ns fs f = record {
      settles = f.settles;
      clean = f.clean;
      works = abort g law x ps sc ns c f.fine f.disjoint f.works;
      fine = fine_written g x ps sc Aborted ns (λ t e h. cc) f.fine;
      disjoint = disjoint_written g x ps sc Aborted ns (λ t e h. cc) (λ e h. cc) f.disjoint;
      live = live_written fl x ps sc Aborted ns (λ h. cc) f.live;
      known = λ y b o. ⊎_elim (λ u. let z : is_over (cond (same y x) (Some Aborted) (state_of y (bares ns))) ≡ false = ap is_over (sym (state_at y x ps sc Aborted ns)) ∙ o in
          never true refl (ap is_over (sym (cond_true (same y x) (Some Aborted) (state_of y (bares ns)) u)) ∙ z))
          (λ u. f.known y b (ap is_over (sym (state_at y x ps sc Aborted ns ∙ cond_false (same y x) (Some Aborted) _ u)) ∙ o) ∙ sym (ops_other y x ps sc Aborted ns u)) (both (same y x));
    }

    -- x is opened, or prepared
    pub held_folds : (x : Txn) (ps : List ℕ) (sc : List Place) (s : TxnState) (c : Config) (ns : List (Entry Op)) (fs : List (Fact Op)) → is_held s ≡ true → Goes s (state_of x (bares ns)) → (state_of x (bares ns) ≡ None → clashes sc (bares ns) ≡ false) → is_below x fl ≡ false
        → Folds c ns fs → Folds c (written x ps sc s ns) fs
    held_folds x ps sc s c ns fs h i m low f = record {
      settles = f.settles;
      clean = f.clean;
      works = subst (Clean g.effect c) (sym (kept_held g law x ps sc s ns h (λ t e. i t e h))) f.works;
      fine = fine_written g x ps sc s ns i f.fine;
      disjoint = disjoint_written g x ps sc s ns i (λ e _. m e) f.disjoint;
      live = live_written fl x ps sc s ns (λ _. low) f.live;
      known = λ y b o. ⊎_elim (λ u. let z : y ≡ x = same_true y x u in
          subst (λ v. added p v fs ≡ ops_at v (written x ps sc s ns)) (sym z) (f.known x low (goes_over s (state_of x (bares ns)) h i) ∙ sym (ops_own x ps sc s ns h)))
          (λ u. f.known y b (ap is_over (sym (state_at y x ps sc s ns ∙ cond_false (same y x) (Some s) _ u)) ∙ o) ∙ sym (ops_other y x ps sc s ns u)) (both (same y x));
    }

    -- x gets a rest
    pub rest_folds : (x : Txn) (ops : List Op) (c : Config) (ns : List (Entry Op)) (fs : List (Fact Op)) → Is x ns Started → AllOf (Lies g (scope_at x ns)) ops → Clean g.effect (folded g.effect c (held_ops ns)) ops
        → Folds c ns fs → Folds c (rest_added x ops ns) (Added_at p x ops ∷ fs)
    rest_folds x ops c ns fs i l k f = record {
      settles = f.settles;
      clean = f.clean;
      works = rest g law x ops ns c l f.fine f.disjoint f.works k;
      fine = fine_rest g x ops ns l f.fine;
      disjoint = disjoint_rest g x ops ns f.disjoint;
      live = live_rest fl x ops ns f.live;
      known = λ y b o. ⊎_elim (λ u. let z : y ≡ x = same_true y x u in
          subst (λ v. added p v (Added_at p x ops ∷ fs) ≡ ops_at v (rest_added x ops ns)) (sym z)
          (cond_true (p == p && same x x) _ _ (own x) ∙ ap (λ v. v ++ ops) (f.known x (live_at fl x ns Started refl i f.live) (ap is_over i)) ∙ sym (ops_rest x ops ns Started i)))
          (λ u. cond_false (p == p && same y x) _ _ (second (p == p) (same y x) u) ∙ f.known y b (ap (λ v. is_over (state_of y v)) (sym (bares_rest x ops ns)) ∙ o) ∙ sym (ops_rest_other y x ops ns u)) (both (same y x));
    }
      where
        own : (y : Txn) → (p == p && same y y) ≡ true
        own y = ap (λ v. v && same y y) (eq-eqb p p refl) ∙ same_self y

        second : (a b : Bool) → b ≡ false → (a && b) ≡ false
        second true b e = e
        second false b e = refl

    -- x completes
    pub complete_folds : (x : Txn) (ps : List ℕ) (sc : List Place) (c : Config) (ns : List (Entry Op)) (fs : List (Fact Op)) → Is x ns Prepared
        → Folds c ns fs → Folds (folded g.effect c (ops_at x ns)) (written x ps sc Completed ns) (Of_protocol (protocol.Settled_at p x Complete) ∷ fs)
    complete_folds x ps sc c ns fs i f =
        let v = complete g law x ps sc ns c i f.fine f.disjoint f.works in
        let all : completed p (Of_protocol (protocol.Settled_at p x Complete) ∷ fs) ≡ completed p fs ++ ops_at x ns =
        cond_true (p == p) _ _ (eq-eqb p p refl) ∙ ap (λ w. completed p fs ++ w) (f.known x (live_at fl x ns Prepared refl i f.live) (ap is_over i)) in
        let at : folded g.effect opening (completed p fs ++ ops_at x ns) ≡ folded g.effect c (ops_at x ns) =
        folded_append g.effect opening (completed p fs) (ops_at x ns) ∙ ap (λ w. folded g.effect w (ops_at x ns)) (sym f.settles) in
        record {
          settles = sym at ∙ ap (folded g.effect opening) (sym all);
          clean = subst (Clean g.effect opening) (sym all) (clean_append g.effect opening (completed p fs) (ops_at x ns) f.clean (subst (λ w. Clean g.effect w (ops_at x ns)) f.settles v.0));
          works = v.1;
          fine = fine_written g x ps sc Completed ns (λ t e h. cc) f.fine;
          disjoint = disjoint_written g x ps sc Completed ns (λ t e h. cc) (λ e h. cc) f.disjoint;
          live = live_written fl x ps sc Completed ns (λ h. cc) f.live;
          known = λ y b o. ⊎_elim (λ u. let z : is_over (cond (same y x) (Some Completed) (state_of y (bares ns))) ≡ false = ap is_over (sym (state_at y x ps sc Completed ns)) ∙ o in
              never true refl (ap is_over (sym (cond_true (same y x) (Some Completed) (state_of y (bares ns)) u)) ∙ z))
              (λ u. f.known y b (ap is_over (sym (state_at y x ps sc Completed ns ∙ cond_false (same y x) (Some Completed) _ u)) ∙ o) ∙ sym (ops_other y x ps sc Completed ns u)) (both (same y x));
        }

    -- a plain change, apart from all that is held
    pub plain_folds : (ops : List Op) (c d : Config) (ns : List (Entry Op)) (fs : List (Fact Op)) → d ≡ folded g.effect c ops → Clean g.effect c ops → Apart g.effect ops (held_ops ns) → Folds c ns fs → Folds d ns (Plain_at p ops ∷ fs)
    plain_folds ops c d ns fs e k a f =
        let all : completed p (Plain_at p ops ∷ fs) ≡ completed p fs ++ ops = cond_true (p == p) _ _ (eq-eqb p p refl) in
        let at : folded g.effect opening (completed p fs ++ ops) ≡ d = folded_append g.effect opening (completed p fs) ops ∙ ap (λ w. folded g.effect w ops) (sym f.settles) ∙ sym e in
        record {
          settles = sym at ∙ ap (folded g.effect opening) (sym all);
          clean = subst (Clean g.effect opening) (sym all) (clean_append g.effect opening (completed p fs) ops f.clean (subst (λ w. Clean g.effect w ops) f.settles k));
          works = subst (λ w. Clean g.effect w (held_ops ns)) (sym e) ((swaps g.effect c ops (held_ops ns) a).after f.works);
          fine = f.fine;
          disjoint = f.disjoint;
          live = f.live;
          known = f.known;
        }

    -- a claim
    pub claim_folds : (e : ℕ) (c : Config) (ns : List (Entry Op)) (fs : List (Fact Op)) → Folds c ns fs → Folds c (undone_records ns) (of_protocol (protocol.Claimed_at p e ∷ undone_facts p (bares ns)) ++ fs)
    claim_folds e c ns fs f =
        let new = protocol.Claimed_at p e ∷ undone_facts p (bares ns) in
        let q : AllOf (λ v. is_quiet v ≡ true) new = (refl, quiet_undone p (bares ns)) in
        same_folds c (undone_records ns) new fs q (record {
          settles = f.settles;
          clean = f.clean;
          works = undo g law ns c f.fine f.disjoint f.works;
          fine = fine_undone g ns f.fine;
          disjoint = disjoint_undone g ns f.disjoint;
          live = live_undone fl ns f.live;
          known = λ x b o. let s : is_over (undone_or (state_of x (bares ns))) ≡ false = ap is_over (sym (ap (state_of x) (bares_undone ns) ∙ state_undone x (bares ns))) ∙ o in
              f.known x b (over_before (state_of x (bares ns)) s) ∙ sym (ops_undone x ns s);
        })
      where
        over_before : (o : Option TxnState) → is_over (undone_or o) ≡ false → is_over o ≡ false
        over_before None h = refl
        over_before (Some Started) h = cc
        over_before (Some Prepared) h = refl
        over_before (Some Completed) h = cc
        over_before (Some Aborted) h = cc

-- a floor is taken: the records below it go
pub floor_folds : {Config Op Subs : Type 0} (g : Ground Config Op Subs) (opening : Config) (p : ℕ) (fl : Option Txn) (f : Txn) (c : Config) (ns : List (Entry Op)) (fs : List (Fact Op)) → is_below f fl ≡ false → held_under f (bares ns) ≡ false
    → Folds g opening p fl c ns fs → Folds g opening p (Some f) c (without (λ x. is_under x f) ns) fs
floor_folds g opening p fl f c ns fs b h k = record {
  settles = k.settles;
  clean = k.clean;
  works = subst (Clean g.effect c) (sym (forget_held (λ x. is_under x f) ns (held_stays f ns h))) k.works;
  fine = forget_fine g (λ x. is_under x f) ns k.fine;
  disjoint = forget_disjoint g (λ x. is_under x f) ns k.disjoint;
  live = live_floor f ns;
  known = λ x u o. k.known x (floor_rises x f fl u b) (ap is_over (sym (forget_state (λ x. is_under x f) x ns u)) ∙ o) ∙ sym (forget_ops (λ x. is_under x f) x ns u);
}
