-- What is seen of events' targets while transactions are held.
use Rattle.std.proofs.Common.{◌≡◌, ℕ, Bool, true, false, cond, List, [], ◌∷◌, ◌++◌, slice_get, Option, Some, None, option_map, refl, sym, ap, ◌∙◌, subst}
use Rattle.std.specs.List.{AllByRecursion}
use Rattle.fc_base.specs.Ids.{Txn}
use Rattle.fc_events.specs.Events.{sight_of}
use Rattle.fc_events.specs.declared.subscriptions.EventPlace.{EventPlace}
use Rattle.fc_exec.proofs.Places.{changed_if}
use Rattle.fc_exec.specs.Operations.{applied}
use Rattle.fc_exec.specs.declared.operations.Operation.{Operation}
use Rattle.fc_machine.specs.ElementState.{Entry, bares, entry, ops_at, ops_of, written}
use Rattle.fc_modes.specs.Modes.{folded, outcome}
use Rattle.fc_modes.specs.declared.mode.Mode.{Mode}
use Rattle.fc_protocol.specs.Messages.{same}
use Rattle.fc_protocol.specs.Records.{is_held, state_of}
use Rattle.fc_protocol.specs.Scopes.{Scope}
use Rattle.fc_protocol.specs.declared.states.TxnState.{TxnState}
use Rattle.fc_protocol.specs.declared.states.TxnState.TheVariants.{Completed}
use Rattle.fc_standing.proofs.Copies.{settled_is}
use Rattle.fc_standing.proofs.Over.{disjoint, each_within, within_get}
use Rattle.fc_standing.proofs.Places.{IsBeside, standing_leaves}
use Rattle.fc_standing.proofs.Standing.{all_outside, lie_in, standing_instances, turned}
use Rattle.fc_standing.specs.Holding.{AreHeld, Holding, IsApart, IsSettled, LieBeside, LieIn, holdings, holdings_by, marking, standing}
use Rattle.fc_store.proofs.Lists.{none_some, some_is}
use Rattle.fc_store.specs.Stores.{IsWhole, Stored, Tree, is_in, over_mark, value_of, without_mark}
use Rattle.fc_lives.proofs.Leaving.{IsElsewhere, folded_frames, folded_leaves, outcome_frames, outcome_leaves}
use Rattle.fc_lives.proofs.Sights.{sight_same}

abbrev pub pair_of : EventPlace → ℕ × ℕ
pair_of p = (p.class, p.instance)

-- beside what is held, as in the settled configuration
pub seen_beside : (c : Stored) (gs : List Holding) (p : EventPlace) → AreHeld gs → IsSettled c → IsWhole c → ((i : ℕ) → slice_get c.instances i ≡ Some (pair_of p) → AllByRecursion (IsBeside (pair_of p)) gs) → sight_of (standing c gs) p ≡ sight_of c p
seen_beside c gs p held bare whole beside =
    sight_same c (standing c gs) p (ap (λ (t : Stored). t.library) (settled_is c gs held bare whole)) (standing_instances c gs)
    (λ i e k. ap (value_of k) (standing_leaves c gs i (pair_of p) (lie_in gs held) e (beside i e)))

-- at an instance at which no operation lies, as before them
pub seen_elsewhere : (mode : Mode) (c : Stored) (ops : List Operation) (p : EventPlace) → AllByRecursion (IsElsewhere (pair_of p)) ops → sight_of (outcome applied mode c ops).state p ≡ sight_of c p
seen_elsewhere mode c ops p a =
    let f = outcome_frames mode c ops in
    sight_same c (outcome applied mode c ops).state p f.library f.instances (λ i e k. ap (value_of k) (outcome_leaves i (pair_of p) mode c ops a e).tree)

pub seen_folded : (c : Stored) (ops : List Operation) (p : EventPlace) → AllByRecursion (IsElsewhere (pair_of p)) ops → sight_of (folded applied c ops) p ≡ sight_of c p
seen_folded c ops p a =
    let f = folded_frames c ops in
    sight_same c (folded applied c ops) p f.library f.instances (λ i e k. ap (value_of k) (folded_leaves i (pair_of p) c ops e a).tree)

-- with a mark less, as with it
value_less : (k : ℕ) (b : Bool) (o : Option Tree) → value_of k (option_map (changed_if without_mark b) o) ≡ value_of k o
value_less k true None = refl
value_less k true (Some t) = refl
value_less k false None = refl
value_less k false (Some t) = refl

pub seen_less : (scope : Scope) (instances : List (ℕ × ℕ)) (s : Stored) (p : EventPlace) → s.instances ≡ instances → sight_of (over_mark without_mark (marking scope instances) s) p ≡ sight_of s p
seen_less scope instances s p is =
    sight_same s (over_mark without_mark (marking scope instances) s) p refl refl (λ i e k.
    ap (λ (ts : List Tree). value_of k (slice_get ts i)) (each_within without_mark scope instances s.trees)
    ∙ ap (value_of k) (within_get without_mark scope instances s.trees i (pair_of p) (is_in scope (pair_of p)) (ap (λ ps. slice_get ps i) (sym is) ∙ e) refl)
    ∙ value_less k (is_in scope (pair_of p)) (slice_get s.trees i))

-- ---- what is held without one that completes
record Cut (ops : List Operation) (gs new : List Holding) : Type 0 where
  before : List Holding
  h : Holding
  more : List Holding
  was : gs ≡ before ++ h ∷ more
  now : new ≡ before ++ more
  ops_are : h.ops ≡ ops

abbrev held_as : Entry Operation → Holding
held_as n = record { scope = n.scope; ops = ops_of n }

behind : (ops : List Operation) (n : Entry Operation) (gs new : List Holding) (b : Bool) → Cut ops gs new → Cut ops (holdings_by b n gs) (holdings_by b n new)
behind ops n gs new true c = record { before = held_as n ∷ c.before; h = c.h; more = c.more; was = ap (λ hs. held_as n ∷ hs) c.was; now = ap (λ hs. held_as n ∷ hs) c.now; ops_are = c.ops_are }
behind ops n gs new false c = c

cut_by : (x : Txn) (s : TxnState) (n : Entry Operation) (ns : List (Entry Operation)) (b : Bool) → cond b (Some n.state) (state_of x (bares ns)) ≡ Some s → is_held s ≡ true
    → (state_of x (bares ns) ≡ Some s → Cut (ops_at x ns) (holdings ns) (holdings (written x [] [] Completed ns)))
    → Cut (cond b (ops_of n) (ops_at x ns)) (holdings (n ∷ ns)) (holdings (cond b (entry n.txn Completed n.participants n.scope n.rests ∷ ns) (n ∷ written x [] [] Completed ns)))
cut_by x s n ns true e k more = record {
  before = [];
  h = held_as n;
  more = holdings ns;
  was = ap (λ b. holdings_by b n (holdings ns)) (ap is_held (some_is n.state s e) ∙ k);
  now = refl;
  ops_are = refl;
}
cut_by x s n ns false e k more = behind (ops_at x ns) n (holdings ns) (holdings (written x [] [] Completed ns)) (is_held n.state) (more e)

cut : (x : Txn) (s : TxnState) (ns : List (Entry Operation)) → state_of x (bares ns) ≡ Some s → is_held s ≡ true → Cut (ops_at x ns) (holdings ns) (holdings (written x [] [] Completed ns))
cut x s [] e k = absurd (none_some s e)
cut x s (n ∷ ns) e k = cut_by x s n ns (same x n.txn) e k (λ f. cut x s ns f k)

apart_less : (h x : Holding) (before more : List Holding) → AllByRecursion (IsApart h) (before ++ x ∷ more) → AllByRecursion (IsApart h) (before ++ more)
apart_less h x [] more a = a.1
apart_less h x (g ∷ before) more a = (a.0, apart_less h x before more a.1)

held_less : (before : List Holding) (x : Holding) (more : List Holding) → AreHeld (before ++ x ∷ more) → AreHeld (before ++ more)
held_less [] x more a = a.1.1
held_less (h ∷ before) x more a = (a.0, (apart_less h x before more a.1.0, held_less before x more a.1.1))

apart_there : (h x : Holding) (before more : List Holding) → AllByRecursion (IsApart h) (before ++ x ∷ more) → IsApart h x
apart_there h x [] more a = a.0
apart_there h x (g ∷ before) more a = apart_there h x before more a.1

lies_there : (before : List Holding) (x : Holding) (more : List Holding) → AreHeld (before ++ x ∷ more) → LieIn x.scope x.ops
lies_there [] x more a = a.0
lies_there (h ∷ before) x more a = lies_there before x more a.1.1

behind_beside : (x : Holding) (more : List Holding) → LieIn x.scope x.ops → AllByRecursion (IsApart x) more → AllByRecursion (LieBeside x.ops) more
behind_beside x [] l a = tt
behind_beside x (g ∷ more) l a = (all_outside x.scope g.scope x.ops (disjoint x.scope g.scope a.0) l, behind_beside x more l a.1)

cut_beside : (before : List Holding) (x : Holding) (more : List Holding) → AreHeld (before ++ x ∷ more) → AllByRecursion (LieBeside x.ops) (before ++ more)
cut_beside [] x more a = behind_beside x more a.0 a.1.0
cut_beside (h ∷ before) x more a =
    (all_outside x.scope h.scope x.ops (turned h.scope x.scope (disjoint h.scope x.scope (apart_there h x before more a.1.0))) (lies_there before x more a.1.1), cut_beside before x more a.1.1)

pub record Completes (x : Txn) (ns : List (Entry Operation)) : Type 0 where
  pub held : AreHeld (holdings (written x [] [] Completed ns))
  pub beside : AllByRecursion (LieBeside (ops_at x ns)) (holdings (written x [] [] Completed ns))

pub completing : (x : Txn) (s : TxnState) (ns : List (Entry Operation)) → AreHeld (holdings ns) → state_of x (bares ns) ≡ Some s → is_held s ≡ true → Completes x ns
completing x s ns a e k =
    let c = cut x s ns e k in
    let h : AreHeld (c.before ++ c.h ∷ c.more) = subst AreHeld c.was a in
    record {
      held = subst AreHeld (sym c.now) (held_less c.before c.h c.more h);
      beside =
          subst (λ hs. AllByRecursion (LieBeside (ops_at x ns)) hs) (sym c.now)
          (subst (λ ops. AllByRecursion (LieBeside ops) (c.before ++ c.more)) c.ops_are (cut_beside c.before c.h c.more h));
    }
