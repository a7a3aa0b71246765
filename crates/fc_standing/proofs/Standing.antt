-- What transactions that are held on a store leave to each other.
use Rattle.std.proofs.Common.{◌≡◌, ℕ, not, Bool, true, false, List, [], ◌∷◌, ◌++◌, map, refl, sym, ap, ◌∙◌}
use Rattle.std.proofs.lemmas.Grind.{fold-append}
use Rattle.std.specs.List.{AllByRecursion}
use Rattle.fc_exec.specs.Operations.{applied, at_marks, coded, is_inside, leaf_made, place_of}
use Rattle.fc_exec.specs.Running.{all_marked}
use Rattle.fc_exec.specs.declared.operations.Operation.{Operation}
use Rattle.fc_exec.specs.declared.operations.Operation.TheVariants as operation
use Rattle.fc_exec.proofs.Applying.{Touched, applied_less, at_marks_stay, back_within, instances_stay, leaf_touched}
use Rattle.fc_exec.proofs.Marking.{all_have, back_one, less_one}
use Rattle.fc_exec.proofs.Places.{within, within_undone}
use Rattle.fc_machine.specs.Ground.{Commute}
use Rattle.fc_modes.specs.Modes.{folded, outcome}
use Rattle.fc_modes.specs.declared.mode.Mode.{Mode}
use Rattle.fc_path.specs.declared.oper.Spot.{Spot}
use Rattle.fc_protocol.specs.Scopes.{Scope}
use Rattle.fc_store.specs.Scopes.{at, each_at}
use Rattle.fc_store.specs.Stores.{Stored, Tree, gone_back, is_in, over_mark, with_component, with_mark, without_mark}
use Rattle.fc_store.specs.declared.spots.Purpose.TheVariants as purpose
use Rattle.fc_store.proofs.Doing.{leads}
use Rattle.std.proofs.Common.{Result, Ok, Err, Option, Some, None}
use Rattle.fc_standing.specs.Holding.{AreHeld, Holding, IsApart, LieBeside, LieIn, held_on, is_outside, marking, standing}
use Rattle.fc_standing.proofs.Along.{Goes, folded_goes, outcome_codes, state_goes}
use Rattle.fc_standing.proofs.Commuting.{commute_across}
use Rattle.fc_standing.proofs.Over.{AreDisjoint, disjoint, each_within, goes_over, over, over_swap, with_trees}

-- ---- instances stay
pub folded_instances : (s : Stored) (ops : List Operation) → (folded applied s ops).instances ≡ s.instances
folded_instances s [] = refl
folded_instances s (op ∷ ops) = folded_instances (applied s op).0 ops ∙ instances_stay s op

pub held_instances : (s : Stored) (h : Holding) → (held_on s h).instances ≡ s.instances
held_instances s h = folded_instances (over with_mark h.scope s) h.ops

pub standing_instances : (s : Stored) (hs : List Holding) → (standing s hs).instances ≡ s.instances
standing_instances s [] = refl
standing_instances s (h ∷ hs) = standing_instances (held_on s h) hs ∙ held_instances s h

-- ---- scopes
inside_outside : (scope other : Scope) (o : Option (ℕ × ℕ)) → AreDisjoint scope other → is_inside scope o ≡ true → is_outside other o ≡ true
inside_outside scope other None n e = refl
inside_outside scope other (Some p) n e = by (is_in other p) (n p e)
  where
    by : (b : Bool) → (b ≡ true → ⊥) → not b ≡ true
    by true f = absurd (f refl)
    by false f = refl

pub all_outside : (scope other : Scope) (ops : List Operation) → AreDisjoint scope other → LieIn scope ops → AllByRecursion (λ op. is_outside other (place_of op) ≡ true) ops
all_outside scope other [] n a = tt
all_outside scope other (op ∷ ops) n a = (inside_outside scope other (place_of op) n a.0, all_outside scope other ops n a.1)

pub turned : (scope other : Scope) → AreDisjoint scope other → AreDisjoint other scope
turned scope other n p e f = n p f e

all_go : (f : Tree → Tree) (scope : Scope) (ops : List Operation) → AllByRecursion (λ op. is_outside scope (place_of op) ≡ true) ops → AllByRecursion (Goes applied (over f scope)) ops
all_go f scope [] a = tt
all_go f scope (op ∷ ops) a = (goes_over f scope op a.0, all_go f scope ops a.1)

-- its operations lie in its own scope
abbrev pub IsWithin : Holding → Type 0
IsWithin h = LieIn h.scope h.ops

-- ---- a change of the trees of a scope, and a transaction of another one
over_held : (f : Tree → Tree) (scope : Scope) (s : Stored) (h : Holding) → AreDisjoint h.scope scope → LieIn h.scope h.ops → over f scope (held_on s h) ≡ held_on (over f scope s) h
over_held f scope s h n a =
    sym (ap (λ t. folded applied t h.ops) (over_swap with_mark f h.scope scope s n)
    ∙ folded_goes applied (over f scope) h.ops (all_go f scope h.ops (all_outside h.scope scope h.ops n a)) (over with_mark h.scope s))

abbrev pub AreBeside : Scope → Holding → Type 0
AreBeside scope h = AreDisjoint h.scope scope × LieIn h.scope h.ops

pub over_standing : (f : Tree → Tree) (scope : Scope) (s : Stored) (hs : List Holding) → AllByRecursion (AreBeside scope) hs → over f scope (standing s hs) ≡ standing (over f scope s) hs
over_standing f scope s [] a = refl
over_standing f scope s (h ∷ hs) a = over_standing f scope (held_on s h) hs a.1 ∙ ap (λ t. standing t hs) (over_held f scope s h a.0.0 a.0.1)

-- ---- an operation outside the scope of a transaction
fold_swap : (scope : Scope) (op : Operation) (gs : List Operation) → is_outside scope (place_of op) ≡ true → LieIn scope gs → Goes applied (λ s. folded applied s gs) op
fold_swap scope op [] e a s = refl
fold_swap scope op (g ∷ gs) e a s =
    let m : Commute applied g op = commute_across scope g op a.0 e in
    fold_swap scope op gs e a.1 (applied s g).0 ∙ λ i. (folded applied (m.state s i) gs, m.code s i)

goes_held : (h : Holding) (op : Operation) → LieIn h.scope h.ops → is_outside h.scope (place_of op) ≡ true → Goes applied (λ s. held_on s h) op
goes_held h op a e s =
    fold_swap h.scope op h.ops e a (over with_mark h.scope s) ∙ ap (λ (x : Stored × ℕ). (folded applied x.0 h.ops, x.1)) (goes_over with_mark h.scope op e s)

abbrev IsFree : Operation → Holding → Type 0
IsFree op h = (is_outside h.scope (place_of op) ≡ true) × LieIn h.scope h.ops

goes_standing : (hs : List Holding) (op : Operation) → AllByRecursion (IsFree op) hs → Goes applied (λ s. standing s hs) op
goes_standing [] op a s = refl
goes_standing (h ∷ hs) op a s =
    goes_standing hs op a.1 (held_on s h) ∙ ap (λ (x : Stored × ℕ). (standing x.0 hs, x.1)) (goes_held h op a.0.1 a.0.0 s)

pub each_goes : (hs : List Holding) (ops : List Operation) → AllByRecursion (λ op. AllByRecursion (IsFree op) hs) ops → AllByRecursion (Goes applied (λ s. standing s hs)) ops
each_goes hs [] a = tt
each_goes hs (op ∷ ops) a = (goes_standing hs op a.0, each_goes hs ops a.1)

-- ---- one transaction alone
abbrev undoes : (Tree → Tree) → Type 0
undoes f = (t : Tree) → f (with_mark t) ≡ t

set_undone : (f : Tree → Tree) → undoes f → (scope : Scope) (s : Stored) → over f scope (over with_mark scope s) ≡ s
set_undone f e scope s =
    with_trees s (each_at f (marking scope s.instances) (each_at with_mark (marking scope s.instances) s.trees)) s.trees
    (each_within f scope s.instances (each_at with_mark (marking scope s.instances) s.trees) ∙ ap (within f scope s.instances) (each_within with_mark scope s.instances s.trees)
    ∙ within_undone with_mark f e scope s.instances s.trees)

abbrev has_marks : Scope → Stored → Bool
has_marks scope s = all_marked scope s.instances (at_marks s)

set_has : (scope : Scope) (s : Stored) → has_marks scope (over with_mark scope s) ≡ true
set_has scope s = ap (λ ts. all_marked scope s.instances (map (λ (t : Tree). t.held) ts)) (each_within with_mark scope s.instances s.trees) ∙ all_have scope s.instances s.trees

still_has : (scope : Scope) (s : Stored) (op : Operation) → has_marks scope (applied s op).0 ≡ has_marks scope s
still_has scope s op = ap (λ ps. all_marked scope ps (at_marks (applied s op).0)) (instances_stay s op) ∙ ap (all_marked scope s.instances) (at_marks_stay s op)

back_touched : (scope : Scope) (spot : Spot) (s t : Stored) → Touched spot s t → is_in scope (spot.class, spot.instance) ≡ true → has_marks scope s ≡ true → over gone_back scope t ≡ over gone_back scope s
back_touched scope spot s t m e a =
    let l = leads purpose.Write s.library s.instances spot.class spot.instance spot.steps m.place m.leads in
    let b : is_in scope l.0 ≡ is_in scope (spot.class, spot.instance) = λ i. is_in scope (l.2.0 i, l.2.1 i) in
    let us : each_at gone_back (marking scope s.instances) (at (with_component m.place.1 m.v) m.place.0 s.trees) ≡ each_at gone_back (marking scope s.instances) s.trees =
    each_within gone_back scope s.instances (at (with_component m.place.1 m.v) m.place.0 s.trees)
    ∙ back_within scope s.instances s.trees m.place.0 m.place.1 m.v l.0 l.1 (b ∙ e) a ∙ sym (each_within gone_back scope s.instances s.trees) in
    ap (over gone_back scope) m.is ∙ with_trees s (each_at gone_back (marking scope s.instances) (at (with_component m.place.1 m.v) m.place.0 s.trees)) (each_at gone_back (marking scope s.instances) s.trees) us

back_coded : (scope : Scope) (spot : Spot) (s : Stored) (r : Result Stored ℕ) → ((t : Stored) → r ≡ Ok t → Touched spot s t) → is_in scope (spot.class, spot.instance) ≡ true → has_marks scope s ≡ true
    → over gone_back scope (coded s r).0 ≡ over gone_back scope s
back_coded scope spot s (Ok t) m e a = back_touched scope spot s t (m t refl) e a
back_coded scope spot s (Err code) m e a = refl

-- an operation inside the scope changes nothing that its marks give back
back_stays : (scope : Scope) (s : Stored) (op : Operation) → is_inside scope (place_of op) ≡ true → has_marks scope s ≡ true → over gone_back scope (applied s op).0 ≡ over gone_back scope s
back_stays scope s (operation.Leaf l) e a = back_coded scope l.spot s (leaf_made l.kind l.spot l.body s) (λ t g. leaf_touched l.kind l.spot l.body s t g) e a
back_stays scope s operation.Commit e a = refl
back_stays scope s operation.Trcomp e a = refl

all_back : (scope : Scope) (s : Stored) (ops : List Operation) → LieIn scope ops → has_marks scope s ≡ true → over gone_back scope (folded applied s ops) ≡ over gone_back scope s
all_back scope s [] a m = refl
all_back scope s (op ∷ ops) a m = all_back scope (applied s op).0 ops a.1 (still_has scope s op ∙ m) ∙ back_stays scope s op a.0 m

-- going back leaves nothing of it
pub held_undone : (s : Stored) (h : Holding) → LieIn h.scope h.ops → over gone_back h.scope (held_on s h) ≡ s
held_undone s h a = all_back h.scope (over with_mark h.scope s) h.ops a (set_has h.scope s) ∙ set_undone gone_back back_one h.scope s

less_goes : (mark : List (ℕ × ℕ)) (ops : List Operation) → AllByRecursion (Goes applied (over_mark without_mark mark)) ops
less_goes mark [] = tt
less_goes mark (op ∷ ops) = (λ s. applied_less op mark s, less_goes mark ops)

-- without its mark its operations are left
pub held_completed : (s : Stored) (h : Holding) → over without_mark h.scope (held_on s h) ≡ folded applied s h.ops
held_completed s h =
    ap (λ ps. over_mark without_mark (marking h.scope ps) (held_on s h)) (held_instances s h)
    ∙ sym (folded_goes applied (over_mark without_mark (marking h.scope s.instances)) h.ops (less_goes (marking h.scope s.instances) h.ops) (over with_mark h.scope s))
    ∙ ap (λ t. folded applied t h.ops) (set_undone without_mark less_one h.scope s)

-- ---- transactions that may be held together
record Parts (before : List Holding) (x : Holding) (more : List Holding) : Type 0 where
  inside : LieIn x.scope x.ops
  before_x : AllByRecursion (AreBeside x.scope) before
  behind_x : AllByRecursion (AreBeside x.scope) more

among : (h x : Holding) (before more : List Holding) → AllByRecursion (IsApart h) (before ++ x ∷ more) → IsApart h x
among h x [] more a = a.0
among h x (g ∷ before) more a = among h x before more a.1

behind : (x : Holding) (more : List Holding) → AllByRecursion (IsApart x) more → AreHeld more → AllByRecursion (AreBeside x.scope) more
behind x [] a b = tt
behind x (h ∷ more) a b = ((turned x.scope h.scope (disjoint x.scope h.scope a.0), b.0), behind x more a.1 b.1.1)

parts : (before : List Holding) (x : Holding) (more : List Holding) → AreHeld (before ++ x ∷ more) → Parts before x more
parts [] x more a = record { inside = a.0; before_x = tt; behind_x = behind x more a.1.0 a.1.1 }
parts (h ∷ before) x more a =
    let p = parts before x more a.1.1 in
    record { inside = p.inside; before_x = ((disjoint h.scope x.scope (among h x before more a.1.0), a.0), p.before_x); behind_x = p.behind_x }

pub lie_in : (hs : List Holding) → AreHeld hs → AllByRecursion IsWithin hs
lie_in [] a = tt
lie_in (h ∷ hs) a = (a.0, lie_in hs a.1.1)

free_of : (scope : Scope) (op : Operation) (hs : List Holding) → is_inside scope (place_of op) ≡ true → AllByRecursion (AreBeside scope) hs → AllByRecursion (IsFree op) hs
free_of scope op [] e a = tt
free_of scope op (h ∷ hs) e a = ((inside_outside scope h.scope (place_of op) (turned h.scope scope a.0.0) e, a.0.1), free_of scope op hs e a.1)

all_free : (scope : Scope) (ops : List Operation) (hs : List Holding) → LieIn scope ops → AllByRecursion (AreBeside scope) hs → AllByRecursion (λ op. AllByRecursion (IsFree op) hs) ops
all_free scope [] hs e a = tt
all_free scope (op ∷ ops) hs e a = (free_of scope op hs e.0 a, all_free scope ops hs e.1 a)

-- ---- the laws
splits : (c : Stored) (before more : List Holding) (x : Holding) → standing c (before ++ x ∷ more) ≡ standing (held_on (standing c before) x) more
splits c before more x = fold-append held_on c before (x ∷ more)

joins : (c : Stored) (before more : List Holding) → standing (standing c before) more ≡ standing c (before ++ more)
joins c before more = sym (fold-append held_on c before more)

pub marked_is : (c : Stored) (hs : List Holding) (scope : Scope) → over_mark with_mark (marking scope c.instances) (standing c hs) ≡ standing c (hs ++ record { scope = scope; ops = [] } ∷ [])
marked_is c hs scope =
    ap (λ ps. over_mark with_mark (marking scope ps) (standing c hs)) (sym (standing_instances c hs)) ∙ sym (splits c hs [] (record { scope = scope; ops = [] }))

pub added_is : (c : Stored) (hs more : List Holding) (x : Holding) (ops : List Operation) → AreHeld (hs ++ x ∷ more) → LieIn x.scope ops
    → folded applied (standing c (hs ++ x ∷ more)) ops ≡ standing c (hs ++ record { scope = x.scope; ops = x.ops ++ ops } ∷ more)
added_is c hs more x ops a e =
    let p = parts hs x more a in
    let y : Holding = record { scope = x.scope; ops = x.ops ++ ops } in
    ap (λ t. folded applied t ops) (splits c hs more x)
    ∙ folded_goes applied (λ t. standing t more) ops (each_goes more ops (all_free x.scope ops more e p.behind_x)) (held_on (standing c hs) x)
    ∙ ap (λ t. standing t more) (sym (fold-append (λ s op. (applied s op).0) (over with_mark x.scope (standing c hs)) x.ops ops)) ∙ sym (splits c hs more y)

of_all : (f : Tree → Tree) (c s : Stored) (scope : Scope) → s.instances ≡ c.instances → over_mark f (marking scope c.instances) s ≡ over f scope s
of_all f c s scope e = ap (λ ps. over_mark f (marking scope ps) s) (sym e)

pub undone_is : (c : Stored) (hs more : List Holding) (x : Holding) → AreHeld (hs ++ x ∷ more) → over_mark gone_back (marking x.scope c.instances) (standing c (hs ++ x ∷ more)) ≡ standing c (hs ++ more)
undone_is c hs more x a =
    let p = parts hs x more a in
    of_all gone_back c (standing c (hs ++ x ∷ more)) x.scope (standing_instances c (hs ++ x ∷ more)) ∙ ap (over gone_back x.scope) (splits c hs more x)
    ∙ over_standing gone_back x.scope (held_on (standing c hs) x) more p.behind_x ∙ ap (λ t. standing t more) (held_undone (standing c hs) x p.inside) ∙ joins c hs more

pub completed_is : (c : Stored) (hs more : List Holding) (x : Holding) → AreHeld (hs ++ x ∷ more)
    → over_mark without_mark (marking x.scope c.instances) (standing c (hs ++ x ∷ more)) ≡ standing (folded applied c x.ops) (hs ++ more)
completed_is c hs more x a =
    let p = parts hs x more a in
    of_all without_mark c (standing c (hs ++ x ∷ more)) x.scope (standing_instances c (hs ++ x ∷ more)) ∙ ap (over without_mark x.scope) (splits c hs more x)
    ∙ over_standing without_mark x.scope (held_on (standing c hs) x) more p.behind_x ∙ ap (λ t. standing t more) (held_completed (standing c hs) x)
    ∙ ap (λ t. standing t more) (folded_goes applied (λ t. standing t hs) x.ops (each_goes hs x.ops (all_free x.scope x.ops hs p.inside p.before_x)) c)
    ∙ joins (folded applied c x.ops) hs more

beside_free : (op : Operation) (ops : List Operation) (hs : List Holding) → AllByRecursion IsWithin hs → AllByRecursion (LieBeside (op ∷ ops)) hs → AllByRecursion (IsFree op) hs
beside_free op ops [] a b = tt
beside_free op ops (h ∷ hs) a b = ((b.0.0, a.0), beside_free op ops hs a.1 b.1)

beside_rest : (op : Operation) (ops : List Operation) (hs : List Holding) → AllByRecursion (LieBeside (op ∷ ops)) hs → AllByRecursion (LieBeside ops) hs
beside_rest op ops [] b = tt
beside_rest op ops (h ∷ hs) b = (b.0.1, beside_rest op ops hs b.1)

all_beside : (ops : List Operation) (hs : List Holding) → AllByRecursion IsWithin hs → AllByRecursion (LieBeside ops) hs → AllByRecursion (λ op. AllByRecursion (IsFree op) hs) ops
all_beside [] hs a b = tt
all_beside (op ∷ ops) hs a b = (beside_free op ops hs a b, all_beside ops hs a (beside_rest op ops hs b))

pub beside_state : (mode : Mode) (c : Stored) (hs : List Holding) (ops : List Operation) → AreHeld hs → AllByRecursion (LieBeside ops) hs
    → (outcome applied mode (standing c hs) ops).state ≡ standing (outcome applied mode c ops).state hs
beside_state mode c hs ops a b = state_goes applied (λ t. standing t hs) mode ops (each_goes hs ops (all_beside ops hs (lie_in hs a) b)) c

pub beside_codes : (mode : Mode) (c : Stored) (hs : List Holding) (ops : List Operation) → AreHeld hs → AllByRecursion (LieBeside ops) hs → (outcome applied mode (standing c hs) ops).codes ≡ (outcome applied mode c ops).codes
beside_codes mode c hs ops a b = outcome_codes applied (λ t. standing t hs) mode ops (each_goes hs ops (all_beside ops hs (lie_in hs a) b)) c
