-- What stands at the place of a name is what has the name, and what is changed there is changed under the name.
use Rattle.std.proofs.Common.{◌≡◌, ◌<◌, ◌≤◌, ℕ, zero, suc, Bool, true, false, if◌then◌else◌, List, [], ◌∷◌, length, map, slice_get, slice_index_or, slice_set, Option, Some, None, option_map, Result, Ok, Err, IfOk, OnErr, OnOk, refl, sym, ap, ◌∙◌, subst, arith}
use Rattle.fc_base.specs.declared.faults.Memory.{Memory}
use Rattle.fc_element.specs.ElementMachine.{step}
use Rattle.fc_element.specs.ElementState.{ElementState, restarted}
use Rattle.fc_element.specs.declared.input.ElIn.{ElIn}
use Rattle.fc_world.specs.Answering.{AnswersAmong, AnswersAt, AnswersIn, AnswersNth, AnswersOne, started_by, started_in}
use Rattle.fc_world.specs.Lookups.{changed_at, controller_in, controller_place, element_in, is_controller, is_node, node_place, node_with, with_controller, with_element}
use Rattle.fc_world.specs.Stages.{standing_of}
use Rattle.fc_world.specs.Turns.{outs_in, outs_of, restarted_by, restarted_in, restarted_node, turned_by, turned_in, turned_node}
use Rattle.fc_world.specs.Worlds.{Ruling, Standing}
use Rattle.fc_world.specs.WorldSteps.{running_in, started, with_ruling, with_running}
use Rattle.fc_world.specs.declared.controllers.Controller.{Controller}
use Rattle.fc_world.specs.declared.lives.Answer.{Answer}
use Rattle.fc_world.specs.declared.lives.Request.{Request}
use Rattle.fc_world.specs.declared.nodes.Node.{Node}

some_is : {A : Type 0} (x y : A) → Some x ≡ Some y → x ≡ y
some_is x y e = cc

-- ---- what a call says of its answer, put otherwise
pub if_is : {A : Type 0} (r : Result A Memory) (x y : A) → IfOk r (λ a. a ≡ x) → x ≡ y → IfOk r (λ a. a ≡ y)
if_is (Ok a) x y e f = e ∙ f
if_is (Err memory) x y e f = tt

pub if_then : {A : Type 0} (P Q : A → Type 0) (r : Result A Memory) → ((a : A) → P a → Q a) → IfOk r P → IfOk r Q
if_then P Q (Ok a) more h = more a h
if_then P Q (Err memory) more h = tt

pub on_is : {A L : Type 0} (r : Result A Memory) (now one other : L) → OnOk r (now ≡ one) → one ≡ other → OnOk r (now ≡ other)
on_is (Ok x) now one other e f = e ∙ f
on_is (Err memory) now one other e f = tt

pub on_then : {A : Type 0} (P Q : Type 0) (r : Result A Memory) → (P → Q) → OnOk r P → OnOk r Q
on_then P Q (Ok x) more h = more h
on_then P Q (Err memory) more h = tt

pub or_same : {A : Type 0} (P Q : Type 0) (r : Result A Memory) → (P → Q) → OnErr r P → OnErr r Q
or_same P Q (Ok x) more h = tt
or_same P Q (Err memory) more h = more h

-- ---- what is found, changed and put back
abbrev pub by_found : {A B L : Type 0} → (A → B) → Option A → (B → L) → L → L
by_found h None put as_it_was = as_it_was
by_found h (Some x) put as_it_was = put (h x)

cons_found : {A B X : Type 0} (h : A → B) (x : X) (o : Option A) (put : B → List X) (xs : List X) → x ∷ by_found h o put xs ≡ by_found h o (λ b. x ∷ put b) (x ∷ xs)
cons_found h x None put xs = refl
cons_found h x (Some y) put xs = refl

-- ---- elements
abbrev element_of : Node → ElementState
element_of n = n.element

abbrev pub changed : (ElementState → ElementState) → Node → Node
changed h n = node_with (h n.element) n

node_found_by : (n : Node) (ns : List Node) (i : ℕ) (b : Bool) (o : Option ℕ) (x : Option ElementState) → ((j : ℕ) → o ≡ Some j → option_map element_of (slice_get ns j) ≡ x)
    → (if b then Some 0 else option_map suc o) ≡ Some i → option_map element_of (slice_get (n ∷ ns) i) ≡ (if b then Some n.element else x)
node_found_by n ns i true o x more e = ap (λ j. option_map element_of (slice_get (n ∷ ns) j)) (sym (some_is 0 i e))
node_found_by n ns i false None x more e = absurd cc
node_found_by n ns i false (Some j) x more e = ap (λ k. option_map element_of (slice_get (n ∷ ns) k)) (sym (some_is (suc j) i e)) ∙ more j refl

node_found : (f : ℕ) (ns : List Node) (i : ℕ) → node_place f ns ≡ Some i → option_map element_of (slice_get ns i) ≡ element_in f ns
node_found f [] i e = absurd cc
node_found f (n ∷ ns) i e = node_found_by n ns i (is_node f n) (node_place f ns) (element_in f ns) (λ j g. node_found f ns j g) e

node_changed_by : (h : ElementState → ElementState) (n : Node) (ns : List Node) (i : ℕ) (b : Bool) (o : Option ℕ) (x : Option ElementState) (put : ElementState → List Node)
    → ((j : ℕ) → o ≡ Some j → changed_at (changed h) j ns ≡ by_found h x put ns) → (if b then Some 0 else option_map suc o) ≡ Some i
    → changed_at (changed h) i (n ∷ ns) ≡ by_found h (if b then Some n.element else x) (λ e. if b then node_with e n ∷ ns else n ∷ put e) (n ∷ ns)
node_changed_by h n ns i true o x put more e = ap (λ j. changed_at (changed h) j (n ∷ ns)) (sym (some_is 0 i e))
node_changed_by h n ns i false None x put more e = absurd cc
node_changed_by h n ns i false (Some j) x put more e =
    ap (λ k. changed_at (changed h) k (n ∷ ns)) (sym (some_is (suc j) i e)) ∙ ap (λ l. n ∷ l) (more j refl) ∙ cons_found h n x put ns

node_changed : (h : ElementState → ElementState) (f : ℕ) (ns : List Node) (i : ℕ) → node_place f ns ≡ Some i → changed_at (changed h) i ns ≡ by_found h (element_in f ns) (λ e. with_element f e ns) ns
node_changed h f [] i e = absurd cc
node_changed h f (n ∷ ns) i e = node_changed_by h n ns i (is_node f n) (node_place f ns) (element_in f ns) (λ x. with_element f x ns) (λ j g. node_changed h f ns j g) e

node_missed_by : (n : Node) (b : Bool) (o : Option ℕ) (x : Option ElementState) → (o ≡ None → x ≡ None) → (if b then Some 0 else option_map suc o) ≡ None → (if b then Some n.element else x) ≡ None
node_missed_by n true o x more e = absurd cc
node_missed_by n false None x more e = more refl
node_missed_by n false (Some j) x more e = absurd cc

pub node_missed : (f : ℕ) (ns : List Node) → node_place f ns ≡ None → element_in f ns ≡ None
node_missed f [] e = refl
node_missed f (n ∷ ns) e = node_missed_by n (is_node f n) (node_place f ns) (element_in f ns) (node_missed f ns) e

outs_are : (i : ElIn) (o : Option Node) → option_map (λ (n : Node). (step n.element i).outs) o ≡ option_map (outs_of i) (option_map element_of o)
outs_are i None = refl
outs_are i (Some n) = refl

pub outs_there : (f at : ℕ) (i : ElIn) (ns : List Node) → node_place f ns ≡ Some at → option_map (λ (n : Node). (step n.element i).outs) (slice_get ns at) ≡ outs_in f i ns
outs_there f at i ns e = outs_are i (slice_get ns at) ∙ ap (option_map (outs_of i)) (node_found f ns at e)

same_turned : (f : ℕ) (i : ElIn) (ns : List Node) (o : Option ElementState) → by_found (λ x. (step x i).state) o (λ x. with_element f x ns) ns ≡ turned_by o f i ns
same_turned f i ns None = refl
same_turned f i ns (Some x) = refl

pub turned_there : (f at : ℕ) (i : ElIn) (ns : List Node) → node_place f ns ≡ Some at → changed_at (turned_node i) at ns ≡ turned_in f i ns
turned_there f at i ns e = node_changed (λ x. (step x i).state) f ns at e ∙ same_turned f i ns (element_in f ns)

pub turned_nowhere : (f : ℕ) (i : ElIn) (ns : List Node) → node_place f ns ≡ None → ns ≡ turned_in f i ns
turned_nowhere f i ns e = ap (λ o. turned_by o f i ns) (sym (node_missed f ns e))

pub outs_nowhere : (f : ℕ) (i : ElIn) (ns : List Node) → node_place f ns ≡ None → None ≡ outs_in f i ns
outs_nowhere f i ns e = ap (option_map (outs_of i)) (sym (node_missed f ns e))

same_restarted : (f : ℕ) (ns : List Node) (o : Option ElementState) → by_found restarted o (λ x. with_element f x ns) ns ≡ restarted_by o f ns
same_restarted f ns None = refl
same_restarted f ns (Some x) = refl

pub restarted_there : (f at : ℕ) (ns : List Node) → node_place f ns ≡ Some at → changed_at restarted_node at ns ≡ restarted_in f ns
restarted_there f at ns e = node_changed restarted f ns at e ∙ same_restarted f ns (element_in f ns)

pub restarted_nowhere : (f : ℕ) (ns : List Node) → node_place f ns ≡ None → ns ≡ restarted_in f ns
restarted_nowhere f ns e = ap (λ o. restarted_by o f ns) (sym (node_missed f ns e))

-- ---- control elements
controller_found_by : (s : Standing) (ss : List Standing) (i : ℕ) (b : Bool) (o : Option ℕ) (x : Option Standing) → ((j : ℕ) → o ≡ Some j → slice_get ss j ≡ x)
    → (if b then Some 0 else option_map suc o) ≡ Some i → slice_get (s ∷ ss) i ≡ (if b then Some s else x)
controller_found_by s ss i true o x more e = ap (slice_get (s ∷ ss)) (sym (some_is 0 i e))
controller_found_by s ss i false None x more e = absurd cc
controller_found_by s ss i false (Some j) x more e = ap (slice_get (s ∷ ss)) (sym (some_is (suc j) i e)) ∙ more j refl

controller_found : (c : ℕ) (ss : List Standing) (i : ℕ) → controller_place c ss ≡ Some i → slice_get ss i ≡ controller_in c ss
controller_found c [] i e = absurd cc
controller_found c (s ∷ ss) i e = controller_found_by s ss i (is_controller c s) (controller_place c ss) (controller_in c ss) (λ j g. controller_found c ss j g) e

controller_changed_by : (h : Standing → Standing) (s : Standing) (ss : List Standing) (i : ℕ) (b : Bool) (o : Option ℕ) (x : Option Standing) (put : Standing → List Standing)
    → ((j : ℕ) → o ≡ Some j → changed_at h j ss ≡ by_found h x put ss) → (if b then Some 0 else option_map suc o) ≡ Some i
    → changed_at h i (s ∷ ss) ≡ by_found h (if b then Some s else x) (λ t. if b then t ∷ ss else s ∷ put t) (s ∷ ss)
controller_changed_by h s ss i true o x put more e = ap (λ j. changed_at h j (s ∷ ss)) (sym (some_is 0 i e))
controller_changed_by h s ss i false None x put more e = absurd cc
controller_changed_by h s ss i false (Some j) x put more e =
    ap (λ k. changed_at h k (s ∷ ss)) (sym (some_is (suc j) i e)) ∙ ap (λ l. s ∷ l) (more j refl) ∙ cons_found h s x put ss

controller_changed : (h : Standing → Standing) (c : ℕ) (ss : List Standing) (i : ℕ) → controller_place c ss ≡ Some i → changed_at h i ss ≡ by_found h (controller_in c ss) (λ t. with_controller c t ss) ss
controller_changed h c [] i e = absurd cc
controller_changed h c (s ∷ ss) i e = controller_changed_by h s ss i (is_controller c s) (controller_place c ss) (controller_in c ss) (λ t. with_controller c t ss) (λ j g. controller_changed h c ss j g) e

controller_missed_by : (s : Standing) (b : Bool) (o : Option ℕ) (x : Option Standing) → (o ≡ None → x ≡ None) → (if b then Some 0 else option_map suc o) ≡ None → (if b then Some s else x) ≡ None
controller_missed_by s true o x more e = absurd cc
controller_missed_by s false None x more e = more refl
controller_missed_by s false (Some j) x more e = absurd cc

pub controller_missed : (c : ℕ) (ss : List Standing) → controller_place c ss ≡ None → controller_in c ss ≡ None
controller_missed c [] e = refl
controller_missed c (s ∷ ss) e = controller_missed_by s (is_controller c s) (controller_place c ss) (controller_in c ss) (controller_missed c ss) e

same_started : (c : ℕ) (ids : List ℕ) (round : ℕ) (ss : List Standing) (o : Option Standing) → by_found (started ids round) o (λ t. with_controller c t ss) ss ≡ started_by o c ids round ss
same_started c ids round ss None = refl
same_started c ids round ss (Some s) = refl

pub started_there : (c at : ℕ) (ids : List ℕ) (round : ℕ) (ss : List Standing) → controller_place c ss ≡ Some at → changed_at (started ids round) at ss ≡ started_in c ids round ss
started_there c at ids round ss e = controller_changed (started ids round) c ss at e ∙ same_started c ids round ss (controller_in c ss)

pub started_nowhere : (c : ℕ) (ids : List ℕ) (round : ℕ) (ss : List Standing) → controller_place c ss ≡ None → ss ≡ started_in c ids round ss
started_nowhere c ids round ss e = ap (λ o. started_by o c ids round ss) (sym (controller_missed c ss e))

same_running : (c : ℕ) (r : Option Ruling) (ss : List Standing) (o : Option Standing) → by_found (with_running r) o (λ t. with_controller c t ss) ss ≡ running_in o c r ss
same_running c r ss None = refl
same_running c r ss (Some s) = refl

pub running_there : (c at : ℕ) (r : Option Ruling) (ss : List Standing) → controller_place c ss ≡ Some at → changed_at (with_running r) at ss ≡ with_ruling c r ss
running_there c at r ss e = controller_changed (with_running r) c ss at e ∙ same_running c r ss (controller_in c ss)

pub running_nowhere : (c : ℕ) (r : Option Ruling) (ss : List Standing) → controller_place c ss ≡ None → ss ≡ with_ruling c r ss
running_nowhere c r ss e = ap (λ o. running_in o c r ss) (sym (controller_missed c ss e))

-- ---- what is asked of a control element at its place
answers_by : (c : ℕ) (q : Request) (i : ℕ) (o : Option Standing) (old : List Standing) (a : Option Answer) (new : List Standing)
    → ((h : Standing → Standing) → changed_at h i old ≡ by_found h o (λ t. with_controller c t old) old) → AnswersNth q o i old a new → AnswersAmong c q o old a new
answers_by c q i None old None new is h = h
answers_by c q i None old (Some a) new is h = h
answers_by c q i (Some s) old a new is h = (h.0, h.1 c, h.2 ∙ is (with_running h.0))

pub answers_there : (c at : ℕ) (q : Request) (old : List Standing) (a : Option Answer) (new : List Standing) → controller_place c old ≡ Some at → AnswersAt at q old a new → AnswersIn c q old a new
answers_there c at q old a new e h =
    answers_by c q at (controller_in c old) old a new (λ h. controller_changed h c old at e) (subst (λ o. AnswersNth q o at old a new) (controller_found c old at e) h)

pub answers_nowhere : (c : ℕ) (q : Request) (old : List Standing) → controller_place c old ≡ None → AnswersIn c q old None old
answers_nowhere c q old e = subst (λ o. AnswersAmong c q o old None old) (sym (controller_missed c old e)) refl

-- ---- one of several control elements is changed where it stands
pub seen_at : (xs : List Controller) (i : ℕ) → slice_get (map standing_of xs) i ≡ option_map standing_of (slice_get xs i)
seen_at [] i = refl
seen_at (x ∷ xs) zero = refl
seen_at (x ∷ xs) (suc i) = seen_at xs i

pub set_at : (h : Standing → Standing) (xs : List Controller) (i : ℕ) (x y : Controller) → slice_get xs i ≡ Some x → standing_of y ≡ h (standing_of x) → map standing_of (slice_set xs i y) ≡ changed_at h i (map standing_of xs)
set_at h [] i x y e f = absurd cc
set_at h (z ∷ xs) zero x y e f = ap (λ t. t ∷ map standing_of xs) (f ∙ ap (λ w. h (standing_of w)) (sym (some_is z x e)))
set_at h (z ∷ xs) (suc i) x y e f = ap (λ l. standing_of z ∷ l) (set_at h xs i x y e f)

pub set_same : (xs : List Controller) (i : ℕ) (x y : Controller) → slice_get xs i ≡ Some x → standing_of y ≡ standing_of x → map standing_of (slice_set xs i y) ≡ map standing_of xs
set_same [] i x y e f = absurd cc
set_same (z ∷ xs) zero x y e f = ap (λ t. t ∷ map standing_of xs) (f ∙ ap standing_of (sym (some_is z x e)))
set_same (z ∷ xs) (suc i) x y e f = ap (λ l. standing_of z ∷ l) (set_same xs i x y e f)

pub standing_is : (s t : Standing) → s.ce ≡ t.ce → s.used ≡ t.used → s ≡ with_running s.running t
standing_is s t ce used =
    ap (λ n. record { ce = n; used = s.used; running = s.running }) ce ∙ ap (λ l. record { ce = t.ce; used = l; running = s.running }) used

pub answers_set : (q : Request) (xs : List Controller) (i : ℕ) (x y : Controller) (a : Option Answer) → slice_get xs i ≡ Some x → ((k : ℕ) → AnswersOne k q (standing_of x) a (standing_of y))
    → AnswersAt i q (map standing_of xs) a (map standing_of (slice_set xs i y))
answers_set q xs i x y a e h =
    let same = standing_is (standing_of y) (standing_of x) (h 0).0 (h 0).1 in
    subst (λ o. AnswersNth q o i (map standing_of xs) a (map standing_of (slice_set xs i y))) (sym (seen_at xs i ∙ ap (option_map standing_of) e))
    ((standing_of y).running, (λ k. (h k).2), set_at (with_running (standing_of y).running) xs i x y e same)

pub answers_off : (q : Request) (xs : List Controller) (i : ℕ) → slice_get xs i ≡ None → AnswersAt i q (map standing_of xs) None (map standing_of xs)
answers_off q xs i e = subst (λ o. AnswersNth q o i (map standing_of xs) None (map standing_of xs)) (sym (seen_at xs i ∙ ap (option_map standing_of) e)) refl

-- ---- one of several things is changed where it stands
pub put_at : {A : Type 0} (h : A → A) (xs : List A) (i : ℕ) (x y : A) → slice_get xs i ≡ Some x → y ≡ h x → slice_set xs i y ≡ changed_at h i xs
put_at h [] i x y e f = absurd cc
put_at h (z ∷ xs) zero x y e f = ap (λ w. w ∷ xs) (f ∙ ap h (sym (some_is z x e)))
put_at h (z ∷ xs) (suc i) x y e f = ap (λ l. z ∷ l) (put_at h xs i x y e f)

pub put_same : {A : Type 0} (xs : List A) (i : ℕ) (x y : A) → slice_get xs i ≡ Some x → y ≡ x → slice_set xs i y ≡ xs
put_same [] i x y e f = absurd cc
put_same (z ∷ xs) zero x y e f = ap (λ w. w ∷ xs) (f ∙ sym (some_is z x e))
put_same (z ∷ xs) (suc i) x y e f = ap (λ l. z ∷ l) (put_same xs i x y e f)

pub put_nowhere : {A : Type 0} (h : A → A) (xs : List A) (i : ℕ) → slice_get xs i ≡ None → xs ≡ changed_at h i xs
put_nowhere h [] i e = refl
put_nowhere h (x ∷ xs) zero e = absurd cc
put_nowhere h (x ∷ xs) (suc i) e = ap (λ l. x ∷ l) (put_nowhere h xs i e)

-- what is there, and that nothing is, in the words of the place
pub there : {A : Type 0} (xs : List A) (i : ℕ) (x : A) → i < length xs → x ≡ slice_index_or xs i x → slice_get xs i ≡ Some x
there [] i x h e = absurd (omega (arith, h))
there (y ∷ xs) zero x h e = ap Some (sym e)
there (y ∷ xs) (suc i) x h e = there xs i x (omega (arith, h)) e

pub nowhere : {A : Type 0} (xs : List A) (i : ℕ) → length xs ≤ i → slice_get xs i ≡ None
nowhere [] i h = refl
nowhere (x ∷ xs) zero h = absurd (omega (arith, h))
nowhere (x ∷ xs) (suc i) h = nowhere xs i (omega (arith, h))

pub off_at : (h : Standing → Standing) (xs : List Controller) (i : ℕ) → length xs ≤ i → map standing_of xs ≡ changed_at h i (map standing_of xs)
off_at h xs i e = put_nowhere h (map standing_of xs) i (seen_at xs i ∙ ap (option_map standing_of) (nowhere xs i e))
