-- What is kept of the instances of a store, and how they are seen.
use Rattle.std.proofs.Common.{◌≡◌, ℕ, ◌+◌, ◌-◌, ◌<◌, List, [], ◌∷◌, ◌++◌, length, map, take, slice_get, slice_index_or, refl, sym, ap, subst, ◌∙◌, arith, Option, Some, None, option_map}
use Rattle.std.specs.List.{AllByRecursion}
use Rattle.std.specs.List.{take-map}
use Rattle.fc_types.specs.Components.{ComponentDecl}
use Rattle.fc_types.specs.declared.class.Class.{Class}
use Rattle.fc_instance.specs.Cells.{valued}
use Rattle.fc_instance.specs.Histories.{Held, slot_cell, values_of}
use Rattle.fc_instance.specs.declared.instance.Slot.{Slot}
use Rattle.fc_store.specs.Scopes.{each_at, marked, marks_on, rolled, unmarked}
use Rattle.fc_store.specs.Stores.{Pairwise, Stored, Tree, declared_in, depth_in, gone_back, held_at, map_from, mark_of, marks_of, opened, opening_tree, opens, over_mark, places_in, settled, settled_tree, with_mark, without_mark}
use Rattle.fc_store.specs.Trees.{AreShaped, AreTrees, IsOfType, IsOpened, IsTree, IsTreeOf, Opens, held_then, plain, settled_held, stored, tree_of}
use Rattle.fc_store.proofs.Lists.{all_index, all_more, all_take, get_map, index_map, length_map, map_append, map_each, map_map_from, map_same, pair_each, pair_from, pair_same, pair_take, pair_weaker}

same_tree : (s t : Tree) → s.now ≡ t.now → s.held ≡ t.held → s ≡ t
same_tree s t p q = λ i. record { now = p i; held = q i }

-- ---- how marks are seen
last_held : (h : Held) → length (map plain h.held) - 1 ≡ length h.held - 1
last_held h = let n : length (map plain h.held) ≡ length h.held = length_map plain h.held in omega (arith, n)

fewer : (h : Held) → map plain (take (length h.held - 1) h.held) ≡ take (length (map plain h.held) - 1) (map plain h.held)
fewer h = sym (take-map plain (length h.held - 1) h.held) ∙ ap (λ n. take n (map plain h.held)) (sym (last_held h))

pub seen_marked : (h : Held) → tree_of (marked h) ≡ with_mark (tree_of h)
seen_marked h = same_tree (tree_of (marked h)) (with_mark (tree_of h)) refl (map_append plain h.held (h.now ∷ []))

pub seen_unmarked : (h : Held) → tree_of (unmarked h) ≡ without_mark (tree_of h)
seen_unmarked h = same_tree (tree_of (unmarked h)) (without_mark (tree_of h)) refl (fewer h)

pub seen_rolled : (h : Held) → tree_of (rolled h) ≡ gone_back (tree_of h)
seen_rolled h =
    same_tree (tree_of (rolled h)) (gone_back (tree_of h))
    (sym (index_map plain h.held (length h.held - 1) h.now) ∙ ap (λ n. slice_index_or (map plain h.held) n (plain h.now)) (sym (last_held h))) (fewer h)

-- ---- what marks keep
pub marked_kept : (ds : List ComponentDecl) (h : Held) → IsTree ds h → IsTree ds (marked h)
marked_kept ds h t = (t.0, all_more (AreShaped ds) h.held h.now t.1 t.0)

pub unmarked_kept : (ds : List ComponentDecl) (h : Held) → IsTree ds h → IsTree ds (unmarked h)
unmarked_kept ds h t = (t.0, all_take (AreShaped ds) (length h.held - 1) h.held t.1)

pub rolled_kept : (ds : List ComponentDecl) (h : Held) → IsTree ds h → IsTree ds (rolled h)
rolled_kept ds h t = (all_index (AreShaped ds) h.held (length h.held - 1) h.now t.1 t.0, all_take (AreShaped ds) (length h.held - 1) h.held t.1)

pub each_kept : (library : List Class) (pairs : List (ℕ × ℕ)) (f : Held → Held) → ((ds : List ComponentDecl) (h : Held) → IsTree ds h → IsTree ds (f h))
    → (ms : List (ℕ × ℕ)) (hs : List Held) → AreTrees library pairs hs → AreTrees library pairs (each_at f ms hs)
each_kept library pairs f keeps ms hs a = pair_each (IsTreeOf library) f ms pairs hs (λ pair h t. keeps (declared_in library pair.0) h t) a

seen_each : (library : List Class) (pairs : List (ℕ × ℕ)) (f : Held → Held) (g : Tree → Tree) (ms : List (ℕ × ℕ)) (hs : List Held) → ((h : Held) → tree_of (f h) ≡ g (tree_of h))
    → stored library pairs (each_at f ms hs) ≡ over_mark g ms (stored library pairs hs)
seen_each library pairs f g ms hs same = let p = map_each tree_of f g ms hs same in λ i. record { library = library; instances = pairs; trees = p i }

pub mark_kept : (library : List Class) (pairs : List (ℕ × ℕ)) (ms : List (ℕ × ℕ)) (old new : List Held) → new ≡ each_at marked ms old → AreTrees library pairs old → AreTrees library pairs new
mark_kept library pairs ms old new e a = subst (AreTrees library pairs) (sym e) (each_kept library pairs marked marked_kept ms old a)

pub roll_kept : (library : List Class) (pairs : List (ℕ × ℕ)) (ms : List (ℕ × ℕ)) (old new : List Held) → new ≡ each_at rolled ms old → AreTrees library pairs old → AreTrees library pairs new
roll_kept library pairs ms old new e a = subst (AreTrees library pairs) (sym e) (each_kept library pairs rolled rolled_kept ms old a)

pub release_kept : (library : List Class) (pairs : List (ℕ × ℕ)) (ms : List (ℕ × ℕ)) (old new : List Held) → new ≡ each_at unmarked ms old → AreTrees library pairs old → AreTrees library pairs new
release_kept library pairs ms old new e a = subst (AreTrees library pairs) (sym e) (each_kept library pairs unmarked unmarked_kept ms old a)

pub mark_seen : (library : List Class) (pairs ms ns : List (ℕ × ℕ)) (old new : List Held) (s : Stored) → new ≡ each_at marked ms old → ms ≡ ns → stored library pairs old ≡ s → stored library pairs new ≡ over_mark with_mark ns s
mark_seen library pairs ms ns old new s e m is =
    ap (stored library pairs) e ∙ seen_each library pairs marked with_mark ms old seen_marked ∙ ap (λ (ks : List (ℕ × ℕ)). over_mark with_mark ks (stored library pairs old)) m ∙ ap (over_mark with_mark ns) is

pub roll_seen : (library : List Class) (pairs ms ns : List (ℕ × ℕ)) (old new : List Held) (s : Stored) → new ≡ each_at rolled ms old → ms ≡ ns → stored library pairs old ≡ s → stored library pairs new ≡ over_mark gone_back ns s
roll_seen library pairs ms ns old new s e m is =
    ap (stored library pairs) e ∙ seen_each library pairs rolled gone_back ms old seen_rolled ∙ ap (λ (ks : List (ℕ × ℕ)). over_mark gone_back ks (stored library pairs old)) m ∙ ap (over_mark gone_back ns) is

pub release_seen : (library : List Class) (pairs ms ns : List (ℕ × ℕ)) (old new : List Held) (s : Stored) → new ≡ each_at unmarked ms old → ms ≡ ns → stored library pairs old ≡ s → stored library pairs new ≡ over_mark without_mark ns s
release_seen library pairs ms ns old new s e m is =
    ap (stored library pairs) e ∙ seen_each library pairs unmarked without_mark ms old seen_unmarked ∙ ap (λ (ks : List (ℕ × ℕ)). over_mark without_mark ks (stored library pairs old)) m ∙ ap (over_mark without_mark ns) is

-- how many marks stand
on_is : (o : Option Held) → marks_on o ≡ marks_of (option_map tree_of o)
on_is None = refl
on_is (Some h) = sym (length_map plain h.held)

abbrev depths : List (ℕ × ℕ) → List (ℕ × ℕ) → List Held → List (ℕ × ℕ)
depths scope pairs hs = map (λ i. (i, marks_on (slice_get hs i))) (places_in scope 0 pairs)

depths_are : (library : List Class) (pairs scope : List (ℕ × ℕ)) (hs : List Held) → depths scope pairs hs ≡ mark_of scope (stored library pairs hs)
depths_are library pairs scope hs =
    map_same (λ (i : ℕ). (i, marks_on (slice_get hs i))) (λ (i : ℕ). (i, marks_of (slice_get (map tree_of hs) i))) (places_in scope 0 pairs)
    (λ i. ap (λ (n : ℕ). (i, n)) (on_is (slice_get hs i) ∙ ap marks_of (sym (get_map tree_of hs i))))

pub depths_seen : (library : List Class) (pairs qs scope : List (ℕ × ℕ)) (hs gs : List Held) (ms : List (ℕ × ℕ)) (s : Stored) → ms ≡ depths scope qs gs → qs ≡ pairs → gs ≡ hs
    → stored library pairs hs ≡ s → ms ≡ mark_of scope s
depths_seen library pairs qs scope hs gs ms s e p h is =
    e ∙ ap (λ (ps : List (ℕ × ℕ)). depths scope ps gs) p ∙ ap (depths scope pairs) h ∙ depths_are library pairs scope hs ∙ ap (mark_of scope) is

-- ---- opening values
opened_tree : (library : List Class) (pair : ℕ × ℕ) (h : Held) → IsOpened library pair h → tree_of h ≡ opening_tree library pair
opened_tree library pair h r =
    same_tree (tree_of h) (opening_tree library pair) (pair_same (opens pair.0) valued (Opens pair.0) (declared_in library pair.0) h.now (λ d cell o. o.0) r.0) (ap (map plain) r.1)

pub opened_seen : (library : List Class) (pairs : List (ℕ × ℕ)) (hs : List Held) → Pairwise (IsOpened library) pairs hs → stored library pairs hs ≡ opened library pairs
opened_seen library pairs hs p =
    let q = pair_same (opening_tree library) tree_of (IsOpened library) pairs hs (opened_tree library) p in
    λ i. record { library = library; instances = pairs; trees = q i }

opened_fits : (library : List Class) (pair : ℕ × ℕ) (h : Held) → IsOpened library pair h → IsTreeOf library pair h
opened_fits library pair h r = (
  pair_weaker (Opens pair.0) IsOfType (declared_in library pair.0) h.now (λ d cell o. o.1) r.0,
  subst (AllByRecursion (AreShaped (declared_in library pair.0))) (sym r.1) tt,
)

pub opened_kept : (library : List Class) (pairs : List (ℕ × ℕ)) (hs : List Held) → Pairwise (IsOpened library) pairs hs → AreTrees library pairs hs
opened_kept library pairs hs p = pair_weaker (IsOpened library) (IsTreeOf library) pairs hs (opened_fits library) p

slots_are : (slots new : List Slot) (slot : Slot) → new ≡ slots ++ slot ∷ [] → values_of slots ++ slot_cell slot ∷ [] ≡ values_of new
slots_are slots new slot e = sym (map_append slot_cell slots (slot ∷ [])) ∙ sym (ap values_of e)

pub slots_more : (class : ℕ) (ds : List ComponentDecl) (i : ℕ) (d : ComponentDecl) (slots new : List Slot) (slot : Slot) → Pairwise (Opens class) (take i ds) (values_of slots) → i < length ds
    → d ≡ slice_index_or ds i d → Opens class d (slot_cell slot) → new ≡ slots ++ slot ∷ [] → Pairwise (Opens class) (take (i + 1) ds) (values_of new)
slots_more class ds i d slots new slot p lt e o n =
    subst (λ vs. Pairwise (Opens class) (take (i + 1) ds) vs) (slots_are slots new slot n) (pair_take (Opens class) ds (values_of slots) i d (slot_cell slot) p lt e o)

pub instances_more : (library : List Class) (pairs : List (ℕ × ℕ)) (i : ℕ) (pair : ℕ × ℕ) (hs new : List Held) (h : Held) → Pairwise (IsOpened library) (take i pairs) hs → i < length pairs
    → pair ≡ slice_index_or pairs i pair → IsOpened library pair h → new ≡ hs ++ h ∷ [] → Pairwise (IsOpened library) (take (i + 1) pairs) new
instances_more library pairs i pair hs new h p lt e o n =
    subst (λ gs. Pairwise (IsOpened library) (take (i + 1) pairs) gs) (sym n) (pair_take (IsOpened library) pairs hs i pair h p lt e o)

pub new_kept : (l m n : List Class) (p q r : List (ℕ × ℕ)) (hs : List Held) → l ≡ m → n ≡ m → p ≡ q → r ≡ q → Pairwise (IsOpened l) p hs → AreTrees n r hs
new_kept l m n p q r hs a b c d o =
    subst (λ (ls : List Class). AreTrees ls r hs) (a ∙ sym b) (subst (λ (ps : List (ℕ × ℕ)). AreTrees l ps hs) (c ∙ sym d) (opened_kept l p hs o))

pub new_seen : (l m n : List Class) (p q r : List (ℕ × ℕ)) (hs : List Held) → l ≡ m → n ≡ m → p ≡ q → r ≡ q → Pairwise (IsOpened l) p hs → stored n r hs ≡ opened m q
new_seen l m n p q r hs a b c d o =
    ap (λ (ls : List Class). stored ls r hs) (b ∙ sym a) ∙ ap (λ (ps : List (ℕ × ℕ)). stored l ps hs) (d ∙ sym c) ∙ opened_seen l p hs o
    ∙ ap (λ (ls : List Class). opened ls p) a ∙ ap (opened m) c

-- ---- copies
then_seen : (h : Held) (o : Option ℕ) → plain (held_then o h) ≡ held_at o (tree_of h)
then_seen h None = refl
then_seen h (Some d) = sym (index_map plain h.held d h.now)

settled_one : (marks : List (List (ℕ × ℕ))) (i : ℕ) (h : Held) → tree_of (settled_held marks i h) ≡ settled_tree marks i (tree_of h)
settled_one marks i h = same_tree (tree_of (settled_held marks i h)) (settled_tree marks i (tree_of h)) (then_seen h (depth_in marks i)) refl

pub settled_seen : (l m : List Class) (p q : List (ℕ × ℕ)) (marks : List (List (ℕ × ℕ))) (hs gs others : List Held) (s : Stored) → others ≡ map_from (settled_held marks) 0 gs → gs ≡ hs → m ≡ l → q ≡ p
    → stored l p hs ≡ s → stored m q others ≡ settled marks s
settled_seen l m p q marks hs gs others s e g a b is =
    let t = map_map_from tree_of (settled_held marks) (settled_tree marks) 0 hs (settled_one marks) in
    ap (λ (ls : List Class). stored ls q others) a ∙ ap (λ (ps : List (ℕ × ℕ)). stored l ps others) b
    ∙ ap (stored l p) (e ∙ ap (map_from (settled_held marks) 0) g) ∙ (λ i. record { library = l; instances = p; trees = t i }) ∙ ap (settled marks) is

then_fits : (ds : List ComponentDecl) (h : Held) (o : Option ℕ) → IsTree ds h → AreShaped ds (held_then o h)
then_fits ds h None t = t.0
then_fits ds h (Some d) t = all_index (AreShaped ds) h.held d h.now t.1 t.0

pub settled_kept : (l m : List Class) (p q : List (ℕ × ℕ)) (marks : List (List (ℕ × ℕ))) (hs gs others : List Held) → others ≡ map_from (settled_held marks) 0 gs → gs ≡ hs → m ≡ l → q ≡ p
    → AreTrees l p hs → AreTrees m q others
settled_kept l m p q marks hs gs others e g a b t =
    let k = pair_from (IsTreeOf l) (settled_held marks) 0 p hs (λ i pair h f. (then_fits (declared_in l pair.0) h (depth_in marks i) f, tt)) t in
    let n = subst (λ os. AreTrees l p os) (sym (e ∙ ap (map_from (settled_held marks) 0) g)) k in
    subst (λ (ls : List Class). AreTrees ls q others) (sym a) (subst (λ (ps : List (ℕ × ℕ)). AreTrees l ps others) (sym b) n)
