-- Operations at different instances, each with its own code, in either order.
use Rattle.std.proofs.Common.{◌≡◌, ◌≢◌, ℕ, ◌==◌, not, Bool, true, false, List, [], ◌∷◌, ◌++◌, map, refl, sym, ap, subst, ◌∙◌, arith, Option, Some, None, Result, Ok, Err, if◌then◌else◌}
use Rattle.std.proofs.lemmas.Grind.{flat_map-append}
use Rattle.std.specs.List.{flat_map}
use Rattle.fc_base.specs.Answers.{◌>>=◌}
use Rattle.fc_configuration.proofs.Elsewhere.{may_still}
use Rattle.fc_exec.specs.Operations.{applied, coded, is_inside, leaf_made, made, oper_operations, operations, place_of, select_operations}
use Rattle.fc_exec.specs.Operations as exec
use Rattle.fc_exec.specs.declared.operations.Operation.{Operation}
use Rattle.fc_exec.specs.declared.operations.Operation.TheVariants as operation
use Rattle.fc_events.specs.Setting.{effect, exec_outcome}
use Rattle.fc_events.specs.declared.subscriptions.Notice.{Notice}
use Rattle.fc_events.specs.declared.subscriptions.Subscription.{Subscription}
use Rattle.fc_machine.specs.Ground.{Commute, Lawful, inside_by}
use Rattle.fc_machine.specs.Transactions as machine
use Rattle.fc_modes.specs.Modes.{outcome}
use Rattle.fc_modes.specs.declared.mode.Mode.{Mode}
use Rattle.fc_path.specs.Leaves.{oper_leaves, select_leaves}
use Rattle.fc_path.specs.declared.oper.Leaf.{Leaf}
use Rattle.fc_path.specs.declared.oper.Oper.{Oper}
use Rattle.fc_path.specs.declared.oper.Oper.TheVariants as oper
use Rattle.fc_path.specs.declared.oper.OperKind.{OperKind}
use Rattle.fc_path.specs.declared.oper.Select.{Select}
use Rattle.fc_path.specs.declared.oper.Spot.{Spot}
use Rattle.fc_path.specs.declared.path.Body.{Body}
use Rattle.fc_protocol.specs.Scopes.{Scope, same_place}
use Rattle.fc_store.proofs.Apart.{changes_apart}
use Rattle.fc_store.proofs.Doing.{err_ok}
use Rattle.fc_store.proofs.Lists.{none_some, some_is}
use Rattle.fc_store.specs.Spots.{not_supported}
use Rattle.fc_store.specs.Stores.{AreApart, Change, Stored, is_in}
use Rattle.fc_value.specs.Outcomes.{invalid_parameters}
use Rattle.fc_standing.specs.Basis.{leaf_of, leaves_of, props_set, registered, store_basis}
use Rattle.fc_standing.specs.Holding.{is_outside}
use Rattle.fc_standing.proofs.Leaves.{both_true, does, is_same, leaf_change, leaf_does, never}

abbrev Effect : Type 0
Effect = Stored → Result Stored ℕ

-- what b makes does not depend on what a made
record Apart (a b : Effect) : Type 0 where
  goes : (s t : Stored) → a s ≡ Ok t → b t ≡ (b s >>= a)
  both : (s t u : Stored) → a s ≡ Ok t → b s ≡ Ok u → (w : Stored) × (b t ≡ Ok w)

does_apart : (f g : Option Change) (a b : Spot) → AreApart a b → Apart (does f a) (does g b)
does_apart None g a b ne = record {
  goes = λ s t e. absurd (err_ok not_supported t e);
  both = λ s t u e h. absurd (err_ok not_supported t e);
}
does_apart (Some f) None a b ne = record {
  goes = λ s t e. refl;
  both = λ s t u e h. absurd (err_ok not_supported u h);
}
does_apart (Some f) (Some g) a b ne = record {
  goes = λ s t e. changes_apart f g a b s t ne e;
  both = λ s t u e h. may_still f g a b s t u ne e h;
}

leaf_path : (kind : OperKind) (spot : Spot) (b : Body) → does (leaf_change kind spot b) spot ≡ leaf_made kind spot b
leaf_path kind spot b = let p : leaf_made kind spot b ≡ does (leaf_change kind spot b) spot = λ i s. leaf_does kind spot b s i in sym p

leaf_apart : (k l : OperKind) (a b : Spot) (v w : Body) → AreApart a b → Apart (leaf_made k a v) (leaf_made l b w)
leaf_apart k l a b v w ne =
    subst (λ (f : Effect). Apart f (leaf_made l b w)) (leaf_path k a v)
    (subst (λ (g : Effect). Apart (does (leaf_change k a v) a) g) (leaf_path l b w) (does_apart (leaf_change k a v) (leaf_change l b w) a b ne))

code_by : (a b : Effect) → Apart a b → (s : Stored) (r q : Result Stored ℕ) → a s ≡ r → b s ≡ q → (coded (coded s r).0 (b (coded s r).0)).1 ≡ (coded s q).1
code_by a b p s (Err x) q e f = ap (λ (z : Result Stored ℕ). (coded s z).1) f
code_by a b p s (Ok t) (Err y) e f = ap (λ (z : Result Stored ℕ). (coded t z).1) (p.goes s t e ∙ ap (λ (z : Result Stored ℕ). z >>= a) f)
code_by a b p s (Ok t) (Ok u) e f = let w = p.both s t u e f in ap (λ (z : Result Stored ℕ). (coded t z).1) w.1

state_by : (a b : Effect) → Apart a b → Apart b a → (s : Stored) (r q : Result Stored ℕ) → a s ≡ r → b s ≡ q → (coded (coded s r).0 (b (coded s r).0)).0 ≡ (coded (coded s q).0 (a (coded s q).0)).0
state_by a b p o s (Err x) (Err y) e f = ap (λ (z : Result Stored ℕ). (coded s z).0) f ∙ sym (ap (λ (z : Result Stored ℕ). (coded s z).0) e)
state_by a b p o s (Err x) (Ok u) e f =
    ap (λ (z : Result Stored ℕ). (coded s z).0) f ∙ sym (ap (λ (z : Result Stored ℕ). (coded u z).0) (o.goes s u f ∙ ap (λ (z : Result Stored ℕ). z >>= b) e))
state_by a b p o s (Ok t) (Err y) e f =
    ap (λ (z : Result Stored ℕ). (coded t z).0) (p.goes s t e ∙ ap (λ (z : Result Stored ℕ). z >>= a) f) ∙ sym (ap (λ (z : Result Stored ℕ). (coded s z).0) e)
state_by a b p o s (Ok t) (Ok u) e f =
    let w = p.both s t u e f in
    ap (λ (z : Result Stored ℕ). (coded t z).0) w.1 ∙ sym (ap (λ (z : Result Stored ℕ). (coded u z).0) (o.goes s u f ∙ ap (λ (z : Result Stored ℕ). z >>= b) e ∙ w.1))

turned : (a b : Spot) → AreApart a b → AreApart b a
turned a b ne e f = ne (sym e) (sym f)

leaves_commute : (k l : Leaf) → AreApart k.spot l.spot → Commute applied (operation.Leaf k) (operation.Leaf l)
leaves_commute k l ne =
    let a = leaf_made k.kind k.spot k.body in
    let b = leaf_made l.kind l.spot l.body in
    let p : Apart a b = leaf_apart k.kind l.kind k.spot l.spot k.body l.body ne in
    let o : Apart b a = leaf_apart l.kind k.kind l.spot k.spot l.body k.body (turned k.spot l.spot ne) in
    record {
      code = λ c. code_by a b p c (a c) (b c) refl refl;
      back = λ c. code_by b a o c (b c) (a c) refl refl;
      state = λ c. state_by a b p o c (a c) (b c) refl refl;
    }

-- ---- by instances
spots_apart : (a b : Spot) → same_place (a.class, a.instance) (b.class, b.instance) ≡ false → AreApart a b
spots_apart a b e f g = never (same_place (a.class, a.instance) (b.class, b.instance)) (both_true (a.class == b.class) (a.instance == b.instance) (is_same a.class b.class f) (is_same a.instance b.instance g)) e

places_apart : (a b : ℕ × ℕ) (p q : ℕ × ℕ) → Some a ≡ Some p → Some b ≡ Some q → same_place p q ≡ false → same_place a b ≡ false
places_apart a b p q e f g = ap (λ x. same_place x b) (some_is a p e) ∙ ap (same_place p) (some_is b q f) ∙ g

commute_at : (a b : Operation) (p q : ℕ × ℕ) → place_of a ≡ Some p → place_of b ≡ Some q → same_place p q ≡ false → Commute applied a b
commute_at (operation.Leaf k) (operation.Leaf l) p q e f g = leaves_commute k l (spots_apart k.spot l.spot (places_apart (k.spot.class, k.spot.instance) (l.spot.class, l.spot.instance) p q e f g))
commute_at (operation.Leaf k) operation.Commit p q e f g = absurd (none_some q f)
commute_at (operation.Leaf k) operation.Trcomp p q e f g = absurd (none_some q f)
commute_at operation.Commit b p q e f g = absurd (none_some p e)
commute_at operation.Trcomp b p q e f g = absurd (none_some p e)

not_both : (scope : Scope) (a b : Spot) → is_in scope (a.class, a.instance) ≡ true → not (is_in scope (b.class, b.instance)) ≡ true → AreApart a b
not_both scope a b e f g h = by (is_in scope (a.class, a.instance)) (is_in scope (b.class, b.instance)) (λ i. is_in scope (g i, h i)) e f
  where
    by : (x y : Bool) → x ≡ y → x ≡ true → not y ≡ true → ⊥
    by true true i p q = cc
    by true false i p q = cc
    by false y i p q = cc

-- an operation inside a scope and one outside of it
pub commute_across : (scope : Scope) (a b : Operation) → is_inside scope (place_of a) ≡ true → is_outside scope (place_of b) ≡ true → Commute applied a b
commute_across scope (operation.Leaf k) (operation.Leaf l) e f = leaves_commute k l (not_both scope k.spot l.spot e f)
commute_across scope (operation.Leaf k) operation.Commit e f = record { code = λ c. refl; back = λ c. refl; state = λ c. refl }
commute_across scope (operation.Leaf k) operation.Trcomp e f = record { code = λ c. refl; back = λ c. refl; state = λ c. refl }
commute_across scope operation.Commit b e f = record { code = λ c. refl; back = λ c. refl; state = λ c. refl }
commute_across scope operation.Trcomp b e f = record { code = λ c. refl; back = λ c. refl; state = λ c. refl }

-- ---- what is refused
kept_by : (s : Stored) (r : Result Stored ℕ) → (coded s r).1 ≢ 0 → (coded s r).0 ≡ s
kept_by s (Ok t) bad = absurd (bad refl)
kept_by s (Err code) bad = refl

eighteen : ◌≡◌ {A = ℕ} 18 0 → ⊥
eighteen f = omega (arith, f)

placeless : (s : Stored) (op : Operation) → place_of op ≡ None → (applied s op).1 ≢ 0
placeless s (operation.Leaf l) e = absurd (none_some (l.spot.class, l.spot.instance) (sym e))
placeless s operation.Commit e = λ f. eighteen f
placeless s operation.Trcomp e = λ f. eighteen f

pub lawful : (told : Notice → ℕ) (gone : ℕ) (instances : List (ℕ × ℕ)) → Lawful (store_basis told gone instances)
lawful told gone instances = record {
  refused = λ s op. kept_by s (made op s);
  placeless = placeless;
  apart = commute_at;
}

-- ---- within a scope
by_scope : (scope : Scope) (o : Option (ℕ × ℕ)) → inside_by scope o ≡ is_inside scope o
by_scope scope None = refl
by_scope [] (Some pair) = refl
by_scope (p ∷ ps) (Some pair) = refl

abbrev or_refused : Stored → Stored × ℕ → Bool → Stored × ℕ
or_refused s r inside = if inside then r else (s, invalid_parameters)

pub within_is : (told : Notice → ℕ) (gone : ℕ) (instances : List (ℕ × ℕ)) (scope : Scope) (s : Stored) (op : Operation) → machine.within (store_basis told gone instances) scope s op ≡ exec.within scope s op
within_is told gone instances scope s op = ap (or_refused s (applied s op)) (by_scope scope (place_of op))

-- ---- properties
leaves_are : (ls : List Leaf) → leaves_of (map operation.Leaf ls) ≡ ls
leaves_are [] = refl
leaves_are (l ∷ ls) = ap (λ ks. l ∷ ks) (leaves_are ls)

oper_leaves_are : (class instance : ℕ) (o : Oper) → leaves_of (oper_operations class instance o) ≡ oper_leaves class instance o
oper_leaves_are class instance (oper.Paths kind paths) = leaves_are (oper_leaves class instance (oper.Paths kind paths))
oper_leaves_are class instance oper.Commit = refl
oper_leaves_are class instance oper.Trcomp = refl
oper_leaves_are class instance (oper.CommitResponse code) = refl

opers_leaves_are : (class instance : ℕ) (os : List Oper) → leaves_of (flat_map (oper_operations class instance) os) ≡ flat_map (oper_leaves class instance) os
opers_leaves_are class instance [] = refl
opers_leaves_are class instance (o ∷ os) =
    flat_map-append leaf_of (oper_operations class instance o) (flat_map (oper_operations class instance) os)
    ∙ ap (λ ls. ls ++ leaves_of (flat_map (oper_operations class instance) os)) (oper_leaves_are class instance o)
    ∙ ap (λ ls. oper_leaves class instance o ++ ls) (opers_leaves_are class instance os)

selects_leaves_are : (selects : List Select) → leaves_of (operations selects) ≡ flat_map select_leaves selects
selects_leaves_are [] = refl
selects_leaves_are (s ∷ ss) =
    flat_map-append leaf_of (select_operations s) (operations ss)
    ∙ ap (λ ls. ls ++ leaves_of (operations ss)) (opers_leaves_are s.class s.instance s.opers)
    ∙ ap (λ ls. select_leaves s ++ ls) (selects_leaves_are ss)

pub props_are : (mode : Mode) (s : Stored) (subs : List Subscription) (selects : List Select) → props_set s subs mode (operations selects) ≡ registered (exec_outcome mode s subs selects)
props_are mode s subs selects = ap (λ ls. registered (outcome effect mode (s, subs) ls)) (selects_leaves_are selects)
