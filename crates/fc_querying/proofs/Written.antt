-- What the store answers where a Config writes the epoch or the floor of class Mastership, and nothing else.
use Rattle.std.proofs.Common.{◌≡◌, ℕ, ◌+◌, ◌==◌, ◌&&◌, ◌||◌, Bool, true, false, not, nat_lt, ◌<◌, length, arith, if◌then◌else◌, find, position, List, [], ◌∷◌, ◌++◌, map, Option, Some, None, Err, refl, sym, ap, ◌∙◌, rules, eqb-true, append-nil}
use Rattle.std.specs.List.{flat_map, list_all, list_any, position_or_len}
use Rattle.fc_blocks.specs.Opening.{goes_before, opened_store, placed, rising, with_own}
use Rattle.fc_lfbs.specs.BuiltIns as built_ins
use Rattle.fc_types.specs.BuiltIn.{built_in_instances, is_built_in}
use Rattle.fc_types.specs.Libraries.{is_own}
use Rattle.fc_types.specs.declared.class.Class.{Class}
use Rattle.std.specs.Option.{option_and_then}
use Rattle.fc_abiding.proofs.Reading.{full_leaf, path_leaves_is}
use Rattle.fc_exec.specs.Operations.{applied, coded, made, oper_operations, operations}
use Rattle.fc_exec.specs.declared.operations.Operation.{Operation}
use Rattle.fc_exec.specs.declared.operations.Operation.TheVariants as operation
use Rattle.fc_modes.specs.Modes.{outcome}
use Rattle.fc_modes.specs.declared.mode.Mode.{Mode}
use Rattle.fc_modes.specs.declared.mode.Mode.TheVariants.{AllOrNone, UntilFailure, Continue}
use Rattle.fc_path.specs.Leaves.{Given, own_steps, body_leaves, path_leaves}
use Rattle.fc_path.specs.declared.oper.Leaf.{Leaf}
use Rattle.fc_path.specs.declared.oper.Oper.{Oper}
use Rattle.fc_path.specs.declared.oper.Oper.TheVariants as oper
use Rattle.fc_path.specs.declared.oper.OperKind.{OperKind}
use Rattle.fc_path.specs.declared.oper.OperKind.TheVariants as kinds
use Rattle.fc_path.specs.declared.oper.Select.{Select}
use Rattle.fc_path.specs.declared.oper.Step.{Step}
use Rattle.fc_path.specs.declared.oper.Step.TheVariants as step
use Rattle.fc_path.specs.declared.path.Key.{Key}
use Rattle.fc_path.specs.declared.path.PathData.{PathData}
use Rattle.fc_path.specs.declared.path.Body.{Body, out-Body, roll-Body, the_lemmas}
use Rattle.fc_path.specs.declared.path.Body.TheOpen.{Body-F}
use Rattle.fc_path.specs.declared.path.Body.TheVariants as v
use Rattle.fc_path.specs.declared.path.Body.TheViews.{roll-out-Body}
use Rattle.fc_phases.specs.Shapes.{full_layer, is_id, is_mastership, keyless, kind_full, only_full, path_full, set_full, single}
use Rattle.fc_performing.specs.Performing.{are_props, performed}
use Rattle.fc_events.specs.declared.subscriptions.Subscription.{Subscription}
use Rattle.fc_protocol.proofs.Basics.{none_some}
use Rattle.fc_store.specs.Stores.{Stored}
use Rattle.fc_querying.specs.Mastership.{HasMastership}

-- ---- such a Config has one operation

abbrev pub put_at : ℕ → ℕ → ℕ → List ℕ → Leaf
put_at id c i bytes = record { kind = kinds.Set; spot = record { class = c; instance = i; steps = step.Id id ∷ [] }; body = v.Full bytes }

layer_put : (c i : ℕ) (b : Body) (y : Body-F Body PathData) (steps : List Step) (bytes : List ℕ) → out-Body b ≡ y → full_layer y ≡ Some bytes
    → body_leaves kinds.Set c i b steps ≡ record { kind = kinds.Set; spot = record { class = c; instance = i; steps = steps }; body = v.Full bytes } ∷ []
layer_put c i b Body-F.Nothing steps bytes e f = absurd (none_some bytes f)
layer_put c i b (Body-F.Full x) steps bytes e f =
    let is : b ≡ v.Full x = sym (roll-out-Body b) ∙ ap roll-Body e ∙ v.rolls-Full x in
    let same : x ≡ bytes = cc in
    ap (λ d. body_leaves kinds.Set c i d steps) is ∙ ap (λ (g : Given). g steps) (full_leaf kinds.Set c i x)
    ∙ ap (λ (y : List ℕ). record { kind = kinds.Set; spot = record { class = c; instance = i; steps = steps }; body = v.Full y } ∷ []) same
layer_put c i b (Body-F.Sparse ilvs) steps bytes e f = absurd (none_some bytes f)
layer_put c i b (Body-F.Outcome code) steps bytes e f = absurd (none_some bytes f)
layer_put c i b (Body-F.Nested paths) steps bytes e f = absurd (none_some bytes f)

one_id : (id : ℕ) (ids : List ℕ) → is_id id ids ≡ true → ids ≡ id ∷ []
one_id id [] e = absurd (cc e)
one_id id (n ∷ []) e = ap (λ (m : ℕ). m ∷ []) (eqb-true n id e)
one_id id (n ∷ m ∷ more) e = absurd (cc e)

module _ (id c i : ℕ) (bytes : List ℕ) where
  by_id : (p : PathData) (b : Bool) → is_id id p.ids ≡ b → p.key ≡ None → (if b then full_layer (out-Body p.body) else None) ≡ Some bytes → path_leaves kinds.Set c i p [] ≡ put_at id c i bytes ∷ []
  by_id p true e none f =
      ap (λ (g : Given). g []) (path_leaves_is kinds.Set c i p)
      ∙ ap (λ (steps : List Step). body_leaves kinds.Set c i p.body steps) (ap (λ (ids : List ℕ). own_steps ids p.key) (one_id id p.ids e) ∙ ap (own_steps (id ∷ [])) none)
      ∙ layer_put c i p.body (out-Body p.body) (step.Id id ∷ []) bytes refl f
  by_id p false e none f = absurd (none_some bytes f)

  by_key : (p : PathData) (key : Option Key) → p.key ≡ key → keyless id p key ≡ Some bytes → path_leaves kinds.Set c i p [] ≡ put_at id c i bytes ∷ []
  by_key p None e f = by_id p (is_id id p.ids) refl e f
  by_key p (Some key) e f = absurd (none_some bytes f)

  by_paths : (paths : List PathData) → option_and_then (path_full id) (single paths) ≡ Some bytes → oper_operations c i (oper.Paths kinds.Set paths) ≡ operation.Leaf (put_at id c i bytes) ∷ []
  by_paths [] e = absurd (none_some bytes e)
  by_paths (p ∷ []) e = ap (λ (ls : List Leaf). map operation.Leaf (ls ++ [])) (by_key p p.key refl e)
  by_paths (p ∷ q ∷ more) e = absurd (none_some bytes e)

  abbrev Puts : Oper → Type 0
  Puts o = (oper_operations c i o ≡ operation.Leaf (put_at id c i bytes) ∷ []) × ((paths : List PathData) × (o ≡ oper.Paths kinds.Set paths))

  by_kind : (kind : OperKind) (paths : List PathData) → kind_full kind id paths ≡ Some bytes → Puts (oper.Paths kind paths)
  by_kind kinds.Set paths e = (by_paths paths e, (paths, refl))
  by_kind kinds.SetProp paths e = absurd (none_some bytes e)
  by_kind kinds.Del paths e = absurd (none_some bytes e)
  by_kind kinds.SetResponse paths e = absurd (none_some bytes e)
  by_kind kinds.SetPropResponse paths e = absurd (none_some bytes e)
  by_kind kinds.DelResponse paths e = absurd (none_some bytes e)
  by_kind kinds.Get paths e = absurd (none_some bytes e)
  by_kind kinds.GetProp paths e = absurd (none_some bytes e)
  by_kind kinds.GetResponse paths e = absurd (none_some bytes e)
  by_kind kinds.GetPropResponse paths e = absurd (none_some bytes e)
  by_kind kinds.Report paths e = absurd (none_some bytes e)

  by_oper : (o : Oper) → set_full id o ≡ Some bytes → Puts o
  by_oper (oper.Paths kind paths) e = by_kind kind paths e
  by_oper oper.Commit e = absurd (none_some bytes e)
  by_oper oper.Trcomp e = absurd (none_some bytes e)
  by_oper (oper.CommitResponse code) e = absurd (none_some bytes e)

abbrev PutsAlone : ℕ → List ℕ → List Select → Type 0
PutsAlone id bytes selects = (operations selects ≡ operation.Leaf (put_at id 126977 1 bytes) ∷ []) × (are_props selects ≡ false)

by_opers : (id : ℕ) (bytes : List ℕ) (s : Select) (os : List Oper) → s.opers ≡ os → s.class ≡ 126977 → s.instance ≡ 1 → option_and_then (set_full id) (single os) ≡ Some bytes → PutsAlone id bytes (s ∷ [])
by_opers id bytes s [] e c i f = absurd (none_some bytes f)
by_opers id bytes s (o ∷ []) e c i f =
    let (puts, (paths, is)) = by_oper id 126977 1 bytes o f in (
      append-nil (flat_map (oper_operations s.class s.instance) s.opers)
          ∙ ap (λ (os : List Oper). flat_map (oper_operations s.class s.instance) os) e ∙ ap (λ (k : ℕ). flat_map (oper_operations k s.instance) (o ∷ [])) c ∙ ap (λ (k : ℕ). flat_map (oper_operations 126977 k) (o ∷ [])) i
          ∙ append-nil (oper_operations 126977 1 o) ∙ puts,
      ap (λ (os : List Oper). are_props (record s { opers = os } ∷ [])) (e ∙ ap (λ (p : Oper). p ∷ []) is),
    )
by_opers id bytes s (o ∷ p ∷ more) e c i f = absurd (none_some bytes f)

and_left : (a b : Bool) → (a && b) ≡ true → a ≡ true
and_left true b h = refl
and_left false b h = cc

and_right : (a b : Bool) → (a && b) ≡ true → b ≡ true
and_right true b h = h
and_right false b h = cc

by_mastership : (id : ℕ) (bytes : List ℕ) (s : Select) (b : Bool) → is_mastership s ≡ b → (if b then option_and_then (set_full id) (single s.opers) else None) ≡ Some bytes → PutsAlone id bytes (s ∷ [])
by_mastership id bytes s true e f =
    by_opers id bytes s s.opers refl (eqb-true s.class 126977 (and_left (s.class == 126977) (s.instance == 1) e)) (eqb-true s.instance 1 (and_right (s.class == 126977) (s.instance == 1) e)) f
by_mastership id bytes s false e f = absurd (none_some bytes f)

pub puts_alone : (id : ℕ) (bytes : List ℕ) (selects : List Select) → only_full id selects ≡ Some bytes → PutsAlone id bytes selects
puts_alone id bytes [] e = absurd (none_some bytes e)
puts_alone id bytes (s ∷ []) e = by_mastership id bytes s (is_mastership s) refl e
puts_alone id bytes (s ∷ t ∷ more) e = absurd (none_some bytes e)

-- ---- and the store refuses it

out_full : (bytes : List ℕ) → out-Body (v.Full bytes) ≡ Body-F.Full bytes
out_full bytes = search (rules, the_lemmas)

one_refused : (s : Stored) (op : Operation) (code : ℕ) (mode : Mode) → (code == 0) ≡ false → made op s ≡ Err code → (outcome applied mode s (op ∷ [])).codes ≡ code ∷ []
one_refused s op code AllOrNone some e = rw (e, some) (ap (λ r. (coded s r).1 ∷ []) e)
one_refused s op code UntilFailure some e = rw (e, some) (ap (λ r. (coded s r).1 ∷ []) e)
one_refused s op code Continue some e = rw (e, some) (ap (λ r. (coded s r).1 ∷ []) e)

pub refused_alone : (id code : ℕ) (bytes : List ℕ) (selects : List Select) (s : Stored) (subs : List Subscription) (mode : Mode) → (code == 0) ≡ false → only_full id selects ≡ Some bytes
    → made (operation.Leaf (put_at id 126977 1 bytes)) s ≡ Err code → (performed mode s subs selects).codes ≡ code ∷ []
refused_alone id code bytes selects s subs mode some only e =
    let (one, none) = puts_alone id bytes selects only in
    rw (none, one) (one_refused s (operation.Leaf (put_at id 126977 1 bytes)) code mode some e)

pub epoch_refused : (s : Stored) (bytes : List ℕ) → HasMastership s → made (operation.Leaf (put_at 1 126977 1 bytes)) s ≡ Err 12
epoch_refused s bytes has = rw (out_full bytes, has.class, has.stands) refl

pub floor_refused : (s : Stored) (bytes : List ℕ) → HasMastership s → made (operation.Leaf (put_at 6 126977 1 bytes)) s ≡ Err 9
floor_refused s bytes has = rw (out_full bytes, has.class, has.stands) refl

-- ---- a new element has class Mastership

not_own : (k : Class) → is_own k ≡ true → (k.id == 126977) ≡ false
not_own k e = by (k.id == 126977) refl
  where
    by : (b : Bool) → (k.id == 126977) ≡ b → b ≡ false
    by true is = absurd (cc (sym e ∙ ap (λ (id : ℕ). not (is_built_in id)) (eqb-true k.id 126977 is)))
    by false is = refl

class_found : (library : List Class) → list_all is_own library ≡ true → find (λ (k : Class). k.id == 126977) (library ++ built_ins.built_in) ≡ Some built_ins.mastership
class_found [] e = refl
class_found (k ∷ library) e =
    ap (λ (b : Bool). if b then Some k else find (λ (k : Class). k.id == 126977) (library ++ built_ins.built_in)) (not_own k (and_left (is_own k) (list_all is_own library) e)) ∙ class_found library (and_right (is_own k) (list_all is_own library) e)

abbrev IsIt : ℕ × ℕ → Bool
IsIt q = (q.0 == 126977) && (q.1 == 1)

below : (m n : ℕ) → m < n → nat_lt m n ≡ true
below m n h = grind arith

stands_by : (p : ℕ × ℕ) (ps : List (ℕ × ℕ)) (b : Bool) → IsIt p ≡ b → (IsIt p || list_any IsIt ps) ≡ true → (list_any IsIt ps ≡ true → position_or_len IsIt ps < length ps) → position_or_len IsIt (p ∷ ps) < length (p ∷ ps)
stands_by p ps true is e more =
    let none : position_or_len IsIt (p ∷ ps) ≡ 0 = ap (λ (b : Bool). if not b then 1 + position_or_len IsIt ps else 0) is in
    omega (arith, none)
stands_by p ps false is e more =
    let later = more (sym (ap (λ (b : Bool). b || list_any IsIt ps) is) ∙ e) in
    let one : position_or_len IsIt (p ∷ ps) ≡ 1 + position_or_len IsIt ps = ap (λ (b : Bool). if not b then 1 + position_or_len IsIt ps else 0) is in
    omega (arith, one, later)

stands_in : (ps : List (ℕ × ℕ)) → list_any IsIt ps ≡ true → position_or_len IsIt ps < length ps
stands_in [] e = absurd (cc e)
stands_in (p ∷ ps) e = stands_by p ps (IsIt p) refl e (λ more. stands_in ps more)

position_is : (ps : List (ℕ × ℕ)) → position_or_len IsIt ps < length ps → position IsIt ps ≡ Some (position_or_len IsIt ps)
position_is ps less = ap (λ (b : Bool). if b then Some (position_or_len IsIt ps) else None) (below (position_or_len IsIt ps) (length ps) less)

swapped : (a b c : Bool) → (a || (b || c)) ≡ (b || (a || c))
swapped true true c = refl
swapped true false c = refl
swapped false b c = refl

placed_any : (p : ℕ × ℕ) (ps : List (ℕ × ℕ)) → list_any IsIt (placed p ps) ≡ (IsIt p || list_any IsIt ps)
placed_any p [] = refl
placed_any p (q ∷ qs) = placed_by (goes_before p q) (placed_any p qs)
  where
    placed_by : (b : Bool) → list_any IsIt (placed p qs) ≡ (IsIt p || list_any IsIt qs) → list_any IsIt (if b then p ∷ q ∷ qs else q ∷ placed p qs) ≡ (IsIt p || (IsIt q || list_any IsIt qs))
    placed_by true later = refl
    placed_by false later = ap (λ (b : Bool). IsIt q || b) later ∙ swapped (IsIt q) (IsIt p) (list_any IsIt qs)

rising_any : (ps : List (ℕ × ℕ)) → list_any IsIt (rising ps) ≡ list_any IsIt ps
rising_any [] = refl
rising_any (p ∷ ps) = placed_any p (rising ps) ∙ ap (λ (b : Bool). IsIt p || b) (rising_any ps)

or_true : (a : Bool) → (a || true) ≡ true
or_true true = refl
or_true false = refl

own_any : (ps : List (ℕ × ℕ)) → list_any IsIt (ps ++ built_in_instances) ≡ true
own_any [] = refl
own_any (p ∷ ps) = ap (λ (b : Bool). IsIt p || b) (own_any ps) ∙ or_true (IsIt p)

pub opened_has : (library : List Class) (instances : List (ℕ × ℕ)) → list_all is_own library ≡ true → HasMastership (opened_store library instances)
opened_has library instances own = record {
  class = class_found library own;
  place = position_or_len IsIt (with_own instances);
  stands = position_is (with_own instances) (stands_in (with_own instances) (rising_any (instances ++ built_in_instances) ∙ own_any instances));
}
