-- What a node that is put leaves of a value.
use Rattle.std.proofs.Common.{◌≡◌, ◌∙◌, refl, ap, sym, arith, ℕ, zero, suc, ◌==◌, eqb-true, Bool, true, false, if◌then◌else◌, List, [], ◌∷◌, ◌++◌, append-nil, slice_get, slice_set, Option, Some, None, option_map, option_and_then}
use Rattle.fc_value.specs.Nodes.{are_apart, changed, child, child_layer, node_at, put_at, with_child, with_child_layer, with_entry}
use Rattle.fc_value.specs.declared.value.Value.{Value, out-Value, roll-Value}
use Rattle.fc_value.specs.declared.value.Value.TheOpen.{Value-F}
use Rattle.fc_value.specs.declared.value.Value.TheViews.{out-roll-Value, roll-out-Value}

get_same : {A : Type 0} (xs : List A) (i : ℕ) (x y : A) → slice_get xs i ≡ Some y → slice_get (slice_set xs i x) i ≡ Some x
get_same [] i x y h = cc
get_same (z ∷ xs) zero x y h = refl
get_same (z ∷ xs) (suc i) x y h = get_same xs i x y h

suc_suc : (i j : ℕ) → (suc i == suc j) ≡ (i == j)
suc_suc i j = grind arith

get_other : {A : Type 0} (xs : List A) (i j : ℕ) (x : A) → (i == j) ≡ false → slice_get (slice_set xs i x) j ≡ slice_get xs j
get_other [] i j x h = refl
get_other (z ∷ xs) zero zero x h = cc
get_other (z ∷ xs) zero (suc j) x h = refl
get_other (z ∷ xs) (suc i) zero x h = refl
get_other (z ∷ xs) (suc i) (suc j) x h = get_other xs i j x (sym (suc_suc i j) ∙ h)

entry_same : (es : List (ℕ × Value)) (i : ℕ) (w : Value) (o : Option (ℕ × Value)) (c : Value) → slice_get es i ≡ o → option_map (λ e. e.1) o ≡ Some c
    → option_map (λ e. e.1) (slice_get (with_entry i w es o) i) ≡ Some w
entry_same es i w None c e h = cc
entry_same es i w (Some p) c e h = ap (option_map (λ e. e.1)) (get_same es i (p.0, w) p e)

entry_other : (es : List (ℕ × Value)) (i j : ℕ) (w : Value) (o : Option (ℕ × Value)) → (i == j) ≡ false → slice_get (with_entry i w es o) j ≡ slice_get es j
entry_other es i j w None h = refl
entry_other es i j w (Some p) h = get_other es i j (p.0, w) h

layer_same : (l : Value-F Value) (i : ℕ) (w c : Value) → child_layer i l ≡ Some c → child_layer i (with_child_layer i w l) ≡ Some w
layer_same (Value-F.Truth t) i w c h = cc
layer_same (Value-F.Number z) i w c h = cc
layer_same (Value-F.Text t) i w c h = cc
layer_same (Value-F.Raw bs) i w c h = cc
layer_same (Value-F.Group vs) i w c h = get_same vs i w c h
layer_same (Value-F.Table es) i w c h = entry_same es i w (slice_get es i) c refl h

layer_other : (l : Value-F Value) (i j : ℕ) (w : Value) → (i == j) ≡ false → child_layer j (with_child_layer i w l) ≡ child_layer j l
layer_other (Value-F.Truth t) i j w h = refl
layer_other (Value-F.Number z) i j w h = refl
layer_other (Value-F.Text t) i j w h = refl
layer_other (Value-F.Raw bs) i j w h = refl
layer_other (Value-F.Group vs) i j w h = get_other vs i j w h
layer_other (Value-F.Table es) i j w h = ap (option_map (λ e. e.1)) (entry_other es i j w (slice_get es i) h)

child_same : (v : Value) (i : ℕ) (w c : Value) → child i v ≡ Some c → child i (with_child i w v) ≡ Some w
child_same v i w c h = ap (child_layer i) (out-roll-Value (with_child_layer i w (out-Value v))) ∙ layer_same (out-Value v) i w c h

child_other : (v : Value) (i j : ℕ) (w : Value) → (i == j) ≡ false → child j (with_child i w v) ≡ child j v
child_other v i j w h = ap (child_layer j) (out-roll-Value (with_child_layer i w (out-Value v))) ∙ layer_other (out-Value v) i j w h

set_same : {A : Type 0} (xs : List A) (i : ℕ) (x : A) → slice_get xs i ≡ Some x → slice_set xs i x ≡ xs
set_same [] i x h = refl
set_same (y ∷ xs) zero x h = cc
set_same (y ∷ xs) (suc i) x h = ap (λ ys. y ∷ ys) (set_same xs i x h)

entry_back : (es : List (ℕ × Value)) (i : ℕ) (c : Value) (o : Option (ℕ × Value)) → slice_get es i ≡ o → option_map (λ e. e.1) o ≡ Some c → with_entry i c es o ≡ es
entry_back es i c None e h = refl
entry_back es i c (Some p) e h =
    let same : p.1 ≡ c = cc h in
    set_same es i (p.0, c) (e ∙ ap (λ x. Some (p.0, x)) same)

layer_back : (l : Value-F Value) (i : ℕ) (c : Value) → child_layer i l ≡ Some c → with_child_layer i c l ≡ l
layer_back (Value-F.Truth t) i c h = refl
layer_back (Value-F.Number z) i c h = refl
layer_back (Value-F.Text t) i c h = refl
layer_back (Value-F.Raw bs) i c h = refl
layer_back (Value-F.Group vs) i c h = ap Value-F.Group (set_same vs i c h)
layer_back (Value-F.Table es) i c h = ap Value-F.Table (entry_back es i c (slice_get es i) refl h)

with_same : (v : Value) (i : ℕ) (c : Value) → child i v ≡ Some c → with_child i c v ≡ v
with_same v i c h = ap roll-Value (layer_back (out-Value v) i c h) ∙ roll-out-Value v

-- ---- the node that was put, and what lies in it
abbrev Put : List ℕ → Type 0
Put places = (v w c : Value) → node_at places v ≡ Some c → (below : List ℕ) → node_at (places ++ below) (put_at v places w) ≡ node_at below w

put_step : (i : ℕ) (places : List ℕ) → Put places → (v w c : Value) (o : Option Value) → child i v ≡ o → option_and_then (node_at places) o ≡ Some c → (below : List ℕ)
    → node_at (i ∷ places ++ below) (changed (λ c. put_at c places w) i v o) ≡ node_at below w
put_step i places more v w c None e h below = cc
put_step i places more v w c (Some d) e h below = ap (option_and_then (node_at (places ++ below))) (child_same v i (put_at d places w) d e) ∙ more d w c h below

pub node_put : (places : List ℕ) → Put places
node_put [] v w c h below = refl
node_put (i ∷ places) v w c h below = put_step i places (node_put places) v w c (child i v) refl h below

pub node_there : (places : List ℕ) (v w c : Value) → node_at places v ≡ Some c → node_at places (put_at v places w) ≡ Some w
node_there places v w c h = ap (λ ps. node_at ps (put_at v places w)) (sym (append-nil places)) ∙ node_put places v w c h []

-- ---- the nodes above
abbrev Above : List ℕ → Type 0
Above front = (v w : Value) (places : List ℕ) → node_at front (put_at v (front ++ places) w) ≡ option_map (λ c. put_at c places w) (node_at front v)

above_step : (i : ℕ) (front : List ℕ) → Above front → (v w : Value) (places : List ℕ) (o : Option Value) → child i v ≡ o
    → node_at (i ∷ front) (changed (λ c. put_at c (front ++ places) w) i v o) ≡ option_map (λ c. put_at c places w) (option_and_then (node_at front) o)
above_step i front more v w places None e = ap (option_and_then (node_at front)) e
above_step i front more v w places (Some d) e = ap (option_and_then (node_at front)) (child_same v i (put_at d (front ++ places) w) d e) ∙ more d w places

pub node_above : (front : List ℕ) → Above front
node_above [] v w places = refl
node_above (i ∷ front) v w places = above_step i front (node_above front) v w places (child i v) refl

-- ---- all other nodes
abbrev Apart : List ℕ → Type 0
Apart places = (v w : Value) (others : List ℕ) → are_apart places others ≡ true → node_at others (put_at v places w) ≡ node_at others v

apart_step : (i : ℕ) (places : List ℕ) → Apart places → (v w d : Value) (j : ℕ) (others : List ℕ) (b : Bool) → (i == j) ≡ b → child i v ≡ Some d
    → (if b then are_apart places others else true) ≡ true → option_and_then (node_at others) (child j (with_child i (put_at d places w) v)) ≡ option_and_then (node_at others) (child j v)
apart_step i places more v w d j others false t e h = ap (option_and_then (node_at others)) (child_other v i j (put_at d places w) t)
apart_step i places more v w d j others true t e h =
    let same : i ≡ j = eqb-true i j t in
    ap (λ k. option_and_then (node_at others) (child k (with_child i (put_at d places w) v))) (sym same)
    ∙ ap (option_and_then (node_at others)) (child_same v i (put_at d places w) d e) ∙ more d w others h
    ∙ sym (ap (option_and_then (node_at others)) (ap (λ k. child k v) (sym same) ∙ e))

apart_child : (i : ℕ) (places : List ℕ) → Apart places → (v w : Value) (j : ℕ) (others : List ℕ) (o : Option Value) → child i v ≡ o
    → are_apart (i ∷ places) (j ∷ others) ≡ true → node_at (j ∷ others) (changed (λ c. put_at c places w) i v o) ≡ node_at (j ∷ others) v
apart_child i places more v w j others None e h = refl
apart_child i places more v w j others (Some d) e h = apart_step i places more v w d j others (i == j) refl e h

pub node_apart : (places : List ℕ) → Apart places
node_apart [] v w others h = cc
node_apart (i ∷ places) v w [] h = cc
node_apart (i ∷ places) v w (j ∷ others) h = apart_child i places (node_apart places) v w j others (child i v) refl h

-- ---- where a place is not there
abbrev Nowhere : List ℕ → Type 0
Nowhere places = (v w : Value) → node_at places v ≡ None → put_at v places w ≡ v

nowhere_step : (i : ℕ) (places : List ℕ) → Nowhere places → (v w : Value) (o : Option Value) → child i v ≡ o → option_and_then (node_at places) o ≡ None
    → changed (λ c. put_at c places w) i v o ≡ v
nowhere_step i places more v w None e h = refl
nowhere_step i places more v w (Some d) e h = ap (λ c. with_child i c v) (more d w h) ∙ with_same v i d e

pub put_nowhere : (places : List ℕ) → Nowhere places
put_nowhere [] v w h = cc
put_nowhere (i ∷ places) v w h = nowhere_step i places (put_nowhere places) v w (child i v) refl h
