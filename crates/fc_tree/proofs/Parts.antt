-- A part taken out of a value and another one put there.
use Rattle.std.proofs.Common.{◌≡◌, ℕ, zero, suc, List, [], ◌∷◌, slice_get, slice_set, refl, sym, ap, ◌∙◌, Option, Some, None, option_and_then, Result, Ok}
use Rattle.std.specs.Option.{ok_or}
use Rattle.fc_types.specs.declared.ty.Ty.{Ty}
use Rattle.fc_value.specs.Nodes.{changed, child, node_at, put_at, with_child, with_child_layer, with_entry}
use Rattle.fc_base.specs.Answers.{◌>>=◌}
use Rattle.fc_value.specs.declared.value.Value.{Value, out-Value, roll-Value}
use Rattle.fc_value.specs.declared.value.Value.TheOpen.{Value-F}
use Rattle.fc_value.specs.declared.value.Value.TheViews.{out-roll-Value}
use Rattle.fc_value.proofs.Places.{node_there}
use Rattle.fc_tree.specs.Finding.{paired, part_at, part_type}
use Rattle.fc_tree.specs.Putting.{checked, put_part}
use Rattle.fc_tree.specs.Removing.{remove_part}

set_twice : {A : Type 0} (xs : List A) (i : ℕ) (x y : A) → slice_set (slice_set xs i x) i y ≡ slice_set xs i y
set_twice [] i x y = refl
set_twice (z ∷ xs) zero x y = refl
set_twice (z ∷ xs) (suc i) x y = ap (λ ys. z ∷ ys) (set_twice xs i x y)

get_set : {A : Type 0} (xs : List A) (i : ℕ) (x y : A) → slice_get xs i ≡ Some y → slice_get (slice_set xs i x) i ≡ Some x
get_set [] i x y h = cc
get_set (z ∷ xs) zero x y h = refl
get_set (z ∷ xs) (suc i) x y h = get_set xs i x y h

entry_twice : (es : List (ℕ × Value)) (i : ℕ) (x w : Value) (o : Option (ℕ × Value)) → slice_get es i ≡ o
    → with_entry i w (with_entry i x es o) (slice_get (with_entry i x es o) i) ≡ with_entry i w es o
entry_twice es i x w None e = ap (with_entry i w es) e
entry_twice es i x w (Some p) e = ap (with_entry i w (slice_set es i (p.0, x))) (get_set es i (p.0, x) p e) ∙ set_twice es i (p.0, x) (p.0, w)

layer_twice : (l : Value-F Value) (i : ℕ) (x w : Value) → with_child_layer i w (with_child_layer i x l) ≡ with_child_layer i w l
layer_twice (Value-F.Truth t) i x w = refl
layer_twice (Value-F.Number z) i x w = refl
layer_twice (Value-F.Text t) i x w = refl
layer_twice (Value-F.Raw bs) i x w = refl
layer_twice (Value-F.Group vs) i x w = ap Value-F.Group (set_twice vs i x w)
layer_twice (Value-F.Table es) i x w = ap Value-F.Table (entry_twice es i x w (slice_get es i) refl)

with_twice : (v : Value) (i : ℕ) (x w : Value) → with_child i w (with_child i x v) ≡ with_child i w v
with_twice v i x w = ap (λ l. roll-Value (with_child_layer i w l)) (out-roll-Value (with_child_layer i x (out-Value v))) ∙ ap roll-Value (layer_twice (out-Value v) i x w)

-- the child of which the node is told
child_of : (o : Option Value) (c x : Value) → Ok c ≡ ok_or (option_and_then (node_at []) o) x → o ≡ Some c
child_of None c x e = cc
child_of (Some d) c x e = cc

child_from : (o : Option Value) (c : Value) → option_and_then (node_at []) o ≡ Some c → o ≡ Some c
child_from None c e = cc
child_from (Some d) c e = cc

pub put_once : (v : Value) (i : ℕ) (c x : Value) → child i v ≡ Some c → put_at v (i ∷ []) x ≡ with_child i x v
put_once v i c x h = ap (changed (λ c. put_at c [] x) i v) h

pub put_again : (v : Value) (i : ℕ) (c x w : Value) → child i v ≡ Some c → put_at (put_at v (i ∷ []) x) (i ∷ []) w ≡ with_child i w v
put_again v i c x w h =
    let there : child i (put_at v (i ∷ []) x) ≡ Some x = child_from _ x (node_there (i ∷ []) v x c (ap (option_and_then (node_at [])) h)) in
    put_once (put_at v (i ∷ []) x) i x w there ∙ ap (with_child i w) (put_once v i c x h) ∙ with_twice v i x w

pub put_step : (more : Ty → Value → Result Value ℕ) (i : ℕ) (ty part : Ty) (v hollow whole old new x : Value) → part_type i ty ≡ Some part
    → hollow ≡ put_at v (i ∷ []) x → Ok old ≡ ok_or (node_at (i ∷ []) v) x → more part old ≡ Ok new → whole ≡ put_at hollow (i ∷ []) new
    → put_part more i ty v (part_at i ty v) ≡ checked ty whole
put_step more i ty part v hollow whole old new x p h o m w =
    let there : child i v ≡ Some old = child_of (child i v) old x o in
    let at : part_at i ty v ≡ Some (part, old) = ap (λ a. paired a (child i v)) p ∙ ap (paired (Some part)) there in
    ap (put_part more i ty v) at ∙ ap (λ (r : Result Value ℕ). r >>= λ w. checked ty (with_child i w v)) m
    ∙ ap (checked ty) (sym (w ∙ ap (λ u. put_at u (i ∷ []) new) h ∙ put_again v i old x new there))

pub remove_step : (more : Ty → Value → Result Value ℕ) (i : ℕ) (ty part : Ty) (v hollow whole old new x : Value) → part_type i ty ≡ Some part
    → hollow ≡ put_at v (i ∷ []) x → Ok old ≡ ok_or (node_at (i ∷ []) v) x → more part old ≡ Ok new → whole ≡ put_at hollow (i ∷ []) new
    → remove_part more i ty v (part_at i ty v) ≡ Ok whole
remove_step more i ty part v hollow whole old new x p h o m w =
    let there : child i v ≡ Some old = child_of (child i v) old x o in
    let at : part_at i ty v ≡ Some (part, old) = ap (λ a. paired a (child i v)) p ∙ ap (paired (Some part)) there in
    ap (remove_part more i ty v) at ∙ ap (λ (r : Result Value ℕ). r >>= λ w. Ok (with_child i w v)) m
    ∙ ap (λ (u : Value). Ok u) (sym (w ∙ ap (λ u. put_at u (i ∷ []) new) h ∙ put_again v i old x new there))
