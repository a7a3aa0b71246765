-- What a SET of FULLDATA changes.
use Rattle.std.proofs.Common.{◌≡◌, ℕ, List, [], ◌∷◌, refl, ap, ◌∙◌, Option, Some, None, Result, Ok, Err, ◌⊎◌, inl, inr}
use Rattle.fc_base.specs.Answers.{◌>>=◌}
use Rattle.fc_path.specs.declared.oper.Step.TheVariants as step
use Rattle.fc_tree.specs.Finding.{invalid_path, not_found, part_at, place_in, walked}
use Rattle.fc_tree.specs.Putting.{checked, put_at_place, put_in, put_part}
use Rattle.fc_types.specs.declared.ty.Ty.{Ty}
use Rattle.fc_value.specs.Nodes.{with_child}
use Rattle.fc_value.specs.Reading.{full_in}
use Rattle.fc_value.specs.declared.value.Value.{Value}
use Rattle.fc_cells.specs.Cells.{by_ids}
use Rattle.fc_cells.proofs.Steps.{Part, no_ok, reached, walked_id, went_on}
use Rattle.fc_cells.proofs.Beside.{Entered, Level, entered_beside, through}
use Rattle.fc_cells.proofs.Under.{Through, Under}

-- what is read stands at the place
abbrev pub Read : List ℕ → Ty → Value → Value → Type 0
Read bytes ty v w = full_in ty bytes ≡ Ok w

abbrev pub New : List ℕ → ℕ → Ty → Value → Value → Type 0
New bytes id ty v w = (part : Ty) × (new : Value) × (reached (step.Id id) ty w ≡ Ok (id, part, new)) × (full_in part bytes ≡ Ok new)

abbrev pub Set : List ℕ → List ℕ → Ty → Value → Value → Type 0
Set bytes = Under (New bytes) (Read bytes)

-- a change in a part that is there, whose check is passed
pub in_part : (more : Ty → Value → Result Value ℕ) (id i : ℕ) (ty : Ty) (v w : Value) → place_in ty v (step.Id id) ≡ Ok (Some i) → put_part more i ty v (part_at i ty v) ≡ Ok w
    → (t : Ty) × (c : Value) × (d : Value) × Level id ty v w t c d × (more t c ≡ Ok d)
in_part more id i ty v w p e = by (part_at i ty v) refl e
  where
    last : (x : Ty × Value) → part_at i ty v ≡ Some x → (r : Result Value ℕ) → more x.0 x.1 ≡ r → (r >>= λ u. checked ty (with_child i u v)) ≡ Ok w
        → (t : Ty) × (c : Value) × (d : Value) × Level id ty v w t c d × (more t c ≡ Ok d)
    last x q (Err c) m e = no_ok c w e
    last x q (Ok u) m e = (x.0, x.1, u, through id i ty v w x.0 x.1 u p q e, m)

    by : (o : Option (Ty × Value)) → part_at i ty v ≡ o → put_part more i ty v o ≡ Ok w → (t : Ty) × (c : Value) × (d : Value) × Level id ty v w t c d × (more t c ≡ Ok d)
    by None q e = no_ok invalid_path w e
    by (Some x) q e = last x q (more x.0 x.1) refl e

abbrev Sets : List ℕ → Type 0
Sets ids = (bytes : List ℕ) (ty : Ty) (v w : Value) → put_in (by_ids ids) bytes ty v ≡ Ok w → Set bytes ids ty v w

set_step : (id : ℕ) (ids : List ℕ) → Sets ids → (bytes : List ℕ) (ty : Ty) (v w : Value) (r : Result (Option ℕ) ℕ) → place_in ty v (step.Id id) ≡ r
    → r >>= put_at_place (put_in (by_ids ids) bytes) (by_ids ids) (step.Id id) bytes ty v ≡ Ok w → Set bytes (id ∷ ids) ty v w
set_step id ids more bytes ty v w (Err c) p e = no_ok c w e
set_step id [] more bytes ty v w (Ok None) p e =
    let n : Entered id bytes ty v w = entered_beside id bytes ty v w e in (n.changed, inl (refl, (n.part, n.new, n.after, n.read)))
set_step id (i ∷ ids) more bytes ty v w (Ok None) p e = no_ok not_found w e
set_step id ids more bytes ty v w (Ok (Some i)) p e =
    let m : (t : Ty) × (c : Value) × (d : Value) × Level id ty v w t c d × (put_in (by_ids ids) bytes t c ≡ Ok d) = in_part (put_in (by_ids ids) bytes) id i ty v w p e in
    (m.3.changed, inr (m.0, m.1, m.2, m.3, more bytes m.0 m.1 m.2 m.4))

pub set_under : (ids : List ℕ) → Sets ids
set_under [] bytes ty v w e = e
set_under (id ∷ ids) bytes ty v w e = set_step id ids (set_under ids) bytes ty v w (place_in ty v (step.Id id)) refl e

-- ---- what was put is found
pub put_is_found : (ids bytes : List ℕ) (ty : Ty) (v w : Value) → Set bytes ids ty v w → (part : Ty) × (node : Value) × (walked (by_ids ids) ty w ≡ Ok (part, node)) × (full_in part bytes ≡ Ok node)
put_is_found [] bytes ty v w u = (ty, w, refl, u)
put_is_found (id ∷ ids) bytes ty v w u = by (put_is_found ids bytes) u.1
  where
    by : ((t : Ty) (c d : Value) → Set bytes ids t c d → (part : Ty) × (node : Value) × (walked (by_ids ids) t d ≡ Ok (part, node)) × (full_in part bytes ≡ Ok node))
        → ((ids ≡ []) × New bytes id ty v w) ⊎ Through (Set bytes ids) id ty v w → (part : Ty) × (node : Value) × (walked (by_ids (id ∷ ids)) ty w ≡ Ok (part, node)) × (full_in part bytes ≡ Ok node)
    by more (inl l) = (
      l.1.0,
      l.1.1,
      walked_id id (by_ids ids) ty w ∙ ap (λ (r : Result Part ℕ). r >>= went_on (by_ids ids)) l.1.2 ∙ ap (λ (xs : List ℕ). walked (by_ids xs) l.1.0 l.1.1) l.0,
      l.1.3,
    )
    by more (inr m) =
        let f : (part : Ty) × (node : Value) × (walked (by_ids ids) m.0 m.2 ≡ Ok (part, node)) × (full_in part bytes ≡ Ok node) = more m.0 m.1 m.2 m.4 in
        (f.0, f.1, walked_id id (by_ids ids) ty w ∙ ap (λ (r : Result Part ℕ). r >>= went_on (by_ids ids)) m.3.after ∙ f.2, f.3)
