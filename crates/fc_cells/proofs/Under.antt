-- A change at a place: what it leaves above and beside the place.
use Rattle.std.proofs.Common.{◌≡◌, ℕ, zero, suc, ◌==◌, Bool, true, false, ◌&&◌, List, [], ◌∷◌, ◌++◌, refl, sym, ap, subst, ◌∙◌, Option, Some, None, Result, Ok, if◌then◌else◌, ◌⊎◌, inl, inr, eqb-true}
use Rattle.fc_base.specs.Answers.{◌>>=◌}
use Rattle.fc_path.specs.declared.oper.Step.{Step}
use Rattle.fc_path.specs.declared.oper.Step.TheVariants as step
use Rattle.fc_tree.specs.Finding.{walked}
use Rattle.fc_types.specs.Types.{is_atom}
use Rattle.fc_types.specs.declared.ty.KeyDecl.{KeyDecl}
use Rattle.fc_types.specs.declared.ty.Ty.{Ty}
use Rattle.fc_types.proofs.Bools.{both, was_false}
use Rattle.fc_value.specs.Fits.{FitsIn}
use Rattle.fc_value.specs.Nodes.{are_apart}
use Rattle.fc_value.specs.Sparse.{part_of}
use Rattle.fc_value.specs.declared.value.Value.{Value}
use Rattle.fc_cells.specs.Cells.{Atom, Node, by_ids, cell, some_cell}
use Rattle.fc_cells.specs.Places.{is_made_without, leaves, place, some_part, spares}
use Rattle.fc_cells.proofs.Steps.{Led, Part, Went, led, ok_same, placed_behind, reached, reached_by, walked_id, went, went_on}
use Rattle.fc_cells.proofs.Beside.{Changed, KeepsKey, Level}
use Rattle.fc_cells.proofs.Placing.{part_fits, went_by_id}

nothing_named : {X : Type 0} (id : ℕ) (ids : List ℕ) → ◌≡◌ {A = List ℕ} (id ∷ ids) [] → X
nothing_named id ids e = absurd (cc)

pub branch_cell : (ty : Ty) (v : Value) → is_atom ty ≡ false → some_cell (Ok (ty, v)) ≡ Some Node
branch_cell ty v e = ap (λ (b : Bool). Some (if b then Atom v else Node)) e

-- ---- one step of a path
-- a step that leads to the part leads to what becomes of it
abbrev pub Keeps : Ty → Step → Ty → Value → Value → Type 0
Keeps ty (step.Id m) t c d = Unit {0}
Keeps ty (step.Key m bytes) t c d = KeepsKey ty m t c d

-- a step is a step to the part with its ID
pub same_part : (n : ℕ) (id : ℕ) (s : Step) (ty t : Ty) (v c : Value) (x : Part) → FitsIn (suc n) ty v → reached (step.Id id) ty v ≡ Ok (id, t, c) → Went s ty v x → x.0 ≡ id → x ≡ (id, t, c)
same_part n id s ty t v c x h r w e =
    let own : Went (step.Id x.0) ty v x = went_by_id n s ty v x h w in
    ok_same x (id, t, c) (sym (reached_by (step.Id x.0) ty v x own) ∙ ap (λ (k : ℕ). reached (step.Id k) ty v) e ∙ r)

pub moved : (n : ℕ) (id : ℕ) (s : Step) (ty t : Ty) (v w c d : Value) (x : Part) → FitsIn (suc n) ty v → Level id ty v w t c d → Keeps ty s t c d → Went s ty v x → x.0 ≡ id → Went s ty w (id, t, d)
moved n id (step.Id m) ty t v w c d x h l k q e =
    let same : m ≡ id = ok_same m x.0 q.named ∙ e in went (step.Id m) ty w (id, t, d) (ap (λ (k : ℕ). reached (step.Id k) ty w) same ∙ l.after)
moved n id (step.Key m bytes) ty t v w c d x h l k q e =
    let same : x ≡ (id, t, c) = same_part n id (step.Key m bytes) ty t v c x h l.before q e in
    went (step.Key m bytes) ty w (id, t, d) (l.by_key m bytes k (reached_by (step.Key m bytes) ty v x q ∙ ap (λ (z : Part). Ok z) same))

-- a path through the part
pub along : (n : ℕ) (id : ℕ) (s : Step) (path : List Step) (j : ℕ) (others : List ℕ) (ty : Ty) (v w : Value) (t : Ty) (c d : Value) (y : Ty × Value) → FitsIn (suc n) ty v → Level id ty v w t c d → id ≡ j → Keeps ty s t c d
    → Led s path ty v j others y → (FitsIn n t c → place path t c ≡ Ok others → walked path t c ≡ Ok y → (place path t d ≡ Ok others) × (walked path t d ≡ Ok y))
    → (place (s ∷ path) ty w ≡ Ok (j ∷ others)) × (walked (s ∷ path) ty w ≡ Ok y)
along n id s path j others ty v w t c d y h lev own k l more =
    let e : l.part.0 ≡ id = l.named ∙ sym own in
    let at : l.part ≡ (id, t, c) = same_part n id s ty t v c l.part h lev.before l.went e in
    let p : place path t c ≡ Ok others = subst (λ (x : Part). place path x.1 x.2 ≡ Ok others) at l.place in
    let q : walked path t c ≡ Ok y = subst (λ (x : Part). walked path x.1 x.2 ≡ Ok y) at l.walked in
    let f : FitsIn n t c = part_fits n (step.Id id) ty v (id, t, c) h (went (step.Id id) ty v (id, t, c) lev.before) in
    let r : (place path t d ≡ Ok others) × (walked path t d ≡ Ok y) = more f p q in
    placed_behind s path ty w (id, t, d) j others y (moved n id s ty t v w c d l.part h lev k l.went e) own r.0 r.1

-- a path by another part
pub aside : (id : ℕ) (s : Step) (path : List Step) (j : ℕ) (others : List ℕ) (ty : Ty) (v w : Value) (y : Ty × Value) → Changed id ty v w → (l : Led s path ty v j others y) → (id == j) ≡ false
    → (place (s ∷ path) ty w ≡ Ok (j ∷ others)) × (walked (s ∷ path) ty w ≡ Ok y)
aside id s path j others ty v w y u l t =
    let f : (id == l.part.0) ≡ false = ap (λ (k : ℕ). id == k) l.named ∙ t in
    let there : Went s ty w l.part = went s ty w l.part (u.beside.stay.steps s l.part f (reached_by s ty v l.part l.went)) in
    placed_behind s path ty w l.part j others y there l.named l.place l.walked

-- one step on the way to a place
abbrev pub Through : (Ty → Value → Value → Type 0) → ℕ → Ty → Value → Value → Type 0
Through More id ty v w =
    (t : Ty) × (c : Value) × (d : Value) × Level id ty v w t c d × More t c d

-- `Last` tells what becomes of the last part of a place, where that is made or taken, and `End` what becomes of what stands there
module _ (Last : ℕ → Ty → Value → Value → Type 0) (End : Ty → Value → Value → Type 0) where
  abbrev pub Under : List ℕ → Ty → Value → Value → Type 0
  Under [] ty v w = End ty v w
  Under (id ∷ ids) ty v w = Changed id ty v w × (((ids ≡ []) × Last id ty v w) ⊎ Through (Under ids) id ty v w)

  -- ---- places beside it
  abbrev Stays : List ℕ → List ℕ → Type 0
  Stays ids others = (ty : Ty) (v w : Value) → Under ids ty v w → are_apart ids others ≡ true → walked (by_ids others) ty w ≡ walked (by_ids others) ty v

  other_step : (id : ℕ) (ids : List ℕ) (j : ℕ) (others : List ℕ) → Stays ids others → (ty : Ty) (v w : Value) → Under (id ∷ ids) ty v w → (b : Bool) → (id == j) ≡ b
      → (if b then are_apart ids others else true) ≡ true → walked (by_ids (j ∷ others)) ty w ≡ walked (by_ids (j ∷ others)) ty v
  other_step id ids j others more ty v w u false t a =
      walked_id j (by_ids others) ty w ∙ ap (λ (r : Result Part ℕ). r >>= went_on (by_ids others)) (u.0.beside.stay.ids j t) ∙ sym (walked_id j (by_ids others) ty v)
  other_step id ids j others more ty v w u true t a = by u.1
    where
      same : id ≡ j
      same = eqb-true id j t

      by : ((ids ≡ []) × Last id ty v w) ⊎ Through (Under ids) id ty v w → walked (by_ids (j ∷ others)) ty w ≡ walked (by_ids (j ∷ others)) ty v
      by (inl l) = let n : are_apart [] others ≡ true = subst (λ (xs : List ℕ). are_apart xs others ≡ true) l.0 a in absurd (cc)
      by (inr m) =
          ap (λ (k : ℕ). walked (by_ids (k ∷ others)) ty w) (sym same) ∙ walked_id id (by_ids others) ty w ∙ ap (λ (r : Result Part ℕ). r >>= went_on (by_ids others)) m.3.after
          ∙ more m.0 m.1 m.2 m.4 a
          ∙ sym (ap (λ (k : ℕ). walked (by_ids (k ∷ others)) ty v) (sym same) ∙ walked_id id (by_ids others) ty v ∙ ap (λ (r : Result Part ℕ). r >>= went_on (by_ids others)) m.3.before)

  pub others_stay : (ids others : List ℕ) → Stays ids others
  others_stay [] others ty v w u a = absurd (cc)
  others_stay (id ∷ ids) [] ty v w u a = absurd (cc)
  others_stay (id ∷ ids) (j ∷ others) ty v w u a = other_step id ids j others (others_stay ids others) ty v w u (id == j) refl a

  -- ---- places above it
  abbrev Whole : List ℕ → Type 0
  Whole front = (id : ℕ) (ids : List ℕ) (ty : Ty) (v w : Value) → Under (front ++ id ∷ ids) ty v w → (cell front ty v ≡ Some Node) × (cell front ty w ≡ Some Node)

  pub above_stays : (front : List ℕ) → Whole front
  above_stays [] id ids ty v w u = (branch_cell ty v u.0.beside.branch, branch_cell ty w u.0.beside.branch)
  above_stays (f ∷ front) id ids ty v w u = by (above_stays front id ids) u.1
    where
      some_left : {X : Type 0} (xs : List ℕ) → (xs ++ id ∷ ids) ≡ [] → X
      some_left [] e = nothing_named id ids e
      some_left (x ∷ xs) e = nothing_named x (xs ++ id ∷ ids) e

      by : ((ty : Ty) (v w : Value) → Under (front ++ id ∷ ids) ty v w → (cell front ty v ≡ Some Node) × (cell front ty w ≡ Some Node))
          → (((front ++ id ∷ ids) ≡ []) × Last f ty v w) ⊎ Through (Under (front ++ id ∷ ids)) f ty v w → (cell (f ∷ front) ty v ≡ Some Node) × (cell (f ∷ front) ty w ≡ Some Node)
      by more (inl l) = some_left front l.0
      by more (inr m) =
          let rest : (cell front m.0 m.1 ≡ Some Node) × (cell front m.0 m.2 ≡ Some Node) = more m.0 m.1 m.2 m.4 in (
            ap some_cell (walked_id f (by_ids front) ty v ∙ ap (λ (r : Result Part ℕ). r >>= went_on (by_ids front)) m.3.before) ∙ rest.0,
            ap some_cell (walked_id f (by_ids front) ty w ∙ ap (λ (r : Result Part ℕ). r >>= went_on (by_ids front)) m.3.after) ∙ rest.1,
          )

  -- ---- paths that leave it
  abbrev Leads : List ℕ → List Step → Type 0
  Leads ids path = (n : ℕ) (others : List ℕ) (ty : Ty) (v w : Value) (y : Ty × Value) → FitsIn n ty v → Under ids ty v w → leaves ids path others ty ≡ true → place path ty v ≡ Ok others → walked path ty v ≡ Ok y
      → (place path ty w ≡ Ok others) × (walked path ty w ≡ Ok y)

  -- the change goes on in another part of the part
  next_keeps : (ids : List ℕ) (ty t : Ty) (v w c d : Value) → Under ids t c d → (s : Step) → spares ty s ids ≡ true → Keeps ty s t c d
  next_keeps ids ty t v w c d u (step.Id m) a = tt
  next_keeps [] ty t v w c d u (step.Key m bytes) a = absurd (cc)
  next_keeps (f ∷ ids) ty t v w c d u (step.Key m bytes) a = λ key is. u.0.kept key (was_false _ (sym (ap (λ (o : Option KeyDecl). is_made_without o f) is) ∙ a))

  path_step : (id : ℕ) (ids : List ℕ) (s : Step) (path : List Step) (j : ℕ) (others : List ℕ) → Leads ids path → (n : ℕ) (ty : Ty) (v w : Value) (y : Ty × Value) → FitsIn n ty v → Under (id ∷ ids) ty v w → (l : Led s path ty v j others y)
      → (b : Bool) → (id == j) ≡ b → (if b then spares ty s ids && some_part (leaves ids path others) (part_of ty id) else true) ≡ true → (place (s ∷ path) ty w ≡ Ok (j ∷ others)) × (walked (s ∷ path) ty w ≡ Ok y)
  path_step id ids s path j others more n ty v w y h u l false t a = aside id s path j others ty v w y u.0 l t
  path_step id ids s path j others more zero ty v w y h u l true t a = absurd h
  path_step id ids s path j others more (suc n) ty v w y h u l true t a = by u.1
    where
      parts : (spares ty s ids ≡ true) × (some_part (leaves ids path others) (part_of ty id) ≡ true)
      parts = both _ _ a

      by : ((ids ≡ []) × Last id ty v w) ⊎ Through (Under ids) id ty v w → (place (s ∷ path) ty w ≡ Ok (j ∷ others)) × (walked (s ∷ path) ty w ≡ Ok y)
      by (inl k) = never_leaves (part_of ty id) (subst (λ (xs : List ℕ). some_part (leaves xs path others) (part_of ty id) ≡ true) k.0 parts.1)
        where
          never_leaves : {X : Type 0} (o : Option Ty) → some_part (leaves [] path others) o ≡ true → X
          never_leaves None e = absurd (cc)
          never_leaves (Some part) e = absurd (cc)
      by (inr m) =
          along n id s path j others ty v w m.0 m.1 m.2 y h m.3 (eqb-true id j t) (next_keeps ids ty m.0 v w m.1 m.2 m.4 s parts.0) l
          (λ f p e. more n others m.0 m.1 m.2 y f m.4 (sym (ap (some_part (leaves ids path others)) m.3.typed) ∙ parts.1) p e)

  pub paths_stay : (ids : List ℕ) (path : List Step) → Leads ids path
  paths_stay [] path n others ty v w y h u a p e = absurd (cc)
  paths_stay (id ∷ ids) [] n others ty v w y h u a p e = absurd (cc)
  paths_stay (id ∷ ids) (s ∷ path) n [] ty v w y h u a p e = absurd (cc)
  paths_stay (id ∷ ids) (s ∷ path) n (j ∷ others) ty v w y h u a p e =
      path_step id ids s path j others (paths_stay ids path) n ty v w y h u (led s path ty v j others y p e) (id == j) refl a

-- ---- a change that ends at its place
abbrev pub Never : ℕ → Ty → Value → Value → Type 0
Never id ty v w = ⊥

pub ids_joined : (ids others : List ℕ) → by_ids (ids ++ others) ≡ by_ids ids ++ by_ids others
ids_joined [] others = refl
ids_joined (id ∷ ids) others = ap (λ (path : List Step). step.Id id ∷ path) (ids_joined ids others)

module _ (End : Ty → Value → Value → Type 0) where
  -- what stands at the place, and that paths through it go on from there
  pub record Down (ids : List ℕ) (ty : Ty) (v w : Value) : Type 0 where
    pub part : Ty
    pub old : Value
    pub new : Value
    pub end : End part old new
    pub before : (path : List Step) → walked (by_ids ids ++ path) ty v ≡ walked path part old
    pub after : (path : List Step) → walked (by_ids ids ++ path) ty w ≡ walked path part new

  pub down : (ids : List ℕ) (ty : Ty) (v w : Value) → Under Never End ids ty v w → Down ids ty v w
  down [] ty v w u = record {
    part = ty;
    old = v;
    new = w;
    end = u;
    before = λ path. refl;
    after = λ path. refl;
  }
  down (id ∷ ids) ty v w u = by (down ids) u.1
    where
      by : ((t : Ty) (c d : Value) → Under Never End ids t c d → Down ids t c d) → ((ids ≡ []) × ⊥) ⊎ Through (Under Never End ids) id ty v w → Down (id ∷ ids) ty v w
      by more (inl l) = absurd l.1
      by more (inr m) =
          let d : Down ids m.0 m.1 m.2 = more m.0 m.1 m.2 m.4 in record {
            part = d.part;
            old = d.old;
            new = d.new;
            end = d.end;
            before = λ path. walked_id id (by_ids ids ++ path) ty v ∙ ap (λ (r : Result Part ℕ). r >>= went_on (by_ids ids ++ path)) m.3.before ∙ d.before path;
            after = λ path. walked_id id (by_ids ids ++ path) ty w ∙ ap (λ (r : Result Part ℕ). r >>= went_on (by_ids ids ++ path)) m.3.after ∙ d.after path;
          }
