-- Spots with keys: the one place to which each leads, and what a change elsewhere in its component leaves of it.
use Rattle.std.proofs.Common.{◌≡◌, ℕ, Bool, true, List, [], ◌∷◌, ◌++◌, slice_get, refl, sym, ap, subst, ◌∙◌, Option, Some, None, Result, Ok, Err}
use Rattle.std.specs.List.{AllByRecursion}
use Rattle.fc_base.specs.Answers.{◌>>=◌}
use Rattle.fc_path.specs.declared.oper.Step.{Step}
use Rattle.fc_path.specs.declared.oper.Step.TheVariants as step
use Rattle.fc_tree.specs.Finding.{invalid_path, no_component, not_found, part_at, place_in, walked}
use Rattle.fc_tree.specs.Merging.{merge_in}
use Rattle.fc_tree.specs.Putting.{put_in}
use Rattle.fc_tree.specs.Removing.{remove_in}
use Rattle.fc_types.specs.Components.{ComponentDecl}
use Rattle.fc_types.specs.Libraries.{IsLibrary}
use Rattle.fc_types.specs.Sound.{IsSound}
use Rattle.fc_types.specs.declared.ty.Ty.{Ty}
use Rattle.fc_value.specs.Fits.{Fits}
use Rattle.fc_value.specs.Nodes.{are_apart}
use Rattle.fc_value.specs.declared.value.Value.{Value}
use Rattle.fc_wire.specs.declared.ilvs.Ilv.{Ilv}
use Rattle.fc_instance.specs.Cells.{look_cell, merge_cell, put_cell, remove_cell}
use Rattle.fc_cells.specs.Cells.{by_ids}
use Rattle.fc_cells.specs.Places.{at_place, id_of, leaves, new_place, place, place_behind, place_from}
use Rattle.fc_cells.proofs.Merging.{merge_under, unmoved}
use Rattle.fc_cells.proofs.Placing.{merged_at_ids, put_at_ids, removed_at_ids, walked_at}
use Rattle.fc_cells.proofs.Removing.{remains}
use Rattle.fc_cells.proofs.Setting.{New, Read, set_under}
use Rattle.fc_cells.proofs.Under.{paths_stay}
use Rattle.fc_store.specs.Stores.{Change, Stored, changed, changed_at, declared_in, merge_spot, put_spot, remove_spot, seen, seen_at, value_in, with_value}
use Rattle.fc_store.specs.Spots.{resolved}
use Rattle.fc_store.specs.declared.spots.Purpose.{Purpose}
use Rattle.fc_store.specs.declared.spots.Purpose.TheVariants as purpose
use Rattle.fc_store.proofs.Apart.{Made, made}
use Rattle.fc_store.proofs.Doing.{err_ok, ok_is}
use Rattle.fc_configuration.specs.Fitting.{AreFitting}
use Rattle.fc_configuration.specs.Sites.{Site, spot_at, spot_by}
use Rattle.fc_configuration.proofs.Changing.{DoesFit, fits_before, fits_so, made_at, some_of, sound_here}
use Rattle.fc_configuration.proofs.Fitting.{Standing, standing, value_is}
use Rattle.fc_configuration.proofs.Here.{looks, now_there, seen_before, seen_stays}

-- ---- the component at a site
abbrev resolves : Purpose → Stored → Site → Result (ℕ × ℕ) ℕ
resolves p s site = resolved p s.library s.instances site.class site.instance (step.Id site.component ∷ [])

-- what a site has, of the type and the value that are found there
record Has (s : Stored) (site : Site) (ty : Ty) (v : Value) : Type 0 where
  place : ℕ × ℕ
  leads : resolves purpose.Look s site ≡ Ok place
  d : ComponentDecl
  declared : slice_get (declared_in s.library site.class) place.1 ≡ Some d
  typed : d.ty ≡ ty
  valued : value_in s place ≡ Some v

same_both : (ty t : Ty) (v w : Value) → (let r : Result (Ty × Value) ℕ = Ok (ty, v) in r ≡ Ok (t, w)) → (ty ≡ t) × (v ≡ w)
same_both ty t v w e = let p = ok_is (ty, v) (t, w) e in (ap (λ (x : Ty × Value). x.0) p, ap (λ (x : Ty × Value). x.1) p)

has_by : (s : Stored) (site : Site) (ty : Ty) (v : Value) (place : ℕ × ℕ) (d : ComponentDecl) (o : Option Value) → resolves purpose.Look s site ≡ Ok place
    → slice_get (declared_in s.library site.class) place.1 ≡ Some d → value_in s place ≡ o → look_cell [] d.ty o ≡ Ok (ty, v) → Has s site ty v
has_by s site ty v place d None l f g e = absurd (err_ok not_found (ty, v) e)
has_by s site ty v place d (Some u) l f g e =
    let b = same_both d.ty ty u v e in
    record { place = place; leads = l; d = d; declared = f; typed = b.0; valued = g ∙ ap Some b.1 }

has_in : (s : Stored) (site : Site) (ty : Ty) (v : Value) (place : ℕ × ℕ) (o : Option ComponentDecl) → resolves purpose.Look s site ≡ Ok place → slice_get (declared_in s.library site.class) place.1 ≡ o
    → seen_at (spot_at site []) s place o ≡ Ok (ty, v) → Has s site ty v
has_in s site ty v place None l f e = absurd (err_ok no_component (ty, v) e)
has_in s site ty v place (Some d) l f e = has_by s site ty v place d (value_in s place) l f refl e

has_at : (s : Stored) (site : Site) (ty : Ty) (v : Value) (r : Result (ℕ × ℕ) ℕ) → resolves purpose.Look s site ≡ r
    → (r >>= λ place. seen_at (spot_at site []) s place (slice_get (declared_in s.library site.class) place.1)) ≡ Ok (ty, v) → Has s site ty v
has_at s site ty v (Err code) l e = absurd (err_ok code (ty, v) e)
has_at s site ty v (Ok place) l e = has_in s site ty v place (slice_get (declared_in s.library site.class) place.1) l refl e

has : (s : Stored) (site : Site) (ty : Ty) (v : Value) → seen purpose.Look (spot_at site []) s ≡ Ok (ty, v) → Has s site ty v
has s site ty v e = has_at s site ty v (resolves purpose.Look s site) refl e

has_fits : (s : Stored) (site : Site) (ty : Ty) (v : Value) → AreFitting s → Has s site ty v → Fits ty v
has_fits s site ty v h m =
    let t : Standing (spot_at site []) s m.place m.d = standing purpose.Look (spot_at site []) s m.place m.d h m.leads m.declared in
    let o : DoesFit m.d.ty (Some v) = subst (DoesFit m.d.ty) (sym (value_is (spot_at site []) s m.place m.d t) ∙ m.valued) (fits_so m.d t.value t.fit) in
    subst (λ u. Fits u v) m.typed o

-- ---- two paths to one place
changes_same : (f g : Change) (site : Site) (path to : List Step) (s : Stored) (ty : Ty) (v : Value) (m : Has s site ty v) → f m.d (Some v) ≡ g m.d (Some v) → changed f (spot_at site path) s ≡ changed g (spot_at site to) s
changes_same f g site path to s ty v m same = by (resolves purpose.Write s site) refl
  where
    by : (r : Result (ℕ × ℕ) ℕ) → resolves purpose.Write s site ≡ r
        → (r >>= λ place. changed_at f s place (slice_get (declared_in s.library site.class) place.1)) ≡ (r >>= λ place. changed_at g s place (slice_get (declared_in s.library site.class) place.1))
    by (Err code) e = refl
    by (Ok j) e =
        let k : m.place ≡ j = ok_is m.place j (sym m.leads ∙ looks purpose.Write s (spot_at site []) j e) in
        let w : f m.d (value_in s m.place) ≡ g m.d (value_in s m.place) = ap (f m.d) m.valued ∙ same ∙ sym (ap (g m.d) m.valued) in
        subst (λ (q : ℕ × ℕ). changed_at f s q (slice_get (declared_in s.library site.class) q.1) ≡ changed_at g s q (slice_get (declared_in s.library site.class) q.1)) k
        (ap (changed_at f s m.place) m.declared ∙ ap (λ r. r >>= λ x. Ok (with_value s m.place x)) w ∙ sym (ap (changed_at g s m.place) m.declared))

looks_same : (p : Purpose) (site : Site) (path to : List Step) (s : Stored) (ty : Ty) (v : Value) (m : Has s site ty v) → walked path m.d.ty v ≡ walked to m.d.ty v → seen p (spot_at site path) s ≡ seen p (spot_at site to) s
looks_same p site path to s ty v m same = by (resolves p s site) refl
  where
    by : (r : Result (ℕ × ℕ) ℕ) → resolves p s site ≡ r
        → (r >>= λ place. seen_at (spot_at site path) s place (slice_get (declared_in s.library site.class) place.1)) ≡ (r >>= λ place. seen_at (spot_at site to) s place (slice_get (declared_in s.library site.class) place.1))
    by (Err code) e = refl
    by (Ok j) e =
        let k : m.place ≡ j = ok_is m.place j (sym m.leads ∙ looks p s (spot_at site []) j e) in
        subst (λ (q : ℕ × ℕ). seen_at (spot_at site path) s q (slice_get (declared_in s.library site.class) q.1) ≡ seen_at (spot_at site to) s q (slice_get (declared_in s.library site.class) q.1)) k
        (ap (seen_at (spot_at site path) s m.place) m.declared ∙ ap (look_cell path m.d.ty) m.valued ∙ same
        ∙ sym (ap (seen_at (spot_at site to) s m.place) m.declared ∙ ap (look_cell to m.d.ty) m.valued))

put_some : (path : List Step) (bytes : List ℕ) (ty : Ty) (v : Value) → put_cell path bytes ty (Some v) ≡ (put_in path bytes ty v >>= λ w. Ok (Some w))
put_some [] bytes ty v = refl
put_some (s ∷ path) bytes ty v = refl

-- a path with a step leads to a place with one
place_has : (s : Step) (path : List Step) (ty : Ty) (v : Value) → place (s ∷ path) ty v ≡ Ok [] → ⊥
place_has s path ty v e = by (place_in ty v s) e
  where
    none_new : (path : List Step) (s : Step) → new_place path s ≡ Ok [] → ⊥
    none_new [] (step.Id id) e = cc
    none_new [] (step.Key id bytes) e = err_ok not_found [] e
    none_new (t ∷ ts) s e = err_ok not_found [] e

    with_id : (id : ℕ) (r : Result (List ℕ) ℕ) → (r >>= λ ids. Ok (id ∷ ids)) ≡ Ok [] → ⊥
    with_id id (Err code) e = err_ok code [] e
    with_id id (Ok ids) e = cc

    behind : (id : ℕ) (o : Option (Ty × Value)) → place_behind (place path) id o ≡ Ok [] → ⊥
    behind id None e = err_ok invalid_path [] e
    behind id (Some x) e = with_id id (place path x.0 x.1) e

    named : (i : ℕ) (r : Result ℕ ℕ) → (r >>= λ id. place_behind (place path) id (part_at i ty v)) ≡ Ok [] → ⊥
    named i (Err code) e = err_ok code [] e
    named i (Ok id) e = behind id (part_at i ty v) e

    by : (r : Result (Option ℕ) ℕ) → (r >>= place_from (place path) path s ty v) ≡ Ok [] → ⊥
    by (Err code) e = err_ok code [] e
    by (Ok None) e = none_new path s e
    by (Ok (Some i)) e = named i (id_of s i v) e

remove_some : (optional : Bool) (path : List Step) (ids : List ℕ) (ty : Ty) (v : Value) → Fits ty v → place path ty v ≡ Ok ids → remove_cell optional path ty (Some v) ≡ remove_cell optional (by_ids ids) ty (Some v)
remove_some optional [] ids ty v h p = ap (λ js. remove_cell optional (by_ids js) ty (Some v)) (ok_is [] ids p)
remove_some optional (s ∷ path) [] ty v h p = absurd (place_has s path ty v p)
remove_some optional (s ∷ path) (id ∷ ids) ty v h p =
    ap (λ r. r >>= λ w. Ok (Some w)) (removed_at_ids 8 (s ∷ path) ty v h ∙ ap (at_place (λ js. remove_in js ty v)) p)

-- the type that the site declares is that of what is found there
typed_fits : (s : Stored) (site : Site) (ty : Ty) (v : Value) (m : Has s site ty v) → AreFitting s → Fits m.d.ty v
typed_fits s site ty v m h = subst (λ u. Fits u v) (sym m.typed) (has_fits s site ty v h m)

typed_place : (s : Stored) (site : Site) (ty : Ty) (v : Value) (m : Has s site ty v) (path : List Step) (ids : List ℕ) → place path ty v ≡ Ok ids → place path m.d.ty v ≡ Ok ids
typed_place s site ty v m path ids p = ap (λ u. place path u v) m.typed ∙ p

pub found_by_ids : (p : Purpose) (site : Site) (path : List Step) (ids : List ℕ) (s : Stored) (ty : Ty) (v : Value) → AreFitting s → seen purpose.Look (spot_at site []) s ≡ Ok (ty, v) → place path ty v ≡ Ok ids
    → seen p (spot_at site path) s ≡ seen p (spot_by site ids) s
found_by_ids p site path ids s ty v h e q =
    let m = has s site ty v e in
    looks_same p site path (by_ids ids) s ty v m
    (walked_at 8 path m.d.ty v (typed_fits s site ty v m h) ∙ ap (at_place (λ js. walked js m.d.ty v)) (typed_place s site ty v m path ids q))

pub put_by_ids : (site : Site) (path : List Step) (ids bytes : List ℕ) (s : Stored) (ty : Ty) (v : Value) → AreFitting s → seen purpose.Look (spot_at site []) s ≡ Ok (ty, v) → place path ty v ≡ Ok ids
    → put_spot (spot_at site path) bytes s ≡ put_spot (spot_by site ids) bytes s
put_by_ids site path ids bytes s ty v h e q =
    let m = has s site ty v e in
    changes_same (λ d o. put_cell path bytes d.ty o) (λ d o. put_cell (by_ids ids) bytes d.ty o) site path (by_ids ids) s ty v m
    (put_some path bytes m.d.ty v
    ∙ ap (λ r. r >>= λ w. Ok (Some w)) (put_at_ids bytes 8 path m.d.ty v (typed_fits s site ty v m h) ∙ ap (at_place (λ js. put_in js bytes m.d.ty v)) (typed_place s site ty v m path ids q))
    ∙ sym (put_some (by_ids ids) bytes m.d.ty v))

pub merged_by_ids : (site : Site) (path : List Step) (ids : List ℕ) (ilvs : List Ilv) (s : Stored) (ty : Ty) (v : Value) → AreFitting s → seen purpose.Look (spot_at site []) s ≡ Ok (ty, v) → place path ty v ≡ Ok ids
    → merge_spot (spot_at site path) ilvs s ≡ merge_spot (spot_by site ids) ilvs s
merged_by_ids site path ids ilvs s ty v h e q =
    let m = has s site ty v e in
    changes_same (λ d o. merge_cell path ilvs d.ty o) (λ d o. merge_cell (by_ids ids) ilvs d.ty o) site path (by_ids ids) s ty v m
    (ap (λ r. r >>= λ w. Ok (Some w)) (merged_at_ids ilvs 8 path m.d.ty v (typed_fits s site ty v m h) ∙ ap (at_place (λ js. merge_in js ilvs m.d.ty v)) (typed_place s site ty v m path ids q)))

pub removed_by_ids : (site : Site) (path : List Step) (ids : List ℕ) (s : Stored) (ty : Ty) (v : Value) → AreFitting s → seen purpose.Look (spot_at site []) s ≡ Ok (ty, v) → place path ty v ≡ Ok ids
    → remove_spot (spot_at site path) s ≡ remove_spot (spot_by site ids) s
removed_by_ids site path ids s ty v h e q =
    let m = has s site ty v e in
    changes_same (λ d o. remove_cell d.optional path d.ty o) (λ d o. remove_cell d.optional (by_ids ids) d.ty o) site path (by_ids ids) s ty v m
    (remove_some m.d.optional path ids m.d.ty v (typed_fits s site ty v m h) (typed_place s site ty v m path ids q))

-- ---- a path with keys beside a change
-- what the change of a component does to a path that led somewhere
abbrev Kept : List Step → Ty → Value → Option Value → Type 0
Kept path ty u o = (y : Ty × Value) → walked path ty u ≡ Ok y → look_cell path ty o ≡ Ok y

path_stays : (f : Change) (p : Purpose) (site : Site) (way path : List Step) (s t : Stored) (m : Made f (spot_at site way) s t) (u : Value) (y : Ty × Value) → AreFitting s → value_in s m.place ≡ Some u
    → Kept path m.d.ty u m.v → seen purpose.Look (spot_at site path) s ≡ Ok y → seen p (spot_at site path) t ≡ seen p (spot_at site path) s
path_stays f p site way path s t m u y h g kept e =
    let n = made_at f site way path s t m in
    let b : look_cell path m.d.ty (value_in s m.place) ≡ Ok y = sym (seen_before f (spot_at site path) s t n) ∙ e in
    let w : walked path m.d.ty u ≡ Ok y = sym (ap (look_cell path m.d.ty) g) ∙ b in
    seen_stays f p (spot_at site way) (spot_at site path) s t m (λ c i k. ap (look_cell path m.d.ty) (now_there f (spot_at site way) s t m h) ∙ kept y w ∙ sym b)

-- the site of the change has what is found there
record Within (f : Change) (site : Site) (way : List Step) (s t : Stored) (m : Made f (spot_at site way) s t) (ty : Ty) (v : Value) : Type 0 where
  typed : m.d.ty ≡ ty
  valued : value_in s m.place ≡ Some v

within_by : (f : Change) (site : Site) (way : List Step) (s t : Stored) (m : Made f (spot_at site way) s t) (ty : Ty) (v : Value) (o : Option Value) → value_in s m.place ≡ o → look_cell [] m.d.ty o ≡ Ok (ty, v) → Within f site way s t m ty v
within_by f site way s t m ty v None g e = absurd (err_ok not_found (ty, v) e)
within_by f site way s t m ty v (Some u) g e = let b = same_both m.d.ty ty u v e in record { typed = b.0; valued = g ∙ ap Some b.1 }

within : (f : Change) (site : Site) (way : List Step) (s t : Stored) (m : Made f (spot_at site way) s t) (ty : Ty) (v : Value) → seen purpose.Look (spot_at site []) s ≡ Ok (ty, v) → Within f site way s t m ty v
within f site way s t m ty v e =
    within_by f site way s t m ty v (value_in s m.place) refl (sym (seen_before f (spot_at site []) s t (made_at f site way [] s t m)) ∙ e)

put_kept : (ids bytes : List ℕ) (path : List Step) (others : List ℕ) (ty : Ty) (u : Value) (v : Option Value) → Fits ty u → put_cell (by_ids ids) bytes ty (Some u) ≡ Ok v → place path ty u ≡ Ok others → leaves ids path others ty ≡ true
    → Kept path ty u v
put_kept [] bytes path others ty u v h e p a y w = absurd (cc)
put_kept (id ∷ ids) bytes path others ty u v h e p a y w =
    let x = some_of (put_in (by_ids (id ∷ ids)) bytes ty u) v e in
    ap (look_cell path ty) (sym x.2) ∙ (paths_stay (New bytes) (Read bytes) (id ∷ ids) path 8 others ty u x.0 y h (set_under (id ∷ ids) bytes ty u x.0 x.1) a p w).1

merge_kept : (ids : List ℕ) (first : Ilv) (more : List Ilv) (path : List Step) (others : List ℕ) (ty : Ty) (u : Value) (v : Option Value) → Fits ty u → merge_cell (by_ids ids) (first ∷ more) ty (Some u) ≡ Ok v
    → place path ty u ≡ Ok others → AllByRecursion (λ (ilv : Ilv). leaves (ids ++ ilv.ident ∷ []) path others ty ≡ true) (first ∷ more) → Kept path ty u v
merge_kept ids first more path others ty u v h e p a y w =
    let x = some_of (merge_in (by_ids ids) (first ∷ more) ty u) v e in
    ap (look_cell path ty) (sym x.2) ∙ (unmoved ids path 8 first more others ty u x.0 y h (merge_under ids (first ∷ more) ty u x.0 x.1) p w a).1

remove_kept : (optional : Bool) (ids : List ℕ) (path : List Step) (others : List ℕ) (ty : Ty) (u : Value) (v : Option Value) → IsSound ty → Fits ty u → remove_cell optional (by_ids ids) ty (Some u) ≡ Ok v → place path ty u ≡ Ok others
    → are_apart ids others ≡ true → Kept path ty u v
remove_kept optional [] path others ty u v s h e p a y w = absurd (cc)
remove_kept optional (id ∷ ids) path others ty u v s h e p a y w =
    let x = some_of (remove_in (by_ids (id ∷ ids)) ty u) v e in
    ap (look_cell path ty) (sym x.2) ∙ (remains (id ∷ ids) path 8 others ty u x.0 y s h x.1 a p w).1

-- with what the site has in the place of what the change finds
abbrev Keeps : (f : Change) (site : Site) (way : List Step) (s t : Stored) (path : List Step) (ty : Ty) (v : Value) → Type 0
Keeps f site way s t path ty v = (m : Made f (spot_at site way) s t) → m.d.ty ≡ ty → value_in s m.place ≡ Some v → Fits m.d.ty v → Kept path m.d.ty v m.v

pub path_kept : (f : Change) (p : Purpose) (site : Site) (way path : List Step) (s t : Stored) (ty : Ty) (v : Value) (y : Ty × Value) → AreFitting s → changed f (spot_at site way) s ≡ Ok t → seen purpose.Look (spot_at site []) s ≡ Ok (ty, v)
    → Keeps f site way s t path ty v → seen purpose.Look (spot_at site path) s ≡ Ok y → seen p (spot_at site path) t ≡ seen p (spot_at site path) s
path_kept f p site way path s t ty v y h e k keeps g =
    let m = made f (spot_at site way) s t e in
    let w = within f site way s t m ty v k in
    let fits : Fits m.d.ty v = subst (DoesFit m.d.ty) w.valued (fits_before f (spot_at site way) s t m h) in
    path_stays f p site way path s t m v y h w.valued (keeps m w.typed w.valued fits) g

pub set_path : (p : Purpose) (site : Site) (ids bytes : List ℕ) (path : List Step) (others : List ℕ) (s t : Stored) (ty : Ty) (v : Value) (y : Ty × Value) → AreFitting s → put_spot (spot_by site ids) bytes s ≡ Ok t
    → seen purpose.Look (spot_at site []) s ≡ Ok (ty, v) → place path ty v ≡ Ok others → leaves ids path others ty ≡ true → seen purpose.Look (spot_at site path) s ≡ Ok y
    → seen p (spot_at site path) t ≡ seen p (spot_at site path) s
set_path p site ids bytes path others s t ty v y h e k q a g =
    path_kept (λ d o. put_cell (by_ids ids) bytes d.ty o) p site (by_ids ids) path s t ty v y h e k
    (λ m typed valued fits. put_kept ids bytes path others m.d.ty v m.v fits (ap (put_cell (by_ids ids) bytes m.d.ty) (sym valued) ∙ m.gives) (ap (λ u. place path u v) typed ∙ q) (ap (leaves ids path others) typed ∙ a)) g

pub merge_path : (p : Purpose) (site : Site) (ids : List ℕ) (first : Ilv) (more : List Ilv) (path : List Step) (others : List ℕ) (s t : Stored) (ty : Ty) (v : Value) (y : Ty × Value) → AreFitting s
    → merge_spot (spot_by site ids) (first ∷ more) s ≡ Ok t → seen purpose.Look (spot_at site []) s ≡ Ok (ty, v) → place path ty v ≡ Ok others
    → AllByRecursion (λ (ilv : Ilv). leaves (ids ++ ilv.ident ∷ []) path others ty ≡ true) (first ∷ more) → seen purpose.Look (spot_at site path) s ≡ Ok y → seen p (spot_at site path) t ≡ seen p (spot_at site path) s
merge_path p site ids first more path others s t ty v y h e k q a g =
    path_kept (λ d o. merge_cell (by_ids ids) (first ∷ more) d.ty o) p site (by_ids ids) path s t ty v y h e k
    (λ m typed valued fits. merge_kept ids first more path others m.d.ty v m.v fits (ap (merge_cell (by_ids ids) (first ∷ more) m.d.ty) (sym valued) ∙ m.gives) (ap (λ u. place path u v) typed ∙ q)
    (subst (λ u. AllByRecursion (λ (ilv : Ilv). leaves (ids ++ ilv.ident ∷ []) path others u ≡ true) (first ∷ more)) (sym typed) a)) g

pub removal_path : (p : Purpose) (site : Site) (ids : List ℕ) (path : List Step) (others : List ℕ) (s t : Stored) (ty : Ty) (v : Value) (y : Ty × Value) → IsLibrary s.library → AreFitting s → remove_spot (spot_by site ids) s ≡ Ok t
    → seen purpose.Look (spot_at site []) s ≡ Ok (ty, v) → place path ty v ≡ Ok others → are_apart ids others ≡ true → seen purpose.Look (spot_at site path) s ≡ Ok y
    → seen p (spot_at site path) t ≡ seen p (spot_at site path) s
removal_path p site ids path others s t ty v y l h e k q a g =
    let f : Change = λ d o. remove_cell d.optional (by_ids ids) d.ty o in
    path_kept f p site (by_ids ids) path s t ty v y h e k
    (λ m typed valued fits. remove_kept m.d.optional ids path others m.d.ty v m.v (sound_here f (spot_by site ids) s t m l) fits (ap (remove_cell m.d.optional (by_ids ids) m.d.ty) (sym valued) ∙ m.gives)
    (ap (λ u. place path u v) typed ∙ q) a) g
