-- What a SET, a merge and a DEL change of a component of a store, cell by cell.
use Rattle.std.proofs.Common.{◌≡◌, ℕ, Bool, true, false, List, [], ◌∷◌, ◌++◌, refl, sym, ap, subst, ◌∙◌, Option, Some, None, Result, Ok, Err, if◌then◌else◌}
use Rattle.std.specs.List.{AllByRecursion}
use Rattle.fc_base.specs.Answers.{◌>>=◌}
use Rattle.fc_path.specs.declared.oper.Spot.{Spot}
use Rattle.fc_path.specs.declared.oper.Step.{Step}
use Rattle.fc_tree.specs.Finding.{not_found, walked}
use Rattle.fc_tree.specs.Merging.{merge_in}
use Rattle.fc_tree.specs.Putting.{put_in}
use Rattle.fc_tree.specs.Removing.{remove_in}
use Rattle.fc_types.specs.Components.{ComponentDecl}
use Rattle.fc_types.specs.Libraries.{IsLibrary}
use Rattle.fc_types.specs.Sound.{IsSound}
use Rattle.fc_types.specs.declared.ty.Ty.{Ty}
use Rattle.fc_value.specs.Fits.{Fits}
use Rattle.fc_value.specs.Nodes.{are_apart}
use Rattle.fc_value.specs.Outcomes.{invalid_parameters}
use Rattle.fc_value.specs.Reading.{full_in}
use Rattle.fc_value.specs.declared.value.Value.{Value}
use Rattle.fc_wire.specs.declared.ilvs.Ilv.{Ilv}
use Rattle.fc_instance.specs.Cells.{look_cell, merge_cell, put_cell, remove_cell}
use Rattle.fc_cells.specs.Cells.{Node, by_ids, some_cell}
use Rattle.fc_cells.specs.Places.{IsFree, at_place, is_named, keys_of, place}
use Rattle.fc_cells.proofs.Merging.{Merged, merge_under, merged_above, puts_are_found, unnamed_stay}
use Rattle.fc_cells.proofs.Placing.{removed_at_ids}
use Rattle.fc_cells.proofs.Removing.{Nothing, Taken, freed, gone, removed_under}
use Rattle.fc_cells.proofs.Setting.{New, Read, set_under}
use Rattle.fc_cells.proofs.Under.{Never, above_stays, others_stay}
use Rattle.fc_store.specs.Stores.{AreIds, Change, Found, Stored, further, merge_spot, put_spot, remove_spot, seen, value_in}
use Rattle.fc_store.specs.declared.spots.Purpose.{Purpose}
use Rattle.fc_store.specs.declared.spots.Purpose.TheVariants as purpose
use Rattle.fc_store.proofs.Apart.{Made, made}
use Rattle.fc_store.proofs.Doing.{err_ok, ok_is}
use Rattle.fc_store.proofs.PutFound.{put_found}
use Rattle.fc_configuration.specs.Fitting.{AreFitting, FitsComponent}
use Rattle.fc_configuration.specs.Sites.{Site, cell_at, spot_at, spot_by}
use Rattle.fc_configuration.proofs.Fitting.{standing, value_is}
use Rattle.fc_configuration.proofs.Here.{fitting_is_whole, now_there, seen_after, seen_before, seen_stays}
use Rattle.fc_configuration.proofs.Places.{sound_in}

-- ---- one component
abbrev pub DoesFit : Ty → Option Value → Type 0
DoesFit ty None = Unit {0}
DoesFit ty (Some v) = Fits ty v

pub fits_so : (d : ComponentDecl) (o : Option Value) → FitsComponent d o → DoesFit d.ty o
fits_so d None h = tt
fits_so d (Some v) h = h

pub some_of : (r : Result Value ℕ) (v : Option Value) → (r >>= λ w. Ok (Some w)) ≡ Ok v → (w : Value) × (r ≡ Ok w) × (Some w ≡ v)
some_of (Err code) v e = absurd (err_ok code v e)
some_of (Ok w) v e = (w, refl, ok_is (Some w) v e)

-- what is seen of a component at other places stays
abbrev Same : List ℕ → Ty → Option Value → Option Value → Type 0
Same others ty o v = look_cell (by_ids others) ty v ≡ look_cell (by_ids others) ty o

-- and above the place structs and arrays
abbrev Branches : List ℕ → Ty → Option Value → Option Value → Type 0
Branches front ty o v = (some_cell (look_cell (by_ids front) ty o) ≡ Some Node) × (some_cell (look_cell (by_ids front) ty v) ≡ Some Node)

put_same : (ids bytes others : List ℕ) (ty : Ty) (o v : Option Value) → put_cell (by_ids ids) bytes ty o ≡ Ok v → are_apart ids others ≡ true → Same others ty o v
put_same [] bytes others ty o v e a = absurd (cc)
put_same (id ∷ ids) bytes others ty None v e a = absurd (err_ok not_found v e)
put_same (id ∷ ids) bytes others ty (Some u) v e a =
    let w = some_of (put_in (by_ids (id ∷ ids)) bytes ty u) v e in
    subst (Same others ty (Some u)) w.2 (others_stay (New bytes) (Read bytes) (id ∷ ids) others ty u w.0 (set_under (id ∷ ids) bytes ty u w.0 w.1) a)

put_branches : (front : List ℕ) (id : ℕ) (ids bytes : List ℕ) (ty : Ty) (o v : Option Value) → put_cell (by_ids (front ++ id ∷ ids)) bytes ty o ≡ Ok v → Branches front ty o v
put_branches [] id ids bytes ty None v e = absurd (err_ok not_found v e)
put_branches (j ∷ front) id ids bytes ty None v e = absurd (err_ok not_found v e)
put_branches [] id ids bytes ty (Some u) v e =
    let w = some_of (put_in (by_ids (id ∷ ids)) bytes ty u) v e in
    subst (Branches [] ty (Some u)) w.2 (above_stays (New bytes) (Read bytes) [] id ids ty u w.0 (set_under (id ∷ ids) bytes ty u w.0 w.1))
put_branches (j ∷ front) id ids bytes ty (Some u) v e =
    let w = some_of (put_in (by_ids (j ∷ front ++ id ∷ ids)) bytes ty u) v e in
    subst (Branches (j ∷ front) ty (Some u)) w.2 (above_stays (New bytes) (Read bytes) (j ∷ front) id ids ty u w.0 (set_under (j ∷ front ++ id ∷ ids) bytes ty u w.0 w.1))

merge_same : (ids : List ℕ) (ilvs : List Ilv) (others : List ℕ) (ty : Ty) (o v : Option Value) → merge_cell (by_ids ids) ilvs ty o ≡ Ok v → are_apart ids others ≡ true → Same others ty o v
merge_same ids ilvs others ty None v e a = absurd (err_ok not_found v e)
merge_same ids ilvs others ty (Some u) v e a =
    let w = some_of (merge_in (by_ids ids) ilvs ty u) v e in
    subst (Same others ty (Some u)) w.2 (others_stay Never (Merged ilvs) ids others ty u w.0 (merge_under ids ilvs ty u w.0 w.1) a)

merge_unnamed : (ids : List ℕ) (ilvs : List Ilv) (id : ℕ) (others : List ℕ) (ty : Ty) (o v : Option Value) → merge_cell (by_ids ids) ilvs ty o ≡ Ok v → is_named ilvs id ≡ false → Same (ids ++ id ∷ others) ty o v
merge_unnamed ids ilvs id others ty None v e n = absurd (err_ok not_found v e)
merge_unnamed ids ilvs id others ty (Some u) v e n =
    let w = some_of (merge_in (by_ids ids) ilvs ty u) v e in
    subst (Same (ids ++ id ∷ others) ty (Some u)) w.2 (unnamed_stay ids ilvs id others ty u w.0 (merge_under ids ilvs ty u w.0 w.1) n)

merge_branches : (front ids : List ℕ) (ilvs : List Ilv) (ty : Ty) (o v : Option Value) → merge_cell (by_ids (front ++ ids)) ilvs ty o ≡ Ok v → Branches front ty o v
merge_branches front ids ilvs ty None v e = absurd (err_ok not_found v e)
merge_branches front ids ilvs ty (Some u) v e =
    let w = some_of (merge_in (by_ids (front ++ ids)) ilvs ty u) v e in
    subst (Branches front ty (Some u)) w.2 (merged_above front ids ilvs ty u w.0 (merge_under (front ++ ids) ilvs ty u w.0 w.1))

-- each value of a merge is found
abbrev FoundBelow : List ℕ → Ty → Option Value → Ilv → Type 0
FoundBelow ids ty v ilv = Found ilv.value (look_cell (by_ids (ids ++ ilv.ident ∷ [])) ty v)

pub all_map : {A : Type 0} (P Q : A → Type 0) (xs : List A) → ((x : A) → P x → Q x) → AllByRecursion P xs → AllByRecursion Q xs
all_map P Q [] f a = tt
all_map P Q (x ∷ xs) f a = (f x a.0, all_map P Q xs f a.1)

merge_found : (ids : List ℕ) (ilvs : List Ilv) (ty : Ty) (o v : Option Value) → DoesFit ty o → merge_cell (by_ids ids) ilvs ty o ≡ Ok v → AllByRecursion (FoundBelow ids ty v) ilvs
merge_found ids ilvs ty None v h e = absurd (err_ok not_found v e)
merge_found ids ilvs ty (Some u) v h e =
    let w = some_of (merge_in (by_ids ids) ilvs ty u) v e in
    subst (λ o. AllByRecursion (FoundBelow ids ty o) ilvs) w.2
    (all_map (λ (ilv : Ilv). (part : Ty) × (node : Value) × (walked (by_ids (ids ++ ilv.ident ∷ [])) ty w.0 ≡ Ok (part, node)) × (full_in part ilv.value ≡ Ok node)) (FoundBelow ids ty (Some w.0)) ilvs
    (λ ilv f. ((f.0, f.1), f.2, f.3)) (puts_are_found 8 ids ilvs ty u w.0 h (merge_under ids ilvs ty u w.0 w.1)))

remove_same : (optional : Bool) (ids others : List ℕ) (ty : Ty) (o v : Option Value) → IsSound ty → DoesFit ty o → remove_cell optional (by_ids ids) ty o ≡ Ok v → are_apart ids others ≡ true → Same others ty o v
remove_same optional ids others ty None v s h e a = absurd (err_ok not_found v e)
remove_same optional [] others ty (Some u) v s h e a = absurd (cc)
remove_same optional (id ∷ ids) others ty (Some u) v s h e a =
    let w = some_of (remove_in (by_ids (id ∷ ids)) ty u) v e in
    subst (Same others ty (Some u)) w.2 (others_stay Taken Nothing (id ∷ ids) others ty u w.0 (removed_under (id ∷ ids) 8 ty u w.0 s h w.1) a)

remove_branches : (optional : Bool) (front : List ℕ) (id : ℕ) (ids : List ℕ) (ty : Ty) (o v : Option Value) → IsSound ty → DoesFit ty o → remove_cell optional (by_ids (front ++ id ∷ ids)) ty o ≡ Ok v
    → Branches front ty o v
remove_branches optional front id ids ty None v s h e = absurd (err_ok not_found v e)
remove_branches optional [] id ids ty (Some u) v s h e =
    let w = some_of (remove_in (by_ids (id ∷ ids)) ty u) v e in
    subst (Branches [] ty (Some u)) w.2 (above_stays Taken Nothing [] id ids ty u w.0 (removed_under (id ∷ ids) 8 ty u w.0 s h w.1))
remove_branches optional (j ∷ front) id ids ty (Some u) v s h e =
    let w = some_of (remove_in (by_ids (j ∷ front ++ id ∷ ids)) ty u) v e in
    subst (Branches (j ∷ front) ty (Some u)) w.2 (above_stays Taken Nothing (j ∷ front) id ids ty u w.0 (removed_under (j ∷ front ++ id ∷ ids) 8 ty u w.0 s h w.1))

gone_by : (path : List Step) (ty : Ty) (u w : Value) (r : Result (List ℕ) ℕ) → IsSound ty → Fits ty u → place path ty u ≡ r → at_place (λ ids. remove_in ids ty u) r ≡ Ok w → walked path ty w ≡ Err not_found
gone_by path ty u w (Err code) s h p e = absurd (err_ok code w e)
gone_by path ty u w (Ok ids) s h p e = gone ids path 8 ty u w s h e p

absent_of : (b : Bool) (v : Option Value) → (if b then Ok None else Err invalid_parameters) ≡ Ok v → None ≡ v
absent_of true v e = ok_is None v e
absent_of false v e = absurd (err_ok invalid_parameters v e)

remove_gone : (optional : Bool) (path : List Step) (ty : Ty) (o v : Option Value) → IsSound ty → DoesFit ty o → remove_cell optional path ty o ≡ Ok v → look_cell path ty v ≡ Err not_found
remove_gone optional path ty None v s h e = absurd (err_ok not_found v e)
remove_gone optional [] ty (Some u) v s h e = ap (look_cell [] ty) (sym (absent_of optional v e))
remove_gone optional (t ∷ path) ty (Some u) v s h e =
    let w = some_of (remove_in (t ∷ path) ty u) v e in
    ap (look_cell (t ∷ path) ty) (sym w.2) ∙ gone_by (t ∷ path) ty u w.0 (place (t ∷ path) ty u) s h refl (sym (removed_at_ids 8 (t ∷ path) ty u h) ∙ w.1)

remove_freed : (optional : Bool) (front : List ℕ) (id : ℕ) (ty array entry : Ty) (o v : Option Value) (node old : Value) → IsSound ty → DoesFit ty o
    → remove_cell optional (by_ids (front ++ id ∷ [])) ty o ≡ Ok v → look_cell (by_ids (front ++ id ∷ [])) ty o ≡ Ok (entry, old) → look_cell (by_ids front) ty v ≡ Ok (array, node)
    → AllByRecursion (IsFree entry old node) (keys_of array)
remove_freed optional front id ty array entry None v node old s h e f g = absurd (err_ok not_found v e)
remove_freed optional [] id ty array entry (Some u) v node old s h e f g =
    let w = some_of (remove_in (by_ids (id ∷ [])) ty u) v e in
    freed [] 8 id ty array entry u w.0 node old h (removed_under (id ∷ []) 8 ty u w.0 s h w.1) f (ap (look_cell [] ty) w.2 ∙ g)
remove_freed optional (j ∷ front) id ty array entry (Some u) v node old s h e f g =
    let w = some_of (remove_in (by_ids (j ∷ front ++ id ∷ [])) ty u) v e in
    freed (j ∷ front) 8 id ty array entry u w.0 node old h (removed_under (j ∷ front ++ id ∷ []) 8 ty u w.0 s h w.1) f (ap (look_cell (by_ids (j ∷ front)) ty) w.2 ∙ g)

-- ---- and of the store
-- the value before the change fits
pub fits_before : (f : Change) (a : Spot) (s t : Stored) (m : Made f a s t) → AreFitting s → DoesFit m.d.ty (value_in s m.place)
fits_before f a s t m h =
    let p = standing purpose.Write a s m.place m.d h m.leads m.declared in
    subst (DoesFit m.d.ty) (sym (value_is a s m.place m.d p)) (fits_so m.d p.value p.fit)

pub sound_here : (f : Change) (a : Spot) (s t : Stored) (m : Made f a s t) → IsLibrary s.library → IsSound m.d.ty
sound_here f a s t m l = sound_in s.library a.class m.place.1 m.d l m.declared

-- another place of the component that was changed
other_stays : (f : Change) (p : Purpose) (site : Site) (path : List Step) (others : List ℕ) (s t : Stored) (m : Made f (spot_at site path) s t) → AreFitting s → Same others m.d.ty (value_in s m.place) m.v
    → seen p (spot_by site others) t ≡ seen p (spot_by site others) s
other_stays f p site path others s t m h same =
    seen_stays f p (spot_at site path) (spot_by site others) s t m (λ c i k. ap (look_cell (by_ids others) m.d.ty) (now_there f (spot_at site path) s t m h) ∙ same)

-- the same component, at whatever path within it
abbrev pub made_at : (f : Change) (site : Site) (path to : List Step) (s t : Stored) → Made f (spot_at site path) s t → Made f (spot_at site to) s t
made_at f site path to s t m = record { place = m.place; d = m.d; v = m.v; leads = m.leads; declared = m.declared; gives = m.gives; is = m.is }

above_stay : (f : Change) (site : Site) (path : List Step) (front : List ℕ) (s t : Stored) (m : Made f (spot_at site path) s t) → AreFitting s → Branches front m.d.ty (value_in s m.place) m.v
    → (cell_at s site front ≡ Some Node) × (cell_at t site front ≡ Some Node)
above_stay f site path front s t m h b =
    let n = made_at f site path (by_ids front) s t m in
    (ap some_cell (seen_before f (spot_by site front) s t n) ∙ b.0, ap some_cell (seen_after f (spot_by site front) s t n h) ∙ b.1)

are_ids : (ids : List ℕ) → AreIds (by_ids ids)
are_ids [] = tt
are_ids (id ∷ ids) = are_ids ids

pub set_found : (site : Site) (ids bytes : List ℕ) (s t : Stored) → AreFitting s → put_spot (spot_by site ids) bytes s ≡ Ok t → Found bytes (seen purpose.Look (spot_by site ids) t)
set_found site ids bytes s t h e = put_found (spot_by site ids) bytes s t (are_ids ids) (fitting_is_whole s h) e

pub set_other : (p : Purpose) (site : Site) (ids bytes others : List ℕ) (s t : Stored) → AreFitting s → put_spot (spot_by site ids) bytes s ≡ Ok t → are_apart ids others ≡ true
    → seen p (spot_by site others) t ≡ seen p (spot_by site others) s
set_other p site ids bytes others s t h e a =
    let m = made (λ d o. put_cell (by_ids ids) bytes d.ty o) (spot_by site ids) s t e in
    other_stays (λ d o. put_cell (by_ids ids) bytes d.ty o) p site (by_ids ids) others s t m h (put_same ids bytes others m.d.ty (value_in s m.place) m.v m.gives a)

pub set_above : (site : Site) (front : List ℕ) (id : ℕ) (ids bytes : List ℕ) (s t : Stored) → AreFitting s → put_spot (spot_by site (front ++ id ∷ ids)) bytes s ≡ Ok t
    → (cell_at s site front ≡ Some Node) × (cell_at t site front ≡ Some Node)
set_above site front id ids bytes s t h e =
    let m = made (λ d o. put_cell (by_ids (front ++ id ∷ ids)) bytes d.ty o) (spot_by site (front ++ id ∷ ids)) s t e in
    above_stay (λ d o. put_cell (by_ids (front ++ id ∷ ids)) bytes d.ty o) site (by_ids (front ++ id ∷ ids)) front s t m h (put_branches front id ids bytes m.d.ty (value_in s m.place) m.v m.gives)

pub merge_is_found : (site : Site) (ids : List ℕ) (ilvs : List Ilv) (s t : Stored) → AreFitting s → merge_spot (spot_by site ids) ilvs s ≡ Ok t
    → AllByRecursion (λ (ilv : Ilv). Found ilv.value (seen purpose.Look (spot_by site (ids ++ ilv.ident ∷ [])) t)) ilvs
merge_is_found site ids ilvs s t h e =
    let f : Change = λ d o. merge_cell (by_ids ids) ilvs d.ty o in
    let m = made f (spot_by site ids) s t e in
    all_map (FoundBelow ids m.d.ty m.v) (λ (ilv : Ilv). Found ilv.value (seen purpose.Look (spot_by site (ids ++ ilv.ident ∷ [])) t)) ilvs
    (λ ilv g. (g.0, seen_after f (spot_by site (ids ++ ilv.ident ∷ [])) s t (made_at f site (by_ids ids) (by_ids (ids ++ ilv.ident ∷ [])) s t m) h ∙ g.1, g.2))
    (merge_found ids ilvs m.d.ty (value_in s m.place) m.v (fits_before f (spot_by site ids) s t m h) m.gives)

pub merge_other : (p : Purpose) (site : Site) (ids : List ℕ) (ilvs : List Ilv) (others : List ℕ) (s t : Stored) → AreFitting s → merge_spot (spot_by site ids) ilvs s ≡ Ok t → are_apart ids others ≡ true
    → seen p (spot_by site others) t ≡ seen p (spot_by site others) s
merge_other p site ids ilvs others s t h e a =
    let m = made (λ d o. merge_cell (by_ids ids) ilvs d.ty o) (spot_by site ids) s t e in
    other_stays (λ d o. merge_cell (by_ids ids) ilvs d.ty o) p site (by_ids ids) others s t m h (merge_same ids ilvs others m.d.ty (value_in s m.place) m.v m.gives a)

pub merge_leaves : (p : Purpose) (site : Site) (ids : List ℕ) (ilvs : List Ilv) (id : ℕ) (others : List ℕ) (s t : Stored) → AreFitting s → merge_spot (spot_by site ids) ilvs s ≡ Ok t → is_named ilvs id ≡ false
    → seen p (spot_by site (ids ++ id ∷ others)) t ≡ seen p (spot_by site (ids ++ id ∷ others)) s
merge_leaves p site ids ilvs id others s t h e n =
    let m = made (λ d o. merge_cell (by_ids ids) ilvs d.ty o) (spot_by site ids) s t e in
    other_stays (λ d o. merge_cell (by_ids ids) ilvs d.ty o) p site (by_ids ids) (ids ++ id ∷ others) s t m h (merge_unnamed ids ilvs id others m.d.ty (value_in s m.place) m.v m.gives n)

pub merge_above : (site : Site) (front ids : List ℕ) (ilvs : List Ilv) (s t : Stored) → AreFitting s → merge_spot (spot_by site (front ++ ids)) ilvs s ≡ Ok t
    → (cell_at s site front ≡ Some Node) × (cell_at t site front ≡ Some Node)
merge_above site front ids ilvs s t h e =
    let m = made (λ d o. merge_cell (by_ids (front ++ ids)) ilvs d.ty o) (spot_by site (front ++ ids)) s t e in
    above_stay (λ d o. merge_cell (by_ids (front ++ ids)) ilvs d.ty o) site (by_ids (front ++ ids)) front s t m h (merge_branches front ids ilvs m.d.ty (value_in s m.place) m.v m.gives)

pub removal_gone : (spot : Spot) (s t : Stored) → IsLibrary s.library → AreFitting s → remove_spot spot s ≡ Ok t → seen purpose.Look spot t ≡ Err not_found
removal_gone spot s t l h e =
    let f : Change = λ d o. remove_cell d.optional (further spot.steps) d.ty o in
    let m = made f spot s t e in
    seen_after f spot s t m h ∙ remove_gone m.d.optional (further spot.steps) m.d.ty (value_in s m.place) m.v (sound_here f spot s t m l) (fits_before f spot s t m h) m.gives

pub removal_frees : (site : Site) (front : List ℕ) (id : ℕ) (s t : Stored) (array entry : Ty) (node old : Value) → IsLibrary s.library → AreFitting s → remove_spot (spot_by site (front ++ id ∷ [])) s ≡ Ok t
    → seen purpose.Look (spot_by site (front ++ id ∷ [])) s ≡ Ok (entry, old) → seen purpose.Look (spot_by site front) t ≡ Ok (array, node) → AllByRecursion (IsFree entry old node) (keys_of array)
removal_frees site front id s t array entry node old l h e q r =
    let f : Change = λ d o. remove_cell d.optional (by_ids (front ++ id ∷ [])) d.ty o in
    let a : Spot = spot_by site (front ++ id ∷ []) in
    let m = made f a s t e in
    remove_freed m.d.optional front id m.d.ty array entry (value_in s m.place) m.v node old (sound_here f a s t m l) (fits_before f a s t m h) m.gives
    (sym (seen_before f a s t m) ∙ q) (sym (seen_after f (spot_by site front) s t (made_at f site (by_ids (front ++ id ∷ [])) (by_ids front) s t m) h) ∙ r)

pub removal_other : (p : Purpose) (site : Site) (ids others : List ℕ) (s t : Stored) → IsLibrary s.library → AreFitting s → remove_spot (spot_by site ids) s ≡ Ok t → are_apart ids others ≡ true
    → seen p (spot_by site others) t ≡ seen p (spot_by site others) s
removal_other p site ids others s t l h e a =
    let f : Change = λ d o. remove_cell d.optional (by_ids ids) d.ty o in
    let m = made f (spot_by site ids) s t e in
    other_stays f p site (by_ids ids) others s t m h
    (remove_same m.d.optional ids others m.d.ty (value_in s m.place) m.v (sound_here f (spot_by site ids) s t m l) (fits_before f (spot_by site ids) s t m h) m.gives a)

pub removal_above : (site : Site) (front : List ℕ) (id : ℕ) (ids : List ℕ) (s t : Stored) → IsLibrary s.library → AreFitting s → remove_spot (spot_by site (front ++ id ∷ ids)) s ≡ Ok t
    → (cell_at s site front ≡ Some Node) × (cell_at t site front ≡ Some Node)
removal_above site front id ids s t l h e =
    let f : Change = λ d o. remove_cell d.optional (by_ids (front ++ id ∷ ids)) d.ty o in
    let a : Spot = spot_by site (front ++ id ∷ ids) in
    let m = made f a s t e in
    above_stay f site (by_ids (front ++ id ∷ ids)) front s t m h
    (remove_branches m.d.optional front id ids m.d.ty (value_in s m.place) m.v (sound_here f a s t m l) (fits_before f a s t m h) m.gives)
