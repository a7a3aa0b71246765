-- A change of one entry is the change of the component that is meant.
use Rattle.std.proofs.Common.{◌≡◌, ℕ, Bool, true, false, List, [], ◌∷◌, ◌≤◌, ◌-◌, arith, drop, take, length, slice_get, slice_index_or, slice_set, refl, sym, ap, subst, ◌∙◌, Option, Some, None, is_some, Result, Ok, Err, if◌then◌else◌}
use Rattle.std.specs.FinMap.{entries, get, get-entries}
use Rattle.fc_base.specs.Answers.{◌>>=◌}
use Rattle.fc_base.specs.declared.faults.OpFault.{OpFault}
use Rattle.fc_path.specs.declared.oper.Step.{Step}
use Rattle.fc_path.specs.declared.oper.Step.TheVariants as step
use Rattle.fc_rows.specs.Rowed.{RowMap, Shape, updated}
use Rattle.fc_rows.proofs.Standing.{Stood, has, stood}
use Rattle.fc_tree.specs.Finding.{not_found, or_code, place_in}
use Rattle.fc_tree.specs.Merging.{merge_at_place, merge_in}
use Rattle.fc_tree.specs.Putting.{already_there, put_at_place, put_in}
use Rattle.fc_tree.specs.Removing.{remove_at_place, remove_in}
use Rattle.fc_tree.proofs.Positions.{position_found}
use Rattle.fc_types.specs.Types.{fields_of}
use Rattle.fc_types.specs.declared.ty.Field.{Field}
use Rattle.fc_types.specs.declared.ty.KeyDecl.{KeyDecl}
use Rattle.fc_types.specs.declared.ty.Ty.{Ty}
use Rattle.fc_value.specs.Keys.{keys_differ}
use Rattle.fc_value.specs.Outcomes.{Fails}
use Rattle.fc_value.specs.declared.value.Value.{Value}
use Rattle.fc_value.specs.declared.value.Value.TheVariants as value
use Rattle.fc_wire.specs.declared.ilvs.Ilv.{Ilv}
use Rattle.fc_instance.specs.Cells.{Changed, merge_cell, put_cell, remove_cell, seen_at, shape_layer, valued, value_at}
use Rattle.fc_instance.specs.Components.{Changes, entry_at_subscript, if_taken, put_entry, rekeyed, row_put, table}
use Rattle.fc_instance.specs.Histories.{Cell, Values, put_among, with_entry}
use Rattle.fc_instance.specs.declared.components.EntryPath.{EntryPath}
use Rattle.fc_instance.specs.Leading.{IsPath, Leads, LeadsBy, at_entry, entry_less, first_place, row_merge, through}
use Rattle.fc_instance.proofs.Bridge.{place_of_subscript, row_less, row_merged, rows_put}
use Rattle.fc_instance.proofs.Failing.{failed_as, failed_on}
use Rattle.fc_instance.proofs.Rowing.{rows_again}

abbrev some_of : Value → Result (Option Value) ℕ
some_of w = Ok (Some w)

-- the component with another entry, or none, at a subscript
abbrev made : RowMap → ℕ → Option Value → Result (Option Value) ℕ
made m s o = Ok (Some (value.Table (entries (updated m s o))))

abbrev cell_with : RowMap → Shape → Option (Option Cell)
cell_with m shape = Some (Some (value.Table (entries m), Some shape))

-- ---- what stands then
put_there : (m : RowMap) (shape : Shape) (c s : ℕ) (o : Option Value) (old : Values) → slice_get old c ≡ cell_with m shape → with_entry c s o old ≡ slice_set old c (Some (value.Table (entries (updated m s o)), Some shape))
put_there m shape c s o old e =
    ap (put_among c s o old) e ∙ ap (λ (n : RowMap). slice_set old c (Some (value.Table (entries (updated n s o)), Some shape))) (rows_again m)

pub by_entry : (r : Result (Unit {0}) OpFault) (ty entry : Ty) (t : Step) (c limit s : ℕ) (old new : Values) (o : Option Value) (whole : Result (Option Value) ℕ) (l : Leads ty t (slice_get old c) entry limit s)
    → whole ≡ made l.rows s o → r ≡ Ok tt → new ≡ with_entry c s o old → Changed r whole ty c old new
by_entry (Ok x) ty entry t c limit s old new o whole l e q n = (
  Some (value.Table (entries (updated l.rows s o)), Some (fields_of entry, l.keys)),
  e,
  ap shape_layer l.array,
  n ∙ put_there l.rows (fields_of entry, l.keys) c s o old l.kept,
)
by_entry (Err fault) ty entry t c limit s old new o whole l e q n = cc

pub by_row : (r : Result (Unit {0}) OpFault) (ty entry : Ty) (t : Step) (c limit s : ℕ) (old new : Values) (outcome : Result Value ℕ) (whole : Result (Option Value) ℕ) (l : Leads ty t (slice_get old c) entry limit s)
    → whole ≡ (outcome >>= λ w. made l.rows s (Some w)) → Changes r outcome (λ w. with_entry c s (Some w) old) old new → Changed r whole ty c old new
by_row (Ok x) ty entry t c limit s old new outcome whole l e h =
    by_entry (Ok x) ty entry t c limit s old new (Some h.0) whole l (e ∙ ap (λ (q : Result Value ℕ). q >>= λ w. made l.rows s (Some w)) h.1) refl h.2
by_row (Err fault) ty entry t c limit s old new outcome whole l e h =
    (failed_as fault outcome whole (λ code f. e ∙ ap (λ (q : Result Value ℕ). q >>= λ w. made l.rows s (Some w)) f) h.0, h.1)

-- ---- the outcome
taken_or : (m : RowMap) (s : ℕ) (fields : List Field) (keys : List KeyDecl) (r : Result Value ℕ)
    → (((r >>= λ w. rekeyed fields keys (updated m s (Some w))) >>= table) >>= some_of) ≡ ((r >>= if_taken s (cell_with m (fields, keys))) >>= λ w. made m s (Some w))
taken_or m s fields keys (Err code) = refl
taken_or m s fields keys (Ok w) = by (keys_differ fields keys (entries (updated m s (Some w)))) ∙ ap (λ (n : RowMap). taking (keys_differ fields keys (entries (updated n s (Some w))))) (sym (rows_again m))
  where
    taking : Bool → Result (Option Value) ℕ
    taking b = (if b then Ok w else Err already_there) >>= λ w. made m s (Some w)

    by : (b : Bool) → (((if b then Ok (updated m s (Some w)) else Err already_there) >>= table) >>= some_of) ≡ taking b
    by true = refl
    by false = refl

-- a step by a key to an entry that is there puts as its subscript does
put_same : (ty entry : Ty) (t : Step) (cell : Option (Option Cell)) (limit s : ℕ) (ss : List Step) (bytes : List ℕ) (l : Leads ty t cell entry limit s)
    → put_in (t ∷ ss) bytes ty (value.Table (entries l.rows)) ≡ put_in (step.Id s ∷ ss) bytes ty (value.Table (entries l.rows))
put_same ty entry (step.Id i) cell limit s ss bytes l = ap (λ (j : ℕ). put_in (step.Id j ∷ ss) bytes ty (value.Table (entries l.rows))) l.there
put_same ty entry (step.Key id key) cell limit s ss bytes l = by (get l.rows s) refl l.there
  where
    v : Value
    v = value.Table (entries l.rows)

    by : (o : Option Value) → get l.rows s ≡ o → is_some o ≡ true → put_in (step.Key id key ∷ ss) bytes ty v ≡ put_in (step.Id s ∷ ss) bytes ty v
    by None e y = cc
    by (Some w) e y =
        let h : Stood s (entries l.rows) w = stood s (entries l.rows) w (sym (get-entries l.rows s) ∙ e) in
        let at : place_in ty v (step.Id s) ≡ Ok (Some h.place) = place_of_subscript ty entry limit l.keys l.array (entries l.rows) s ∙ ap (λ (q : Option ℕ). Ok q) (position_found (has s) (entries l.rows) h.place h.within h.before h.here) in
        ap (λ (r : Result (Option ℕ) ℕ). r >>= put_at_place (put_in ss bytes) ss (step.Key id key) bytes ty v) (l.same ∙ at)
        ∙ sym (ap (λ (r : Result (Option ℕ) ℕ). r >>= put_at_place (put_in ss bytes) ss (step.Id s) bytes ty v) at)

pub row_puts : (ty entry : Ty) (t : Step) (cell : Option (Option Cell)) (limit s : ℕ) (ss : List Step) (bytes : List ℕ) (l : Leads ty t cell entry limit s)
    → put_cell (t ∷ ss) bytes ty (valued (seen_at cell)) ≡ (row_put ss bytes entry limit s cell >>= λ w. made l.rows s (Some w))
row_puts ty entry t cell limit s ss bytes l =
    ap (λ (x : Option (Option Cell)). put_cell (t ∷ ss) bytes ty (valued (seen_at x))) l.kept
    ∙ ap (λ (r : Result Value ℕ). r >>= some_of) (put_same ty entry t cell limit s ss bytes l ∙ rows_put ty entry limit l.keys l.array l.rows s ss bytes)
    ∙ taken_or l.rows s (fields_of entry) l.keys (put_entry ss bytes entry limit l.rows (get l.rows s))
    ∙ ap (λ (n : RowMap). (put_entry ss bytes entry limit n (get n s) >>= if_taken s (cell_with l.rows (fields_of entry, l.keys))) >>= λ w. made l.rows s (Some w)) (sym (rows_again l.rows))
    ∙ ap (λ (x : Option (Option Cell)). row_put ss bytes entry limit s x >>= λ w. made l.rows s (Some w)) (sym l.kept)

pub row_merges : (ty entry : Ty) (t : Step) (cell : Option (Option Cell)) (limit s : ℕ) (ss : List Step) (ilvs : List Ilv) (l : Leads ty t cell entry limit s)
    → merge_cell (t ∷ ss) ilvs ty (valued (seen_at cell)) ≡ (row_merge ss ilvs entry s cell >>= λ w. made l.rows s (Some w))
row_merges ty entry t cell limit s ss ilvs l =
    let v : Value = value.Table (entries l.rows) in
    ap (λ (x : Option (Option Cell)). merge_cell (t ∷ ss) ilvs ty (valued (seen_at x))) l.kept
    ∙ ap (λ (r : Result Value ℕ). r >>= some_of) (ap (λ (r : Result (Option ℕ) ℕ). r >>= merge_at_place (merge_in ss ilvs) ty v) l.same ∙ row_merged ty entry limit l.keys l.array l.rows s ss ilvs)
    ∙ taken_or l.rows s (fields_of entry) l.keys (at_entry (merge_in ss ilvs entry) (get l.rows s))
    ∙ ap (λ (n : RowMap). (at_entry (merge_in ss ilvs entry) (get n s) >>= if_taken s (cell_with l.rows (fields_of entry, l.keys))) >>= λ w. made l.rows s (Some w)) (sym (rows_again l.rows))
    ∙ ap (λ (x : Option (Option Cell)). row_merge ss ilvs entry s x >>= λ w. made l.rows s (Some w)) (sym l.kept)

pub row_removes : (ty entry : Ty) (t : Step) (cell : Option (Option Cell)) (limit s : ℕ) (ss : List Step) (l : Leads ty t cell entry limit s)
    → through (remove_in (t ∷ ss) ty) (valued (seen_at cell)) ≡ (at_entry (entry_less ss entry) (entry_at_subscript s cell) >>= made l.rows s)
row_removes ty entry t cell limit s ss l =
    let v : Value = value.Table (entries l.rows) in
    ap (λ (x : Option (Option Cell)). through (remove_in (t ∷ ss) ty) (valued (seen_at x))) l.kept
    ∙ ap (λ (r : Result Value ℕ). r >>= some_of) (ap (λ (r : Result (Option ℕ) ℕ). r >>= remove_at_place (remove_in ss) ss ty v) l.same ∙ row_less ty entry limit l.keys l.array l.rows s ss)
    ∙ by (at_entry (entry_less ss entry) (get l.rows s))
    ∙ ap (λ (n : RowMap). at_entry (entry_less ss entry) (get n s) >>= made l.rows s) (sym (rows_again l.rows))
    ∙ ap (λ (x : Option (Option Cell)). at_entry (entry_less ss entry) (entry_at_subscript s x) >>= made l.rows s) (sym l.kept)
  where
    by : (r : Result (Option Value) ℕ) → ((r >>= λ o. Ok (value.Table (entries (updated l.rows s o)))) >>= some_of) ≡ (r >>= made l.rows s)
    by (Err code) = refl
    by (Ok o) = refl

-- ---- the component as a whole
pub through_put : (t : Step) (ss : List Step) (bytes : List ℕ) (ty : Ty) (o : Option Value) → put_cell (t ∷ ss) bytes ty o ≡ through (put_in (t ∷ ss) bytes ty) o
through_put t ss bytes ty None = refl
through_put t ss bytes ty (Some v) = refl

pub through_merge : (ss : List Step) (ilvs : List Ilv) (ty : Ty) (o : Option Value) → merge_cell ss ilvs ty o ≡ through (merge_in ss ilvs ty) o
through_merge ss ilvs ty None = refl
through_merge ss ilvs ty (Some v) = refl

pub through_remove : (optional : Bool) (t : Step) (ss : List Step) (ty : Ty) (o : Option Value) → remove_cell optional (t ∷ ss) ty o ≡ through (remove_in (t ∷ ss) ty) o
through_remove optional t ss ty None = refl
through_remove optional t ss ty (Some v) = refl

-- a step that leads nowhere
pub first_puts : (fault : OpFault) (t : Step) (ss : List Step) (bytes : List ℕ) (ty : Ty) (o : Option Value) → Fails fault (first_place t ty o) → Fails fault (put_cell (t ∷ ss) bytes ty o)
first_puts fault t ss bytes ty None h = failed_as fault _ _ (λ code e. by code e) h
  where
    by : (code : ℕ) → ◌≡◌ {A = Result (Option ℕ) ℕ} (Err not_found) (Err code) → ◌≡◌ {A = Result (Option Value) ℕ} (Err not_found) (Err code)
    by code e = cc
first_puts fault t ss bytes ty (Some v) h = failed_on fault _ some_of (failed_on fault (place_in ty v t) (put_at_place (put_in ss bytes) ss t bytes ty v) h)

pub first_merges : (fault : OpFault) (t : Step) (ss : List Step) (ilvs : List Ilv) (ty : Ty) (o : Option Value) → Fails fault (first_place t ty o) → Fails fault (merge_cell (t ∷ ss) ilvs ty o)
first_merges fault t ss ilvs ty None h = failed_as fault _ _ (λ code e. by code e) h
  where
    by : (code : ℕ) → ◌≡◌ {A = Result (Option ℕ) ℕ} (Err not_found) (Err code) → ◌≡◌ {A = Result (Option Value) ℕ} (Err not_found) (Err code)
    by code e = cc
first_merges fault t ss ilvs ty (Some v) h = failed_on fault _ some_of (failed_on fault (place_in ty v t) (merge_at_place (merge_in ss ilvs) ty v) h)

pub first_removes : (fault : OpFault) (optional : Bool) (t : Step) (ss : List Step) (ty : Ty) (o : Option Value) → Fails fault (first_place t ty o) → Fails fault (remove_cell optional (t ∷ ss) ty o)
first_removes fault optional t ss ty None h = failed_as fault _ _ (λ code e. by code e) h
  where
    by : (code : ℕ) → ◌≡◌ {A = Result (Option ℕ) ℕ} (Err not_found) (Err code) → ◌≡◌ {A = Result (Option Value) ℕ} (Err not_found) (Err code)
    by code e = cc
first_removes fault optional t ss ty (Some v) h = failed_on fault _ some_of (failed_on fault (place_in ty v t) (remove_at_place (remove_in ss) ss ty v) h)

-- what fails on the way through the whole
pub no_value : (fault : OpFault) (change : Value → Result Value ℕ) (o : Option Value) → Fails fault (or_code not_found o) → Fails fault (through change o)
no_value fault change o h = failed_on fault (or_code not_found o >>= change) some_of (failed_on fault (or_code not_found o) change h)

pub not_changed : (fault : OpFault) (change : Value → Result Value ℕ) (o : Option Value) (v : Value) → or_code not_found o ≡ Ok v → Fails fault (change v) → Fails fault (through change o)
not_changed fault change o v e h =
    failed_as fault (change v) (through change o) (λ code f. ap (λ (r : Result Value ℕ). (r >>= change) >>= some_of) e ∙ ap (λ (r : Result Value ℕ). r >>= some_of) f) h

pub through_is : (change : Value → Result Value ℕ) (o : Option Value) (v w : Value) → or_code not_found o ≡ Ok v → change v ≡ Ok w → through change o ≡ Ok (Some w)
through_is change o v w e f = ap (λ (r : Result Value ℕ). (r >>= change) >>= some_of) e ∙ ap (λ (r : Result Value ℕ). r >>= some_of) f

pub changed_by : (r : Result (Unit {0}) OpFault) (one other : Result (Option Value) ℕ) (ty : Ty) (c : ℕ) (old new : Values) → one ≡ other → Changed r other ty c old new → Changed r one ty c old new
changed_by r one other ty c old new e h = subst (λ (q : Result (Option Value) ℕ). Changed r q ty c old new) (sym e) h

-- ---- the changes, as the calls come to them
take_all : {X : Type 0} (xs : List X) → take (length xs) xs ≡ xs
take_all [] = refl
take_all (x ∷ xs) = ap (λ ys. x ∷ ys) (take_all xs)

pub split : (steps : List Step) (first : Step) → 1 ≤ length steps → first ≡ slice_index_or steps 0 first → steps ≡ first ∷ take (length steps - 1) (drop 1 steps)
split [] first le e = absurd (omega arith)
split (t ∷ ts) first le e =
    let n : length (t ∷ ts) - 1 ≡ length ts = omega arith in
    (λ i. sym e i ∷ sym (ap (λ (k : ℕ). take k ts) n ∙ take_all ts) i)

-- the path to an entry that is there
path_is : (ty : Ty) (t : Step) (rest : List Step) (cell : Option (Option Cell)) (o : Option EntryPath) (path : EntryPath) → o ≡ Some path → LeadsBy ty t rest cell (Ok o)
    → Leads ty t cell path.entry.now path.limit path.subscript × (path.rest.now ≡ rest)
path_is ty t rest cell o path e h = subst (λ (x : Option EntryPath). LeadsBy ty t rest cell (Ok x)) e h

pub put_by_path : (r : Result (Unit {0}) OpFault) (ty : Ty) (c : ℕ) (old new : Values) (steps rest : List Step) (first : Step) (bytes : List ℕ) (o : Option EntryPath) (path : EntryPath) → steps ≡ first ∷ rest → o ≡ Some path
    → LeadsBy ty first rest (slice_get old c) (Ok o)
    → Changes r (row_put path.rest.now bytes path.entry.now path.limit path.subscript (slice_get old c)) (λ w. with_entry c path.subscript (Some w) old) old new → Changed r (put_cell steps bytes ty (value_at c old)) ty c old new
put_by_path r ty c old new steps rest first bytes o path e q h ch =
    let p : Leads ty first (slice_get old c) path.entry.now path.limit path.subscript × (path.rest.now ≡ rest) = path_is ty first rest (slice_get old c) o path q h in
    by_row r ty path.entry.now first c path.limit path.subscript old new (row_put path.rest.now bytes path.entry.now path.limit path.subscript (slice_get old c)) (put_cell steps bytes ty (value_at c old)) p.0
    (ap (λ (ss : List Step). put_cell ss bytes ty (value_at c old)) e ∙ row_puts ty path.entry.now first (slice_get old c) path.limit path.subscript rest bytes p.0
    ∙ ap (λ (ss : List Step). row_put ss bytes path.entry.now path.limit path.subscript (slice_get old c) >>= λ w. made p.0.rows path.subscript (Some w)) (sym p.1)) ch

pub merge_by_path : (r : Result (Unit {0}) OpFault) (ty : Ty) (c : ℕ) (old new : Values) (steps rest : List Step) (first : Step) (ilvs : List Ilv) (o : Option EntryPath) (path : EntryPath) → steps ≡ first ∷ rest → o ≡ Some path
    → LeadsBy ty first rest (slice_get old c) (Ok o)
    → Changes r (row_merge path.rest.now ilvs path.entry.now path.subscript (slice_get old c)) (λ w. with_entry c path.subscript (Some w) old) old new → Changed r (merge_cell steps ilvs ty (value_at c old)) ty c old new
merge_by_path r ty c old new steps rest first ilvs o path e q h ch =
    let p : Leads ty first (slice_get old c) path.entry.now path.limit path.subscript × (path.rest.now ≡ rest) = path_is ty first rest (slice_get old c) o path q h in
    by_row r ty path.entry.now first c path.limit path.subscript old new (row_merge path.rest.now ilvs path.entry.now path.subscript (slice_get old c)) (merge_cell steps ilvs ty (value_at c old)) p.0
    (ap (λ (ss : List Step). merge_cell ss ilvs ty (value_at c old)) e ∙ row_merges ty path.entry.now first (slice_get old c) path.limit path.subscript rest ilvs p.0
    ∙ ap (λ (ss : List Step). row_merge ss ilvs path.entry.now path.subscript (slice_get old c) >>= λ w. made p.0.rows path.subscript (Some w)) (sym p.1)) ch

removes_at : (ty entry : Ty) (t : Step) (c limit s : ℕ) (old : Values) (steps rest : List Step) (l : Leads ty t (slice_get old c) entry limit s) → steps ≡ t ∷ rest
    → through (remove_in steps ty) (value_at c old) ≡ (at_entry (entry_less rest entry) (entry_at_subscript s (slice_get old c)) >>= made l.rows s)
removes_at ty entry t c limit s old steps rest l e = ap (λ (ss : List Step). through (remove_in ss ty) (value_at c old)) e ∙ row_removes ty entry t (slice_get old c) limit s rest l

pub row_not_removed : (ty : Ty) (c : ℕ) (old : Values) (steps : List Step) (path : EntryPath) (fault : OpFault) → IsPath ty steps (slice_get old c) path
    → Fails fault (at_entry (entry_less path.rest.now path.entry.now) (entry_at_subscript path.subscript (slice_get old c))) → Fails fault (through (remove_in steps ty) (value_at c old))
row_not_removed ty c old [] path fault p h = absurd p
row_not_removed ty c old (t ∷ ts) path fault p h =
    failed_as fault (at_entry (entry_less path.rest.now path.entry.now) (entry_at_subscript path.subscript (slice_get old c))) (through (remove_in (t ∷ ts) ty) (value_at c old))
    (λ code f. removes_at ty path.entry.now t c path.limit path.subscript old (t ∷ ts) path.rest.now p.0 (ap (λ (ss : List Step). t ∷ ss) (sym p.1)) ∙ ap (λ (r : Result (Option Value) ℕ). r >>= made p.0.rows path.subscript) f) h

pub row_is_removed : (ty : Ty) (c : ℕ) (old new : Values) (steps : List Step) (path : EntryPath) (o : Option Value) (done : Bool) → IsPath ty steps (slice_get old c) path
    → at_entry (entry_less path.rest.now path.entry.now) (entry_at_subscript path.subscript (slice_get old c)) ≡ Ok o → done ≡ true → new ≡ (if done then with_entry c path.subscript o old else old)
    → Changed (Ok tt) (through (remove_in steps ty) (value_at c old)) ty c old new
row_is_removed ty c old new [] path o done p f d n = absurd p
row_is_removed ty c old new (t ∷ ts) path o done p f d n =
    by_entry (Ok tt) ty path.entry.now t c path.limit path.subscript old new o (through (remove_in (t ∷ ts) ty) (value_at c old)) p.0
    (removes_at ty path.entry.now t c path.limit path.subscript old (t ∷ ts) path.rest.now p.0 (ap (λ (ss : List Step). t ∷ ss) (sym p.1)) ∙ ap (λ (r : Result (Option Value) ℕ). r >>= made p.0.rows path.subscript) f) refl
    (n ∙ ap (λ (b : Bool). if b then with_entry c path.subscript o old else old) d)

pub leads_along : (ty : Ty) (cell : Option (Option Cell)) (steps rest : List Step) (first : Step) (o : Option EntryPath) (path : EntryPath) → steps ≡ first ∷ rest → o ≡ Some path → LeadsBy ty first rest cell (Ok o) → IsPath ty steps cell path
leads_along ty cell steps rest first o path e q h = subst (λ (ss : List Step). IsPath ty ss cell path) (sym e) (path_is ty first rest cell o path q h)
