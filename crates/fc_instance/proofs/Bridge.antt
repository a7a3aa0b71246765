-- An array that is a component changes as its entries do.
use Rattle.std.proofs.Common.{◌≡◌, ℕ, Bool, true, false, nat_le, T, List, [], ◌∷◌, slice_get, slice_set, position, refl, sym, ap, ◌∙◌, Option, Some, None, option_map, Result, Ok, Err, if◌then◌else◌}
use Rattle.std.specs.Bool.{IsTrue}
use Rattle.std.specs.List.{remove}
use Rattle.std.specs.Ordering.{nat_cmp}
use Rattle.std.specs.Cmp.{nat_cmp_total}
use Rattle.std.specs.FinMap as map
use Rattle.std.specs.FinMap.{nat_cmp-IsAntisymmetric, put, is_sorted, entries, entries_sorted, entries-insert, entries-from_sorted, from_sorted, get, get-entries, len, len-entries}
use Rattle.fc_path.specs.declared.oper.Step.{Step}
use Rattle.fc_path.specs.declared.oper.Step.TheVariants as step
use Rattle.fc_tree.specs.Finding.{entries_layer, entries_of, paired, part_at, part_layer, part_type, place_in, place_layer}
use Rattle.fc_tree.specs.Putting.{already_there, checked, checked_layer, created, created_layer, entered, keyed, no_room, put_at_place, put_in, put_new, put_part}
use Rattle.fc_tree.specs.Merging.{merge_at_place, merge_in}
use Rattle.fc_tree.specs.Removing.{remove_at, remove_at_place, remove_in, remove_part, taken, taken_layer}
use Rattle.fc_tree.proofs.Places as places
use Rattle.fc_tree.proofs.Positions.{position_found, position_none}
use Rattle.fc_types.specs.Types.{fields_of}
use Rattle.fc_types.specs.declared.ty.KeyDecl.{KeyDecl}
use Rattle.fc_types.specs.declared.ty.Ty.{Ty}
use Rattle.fc_types.specs.declared.ty.Ty.TheOpen.{Ty-F}
use Rattle.fc_types.specs.declared.ty.Ty.TheViews.{out-Ty}
use Rattle.fc_value.specs.Keys.{keys_differ}
use Rattle.fc_value.specs.Nodes.{child, child_layer, with_child, with_child_layer, with_entry}
use Rattle.fc_base.specs.Answers.{◌>>=◌}
use Rattle.fc_value.specs.Reading.{full_in}
use Rattle.fc_value.specs.declared.value.Value.{Value, out-Value, roll-Value}
use Rattle.fc_value.specs.declared.value.Value.TheOpen.{Value-F}
use Rattle.fc_value.specs.declared.value.Value.TheVariants as value
use Rattle.fc_value.specs.declared.value.Value.TheViews.{out-roll-Value, rolls-Table}
use Rattle.fc_wire.specs.declared.ilvs.Ilv.{Ilv}
use Rattle.fc_instance.specs.Leading.{at_entry, entry_less}
use Rattle.fc_instance.specs.Components.{put_entry, put_rows, rekeyed, remove_row, roomy, table}
use Rattle.fc_rows.specs.Rowed.{RowMap, updated}
use Rattle.fc_rows.proofs.Standing.{Entries, Stood, has, stood, stood_nowhere}
use Rattle.fc_rows.proofs.Updating.{map_again}

-- ---- the value of the component
pub opened : (es : Entries) → out-Value (value.Table es) ≡ Value-F.Table es
opened es = ap out-Value (sym (rolls-Table es)) ∙ out-roll-Value (Value-F.Table es)

pub entries_again : (es : Entries) → entries_of (value.Table es) ≡ es
entries_again es = ap entries_layer (opened es)

module _ (ty entry : Ty) (limit : ℕ) (keys : List KeyDecl) (array : out-Ty ty ≡ Ty-F.Array entry limit keys) where
  pub place_of_subscript : (es : Entries) (s : ℕ) → place_in ty (value.Table es) (step.Id s) ≡ Ok (position (has s) es)
  unfolding place_in
  place_of_subscript es s =
      ap (λ l. place_layer l (value.Table es) (step.Id s)) array ∙ ap (λ (xs : Entries). Ok (position (has s) xs)) (entries_again es)

  pub part_there : (es : Entries) (i : ℕ) (x : ℕ × Value) → slice_get es i ≡ Some x → part_at i ty (value.Table es) ≡ Some (entry, x.1)
  part_there es i x g =
      let t : part_type i ty ≡ Some entry = ap (part_layer i) array in
      let c : child i (value.Table es) ≡ Some x.1 = ap (child_layer i) (opened es) ∙ ap (option_map (λ (e : ℕ × Value). e.1)) g in
      ap (λ o. paired o (child i (value.Table es))) t ∙ ap (paired (Some entry)) c

  set_entries : (es : Entries) (i : ℕ) (x : ℕ × Value) (w : Value) → slice_get es i ≡ Some x → entries_of (with_child i w (value.Table es)) ≡ slice_set es i (x.0, w)
  set_entries es i x w g =
      ap entries_layer (out-roll-Value (with_child_layer i w (out-Value (value.Table es)))) ∙ ap (λ l. entries_layer (with_child_layer i w l)) (opened es) ∙ ap (with_entry i w es) g

  checked_set : (es : Entries) (s : ℕ) (v w : Value) → T (is_sorted nat_cmp es) → (h : Stood s es v) → checked ty (with_child h.place w (value.Table es)) ≡ keyed (fields_of entry) keys (put nat_cmp s w es)
  unfolding checked
  checked_set es s v w so h =
      ap (λ l. checked_layer l (with_child h.place w (value.Table es))) array
      ∙ ap (keyed (fields_of entry) keys) (set_entries es h.place h.entry w h.got ∙ places.put_stands nat_cmp nat_cmp_total nat_cmp-IsAntisymmetric s w h.place es h.entry so h.stands h.got)

  -- entries with one put, as a value
  keyed_rows : (m : RowMap) (s : ℕ) (w : Value) → keyed (fields_of entry) keys (put nat_cmp s w (entries m)) ≡ rekeyed (fields_of entry) keys (updated m s (Some w)) >>= table
  keyed_rows m s w =
      ap (keyed (fields_of entry) keys) (sym (entries-insert nat_cmp_total m s w)) ∙ by (keys_differ (fields_of entry) keys (entries (updated m s (Some w))))
    where
      by : (b : Bool) → (if b then Ok (value.Table (entries (updated m s (Some w)))) else Err already_there) ≡ (if b then Ok (updated m s (Some w)) else Err already_there) >>= table
      by true = refl
      by false = refl

  made_rows : (m : RowMap) (s : ℕ) (r : Result Value ℕ) → (r >>= λ w. entered s limit (entries m) w) >>= keyed (fields_of entry) keys ≡ ((r >>= roomy limit m) >>= λ w. rekeyed (fields_of entry) keys (updated m s (Some w))) >>= table
  made_rows m s (Err code) = refl
  made_rows m s (Ok w) = ap (λ (n : ℕ). room_of (nat_le limit n)) (sym (len-entries m)) ∙ by (nat_le limit (len m))
    where
      room_of : Bool → Result Value ℕ
      room_of b = (if b then Err no_room else Ok (put nat_cmp s w (entries m))) >>= keyed (fields_of entry) keys

      by : (b : Bool) → (if b then Err no_room else Ok (put nat_cmp s w (entries m))) >>= keyed (fields_of entry) keys ≡ ((if b then Err no_room else Ok w) >>= λ w. rekeyed (fields_of entry) keys (updated m s (Some w))) >>= table
      by true = refl
      by false = keyed_rows m s w

  put_missing : (m : RowMap) (s : ℕ) (ss : List Step) (bytes : List ℕ) → put_new ss (step.Id s) bytes ty (value.Table (entries m)) ≡ (put_entry ss bytes entry limit m None >>= λ w. rekeyed (fields_of entry) keys (updated m s (Some w))) >>= table
  unfolding created
  put_missing m s [] bytes =
      ap (λ l. created_layer s bytes l (value.Table (entries m))) array
      ∙ ap (λ (es : Entries). (full_in entry bytes >>= λ w. entered s limit es w) >>= keyed (fields_of entry) keys) (entries_again (entries m)) ∙ made_rows m s (full_in entry bytes)
  put_missing m s (t ∷ ts) bytes = refl

  put_there : (m : RowMap) (s : ℕ) (ss : List Step) (bytes : List ℕ) (v : Value) → Stood s (entries m) v
      → put_at_place (put_in ss bytes) ss (step.Id s) bytes ty (value.Table (entries m)) (position (has s) (entries m)) ≡ (put_entry ss bytes entry limit m (Some v) >>= λ w. rekeyed (fields_of entry) keys (updated m s (Some w))) >>= table
  put_there m s ss bytes v h =
      ap (put_at_place (put_in ss bytes) ss (step.Id s) bytes ty (value.Table (entries m))) (position_found (has s) (entries m) h.place h.within h.before h.here)
      ∙ ap (put_part (put_in ss bytes) h.place ty (value.Table (entries m))) (part_there (entries m) h.place h.entry h.got)
      ∙ ap (λ (x : Value). put_in ss bytes entry x >>= λ w. checked ty (with_child h.place w (value.Table (entries m)))) h.is ∙ by (put_in ss bytes entry v)
    where
      by : (r : Result Value ℕ) → (r >>= λ w. checked ty (with_child h.place w (value.Table (entries m)))) ≡ (r >>= λ w. rekeyed (fields_of entry) keys (updated m s (Some w))) >>= table
      by (Err code) = refl
      by (Ok w) = checked_set (entries m) s v w (entries_sorted m) h ∙ keyed_rows m s w

  put_at : (m : RowMap) (s : ℕ) (ss : List Step) (bytes : List ℕ) (o : Option Value) → get m s ≡ o
      → put_at_place (put_in ss bytes) ss (step.Id s) bytes ty (value.Table (entries m)) (position (has s) (entries m)) ≡ (put_entry ss bytes entry limit m o >>= λ w. rekeyed (fields_of entry) keys (updated m s (Some w))) >>= table
  put_at m s ss bytes None e =
      ap (put_at_place (put_in ss bytes) ss (step.Id s) bytes ty (value.Table (entries m))) (position_none (has s) (entries m) (stood_nowhere s (entries m) (sym (get-entries m s) ∙ e)))
      ∙ put_missing m s ss bytes
  put_at m s ss bytes (Some v) e = put_there m s ss bytes v (stood s (entries m) v (sym (get-entries m s) ∙ e))

  -- a SET of FULLDATA at an entry or below it
  pub rows_put : (m : RowMap) (s : ℕ) (ss : List Step) (bytes : List ℕ) → put_in (step.Id s ∷ ss) bytes ty (value.Table (entries m)) ≡ put_rows ss bytes entry limit keys m s >>= table
  rows_put m s ss bytes =
      ap (λ r. r >>= put_at_place (put_in ss bytes) ss (step.Id s) bytes ty (value.Table (entries m))) (place_of_subscript (entries m) s) ∙ put_at m s ss bytes (get m s) refl

  taken_there : (m : RowMap) (s : ℕ) (v : Value) → (h : Stood s (entries m) v) → taken h.place ty (value.Table (entries m)) ≡ table (updated m s None)
  unfolding taken
  taken_there m s v h =
      let so : IsTrue (is_sorted nat_cmp (entries m)) = places.tested _ (entries_sorted m) in
      let r : IsTrue (is_sorted nat_cmp (remove (entries m) h.place)) × (from_sorted {R = nat_cmp} (remove (entries m) h.place) ≡ map.remove (from_sorted (entries m)) s) =
      places.left nat_cmp nat_cmp_total nat_cmp-IsAntisymmetric (entries m) (remove (entries m) h.place) s h.place so h.stands refl in
      ap (λ l. taken_layer h.place l (value.Table (entries m))) array ∙ ap (λ (es : Entries). Ok (value.Table (remove es h.place))) (entries_again (entries m))
      ∙ ap (λ (es : Entries). Ok (value.Table es)) (sym (ap entries (ap (λ (n : RowMap). map.remove n s) (sym (map_again m)) ∙ sym r.1) ∙ entries-from_sorted nat_cmp (remove (entries m) h.place) (places.test _ r.0)))

  remove_by : (m : RowMap) (s : ℕ) (o : Option Value) → get m s ≡ o → remove_at_place (remove_in []) [] ty (value.Table (entries m)) (position (has s) (entries m)) ≡ remove_row m s o >>= table
  remove_by m s None e = ap (remove_at_place (remove_in []) [] ty (value.Table (entries m))) (position_none (has s) (entries m) (stood_nowhere s (entries m) (sym (get-entries m s) ∙ e)))
  remove_by m s (Some v) e =
      let h : Stood s (entries m) v = stood s (entries m) v (sym (get-entries m s) ∙ e) in
      ap (remove_at_place (remove_in []) [] ty (value.Table (entries m))) (position_found (has s) (entries m) h.place h.within h.before h.here) ∙ taken_there m s v h

  -- a DEL of an entry
  pub row_removed : (m : RowMap) (s : ℕ) → remove_in (step.Id s ∷ []) ty (value.Table (entries m)) ≡ remove_row m s (get m s) >>= table
  row_removed m s = ap (λ r. r >>= remove_at_place (remove_in []) [] ty (value.Table (entries m))) (place_of_subscript (entries m) s) ∙ remove_by m s (get m s) refl

  -- ---- other changes of an entry
  pub part_put : (more : Ty → Value → Result Value ℕ) (m : RowMap) (s : ℕ) (v : Value) → (h : Stood s (entries m) v)
      → put_part more h.place ty (value.Table (entries m)) (part_at h.place ty (value.Table (entries m))) ≡ (more entry v >>= λ w. rekeyed (fields_of entry) keys (updated m s (Some w))) >>= table
  part_put more m s v h =
      ap (put_part more h.place ty (value.Table (entries m))) (part_there (entries m) h.place h.entry h.got)
      ∙ ap (λ (x : Value). more entry x >>= λ w. checked ty (with_child h.place w (value.Table (entries m)))) h.is ∙ by (more entry v)
    where
      by : (r : Result Value ℕ) → (r >>= λ w. checked ty (with_child h.place w (value.Table (entries m)))) ≡ (r >>= λ w. rekeyed (fields_of entry) keys (updated m s (Some w))) >>= table
      by (Err code) = refl
      by (Ok w) = checked_set (entries m) s v w (entries_sorted m) h ∙ keyed_rows m s w

  merge_by : (m : RowMap) (s : ℕ) (more : Ty → Value → Result Value ℕ) (o : Option Value) → get m s ≡ o
      → merge_at_place more ty (value.Table (entries m)) (position (has s) (entries m)) ≡ (at_entry (more entry) o >>= λ w. rekeyed (fields_of entry) keys (updated m s (Some w))) >>= table
  merge_by m s more None e = ap (merge_at_place more ty (value.Table (entries m))) (position_none (has s) (entries m) (stood_nowhere s (entries m) (sym (get-entries m s) ∙ e)))
  merge_by m s more (Some v) e =
      let h : Stood s (entries m) v = stood s (entries m) v (sym (get-entries m s) ∙ e) in
      ap (merge_at_place more ty (value.Table (entries m))) (position_found (has s) (entries m) h.place h.within h.before h.here) ∙ part_put more m s v h

  -- a SET of SPARSEDATA at an entry or below it
  pub row_merged : (m : RowMap) (s : ℕ) (ss : List Step) (ilvs : List Ilv)
      → merge_in (step.Id s ∷ ss) ilvs ty (value.Table (entries m)) ≡ (at_entry (merge_in ss ilvs entry) (get m s) >>= λ w. rekeyed (fields_of entry) keys (updated m s (Some w))) >>= table
  row_merged m s ss ilvs =
      ap (λ r. r >>= merge_at_place (merge_in ss ilvs) ty (value.Table (entries m))) (place_of_subscript (entries m) s) ∙ merge_by m s (merge_in ss ilvs) (get m s) refl

  -- an entry with another value is that of the map
  child_set : (m : RowMap) (s : ℕ) (v w : Value) → (h : Stood s (entries m) v) → with_child h.place w (value.Table (entries m)) ≡ value.Table (entries (updated m s (Some w)))
  child_set m s v w h =
      ap (λ l. roll-Value (with_child_layer h.place w l)) (opened (entries m)) ∙ ap (λ (o : Option (ℕ × Value)). roll-Value (Value-F.Table (with_entry h.place w (entries m) o))) h.got
      ∙ rolls-Table (slice_set (entries m) h.place (h.entry.0, w))
      ∙ ap (λ (es : Entries). value.Table es) (places.put_stands nat_cmp nat_cmp_total nat_cmp-IsAntisymmetric s w h.place (entries m) h.entry (entries_sorted m) h.stands h.got ∙ sym (entries-insert nat_cmp_total m s w))

  -- entries as the value of the component
  abbrev rows_table : RowMap → ℕ → Option Value → Result Value ℕ
  rows_table m s o = Ok (value.Table (entries (updated m s o)))

  less_there : (m : RowMap) (s : ℕ) (ss : List Step) (v : Value) → (h : Stood s (entries m) v)
      → remove_at (remove_in ss) ss h.place ty (value.Table (entries m)) ≡ (entry_less ss entry v >>= rows_table m s)
  less_there m s [] v h = taken_there m s v h
  less_there m s (t ∷ ts) v h =
      ap (remove_part (remove_in (t ∷ ts)) h.place ty (value.Table (entries m))) (part_there (entries m) h.place h.entry h.got)
      ∙ ap (λ (x : Value). remove_in (t ∷ ts) entry x >>= λ w. Ok (with_child h.place w (value.Table (entries m)))) h.is ∙ by (remove_in (t ∷ ts) entry v)
    where
      by : (r : Result Value ℕ) → (r >>= λ w. Ok (with_child h.place w (value.Table (entries m)))) ≡ ((r >>= λ w. Ok (Some w)) >>= rows_table m s)
      by (Err code) = refl
      by (Ok w) = ap (λ (x : Value). Ok x) (child_set m s v w h)

  less_by : (m : RowMap) (s : ℕ) (ss : List Step) (o : Option Value) → get m s ≡ o
      → remove_at_place (remove_in ss) ss ty (value.Table (entries m)) (position (has s) (entries m)) ≡ (at_entry (entry_less ss entry) o >>= rows_table m s)
  less_by m s ss None e = ap (remove_at_place (remove_in ss) ss ty (value.Table (entries m))) (position_none (has s) (entries m) (stood_nowhere s (entries m) (sym (get-entries m s) ∙ e)))
  less_by m s ss (Some v) e =
      let h : Stood s (entries m) v = stood s (entries m) v (sym (get-entries m s) ∙ e) in
      ap (remove_at_place (remove_in ss) ss ty (value.Table (entries m))) (position_found (has s) (entries m) h.place h.within h.before h.here) ∙ less_there m s ss v h

  -- a DEL of an entry or below it
  pub row_less : (m : RowMap) (s : ℕ) (ss : List Step) → remove_in (step.Id s ∷ ss) ty (value.Table (entries m)) ≡ (at_entry (entry_less ss entry) (get m s) >>= λ o. Ok (value.Table (entries (updated m s o))))
  row_less m s ss =
      ap (λ r. r >>= remove_at_place (remove_in ss) ss ty (value.Table (entries m))) (place_of_subscript (entries m) s) ∙ less_by m s ss (get m s) refl
