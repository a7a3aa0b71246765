-- What an operation does to a small map, given as the list of its entries: this profile's own, for the plain runner.
use Rattle.std.specs.Prelude.{◌≡◌, ◌≢◌, ℕ, ◌==◌, Bool, true, false, cond, not, List, [], ◌∷◌, ◌++◌, if◌then◌else◌, refl}
use Rattle.std.specs.List.{filter, list_any}
use Rattle.fc_modes.specs.declared.copying_map.EntryOp.{EntryOp}
use Rattle.fc_modes.specs.declared.copying_map.EntryOp.TheVariants.{Create, Delete}

abbrev pub has_key : ℕ → List (ℕ × ℕ) → Bool
has_key key entries = list_any (λ entry. entry.0 == key) entries

abbrev pub without_key : ℕ → List (ℕ × ℕ) → List (ℕ × ℕ)
without_key key entries = filter (λ entry. not (entry.0 == key)) entries

-- a key is entered where it is not there, and taken out where it is
abbrev pub entry_effect : List (ℕ × ℕ) → EntryOp → List (ℕ × ℕ) × ℕ
entry_effect entries (Create key value) = if has_key key entries then (entries, 10) else (entries ++ (key, value) ∷ [], 0)
entry_effect entries (Delete key) = if has_key key entries then (without_key key entries, 0) else (entries, 11)

created : (b : Bool) (old new : List (ℕ × ℕ)) → (cond {A = List (ℕ × ℕ) × ℕ} b (old, 10) (new, 0)).1 ≢ 0 → (cond {A = List (ℕ × ℕ) × ℕ} b (old, 10) (new, 0)).0 ≡ old
created true old new bad = refl
created false old new bad = absurd (bad refl)

deleted : (b : Bool) (old new : List (ℕ × ℕ)) → (cond {A = List (ℕ × ℕ) × ℕ} b (new, 0) (old, 11)).1 ≢ 0 → (cond {A = List (ℕ × ℕ) × ℕ} b (new, 0) (old, 11)).0 ≡ old
deleted true old new bad = absurd (bad refl)
deleted false old new bad = refl

-- an operation that is refused changes nothing
pub refused_keeps : (entries : List (ℕ × ℕ)) (op : EntryOp) → (entry_effect entries op).1 ≢ 0 → (entry_effect entries op).0 ≡ entries
refused_keeps entries (Create key value) bad = created (has_key key entries) entries (entries ++ (key, value) ∷ []) bad
refused_keeps entries (Delete key) bad = deleted (has_key key entries) entries (without_key key entries) bad
