-- One step along the tables of an array.
use Rattle.std.proofs.Common.{◌≡◌, ℕ, suc, ◌+◌, ◌<◌, ◌≤◌, List, [], ◌∷◌, ◌++◌, length, drop, get_or, Result, Ok, Err, String, Global, BTreeMap, append_assoc, refl, ◌∙◌, arith}
use Rattle.toml.specs.Data.{table, Members, items_depth, members_depth}
use Rattle.toml.specs.View.{view, items_view, table_view}
use Rattle.toml.specs.declared.value.Value.{Value, Table}
use Rattle.toml.proofs.Views.{view-Table, items_view-drop}
use Rattle.fc_library.specs.declared.fault.LibFault.{LibFault}
use Rattle.fc_library.specs.declared.fault.LibFault.TheVariants.{NotToml, Unknown, Missing, WrongKind, Check, Rule, StepText, Memory}
use Rattle.fc_base.specs.Answers.{◌>>=◌}
use Rattle.fc_library.specs.Gives.{Gives}
use Rattle.fc_library.specs.Types.{each}
use Rattle.fc_library.proofs.Depths.{item_depth}

-- the value at an index, which is a table
pub view_at : (vs : List Value) (i : ℕ) (v : Value) (m : BTreeMap (String Global) Value) → v ≡ get_or vs i v → v ≡ Table m → view (get_or vs i v) ≡ table (table_view m)
view_at vs i v m here is = rw (← here, is) (view-Table m)

pub table_item_depth : (vs : List Value) (i : ℕ) (v : Value) (m : BTreeMap (String Global) Value) → i < length vs → v ≡ get_or vs i v → v ≡ Table m
    → suc (members_depth (table_view m)) ≤ items_depth (items_view vs)
table_item_depth vs i v m h here is =
    let deep = item_depth vs i v h in
    let shown = rw (view_at vs i v m here is) at deep in
    omega arith

module _ {A : Type 0} (read : Members → Result A LibFault) where
  pub each_step : (vs : List Value) (i : ℕ) (v : Value) (m : BTreeMap (String Global) Value) → i < length vs → v ≡ get_or vs i v → v ≡ Table m
      → each read (items_view (drop i vs)) ≡ (read (table_view m) >>= λ x. each read (items_view (drop (i + 1) vs)) >>= λ xs. Ok (x ∷ xs))
  each_step vs i v m h here is = rw (items_view-drop vs i v h, view_at vs i v m here is)

  fails : (f : LibFault) (one : Result A LibFault) (rest : Result (List A) LibFault) (sofar : List A) (meant : Result (List A) LibFault) → Gives {A = A} (Err f) one
      → ((one >>= λ x. rest >>= λ xs. Ok (x ∷ xs)) >>= λ xs. Ok (sofar ++ xs)) ≡ meant → Gives {A = List A} (Err f) meant
  fails NotToml one rest sofar meant h e = rw (← e, h)
  fails (Unknown k) one rest sofar meant h e = rw (← e, h)
  fails (Missing k) one rest sofar meant h e = rw (← e, h)
  fails (WrongKind k) one rest sofar meant h e = rw (← e, h)
  fails (Check k) one rest sofar meant h e = rw (← e, h)
  fails (Rule k) one rest sofar meant h e = rw (← e, h)
  fails (StepText k) one rest sofar meant h e = rw (← e, h)
  fails Memory one rest sofar meant h e = tt

  pub each_fails : (vs : List Value) (i : ℕ) (v : Value) (m : BTreeMap (String Global) Value) (f : LibFault) (sofar : List A) (meant : Result (List A) LibFault)
      → i < length vs → v ≡ get_or vs i v → v ≡ Table m → Gives {A = A} (Err f) (read (table_view m))
      → (each read (items_view (drop i vs)) >>= λ xs. Ok (sofar ++ xs)) ≡ meant → Gives {A = List A} (Err f) meant
  each_fails vs i v m f sofar meant h here is bad e = fails f _ (each read (items_view (drop (i + 1) vs))) sofar meant bad (rw (each_step vs i v m h here is) at e)

  appended : (rest : Result (List A) LibFault) (sofar new : List A) (x : A) → new ≡ sofar ++ x ∷ [] → (rest >>= λ xs. Ok (new ++ xs)) ≡ ((rest >>= λ xs. Ok (x ∷ xs)) >>= λ xs. Ok (sofar ++ xs))
  appended (Ok xs) sofar new x e = rw (e, append_assoc)
  appended (Err f) sofar new x e = refl

  pub each_goes_on : (vs : List Value) (i : ℕ) (v : Value) (m : BTreeMap (String Global) Value) (sofar new : List A) (x : A) (meant : Result (List A) LibFault)
      → i < length vs → v ≡ get_or vs i v → v ≡ Table m → read (table_view m) ≡ Ok x → new ≡ sofar ++ x ∷ []
      → (each read (items_view (drop i vs)) >>= λ xs. Ok (sofar ++ xs)) ≡ meant → (each read (items_view (drop (i + 1) vs)) >>= λ xs. Ok (new ++ xs)) ≡ meant
  each_goes_on vs i v m sofar new x meant h here is good more e =
      appended (each read (items_view (drop (i + 1) vs))) sofar new x more ∙ (rw (each_step vs i v m h here is, good) at e)
