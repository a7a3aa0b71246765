-- While nothing is held the settled configuration is what the store holds now.
use Rattle.std.proofs.Common.{◌≡◌, ◌+◌, ℕ, zero, suc, List, [], ◌∷◌, map, flat_map, slice_get, if◌then◌else◌, Option, Some, None, Result, Ok, Err, refl, sym, ap, ◌∙◌}
use Rattle.std.specs.Prelude.{IfOk}
use Rattle.fc_base.specs.Answers.{◌>>=◌}
use Rattle.fc_blocks.specs.Settings.{number_in, protocol_spot, settings_in}
use Rattle.fc_blocks.specs.declared.settings.HeartbeatSettings.{HeartbeatSettings}
use Rattle.fc_instance.specs.Cells.{look_cell}
use Rattle.fc_path.specs.declared.oper.Spot.{Spot}
use Rattle.fc_store.specs.Spots.{resolved}
use Rattle.fc_store.specs.Stores.{Stored, Tree, declared_in, further, map_from, opened, seen, seen_at, settled, settled_tree, value_in, value_of}
use Rattle.fc_store.specs.declared.spots.Purpose.TheVariants as purpose
use Rattle.fc_transactions.specs.declared.ledger.Ledger.{Ledger}
use Rattle.fc_holding.specs.declared.holding.Holding.{Holding}
use Rattle.fc_types.specs.Components.{ComponentDecl}
use Rattle.fc_element.specs.ElementState.{settled_store}
use Rattle.fc_types.specs.BuiltIn.{is_live}
use Rattle.fc_element.specs.Configuration.{changed_to, component_changes, component_spot, configured, form_at, form_of, instance_changes, rising_ids, same_form}
use Rattle.fc_element.specs.declared.configured.Configured.{Configured}

value_bare : (c i k : ℕ) (ts : List Tree) → value_of c (slice_get (map_from (settled_tree []) k ts) i) ≡ value_of c (slice_get ts i)
value_bare c i k [] = refl
value_bare c zero k (t ∷ ts) = refl
value_bare c (suc i) k (t ∷ ts) = value_bare c i (k + 1) ts

module _ (s : Stored) where
  place_bare : (place : ℕ × ℕ) → value_in (settled [] s) place ≡ value_in s place
  place_bare place = value_bare place.1 place.0 0 s.trees

  seen_bare : (spot : Spot) → seen purpose.Look spot (settled [] s) ≡ seen purpose.Look spot s
  seen_bare spot = by_place (resolved purpose.Look s.library s.instances spot.class spot.instance spot.steps)
    where
      by_declared : (place : ℕ × ℕ) (o : Option ComponentDecl) → seen_at spot (settled [] s) place o ≡ seen_at spot s place o
      by_declared place None = refl
      by_declared place (Some component) = ap (look_cell (further spot.steps) component.ty) (place_bare place)

      by_place : (r : Result (ℕ × ℕ) ℕ)
          → (r >>= λ place. seen_at spot (settled [] s) place (slice_get (declared_in s.library spot.class) place.1)) ≡ (r >>= λ place. seen_at spot s place (slice_get (declared_in s.library spot.class) place.1))
      by_place (Err code) = refl
      by_place (Ok place) = by_declared place (slice_get (declared_in s.library spot.class) place.1)

  settings_bare : settings_in (settled [] s) ≡ settings_in s
  settings_bare =
      λ i. record {
        ce_policy = number_in (seen_bare (protocol_spot 4) i);
        ce_dead = number_in (seen_bare (protocol_spot 5) i);
        fe_policy = number_in (seen_bare (protocol_spot 6) i);
        fe_interval = number_in (seen_bare (protocol_spot 7) i);
      }

-- the settings that are settled, where nothing is held
none_held : (l : Ledger) → l.holdings ≡ [] → settings_in l.store ≡ settings_in (settled_store l)
none_held l e = sym (ap (λ (hs : List Holding). settings_in (settled (map (λ (h : Holding). h.mark) hs) l.store)) e ∙ settings_bare l.store)

pub given_bare : {E : Type 0} (l : Ledger) (r : Result HeartbeatSettings E) → l.holdings ≡ [] → IfOk r (λ settings. settings ≡ settings_in l.store) → IfOk r (λ settings. settings ≡ settings_in (settled_store l))
given_bare l (Ok settings) e h = h ∙ none_held l e
given_bare l (Err fault) e h = tt

-- and so is what is configured
module _ (s : Stored) where
  form_bare : (spot : Spot) → form_at spot (settled [] s) ≡ form_at spot s
  form_bare spot = ap form_of (seen_bare s spot)

  component_bare : (first : Stored) (pair : ℕ × ℕ) (id : ℕ) → component_changes first (settled [] s) pair id ≡ component_changes first s pair id
  component_bare first pair id =
      ap (λ (f : Option (List ℕ)). if is_live pair.0 id then [] else (if same_form f (form_at (component_spot pair id) first) then [] else changed_to pair id f ∷ []))
      (form_bare (component_spot pair id))

  instance_bare : (first : Stored) (pair : ℕ × ℕ) → instance_changes first (settled [] s) pair ≡ instance_changes first s pair
  instance_bare first pair = λ i. flat_map (λ id. component_bare first pair id i) (rising_ids (declared_in s.library pair.0))

  configured_bare : configured (settled [] s) ≡ configured s
  configured_bare = λ i. flat_map (λ pair. instance_bare (opened s.library s.instances) pair i) s.instances

none_configured : (l : Ledger) → l.holdings ≡ [] → configured l.store ≡ configured (settled_store l)
none_configured l e = sym (ap (λ (hs : List Holding). configured (settled (map (λ (h : Holding). h.mark) hs) l.store)) e ∙ configured_bare l.store)

pub changes_bare : {E : Type 0} (l : Ledger) (r : Result (List Configured) E) → l.holdings ≡ [] → IfOk r (λ changes. changes ≡ configured l.store)
    → IfOk r (λ changes. changes ≡ configured (settled_store l))
changes_bare l (Ok changes) e h = h ∙ none_configured l e
changes_bare l (Err fault) e h = tt
