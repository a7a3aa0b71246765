-- The configuration as a flat map: to each component of each instance, and each place in it, the cell that stands there (this
-- profile's own).
use Rattle.std.specs.Prelude.{◌≡◌, ℕ, List, ◌∷◌, Option}
use Rattle.fc_path.specs.declared.oper.Spot.{Spot}
use Rattle.fc_path.specs.declared.oper.Step.{Step}
use Rattle.fc_path.specs.declared.oper.Step.TheVariants as step
use Rattle.fc_cells.specs.Cells.{Cell, by_ids, some_cell}
use Rattle.fc_store.specs.Spots.{first_id}
use Rattle.fc_store.specs.Stores.{Stored, seen}
use Rattle.fc_store.specs.declared.spots.Purpose.TheVariants as purpose

-- a component of an instance: the class, the ID of the instance, and that of the component
pub record Site : Type 0 where
  pub class : ℕ
  pub instance : ℕ
  pub component : ℕ

-- the spot to which a path within a component leads
abbrev pub spot_at : Site → List Step → Spot
spot_at site path = record { class = site.class; instance = site.instance; steps = step.Id site.component ∷ path }

-- the same by IDs and subscripts alone
abbrev pub spot_by : Site → List ℕ → Spot
spot_by site ids = spot_at site (by_ids ids)

-- the cell at a place of a component, none where no path leads there
abbrev pub cell_at : Stored → Site → List ℕ → Option Cell
cell_at s site ids = some_cell (seen purpose.Look (spot_by site ids) s)

-- two spots at different instances, or at different components of one
abbrev pub AreElsewhere : Spot → Spot → Type 0
AreElsewhere a b = a.class ≡ b.class → a.instance ≡ b.instance → first_id a.steps ≡ first_id b.steps → ⊥
