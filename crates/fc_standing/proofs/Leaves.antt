-- An operation on a leaf changes a component of its instance, or is refused whatever is held.
use Rattle.std.proofs.Common.{◌≡◌, ℕ, ◌==◌, ◌&&◌, Bool, true, false, List, refl, arith, Option, Some, None, Result, Err}
use Rattle.std.proofs.lemmas.Bool.Decides.{nat_tests}
use Rattle.fc_instance.specs.Cells.{merge_cell, put_cell, remove_cell}
use Rattle.fc_path.specs.declared.oper.OperKind.{OperKind}
use Rattle.fc_path.specs.declared.oper.OperKind.TheVariants as kinds
use Rattle.fc_path.specs.declared.oper.Spot.{Spot}
use Rattle.fc_path.specs.declared.path.Body.{Body, out-Body}
use Rattle.fc_path.specs.declared.path.Body.TheOpen.{Body-F}
use Rattle.fc_path.specs.declared.path.PathData.{PathData}
use Rattle.fc_wire.specs.declared.ilvs.Ilv.{Ilv}
use Rattle.fc_store.specs.Spots.{not_supported}
use Rattle.fc_store.specs.Stores.{Change, Stored, changed, further}
use Rattle.fc_exec.specs.Operations.{leaf_made, set_spot}

abbrev putting : Spot → List ℕ → Change
putting spot bytes component v = put_cell (further spot.steps) bytes component.ty v

abbrev merging : Spot → List Ilv → Change
merging spot ilvs component v = merge_cell (further spot.steps) ilvs component.ty v

abbrev removing : Spot → Change
removing spot component v = remove_cell component.optional (further spot.steps) component.ty v

-- what a change makes of a store at a spot, and where there is none, a refusal
abbrev pub does : Option Change → Spot → Stored → Result Stored ℕ
does None spot s = Err not_supported
does (Some f) spot s = changed f spot s

abbrev set_change : Spot → Body-F Body PathData → Option Change
set_change spot Body-F.Nothing = None
set_change spot (Body-F.Full bytes) = Some (putting spot bytes)
set_change spot (Body-F.Sparse ilvs) = Some (merging spot ilvs)
set_change spot (Body-F.Outcome code) = None
set_change spot (Body-F.Nested paths) = None

abbrev pub leaf_change : OperKind → Spot → Body → Option Change
leaf_change kinds.Set spot b = set_change spot (out-Body b)
leaf_change kinds.Del spot b = Some (removing spot)
leaf_change kinds.SetProp spot b = None
leaf_change kinds.SetResponse spot b = None
leaf_change kinds.SetPropResponse spot b = None
leaf_change kinds.DelResponse spot b = None
leaf_change kinds.Get spot b = None
leaf_change kinds.GetProp spot b = None
leaf_change kinds.GetResponse spot b = None
leaf_change kinds.GetPropResponse spot b = None
leaf_change kinds.Report spot b = None

set_does : (spot : Spot) (b : Body-F Body PathData) (s : Stored) → set_spot spot b s ≡ does (set_change spot b) spot s
set_does spot Body-F.Nothing s = refl
set_does spot (Body-F.Full bytes) s = refl
set_does spot (Body-F.Sparse ilvs) s = refl
set_does spot (Body-F.Outcome code) s = refl
set_does spot (Body-F.Nested paths) s = refl

pub leaf_does : (kind : OperKind) (spot : Spot) (b : Body) (s : Stored) → leaf_made kind spot b s ≡ does (leaf_change kind spot b) spot s
leaf_does kinds.Set spot b s = set_does spot (out-Body b) s
leaf_does kinds.Del spot b s = refl
leaf_does kinds.SetProp spot b s = refl
leaf_does kinds.SetResponse spot b s = refl
leaf_does kinds.SetPropResponse spot b s = refl
leaf_does kinds.DelResponse spot b s = refl
leaf_does kinds.Get spot b s = refl
leaf_does kinds.GetProp spot b s = refl
leaf_does kinds.GetResponse spot b s = refl
leaf_does kinds.GetPropResponse spot b s = refl
leaf_does kinds.Report spot b s = refl

pub is_same : (x y : ℕ) → x ≡ y → (x == y) ≡ true
is_same x y e = grind (arith, nat_tests)

pub both_true : (a b : Bool) → a ≡ true → b ≡ true → (a && b) ≡ true
both_true true b e f = f
both_true false b e f = absurd cc

pub and_parts : (a b : Bool) → (a && b) ≡ true → (a ≡ true) × (b ≡ true)
and_parts true b e = (refl, e)
and_parts false b e = absurd cc

pub never : {A : Type 0} (b : Bool) → b ≡ true → b ≡ false → A
never true e f = absurd cc
never false e f = absurd cc
