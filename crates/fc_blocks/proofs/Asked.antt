-- A query holds nothing but operations with PATH-DATA.
use Rattle.std.proofs.Common.{◌≡◌, ◌<◌, ◌&&◌, Bool, true, false, List, [], ◌∷◌, length, refl, arith, Option, Some, None}
use Rattle.std.specs.List.{AllByRecursion, list_all}
use Rattle.fc_ops.specs.Answering.{has_any, is_paths, is_queried}
use Rattle.fc_path.specs.Proper.{ProperOper, ProperSelect}
use Rattle.fc_path.specs.declared.oper.Oper.{Oper}
use Rattle.fc_path.specs.declared.oper.Oper.TheVariants as oper
use Rattle.fc_path.specs.declared.oper.Select.{Select}

no_some : {A : Type 0} {x : A} → ◌≡◌ {A = Option A} None (Some x) → ⊥
no_some e = cc

paths_alone : (os : List Oper) → AllByRecursion (ProperOper 4) os → list_all is_paths os ≡ true
paths_alone [] h = refl
paths_alone (oper.Paths kind ps ∷ os) h = paths_alone os h.1
paths_alone (oper.Commit ∷ os) h = absurd (no_some h.0)
paths_alone (oper.Trcomp ∷ os) h = absurd (no_some h.0)
paths_alone (oper.CommitResponse code ∷ os) h = absurd (no_some h.0)

some_there : (os : List Oper) → 0 < length os → has_any os ≡ true
some_there [] h = absurd (omega (arith, h))
some_there (o ∷ os) h = refl

both_true : (a b : Bool) → a ≡ true → b ≡ true → (a && b) ≡ true
both_true true b e f = f
both_true false b e f = absurd (cc)

pub all_asked : (selects : List Select) → AllByRecursion (ProperSelect 4) selects → list_all is_queried selects ≡ true
all_asked [] h = refl
all_asked (x ∷ xs) h =
    both_true (is_queried x) (list_all is_queried xs) (both_true (has_any x.opers) (list_all is_paths x.opers) (some_there x.opers h.0.1) (paths_alone x.opers h.0.2)) (all_asked xs h.1)
