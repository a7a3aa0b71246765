-- What an element opens with stays: the store has class Mastership after any inputs.
use Rattle.std.proofs.Common.{◌≡◌, ℕ, ◌==◌, ◌&&◌, find, position, Some, true, List, [], ◌∷◌, Result, Ok, Err, refl, sym, ap, ◌∙◌, subst}
use Rattle.std.specs.List.{list_all}
use Rattle.fc_blocks.specs.Opening.{opened_store}
use Rattle.fc_element.specs.declared.input.ElIn.{ElIn}
use Rattle.fc_exec.specs.Operations.{applied, coded, leaf_made}
use Rattle.fc_exec.specs.declared.operations.Operation.{Operation}
use Rattle.fc_exec.specs.declared.operations.Operation.TheVariants as operation
use Rattle.fc_exec.proofs.Applying.{Touched, leaf_touched}
use Rattle.fc_lfbs.specs.BuiltIns as built_ins
use Rattle.fc_lives.specs.Lives.{life_after}
use Rattle.fc_lives.proofs.Lives.{folds}
use Rattle.fc_machine.specs.Trace.{completed}
use Rattle.fc_modes.specs.Modes.{folded}
use Rattle.fc_path.specs.declared.oper.Spot.{Spot}
use Rattle.fc_store.specs.Stores.{Stored}
use Rattle.fc_types.specs.Libraries.{is_own}
use Rattle.fc_types.specs.declared.class.Class.{Class}
use Rattle.fc_querying.specs.Mastership.{HasMastership}
use Rattle.fc_querying.proofs.Written.{opened_has}

record SameFrame (s t : Stored) : Type 0 where
  library : s.library ≡ t.library
  instances : s.instances ≡ t.instances

coded_frame : (spot : Spot) (s : Stored) (r : Result Stored ℕ) → ((t : Stored) → r ≡ Ok t → Touched spot s t) → SameFrame (coded s r).0 s
coded_frame spot s (Ok t) more = let n = more t refl in record { library = ap (λ (u : Stored). u.library) n.is; instances = ap (λ (u : Stored). u.instances) n.is }
coded_frame spot s (Err code) more = record { library = refl; instances = refl }

applied_frame : (s : Stored) (op : Operation) → SameFrame (applied s op).0 s
applied_frame s (operation.Leaf l) = coded_frame l.spot s (leaf_made l.kind l.spot l.body s) (λ t e. leaf_touched l.kind l.spot l.body s t e)
applied_frame s operation.Commit = record { library = refl; instances = refl }
applied_frame s operation.Trcomp = record { library = refl; instances = refl }

folded_frame : (s : Stored) (ops : List Operation) → SameFrame (folded applied s ops) s
folded_frame s [] = record { library = refl; instances = refl }
folded_frame s (op ∷ ops) =
    let later = folded_frame (applied s op).0 ops in
    let first = applied_frame s op in
    record { library = later.library ∙ first.library; instances = later.instances ∙ first.instances }

has_too : (s t : Stored) → SameFrame s t → HasMastership t → HasMastership s
has_too s t same has = record {
  class = subst (λ library. find (λ (k : Class). k.id == 126977) library ≡ Some built_ins.mastership) (sym same.library) has.class;
  place = has.place;
  stands = subst (λ instances. position (λ (q : ℕ × ℕ). (q.0 == 126977) && (q.1 == 1)) instances ≡ Some has.place) (sym same.instances) has.stands;
}

pub has_after : (id ce : ℕ) (library : List Class) (instances : List (ℕ × ℕ)) (is : List ElIn) → list_all is_own library ≡ true → HasMastership (life_after id ce library instances is).state.ledger.store
has_after id ce library instances is own =
    let life = life_after id ce library instances is in
    let opening = opened_store library instances in
    let fold = (folds id ce library instances is).settled in
    let frame = folded_frame opening (completed life.state.id life.facts) in
    let same : SameFrame life.state.ledger.store opening = record { library = ap (λ (s : Stored). s.library) fold ∙ frame.library; instances = ap (λ (s : Stored). s.instances) fold ∙ frame.instances } in
    has_too life.state.ledger.store opening same (opened_has library instances own)
