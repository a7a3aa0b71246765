-- What a call on an entry of a component answers.
use Rattle.std.proofs.Common.{◌≡◌, ℕ, List, Result, sym, ap, subst, ◌∙◌}
use Rattle.std.specs.FinMap.{entries, from_sorted, get}
use Rattle.fc_base.specs.declared.faults.OpFault.{OpFault}
use Rattle.fc_path.specs.declared.oper.Step.{Step}
use Rattle.fc_types.specs.declared.ty.Ty.{Ty}
use Rattle.fc_value.specs.Outcomes.{Gives}
use Rattle.fc_value.specs.declared.value.Value.{Value}
use Rattle.fc_value.specs.declared.value.Value.TheVariants as value
use Rattle.fc_instance.specs.Components.{cell_put, put_entry}
use Rattle.fc_instance.specs.Histories.{rows_of, slot_cell}
use Rattle.fc_rows.specs.Rowed.{RowMap, Seen}
use Rattle.fc_instance.specs.declared.instance.Slot.{Slot}
use Rattle.fc_instance.specs.declared.instance.Slot.TheVariants as slot
use Rattle.fc_rows.proofs.Standing.{Entries}
use Rattle.fc_rows.proofs.Updating.{map_again}
use Rattle.fc_instance.proofs.Bridge.{entries_again}

pub rows_again : (m : RowMap) → rows_of (value.Table (entries m)) ≡ m
rows_again m = ap (λ (es : Entries). from_sorted es) (entries_again (entries m)) ∙ map_again m

pub slot_put : (ss : List Step) (bytes : List ℕ) (entry : Ty) (limit s : ℕ) (t : Slot) (rows : Seen) (r : Result Value OpFault) → t ≡ slot.Entries rows
    → Gives (λ v. v) r (put_entry ss bytes entry limit rows.0 (get rows.0 s)) → Gives (λ v. v) r (cell_put ss bytes entry limit s (slot_cell t))
slot_put ss bytes entry limit s t rows r e h =
    subst (λ (x : Slot). Gives (λ v. v) r (cell_put ss bytes entry limit s (slot_cell x))) (sym e)
    (subst (λ (m : RowMap). Gives (λ v. v) r (put_entry ss bytes entry limit m (get m s))) (sym (rows_again rows.0)) h)
