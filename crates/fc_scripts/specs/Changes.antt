-- Whatever a transaction of a script changes, is a change (this profile's own).
use Rattle.std.specs.Prelude.{◌≡◌, List, None}
use Rattle.std.specs.List.{AllByRecursion}
use Rattle.fc_path.specs.declared.oper.Select.{Select}
use Rattle.fc_msg.specs.MessageTypes as types
use Rattle.fc_msg.specs.Messages.{ProperSelects}
use Rattle.fc_plans.specs.Changes.{change_fault}
use Rattle.fc_plans.specs.declared.plan.Part.{Part}
use Rattle.fc_documents.specs.Parts.{begun}
use Rattle.fc_documents.specs.declared.transaction.PlanTxn.{PlanTxn}

-- selects of the grammar of a Config (RFC 5810, section 7) that change an element
abbrev pub IsChange : List Select → Type 0
IsChange selects = (change_fault selects ≡ None) × ProperSelects types.config selects

-- each change of a participant is one
abbrev pub HasChanges : Part → Type 0
HasChanges part = AllByRecursion IsChange part.changes

-- each change of each participant is
abbrev pub ChangesWell : PlanTxn → Type 0
ChangesWell t = AllByRecursion HasChanges (begun t)
