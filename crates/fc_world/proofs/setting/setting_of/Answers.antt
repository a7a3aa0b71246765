use Rattle.std.proofs.Common.{◌≡◌, true, sym, subst}
use Rattle.std.specs.List.{AllByRecursion, list_all}
use Rattle.fc_base.specs.Ids.{IsCe}
use Rattle.fc_documents.specs.Parts.{makes_plan}
use Rattle.fc_wellformed.specs.WellFormed.{TxnHolds}
use Rattle.fc_world.specs.Played.{setting_of}
use Rattle.fc_world.specs.Settings.{IsNetwork, IsPlanned}
use Rattle.fc_world.proofs.Places.{if_then}
use Rattle.fc_world.proofs.Playing.{is_network}
use Rattle.fc_world.proofs.setting.setting_of.Goals as goal

pub are_planned-requires-clause-make : goal.are_planned-requires-clause-make
are_planned-requires-clause-make c = subst (λ ts. list_all makes_plan ts ≡ true) (sym c.transactions.ensures.same) c.transactions.ensures.script.planned

pub are_planned-requires-clause-hold : goal.are_planned-requires-clause-hold
are_planned-requires-clause-hold c = subst (AllByRecursion TxnHolds) (sym c.transactions.ensures.same) c.transactions.ensures.script.changing

pub returns-clause-network : goal.returns-clause-network
returns-clause-network c =
    if_then (λ s. s ≡ setting_of c.args.script.now) IsNetwork c.copy_of.result
    (λ s e. is_network c.args.script.now s e c.controllers.ensures.script (subst (AllByRecursion IsCe) c.controllers.ensures.same c.are_controls.ensures) (subst (AllByRecursion IsPlanned) c.transactions.ensures.same c.in_ok-are_planned.ensures))
    c.copy_of.ensures
