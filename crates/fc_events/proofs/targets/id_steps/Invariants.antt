use Rattle.std.proofs.Common.{◌≡◌, take, map}
use Rattle.fc_path.specs.declared.oper.Step.TheVariants.{Id}
use Rattle.fc_events.proofs.targets.id_steps.Given as goal

abbrev pub invariant-loop-id : goal.invariant-loop-id
invariant-loop-id l = l.steps ≡ map Id (take l.id-index l.ids)
