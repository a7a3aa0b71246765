use Rattle.std.proofs.Common.{◌≡◌, ◌++◌, take, map}
use Rattle.fc_path.specs.declared.oper.Step.TheVariants.{Id}
use Rattle.fc_events.proofs.operations.push_ids.Given as goal

abbrev pub invariant-loop-id : goal.invariant-loop-id
invariant-loop-id l = l.steps ≡ l.fn.steps ++ map Id (take l.id-index l.ids)
