use Rattle.std.proofs.Common.{◌≡◌, ◌++◌, take, map}
use Rattle.fc_events.specs.Events.{sight}
use Rattle.fc_events.specs.Reports.{notice}
use Rattle.fc_events.proofs.evaluate.push_notices.Given as goal

abbrev pub invariant-loop-one : goal.invariant-loop-one
invariant-loop-one l = l.notices.items ≡ l.fn.notices.items ++ map (notice l.place (sight l.sight.when l.sight.ty.now l.sight.node)) (take l.one-index l.told)
