use Rattle.std.proofs.Common.{◌≡◌, drop}
use Rattle.std.specs.List.{list_all}
use Rattle.fc_types.specs.Classes.{has_target}
use Rattle.fc_types.proofs.class_rules.have_targets.Given as goal

abbrev pub invariant-loop-event : goal.invariant-loop-event
invariant-loop-event l = list_all (has_target l.components) (drop l.event-index l.events) ≡ list_all (has_target l.components) l.events
