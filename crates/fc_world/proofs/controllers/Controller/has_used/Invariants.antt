use Rattle.std.proofs.Common.{◌≡◌, drop}
use Rattle.fc_protocol.specs.Collections.{among}
use Rattle.fc_world.proofs.controllers.Controller.has_used.Given as goal

abbrev pub invariant-loop-used : goal.invariant-loop-used
invariant-loop-used l = among l.round (drop l.used-index l.self.used.items) ≡ among l.round l.self.used.items
