use Rattle.std.proofs.Common.{◌≡◌, drop}
use Rattle.fc_documents.specs.Rules.{is_listed}
use Rattle.fc_scripts.proofs.rules.is_among.Given as goal

abbrev pub invariant-loop-other : goal.invariant-loop-other
invariant-loop-other l = is_listed (drop l.other-index l.controllers) l.controller ≡ is_listed l.controllers l.controller
