use Rattle.std.proofs.Common.{◌≡◌, take, drop, []}
use Rattle.fc_watch.specs.Settings.{settings_after}
use Rattle.fc_watch.proofs.settings.read_settings.Given as goal

abbrev pub invariant-loop-at : goal.invariant-loop-at
invariant-loop-at l = settings_after [] l.fn.settings l.ilvs ≡ settings_after (take l.at l.ilvs) l.now (drop l.at l.ilvs)
