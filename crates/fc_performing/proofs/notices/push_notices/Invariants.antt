use Rattle.std.proofs.Common.{◌≡◌, ◌++◌, take}
use Rattle.std.specs.List.{AllByRecursion}
use Rattle.fc_performing.specs.Sending.{IsSaid}
use Rattle.fc_performing.specs.Notices.{notice_outs}
use Rattle.fc_performing.proofs.notices.push_notices.Given as goal

abbrev pub invariant-loop-notice : goal.invariant-loop-notice
invariant-loop-notice l = record {
  sent : l.outs ≡ l.fn.outs ++ notice_outs l.library l.route (take l.notice-index l.notices);
  proper : AllByRecursion IsSaid l.fn.outs → AllByRecursion IsSaid l.outs;
}
