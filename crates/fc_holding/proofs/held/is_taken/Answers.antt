use Rattle.std.proofs.Common.{◌&&◌, ap, sym}
use Rattle.fc_protocol.specs.Scopes.{covers}
use Rattle.fc_tx.proofs.Keeping.{any_here, any_more}
use Rattle.fc_tx.proofs.Settling.{any_past}
use Rattle.fc_holding.specs.Held.{takes}
use Rattle.fc_holding.proofs.held.is_taken.Goals as goal

pub loop-at-init : goal.loop-at-init
loop-at-init c = any_past (takes c.args.place) (λ n e. ap (λ b. b && covers n.scope c.args.place) e) c.first_held-at.result c.args.records.now.entries c.first_held-at.ensures

pub returns-then-takes_at : goal.returns-then-takes_at
returns-then-takes_at c = sym (any_here (takes c.args.place) c.args.records.now.entries c.loop-at.at (sym c.if-takes_at.ensures) c.loop-at.invariant)

pub loop-at-preserved : goal.loop-at-preserved
loop-at-preserved c = any_more (takes c.args.place) c.args.records.now.entries c.loop-at.at (sym c.if-takes_at.ensures) c.loop-at.invariant
