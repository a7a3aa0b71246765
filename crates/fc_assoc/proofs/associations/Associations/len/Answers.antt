use Rattle.std.proofs.Common.{arith}
use Rattle.fc_assoc.proofs.Effects.{count}
use Rattle.fc_assoc.proofs.associations.Associations.len.Goals as goal

pub returns-clause-same : goal.returns-clause-same
returns-clause-same c = omega (arith, count c.args.self.now c.self.inside.pairs.items c.self.view_is c.self.invariant, c.len.ensures)
