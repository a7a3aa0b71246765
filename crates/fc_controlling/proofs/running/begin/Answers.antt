use Rattle.std.proofs.Common.{IfOk}
use Rattle.fc_controlling.proofs.Ending.{node_made}
use Rattle.fc_controlling.proofs.running.begin.Goals as goal

pub returns : goal.returns
returns c = node_made c.new.result c.args.ce c.args.epoch _ c.new.ensures.node c.new.ensures.ce c.new.ensures.epoch c.new.ensures.plans c.new.ensures.plains
