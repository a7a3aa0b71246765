use Rattle.std.proofs.Common.{sym}
use Rattle.fc_exec.proofs.Marking.{apply_stays, if_effect}
use Rattle.fc_exec.proofs.running.RunningRunner.apply.Goals as goal

pub returns-clause-effect : goal.returns-clause-effect
returns-clause-effect c =
    if_effect c.args.self.now.store.ghost_name c.args.self.now.mark c.args.self.now.store.now c.carry_out.new.store c.args.operation.now c.carry_out.result c.carry_out.ensures.coded

pub returns-clause-marks : goal.returns-clause-marks
returns-clause-marks c =
    apply_stays c.args.self.now.store.ghost_name c.args.self.now.scope.items c.args.self.now.mark c.args.self.now.store.now c.carry_out.new.store c.args.operation.now c.carry_out.result
    (sym c.if-not-has.ensures) c.carry_out.ensures.coded c.carry_out.ensures.err
