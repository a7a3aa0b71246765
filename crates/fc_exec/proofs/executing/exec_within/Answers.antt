use Rattle.fc_exec.proofs.Framed.{marks_kept}
use Rattle.fc_exec.proofs.executing.exec_within.Goals as goal

pub returns-clause-marks : goal.returns-clause-marks
returns-clause-marks c =
    marks_kept c.run_within.result c.args.scope.now c.args.mode c.args.store.now c.run_within.new.store c.deref.result.now c.run_within.ensures.state c.run_within.ensures.err
