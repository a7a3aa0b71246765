use Rattle.fc_exec.proofs.Named.{marks_kept}
use Rattle.fc_exec.proofs.executing.exec.Goals as goal

pub returns-clause-marks : goal.returns-clause-marks
returns-clause-marks c = marks_kept c.run_all.result c.args.mode c.args.store.now c.run_all.new.store c.deref.result.now c.run_all.ensures.state c.run_all.ensures.err
