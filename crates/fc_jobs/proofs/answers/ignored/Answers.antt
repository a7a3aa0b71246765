use Rattle.fc_jobs.proofs.Asking.{ignored_is}
use Rattle.fc_jobs.proofs.answers.ignored.Goals as goal

pub returns-clause-core : goal.returns-clause-core
returns-clause-core c = λ begun.
    ignored_is c.args.life.now.epoch c.args.seats.now c.args.jobs.now c.in_ok-jobs.jobs begun c.args.deposed c.args.element c.in_ok-next.next c.in_ok-next.ensures c.in_ok-jobs.ensures
