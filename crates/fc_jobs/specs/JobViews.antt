-- The jobs of a master, seen as the protocol's jobs. This profile's own.
use Rattle.std.specs.Prelude.{List, map}
use Rattle.fc_protocol.specs.Collections.{among}
use Rattle.fc_protocol.specs.Jobs.{Job as Work}
use Rattle.fc_asks.specs.Tables.{table, counts}
use Rattle.fc_jobs.specs.Scopes.{scope_of}
use Rattle.fc_jobs.specs.declared.job.Job.{Job}

abbrev pub job_of : Job → Work
job_of j = record {
  txn = j.txn;
  mine = j.mine;
  parts = j.participants;
  changes = counts j.changes;
  scopes = λ p. scope_of p j.scopes;
  done = counts j.done;
  answers = table j.answers;
  decision = j.decision;
  settled = λ p. among p j.settled;
  stuck = λ p. among p j.stuck;
}

abbrev pub jobs_of : List Job → List Work
jobs_of = map job_of
