-- What an answer to a Query does to a master. This profile's own.
use Rattle.std.specs.Prelude.{ℕ, true, if◌then◌else◌, List, Option, Some, None, option_map}
use Rattle.fc_base.specs.Ids.{Txn}
use Rattle.fc_path.specs.declared.oper.Select.{Select}
use Rattle.fc_protocol.specs.Collections.{put}
use Rattle.fc_protocol.specs.Jobs.{answer, answered_by, discover, on_job}
use Rattle.fc_protocol.specs.Messages.{Body, Message, Stamp, stamp, Unread}
use Rattle.fc_protocol.specs.MasterMachine.{Master, Waiting, after_ask, at_put, by_epoch, depose, dropped, heard, matches, unmatched, unread_told}
use Rattle.fc_asks.specs.Queries.{query_meaning}
use Rattle.fc_asks.specs.declared.queries.HeldAnswer.{HeldAnswer}
use Rattle.fc_asks.specs.declared.queries.HeldAnswer.TheVariants as held_answer
use Rattle.fc_asks.specs.declared.queries.RecordAnswer.{RecordAnswer}
use Rattle.fc_asks.specs.declared.queries.RecordAnswer.TheVariants as record_answer
use Rattle.fc_jobs.specs.declared.answers.Standing.{Standing}
use Rattle.fc_jobs.specs.declared.answers.Standing.TheVariants as standing

-- what the message that waits asks
abbrev pub asked_of : Option Waiting → Option Body
asked_of = option_map (λ o. o.body)

-- what an answer says, where this was asked
abbrev pub asked_meaning : Option Body → Stamp → List Select → Message
asked_meaning None s selects = Unread s None
asked_meaning (Some b) s selects = query_meaning b s selects

-- what an answer says, by the Query that waits and has its correlator; no other answer reads
abbrev pub answer_meaning : Option Waiting → Stamp → List Select → Message
answer_meaning w s selects = if matches s true w then asked_meaning (asked_of w) s selects else Unread s None

-- by how the epoch in an answer stands to the master's own: a greater one deposes it, a lower one loses the element, else what was said counts
abbrev pub by_standing : Standing → Master → ℕ → ℕ → Master → Master
by_standing standing.Greater m p e good = depose m e
by_standing standing.Lower m p e good = at_put m p (unmatched (m.at p))
by_standing standing.Own m p e good = good

-- the master after the answer of p to the ask for held transactions
abbrev pub after_held : Master → ℕ → HeldAnswer → Master
after_held m p (held_answer.Held e ns) = by_epoch m p e (record m { at = put m.at p (after_ask (m.at p)); jobs = discover ns m.jobs })
after_held m p (held_answer.Unread e) = unread_told m p e

-- the master after the answer of p to the ask for one record
abbrev pub after_record : Master → ℕ → Txn → RecordAnswer → Master
after_record m p x (record_answer.Record e t) = by_epoch m p e (record m { at = put m.at p (dropped (m.at p)); jobs = on_job x (answered_by p (answer e t)) m.jobs })
after_record m p x (record_answer.Unread e) = unread_told m p e

-- the master after an answer of p to a Query
abbrev pub answered : Master → ℕ → ℕ → List Select → Master
answered m p corr selects = heard m p (answer_meaning (m.at p).waits (stamp corr) selects)
