-- What an element does with a Config for it that has an execution mode, by the verdict of its fence: RFC 5810, section 7.6. The fence, claims
-- and the kept response are this profile's own.
use Rattle.std.specs.Prelude.{ℕ, ◌+◌, ◌==◌, not, Bool, true, false, List, [], ◌∷◌, ◌++◌, Option, Some, None, if◌then◌else◌}
use Rattle.fc_exec.specs.declared.operations.Operation.{Operation}
use Rattle.fc_lfbs.specs.Kinds.{opening_type, subject_type}
use Rattle.fc_machine.specs.Trace.{Fact, of_protocol}
use Rattle.fc_msg.specs.declared.message.Message.{Message}
use Rattle.fc_path.specs.declared.oper.Select.{Select}
use Rattle.fc_phases.specs.Asking.{asked}
use Rattle.fc_phases.specs.declared.asked.Asked.{Asked}
use Rattle.fc_phases.specs.declared.asked.Asked.TheVariants.{Claim, Floor, Plain, Start, Change, Commit, Complete as Completing, Abort as Aborting, Malformed}
use Rattle.fc_protocol.specs.Codes.{invalid_parameters, not_supported, read_only}
use Rattle.fc_protocol.specs.Fence.{judge}
use Rattle.fc_protocol.specs.Messages.{stamp}
use Rattle.fc_protocol.specs.Trace.{Claimed_at, undone_facts}
use Rattle.fc_protocol.specs.declared.verdict.Verdict.{Verdict}
use Rattle.fc_protocol.specs.declared.verdict.Verdict.TheVariants.{Claim as Claims, Unclaimed, Stale, Again, Gap, Next}
use Rattle.fc_reply.specs.Counting.{each_gets}
use Rattle.fc_reply.specs.Replies.{reply}
use Rattle.fc_tx.specs.Records.{undone_records}
use Rattle.fc_performing.specs.Notices.{notice_outs, route}
use Rattle.fc_performing.specs.Sending.{responses}
use Rattle.fc_performing.specs.declared.out.Out.{Out}
use Rattle.fc_holding.specs.Holdings.{all_undone, not_started}
use Rattle.fc_transactions.specs.Phases.{Did, acts, all_get, executes}
use Rattle.fc_transactions.specs.State.{TransactionState}
use Rattle.fc_transactions.specs.declared.ledger.Ledger.{Ledger}

-- the state after a Config, what is sent to its sender over the peer from which it came, whether the sender counts as heard, and what has
-- happened, the newest first
pub record Step : Type 0 where
  pub state : TransactionState
  pub outs : List Out
  pub is_heard : Bool
  pub facts : List (Fact Operation)

-- the response, and then the notices
abbrev pub says : ℕ → ℕ → Message → List Select → Did → List Out
says p peer m selects d = responses peer (reply m selects d.codes) ++ notice_outs d.ledger.store.library (route p m.source peer) d.notices

-- what was done, where its response is not kept
abbrev pub with_ledger : TransactionState → Ledger → TransactionState
with_ledger s l = record { id = s.id; epoch = s.epoch; master = s.master; sequence = s.sequence; kept = s.kept; ce = s.ce; last_ce = s.last_ce; ledger = l }

abbrev pub gives : TransactionState → ℕ → Message → List Select → Bool → Did → Step
gives s peer m selects heard d = record { state = with_ledger s d.ledger; outs = says s.id peer m selects d; is_heard = heard; facts = d.facts }

-- the next one is taken: the sequence goes up by one, and the response, or that there is none, is kept
abbrev pub taken : TransactionState → Message → List Select → Did → TransactionState
taken s m selects d = record {
  id = s.id;
  epoch = s.epoch;
  master = s.master;
  sequence = s.sequence + 1;
  kept = reply m selects d.codes;
  ce = s.ce;
  last_ce = s.last_ce;
  ledger = d.ledger;
}

abbrev pub takes : TransactionState → ℕ → Message → List Select → Did → Step
takes s peer m selects d = record { state = taken s m selects d; outs = says s.id peer m selects d; is_heard = true; facts = d.facts }

-- a claim undoes what is started
abbrev pub undone_ledger : Ledger → Ledger
undone_ledger l = record {
  records = undone_records l.records;
  holdings = not_started l.records.entries l.holdings;
  store = all_undone l.records.entries l.holdings l.store;
  subscriptions = l.subscriptions;
}

-- a claim under the epoch e: its response is kept
abbrev pub claimed : TransactionState → Message → List Select → ℕ → TransactionState
claimed s m selects e = record {
  id = s.id;
  epoch = e;
  master = m.source;
  sequence = 0;
  kept = reply m selects (each_gets 0 selects);
  ce = m.source;
  last_ce = s.ce;
  ledger = undone_ledger s.ledger;
}

abbrev pub claims : TransactionState → ℕ → Message → List Select → ℕ → Step
claims s peer m selects e = record {
  state = claimed s m selects e;
  outs = responses peer (reply m selects (each_gets 0 selects));
  is_heard = true;
  facts = of_protocol (Claimed_at s.id e ∷ undone_facts s.id s.ledger.records.entries);
}

-- while no life has claimed the element, its control element alone may configure it, and without transactions
abbrev pub unclaimed : TransactionState → Message → List Select → Did
unclaimed s m selects =
    if not (m.source == s.ce) then all_get s.ledger selects read_only
    else (if m.flags.at then all_get s.ledger selects not_supported else executes s.id s.ledger m selects)

-- the kept response is sent once more
abbrev pub repeats : TransactionState → ℕ → Step
repeats s peer = record { state = s; outs = responses peer s.kept; is_heard = true; facts = [] }

abbrev pub by_verdict : TransactionState → ℕ → Message → List Select → Asked → Verdict → Step
by_verdict s peer m selects a (Claims e) = claims s peer m selects e
by_verdict s peer m selects a Unclaimed = gives s peer m selects true (unclaimed s m selects)
by_verdict s peer m selects a Stale = gives s peer m selects false (all_get s.ledger selects read_only)
by_verdict s peer m selects a Again = repeats s peer
by_verdict s peer m selects a Gap = gives s peer m selects true (all_get s.ledger selects invalid_parameters)
by_verdict s peer m selects a Next = takes s peer m selects (acts s.id s.epoch s.ledger m selects a)

-- what the Config asks, by its flags and its selects
abbrev pub asked_of : Message → List Select → Asked
asked_of m selects = asked opening_type subject_type m.flags.em m.flags.at m.flags.tp selects

-- the word of what has the shape of a claim
abbrev pub claim_in : Asked → Option ℕ
claim_in (Claim word) = Some word
claim_in (Floor f) = None
claim_in Plain = None
claim_in (Start o) = None
claim_in (Change x) = None
claim_in (Commit x) = None
claim_in (Completing x) = None
claim_in (Aborting x) = None
claim_in Malformed = None

abbrev pub judged : TransactionState → Message → Asked → Verdict
judged s m a = judge s.epoch s.master s.sequence m.source (stamp m.corr) (claim_in a)

abbrev pub configured_by : TransactionState → ℕ → Message → List Select → Asked → Step
configured_by s peer m selects a = by_verdict s peer m selects a (judged s m a)

-- a Config with these selects came over a peer
unfoldable pub configured : TransactionState → ℕ → Message → List Select → Step
configured s peer m selects = configured_by s peer m selects (asked_of m selects)
