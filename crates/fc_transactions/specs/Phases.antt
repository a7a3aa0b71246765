-- What the next Config of the control element that has claimed an element does there: a plain change, a floor, or a phase of a transaction. The
-- phases are those of two-phase commit in RFC 5810, section 4.3.1.2.2; records, scopes and floors are this profile's own.
use Rattle.std.specs.Prelude.{ℕ, ◌==◌, ◌&&◌, not, Bool, true, false, List, [], ◌∷◌, ◌++◌, Option, Some, None, if◌then◌else◌}
use Rattle.fc_base.specs.Ids.{Txn}
use Rattle.fc_events.specs.declared.subscriptions.Notice.{Notice}
use Rattle.fc_events.specs.Reports.{reports_but}
use Rattle.fc_events.specs.declared.subscriptions.Subscription.{Subscription}
use Rattle.fc_exec.specs.Operations.{executed_within, operations}
use Rattle.fc_exec.specs.declared.operations.Operation.{Operation}
use Rattle.fc_machine.specs.ElementState.{and_rest, first_code}
use Rattle.fc_machine.specs.Trace.{Fact, Added_at, Plain_at, of_protocol}
use Rattle.fc_machine.specs.Transactions.{is_completed}
use Rattle.fc_modes.specs.Modes.{Outcome}
use Rattle.fc_modes.specs.declared.mode.Mode.TheVariants.{AllOrNone}
use Rattle.fc_msg.specs.declared.message.Message.{Message}
use Rattle.fc_path.specs.declared.oper.Select.{Select}
use Rattle.fc_phases.specs.Asking.{txn_of}
use Rattle.fc_phases.specs.Shapes.{rest_of}
use Rattle.fc_phases.specs.declared.asked.Asked.{Asked}
use Rattle.fc_phases.specs.declared.asked.Asked.TheVariants.{Claim, Floor, Plain, Start, Change, Commit, Complete as Completing, Abort as Aborting, Malformed}
use Rattle.fc_phases.specs.declared.values.Opening.{Opening}
use Rattle.fc_protocol.specs.Codes.{invalid_flags, invalid_parameters}
use Rattle.fc_protocol.specs.ElementMachine.{admits}
use Rattle.fc_protocol.specs.Floors.{is_below, floor_code}
use Rattle.fc_protocol.specs.Messages.{is_name}
use Rattle.fc_protocol.specs.Phases.{Turn, opening, adding, preparing, settling, aborting}
use Rattle.fc_protocol.specs.Records.{clashes, is_full, is_held, is_packed, state_of}
use Rattle.fc_protocol.specs.Scopes.{Scope}
use Rattle.fc_protocol.specs.Trace.{facts_of}
use Rattle.fc_protocol.specs.declared.states.Decision.TheVariants.{Complete}
use Rattle.fc_protocol.specs.declared.states.TxnState.{TxnState}
use Rattle.fc_reply.specs.Counting.{each_gets}
use Rattle.fc_store.specs.Stores.{Stored, mark_of, over_mark, with_mark}
use Rattle.fc_tx.specs.Records.{TxnRecords, turned, with_floor}
use Rattle.fc_performing.specs.Performing.{Performed, are_props, done_by, evaluated}
use Rattle.fc_holding.specs.Held.{state_at, scope_of, held_instances, has_all, waits}
use Rattle.fc_holding.specs.Holdings.{without, with_rest, undone, settled_with}
use Rattle.fc_transactions.specs.declared.ledger.Ledger.{Ledger}
use Rattle.fc_holding.specs.declared.holding.Holding.{Holding}

-- what a Config has done: what it leaves, the codes of its operations in their order, what is told of events, and what has happened, the newest
-- first
pub record Did : Type 0 where
  pub ledger : Ledger
  pub codes : List ℕ
  pub notices : List Notice
  pub facts : List (Fact Operation)

-- nothing changes, and the operations get these codes
abbrev pub idles : Ledger → List ℕ → Did
idles l codes = record { ledger = l; codes = codes; notices = []; facts = [] }

-- nothing changes, and each operation gets this code
abbrev pub all_get : Ledger → List Select → ℕ → Did
all_get l selects code = idles l (each_gets code selects)

-- ---- plain changes
-- operations on properties are no change of the configuration
abbrev pub plain_facts : ℕ → List Select → Performed → List (Fact Operation)
plain_facts p selects done = if are_props selects then [] else Plain_at p done.done ∷ []

-- the instances that are held, but for those of a transaction, where one is named
abbrev pub others_held : Ledger → Option Txn → List (ℕ × ℕ)
others_held l x = held_instances l.store.instances x l.records.entries

-- the operations are performed, and events are evaluated where the configuration is settled
abbrev pub performs : ℕ → Ledger → List Select → List (ℕ × ℕ) → Performed → Did
performs p l selects held done = record {
  ledger = record { records = l.records; holdings = l.holdings; store = done.store; subscriptions = (evaluated held done).0 };
  codes = done.codes;
  notices = (evaluated held done).1;
  facts = plain_facts p selects done;
}

abbrev pub executes : ℕ → Ledger → Message → List Select → Did
executes p l m selects = performs p l selects (others_held l None) (done_by m selects l.store l.subscriptions)

-- a plain change waits while one of its leaves lies at an instance that is held
abbrev pub plain : ℕ → Ledger → Message → List Select → Did
plain p l m selects = if waits l.records.entries selects then all_get l selects invalid_flags else executes p l m selects

-- ---- floors
-- the code of a floor at an element of this epoch: it names a transaction of this life, and then by the records
abbrev pub code_of_floor : ℕ → TxnRecords → Txn → ℕ
code_of_floor epoch r f = if is_name f then floor_code epoch r.floor f r.entries else invalid_parameters

-- where its code is 0 the records below it go
abbrev pub floors_by : Ledger → List Select → Txn → ℕ → Did
floors_by l selects f code = record {
  ledger = record { records = with_floor code f l.records; holdings = l.holdings; store = l.store; subscriptions = l.subscriptions };
  codes = each_gets code selects;
  notices = [];
  facts = [];
}

abbrev pub floors : ℕ → Ledger → List Select → Txn → Did
floors epoch l selects f = floors_by l selects f (code_of_floor epoch l.records f)

-- ---- phases
-- a phase of x, after which these are held and the store is this
abbrev pub turns : ℕ → Ledger → Txn → List ℕ → Scope → Turn → List Holding → Stored → List ℕ → Did
turns p l x ps scope t holdings store codes = record {
  ledger = record { records = turned x ps scope t l.records; holdings = holdings; store = store; subscriptions = l.subscriptions };
  codes = codes;
  notices = [];
  facts = of_protocol (facts_of p x ps t.events);
}

-- the first operation is refused, and so is all that comes with it
abbrev pub refuses : Ledger → List Select → ℕ → Did
refuses l rest code = idles l (code ∷ each_gets 255 rest)

-- the operations of a rest are accepted
abbrev pub adds : ℕ → Txn → List Select → Did → Did
adds p x rest d = record { ledger = d.ledger; codes = d.codes; notices = d.notices; facts = Added_at p x (operations rest) ∷ d.facts }

-- what the operations of a rest do, all or none, within a scope
abbrev pub rest_outcome : Scope → Stored → List Select → Outcome Stored Operation
rest_outcome scope store rest = executed_within scope AllOrNone store rest

-- SOT
abbrev pub opened_txn : Opening → Txn
opened_txn o = record { epoch = o.epoch; number = o.number }

-- whether it is a transaction of this life, in which the element takes part, with a scope that it may have here
abbrev pub is_admitted : ℕ → ℕ → List (ℕ × ℕ) → Opening → Bool
is_admitted p epoch instances o = is_name (opened_txn o) && admits p epoch (opened_txn o) o.participants (not (has_all instances o.instances)) o.instances

-- its turn, where it is admitted or not, and what comes with it has this code
abbrev pub start_turn_by : Bool → TxnRecords → Opening → ℕ → Turn
start_turn_by fits r o rest =
    opening fits (is_below (opened_txn o) r.floor) (clashes o.instances r.entries) (is_packed r.entries) rest (state_of (opened_txn o) r.entries)

-- a mark over the instances of a scope
abbrev pub marked : Scope → Stored → Stored
marked scope s = over_mark with_mark (mark_of scope s) s

-- what is kept of it from now on
abbrev pub opened_holding : Opening → Stored → List Select → Holding
opened_holding o store rest = record { txn = opened_txn o; mark = mark_of o.instances store; rests = and_rest [] rest }

-- it is opened, and what came with it is accepted
abbrev pub opens : ℕ → Ledger → Opening → List Select → Outcome Stored Operation → Did
opens p l o rest done =
    adds p (opened_txn o) rest (turns p l (opened_txn o) o.participants o.instances (start_turn_by true l.records o 0) (l.holdings ++ opened_holding o l.store rest ∷ []) done.state (0 ∷ done.codes))

-- what came with it fails with this code, and all of it is undone, so that it never was held
abbrev pub opens_failed : ℕ → Ledger → Opening → List ℕ → ℕ → Did
opens_failed p l o codes code = turns p l (opened_txn o) o.participants o.instances (start_turn_by true l.records o code) l.holdings l.store (0 ∷ codes)

abbrev pub started_by : ℕ → Ledger → Opening → List Select → Outcome Stored Operation → ℕ → Did
started_by p l o rest done code = if code == 0 then opens p l o rest done else opens_failed p l o done.codes code

abbrev pub started : ℕ → Ledger → Opening → List Select → Did
started p l o rest =
    let done = rest_outcome o.instances (marked o.instances l.store) rest in
    started_by p l o rest done (first_code done.codes)

abbrev pub starts_by : ℕ → Ledger → Opening → List Select → ℕ → Did
starts_by p l o rest code = if code == 0 then started p l o rest else refuses l rest code

abbrev pub starts : ℕ → ℕ → Ledger → Opening → List Select → Did
starts p epoch l o rest = starts_by p l o rest (start_turn_by (is_admitted p epoch l.store.instances o) l.records o 0).code

-- MOT
-- its rest is accepted
abbrev pub extends : ℕ → Ledger → Txn → List Select → Outcome Stored Operation → Did
extends p l x rest done = adds p x rest (turns p l x [] [] (adding 0 (state_at x l.records.entries)) (with_rest x rest l.holdings) done.state (0 ∷ done.codes))

-- its rest fails with this code, and all of the transaction is undone, and nothing of another
abbrev pub extends_failed : ℕ → Ledger → Txn → List ℕ → ℕ → Did
extends_failed p l x codes code = turns p l x [] [] (adding code (state_at x l.records.entries)) (without x l.holdings) (undone x l.holdings l.store) (0 ∷ codes)

abbrev pub continued_by : ℕ → Ledger → Txn → List Select → Outcome Stored Operation → ℕ → Did
continued_by p l x rest done code = if code == 0 then extends p l x rest done else extends_failed p l x done.codes code

abbrev pub continued : ℕ → Ledger → Txn → List Select → Did
continued p l x rest =
    let done = rest_outcome (scope_of x l.records.entries) l.store rest in
    continued_by p l x rest done (first_code done.codes)

abbrev pub continues_by : ℕ → Ledger → Txn → List Select → ℕ → Did
continues_by p l x rest code = if code == 0 then continued p l x rest else refuses l rest code

abbrev pub continues : ℕ → Ledger → Txn → List Select → Did
continues p l x rest = continues_by p l x rest (adding 0 (state_at x l.records.entries)).code

-- EOT with COMMIT: both operations get the code
abbrev pub prepared_by : ℕ → Ledger → Txn → Turn → Did
prepared_by p l x t = turns p l x [] [] t l.holdings l.store (t.code ∷ t.code ∷ [])

abbrev pub prepares : ℕ → Ledger → Txn → Did
prepares p l x = prepared_by p l x (preparing (state_at x l.records.entries))

-- EOT with TRCOMP
-- the code of the second operation, which is done where the first is
abbrev pub second_code : ℕ → ℕ
second_code code = if code == 0 then 0 else 255

abbrev pub both_codes : ℕ → List ℕ
both_codes code = code ∷ second_code code ∷ []

-- its changes are settled, and events are evaluated where the configuration is settled then
abbrev pub settles : ℕ → Ledger → Txn → Turn → List Subscription × List Notice → Did
settles p l x t told = record {
  ledger = record { records = turned x [] [] t l.records; holdings = without x l.holdings; store = settled_with x l.holdings l.store; subscriptions = told.0 };
  codes = both_codes t.code;
  notices = told.1;
  facts = of_protocol (facts_of p x [] t.events);
}

abbrev pub completed_by : ℕ → Ledger → Txn → Turn → Did
completed_by p l x t =
    if is_completed t.new then settles p l x t (reports_but (others_held l (Some x)) l.store l.subscriptions)
    else turns p l x [] [] t l.holdings l.store (both_codes t.code)

abbrev pub completes : ℕ → Ledger → Txn → Did
completes p l x = completed_by p l x (settling Complete (state_at x l.records.entries))

-- ABT: what is held is undone
abbrev pub is_held_in : Option TxnState → Bool
is_held_in None = false
is_held_in (Some state) = is_held state

abbrev pub aborted_by : ℕ → Ledger → Txn → Bool → Turn → Did
aborted_by p l x held t =
    if held then turns p l x [] [] t (without x l.holdings) (undone x l.holdings l.store) (t.code ∷ [])
    else turns p l x [] [] t l.holdings l.store (t.code ∷ [])

abbrev pub abort_turn : TxnRecords → Txn → Turn
abort_turn r x = aborting (is_name x && not (is_below x r.floor)) (is_full r.entries) (state_at x r.entries)

abbrev pub aborts : ℕ → Ledger → Txn → Did
aborts p l x = aborted_by p l x (is_held_in (state_at x l.records.entries)) (abort_turn l.records x)

-- a Config with the flag of a transaction, of another shape or in another mode
abbrev pub shape_code : ℕ → ℕ
shape_code em = if em == 1 then invalid_parameters else invalid_flags

-- ---- the next Config at an element of this ID and epoch, by what it asks; a claim comes here only where it is none by its count
abbrev pub acts : ℕ → ℕ → Ledger → Message → List Select → Asked → Did
acts p epoch l m selects (Claim word) = plain p l m selects
acts p epoch l m selects (Floor f) = floors epoch l selects (txn_of f)
acts p epoch l m selects Plain = plain p l m selects
acts p epoch l m selects (Start o) = starts p epoch l o (rest_of selects)
acts p epoch l m selects (Change x) = continues p l (txn_of x) (rest_of selects)
acts p epoch l m selects (Commit x) = prepares p l (txn_of x)
acts p epoch l m selects (Completing x) = completes p l (txn_of x)
acts p epoch l m selects (Aborting x) = aborts p l (txn_of x)
acts p epoch l m selects Malformed = all_get l selects (shape_code m.flags.em)
