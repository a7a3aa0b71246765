-- Whole runs that compute, with the report of each: two elements, and one controller or two. This profile's own.
use Rattle.std.specs.Prelude.{ℕ, zero, suc, ◌+◌, Bool, true, false, List, [], ◌∷◌, ◌++◌, Option, Some, None, option_map}
use Rattle.fc_protocol.specs.declared.states.Decision.{Decision}
use Rattle.fc_protocol.specs.declared.states.TxnState.{TxnState}
use Rattle.fc_protocol.specs.Codes.{read_only}
use Rattle.fc_protocol.specs.Collections.{put}
use Rattle.fc_protocol.specs.ElementMachine.{ElementState, Circumstance}
use Rattle.fc_protocol.specs.Jobs.{Job, find, is_settled}
use Rattle.fc_protocol.specs.MasterMachine.{Master, new_master}
use Rattle.fc_protocol.specs.Messages.{Message, Sent}
use Rattle.fc_protocol.specs.Records.{state_of}
use Rattle.fc_protocol.specs.WorldSteps.{Network, World, Step, Open, Deliver, Start, Stop, Begin, Change, Give_up, Forget, Restart, first_world, run}
use Rattle.fc_protocol.specs.Examples.{first_controller, second_controller, smooth, place, the_txn, next_one}

-- two elements, which start with the first controller
abbrev pub pair : Network
pair = record { elements = 1 ∷ 2 ∷ []; controllers = first_controller ∷ second_controller ∷ []; first_ce = λ _. first_controller }

-- one element
abbrev pub lone : Network
lone = record { elements = 1 ∷ []; controllers = first_controller ∷ []; first_ce = λ _. first_controller }

-- what comes with a change may not be written
abbrev pub refusing : Circumstance
refusing = record { unheard = false; misfit = 0; quiet = false; rest = read_only; shown = read_only; plain = 0; touches = []; strange = false; shape = 0; others = [] }

-- the message is lost on the element
abbrev pub lost : Circumstance
lost = record { unheard = true; misfit = 0; quiet = false; rest = 0; shown = 0; plain = 0; touches = []; strange = false; shape = 0; others = [] }

-- a message arrives and all goes well
abbrev pub deliver : ℕ → Step
deliver i = Deliver i smooth

-- so many messages in their order, from this one on
abbrev pub delivers_from : ℕ → ℕ → List Step
delivers_from i zero = []
delivers_from i (suc n) = deliver i ∷ delivers_from (i + 1) n

-- the first controller claims both elements
abbrev pub claiming : List Step
claiming = Start 1 1 ∷ Open 1 1 ∷ Open 2 1 ∷ delivers_from 1 12

-- and begins a transaction of one change at each
abbrev pub opening_steps : List Step
opening_steps = claiming ++ Begin 1 (1 ∷ 2 ∷ []) (λ _. 1) (λ _. []) ∷ []

-- or sends the second element a plain change
abbrev pub changing : List Step
changing = claiming ++ Change 1 2 ∷ []

-- the second controller takes over
abbrev pub takeover : List Step
takeover = Start 2 1 ∷ Open 1 2 ∷ Open 2 2 ∷ []

-- every message arrives once
abbrev pub clean : List Step
clean = opening_steps ++ delivers_from 13 16

-- the first controller stops once it has decided to complete; the second completes, and then an old TRCOMP arrives
abbrev pub completing_failover : List Step
completing_failover = opening_steps ++ delivers_from 13 13 ++ Stop 1 ∷ takeover ++ delivers_from 28 18 ++ deliver 26 ∷ []

-- the first controller stops before the second element has opened; the second aborts, and then an old SOT arrives
abbrev pub aborting_failover : List Step
aborting_failover = opening_steps ++ deliver 13 ∷ Stop 1 ∷ takeover ++ delivers_from 16 6 ++ deliver 14 ∷ []

-- the first controller gives up what all have prepared, and its aborts come too late
abbrev pub late_give_up : List Step
late_give_up = opening_steps ++ delivers_from 13 11 ++ Give_up 1 (record { epoch = 257; number = 1 }) ∷ takeover ++ delivers_from 26 20 ++ deliver 25 ∷ []

-- the end of the transaction arrives three times at the first element
abbrev pub repeated_end : List Step
repeated_end = opening_steps ++ delivers_from 13 8 ++ deliver 21 ∷ deliver 21 ∷ deliver 21 ∷ []

-- the claim arrives at the first element twice more
abbrev pub repeated_claim : List Step
repeated_claim = claiming ++ deliver 4 ∷ deliver 4 ∷ []

-- the first controller hears that its late abort is refused, asks, and hears of the second's epoch
abbrev pub deposing : List Step
deposing = late_give_up ++ delivers_from 46 3

-- one element refuses the one change
abbrev pub refused_change : List Step
refused_change = Start 1 1 ∷ Open 1 1 ∷ delivers_from 1 6 ++ Begin 1 (1 ∷ []) (λ _. 1) (λ _. []) ∷ deliver 7 ∷ deliver 8 ∷ Deliver 9 refusing ∷ delivers_from 10 5

-- the first controller begins two transactions, on different instances
abbrev pub beginning_two : List Step
beginning_two = claiming ++ Begin 1 (1 ∷ 2 ∷ []) (λ _. 1) (place 1) ∷ Begin 1 (1 ∷ 2 ∷ []) (λ _. 1) (place 2) ∷ []

-- and every message arrives once
abbrev pub two_at_once : List Step
two_at_once = beginning_two ++ delivers_from 13 32

-- once all is settled the first controller lets both elements forget it
abbrev pub forgetting : List Step
forgetting = clean ++ Forget 1 ∷ delivers_from 29 4

-- then the old SOT arrives again
abbrev pub late_start : List Step
late_start = forgetting ++ deliver 13 ∷ []

-- or the second controller takes over
abbrev pub forgetting_failover : List Step
forgetting_failover = forgetting ++ Stop 1 ∷ takeover ++ delivers_from 33 12

-- the second element stops and resumes before the TRCOMP, which is lost, and then connects anew
abbrev pub restarting : List Step
restarting = opening_steps ++ delivers_from 13 13 ++ Restart 2 ∷ Deliver 26 lost ∷ Open 2 1 ∷ delivers_from 27 5

-- what a report says of an element
pub record ElementLine : Type 0 where
  pub epoch : ℕ
  pub ce : ℕ
  pub sequence : ℕ
  pub state : Option TxnState

-- what a report says of a transaction: its decision, and whether its job is settled
pub record JobLine : Type 0 where
  pub decision : Option Decision
  pub settled : Bool

-- the line of an element, with its record of that transaction
abbrev pub element_line : ElementState → ElementLine
element_line el = record { epoch = el.epoch; ce = el.ce; sequence = el.sequence; state = state_of the_txn el.records }

-- its line, with the record of the next one
abbrev pub next_line : ElementState → ElementLine
next_line el = record { epoch = el.epoch; ce = el.ce; sequence = el.sequence; state = state_of next_one el.records }

-- the line of a job
abbrev pub job_line : Job → JobLine
job_line j = record { decision = j.decision; settled = is_settled j }

-- the line of the job of that transaction, where the controller runs and has one
abbrev pub job_of : Option Master → Option JobLine
job_of None = None
job_of (Some m) = option_map job_line (find the_txn m.jobs)

-- and that of the next one's job
abbrev pub next_job_of : Option Master → Option JobLine
next_job_of None = None
next_job_of (Some m) = option_map job_line (find next_one m.jobs)

-- the messages that were sent after the first so many
abbrev pub sent_since : ℕ → List Sent → List Message
sent_since zero [] = []
sent_since zero (s ∷ ss) = s.message ∷ sent_since zero ss
sent_since (suc n) [] = []
sent_since (suc n) (s ∷ ss) = sent_since n ss

-- the world after these steps
abbrev pub after_steps : Network → List Step → World
after_steps n ss = run ss (first_world n)

-- the master where the sequence at p is this one
abbrev pub with_last : ℕ → ℕ → Master → Master
with_last p n m = record m { at = put m.at p (record (m.at p) { last = n }) }

-- the master that runs, or one that knows nothing
abbrev pub master_of : Option Master → Master
master_of None = new_master 0 []
master_of (Some m) = m
