-- A round in which nothing is lost and nothing goes wrong, in a network element. This profile's own.
use Rattle.std.specs.Prelude.{◌≡◌, ℕ, zero, suc, ◌+◌, ◌*◌, ◌==◌, not, Bool, true, false, cond, List, [], ◌∷◌, ◌++◌, length, Some, None}
use Rattle.std.specs.FinMap.{contains_key}
use Rattle.std.specs.List.{AllByRecursion, flat_map, list_all}
use Rattle.fc_base.specs.Ids.{Txn}
use Rattle.fc_documents.specs.Parts.{begun}
use Rattle.fc_documents.specs.declared.transaction.PlanTxn.{PlanTxn}
use Rattle.fc_element.specs.ElementState.{ElementState}
use Rattle.fc_exec.specs.Operations.{applied, operations}
use Rattle.fc_folding.specs.Folding.{settled_now}
use Rattle.fc_headline.specs.Folds.{Clean}
use Rattle.fc_holding.specs.Held.{has_all}
use Rattle.fc_machine.specs.Trace.{bare_facts}
use Rattle.fc_master.specs.Reports.{report_of, txn_line}
use Rattle.fc_msg.specs.declared.message.MsgBody.{MsgBody}
use Rattle.fc_msg.specs.declared.message.MsgBody.TheVariants as body
use Rattle.fc_plans.specs.declared.plan.Part.{Part}
use Rattle.fc_protocol.specs.Collections.{In}
use Rattle.fc_protocol.specs.MasterMachine.{Master, next_txn}
use Rattle.fc_protocol.specs.Records.{clashes, is_packed}
use Rattle.fc_protocol.specs.Scopes.{control_class}
use Rattle.fc_protocol.specs.Trace.{Settled_at}
use Rattle.fc_protocol.specs.declared.states.Decision.TheVariants.{Complete}
use Rattle.fc_steps.specs.declared.step.Step.{Step}
use Rattle.fc_steps.specs.declared.step.Step.TheVariants as step
use Rattle.fc_world.specs.Lookups.{controller_in, element_in, ruling_in, transaction_in}
use Rattle.fc_world.specs.Played.{AreMade, world_after}
use Rattle.fc_world.specs.Worlds.{Ruling, Standing, WorldState, first_world, message_of}
use Rattle.fc_world.specs.WorldSteps.{begins_in, facts}
use Rattle.fc_world.specs.declared.sent.Parcel.{Parcel}
use Rattle.fc_world.specs.declared.setting.Setting.{Setting}

-- ---- before
-- An element is idle for its part of a plan, under the master m of this control element: its fence has the epoch of the master's life, its control
-- element, and the last sequence that the master has used there; it has the association of that control element; it holds fewer than 64 transactions, none
-- with a scope that meets the part's, and has fewer than 4,096 records; and the master has met it, has claimed it, and waits for nothing from it.
pub record IsIdle (ce : ℕ) (m : Master) (part : Part) (e : ElementState) : Type 0 where
  pub epoch : e.transactions.epoch ≡ m.epoch
  pub master : e.transactions.master ≡ ce
  pub sequence : e.transactions.sequence ≡ (m.at part.element).last
  pub associated : contains_key e.associations ce ≡ true
  pub free : clashes part.scope e.transactions.ledger.records.entries ≡ false
  pub room : is_packed e.transactions.ledger.records.entries ≡ false
  pub met : (m.at part.element).met ≡ true
  pub claimed : (m.at part.element).claimed ≡ true
  pub waits : (m.at part.element).waits ≡ None

-- The part can be done there: each instance of its scope is one that is there, and of another class than the one that
-- holds epoch and transactions; and its changes, one after the other on the settled configuration, have code 00 throughout.
pub record IsDoable (part : Part) (e : ElementState) : Type 0 where
  pub instances : has_all e.transactions.ledger.store.instances part.scope ≡ true
  pub others : list_all (λ i. not (i.0 == control_class)) part.scope ≡ true
  pub succeeds : Clean applied (settled_now e.transactions.ledger) (flat_map operations part.changes)

-- each participant is there, and is idle for what it can do
abbrev pub IsReadyAt : WorldState → ℕ → Master → Part → Type 0
IsReadyAt w ce m part = (e : ElementState) × (element_in part.element w.nodes ≡ Some e) × IsIdle ce m part e × IsDoable part e

-- the life r of the control element of number k may begin this transaction of the script, and all its participants are ready
pub record MayBegin (s : Setting) (w : WorldState) (k : ℕ) (name : List ℕ) (t : PlanTxn) (c : Standing) (r : Ruling) : Type 0 where
  pub named : transaction_in name s.transactions ≡ Some t
  pub controller : controller_in k w.controllers ≡ Some c
  pub runs : c.running ≡ Some r
  pub may : (begins_in k (begun t) r).refusal ≡ None
  pub ready : AllByRecursion (IsReadyAt w c.ce r.core) (begun t)

-- ---- the round
-- so many messages are delivered, each once and in the order of their numbers, from this number on; the text of each delivery stands at some place
abbrev pub deliveries : (ℕ → ℕ) → ℕ → ℕ → List (ℕ × Step)
deliveries places i zero = []
deliveries places i (suc n) = (places i, step.Deliver i) ∷ deliveries places (i + 1) n

abbrev pub round : ℕ → ℕ → List ℕ → (ℕ → ℕ) → ℕ → ℕ → List (ℕ × Step)
round place k name places i n = (place, step.Begin k name) ∷ deliveries places i n

-- ---- what is sent
-- whether a message tells of an event
abbrev pub tells_event : MsgBody → Bool
tells_event (body.Setup selects) = false
tells_event (body.SetupResponse result) = false
tells_event (body.Teardown reason) = false
tells_event (body.Config selects) = false
tells_event (body.ConfigResponse selects) = false
tells_event (body.Query selects) = false
tells_event (body.QueryResponse selects) = false
tells_event (body.Event selects) = true
tells_event body.Heartbeat = false

abbrev pub is_notice : Parcel → Bool
is_notice p = tells_event (message_of p).body

-- how many of these messages are event notices
abbrev pub notices_in : List Parcel → ℕ
notices_in [] = 0
notices_in (p ∷ ps) = cond (is_notice p) 1 0 + notices_in ps

-- for each participant a start, its changes, an end and the completion, each with its answer
abbrev pub messages_for : List Part → ℕ
messages_for [] = 0
messages_for (part ∷ parts) = 2 * (length part.changes + 3) + messages_for parts

-- ---- afterwards
-- among all that has happened: the element has completed the transaction
abbrev pub HasCompleted : Setting → List (ℕ × Step) → Txn → Part → Type 0
HasCompleted s done x part = In (Settled_at part.element x Complete) (bare_facts (facts s.transactions (first_world s) done))

-- the report on a control element has this line
abbrev pub HasLine : List ℕ → List ℕ → Type 0
HasLine line report = (before : List ℕ) × (behind : List ℕ) × (report ≡ before ++ (line ++ behind))

-- Each of these steps could be made after those that were done. All that was sent since is delivered then, n messages: two for each of the messages to a
-- participant, and one for each event notice. Every participant has completed the transaction, and the report on the control element says so.
pub record IsComplete (s : Setting) (done more : List (ℕ × Step)) (k : ℕ) (t : PlanTxn) (m : Master) (n : ℕ) : Type 0 where
  pub made : AreMade s.transactions (world_after s done) more
  pub since : List Parcel
  pub sent : (world_after s (done ++ more)).sent ≡ (world_after s done).sent ++ since
  pub delivered : length since ≡ n
  pub count : n ≡ messages_for (begun t) + notices_in since
  pub elements : AllByRecursion (HasCompleted s (done ++ more) (next_txn m)) (begun t)
  pub now : Ruling
  pub runs : ruling_in k (world_after s (done ++ more)).controllers ≡ Some now
  pub reported : HasLine (txn_line (next_txn m) (Some Complete)) (report_of now.core)

-- A transaction that may begin where all participants are ready, and whose messages are delivered from there on, each once, in the order of
-- their numbers, until all are delivered, is completed at every participant.
abbrev pub CleanRounds : Setting → List (ℕ × Step) → Type 0
CleanRounds s done =
    (place k : ℕ) (name : List ℕ) (t : PlanTxn) (c : Standing) (r : Ruling) (places : ℕ → ℕ) → MayBegin s (world_after s done) k name t c r
    → (n : ℕ) × IsComplete s done (round place k name places (length (world_after s done).sent + 1) n) k t r.core n
