-- A round in which nothing is lost and nothing goes wrong, in a world of whole elements. This profile's own.
use Rattle.std.specs.Prelude.{◌≡◌, ℕ, zero, suc, ◌+◌, true, false, List, [], ◌∷◌, ◌++◌, length, Some, None}
use Rattle.std.specs.List.{AllByRecursion}
use Rattle.std.specs.FinMap.{contains_key}
use Rattle.fc_agreement.specs.CleanRound.{round_count, spoken_count}
use Rattle.fc_headline.specs.Folds.{Clean}
use Rattle.fc_machine.specs.ElementMachine.{is_ce}
use Rattle.fc_machine.specs.ElementState.{bares}
use Rattle.fc_machine.specs.Ground.{Ground, inside_by}
use Rattle.fc_machine.specs.Trace.{Of_protocol}
use Rattle.fc_machine.specs.Transactions.{all_in}
use Rattle.fc_machine.specs.WorldSteps.{Parcel, Masters, World, Step, Begin, Deliver, sender, run, viewed}
use Rattle.fc_protocol.specs.Collections.{In, among}
use Rattle.fc_protocol.specs.ElementMachine.{rises_above}
use Rattle.fc_protocol.specs.Jobs.{Job, find, is_settled}
use Rattle.fc_protocol.specs.MasterMachine.{next_txn}
use Rattle.fc_protocol.specs.Records.{clashes, is_packed}
use Rattle.fc_protocol.specs.Scopes.{is_scope}
use Rattle.fc_protocol.specs.Trace.{Settled_at}
use Rattle.fc_protocol.specs.declared.states.Decision.TheVariants.{Complete}

-- the operations of the changes from 1 to this one, in their order
abbrev pub changes_to : {Op : Type 0} → (ℕ → List Op) → ℕ → List Op
changes_to change zero = []
changes_to change (suc n) = changes_to change n ++ change (suc n)

-- the element p is idle for the plan under the master m of k: it is claimed by this life and has taken all that was sent, it has the association of this controller, nothing that it holds meets the plan's scope there, and it has room;
-- the plan's scope there names instances that it has, the plan's changes lie in the scope, and one after the other they succeed on its settled configuration; and nothing waits there
pub record IdleFor {Config Op Subs M P C : Type 0} (g : Ground Config Op Subs) (ms : Masters Op M P C) (w : World Config Op Subs M) (k : ℕ) (m : M) (plan : P) (p : ℕ) : Type 0 where
  pub epoch : (w.at p).epoch ≡ (ms.core m).epoch
  pub master : (w.at p).master ≡ sender g ms w k
  pub sequence : (w.at p).sequence ≡ ((ms.core m).at p).last
  pub associated : contains_key (w.at p).associations (sender g ms w k) ≡ true
  pub free : clashes (ms.scopes plan p) (bares (w.at p).records) ≡ false
  pub room : is_packed (bares (w.at p).records) ≡ false
  pub met : ((ms.core m).at p).met ≡ true
  pub claimed : ((ms.core m).at p).claimed ≡ true
  pub waits : ((ms.core m).at p).waits ≡ None
  pub scoped : is_scope (ms.scopes plan p) ≡ true
  pub instances : all_in g (ms.scopes plan p) ≡ true
  pub inside : AllByRecursion (λ op. inside_by (ms.scopes plan p) (g.place_of op) ≡ true) (changes_to (ms.change plan p) (ms.counts plan p))
  pub succeeds : Clean g.effect (w.at p).settled (changes_to (ms.change plan p) (ms.counts plan p))

-- the running master m of k, whose ID is that of a control element, may begin the plan, and each participant is idle for it
pub record MayBegin {Config Op Subs M P C : Type 0} (g : Ground Config Op Subs) (ms : Masters Op M P C) (w : World Config Op Subs M) (k : ℕ) (m : M) (plan : P) : Type 0 where
  pub runs : w.masters k ≡ Some m
  pub may : (ms.begins k m plan).refusal ≡ None
  pub rising : rises_above 0 (ms.parts plan) ≡ true
  pub controller : is_ce g (sender g ms w k) ≡ true
  pub idle : (p : ℕ) → among p (ms.parts plan) ≡ true → IdleFor g ms w k m plan p

-- so many messages arrive in their order, from that of the number i on
abbrev pub delivers_from : {P C : Type 0} → ℕ → ℕ → List (Step P C)
delivers_from i zero = []
delivers_from i (suc n) = Deliver i ∷ delivers_from (i + 1) n

-- the world v has delivered all that was sent since w, n messages, and the master of k has completed its next transaction at all participants
pub record Completes {Config Op Subs M P C : Type 0} (ms : Masters Op M P C) (w v : World Config Op Subs M) (k : ℕ) (m : M) (plan : P) (n : ℕ) : Type 0 where
  pub since : List (Parcel Op)
  pub sent : v.sent ≡ w.sent ++ since
  pub delivered : length since ≡ n
  pub count : spoken_count (viewed since) ≡ round_count (ms.counts plan) (ms.parts plan)
  pub elements : (p : ℕ) → among p (ms.parts plan) ≡ true → In (Of_protocol (Settled_at p (next_txn (ms.core m)) Complete)) v.facts
  pub now : M
  pub runs : v.masters k ≡ Some now
  pub job : Job
  pub found : find (next_txn (ms.core m)) (ms.core now).jobs ≡ Some job
  pub decision : job.decision ≡ Some Complete
  pub settled : is_settled job ≡ true

-- a plan that may begin at idle elements, at one at least, and whose messages all arrive, once and in their order, is completed at every participant, whatever else is held there
abbrev pub CleanRound : {Config Op Subs M P C : Type 0} → Ground Config Op Subs → Masters Op M P C → World Config Op Subs M → Type 0
CleanRound {Config} {Op} {Subs} {M} {P} {C} g ms w =
    (k : ℕ) (m : M) (plan : P) (p : ℕ) (ps : List ℕ) → ms.parts plan ≡ p ∷ ps → MayBegin g ms w k m plan
    → (n : ℕ) × Completes ms w (run g ms (Begin k plan ∷ delivers_from (length w.sent + 1) n) w) k m plan n
