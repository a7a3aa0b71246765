-- What holds of every world, however messages are lost, repeated and reordered and controllers stop and return. This profile's own.
use Rattle.std.specs.Prelude.{◌≡◌, ℕ, ◌<◌, true, List, [], ◌∷◌, ◌++◌, Some}
use Rattle.fc_base.specs.Ids.{Txn}
use Rattle.fc_machine.specs.ElementMachine.{Arrived, step}
use Rattle.fc_headline.specs.Folds.{Folded}
use Rattle.fc_machine.specs.Ground.{Ground}
use Rattle.fc_machine.specs.Messages.{Configuring, Configure}
use Rattle.fc_machine.specs.Trace.{Fact, Of_protocol}
use Rattle.fc_machine.specs.WorldSteps.{Masters, World}
use Rattle.fc_protocol.specs.Collections.{In, among}
use Rattle.fc_protocol.specs.Jobs.{Job, is_settled}
use Rattle.fc_protocol.specs.Trace.{Opened_at, Prepared_at, Settled_at}
use Rattle.fc_protocol.specs.declared.states.Decision.{Decision}
use Rattle.fc_protocol.specs.declared.states.Decision.TheVariants.{Complete}

-- no two elements settle one transaction differently, and none settles it twice
pub record Agree {Op : Type 0} (fs : List (Fact Op)) : Type 0 where
  pub same : (x : Txn) (p q : ℕ) (d e : Decision) → In (Of_protocol (Settled_at p x d)) fs → In (Of_protocol (Settled_at q x e)) fs → d ≡ e
  pub once : (x : Txn) (p : ℕ) (d e : Decision) (later before : List (Fact Op)) → fs ≡ later ++ Of_protocol (Settled_at p x d) ∷ before → In (Of_protocol (Settled_at p x e)) before → ⊥

-- before an element completes a transaction it has opened it, and every participant it was opened with has prepared; all open it with one list of participants
pub record Ready {Op : Type 0} (fs : List (Fact Op)) : Type 0 where
  pub prepared : (x : Txn) (p : ℕ) (later before : List (Fact Op)) → fs ≡ later ++ Of_protocol (Settled_at p x Complete) ∷ before
      → (ps : List ℕ) × In (Of_protocol (Opened_at p x ps)) before × ((q : ℕ) → among q ps ≡ true → In (Of_protocol (Prepared_at q x)) before)
  pub one_plan : (x : Txn) (p q : ℕ) (ps qs : List ℕ) → In (Of_protocol (Opened_at p x ps)) fs → In (Of_protocol (Opened_at q x qs)) fs → ps ≡ qs

-- a Config of a life below the element's epoch changes nothing there, in any part, and gives no fact
abbrev pub Fenced : {Config Op Subs M : Type 0} → Ground Config Op Subs → World Config Op Subs M → Type 0
Fenced {Config} {Op} g w =
    (p k source : ℕ) (m : Configuring Op) → m.stamp.life < (w.at p).epoch → ((step g p (w.at p) (Arrived k source (Configure m))).element ≡ w.at p) × ((step g p (w.at p) (Arrived k source (Configure m))).facts ≡ [])

-- what a master counts as settled whole has been settled at each participant, by the decision of the job
abbrev pub Settles : {Config Op Subs M P C : Type 0} → Masters Op M P C → World Config Op Subs M → Type 0
Settles {Config} {Op} {Subs} {M} ms w =
    (k : ℕ) (m : M) (j : Job) (p : ℕ) → w.masters k ≡ Some m → In j (ms.core m).jobs → is_settled j ≡ true → among p j.parts ≡ true → (d : Decision) × (j.decision ≡ Some d) × In (Of_protocol (Settled_at p j.txn d)) w.facts

-- what holds of a world
pub record Headline {Config Op Subs M P C : Type 0} (g : Ground Config Op Subs) (ms : Masters Op M P C) (opening : Config) (w : World Config Op Subs M) : Type 0 where
  pub agree : Agree w.facts
  pub ready : Ready w.facts
  pub folded : (p : ℕ) → Folded g opening p (w.at p) w.facts
  pub fenced : Fenced g w
  pub settled : Settles ms w
