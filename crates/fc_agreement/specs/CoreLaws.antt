-- What holds of the core of one transaction. This profile's own.
use Rattle.std.specs.Prelude.{◌≡◌, ℕ, ◌<◌, ◌≤◌, true, List, Some, None}
use Rattle.fc_protocol.specs.declared.states.Decision.{Decision}
use Rattle.fc_protocol.specs.declared.states.Decision.TheVariants.{Complete, Abort}
use Rattle.fc_protocol.specs.declared.states.Seen.TheVariants.{Completed, Aborted}
use Rattle.fc_protocol.specs.Collections.{among}
use Rattle.fc_agreement.specs.Core.{Core}

-- no element has completed the transaction where another has aborted it
abbrev pub OneEnd : Core → Type 0
OneEnd c = (p q : ℕ) → (c.at p).state ≡ Completed → (c.at q).state ≡ Aborted → ⊥

-- where an element has completed it, every participant has prepared it
abbrev pub PreparedBefore : List ℕ → Core → Type 0
PreparedBefore parts c = (p q : ℕ) → (c.at p).state ≡ Completed → among q parts ≡ true → (c.at q).prepared ≡ true

-- where a life has decided to complete it, every participant has prepared it
abbrev pub PreparedDecided : List ℕ → Core → Type 0
PreparedDecided parts c = (p e : ℕ) → c.decided e ≡ Some Complete → among p parts ≡ true → (c.at p).prepared ≡ true

-- where a life above the transaction's own has decided it, every participant has reached that life's epoch
abbrev pub ReachedDecided : ℕ → List ℕ → Core → Type 0
ReachedDecided own parts c = (p e : ℕ) (d : Decision) → c.decided e ≡ Some d → own < e → among p parts ≡ true → e ≤ (c.at p).epoch

-- no life above the transaction's own decides to abort what any life has decided to complete
abbrev pub NoLaterAbort : ℕ → Core → Type 0
NoLaterAbort own c = (f e : ℕ) → c.decided f ≡ Some Complete → c.decided e ≡ Some Abort → own < e → ⊥

-- from c to d: an element that has stayed at an epoch above the transaction's own has the state that it had, unless the life of that epoch has decided
abbrev pub AnswersStay : ℕ → Core → Core → Type 0
AnswersStay own c d = (p : ℕ) → own < (c.at p).epoch → (d.at p).epoch ≡ (c.at p).epoch → d.decided (c.at p).epoch ≡ None → (d.at p).state ≡ (c.at p).state

-- from c to d: what has completed or aborted stays so
abbrev pub EndsStay : Core → Core → Type 0
EndsStay c d = ((p : ℕ) → (c.at p).state ≡ Completed → (d.at p).state ≡ Completed) × ((p : ℕ) → (c.at p).state ≡ Aborted → (d.at p).state ≡ Aborted)

-- from c to d: what a life has decided it has decided
abbrev pub DecisionsStay : Core → Core → Type 0
DecisionsStay c d = (e : ℕ) (g : Decision) → c.decided e ≡ Some g → d.decided e ≡ Some g
