-- All that a master says it says as its controller.
use Rattle.std.proofs.Common.{◌≡◌, ℕ, List, [], ◌∷◌, Option, Some, None, refl}
use Rattle.std.specs.List.{AllByRecursion}
use Rattle.fc_protocol.specs.MasterMachine.{Master, Waiting, again, decide_all, due, finish, sends_all, sends_one}
use Rattle.fc_protocol.specs.Messages.{Body, Sent}
use Rattle.fc_wellformed.proofs.Keeping.{all_append}

abbrev pub AreOf : ℕ → List Sent → Type 0
AreOf k ts = AllByRecursion (λ (t : Sent). t.controller ≡ k) ts

pub one_of : (k : ℕ) (m : Master) (p : ℕ) (b : Option Body) → AreOf k (sends_one k m p b).says
one_of k m p None = tt
one_of k m p (Some b) = (refl, tt)

all_of : (k : ℕ) (ps : List ℕ) (m : Master) → AreOf k (sends_all k ps m).says
all_of k [] m = tt
all_of k (p ∷ ps) m =
    let r = sends_one k m p (due m p) in
    all_append (λ (t : Sent). t.controller ≡ k) r.says (sends_all k ps r.master).says (one_of k m p (due m p)) (all_of k ps r.master)

pub finish_of : (k : ℕ) (m : Master) → AreOf k (finish k m).says
finish_of k m = all_of k m.elements (decide_all m)

pub again_of : (k p : ℕ) (o : Option Waiting) → AreOf k (again k p o)
again_of k p None = tt
again_of k p (Some o) = (refl, tt)
