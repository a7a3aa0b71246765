-- The plan that a control element carries out, and the node that it begins with. This profile's own.
use Rattle.std.specs.Prelude.{ℕ, ◌==◌, ◌+◌, ◌*◌, ◌%◌, List, [], length, Result, Ok, Err}
use Rattle.fc_base.specs.Answers.{◌>>=◌}
use Rattle.fc_library.specs.declared.fault.DocumentRule.TheVariants as rules
use Rattle.fc_library.specs.declared.fault.LibFault.{LibFault}
use Rattle.fc_documents.specs.Plans.{Planned, plan_of}
use Rattle.fc_documents.specs.Rules.{kept}
use Rattle.fc_asks.specs.declared.life.Life.{Life}
use Rattle.fc_control.specs.ControlNode.{NodeState, first_node}

-- the plan that the bytes of a document mean, which has as many elements as there are addresses
abbrev pub plan_for : ℕ → List ℕ → Result Planned LibFault
plan_for addresses bytes =
    plan_of bytes >>= λ plan.
    kept rules.Addresses (length plan.elements == addresses) >>= λ _.
    Ok plan

-- the epoch of a round of a control element
abbrev pub epoch_of : ℕ → ℕ → ℕ
epoch_of round ce = round * 256 + ce % 256

-- a life of it that begins
abbrev pub first_life : ℕ → ℕ → Life
first_life ce epoch = record { ce = ce; epoch = epoch; plans = []; plains = []; alloc = record { memory = record { seal = tt } } }

-- the node of the life of this round with the plan that was given; where none is given, without elements
abbrev pub node_given : ℕ → ℕ → Result Planned LibFault → NodeState
node_given ce round (Ok plan) = first_node ce (first_life ce (epoch_of round ce)) plan.elements plan.transactions
node_given ce round (Err fault) = first_node ce (first_life ce (epoch_of round ce)) [] []
