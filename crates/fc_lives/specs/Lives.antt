-- What an element has become after a list of inputs, as far as Configs may change it, and what has happened to it (RFC 5810, section 4.3.1.2).
use Rattle.std.specs.Prelude.{ℕ, List}
use Rattle.fc_abiding.specs.Runs.{Life}
use Rattle.fc_element.specs.declared.input.ElIn.{ElIn}
use Rattle.fc_element.specs.ElementState.{opened}
use Rattle.fc_element.specs.Runs.{after, facts}
use Rattle.fc_types.specs.declared.class.Class.{Class}

abbrev pub life_after : ℕ → ℕ → List Class → List (ℕ × ℕ) → List ElIn → Life
life_after id ce library instances is =
    let s = opened id ce library instances in record { state = (after s is).transactions; facts = facts s is }
