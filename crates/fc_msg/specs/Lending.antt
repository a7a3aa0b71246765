-- What a splitter is once the frame that it lends is let go.
use Rattle.std.specs.Prelude.{◌≡◌, ⊤, List, ℕ}
use Rattle.std.specs.Borrow.{follows_so, MutBor, Fml}
use mathlib.Core.Option.{none}
use Rattle.fc_msg.specs.contracts.splitter.Splitter.{the_row}

-- it ends as these bytes
abbrev pub EndsAs : MutBor (List ℕ) → List ℕ → Fml
EndsAs splitter bytes = follows_so the_row the_row splitter.ghost_name none (λ _ _. ⊤) (λ n. n ≡ bytes)
