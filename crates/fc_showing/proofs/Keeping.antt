-- What stood in front stays in front, over one call after the other.
use Rattle.std.proofs.Common.{ℕ, List, arith, ◌∙◌}
use Rattle.fc_showing.specs.Appending.{Keeps}

pub keeps_on : (a b c : List ℕ) → Keeps a b → Keeps b c → Keeps a c
keeps_on a b c p q = (omega arith, λ k h. q.1 k (omega arith) ∙ p.1 k h)
