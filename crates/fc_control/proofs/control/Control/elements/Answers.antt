use Rattle.std.proofs.Common.{◌≤◌, length, sym, subst}
use Rattle.fc_control.proofs.control.Control.elements.Goals as goal

pub returns-clause-few : goal.returns-clause-few
returns-clause-few c = subst (λ l. length l ≤ 255) (sym c.elements.ensures.same) c.elements.ensures.plan.few
