use Rattle.fc_instance.proofs.Undoing.{mark_kept}
use Rattle.fc_instance.proofs.instance.Instance.mark.Goals as goal

pub invariant_of-self-2 : goal.invariant_of-self-2
invariant_of-self-2 c = mark_kept _ _ _ _ c.mark-at.result c.self.invariant c.mark-at.ensures c.in_ok-push.ensures.items
