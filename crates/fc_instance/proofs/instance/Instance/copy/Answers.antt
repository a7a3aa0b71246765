use Rattle.fc_instance.proofs.Copied.{copied_now}
use Rattle.fc_instance.proofs.instance.Instance.copy.Goals as goal

pub returns : goal.returns
returns c = (copied_now c.args.self.now c.self.inside.slots.items c.deref.result.now c.in_ok-slots.slots.items c.self.inside.log.0 c.self.inside.marks.items _ c.self.view_is c.deref.ensures.value c.in_ok-slots.ensures c.of.ensures.now, c.of.ensures.held)
