use Rattle.std.proofs.Common.{◌≡◌, ◌<◌, get_or, length, subst}
use Rattle.fc_world.proofs.Playing.{nodes_more}
use Rattle.fc_world.proofs.nodes.first_nodes.Goals as goal

pub loop-element-preserved : goal.loop-element-preserved
loop-element-preserved c =
    nodes_more c.args.setting.now c.args.setting.now.elements c.loop-element.element-index c.element-item.result c.loop-element.nodes.items c.push.new.self.items c.in_ok-first_node.field-0
    (subst (λ l. c.loop-element.element-index < length l) c.as_slice-element-items.ensures c.loop-element-test.true)
    (subst (λ l. c.element-item.result ≡ get_or l c.loop-element.element-index c.element-item.result) c.as_slice-element-items.ensures c.element-item.is) c.loop-element.invariant c.in_ok-push.ensures.items
    c.in_ok-first_node.ensures
