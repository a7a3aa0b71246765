use Rattle.std.proofs.Common.{ap, sym, ◌∙◌}
use Rattle.std.specs.FinMap.{get, insert}
use Rattle.fc_control.specs.ControlNode.{node, on_bytes}
use Rattle.fc_control.specs.Controls.{node_of}
use Rattle.fc_control.specs.Leaving.{left_of}
use Rattle.fc_control.proofs.Bytes.{put_back, stayed, went}
use Rattle.fc_control.proofs.node.ControlNode.bytes.Goals as goal

pub returns-in-Ok-true-clause-ok : goal.returns-in-Ok-true-clause-ok
returns-in-Ok-true-clause-ok g c =
    let n = node_of c.args.self.now in
    let told = c.in-Ok-true.ensures in
    let first = c.in-Some-put.ensures.some ∙ ap (insert n.peers c.args.peer) c.new.ensures in
    let left = sym (ap (λ b. left_of b c.deliver.new.splitter) c.in-Ok-true.field-0-test) ∙ told.left in
    let second = put_back _ n.peers _ _ c.args.peer _ c.put-in-Ok-true.ensures.left first c.put-in-Ok-true.ensures.some in
    stayed n c.args.peer c.in-Some.element c.args.piece.now _ _ _ _ _ _ c.in-Some.ensures c.in-Some-put.ensures.left c.in-Ok.ensures.ok left told.control first second

pub returns-in-Ok-false-clause-ok : goal.returns-in-Ok-false-clause-ok
returns-in-Ok-false-clause-ok g c =
    let n = node_of c.args.self.now in
    let told = c.in-Ok-false.ensures in
    let first = c.in-Some-put.ensures.some ∙ ap (insert n.peers c.args.peer) c.new.ensures in
    let left = sym (ap (λ b. left_of b c.deliver.new.splitter) c.in-Ok-false.field-0-test) ∙ told.left in
    went n c.args.peer c.in-Some.element c.args.piece.now _ _ _ _ _ c.in-Some.ensures c.in-Some-put.ensures.left c.in-Ok.ensures.ok left told.control first c.close.ensures.others
