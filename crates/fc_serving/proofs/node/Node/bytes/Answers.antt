use Rattle.std.proofs.Common.{ap, sym, ◌∙◌}
use Rattle.std.specs.FinMap.{get, insert}
use Rattle.fc_serving.specs.ElementNode.{node, on_bytes}
use Rattle.fc_serving.proofs.Bytes.{put_back, stayed, went}
use Rattle.fc_serving.proofs.node.Node.bytes.Goals as goal

pub returns-in-Ok-true-clause-ok : goal.returns-in-Ok-true-clause-ok
returns-in-Ok-true-clause-ok g c =
    let s = c.self.inside in
    let told = c.in-Ok-true.ensures in
    let first = c.in-Some.ensures.some ∙ ap (insert s.peers c.args.peer) c.new.ensures in
    let second = put_back _ s.peers _ _ c.args.peer _ c.put-in-Ok-true.ensures.left first c.put-in-Ok-true.ensures.some in
    stayed (node s.element s.peers) c.args.peer c.args.piece.now c.in-Some.splitter c.feed.new.self c.deliver.new.splitter c.deliver.new.element c.put.new.self
    c.put-in-Ok-true.new.self c.in-Some.ensures.left c.in-Ok.ensures.ok (sym c.in-Ok-true.field-0-test ∙ told.stays) told.element (told.rest c.in-Ok-true.field-0-test) first second
    ∙ ap (λ n. (on_bytes n c.args.peer c.args.piece.now (get n.peers c.args.peer)).state) c.self.view_is

pub returns-in-Ok-false-clause-ok : goal.returns-in-Ok-false-clause-ok
returns-in-Ok-false-clause-ok g c =
    let s = c.self.inside in
    let told = c.in-Ok-false.ensures in
    let first = c.in-Some.ensures.some ∙ ap (insert s.peers c.args.peer) c.new.ensures in
    went (node s.element s.peers) c.args.peer c.args.piece.now c.in-Some.splitter c.feed.new.self c.deliver.new.element c.put.new.self c.close.new.self
    c.in-Some.ensures.left c.in-Ok.ensures.ok (sym c.in-Ok-false.field-0-test ∙ told.stays) told.element first c.close.ensures.others
    ∙ ap (λ n. (on_bytes n c.args.peer c.args.piece.now (get n.peers c.args.peer)).state) c.self.view_is
