use Rattle.std.proofs.Common.{◌-◌, Some, Result, arith, sym, ap, ◌∙◌, subst}
use Rattle.std.proofs.lemmas.Result.{err_from_is_err_and}
use Rattle.fc_path.specs.Stray.{beside}
use Rattle.fc_path.specs.Reading.{path_or, path_at}
use Rattle.fc_path.specs.declared.fault.PathFault.{PathFault}
use Rattle.fc_path.specs.declared.path.Body.{Body}
use Rattle.fc_path.specs.declared.path.PathData.{PathData}
use Rattle.fc_path.proofs.Heading.{head_stops}
use Rattle.fc_showing.specs.Appending.{Shows, shown}
use Rattle.fc_text.specs.Text.{body_text, path_text}
use Rattle.fc_showing.proofs.Appending.{goes}
use Rattle.fc_showing.proofs.Keeping.{keeps_on}
use Rattle.fc_showing.proofs.ShowingPaths.{head_goes, leaf_goes, nested_goes, path_there}
use Rattle.fc_showing.proofs.show_path.+show.Goals as goal

pub show_body-returns-in_err-lent-clause-shown : goal.show_body-returns-in_err-lent-clause-shown
show_body-returns-in_err-lent-clause-shown t c =
    let p = err_from_is_err_and c.from_residual.result c.from_residual.ensures.1 in
    rw (p.1, p.2) (c.in_err-lent.ensures.exact (path_at c.args.kind c.args.depth))

pub show_body-returns-clause-shown : goal.show_body-returns-clause-shown
show_body-returns-clause-shown t c =
    subst (λ (r : Result Body PathFault). Shows c.show_held.result r (λ body. body_text body c.args.level) c.args.into.now.items c.show_held.new.into.items)
    (sym (c.in_ok-lent.ensures.exact (path_at c.args.kind c.args.depth))) c.show_held.ensures.shown

pub show_held-returns-in_ok-show_leaf-in-Leaf-clause-shown : goal.show_held-returns-in_ok-show_leaf-in-Leaf-clause-shown
show_held-returns-in_ok-show_leaf-in-Leaf-clause-shown t c =
    leaf_goes (path_at c.args.kind c.args.depth) c.args.level c.args.lent c.no_more_bodies.result c.in-Leaf.leaf c.in-Leaf.behind c.args.into.now.items c.show_leaf.new.into.items c.in-Leaf.is c.in_ok-show_leaf-in-Leaf.ensures.shown
    c.no_more_bodies.ensures.exact

pub show_held-returns-in-Nested-clause-shown : goal.show_held-returns-in-Nested-clause-shown
show_held-returns-in-Nested-clause-shown t c =
    nested_goes (path_at c.args.kind c.args.depth) c.args.level c.args.lent c.show_nested.result c.in-Nested.first c.in-Nested.behind c.args.into.now.items c.show_nested.new.into.items c.in-Nested.is c.show_nested.ensures.shown

pub show_more_nested-items-preserved : goal.show_more_nested-items-preserved
show_more_nested-items-preserved t c =
    let one = path_at c.args.kind c.args.depth in
    let text = λ (path : PathData). path_text path c.args.level in
    record {
      so_far = goes (path_or beside one) text c.items.tlvs.items c.items.tlvs.fault c.in-Ok.tlv c.next.new.self _ c.items.into.items c.show_path_at.new.into.items _ c.items.invariant.so_far
          (ap Some (sym c.in-Ok.is) ∙ c.in-Some.ensures.next) c.next.ensures.rest
          (ap (λ r. shown r text c.items.into.items) (path_there beside one c.in-Ok.tlv c.in_ok-must_be_nested-in-Ok.ensures.exact) ∙ c.in_ok-show_path_at-in-Ok.ensures.shown);
      kept = keeps_on c.args.into.now.items c.items.into.items c.show_path_at.new.into.items c.items.invariant.kept c.in_ok-show_path_at-in-Ok.ensures.kept;
    }

pub show_path_at-returns-clause-shown : goal.show_path_at-returns-clause-shown
show_path_at-returns-clause-shown t c =
    head_goes c.show_body.result c.args.kind c.args.depth (c.args.depth - 1) c.args.level c.in_ok-inside.inside c.args.tlv.now c.in_ok-head.head c.args.into.now.items c.push_head_line.new.into.items c.show_body.new.into.items (omega arith)
    c.in_ok-head.ensures.exact c.in_ok-push_head_line.ensures.text c.in_ok-inside.ensures c.show_body.ensures.shown

pub show_path_at-returns-in_err-head-clause-shown : goal.show_path_at-returns-in_err-head-clause-shown
show_path_at-returns-in_err-head-clause-shown t c =
    let p = err_from_is_err_and c.from_residual.result c.from_residual.ensures.1 in
    rw (p.1, p.2) (head_stops c.args.kind c.args.depth (c.args.depth - 1) c.args.tlv.now c.in_err-head.field-0.0 (omega arith) c.in_err-head.ensures.exact)
