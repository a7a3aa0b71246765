use Rattle.std.proofs.Common.{false, sym}
use Rattle.fc_value.specs.declared.value.Value.TheVariants as value
use Rattle.fc_tree.specs.Removing.{remove_in}
use Rattle.fc_tree.proofs.Parts.{remove_step}
use Rattle.fc_tree.proofs.removing.+remove.Goals as goal

pub remove_below-returns-in_ok-new-in-Ok : goal.remove_below-returns-in_ok-new-in-Ok
remove_below-returns-in_ok-new-in-Ok t c = remove_step (remove_in c.args.rest.now) c.args.place c.args.ty.now c.in-Some.part.now c.args.value c.replace_node.new.value c.with_part.result
    c.in-Ok.old c.in_ok-new-in-Ok.new (value.Truth false) (sym c.in-Some.ensures) c.in-Ok.ensures.after c.in-Ok.ensures.given c.in_ok-new-in-Ok.ensures c.with_part.ensures
