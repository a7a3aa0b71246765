use Rattle.std.proofs.Common.{◌++◌, ap, ◌∙◌}
use Rattle.fc_blocks.proofs.Rising.{given_is, store_made}
use Rattle.fc_blocks.proofs.opening.open_store.Goals as goal

pub returns : goal.returns
returns c =
    given_is c.new.result _ _
    (store_made c.args.library c.in_ok-library.library c.args.instances c.in_ok-library.instances
    (c.in_ok-library.ensures.classes ∙ ap (λ l. c.args.library ++ l) c.in_ok-own.ensures.classes) c.in_ok-library.ensures.instances c.in_ok-library.ensures.order.rising)
    c.new.ensures
