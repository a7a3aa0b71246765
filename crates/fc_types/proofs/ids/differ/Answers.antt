use Rattle.std.proofs.Common.{◌∙◌, ap}
use Rattle.std.specs.Ordering.{nat_cmp}
use Rattle.fc_types.specs.Ids.{is_rising}
use Rattle.fc_types.proofs.Rising.{ids_rise}
use Rattle.fc_types.proofs.ids.differ.Goals as goal

pub returns : goal.returns
returns c =
    c.are_rising.ensures ∙ ap (is_rising nat_cmp) c.deref.ensures.value
    ∙ ids_rise c.args.ids.items c.sort_unstable.new.self.items c.sort_unstable.ensures.permutation c.sort_unstable.ensures.sorted
