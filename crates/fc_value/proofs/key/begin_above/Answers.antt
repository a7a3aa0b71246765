use Rattle.std.proofs.Common.{◌∙◌, ap}
use Rattle.std.specs.Cmp.Lexicographic.{slice_cmp}
use Rattle.std.specs.Ordering.{nat_cmp, is_lt}
use Rattle.fc_value.proofs.Rising.{below_first}
use Rattle.fc_value.proofs.key.begin_above.Goals as goal

pub returns-in-len1-up : goal.returns-in-len1-up
returns-in-len1-up c =
    below_first (λ v. v.items) c.args.value.now.items c.args.values.now c.first-item.result c.is_lt.result c.in-len1-up.len_at_least
    (c.is_lt.ensures ∙ ap is_lt c.cmp.ensures ∙ ap (λ v. is_lt (slice_cmp nat_cmp c.args.value.now.items v.items)) c.first-item.is)
