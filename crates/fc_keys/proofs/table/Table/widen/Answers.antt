use Rattle.std.proofs.Common.{◌∙◌, ℕ, ap}
use Rattle.fc_keys.specs.Keys.{KeyMap}
use Rattle.fc_keys.proofs.Spread.{all_moved}
use Rattle.fc_keys.proofs.table.Table.widen.Goals as goal

pub returns-clause-same : goal.returns-clause-same
returns-clause-same c =
    ap (λ (v : KeyMap × ℕ). v.0) c.replace-2.ensures.after
    ∙ all_moved c.buckets.inside.buckets.items c.in_ok-wider.wider.0 c.move_all.new.table.0 c.in_ok-wider.ensures.pairs c.move_all.ensures.pairs
    ∙ ap (λ (v : KeyMap × ℕ). v.0) (c.buckets.view_is ∙ c.replace.ensures.value)
