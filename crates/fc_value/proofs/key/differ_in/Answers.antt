use Rattle.std.proofs.Common.{◌∙◌, ap, map, sym, bytes_eq}
use Rattle.fc_types.specs.Ids.{is_distinct}
use Rattle.fc_value.specs.Keys.{is_rising, key_values}
use Rattle.fc_value.proofs.Rising.{rising_distinct, sorted_rises}
use Rattle.fc_value.proofs.key.differ_in.Goals as goal

pub returns-then-branch : goal.returns-then-branch
returns-then-branch c = sym (rising_distinct (key_values c.args.fields.now c.args.key.now c.args.entries.now) (sym c.in_ok-keys_rise.ensures ∙ c.if-branch.true))

pub returns : goal.returns
returns c =
    c.are_rising.ensures ∙ ap (λ vs. is_rising (map (λ v. v.items) vs)) c.deref.ensures.value
    ∙ sorted_rises (λ v. v.items) c.in_ok-values.values.items c.sort.new.self.items c.in_ok-sort.ensures.permutation c.in_ok-sort.ensures.sorted
    ∙ ap (is_distinct bytes_eq) c.in_ok-values.ensures
