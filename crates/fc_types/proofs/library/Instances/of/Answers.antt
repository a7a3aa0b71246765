use Rattle.std.proofs.Common.{ap, ◌∙◌, sym, subst}
use Rattle.fc_types.specs.Ids.{is_rising}
use Rattle.fc_types.specs.Libraries.{pair_cmp, AreInstances}
use Rattle.fc_types.proofs.Rising.{instances_of, distinct_sorted, repeated_sorted}
use Rattle.fc_types.proofs.library.Instances.of.Goals as goal

pub returns-then-not-are_rising-clause-repeats : goal.returns-then-not-are_rising-clause-repeats
returns-then-not-are_rising-clause-repeats c = λ _.
    repeated_sorted c.args.pairs.items c.sort.new.self.items c.in_ok-sort.ensures.permutation c.in_ok-sort.ensures.sorted
    (ap (is_rising pair_cmp) (sym c.deref.ensures.value) ∙ sym c.are_rising.ensures ∙ c.if-not-are_rising.true)

pub invariant_of-result : goal.invariant_of-result
invariant_of-result c =
    subst AreInstances (sym c.from_vec.ensures)
    (instances_of c.args.pairs.items c.sort.new.self.items c.in_ok-sort.ensures.permutation
    (ap (is_rising pair_cmp) (sym c.deref.ensures.value) ∙ sym c.are_rising.ensures ∙ c.if-not-are_rising.false) c.requires)

pub returns-clause-order : goal.returns-clause-order
returns-clause-order c = invariant_of-result c

pub returns-clause-distinct : goal.returns-clause-distinct
returns-clause-distinct c =
    distinct_sorted c.args.pairs.items c.sort.new.self.items c.in_ok-sort.ensures.permutation
    (ap (is_rising pair_cmp) (sym c.deref.ensures.value) ∙ sym c.are_rising.ensures ∙ c.if-not-are_rising.false)
