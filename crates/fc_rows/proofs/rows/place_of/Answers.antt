use Rattle.std.proofs.Common.{length, arith}
use Rattle.std.specs.Ordering.{nat_cmp}
use Rattle.std.specs.Cmp.{nat_cmp_total}
use Rattle.std.specs.FinMap.{nat_cmp-IsAntisymmetric}
use Rattle.fc_tree.proofs.Places.{stands_at, belongs_at, all_below, all_above}
use Rattle.fc_rows.proofs.rows.place_of.Goals as goal

pub loop-low-preserved-in-Less-order_at : goal.loop-low-preserved-in-Less-order_at
loop-low-preserved-in-Less-order_at c = record {
  ordered = omega arith;
  within = omega arith;
  below = all_below nat_cmp nat_cmp_total nat_cmp-IsAntisymmetric c.args.subscript c.args.entries.now _ c.requires (omega arith) c.in-Less-order_at.ensures;
  above = c.loop-low.invariant.above;
}

pub loop-low-preserved : goal.loop-low-preserved
loop-low-preserved c = record {
  ordered = omega arith;
  within = omega arith;
  below = c.loop-low.invariant.below;
  above = all_above nat_cmp nat_cmp_total nat_cmp-IsAntisymmetric c.args.subscript c.args.entries.now _ c.requires (omega arith) c.in-Greater-order_at.ensures;
}

pub returns-in-Equal-order_at-clause-place : goal.returns-in-Equal-order_at-clause-place
returns-in-Equal-order_at-clause-place c = stands_at nat_cmp nat_cmp_total nat_cmp-IsAntisymmetric c.args.subscript _ c.args.entries.now (omega arith) c.in-Equal-order_at.ensures

pub returns-clause-place : goal.returns-clause-place
returns-clause-place c = belongs_at nat_cmp nat_cmp_total nat_cmp-IsAntisymmetric c.args.subscript c.loop-low.low c.args.entries.now (omega arith) c.loop-low.invariant.below (λ j d p q. c.loop-low.invariant.above j d (omega arith) q)

-- the last entry is in front of what belongs behind all
pub returns-in-Less-clause-place : goal.returns-in-Less-clause-place
returns-in-Less-clause-place c =
    belongs_at nat_cmp nat_cmp_total nat_cmp-IsAntisymmetric c.args.subscript (length c.args.entries.now) c.args.entries.now (omega arith)
    (λ j d p q. all_below nat_cmp nat_cmp_total nat_cmp-IsAntisymmetric c.args.subscript c.args.entries.now _ c.requires (omega arith) c.in-Less.ensures j d p (omega (arith, q)))
    (λ j d p q. absurd (omega (arith, p, q)))

pub returns-in-Equal-clause-place : goal.returns-in-Equal-clause-place
returns-in-Equal-clause-place c = stands_at nat_cmp nat_cmp_total nat_cmp-IsAntisymmetric c.args.subscript _ c.args.entries.now (omega arith) c.in-Equal.ensures
