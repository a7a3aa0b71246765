use Rattle.std.proofs.Common.{arith, eqb-true, sym, ◌∙◌}
use Rattle.fc_assoc.proofs.Scans.{stands, belongs, below_last, below_other}
use Rattle.std.proofs.lemmas.Bool.{eqb-false}
use Rattle.fc_assoc.proofs.associations.place_of.Goals as goal

pub returns-then-eq : goal.returns-then-eq
returns-then-eq c =
    stands _ _ _ c.index-pairs-place.result c.loop-place-test.true c.index-pairs-place.is c.loop-place.invariant (eqb-true _ _ (sym c.eq.ensures ∙ c.if-eq.true))

pub returns-then-get : goal.returns-then-get
returns-then-get c =
    belongs _ _ _ c.index-pairs-place.result c.loop-place-test.true c.index-pairs-place.is c.loop-place.invariant (omega arith)

pub loop-place-preserved : goal.loop-place-preserved
loop-place-preserved c =
    below_last _ _ _ c.index-pairs-place.result c.loop-place-test.true c.index-pairs-place.is c.loop-place.invariant (below_other c.index-pairs-place.result.0 c.args.ce (eqb-false _ _ (sym c.eq.ensures ∙ c.if-eq.false)) (omega arith))
