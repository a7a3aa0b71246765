use Rattle.std.proofs.Common.{◌∙◌, ◌-◌, sym, ap, arith}
use Rattle.fc_types.specs.Types.{nests}
use Rattle.fc_types.proofs.Nests.{nests_none, nests_struct, nests_array, nests_other}
use Rattle.fc_types.proofs.depth.+depth.Goals as goal

pub nests_within-returns-then-levels-eq0 : goal.nests_within-returns-then-levels-eq0
nests_within-returns-then-levels-eq0 t c = sym (nests_none c.args.levels c.args.ty.now c.if-levels-eq0.true)

pub nests_within-returns-in-Struct : goal.nests_within-returns-in-Struct
nests_within-returns-in-Struct t c =
    c.fields_nest_within.ensures ∙ sym (nests_struct c.args.levels c.args.ty.now c.in-Struct.fields (λ e. omega (arith, e)) c.in-Struct.is)

pub nests_within-returns-in-Array : goal.nests_within-returns-in-Array
nests_within-returns-in-Array t c =
    c.nests_within.ensures ∙ ap (nests (c.args.levels - 1)) c.get.ensures
    ∙ sym (nests_array c.args.levels c.args.ty.now c.in-Array.entry c.in-Array.entries c.in-Array.keys (λ e. omega (arith, e)) c.in-Array.is)

pub nests_within-returns-in_default : goal.nests_within-returns-in_default
nests_within-returns-in_default t c =
    sym (nests_other c.args.levels c.args.ty.now (λ e. omega (arith, e)) c.in_default.not-Struct c.in_default.not-Array)
