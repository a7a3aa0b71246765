use Rattle.std.proofs.Common.{map, Some, None, ap, ◌∙◌}
use Rattle.fc_plans.specs.Plans.{plan_fault, scoped}
use Rattle.fc_plans.proofs.Scoping.{first_told, scoped_is, scoped_is_none, scoped_is_plan, tested_scoped}
use Rattle.fc_plans.proofs.plan.TxnPlan.scoped.Goals as goal

pub returns-in-Some-clause-refused : goal.returns-in-Some-clause-refused
returns-in-Some-clause-refused c = λ _.
    let raw = c.args.parts in
    let e = tested_scoped raw c.in_ok-parts.parts c.as_slice.result.now c.fault_of.result (Some c.in-Some.fault) c.in_ok-parts.ensures c.as_slice.ensures c.fault_of.ensures c.in-Some.is in
    first_told (map scoped raw) c.in-Some.fault e

pub invariant_of-result : goal.invariant_of-result
invariant_of-result c =
    let raw = c.args.parts in
    let e = tested_scoped raw c.in_ok-parts.parts c.as_slice.result.now c.fault_of.result None c.in_ok-parts.ensures c.as_slice.ensures c.fault_of.ensures c.in-None.is in
    ap plan_fault (scoped_is raw c.in_ok-parts.parts c.in_ok-scoped_parts-in-None.field-0 c.in_ok-parts.ensures e c.in-Some-2.parts c.in-Some-2.is c.in_ok-scoped_parts-in-None.ensures.some)
    ∙ scoped_is_plan raw c.in_ok-parts.parts c.in_ok-scoped_parts-in-None.field-0 c.in_ok-parts.ensures e c.in-Some-2.parts c.in-Some-2.is c.in_ok-scoped_parts-in-None.ensures.some

pub returns-in-None-2-clause-refused : goal.returns-in-None-2-clause-refused
returns-in-None-2-clause-refused c = λ _.
    let raw = c.args.parts in
    let e = tested_scoped raw c.in_ok-parts.parts c.as_slice.result.now c.fault_of.result None c.in_ok-parts.ensures c.as_slice.ensures c.fault_of.ensures c.in-None.is in
    scoped_is_none raw c.in_ok-parts.parts c.in_ok-scoped_parts-in-None.field-0 c.in_ok-parts.ensures e c.in-None-2.is c.in_ok-scoped_parts-in-None.ensures.none

pub returns-in-Some-2-clause-accepted : goal.returns-in-Some-2-clause-accepted
returns-in-Some-2-clause-accepted c =
    let raw = c.args.parts in
    let e = tested_scoped raw c.in_ok-parts.parts c.as_slice.result.now c.fault_of.result None c.in_ok-parts.ensures c.as_slice.ensures c.fault_of.ensures c.in-None.is in
    scoped_is_plan raw c.in_ok-parts.parts c.in_ok-scoped_parts-in-None.field-0 c.in_ok-parts.ensures e c.in-Some-2.parts c.in-Some-2.is c.in_ok-scoped_parts-in-None.ensures.some

pub returns-in-Some-2-clause-same : goal.returns-in-Some-2-clause-same
returns-in-Some-2-clause-same c =
    let raw = c.args.parts in
    let e = tested_scoped raw c.in_ok-parts.parts c.as_slice.result.now c.fault_of.result None c.in_ok-parts.ensures c.as_slice.ensures c.fault_of.ensures c.in-None.is in
    scoped_is raw c.in_ok-parts.parts c.in_ok-scoped_parts-in-None.field-0 c.in_ok-parts.ensures e c.in-Some-2.parts c.in-Some-2.is c.in_ok-scoped_parts-in-None.ensures.some
