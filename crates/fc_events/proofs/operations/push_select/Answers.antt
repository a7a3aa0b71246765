use Rattle.std.proofs.Common.{◌≡◌, ◌++◌, OnOk, ap, subst}
use Rattle.std.specs.List.{flat_map}
use Rattle.fc_path.specs.Leaves.{oper_leaves, select_leaves}
use Rattle.fc_events.proofs.operations.push_select.Goals as goal

pub returns : goal.returns
returns c =
    let s = c.args.select.now in
    let all : flat_map (oper_leaves s.class s.instance) c.as_slice.result.now ≡ select_leaves s = ap (flat_map (oper_leaves s.class s.instance)) c.as_slice.ensures in
    subst (λ l. OnOk c.push_opers.result (c.push_opers.new.operations.items ≡ c.args.operations.now.items ++ l)) all c.push_opers.ensures
