use Rattle.std.proofs.Common.{◌≡◌, ◌++◌, OnOk, map, sym, ap, ◌∙◌, subst}
use Rattle.std.specs.List.{flat_map}
use Rattle.fc_path.specs.Leaves.{oper_leaves, select_leaves}
use Rattle.fc_ops.specs.Asking.{question}
use Rattle.fc_ops.proofs.Asks.{select_asked}
use Rattle.fc_ops.proofs.questions.push_select.Goals as goal

pub returns : goal.returns
returns c =
    let s = c.args.select.now in
    let all : flat_map (λ o. map question (oper_leaves s.class s.instance o)) c.as_slice.result.now ≡ map question (select_leaves s) =
    ap (flat_map (λ o. map question (oper_leaves s.class s.instance o))) c.as_slice.ensures ∙ sym (select_asked s) in
    subst (λ l. OnOk c.push_opers.result (c.push_opers.new.questions.items ≡ c.args.questions.now.items ++ l)) all c.push_opers.ensures
