use Rattle.std.proofs.Common.{◌≡◌, ◌++◌, codes, ℕ, List, OnOk, ap, ◌∙◌, append_assoc, subst}
use Rattle.fc_text.specs.Text.{code_text, oper_line}
use Rattle.fc_showing.proofs.message.push_response.Goals as goal

pub returns-clause-text : goal.returns-clause-text
returns-clause-text c =
    subst (λ (l : List ℕ). OnOk c.push_code.result (c.push_code.new.into.items ≡ l))
    (ap (λ l. l ++ code_text 3 c.args.code) c.in_ok-push_line.ensures.text ∙ append_assoc c.args.into.now.items (oper_line (codes "COMMIT-RESPONSE")) (code_text 3 c.args.code)) c.push_code.ensures.text
