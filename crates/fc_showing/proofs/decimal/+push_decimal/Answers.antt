use Rattle.std.proofs.Common.{◌≡◌, ◌++◌, ◌+◌, ◌/◌, ◌%◌, [], ◌∷◌, ℕ, List, OnOk, sym, ap, ◌∙◌, append_assoc, arith, subst}
use Rattle.fc_showing.proofs.Decimals.{one_digit, two_digits, three_digits, four_digits, four_more}
use Rattle.fc_showing.proofs.decimal.+push_decimal.Goals as goal

pub returns-then-n-lt10-clause-text : goal.returns-then-n-lt10-clause-text
returns-then-n-lt10-clause-text t c =
    subst (λ (l : List ℕ). OnOk c.push.result (c.push.new.into.items ≡ c.args.into.now.items ++ l)) (sym (one_digit c.args.n c.if-n-lt10.true)) c.push.ensures.text

pub returns-then-n-lt100-clause-text : goal.returns-then-n-lt100-clause-text
returns-then-n-lt100-clause-text t c =
    subst (λ (l : List ℕ). OnOk c.extend.result (c.extend.new.into.items ≡ c.args.into.now.items ++ l))
    (c.last_two.ensures ∙ sym (two_digits c.args.n (omega (arith, c.if-n-lt10.false)) c.if-n-lt100.true)) c.extend.ensures.text

pub returns-then-n-lt1000-clause-text : goal.returns-then-n-lt1000-clause-text
returns-then-n-lt1000-clause-text t c =
    subst (λ (l : List ℕ). OnOk c.extend-then-n-lt1000.result (c.extend-then-n-lt1000.new.into.items ≡ c.args.into.now.items ++ l))
    (c.last_three.ensures ∙ sym (three_digits c.args.n (omega (arith, c.if-n-lt100.false)) c.if-n-lt1000.true)) c.extend-then-n-lt1000.ensures.text

pub returns-then-n-lt10000-clause-text : goal.returns-then-n-lt10000-clause-text
returns-then-n-lt10000-clause-text t c =
    subst (λ (l : List ℕ). OnOk c.extend-then-n-lt10000.result (c.extend-then-n-lt10000.new.into.items ≡ c.args.into.now.items ++ l))
    (c.last_four.ensures ∙ sym (four_digits c.args.n (omega (arith, c.if-n-lt1000.false)) c.if-n-lt10000.true)) c.extend-then-n-lt10000.ensures.text

pub returns-clause-text : goal.returns-clause-text
returns-clause-text t c =
    let n = c.args.n in
    let digits = (48 + n / 1000 % 10) ∷ (48 + n / 100 % 10) ∷ (48 + n / 10 % 10) ∷ (48 + n % 10) ∷ [] in
    subst (λ (l : List ℕ). OnOk c.extend-2.result (c.extend-2.new.into.items ≡ l))
    (ap (λ l. c.push_decimal.new.into.items ++ l) c.last_four-2.ensures
    ∙ ap (λ l. l ++ digits) c.in_ok-push_decimal.ensures.text
    ∙ append_assoc c.args.into.now.items _ _
    ∙ ap (λ l. c.args.into.now.items ++ l) (sym (four_more n (omega (arith, c.if-n-lt10000.false)) (omega (arith, c.ranges.n.fits))))) c.extend-2.ensures.text
