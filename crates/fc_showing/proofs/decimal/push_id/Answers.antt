use Rattle.std.proofs.Common.{◌++◌, ◌∷◌, ◌≡◌, ℕ, List, OnOk, sym, arith, subst}
use Rattle.fc_showing.proofs.Decimals.{one_digit, two_digits, three_digits}
use Rattle.fc_showing.proofs.decimal.push_id.Goals as goal

pub returns-then-n-lt10-clause-text : goal.returns-then-n-lt10-clause-text
returns-then-n-lt10-clause-text c =
    subst (λ (l : List ℕ). OnOk c.extend.result (c.extend.new.into.items ≡ c.args.into.now.items ++ 32 ∷ l)) (sym (one_digit c.args.n c.if-n-lt10.true)) c.extend.ensures.text

pub returns-then-n-lt100-clause-text : goal.returns-then-n-lt100-clause-text
returns-then-n-lt100-clause-text c =
    rw (two_digits c.args.n (omega (arith, c.if-n-lt10.false)) c.if-n-lt100.true, sym c.last_digit.ensures, sym c.last_digit-then-n-lt100.ensures) c.extend-then-n-lt100.ensures.text

pub returns-then-n-lt1000-clause-text : goal.returns-then-n-lt1000-clause-text
returns-then-n-lt1000-clause-text c =
    rw (three_digits c.args.n (omega (arith, c.if-n-lt100.false)) c.if-n-lt1000.true, sym c.last_digit-then-n-lt1000.ensures, sym c.last_digit-then-n-lt1000-2.ensures, sym c.last_digit-then-n-lt1000-3.ensures)
    c.extend-then-n-lt1000.ensures.text
