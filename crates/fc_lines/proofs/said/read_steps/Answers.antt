use Rattle.std.proofs.Common.{sym, ap, codes, ◌∙◌, arith}
use Rattle.std.specs.Str.{bytes_eq}
use Rattle.fc_lines.specs.LineWords.{WordItem}
use Rattle.fc_lines.specs.WordValues.{decimal_of}
use Rattle.fc_lines.proofs.IdWords.{quick_steps, steps}
use Rattle.fc_lines.proofs.said.read_steps.Goals as goal

pub overflow_add-count : goal.overflow_add-count
overflow_add-count c = omega (arith, c.ids.invariant.going.few, c.again-first.ensures.few)

pub ids-preserved : goal.ids-preserved
ids-preserved c = record {
  going = quick_steps c.args.words.0 c.ids.words.0 c.quick_decimal.new.self.0 c.ids.count c.in-Some.field-0 c.ids.invariant.going c.in-Some.ensures.some;
  behind = c.quick_decimal.ensures.behind ∙ c.ids.invariant.behind;
}

pub words-preserved : goal.words-preserved
words-preserved c =
    let text = ap (λ (x : WordItem). x.text) c.word.view_is in record {
      going = steps c.args.words.0 c.words.words.0 c.next.new.self.0 c.words.count c.in-Some-decimal_of.field-0 c.in-Some-next.word c.words.invariant.going (sym c.in-Some-next.ensures.next) c.next.ensures.rest
          (ap (λ l. bytes_eq l (codes "key")) (sym text) ∙ sym c.is.ensures ∙ c.if-is.false) (ap decimal_of (sym text) ∙ sym c.decimal_of.ensures ∙ c.in-Some-decimal_of.is);
      behind = c.next.ensures.behind ∙ c.words.invariant.behind;
    }
