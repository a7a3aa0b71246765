use Rattle.std.proofs.Common.{◌∙◌, arith}
use Rattle.fc_asks.proofs.Numbered.{numbers_more}
use Rattle.fc_asks.proofs.requests.put_numbers.Goals as goal

pub loop-at-preserved : goal.loop-at-preserved
loop-at-preserved c = numbers_more c.loop-at.bytes.items c.put_number.new.bytes.items c.put_number-in-loop-at.new.bytes.items _ c.args.ids.now c.loop-at.at c.get.result c.index-ids-at.result
    (omega arith) (c.get.ensures.same ∙ c.index-ids-at.is) c.in_ok-put_number.ensures c.in_ok-put_number-2.ensures c.loop-at.invariant
