use Rattle.fc_showing.proofs.Indents.{one_more}
use Rattle.fc_showing.proofs.Keeping.{keeps_on}
use Rattle.fc_showing.proofs.message.push_spaces.Goals as goal

pub loop-preserved : goal.loop-preserved
loop-preserved c = record {
  text = one_more c.args.into.now.items c.loop.into.items c.extend.new.into.items c.loop.counter c.loop.invariant.text c.in_ok-extend.ensures.text;
  kept = keeps_on c.args.into.now.items c.loop.into.items c.extend.new.into.items c.loop.invariant.kept c.in_ok-extend.ensures.kept;
}
