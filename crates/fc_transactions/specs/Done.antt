-- What a call that does what a Config asks gives: what is sent, and the response in it. This profile's own.
use Rattle.std.specs.Prelude.{◌≡◌, ℕ, List}
use Rattle.std.specs.List.{AllByRecursion}
use Rattle.fc_msg.specs.declared.message.Message.{Message}
use Rattle.fc_path.specs.declared.oper.Select.{Select}
use Rattle.fc_reply.specs.Replies.{reply}
use Rattle.fc_performing.specs.Sending.{IsAnswer, IsSaid, responses}
use Rattle.fc_performing.specs.declared.answering.Answered.{Answered}
use Rattle.fc_transactions.specs.Order.{says}
use Rattle.fc_transactions.specs.Phases.{Did}

-- the response to a Config with these selects, whose operations have these codes, alone, over this peer
pub record IsAnswered (peer : ℕ) (m : Message) (selects : List Select) (codes : List ℕ) (a : Answered) : Type 0 where
  pub outs : a.outs ≡ responses peer (reply m selects codes)
  pub said : AllByRecursion IsSaid a.outs
  pub response : a.reply ≡ reply m selects codes
  pub proper : IsAnswer a.reply

-- what an element of this ID sends over this peer for a Config with these selects, after this was done
pub record IsDone (p peer : ℕ) (m : Message) (selects : List Select) (d : Did) (a : Answered) : Type 0 where
  pub outs : a.outs ≡ says p peer m selects d
  pub said : AllByRecursion IsSaid a.outs
  pub response : a.reply ≡ reply m selects d.codes
  pub proper : IsAnswer a.reply
