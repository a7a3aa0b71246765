use Rattle.std.proofs.Common.{◌∙◌, ap, subst, sym}
use Rattle.fc_msg.specs.Decoding.{Refuses}
use Rattle.fc_msg.specs.Faults.{fault_of}
use Rattle.fc_msg.specs.Heads.{message_by}
use Rattle.fc_msg.proofs.Opening.{selects_refuse}
use Rattle.fc_msg.proofs.decoding.message_of.Goals as goal

pub returns-in-Err-clause-refused : goal.returns-in-Err-clause-refused
returns-in-Err-clause-refused c =
    let bytes = c.args.bytes.now in
    subst (Refuses (fault_of bytes)) (sym c.from.ensures) (selects_refuse bytes c.in_ok-head.head.body c.in-Err.fault c.in_ok-head.ensures.broken c.in-Err.ensures)

pub returns-clause-found : goal.returns-clause-found
returns-clause-found c = c.in_ok-head.ensures.message ∙ ap (message_by c.in_ok-head.head.header) c.in-Ok.ensures
