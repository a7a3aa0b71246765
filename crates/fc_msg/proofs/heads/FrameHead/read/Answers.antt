use Rattle.std.proofs.Common.{refl, sym, subst}
use Rattle.std.proofs.lemmas.List.{take_rest}
use Rattle.fc_msg.specs.Decoding.{Refuses}
use Rattle.fc_msg.specs.Faults.{fault_of}
use Rattle.fc_msg.proofs.Opening.{body_head_refuses, fault_lent, message_lent}
use Rattle.fc_msg.proofs.Reading.{head_refuses}
use Rattle.fc_msg.proofs.heads.FrameHead.read.Goals as goal

pub returns-in-Err-clause-refused : goal.returns-in-Err-clause-refused
returns-in-Err-clause-refused c = head_refuses c.args.bytes.now c.in-Err.refusal c.in-Err.ensures.refused

pub returns-in-Err-read-clause-refused : goal.returns-in-Err-read-clause-refused
returns-in-Err-read-clause-refused c =
    let bytes = c.args.bytes.now in
    subst (Refuses (fault_of bytes)) (sym c.from.ensures)
    (body_head_refuses bytes _ c.in-Ok.header.kind _ c.over-tlvs.result c.in-Ok.ensures.kind (take_rest bytes 24) refl c.over-tlvs.ensures.exact c.in-Ok.ensures.accepted c.in-Err-read.fault c.in-Err-read.ensures.exact)

pub returns-in-Ok-read-clause-message : goal.returns-in-Ok-read-clause-message
returns-in-Ok-read-clause-message c =
    let bytes = c.args.bytes.now in
    message_lent bytes _ c.in-Ok.header.kind _ c.over-tlvs.result c.in-Ok.ensures.kind (take_rest bytes 24) refl c.over-tlvs.ensures.exact c.in-Ok.ensures.accepted c.in-Ok.header c.in-Ok-read.body c.in-Ok.ensures.size c.in-Ok.ensures.some
    c.in-Ok.ensures.header c.in-Ok-read.ensures.exact

pub returns-in-Ok-read-clause-broken : goal.returns-in-Ok-read-clause-broken
returns-in-Ok-read-clause-broken c =
    let bytes = c.args.bytes.now in
    fault_lent bytes _ c.in-Ok.header.kind _ c.over-tlvs.result c.in-Ok.ensures.kind (take_rest bytes 24) refl c.over-tlvs.ensures.exact c.in-Ok.ensures.accepted c.in-Ok-read.body c.in-Ok-read.ensures.exact
