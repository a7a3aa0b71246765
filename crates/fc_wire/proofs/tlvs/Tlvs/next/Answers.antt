use Rattle.std.proofs.Common.{ℕ, List, arith}
use Rattle.std.proofs.lemmas.Grind.{common_steps}
use Rattle.fc_wire.specs.Tlvs.{TlvItem, one_tlv}
use Rattle.fc_wire.proofs.Stepping.{one_tlv_falls, next_item, rest_item, next_end, rest_end, next_bad, rest_bad}
use Rattle.fc_wire.proofs.tlvs.Tlvs.next.Goals as goal

pub returns-then-is_empty-clause-next : goal.returns-then-is_empty-clause-next
returns-then-is_empty-clause-next c = next_end one_tlv c.self.inside.place c.self.inside.rest.now c.args.self.now c.self.view_is (grind (arith, common_steps))

pub returns-then-is_empty-clause-rest : goal.returns-then-is_empty-clause-rest
returns-then-is_empty-clause-rest c = rest_end one_tlv c.self.inside.place c.self.inside.rest.now c.args.self.now c.self.view_is (grind (arith, common_steps))

pub returns-in-Ok-clause-next : goal.returns-in-Ok-clause-next
returns-in-Ok-clause-next c =
    let x : TlvItem × List ℕ = (c.in-Ok.tlv, c.in-Ok.rest.now) in
    next_item one_tlv one_tlv_falls c.self.inside.place c.self.inside.rest.now x c.args.self.now c.self.view_is (grind (arith, common_steps)) c.in-Ok.ensures.exact

pub returns-in-Ok-clause-rest : goal.returns-in-Ok-clause-rest
returns-in-Ok-clause-rest c =
    let x : TlvItem × List ℕ = (c.in-Ok.tlv, c.in-Ok.rest.now) in
    rest_item one_tlv one_tlv_falls c.self.inside.place c.self.inside.rest.now x c.args.self.now c.self.view_is (grind (arith, common_steps)) c.in-Ok.ensures.exact

pub returns-in-Err-clause-next : goal.returns-in-Err-clause-next
returns-in-Err-clause-next c = next_bad one_tlv c.self.inside.place c.self.inside.rest.now c.in-Err.fault c.args.self.now c.self.view_is (grind (arith, common_steps)) c.in-Err.ensures.exact

pub returns-in-Err-clause-rest : goal.returns-in-Err-clause-rest
returns-in-Err-clause-rest c = rest_bad one_tlv c.self.inside.place c.self.inside.rest.now c.in-Err.fault c.args.self.now c.self.view_is (grind (arith, common_steps)) c.in-Err.ensures.exact
