use Rattle.std.proofs.Common.{◌+◌, ◌*◌, ◌/◌, ◌^◌, ◌==◌, length, drop, ap, ◌∙◌, arith}
use Rattle.fc_wire.specs.Bytes.{u16_at}
use Rattle.fc_wire.specs.Tlvs.{TlvItem}
use Rattle.fc_path.proofs.Heading.{head_ok}
use Rattle.fc_path.proofs.heads.PathHead.read.Goals as goal

pub returns-clause-exact : goal.returns-clause-exact
returns-clause-exact c =
    let all = c.padded-padded.ensures.padded in
    let place = ap (λ (x : TlvItem). x.place) c.tlv.view_is in
    let size = ap length all in
    let count = c.from-count.ensures ∙ c.read_u16.ensures ∙ ap (λ l. u16_at l 2) all in
    let keyed = ap (λ n. n / 2 ^ 15 == 1) (c.read_u16-2.ensures ∙ ap (λ l. u16_at l 0) all) in
    head_ok c.from-count.result c.tlv.inside.place _ _ c.args.tlv.now c.split_at.result.1.now (omega (arith, size)) count place keyed (omega (arith, place)) (c.split_at.ensures.back ∙ ap (drop (4 + 4 * c.from-count.result)) all)
    _ c.split_at-2.result.1.now c.over.result (c.in_ok-key.key, c.in_ok-key.body) (omega (arith, size, place, c.split_at.ensures.back_len)) (c.split_at-2.ensures.back ∙ ap (drop 4) all) c.over.ensures.exact c.in_ok-key.ensures.exact
