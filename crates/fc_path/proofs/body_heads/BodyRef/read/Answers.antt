use Rattle.std.proofs.Common.{◌≢◌, Some, sym, ap, ◌∙◌, subst}
use Rattle.std.proofs.lemmas.Result.{err_from_is_err_and}
use Rattle.fc_wire.specs.Tlvs.{TlvItem}
use Rattle.fc_path.proofs.Opening.{leaf_lent}
use Rattle.fc_path.proofs.Steps.{body_leaf_fails}
use Rattle.fc_path.proofs.body_heads.BodyRef.read.Goals as goal

pub returns-in_err-leaf-in-Some-Ok-clause-exact : goal.returns-in_err-leaf-in-Some-Ok-clause-exact
returns-in_err-leaf-in-Some-Ok-clause-exact c = λ one.
    let p = err_from_is_err_and c.from_residual.result c.from_residual.ensures.1 in
    let other = subst (λ (x : TlvItem). x.kind ≢ 272) c.tlv.view_is c.if-tlv-eq-PATH_DATA.false in
    rw (p.1, p.2) (body_leaf_fails c.args.kind one c.args.end c.args.tlvs.items c.args.tlvs.fault c.in-Some-Ok.tlv c.next.new.self c.in_err-leaf-in-Some-Ok.field-0.0
    (ap Some (sym c.in-Some-Ok.field-0-is) ∙ c.in-Some-Ok.ensures.next) c.next.ensures.rest other c.in_err-leaf-in-Some-Ok.ensures.exact)

pub returns-in_ok-leaf-in-Some-Ok-clause-exact : goal.returns-in_ok-leaf-in-Some-Ok-clause-exact
returns-in_ok-leaf-in-Some-Ok-clause-exact c = λ one.
    let other = subst (λ (x : TlvItem). x.kind ≢ 272) c.tlv.view_is c.if-tlv-eq-PATH_DATA.false in
    leaf_lent c.args.kind one c.args.end c.args.tlvs.items c.args.tlvs.fault c.in-Some-Ok.tlv c.next.new.self c.in_ok-leaf-in-Some-Ok.leaf
    (ap Some (sym c.in-Some-Ok.field-0-is) ∙ c.in-Some-Ok.ensures.next) c.next.ensures.rest other c.in_ok-leaf-in-Some-Ok.ensures.exact
