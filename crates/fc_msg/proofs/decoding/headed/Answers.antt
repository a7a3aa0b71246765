use Rattle.std.proofs.Common.{◌==◌, not, Option, slice_index, sym, ap, ◌∙◌, arith}
use Rattle.fc_msg.specs.Faults.{first_broken, first_of, is_type, type_rules}
use Rattle.fc_msg.specs.declared.fault.Refusal.{Refusal}
use Rattle.fc_msg.proofs.FaultPlaces.{header_low, types_low}
use Rattle.fc_msg.proofs.Reading.{head_refuses}
use Rattle.fc_msg.proofs.decoding.headed.Goals as goal

pub returns-in-Err-clause-told : goal.returns-in-Err-clause-told
returns-in-Err-clause-told c =
    let bytes = c.args.bytes.now in
    head_refuses bytes c.in-Err.refusal (ap (λ (o : Option Refusal). first_of o (first_broken (type_rules (slice_index bytes 1)))) c.in-Err.ensures.refused)

pub returns-in-Err-typed-clause-told : goal.returns-in-Err-typed-clause-told
returns-in-Err-typed-clause-told c =
    let bytes = c.args.bytes.now in
    head_refuses bytes c.in-Err-typed.refusal
    (ap (λ (o : Option Refusal). first_of o (first_broken (type_rules (slice_index bytes 1)))) c.in-Ok.ensures.accepted ∙ ap (λ kind. first_broken (type_rules kind)) (sym c.in-Ok.ensures.kind) ∙ c.in-Err-typed.ensures.refused)

pub returns-in-Err-clause-within : goal.returns-in-Err-clause-within
returns-in-Err-clause-within c = header_low c.args.bytes.now c.in-Err.refusal c.in-Err.ensures.refused

pub returns-in-Err-typed-clause-within : goal.returns-in-Err-typed-clause-within
returns-in-Err-typed-clause-within c =
    let kind = c.in-Ok.header.kind in
    let at = types_low (kind == 6) (not (is_type kind)) c.in-Err-typed.refusal c.in-Err-typed.ensures.refused in
    omega (arith, at, c.in-Ok.ensures.size, c.in-Ok.ensures.some)
