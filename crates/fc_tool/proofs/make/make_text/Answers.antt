use Rattle.std.proofs.Common.{ap, refl, ◌∙◌, ◌++◌}
use Rattle.fc_tool.specs.declared.make.Made.TheVariants.{Done, Refused}
use Rattle.fc_tool.specs.Make.{bytes_of}
use Rattle.fc_tool.proofs.Making.{made_of, none_of, text_stops}
use Rattle.fc_tool.proofs.make.make_text.Goals as goal

pub returns-in-Ok-clause-ends : goal.returns-in-Ok-clause-ends
returns-in-Ok-clause-ends g c =
    let (ms, is, spelled, e) = c.in-Ok.ensures.spelled in
    let text = made_of c.args.text.now _ _ _ ms c.in-Ok.ensures.only spelled c.new-bytes.ensures.items c.as_slice.ensures.value in
    text_stops c.in-Err.stop Done c.args.text.now _ _ _ refl (ms, is, c.as_slice.ensures.value ∙ e ∙ ap (λ l. l ++ bytes_of ms) c.new-bytes.ensures.items, text) c.in-Err.ensures.err

pub returns-in-Err-At-clause-ends : goal.returns-in-Err-At-clause-ends
returns-in-Err-At-clause-ends g c =
    let none = none_of c.args.text.now _ _ _ _ (rw c.in-Err-At.field-0-is at c.in-Err-At.ensures.only) in
    let misfit = rw c.in-Err-At.field-0-is at c.in-Err-At.ensures.misfit in
    let within = rw c.in-Err-At.field-0-is at c.in-Err-At.ensures.within in
    text_stops c.in-Err-put_refusal.stop Refused c.args.text.now _ _ _ refl (_, rw c.in-Err-At.field-0-is at c.in-Err-At.ensures.exact.0, refl, (none, misfit, within))
    c.in-Err-put_refusal.ensures.err
