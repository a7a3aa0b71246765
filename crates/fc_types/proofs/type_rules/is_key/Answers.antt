use Rattle.std.proofs.Common.{arith, sym, ap, length, ◌<◌}
use Rattle.fc_types.proofs.Keys.{too_many}
use Rattle.fc_types.proofs.type_rules.is_key.Goals as goal

pub returns-then-ids-fields : goal.returns-then-ids-fields
returns-then-ids-fields c =
    let more : length c.args.fields.now < length c.args.key.now.fields = omega (arith, ap length c.as_slice-ids.ensures, c.if-ids-fields.true) in
    sym (too_many c.args.fields.now c.args.key.now more)
