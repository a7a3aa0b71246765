use Rattle.std.proofs.Common.{Some, sym, ap, ◌∙◌}
use Rattle.fc_path.specs.Reading.{select_at}
use Rattle.fc_path.proofs.Steps.{loop_goes}
use Rattle.fc_msg.proofs.body.read_selects.Goals as goal

pub items-preserved : goal.items-preserved
items-preserved c =
    loop_goes (select_at c.args.message) c.items.tlvs.items c.items.tlvs.fault c.in-Ok.tlv c.next.new.self c.items.selects c.push.new.self _ c.in_ok-select-in-Ok.select c.items.invariant
    (ap Some (sym c.in-Ok.is) ∙ c.in-Some.ensures.next) c.next.ensures.rest c.in_ok-select-in-Ok.ensures.exact c.in_ok-push-in-Ok.ensures.ok
