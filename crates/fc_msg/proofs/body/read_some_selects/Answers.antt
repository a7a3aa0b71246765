use Rattle.std.proofs.Common.{Ok, Some, sym, ap, ◌∙◌}
use Rattle.fc_path.specs.Reading.{select_at}
use Rattle.fc_path.proofs.Steps.{loop_goes, loop_end, some_empty}
use Rattle.fc_msg.proofs.body.read_some_selects.Goals as goal

pub items-preserved : goal.items-preserved
items-preserved c =
    loop_goes (select_at c.args.message) c.items.tlvs.items c.items.tlvs.fault c.in-Ok.tlv c.next.new.self c.items.selects c.push.new.self _ c.in_ok-select-in-Ok.select c.items.invariant
    (ap Some (sym c.in-Ok.is) ∙ c.in-Some.ensures.next) c.next.ensures.rest c.in_ok-select-in-Ok.ensures.exact c.in_ok-push-in-Ok.ensures.ok

pub returns-then-is_empty : goal.returns-then-is_empty
returns-then-is_empty c =
    some_empty (select_at c.args.message) c.args.end c.args.tlvs.items c.args.tlvs.fault
    (loop_end (select_at c.args.message) c.items.tlvs.items c.items.tlvs.fault c.items.selects _ c.items.invariant c.in_default.ensures.next ∙ ap Ok (c.is_empty.ensures.0 c.if-is_empty.true))
