use Rattle.std.proofs.Common.{Result, ap, subst, sym}
use Rattle.fc_path.specs.declared.fault.PathFault.{PathFault}
use Rattle.fc_msg.specs.Heads.{with_selects}
use Rattle.fc_msg.specs.declared.message.MsgBody.{MsgBody}
use Rattle.fc_showing.specs.Appending.{Shows}
use Rattle.fc_text.specs.Text.{content_text}
use Rattle.fc_showing.proofs.Appending.{selects_go}
use Rattle.fc_showing.proofs.frames.show_body.Goals as goal

pub returns-in-Selects-clause-shown : goal.returns-in-Selects-clause-shown
returns-in-Selects-clause-shown c =
    subst (λ (r : Result MsgBody PathFault). Shows c.show_some_selects.result r content_text c.args.into.now.items c.show_some_selects.new.into.items) (sym (ap with_selects c.in-Selects.is))
    (selects_go c.show_some_selects.result c.in-Selects.kind _ c.args.into.now.items c.show_some_selects.new.into.items c.show_some_selects.ensures.shown)
