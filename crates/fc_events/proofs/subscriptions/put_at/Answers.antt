use Rattle.std.proofs.Common.{ap, ◌∙◌, Ok, Err, slice_set}
use Rattle.fc_events.specs.Subscribing.{seat}
use Rattle.fc_events.proofs.Seats.{entered_seen}
use Rattle.fc_events.proofs.subscriptions.put_at.Goals as goal

pub returns-in-Ok-clause-ok : goal.returns-in-Ok-clause-ok
returns-in-Ok-clause-ok c =
    let s = c.args.subscription in
    let old = c.args.subscriptions.now.items in
    ap (slice_set old c.in-Ok.at) c.replace.ensures.after ∙ entered_seen s old (Ok c.in-Ok.at) (c.in-Ok.ensures.seat ∙ ap (seat s.place) c.deref.ensures.value)

pub returns-in_ok-insert-in-Err-clause-ok : goal.returns-in_ok-insert-in-Err-clause-ok
returns-in_ok-insert-in-Err-clause-ok c =
    let s = c.args.subscription in
    let old = c.args.subscriptions.now.items in
    c.in_ok-insert-in-Err.ensures.items ∙ entered_seen s old (Err c.in-Err.at) (c.in-Err.ensures.seat ∙ ap (seat s.place) c.deref.ensures.value)
