use Rattle.std.proofs.Common.{◌∙◌}
use Rattle.fc_performing.proofs.Undoing.{registered_outs, registered_reply, registered_store, registered_subscriptions}
use Rattle.fc_performing.proofs.performing.register.Goals as goal

pub returns-clause-outs : goal.returns-clause-outs
returns-clause-outs c =
    c.in_ok-answered.ensures.outs
    ∙ registered_outs c.args.held.now c.args.request.now c.args.selects.now c.args.store.now c.args.subscriptions.now c.in_ok-others.others c.exec_prop.new.self c.as_slice.result.now c.mode_in.result
    c.mode_in.ensures c.in_ok-others.ensures c.requires.props c.in_ok-codes.ensures.state (c.as_slice.ensures ∙ c.in_ok-codes.ensures.codes) c.args.route

pub returns-clause-reply : goal.returns-clause-reply
returns-clause-reply c =
    c.in_ok-answered.ensures.reply
    ∙ registered_reply c.args.held.now c.args.request.now c.args.selects.now c.args.store.now c.args.subscriptions.now c.in_ok-others.others c.exec_prop.new.self c.as_slice.result.now c.mode_in.result
    c.mode_in.ensures c.in_ok-others.ensures c.requires.props c.in_ok-codes.ensures.state (c.as_slice.ensures ∙ c.in_ok-codes.ensures.codes)

pub returns-clause-store : goal.returns-clause-store
returns-clause-store c =
    registered_store c.args.held.now c.args.request.now c.args.selects.now c.args.store.now c.args.subscriptions.now c.in_ok-others.others c.exec_prop.new.self c.as_slice.result.now c.mode_in.result
    c.mode_in.ensures c.in_ok-others.ensures c.requires.props c.in_ok-codes.ensures.state (c.as_slice.ensures ∙ c.in_ok-codes.ensures.codes)

pub returns-clause-ok : goal.returns-clause-ok
returns-clause-ok c =
    c.in_ok-answered.ensures.ok
    ∙ registered_subscriptions c.args.held.now c.args.request.now c.args.selects.now c.args.store.now c.args.subscriptions.now c.in_ok-others.others c.exec_prop.new.self c.as_slice.result.now c.mode_in.result
    c.mode_in.ensures c.in_ok-others.ensures c.requires.props c.in_ok-codes.ensures.state (c.as_slice.ensures ∙ c.in_ok-codes.ensures.codes)
