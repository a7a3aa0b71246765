use Rattle.std.proofs.Common.{◌∙◌, ◌+◌, ◌++◌, [], refl, sym, ap, drop}
use Rattle.fc_peers.proofs.Acts.{acts_none, acts_on, acts_same}
use Rattle.fc_control.specs.ControlNode.{gives_up_all, gives_up_one}
use Rattle.fc_control.specs.Controls.{control_of}
use Rattle.fc_control.proofs.Going.{before, gave_all, gave_more, gave_until}
use Rattle.fc_control.proofs.control.Control.give_up_all.Goals as goal

pub loop-txn-init : goal.loop-txn-init
loop-txn-init g c = record { gave = ([], acts_none _, refl); count = refl }

pub loop-txn-preserved : goal.loop-txn-preserved
loop-txn-preserved g c =
    let (acts, done, is) = c.loop-txn.invariant.gave in
    let n = control_of c.loop-txn.self in
    let i = c.loop-txn.txn-index in
    let told = c.in-Ok.ensures in
    let all = acts ++ (gives_up_one c.txn-item.result n).acts in
    record {
      gave = (
        all,
        acts_on _ _ _ acts _ done told.acts,
        gave_more _ acts c.args.txns.now i c.txn-item.result n is c.loop-txn-test.true c.txn-item.is
            ∙ ap (λ n. before all (gives_up_all (drop (i + 1) c.args.txns.now) n)) (sym told.ok),
      );
      count = told.count ∙ c.loop-txn.invariant.count;
    }

pub returns-in-Err-clause-err : goal.returns-in-Err-clause-err
returns-in-Err-clause-err g c =
    let (acts, done, is) = c.loop-txn.invariant.gave in
    gave_until c.in-Err.stop _ _ _ _ acts c.args.txns.now c.loop-txn.txn-index c.txn-item.result (control_of c.loop-txn.self) is c.loop-txn-test.true c.txn-item.is done c.in-Err.ensures.err
