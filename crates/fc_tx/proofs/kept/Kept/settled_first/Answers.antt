use Rattle.std.proofs.Common.{ℕ, ◌<◌, sym, subst, refl, add-one}
use Rattle.fc_tx.specs.Records.{AreSettled}
use Rattle.fc_tx.proofs.Settling.{settled_more}
use Rattle.fc_tx.proofs.kept.Kept.settled_first.Goals as goal

pub loop-at-init : goal.loop-at-init
loop-at-init c = record { at = refl; settled = subst (AreSettled c.self.inside.settled) c.self.view_is c.self.invariant.1 }

pub loop-at-preserved : goal.loop-at-preserved
loop-at-preserved c =
    let here = subst (λ (i : ℕ). AreSettled i c.args.self.now) c.loop-at.invariant.at c.loop-at.invariant.settled in
    record {
      at = refl;
      settled = subst (λ (i : ℕ). AreSettled i c.args.self.now) (sym (add-one c.loop-at.at))
          (settled_more c.loop-at.at c.args.self.now (subst (λ n. c.loop-at.at < n) c.len-at-end.ensures c.loop-at-test.true) (sym c.if-is_held_at.ensures) here);
    }
