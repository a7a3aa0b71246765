-- What no move of the core changes: a settled state, and a decision.
use Rattle.std.proofs.Common.{◌≡◌, ℕ, ◌&&◌, ◌==◌, Bool, true, false, cond, nat_lt, List, [], ◌∷◌, Option, Some, None, is_none, refl, sym, ap, ◌∙◌}
use Rattle.fc_protocol.specs.Collections.{among}
use Rattle.fc_agreement.specs.Core.{Core, Element, Move, Raise, Open, Fail, Prepare, Tell, Decide, Give_up, Commit, Settle, moved, moves, changed, decides, decides_by, commits_by, settles_by, answers, settled, raised, to}
use Rattle.fc_protocol.specs.Decide.{is_absent, is_started, is_prepared, every, decision_by}
use Rattle.fc_protocol.specs.declared.states.Decision.{Decision}
use Rattle.fc_protocol.specs.declared.states.Decision.TheVariants.{Complete, Abort}
use Rattle.fc_protocol.specs.declared.states.Seen.{Seen}
use Rattle.fc_protocol.specs.declared.states.Seen.TheVariants.{Completed, Aborted}
use Rattle.fc_protocol.proofs.Puts.{both_second, put_keep, was_none}
use Rattle.fc_agreement.proofs.States.{was_absent, was_started}
use Rattle.fc_protocol.proofs.Basics.{put_rest, none_some}
use Rattle.fc_agreement.proofs.Moves.{over, raised_over, settled_over}

-- from c to d no settled state and no decision has changed
pub record Lasts (c d : Core) : Type 0 where
  pub state : (q : ℕ) (s : Seen) → over s ≡ true → (c.at q).state ≡ s → (d.at q).state ≡ s
  pub decided : (e : ℕ) (g : Decision) → c.decided e ≡ Some g → d.decided e ≡ Some g

lasts_same : (c : Core) → Lasts c c
lasts_same c = record { state = λ q s o e. e; decided = λ e g i. i }

lasts_then : (c d f : Core) → Lasts c d → Lasts d f → Lasts c f
lasts_then c d f a b = record { state = λ q s o e. b.state q s o (a.state q s o e); decided = λ e g i. b.decided e g (a.decided e g i) }

lasts_if : (b : Bool) (c d : Core) → (b ≡ true → Lasts c d) → Lasts c (cond b d c)
lasts_if true c d f = f refl
lasts_if false c d f = lasts_same c

lasts_changed : (c : Core) (p : ℕ) (y : Element) → ((s : Seen) → over s ≡ true → (c.at p).state ≡ s → y.state ≡ s) → Lasts c (changed c p y)
lasts_changed c p y k = record {
  state = λ q s o e. put_rest (λ i (v : Element). (c.at i).state ≡ s → v.state ≡ s) c.at p y (k s o) (λ i _ u. u) q e;
  decided = λ e g i. i;
}

lasts_decides : (c : Core) (e : ℕ) (d : Decision) → c.decided e ≡ None → Lasts c (decides c e d)
lasts_decides c e d n = record {
  state = λ q s o i. i;
  decided = λ f g i. put_keep c.decided e (Some d) f (Some g) i (λ s. none_some g (sym n ∙ ap c.decided (sym s) ∙ i));
}

never : {P : Type 0} (s t : Seen) → over s ≡ true → t ≡ s → over t ≡ false → P
never s t o e f = let u : true ≡ false = sym o ∙ ap over (sym e) ∙ f in cc

lasts_by : (c : Core) (e : ℕ) (o : Option (List Seen)) → c.decided e ≡ None → Lasts c (decides_by c e o)
lasts_by c e None n = lasts_same c
lasts_by c e (Some ss) n = lasts_decides c e (decision_by ss) n

lasts_commits : (c : Core) (e : ℕ) (o : Option (List Seen)) → c.decided e ≡ None → Lasts c (commits_by c e o)
lasts_commits c e None n = lasts_same c
lasts_commits c e (Some ss) n = lasts_if (every is_prepared ss) c (decides c e Complete) (λ _. lasts_decides c e Complete n)

lasts_settles : (c : Core) (p : ℕ) (o : Option Decision) → Lasts c (settles_by c p o)
lasts_settles c p None = lasts_same c
lasts_settles c p (Some d) = lasts_changed c p (to (c.at p) (settled d (c.at p).state)) (λ s o e. ap (settled d) e ∙ settled_over d s o)

module _ (own : ℕ) (parts : List ℕ) where
  lasts_moved : (c : Core) (m : Move) → Lasts c (moved own parts c m)
  lasts_moved c (Raise p e) = lasts_if (nat_lt (c.at p).epoch e) c _ (λ _. lasts_changed c p _ (λ s o i. ap raised i ∙ raised_over s o))
  lasts_moved c (Open p) =
      lasts_if (among p parts && ((c.at p).epoch == own && is_absent (c.at p).state)) c _
      (λ t. lasts_changed c p _ (λ s o i. never s (c.at p).state o i (ap over (was_absent _ (both_second ((c.at p).epoch == own) _ (both_second (among p parts) _ t))))))
  lasts_moved c (Fail p) = lasts_if (is_started (c.at p).state) c _ (λ t. lasts_changed c p _ (λ s o i. never s (c.at p).state o i (ap over (was_started _ t))))
  lasts_moved c (Prepare p) =
      lasts_if ((c.at p).epoch == own && is_started (c.at p).state) c _ (λ t. lasts_changed c p _ (λ s o i. never s (c.at p).state o i (ap over (was_started _ (both_second ((c.at p).epoch == own) _ t)))))
  lasts_moved c (Tell p) = record { state = λ q s o e. e; decided = λ e g i. i }
  lasts_moved c (Decide e which) = lasts_if (nat_lt own e && is_none (c.decided e)) c _ (λ t. lasts_by c e (answers e c.notes parts which) (was_none _ (both_second (nat_lt own e) _ t)))
  lasts_moved c Give_up = lasts_if (is_none (c.decided own)) c _ (λ t. lasts_decides c own Abort (was_none _ t))
  lasts_moved c (Commit which) = lasts_if (is_none (c.decided own)) c _ (λ t. lasts_commits c own (answers own c.notes parts which) (was_none _ t))
  lasts_moved c (Settle p) = lasts_if (among p parts) c _ (λ _. lasts_settles c p (c.decided (c.at p).epoch))

  pub lasts : (ms : List Move) (c : Core) → Lasts c (moves own parts ms c)
  lasts [] c = lasts_same c
  lasts (m ∷ ms) c = lasts_then c (moved own parts c m) (moves own parts ms (moved own parts c m)) (lasts_moved c m) (lasts ms (moved own parts c m))

  pub completed_lasts : (ms : List Move) (c : Core) (p : ℕ) → (c.at p).state ≡ Completed → ((moves own parts ms c).at p).state ≡ Completed
  completed_lasts ms c p e = (lasts ms c).state p Completed refl e

  pub aborted_lasts : (ms : List Move) (c : Core) (p : ℕ) → (c.at p).state ≡ Aborted → ((moves own parts ms c).at p).state ≡ Aborted
  aborted_lasts ms c p e = (lasts ms c).state p Aborted refl e

  pub decision_lasts : (ms : List Move) (c : Core) (e : ℕ) (d : Decision) → c.decided e ≡ Some d → (moves own parts ms c).decided e ≡ Some d
  decision_lasts ms c e d i = (lasts ms c).decided e d i
