-- The laws of a world of whole elements.
use Rattle.std.proofs.Common.{◌≡◌, ℕ, ◌<◌, ◌%◌, ◌==◌, ◌&&◌, Bool, true, false, nat_lt, cond, List, [], ◌∷◌, ◌++◌, Option, Some, None, option_map, inl, inr, ⊎_elim, refl, sym, ap, ◌∙◌, subst, eqb-true, arith}
use Rattle.std.specs.FinMap.{contains_key}
use Rattle.fc_base.specs.Ids.{Txn}
use Rattle.fc_modes.specs.declared.mode.Mode.{Mode}
use Rattle.fc_machine.specs.ElementMachine as machine
use Rattle.fc_machine.specs.ElementMachine.{Input, Opened, Arrived, Moment, by_mode, by_verdict, is_ce, step}
use Rattle.fc_machine.specs.ElementState.{Element, restarted}
use Rattle.fc_machine.specs.Ground.{Ground, Lawful}
use Rattle.fc_headline.specs.Headline.{Agree, Ready, Settles, Headline}
use Rattle.fc_machine.specs.Messages.{Message, Configuring, Configure}
use Rattle.fc_machine.specs.Trace.{Fact, Of_protocol, Added_at, Plain_at, bare_facts}
use Rattle.fc_machine.specs.WorldSteps.{Parcel, is_down, Spoke, Masters, World, Step, Open, Deliver, Passes, Restart, Start, Stop, Begin, Change, Give_up, Resend, Forget, first_world, numbered, sender, to_master, delivers, may_start, called, begun_by, begin_at, change_at, give_up_at, forget_at, resend_at, happens, run, MastersFit}
use Rattle.fc_headline.proofs.Folded.{FoldsIn, step_folds, new_folds}
use Rattle.fc_headline.proofs.Likes.{bare_append, Likes, run_likes, first_likes}
use Rattle.fc_headline.proofs.Owned.{step_owned, folds_other}
use Rattle.fc_protocol.specs.Collections.{In, put}
use Rattle.fc_protocol.specs.Fence.{claims, judge}
use Rattle.fc_protocol.specs.MasterMachine.{Refusal}
use Rattle.fc_protocol.specs.Messages.{Stamp, is_epoch, claim_of}
use Rattle.fc_protocol.specs.Trace as trace
use Rattle.fc_protocol.specs.Trace.{Opened_at, Prepared_at, Settled_at}
use Rattle.fc_protocol.specs.WorldSteps as steps
use Rattle.fc_protocol.specs.WorldSteps.{Network}
use Rattle.fc_protocol.specs.declared.states.Decision.TheVariants.{Complete}
use Rattle.fc_protocol.specs.declared.verdict.Verdict.TheVariants.{Claim as Claims, Unclaimed, Stale}
use Rattle.fc_protocol.proofs.Basics.{both, cond_false}
use Rattle.fc_agreement.proofs.Numbers.{agree_law, once_law, ready_law, one_plan_law, settled_whole_law}
use Rattle.fc_protocol.proofs.Puts.{both_first, both_second}

-- Facts

no_added : {Op : Type 0} (f : trace.Fact) (p : ℕ) (x : Txn) (ops : List Op) (A : Type 0) → Of_protocol f ≡ Added_at p x ops → A
no_added f p x ops A e = cc

no_plain : {Op : Type 0} (f : trace.Fact) (p : ℕ) (ops : List Op) (A : Type 0) → Of_protocol f ≡ Plain_at p ops → A
no_plain f p ops A e = cc

pub in_bare : {Op : Type 0} (f : trace.Fact) (fs : List (Fact Op)) → In (Of_protocol f) fs → In f (bare_facts fs)
in_bare f [] i = absurd i
in_bare f (Of_protocol e ∷ fs) i = ⊎_elim (λ u. inl cc) (λ u. inr (in_bare f fs u)) i
in_bare f (Added_at p x ops ∷ fs) i = ⊎_elim (λ u. no_added f p x ops (In f (bare_facts fs)) u) (λ u. in_bare f fs u) i
in_bare f (Plain_at p ops ∷ fs) i = ⊎_elim (λ u. no_plain f p ops (In f (bare_facts fs)) u) (λ u. in_bare f fs u) i

pub in_whole : {Op : Type 0} (f : trace.Fact) (fs : List (Fact Op)) → In f (bare_facts fs) → In (Of_protocol f) fs
in_whole f [] i = absurd i
in_whole f (Of_protocol e ∷ fs) i = ⊎_elim (λ u. inl (ap Of_protocol u)) (λ u. inr (in_whole f fs u)) i
in_whole f (Added_at p x ops ∷ fs) i = inr (in_whole f fs i)
in_whole f (Plain_at p ops ∷ fs) i = inr (in_whole f fs i)

-- The fence

stale_claim : (epoch sender : ℕ) (m : Stamp) (claim : Option ℕ) → m.life < epoch → claims epoch sender m claim ≡ false
stale_claim epoch sender m None l = refl
stale_claim epoch sender m (Some w) l =
    ⊎_elim (λ u.
    let one : (m.life == w && m.count == 0) ≡ true = both_first (m.life == w && m.count == 0) _ u in
    let same : m.life ≡ w = eqb-true m.life w (both_first (m.life == w) _ one) in
    let two : (nat_lt epoch w && w % 256 == sender % 256) ≡ true = both_second (is_epoch w) _ (both_second (m.life == w && m.count == 0) _ u) in
    let three : nat_lt epoch w ≡ true = both_first (nat_lt epoch w) _ two in
    let above : epoch < w = grind arith in
    absurd (omega arith))
    (λ u. u) (both (claims epoch sender m (Some w)))

judged_stale : (epoch master seq sender : ℕ) (m : Stamp) (claim : Option ℕ) → m.life < epoch → judge epoch master seq sender m claim ≡ Stale
judged_stale epoch master seq sender m claim l =
    let a = stale_claim epoch sender m claim l in
    let b : (epoch == 0) ≡ false = ⊎_elim (λ u. let z : epoch ≡ 0 = eqb-true epoch 0 u in absurd (omega arith)) (λ u. u) (both (epoch == 0)) in
    let c : (m.life == epoch) ≡ false = ⊎_elim (λ u. let z : m.life ≡ epoch = eqb-true m.life epoch u in absurd (omega arith)) (λ u. u) (both (m.life == epoch)) in
    cond_false (claims epoch sender m claim) (Claims m.life) _ a ∙ cond_false (epoch == 0) Unclaimed _ b ∙ cond_false (m.life == epoch && sender == master) _ Stale (ap (λ v. v && sender == master) c)

module _ {Config Op Subs : Type 0} (g : Ground Config Op Subs) where
  Unchanged : Element Config Op Subs → machine.Step Config Op Subs → Type 0
  Unchanged el r = (r.element ≡ el) × (r.facts ≡ [])

  unchanged_if : (el : Element Config Op Subs) (b : Bool) (v w : machine.Step Config Op Subs) → Unchanged el v → Unchanged el w → Unchanged el (cond b v w)
  unchanged_if el true v w f h = f
  unchanged_if el false v w f h = h

  mode_unchanged : (p : ℕ) (el : Element Config Op Subs) (k source : ℕ) (m : Configuring Op) (o : Option Mode) → m.stamp.life < el.epoch → Unchanged el (by_mode g p el k source m o)
  unfolding Unchanged
  mode_unchanged p el k source m None l = (refl, refl)
  mode_unchanged p el k source m (Some mode) l =
      subst (λ v. ((by_verdict g p el k source m mode v).element ≡ el) × ((by_verdict g p el k source m mode v).facts ≡ [])) (sym (judged_stale el.epoch el.master el.sequence source m.stamp (claim_of m.body) l)) (refl, refl)

  pub fenced : (p : ℕ) (el : Element Config Op Subs) (k source : ℕ) (m : Configuring Op) → m.stamp.life < el.epoch → ((step g p el (Arrived k source (Configure m))).element ≡ el) × ((step g p el (Arrived k source (Configure m))).facts ≡ [])
  unfolding Unchanged
  fenced p el k source m l =
      unchanged_if el (is_ce g source) _ _ (unchanged_if el (contains_key el.associations source) _ _ (unchanged_if el m.lost _ _ (refl, refl) (unchanged_if el m.astray _ _ (refl, refl) (mode_unchanged p el k source m m.mode l))) (refl, refl)) (refl, refl)

-- Whatever the inputs and the restarts of each element keep, of all elements and all facts, every step of a world keeps
module _ {Config Op Subs M P C : Type 0} (g : Ground Config Op Subs) (ms : Masters Op M P C) (All : (ℕ → Element Config Op Subs) → List (Fact Op) → Type 0)
    (step_all : (at : ℕ → Element Config Op Subs) (fs : List (Fact Op)) (q : ℕ) (i : Input Op) → All at fs → All (put at q (step g q (at q) i).element) ((step g q (at q) i).facts ++ fs))
    (restart_all : (at : ℕ → Element Config Op Subs) (fs : List (Fact Op)) (q : ℕ) → All at fs → All (put at q (restarted (at q))) fs) where
  abbrev V : Type 0
  V = World Config Op Subs M

  abbrev Holds : V → Type 0
  Holds w = All w.at w.facts

  all_if : (b : Bool) (v w : V) → Holds v → Holds w → Holds (cond b v w)
  all_if true v w f h = f
  all_if false v w f h = h

  master_all : (w : V) (p k : ℕ) (m : Message Op) (o : Option M) → Holds w → Holds (to_master g ms w p k m o)
  master_all w p k m None a = a
  master_all w p k m (Some c) a = a

  delivers_all : (w : V) (o : Option (Parcel Op)) → Holds w → Holds (delivers g ms w o)
  delivers_all w None a = a
  delivers_all w (Some s) a =
      all_if (is_down s.message) _ _ (step_all w.at w.facts s.element (Arrived s.controller (sender g ms w s.controller) s.message) a) (master_all w s.element s.controller s.message (w.masters s.controller) a)

  called_all : (w : V) (k : ℕ) (o : Option Refusal) (r : Spoke Op M) → Holds w → Holds (called g ms w k o r)
  called_all w k (Some z) r a = a
  called_all w k None r a = a

  begun_all : (w : V) (k : ℕ) (plan : P) (m : M) (o : Option Refusal) (r : Spoke Op M) → Holds w → Holds (begun_by g ms w k plan m o r)
  begun_all w k plan m (Some z) r a = a
  begun_all w k plan m None r a = a

  begin_all : (w : V) (k : ℕ) (plan : P) (o : Option M) → Holds w → Holds (begin_at g ms w k plan o)
  begin_all w k plan None a = a
  begin_all w k plan (Some m) a = begun_all w k plan m (ms.begins k m plan).refusal (ms.begins k m plan).spoke a

  change_all : (w : V) (k p : ℕ) (c : C) (o : Option M) → Holds w → Holds (change_at g ms w k p c o)
  change_all w k p c None a = a
  change_all w k p c (Some m) a = called_all w k (ms.changes k m p c).refusal (ms.changes k m p c).spoke a

  give_up_all : (w : V) (k : ℕ) (x : Txn) (o : Option M) → Holds w → Holds (give_up_at g ms w k x o)
  give_up_all w k x None a = a
  give_up_all w k x (Some m) a = called_all w k (ms.gives_up k m x).refusal (ms.gives_up k m x).spoke a

  forget_all : (w : V) (k : ℕ) (o : Option M) → Holds w → Holds (forget_at g ms w k o)
  forget_all w k None a = a
  forget_all w k (Some m) a = called_all w k (ms.forgets k m).refusal (ms.forgets k m).spoke a

  resend_all : (w : V) (k p : ℕ) (o : Option M) → Holds w → Holds (resend_at g ms w k p o)
  resend_all w k p None a = a
  resend_all w k p (Some m) a = a

  happens_all : (w : V) (s : Step P C) → Holds w → Holds (happens g ms w s)
  happens_all w (Open p k) a = all_if _ _ _ (step_all w.at w.facts p (Opened k) a) a
  happens_all w (Deliver i) a = delivers_all w (numbered w.sent i) a
  happens_all w (Passes p t) a = all_if _ _ _ (step_all w.at w.facts p (Moment t) a) a
  happens_all w (Restart p) a = all_if _ _ _ (restart_all w.at w.facts p a) a
  happens_all w (Start k r) a = all_if (may_start g ms w k r) _ _ a a
  happens_all w (Stop k) a = a
  happens_all w (Begin k plan) a = begin_all w k plan (w.masters k) a
  happens_all w (Change k p c) a = change_all w k p c (w.masters k) a
  happens_all w (Give_up k x) a = give_up_all w k x (w.masters k) a
  happens_all w (Resend k p) a = resend_all w k p (w.masters k) a
  happens_all w (Forget k) a = forget_all w k (w.masters k) a

  pub run_keeps : (ss : List (Step P C)) (w : V) → Holds w → Holds (run g ms ss w)
  run_keeps [] w a = a
  run_keeps (s ∷ ss) w a = run_keeps ss (happens g ms w s) (happens_all w s a)

module _ {Config Op Subs M P C : Type 0} (g : Ground Config Op Subs) (law : Lawful g) (ms : Masters Op M P C) (opening : Config) where
  abbrev W : Type 0
  W = World Config Op Subs M

  abbrev Fold : (ℕ → Element Config Op Subs) → List (Fact Op) → Type 0
  Fold at fs = (p : ℕ) → FoldsIn g law opening p fs (at p)

  -- what every element keeps is what it has completed
  abbrev pub AllFold : W → Type 0
  AllFold w = Fold w.at w.facts

  fold_step : (at : ℕ → Element Config Op Subs) (fs : List (Fact Op)) (q : ℕ) (i : Input Op) → Fold at fs → Fold (put at q (step g q (at q) i).element) ((step g q (at q) i).facts ++ fs)
  unfolding put
  fold_step at fs q i a p = by_test (p == q) refl
    where
      by_test : (b : Bool) → (p == q) ≡ b → FoldsIn g law opening p ((step g q (at q) i).facts ++ fs) (cond b (step g q (at q) i).element (at p))
      by_test true e = subst (λ v. FoldsIn g law opening v ((step g q (at q) i).facts ++ fs) (step g q (at q) i).element) (sym (eqb-true p q e)) (step_folds g law opening q (at q) fs (a q) i)
      by_test false e = (folds_other g opening p q (at p).floor (at p).settled (at p).records (step g q (at q) i).facts fs e (step_owned g q (at q) i) (a p).0, (a p).1)

  fold_restart : (at : ℕ → Element Config Op Subs) (fs : List (Fact Op)) (q : ℕ) → Fold at fs → Fold (put at q (restarted (at q))) fs
  unfolding put
  fold_restart at fs q a p = by_test (p == q) refl
    where
      by_test : (b : Bool) → (p == q) ≡ b → FoldsIn g law opening p fs (cond b (restarted (at q)) (at p))
      by_test true e = subst (λ v. FoldsIn g law opening v fs (restarted (at q))) (sym (eqb-true p q e)) (a q)
      by_test false e = a p

  pub run_all : (ss : List (Step P C)) (w : W) → AllFold w → AllFold (run g ms ss w)
  run_all ss w a = run_keeps g ms Fold fold_step fold_restart ss w a

  module _ (Good : M → Type 0) (fit : MastersFit ms Good) (subs : Subs) (n : Network) (ss : List (Step P C)) where
    abbrev pub then : W
    then = run g ms ss (first_world opening subs n)

    like : (ts : List steps.Step) × Likes g ms Good fit then (steps.run ts (steps.first_world n))
    like = run_likes g ms Good fit ss (first_world opening subs n) (steps.first_world n) (first_likes g ms Good fit opening subs n)

    there : steps.World
    there = steps.run like.0 (steps.first_world n)

    facts : bare_facts then.facts ≡ there.facts
    unfolding there
    facts = like.1.like.facts

    seen : (f : trace.Fact) → In (Of_protocol f) then.facts → In f there.facts
    seen f i = subst (λ fs. In f fs) facts (in_bare f then.facts i)

    split : (f : trace.Fact) (later before : List (Fact Op)) → then.facts ≡ later ++ Of_protocol f ∷ before → there.facts ≡ bare_facts later ++ f ∷ bare_facts before
    split f later before e = sym facts ∙ ap bare_facts e ∙ bare_append later (Of_protocol f ∷ before)

    pub agree : Agree then.facts
    unfolding there
    agree = record {
      same = λ x p q d e i j. agree_law n like.0 x p q d e (seen (Settled_at p x d) i) (seen (Settled_at q x e) j);
      once = λ x p d e later before s i. once_law n like.0 x p d e (bare_facts later) (bare_facts before) (split (Settled_at p x d) later before s) (in_bare (Settled_at p x e) before i);
    }

    pub ready : Ready then.facts
    unfolding there
    ready = record {
      prepared = λ x p later before s. let r = ready_law n like.0 x p (bare_facts later) (bare_facts before) (split (Settled_at p x Complete) later before s) in
          (r.0, in_whole (Opened_at p x r.0) before r.1, λ q a. in_whole (Prepared_at q x) before (r.2 q a));
      one_plan = λ x p q ps qs i j. one_plan_law n like.0 x p q ps qs (seen (Opened_at p x ps) i) (seen (Opened_at q x qs) j);
    }

    pub settled : Settles ms then
    unfolding there
    settled k m j p e i a b =
        let r = settled_whole_law n like.0 k (ms.core m) j p (sym (like.1.like.masters k) ∙ ap (option_map ms.core) e) i a b in
        (r.0, r.1, in_whole (Settled_at p j.txn r.0) then.facts (subst (λ fs. In (Settled_at p j.txn r.0) fs) (sym facts) r.2))

    pub headline : Headline g ms opening then
    headline = record {
      agree = agree;
      ready = ready;
      folded = λ p. let f = run_all ss (first_world opening subs n) (λ q. new_folds g opening q) p in record { settled = f.0.settles; clean = f.0.clean; works = f.0.works };
      fenced = λ p k source m l. fenced g p (then.at p) k source m l;
      settled = settled;
    }
