-- Over every list of inputs, and restarts between them, what is registered is quiet, and what is told is told of the settled configuration.
use Rattle.std.proofs.Common.{◌≡◌, ℕ, ◌+◌, ◌==◌, ◌&&◌, Bool, true, false, cond, List, [], ◌∷◌, ◌++◌, slice_get, Some, None, refl, sym, ap, ◌∙◌, subst, eqb-true}
use Rattle.fc_abiding.proofs.Naming.{named_stay, new_named}
use Rattle.fc_abiding.specs.Runs.{Came, life_from}
use Rattle.fc_blocks.specs.Opening.{opened_store, with_own}
use Rattle.fc_element.proofs.Ledgered.{after_ledgered}
use Rattle.fc_element.specs.ElementMachine.{ledger_of}
use Rattle.fc_element.specs.ElementState.{ElementState, opened, restarted}
use Rattle.fc_element.specs.Runs.{Taken, after, did_at, did_by, ledgered, taken}
use Rattle.fc_element.specs.declared.input.ElIn.{ElIn}
use Rattle.fc_exec.specs.declared.operations.Operation.{Operation}
use Rattle.fc_folding.proofs.Going.{MachineStep, Means, means_is, standing_as}
use Rattle.fc_folding.proofs.Lives.{At, fits, goes_here, ground, held_there, joined, keeps, life, life_is, machine_step, run, settled_there}
use Rattle.fc_folding.proofs.Phases.{MachineElement}
use Rattle.fc_folding.specs.Folding.{OfControls, is_control, settled_now}
use Rattle.fc_lfbs.specs.BuiltIns.{built_in}
use Rattle.fc_lives.proofs.Lives.{all_came, bare, of_controls, whole}
use Rattle.fc_machine.specs.Trace.{Fact}
use Rattle.fc_msg.specs.declared.message.Message.{Message}
use Rattle.fc_path.specs.declared.oper.Select.{Select}
use Rattle.fc_phases.specs.declared.asked.Asked.{Asked}
use Rattle.fc_protocol.specs.Fence.{claims, judge}
use Rattle.fc_protocol.specs.Messages.{stamp}
use Rattle.fc_protocol.specs.declared.verdict.Verdict.{Verdict}
use Rattle.fc_protocol.specs.declared.verdict.Verdict.TheVariants.{Claim as Claims, Unclaimed, Stale, Again, Gap, Next}
use Rattle.fc_standing.specs.Holding.{IsSettled}
use Rattle.fc_store.proofs.Lists.{none_some, some_is}
use Rattle.fc_store.specs.Stores.{IsWhole, Stored}
use Rattle.fc_transactions.specs.Order.{asked_of, by_verdict, claim_in, configured, judged}
use Rattle.fc_transactions.specs.Phases.{Did}
use Rattle.fc_transactions.specs.State.{TransactionState}
use Rattle.fc_transactions.specs.State as transactions
use Rattle.fc_transactions.specs.declared.ledger.Ledger.{Ledger}
use Rattle.fc_types.specs.declared.class.Class.{Class}
use Rattle.fc_events.specs.declared.subscriptions.Notice.{Notice}
use Rattle.fc_exec.specs.Operations.{applied}
use Rattle.fc_headline.proofs.Folded.{element_folds}
use Rattle.fc_events.specs.declared.subscriptions.Subscription.{Subscription}
use Rattle.fc_headline.proofs.Registered.{events_pass}
use Rattle.fc_headline.specs.Events.{Preserves}
use Rattle.fc_folding.proofs.Lying.{basis}
use Rattle.fc_headline.specs.Folds.{Folded}
use Rattle.fc_machine.specs.Trace.{completed}
use Rattle.fc_modes.specs.Modes.{folded}
use Rattle.fc_standing.proofs.Commuting.{lawful}
use Rattle.std.specs.List.{AllByRecursion}
use Rattle.fc_events.specs.Events.{sight_of}
use Rattle.fc_events.specs.Reports.{IsSettled as IsSettledAt, is_held}
use Rattle.fc_events.specs.declared.subscriptions.EventPlace.{EventPlace}
use Rattle.fc_holding.specs.Held.{held_instances}
use Rattle.fc_protocol.specs.declared.answers.TxnEntry.{TxnEntry}
use Rattle.fc_standing.proofs.Places.{IsBeside}
use Rattle.fc_standing.proofs.Standing.{standing_instances}
use Rattle.fc_standing.specs.Holding.{holdings}
use Rattle.fc_standing.specs.Holding as standing
use Rattle.fc_lives.proofs.Beside.{free_beside}
use Rattle.fc_lives.proofs.Evaluating.{all_are, quiet_there}
use Rattle.fc_lives.proofs.Seeing.{pair_of, seen_beside}
use Rattle.fc_lives.proofs.Leaving.{Frames, folded_frames}
use Rattle.fc_lives.proofs.Sound.{did_sound, verdict_sound}
use Rattle.fc_lives.specs.Registered.{AreSound}
use Rattle.fc_lives.specs.SettledEvents.{AreQuiet, TellsAt, TellsSettled, all_held, with_restarts}
use Rattle.fc_lives.proofs.Phases.{verdict_quiet, verdict_same, verdict_tells}

early_by : (a b c d e : Bool) (life : ℕ) → cond a (Claims life) (cond b Unclaimed (cond c (cond d Again (cond e Next Gap)) Stale)) ≡ Unclaimed → b ≡ true
early_by true b c d e life h = absurd cc
early_by false true c d e life h = refl
early_by false false true true e life h = absurd cc
early_by false false true false true life h = absurd cc
early_by false false true false false life h = absurd cc
early_by false false false d e life h = absurd cc

-- what a Config has done is what it leaves
done_ledger : (t : TransactionState) (peer : ℕ) (m : Message) (selects : List Select) (a : Asked) (v : Verdict) (d : Did) → did_by t m selects a v ≡ Some d → (by_verdict t peer m selects a v).state.ledger ≡ d.ledger
done_ledger t peer m selects a (Claims e) d is = absurd (none_some d is)
done_ledger t peer m selects a Unclaimed d is = ap (λ (x : Did). x.ledger) (some_is _ d is)
done_ledger t peer m selects a Stale d is = absurd (none_some d is)
done_ledger t peer m selects a Again d is = absurd (none_some d is)
done_ledger t peer m selects a Gap d is = absurd (none_some d is)
done_ledger t peer m selects a Next d is = ap (λ (x : Did). x.ledger) (some_is _ d is)

did_ledger : (t : TransactionState) (peer : ℕ) (m : Message) (selects : List Select) (d : Did) → did_at t m selects ≡ Some d → (configured t peer m selects).state.ledger ≡ d.ledger
unfolding configured
did_ledger t peer m selects d is = done_ledger t peer m selects (asked_of m selects) (judged t m (asked_of m selects)) d is

module _ (p ce : ℕ) (opening : Stored) where
  abbrev place : List (ℕ × ℕ)
  place = opening.instances

  -- an element that has come here as one of the machine, with what is registered quiet
  pub record Goods (s : TransactionState) (fs : List (Fact Operation)) : Type 0 where
    pub at : At p ce opening s fs
    pub quiet : AreQuiet (life p ce opening at.runs).element.settled s.ledger.subscriptions
    pub sound : AreSound opening.library opening.instances s.ledger.subscriptions
    pub same : (life p ce opening at.runs).element.subs ≡ s.ledger.subscriptions

  -- the library and the instances are those of the opening
  module _ (s : TransactionState) (fs : List (Fact Operation)) (at : At p ce opening s fs) where
    abbrev end : MachineStep
    end = life p ce opening at.runs

    folds : Folded (ground p ce opening) opening p end.element end.facts
    folds = element_folds (ground p ce opening) (lawful (λ (n : Notice). 0) 0 opening.instances) p opening [] ce at.runs

    frames : Frames opening (folded applied opening (completed p end.facts))
    frames = folded_frames opening (completed p end.facts)

    library_there : s.ledger.store.library ≡ opening.library
    library_there = ap (λ (t : Stored). t.library) (settled_there p ce opening s fs at ∙ folds.settled) ∙ frames.library

    instances_there : s.ledger.store.instances ≡ opening.instances
    instances_there = ap (λ (t : Stored). t.instances) (settled_there p ce opening s fs at ∙ folds.settled) ∙ frames.instances

  module _ (s : TransactionState) (fs : List (Fact Operation)) (good : Goods s fs) (came : Came) (control : is_control came.message.source ≡ true) where
    abbrev at : At p ce opening s fs
    at = good.at

    abbrev m : Message
    m = came.message

    abbrev el : MachineElement
    el = (life p ce opening at.runs).element

    abbrev there_el : MachineElement
    there_el = joined el m.source came.peer

    abbrev there : TransactionState
    there = standing_as p s.kept there_el s.ledger.holdings s.ledger.subscriptions

    abbrev a : Asked
    a = asked_of m came.selects

    abbrev v : Verdict
    v = judge el.epoch el.master el.sequence m.source (stamp m.corr) (claim_in a)

    abbrev step_of : MachineStep
    step_of = machine_step p ce opening s fs at came control

    none_early : (el.epoch == 0) ≡ true → el.records ≡ []
    none_early e = (keeps p ce opening at.runs).unclaimed (eqb-true el.epoch 0 e)

    is_early : v ≡ Unclaimed → (el.epoch == 0) ≡ true
    is_early e = early_by (claims el.epoch m.source (stamp m.corr) (claim_in a)) (el.epoch == 0) ((stamp m.corr).life == el.epoch && m.source == el.master) ((stamp m.corr).count == el.sequence) ((stamp m.corr).count == el.sequence + 1) (stamp m.corr).life e

    there_quiet : AreQuiet step_of.element.settled (configured there came.peer m came.selects).state.ledger.subscriptions
    unfolding configured
    there_quiet =
        verdict_quiet p place there_el s.kept s.ledger.holdings s.ledger.subscriptions (fits p ce opening s fs at m.source came.peer) m came.selects came.peer good.quiet a v none_early is_early

    there_same : (configured there came.peer m came.selects).state.ledger.subscriptions ≡ step_of.element.subs
    unfolding configured
    there_same =
        verdict_same p place there_el s.kept s.ledger.holdings s.ledger.subscriptions (fits p ce opening s fs at m.source came.peer) m came.selects came.peer good.quiet good.same a v none_early is_early

    there_tells : (d : Did) → did_at there m came.selects ≡ Some d → TellsAt el.settled step_of.element.settled there.ledger m came.selects d
    there_tells d e =
        verdict_tells p place there_el s.kept s.ledger.holdings s.ledger.subscriptions (fits p ce opening s fs at m.source came.peer) m came.selects came.peer good.quiet a v none_early is_early d e

    is_there : s ≡ there
    is_there = means_is place p s el at.means

    abbrev new : TransactionState
    new = (configured s came.peer m came.selects).state

    abbrev new_facts : List (Fact Operation)
    new_facts = (configured s came.peer m came.selects).facts ++ fs

    next_at : At p ce opening new new_facts
    next_at = record {
      runs = at.runs ++ run p ce opening s fs at came control ∷ [];
      means = subst (λ (t : MachineStep). Means place p new t.element) (sym (life_is p ce opening s fs at came control)) (goes_here p ce opening s fs at came control).means;
      facts =
          ap (λ (xs : List (Fact Operation)). xs ++ fs) (goes_here p ce opening s fs at came control).facts ∙ ap (λ (ys : List (Fact Operation)). step_of.facts ++ ys) at.facts
          ∙ sym (ap (λ (t : MachineStep). t.facts) (life_is p ce opening s fs at came control));
      named = named_stay s came.peer m came.selects at.named;
    }

    new_settled : (life p ce opening next_at.runs).element.settled ≡ step_of.element.settled
    unfolding next_at
    new_settled = ap (λ (t : MachineStep). t.element.settled) (life_is p ce opening s fs at came control)

    pub here_tells : (d : Did) → did_at s m came.selects ≡ Some d → TellsSettled s.ledger m came.selects d
    here_tells d e =
        let settled : settled_now d.ledger ≡ step_of.element.settled =
        ap settled_now (sym (did_ledger s came.peer m came.selects d e)) ∙ settled_there p ce opening new new_facts next_at ∙ new_settled in
        subst (λ c. TellsAt c (settled_now d.ledger) s.ledger m came.selects d) (sym (settled_there p ce opening s fs at))
        (subst (λ c. TellsAt el.settled c s.ledger m came.selects d) (sym settled)
        (subst (λ (t : TransactionState). did_at t m came.selects ≡ Some d → TellsAt el.settled step_of.element.settled t.ledger m came.selects d) (sym is_there) (there_tells d) e))

    did_library : (d : Did) → did_at s m came.selects ≡ Some d → (settled_now d.ledger).library ≡ opening.library
    did_library d e = ap (λ (l : Ledger). l.store.library) (sym (did_ledger s came.peer m came.selects d e)) ∙ library_there new new_facts next_at

    did_there : (d : Did) → did_at s m came.selects ≡ Some d → AreSound opening.library opening.instances d.ledger.subscriptions
    did_there d e =
        did_sound opening.library opening.instances (settled_now s.ledger) (settled_now d.ledger) s.ledger m came.selects d (library_there s fs at) (instances_there s fs at) (did_library d e) good.sound (here_tells d e)

    new_sound : AreSound opening.library opening.instances new.ledger.subscriptions
    unfolding configured
    new_sound = verdict_sound opening.library opening.instances s came.peer m came.selects good.sound a (judged s m a) did_there

    new_same : (life p ce opening next_at.runs).element.subs ≡ new.ledger.subscriptions
    unfolding next_at
    new_same =
        ap (λ (t : MachineStep). t.element.subs) (life_is p ce opening s fs at came control)
        ∙ sym (subst (λ (t : TransactionState). (configured t came.peer m came.selects).state.ledger.subscriptions ≡ step_of.element.subs) (sym is_there) there_same)

    pub next_good : Goods new new_facts
    next_good = record {
      at = next_at;
      quiet =
          subst (λ c. AreQuiet c new.ledger.subscriptions) (sym new_settled)
          (subst (λ (t : TransactionState). AreQuiet step_of.element.settled (configured t came.peer m came.selects).state.ledger.subscriptions) (sym is_there) there_quiet);
      sound = new_sound;
      same = new_same;
    }

  pub all_good : (came : List Came) → OfControls came → (s : TransactionState) (fs : List (Fact Operation)) → Goods s fs → Goods (life_from came s fs).state (life_from came s fs).facts
  all_good [] owned s fs good = good
  all_good (c ∷ came) owned s fs good =
      let t = configured s c.peer c.message c.selects in
      all_good came owned.1 t.state (t.facts ++ fs) (next_good s fs good c owned.0)

  pub first_good : IsSettled opening → IsWhole opening → Goods (transactions.opened p ce opening) []
  first_good bare whole = record {
    at = record {
      runs = [];
      means = record { id = refl; epoch = refl; master = refl; sequence = refl; ce = refl; last_ce = refl; records = refl; floor = refl; held = refl; store = refl; settled = bare; whole = whole; instances_are = refl };
      facts = refl;
      named = new_named p ce opening;
    };
    quiet = tt;
    sound = tt;
    same = refl;
  }

  -- what has happened may be anything that comes with it
  abbrev pub IsGood : TransactionState → Type 0
  IsGood s = (fs : List (Fact Operation)) × Goods s fs

  good_quiet : (s : TransactionState) → IsGood s → AreQuiet (settled_now s.ledger) s.ledger.subscriptions
  good_quiet s g = subst (λ c. AreQuiet c s.ledger.subscriptions) (sym (settled_there p ce opening s g.0 g.1.at)) g.1.quiet

  good_tells : (s : TransactionState) → IsGood s → (m : Message) (selects : List Select) (d : Did) → is_control m.source ≡ true → did_at s m selects ≡ Some d → TellsSettled s.ledger m selects d
  good_tells s g m selects d control e = here_tells s g.0 g.1 (record { peer = 0; message = m; selects = selects }) control d e

  -- the premise under which an evaluation beside what is held is one of the settled configuration
  module _ (s : TransactionState) (fs : List (Fact Operation)) (good : Goods s fs) where
    abbrev end_el : MachineElement
    end_el = (life p ce opening good.at.runs).element

    abbrev gs : List standing.Holding
    gs = holdings end_el.records

    store_is : s.ledger.store ≡ standing.standing end_el.settled gs
    store_is = good.at.means.store

    beside_there : (q : EventPlace) (i : ℕ) → is_held (all_held s.ledger) q ≡ false → slice_get end_el.settled.instances i ≡ Some (pair_of q) → AllByRecursion (IsBeside (pair_of q)) gs
    beside_there q i e g =
        free_beside s.ledger.store.instances (pair_of q) i (ap (λ (t : Stored). slice_get t.instances i) store_is ∙ ap (λ ps. slice_get ps i) (standing_instances end_el.settled gs) ∙ g) end_el.records
        (ap (λ (ns : List TxnEntry). is_held (held_instances s.ledger.store.instances None ns) q) (sym good.at.means.records) ∙ e)

    seen_there : (q : EventPlace) → is_held (all_held s.ledger) q ≡ false → sight_of s.ledger.store q ≡ sight_of end_el.settled q
    seen_there q e =
        ap (λ (t : Stored). sight_of t q) store_is
        ∙ seen_beside end_el.settled gs q (held_there p ce opening s fs good.at) good.at.means.settled good.at.means.whole (λ i g. beside_there q i e g)

    pub premise_there : AllByRecursion (IsSettledAt (all_held s.ledger) s.ledger.store (settled_now s.ledger)) s.ledger.subscriptions
    premise_there =
        subst (λ c. AllByRecursion (IsSettledAt (all_held s.ledger) s.ledger.store c) s.ledger.subscriptions) (sym (settled_there p ce opening s fs good.at))
        (all_are (all_held s.ledger) s.ledger.store end_el.settled s.ledger.subscriptions (quiet_there (all_held s.ledger) end_el.settled s.ledger.subscriptions good.quiet) seen_there)

  good_premise : (s : TransactionState) → IsGood s → AllByRecursion (IsSettledAt (all_held s.ledger) s.ledger.store (settled_now s.ledger)) s.ledger.subscriptions
  good_premise s g = premise_there s g.0 g.1

  -- whatever the store keeps of what is registered, an element keeps of it
  good_passes : (s : TransactionState) → IsGood s → (test : Stored → List Subscription → Bool) → Preserves (ground p ce opening) (λ c subs. test c subs ≡ true) → test opening [] ≡ true → test (settled_now s.ledger) s.ledger.subscriptions ≡ true
  good_passes s g test k t =
      subst (λ subs. test (settled_now s.ledger) subs ≡ true) g.1.same
      (subst (λ c. test c (life p ce opening g.1.at.runs).element.subs ≡ true) (sym (settled_there p ce opening s g.0 g.1.at))
      (events_pass (ground p ce opening) (lawful (λ (n : Notice). 0) 0 opening.instances) test k p opening [] ce g.1.at.runs t))

  good_sound : (s : TransactionState) → IsGood s → AreSound opening.library opening.instances s.ledger.subscriptions
  good_sound s g = g.1.sound

-- ---- the element
taken_life : (cs : List Taken) (t : TransactionState) (fs : List (Fact Operation)) → (life_from (all_came cs) t fs).state ≡ (ledgered t cs).state
taken_life [] t fs = refl
taken_life (c ∷ cs) t fs = let r = configured t c.peer c.message c.selects in taken_life cs r.state (r.facts ++ fs)

module _ (id ce : ℕ) (library : List Class) (instances : List (ℕ × ℕ)) where
  abbrev store : Stored
  store = opened_store library instances

  abbrev Fine : ElementState → Type 0
  Fine s = IsGood id ce store s.transactions

  after_good : (s : ElementState) (is : List ElIn) → Fine s → Fine (after s is)
  after_good s is g =
      let cs = all_came (taken s is) in
      let end = life_from cs s.transactions g.0 in
      let all : IsGood id ce store end.state = (end.facts, all_good id ce store cs (of_controls s is) s.transactions g.0 g.1) in
      subst (IsGood id ce store) (taken_life (taken s is) s.transactions g.0 ∙ sym (after_ledgered s is)) all

  runs_good : (s : ElementState) (runs : List (List ElIn)) → Fine s → Fine (with_restarts s runs)
  runs_good s [] g = g
  runs_good s (is ∷ runs) g = runs_good (restarted (after s is)) runs (after_good s is g)

  opened_good : Fine (opened id ce library instances)
  opened_good = ([], first_good id ce store (bare (library ++ built_in) (with_own instances)) (whole (library ++ built_in) (with_own instances)))

  pub always_quiet : (runs : List (List ElIn)) (is : List ElIn) → let l = ledger_of (after (with_restarts (opened id ce library instances) runs) is) in AreQuiet (settled_now l) l.subscriptions
  always_quiet runs is =
      let s = with_restarts (opened id ce library instances) runs in
      good_quiet id ce store (after s is).transactions (after_good s is (runs_good (opened id ce library instances) runs opened_good))

  pub always_tells : (runs : List (List ElIn)) (is : List ElIn) (m : Message) (selects : List Select) (d : Did) → let s = after (with_restarts (opened id ce library instances) runs) is in is_control m.source ≡ true → did_at s.transactions m selects ≡ Some d → TellsSettled (ledger_of s) m selects d
  always_tells runs is m selects d control e =
      let s = with_restarts (opened id ce library instances) runs in
      good_tells id ce store (after s is).transactions (after_good s is (runs_good (opened id ce library instances) runs opened_good)) m selects d control e

  pub always_sound : (runs : List (List ElIn)) (is : List ElIn) → let l = ledger_of (after (with_restarts (opened id ce library instances) runs) is) in AreSound store.library store.instances l.subscriptions
  always_sound runs is =
      let s = with_restarts (opened id ce library instances) runs in
      good_sound id ce store (after s is).transactions (after_good s is (runs_good (opened id ce library instances) runs opened_good))

  pub always_premised : (runs : List (List ElIn)) (is : List ElIn) → let l = ledger_of (after (with_restarts (opened id ce library instances) runs) is) in AllByRecursion (IsSettledAt (all_held l) l.store (settled_now l)) l.subscriptions
  always_premised runs is =
      let s = with_restarts (opened id ce library instances) runs in
      good_premise id ce store (after s is).transactions (after_good s is (runs_good (opened id ce library instances) runs opened_good))

  pub always_passes : (runs : List (List ElIn)) (is : List ElIn) (test : Stored → List Subscription → Bool) → Preserves (basis store.instances) (λ c subs. test c subs ≡ true) → test store [] ≡ true → let l = ledger_of (after (with_restarts (opened id ce library instances) runs) is) in test (settled_now l) l.subscriptions ≡ true
  always_passes runs is test k t =
      let s = with_restarts (opened id ce library instances) runs in
      good_passes id ce store (after s is).transactions (after_good s is (runs_good (opened id ce library instances) runs opened_good)) test k t
