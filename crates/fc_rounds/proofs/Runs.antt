-- Every run of a network element is a run of the protocol's network, and what is promised of that holds of it.
use Rattle.std.proofs.Common.{◌≡◌, ℕ, ◌==◌, ◌&&◌, ◌||◌, not, Bool, true, false, List, [], ◌∷◌, ◌++◌, map, append_assoc, append-nil, Option, Some, None, refl, sym, ap, ◌∙◌, subst, arith, if◌then◌else◌}
use Rattle.std.specs.List.{AllByRecursion}
use Rattle.fc_abiding.specs.Runs.{life_of}
use Rattle.fc_agreement.proofs.Numbers.{agree_law, once_law, one_plan_law, ready_law, settled_whole_law}
use Rattle.fc_agreement.specs.Agreement.{Agree, OnePlan, Ready, SettleOnce}
use Rattle.fc_blocks.specs.Opening.{opened_store, with_own}
use Rattle.fc_documents.specs.declared.transaction.PlanTxn.{PlanTxn}
use Rattle.fc_exec.specs.Operations.{applied}
use Rattle.fc_exec.specs.declared.operations.Operation.{Operation}
use Rattle.fc_folding.proofs.Lives.{life_folds}
use Rattle.fc_folding.specs.Folding.{Folds}
use Rattle.fc_headline.specs.Folds.{Clean}
use Rattle.fc_jobs.specs.Sending.{are_apart}
use Rattle.fc_lfbs.specs.BuiltIns.{built_in}
use Rattle.fc_lives.proofs.Lives.{bare, replaced_nothing, whole}
use Rattle.fc_machine.specs.Trace.{Fact, bare_facts, completed}
use Rattle.fc_modes.specs.Modes.{folded}
use Rattle.fc_protocol.specs.Collections.{In, among}
use Rattle.fc_protocol.specs.ElementMachine.{ElementState, new_element}
use Rattle.fc_protocol.specs.Trace.{Settled_at}
use Rattle.fc_protocol.specs.WorldSteps.{World, first_world, run}
use Rattle.fc_protocol.specs.WorldSteps as network
use Rattle.fc_steps.specs.declared.step.Step.{Step}
use Rattle.fc_transactions.specs.State.{TransactionState}
use Rattle.fc_world.specs.Lookups.{controller_in, ids_of, life_of as life_in}
use Rattle.fc_world.specs.Played.{AreMade}
use Rattle.fc_world.specs.Settings.{IsNetwork, node_id}
use Rattle.fc_world.specs.Worlds.{Standing, WorldState, first_controller, first_node, first_world as first, number_of}
use Rattle.fc_world.specs.WorldSteps as world
use Rattle.fc_world.specs.declared.nodes.Node.{Node}
use Rattle.fc_world.specs.declared.setting.Setting.{Setting}
use Rattle.fc_rounds.specs.Following.{Follows, GoesOn, IsController, IsElement, core_in}
use Rattle.fc_rounds.specs.Networks.{first_ce, network_of}
use Rattle.fc_rounds.specs.Promise.{AllFolded, Fenced, IsFolded, Settles}
use Rattle.fc_rounds.proofs.Controllers.{ces}
use Rattle.fc_rounds.proofs.Elements.{same_id}
use Rattle.fc_rounds.proofs.Steps.{step_goes}

-- ---- before the first step
first_ids : (s : Setting) (es : List (ℕ × ℕ)) → ids_of (map (first_node s) es) ≡ map node_id es
first_ids s [] = refl
first_ids s (e ∷ es) = ap (λ ks. e.0 ∷ ks) (first_ids s es)

first_ces : (ks : List ℕ) → ces (map first_controller ks) ≡ ks
first_ces [] = refl
first_ces (k ∷ ks) = ap (λ ns. k ∷ ns) (first_ces ks)

first_stands : (c : ℕ) (ks : List ℕ) → IsController (controller_in c (map first_controller ks)) None []
first_stands c [] = refl
first_stands c (k ∷ ks) = by (c == number_of k) (first_stands c ks)
  where
    by : (b : Bool) → IsController (controller_in c (map first_controller ks)) None [] → IsController (if b then Some (first_controller k) else controller_in c (map first_controller ks)) None []
    by true more = (refl, λ r. refl, tt)
    by false more = more

module _ (s : Setting) where
  -- the list of all elements gives each of them its own control element
  abbrev IsFirst : List (ℕ × ℕ) → ℕ × ℕ → Type 0
  IsFirst all e = first_ce all e.0 ≡ e.1

  first_element : (all : List (ℕ × ℕ)) (e : ℕ × ℕ) → IsFirst all e → IsElement s [] (new_element (first_ce all e.0)) (first_node s e)
  first_element all e is = record {
    ce = e.1;
    came = [];
    of_controls = tt;
    life = refl;
    facts = record { completes = refl; adds = λ x. refl };
    like = record { epoch = refl; master = refl; sequence = refl; records = refl; floor = refl; ce = sym is; last_ce = refl };
    kept = tt;
    heard = tt;
  }

  apart_rest : (e : ℕ × ℕ) (es : List (ℕ × ℕ)) → are_apart (e.0 ∷ map node_id es) ≡ true → (among e.0 (map node_id es) ≡ false) × (are_apart (map node_id es) ≡ true)
  apart_rest e es is = by (among e.0 (map node_id es)) is
    where
      by : (b : Bool) → (not b && are_apart (map node_id es)) ≡ true → (b ≡ false) × (are_apart (map node_id es) ≡ true)
      by true h = absurd cc
      by false h = (refl, h)

  -- one element more in front, which is none of these
  more_first : (e : ℕ × ℕ) (all es : List (ℕ × ℕ)) → among e.0 (map node_id es) ≡ false → AllByRecursion (IsFirst all) es → AllByRecursion (IsFirst (e ∷ all)) es
  more_first e all [] none firsts = tt
  more_first e all (x ∷ es) none firsts = by (e.0 == x.0) (among e.0 (map node_id es)) refl refl none (λ rest. more_first e all es rest firsts.1)
    where
      same_test : (m n : ℕ) → (m == n) ≡ false → (n == m) ≡ false
      same_test m n h = grind (arith, h)

      by : (b c : Bool) → (e.0 == x.0) ≡ b → among e.0 (map node_id es) ≡ c → (b || c) ≡ false → (among e.0 (map node_id es) ≡ false → AllByRecursion (IsFirst (e ∷ all)) es) → AllByRecursion (IsFirst (e ∷ all)) (x ∷ es)
      by true c at rest h more = absurd cc
      by false true at rest h more = absurd cc
      by false false at rest h more = (ap (λ v. if v then e.1 else first_ce all x.0) (same_test e.0 x.0 at) ∙ firsts.0, more rest)

  all_first : (es : List (ℕ × ℕ)) → are_apart (map node_id es) ≡ true → AllByRecursion (IsFirst es) es
  all_first [] apart = tt
  all_first (e ∷ es) apart =
      let rest = apart_rest e es apart in
      (ap (λ v. if v then e.1 else first_ce es e.0) (self e.0), more_first e es es rest.0 (all_first es rest.1))
    where
      self : (n : ℕ) → (n == n) ≡ true
      self n = grind arith

  first_elements : (all es : List (ℕ × ℕ)) → AllByRecursion (IsFirst all) es → AllByRecursion (λ (n : Node). IsElement s [] (new_element (first_ce all n.id)) n) (map (first_node s) es)
  first_elements all [] firsts = tt
  first_elements all (e ∷ es) firsts = (first_element all e firsts.0, first_elements all es firsts.1)

  pub first_follows : IsNetwork s → Follows s (first s) [] (first_world (network_of s))
  first_follows is = record {
    network = refl;
    ids = first_ids s s.elements;
    ces = first_ces s.controllers;
    elements = first_elements s.elements s.elements (all_first s.elements is.apart);
    controllers = λ c. first_stands c s.controllers;
    sent = tt;
    facts = refl;
  }

-- ---- all steps
run_more : (xs ys : List network.Step) (a : World) → run (xs ++ ys) a ≡ run ys (run xs a)
run_more [] ys a = refl
run_more (x ∷ xs) ys a = run_more xs ys (network.happens a x)

pub run_goes : (s : Setting) → IsNetwork s → (done : List (ℕ × Step)) (w : WorldState) (fs : List (Fact Operation)) (a : World) → Follows s w fs a → AreMade s.transactions w done
    → GoesOn s (world.run s.transactions w done) (world.facts s.transactions w done ++ fs) a
run_goes s is [] w fs a follows made = record { steps = []; follows = follows }
run_goes s is (x ∷ xs) w fs a follows made =
    let one = step_goes s is w fs a follows x.0 x.1 made.0 made.1 in
    let more = run_goes s is xs (world.happens s.transactions w x) (world.facts_at w x.1 ++ fs) (run one.steps a) one.follows made.2 in record {
      steps = one.steps ++ more.steps;
      follows = subst (λ b. Follows s (world.run s.transactions w (x ∷ xs)) (world.facts s.transactions w (x ∷ xs) ++ fs) b) (sym (run_more one.steps more.steps a))
          (subst (λ gs. Follows s (world.run s.transactions w (x ∷ xs)) gs (run more.steps (run one.steps a))) (sym (append_assoc (world.facts s.transactions (world.happens s.transactions w x) xs) (world.facts_at w x.1) fs)) more.follows);
    }

-- those before them could be made too
pub made_before : (ts : List PlanTxn) (w : WorldState) (done after : List (ℕ × Step)) → AreMade ts w (done ++ after) → AreMade ts w done
made_before ts w [] after made = tt
made_before ts w (x ∷ xs) after made = (made.0, made.1, made_before ts (world.happens ts w x) xs after made.2)

-- ---- of every setting and every list of steps
module _ (s : Setting) (done : List (ℕ × Step)) (is : IsNetwork s) (made : AreMade s.transactions (first s) done) where
  abbrev now : WorldState
  now = world.run s.transactions (first s) done

  abbrev trace : List (Fact Operation)
  trace = world.facts s.transactions (first s) done

  pub goes : GoesOn s now trace (first_world (network_of s))
  goes = subst (λ fs. GoesOn s now fs (first_world (network_of s))) (append-nil trace) (run_goes s is done (first s) [] (first_world (network_of s)) (first_follows s is) made)

  pub agrees : Agree (bare_facts trace)
  agrees = subst Agree (sym goes.follows.facts) (agree_law (network_of s) goes.steps)

  pub settles_once : SettleOnce (bare_facts trace)
  settles_once = subst SettleOnce (sym goes.follows.facts) (once_law (network_of s) goes.steps)

  pub is_ready : Ready (bare_facts trace)
  is_ready = subst Ready (sym goes.follows.facts) (ready_law (network_of s) goes.steps)

  pub has_one_plan : OnePlan (bare_facts trace)
  has_one_plan = subst OnePlan (sym goes.follows.facts) (one_plan_law (network_of s) goes.steps)

  -- ---- each element by itself
  one_folded : (el : ElementState) (n : Node) → IsElement s trace el n → IsFolded s trace n
  one_folded el n it =
      let opening = opened_store s.library s.instances in
      let life = life_of n.id it.ce opening it.came in
      let folds : Folds opening life = life_folds n.id it.ce opening it.came (bare (s.library ++ built_in) (with_own s.instances)) (whole (s.library ++ built_in) (with_own s.instances)) it.of_controls in
      let id : life.state.id ≡ n.id = ap (λ (t : TransactionState). t.id) (sym it.life) ∙ same_id s is.own trace el n it in
      let told : completed life.state.id life.facts ≡ completed life.state.id trace = ap (λ p. completed p life.facts) id ∙ sym it.facts.completes ∙ ap (λ p. completed p trace) (sym id) in
      subst (λ (t : TransactionState). Folds opening (record { state = t; facts = trace })) (sym it.life) (record {
        settled = folds.settled ∙ ap (folded applied opening) told;
        clean = subst (λ ops. Clean applied opening ops) told folds.clean;
        working = folds.working;
        works = folds.works;
      })

  all_folded : (at : ℕ → ElementState) (ns : List Node) → AllByRecursion (λ (n : Node). IsElement s trace (at n.id) n) ns → AllByRecursion (IsFolded s trace) ns
  all_folded at [] all = tt
  all_folded at (n ∷ ns) all = (one_folded (at n.id) n all.0, all_folded at ns all.1)

  pub folds_all : AllFolded s now trace
  folds_all = all_folded (run goes.steps (first_world (network_of s))).at now.nodes goes.follows.elements

  pub settles : Settles now trace
  settles c r j p ruled there settled part =
      let a = run goes.steps (first_world (network_of s)) in
      let (d, decides, fact) = settled_whole_law (network_of s) goes.steps c r.core j p (core_of (controller_in c now.controllers) ruled (goes.follows.controllers c)) there settled part in
      (d, decides, subst (In (Settled_at p j.txn d)) (sym goes.follows.facts) fact)
    where
      core_of : (o : Option Standing) → life_in o ≡ Some r → IsController o ((run goes.steps (first_world (network_of s))).masters c) ((run goes.steps (first_world (network_of s))).used c) → (run goes.steps (first_world (network_of s))).masters c ≡ Some r.core
      core_of None none at = absurd cc
      core_of (Some old) runs at = at.0 ∙ ap core_in runs

-- ---- and of every state
pub fenced : (w : WorldState) → Fenced w
fenced w c f m selects e sent config there below = replaced_nothing e c m selects below config
