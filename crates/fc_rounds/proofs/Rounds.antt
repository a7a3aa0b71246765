-- A clean round of a network element, from its begin to its end.
use Rattle.fc_abiding.specs.Runs.{life_of as life_came}
use Rattle.std.proofs.Common.{is_some, length-append, [], nat_lt, ◌<◌, ◌-◌, ◌/◌, ◌%◌, ◌^◌, ◌||◌, ◌&&◌, unwrap_or, slice_get, map, ap₂, ◌≡◌, ◌⊎◌, ◌≤◌, ℕ, suc, ◌+◌, ◌==◌, not, Bool, true, false, cond, List, ◌∷◌, ◌++◌, append_assoc, append-nil, length, Option, Some, None, inl, inr, ⊎_elim, refl, sym, ap, ◌∙◌, subst, arith, eqb-true, eq-eqb, if◌then◌else◌}
use Rattle.std.specs.List.{flat_map, list_all, AllByRecursion}
use Rattle.fc_asks.specs.Tables.{found}
use Rattle.fc_jobs.specs.Plans.{counted, changes_in, scopes_in, participants_of}
use Rattle.fc_protocol.proofs.Basics.{same_true, and_true, In}
use Rattle.fc_store.specs.Stores.{Stored, Pairwise}
use Rattle.fc_rounds.proofs.Parting.{change_ops, IsScoped, PartAt, all_scoped, changes_are, changes_inside, part_at}
use Rattle.fc_agreement.proofs.Round.{Asking, Ground, Going}
use Rattle.fc_agreement.proofs.Taking.{at_count}
use Rattle.fc_asks.specs.Plans.{changes_of, numbered as of_number}
use Rattle.fc_asks.specs.Requests.{request_of}
use Rattle.fc_asks.specs.declared.life.Life.{Life}
use Rattle.fc_base.specs.Ids.{Txn, IsCe, IsFe}
use Rattle.fc_element.specs.ElementMachine.{is_ce}
use Rattle.fc_element.specs.ElementState.{ElementState}
use Rattle.fc_exec.specs.declared.operations.Operation.{Operation}
use Rattle.fc_rounds.proofs.Steps.{ce_is, it, life, master_is, ruled, sender_is, control_found, planned_found}
use Rattle.fc_rounds.specs.Following.{Follows, IsElement, IsLife, IsSent, GoesOn, IsController}
use Rattle.fc_rounds.specs.Networks.{ce_of, network_of}
use Rattle.fc_machine.specs.Trace.{Fact, bare_facts}
use Rattle.fc_plans.specs.declared.plan.Part.{Part}
use Rattle.fc_protocol.specs.Collections.{among, or_next, put}
use Rattle.fc_protocol.specs.ElementMachine as protocol
use Rattle.fc_protocol.specs.MasterMachine.{Master, finish, next_txn, begin_refusal, begins}
use Rattle.fc_protocol.specs.Messages as said
use Rattle.fc_protocol.specs.Messages.{Body, Sent, Stamp, correlator, sent}
use Rattle.fc_protocol.specs.Records.{clashes, is_packed, state_of}
use Rattle.fc_protocol.specs.Scopes.{Scope, is_scope, control_class, is_rising}
use Rattle.fc_protocol.specs.WorldSteps.{World, delivered, happens, spoken, first_world as bare_first, run as bare_run}
use Rattle.fc_protocol.specs.WorldSteps as network
use Rattle.fc_wellformed.specs.WellFormed.{KeepsChanges, HasChanges}
use Rattle.fc_world.specs.Lookups.{element_in, has_controller, is_running, life_of, ruling_in, transaction_in}
use Rattle.fc_world.specs.Settings.{IsNetwork, FitsWords, IsPlanned}
use Rattle.fc_world.specs.Worlds.{Ruling, Standing, WorldState, downward, first_world}
use Rattle.fc_world.specs.WorldSteps.{calls, running_in, takes, with_running, with_spoke, Spoke, begins_by, begins_in, called_by, facts as facts_in, run as run_of, with_plan}
use Rattle.fc_world.specs.WorldSteps as world
use Rattle.fc_world.specs.declared.nodes.Node.{Node}
use Rattle.fc_world.specs.declared.sent.Parcel.{Parcel}
use Rattle.fc_world.specs.declared.sent.Parcel.TheVariants.{Upward, Downward}
use Rattle.fc_world.specs.declared.setting.Setting.{Setting}
use Rattle.fc_rounds.proofs.Delivering.{Seen}
use Rattle.fc_rounds.proofs.Making.{begin_made, deliveries_made}
use Rattle.fc_rounds.proofs.Lists.{cancel, pairs_as, pairs_length, there, all_as, all_both}
use Rattle.fc_transactions.specs.State.{TransactionState}
use Rattle.fc_blocks.specs.Opening.{opened_store, with_own}
use Rattle.fc_holding.specs.Held.{has_all}
use Rattle.fc_agreement.proofs.RoundRuns.{Once, arrived}
use Rattle.fc_agreement.proofs.RoundStart.{begins_is, ground, once, round, starts}
use Rattle.fc_agreement.specs.CleanRound.{Able, Completes, Idle, is_notice as is_bare_notice, round_count, spoken_count}
use Rattle.fc_documents.specs.Parts.{begun}
use Rattle.fc_documents.specs.declared.transaction.PlanTxn.{PlanTxn}
use Rattle.fc_exec.specs.Operations.{applied, operations, place_of}
use Rattle.fc_folding.proofs.Lives.{At as AtLives, life_at}
use Rattle.fc_folding.specs.Folding.{settled_now}
use Rattle.fc_rounds.proofs.Happens.{controller_follows}
use Rattle.fc_rounds.proofs.Masters.{SpeaksAs, begins_as, parts_words, scopes_narrow, scopes_words}
use Rattle.fc_rounds.proofs.Runs.{goes}
use Rattle.fc_headline.specs.CleanRound.{changes_to}
use Rattle.fc_headline.specs.Folds.{Clean}
use Rattle.fc_lfbs.specs.BuiltIns.{built_in}
use Rattle.fc_lives.proofs.Lives.{bare, whole}
use Rattle.fc_machine.specs.Ground.{inside_by}
use Rattle.fc_master.specs.Reports.{job_line, life_line, report_of, txn_line}
use Rattle.fc_numbering.proofs.Keeping.{begin_speaks}
use Rattle.fc_plans.specs.Plans as plans
use Rattle.fc_plans.specs.Plans.{has_changes, order_fault, plan_fault, scope_fault}
use Rattle.fc_plans.specs.declared.fault.PlanFault.TheVariants as fault
use Rattle.fc_protocol.specs.ElementMachine.{is_element, rises_above}
use Rattle.fc_protocol.specs.Jobs.{Job, find}
use Rattle.fc_protocol.specs.Trace.{Settled_at}
use Rattle.fc_protocol.specs.declared.states.Decision.TheVariants.{Complete}
use Rattle.fc_steps.specs.declared.step.Step.{Step}
use Rattle.fc_steps.specs.declared.step.Step.TheVariants as step_of
use Rattle.fc_wellformed.proofs.Keeping.{all_append, begins_few}
use Rattle.fc_world.specs.Played.{AreMade, world_after}
use Rattle.fc_rounds.specs.CleanRound.{CleanRounds, HasCompleted, HasLine, IsComplete, IsReadyAt, MayBegin, deliveries, is_notice, messages_for, notices_in}
use Rattle.fc_rounds.proofs.Counting.{all_counted, counted_at, next_plan}
use Rattle.fc_rounds.proofs.Forward.{IsKept, after, after_facts, after_world, goes_on}
use Rattle.fc_rounds.proofs.Phases.{passes, steps}
use Rattle.fc_rounds.proofs.Rounding.{Kept, next, seen}
use Rattle.fc_rounds.proofs.Serving.{at_instances, serving_first}
use Rattle.fc_rounds.proofs.Walking.{IsNoticeAs, Says, SpelledAs, all_says, like_at, ruling_same}

-- ---- a plan
no_order : (b c : Bool) → (if not b then Some fault.Order else (if c then None else Some fault.Changes)) ≡ None → b ≡ true
no_order true c e = refl
no_order false c e = absurd cc

first_none : {A : Type 0} (o next : Option A) → or_next o next ≡ None → o ≡ None
first_none None next e = refl
first_none (Some f) next e = absurd cc

element_is : (p : ℕ) → IsFe p → is_element p ≡ true
element_is p is = grind (arith, is.0, is.1)

above_zero : (p : ℕ) → IsFe p → nat_lt 0 p ≡ true
above_zero p is = grind (arith, is.0)

rises : (n : ℕ) (parts : List Part) → plans.rises_after n parts ≡ true → AllByRecursion (λ (part : Part). IsFe part.element) parts → rises_above n (participants_of parts) ≡ true
rises n [] rising ids = refl
rises n (part ∷ parts) rising ids =
    let both = both_of (nat_lt n part.element) (plans.rises_after part.element parts) rising in
    and_true (nat_lt n part.element && is_element part.element) (rises_above part.element (participants_of parts)) (and_true (nat_lt n part.element) (is_element part.element) both.0 (element_is part.element ids.0))
    (rises part.element parts both.1 ids.1)
  where
    both_of : (a b : Bool) → (a && b) ≡ true → (a ≡ true) × (b ≡ true)
    both_of true b e = (refl, e)
    both_of false b e = absurd cc

-- what may be begun at an element that is idle there
in_front : (a b : List Part) → a ≡ b → plan_fault a ≡ plan_fault b
in_front a b e = ap plan_fault e

-- ---- pairs, where what they go with is known
pairs_with : {A B : Type 0} (R Q : A → B → Type 0) (xs : List A) (ys : List B) → ((x : A) (y : B) → In y ys → R x y → Q x y) → Pairwise R xs ys → Pairwise Q xs ys
pairs_with R Q [] [] to h = tt
pairs_with R Q [] (y ∷ ys) to h = absurd h
pairs_with R Q (x ∷ xs) [] to h = absurd h
pairs_with R Q (x ∷ xs) (y ∷ ys) to h = (to x y (inl refl) h.0, pairs_with R Q xs ys (λ a b i r. to a b (inr i) r) h.1)

-- ---- how many deliveries it takes
counted_so : (news : List Parcel) (tails : List Sent) → Pairwise IsNoticeAs news tails → length tails ≡ spoken_count tails + notices_in news
counted_so [] [] h = refl
counted_so [] (t ∷ ts) h = absurd h
counted_so (q ∷ qs) [] h = absurd h
counted_so (q ∷ qs) (t ∷ ts) h = by (is_bare_notice t.message) (is_notice q) h.0 (counted_so qs ts h.1)
  where
    by : (b c : Bool) → c ≡ b → length ts ≡ spoken_count ts + notices_in qs → suc (length ts) ≡ (cond b 0 1 + spoken_count ts) + (cond c 1 0 + notices_in qs)
    by true true same more = omega (arith, more)
    by true false same more = absurd cc
    by false true same more = absurd cc
    by false false same more = omega (arith, more)

-- ---- the line of a report
found_line : (x : Txn) (js : List Job) (j : Job) → find x js ≡ Some j → HasLine (job_line j) (flat_map job_line js)
found_line x [] j e = absurd cc
found_line x (i ∷ js) j e = by (said.same x i.txn) e (λ more. found_line x js j more)
  where
    by : (b : Bool) → (if b then Some i else find x js) ≡ Some j → (find x js ≡ Some j → HasLine (job_line j) (flat_map job_line js)) → HasLine (job_line j) (job_line i ++ flat_map job_line js)
    by true e more = let same : i ≡ j = cc in ([], flat_map job_line js, ap (λ (k : Job). job_line k ++ flat_map job_line js) same)
    by false e more =
        let (before, behind, is) = more e in
        (job_line i ++ before, behind, ap (λ text. job_line i ++ text) is ∙ sym (append_assoc (job_line i) before (job_line j ++ behind)))

found_txn : (x : Txn) (js : List Job) (j : Job) → find x js ≡ Some j → x ≡ j.txn
found_txn x [] j e = absurd cc
found_txn x (i ∷ js) j e = by (said.same x i.txn) refl e (λ more. found_txn x js j more)
  where
    by : (b : Bool) → said.same x i.txn ≡ b → (if b then Some i else find x js) ≡ Some j → (find x js ≡ Some j → x ≡ j.txn) → x ≡ j.txn
    by true at e more = let same : i ≡ j = cc in same_true x i.txn at ∙ ap (λ (k : Job). k.txn) same
    by false at e more = more e

-- ---- the messages of a round, by its parts
both_of : (a b : Bool) → (a && b) ≡ true → (a ≡ true) × (b ≡ true)
both_of true b e = (refl, e)
both_of false b e = absurd cc

or_or : (a b : Bool) → (a || b) ≡ true → (a ≡ true) ⊎ (b ≡ true)
or_or true b e = inl refl
or_or false b e = inr e

less : (m n : ℕ) → nat_lt m n ≡ true → m < n
less m n e = grind (arith, e)

apart : (m n : ℕ) → m < n → (n == m) ≡ false
apart m n e = grind (arith, e)

-- each participant behind this number is above it
above : (n : ℕ) (parts : List Part) (q : ℕ) → plans.rises_after n parts ≡ true → among q (participants_of parts) ≡ true → n < q
above n [] q rising is = absurd cc
above n (part ∷ parts) q rising is =
    let both = both_of (nat_lt n part.element) (plans.rises_after part.element parts) rising in
    let first : n < part.element = less n part.element both.0 in
    ⊎_elim (λ e. let same : q ≡ part.element = eqb-true q part.element e in omega (arith, first, same)) (λ e. let later : part.element < q = above part.element parts q both.1 e in omega (arith, first, later))
    (or_or (q == part.element) (among q (participants_of parts)) is)

or_left : (a b : Bool) → a ≡ true → (a || b) ≡ true
or_left true b e = refl
or_left false b e = absurd cc

or_right : (a b : Bool) → b ≡ true → (a || b) ≡ true
or_right true b e = refl
or_right false b e = e

round_same : (f g : ℕ → ℕ) (ps : List ℕ) → ((q : ℕ) → among q ps ≡ true → f q ≡ g q) → round_count f ps ≡ round_count g ps
round_same f g [] same = refl
round_same f g (p ∷ ps) same =
    let one : f p ≡ g p = same p (or_left (p == p) (among p ps) (eq-eqb p p refl)) in
    let more : round_count f ps ≡ round_count g ps = round_same f g ps (λ q e. same q (or_right (q == p) (among q ps) e)) in
    omega (arith, one, more)

changes_first : (part : Part) (parts : List Part) (q : ℕ) (b : Bool) → (q == part.element) ≡ b → changes_in (part ∷ parts) q ≡ (if b then length part.changes else changes_in parts q)
changes_first part parts q true e = ap (λ c. unwrap_or (if c then Some (length part.changes) else found q (map counted parts)) 0) e
changes_first part parts q false e = ap (λ c. unwrap_or (if c then Some (length part.changes) else found q (map counted parts)) 0) e

messages_are : (parts : List Part) → plans.is_rising parts ≡ true → round_count (changes_in parts) (participants_of parts) ≡ messages_for parts
messages_are [] rising = refl
messages_are (part ∷ parts) rising =
    let here : changes_in (part ∷ parts) part.element ≡ length part.changes = changes_first part parts part.element true (eq-eqb part.element part.element refl) in
    let rest : round_count (changes_in (part ∷ parts)) (participants_of parts) ≡ round_count (changes_in parts) (participants_of parts) =
    round_same (changes_in (part ∷ parts)) (changes_in parts) (participants_of parts) (λ q e. changes_first part parts q false (apart part.element q (above part.element parts q rising e))) in
    let more : round_count (changes_in parts) (participants_of parts) ≡ messages_for parts = messages_are parts (tail_rises part.element parts rising) in
    omega (arith, here, rest, more)
  where
    tail_rises : (n : ℕ) (parts : List Part) → plans.rises_after n parts ≡ true → plans.is_rising parts ≡ true
    tail_rises n [] e = refl
    tail_rises n (part ∷ parts) e = (both_of (nat_lt n part.element) (plans.rises_after part.element parts) e).1

-- what holds of each participant holds of each part
among_all : (P : ℕ → Type 0) (parts : List Part) → ((p : ℕ) → among p (participants_of parts) ≡ true → P p) → AllByRecursion (λ (part : Part). P part.element) parts
among_all P [] h = tt
among_all P (part ∷ parts) h =
    (h part.element (or_left (part.element == part.element) (among part.element (participants_of parts)) (eq-eqb part.element part.element refl)), among_all P parts (λ p e. h p (or_right (p == part.element) (among p (participants_of parts)) e)))

-- ---- what holds of a list that is what is begun
some_start : (parts : List Part) → plan_fault parts ≡ None → (part : Part) × (others : List Part) × (parts ≡ part ∷ others)
some_start [] e = absurd cc
some_start (part ∷ others) e = (part, others, refl)

is_control_of : (n : ℕ) → IsCe n → is_ce n ≡ true
is_control_of n is = ap₂ (λ (x y : Bool). x && not y) (eq-eqb (n / 2 ^ 30) 1 is.0) (some_low n is.1)
  where
    some_low : (n : ℕ) → 0 < n % 256 → (n % 256 == 0) ≡ false
    some_low n h = grind (arith, h)

-- a start says the same whatever the life has in its plans
same_start : (life : Life) (parts : List Part) (p corr : ℕ) (st : Stamp) (b : Body) (y : Txn) (ps : List ℕ) (sc : Scope) (tu : Stamp) → said.Request st b ≡ said.Request tu (said.Sot y ps sc) → request_of life p corr b ≡ request_of (with_plan life parts) p corr b
same_start life parts p corr st (said.Claim w) y ps sc tu e = absurd cc
same_start life parts p corr st (said.Sot z qs sd) y ps sc tu e = refl
same_start life parts p corr st (said.Mot z i) y ps sc tu e = absurd cc
same_start life parts p corr st (said.Eot z) y ps sc tu e = absurd cc
same_start life parts p corr st (said.Trcomp z) y ps sc tu e = absurd cc
same_start life parts p corr st (said.Abt z) y ps sc tu e = absurd cc
same_start life parts p corr st (said.Floor f) y ps sc tu e = absurd cc
same_start life parts p corr st said.Malformed y ps sc tu e = absurd cc
same_start life parts p corr st said.Plain y ps sc tu e = absurd cc
same_start life parts p corr st said.Ask y ps sc tu e = absurd cc
same_start life parts p corr st (said.Ask_record z) y ps sc tu e = absurd cc

no_request : (t : said.Message) (st : Stamp) (b : Body) → is_bare_notice t ≡ true → t ≡ said.Request st b → ⊥
no_request t st b notice e = let z : true ≡ false = sym notice ∙ ap is_bare_notice e in absurd cc

-- ---- steps, one list behind the other
run_more : (ts : List PlanTxn) (w : WorldState) (xs ys : List (ℕ × Step)) → run_of ts w (xs ++ ys) ≡ run_of ts (run_of ts w xs) ys
run_more ts w [] ys = refl
run_more ts w (x ∷ xs) ys = run_more ts (world.happens ts w x) xs ys

facts_more : (ts : List PlanTxn) (w : WorldState) (xs ys : List (ℕ × Step)) → facts_in ts w (xs ++ ys) ≡ facts_in ts (run_of ts w xs) ys ++ facts_in ts w xs
facts_more ts w [] ys = sym (append-nil (facts_in ts w ys))
facts_more ts w (x ∷ xs) ys =
    ap (λ (fs : List (Fact Operation)). fs ++ world.facts_at w x.1) (facts_more ts (world.happens ts w x) xs ys)
    ∙ append_assoc (facts_in ts (run_of ts (world.happens ts w x) xs) ys) (facts_in ts (world.happens ts w x) xs) (world.facts_at w x.1)

some_same : {A : Type 0} (a b : A) → Some a ≡ Some b → a ≡ b
some_same a b e = cc

-- ---- the round of a transaction of the script
module _ (s : Setting) (is : IsNetwork s) (done : List (ℕ × Step)) (made : AreMade s.transactions (first_world s) done) (place k : ℕ) (name : List ℕ) (t : PlanTxn) (c : Standing) (r : Ruling) (places : ℕ → ℕ) (may : MayBegin s (world_after s done) k name t c r)
    (part0 : Part) (others : List Part) (parts_are : begun t ≡ part0 ∷ others) where
  abbrev w0 : WorldState
  w0 = world_after s done

  abbrev trace : List (Fact Operation)
  trace = facts_in s.transactions (first_world s) done

  gone : GoesOn s w0 trace (bare_first (network_of s))
  gone = goes s done is made

  abbrev start : Seen s
  start = record { w = w0; fs = trace; a = bare_run gone.steps (bare_first (network_of s)); follows = gone.follows }

  abbrev a0 : World
  a0 = start.a

  abbrev parts : List Part
  parts = part0 ∷ others

  abbrev p0 : ℕ
  p0 = part0.element

  abbrev qs : List ℕ
  qs = participants_of others

  abbrev ps : List ℕ
  ps = p0 ∷ qs

  abbrev m : Master
  m = r.core

  abbrev x : Txn
  x = next_txn m

  abbrev ce : ℕ
  ce = c.ce

  abbrev L : Life
  L = with_plan r.life parts

  abbrev changes : ℕ → ℕ
  changes = changes_in parts

  abbrev scopes : ℕ → Scope
  scopes = scopes_in parts

  -- ---- the plan
  planned : IsPlanned t
  planned = planned_found IsPlanned name s.transactions t is.planned may.named

  plan_ok : plan_fault parts ≡ None
  plan_ok = ap plan_fault (sym parts_are) ∙ planned.plan

  rising : plans.is_rising parts ≡ true
  rising = no_order (plans.is_rising parts) (list_all has_changes parts) (first_none (order_fault parts) (scope_fault parts) plan_ok)

  holds : AllByRecursion HasChanges parts
  holds = subst (AllByRecursion HasChanges) parts_are planned.holds

  words : AllByRecursion FitsWords parts
  words = subst (AllByRecursion FitsWords) parts_are planned.words

  abbrev IsReady : Part → Type 0
  IsReady part = IsReadyAt w0 ce m part × IsScoped part

  all_ready : AllByRecursion IsReady parts
  all_ready = all_both (IsReadyAt w0 ce m) IsScoped parts (subst (AllByRecursion (IsReadyAt w0 ce m)) parts_are may.ready) (subst (AllByRecursion IsScoped) parts_are (all_scoped t))

  part_of : (p : ℕ) → among p ps ≡ true → PartAt IsReady parts p
  part_of p a = part_at IsReady parts p all_ready a

  refused_not : begin_refusal m ps changes scopes ≡ None
  refused_not = ap (λ ts. (begins_in k ts r).refusal) (sym parts_are) ∙ may.may

  rises_all : rises_above 0 ps ≡ true
  rises_all =
      let ids = all_as FitsWords (λ (part : Part). IsFe part.element) parts (λ part h. h.0) words in
      and_true (nat_lt 0 p0 && is_element p0) (rises_above p0 qs) (and_true (nat_lt 0 p0) (is_element p0) (above_zero p0 ids.0) (element_is p0 ids.0)) (rises p0 others rising ids.1)

  -- ---- the control element
  control : IsCe ce
  control = (control_found IsCe k w0.controllers c (subst (AllByRecursion IsCe) (sym gone.follows.ces) is.controls) may.controller).0

  of_ce : ce_of s k ≡ ce
  of_ce = ce_is s is w0 trace a0 gone.follows k c may.controller

  lives : IsLife c.ce r
  lives = life s is w0 trace a0 gone.follows k c may.controller r may.runs

  runs : a0.masters k ≡ Some m
  runs = master_is s is w0 trace a0 gone.follows k c may.controller r may.runs

  ruling_is : ruling_in k w0.controllers ≡ Some r
  ruling_is = ap life_of may.controller ∙ may.runs

  keeps : KeepsChanges L
  keeps = record { plans = all_append (λ (ts : List Part). AllByRecursion HasChanges ts) r.life.plans (parts ∷ []) lives.clear.0.plans (holds, tt); plains = lives.clear.0.plains }

  one_less : m.begun + 1 - 1 ≡ m.begun
  one_less = omega arith

  plan : of_number L.plans x.number ≡ Some parts
  plan = ap (λ n. slice_get (r.life.plans ++ parts ∷ []) n) one_less ∙ next_plan r.life.plans parts m.begun (counted_at k w0 r (all_counted s done) ruling_is)

  few : length ps ≤ 64
  few = begins_few m ps changes scopes refused_not

  small : (p : ℕ) → length (scopes p) ≤ 4096
  small p = scopes_narrow parts plan_ok p

  -- ---- the participants
  abbrev opening : Stored
  opening = opened_store s.library s.instances

  -- an element is one of the machine
  record OfMachine (p : ℕ) (e : ElementState) : Type 0 where
    first_ce : ℕ
    fs : List (Fact Operation)
    at : AtLives p first_ce opening e.transactions fs

  stands_so : (n : Node) (el : protocol.ElementState) → IsElement s trace el n → OfMachine n.id n.element
  stands_so n el it =
      let here = life_came n.id it.ce opening it.came in record {
        first_ce = it.ce;
        fs = here.facts;
        at = subst (λ (y : TransactionState). AtLives n.id it.ce opening y here.facts) (sym it.life)
            (life_at n.id it.ce opening it.came (bare (s.library ++ built_in) (with_own s.instances)) (whole (s.library ++ built_in) (with_own s.instances)) it.of_controls);
      }

  stands_at : (p : ℕ) (e : ElementState) → element_in p w0.nodes ≡ Some e → OfMachine p e
  stands_at p e there =
      let found = it s is w0 trace a0 gone.follows p e there in
      subst (OfMachine p) found.element (subst (λ i. OfMachine i found.node.element) found.id (stands_so found.node (a0.at found.node.id) found.holds))

  scope_same : (p : ℕ) (a : among p ps ≡ true) → scopes p ≡ (part_of p a).part.scope
  scope_same p a = (part_of p a).scope

  known : (p : ℕ) → among p ps ≡ true → has_all opening.instances (scopes p) ≡ true
  known p a =
      let part = part_of p a in
      let (e, there, idle, doable) = part.holds.0 in
      let st = stands_at part.part.element e there in
      ap₂ has_all (sym (at_instances part.part.element st.first_ce opening e.transactions st.fs st.at)) part.scope ∙ doable.instances

  counts : (p : ℕ) → among p ps ≡ true → changes p ≡ length (changes_of p parts)
  counts p a = let part = part_of p a in part.count ∙ ap (λ cs. length cs) (sym part.changes)

  able : Able a0 k m ps changes scopes
  able = record {
    runs = runs;
    may = refused_not;
    rising = rises_all;
    scoped = λ p a. let part = part_of p a in ap is_scope part.scope ∙ and_true (is_rising part.part.scope) (list_all (λ i. not (i.0 == control_class)) part.part.scope) part.holds.1.rising part.holds.0.3.others;
    idle = λ p a.
        let part = part_of p a in
        let (e, there, idle, doable) = part.holds.0 in
        let like = like_at s is start part.part.element e there in
        subst (λ i. Idle a0 k m i (scopes p)) part.same (record {
          epoch = sym like.epoch ∙ idle.epoch;
          master = sym like.master ∙ idle.master ∙ sym of_ce ∙ sym (sender_is s is w0 trace a0 gone.follows k);
          sequence = sym like.sequence ∙ idle.sequence;
          free = ap₂ clashes part.scope (sym like.records) ∙ idle.free;
          room = ap is_packed (sym like.records) ∙ idle.room;
          met = idle.met;
          claimed = idle.claimed;
          waits = idle.waits;
        });
  }

  abbrev grounded : Ground a0 k m ps changes scopes
  grounded = ground (network_of s) gone.steps k m p0 qs changes scopes able

  abbrev single : Once ps
  single = once (network_of s) gone.steps k m p0 qs changes scopes able

  abbrev KeptHere : Seen s → List Sent → List Sent → Type 0
  KeptHere = Kept s is start k m ps parts L keeps plan ce of_ce (is_control_of ce control) few small places grounded single

  abbrev next_here : Seen s → ℕ → Seen s
  next_here = next s is start k m ps parts L keeps plan ce of_ce (is_control_of ce control) few small places grounded single

  abbrev seen_here : Seen s → World
  seen_here = seen s is start k m ps parts L keeps plan ce of_ce (is_control_of ce control) few small places grounded single

  -- ---- it begins
  abbrev says_first : List Sent
  says_first = (finish k (begins m ps changes scopes)).says

  abbrev spoke : Spoke
  spoke = (begins_in k parts r).spoke

  abbrev w1 : WorldState
  w1 = world.happens s.transactions w0 (place, step_of.Begin k name)

  w1_is : w1 ≡ with_spoke k spoke w0
  w1_is =
      ap (λ o. begins_by place k o w0) may.named ∙ ap (λ ts. calls place k (begins_in k ts) (ruling_in k w0.controllers) w0) parts_are ∙ ap (λ o. calls place k (begins_in k parts) o w0) ruling_is
      ∙ ap (λ o. called_by place k o spoke w0) refused_not

  abbrev a1 : World
  a1 = network.happens a0 (network.Begin k ps changes scopes)

  abbrev more_begun : List network.Begun
  more_begun = (record { txn = x; parts = ps }) ∷ a0.begun

  a1_is : a1 ≡ record { network = a0.network; at = a0.at; masters = put a0.masters k (Some (finish k (begins m ps changes scopes)).master); sent = a0.sent ++ [] ++ says_first; used = a0.used; facts = a0.facts; begun = more_begun }
  a1_is = ap (network.begin_at a0 k ps changes scopes) runs ∙ ap (network.begin_by a0 k ps changes scopes m) refused_not

  speaks_so : SpeaksAs s k c.ce spoke (finish k (begins m ps changes scopes)).master says_first
  speaks_so = begins_as s k c.ce r of_ce lives parts holds plan_ok words refused_not

  first_follows : Follows s w1 trace a1
  first_follows =
      let n = finish k (begins m ps changes scopes) in
      let u : World = record { network = a0.network; at = a0.at; masters = put a0.masters k (Some n.master); sent = a0.sent ++ [] ++ n.says; used = a0.used; facts = a0.facts; begun = more_begun } in
      let controlled : IsController (Some c) (a0.masters k) (a0.used k) = subst (λ o. IsController o (a0.masters k) (a0.used k)) may.controller (gone.follows.controllers k) in
      subst (λ y. Follows s w1 trace y) (sym a1_is)
      (subst (λ y. Follows s y trace u) (sym w1_is)
      (subst (λ y. Follows s y trace u)
      (ap (λ ss. record { nodes = w0.nodes; controllers = ss; sent = w0.sent ++ downward k spoke.outs; refused = w0.refused }) (sym (ap (λ o. running_in o k (Some spoke.ruling) w0.controllers) may.controller)))
      (controller_follows s w0 trace a0 gone.follows k c (with_running (Some spoke.ruling) c) may.controller refl (downward k spoke.outs) n.says speaks_so.sent (Some n.master) a0.used (sym (ap (λ y. Some y) speaks_so.core)) controlled.1 (λ q away. refl) speaks_so.life
      (a0.sent ++ [] ++ n.says) (ap (λ us. us ++ n.says) (append-nil a0.sent)) more_begun)))

  abbrev first : Seen s
  first = record { w = w1; fs = trace; a = a1; follows = first_follows }

  nodes_same : w1.nodes ≡ w0.nodes
  nodes_same = ap (λ (q : WorldState). q.nodes) w1_is

  w1_sent : w1.sent ≡ w0.sent ++ downward k spoke.outs
  w1_sent = ap (λ (q : WorldState). q.sent) w1_is

  a1_sent : a1.sent ≡ a0.sent ++ says_first
  a1_sent = ap (λ (q : World). q.sent) a1_is ∙ ap (λ us. us ++ says_first) (append-nil a0.sent)

  first_says : (after' : List Sent) → Going a0 k m ps changes scopes a1 a0.sent after' (λ _. Asking 0) → Pairwise (Says k L) (downward k spoke.outs) after'
  first_says after' y =
      let same : says_first ≡ after' = cancel a0.sent says_first after' (sym a1_sent ∙ y.sent) in
      let numbers = (begin_speaks k m ps changes scopes refused_not (parts_words parts words) (λ p. scopes_words parts words p) small lives.numbers).says in
      let own : Pairwise (Says k r.life) (downward k spoke.outs) after' = subst (Pairwise (Says k r.life) (downward k spoke.outs)) same (all_says k r.life says_first numbers) in
      pairs_with (Says k r.life) (Says k L) (downward k spoke.outs) after'
      (λ q u i h. (h.0, spelled_so q u (y.queue.each u i) h.1)) own
    where
      start_of : (u : Sent) (st : Stamp) (b : Body) → (is_bare_notice u.message ≡ true) ⊎ ((among u.element ps ≡ true) × (true ≡ true) × (u ≡ sent u.element k (said.Request (at_count m.epoch ((m.at u.element).last + 1 + 0)) (said.Sot x ps (scopes u.element))))) → u.message ≡ said.Request st b
          → (f corr : ℕ) → request_of r.life f corr b ≡ request_of L f corr b
      start_of u st b on_way asks f corr =
          ⊎_elim (λ notice. absurd (no_request u.message st b notice asks))
          (λ h. same_start r.life parts f corr st b x ps (scopes u.element) (at_count m.epoch ((m.at u.element).last + 1 + 0)) (sym asks ∙ ap (λ (v : Sent). v.message) h.2)) on_way

      spelled_so : (q : Parcel) (u : Sent) → (is_bare_notice u.message ≡ true) ⊎ ((among u.element ps ≡ true) × (true ≡ true) × (u ≡ sent u.element k (said.Request (at_count m.epoch ((m.at u.element).last + 1 + 0)) (said.Sot x ps (scopes u.element)))))
          → SpelledAs k r.life q u → SpelledAs k L q u
      spelled_so (Upward f j d) u on_way h = tt
      spelled_so (Downward j f d) u on_way h = λ st b asks. h st b asks ∙ start_of u st b on_way asks f (correlator st)

  first_kept : (after' : List Sent) → Going a0 k m ps changes scopes a1 a0.sent after' (λ _. Asking 0) → KeptHere first a0.sent after'
  first_kept after' y =
      let says = first_says after' y in record {
        ruling = spoke.ruling;
        rules = ap (λ (q : WorldState). ruling_in k q.controllers) w1_is ∙ ruling_same k w0.controllers c (Some spoke.ruling) may.controller;
        life = refl;
        earlier = w0.sent;
        queue = downward k spoke.outs;
        split = w1_sent;
        long = pairs_length (IsSent s) w0.sent a0.sent gone.follows.sent;
        says = says;
        news = downward k spoke.outs;
        tails = after';
        news_are = w1_sent;
        tails_are = y.sent;
        notices = pairs_as (Says k L) IsNoticeAs (λ q u h. h.0) (downward k spoke.outs) after' says;
        at = λ p a.
            let part = part_of p a in
            let (e, there, idle, doable) = part.holds.0 in
            let there_p : element_in p w0.nodes ≡ Some e = ap (λ i. element_in i w0.nodes) (sym part.same) ∙ there in
            let st = stands_at p e there_p in
            let there_now : element_in p w1.nodes ≡ Some e = ap (element_in p) nodes_same ∙ there_p in
            let like = like_at s is first p e there_now in
            let none : state_of x e.transactions.ledger.records.entries ≡ None = ap (state_of x) like.records ∙ (y.stand p a).stands.1.0 in
            let cs = changes_of p parts in
            let ops_are : changes_to (change_ops cs) (length cs) ≡ flat_map operations part.part.changes = changes_are cs ∙ ap (λ ds. flat_map operations ds) part.changes in record {
              e = e;
              there = there_now;
              has = record {
                associated = idle.associated;
                first_ce = st.first_ce;
                c = settled_now e.transactions.ledger;
                clean = subst (Clean applied (settled_now e.transactions.ledger)) (sym ops_are) doable.succeeds;
                inside = subst (AllByRecursion (λ op. inside_by (scopes p) (place_of op) ≡ true)) (sym ops_are)
                    (subst (λ sc. AllByRecursion (λ op. inside_by sc (place_of op) ≡ true) (flat_map operations part.part.changes)) (sym part.scope) (changes_inside part.part.scope part.part.changes part.holds.1.covers));
                serving = serving_first p st.first_ce opening x (scopes p) (change_ops cs) (settled_now e.transactions.ledger) (m.at p).last e.transactions st.fs st.at refl none;
              };
            };
      }

  -- ---- and ends
  over : (o : ℕ) × Completes a0 (seen_here (arrived a0 k m ps changes scopes grounded single seen_here next_here KeptHere (length a0.sent + 1) o first)) k m ps changes o
  over =
      round (network_of s) gone.steps k m p0 qs changes scopes able seen_here next_here KeptHere
      (passes s is start k m ps parts L keeps plan ce of_ce (is_control_of ce control) few small places grounded single counts known)
      (steps s is start k m ps parts L keeps plan ce of_ce (is_control_of ce control) few small places grounded single counts known) first refl first_kept

  -- where it begins
  going_from : (v u : World) (ss : List Sent) → v ≡ u → Going a0 k m ps changes scopes u a0.sent ss (λ _. Asking 0) → (after' : List Sent) × Going a0 k m ps changes scopes v a0.sent after' (λ _. Asking 0)
  going_from v u ss same y = (ss, subst (λ b. Going a0 k m ps changes scopes b a0.sent ss (λ _. Asking 0)) (sym same) y)

  going_first : (after' : List Sent) × Going a0 k m ps changes scopes a1 a0.sent after' (λ _. Asking 0)
  going_first = going_from a1 _ _ (begins_is (network_of s) gone.steps k m p0 qs changes scopes able) (starts (network_of s) gone.steps k m p0 qs changes scopes able)

  abbrev count : ℕ
  count = over.0

  abbrev end : Seen s
  end = after s is start k m ps parts L keeps plan ce of_ce (is_control_of ce control) few small places grounded single counts known (length w0.sent + 1) count first

  long_same : length a0.sent ≡ length w0.sent
  long_same = sym (pairs_length (IsSent s) w0.sent a0.sent gone.follows.sent)

  completes : Completes a0 end.a k m ps changes count
  completes = subst (λ l. Completes a0 (seen_here (arrived a0 k m ps changes scopes grounded single seen_here next_here KeptHere (l + 1) count first)) k m ps changes count) long_same over.1

  kept_end : IsKept s is start k m ps parts L keeps plan ce of_ce (is_control_of ce control) few small places grounded single counts known end
  kept_end =
      goes_on s is start k m ps parts L keeps plan ce of_ce (is_control_of ce control) few small places grounded single counts known count (length w0.sent + 1) first a0.sent going_first.0 (λ _. Asking 0) going_first.1
      (first_kept going_first.0 going_first.1) (ap (λ l. l + 1) (sym long_same))

  abbrev kept : KeptHere end kept_end.before kept_end.rest
  kept = kept_end.kept

  abbrev more : List (ℕ × Step)
  more = (place, step_of.Begin k name) ∷ deliveries places (length w0.sent + 1) count

  end_is : world_after s (done ++ more) ≡ end.w
  end_is =
      run_more s.transactions (first_world s) done more
      ∙ sym (after_world s is start k m ps parts L keeps plan ce of_ce (is_control_of ce control) few small places grounded single counts known count (length w0.sent + 1) first)

  facts_are : facts_in s.transactions (first_world s) (done ++ more) ≡ end.fs
  facts_are =
      let ds = deliveries places (length w0.sent + 1) count in
      facts_more s.transactions (first_world s) done more ∙ ap (λ (fs : List (Fact Operation)). fs ++ trace) (append-nil (facts_in s.transactions w1 ds))
      ∙ sym (after_facts s is start k m ps parts L keeps plan ce of_ce (is_control_of ce control) few small places grounded single counts known count (length w0.sent + 1) first)

  tails_are : kept.tails ≡ completes.since
  tails_are = cancel a0.sent kept.tails completes.since (sym kept.tails_are ∙ completes.sent)

  core_is : kept.ruling.core ≡ completes.now
  core_is =
      let (old, stood, running) = ruled s is end.w end.fs end.a end.follows k kept.ruling kept.rules in
      some_same kept.ruling.core completes.now (sym (master_is s is end.w end.fs end.a end.follows k old stood kept.ruling running) ∙ completes.runs)

  outcome_is : job_line completes.job ≡ txn_line x (Some Complete)
  outcome_is =
      ap₂ txn_line (sym (found_txn x completes.now.jobs completes.job completes.found)) (ap (λ b. if b then completes.job.decision else None) completes.settled ∙ completes.decision)

  line_there : HasLine (txn_line x (Some Complete)) (report_of completes.now)
  line_there =
      let (before, behind, text) = found_line x completes.now.jobs completes.job completes.found in
      let front = life_line completes.now.epoch completes.now.deposed in
      subst (λ line. HasLine line (report_of completes.now)) outcome_is
      (front ++ before, behind, ap (λ ts. front ++ ts) text ∙ sym (append_assoc front before (job_line completes.job ++ behind)))

  all_made : length kept.news ≡ count → AreMade s.transactions w0 more
  all_made long =
      let ds = deliveries places (length w0.sent + 1) count in
      let ran : end.w ≡ run_of s.transactions w1 ds = after_world s is start k m ps parts L keeps plan ce of_ce (is_control_of ce control) few small places grounded single counts known count (length w0.sent + 1) first in
      let sent_all : length (run_of s.transactions w1 ds).sent ≡ length w0.sent + length kept.news =
      ap (λ (q : WorldState). length q.sent) (sym ran) ∙ ap (λ us. length us) kept.news_are ∙ length-append w0.sent kept.news in (
        begin_made (has_controller k w0.controllers) (is_some (transaction_in name s.transactions)) (is_running k w0.controllers) (ap is_some may.controller) (ap is_some may.named) (ap is_some ruling_is),
        tt,
        deliveries_made s.transactions places count (length w0.sent + 1) w1 (omega arith) (omega (arith, sent_all, long)),
      )

  complete : IsComplete s done more k t m count
  complete =
      let paired = pairs_length IsNoticeAs kept.news kept.tails kept.notices in
      let long : length kept.news ≡ count = paired ∙ ap (λ (ts : List Sent). length ts) tails_are ∙ completes.delivered in
      let told : length kept.tails ≡ spoken_count kept.tails + notices_in kept.news = counted_so kept.news kept.tails kept.notices in
      let spoken : spoken_count kept.tails ≡ messages_for (begun t) = ap spoken_count tails_are ∙ completes.count ∙ messages_are parts rising ∙ ap messages_for (sym parts_are) in record {
        made = all_made long;
        since = kept.news;
        sent = ap (λ (q : WorldState). q.sent) end_is ∙ kept.news_are;
        delivered = long;
        count = sym (sym paired ∙ long) ∙ told ∙ ap (λ n. n + notices_in kept.news) spoken;
        elements = subst (AllByRecursion (HasCompleted s (done ++ more) x)) (sym parts_are)
            (among_all (λ p. In (Settled_at p x Complete) (bare_facts (facts_in s.transactions (first_world s) (done ++ more)))) parts
            (λ p a. subst (In (Settled_at p x Complete)) (sym (ap bare_facts facts_are ∙ end.follows.facts)) (completes.elements p a)));
        now = kept.ruling;
        runs = ap (λ (q : WorldState). ruling_in k q.controllers) end_is ∙ kept.rules;
        reported = subst (λ (y : Master). HasLine (txn_line x (Some Complete)) (report_of y)) (sym core_is) line_there;
      }

-- ---- of every setting and every list of steps
pub clean_rounds : (s : Setting) (done : List (ℕ × Step)) → IsNetwork s → AreMade s.transactions (first_world s) done → CleanRounds s done
clean_rounds s done is made place k name t c r places may =
    let planned = planned_found IsPlanned name s.transactions t is.planned may.named in
    let (part0, others, parts_are) = some_start (begun t) planned.plan in
    (count s is done made place k name t c r places may part0 others parts_are, complete s is done made place k name t c r places may part0 others parts_are)
