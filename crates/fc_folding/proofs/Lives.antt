-- An element over every list of Configs goes as the machine of an element, and so do its configurations.
use Rattle.std.proofs.Common.{◌≡◌, ℕ, ◌+◌, ◌==◌, ◌&&◌, ◌||◌, nat_lt, is_some, Bool, true, false, cond, List, [], ◌∷◌, ◌++◌, map, Option, Some, refl, sym, ap, ◌∙◌, subst, eqb-true}
use Rattle.std.proofs.lemmas.Cmp.{nat_cmp_total, eq_by_cmp_equiv}
use Rattle.std.specs.FinMap.{contains_key, empty, insert, get, get-insert, len, len-empty}
use Rattle.std.specs.List.{AllByRecursion, flat_map}
use Rattle.std.specs.Ordering.{nat_cmp}
use Rattle.fc_abiding.proofs.Following.{AreNamed, next_epoch}
use Rattle.fc_abiding.proofs.Naming.{named_stay, new_named}
use Rattle.fc_abiding.specs.Abiding.{IsNamed}
use Rattle.fc_abiding.specs.Runs.{Came, Life, life_from, life_of}
use Rattle.fc_assoc.specs.Associations.{AssociationMap, entered, heard_at, takes_in}
use Rattle.fc_assoc.specs.declared.heard.Heard.{Heard}
use Rattle.fc_events.specs.declared.subscriptions.Notice.{Notice}
use Rattle.fc_events.specs.declared.subscriptions.Subscription.{Subscription}
use Rattle.fc_exec.specs.Operations.{applied, place_of}
use Rattle.fc_exec.specs.declared.operations.Operation.{Operation}
use Rattle.fc_headline.proofs.Alone.{element_keeps}
use Rattle.fc_headline.proofs.Folded.{element_folds}
use Rattle.fc_headline.specs.Folds.{Clean, Folded}
use Rattle.fc_headline.specs.OneElement.{Each, Inside, Keeps}
use Rattle.fc_headline.specs.Restarts.{with_restarts}
use Rattle.fc_holding.specs.declared.holding.Holding.{Holding}
use Rattle.fc_machine.specs.ElementMachine.{Input, Arrived, by_verdict, no_fact, step, steps}
use Rattle.fc_machine.specs.ElementState.{Element, Entry, bare, bares, new_element, restarted}
use Rattle.fc_machine.specs.ElementState as machine
use Rattle.fc_machine.specs.Ground.{Ground}
use Rattle.fc_machine.specs.Messages.{Accepted, Configure, Configuring}
use Rattle.fc_machine.specs.Trace.{Fact, completed}
use Rattle.fc_modes.specs.Modes.{folded}
use Rattle.fc_msg.specs.declared.message.Message.{Message}
use Rattle.fc_path.specs.declared.oper.Select.{Select}
use Rattle.fc_performing.specs.Performing.{mode_of}
use Rattle.fc_phases.specs.declared.asked.Asked.{Asked}
use Rattle.fc_protocol.specs.Fence.{claims, judge}
use Rattle.fc_protocol.specs.Messages.{Body, claim_of, is_epoch, stamp}
use Rattle.fc_protocol.specs.Records.{held, is_held}
use Rattle.fc_protocol.specs.Scopes.{covers}
use Rattle.fc_protocol.specs.declared.answers.TxnEntry.{TxnEntry}
use Rattle.fc_protocol.specs.declared.verdict.Verdict.{Verdict}
use Rattle.fc_protocol.specs.declared.verdict.Verdict.TheVariants.{Claim as Claims, Unclaimed, Stale, Again, Gap, Next}
use Rattle.fc_standing.proofs.Commuting.{lawful}
use Rattle.fc_standing.proofs.Copies.{element_works, settled_is}
use Rattle.fc_standing.proofs.Records.{are_held}
use Rattle.fc_standing.proofs.Standing.{standing_instances}
use Rattle.fc_standing.specs.Holding.{AreHeld, IsSettled, holdings, marking, standing}
use Rattle.fc_standing.specs.Holding as standing
use Rattle.fc_store.specs.Stores.{IsWhole, Pairwise, Stored, settled}
use Rattle.fc_transactions.specs.Order.{asked_of, claim_in, configured}
use Rattle.fc_transactions.specs.State.{TransactionState, opened}
use Rattle.fc_folding.specs.Folding.{Fits, Folds, IsOf, OfControls, held_ops, is_control, ops_of, settled_now, working_now}
use Rattle.fc_folding.proofs.Kept.{Kept, view, views}
use Rattle.fc_folding.proofs.Entries.{kept_of, one_kept, put_if}
use Rattle.fc_folding.proofs.Lying.{basis}
use Rattle.fc_folding.proofs.Phases.{Fit, MachineElement}
use Rattle.fc_folding.proofs.Going.{Goes, MachineStep, Means, body_at, judged_same, means_is, ops_for, standing_as, taken_as, verdict_at}

-- ---- an association, and then a Config
or_last : (b c : Bool) → c ≡ true → (b || c) ≡ true
or_last true c e = refl
or_last false c e = e

abbrev none_yet : AssociationMap
none_yet = empty

there_now : (source peer : ℕ) → contains_key (entered none_yet source peer 0) source ≡ true
there_now source peer =
    let room : takes_in none_yet source ≡ true = or_last (contains_key none_yet source) (nat_lt (len none_yet) 64) (ap (λ (n : ℕ). nat_lt n 64) (len-empty nat_cmp Heard)) in
    ap (λ b. contains_key (cond {A = AssociationMap} b (insert none_yet source (heard_at 0 peer)) none_yet) source) room
    ∙ ap (λ (o : Option Heard). is_some o)
    (get-insert nat_cmp_total none_yet source (heard_at 0 peer) source ∙ ap (λ b. cond {A = Option Heard} b (Some (heard_at 0 peer)) (get none_yet source)) ((eq_by_cmp_equiv nat_cmp_total).refl source))

-- the element with this association alone
abbrev pub joined : MachineElement → ℕ → ℕ → MachineElement
joined el source peer = record {
  epoch = el.epoch;
  master = el.master;
  sequence = el.sequence;
  kept = el.kept;
  records = el.records;
  floor = el.floor;
  ce = el.ce;
  last_ce = el.last_ce;
  settled = el.settled;
  subs = el.subs;
  associations = entered none_yet source peer 0;
  clock = 0;
  last_beat = 0;
}

abbrev both_inputs : ℕ → ℕ → Configuring Operation → List (Input Operation)
both_inputs source peer conf = Arrived peer source (Accepted 0) ∷ Arrived peer source (Configure conf) ∷ []

module _ (p : ℕ) (instances : List (ℕ × ℕ)) (el : MachineElement) (source peer : ℕ) (control : is_control source ≡ true) where
  abbrev g : Ground Stored Operation (List Subscription)
  g = basis instances

  abbrev now : MachineElement
  now = joined el source peer

  joins : step g p (restarted el) (Arrived peer source (Accepted 0)) ≡ no_fact now []
  joins = ap (λ b. cond {A = MachineStep} b (no_fact now []) (no_fact (restarted el) [])) control

  module _ (m : Message) (selects : List Select) (body : Body) (ops : List Operation) where
    abbrev conf : Configuring Operation
    conf = taken_as m selects body ops

    abbrev by : Verdict → MachineStep
    by v = by_verdict g p now peer source conf (mode_of m.flags.em) v

    configures : (v : Verdict) → judge el.epoch el.master el.sequence source (stamp m.corr) (claim_of body) ≡ v → step g p now (Arrived peer source (Configure conf)) ≡ by v
    configures v j =
        ap (λ b. cond {A = MachineStep} b (cond {A = MachineStep} (contains_key now.associations source) (by (judge el.epoch el.master el.sequence source (stamp m.corr) (claim_of body))) (no_fact now [])) (no_fact now [])) control
        ∙ ap (λ b. cond {A = MachineStep} b (by (judge el.epoch el.master el.sequence source (stamp m.corr) (claim_of body))) (no_fact now [])) (there_now source peer) ∙ ap by j

    abbrev ended : MachineStep → List (Fact Operation) → MachineStep
    ended r fs = record { element = r.element; outs = []; facts = r.facts ++ fs }

    pub goes_on : (v : Verdict) (fs : List (Fact Operation)) → judge el.epoch el.master el.sequence source (stamp m.corr) (claim_of body) ≡ v → steps g p (both_inputs source peer conf) (restarted el) fs ≡ ended (by v) fs
    goes_on v fs j =
        ap (λ (r : MachineStep). steps g p (Arrived peer source (Configure conf) ∷ []) r.element (r.facts ++ fs)) joins ∙ ap (λ (r : MachineStep). ended r fs) (configures v j)

-- ---- one run more
module _ (g : Ground Stored Operation (List Subscription)) (p : ℕ) where
  run_more : (runs : List (List (Input Operation))) (run : List (Input Operation)) (el : MachineElement) (fs : List (Fact Operation))
      → let r = with_restarts g p runs el fs in let t = steps g p run (restarted r.element) r.facts in ◌≡◌ {A = MachineStep} (with_restarts g p (runs ++ run ∷ []) el fs) (record { element = t.element; outs = []; facts = t.facts })
  run_more [] run el fs = refl
  run_more (first ∷ runs) run el fs = let r = steps g p first (restarted el) fs in run_more runs run r.element r.facts

-- ---- one Config
early_by : (a b c d e : Bool) (life : ℕ) → cond a (Claims life) (cond b Unclaimed (cond c (cond d Again (cond e Next Gap)) Stale)) ≡ Unclaimed → b ≡ true
early_by true b c d e life h = absurd cc
early_by false true c d e life h = refl
early_by false false true true e life h = absurd cc
early_by false false true false true life h = absurd cc
early_by false false true false false life h = absurd cc
early_by false false false d e life h = absurd cc

module _ (p ce : ℕ) (opening : Stored) where
  abbrev instances : List (ℕ × ℕ)
  instances = opening.instances

  abbrev pub ground : Ground Stored Operation (List Subscription)
  ground = basis instances

  abbrev pub life : List (List (Input Operation)) → MachineStep
  life runs = with_restarts ground p runs (new_element opening [] ce) []

  pub keeps : (runs : List (List (Input Operation))) → Keeps ground p ce (life runs).element (life runs).facts
  keeps runs = element_keeps ground (lawful (λ (n : Notice). 0) 0 instances) p opening [] ce runs

  -- the element has come here as one of the machine
  pub record At (s : TransactionState) (fs : List (Fact Operation)) : Type 0 where
    pub runs : List (List (Input Operation))
    pub means : Means instances p s (life runs).element
    pub facts : fs ≡ (life runs).facts
    pub named : IsNamed s

  module _ (s : TransactionState) (fs : List (Fact Operation)) (at : At s fs) where
    abbrev el : MachineElement
    el = (life at.runs).element

    abbrev hs : List Holding
    hs = s.ledger.holdings

    pub held_there : AreHeld (holdings el.records)
    held_there = let k = keeps at.runs in are_held (λ (n : Notice). 0) 0 instances el.records k.apart k.inside

    pub fits : (source peer : ℕ) → Fit instances (joined el source peer) hs
    fits source peer = record {
      held = at.means.held;
      instances_are = at.means.instances_are;
      settled = at.means.settled;
      whole = at.means.whole;
      apart = held_there;
      distinct = (keeps at.runs).distinct;
      named = subst AreNamed at.means.records at.named.records;
    }

    module _ (came : Came) (control : is_control came.message.source ≡ true) where
      abbrev m : Message
      m = came.message

      abbrev asked : Asked
      asked = asked_of m came.selects

      abbrev now_el : MachineElement
      now_el = joined el m.source came.peer

      abbrev verdict : Verdict
      verdict = judge el.epoch el.master el.sequence m.source (stamp m.corr) (claim_in asked)

      abbrev body : Body
      body = body_at (bares el.records) m came.selects asked (m.source == el.ce) verdict

      abbrev ops : List Operation
      ops = ops_for came.selects asked verdict

      abbrev there : TransactionState
      there = standing_as p s.kept now_el hs s.ledger.subscriptions

      goes_there : Goes instances p (configured there came.peer m came.selects) (by_verdict ground p now_el came.peer m.source (taken_as m came.selects body ops) (mode_of m.flags.em) verdict)
      unfolding configured
      goes_there =
          verdict_at p instances now_el s.kept hs s.ledger.subscriptions (fits m.source came.peer) m came.selects came.peer asked verdict
          (λ e. (keeps at.runs).unclaimed (eqb-true el.epoch 0 e))
          (λ e. early_by (claims el.epoch m.source (stamp m.corr) (claim_in asked)) (el.epoch == 0) ((stamp m.corr).life == el.epoch && m.source == el.master) ((stamp m.corr).count == el.sequence) ((stamp m.corr).count == el.sequence + 1) (stamp m.corr).life e)
          (λ e. subst (λ n. is_epoch n ≡ true) at.means.epoch
          (at.named.epoch (ap (λ n. n == 0) at.means.epoch ∙ next_epoch el.epoch el.master el.sequence m.source (stamp m.corr) (claim_in asked) (sym e))))

      pub goes_here : Goes instances p (configured s came.peer m came.selects) (by_verdict ground p now_el came.peer m.source (taken_as m came.selects body ops) (mode_of m.flags.em) verdict)
      goes_here =
          let is : s ≡ there = means_is instances p s el at.means in
          subst (λ (t : TransactionState). Goes instances p (configured t came.peer m came.selects) (by_verdict ground p now_el came.peer m.source (taken_as m came.selects body ops) (mode_of m.flags.em) verdict)) (sym is) goes_there

      abbrev pub run : List (Input Operation)
      run = both_inputs m.source came.peer (taken_as m came.selects body ops)

      abbrev pub machine_step : MachineStep
      machine_step = by_verdict ground p now_el came.peer m.source (taken_as m came.selects body ops) (mode_of m.flags.em) verdict

      pub life_is : life (at.runs ++ run ∷ []) ≡ record { element = machine_step.element; outs = []; facts = machine_step.facts ++ (life at.runs).facts }
      life_is =
          run_more ground p at.runs run (new_element opening [] ce) []
          ∙ ap (λ (t : MachineStep). record { element = t.element; outs = []; facts = t.facts })
          (goes_on p instances el m.source came.peer control m came.selects body ops verdict (life at.runs).facts
          (judged_same el.epoch el.master el.sequence m.source (stamp m.corr) (bares el.records) m came.selects asked (m.source == el.ce) verdict refl))

      next : At (configured s came.peer m came.selects).state ((configured s came.peer m came.selects).facts ++ fs)
      next = record {
        runs = at.runs ++ run ∷ [];
        means = subst (λ (t : MachineStep). Means instances p (configured s came.peer m came.selects).state t.element) (sym life_is) goes_here.means;
        facts =
            ap (λ (xs : List (Fact Operation)). xs ++ fs) goes_here.facts ∙ ap (λ (ys : List (Fact Operation)). machine_step.facts ++ ys) at.facts
            ∙ sym (ap (λ (t : MachineStep). t.facts) life_is);
        named = named_stay s came.peer m came.selects at.named;
      }

  abbrev pub AtLife : Life → Type 0
  AtLife here = At here.state here.facts

  all_there : (came : List Came) → OfControls came → (s : TransactionState) (fs : List (Fact Operation)) → At s fs → AtLife (life_from came s fs)
  all_there [] owned s fs at = at
  all_there (c ∷ came) owned s fs at =
      let t = configured s c.peer c.message c.selects in
      all_there came owned.1 t.state (t.facts ++ fs) (next s fs at c owned.0)

  begins : IsSettled opening → IsWhole opening → At (opened p ce opening) []
  begins bare whole = record {
    runs = [];
    means = record { id = refl; epoch = refl; master = refl; sequence = refl; ce = refl; last_ce = refl; records = refl; floor = refl; held = refl; store = refl; settled = bare; whole = whole; instances_are = refl };
    facts = refl;
    named = new_named p ce opening;
  }

-- ---- what is kept, in other words
marks_by : (places : List (ℕ × ℕ)) (n : Entry Operation) (ns : List (Entry Operation)) (b : Bool) → map (λ (k : Kept). k.1.0) (kept_of places ns) ≡ map (λ (h : standing.Holding). marking h.scope places) (holdings ns)
    → map (λ (k : Kept). k.1.0) (put_if b (one_kept places n) (kept_of places ns)) ≡ map (λ (h : standing.Holding). marking h.scope places) (standing.holdings_by b n (holdings ns))
marks_by places n ns true e = ap (λ ms. marking n.scope places ∷ ms) e
marks_by places n ns false e = e

marks_kept : (places : List (ℕ × ℕ)) (ns : List (Entry Operation)) → map (λ (k : Kept). k.1.0) (kept_of places ns) ≡ map (λ (h : standing.Holding). marking h.scope places) (holdings ns)
marks_kept places [] = refl
marks_kept places (n ∷ ns) = marks_by places n ns (is_held n.state) (marks_kept places ns)

marks_seen : (hs : List Holding) → map (λ (h : Holding). h.mark) hs ≡ map (λ (k : Kept). k.1.0) (views hs)
marks_seen [] = refl
marks_seen (h ∷ hs) = ap (λ ms. h.mark ∷ ms) (marks_seen hs)

ops_by : (places : List (ℕ × ℕ)) (n : Entry Operation) (ns : List (Entry Operation)) (b : Bool) → flat_map (λ (k : Kept). k.1.1) (kept_of places ns) ≡ machine.held_ops ns
    → flat_map (λ (k : Kept). k.1.1) (put_if b (one_kept places n) (kept_of places ns)) ≡ cond {A = List Operation} b (machine.ops_of n ++ machine.held_ops ns) (machine.held_ops ns)
ops_by places n ns true e = ap (λ ops. machine.ops_of n ++ ops) e
ops_by places n ns false e = e

ops_kept : (places : List (ℕ × ℕ)) (ns : List (Entry Operation)) → flat_map (λ (k : Kept). k.1.1) (kept_of places ns) ≡ machine.held_ops ns
ops_kept places [] = refl
ops_kept places (n ∷ ns) = ops_by places n ns (is_held n.state) (ops_kept places ns)

ops_seen : (hs : List Holding) → held_ops hs ≡ flat_map (λ (k : Kept). k.1.1) (views hs)
ops_seen [] = refl
ops_seen (h ∷ hs) = ap (λ ops. ops_of h ++ ops) (ops_seen hs)

-- ---- its configurations
module _ (p ce : ℕ) (opening : Stored) (s : TransactionState) (fs : List (Fact Operation)) (at : At p ce opening s fs) where
  abbrev there_el : MachineElement
  there_el = (life p ce opening at.runs).element

  abbrev kept_ops : List Operation
  kept_ops = machine.held_ops there_el.records

  marks_are : map (λ (h : Holding). h.mark) s.ledger.holdings ≡ map (λ (h : standing.Holding). marking h.scope there_el.settled.instances) (holdings there_el.records)
  marks_are =
      marks_seen s.ledger.holdings ∙ ap (map (λ (k : Kept). k.1.0)) at.means.held ∙ marks_kept opening.instances there_el.records
      ∙ ap (λ is. map (λ (h : standing.Holding). marking h.scope is) (holdings there_el.records)) (sym at.means.instances_are)

  pub settled_there : settled_now s.ledger ≡ there_el.settled
  settled_there =
      ap (settled (map (λ (h : Holding). h.mark) s.ledger.holdings)) at.means.store ∙ ap (λ marks. settled marks (standing there_el.settled (holdings there_el.records))) marks_are
      ∙ settled_is there_el.settled (holdings there_el.records) (held_there p ce opening s fs at) at.means.settled at.means.whole

  ops_are : held_ops s.ledger.holdings ≡ kept_ops
  ops_are = ops_seen s.ledger.holdings ∙ ap (flat_map (λ (k : Kept). k.1.1)) at.means.held ∙ ops_kept opening.instances there_el.records

  works_there : working_now s.ledger ≡ folded applied there_el.settled kept_ops
  works_there = ap (settled []) at.means.store ∙ element_works (λ (n : Notice). 0) 0 opening.instances there_el at.means.settled

  all_done : completed p (life p ce opening at.runs).facts ≡ completed s.id fs
  all_done = ap (completed p) (sym at.facts) ∙ ap (λ n. completed n fs) (sym at.means.id)

  folds_there : Folds opening (record { state = s; facts = fs })
  folds_there =
      let f : Folded (basis opening.instances) opening p there_el (life p ce opening at.runs).facts = element_folds (basis opening.instances) (lawful (λ (n : Notice). 0) 0 opening.instances) p opening [] ce at.runs in
      record {
        settled = settled_there ∙ f.settled ∙ ap (folded applied opening) all_done;
        clean = subst (Clean applied opening) all_done f.clean;
        working = works_there ∙ ap (λ t. folded applied t kept_ops) (sym settled_there) ∙ ap (folded applied (settled_now s.ledger)) (sym ops_are);
        works = subst (Clean applied (settled_now s.ledger)) (sym ops_are) (subst (λ t. Clean applied t kept_ops) (sym settled_there) f.works);
      }

pub life_folds : (id ce : ℕ) (opening : Stored) (came : List Came) → IsSettled opening → IsWhole opening → OfControls came → Folds opening (life_of id ce opening came)
life_folds id ce opening came bare whole owned =
    let here = life_of id ce opening came in
    folds_there id ce opening here.state here.facts (all_there id ce opening came owned (opened id ce opening) [] (begins id ce opening bare whole))

-- ---- what it holds
abbrev Lies : TxnEntry → Operation → Type 0
Lies n op = (q : ℕ × ℕ) × (place_of op ≡ Some q) × (covers n.scope q ≡ true)

each_lies : (n : TxnEntry) (ops : List Operation) → Each (Lies n) ops → AllByRecursion (Lies n) ops
each_lies n [] a = tt
each_lies n (op ∷ ops) a = (a.0, each_lies n ops a.1)

module _ (instances : List (ℕ × ℕ)) where
  one_of : (n : Entry Operation) (h : Holding) → view h ≡ one_kept instances n → Each (Lies (bare n)) (machine.ops_of n) → IsOf instances (bare n) h
  one_of n h e a = record {
    txn = ap (λ (k : Kept). k.0) e;
    mark = ap (λ (k : Kept). k.1.0) e;
    inside = subst (λ ops. AllByRecursion (Lies (bare n)) ops) (sym (ap (λ (k : Kept). k.1.1) e)) (each_lies (bare n) (machine.ops_of n) a);
  }

  head_is : (j k : Kept) (js ks : List Kept) → j ∷ js ≡ k ∷ ks → j ≡ k
  head_is j k js ks e = cc

  tail_is : (j k : Kept) (js ks : List Kept) → j ∷ js ≡ k ∷ ks → js ≡ ks
  tail_is j k js ks e = cc

  no_cons : (k : Kept) (ks : List Kept) → [] ≡ k ∷ ks → ⊥
  no_cons k ks e = cc

  all_by : (n : Entry Operation) (ns : List (Entry Operation)) (hs : List Holding) (b : Bool) → views hs ≡ put_if b (one_kept instances n) (kept_of instances ns) → (b ≡ true → Each (Lies (bare n)) (machine.ops_of n))
      → ((gs : List Holding) → views gs ≡ kept_of instances ns → Pairwise (IsOf instances) (held (bares ns)) gs) → Pairwise (IsOf instances) (cond {A = List TxnEntry} b (bare n ∷ held (bares ns)) (held (bares ns))) hs
  all_by n ns [] true e a r = absurd (no_cons (one_kept instances n) (kept_of instances ns) e)
  all_by n ns (h ∷ hs) true e a r =
      (one_of n h (head_is (view h) (one_kept instances n) (views hs) (kept_of instances ns) e) (a refl), r hs (tail_is (view h) (one_kept instances n) (views hs) (kept_of instances ns) e))
  all_by n ns hs false e a r = r hs e

  none_by : (hs : List Holding) → views hs ≡ [] → Pairwise (IsOf instances) [] hs
  none_by [] e = tt
  none_by (h ∷ hs) e = absurd (no_cons (view h) (views hs) (sym e))

  all_of : (ns : List (Entry Operation)) → Each (Inside (basis instances)) ns → (hs : List Holding) → views hs ≡ kept_of instances ns → Pairwise (IsOf instances) (held (bares ns)) hs
  all_of [] a hs e = none_by hs e
  all_of (n ∷ ns) a hs e = all_by n ns hs (is_held n.state) e a.0 (all_of ns a.1)

fits_there : (p ce : ℕ) (opening : Stored) (s : TransactionState) (fs : List (Fact Operation)) → At p ce opening s fs → Fits s.ledger
fits_there p ce opening s fs at =
    let el = (life p ce opening at.runs).element in
    let is : s.ledger.store.instances ≡ opening.instances = ap (λ (t : Stored). t.instances) at.means.store ∙ standing_instances el.settled (holdings el.records) ∙ at.means.instances_are in
    subst (λ (ps : List (ℕ × ℕ)). Pairwise (IsOf ps) (held s.ledger.records.entries) s.ledger.holdings) (sym is)
    (subst (λ (ns : List TxnEntry). Pairwise (IsOf opening.instances) (held ns) s.ledger.holdings) (sym at.means.records)
    (all_of opening.instances el.records (keeps p ce opening at.runs).inside s.ledger.holdings at.means.held))

pub life_fits : (id ce : ℕ) (opening : Stored) (came : List Came) → IsSettled opening → IsWhole opening → OfControls came → Fits (life_of id ce opening came).state.ledger
life_fits id ce opening came bare whole owned =
    let here = life_of id ce opening came in
    fits_there id ce opening here.state here.facts (all_there id ce opening came owned (opened id ce opening) [] (begins id ce opening bare whole))

-- ---- the rest of what the machine keeps
pub life_at : (id ce : ℕ) (opening : Stored) (came : List Came) → IsSettled opening → IsWhole opening → OfControls came → AtLife id ce opening (life_of id ce opening came)
life_at id ce opening came bare whole owned = all_there id ce opening came owned (opened id ce opening) [] (begins id ce opening bare whole)

none_known : (ns : List (Entry Operation)) → ns ≡ [] → bares ns ≡ []
none_known ns e = ap bares e

pub life_unclaimed : (id ce : ℕ) (opening : Stored) (came : List Came) → IsSettled opening → IsWhole opening → OfControls came → (life_of id ce opening came).state.epoch ≡ 0 → (life_of id ce opening came).state.ledger.records.entries ≡ []
life_unclaimed id ce opening came bare whole owned e =
    let at = life_at id ce opening came bare whole owned in
    at.means.records ∙ none_known (life id ce opening at.runs).element.records ((keeps id ce opening at.runs).unclaimed (sym at.means.epoch ∙ e))

pub life_controller : (id ce : ℕ) (opening : Stored) (came : List Came) → IsSettled opening → IsWhole opening → OfControls came → is_control ce ≡ true → is_control (life_of id ce opening came).state.ce ≡ true
life_controller id ce opening came bare whole owned e =
    let at = life_at id ce opening came bare whole owned in
    subst (λ n. is_control n ≡ true) (sym at.means.ce) ((keeps id ce opening at.runs).controller e)
