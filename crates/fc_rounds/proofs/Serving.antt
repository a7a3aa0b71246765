-- What the messages of a round do at an element: it stands as an element of the machine, and each message of the round serves that.
use Rattle.std.proofs.Common.{[], ◌≡◌, ℕ, suc, ◌+◌, ◌≤◌, ◌==◌, ◌&&◌, ◌||◌, Bool, true, false, List, ◌∷◌, ◌++◌, Option, Some, None, refl, sym, ap, ap₂, ◌∙◌, subst}
use Rattle.std.specs.List.{AllByRecursion}
use Rattle.fc_abiding.proofs.Naming.{named_stay}
use Rattle.fc_abiding.specs.Runs.{Came}
use Rattle.fc_base.specs.Ids.{Txn}
use Rattle.fc_events.specs.declared.subscriptions.Notice.{Notice}
use Rattle.fc_events.specs.declared.subscriptions.Subscription.{Subscription}
use Rattle.fc_exec.specs.Operations.{applied, operations, place_of}
use Rattle.fc_exec.specs.declared.operations.Operation.{Operation}
use Rattle.fc_folding.proofs.Going.{Means, MachineStep, body_at, ops_for, taken_as}
use Rattle.fc_folding.proofs.Lives.{At, fits, goes_here, joined, keeps, life, life_is, machine_step, run, settled_there}
use Rattle.fc_folding.proofs.Lying.{basis}
use Rattle.fc_folding.proofs.Phases.{MachineElement, kept_as, rest_there}
use Rattle.fc_folding.specs.Folding.{is_control, settled_now}
use Rattle.fc_headline.proofs.Scopes.{Clear, Disjoint, Fine, Lies}
use Rattle.fc_headline.proofs.Served.{Served, Serves, eot_serves, mot_serves, sot_serves, trcomp_serves}
use Rattle.fc_headline.specs.CleanRound.{changes_to}
use Rattle.fc_headline.specs.Folds.{Clean}
use Rattle.fc_headline.specs.OneElement.{Each, Inside}
use Rattle.fc_holding.specs.Held.{has_all, scope_of}
use Rattle.fc_machine.specs.ElementMachine.{Input, acts, by_verdict, heard_from, takes}
use Rattle.fc_machine.specs.ElementState.{Entry, bares, first_code, ops_of}
use Rattle.fc_machine.specs.Ground.{Ground, inside_by}
use Rattle.fc_machine.specs.Messages.{Configuring}
use Rattle.fc_machine.specs.Trace.{Fact}
use Rattle.fc_machine.specs.Transactions.{all_in}
use Rattle.fc_modes.specs.declared.mode.Mode.{Mode}
use Rattle.fc_modes.specs.declared.mode.Mode.TheVariants.{AllOrNone}
use Rattle.fc_msg.specs.declared.message.Message.{Message}
use Rattle.fc_path.specs.declared.oper.Select.{Select}
use Rattle.fc_performing.specs.Performing.{mode_of}
use Rattle.fc_phases.specs.Shapes.{rest_of}
use Rattle.fc_phases.specs.declared.asked.Asked.{Asked}
use Rattle.fc_protocol.proofs.Basics.{AllOf}
use Rattle.fc_protocol.specs.ElementMachine.{admits}
use Rattle.fc_protocol.specs.Fence.{judge}
use Rattle.fc_protocol.specs.Floors.{is_below}
use Rattle.fc_protocol.specs.Messages as said
use Rattle.fc_protocol.specs.Messages.{Body, stamp}
use Rattle.fc_protocol.specs.OneElement.{ScopesApart}
use Rattle.fc_protocol.specs.Records.{clashes, is_held, is_packed, state_of}
use Rattle.fc_protocol.specs.Scopes.{Scope, lists, meets}
use Rattle.fc_protocol.specs.declared.states.TxnState.{TxnState}
use Rattle.fc_protocol.specs.declared.states.TxnState.TheVariants.{Started, Prepared, Completed}
use Rattle.fc_protocol.specs.declared.verdict.Verdict.{Verdict}
use Rattle.fc_protocol.specs.declared.verdict.Verdict.TheVariants.{Next}
use Rattle.fc_standing.proofs.Commuting.{lawful}
use Rattle.fc_standing.proofs.Standing.{standing_instances}
use Rattle.fc_standing.specs.Holding.{holdings}
use Rattle.fc_store.specs.Stores.{Stored}
use Rattle.fc_transactions.specs.Order.{asked_of, claim_in, configured}
use Rattle.fc_transactions.specs.Phases.{rest_outcome}
use Rattle.fc_transactions.specs.State.{TransactionState}
use Rattle.fc_transactions.specs.declared.ledger.Ledger.{Ledger}
use Rattle.fc_rounds.proofs.Reading.{Reads}

-- ---- instances
all_are : (instances : List (ℕ × ℕ)) (sc : Scope) → all_in (basis instances) sc ≡ has_all instances sc
all_are instances [] = refl
all_are instances (i ∷ is) = ap (λ b. lists instances i && b) (all_are instances is)

-- ---- what an element keeps of its records
module _ (g : Ground Stored Operation (List Subscription)) where
  to_all : {A : Type 0} (P : A → Type 0) (xs : List A) → Each P xs → AllOf P xs
  to_all P [] h = tt
  to_all P (x ∷ xs) h = (h.0, to_all P xs h.1)

  fine_of : (ns : List (Entry Operation)) → Each (Inside g) ns → AllOf (Fine g) ns
  fine_of [] h = tt
  fine_of (n ∷ ns) h = ((λ held. to_all (Lies g n.scope) (ops_of n) (h.0 held)), fine_of ns h.1)

  clear_of : (sc : Scope) (ns : List (Entry Operation)) → clashes sc (bares ns) ≡ false → Clear g sc ns
  clear_of sc [] e = tt
  clear_of sc (n ∷ ns) e = by (is_held n.state) (meets sc n.scope) (clashes sc (bares ns)) refl e (λ rest. clear_of sc ns rest)
    where
      by : (h m c : Bool) → is_held n.state ≡ h → ((h && m) || c) ≡ false → (c ≡ false → Clear g sc ns) → (is_held n.state ≡ true → m ≡ false) × Clear g sc ns
      by true true c is e more = absurd cc
      by true false c is e more = ((λ held. refl), more e)
      by false m c is e more = ((λ held. let z : false ≡ true = sym is ∙ held in absurd cc), more e)

  disjoint_of : (ns : List (Entry Operation)) → ScopesApart (bares ns) → Disjoint g ns
  disjoint_of [] h = tt
  disjoint_of (n ∷ ns) h = ((λ held. clear_of n.scope ns (h.0 held)), disjoint_of ns h.1)

-- ---- an element that stands as one of the machine has the instances with which it opened
pub at_instances : (p ce : ℕ) (opening : Stored) (s : TransactionState) (fs : List (Fact Operation)) → At p ce opening s fs → s.ledger.store.instances ≡ opening.instances
at_instances p ce opening s fs at =
    let el = (life p ce opening at.runs).element in
    ap (λ (t : Stored). t.instances) at.means.store ∙ standing_instances el.settled (holdings el.records) ∙ at.means.instances_are

-- ---- an element in a round of x, with this scope and these changes, which had this settled configuration and this sequence when the round began
module _ (p ce : ℕ) (opening : Stored) (x : Txn) (sc : Scope) (f : ℕ → List Operation) (c : Stored) (last : ℕ) where
  abbrev pub g : Ground Stored Operation (List Subscription)
  g = basis opening.instances

  abbrev element_at : List (List (Input Operation)) → MachineElement
  element_at runs = (life p ce opening runs).element

  abbrev ServedBy : MachineElement → Type 0
  ServedBy el = Served g x sc f c last el.sequence el.settled el.records

  -- it stands as an element of the machine to which the round has done what it has
  pub record Serving (s : TransactionState) : Type 0 where
    pub fs : List (Fact Operation)
    pub at : At p ce opening s fs
    pub served : ServedBy (element_at at.runs)

  -- when the round begins
  pub serving_first : (s : TransactionState) (fs : List (Fact Operation)) → At p ce opening s fs → settled_now s.ledger ≡ c → state_of x s.ledger.records.entries ≡ None → Serving s
  serving_first s fs at same none = record {
    fs = fs;
    at = at;
    served = record {
      kept = λ _. sym (settled_there p ce opening s fs at) ∙ same;
      added = λ started. let e : None ≡ Some Started = sym none ∙ ap (state_of x) at.means.records ∙ started in absurd cc;
    };
  }

  -- its instances are those with which it opened
  pub instances_are : (s : TransactionState) → Serving s → s.ledger.store.instances ≡ opening.instances
  instances_are s z = at_instances p ce opening s z.fs z.at

  module _ (s : TransactionState) (z : Serving s) (k : ℕ) (m : Message) (selects : List Select) (control : is_control m.source ≡ true) where
    abbrev el : MachineElement
    el = element_at z.at.runs

    abbrev means : Means opening.instances p s el
    means = z.at.means

    -- the machine's element has heard of the sender
    abbrev pub now : MachineElement
    now = heard_from g (joined el m.source k) m.source k

    abbrev asked : Asked
    asked = asked_of m selects

    abbrev came : Came
    came = record { peer = k; message = m; selects = selects }

    abbrev pub conf : Body → List Operation → Configuring Operation
    conf b ops = taken_as m selects b ops

    -- the round goes on
    module _ (mode : m.flags.em ≡ 1) (next : judge s.epoch s.master s.sequence m.source (stamp m.corr) (claim_in (asked_of m selects)) ≡ Next) where
      verdict_is : judge el.epoch el.master el.sequence m.source (stamp m.corr) (claim_in asked) ≡ Next
      verdict_is =
          ap (λ v. judge v el.master el.sequence m.source (stamp m.corr) (claim_in asked)) (sym means.epoch) ∙ ap (λ v. judge s.epoch v el.sequence m.source (stamp m.corr) (claim_in asked)) (sym means.master)
          ∙ ap (λ v. judge s.epoch s.master v m.source (stamp m.corr) (claim_in asked)) (sym means.sequence) ∙ next

      abbrev by : Verdict → Mode → MachineStep
      by v em = by_verdict g p (joined el m.source k) k m.source (taken_as m selects (body_at (bares el.records) m selects asked (m.source == el.ce) v) (ops_for selects asked v)) em v

      abbrev done : Body → List Operation → MachineStep
      done b ops = takes g now k (conf b ops) (acts g p now (conf b ops) AllOrNone b)

      step_is : (b : Body) (ops : List Operation) → Reads m selects asked b ops → machine_step p ce opening s z.fs z.at came control ≡ done b ops
      step_is b ops reads =
          ap (λ v. by v (mode_of m.flags.em)) verdict_is ∙ ap (λ em. by Next (mode_of em)) mode
          ∙ ap₂ done (reads.body (bares el.records) (m.source == el.ce)) reads.ops_are

      pub serves_on : (b : Body) (ops : List Operation) → Reads m selects asked b ops → Serves g p now (conf b ops) b x sc f c last → Serving (configured s k m selects).state
      serves_on b ops reads does = record {
        fs = (configured s k m selects).facts ++ z.fs;
        at = record {
          runs = z.at.runs ++ run p ce opening s z.fs z.at came control ∷ [];
          means = subst (λ (t : MachineStep). Means opening.instances p (configured s k m selects).state t.element) (sym (life_is p ce opening s z.fs z.at came control)) (goes_here p ce opening s z.fs z.at came control).means;
          facts =
              ap (λ (xs : List (Fact Operation)). xs ++ z.fs) (goes_here p ce opening s z.fs z.at came control).facts
              ∙ ap (λ (ys : List (Fact Operation)). (machine_step p ce opening s z.fs z.at came control).facts ++ ys) z.at.facts
              ∙ sym (ap (λ (t : MachineStep). t.facts) (life_is p ce opening s z.fs z.at came control));
          named = named_stay s k m selects z.at.named;
        };
        served = subst ServedBy (sym (ap (λ (t : MachineStep). t.element) (life_is p ce opening s z.fs z.at came control) ∙ ap (λ (t : MachineStep). t.element) (step_is b ops reads))) does.served;
      }

    -- ---- each message
    law : Rattle.fc_machine.specs.Ground.Lawful g
    law = lawful (λ (n : Notice). 0) 0 opening.instances

    state_is : (o : Option TxnState) → state_of x s.ledger.records.entries ≡ o → state_of x (bares el.records) ≡ o
    state_is o e = ap (state_of x) (sym means.records) ∙ e

    pub start_serves : (ps : List ℕ) → has_all opening.instances sc ≡ true → admits p s.epoch x ps false sc ≡ true → is_below x s.ledger.records.floor ≡ false → clashes sc s.ledger.records.entries ≡ false → is_packed s.ledger.records.entries ≡ false
        → state_of x s.ledger.records.entries ≡ None → s.sequence ≡ last → Serves g p now (conf (said.Sot x ps sc) []) (said.Sot x ps sc) x sc f c last
    start_serves ps known fit below free room none seq =
        sot_serves g law p now (conf (said.Sot x ps sc) []) x sc f c last ps refl
        (all_are opening.instances sc ∙ known)
        (ap (λ e. admits p e x ps false sc) (sym means.epoch) ∙ fit)
        (ap (is_below x) (sym means.floor) ∙ below)
        (ap (clashes sc) (sym means.records) ∙ free)
        (ap is_packed (sym means.records) ∙ room)
        (state_is None none)
        (sym means.sequence ∙ seq)
        (z.served.kept (λ e. let w : None ≡ Some Completed = sym (state_is None none) ∙ e in absurd {A = ⊥} cc))

    pub change_serves : (d n : ℕ) (ops : List Operation) → ops ≡ f (suc d) → suc d ≤ n → state_of x s.ledger.records.entries ≡ Some Started → s.sequence ≡ last + 1 + d → Clean applied c (changes_to f n)
        → AllByRecursion (λ op. inside_by sc (place_of op) ≡ true) (changes_to f n) → Serves g p now (conf (said.Mot x 0) ops) (said.Mot x 0) x sc f c last
    change_serves d n ops those low started seq clean inside =
        let held = keeps p ce opening z.at.runs in
        let does = mot_serves g law p now (conf (said.Mot x 0) ops) x sc f c last d n those low (state_is (Some Started) started) (fine_of g el.records held.inside) (disjoint_of g el.records held.apart)
        (record { kept = z.served.kept; added = z.served.added }) (sym means.sequence ∙ seq) clean inside in record {
          loud = does.loud;
          instances = does.instances;
          succeeds = does.succeeds;
          served = does.served;
        }

    pub end_serves : (ops : List Operation) → state_of x s.ledger.records.entries ≡ Some Started → Serves g p now (conf (said.Eot x) ops) (said.Eot x) x sc f c last
    end_serves ops started = eot_serves g law p now (conf (said.Eot x) ops) x sc f c last (state_is (Some Started) started) (record { kept = z.served.kept; added = z.served.added })

    pub completion_serves : (ops : List Operation) → state_of x s.ledger.records.entries ≡ Some Prepared → Serves g p now (conf (said.Trcomp x) ops) (said.Trcomp x) x sc f c last
    completion_serves ops prepared = trcomp_serves g law p now (conf (said.Trcomp x) ops) x sc f c last (state_is (Some Prepared) prepared)

    -- ---- the operations of a change have code 00 where it serves
    ledger_is : s.ledger ≡ kept_as (joined el m.source k) s.ledger.holdings s.ledger.subscriptions
    ledger_is = λ i. record { records = record { entries = means.records i; floor = means.floor i }; holdings = s.ledger.holdings; store = means.store i; subscriptions = s.ledger.subscriptions }

    pub rest_zero : Serves g p now (conf (said.Mot x 0) (operations (rest_of selects))) (said.Mot x 0) x sc f c last → first_code (rest_outcome (scope_of x s.ledger.records.entries) s.ledger.store (rest_of selects)).codes ≡ 0
    rest_zero does =
        ap (λ (l : Ledger). first_code (rest_outcome (scope_of x l.records.entries) l.store (rest_of selects)).codes) ledger_is
        ∙ ap first_code (rest_there p opening.instances (joined el m.source k) s.ledger.holdings s.ledger.subscriptions (fits p ce opening s z.fs z.at m.source k) x (rest_of selects)) ∙ does.succeeds
