-- A participant takes each message of a round, and its operations succeed.
use Rattle.std.proofs.Common.{[], ◌≡◌, ◌≤◌, ℕ, suc, ◌+◌, ◌==◌, not, true, false, List, length, Some, None, sym, ap, ◌∙◌, subst}
use Rattle.std.specs.FinMap.{contains_key}
use Rattle.std.specs.List.{AllByRecursion}
use Rattle.fc_agreement.proofs.Taking.{at_count, judge_next}
use Rattle.fc_asks.specs.Plans.{change_at, changes_in as changes_at, changes_of, numbered, selects_of}
use Rattle.fc_asks.specs.Requests.{request_of}
use Rattle.fc_asks.specs.declared.life.Life.{Life}
use Rattle.fc_base.specs.Ids.{Txn}
use Rattle.fc_blocks.specs.Opening.{opened_store}
use Rattle.fc_element.specs.ElementMachine.{is_associated, is_ce}
use Rattle.fc_element.specs.ElementState.{ElementState}
use Rattle.fc_exec.specs.Operations.{applied, operations, place_of}
use Rattle.fc_exec.specs.declared.operations.Operation.{Operation}
use Rattle.fc_folding.specs.Folding.{is_control}
use Rattle.fc_rounds.specs.Following.{AsksConfig, IsRequest}
use Rattle.fc_rounds.specs.Networks.{ce_of}
use Rattle.fc_headline.proofs.Served.{Serves}
use Rattle.fc_headline.specs.CleanRound.{changes_to}
use Rattle.fc_headline.specs.Folds.{Clean}
use Rattle.fc_heeding.specs.Heeding.{AsksFor, as_read}
use Rattle.fc_holding.specs.Held.{has_all}
use Rattle.fc_machine.specs.Ground.{inside_by}
use Rattle.fc_msg.specs.declared.message.Message.{Message}
use Rattle.fc_msg.specs.declared.message.MsgBody.TheVariants.{Config}
use Rattle.fc_path.specs.declared.oper.Oper.TheVariants as oper
use Rattle.fc_path.specs.declared.oper.Select.{Select}
use Rattle.fc_phases.specs.Asking.{body_of}
use Rattle.fc_plans.specs.Mastership.{of_transaction}
use Rattle.fc_plans.specs.declared.plan.Part.{Part}
use Rattle.fc_protocol.specs.ElementMachine.{admits}
use Rattle.fc_protocol.specs.Fence.{judge}
use Rattle.fc_protocol.specs.Floors.{is_below}
use Rattle.fc_protocol.specs.Messages as said
use Rattle.fc_protocol.specs.Messages.{Body, Stamp, correlator, stamp}
use Rattle.fc_protocol.specs.Records.{clashes, is_packed, state_of}
use Rattle.fc_protocol.specs.Scopes.{Scope}
use Rattle.fc_protocol.specs.declared.states.TxnState.TheVariants.{Started, Prepared}
use Rattle.fc_protocol.specs.declared.verdict.Verdict.TheVariants.{Next}
use Rattle.fc_store.specs.Stores.{Stored}
use Rattle.fc_transactions.specs.Order.{asked_of, claim_in, configured}
use Rattle.fc_transactions.specs.State.{TransactionState}
use Rattle.fc_wellformed.specs.WellFormed.{KeepsChanges}
use Rattle.fc_world.specs.declared.setting.Setting.{Setting}
use Rattle.fc_rounds.proofs.Delivering.{TakesWell}
use Rattle.fc_rounds.proofs.Parting.{change_ops}
use Rattle.fc_rounds.proofs.Reading.{change_read, completion_read, end_read, start_read}
use Rattle.fc_rounds.proofs.Serving.{Serving, change_serves, completion_serves, conf, end_serves, g, instances_are, now, rest_zero, serves_on, start_serves}
use Rattle.fc_rounds.proofs.Spelling.{IsAnswered, change_answered, completion_answered, end_answered, end_selects, start_answered, start_selects}

-- what is read in it is what was said
reads_so : (m : Message) (st : Stamp) (b : Body) (selects : List Select) → AsksFor m st b → IsAnswered m selects → body_of st.count (asked_of m selects) ≡ as_read b
reads_so m st b selects asks answered =
    let configs : Config asks.selects ≡ Config selects = sym asks.config ∙ answered.config in
    let same : asks.selects ≡ selects = cc in
    subst (λ ss. body_of st.count (asked_of m ss) ≡ as_read b) same asks.reads

module _ (s : Setting) (k p : ℕ) (x : Txn) (parts : List Part) (sc : Scope) (last : ℕ) (L : Life) (keeps : KeepsChanges L) (plan : numbered L.plans x.number ≡ Some parts) where
  -- its changes by their numbers
  abbrev pub f : ℕ → List Operation
  f = change_ops (changes_of p parts)

  -- what a participant is in the round: it has the association of the control element, and its changes succeed on the settled configuration that it had when the round began
  pub record Has (ce : ℕ) (e : ElementState) : Type 0 where
    pub associated : contains_key e.associations ce ≡ true
    pub first_ce : ℕ
    pub c : Stored
    pub clean : Clean applied c (changes_to f (length (changes_of p parts)))
    pub inside : AllByRecursion (λ op. inside_by sc (place_of op) ≡ true) (changes_to f (length (changes_of p parts)))
    pub serving : Serving p first_ce (opened_store s.library s.instances) x sc f c last e.transactions

  -- a message of the round comes, of this count, under this epoch and of this control element
  module _ (ce : ℕ) (control : is_ce ce ≡ true) (of_ce : ce_of s k ≡ ce) (e : ElementState) (has : Has ce e) (m : Message) (epoch n : ℕ) (b : Body) (request : IsRequest s k p m (at_count epoch n) b) (some : (epoch == 0) ≡ false)
      (its_epoch : e.transactions.epoch ≡ epoch) (its_master : e.transactions.master ≡ ce) (its_sequence : n ≡ e.transactions.sequence + 1) where
    abbrev t : TransactionState
    t = e.transactions

    source_is : m.source ≡ ce
    source_is = request.source ∙ of_ce

    controls : is_control m.source ≡ true
    controls = ap is_control source_is ∙ control

    -- the element takes it, and is in the round as before
    pub record IsTaken : Type 0 where
      pub selects : List Select
      pub well : TakesWell e m selects
      pub next : judge t.epoch t.master t.sequence m.source (stamp m.corr) (claim_in (asked_of m selects)) ≡ Next
      pub serving : Serving p has.first_ce (opened_store s.library s.instances) x sc f has.c last (configured t k m selects).state

    next_is : (selects : List Select) → claim_in (asked_of m selects) ≡ None → judge t.epoch t.master t.sequence m.source (stamp m.corr) (claim_in (asked_of m selects)) ≡ Next
    next_is selects none =
        ap (judge t.epoch t.master t.sequence m.source (stamp m.corr)) none
        ∙ ap (λ st. judge t.epoch t.master t.sequence m.source st None) (request.stamped ∙ ap (λ v. at_count v n) (sym its_epoch))
        ∙ judge_next t.epoch t.master t.sequence m.source n (ap (λ v. v == 0) its_epoch ∙ some) (source_is ∙ sym its_master) its_sequence

    associated_so : is_associated e m ≡ true
    associated_so = ap (contains_key e.associations) source_is ∙ has.associated

    abbrev Serve : List Select → Body → List Operation → Type 0
    Serve selects d ops =
        Serves (g p has.first_ce (opened_store s.library s.instances) x sc f has.c last) p (now p has.first_ce (opened_store s.library s.instances) x sc f has.c last t has.serving k m selects controls)
        (conf p has.first_ce (opened_store s.library s.instances) x sc f has.c last t has.serving k m selects controls d ops) d x sc f has.c last

    abbrev opening : Stored
    opening = opened_store s.library s.instances

    -- ---- a start
    pub start_taken : (ps : List ℕ) → b ≡ said.Sot x ps sc → AsksConfig m (at_count epoch n) b → m ≡ request_of L p (correlator (at_count epoch n)) b → length ps ≤ 64 → length sc ≤ 4096 → has_all opening.instances sc ≡ true
        → admits p t.epoch x ps false sc ≡ true → is_below x t.ledger.records.floor ≡ false → clashes sc t.ledger.records.entries ≡ false → is_packed t.ledger.records.entries ≡ false → state_of x t.ledger.records.entries ≡ None → t.sequence ≡ last → IsTaken
    start_taken ps thus asks same few small known fit below free room none seq =
        let selects = start_selects x ps sc in
        let answered : IsAnswered m selects = subst (λ (y : Message). IsAnswered y selects) (sym (same ∙ ap (request_of L p (correlator (at_count epoch n))) thus)) (start_answered L p (correlator (at_count epoch n)) keeps x ps sc few small) in
        let read = start_read m selects n x (asked_of m selects) ps sc (reads_so m (at_count epoch n) b selects asks.asks answered ∙ ap as_read thus) in
        let next = next_is selects read.reads.claim in
        let does = start_serves p has.first_ce opening x sc f has.c last t has.serving k m selects controls ps known fit below free room none seq in record {
          selects = selects;
          well = record {
            answered = answered;
            control = controls;
            associated = associated_so;
            known = read.strange t.ledger ∙ ap (λ is. not (has_all is sc)) (instances_are p has.first_ce opening x sc f has.c last t has.serving) ∙ ap not known;
            succeeds = read.rest t.ledger;
          };
          next = next;
          serving = serves_on p has.first_ce opening x sc f has.c last t has.serving k m selects controls asks.mode next (said.Sot x ps sc) [] read.reads does;
        }

    -- ---- a change
    change_is : (i : ℕ) → change_at L.plans x p i ≡ selects_of (numbered (changes_of p parts) i)
    change_is i = ap (λ o. selects_of (numbered (changes_at o p) i)) plan

    pub change_taken : (d : ℕ) → b ≡ said.Mot x (suc d) → AsksConfig m (at_count epoch n) b → m ≡ request_of L p (correlator (at_count epoch n)) b → suc d ≤ length (changes_of p parts)
        → state_of x t.ledger.records.entries ≡ Some Started → t.sequence ≡ last + 1 + d → IsTaken
    change_taken d thus asks same low started seq =
        let selects = of_transaction x (change_at L.plans x p (suc d)) in
        let answered : IsAnswered m selects = subst (λ (y : Message). IsAnswered y selects) (sym (same ∙ ap (request_of L p (correlator (at_count epoch n))) thus)) (change_answered L p (correlator (at_count epoch n)) keeps x (suc d)) in
        let read = change_read m selects n x (asked_of m selects) (reads_so m (at_count epoch n) b selects asks.asks answered ∙ ap as_read thus) in
        let next = next_is selects read.reads.claim in
        let does = change_serves p has.first_ce opening x sc f has.c last t has.serving k m selects controls d (length (changes_of p parts)) (operations (change_at L.plans x p (suc d))) (ap operations (change_is (suc d))) low started seq has.clean has.inside in record {
          selects = selects;
          well = record {
            answered = answered;
            control = controls;
            associated = associated_so;
            known = read.strange t.ledger;
            succeeds = read.rest t.ledger ∙ rest_zero p has.first_ce opening x sc f has.c last t has.serving k m selects controls does;
          };
          next = next;
          serving = serves_on p has.first_ce opening x sc f has.c last t has.serving k m selects controls asks.mode next (said.Mot x 0) (operations (change_at L.plans x p (suc d))) read.reads does;
        }

    -- ---- an end, and a completion
    pub end_taken : b ≡ said.Eot x → AsksConfig m (at_count epoch n) b → m ≡ request_of L p (correlator (at_count epoch n)) b → state_of x t.ledger.records.entries ≡ Some Started → IsTaken
    end_taken thus asks same started =
        let selects = end_selects x oper.Commit in
        let answered : IsAnswered m selects = subst (λ (y : Message). IsAnswered y selects) (sym (same ∙ ap (request_of L p (correlator (at_count epoch n))) thus)) (end_answered L p (correlator (at_count epoch n)) keeps x) in
        let read = end_read m selects n x (asked_of m selects) (reads_so m (at_count epoch n) b selects asks.asks answered ∙ ap as_read thus) in
        let next = next_is selects read.reads.claim in
        let does = end_serves p has.first_ce opening x sc f has.c last t has.serving k m selects controls (operations selects) started in record {
          selects = selects;
          well = record { answered = answered; control = controls; associated = associated_so; known = read.strange t.ledger; succeeds = read.rest t.ledger };
          next = next;
          serving = serves_on p has.first_ce opening x sc f has.c last t has.serving k m selects controls asks.mode next (said.Eot x) (operations selects) read.reads does;
        }

    pub completion_taken : b ≡ said.Trcomp x → AsksConfig m (at_count epoch n) b → m ≡ request_of L p (correlator (at_count epoch n)) b → state_of x t.ledger.records.entries ≡ Some Prepared → IsTaken
    completion_taken thus asks same prepared =
        let selects = end_selects x oper.Trcomp in
        let answered : IsAnswered m selects = subst (λ (y : Message). IsAnswered y selects) (sym (same ∙ ap (request_of L p (correlator (at_count epoch n))) thus)) (completion_answered L p (correlator (at_count epoch n)) keeps x) in
        let read = completion_read m selects n x (asked_of m selects) (reads_so m (at_count epoch n) b selects asks.asks answered ∙ ap as_read thus) in
        let next = next_is selects read.reads.claim in
        let does = completion_serves p has.first_ce opening x sc f has.c last t has.serving k m selects controls (operations selects) prepared in record {
          selects = selects;
          well = record { answered = answered; control = controls; associated = associated_so; known = read.strange t.ledger; succeeds = read.rest t.ledger };
          next = next;
          serving = serves_on p has.first_ce opening x sc f has.c last t has.serving k m selects controls asks.mode next (said.Trcomp x) (operations selects) read.reads does;
        }
