-- Each step that can be made is a step of the protocol's network, or none.
use Rattle.std.proofs.Common.{◌≡◌, ◌<◌, ℕ, zero, suc, ◌==◌, ◌&&◌, ◌||◌, ◌*◌, ◌+◌, ◌%◌, ◌/◌, ◌^◌, not, nat_lt, Bool, true, false, List, [], ◌∷◌, ◌++◌, map, append-nil, append_assoc, slice_get, Option, Some, None, is_none, is_some, option_map, unwrap_or, refl, sym, ap, ap₂, ◌∙◌, subst, eqb-true, arith, if◌then◌else◌}
use Rattle.std.specs.List.{AllByRecursion}
use Rattle.fc_base.specs.Ids.{IsCe, IsRound, Txn}
use Rattle.fc_documents.specs.Parts.{begun}
use Rattle.fc_documents.specs.declared.transaction.PlanTxn.{PlanTxn}
use Rattle.fc_element.specs.ElementMachine.{step, turn}
use Rattle.fc_element.specs.ElementState.{ElementState, restarted}
use Rattle.fc_element.specs.declared.input.ElIn.{ElIn}
use Rattle.fc_element.specs.declared.input.ElIn.TheVariants as el_in
use Rattle.fc_exec.specs.declared.operations.Operation.{Operation}
use Rattle.fc_jobs.specs.Plans.{changes_in, participants_of, scopes_in}
use Rattle.fc_machine.specs.Trace.{Fact}
use Rattle.fc_msg.specs.declared.message.Message.{Message}
use Rattle.fc_numbering.proofs.Keeping.{new_numbered}
use Rattle.fc_path.specs.declared.oper.Select.{Select}
use Rattle.fc_plans.specs.Plans as plans
use Rattle.fc_protocol.proofs.Basics.{put_other}
use Rattle.fc_protocol.proofs.Puts.{put_here}
use Rattle.fc_protocol.specs.Collections.{among, put}
use Rattle.fc_protocol.specs.ElementMachine.{Circumstance, hears, resumed}
use Rattle.fc_protocol.specs.MasterMachine.{Master, Refusal, again, at_once, begins, finish, forgets, gives_up, heard, new_master, sends_one, next_txn}
use Rattle.fc_protocol.specs.Messages as said
use Rattle.fc_protocol.specs.Messages.{Body, Plain, Sent, Stamp, is_epoch, is_query, sent}
use Rattle.fc_protocol.specs.WorldSteps.{World, controller_of, delivered, happens, is_round, may_start, murmurs, numbered, says, sender, spoken, to_master}
use Rattle.fc_protocol.specs.WorldSteps as network
use Rattle.fc_steps.specs.declared.step.Step.{Step}
use Rattle.fc_steps.specs.declared.step.Step.TheVariants as step_of
use Rattle.fc_store.specs.Stores.{Pairwise}
use Rattle.fc_wellformed.proofs.Said.{first_clear}
use Rattle.fc_wellformed.specs.WellFormed.{HasChanges, IsChange, KeepsChanges}
use Rattle.fc_world.specs.Lookups.{controller_in, element_in, has_controller, has_element, ids_of, is_running, life_of, lone_change, lone_of, lone_part, parcel_in, plain_in, ruling_in, transaction_in, with_controller, with_element}
use Rattle.fc_world.specs.Settings.{IsNetwork, IsPlanned}
use Rattle.fc_world.specs.Stages.{HasRound}
use Rattle.fc_world.specs.Worlds.{Ruling, Standing, WorldState, downward, epoch_of, first_life, number_of}
use Rattle.fc_world.specs.WorldSteps.{Called, Spoke, begins_by, begins_in, called_by, calls, changes_at, changes_by, delivers, fault_if, fault_of, forgets_in, gives_up_in, granted, resends_in, restarted_by, restarts, running_in, started, started_by, stopped, taken_by, takes, with_running, with_spoke, with_turn}
use Rattle.fc_world.specs.WorldSteps as world
use Rattle.fc_world.specs.declared.faults.WorldFault.{WorldFault}
use Rattle.fc_world.specs.declared.nodes.Node.{Node}
use Rattle.fc_world.specs.declared.sent.Parcel.{Parcel}
use Rattle.fc_world.specs.declared.sent.Parcel.TheVariants.{Upward, Downward}
use Rattle.fc_world.specs.declared.setting.Setting.{Setting}
use Rattle.fc_performing.specs.declared.out.Out.{Out}
use Rattle.std.specs.Str.{bytes_eq}
use Rattle.fc_rounds.specs.Following.{AsksSo, Follows, GoesOn, GoesDownAs, IsController, IsElement, IsLife, IsRequest, IsSent, IsUpward, RunsSo, core_in}
use Rattle.fc_rounds.specs.Networks.{ce_of}
use Rattle.fc_rounds.proofs.Controllers.{ce_found, ces}
use Rattle.fc_rounds.proofs.Elements.{Delivered, Turned, config_delivered, moment_turned, other_turned, query_delivered, still_turned, wish_turned}
use Rattle.fc_rounds.proofs.Happens.{controller_follows, element_follows, masters_follow}
use Rattle.fc_rounds.proofs.Masters.{SpeaksAs, begins_as, changes_as, forgets_as, gives_up_as, hears_as, resends_as}
use Rattle.fc_rounds.proofs.Nodes.{Found, found}
use Rattle.fc_rounds.proofs.Pairs.{BothOrNone, pair_at}
use Rattle.fc_protocol.proofs.Puts.{both_first, both_second}

abbrev Facts : Type 0
Facts = List (Fact Operation)

-- ---- what a step that can be made has
holds_or : {A : Type 0} (b : Bool) (x : A) (rest : Option A) → (if not b then Some x else rest) ≡ None → b ≡ true
holds_or true x rest none = refl
holds_or false x rest none = absurd cc

no_fault : (b : Bool) (f : WorldFault) (rest : Option WorldFault) → fault_if b f rest ≡ None → b ≡ false
no_fault true f rest none = absurd cc
no_fault false f rest none = refl

then_none : (b : Bool) (f : WorldFault) (rest : Option WorldFault) → fault_if b f rest ≡ None → rest ≡ None
then_none true f rest none = absurd cc
then_none false f rest none = none

not_false : (b : Bool) → not b ≡ false → b ≡ true
not_false true is = refl
not_false false is = absurd cc

pub record There {A : Type 0} (o : Option A) : Type 0 where
  pub item : A
  pub is : o ≡ Some item

there : {A : Type 0} (o : Option A) → is_some o ≡ true → There o
there None is = absurd cc
there (Some x) is = record { item = x; is = refl }

-- ---- IDs
among_found : (f : ℕ) (ns : List Node) (e : ElementState) → element_in f ns ≡ Some e → among f (ids_of ns) ≡ true
among_found f [] e is = absurd cc
among_found f (n ∷ ns) e is = by (f == n.id) is (λ at. among_found f ns e at)
  where
    by : (b : Bool) → (if b then Some n.element else element_in f ns) ≡ Some e → (element_in f ns ≡ Some e → among f (ids_of ns) ≡ true) → (b || among f (ids_of ns)) ≡ true
    by true at more = refl
    by false at more = more at

pub control_found : (P : ℕ → Type 0) (c : ℕ) (ss : List Standing) (old : Standing) → AllByRecursion P (ces ss) → controller_in c ss ≡ Some old → P old.ce × (c ≡ number_of old.ce)
control_found P c [] old all is = absurd cc
control_found P c (s ∷ ss) old all is = by (c == number_of s.ce) refl is (λ e. control_found P c ss old all.1 e)
  where
    by : (b : Bool) → (c == number_of s.ce) ≡ b → (if b then Some s else controller_in c ss) ≡ Some old → (controller_in c ss ≡ Some old → P old.ce × (c ≡ number_of old.ce)) → P old.ce × (c ≡ number_of old.ce)
    by true at e more = let same : s ≡ old = cc in subst (λ (o : Standing). P o.ce × (c ≡ number_of o.ce)) same (all.0, eqb-true c (number_of s.ce) at)
    by false at e more = more e

pub planned_found : (P : PlanTxn → Type 0) (name : List ℕ) (ts : List PlanTxn) (t : PlanTxn) → AllByRecursion P ts → transaction_in name ts ≡ Some t → P t
planned_found P name [] t all is = absurd cc
planned_found P name (x ∷ ts) t all is = by (bytes_eq name x.name) is (λ e. planned_found P name ts t all.1 e)
  where
    by : (b : Bool) → (if b then Some x else transaction_in name ts) ≡ Some t → (transaction_in name ts ≡ Some t → P t) → P t
    by true e more = let same : x ≡ t = cc in subst P same all.0
    by false e more = more e

-- ---- the one change of a transaction
one_change : (f : ℕ) (cs : List (List Select)) (p : ℕ × List Select) → AllByRecursion IsChange cs → lone_change f cs ≡ Some p → IsChange p.1
one_change f [] p all is = absurd cc
one_change f (c ∷ []) p all is = let same : (f, c) ≡ p = cc in subst (λ (q : ℕ × List Select). IsChange q.1) same all.0
one_change f (c ∷ d ∷ cs) p all is = absurd cc

lone_in : (b : Bool) (p : ℕ × List Select) (ps : List (ℕ × List (List Select))) → AllByRecursion HasChanges (if b then map plans.scoped ps else map plans.whole ps) → lone_part ps ≡ Some p → IsChange p.1
lone_in b p [] all is = absurd cc
lone_in true p (q ∷ []) all is = one_change q.0 q.1 p all.0 is
lone_in false p (q ∷ []) all is = one_change q.0 q.1 p all.0 is
lone_in b p (q ∷ r ∷ ps) all is = absurd cc

-- ---- all steps, in a network that follows the protocol
module _ (s : Setting) (is : IsNetwork s) (w : WorldState) (fs : Facts) (a : World) (follows : Follows s w fs a) where
  none_goes : (w' : WorldState) → w'.nodes ≡ w.nodes → w'.controllers ≡ w.controllers → w'.sent ≡ w.sent → GoesOn s w' fs a
  none_goes w' nodes controllers sends = record {
    steps = [];
    follows = record {
      network = follows.network;
      ids = ap ids_of nodes ∙ follows.ids;
      ces = ap ces controllers ∙ follows.ces;
      elements = subst (λ ns. AllByRecursion (λ (n : Node). IsElement s fs (a.at n.id) n) ns) (sym nodes) follows.elements;
      controllers = λ c. subst (λ ss. IsController (controller_in c ss) (a.masters c) (a.used c)) (sym controllers) (follows.controllers c);
      sent = subst (λ ps. Pairwise (IsSent s) ps a.sent) (sym sends) follows.sent;
      facts = follows.facts;
    };
  }

  still_goes : GoesOn s w fs a
  still_goes = none_goes w refl refl refl

  -- ---- what is there of the network too
  pub elements_are : (f : ℕ) (e : ElementState) → element_in f w.nodes ≡ Some e → among f a.network.elements ≡ true
  elements_are f e at = ap (λ (n : network.Network). among f n.elements) follows.network ∙ ap (among f) (sym follows.ids) ∙ among_found f w.nodes e at

  controller_is : (c : ℕ) → controller_of a.network.controllers c ≡ option_map (λ (o : Standing). o.ce) (controller_in c w.controllers)
  controller_is c = ap (λ (n : network.Network). controller_of n.controllers c) follows.network ∙ ap (λ ks. controller_of ks c) (sym follows.ces) ∙ ce_found c w.controllers

  pub ce_is : (c : ℕ) (old : Standing) → controller_in c w.controllers ≡ Some old → ce_of s c ≡ old.ce
  ce_is c old at = ap (λ ks. unwrap_or (controller_of ks c) 0) (sym follows.ces) ∙ ap (λ o. unwrap_or o 0) (ce_found c w.controllers ∙ ap (λ o. option_map (λ (x : Standing). x.ce) o) at)

  pub sender_is : (k : ℕ) → sender a k ≡ ce_of s k
  sender_is k = ap (λ (n : network.Network). unwrap_or (controller_of n.controllers k) 0) follows.network

  -- ---- an element
  module _ (f : ℕ) (e : ElementState) (at : element_in f w.nodes ≡ Some e) where
    pub it : Found (λ (n : Node). IsElement s fs (a.at n.id) n) f e
    it = found (λ (n : Node). IsElement s fs (a.at n.id) n) f e w.nodes follows.elements at

    abbrev n : Node
    n = it.node

    pub takes_is : (i : ElIn) → takes f i w ≡ with_turn f (step n.element i) w
    takes_is i = ap (λ o. taken_by o f i w) at ∙ ap (λ x. with_turn f (step x i) w) (sym it.element)

    pub facts_are : (i : ElIn) → world.facts_by (element_in f w.nodes) i ≡ (step n.element i).facts
    facts_are i = ap (λ o. world.facts_by o i) at ∙ ap (λ x. (step x i).facts) (sym it.element)

    -- its input is this step of the network, which says this beside what it is
    module _ (i : ElIn) (x : network.Step) (ts : List Sent) (turned : Turned s fs n (step n.element i) (a.at n.id) [] ts) (thus : happens a x ≡ says a ts) where
      said_goes : GoesOn s (takes f i w) (world.facts_by (element_in f w.nodes) i ++ fs) a
      said_goes = record {
        steps = x ∷ [];
        follows = subst (λ b. Follows s (takes f i w) (world.facts_by (element_in f w.nodes) i ++ fs) b) (sym thus)
            (subst (λ v. Follows s v (world.facts_by (element_in f w.nodes) i ++ fs) (says a ts)) (sym (takes_is i))
            (subst (λ gs. Follows s (with_turn f (step n.element i) w) (gs ++ fs) (says a ts)) (sym (facts_are i))
            (element_follows s w fs a is follows f n it.id (step n.element i) (a.at n.id) [] ts turned a.at (ap a.at (sym it.id)) (λ q away. refl) (a.sent ++ ts) refl a.facts refl)));
      }

    -- its input is the delivery of a request
    module _ (k j : ℕ) (m : Message) (st : Stamp) (b : Body) (t : Sent) (numbers : numbered a.sent j ≡ Some t) (to : t.element ≡ f) (from : t.controller ≡ k) (asks : t.message ≡ said.Request st b)
        (got : Delivered s fs (a.at n.id) n k m st b) where
      request_goes : GoesOn s (takes f (el_in.Arrived k m) w) (world.facts_by (element_in f w.nodes) (el_in.Arrived k m) ++ fs) a
      request_goes =
          let i = el_in.Arrived k m in
          let c = got.c in
          let h = hears n.id (a.at n.id) (ce_of s k) c st b in
          let ts = spoken n.id k h.says ++ murmurs n.id c.others in
          let b' : World = record { network = a.network; at = put a.at n.id h.element; masters = a.masters; sent = (a.sent ++ spoken n.id k h.says) ++ murmurs n.id c.others; used = a.used; facts = h.facts ++ a.facts; begun = a.begun } in
          let thus : happens a (network.Deliver j c) ≡ b' =
          ap (λ o. network.delivers a c o) numbers
          ∙ ap (λ x. delivered a c t.element t.controller x) asks
          ∙ ap₂ (λ p q. delivered a c p q (said.Request st b)) (to ∙ sym it.id) from
          ∙ ap (λ v. says (network.to_element a n.id k (hears n.id (a.at n.id) v c st b)) (murmurs n.id c.others)) (sender_is k) in record {
            steps = network.Deliver j c ∷ [];
            follows = subst (λ v. Follows s (takes f i w) (world.facts_by (element_in f w.nodes) i ++ fs) v) (sym thus)
                (subst (λ v. Follows s v (world.facts_by (element_in f w.nodes) i ++ fs) b') (sym (takes_is i))
                (subst (λ gs. Follows s (with_turn f (step n.element i) w) (gs ++ fs) b') (sym (facts_are i))
                (element_follows s w fs a is follows f n it.id (step n.element i) h.element h.facts ts got.turned (put a.at n.id h.element)
                (ap (put a.at n.id h.element) (sym it.id) ∙ put_here a.at n.id h.element) (λ q away. put_other a.at n.id h.element q (λ same. away (same ∙ it.id)))
                ((a.sent ++ spoken n.id k h.says) ++ murmurs n.id c.others) (append_assoc a.sent (spoken n.id k h.says) (murmurs n.id c.others)) (h.facts ++ a.facts) refl)));
          }

  -- ---- what comes to an element
  open_goes : (f c : ℕ) → has_element f w.nodes ≡ true → has_controller c w.controllers ≡ true → GoesOn s (takes f (el_in.Opened c) w) (world.facts_by (element_in f w.nodes) (el_in.Opened c) ++ fs) a
  open_goes f c element controller =
      let e = there (element_in f w.nodes) element in
      let old = there (controller_in c w.controllers) controller in
      let x = it f e.item e.is in
      let ts = sent x.node.id c said.Setup ∷ [] in
      let asks : (among x.node.id a.network.elements && is_some (controller_of a.network.controllers c)) ≡ true =
      ap₂ (λ (p q : Bool). p && q) (ap (λ i. among i a.network.elements) x.id ∙ elements_are f e.item e.is) (ap is_some (controller_is c ∙ ap (λ o. option_map (λ (y : Standing). y.ce) o) old.is)) in
      said_goes f e.item e.is (el_in.Opened c) (network.Open x.node.id c) ts (wish_turned s fs (a.at x.node.id) x.node c x.holds) (ap (λ b. if b then says a ts else a) asks)

  moment_goes : (f t : ℕ) → has_element f w.nodes ≡ true → GoesOn s (takes f (el_in.Moment t) w) (world.facts_by (element_in f w.nodes) (el_in.Moment t) ++ fs) a
  moment_goes f t element =
      let e = there (element_in f w.nodes) element in
      let x = it f e.item e.is in
      let ks = map (λ (o : Out). o.peer) (step x.node.element (el_in.Moment t)).outs in
      said_goes f e.item e.is (el_in.Moment t) (network.Moment x.node.id ks) (murmurs x.node.id ks) (moment_turned s fs (a.at x.node.id) x.node t x.holds)
      (ap (λ b. if b then says a (murmurs x.node.id ks) else a) (ap (λ i. among i a.network.elements) x.id ∙ elements_are f e.item e.is))

  restart_goes : (f : ℕ) → has_element f w.nodes ≡ true → GoesOn s (restarts f w) fs a
  restart_goes f element =
      let e = there (element_in f w.nodes) element in
      let x = it f e.item e.is in
      let t = turn (restarted x.node.element) [] in
      let turned : Turned s fs x.node t (a.at x.node.id) [] [] = still_turned s fs (a.at x.node.id) x.node x.holds t [] refl refl tt in
      let b : World = record { network = a.network; at = put a.at x.node.id (resumed (a.at x.node.id)); masters = a.masters; sent = a.sent; used = a.used; facts = a.facts; begun = a.begun } in
      let v : WorldState = record { nodes = with_element f (restarted x.node.element) w.nodes; controllers = w.controllers; sent = w.sent; refused = w.refused } in
      let thus : happens a (network.Restart x.node.id) ≡ b = ap (λ q. if q then network.restarts a x.node.id else a) (ap (λ i. among i a.network.elements) x.id ∙ elements_are f e.item e.is) in
      let all = element_follows s w fs a is follows f x.node x.id t (resumed (a.at x.node.id)) [] [] turned b.at
      (ap b.at (sym x.id) ∙ put_here a.at x.node.id (resumed (a.at x.node.id))) (λ q away. put_other a.at x.node.id (resumed (a.at x.node.id)) q (λ same. away (same ∙ x.id)))
      a.sent (sym (append-nil a.sent)) a.facts refl in record {
        steps = network.Restart x.node.id ∷ [];
        follows = subst (λ u. Follows s (restarts f w) fs u) (sym thus)
            (subst (λ u. Follows s u fs b) (sym (ap (λ o. restarted_by o f w) e.is ∙ ap (λ y. restarted_by (Some y) f w) (sym x.element)))
            (subst (λ ps. Follows s (record { nodes = v.nodes; controllers = v.controllers; sent = ps; refused = v.refused }) fs b) (append-nil w.sent) all));
      }

  -- ---- what comes of a control element's life
  module _ (c : ℕ) (old : Standing) (at : controller_in c w.controllers ≡ Some old) (r : Ruling) (runs : old.running ≡ Some r) where
    here : IsController (Some old) (a.masters c) (a.used c)
    here = subst (λ o. IsController o (a.masters c) (a.used c)) at (follows.controllers c)

    pub master_is : a.masters c ≡ Some r.core
    master_is = here.0 ∙ ap core_in runs

    pub life : IsLife old.ce r
    life = subst (RunsSo old.ce) runs here.2

    -- it has spoken, and so has the master of the network
    spoke_goes : (spoke : Spoke) (m : Master) (ts : List Sent) → SpeaksAs s c old.ce spoke m ts → (x : network.Step) (sent' : List Sent) → sent' ≡ a.sent ++ ts → (more : List network.Begun)
        → happens a x ≡ record { network = a.network; at = a.at; masters = put a.masters c (Some m); sent = sent'; used = a.used; facts = a.facts; begun = more } → GoesOn s (with_spoke c spoke w) fs a
    spoke_goes spoke m ts speaks x sent' sends more thus =
        let new = with_running (Some spoke.ruling) old in
        let v : WorldState = record { nodes = w.nodes; controllers = with_controller c new w.controllers; sent = w.sent ++ downward c spoke.outs; refused = w.refused } in record {
          steps = x ∷ [];
          follows = subst (λ u. Follows s (with_spoke c spoke w) fs u) (sym thus)
              (subst (λ u. Follows s u fs (record { network = a.network; at = a.at; masters = put a.masters c (Some m); sent = sent'; used = a.used; facts = a.facts; begun = more }))
              (ap (λ ss. record { nodes = w.nodes; controllers = ss; sent = w.sent ++ downward c spoke.outs; refused = w.refused }) (sym (ap (λ o. running_in o c (Some spoke.ruling) w.controllers) at)))
              (controller_follows s w fs a follows c old new at refl (downward c spoke.outs) ts speaks.sent (Some m) a.used (sym (ap (λ y. Some y) speaks.core)) here.1 (λ j away. refl) speaks.life sent' sends more));
        }

    -- it has only said something
    spoke_kept : (spoke : Spoke) (ts : List Sent) → SpeaksAs s c old.ce spoke r.core ts → (x : network.Step) (sent' : List Sent) → sent' ≡ a.sent ++ ts
        → happens a x ≡ record { network = a.network; at = a.at; masters = a.masters; sent = sent'; used = a.used; facts = a.facts; begun = a.begun } → GoesOn s (with_spoke c spoke w) fs a
    spoke_kept spoke ts speaks x sent' sends thus =
        let new = with_running (Some spoke.ruling) old in
        let b : World = record { network = a.network; at = a.at; masters = a.masters; sent = sent'; used = a.used; facts = a.facts; begun = a.begun } in record {
          steps = x ∷ [];
          follows = subst (λ u. Follows s (with_spoke c spoke w) fs u) (sym thus)
              (subst (λ u. Follows s u fs b)
              (ap (λ ss. record { nodes = w.nodes; controllers = ss; sent = w.sent ++ downward c spoke.outs; refused = w.refused }) (sym (ap (λ o. running_in o c (Some spoke.ruling) w.controllers) at)))
              (masters_follow s w fs a follows c old new at refl (downward c spoke.outs) ts speaks.sent a.masters a.used (master_is ∙ ap (λ y. Some y) (sym speaks.core)) (λ j away. refl) here.1 (λ j away. refl) speaks.life sent' sends a.begun));
        }

  -- the life of the control element, where it runs
  pub ruled : (c : ℕ) (r : Ruling) → ruling_in c w.controllers ≡ Some r → (old : Standing) × (controller_in c w.controllers ≡ Some old) × (old.running ≡ Some r)
  ruled c r at = by (controller_in c w.controllers) refl at
    where
      by : (o : Option Standing) → controller_in c w.controllers ≡ o → life_of o ≡ Some r → (old : Standing) × (controller_in c w.controllers ≡ Some old) × (old.running ≡ Some r)
      by None found none = absurd cc
      by (Some old) found runs = (old, found, runs)

  -- a call that is refused, or not
  called_goes : (place c : ℕ) (spoke : Spoke) (refusal : Option Refusal) → (refusal ≡ None → GoesOn s (with_spoke c spoke w) fs a) → GoesOn s (called_by place c refusal spoke w) fs a
  called_goes place c spoke None speaks = speaks refl
  called_goes place c spoke (Some r) speaks = none_goes (called_by place c (Some r) spoke w) refl refl refl

  calls_go : (place c : ℕ) (f : Ruling → Called) → ((r : Ruling) → ruling_in c w.controllers ≡ Some r → (f r).refusal ≡ None → GoesOn s (with_spoke c (f r).spoke w) fs a) → GoesOn s (calls place c f (ruling_in c w.controllers) w) fs a
  calls_go place c f speaks = by (ruling_in c w.controllers) refl
    where
      by : (o : Option Ruling) → ruling_in c w.controllers ≡ o → GoesOn s (calls place c f o w) fs a
      by None at = still_goes
      by (Some r) at = called_goes place c (f r).spoke (f r).refusal (speaks r at)

  -- ---- a message to a control element
  pub to_master_is : (k p : ℕ) (x : said.Message) (c : Circumstance) → IsUpward x → delivered a c p k x ≡ to_master a p k x (a.masters k)
  to_master_is k p said.Setup c up = refl
  to_master_is k p said.Beat c up = refl
  to_master_is k p (said.Request st b) c up = absurd up
  to_master_is k p (said.Reply st code) c up = refl
  to_master_is k p (said.Holds st e ns) c up = refl
  to_master_is k p (said.Tells st x e t) c up = refl
  to_master_is k p (said.Unread st e) c up = refl
  to_master_is k p said.Other_up c up = refl
  to_master_is k p said.Other_down c up = absurd up

  abbrev smooth : Circumstance
  smooth = record { unheard = false; misfit = 0; quiet = false; rest = 0; shown = 0; plain = 0; touches = []; strange = false; shape = 0; others = [] }

  hear_goes : (place j f c : ℕ) (m : Message) (t : Sent) → numbered a.sent j ≡ Some t → IsSent s (Upward f c m) t → GoesOn s (calls place c (λ r. granted (world.hears c f m r)) (ruling_in c w.controllers) w) fs a
  hear_goes place j f c m t numbers same =
      calls_go place c (λ r. granted (world.hears c f m r))
      (λ r rules none.
      let (old, at, runs) = ruled c r rules in
      let x = t.message in
      let n = finish c (heard r.core f x) in
      let first = at_once c r.core f x in
      spoke_goes c old at r runs (world.hears c f m r) n.master (first ++ n.says) (hears_as s c old.ce r (ce_is c old at) (life c old at r runs) f m x same.2) (network.Deliver j smooth) (a.sent ++ first ++ n.says) (append_assoc a.sent first n.says) a.begun
      (ap (λ o. network.delivers a smooth o) numbers ∙ ap₂ (λ p q. delivered a smooth p q x) same.0 same.1 ∙ to_master_is c f x smooth same.2.1 ∙ ap (to_master a f c x) (master_is c old at r runs)))

  -- ---- a message to an element
  down_goes : (j f c : ℕ) (m : Message) (t : Sent) → numbered a.sent j ≡ Some t → IsSent s (Downward c f m) t → GoesOn s (takes f (el_in.Arrived c m) w) (world.facts_by (element_in f w.nodes) (el_in.Arrived c m) ++ fs) a
  down_goes j f c m t numbers same = by (element_in f w.nodes) refl
    where
      kinds : (e : ElementState) (at : element_in f w.nodes ≡ Some e) (x : said.Message) → t.message ≡ x → GoesDownAs s c f m x → GoesOn s (takes f (el_in.Arrived c m) w) (world.facts_by (element_in f w.nodes) (el_in.Arrived c m) ++ fs) a
      kinds e at (said.Request st b) thus goes =
          let x = it f e at in
          let asks : IsRequest s c x.node.id m st b = subst (λ i. IsRequest s c i m st b) (sym x.id) goes in
          request_goes f e at c j m st b t numbers same.0 same.1 thus (by_query (is_query b) refl x asks)
        where
          by_query : (q : Bool) → is_query b ≡ q → (x : Found (λ (n : Node). IsElement s fs (a.at n.id) n) f e) → IsRequest s c x.node.id m st b → Delivered s fs (a.at x.node.id) x.node c m st b
          by_query false q x asks = config_delivered s is.own fs (a.at x.node.id) x.node x.holds c m st b asks (subst (λ v. AsksSo v m st b) q asks.asks)
          by_query true q x asks = query_delivered s is.own fs (a.at x.node.id) x.node x.holds c m st b asks q (subst (λ v. AsksSo v m st b) q asks.asks)
      kinds e at said.Other_down thus goes =
          let x = it f e at in
          said_goes f e at (el_in.Arrived c m) (network.Deliver j smooth) [] (other_turned s fs (a.at x.node.id) x.node c m x.holds goes.0 goes.1)
          (ap (λ o. network.delivers a smooth o) numbers ∙ ap (λ y. delivered a smooth t.element t.controller y) thus)
      kinds e at said.Setup thus goes = absurd goes
      kinds e at said.Beat thus goes = absurd goes
      kinds e at (said.Reply st code) thus goes = absurd goes
      kinds e at (said.Holds st v ns) thus goes = absurd goes
      kinds e at (said.Tells st x v u) thus goes = absurd goes
      kinds e at (said.Unread st v) thus goes = absurd goes
      kinds e at said.Other_up thus goes = absurd goes

      by : (o : Option ElementState) → element_in f w.nodes ≡ o → GoesOn s (takes f (el_in.Arrived c m) w) (world.facts_by (element_in f w.nodes) (el_in.Arrived c m) ++ fs) a
      by None none =
          subst (λ v. GoesOn s v (world.facts_by (element_in f w.nodes) (el_in.Arrived c m) ++ fs) a) (sym (ap (λ o. taken_by o f (el_in.Arrived c m) w) none))
          (subst (λ gs. GoesOn s w (gs ++ fs) a) (sym (ap (λ o. world.facts_by o (el_in.Arrived c m)) none)) still_goes)
      by (Some e) at = kinds e at t.message refl same.2

  -- ---- any message
  deliver_goes : (place i : ℕ) → GoesOn s (delivers place (parcel_in i w.sent) w) (world.facts_of (parcel_in i w.sent) w ++ fs) a
  deliver_goes place zero = still_goes
  deliver_goes place (suc j) = by (slice_get w.sent j) (slice_get a.sent j) refl (pair_at (IsSent s) j w.sent a.sent follows.sent)
    where
      by : (o : Option Parcel) (v : Option Sent) → slice_get a.sent j ≡ v → BothOrNone (IsSent s) o v → GoesOn s (delivers place o w) (world.facts_of o w ++ fs) a
      by None v numbers same = still_goes
      by (Some p) None numbers same = absurd same
      by (Some (Upward f c m)) (Some t) numbers same = hear_goes place (suc j) f c m t numbers same
      by (Some (Downward c f m)) (Some t) numbers same = down_goes (suc j) f c m t numbers same

  -- ---- lives
  round_is : (r : ℕ) → IsRound r → is_round r ≡ true
  round_is r fits = ap₂ (λ (x y : Bool). x && y) (below 0 r fits.0) (below r (2 ^ 24) fits.1)
    where
      below : (m n : ℕ) → m < n → nat_lt m n ≡ true
      below m n h = grind arith

  same_epoch : (r k n : ℕ) → k ≡ n → 256 * r + k ≡ r * 256 + n
  same_epoch r k n same = omega (arith, same)

  epoch_is : (r ce : ℕ) → IsRound r → IsCe ce → is_epoch (epoch_of r ce) ≡ true
  epoch_is r ce fits control =
      let n = ce % 256 in
      let above : (n == 0) ≡ false = by_zero n control.1 in
      let high : epoch_of r ce / 256 ≡ r = omega arith in
      let low : epoch_of r ce % 256 ≡ n = omega arith in
      let some : (r == 0) ≡ false = by_zero r fits.0 in
      let whole : nat_lt (epoch_of r ce) (2 ^ 32) ≡ true = below (epoch_of r ce) (2 ^ 32) (omega (arith, fits.1)) in
      ap₂ (λ (x y : Bool). not x && y) (ap (λ v. v == 0) high ∙ some) (ap₂ (λ (x y : Bool). not x && y) (ap (λ v. v == 0) low ∙ above) whole)
    where
      below : (m v : ℕ) → m < v → nat_lt m v ≡ true
      below m v h = grind arith

      by_zero : (v : ℕ) → 0 < v → (v == 0) ≡ false
      by_zero v h = grind arith

  used_more : (q r : ℕ) (us vs : List ℕ) → among q us ≡ among q vs → among q (r ∷ us) ≡ among q (vs ++ r ∷ [])
  used_more q r us vs same = ap (λ b. q == r || b) same ∙ at_end vs
    where
      or_swap : (x y z : Bool) → (x || (y || z)) ≡ (y || (x || z))
      or_swap true true z = refl
      or_swap true false z = refl
      or_swap false y z = refl

      or_none : (x : Bool) → (x || false) ≡ (x || false)
      or_none x = refl

      at_end : (vs : List ℕ) → (q == r || among q vs) ≡ among q (vs ++ r ∷ [])
      at_end [] = refl
      at_end (v ∷ vs) = or_swap (q == r) (q == v) (among q vs) ∙ ap (λ b. q == v || b) (at_end vs)

  start_goes : (c r : ℕ) → IsRound r → has_controller c w.controllers ≡ true → is_running c w.controllers ≡ false → world.has_used c r w.controllers ≡ false → GoesOn s (started_by (controller_in c w.controllers) c r w) fs a
  start_goes c r fits controller stands unused =
      let found = there (controller_in c w.controllers) controller in
      let old = found.item in
      let at = found.is in
      let was : IsController (Some old) (a.masters c) (a.used c) = subst (λ o. IsController o (a.masters c) (a.used c)) at (follows.controllers c) in
      let still : old.running ≡ None = still_none old.running (ap (λ o. is_some (life_of o)) (sym at) ∙ stands) in
      let control = control_found IsCe c w.controllers old (subst (AllByRecursion IsCe) (sym follows.ces) is.controls) at in
      let new = started (ids_of w.nodes) r old in
      let core : new_master (256 * r + c) a.network.elements ≡ new_master (epoch_of r old.ce) (ids_of w.nodes) =
      ap₂ new_master (same_epoch r c (number_of old.ce) control.1) (ap (λ (n : network.Network). n.elements) follows.network ∙ sym follows.ids) in
      let m = new_master (256 * r + c) a.network.elements in
      let starts : may_start a c r ≡ true =
      ap₂ (λ (x y : Bool). (x && is_round r) && y) (ap is_some (controller_is c ∙ ap (λ o. option_map (λ (y : Standing). y.ce) o) at))
      (ap₂ (λ (x y : Bool). x && not y) (ap is_none (was.0 ∙ ap core_in still)) (was.1 r ∙ ap (λ o. among r (world.used_by o)) (sym at) ∙ unused))
      ∙ ap (λ b. b && true) (round_is r fits) in
      let first = first_life old.ce (epoch_of r old.ce) in
      let keeps : KeepsChanges first = record { plans = tt; plains = tt } in
      let runs : IsLife old.ce (record { life = first; core = new_master (epoch_of r old.ce) (ids_of w.nodes) }) = record {
        own = refl;
        clear = first_clear first (epoch_of r old.ce) (ids_of w.nodes) keeps;
        numbers = new_numbered (epoch_of r old.ce) (ids_of w.nodes) (epoch_is r old.ce fits control.0);
      } in
      let b : World = record { network = a.network; at = a.at; masters = put a.masters c (Some m); sent = a.sent; used = put a.used c (r ∷ a.used c); facts = a.facts; begun = a.begun } in
      let v : WorldState = record { nodes = w.nodes; controllers = with_controller c new w.controllers; sent = w.sent; refused = w.refused } in
      let all = controller_follows s w fs a follows c old new at refl [] [] tt (Some m) b.used (ap (λ y. Some y) core)
      (λ q. ap (among q) (put_here a.used c (r ∷ a.used c)) ∙ used_more q r (a.used c) old.used (was.1 q)) (λ j away. put_other a.used c (r ∷ a.used c) j away) runs a.sent (sym (append-nil a.sent)) a.begun in record {
        steps = network.Start c r ∷ [];
        follows = subst (λ u. Follows s (started_by (controller_in c w.controllers) c r w) fs u) (sym (ap (λ q. if q then network.starts a c r else a) starts))
            (subst (λ u. Follows s u fs b) (sym (ap (λ o. started_by o c r w) at))
            (subst (λ ps. Follows s (record { nodes = v.nodes; controllers = v.controllers; sent = ps; refused = v.refused }) fs b) (append-nil w.sent) all));
      }
    where
      still_none : (o : Option Ruling) → is_some o ≡ false → o ≡ None
      still_none None e = refl
      still_none (Some r) e = absurd cc

  stop_goes : (c : ℕ) → GoesOn s (stopped c w) fs a
  stop_goes c = by (controller_in c w.controllers) refl
    where
      by : (o : Option Standing) → controller_in c w.controllers ≡ o → GoesOn s (stopped c w) fs a
      by None none = none_goes (stopped c w) refl (ap (λ o. running_in o c None w.controllers) none) refl
      by (Some old) at =
          let was : IsController (Some old) (a.masters c) (a.used c) = subst (λ o. IsController o (a.masters c) (a.used c)) at (follows.controllers c) in
          let new = with_running None old in
          let all = controller_follows s w fs a follows c old new at refl [] [] tt None a.used refl was.1 (λ j away. refl) tt a.sent (sym (append-nil a.sent)) a.begun in
          let b : World = record { network = a.network; at = a.at; masters = put a.masters c None; sent = a.sent; used = a.used; facts = a.facts; begun = a.begun } in record {
            steps = network.Stop c ∷ [];
            follows = subst (λ ss. Follows s (record { nodes = w.nodes; controllers = ss; sent = w.sent; refused = w.refused }) fs b) (sym (ap (λ o. running_in o c None w.controllers) at))
                (subst (λ ps. Follows s (record { nodes = w.nodes; controllers = with_controller c new w.controllers; sent = ps; refused = w.refused }) fs b) (append-nil w.sent) all);
          }

  -- ---- calls
  begin_goes : (place c : ℕ) (t : PlanTxn) → IsPlanned t → GoesOn s (calls place c (begins_in c (begun t)) (ruling_in c w.controllers) w) fs a
  begin_goes place c t planned =
      calls_go place c (begins_in c (begun t))
      (λ r rules none.
      let (old, at, runs) = ruled c r rules in
      let ps = participants_of (begun t) in
      let changes = changes_in (begun t) in
      let scopes = scopes_in (begun t) in
      let n = finish c (begins r.core ps changes scopes) in
      let more : List network.Begun = (record { txn = next_txn r.core; parts = ps }) ∷ a.begun in
      spoke_goes c old at r runs (begins_in c (begun t) r).spoke n.master n.says (begins_as s c old.ce r (ce_is c old at) (life c old at r runs) (begun t) planned.holds planned.plan planned.words none)
      (network.Begin c ps changes scopes) (a.sent ++ [] ++ n.says) (ap (λ us. us ++ n.says) (append-nil a.sent)) more
      (ap (network.begin_at a c ps changes scopes) (master_is c old at r runs) ∙ ap (network.begin_by a c ps changes scopes r.core) none))

  change_goes : (place c f : ℕ) (change : List Select) → IsChange change → GoesOn s (calls place c (changes_at c f change) (ruling_in c w.controllers) w) fs a
  change_goes place c f change holds =
      calls_go place c (changes_at c f change)
      (λ r rules none.
      let (old, at, runs) = ruled c r rules in
      let n = sends_one c r.core f (Some Plain) in
      spoke_goes c old at r runs (changes_at c f change r).spoke n.master n.says (changes_as s c old.ce r (ce_is c old at) (life c old at r runs) f change holds none)
      (network.Change c f) (a.sent ++ [] ++ n.says) (ap (λ us. us ++ n.says) (append-nil a.sent)) a.begun
      (ap (network.change_at a c f) (master_is c old at r runs) ∙ ap (network.change_by a c f r.core) none))

  give_up_goes : (place c : ℕ) (x : Txn) → GoesOn s (calls place c (gives_up_in c x) (ruling_in c w.controllers) w) fs a
  give_up_goes place c x =
      calls_go place c (gives_up_in c x)
      (λ r rules none.
      let (old, at, runs) = ruled c r rules in
      let n = finish c (gives_up r.core x) in
      spoke_goes c old at r runs (gives_up_in c x r).spoke n.master n.says (gives_up_as s c old.ce r (ce_is c old at) (life c old at r runs) x)
      (network.Give_up c x) (a.sent ++ [] ++ n.says) (ap (λ us. us ++ n.says) (append-nil a.sent)) a.begun
      (ap (network.give_up_at a c x) (master_is c old at r runs) ∙ ap (network.give_up_by a c x r.core) none))

  forget_goes : (place c : ℕ) → GoesOn s (calls place c (forgets_in c) (ruling_in c w.controllers) w) fs a
  forget_goes place c =
      calls_go place c (forgets_in c)
      (λ r rules none.
      let (old, at, runs) = ruled c r rules in
      let n = finish c (forgets r.core) in
      spoke_goes c old at r runs (forgets_in c r).spoke n.master n.says (forgets_as s c old.ce r (ce_is c old at) (life c old at r runs) none)
      (network.Forget c) (a.sent ++ [] ++ n.says) (ap (λ us. us ++ n.says) (append-nil a.sent)) a.begun
      (ap (network.forget_at a c) (master_is c old at r runs) ∙ ap (network.forget_by a c r.core) none))

  resend_goes : (place c f : ℕ) → GoesOn s (calls place c (λ r. granted (resends_in c f r)) (ruling_in c w.controllers) w) fs a
  resend_goes place c f =
      calls_go place c (λ r. granted (resends_in c f r))
      (λ r rules none.
      let (old, at, runs) = ruled c r rules in
      let ts = again c f (r.core.at f).waits in
      spoke_kept c old at r runs (resends_in c f r) ts (resends_as s c old.ce r (ce_is c old at) (life c old at r runs) f)
      (network.Resend c f) (a.sent ++ ts) refl (ap (network.resend_at a c f) (master_is c old at r runs)))

  -- ---- the transactions of the script
  begins_go : (place c : ℕ) (name : List ℕ) → GoesOn s (begins_by place c (transaction_in name s.transactions) w) fs a
  begins_go place c name = by (transaction_in name s.transactions) refl
    where
      by : (o : Option PlanTxn) → transaction_in name s.transactions ≡ o → GoesOn s (begins_by place c o w) fs a
      by None none = still_goes
      by (Some t) at = begin_goes place c t (planned_found IsPlanned name s.transactions t is.planned at)

  changes_go : (place c : ℕ) (name : List ℕ) → GoesOn s (changes_by place c (plain_in name s.transactions) w) fs a
  changes_go place c name = by (transaction_in name s.transactions) refl
    where
      lone : (t : PlanTxn) → IsPlanned t → (o : Option (ℕ × List Select)) → lone_part t.parts ≡ o → GoesOn s (changes_by place c o w) fs a
      lone t planned None none = still_goes
      lone t planned (Some p) at = change_goes place c p.0 p.1 (lone_in t.scoped p t.parts planned.holds at)

      by : (o : Option PlanTxn) → transaction_in name s.transactions ≡ o → GoesOn s (changes_by place c (lone_of o) w) fs a
      by None none = still_goes
      by (Some t) at = lone t (planned_found IsPlanned name s.transactions t is.planned at) (lone_part t.parts) refl

  -- ---- one step
  pub step_goes : (place : ℕ) (x : Step) → fault_of s.transactions w x ≡ None → HasRound x → GoesOn s (world.happens s.transactions w (place, x)) (world.facts_at w x ++ fs) a
  step_goes place (step_of.Open f c) made round =
      let named = not_false _ (no_fault (not (has_element f w.nodes && has_controller c w.controllers)) _ None made) in
      open_goes f c (both_first (has_element f w.nodes) (has_controller c w.controllers) named) (both_second (has_element f w.nodes) (has_controller c w.controllers) named)
  step_goes place (step_of.Deliver i) made round = deliver_goes place i
  step_goes place (step_of.Moment f t) made round = moment_goes f t (not_false _ (no_fault (not (has_element f w.nodes)) _ None made))
  step_goes place (step_of.Start c r) made round =
      let named = not_false _ (no_fault (not (has_controller c w.controllers)) _ _ made) in
      let more = then_none (not (has_controller c w.controllers)) _ _ made in
      start_goes c r round named (no_fault (is_running c w.controllers) _ _ more) (no_fault (world.has_used c r w.controllers) _ None (then_none (is_running c w.controllers) _ _ more))
  step_goes place (step_of.Stop c) made round = stop_goes c
  step_goes place (step_of.Begin c name) made round = begins_go place c name
  step_goes place (step_of.Plain c name) made round = changes_go place c name
  step_goes place (step_of.GiveUp c x) made round = give_up_goes place c x
  step_goes place (step_of.Resend c f) made round = resend_goes place c f
  step_goes place (step_of.Forget c) made round = forget_goes place c
  step_goes place (step_of.Restart f) made round = restart_goes f (not_false _ (no_fault (not (has_element f w.nodes)) _ None made))
