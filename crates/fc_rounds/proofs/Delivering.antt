-- A delivery in a network element is one in the network of the protocol that it follows, and its circumstance there is smooth where an element takes what
-- comes and does it.
use Rattle.std.specs.Prelude.{⊤}
use Rattle.std.proofs.Common.{[], ◌≡◌, ℕ, zero, suc, ◌==◌, ◌&&◌, not, Bool, true, false, List, ◌++◌, map, append_assoc, slice_get, Option, Some, None, is_none, refl, sym, ap, ap₂, ◌∙◌, subst, eq-eqb, if◌then◌else◌}
use Rattle.std.specs.List.{list_all}
use Rattle.fc_abiding.specs.Abiding.{is_strange, rest_code}
use Rattle.fc_abiding.specs.Responses.{telling}
use Rattle.fc_agreement.specs.CleanRound.{Smooth}
use Rattle.fc_querying.proofs.Answering.{goes}
use Rattle.fc_element.specs.ElementMachine.{Turn, all_get, id_of, is_associated, is_ce, is_own, step, taking, turn}
use Rattle.fc_element.specs.ElementState.{ElementState}
use Rattle.fc_element.specs.declared.input.ElIn.TheVariants as el_in
use Rattle.fc_exec.specs.declared.operations.Operation.{Operation}
use Rattle.fc_hearing.proofs.Responded.{answers_heard}
use Rattle.fc_machine.specs.Trace.{Fact}
use Rattle.fc_msg.specs.Messages.{message_fits}
use Rattle.fc_msg.specs.declared.message.Message.{Message}
use Rattle.fc_msg.specs.declared.message.MsgBody.TheVariants.{Config, SetupResponse}
use Rattle.fc_path.specs.Results.{results_fit}
use Rattle.fc_path.specs.declared.oper.Select.{Select}
use Rattle.fc_performing.specs.declared.out.Out.{Out}
use Rattle.fc_protocol.proofs.Basics.{put_other}
use Rattle.fc_protocol.proofs.Puts.{put_here}
use Rattle.fc_protocol.specs.Collections.{put}
use Rattle.fc_protocol.specs.ElementMachine.{Circumstance, Heard, hears}
use Rattle.fc_protocol.specs.ElementMachine as protocol
use Rattle.fc_protocol.specs.MasterMachine.{at_once, finish, heard}
use Rattle.fc_protocol.specs.Messages as said
use Rattle.fc_protocol.specs.Messages.{Body, Sent, Stamp, is_query}
use Rattle.fc_protocol.specs.WorldSteps.{World, delivered, happens, murmurs, numbered, says, spoken, to_master}
use Rattle.fc_protocol.specs.WorldSteps as network
use Rattle.fc_reply.specs.Replies.{reply}
use Rattle.fc_transactions.specs.Order.{asked_of, configured}
use Rattle.fc_types.specs.Libraries.{is_own as is_new}
use Rattle.fc_world.specs.Lookups.{controller_in, element_in, life_of, parcel_in, ruling_in}
use Rattle.fc_world.specs.Settings.{IsNetwork}
use Rattle.fc_world.specs.Worlds.{Ruling, Standing, WorldState, downward}
use Rattle.fc_world.specs.WorldSteps.{calls, delivers, granted, running_in, taken_by, takes, with_running, with_spoke, with_turn}
use Rattle.fc_world.specs.WorldSteps as world
use Rattle.fc_world.specs.declared.nodes.Node.{Node}
use Rattle.fc_world.specs.declared.sent.Parcel.{Parcel}
use Rattle.fc_world.specs.declared.sent.Parcel.TheVariants.{Upward, Downward}
use Rattle.fc_world.specs.declared.setting.Setting.{Setting}
use Rattle.fc_rounds.specs.Following.{AsksConfig, AsksSo, Follows, GoesDownAs, IsController, IsElement, IsRequest, IsSent, core_in}
use Rattle.fc_rounds.specs.Networks.{ce_of}
use Rattle.fc_rounds.proofs.Elements.{Delivered, Turned, as_chosen, config_delivered, heard_so, lasting, other_turned, query_delivered, taken_turned}
use Rattle.fc_rounds.proofs.Happens.{controller_follows, element_follows}
use Rattle.fc_rounds.proofs.Masters.{SpeaksAs, hears_as}
use Rattle.fc_rounds.proofs.Nodes.{Found}
use Rattle.fc_rounds.proofs.Pairs.{BothOrNone, pair_at}
use Rattle.fc_rounds.proofs.Steps.{ce_is, facts_are, it, life, master_is, ruled, sender_is, takes_is, to_master_is}
use Rattle.fc_rounds.proofs.Spelling.{IsAnswered}

-- a network element, with what has happened, and a world of the protocol that it follows
pub record Seen (s : Setting) : Type 0 where
  pub w : WorldState
  pub fs : List (Fact Operation)
  pub a : World
  pub follows : Follows s w fs a

-- an element hears a Config, its scope is of instances that are there, and its operations succeed
pub record TakesWell (e : ElementState) (m : Message) (selects : List Select) : Type 0 where
  pub answered : IsAnswered m selects
  pub control : is_ce m.source ≡ true
  pub associated : is_associated e m ≡ true
  pub known : is_strange e.transactions.ledger (asked_of m selects) ≡ false
  pub succeeds : rest_code e.transactions.ledger selects (asked_of m selects) ≡ 0

-- the message of this number goes to an element that takes it so
pub record GoesDownWell (w : WorldState) (a : World) (i f : ℕ) (m : Message) : Type 0 where
  pub element : ElementState
  pub selects : List Select
  pub there : element_in f w.nodes ≡ Some element
  pub well : TakesWell element m selects
  pub stamp : Stamp
  pub body : Body
  pub sent : Sent
  pub numbers : numbered a.sent i ≡ Some sent
  pub asks : sent.message ≡ said.Request stamp body
  pub config : is_query body ≡ false

abbrev pub GoesWell : WorldState → World → ℕ → Parcel → Type 0
GoesWell w a i (Upward f c m) = ⊤
GoesWell w a i (Downward c f m) = GoesDownWell w a i f m

abbrev pub IsThere : WorldState → Parcel → Type 0
IsThere w (Upward f c m) = ⊤
IsThere w (Downward c f m) = (e : ElementState) × (element_in f w.nodes ≡ Some e)

-- ---- a circumstance in which all goes well
abbrev pub well : Circumstance
well = record { unheard = false; misfit = 0; quiet = false; rest = 0; shown = 0; plain = 0; touches = []; strange = false; shape = 0; others = [] }

well_smooth : Smooth well
well_smooth = record { heard = refl; fits = refl; answers = refl; known = refl; succeeds = refl }

-- ---- an element takes a Config
pub last_of : (a b c d f : Bool) (none one other last : Turn) → a ≡ true → b ≡ true → c ≡ true → d ≡ true → f ≡ false → (if a then (if b then (if not c then none else (if not d then one else (if f then other else last))) else none) else none) ≡ last
last_of false b c d f none one other last ea eb ec ed ef = absurd cc
last_of true false c d f none one other last ea eb ec ed ef = absurd cc
last_of true true false d f none one other last ea eb ec ed ef = absurd cc
last_of true true true false f none one other last ea eb ec ed ef = absurd cc
last_of true true true true true none one other last ea eb ec ed ef = absurd cc
last_of true true true true false none one other last ea eb ec ed ef = refl

never : {A : Type 0} (b : Bool) → b ≡ true → b ≡ false → A
never true e f = absurd cc
never false e f = absurd cc

module _ (s : Setting) (own : list_all is_new s.library ≡ true) (fs : List (Fact Operation)) (el : protocol.ElementState) (n : Node) (is : IsElement s fs el n) (k : ℕ) (m : Message) (st : Stamp) (b : Body) (request : IsRequest s k n.id m st b) where
  -- what is delivered there, in a circumstance that is smooth where it is taken well
  record Got : Type 0 where
    got : Delivered s fs el n k m st b
    smooth : (selects : List Select) → TakesWell n.element m selects → is_query b ≡ false → Smooth got.c

  same_selects : (asks : AsksConfig m st b) (selects : List Select) → IsAnswered m selects → selects ≡ asks.asks.selects
  same_selects asks selects answered = let same : Config selects ≡ Config asks.asks.selects = sym answered.config ∙ asks.asks.config in cc

  own_dest : is_own n.element m ≡ true
  own_dest = eq-eqb m.dest (id_of n.element) (request.dest ∙ sym (lasting s own fs el n is).own)

  config_got : AsksConfig m st b → Got
  config_got asks = by (is_ce m.source) (is_associated n.element m) (results_fit asks.asks.selects && message_fits m) refl refl refl
    where
      by : (x y z : Bool) → is_ce m.source ≡ x → is_associated n.element m ≡ y → (results_fit asks.asks.selects && message_fits m) ≡ z → Got
      by false y z control there fits = record { got = config_delivered s own fs el n is k m st b request asks; smooth = λ selects t q. never (is_ce m.source) t.control control }
      by true false z control there fits = record { got = config_delivered s own fs el n is k m st b request asks; smooth = λ selects t q. never (is_associated n.element m) t.associated there }
      by true true false control there fits = record {
        got = config_delivered s own fs el n is k m st b request asks;
        smooth = λ selects t q. never (results_fit asks.asks.selects && message_fits m) (subst (λ ss. (results_fit ss && message_fits m) ≡ true) (same_selects asks selects t.answered) t.answered.fits) fits;
      }
      by true true true control there fits =
          let now = n.element.transactions in
          let ss = asks.asks.selects in
          let (codes, answers) = goes now el.kept k m ss (lasting s own fs el n is).named is.kept in
          let told = answers_heard now el.kept k m ss codes asks.answerable is.heard answers in
          let c : Circumstance = record (telling now.ledger m ss (asked_of m ss) codes) { others = map (λ (o : Out). o.peer) told.notices } in
          let t = taking n.element k m (configured now k m ss) in
          let thus : step n.element (el_in.Arrived k m) ≡ t =
          as_chosen n.element k m ss asks.asks.config own_dest asks.mode
          ∙ last_of (is_ce m.source) (is_associated n.element m) (results_fit ss && message_fits m) (is_own n.element m) (m.flags.em == 0) (turn n.element []) (all_get n.element k m ss 4) (all_get n.element k m ss 18) t control there fits own_dest (ap (λ v. v == 0) asks.mode) in record {
            got = record {
              c = c;
              turned = subst (λ (u : Turn). let g = hears n.id el (ce_of s k) c st b in Turned s fs n u g.element g.facts (spoken n.id k g.says ++ murmurs n.id c.others)) (sym thus)
                  (subst (λ (g : Heard). Turned s fs n t g.element g.facts (spoken n.id k g.says ++ murmurs n.id c.others)) (sym (heard_so s own fs el n is k m st b request asks control codes answers told))
                  (taken_turned s own fs el n is k m st b request asks control codes answers told));
            };
            smooth = λ selects x q.
                let same = same_selects asks selects x.answered in record {
                  heard = refl;
                  fits = refl;
                  answers = subst (λ us. is_none (reply m us codes) ≡ false) same (x.answered.loud codes);
                  known = subst (λ us. is_strange now.ledger (asked_of m us) ≡ false) same x.known;
                  succeeds = subst (λ us. rest_code now.ledger us (asked_of m us) ≡ 0) same x.succeeds;
                };
          }

  request_got : Got
  request_got = by (is_query b) refl request.asks
    where
      by : (q : Bool) → is_query b ≡ q → AsksSo q m st b → Got
      by false e asks = config_got asks
      by true e asks = record { got = query_delivered s own fs el n is k m st b request e asks; smooth = λ selects t q. never (is_query b) e q }

-- ---- one delivery
pub record StepOf (s : Setting) (v : Seen s) (place i : ℕ) (o : Option Parcel) : Type 0 where
  pub becomes : World
  pub follows : Follows s (delivers place o v.w) (world.facts_of o v.w ++ v.fs) becomes
  pub none : o ≡ None → becomes ≡ v.a
  pub thus : (q : Parcel) → o ≡ Some q → IsThere v.w q → (c : Circumstance) × (becomes ≡ happens v.a (network.Deliver i c)) × (GoesWell v.w v.a i q → Smooth c)

module _ (s : Setting) (is : IsNetwork s) (v : Seen s) where
  abbrev w : WorldState
  w = v.w

  abbrev fs : List (Fact Operation)
  fs = v.fs

  abbrev a : World
  a = v.a

  abbrev follows : Follows s w fs a
  follows = v.follows

  no_parcel : (q : Parcel) → None ≡ Some q → ⊥
  no_parcel q e = cc

  some_parcel : (q : Parcel) → Some q ≡ None → ⊥
  some_parcel q e = cc

  -- ---- a request
  module _ (f : ℕ) (e : ElementState) (at : element_in f w.nodes ≡ Some e) (k j : ℕ) (m : Message) (st : Stamp) (b : Body) (t : Sent) (numbers : numbered a.sent j ≡ Some t) (to : t.element ≡ f) (from : t.controller ≡ k) (asks : t.message ≡ said.Request st b) where
    abbrev here : Found (λ (n : Node). IsElement s fs (a.at n.id) n) f e
    here = it s is w fs a follows f e at

    abbrev n : Node
    n = here.node

    request_follows : (got : Delivered s fs (a.at n.id) n k m st b) → Follows s (takes f (el_in.Arrived k m) w) (world.facts_by (element_in f w.nodes) (el_in.Arrived k m) ++ fs) (happens a (network.Deliver j got.c))
    request_follows got =
        let i = el_in.Arrived k m in
        let c = got.c in
        let h = hears n.id (a.at n.id) (ce_of s k) c st b in
        let ts = spoken n.id k h.says ++ murmurs n.id c.others in
        let u : World = record { network = a.network; at = put a.at n.id h.element; masters = a.masters; sent = (a.sent ++ spoken n.id k h.says) ++ murmurs n.id c.others; used = a.used; facts = h.facts ++ a.facts; begun = a.begun } in
        let thus : happens a (network.Deliver j c) ≡ u =
        ap (λ o. network.delivers a c o) numbers
        ∙ ap (λ x. delivered a c t.element t.controller x) asks
        ∙ ap₂ (λ p q. delivered a c p q (said.Request st b)) (to ∙ sym here.id) from
        ∙ ap (λ x. says (network.to_element a n.id k (hears n.id (a.at n.id) x c st b)) (murmurs n.id c.others)) (sender_is s is w fs a follows k) in
        subst (λ x. Follows s (takes f i w) (world.facts_by (element_in f w.nodes) i ++ fs) x) (sym thus)
        (subst (λ x. Follows s x (world.facts_by (element_in f w.nodes) i ++ fs) u) (sym (takes_is s is w fs a follows f e at i))
        (subst (λ gs. Follows s (with_turn f (step n.element i) w) (gs ++ fs) u) (sym (facts_are s is w fs a follows f e at i))
        (element_follows s w fs a is follows f n here.id (step n.element i) h.element h.facts ts got.turned (put a.at n.id h.element)
        (ap (put a.at n.id h.element) (sym here.id) ∙ put_here a.at n.id h.element) (λ q away. put_other a.at n.id h.element q (λ same. away (same ∙ here.id)))
        ((a.sent ++ spoken n.id k h.says) ++ murmurs n.id c.others) (append_assoc a.sent (spoken n.id k h.says) (murmurs n.id c.others)) (h.facts ++ a.facts) refl)))

    same_body : (g : GoesDownWell w a j f m) → is_query b ≡ false
    same_body g =
        let one : Some t ≡ Some g.sent = sym numbers ∙ g.numbers in
        let two : t ≡ g.sent = cc in
        let three : said.Request st b ≡ said.Request g.stamp g.body = sym asks ∙ ap (λ (x : Sent). x.message) two ∙ g.asks in
        let four : b ≡ g.body = cc in
        ap is_query four ∙ g.config

    same_element : (g : GoesDownWell w a j f m) → g.element ≡ n.element
    same_element g = let one : Some g.element ≡ Some e = sym g.there ∙ at in let two : g.element ≡ e = cc in two ∙ sym here.element

    request_step : (place : ℕ) → IsRequest s k f m st b → StepOf s v place j (Some (Downward k f m))
    request_step place goes =
        let got = request_got s is.own fs (a.at n.id) n here.holds k m st b (subst (λ i. IsRequest s k i m st b) (sym here.id) goes) in record {
          becomes = happens a (network.Deliver j got.got.c);
          follows = request_follows got.got;
          none = λ none. absurd (some_parcel (Downward k f m) none);
          thus = λ q one there. (
            got.got.c,
            refl,
            λ goes_well. let same : Downward k f m ≡ q = cc in
                let g : GoesDownWell w a j f m = subst (GoesWell w a j) (sym same) goes_well in
                got.smooth g.selects (subst (λ x. TakesWell x m g.selects) (same_element g) g.well) (same_body g),
          );
        }

  -- ---- the answer to a wish for an association
  module _ (f : ℕ) (e : ElementState) (at : element_in f w.nodes ≡ Some e) (k j : ℕ) (m : Message) (t : Sent) (numbers : numbered a.sent j ≡ Some t) where
    wish_step : (place result : ℕ) → m.body ≡ SetupResponse result → t.message ≡ said.Other_down → StepOf s v place j (Some (Downward k f m))
    wish_step place result response other =
        let here = it s is w fs a follows f e at in
        let n = here.node in
        let i = el_in.Arrived k m in
        let turned = other_turned s fs (a.at n.id) n k m here.holds result response in
        let thus : happens a (network.Deliver j well) ≡ says a [] = ap (λ o. network.delivers a well o) numbers ∙ ap (λ y. delivered a well t.element t.controller y) other in record {
          becomes = happens a (network.Deliver j well);
          follows = subst (λ x. Follows s (takes f i w) (world.facts_by (element_in f w.nodes) i ++ fs) x) (sym thus)
              (subst (λ x. Follows s x (world.facts_by (element_in f w.nodes) i ++ fs) (says a [])) (sym (takes_is s is w fs a follows f e at i))
              (subst (λ gs. Follows s (with_turn f (step n.element i) w) (gs ++ fs) (says a [])) (sym (facts_are s is w fs a follows f e at i))
              (element_follows s w fs a is follows f n here.id (step n.element i) (a.at n.id) [] [] turned a.at (ap a.at (sym here.id)) (λ q away. refl) (a.sent ++ []) refl a.facts refl)));
          none = λ none. absurd (some_parcel (Downward k f m) none);
          thus = λ q one there. (well, refl, λ _. well_smooth);
        }

  -- ---- a message to an element
  down_step : (place j f c : ℕ) (m : Message) (t : Sent) → numbered a.sent j ≡ Some t → IsSent s (Downward c f m) t → StepOf s v place j (Some (Downward c f m))
  down_step place j f c m t numbers same = by (element_in f w.nodes) refl
    where
      kinds : (e : ElementState) (at : element_in f w.nodes ≡ Some e) (x : said.Message) → t.message ≡ x → GoesDownAs s c f m x → StepOf s v place j (Some (Downward c f m))
      kinds e at (said.Request st b) thus goes = request_step f e at c j m st b t numbers same.0 same.1 thus place goes
      kinds e at said.Other_down thus goes = wish_step f e at c j m t numbers place goes.0 goes.1 thus
      kinds e at said.Setup thus goes = absurd goes
      kinds e at said.Beat thus goes = absurd goes
      kinds e at (said.Reply st code) thus goes = absurd goes
      kinds e at (said.Holds st x ns) thus goes = absurd goes
      kinds e at (said.Tells st x y u) thus goes = absurd goes
      kinds e at (said.Unread st x) thus goes = absurd goes
      kinds e at said.Other_up thus goes = absurd goes

      by : (o : Option ElementState) → element_in f w.nodes ≡ o → StepOf s v place j (Some (Downward c f m))
      by None none = record {
        becomes = a;
        follows = subst (λ x. Follows s x (world.facts_by (element_in f w.nodes) (el_in.Arrived c m) ++ fs) a) (sym (ap (λ o. taken_by o f (el_in.Arrived c m) w) none))
            (subst (λ gs. Follows s w (gs ++ fs) a) (sym (ap (λ o. world.facts_by o (el_in.Arrived c m)) none)) follows);
        none = λ none. absurd (some_parcel (Downward c f m) none);
        thus = λ q one there.
            let same : Downward c f m ≡ q = cc in
            let is_there : IsThere w (Downward c f m) = subst (IsThere w) (sym same) there in
            let two : None ≡ Some is_there.0 = sym none ∙ is_there.1 in
            absurd cc;
      }
      by (Some e) at = kinds e at t.message refl same.2

  -- ---- a message to a control element
  hear_step : (place j f c : ℕ) (m : Message) (t : Sent) → numbered a.sent j ≡ Some t → IsSent s (Upward f c m) t → StepOf s v place j (Some (Upward f c m))
  hear_step place j f c m t numbers same = record {
    becomes = happens a (network.Deliver j well);
    follows = by (ruling_in c w.controllers) refl;
    none = λ none. absurd (some_parcel (Upward f c m) none);
    thus = λ q one there. (well, refl, λ _. well_smooth);
  }
    where
      thus : happens a (network.Deliver j well) ≡ to_master a f c t.message (a.masters c)
      thus = ap (λ o. network.delivers a well o) numbers ∙ ap₂ (λ p q. delivered a well p q t.message) same.0 same.1 ∙ to_master_is s is w fs a follows c f t.message well same.2.1

      still : (o : Option Standing) → controller_in c w.controllers ≡ o → life_of o ≡ None → IsController o (a.masters c) (a.used c) → a.masters c ≡ None
      still None at none control = control
      still (Some old) at none control = control.0 ∙ ap core_in none

      by : (o : Option Ruling) → ruling_in c w.controllers ≡ o → Follows s (calls place c (λ r. granted (world.hears c f m r)) o w) fs (happens a (network.Deliver j well))
      by None at = subst (Follows s w fs) (sym (thus ∙ ap (to_master a f c t.message) (still (controller_in c w.controllers) refl at (follows.controllers c)))) follows
      by (Some r) rules =
          let (old, at, runs) = ruled s is w fs a follows c r rules in
          let n = finish c (heard r.core f t.message) in
          let first = at_once c r.core f t.message in
          let spoke = world.hears c f m r in
          let speaks : SpeaksAs s c old.ce spoke n.master (first ++ n.says) = hears_as s c old.ce r (ce_is s is w fs a follows c old at) (life s is w fs a follows c old at r runs) f m t.message same.2 in
          let u : World = record { network = a.network; at = a.at; masters = put a.masters c (Some n.master); sent = a.sent ++ first ++ n.says; used = a.used; facts = a.facts; begun = a.begun } in
          let control : IsController (Some old) (a.masters c) (a.used c) = subst (λ o. IsController o (a.masters c) (a.used c)) at (follows.controllers c) in
          subst (λ y. Follows s (with_spoke c spoke w) fs y) (sym (thus ∙ ap (to_master a f c t.message) (master_is s is w fs a follows c old at r runs)))
          (subst (λ y. Follows s y fs u)
          (ap (λ ss. record { nodes = w.nodes; controllers = ss; sent = w.sent ++ downward c spoke.outs; refused = w.refused }) (sym (ap (λ o. running_in o c (Some spoke.ruling) w.controllers) at)))
          (controller_follows s w fs a follows c old (with_running (Some spoke.ruling) old) at refl (downward c spoke.outs) (first ++ n.says) speaks.sent (Some n.master) a.used (sym (ap (λ y. Some y) speaks.core)) control.1 (λ q away. refl) speaks.life
          (a.sent ++ first ++ n.says) (append_assoc a.sent first n.says) a.begun))

  -- ---- any message
  pub stepped : (place i : ℕ) → StepOf s v place i (parcel_in i w.sent)
  stepped place zero = record { becomes = a; follows = follows; none = λ none. refl; thus = λ q e there. absurd (no_parcel q e) }
  stepped place (suc j) = by (slice_get w.sent j) (slice_get a.sent j) refl (pair_at (IsSent s) j w.sent a.sent follows.sent)
    where
      by : (o : Option Parcel) (u : Option Sent) → slice_get a.sent j ≡ u → BothOrNone (IsSent s) o u → StepOf s v place (suc j) o
      by None u numbers same = record { becomes = a; follows = follows; none = λ none. refl; thus = λ q e there. absurd (no_parcel q e) }
      by (Some p) None numbers same = absurd same
      by (Some (Upward f c m)) (Some t) numbers same = hear_step place (suc j) f c m t numbers same
      by (Some (Downward c f m)) (Some t) numbers same = down_step place (suc j) f c m t numbers same
