-- Each step of a network element is a step of the protocol's network, or none.
use Rattle.std.proofs.Common.{◌≡◌, ℕ, ◌==◌, Bool, true, false, List, [], ◌∷◌, ◌++◌, Option, Some, refl, sym, ap, ap₂, ◌∙◌, subst, eqb-true, eq-eqb, arith}
use Rattle.fc_element.specs.ElementMachine.{Turn}
use Rattle.fc_exec.specs.declared.operations.Operation.{Operation}
use Rattle.fc_jobs.specs.Sending.{are_apart}
use Rattle.fc_machine.specs.Trace.{Fact, Of_protocol, Added_at, Plain_at, bare_facts}
use Rattle.fc_protocol.proofs.Basics.{put_other}
use Rattle.fc_protocol.proofs.Puts.{put_here}
use Rattle.fc_protocol.specs.Collections.{among, put}
use Rattle.fc_protocol.specs.ElementMachine as protocol
use Rattle.fc_protocol.specs.MasterMachine.{Master}
use Rattle.fc_protocol.specs.Messages.{Sent}
use Rattle.fc_protocol.specs.Trace as facts
use Rattle.fc_protocol.specs.WorldSteps.{Begun, World}
use Rattle.fc_store.specs.Stores.{Pairwise}
use Rattle.fc_world.specs.Lookups.{controller_in, ids_of, node_with, with_controller}
use Rattle.fc_world.specs.Settings.{IsNetwork}
use Rattle.fc_world.specs.Worlds.{Standing, WorldState, upward}
use Rattle.fc_world.specs.WorldSteps.{with_turn}
use Rattle.fc_world.specs.declared.nodes.Node.{Node}
use Rattle.fc_world.specs.declared.sent.Parcel.{Parcel}
use Rattle.fc_world.specs.declared.setting.Setting.{Setting}
use Rattle.fc_rounds.specs.Following.{Follows, IsController, IsElement, IsSent, RunsSo, core_in}
use Rattle.fc_rounds.proofs.Controllers.{ces_stay, here, there}
use Rattle.fc_rounds.proofs.Elements.{Turned}
use Rattle.fc_rounds.proofs.Facts.{AreAt, tell_same_still}
use Rattle.fc_rounds.proofs.Nodes.{all_with, same_ids}
use Rattle.fc_rounds.proofs.Pairs.{pairs_more}

bare_more : (fs gs : List (Fact Operation)) → bare_facts (fs ++ gs) ≡ bare_facts fs ++ bare_facts gs
bare_more [] gs = refl
bare_more (Of_protocol f ∷ fs) gs = ap (λ hs. f ∷ hs) (bare_more fs gs)
bare_more (Added_at p x ops ∷ fs) gs = bare_more fs gs
bare_more (Plain_at p ops ∷ fs) gs = bare_more fs gs

turned_test : (p q : ℕ) → (p == q) ≡ false → (q == p) ≡ false
turned_test p q away = grind (arith, away)

not_same : (p q : ℕ) → (p == q) ≡ false → q ≡ p → ⊥
not_same p q away same = let there : (p == q) ≡ true = eq-eqb p q (sym same) in absurd cc

-- ---- an element has taken an input
module _ (s : Setting) (w : WorldState) (fs : List (Fact Operation)) (a : World) (is : IsNetwork s) (follows : Follows s w fs a) (f : ℕ) (n : Node) (id : n.id ≡ f) (t : Turn) (el : protocol.ElementState) (gs : List facts.Fact) (ts : List Sent)
    (turned : Turned s fs n t el gs ts) (at : ℕ → protocol.ElementState) (at_here : at f ≡ el) (at_there : (q : ℕ) → (q ≡ f → ⊥) → at q ≡ a.at q) where
  abbrev after : WorldState
  after = with_turn f t w

  apart : are_apart (ids_of w.nodes) ≡ true
  apart = ap are_apart follows.ids ∙ is.apart

  changed : (m : Node) → m.id ≡ f → IsElement s fs (a.at m.id) m → IsElement s (t.facts ++ fs) (at m.id) (node_with t.state m)
  changed m same was =
      let ids : n.id ≡ m.id = id ∙ sym same in
      subst (λ i. IsElement s (t.facts ++ fs) (at m.id) (record { id = i; element = t.state })) ids
      (subst (λ e. IsElement s (t.facts ++ fs) e (node_with t.state n)) (sym (ap at same ∙ at_here)) turned.element)

  others : (m : Node) → (f == m.id) ≡ false → IsElement s fs (a.at m.id) m → IsElement s (t.facts ++ fs) (at m.id) m
  others m away was =
      let still : IsElement s (t.facts ++ fs) (a.at m.id) m = record {
        ce = was.ce;
        came = was.came;
        of_controls = was.of_controls;
        life = was.life;
        facts = tell_same_still m.id f (turned_test f m.id away) t.facts fs _ (subst (λ p. AreAt p t.facts) id turned.there) was.facts;
        like = was.like;
        kept = was.kept;
        heard = was.heard;
      } in
      subst (λ e. IsElement s (t.facts ++ fs) e m) (sym (at_there m.id (not_same f m.id away))) still

  pub element_follows : (sent' : List Sent) → sent' ≡ a.sent ++ ts → (facts' : List facts.Fact) → facts' ≡ gs ++ a.facts
      → Follows s after (t.facts ++ fs) (record { network = a.network; at = at; masters = a.masters; sent = sent'; used = a.used; facts = facts'; begun = a.begun })
  element_follows sent' sends facts' happen = record {
    network = follows.network;
    ids = same_ids f t.state w.nodes ∙ follows.ids;
    ces = follows.ces;
    elements = all_with (λ m. IsElement s fs (a.at m.id) m) (λ m. IsElement s (t.facts ++ fs) (at m.id) m) f t.state changed others w.nodes apart follows.elements;
    controllers = follows.controllers;
    sent = subst (λ us. Pairwise (IsSent s) (w.sent ++ upward f t.outs) us) (sym sends)
        (pairs_more (IsSent s) w.sent (upward f t.outs) a.sent ts follows.sent (subst (λ i. Pairwise (IsSent s) (upward i t.outs) ts) id turned.sent));
    facts = bare_more t.facts fs ∙ ap₂ (λ (xs ys : List facts.Fact). xs ++ ys) turned.facts follows.facts ∙ sym happen;
  }

-- ---- a control element has spoken, stopped or begun a life
module _ (s : Setting) (w : WorldState) (fs : List (Fact Operation)) (a : World) (follows : Follows s w fs a) (c : ℕ) (old new : Standing) (is : controller_in c w.controllers ≡ Some old) (same : new.ce ≡ old.ce)
    (outs : List Parcel) (ts : List Sent) (sends : Pairwise (IsSent s) outs ts) where
  abbrev then_world : WorldState
  then_world = record { nodes = w.nodes; controllers = with_controller c new w.controllers; sent = w.sent ++ outs; refused = w.refused }

  pub masters_follow : (masters : ℕ → Option Master) (used : ℕ → List ℕ) → masters c ≡ core_in new.running → ((j : ℕ) → (j ≡ c → ⊥) → masters j ≡ a.masters j) → ((r : ℕ) → among r (used c) ≡ among r new.used)
      → ((j : ℕ) → (j ≡ c → ⊥) → used j ≡ a.used j) → RunsSo new.ce new.running → (sent' : List Sent) → sent' ≡ a.sent ++ ts → (begun : List Begun)
      → Follows s then_world fs (record { network = a.network; at = a.at; masters = masters; sent = sent'; used = used; facts = a.facts; begun = begun })
  masters_follow masters used core others rounds elsewhere runs sent' thus begun = record {
    network = follows.network;
    ids = follows.ids;
    ces = ces_stay c old new same w.controllers is ∙ follows.ces;
    elements = follows.elements;
    controllers = λ j. by j (j == c) refl;
    sent = subst (λ us. Pairwise (IsSent s) (w.sent ++ outs) us) (sym thus) (pairs_more (IsSent s) w.sent outs a.sent ts follows.sent sends);
    facts = follows.facts;
  }
    where
      by : (j : ℕ) (b : Bool) → (j == c) ≡ b → IsController (controller_in j (with_controller c new w.controllers)) (masters j) (used j)
      by j true at =
          subst (λ i. IsController (controller_in i (with_controller c new w.controllers)) (masters i) (used i)) (sym (eqb-true j c at))
          (subst (λ o. IsController o (masters c) (used c)) (sym (here c old new same w.controllers is)) (core, rounds, runs))
      by j false at =
          let away : j ≡ c → ⊥ = not_same c j (turned_test j c at) in
          subst (λ o. IsController o (masters j) (used j)) (sym (there c old new same j at w.controllers is))
          (subst (λ v. IsController (controller_in j w.controllers) v (used j)) (sym (others j away))
          (subst (λ v. IsController (controller_in j w.controllers) (a.masters j) v) (sym (elsewhere j away)) (follows.controllers j)))

  pub controller_follows : (m : Option Master) (used : ℕ → List ℕ) → m ≡ core_in new.running → ((r : ℕ) → among r (used c) ≡ among r new.used) → ((j : ℕ) → (j ≡ c → ⊥) → used j ≡ a.used j) → RunsSo new.ce new.running
      → (sent' : List Sent) → sent' ≡ a.sent ++ ts → (begun : List Begun)
      → Follows s then_world fs (record { network = a.network; at = a.at; masters = put a.masters c m; sent = sent'; used = used; facts = a.facts; begun = begun })
  controller_follows m used core rounds elsewhere runs sent' thus begun =
      masters_follow (put a.masters c m) used (put_here a.masters c m ∙ core) (λ j away. put_other a.masters c m j away) rounds elsewhere runs sent' thus begun
