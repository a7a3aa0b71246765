-- A world after one step more, and a world that begins.
use Rattle.std.proofs.Common.{◌≡◌, ◌<◌, ◌+◌, ℕ, List, [], ◌∷◌, ◌++◌, get_or, length, map, take, sym, ap, ◌∙◌, subst}
use Rattle.std.specs.List.{AllByRecursion}
use Rattle.std.proofs.lemmas.List.{map_more}
use Rattle.fc_base.specs.Ids.{IsCe}
use Rattle.fc_documents.specs.declared.transaction.PlanTxn.{PlanTxn}
use Rattle.fc_scripts.specs.Kept.{IsScript}
use Rattle.fc_scripts.specs.Scripts.{Scripted}
use Rattle.fc_steps.specs.declared.step.Step.{Step}
use Rattle.fc_wellformed.specs.WellFormed.{TxnHolds}
use Rattle.fc_world.specs.Played.{setting_of, world_after}
use Rattle.fc_world.specs.Settings.{IsClearSetting, IsNetwork, IsPlanned, node_id}
use Rattle.fc_world.specs.Stages.{AreCounted, IsClear, IsProperParcel, IsSound, all_parcels, placed_refusal, standing_of, state_of}
use Rattle.fc_world.specs.Worlds.{WorldState, first_controller, first_node, first_world}
use Rattle.fc_world.specs.WorldSteps.{happens}
use Rattle.fc_world.specs.declared.nodes.Node.{Node}
use Rattle.fc_world.specs.declared.setting.Setting.{Setting}
use Rattle.fc_world.specs.declared.stage.Stage.{Stage}
use Rattle.fc_world.proofs.Clearing.{first_controllers_clear}
use Rattle.fc_world.proofs.Running.{distinct_are_apart, run_more}
use Rattle.fc_world.proofs.Staging.{world_is}

pub played_more : (s : Setting) (done more : List (ℕ × Step)) (x : ℕ × Step) (old new : WorldState) → old ≡ world_after s done → new ≡ happens s.transactions old x → more ≡ done ++ x ∷ [] → new ≡ world_after s more
played_more s done more x old new e is grown =
    is ∙ ap (λ w. happens s.transactions w x) e ∙ sym (run_more s.transactions (first_world s) done x) ∙ ap (world_after s) (sym grown)

pub played_same : (s : Setting) (done same : List (ℕ × Step)) (old new : WorldState) → old ≡ world_after s done → new ≡ old → same ≡ done → new ≡ world_after s same
played_same s done same old new e is kept = is ∙ e ∙ ap (world_after s) (sym kept)

-- what a script keeps, the world relies on
pub is_network : (s : Scripted) (t : Setting) → t ≡ setting_of s → IsScript s → AllByRecursion IsCe s.controllers → AllByRecursion IsPlanned s.transactions → IsNetwork t
is_network s t e kept controls planned =
    subst IsNetwork (sym e) (record { own = kept.own; known = kept.known; apart = distinct_are_apart (map node_id s.elements) kept.apart; controls = controls; planned = planned })

all_clear : (ts : List PlanTxn) → AllByRecursion IsPlanned ts → AllByRecursion TxnHolds ts
all_clear [] all = tt
all_clear (t ∷ ts) all = (all.0.holds, all_clear ts all.1)

pub is_clear : (s : Setting) → IsNetwork s → IsClearSetting s
is_clear s is = all_clear s.transactions is.planned

-- ---- before the first step
pub first_sound : (s : Stage) (ids : List ℕ) → s.sent.items ≡ [] → map standing_of s.controllers.items ≡ map first_controller ids → IsSound s
first_sound s ids sent controllers = record {
  counted = subst (AreCounted 0) (sym sent) tt;
  proper = subst (λ l. AllByRecursion IsProperParcel (all_parcels l)) (sym sent) tt;
  clear = subst (AllByRecursion IsClear) (sym controllers) (first_controllers_clear ids);
}

pub first_state : (s : Setting) (g : Stage) → g.nodes.items ≡ map (first_node s) s.elements → map standing_of g.controllers.items ≡ map first_controller s.controllers → g.sent.items ≡ [] → g.refused.items ≡ []
    → state_of g ≡ world_after s []
first_state s g nodes controllers sent refused =
    world_is (state_of g) (map (first_node s) s.elements) (map first_controller s.controllers) [] [] nodes controllers (ap all_parcels sent) (ap (map placed_refusal) refused)

-- one element more
pub nodes_more : (s : Setting) (es : List (ℕ × ℕ)) (i : ℕ) (e : ℕ × ℕ) (old new : List Node) (n : Node) → i < length es → e ≡ get_or es i e → old ≡ map (first_node s) (take i es) → new ≡ old ++ n ∷ []
    → n ≡ first_node s e → new ≡ map (first_node s) (take (i + 1) es)
nodes_more s es i e old new n below at sofar grown is =
    grown ∙ ap (λ l. l ++ n ∷ []) sofar ∙ ap (λ x. map (first_node s) (take i es) ++ x ∷ []) (is ∙ ap (first_node s) at) ∙ sym (map_more (first_node s) es i e below)
