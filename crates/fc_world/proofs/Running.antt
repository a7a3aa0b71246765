-- What stays over the steps of a world, and that steps are made one after the other.
use Rattle.std.proofs.Common.{◌≡◌, ℕ, Bool, true, false, not, ◌&&◌, ◌||◌, if◌then◌else◌, List, [], ◌∷◌, ◌++◌, map, nat_eq, Option, Some, None, refl, ap, ◌∙◌}
use Rattle.std.specs.List.{list_any}
use Rattle.fc_documents.specs.Parts.{begun}
use Rattle.fc_documents.specs.declared.transaction.PlanTxn.{PlanTxn}
use Rattle.fc_element.specs.ElementMachine.{step}
use Rattle.fc_element.specs.ElementState.{ElementState, restarted}
use Rattle.fc_element.specs.declared.input.ElIn.{ElIn}
use Rattle.fc_element.specs.declared.input.ElIn.TheVariants as el_in
use Rattle.fc_jobs.specs.Sending.{are_apart}
use Rattle.fc_path.specs.declared.oper.Select.{Select}
use Rattle.fc_protocol.specs.Collections.{among}
use Rattle.fc_protocol.specs.MasterMachine.{Refusal}
use Rattle.fc_steps.specs.declared.step.Step.{Step}
use Rattle.fc_steps.specs.declared.step.Step.TheVariants as made
use Rattle.fc_types.specs.Ids.{is_distinct}
use Rattle.fc_world.specs.Lookups.{controller_in, element_in, ids_of, is_node, node_with, parcel_in, plain_in, ruling_in, transaction_in, with_element}
use Rattle.fc_world.specs.Played.{AreMade, world_after}
use Rattle.fc_world.specs.Settings.{node_id}
use Rattle.fc_world.specs.Stages.{HasRound}
use Rattle.fc_world.specs.Worlds.{Ruling, Standing, WorldState, first_node, first_world}
use Rattle.fc_world.specs.WorldSteps.{Called, Spoke, begins_by, begins_in, called_by, calls, changes_at, changes_by, delivers, forgets_in, gives_up_in, granted, fault_of, happens, hears, resends_in, restarted_by, run, started_by, taken_by}
use Rattle.fc_world.specs.declared.nodes.Node.{Node}
use Rattle.fc_world.specs.declared.sent.Parcel.{Parcel}
use Rattle.fc_world.specs.declared.sent.Parcel.TheVariants as parcel
use Rattle.fc_world.specs.declared.setting.Setting.{Setting}

-- one step more
pub run_more : (ts : List PlanTxn) (w : WorldState) (xs : List (ℕ × Step)) (x : ℕ × Step) → run ts w (xs ++ x ∷ []) ≡ happens ts (run ts w xs) x
run_more ts w [] x = refl
run_more ts w (y ∷ xs) x = run_more ts (happens ts w y) xs x

-- it could be made, as all before it
pub made_more : (ts : List PlanTxn) (w : WorldState) (xs : List (ℕ × Step)) (x : ℕ × Step) → AreMade ts w xs → fault_of ts (run ts w xs) x.1 ≡ None → HasRound x.1 → AreMade ts w (xs ++ x ∷ [])
made_more ts w [] x made can round = (can, round, tt)
made_more ts w (y ∷ ys) x made can round = (made.0, made.1, made_more ts (happens ts w y) ys x made.2 can round)

-- ---- the IDs of the elements stay
ids_with_by : (b : Bool) (e : ElementState) (n : Node) (ns ms : List Node) → ids_of ms ≡ ids_of ns → ids_of (if b then node_with e n ∷ ns else n ∷ ms) ≡ n.id ∷ ids_of ns
ids_with_by true e n ns ms same = refl
ids_with_by false e n ns ms same = ap (λ l. n.id ∷ l) same

ids_with : (f : ℕ) (e : ElementState) (ns : List Node) → ids_of (with_element f e ns) ≡ ids_of ns
ids_with f e [] = refl
ids_with f e (n ∷ ns) = ids_with_by (is_node f n) e n ns (with_element f e ns) (ids_with f e ns)

ids_taken : (o : Option ElementState) (f : ℕ) (i : ElIn) (w : WorldState) → ids_of (taken_by o f i w).nodes ≡ ids_of w.nodes
ids_taken None f i w = refl
ids_taken (Some e) f i w = ids_with f (step e i).state w.nodes

ids_restarted : (o : Option ElementState) (f : ℕ) (w : WorldState) → ids_of (restarted_by o f w).nodes ≡ ids_of w.nodes
ids_restarted None f w = refl
ids_restarted (Some e) f w = ids_with f (restarted e) w.nodes

ids_called_by : (place c : ℕ) (r : Option Refusal) (s : Spoke) (w : WorldState) → ids_of (called_by place c r s w).nodes ≡ ids_of w.nodes
ids_called_by place c None s w = refl
ids_called_by place c (Some r) s w = refl

ids_called : (place c : ℕ) (f : Ruling → Called) (r : Option Ruling) (w : WorldState) → ids_of (calls place c f r w).nodes ≡ ids_of w.nodes
ids_called place c f None w = refl
ids_called place c f (Some r) w = ids_called_by place c (f r).refusal (f r).spoke w

ids_started : (o : Option Standing) (c round : ℕ) (w : WorldState) → ids_of (started_by o c round w).nodes ≡ ids_of w.nodes
ids_started None c round w = refl
ids_started (Some s) c round w = refl

ids_delivered : (place : ℕ) (p : Option Parcel) (w : WorldState) → ids_of (delivers place p w).nodes ≡ ids_of w.nodes
ids_delivered place None w = refl
ids_delivered place (Some (parcel.Upward f c m)) w = ids_called place c (λ r. granted (hears c f m r)) (ruling_in c w.controllers) w
ids_delivered place (Some (parcel.Downward c f m)) w = ids_taken (element_in f w.nodes) f (el_in.Arrived c m) w

ids_begun : (place c : ℕ) (t : Option PlanTxn) (w : WorldState) → ids_of (begins_by place c t w).nodes ≡ ids_of w.nodes
ids_begun place c None w = refl
ids_begun place c (Some t) w = ids_called place c (begins_in c (begun t)) (ruling_in c w.controllers) w

ids_changed : (place c : ℕ) (p : Option (ℕ × List Select)) (w : WorldState) → ids_of (changes_by place c p w).nodes ≡ ids_of w.nodes
ids_changed place c None w = refl
ids_changed place c (Some p) w = ids_called place c (changes_at c p.0 p.1) (ruling_in c w.controllers) w

ids_stay_at : (ts : List PlanTxn) (w : WorldState) (place : ℕ) (s : Step) → ids_of (happens ts w (place, s)).nodes ≡ ids_of w.nodes
ids_stay_at ts w place (made.Open f c) = ids_taken (element_in f w.nodes) f (el_in.Opened c) w
ids_stay_at ts w place (made.Deliver i) = ids_delivered place (parcel_in i w.sent) w
ids_stay_at ts w place (made.Moment f t) = ids_taken (element_in f w.nodes) f (el_in.Moment t) w
ids_stay_at ts w place (made.Start c r) = ids_started (controller_in c w.controllers) c r w
ids_stay_at ts w place (made.Stop c) = refl
ids_stay_at ts w place (made.Begin c n) = ids_begun place c (transaction_in n ts) w
ids_stay_at ts w place (made.Plain c n) = ids_changed place c (plain_in n ts) w
ids_stay_at ts w place (made.GiveUp c x) = ids_called place c (gives_up_in c x) (ruling_in c w.controllers) w
ids_stay_at ts w place (made.Resend c f) = ids_called place c (λ r. granted (resends_in c f r)) (ruling_in c w.controllers) w
ids_stay_at ts w place (made.Forget c) = ids_called place c (forgets_in c) (ruling_in c w.controllers) w
ids_stay_at ts w place (made.Restart f) = ids_restarted (element_in f w.nodes) f w

pub ids_stay : (ts : List PlanTxn) (w : WorldState) (xs : List (ℕ × Step)) → ids_of (run ts w xs).nodes ≡ ids_of w.nodes
ids_stay ts w [] = refl
ids_stay ts w (x ∷ xs) = ids_stay ts (happens ts w x) xs ∙ ids_stay_at ts w x.0 x.1

first_ids : (s : Setting) (es : List (ℕ × ℕ)) → ids_of (map (first_node s) es) ≡ map node_id es
first_ids s [] = refl
first_ids s (e ∷ es) = ap (λ l. e.0 ∷ l) (first_ids s es)

-- no two elements are the same, whatever was done
pub apart_stays : (s : Setting) (done : List (ℕ × Step)) (w : WorldState) → w ≡ world_after s done → are_apart (map node_id s.elements) ≡ true → are_apart (ids_of w.nodes) ≡ true
apart_stays s done w e apart = ap (λ (x : WorldState). are_apart (ids_of x.nodes)) e ∙ ap are_apart (ids_stay s.transactions (first_world s) done ∙ first_ids s s.elements) ∙ apart

-- ---- no element is listed twice
same_among : (p : ℕ) (ps : List ℕ) → among p ps ≡ list_any (nat_eq p) ps
same_among p [] = refl
same_among p (q ∷ qs) = ap (λ b. nat_eq p q || b) (same_among p qs)

same_apart : (ps : List ℕ) → are_apart ps ≡ is_distinct nat_eq ps
same_apart [] = refl
same_apart (p ∷ ps) = ap (λ b. not b && are_apart ps) (same_among p ps) ∙ ap (λ b. not (list_any (nat_eq p) ps) && b) (same_apart ps)

pub distinct_are_apart : (ps : List ℕ) → is_distinct nat_eq ps ≡ true → are_apart ps ≡ true
distinct_are_apart ps e = same_apart ps ∙ e
