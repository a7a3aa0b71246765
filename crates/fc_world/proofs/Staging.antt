-- What an input, a call and a start make of the state of a world, by what they make of its parts.
use Rattle.std.proofs.Common.{◌≡◌, ◌≢◌, ℕ, Bool, true, false, if◌then◌else◌, List, [], ◌∷◌, ◌++◌, append-nil, map, Option, Some, None, unwrap_or, option_map, refl, sym, ap, subst, ◌∙◌}
use Rattle.fc_element.specs.ElementMachine.{step}
use Rattle.fc_element.specs.ElementState.{ElementState}
use Rattle.fc_element.specs.declared.input.ElIn.{ElIn}
use Rattle.fc_performing.specs.declared.out.Out.{Out}
use Rattle.fc_protocol.specs.MasterMachine.{Refusal, Spent}
use Rattle.fc_world.specs.Answering as answering
use Rattle.fc_world.specs.Answering.{AnswersAmong, AnswersIn, AnswersLife}
use Rattle.fc_world.specs.Lookups.{controller_in, element_in, ids_of, is_controller, life_of, ruling_in, with_controller, with_element}
use Rattle.fc_world.specs.Stages.{Refuses, Tells, call_of, placed_refusal, refusal_in, refusals_of, refused_in, told}
use Rattle.fc_world.specs.Turns as turns
use Rattle.fc_world.specs.Turns.{outs_in, outs_of, restarted_in, turned_in}
use Rattle.fc_world.specs.Worlds.{Ruling, Standing, WorldState, downward, upward}
use Rattle.fc_world.specs.WorldSteps.{Called, called_by, calls, running_in, refusal_by, restarted_by, restarts, started, started_by, stopped, taken_by, takes, with_running, with_ruling}
use Rattle.fc_world.specs.declared.faults.Refused.{Refused}
use Rattle.fc_world.specs.declared.lives.Answer.{Answer}
use Rattle.fc_world.specs.declared.lives.Answer.TheVariants as answer
use Rattle.fc_world.specs.declared.lives.Request.{Request}
use Rattle.fc_world.specs.declared.nodes.Node.{Node}
use Rattle.fc_world.specs.declared.sent.Parcel.{Parcel}
use Rattle.fc_world.proofs.Batches.{downs, ups}

abbrev pub world : List Node → List Standing → List Parcel → List (ℕ × Refusal) → WorldState
world ns cs ps rs = record { nodes = ns; controllers = cs; sent = ps; refused = rs }

pub world_is : (w : WorldState) (ns : List Node) (cs : List Standing) (ps : List Parcel) (rs : List (ℕ × Refusal)) → w.nodes ≡ ns → w.controllers ≡ cs → w.sent ≡ ps → w.refused ≡ rs → w ≡ world ns cs ps rs
world_is w ns cs ps rs a b c d =
    ap (λ l. world l w.controllers w.sent w.refused) a ∙ ap (λ l. world ns l w.sent w.refused) b ∙ ap (λ l. world ns cs l w.refused) c ∙ ap (λ l. world ns cs ps l) d

-- ---- elements
took_by : (f : ℕ) (i : ElIn) (o : Option ElementState) (old new : WorldState) (os : Option (List Out)) → os ≡ option_map (outs_of i) o → new.nodes ≡ turns.turned_by o f i old.nodes
    → new.controllers ≡ old.controllers → new.sent ≡ old.sent ++ ups f os → new.refused ≡ old.refused → new ≡ taken_by o f i old
took_by f i None old new os e nodes controllers sent refused =
    world_is new old.nodes old.controllers old.sent old.refused nodes controllers (sent ∙ ap (λ x. old.sent ++ ups f x) e ∙ append-nil old.sent) refused
took_by f i (Some x) old new os e nodes controllers sent refused =
    world_is new (with_element f (step x i).state old.nodes) old.controllers (old.sent ++ upward f (step x i).outs) old.refused nodes controllers (sent ∙ ap (λ y. old.sent ++ ups f y) e) refused

pub took : (f : ℕ) (i : ElIn) (old new : WorldState) (os : Option (List Out)) → os ≡ outs_in f i old.nodes → new.nodes ≡ turned_in f i old.nodes
    → new.controllers ≡ old.controllers → new.sent ≡ old.sent ++ ups f os → new.refused ≡ old.refused → new ≡ takes f i old
took f i old new os e nodes controllers sent refused = took_by f i (element_in f old.nodes) old new os e nodes controllers sent refused

restarted_is_by : (f : ℕ) (o : Option ElementState) (w : WorldState) → world (turns.restarted_by o f w.nodes) w.controllers w.sent w.refused ≡ restarted_by o f w
restarted_is_by f None w = refl
restarted_is_by f (Some e) w = refl

pub restarted_is : (f : ℕ) (ns : List Node) (w : WorldState) → ns ≡ restarted_in f w.nodes → world ns w.controllers w.sent w.refused ≡ restarts f w
restarted_is f ns w e = ap (λ l. world l w.controllers w.sent w.refused) e ∙ restarted_is_by f (element_in f w.nodes) w

-- ---- control elements
same_by : (b : Bool) (s t : Standing) (ss us : List Standing) (o : Option Standing) → (o ≡ Some t → us ≡ ss) → (if b then Some s else o) ≡ Some t → (if b then t ∷ ss else s ∷ us) ≡ s ∷ ss
same_by true s t ss us o more e = ap (λ x. x ∷ ss) (let f : t ≡ s = cc in f)
same_by false s t ss us o more e = ap (λ l. s ∷ l) (more e)

-- the control element of a number in place of itself
with_same : (c : ℕ) (t : Standing) (ss : List Standing) → controller_in c ss ≡ Some t → with_controller c t ss ≡ ss
with_same c t [] e = refl
with_same c t (s ∷ ss) e = same_by (is_controller c s) s t ss (with_controller c t ss) (controller_in c ss) (with_same c t ss) e

running_same : (c : ℕ) (s : Standing) (r : Option Ruling) (ss : List Standing) → controller_in c ss ≡ Some s → r ≡ s.running → with_controller c (with_running r s) ss ≡ ss
running_same c s r ss e f = ap (λ x. with_controller c (with_running x s) ss) f ∙ with_same c s ss e

-- what is kept of a refused call
abbrev pub refs : ℕ → Option Answer → List (ℕ × Refusal)
refs place a = map placed_refusal (refusals_of place a)

told_is : (r : Refused) (o : Option Refusal) → told r ≡ o → o ≢ None → Some (refusal_in r) ≡ o
told_is r None e h = absurd (h refl)
told_is r (Some x) e h = ap (λ y. Some (unwrap_or y Spent)) e

called_life : (c place : ℕ) (q : Request) (s : Standing) (r : Option Ruling) (a : Option Answer) (n : Option Ruling) (w new : WorldState)
    → s.running ≡ r → controller_in c w.controllers ≡ Some s → AnswersLife c q r a n → new.nodes ≡ w.nodes → new.controllers ≡ with_controller c (with_running n s) w.controllers
    → new.sent ≡ w.sent ++ downs c a → new.refused ≡ w.refused ++ refs place a → new ≡ calls place c (call_of c q) r w
called_life c place q s None None n w new is at h nodes controllers sent refused =
    world_is new w.nodes w.controllers w.sent w.refused nodes (controllers ∙ running_same c s n w.controllers at (h ∙ sym is)) (sent ∙ append-nil w.sent) (refused ∙ append-nil w.refused)
called_life c place q s None (Some a) n w new is at h nodes controllers sent refused = absurd h
called_life c place q s (Some r) None n w new is at h nodes controllers sent refused = absurd h
called_life c place q s (Some r) (Some a) None w new is at h nodes controllers sent refused = absurd h
called_life c place q s (Some r) (Some (answer.Spoke os)) (Some n) w new is at h nodes controllers sent refused =
    let called : Called = call_of c q r in
    let ruled : with_ruling c (Some called.spoke.ruling) w.controllers ≡ with_controller c (with_running (Some called.spoke.ruling) s) w.controllers = ap (λ o. running_in o c (Some called.spoke.ruling) w.controllers) at in
    world_is new w.nodes (with_ruling c (Some called.spoke.ruling) w.controllers) (w.sent ++ downward c called.spoke.outs) w.refused nodes
    (controllers ∙ ap (λ x. with_controller c (with_running (Some x) s) w.controllers) h.2 ∙ sym ruled) (sent ∙ ap (λ l. w.sent ++ downward c l) h.1) (refused ∙ append-nil w.refused)
    ∙ sym (ap (λ o. called_by place c o called.spoke w) h.0)
called_life c place q s (Some r) (Some (answer.Refused x)) (Some n) w new is at h nodes controllers sent refused =
    let called : Called = call_of c q r in
    world_is new w.nodes w.controllers w.sent (w.refused ++ (place, refusal_in x) ∷ []) nodes (controllers ∙ running_same c s (Some n) w.controllers at (ap Some h.3 ∙ sym is)) (sent ∙ append-nil w.sent) refused
    ∙ ap (λ o. called_by place c o called.spoke w) (told_is x (told x) refl h.1 ∙ sym h.0)

called_among : (c place : ℕ) (q : Request) (o : Option Standing) (a : Option Answer) (w new : WorldState) → controller_in c w.controllers ≡ o → AnswersAmong c q o w.controllers a new.controllers
    → new.nodes ≡ w.nodes → new.sent ≡ w.sent ++ downs c a → new.refused ≡ w.refused ++ refs place a → new ≡ calls place c (call_of c q) (life_of o) w
called_among c place q None None w new at h nodes sent refused = world_is new w.nodes w.controllers w.sent w.refused nodes h (sent ∙ append-nil w.sent) (refused ∙ append-nil w.refused)
called_among c place q None (Some a) w new at h nodes sent refused = absurd h
called_among c place q (Some s) a w new at h nodes sent refused = called_life c place q s s.running a h.0 w new refl at h.1 nodes h.2 sent refused

-- a call of a control element
pub called : (c place : ℕ) (q : Request) (a : Option Answer) (w new : WorldState) → AnswersIn c q w.controllers a new.controllers
    → new.nodes ≡ w.nodes → new.sent ≡ w.sent ++ downs c a → new.refused ≡ w.refused ++ refs place a → new ≡ calls place c (call_of c q) (ruling_in c w.controllers) w
called c place q a w new h nodes sent refused = called_among c place q (controller_in c w.controllers) a w new refl h nodes sent refused

refused_life : (c : ℕ) (q : Request) (r : Option Ruling) (a : Option Answer) (n : Option Ruling) → AnswersLife c q r a n → Tells (Refuses q) (refused_in a) (refusal_by (call_of c q) r)
refused_life c q None None n h = refl
refused_life c q None (Some a) n h = absurd h
refused_life c q (Some r) None n h = absurd h
refused_life c q (Some r) (Some a) None h = absurd h
refused_life c q (Some r) (Some (answer.Spoke os)) (Some n) h = h.0
refused_life c q (Some r) (Some (answer.Refused x)) (Some n) h = (h.0, h.1, h.2)

refused_among : (c : ℕ) (q : Request) (o : Option Standing) (old : List Standing) (a : Option Answer) (new : List Standing) → AnswersAmong c q o old a new → Tells (Refuses q) (refused_in a) (refusal_by (call_of c q) (life_of o))
refused_among c q None old None new h = refl
refused_among c q None old (Some a) new h = absurd h
refused_among c q (Some s) old a new h = refused_life c q s.running a h.0 h.1

-- why it is refused
pub refused_by : (c : ℕ) (q : Request) (old : List Standing) (a : Option Answer) (new : List Standing) (r : Option Refused) → r ≡ refused_in a → AnswersIn c q old a new → Tells (Refuses q) r (refusal_by (call_of c q) (ruling_in c old))
refused_by c q old a new r e h = subst (λ o. Tells (Refuses q) o (refusal_by (call_of c q) (ruling_in c old))) (sym e) (refused_among c q (controller_in c old) old a new h)

started_is_by : (c : ℕ) (ids : List ℕ) (round : ℕ) (o : Option Standing) (w : WorldState) → ids ≡ ids_of w.nodes → world w.nodes (answering.started_by o c ids round w.controllers) w.sent w.refused ≡ started_by o c round w
started_is_by c ids round None w e = refl
started_is_by c ids round (Some s) w e = ap (λ l. world w.nodes (with_controller c (started l round s) w.controllers) w.sent w.refused) e

-- a life that begins
pub started_is : (c : ℕ) (ids : List ℕ) (round : ℕ) (ss : List Standing) (w : WorldState) → ids ≡ ids_of w.nodes → ss ≡ answering.started_in c ids round w.controllers
    → world w.nodes ss w.sent w.refused ≡ started_by (controller_in c w.controllers) c round w
started_is c ids round ss w e f = ap (λ l. world w.nodes l w.sent w.refused) f ∙ started_is_by c ids round (controller_in c w.controllers) w e

pub stopped_is : (c : ℕ) (ss : List Standing) (w : WorldState) → ss ≡ with_ruling c None w.controllers → world w.nodes ss w.sent w.refused ≡ stopped c w
stopped_is c ss w e = ap (λ l. world w.nodes l w.sent w.refused) e
