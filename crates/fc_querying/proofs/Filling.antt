-- What a question of two components is answered with: the question with the two contents in it.
use Rattle.std.proofs.Common.{◌≡◌, ℕ, Bool, true, List, [], ◌∷◌, ◌++◌, map, Option, None, ap, ap₂, ◌∙◌, arith}
use Rattle.std.specs.List.{flat_map}
use Rattle.fc_abiding.proofs.Reading.{full_leaf, nothing_leaf, outcome_leaf, path_leaves_is, sparse_leaf}
use Rattle.fc_blocks.specs.Queries.{Telling, props_of, told_selects}
use Rattle.fc_events.specs.declared.subscriptions.Subscription.{Subscription}
use Rattle.fc_ops.specs.Answering.{answered, kept, response_fits}
use Rattle.fc_ops.specs.Asking.{Asked, contents_of, in_full, question, questions, seen_now, value_content}
use Rattle.fc_ops.specs.Choosing.{small}
use Rattle.fc_ops.specs.Filling.{Filled, content_body, each_filled, path_filled, path_with, selects_filled}
use Rattle.fc_ops.specs.declared.offers.Content.{Content}
use Rattle.fc_ops.specs.declared.offers.Content.TheVariants as content
use Rattle.fc_path.specs.Canon.{joined, key_written, select_written}
use Rattle.fc_path.specs.Leaves.{Given, body_leaves, key_steps, leaf, path_leaves, select_leaves}
use Rattle.fc_path.specs.declared.oper.Leaf.{Leaf}
use Rattle.fc_path.specs.declared.oper.Oper.TheVariants as oper
use Rattle.fc_path.specs.declared.oper.OperKind.{OperKind}
use Rattle.fc_path.specs.declared.oper.OperKind.TheVariants as kinds
use Rattle.fc_path.specs.declared.oper.Select.{Select}
use Rattle.fc_path.specs.declared.oper.Spot.{Spot}
use Rattle.fc_path.specs.declared.oper.Step.{Step}
use Rattle.fc_path.specs.declared.oper.Step.TheVariants as step
use Rattle.fc_path.specs.declared.path.Body.{Body}
use Rattle.fc_path.specs.declared.path.Body.TheVariants as body
use Rattle.fc_path.specs.declared.path.Key.{Key}
use Rattle.fc_path.specs.declared.path.PathData.{PathData}
use Rattle.fc_plans.specs.Components as components
use Rattle.fc_plans.specs.Mastership.{on_mastership, path}
use Rattle.fc_reply.proofs.Filled.{leaf_filled, nothing_filled, path_filled_is}
use Rattle.fc_store.specs.Stores.{Stored}
use Rattle.fc_querying.specs.Asking.{gets}
use Rattle.fc_querying.proofs.Sizes.{Few, FewIn, answers, refused_few, response_small}

-- a question for component 1 and for another, or for what a key leads to in it
abbrev pub asks : ℕ → Option Key → List PathData
asks id key = path (components.epoch ∷ []) None body.Nothing ∷ path (id ∷ []) key body.Nothing ∷ []

-- its answer with these contents
abbrev pub answer : ℕ → Option Key → Content → Content → List Select
answer id key c d = on_mastership (answers id key (content_body c) (content_body d) ∷ []) ∷ []

-- where they lead
abbrev pub spot : List Step → Spot
spot steps = record { class = components.mastership; instance = 1; steps = steps }

abbrev pub epoch_spot : Spot
epoch_spot = spot (step.Id components.epoch ∷ [])

abbrev pub other_spot : ℕ → Option Key → Spot
other_spot id key = spot (step.Id id ∷ key_steps key)

-- ---- the question with contents in it

one_filled : (ids : List ℕ) (key : Option Key) → path_filled (path ids key body.Nothing) ≡ (λ cs. path_with ids key (leaf_filled cs))
one_filled ids key = path_filled_is (path ids key body.Nothing) ∙ ap (λ (f : Filled Body). λ cs. path_with ids key (f cs)) nothing_filled

pub filled_is : (id : ℕ) (key : Option Key) (c d : Content) → (selects_filled (gets (asks id key)) (c ∷ d ∷ [])).0 ≡ answer id key c d
filled_is id key c d =
    ap₂ (λ (f g : Filled PathData). on_mastership (oper.Paths kinds.GetResponse (each_filled (f ∷ g ∷ []) (c ∷ d ∷ [])).0 ∷ []) ∷ [])
    (one_filled (components.epoch ∷ []) None) (one_filled (id ∷ []) key)

-- ---- what it asks for, and what its answer says

-- the leaves of two PATH-DATA whose bodies are leaves
two_leaves : (k : OperKind) (id : ℕ) (key : Option Key) (b c : Body) → body_leaves k components.mastership 1 b ≡ (λ steps. leaf k components.mastership 1 steps b)
    → body_leaves k components.mastership 1 c ≡ (λ steps. leaf k components.mastership 1 steps c)
    → select_leaves (on_mastership (oper.Paths k (path (components.epoch ∷ []) None b ∷ path (id ∷ []) key c ∷ []) ∷ []))
    ≡ record { kind = k; spot = epoch_spot; body = b } ∷ record { kind = k; spot = other_spot id key; body = c } ∷ []
two_leaves k id key b c e f =
    let one : path_leaves k components.mastership 1 (path (components.epoch ∷ []) None b) ≡ (λ steps. leaf k components.mastership 1 (steps ++ step.Id components.epoch ∷ []) b) =
    path_leaves_is k components.mastership 1 (path (components.epoch ∷ []) None b) ∙ ap (λ (g : Given). λ steps. g (steps ++ step.Id components.epoch ∷ [])) e in
    let two : path_leaves k components.mastership 1 (path (id ∷ []) key c) ≡ (λ steps. leaf k components.mastership 1 (steps ++ step.Id id ∷ key_steps key) c) =
    path_leaves_is k components.mastership 1 (path (id ∷ []) key c) ∙ ap (λ (g : Given). λ steps. g (steps ++ step.Id id ∷ key_steps key)) f in
    ap₂ (λ (g h : Given). ((g [] ++ (h [] ++ [])) ++ [])) one two

pub questions_are : (id : ℕ) (key : Option Key) → questions (gets (asks id key)) ≡ (kinds.Get, epoch_spot) ∷ (kinds.Get, other_spot id key) ∷ []
questions_are id key =
    ap (λ (ls : List Leaf). map question ls ++ []) (two_leaves kinds.Get id key body.Nothing body.Nothing (nothing_leaf kinds.Get components.mastership 1) (nothing_leaf kinds.Get components.mastership 1))

content_leaf : (c : Content) → body_leaves kinds.GetResponse components.mastership 1 (content_body c) ≡ (λ steps. leaf kinds.GetResponse components.mastership 1 steps (content_body c))
content_leaf (content.Full value) = full_leaf kinds.GetResponse components.mastership 1 value
content_leaf (content.Sparse ilvs) = sparse_leaf kinds.GetResponse components.mastership 1 ilvs
content_leaf (content.Refused code) = outcome_leaf kinds.GetResponse components.mastership 1 code

-- what an answer says of a spot
abbrev pub says : Spot → Content → Leaf
says s c = record { kind = kinds.GetResponse; spot = s; body = content_body c }

pub leaves_are : (id : ℕ) (key : Option Key) (c d : Content) → flat_map select_leaves (answer id key c d) ≡ says epoch_spot c ∷ says (other_spot id key) d ∷ []
leaves_are id key c d = ap (λ (ls : List Leaf). ls ++ []) (two_leaves kinds.GetResponse id key (content_body c) (content_body d) (content_leaf c) (content_leaf d))

-- ---- contents that fit are those of the answer

both_kept : (fits : List Content → Bool) (c d : Content) → fits (c ∷ content.Refused 0 ∷ []) ≡ true → fits (c ∷ d ∷ []) ≡ true → answered fits (c ∷ d ∷ []) ≡ c ∷ d ∷ []
both_kept fits c d h k =
    let first : kept (fits (c ∷ content.Refused 0 ∷ [])) c ≡ c = ap (λ b. kept b c) h in
    ap (λ (x : Content). x ∷ kept (fits (x ∷ d ∷ [])) d ∷ []) first ∙ ap (λ (b : Bool). c ∷ kept b d ∷ []) k

fits_both : (id : ℕ) (key : Option Key) (c d : Content) → Few 33 (key_written key) → FewIn 19 c → FewIn 40000 d → response_fits (gets (asks id key)) (c ∷ d ∷ []) ≡ true
fits_both id key c d h first second =
    ap (λ (ss : List Select). small (joined (map select_written ss)) 262116) (filled_is id key c d) ∙ response_small id key (content_body c) (content_body d) h first second

pub answer_is : (told : Telling) (store : Stored) (subs : List Subscription) (id : ℕ) (key : Option Key) (c d : Content)
    → value_content (in_full (seen_now told epoch_spot store)) ≡ c → value_content (in_full (seen_now told (other_spot id key) store)) ≡ d
    → Few 33 (key_written key) → FewIn 19 c → FewIn 40000 d → told_selects told store subs (gets (asks id key)) ≡ answer id key c d
answer_is told store subs id key c d e f h first second =
    ap (λ (qs : List Asked). (selects_filled (gets (asks id key)) (answered (response_fits (gets (asks id key))) (contents_of told store (props_of told store subs qs) qs))).0) (questions_are id key)
    ∙ ap₂ (λ (x y : Content). (selects_filled (gets (asks id key)) (answered (response_fits (gets (asks id key))) (x ∷ y ∷ []))).0) e f
    ∙ ap (λ (cs : List Content). (selects_filled (gets (asks id key)) cs).0)
    (both_kept (response_fits (gets (asks id key))) c d (fits_both id key c (content.Refused 0) h first (let z = refused_few 0 in (z.0, omega (arith, z.1)))) (fits_both id key c d h first second))
    ∙ filled_is id key c d
