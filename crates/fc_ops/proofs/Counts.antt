-- A query has a content for each of its leaves.
use Rattle.std.proofs.Common.{◌≡◌, ℕ, suc, ◌+◌, List, [], ◌∷◌, ◌++◌, length, map, refl, sym, ap, ◌∙◌, subst, rules, length-append}
use Rattle.std.proofs.lemmas.List.{length-map}
use Rattle.std.specs.List.{flat_map}
use Rattle.fc_path.proofs.Flattening.{nested_leaves}
use Rattle.fc_path.specs.Leaves.{Given, leaf, own_steps, body_leaves, path_leaves, oper_leaves, select_leaves}
use Rattle.fc_path.specs.declared.oper.Oper.{Oper}
use Rattle.fc_path.specs.declared.oper.Oper.TheVariants as oper
use Rattle.fc_path.specs.declared.oper.OperKind.{OperKind}
use Rattle.fc_path.specs.declared.oper.Select.{Select}
use Rattle.fc_path.specs.declared.oper.Step.{Step}
use Rattle.fc_path.specs.declared.path.PathData.{PathData, roll-PathData}
use Rattle.fc_path.specs.declared.path.Body.{Body, roll-Body, map-Body, the_lemmas}
use Rattle.fc_path.specs.declared.path.Body.TheOpen.{Body-F, PathData-F}
use Rattle.fc_path.specs.declared.path.Body.TheFolds.{ind-PathData}
use Rattle.fc_path.specs.declared.path.Body.TheVariants as v
use Rattle.fc_store.specs.Stores.{Stored}
use Rattle.fc_wire.specs.declared.ilvs.Ilv.{Ilv}
use Rattle.fc_ops.specs.Asking.{Asked, Told, content_of, contents_of, question, questions}
use Rattle.fc_ops.specs.Filling.{counted, leaves_in, leaves_of, leaves_in_all, leaves_under, leaves_in_select, leaves_in_selects}
use Rattle.fc_ops.specs.declared.asking.Prop.{Prop}

-- as many leaves as are counted, whatever stands in front
abbrev BodyCounts : Body → Type 0
BodyCounts b = (k : OperKind) (c i : ℕ) (steps : List Step) → length (body_leaves k c i b steps) ≡ leaves_of b

abbrev PathCounts : PathData → Type 0
PathCounts p = (k : OperKind) (c i : ℕ) (steps : List Step) → length (path_leaves k c i p steps) ≡ leaves_in p

abbrev AllCount : List PathData → Type 0
AllCount [] = Unit {0}
AllCount (p ∷ ps) = PathCounts p × AllCount ps

-- one layer
path_leaves_is : (k : OperKind) (c i : ℕ) (p : PathData) → path_leaves k c i p ≡ (λ steps. body_leaves k c i p.body (steps ++ own_steps p.ids p.key))
path_leaves_is k c i p = search (rules, the_lemmas)

path_count_is : (p : PathData) → leaves_in p ≡ leaves_of p.body
path_count_is p = search (rules, the_lemmas)

nested_count : (ps : List PathData) → leaves_of (v.Nested ps) ≡ leaves_in_all ps
nested_count ps = search (rules, the_lemmas)

nothing_count : leaves_of v.Nothing ≡ 1
nothing_count = search (rules, the_lemmas)

full_count : (x : List ℕ) → leaves_of (v.Full x) ≡ 1
full_count x = search (rules, the_lemmas)

sparse_count : (ilvs : List Ilv) → leaves_of (v.Sparse ilvs) ≡ 1
sparse_count ilvs = search (rules, the_lemmas)

outcome_count : (code : ℕ) → leaves_of (v.Outcome code) ≡ 1
outcome_count code = search (rules, the_lemmas)

nothing_leaf : (k : OperKind) (c i : ℕ) → body_leaves k c i v.Nothing ≡ (λ steps. leaf k c i steps v.Nothing)
nothing_leaf k c i = search (rules, the_lemmas)

full_leaf : (k : OperKind) (c i : ℕ) (x : List ℕ) → body_leaves k c i (v.Full x) ≡ (λ steps. leaf k c i steps (v.Full x))
full_leaf k c i x = search (rules, the_lemmas)

sparse_leaf : (k : OperKind) (c i : ℕ) (ilvs : List Ilv) → body_leaves k c i (v.Sparse ilvs) ≡ (λ steps. leaf k c i steps (v.Sparse ilvs))
sparse_leaf k c i ilvs = search (rules, the_lemmas)

outcome_leaf : (k : OperKind) (c i code : ℕ) → body_leaves k c i (v.Outcome code) ≡ (λ steps. leaf k c i steps (v.Outcome code))
outcome_leaf k c i code = search (rules, the_lemmas)

leaf_counts : (b : Body) → leaves_of b ≡ 1 → ((k : OperKind) (c i : ℕ) → body_leaves k c i b ≡ (λ steps. leaf k c i steps b)) → BodyCounts b
leaf_counts b n is k c i steps = ap (λ (g : Given). length (g steps)) (is k c i) ∙ sym n

path_counts : (p : PathData) → BodyCounts p.body → PathCounts p
path_counts p inner k c i steps = ap (λ (g : Given). length (g steps)) (path_leaves_is k c i p) ∙ inner k c i (steps ++ own_steps p.ids p.key) ∙ sym (path_count_is p)

-- several
all_leaves : (ps : List PathData) → AllCount ps → (k : OperKind) (c i : ℕ) (steps : List Step) → length (flat_map (λ p. path_leaves k c i p steps) ps) ≡ leaves_in_all ps
all_leaves [] h k c i steps = refl
all_leaves (p ∷ ps) h k c i steps =
    length-append (path_leaves k c i p steps) (flat_map (λ p. path_leaves k c i p steps) ps) ∙ ap (λ n. n + length (flat_map (λ p. path_leaves k c i p steps) ps)) (h.0 k c i steps)
    ∙ ap (λ n. leaves_in p + n) (all_leaves ps h.1 k c i steps)

nested_counts : (ps : List PathData) → AllCount ps → BodyCounts (v.Nested ps)
nested_counts ps h k c i steps = ap (λ (l : List _). length l) (nested_leaves k c i ps steps) ∙ all_leaves ps h k c i steps ∙ sym (nested_count ps)

abbrev ABody : Type 0
ABody = (b : Body) × BodyCounts b

abbrev APath : Type 0
APath = (p : PathData) × PathCounts p

list_counts : (ps : List APath) → AllCount (map (λ x. x.0) ps)
list_counts [] = tt
list_counts (p ∷ ps) = (p.1, list_counts ps)

layer_counts : (y : Body-F ABody APath) → BodyCounts (roll-Body (map-Body ABody APath Body PathData (λ e. e.0) (λ e. e.0) y))
layer_counts Body-F.Nothing = subst BodyCounts (sym v.rolls-Nothing) (leaf_counts v.Nothing nothing_count nothing_leaf)
layer_counts (Body-F.Full x) = subst BodyCounts (sym (v.rolls-Full x)) (leaf_counts (v.Full x) (full_count x) (λ k c i. full_leaf k c i x))
layer_counts (Body-F.Sparse ilvs) = subst BodyCounts (sym (v.rolls-Sparse ilvs)) (leaf_counts (v.Sparse ilvs) (sparse_count ilvs) (λ k c i. sparse_leaf k c i ilvs))
layer_counts (Body-F.Outcome code) = subst BodyCounts (sym (v.rolls-Outcome code)) (leaf_counts (v.Outcome code) (outcome_count code) (λ k c i. outcome_leaf k c i code))
layer_counts (Body-F.Nested ps) = subst BodyCounts (sym (v.rolls-Nested (map (λ (x : APath). x.0) ps))) (nested_counts (map (λ (x : APath). x.0) ps) (list_counts ps))

every_counts : (p : PathData) → PathCounts p
every_counts = ind-PathData BodyCounts PathCounts
    (λ x y is. subst (λ l. BodyCounts (roll-Body l)) is (layer_counts y))
    (λ x y is. path_counts (roll-PathData x) (subst BodyCounts (ap (λ (z : PathData-F Body PathData). z.body) is) y.body.1))

all_count : (ps : List PathData) → AllCount ps
all_count [] = tt
all_count (p ∷ ps) = (every_counts p, all_count ps)

-- operations and selects
oper_counts : (c i : ℕ) (o : Oper) → length (oper_leaves c i o) ≡ leaves_under o
oper_counts c i (oper.Paths k ps) = all_leaves ps (all_count ps) k c i []
oper_counts c i oper.Commit = refl
oper_counts c i oper.Trcomp = refl
oper_counts c i (oper.CommitResponse code) = refl

-- the members of lists, one after the other
flat_counts : {A B : Type 0} (f : A → List B) (n : A → ℕ) → ((x : A) → length (f x) ≡ n x) → (xs : List A) → length (flat_map f xs) ≡ counted (map n xs)
flat_counts f n is [] = refl
flat_counts f n is (x ∷ xs) =
    length-append (f x) (flat_map f xs) ∙ ap (λ m. m + length (flat_map f xs)) (is x) ∙ ap (λ m. n x + m) (flat_counts f n is xs)

select_counts : (s : Select) → length (map question (select_leaves s)) ≡ leaves_in_select s
select_counts s = length-map (select_leaves s) question ∙ flat_counts (oper_leaves s.class s.instance) leaves_under (oper_counts s.class s.instance) s.opers

contents_count : (told : Told) (s : Stored) (props : List Prop) (qs : List Asked) → length (contents_of told s props qs) ≡ length qs
contents_count told s props [] = refl
contents_count told s props (q ∷ qs) = ap (λ n. suc n) (contents_count told s (content_of told s props q).1 qs)

pub query_counts : (told : Told) (s : Stored) (props : List Prop) (selects : List Select) → length (contents_of told s props (questions selects)) ≡ leaves_in_selects selects
query_counts told s props selects =
    contents_count told s props (questions selects) ∙ flat_counts (λ s. map question (select_leaves s)) leaves_in_select select_counts selects
