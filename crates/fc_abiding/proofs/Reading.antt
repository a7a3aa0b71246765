-- The codes that are read in a response are those that it was filled with, one after the other.
use Rattle.std.proofs.Common.{◌≡◌, ℕ, zero, suc, ◌+◌, Bool, true, false, cond, List, [], ◌∷◌, ◌++◌, length, map, Option, refl, sym, ap, ◌∙◌, subst, rules, arith, append_assoc, append-nil, length-append}
use Rattle.std.proofs.lemmas.Grind.{flat_map-append}
use Rattle.std.proofs.lemmas.List.{length-map}
use Rattle.std.specs.List.{flat_map}
use Rattle.fc_abiding.specs.Responses.{is_shown}
use Rattle.fc_asks.specs.Codes.{body_codes, oper_codes, path_codes, select_codes}
use Rattle.fc_exec.specs.Operations.{oper_operations, operations, select_operations}
use Rattle.fc_exec.specs.declared.operations.Operation.{Operation}
use Rattle.fc_exec.specs.declared.operations.Operation.TheVariants as operation
use Rattle.fc_machine.specs.Transactions.{shown_of}
use Rattle.fc_ops.specs.Filling.{path_filled, body_filled, paths_filled}
use Rattle.fc_ops.specs.declared.offers.Content.{Content}
use Rattle.fc_path.proofs.Flattening.{nested_leaves}
use Rattle.fc_path.specs.Leaves.{Given, leaf, own_steps, body_leaves, path_leaves, oper_leaves}
use Rattle.fc_path.specs.Results.{select_with}
use Rattle.fc_path.specs.declared.oper.Leaf.{Leaf}
use Rattle.fc_path.specs.declared.oper.Oper.{Oper}
use Rattle.fc_path.specs.declared.oper.Oper.TheVariants as oper
use Rattle.fc_path.specs.declared.oper.OperKind.{OperKind}
use Rattle.fc_path.specs.declared.oper.Select.{Select}
use Rattle.fc_path.specs.declared.oper.Step.{Step}
use Rattle.fc_path.specs.declared.path.Key.{Key}
use Rattle.fc_path.specs.declared.path.PathData.{PathData, roll-PathData}
use Rattle.fc_path.specs.declared.path.Body.{Body, roll-Body, map-Body, the_lemmas}
use Rattle.fc_path.specs.declared.path.Body.TheOpen.{Body-F, PathData-F}
use Rattle.fc_path.specs.declared.path.Body.TheFolds.{ind-PathData}
use Rattle.fc_path.specs.declared.path.Body.TheVariants as v
use Rattle.fc_reply.proofs.Filled.{full_filled, leaf_filled, nested_filled, nothing_filled, outcome_filled, path_filled_is, sparse_filled}
use Rattle.fc_reply.specs.Answered.{answered_selects, each_answered, oper_answered, opers_answered, results}
use Rattle.fc_wire.specs.declared.ilvs.Ilv.{Ilv}

-- ---- a list in two parts
record Split (n m : ℕ) (xs : List ℕ) : Type 0 where
  first : List ℕ
  second : List ℕ
  is : xs ≡ first ++ second
  long : length first ≡ n
  rest : length second ≡ m

split : (n m : ℕ) (xs : List ℕ) → length xs ≡ n + m → Split n m xs
split zero m xs e = record { first = []; second = xs; is = refl; long = refl; rest = omega (arith, e) }
split (suc n) m [] e = absurd (let k : 0 ≡ suc n + m = e in omega (arith, k))
split (suc n) m (x ∷ xs) e =
    let k : length xs ≡ n + m = (let l : suc (length xs) ≡ suc n + m = e in omega (arith, l)) in
    let s = split n m xs k in
    record { first = x ∷ s.first; second = s.second; is = ap (λ ys. x ∷ ys) s.is; long = ap suc s.long; rest = s.rest }

-- ---- what is read, and what is left
abbrev BodyReads : Body → Type 0
BodyReads b =
    (k : OperKind) (c i : ℕ) (steps : List Step) (front back : List ℕ) → length front ≡ length (body_leaves k c i b steps)
    → (body_codes (body_filled b (results (front ++ back))).0 ≡ front) × ((body_filled b (results (front ++ back))).1 ≡ results back)

abbrev PathReads : PathData → Type 0
PathReads p =
    (k : OperKind) (c i : ℕ) (steps : List Step) (front back : List ℕ) → length front ≡ length (path_leaves k c i p steps)
    → (path_codes (path_filled p (results (front ++ back))).0 ≡ front) × ((path_filled p (results (front ++ back))).1 ≡ results back)

abbrev AllRead : List PathData → Type 0
AllRead [] = Unit {0}
AllRead (p ∷ ps) = PathReads p × AllRead ps

pub path_leaves_is : (k : OperKind) (c i : ℕ) (p : PathData) → path_leaves k c i p ≡ (λ steps. body_leaves k c i p.body (steps ++ own_steps p.ids p.key))
path_leaves_is k c i p = search (rules, the_lemmas)

path_codes_is : (ids : List ℕ) (key : Option Key) (b : Body) → path_codes (roll-PathData (record { ids = ids; key = key; body = b })) ≡ body_codes b
path_codes_is ids key b = search (rules, the_lemmas)

outcome_codes : (code : ℕ) → body_codes (v.Outcome code) ≡ code ∷ []
outcome_codes code = search (rules, the_lemmas)

nested_codes : (ps : List PathData) → body_codes (v.Nested ps) ≡ flat_map (λ (cs : List ℕ). cs) (map path_codes ps)
nested_codes ps = search (rules, the_lemmas)

joined_codes : (ps : List PathData) → flat_map (λ (cs : List ℕ). cs) (map path_codes ps) ≡ flat_map path_codes ps
joined_codes [] = refl
joined_codes (p ∷ ps) = ap (λ cs. path_codes p ++ cs) (joined_codes ps)

pub nothing_leaf : (k : OperKind) (c i : ℕ) → body_leaves k c i v.Nothing ≡ (λ steps. leaf k c i steps v.Nothing)
nothing_leaf k c i = search (rules, the_lemmas)

pub full_leaf : (k : OperKind) (c i : ℕ) (x : List ℕ) → body_leaves k c i (v.Full x) ≡ (λ steps. leaf k c i steps (v.Full x))
full_leaf k c i x = search (rules, the_lemmas)

pub sparse_leaf : (k : OperKind) (c i : ℕ) (ilvs : List Ilv) → body_leaves k c i (v.Sparse ilvs) ≡ (λ steps. leaf k c i steps (v.Sparse ilvs))
sparse_leaf k c i ilvs = search (rules, the_lemmas)

pub outcome_leaf : (k : OperKind) (c i code : ℕ) → body_leaves k c i (v.Outcome code) ≡ (λ steps. leaf k c i steps (v.Outcome code))
outcome_leaf k c i code = search (rules, the_lemmas)

one_read : (front back : List ℕ) → length front ≡ 1 → (body_codes (leaf_filled (results (front ++ back))).0 ≡ front) × ((leaf_filled (results (front ++ back))).1 ≡ results back)
one_read [] back e = absurd (let k : 0 ≡ 1 = e in omega (arith, k))
one_read (x ∷ []) back e = (outcome_codes x, refl)
one_read (x ∷ y ∷ front) back e = absurd (let k : suc (suc (length front)) ≡ 1 = e in omega (arith, k))

leaf_reads : (b : Body) → body_filled b ≡ leaf_filled → ((k : OperKind) (c i : ℕ) → body_leaves k c i b ≡ (λ steps. leaf k c i steps b)) → BodyReads b
leaf_reads b is one k c i steps front back e =
    let n : length front ≡ 1 = e ∙ ap (λ (g : Given). length (g steps)) (one k c i) in
    subst (λ (f : List Content → Body × List Content). (body_codes (f (results (front ++ back))).0 ≡ front) × ((f (results (front ++ back))).1 ≡ results back)) (sym is) (one_read front back n)

path_reads : (p : PathData) → BodyReads p.body → PathReads p
path_reads p inner k c i steps front back e =
    let under = steps ++ own_steps p.ids p.key in
    let n : length front ≡ length (body_leaves k c i p.body under) = e ∙ ap (λ (g : Given). length (g steps)) (path_leaves_is k c i p) in
    let r = inner k c i under front back n in
    subst (λ (f : List Content → PathData × List Content). (path_codes (f (results (front ++ back))).0 ≡ front) × ((f (results (front ++ back))).1 ≡ results back)) (sym (path_filled_is p))
    (path_codes_is p.ids p.key (body_filled p.body (results (front ++ back))).0 ∙ r.0, r.1)

abbrev PathsRead : List PathData → List ℕ → List ℕ → Type 0
PathsRead ps front back = (flat_map path_codes (paths_filled ps (results (front ++ back))).0 ≡ front) × ((paths_filled ps (results (front ++ back))).1 ≡ results back)

paths_read : (ps : List PathData) → AllRead ps → (k : OperKind) (c i : ℕ) (steps : List Step) (front back : List ℕ) → length front ≡ length (flat_map (λ p. path_leaves k c i p steps) ps) → PathsRead ps front back
paths_read [] h k c i steps [] back e = (refl, refl)
paths_read [] h k c i steps (x ∷ front) back e = absurd (let n : suc (length front) ≡ 0 = e in omega (arith, n))
paths_read (p ∷ ps) h k c i steps front back e =
    let s = split (length (path_leaves k c i p steps)) (length (flat_map (λ p. path_leaves k c i p steps) ps)) front (e ∙ length-append (path_leaves k c i p steps) (flat_map (λ p. path_leaves k c i p steps) ps)) in
    let one = h.0 k c i steps s.first (s.second ++ back) s.long in
    let more = paths_read ps h.1 k c i steps s.second back s.rest in
    let all : results (front ++ back) ≡ results (s.first ++ (s.second ++ back)) = ap results (ap (λ xs. xs ++ back) s.is ∙ append_assoc s.first s.second back) in
    let left : (path_filled p (results (s.first ++ (s.second ++ back)))).1 ≡ results (s.second ++ back) = one.1 in (
      ap (λ cs. flat_map path_codes (paths_filled (p ∷ ps) cs).0) all
          ∙ ap (λ cs. path_codes (path_filled p (results (s.first ++ (s.second ++ back)))).0 ++ flat_map path_codes (paths_filled ps cs).0) left
          ∙ (λ j. one.0 j ++ more.0 j) ∙ sym s.is,
      ap (λ cs. (paths_filled (p ∷ ps) cs).1) all ∙ ap (λ cs. (paths_filled ps cs).1) left ∙ more.1,
    )

nested_reads : (ps : List PathData) → AllRead ps → BodyReads (v.Nested ps)
nested_reads ps h k c i steps front back e =
    let r = paths_read ps h k c i steps front back (e ∙ ap (λ (l : List Leaf). length l) (nested_leaves k c i ps steps)) in
    subst (λ (f : List Content → Body × List Content). (body_codes (f (results (front ++ back))).0 ≡ front) × ((f (results (front ++ back))).1 ≡ results back)) (sym (nested_filled ps))
    (nested_codes (paths_filled ps (results (front ++ back))).0 ∙ joined_codes (paths_filled ps (results (front ++ back))).0 ∙ r.0, r.1)

abbrev ABody : Type 0
ABody = (b : Body) × BodyReads b

abbrev APath : Type 0
APath = (p : PathData) × PathReads p

list_reads : (ps : List APath) → AllRead (map (λ x. x.0) ps)
list_reads [] = tt
list_reads (p ∷ ps) = (p.1, list_reads ps)

layer_reads : (y : Body-F ABody APath) → BodyReads (roll-Body (map-Body ABody APath Body PathData (λ e. e.0) (λ e. e.0) y))
layer_reads Body-F.Nothing = subst BodyReads (sym v.rolls-Nothing) (leaf_reads v.Nothing nothing_filled nothing_leaf)
layer_reads (Body-F.Full x) = subst BodyReads (sym (v.rolls-Full x)) (leaf_reads (v.Full x) (full_filled x) (λ k c i. full_leaf k c i x))
layer_reads (Body-F.Sparse ilvs) = subst BodyReads (sym (v.rolls-Sparse ilvs)) (leaf_reads (v.Sparse ilvs) (sparse_filled ilvs) (λ k c i. sparse_leaf k c i ilvs))
layer_reads (Body-F.Outcome code) = subst BodyReads (sym (v.rolls-Outcome code)) (leaf_reads (v.Outcome code) (outcome_filled code) (λ k c i. outcome_leaf k c i code))
layer_reads (Body-F.Nested ps) = subst BodyReads (sym (v.rolls-Nested (map (λ (x : APath). x.0) ps))) (nested_reads (map (λ (x : APath). x.0) ps) (list_reads ps))

every_reads : (p : PathData) → PathReads p
every_reads = ind-PathData BodyReads PathReads
    (λ x y is. subst (λ l. BodyReads (roll-Body l)) is (layer_reads y))
    (λ x y is. path_reads (roll-PathData x) (subst BodyReads (ap (λ (z : PathData-F Body PathData). z.body) is) y.body.1))

every_read : (ps : List PathData) → AllRead ps
every_read [] = tt
every_read (p ∷ ps) = (every_reads p, every_read ps)

-- ---- what is shown of operations
leaves_shown : (ls : List Leaf) (codes : List ℕ) → length codes ≡ length ls → shown_of is_shown (map operation.Leaf ls) codes ≡ codes
leaves_shown [] codes e = refl
leaves_shown (l ∷ ls) [] e = refl
leaves_shown (l ∷ ls) (code ∷ codes) e =
    let k : length codes ≡ length ls = (let n : suc (length codes) ≡ suc (length ls) = e in omega (arith, n)) in
    ap (λ cs. code ∷ cs) (leaves_shown ls codes k)

shown_by : (code : ℕ) (xs ys zs : List ℕ) (b : Bool) → zs ≡ xs ++ ys → cond {A = List ℕ} b (code ∷ zs) zs ≡ cond {A = List ℕ} b (code ∷ xs) xs ++ ys
shown_by code xs ys zs true e = ap (λ cs. code ∷ cs) e
shown_by code xs ys zs false e = e

shown_more : (xs ys : List Operation) (a b : List ℕ) → length a ≡ length xs → shown_of is_shown (xs ++ ys) (a ++ b) ≡ shown_of is_shown xs a ++ shown_of is_shown ys b
shown_more [] ys [] b e = refl
shown_more [] ys (x ∷ a) b e = absurd (let n : suc (length a) ≡ 0 = e in omega (arith, n))
shown_more (x ∷ xs) ys [] b e = absurd (let n : 0 ≡ suc (length xs) = e in omega (arith, n))
shown_more (x ∷ xs) ys (code ∷ a) b e =
    let k : length a ≡ length xs = (let n : suc (length a) ≡ suc (length xs) = e in omega (arith, n)) in
    shown_by code (shown_of is_shown xs a) (shown_of is_shown ys b) (shown_of is_shown (xs ++ ys) (a ++ b)) (is_shown x) (shown_more xs ys a b k)

-- ---- operations and selects
abbrev OperRead : ℕ → ℕ → Oper → List ℕ → List ℕ → Type 0
OperRead c i o front back =
    (flat_map oper_codes (oper_answered o (results (front ++ back))).0 ≡ shown_of is_shown (oper_operations c i o) front) × ((oper_answered o (results (front ++ back))).1 ≡ results back)

oper_read : (c i : ℕ) (o : Oper) (front back : List ℕ) → length front ≡ length (oper_operations c i o) → OperRead c i o front back
oper_read c i (oper.Paths kind paths) front back e =
    let n : length front ≡ length (oper_leaves c i (oper.Paths kind paths)) = e ∙ length-map (oper_leaves c i (oper.Paths kind paths)) operation.Leaf in
    let r = paths_read paths (every_read paths) kind c i [] front back n in
    (append-nil (flat_map path_codes (paths_filled paths (results (front ++ back))).0) ∙ r.0 ∙ sym (leaves_shown (oper_leaves c i (oper.Paths kind paths)) front n), r.1)
oper_read c i oper.Commit [] back e = absurd (let n : 0 ≡ 1 = e in omega (arith, n))
oper_read c i oper.Commit (x ∷ []) back e = (refl, refl)
oper_read c i oper.Commit (x ∷ y ∷ front) back e = absurd (let n : suc (suc (length front)) ≡ 1 = e in omega (arith, n))
oper_read c i oper.Trcomp [] back e = absurd (let n : 0 ≡ 1 = e in omega (arith, n))
oper_read c i oper.Trcomp (x ∷ []) back e = (refl, refl)
oper_read c i oper.Trcomp (x ∷ y ∷ front) back e = absurd (let n : suc (suc (length front)) ≡ 1 = e in omega (arith, n))
oper_read c i (oper.CommitResponse code) [] back e = (refl, refl)
oper_read c i (oper.CommitResponse code) (x ∷ front) back e = absurd (let n : suc (length front) ≡ 0 = e in omega (arith, n))

abbrev OpersRead : ℕ → ℕ → List Oper → List ℕ → List ℕ → Type 0
OpersRead c i os front back =
    (flat_map oper_codes (opers_answered os (results (front ++ back))).0 ≡ shown_of is_shown (flat_map (oper_operations c i) os) front) × ((opers_answered os (results (front ++ back))).1 ≡ results back)

opers_read : (c i : ℕ) (os : List Oper) (front back : List ℕ) → length front ≡ length (flat_map (oper_operations c i) os) → OpersRead c i os front back
opers_read c i [] [] back e = (refl, refl)
opers_read c i [] (x ∷ front) back e = absurd (let n : suc (length front) ≡ 0 = e in omega (arith, n))
opers_read c i (o ∷ os) front back e =
    let s = split (length (oper_operations c i o)) (length (flat_map (oper_operations c i) os)) front (e ∙ length-append (oper_operations c i o) (flat_map (oper_operations c i) os)) in
    let one = oper_read c i o s.first (s.second ++ back) s.long in
    let more = opers_read c i os s.second back s.rest in
    let all : results (front ++ back) ≡ results (s.first ++ (s.second ++ back)) = ap results (ap (λ xs. xs ++ back) s.is ∙ append_assoc s.first s.second back) in
    let left : (oper_answered o (results (s.first ++ (s.second ++ back)))).1 ≡ results (s.second ++ back) = one.1 in (
      ap (λ cs. flat_map oper_codes (opers_answered (o ∷ os) cs).0) all
          ∙ flat_map-append oper_codes (oper_answered o (results (s.first ++ (s.second ++ back)))).0 (opers_answered os (oper_answered o (results (s.first ++ (s.second ++ back)))).1).0
          ∙ ap (λ cs. flat_map oper_codes (oper_answered o (results (s.first ++ (s.second ++ back)))).0 ++ flat_map oper_codes (opers_answered os cs).0) left
          ∙ (λ j. one.0 j ++ more.0 j) ∙ sym (shown_more (oper_operations c i o) (flat_map (oper_operations c i) os) s.first s.second s.long)
          ∙ ap (shown_of is_shown (flat_map (oper_operations c i) (o ∷ os))) (sym s.is),
      ap (λ cs. (opers_answered (o ∷ os) cs).1) all ∙ ap (λ cs. (opers_answered os cs).1) left ∙ more.1,
    )

with_codes : (s : Select) (os : List Oper) → flat_map select_codes (select_with s os) ≡ flat_map oper_codes os
with_codes s [] = refl
with_codes s (o ∷ os) = append-nil (flat_map oper_codes (o ∷ os))

abbrev SelectsRead : List Select → List ℕ → List ℕ → Type 0
SelectsRead ss front back = (flat_map select_codes (each_answered ss (results (front ++ back))).0 ≡ shown_of is_shown (operations ss) front) × ((each_answered ss (results (front ++ back))).1 ≡ results back)

selects_read : (ss : List Select) (front back : List ℕ) → length front ≡ length (operations ss) → SelectsRead ss front back
selects_read [] [] back e = (refl, refl)
selects_read [] (x ∷ front) back e = absurd (let n : suc (length front) ≡ 0 = e in omega (arith, n))
selects_read (s ∷ ss) front back e =
    let t = split (length (select_operations s)) (length (operations ss)) front (e ∙ length-append (select_operations s) (operations ss)) in
    let one = opers_read s.class s.instance s.opers t.first (t.second ++ back) t.long in
    let more = selects_read ss t.second back t.rest in
    let all : results (front ++ back) ≡ results (t.first ++ (t.second ++ back)) = ap results (ap (λ xs. xs ++ back) t.is ∙ append_assoc t.first t.second back) in
    let here = opers_answered s.opers (results (t.first ++ (t.second ++ back))) in
    let left : here.1 ≡ results (t.second ++ back) = one.1 in (
      ap (λ cs. flat_map select_codes (each_answered (s ∷ ss) cs).0) all ∙ flat_map-append select_codes (select_with s here.0) (each_answered ss here.1).0
          ∙ ap (λ cs. flat_map select_codes (select_with s here.0) ++ flat_map select_codes (each_answered ss cs).0) left
          ∙ (λ j. (with_codes s here.0 ∙ one.0) j ++ more.0 j) ∙ sym (shown_more (select_operations s) (operations ss) t.first t.second t.long)
          ∙ ap (shown_of is_shown (operations (s ∷ ss))) (sym t.is),
      ap (λ cs. (each_answered (s ∷ ss) cs).1) all ∙ ap (λ cs. (each_answered ss cs).1) left ∙ more.1,
    )

pub all_read : (selects : List Select) (codes : List ℕ) → length codes ≡ length (operations selects) → flat_map select_codes (answered_selects selects codes) ≡ shown_of is_shown (operations selects) codes
all_read selects codes e = ap (λ (cs : List ℕ). flat_map select_codes (each_answered selects (results cs)).0) (sym (append-nil codes)) ∙ (selects_read selects codes [] e).0
