-- Which codes a response shows, and what they come to.
use Rattle.std.proofs.Common.{◌≡◌, ◌≢◌, ℕ, ◌==◌, ◌&&◌, ◌||◌, Bool, true, false, cond, List, [], ◌∷◌, ◌++◌, map, refl, sym, ap, ◌∙◌, subst, rules, eqb-true, eq-eqb}
use Rattle.std.specs.List.{AllByRecursion, flat_map}
use Rattle.fc_exec.specs.declared.operations.Operation.{Operation}
use Rattle.fc_holding.specs.Held.{touches, waits}
use Rattle.fc_machine.specs.ElementState.{first_code, response_code}
use Rattle.fc_machine.specs.Transactions.{shown_of}
use Rattle.fc_path.specs.declared.oper.Oper.{Oper}
use Rattle.fc_path.specs.declared.oper.Oper.TheVariants as oper
use Rattle.fc_path.specs.declared.oper.Select.{Select}
use Rattle.fc_path.specs.declared.path.PathData.{PathData, roll-PathData}
use Rattle.fc_path.specs.declared.path.Body.{Body, roll-Body, map-Body, the_lemmas}
use Rattle.fc_path.specs.declared.path.Body.TheOpen.{Body-F, PathData-F}
use Rattle.fc_path.specs.declared.path.Body.TheFolds.{ind-PathData}
use Rattle.fc_path.specs.declared.path.Body.TheVariants as v
use Rattle.fc_protocol.specs.Records.{any_taken, is_taken}
use Rattle.fc_protocol.specs.declared.answers.TxnEntry.{TxnEntry}
use Rattle.fc_reply.specs.Counting.{body_gets, each_gets, oper_gets, path_gets, paths_get, select_gets}
use Rattle.fc_wire.specs.declared.ilvs.Ilv.{Ilv}
use Rattle.fc_abiding.specs.Responses.{is_shown, touched}

-- ---- one code alone
abbrev pub AllAre : ℕ → List ℕ → Type 0
AllAre c xs = AllByRecursion (λ x. x ≡ c) xs

all_zero : (c : ℕ) (xs : List ℕ) → c ≡ 0 → AllAre c xs → first_code xs ≡ 0
all_zero c [] e a = refl
all_zero c (x ∷ xs) e a = ap (λ b. cond b (first_code xs) x) (eq-eqb x 0 (a.0 ∙ e)) ∙ all_zero c xs e a.1

first_by : (c x : ℕ) (xs : List ℕ) (b : Bool) → (x == 0) ≡ b → x ≡ c → AllAre c xs → cond b (first_code xs) x ≡ c
first_by c x xs true e i a = let z : c ≡ 0 = sym i ∙ eqb-true x 0 e in all_zero c xs z a ∙ sym z
first_by c x xs false e i a = i

pub response_is : (c : ℕ) (xs : List ℕ) → AllAre c xs → xs ≢ [] → c ≡ response_code xs
response_is c [] a n = absurd (n refl)
response_is c (x ∷ xs) a n = sym (first_by c x xs (x == 0) refl a.0 a.1)

shown_by : (c : ℕ) (code : ℕ) (codes : List ℕ) (b : Bool) → code ≡ c → AllAre c codes → AllAre c (cond b (code ∷ codes) codes)
shown_by c code codes true e a = (e, a)
shown_by c code codes false e a = a

pub shown_all : (c : ℕ) (ops : List Operation) (codes : List ℕ) → AllAre c codes → AllAre c (shown_of is_shown ops codes)
shown_all c [] codes a = a
shown_all c (op ∷ ops) [] a = tt
shown_all c (op ∷ ops) (code ∷ codes) a = shown_by c code (shown_of is_shown ops codes) (is_shown op) a.0 (shown_all c ops codes a.1)

-- ---- where none is refused, none that is shown is
rest_by : (code : ℕ) (codes shown : List ℕ) (b h : Bool) → (code == 0) ≡ b → cond b (first_code codes) code ≡ 0 → (first_code codes ≡ 0 → first_code shown ≡ 0) → first_code (cond h (code ∷ shown) shown) ≡ 0
rest_by code codes shown true true e z r = ap (λ c. cond c (first_code shown) code) e ∙ r z
rest_by code codes shown true false e z r = r z
rest_by code codes shown false h e z r = absurd (let k : false ≡ true = sym e ∙ eq-eqb code 0 z in cc)

pub none_shown : (ops : List Operation) (codes : List ℕ) → first_code codes ≡ 0 → first_code (shown_of is_shown ops codes) ≡ 0
none_shown [] codes z = z
none_shown (op ∷ ops) [] z = refl
none_shown (op ∷ ops) (code ∷ codes) z = rest_by code codes (shown_of is_shown ops codes) (code == 0) (is_shown op) refl z (λ y. none_shown ops codes y)

-- ---- where each operation gets one code
abbrev BodyGets : Body → Type 0
BodyGets b = (c : ℕ) → AllAre c (body_gets c b)

abbrev PathGets : PathData → Type 0
PathGets p = (c : ℕ) → AllAre c (path_gets c p)

abbrev AllGet : List PathData → Type 0
AllGet [] = Unit {0}
AllGet (p ∷ ps) = PathGets p × AllGet ps

pub path_is : (c : ℕ) (p : PathData) → path_gets c p ≡ body_gets c p.body
path_is c p = search (rules, the_lemmas)

pub nothing_is : (c : ℕ) → body_gets c v.Nothing ≡ c ∷ []
nothing_is c = search (rules, the_lemmas)

pub full_is : (c : ℕ) (x : List ℕ) → body_gets c (v.Full x) ≡ c ∷ []
full_is c x = search (rules, the_lemmas)

pub sparse_is : (c : ℕ) (ilvs : List Ilv) → body_gets c (v.Sparse ilvs) ≡ c ∷ []
sparse_is c ilvs = search (rules, the_lemmas)

pub outcome_is : (c code : ℕ) → body_gets c (v.Outcome code) ≡ c ∷ []
outcome_is c code = search (rules, the_lemmas)

pub nested_is : (c : ℕ) (ps : List PathData) → body_gets c (v.Nested ps) ≡ paths_get c ps
nested_is c ps = search (rules, the_lemmas)

all_more : (c : ℕ) (xs ys : List ℕ) → AllAre c xs → AllAre c ys → AllAre c (xs ++ ys)
all_more c [] ys a b = b
all_more c (x ∷ xs) ys a b = (a.0, all_more c xs ys a.1 b)

one_code : (c : ℕ) (xs : List ℕ) → xs ≡ c ∷ [] → AllAre c xs
one_code c xs e = subst (AllAre c) (sym e) (refl, tt)

paths_all : (c : ℕ) (ps : List PathData) → AllGet ps → AllAre c (paths_get c ps)
paths_all c [] a = tt
paths_all c (p ∷ ps) a = all_more c (path_gets c p) (paths_get c ps) (a.0 c) (paths_all c ps a.1)

abbrev ABody : Type 0
ABody = (b : Body) × BodyGets b

abbrev APath : Type 0
APath = (p : PathData) × PathGets p

list_gets : (ps : List APath) → AllGet (map (λ x. x.0) ps)
list_gets [] = tt
list_gets (p ∷ ps) = (p.1, list_gets ps)

layer_gets : (y : Body-F ABody APath) → BodyGets (roll-Body (map-Body ABody APath Body PathData (λ e. e.0) (λ e. e.0) y))
layer_gets Body-F.Nothing = subst BodyGets (sym v.rolls-Nothing) (λ c. one_code c (body_gets c v.Nothing) (nothing_is c))
layer_gets (Body-F.Full x) = subst BodyGets (sym (v.rolls-Full x)) (λ c. one_code c (body_gets c (v.Full x)) (full_is c x))
layer_gets (Body-F.Sparse ilvs) = subst BodyGets (sym (v.rolls-Sparse ilvs)) (λ c. one_code c (body_gets c (v.Sparse ilvs)) (sparse_is c ilvs))
layer_gets (Body-F.Outcome code) = subst BodyGets (sym (v.rolls-Outcome code)) (λ c. one_code c (body_gets c (v.Outcome code)) (outcome_is c code))
layer_gets (Body-F.Nested ps) =
    let qs : List PathData = map (λ (x : APath). x.0) ps in
    subst BodyGets (sym (v.rolls-Nested qs)) (λ c. subst (AllAre c) (sym (nested_is c qs)) (paths_all c qs (list_gets ps)))

every_gets : (p : PathData) → PathGets p
every_gets = ind-PathData BodyGets PathGets
    (λ x y is. subst (λ l. BodyGets (roll-Body l)) is (layer_gets y))
    (λ x y is. λ c. subst (AllAre c) (sym (path_is c (roll-PathData x))) (subst BodyGets (ap (λ (z : PathData-F Body PathData). z.body) is) y.body.1 c))

all_get : (ps : List PathData) → AllGet ps
all_get [] = tt
all_get (p ∷ ps) = (every_gets p, all_get ps)

oper_all : (c : ℕ) (o : Oper) → AllAre c (oper_gets c o)
oper_all c (oper.Paths kind paths) = paths_all c paths (all_get paths)
oper_all c oper.Commit = (refl, tt)
oper_all c oper.Trcomp = (refl, tt)
oper_all c (oper.CommitResponse code) = tt

opers_all : (c : ℕ) (os : List Oper) → AllAre c (flat_map (oper_gets c) os)
opers_all c [] = tt
opers_all c (o ∷ os) = all_more c (oper_gets c o) (flat_map (oper_gets c) os) (oper_all c o) (opers_all c os)

pub each_all : (c : ℕ) (selects : List Select) → AllAre c (each_gets c selects)
each_all c [] = tt
each_all c (s ∷ ss) = all_more c (select_gets c s) (each_gets c ss) (opers_all c s.opers) (each_all c ss)

-- ---- what a plain change touches
touch_by : (ns : List TxnEntry) (s : Select) (ss : List Select) (b : Bool) → any_taken ns (touched ss) ≡ waits ns ss → any_taken ns (cond b ((s.class, s.instance) ∷ []) [] ++ touched ss) ≡ (b && is_taken ns (s.class, s.instance)) || waits ns ss
touch_by ns s ss true e = ap (λ w. is_taken ns (s.class, s.instance) || w) e
touch_by ns s ss false e = e

pub touched_waits : (ns : List TxnEntry) (selects : List Select) → any_taken ns (touched selects) ≡ waits ns selects
touched_waits ns [] = refl
touched_waits ns (s ∷ ss) = touch_by ns s ss (touches s) (touched_waits ns ss)
