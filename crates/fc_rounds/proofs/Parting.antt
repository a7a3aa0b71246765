-- The parts of a plan: the scope of each rises and has the instances of its changes.
use Rattle.std.proofs.Common.{[], ◌≡◌, ℕ, zero, suc, ◌-◌, ◌==◌, ◌&&◌, ◌||◌, nat_lt, Bool, true, false, List, ◌∷◌, ◌++◌, length, map, append_assoc, append-nil, slice_get, Some, unwrap_or, refl, sym, ap, ◌∙◌, arith, eqb-true, if◌then◌else◌}
use Rattle.std.specs.List.{AllByRecursion, flat_map}
use Rattle.fc_asks.specs.Plans.{changes_of, numbered, selects_of}
use Rattle.fc_asks.specs.Tables.{found}
use Rattle.fc_documents.specs.Parts.{begun}
use Rattle.fc_documents.specs.declared.transaction.PlanTxn.{PlanTxn}
use Rattle.fc_exec.specs.Operations.{oper_operations, operations, place_of, select_operations}
use Rattle.fc_exec.specs.declared.operations.Operation.{Operation}
use Rattle.fc_exec.specs.declared.operations.Operation.TheVariants as operation
use Rattle.fc_folding.proofs.Lying.{AreAt, all_leaves, all_lie}
use Rattle.fc_headline.specs.CleanRound.{changes_to}
use Rattle.fc_jobs.specs.Plans.{changes_in, counted, participants_of, scoped, scopes_in}
use Rattle.fc_jobs.specs.Scopes.{scope_of}
use Rattle.fc_machine.specs.Ground.{inside_by}
use Rattle.fc_path.specs.Leaves.{oper_leaves}
use Rattle.fc_path.specs.declared.oper.Leaf.{Leaf}
use Rattle.fc_path.specs.declared.oper.Oper.{Oper}
use Rattle.fc_path.specs.declared.oper.Oper.TheVariants as oper
use Rattle.fc_path.specs.declared.oper.Select.{Select}
use Rattle.fc_plans.specs.Plans as plans
use Rattle.fc_plans.specs.Plans.{entered, entered_all, entered_by, named}
use Rattle.fc_plans.specs.declared.plan.Part.{Part}
use Rattle.fc_protocol.specs.Collections.{among}
use Rattle.fc_protocol.specs.Scopes.{Scope, covers, is_rising, lists, rises_after, same_place, stands_before}

both_true : (a b : Bool) → a ≡ true → b ≡ true → (a && b) ≡ true
both_true true b h k = k
both_true false b h k = absurd cc

both_parts : (a b : Bool) → (a && b) ≡ true → (a ≡ true) × (b ≡ true)
both_parts true b h = (refl, h)
both_parts false b h = absurd cc

or_left : (a b : Bool) → a ≡ true → (a || b) ≡ true
or_left true b h = refl
or_left false b h = absurd cc

or_right : (a b : Bool) → b ≡ true → (a || b) ≡ true
or_right true b h = refl
or_right false b h = h

-- ---- scopes that rise
later_rises : (k i : ℕ × ℕ) (js : Scope) → stands_before k i ≡ true → rises_after k js ≡ true → rises_after k (entered i js) ≡ true
later_rises k i [] first rest = both_true (stands_before k i) true first refl
later_rises k i (j ∷ js) first rest = by (stands_before i j) (stands_before j i) refl refl (λ e. later_rises j i js e (both_parts (stands_before k j) (rises_after j js) rest).1)
  where
    by : (b c : Bool) → stands_before i j ≡ b → stands_before j i ≡ c → (stands_before j i ≡ true → rises_after j (entered i js) ≡ true) → rises_after k (if b then i ∷ j ∷ js else (if c then j ∷ entered i js else j ∷ js)) ≡ true
    by true c before other more = both_true (stands_before k i) (stands_before i j && rises_after j js) first (both_true (stands_before i j) (rises_after j js) before (both_parts (stands_before k j) (rises_after j js) rest).1)
    by false true before other more = both_true (stands_before k j) (rises_after j (entered i js)) (both_parts (stands_before k j) (rises_after j js) rest).0 (more other)
    by false false before other more = rest

entered_rises : (i : ℕ × ℕ) (js : Scope) → is_rising js ≡ true → is_rising (entered i js) ≡ true
entered_rises i [] rising = refl
entered_rises i (j ∷ js) rising = by (stands_before i j) (stands_before j i) refl refl
  where
    by : (b c : Bool) → stands_before i j ≡ b → stands_before j i ≡ c → is_rising (if b then i ∷ j ∷ js else (if c then j ∷ entered i js else j ∷ js)) ≡ true
    by true c before other = both_true (stands_before i j) (rises_after j js) before rising
    by false true before other = later_rises j i js other rising
    by false false before other = rising

all_rises : (ss : List Select) (is : Scope) → is_rising is ≡ true → is_rising (entered_all ss is) ≡ true
all_rises [] is rising = rising
all_rises (s ∷ ss) is rising = all_rises ss (entered (s.class, s.instance) is) (entered_rises (s.class, s.instance) is rising)

by_rises : (cs : List (List Select)) (is : Scope) → is_rising is ≡ true → is_rising (entered_by cs is) ≡ true
by_rises [] is rising = rising
by_rises (c ∷ cs) is rising = by_rises cs (entered_all c is) (all_rises c is rising)

-- ---- what they have
same_numbers : (n : ℕ) → (n == n) ≡ true
same_numbers n = grind arith

itself : (i : ℕ × ℕ) → same_place i i ≡ true
itself i = both_true (i.0 == i.0) (i.1 == i.1) (same_numbers i.0) (same_numbers i.1)

level : (a b c d : ℕ) → (nat_lt a c || (a == c && nat_lt b d)) ≡ false → (nat_lt c a || (c == a && nat_lt d b)) ≡ false → (a == c && b == d) ≡ true
level a b c d h k = grind (arith, h, k)

entered_has : (i : ℕ × ℕ) (js : Scope) → lists (entered i js) i ≡ true
entered_has i [] = or_left (same_place i i) false (itself i)
entered_has i (j ∷ js) = by (stands_before i j) (stands_before j i) refl refl (entered_has i js)
  where
    by : (b c : Bool) → stands_before i j ≡ b → stands_before j i ≡ c → lists (entered i js) i ≡ true → lists (if b then i ∷ j ∷ js else (if c then j ∷ entered i js else j ∷ js)) i ≡ true
    by true c before other more = or_left (same_place i i) (lists (j ∷ js) i) (itself i)
    by false true before other more = or_right (same_place i j) (lists (entered i js) i) more
    by false false before other more = or_left (same_place i j) (lists js i) (level i.0 i.1 j.0 j.1 before other)

either_true : (a b c : Bool) → (a || b) ≡ true → (b ≡ true → c ≡ true) → (a || c) ≡ true
either_true true b c h more = refl
either_true false b c h more = more h

entered_keeps : (i q : ℕ × ℕ) (js : Scope) → lists js q ≡ true → lists (entered i js) q ≡ true
entered_keeps i q [] h = absurd cc
entered_keeps i q (j ∷ js) h = by (stands_before i j) (stands_before j i) (λ e. entered_keeps i q js e)
  where
    by : (b c : Bool) → (lists js q ≡ true → lists (entered i js) q ≡ true) → lists (if b then i ∷ j ∷ js else (if c then j ∷ entered i js else j ∷ js)) q ≡ true
    by true c more = or_right (same_place q i) (lists (j ∷ js) q) h
    by false true more = either_true (same_place q j) (lists js q) (lists (entered i js) q) h more
    by false false more = h

all_keeps : (ss : List Select) (is : Scope) (q : ℕ × ℕ) → lists is q ≡ true → lists (entered_all ss is) q ≡ true
all_keeps [] is q h = h
all_keeps (s ∷ ss) is q h = all_keeps ss (entered (s.class, s.instance) is) q (entered_keeps (s.class, s.instance) q is h)

by_keeps : (cs : List (List Select)) (is : Scope) (q : ℕ × ℕ) → lists is q ≡ true → lists (entered_by cs is) q ≡ true
by_keeps [] is q h = h
by_keeps (c ∷ cs) is q h = by_keeps cs (entered_all c is) q (all_keeps c is q h)

-- a scope has the instance of each of these selects
abbrev pub Covers : Scope → List Select → Type 0
Covers sc ss = AllByRecursion (λ (s : Select). covers sc (s.class, s.instance) ≡ true) ss

listed_covers : (sc : Scope) (q : ℕ × ℕ) → lists sc q ≡ true → covers sc q ≡ true
listed_covers [] q h = refl
listed_covers (j ∷ js) q h = h

select_covers : (sc is : Scope) (ss : List Select) → ((q : ℕ × ℕ) → lists (entered_all ss is) q ≡ true → lists sc q ≡ true) → Covers sc ss
select_covers sc is [] over = tt
select_covers sc is (s ∷ ss) over = (
  listed_covers sc (s.class, s.instance) (over (s.class, s.instance) (all_keeps ss (entered (s.class, s.instance) is) (s.class, s.instance) (entered_has (s.class, s.instance) is))),
  select_covers sc (entered (s.class, s.instance) is) ss over,
)

change_covers : (sc is : Scope) (cs : List (List Select)) → ((q : ℕ × ℕ) → lists (entered_by cs is) q ≡ true → lists sc q ≡ true) → AllByRecursion (Covers sc) cs
change_covers sc is [] over = tt
change_covers sc is (c ∷ cs) over = (select_covers sc is c (λ q h. over q (by_keeps cs (entered_all c is) q h)), change_covers sc (entered_all c is) cs over)

whole_covers : (ss : List Select) → Covers [] ss
whole_covers [] = tt
whole_covers (s ∷ ss) = (refl, whole_covers ss)

all_whole : (cs : List (List Select)) → AllByRecursion (Covers []) cs
all_whole [] = tt
all_whole (c ∷ cs) = (whole_covers c, all_whole cs)

-- a part of a plan of the script
pub record IsScoped (part : Part) : Type 0 where
  pub rising : is_rising part.scope ≡ true
  pub covers : AllByRecursion (Covers part.scope) part.changes

parts_scoped : (ps : List (ℕ × List (List Select))) → AllByRecursion IsScoped (map plans.scoped ps)
parts_scoped [] = tt
parts_scoped (p ∷ ps) = (record { rising = by_rises p.1 [] refl; covers = change_covers (named p.1) [] p.1 (λ q h. h) }, parts_scoped ps)

parts_whole : (ps : List (ℕ × List (List Select))) → AllByRecursion IsScoped (map plans.whole ps)
parts_whole [] = tt
parts_whole (p ∷ ps) = (record { rising = refl; covers = all_whole p.1 }, parts_whole ps)

pub all_scoped : (t : PlanTxn) → AllByRecursion IsScoped (begun t)
all_scoped t = by t.scoped
  where
    by : (b : Bool) → AllByRecursion IsScoped (if b then map plans.scoped t.parts else map plans.whole t.parts)
    by true = parts_scoped t.parts
    by false = parts_whole t.parts

-- ---- where operations lie
module _ (sc : Scope) where
  abbrev IsInside : Operation → Type 0
  IsInside op = inside_by sc (place_of op) ≡ true

  inside_more : (xs ys : List Operation) → AllByRecursion IsInside xs → AllByRecursion IsInside ys → AllByRecursion IsInside (xs ++ ys)
  inside_more [] ys h k = k
  inside_more (x ∷ xs) ys h k = (h.0, inside_more xs ys h.1 k)

  leaves_inside : (c i : ℕ) (ls : List Leaf) → covers sc (c, i) ≡ true → AreAt c i ls → AllByRecursion IsInside (map operation.Leaf ls)
  leaves_inside c i [] h at = tt
  leaves_inside c i (l ∷ ls) h at =
      let here : covers sc (l.spot.class, l.spot.instance) ≡ covers sc (c, i) = λ j. covers sc (at.0.0 j, at.0.1 j) in
      (here ∙ h, leaves_inside c i ls h at.1)

  oper_inside : (c i : ℕ) (o : Oper) → covers sc (c, i) ≡ true → AllByRecursion IsInside (oper_operations c i o)
  oper_inside c i (oper.Paths kind paths) h = leaves_inside c i (oper_leaves c i (oper.Paths kind paths)) h (all_leaves paths (all_lie paths) kind c i [])
  oper_inside c i oper.Commit h = (refl, tt)
  oper_inside c i oper.Trcomp h = (refl, tt)
  oper_inside c i (oper.CommitResponse code) h = tt

  opers_inside : (c i : ℕ) (os : List Oper) → covers sc (c, i) ≡ true → AllByRecursion IsInside (flat_map (oper_operations c i) os)
  opers_inside c i [] h = tt
  opers_inside c i (o ∷ os) h = inside_more (oper_operations c i o) (flat_map (oper_operations c i) os) (oper_inside c i o h) (opers_inside c i os h)

  selects_inside : (ss : List Select) → Covers sc ss → AllByRecursion IsInside (operations ss)
  selects_inside [] h = tt
  selects_inside (s ∷ ss) h = inside_more (select_operations s) (operations ss) (opers_inside s.class s.instance s.opers h.0) (selects_inside ss h.1)

  pub changes_inside : (cs : List (List Select)) → AllByRecursion (Covers sc) cs → AllByRecursion IsInside (flat_map operations cs)
  changes_inside [] h = tt
  changes_inside (c ∷ cs) h = inside_more (operations c) (flat_map operations cs) (selects_inside c h.0) (changes_inside cs h.1)

-- ---- the changes by their numbers
abbrev pub change_ops : List (List Select) → ℕ → List Operation
change_ops cs i = operations (selects_of (numbered cs i))

abbrev firsts : ℕ → List (List Select) → List (List Select)
firsts zero cs = []
firsts (suc n) [] = []
firsts (suc n) (c ∷ cs) = c ∷ firsts n cs

one_first : (cs : List (List Select)) (n : ℕ) → flat_map operations (firsts (suc n) cs) ≡ flat_map operations (firsts n cs) ++ operations (selects_of (slice_get cs n))
one_first [] zero = refl
one_first [] (suc n) = refl
one_first (c ∷ cs) zero = append-nil (operations c)
one_first (c ∷ cs) (suc n) = ap (λ ops. operations c ++ ops) (one_first cs n) ∙ sym (append_assoc (operations c) (flat_map operations (firsts n cs)) (operations (selects_of (slice_get cs n))))

all_firsts : (cs : List (List Select)) → firsts (length cs) cs ≡ cs
all_firsts [] = refl
all_firsts (c ∷ cs) = ap (λ ds. c ∷ ds) (all_firsts cs)

before : (n : ℕ) → suc n - 1 ≡ n
before n = omega arith

firsts_are : (cs : List (List Select)) (n : ℕ) → changes_to (change_ops cs) n ≡ flat_map operations (firsts n cs)
firsts_are cs zero = refl
firsts_are cs (suc n) =
    ap (λ ops. ops ++ change_ops cs (suc n)) (firsts_are cs n) ∙ ap (λ i. flat_map operations (firsts n cs) ++ operations (selects_of (slice_get cs i))) (before n) ∙ sym (one_first cs n)

pub changes_are : (cs : List (List Select)) → changes_to (change_ops cs) (length cs) ≡ flat_map operations cs
changes_are cs = firsts_are cs (length cs) ∙ ap (λ ds. flat_map operations ds) (all_firsts cs)

-- ---- a participant
pub record PartAt (P : Part → Type 0) (parts : List Part) (p : ℕ) : Type 0 where
  pub part : Part
  pub same : part.element ≡ p
  pub changes : changes_of p parts ≡ part.changes
  pub count : changes_in parts p ≡ length part.changes
  pub scope : scopes_in parts p ≡ part.scope
  pub holds : P part

pub part_at : (P : Part → Type 0) (parts : List Part) (p : ℕ) → AllByRecursion P parts → among p (participants_of parts) ≡ true → PartAt P parts p
part_at P [] p all is = absurd cc
part_at P (part ∷ parts) p all is = by (p == part.element) refl is (λ e. part_at P parts p all.1 e)
  where
    by : (b : Bool) → (p == part.element) ≡ b → (b || among p (participants_of parts)) ≡ true → (among p (participants_of parts) ≡ true → PartAt P parts p) → PartAt P (part ∷ parts) p
    by true at e more = record {
      part = part;
      same = sym (eqb-true p part.element at);
      changes = ap (λ c. if c then part.changes else changes_of p parts) at;
      count = ap (λ c. unwrap_or (if c then Some (length part.changes) else found p (map counted parts)) 0) at;
      scope = ap (λ c. if c then part.scope else scope_of p (map scoped parts)) at;
      holds = all.0;
    }
    by false at e more =
        let r = more e in record {
          part = r.part;
          same = r.same;
          changes = ap (λ c. if c then part.changes else changes_of p parts) at ∙ r.changes;
          count = ap (λ c. unwrap_or (if c then Some (length part.changes) else found p (map counted parts)) 0) at ∙ r.count;
          scope = ap (λ c. if c then part.scope else scope_of p (map scoped parts)) at ∙ r.scope;
          holds = r.holds;
        }
