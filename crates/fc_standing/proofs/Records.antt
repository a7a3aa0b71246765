-- What the records of an element say of the transactions that are held on its store, and what a rest does there.
use Rattle.std.proofs.Common.{◌≡◌, ◌≢◌, ℕ, zero, suc, ◌==◌, ◌&&◌, ◌||◌, not, Bool, true, false, List, [], ◌∷◌, ◌++◌, length, replicate, refl, sym, ap, ◌∙◌, arith, Option, Some, None, if◌then◌else◌}
use Rattle.std.specs.List.{AllByRecursion, list_any, position}
use Rattle.fc_agreement.proofs.Limits.{meets_sym}
use Rattle.fc_events.specs.declared.subscriptions.Notice.{Notice}
use Rattle.fc_events.specs.declared.subscriptions.Subscription.{Subscription}
use Rattle.fc_exec.specs.Operations.{applied, is_inside, place_of}
use Rattle.fc_exec.specs.Operations as exec
use Rattle.fc_exec.specs.declared.operations.Operation.{Operation}
use Rattle.fc_headline.specs.Folds.{Clean}
use Rattle.fc_headline.specs.OneElement.{Each, Inside}
use Rattle.fc_headline.proofs.Rests.{clean_rest_codes}
use Rattle.fc_machine.specs.ElementState.{Element, Entry, bare, bares, first_code, ops_of, working}
use Rattle.fc_machine.specs.Transactions.{places, rest_codes, with_place}
use Rattle.fc_machine.specs.Transactions as machine
use Rattle.fc_modes.specs.Modes.{codes_of, first_refused, folded, outcome, outcome_by}
use Rattle.fc_modes.specs.declared.mode.Mode.TheVariants.{AllOrNone}
use Rattle.fc_modes.proofs.Positions.{position_none}
use Rattle.fc_protocol.specs.OneElement.{ScopesApart}
use Rattle.fc_protocol.specs.Records.{any_taken, clashes, is_held, is_taken}
use Rattle.fc_protocol.specs.Scopes.{Scope, covers, meets}
use Rattle.fc_protocol.specs.declared.answers.TxnEntry.{TxnEntry}
use Rattle.fc_store.specs.Stores.{Stored, is_in}
use Rattle.fc_value.specs.Outcomes.{invalid_parameters}
use Rattle.fc_standing.specs.Basis.{store_basis}
use Rattle.fc_standing.specs.Holding.{AreHeld, Holding, IsApart, IsSettled, LieBeside, LieIn, holdings, holdings_by, is_outside, standing}
use Rattle.fc_standing.proofs.Commuting.{within_is}
use Rattle.fc_standing.proofs.Copies.{copied_codes, element_works}

-- ---- scopes
in_is : (scope : Scope) (p : ℕ × ℕ) → covers scope p ≡ is_in scope p
in_is [] p = refl
in_is (q ∷ qs) p = refl

or_left : (a b : Bool) → (a || b) ≡ false → a ≡ false
or_left true b e = absurd cc
or_left false b e = refl

or_right : (a b : Bool) → (a || b) ≡ false → b ≡ false
or_right true b e = absurd cc
or_right false b e = e

both_false : (a b : Bool) → a ≡ false → b ≡ false → (a || b) ≡ false
both_false true b e f = absurd cc
both_false false b e f = f

and_second : (a b : Bool) → a ≡ true → (a && b) ≡ false → b ≡ false
and_second true b e f = f
and_second false b e f = absurd cc

-- ---- held operations lie in their scope
one_in : (scope : Scope) (o : Option (ℕ × ℕ)) (q : ℕ × ℕ) → o ≡ Some q → covers scope q ≡ true → is_inside scope o ≡ true
one_in scope o q e c = ap (is_inside scope) e ∙ sym (in_is scope q) ∙ c

each_in : (scope : Scope) (ops : List Operation) → Each (λ (op : Operation). (q : ℕ × ℕ) × (place_of op ≡ Some q) × (covers scope q ≡ true)) ops → LieIn scope ops
each_in scope [] a = tt
each_in scope (op ∷ ops) a = (one_in scope (place_of op) a.0.0 a.0.1 a.0.2, each_in scope ops a.1)

-- ---- scopes of what is held do not meet
apart_by : (h : Holding) (n : Entry Operation) (hs : List Holding) (b : Bool) → (b && meets h.scope n.scope) ≡ false → AllByRecursion (IsApart h) hs → AllByRecursion (IsApart h) (holdings_by b n hs)
apart_by h n hs true e a = (e, a)
apart_by h n hs false e a = a

all_apart : (h : Holding) (ns : List (Entry Operation)) → clashes h.scope (bares ns) ≡ false → AllByRecursion (IsApart h) (holdings ns)
all_apart h [] e = tt
all_apart h (n ∷ ns) e =
    apart_by h n (holdings ns) (is_held n.state) (or_left (is_held n.state && meets h.scope n.scope) (clashes h.scope (bares ns)) e)
    (all_apart h ns (or_right (is_held n.state && meets h.scope n.scope) (clashes h.scope (bares ns)) e))

held_by : (n : Entry Operation) (hs : List Holding) (b : Bool) → (b ≡ true → LieIn n.scope (ops_of n)) → (b ≡ true → AllByRecursion (IsApart (record { scope = n.scope; ops = ops_of n })) hs) → AreHeld hs
    → AreHeld (holdings_by b n hs)
held_by n hs true i a h = (i refl, (a refl, h))
held_by n hs false i a h = h

pub are_held : (told : Notice → ℕ) (gone : ℕ) (instances : List (ℕ × ℕ)) (ns : List (Entry Operation)) → ScopesApart (bares ns) → Each (Inside (store_basis told gone instances)) ns → AreHeld (holdings ns)
are_held told gone instances [] a i = tt
are_held told gone instances (n ∷ ns) a i =
    held_by n (holdings ns) (is_held n.state) (λ e. each_in n.scope (ops_of n) (i.0 e))
    (λ e. all_apart (record { scope = n.scope; ops = ops_of n }) ns (a.0 e)) (are_held told gone instances ns a.1 i.1)

-- ---- one that begins
with_last : (g : Holding) (hs : List Holding) (x : Holding) → AllByRecursion (IsApart g) hs → IsApart g x → AllByRecursion (IsApart g) (hs ++ x ∷ [])
with_last g [] x a e = (e, tt)
with_last g (f ∷ hs) x a e = (a.0, with_last g hs x a.1 e)

last_by : (hs : List Holding) (x : Holding) → LieIn x.scope x.ops → AllByRecursion (IsApart x) hs → AreHeld hs → AreHeld (hs ++ x ∷ [])
last_by [] x i a h = (i, (tt, tt))
last_by (g ∷ hs) x i a h = (h.0, (with_last g hs x h.1.0 (meets_sym x.scope g.scope a.0), last_by hs x i a.1 h.1.1))

pub may_begin : (scope : Scope) (ns : List (Entry Operation)) → AreHeld (holdings ns) → clashes scope (bares ns) ≡ false → AreHeld (holdings ns ++ record { scope = scope; ops = [] } ∷ [])
may_begin scope ns h e = let x : Holding = record { scope = scope; ops = [] } in last_by (holdings ns) x tt (all_apart x ns e) h

-- ---- operations at no instance that is held
less_taken : (n : TxnEntry) (ns : List TxnEntry) (ps : Scope) → any_taken (n ∷ ns) ps ≡ false → any_taken ns ps ≡ false
less_taken n ns [] e = refl
less_taken n ns (p ∷ ps) e =
    both_false (is_taken ns p) (any_taken ns ps) (or_right (is_held n.state && covers n.scope p) (is_taken ns p) (or_left (is_taken (n ∷ ns) p) (any_taken (n ∷ ns) ps) e))
    (less_taken n ns ps (or_right (is_taken (n ∷ ns) p) (any_taken (n ∷ ns) ps) e))

not_own : (n : TxnEntry) (ns : List TxnEntry) (ps : Scope) → is_held n.state ≡ true → any_taken (n ∷ ns) ps ≡ false → list_any (covers n.scope) ps ≡ false
not_own n ns [] h e = refl
not_own n ns (p ∷ ps) h e =
    both_false (covers n.scope p) (list_any (covers n.scope) ps)
    (and_second (is_held n.state) (covers n.scope p) h (or_left (is_held n.state && covers n.scope p) (is_taken ns p) (or_left (is_taken (n ∷ ns) p) (any_taken (n ∷ ns) ps) e)))
    (not_own n ns ps h (or_right (is_taken (n ∷ ns) p) (any_taken (n ∷ ns) ps) e))

not_true : (b : Bool) → b ≡ false → not b ≡ true
not_true true e = absurd cc
not_true false e = refl

module _ (told : Notice → ℕ) (gone : ℕ) (instances : List (ℕ × ℕ)) where
  out_by : (scope : Scope) (o : Option (ℕ × ℕ)) (ps : Scope) → list_any (covers scope) (with_place (store_basis told gone instances) o ps) ≡ false → (is_outside scope o ≡ true) × (list_any (covers scope) ps ≡ false)
  out_by scope None ps e = (refl, e)
  out_by scope (Some p) ps e =
      (not_true (is_in scope p) (sym (in_is scope p) ∙ or_left (covers scope p) (list_any (covers scope) ps) e), or_right (covers scope p) (list_any (covers scope) ps) e)

  outside_all : (h : Holding) (ops : List Operation) → list_any (covers h.scope) (places (store_basis told gone instances) ops) ≡ false → LieBeside ops h
  outside_all h [] e = tt
  outside_all h (op ∷ ops) e = let r = out_by h.scope (place_of op) (places (store_basis told gone instances) ops) e in (r.0, outside_all h ops r.1)

  beside_by : (n : Entry Operation) (hs : List Holding) (ops : List Operation) (b : Bool) → (b ≡ true → list_any (covers n.scope) (places (store_basis told gone instances) ops) ≡ false)
      → AllByRecursion (LieBeside ops) hs → AllByRecursion (LieBeside ops) (holdings_by b n hs)
  beside_by n hs ops true e a = (outside_all (record { scope = n.scope; ops = ops_of n }) ops (e refl), a)
  beside_by n hs ops false e a = a

  pub lie_beside : (ns : List (Entry Operation)) (ops : List Operation) → any_taken (bares ns) (places (store_basis told gone instances) ops) ≡ false → AllByRecursion (LieBeside ops) (holdings ns)
  lie_beside [] ops e = tt
  lie_beside (n ∷ ns) ops e =
      let ps = places (store_basis told gone instances) ops in
      beside_by n (holdings ns) ops (is_held n.state) (λ h. not_own (bare n) (bares ns) ps h e) (lie_beside ns ops (less_taken (bare n) (bares ns) ps e))

-- ---- a rest
abbrev or_refused : Stored → Stored × ℕ → Bool → Stored × ℕ
or_refused s r inside = if inside then r else (s, invalid_parameters)

sixteen : ◌≡◌ {A = ℕ} 16 0 → ⊥
sixteen e = omega (arith, e)

inside_if : (s : Stored) (r : Stored × ℕ) (b : Bool) → (or_refused s r b).1 ≡ 0 → (b ≡ true) × (or_refused s r b ≡ r)
inside_if s r true e = (refl, refl)
inside_if s r false e = absurd (sixteen e)

clean_inside : (scope : Scope) (s : Stored) (ops : List Operation) → Clean (exec.within scope) s ops → LieIn scope ops × (folded (exec.within scope) s ops ≡ folded applied s ops)
clean_inside scope s [] k = (tt, refl)
clean_inside scope s (op ∷ ops) k =
    let w = inside_if s (applied s op) (is_inside scope (place_of op)) k.0 in
    let r = clean_inside scope (exec.within scope s op).0 ops k.1 in
    ((w.0, r.0), r.1 ∙ ap (λ (x : Stored × ℕ). folded applied x.0 ops) w.1)

clean_codes : (scope : Scope) (s : Stored) (ops : List Operation) → Clean (exec.within scope) s ops → codes_of (exec.within scope) s ops ≡ replicate (length ops) 0
clean_codes scope s [] k = refl
clean_codes scope s (op ∷ ops) k = λ i. k.0 i ∷ clean_codes scope (exec.within scope s op).0 ops k.1 i

none_refused : (scope : Scope) (s : Stored) (ops : List Operation) → Clean (exec.within scope) s ops → first_refused (exec.within scope) s ops ≡ None
none_refused scope s ops k = ap (position (λ code. not (code == 0))) (clean_codes scope s ops k) ∙ position_none (length ops)

pub rest_inside : (scope : Scope) (s : Stored) (ops : List Operation) → first_code (outcome (exec.within scope) AllOrNone s ops).codes ≡ 0 → LieIn scope ops
rest_inside scope s ops e = (clean_inside scope s ops (clean_rest_codes (exec.within scope) s ops e)).0

pub rest_done : (scope : Scope) (s : Stored) (ops : List Operation) → first_code (outcome (exec.within scope) AllOrNone s ops).codes ≡ 0 → (outcome (exec.within scope) AllOrNone s ops).state ≡ folded applied s ops
rest_done scope s ops e =
    let k = clean_rest_codes (exec.within scope) s ops e in
    ap (λ o. (outcome_by (exec.within scope) o AllOrNone s ops).state) (none_refused scope s ops k) ∙ (clean_inside scope s ops k).1

first_zero : (n : ℕ) → first_code (replicate n 0) ≡ 0
first_zero zero = refl
first_zero (suc n) = first_zero n

left_by : (scope : Scope) (s : Stored) (ops : List Operation) (o : Option ℕ) → first_code (outcome_by (exec.within scope) o AllOrNone s ops).codes ≢ 0 → (outcome_by (exec.within scope) o AllOrNone s ops).state ≡ s
left_by scope s ops None bad = absurd (bad (first_zero (length ops)))
left_by scope s ops (Some at) bad = refl

pub rest_left : (scope : Scope) (s : Stored) (ops : List Operation) → first_code (outcome (exec.within scope) AllOrNone s ops).codes ≢ 0 → (outcome (exec.within scope) AllOrNone s ops).state ≡ s
rest_left scope s ops bad = left_by scope s ops (first_refused (exec.within scope) s ops) bad

pub rest_is : (told : Notice → ℕ) (gone : ℕ) (instances : List (ℕ × ℕ)) (el : Element Stored Operation (List Subscription)) (scope : Scope) (ops : List Operation) → IsSettled el.settled
    → (outcome (exec.within scope) AllOrNone (standing el.settled (holdings el.records)) ops).codes ≡ rest_codes (store_basis told gone instances) el scope ops
rest_is told gone instances el scope ops a =
    let p : machine.within (store_basis told gone instances) scope ≡ exec.within scope = λ i s op. within_is told gone instances scope s op i in
    copied_codes scope AllOrNone (standing el.settled (holdings el.records)) ops
    ∙ ap (λ t. (outcome (exec.within scope) AllOrNone t ops).codes) (element_works told gone instances el a)
    ∙ sym (ap (λ (e : Stored → Operation → Stored × ℕ). (outcome e AllOrNone (working (store_basis told gone instances) el) ops).codes) p)
