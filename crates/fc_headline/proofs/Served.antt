-- What an element does with a message of a clean round.
use Rattle.std.proofs.Common.{◌≡◌, ℕ, zero, suc, ◌+◌, ◌≤◌, ◌==◌, not, Bool, true, false, cond, List, [], ◌∷◌, ◌++◌, append-nil, length, replicate, Option, Some, None, is_some, eqb-true, eq-eqb, refl, sym, ap, ◌∙◌, subst, arith}
use Rattle.std.specs.FinMap.{contains_key, insert, get, get-insert}
use Rattle.std.specs.List.{AllByRecursion}
use Rattle.std.proofs.lemmas.Cmp.{nat_cmp_total, eq_by_cmp_equiv}
use Rattle.fc_agreement.specs.CleanRound.{Smooth}
use Rattle.fc_assoc.specs.Associations.{AssociationMap, renewed, heard_at}
use Rattle.fc_assoc.specs.declared.heard.Heard.{Heard}
use Rattle.fc_base.specs.Ids.{Txn}
use Rattle.fc_modes.specs.declared.mode.Mode.TheVariants.{AllOrNone}
use Rattle.fc_headline.specs.CleanRound.{changes_to}
use Rattle.fc_headline.specs.Folds.{Clean}
use Rattle.fc_headline.proofs.Blocks.{clean_first, clean_rest}
use Rattle.fc_headline.proofs.Held.{bares_written}
use Rattle.fc_headline.proofs.Kept.{ops_own, ops_rest}
use Rattle.fc_headline.proofs.Rounds.{clean_code, next_succeeds}
use Rattle.fc_headline.proofs.Scopes.{Lies, Fine, Disjoint}
use Rattle.fc_machine.specs.ElementMachine.{Arrived, responds, notices_to, acts, by_mode, by_verdict, heard_from, is_ce, step, takes}
use Rattle.fc_machine.specs.ElementState.{Entry, Element, ops_of, ops_at, written, rest_added, and_rest, working, noted, bares, first_code}
use Rattle.fc_machine.specs.Ground.{Place, Ground, Lawful, inside_by}
use Rattle.fc_machine.specs.Messages.{Configuring, Answer, Configure}
use Rattle.fc_machine.specs.Transactions.{Did, checked, checked_shown, shown_of, within, is_completed, all_in, rest_codes, turned, and_adds, and_completes, starts, continues, prepares, completes, executes, scope_at}
use Rattle.fc_machine.specs.Views.{scope_of, rest_of, quiet_by, circumstance, by_fence, of_mode, peers_of, circumstance_of}
use Rattle.fc_machine.specs.WorldSteps.{Fitting, Spelled, parcels}
use Rattle.fc_protocol.specs.ElementMachine.{admits}
use Rattle.fc_protocol.specs.Fence.{judge}
use Rattle.fc_protocol.specs.Floors.{is_below}
use Rattle.fc_protocol.specs.Messages.{same, Body, Sot, Mot, Eot, Trcomp, claim_of}
use Rattle.fc_protocol.specs.Phases.{opening, adding, preparing, settling}
use Rattle.fc_protocol.specs.Records.{state_of, clashes, is_packed}
use Rattle.fc_protocol.specs.Scopes.{Scope}
use Rattle.fc_protocol.specs.declared.states.Decision.TheVariants.{Complete}
use Rattle.fc_protocol.specs.declared.states.TxnState.{TxnState}
use Rattle.fc_protocol.specs.declared.states.TxnState.TheVariants.{Started, Prepared, Completed}
use Rattle.fc_protocol.specs.declared.verdict.Verdict.TheVariants.{Next}
use Rattle.fc_protocol.proofs.Basics.{AllOf, cond_true, cond_false, same_self}
use Rattle.fc_protocol.proofs.Records.{state_written}

-- Records

no_ops_if : {Op : Type 0} (b : Bool) (s : TxnState) (o : Option TxnState) (xs ys : List Op) → cond b (Some s) o ≡ None → (o ≡ None → ys ≡ []) → cond b xs ys ≡ []
no_ops_if true s o xs ys e r = cc
no_ops_if false s o xs ys e r = r e

-- what has no record has no operations
pub no_ops : {Op : Type 0} (x : Txn) (ns : List (Entry Op)) → state_of x (bares ns) ≡ None → ops_at x ns ≡ []
no_ops x [] e = refl
no_ops x (n ∷ ns) e = no_ops_if (same x n.txn) n.state (state_of x (bares ns)) (ops_of n) (ops_at x ns) e (λ i. no_ops x ns i)

scope_new_if : {Op : Type 0} (b : Bool) (x : Txn) (sc : Scope) (n : Entry Op) (ns first rest : List (Entry Op)) → same x n.txn ≡ b → cond b (Some n.state) (state_of x (bares ns)) ≡ None → (state_of x (bares ns) ≡ None → scope_at x rest ≡ sc)
    → scope_at x (cond b first (n ∷ rest)) ≡ sc
scope_new_if true x sc n ns first rest e k r = cc
scope_new_if false x sc n ns first rest e k r = cond_false (same x n.txn) n.scope (scope_at x rest) e ∙ r k

-- a new record has its scope
scope_new : {Op : Type 0} (x : Txn) (ps : List ℕ) (sc : Scope) (s : TxnState) (ns : List (Entry Op)) → state_of x (bares ns) ≡ None → scope_at x (written x ps sc s ns) ≡ sc
scope_new x ps sc s [] e = cond_true (same x x) sc [] (same_self x)
scope_new x ps sc s (n ∷ ns) e = scope_new_if (same x n.txn) x sc n ns _ (written x ps sc s ns) refl (head_state (same x n.txn) e) (λ i. scope_new x ps sc s ns i)
  where
    head_state : (b : Bool) → cond b (Some n.state) (state_of x (bares ns)) ≡ None → cond b (Some n.state) (state_of x (bares ns)) ≡ None
    head_state b k = k

scope_rest_if : {Op : Type 0} (b : Bool) (x : Txn) (ops : List Op) (n : Entry Op) (ns rest : List (Entry Op)) → scope_at x rest ≡ scope_at x ns
    → scope_at x (cond b (record { txn = n.txn; state = n.state; participants = n.participants; scope = n.scope; rests = and_rest n.rests ops } ∷ ns) (n ∷ rest)) ≡ cond (same x n.txn) n.scope (scope_at x ns)
scope_rest_if true x ops n ns rest r = refl
scope_rest_if false x ops n ns rest r = ap (cond (same x n.txn) n.scope) r

-- an added rest leaves the scope
scope_rest : {Op : Type 0} (x : Txn) (ops : List Op) (ns : List (Entry Op)) → scope_at x (rest_added x ops ns) ≡ scope_at x ns
scope_rest x ops [] = refl
scope_rest x ops (n ∷ ns) = scope_rest_if (same x n.txn) x ops n ns (rest_added x ops ns) (scope_rest x ops ns)

-- the state of what was written
own_state : {Op : Type 0} (x : Txn) (ps : List ℕ) (sc : Scope) (s : TxnState) (ns : List (Entry Op)) → state_of x (bares (written x ps sc s ns)) ≡ Some s
own_state x ps sc s ns = ap (state_of x) (bares_written x ps sc s ns) ∙ state_written x x ps sc s (bares ns) ∙ cond_true (same x x) (Some s) _ (same_self x)

-- Associations

-- what is renewed is there
pub still_there : (a : AssociationMap) (source peer clock : ℕ) → contains_key a source ≡ true → contains_key (renewed a source peer clock) source ≡ true
still_there a source peer clock e =
    ap (λ (m : AssociationMap). contains_key m source) (cond_true (contains_key a source) (insert a source (heard_at clock peer)) a e)
    ∙ ap (λ (o : Option Heard). is_some o) (get-insert nat_cmp_total a source (heard_at clock peer) source ∙ cond_true _ (Some (heard_at clock peer)) (get a source) ((eq_by_cmp_equiv nat_cmp_total).refl source))

-- What is said

outs_notices : {Op : Type 0} (x : Txn) (f : ℕ → ℕ → List Op) (p : ℕ) (h : Option Heard) (ns : List ℕ) → AllOf (Spelled x f) (parcels p (notices_to {Op = Op} h ns))
outs_notices x f p None ns = tt
outs_notices x f p (Some h) [] = tt
outs_notices x f p (Some h) (n ∷ ns) = (tt, outs_notices x f p (Some h) ns)

-- an element sends no Config
pub outs_spelled : {Op : Type 0} (x : Txn) (f : ℕ → ℕ → List Op) (p k : ℕ) (a : Option Answer) (h : Option Heard) (ns : List ℕ) → AllOf (Spelled x f) (parcels p (responds {Op = Op} k a ++ notices_to h ns))
outs_spelled x f p k None h ns = outs_notices x f p h ns
outs_spelled x f p k (Some a) h ns = (tt, outs_notices x f p h ns)

-- Changes

less_or : (a b : ℕ) → a ≤ suc b → (a == suc b) ≡ false → a ≤ b
less_or a b l e = let w : a ≡ suc b → ⊥ = λ i. let t : true ≡ false = sym (eq-eqb a (suc b) i) ∙ e in absurd {A = ⊥} cc in grind arith

-- what holds of the changes to one holds of those to each before it
up_to : {Op : Type 0} (P : List Op → Type 0) (f : ℕ → List Op) (b : Bool) (d n : ℕ) → (d == suc n) ≡ b → P (changes_to f (suc n)) → ((d == suc n) ≡ false → P (changes_to f d)) → P (changes_to f d)
up_to P f true d n e k r = subst (λ v. P (changes_to f v)) (sym (eqb-true d (suc n) e)) k
up_to P f false d n e k r = r e

changes_down : {Op : Type 0} (P : List Op → Type 0) (f : ℕ → List Op) → ((xs ys : List Op) → P (xs ++ ys) → P xs) → (d n : ℕ) → d ≤ n → P (changes_to f n) → P (changes_to f d)
changes_down P f h d zero l k = let z : d ≡ 0 = omega arith in subst (λ v. P (changes_to f v)) (sym z) k
changes_down P f h d (suc n) l k = up_to P f (d == suc n) d n refl k (λ e. changes_down P f h d n (less_or d n l e) (h (changes_to f n) (f (suc n)) k))

all_left : {A : Type 0} (P : A → Type 0) (xs ys : List A) → AllByRecursion P (xs ++ ys) → AllByRecursion P xs
all_left P [] ys a = tt
all_left P (x ∷ xs) ys a = (a.0, all_left P xs ys a.1)

all_right : {A : Type 0} (P : A → Type 0) (xs ys : List A) → AllByRecursion P (xs ++ ys) → AllByRecursion P ys
all_right P [] ys a = a
all_right P (x ∷ xs) ys a = all_right P xs ys a.1

module _ {Config Op Subs : Type 0} (g : Ground Config Op Subs) where
  -- a response is sent to what asks for it always
  abbrev pub Loud : Did Config Op Subs → Type 0
  Loud d = quiet_by 3 d.codes d.shown ≡ false

  adds_loud : (b : Bool) (p : ℕ) (x : Txn) (ops : List Op) (d : Did Config Op Subs) → Loud d → Loud (and_adds g b p x ops d)
  adds_loud true p x ops d l = l
  adds_loud false p x ops d l = l

  completes_loud : (b : Bool) (el : Element Config Op Subs) (x : Txn) (d : Did Config Op Subs) → Loud d → Loud (and_completes g b el x d)
  completes_loud true el x d l = l
  completes_loud false el x d l = l

  checked_loud : (b : Bool) (codes cs hs : List ℕ) (check : ℕ) → quiet_by 3 codes (cond b (0 ∷ cs) (check ∷ hs)) ≡ false
  checked_loud true codes cs hs check = refl
  checked_loud false codes cs hs check = refl

  -- the circumstance of a message that asks for a response always
  pub smooth_of : (el : Element Config Op Subs) (m : Configuring Op) (b : Body) (plains others : List ℕ) (d : Did Config Op Subs) → m.ack ≡ 3 → Loud d → all_in g (scope_of b) ≡ true → rest_of g el m b ≡ 0 → Smooth (circumstance g el m b plains d.codes d.shown others)
  smooth_of el m b plains others d a l i r = record { heard = refl; fits = refl; answers = ap (λ v. quiet_by v d.codes d.shown) a ∙ l; known = ap not i; succeeds = r }

  module _ (p k source : ℕ) (el : Element Config Op Subs) (m : Configuring Op) (fit : Fitting m) (known : is_ce g source ≡ true) (heard : contains_key el.associations source ≡ true) (next : judge el.epoch el.master el.sequence source m.stamp (claim_of m.body) ≡ Next) where
    abbrev pub now : Element Config Op Subs
    now = heard_from g el source k

    -- the next Config of an associated master is taken
    pub takes_is : step g p el (Arrived k source (Configure m)) ≡ takes g now k m (acts g p now m AllOrNone m.body)
    takes_is =
        cond_true (is_ce g source) _ _ known ∙ cond_true (contains_key el.associations source) _ _ heard ∙ cond_false m.lost _ _ fit.lost ∙ cond_false m.astray _ _ fit.astray
        ∙ ap (by_mode g p el k source m) fit.mode ∙ ap (by_verdict g p el k source m AllOrNone) next

    abbrev pub did_now : Did Config Op Subs
    did_now = acts g p now m AllOrNone m.body

    pub circumstance_is : circumstance_of g p el k source (Configure m) ≡ circumstance g now m m.body (executes g p now m AllOrNone).shown did_now.codes did_now.shown (peers_of (get now.associations now.ce) did_now.notices)
    circumstance_is =
        cond_true (is_ce g source) _ _ known ∙ cond_true (contains_key el.associations source) _ _ heard ∙ cond_false m.lost _ _ fit.lost ∙ cond_false m.astray _ _ fit.astray
        ∙ ap (of_mode g p el k source m) fit.mode ∙ ap (by_fence g p now source m AllOrNone) next

  -- what has been done to the element, as far as the round goes: until it has completed x its settled configuration is this one, and while x is started the changes so far have been added to it, in its scope
  pub record Served (x : Txn) (sc : Scope) (f : ℕ → List Op) (c : Config) (last sequence : ℕ) (settled : Config) (records : List (Entry Op)) : Type 0 where
    pub kept : (state_of x (bares records) ≡ Some Completed → ⊥) → settled ≡ c
    pub added : state_of x (bares records) ≡ Some Started → (d : ℕ) → sequence ≡ last + 1 + d → (ops_at x records ≡ changes_to f d) × (scope_at x records ≡ sc)

  -- a message of the round: its circumstance is smooth, and it serves the element
  pub record Serves (p : ℕ) (el : Element Config Op Subs) (m : Configuring Op) (b : Body) (x : Txn) (sc : Scope) (f : ℕ → List Op) (c : Config) (last : ℕ) : Type 0 where
    pub loud : Loud (acts g p el m AllOrNone b)
    pub instances : all_in g (scope_of b) ≡ true
    pub succeeds : rest_of g el m b ≡ 0
    pub served : Served x sc f c last (el.sequence + 1) (acts g p el m AllOrNone b).settled (acts g p el m AllOrNone b).records

  -- SOT

  abbrev start_at : ℕ → Element Config Op Subs → Txn → List ℕ → Scope → List Op → List ℕ → Bool → Bool → Bool → Bool → ℕ → Option TxnState → Did Config Op Subs
  start_at p el x ps sc ops codes fits below clash full rest s =
      let t = opening fits below clash full rest s in
      and_adds g (t.code == 0) p x ops (turned g p el x ps sc t (checked (opening fits below clash full 0 s).code codes (length ops)) (checked_shown g.is_shown ops (opening fits below clash full 0 s).code codes))

  start_loud : (p : ℕ) (el : Element Config Op Subs) (x : Txn) (ps : List ℕ) (sc : Scope) (ops : List Op) → Loud (starts g p el x ps sc ops)
  start_loud p el x ps sc ops =
      let codes = rest_codes g el sc ops in
      let s = state_of x (bares el.records) in
      let turn = opening (admits p el.epoch x ps (not (all_in g sc)) sc) (is_below x el.floor) (clashes sc (bares el.records)) (is_packed (bares el.records)) in
      let t = turn (first_code codes) s in
      let check = (turn 0 s).code in
      adds_loud (t.code == 0) p x ops (turned g p el x ps sc t (checked check codes (length ops)) (checked_shown g.is_shown ops check codes))
      (checked_loud (check == 0) (checked check codes (length ops)) (shown_of g.is_shown ops codes) (shown_of g.is_shown ops (replicate (length ops) 255)) check)

  module _ (law : Lawful g) (p : ℕ) (el : Element Config Op Subs) (m : Configuring Op) (x : Txn) (sc : Scope) (f : ℕ → List Op) (c : Config) (last : ℕ) where
    rest_empty : first_code (rest_codes g el sc []) ≡ 0
    rest_empty = clean_code g law (within g sc) (working g el) [] tt

    pub sot_serves : (ps : List ℕ) → m.ops ≡ [] → all_in g sc ≡ true → admits p el.epoch x ps false sc ≡ true → is_below x el.floor ≡ false → clashes sc (bares el.records) ≡ false → is_packed (bares el.records) ≡ false → state_of x (bares el.records) ≡ None
        → el.sequence ≡ last → el.settled ≡ c → Serves p el m (Sot x ps sc) x sc f c last
    sot_serves ps none known a b h r s n k =
        let codes = rest_codes g el sc [] in
        let go = start_at p el x ps sc [] codes in
        let fits : admits p el.epoch x ps (not (all_in g sc)) sc ≡ true = ap (λ v. admits p el.epoch x ps (not v) sc) known ∙ a in
        let same : starts g p el x ps sc m.ops ≡ go true false false false 0 None =
        ap (starts g p el x ps sc) none ∙ ap (λ v. go v (is_below x el.floor) (clashes sc (bares el.records)) (is_packed (bares el.records)) (first_code codes) (state_of x (bares el.records))) fits
        ∙ ap (λ v. go true v (clashes sc (bares el.records)) (is_packed (bares el.records)) (first_code codes) (state_of x (bares el.records))) b ∙ ap (λ v. go true false v (is_packed (bares el.records)) (first_code codes) (state_of x (bares el.records))) h
        ∙ ap (λ v. go true false false v (first_code codes) (state_of x (bares el.records))) r ∙ ap (λ v. go true false false false v (state_of x (bares el.records))) rest_empty ∙ ap (λ v. go true false false false 0 v) s in
        let new = written x ps sc Started el.records in
        let ops : ops_at x (rest_added x [] new) ≡ [] = ops_rest x [] new Started (own_state x ps sc Started el.records) ∙ append-nil (ops_at x new) ∙ ops_own x ps sc Started el.records refl ∙ no_ops x el.records s in
        record {
          loud = start_loud p el x ps sc m.ops;
          instances = known;
          succeeds = ap (λ v. first_code (rest_codes g el sc v)) none ∙ rest_empty;
          served = subst (λ (d : Did Config Op Subs). Served x sc f c last (el.sequence + 1) d.settled d.records) (sym same) (record {
            kept = λ _. k;
            added = λ _ d e. (let z : d ≡ 0 = omega arith in ops ∙ ap (changes_to f) (sym z), scope_rest x [] new ∙ scope_new x ps sc Started el.records s);
          });
        }

    -- MOT

    abbrev add_at : List Op → List ℕ → ℕ → Option TxnState → Did Config Op Subs
    add_at ops codes rest s = let t = adding rest s in and_adds g (t.code == 0) p x ops (turned g p el x [] [] t (checked (adding 0 s).code codes (length ops)) (checked_shown g.is_shown ops (adding 0 s).code codes))

    lies_of : (e : Config) (ops : List Op) → Clean g.effect e ops → AllByRecursion (λ op. inside_by sc (g.place_of op) ≡ true) ops → AllOf (Lies g sc) ops
    lies_of e [] z a = tt
    lies_of e (op ∷ ops) z a = (by_place (g.place_of op) refl a.0, lies_of (g.effect e op).0 ops z.1 a.1)
      where
        by_place : (o : Option Place) → g.place_of op ≡ o → inside_by sc o ≡ true → Lies g sc op
        by_place None i j = absurd (law.placeless e op i z.0)
        by_place (Some q) i j = (q, i, j)

    pub mot_serves : (d n : ℕ) → m.ops ≡ f (suc d) → suc d ≤ n → state_of x (bares el.records) ≡ Some Started → AllOf (Fine g) el.records → Disjoint g el.records → Served x sc f c last el.sequence el.settled el.records → el.sequence ≡ last + 1 + d
        → Clean g.effect c (changes_to f n) → AllByRecursion (λ op. inside_by sc (g.place_of op) ≡ true) (changes_to f n) → Serves p el m (Mot x (suc d)) x sc f c last
    mot_serves d n those low s fine apart served seq clean inside =
        let codes = rest_codes g el (scope_at x el.records) m.ops in
        let st = state_of x (bares el.records) in
        let check = (adding 0 st).code in
        let was = served.added s d seq in
        let same_c : el.settled ≡ c = served.kept (λ e. let t : Some Started ≡ Some Completed = sym s ∙ e in absurd {A = ⊥} cc) in
        let all : Clean g.effect c (changes_to f d ++ f (suc d)) = changes_down (Clean g.effect c) f (clean_first g.effect c) (suc d) n low clean in
        let mine : AllByRecursion (λ op. inside_by sc (g.place_of op) ≡ true) (f (suc d)) = all_right _ (changes_to f d) (f (suc d)) (changes_down (AllByRecursion (λ op. inside_by sc (g.place_of op) ≡ true)) f (all_left _) (suc d) n low inside) in
        let lies : AllOf (Lies g sc) (f (suc d)) = lies_of _ (f (suc d)) (clean_rest g.effect c (changes_to f d) (f (suc d)) all) mine in
        let zero_code : first_code codes ≡ 0 =
        next_succeeds g law el x Started m.ops refl s fine apart (subst (λ v. AllOf (Lies g v) m.ops) (sym was.1) (subst (AllOf (Lies g sc)) (sym those) lies))
        (subst (λ v. Clean g.effect v (ops_at x el.records ++ m.ops)) (sym same_c) (subst (λ v. Clean g.effect c (v ++ m.ops)) (sym was.0) (subst (λ v. Clean g.effect c (changes_to f d ++ v)) (sym those) all))) in
        let same : continues g p el x m.ops ≡ add_at m.ops codes 0 (Some Started) = ap (λ v. add_at m.ops codes v (state_of x (bares el.records))) zero_code ∙ ap (add_at m.ops codes 0) s in
        record {
          loud = adds_loud ((adding (first_code codes) st).code == 0) p x m.ops (turned g p el x [] [] (adding (first_code codes) st) (checked check codes (length m.ops)) (checked_shown g.is_shown m.ops check codes))
              (checked_loud (check == 0) (checked check codes (length m.ops)) (shown_of g.is_shown m.ops codes) (shown_of g.is_shown m.ops (replicate (length m.ops) 255)) check);
          instances = refl;
          succeeds = zero_code;
          served = subst (λ (v : Did Config Op Subs). Served x sc f c last (el.sequence + 1) v.settled v.records) (sym same) (record {
            kept = λ _. same_c;
            added = λ _ o e. (
              let z : o ≡ suc d = omega arith in ops_rest x m.ops el.records Started s ∙ ap (λ v. v ++ m.ops) was.0 ∙ ap (λ v. changes_to f d ++ v) those ∙ ap (changes_to f) (sym z),
              scope_rest x m.ops el.records ∙ was.1,
            );
          });
        }

    -- EOT and TRCOMP

    pub eot_serves : state_of x (bares el.records) ≡ Some Started → Served x sc f c last el.sequence el.settled el.records → Serves p el m (Eot x) x sc f c last
    eot_serves s served =
        let same : (prepares g p el x).records ≡ written x [] [] Prepared el.records = ap (λ v. noted x [] [] (preparing v).new el.records) s in
        let now_is : state_of x (bares (prepares g p el x).records) ≡ Some Prepared = ap (λ v. state_of x (bares v)) same ∙ own_state x [] [] Prepared el.records in
        record {
          loud = refl;
          instances = refl;
          succeeds = refl;
          served = record {
            kept = λ _. served.kept (λ e. let t : Some Started ≡ Some Completed = sym s ∙ e in absurd {A = ⊥} cc);
            added = λ e. let t : Some Prepared ≡ Some Started = sym now_is ∙ e in cc;
          };
        }

    pub trcomp_serves : state_of x (bares el.records) ≡ Some Prepared → Serves p el m (Trcomp x) x sc f c last
    trcomp_serves s =
        let t = settling Complete (state_of x (bares el.records)) in
        let d = turned g p el x [] [] t (t.code ∷ []) (t.code ∷ []) in
        let same : (completes g p el x).records ≡ written x [] [] Completed el.records = records_same (is_completed t.new) d ∙ ap (λ v. noted x [] [] (settling Complete v).new el.records) s in
        let now_is : state_of x (bares (completes g p el x).records) ≡ Some Completed = ap (λ v. state_of x (bares v)) same ∙ own_state x [] [] Completed el.records in
        record {
          loud = completes_loud (is_completed t.new) el x d refl;
          instances = refl;
          succeeds = refl;
          served = record {
            kept = λ n. absurd (n now_is);
            added = λ e. let z : Some Completed ≡ Some Started = sym now_is ∙ e in cc;
          };
        }
      where
        records_same : (b : Bool) (d : Did Config Op Subs) → (and_completes g b el x d).records ≡ d.records
        records_same true d = refl
        records_same false d = refl
