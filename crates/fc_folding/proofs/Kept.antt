-- What is kept of transactions, as pairs: of each its name, its mark and its operations.
use Rattle.std.proofs.Common.{◌≡◌, ℕ, Bool, true, false, cond, not, List, [], ◌∷◌, ◌++◌, map, filter, Option, Some, None, option_map, refl, sym, ap, ◌∙◌, append-nil, if◌then◌else◌}
use Rattle.std.proofs.lemmas.Grind.{flat_map-append}
use Rattle.std.proofs.lemmas.List.{map-append}
use Rattle.std.specs.List.{flat_map}
use Rattle.fc_base.specs.Ids.{Txn}
use Rattle.fc_exec.specs.Operations.{operations}
use Rattle.fc_exec.specs.declared.operations.Operation.{Operation}
use Rattle.fc_folding.specs.Folding.{ops_of}
use Rattle.fc_holding.specs.Holdings.{all_undone, extended, found, is_started_in, not_started, over_held, undone_one, with_rest, without}
use Rattle.fc_holding.specs.declared.holding.Holding.{Holding}
use Rattle.fc_machine.specs.ElementState.{and_rest}
use Rattle.fc_path.specs.declared.oper.Select.{Select}
use Rattle.fc_protocol.specs.Messages.{same}
use Rattle.fc_protocol.specs.Records.{state_of}
use Rattle.fc_protocol.specs.declared.answers.TxnEntry.{TxnEntry}
use Rattle.fc_store.specs.Stores.{Stored, Tree, gone_back, over_mark}

abbrev pub Kept : Type 0
Kept = Txn × (List (ℕ × ℕ) × List Operation)

abbrev pub view : Holding → Kept
view h = (h.txn, (h.mark, ops_of h))

abbrev pub views : List Holding → List Kept
views hs = map view hs

-- ---- the one of x
abbrev pub find_in : Txn → List Kept → Option Kept
find_in x [] = None
find_in x (k ∷ ks) = if same x k.0 then Some k else find_in x ks

abbrev pub leave : Txn → List Kept → List Kept
leave x [] = []
leave x (k ∷ ks) = if same x k.0 then ks else k ∷ leave x ks

abbrev pub more_ops : List Operation → Kept → Kept
more_ops ops k = (k.0, (k.1.0, k.1.1 ++ ops))

abbrev pub extend : Txn → List Operation → List Kept → List Kept
extend x ops [] = []
extend x ops (k ∷ ks) = if same x k.0 then more_ops ops k ∷ ks else k ∷ extend x ops ks

found_by : (x : Txn) (h : Holding) (hs : List Holding) (b : Bool) → option_map view (found x hs) ≡ find_in x (views hs) → option_map view (cond b (Some h) (found x hs)) ≡ cond b (Some (view h)) (find_in x (views hs))
found_by x h hs true e = refl
found_by x h hs false e = e

pub found_view : (x : Txn) (hs : List Holding) → option_map view (found x hs) ≡ find_in x (views hs)
found_view x [] = refl
found_view x (h ∷ hs) = found_by x h hs (same x h.txn) (found_view x hs)

without_by : (x : Txn) (h : Holding) (hs : List Holding) (b : Bool) → views (without x hs) ≡ leave x (views hs) → views (cond b hs (h ∷ without x hs)) ≡ cond b (views hs) (view h ∷ leave x (views hs))
without_by x h hs true e = refl
without_by x h hs false e = ap (λ ks. view h ∷ ks) e

pub without_view : (x : Txn) (hs : List Holding) → views (without x hs) ≡ leave x (views hs)
without_view x [] = refl
without_view x (h ∷ hs) = without_by x h hs (same x h.txn) (without_view x hs)

rests_more : (rests : List (List Select)) (rest : List Select) → flat_map operations (and_rest rests rest) ≡ flat_map operations rests ++ operations rest
rests_more rests [] = sym (append-nil (flat_map operations rests))
rests_more rests (s ∷ ss) = flat_map-append operations rests ((s ∷ ss) ∷ []) ∙ ap (λ ops. flat_map operations rests ++ ops) (append-nil (operations (s ∷ ss)))

pub first_rest : (rest : List Select) → flat_map operations (and_rest [] rest) ≡ operations rest
first_rest rest = rests_more [] rest

extended_view : (rest : List Select) (h : Holding) → view (extended rest h) ≡ more_ops (operations rest) (view h)
extended_view rest h = ap (λ (ops : List Operation). (h.txn, (h.mark, ops))) (rests_more h.rests rest)

with_rest_by : (x : Txn) (rest : List Select) (h : Holding) (hs : List Holding) (b : Bool) → views (with_rest x rest hs) ≡ extend x (operations rest) (views hs)
    → views (cond b (extended rest h ∷ hs) (h ∷ with_rest x rest hs)) ≡ cond b (more_ops (operations rest) (view h) ∷ views hs) (view h ∷ extend x (operations rest) (views hs))
with_rest_by x rest h hs true e = ap (λ k. k ∷ views hs) (extended_view rest h)
with_rest_by x rest h hs false e = ap (λ ks. view h ∷ ks) e

pub with_rest_view : (x : Txn) (rest : List Select) (hs : List Holding) → views (with_rest x rest hs) ≡ extend x (operations rest) (views hs)
with_rest_view x rest [] = refl
with_rest_view x rest (h ∷ hs) = with_rest_by x rest h hs (same x h.txn) (with_rest_view x rest hs)

pub views_more : (hs : List Holding) (h : Holding) → views (hs ++ h ∷ []) ≡ views hs ++ view h ∷ []
views_more hs h = map-append view hs (h ∷ [])

-- ---- a change at its mark
abbrev pub over_kept : (Tree → Tree) → Option Kept → Stored → Stored
over_kept change None s = s
over_kept change (Some k) s = over_mark change k.1.0 s

over_by : (change : Tree → Tree) (o : Option Holding) (s : Stored) → over_held change o s ≡ over_kept change (option_map view o) s
over_by change None s = refl
over_by change (Some h) s = refl

pub over_view : (change : Tree → Tree) (x : Txn) (hs : List Holding) (s : Stored) → over_held change (found x hs) s ≡ over_kept change (find_in x (views hs)) s
over_view change x hs s = over_by change (found x hs) s ∙ ap (λ o. over_kept change o s) (found_view x hs)

-- ---- a claim
abbrev pub is_going : List TxnEntry → Kept → Bool
is_going ms k = is_started_in (state_of k.0 ms)

abbrev pub stay : List TxnEntry → List Kept → List Kept
stay ms ks = filter (λ k. not (is_going ms k)) ks

stay_by : (ms : List TxnEntry) (h : Holding) (hs : List Holding) (b : Bool) → views (not_started ms hs) ≡ stay ms (views hs) → views (cond b (h ∷ not_started ms hs) (not_started ms hs)) ≡ cond b (view h ∷ stay ms (views hs)) (stay ms (views hs))
stay_by ms h hs true e = ap (λ ks. view h ∷ ks) e
stay_by ms h hs false e = e

pub stay_view : (ms : List TxnEntry) (hs : List Holding) → views (not_started ms hs) ≡ stay ms (views hs)
stay_view ms [] = refl
stay_view ms (h ∷ hs) = stay_by ms h hs (not (is_going ms (view h))) (stay_view ms hs)

abbrev pub back_one : List TxnEntry → Kept → Stored → Stored
back_one ms k s = if is_going ms k then over_mark gone_back k.1.0 s else s

abbrev pub back_all : List TxnEntry → List Kept → Stored → Stored
back_all ms [] s = s
back_all ms (k ∷ ks) s = back_all ms ks (back_one ms k s)

pub back_view : (ms : List TxnEntry) (hs : List Holding) (s : Stored) → all_undone ms hs s ≡ back_all ms (views hs) s
back_view ms [] s = refl
back_view ms (h ∷ hs) s = back_view ms hs (undone_one ms h s)
