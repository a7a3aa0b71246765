-- Each change of a large run is one: it is of the grammar, and it fits in a message, as its response does.
use Rattle.std.proofs.Common.{◌≡◌, ◌≢◌, ℕ, ◌+◌, ◌*◌, ◌<◌, ◌≤◌, ◌&&◌, Bool, true, false, nat_lt, List, [], ◌∷◌, ◌++◌, length, map, None, Some, refl, sym, ap, ◌∙◌, subst, arith, rules, length-append}
use Rattle.std.specs.List.{AllByRecursion, flat_map}
use Rattle.std.proofs.lemmas.Option.{none-some}
use Rattle.fc_wire.specs.Bytes.{u16_bytes, u32_bytes}
use Rattle.fc_path.specs.Canon.{Written, after, body_written, joined, key_written, oper_written, path_written, plain, select_written, wrapped}
use Rattle.fc_path.specs.Proper.{ProperPath}
use Rattle.fc_path.specs.Results.{path_results, results_fit}
use Rattle.fc_path.specs.declared.oper.OperKind.TheVariants as kinds
use Rattle.fc_path.specs.declared.oper.OperKind.{OperKind}
use Rattle.fc_path.specs.declared.oper.Oper.TheVariants as oper
use Rattle.fc_path.specs.declared.oper.Select.{Select}
use Rattle.fc_path.specs.declared.path.PathData.{PathData, roll-PathData}
use Rattle.fc_path.specs.declared.path.Body.{Body, the_lemmas}
use Rattle.fc_path.specs.declared.path.Body.TheVariants as body
use Rattle.fc_path.proofs.Closing.{path_is}
use Rattle.fc_path.proofs.InGrammar.{full_is, outcome_is}
use Rattle.fc_path.proofs.Sizes.{tlv_size}
use Rattle.fc_msg.specs.Messages.{ProperSelects, message_fits, selects_written}
use Rattle.fc_msg.specs.MessageTypes as types
use Rattle.fc_plans.specs.declared.fault.ChangeFault.{ChangeFault}
use Rattle.fc_plans.specs.declared.fault.ChangeFault.TheVariants as faults
use Rattle.fc_plans.specs.Changes.{carrying, change_fault, no_name}
use Rattle.fc_plans.specs.Mastership.{behind, on_mastership, sets}
use Rattle.fc_scripts.specs.Steps.{numbers_from}
use Rattle.fc_generated.specs.Transactions.{change, row, row_path, rows}

-- ---- what has few bytes
abbrev Few : ℕ → Written → Type 0
Few n w = (w.fits ≡ true) × (length w.text ≤ n)

both : (a b : Bool) → a ≡ true → b ≡ true → (a && b) ≡ true
both true b h k = k
both false b h k = cc

below : (m n : ℕ) → m < n → nat_lt m n ≡ true
below m n h = grind arith

wrapped_few : (kind n : ℕ) (w : Written) → n < 65532 → Few n w → Few (n + 7) (wrapped kind w)
wrapped_few kind n w small h = (both _ _ (below (length w.text) 65532 (omega (arith, h.1, small))) h.0, omega (arith, tlv_size kind w.text, h.1))

after_few : (m n : ℕ) (v w : Written) → Few m v → Few n w → Few (m + n) (after v w)
after_few m n v w h k = (both _ _ h.0 k.0, omega (arith, length-append v.text w.text, h.1, k.1))

one_few : (n : ℕ) (w : Written) → Few n w → Few n (joined (w ∷ []))
one_few n w h = (both _ _ h.0 refl, omega (arith, length-append w.text [], h.1))

-- ---- paths
abbrev leaf : List ℕ → Body → PathData
leaf ids b = roll-PathData (record { ids = ids; key = None; body = b })

-- a path to a place, by so many bytes of IDs
path_few : (ids : List ℕ) (m n : ℕ) (b : Body) → length ids < 65536 → length (flat_map u32_bytes ids) ≤ m → Few n (body_written b) → m + n < 65000 → Few (m + n + 11) (path_written (leaf ids b))
path_few ids m n b few long h small =
    let inner : Written = record { text = u16_bytes 0 ++ u16_bytes (length ids) ++ flat_map u32_bytes ids ++ ((key_written None).text ++ (body_written b).text); fits = nat_lt (length ids) 65536 && ((key_written None).fits && (body_written b).fits) } in
    let held : Few (m + n + 4) inner = (both _ _ (below (length ids) 65536 few) h.0, omega (arith, length-append (flat_map u32_bytes ids) (body_written b).text, long, h.1)) in
    let whole = wrapped_few 272 (m + n + 4) inner (omega (arith, small)) held in
    subst (Few (m + n + 11)) (sym (path_is (leaf ids b))) (whole.0, omega (arith, whole.1))

full_few : (n : ℕ) (value : List ℕ) → length value ≤ n → n < 65532 → Few (n + 7) (body_written (body.Full value))
full_few n value h small = subst (Few (n + 7)) (sym (full_is value)) (wrapped_few 274 n (plain value) small (refl, h))

code_few : Few 11 (body_written (body.Outcome 0))
code_few = subst (Few 11) (sym (outcome_is 0)) (wrapped_few 276 4 (plain (0 ∷ 0 ∷ 0 ∷ 0 ∷ [])) (omega arith) (refl, omega arith))

-- ---- a row
row_few : (f s : ℕ) → Few 34 (path_written (row_path f s))
row_few f s = path_few (1 ∷ s ∷ []) 8 15 (body.Full (row f s)) (omega arith) (omega arith) (full_few 8 (row f s) (omega arith) (omega arith)) (omega arith)

rows_few : (f : ℕ) (ss : List ℕ) → Few (34 * length ss) (joined (map path_written (map (row_path f) ss)))
rows_few f [] = (refl, omega arith)
rows_few f (s ∷ ss) =
    let all = after_few 34 (34 * length ss) (path_written (row_path f s)) (joined (map path_written (map (row_path f) ss))) (row_few f s) (rows_few f ss) in
    (all.0, omega (arith, all.1))

-- and its result
result_is : (ids value : List ℕ) → path_results (leaf ids (body.Full value)) ≡ leaf ids (body.Outcome 0)
result_is ids value = search (rules, the_lemmas)

answer_few : (f s : ℕ) → Few 34 (path_written (path_results (row_path f s)))
answer_few f s =
    let held = path_few (1 ∷ s ∷ []) 8 11 (body.Outcome 0) (omega arith) (omega arith) code_few (omega arith) in
    subst (λ p. Few 34 (path_written p)) (sym (result_is (1 ∷ s ∷ []) (row f s))) (held.0, omega (arith, held.1))

answers_few : (f : ℕ) (ss : List ℕ) → Few (34 * length ss) (joined (map path_written (map path_results (map (row_path f) ss))))
answers_few f [] = (refl, omega arith)
answers_few f (s ∷ ss) =
    let all = after_few 34 (34 * length ss) (path_written (path_results (row_path f s))) (joined (map path_written (map path_results (map (row_path f) ss)))) (answer_few f s) (answers_few f ss) in
    (all.0, omega (arith, all.1))

-- ---- one operation on paths
abbrev select_of : ℕ → OperKind → List PathData → Select
select_of class kind paths = record { class = class; instance = 1; opers = oper.Paths kind paths ∷ [] }

select_few : (class n : ℕ) (kind : OperKind) (paths : List PathData) → Few n (joined (map path_written paths)) → n < 60000 → Few (n + 22) (select_written (select_of class kind paths))
select_few class n kind paths h small =
    let written = wrapped_few _ n (joined (map path_written paths)) (omega (arith, small)) h in
    let opers = one_few (n + 7) (oper_written (oper.Paths kind paths)) written in
    let head = plain (u32_bytes class ++ u32_bytes 1) in
    let whole = wrapped_few 4096 (8 + (n + 7)) (after head (joined (oper_written (oper.Paths kind paths) ∷ []))) (omega (arith, small)) (after_few 8 (n + 7) head (joined (oper_written (oper.Paths kind paths) ∷ [])) (refl, omega arith) opers) in
    (whole.0, omega (arith, whole.1))

-- the name of a transaction, and what answers it
name_few : (value : List ℕ) → length value ≤ 8 → Few 52 (select_written (on_mastership (sets 5 value ∷ [])))
name_few value h =
    let paths = leaf (5 ∷ []) (body.Full value) ∷ [] in
    let one = path_few (5 ∷ []) 4 15 (body.Full value) (omega arith) (omega arith) (full_few 8 value h (omega arith)) (omega arith) in
    let whole = select_few 126977 30 kinds.Set paths (one_few 30 (path_written (leaf (5 ∷ []) (body.Full value))) one) (omega arith) in
    (whole.0, omega (arith, whole.1))

named_few : (value : List ℕ) → Few 52 (select_written (select_of 126977 kinds.SetResponse (path_results (leaf (5 ∷ []) (body.Full value)) ∷ [])))
named_few value =
    let one = path_few (5 ∷ []) 4 11 (body.Outcome 0) (omega arith) (omega arith) code_few (omega arith) in
    let same = subst (λ p. Few 26 (path_written p)) (sym (result_is (5 ∷ []) value)) one in
    let whole = select_few 126977 26 kinds.SetResponse (path_results (leaf (5 ∷ []) (body.Full value)) ∷ []) (one_few 26 (path_written (path_results (leaf (5 ∷ []) (body.Full value)))) same) (omega arith) in
    (whole.0, omega (arith, whole.1))

-- ---- two selects, in a message
pair_fits : (a b : Select) → Few 52 (select_written a) → Few 566 (select_written b) → (nat_lt (length (selects_written (a ∷ b ∷ [])).text) 262117 && (selects_written (a ∷ b ∷ [])).fits) ≡ true
pair_fits a b h k =
    let all = after_few 52 566 (select_written a) (joined (select_written b ∷ [])) h (one_few 566 (select_written b) k) in
    both _ _ (below (length (selects_written (a ∷ b ∷ [])).text) 262117 (omega (arith, all.1))) all.0

sixteen : (a : ℕ) → length (numbers_from a 16) ≡ 16
sixteen a = refl

config_fits : (k f : ℕ) → message_fits (carrying (behind no_name (change k f))) ≡ true
unfolding message_fits
config_fits k f =
    let set = select_few 8193 544 kinds.Set (map (row_path f) (rows k)) (rows_few f (rows k)) (omega arith) in
    pair_fits (on_mastership (sets 5 no_name ∷ [])) (select_of 8193 kinds.Set (map (row_path f) (rows k))) (name_few no_name (omega arith)) set

response_fits : (k f : ℕ) → results_fit (behind no_name (change k f)) ≡ true
response_fits k f =
    let set = select_few 8193 544 kinds.SetResponse (map path_results (map (row_path f) (rows k))) (answers_few f (rows k)) (omega arith) in
    pair_fits (select_of 126977 kinds.SetResponse (path_results (leaf (5 ∷ []) (body.Full no_name)) ∷ [])) (select_of 8193 kinds.SetResponse (map path_results (map (row_path f) (rows k)))) (named_few no_name) set

-- ---- what is asked of a change
pub is_change : (k f : ℕ) → change_fault (change k f) ≡ None
is_change k f = rw (response_fits k f, config_fits k f) refl

-- so nothing refuses it but want of memory
pub is_never_refused : (k f : ℕ) (selects : List Select) (fault : ChangeFault) → selects ≡ change k f → (fault ≢ faults.Memory → change_fault selects ≡ Some fault) → fault ≢ faults.Memory → ⊥
is_never_refused k f selects fault is why other = none-some fault (sym (is_change k f) ∙ sym (ap change_fault is) ∙ why other)

proper_rows : (f : ℕ) (ss : List ℕ) → AllByRecursion (ProperPath kinds.Set 16) (map (row_path f) ss)
proper_rows f [] = tt
proper_rows f (s ∷ ss) = (search (rules, the_lemmas), proper_rows f ss)

pub is_proper : (k f : ℕ) → ProperSelects types.config (change k f)
is_proper k f = (omega arith, ((refl, omega arith, ((refl, omega arith, proper_rows f (rows k)), tt)), tt))
