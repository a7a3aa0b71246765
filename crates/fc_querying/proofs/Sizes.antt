-- What an element answers to the questions of a master passes no length field.
use Rattle.std.proofs.Common.{◌≡◌, ℕ, suc, ◌+◌, ◌*◌, ◌<◌, ◌≤◌, ◌&&◌, Bool, true, false, nat_lt, List, [], ◌∷◌, ◌++◌, length, Option, Some, None, refl, sym, ap, ◌∙◌, subst, arith, rules, length-append}
use Rattle.std.specs.List.{AllByRecursion, flat_map}
use Rattle.fc_lfbs.specs.Kinds.{transaction_key, transaction_type, transactions_type}
use Rattle.fc_lfbs.specs.LiveValues.{numbered, table}
use Rattle.fc_element.specs.ElementState.{told_txn}
use Rattle.fc_ops.specs.Choosing.{small}
use Rattle.fc_ops.specs.Filling.{content_body}
use Rattle.fc_ops.specs.declared.offers.Content.{Content}
use Rattle.fc_ops.specs.declared.offers.Content.TheVariants as content
use Rattle.fc_path.proofs.Closing.{path_is}
use Rattle.fc_path.proofs.InGrammar.{full_is, outcome_is}
use Rattle.fc_path.proofs.Sizes.{tlv_size}
use Rattle.fc_path.specs.Canon.{Written, after, body_written, joined, key_flags, key_written, oper_written, path_written, plain, select_written, wrapped}
use Rattle.fc_path.specs.declared.oper.Oper.{Oper}
use Rattle.fc_path.specs.declared.oper.Oper.TheVariants as oper
use Rattle.fc_path.specs.declared.oper.OperKind.TheVariants as kinds
use Rattle.fc_path.specs.declared.path.Body.{Body}
use Rattle.fc_path.specs.declared.path.Key.{Key}
use Rattle.fc_plans.specs.Components as components
use Rattle.fc_plans.specs.Mastership.{on_mastership, path}
use Rattle.fc_protocol.specs.declared.answers.TxnEntry.{TxnEntry}
use Rattle.fc_types.specs.Types.{full_size}
use Rattle.fc_types.specs.declared.ty.Ty.{the_lemmas}
use Rattle.fc_value.proofs.Longest.{bounded}
use Rattle.fc_value.specs.Writing.{entry_bytes, full_bytes, full_layer, inside_bytes, table_layer}
use Rattle.fc_value.specs.declared.value.Value.{Value}
use Rattle.fc_wire.specs.Types as types
use Rattle.fc_wire.specs.Bytes.{u16_bytes, u32_bytes}
use Rattle.fc_querying.specs.Asking.{IsTold}
use Rattle.fc_querying.proofs.Records.{row, rows, told_small}
use Rattle.fc_querying.proofs.Values.{out_array, out_struct, out_table, transaction_fields, transaction_fits, transaction_sound}

-- ---- what has few bytes

abbrev pub Few : ℕ → Written → Type 0
Few n w = (w.fits ≡ true) × (length w.text ≤ n)

pub both : (a b : Bool) → a ≡ true → b ≡ true → (a && b) ≡ true
both true b h k = k
both false b h k = cc

pub below : (m n : ℕ) → m < n → nat_lt m n ≡ true
below m n h = grind arith

pub wrapped_few : (kind n : ℕ) (w : Written) → n < 65532 → Few n w → Few (n + 7) (wrapped kind w)
wrapped_few kind n w less h = (both _ _ (below (length w.text) 65532 (omega (arith, h.1, less))) h.0, omega (arith, tlv_size kind w.text, h.1))

pub after_few : (m n : ℕ) (v w : Written) → Few m v → Few n w → Few (m + n) (after v w)
after_few m n v w h k = (both _ _ h.0 k.0, omega (arith, length-append v.text w.text, h.1, k.1))

pub one_few : (n : ℕ) (w : Written) → Few n w → Few n (joined (w ∷ []))
one_few n w h = (both _ _ h.0 refl, omega (arith, length-append w.text [], h.1))

-- ---- contents

abbrev pub FewIn : ℕ → Content → Type 0
FewIn n c = Few n (body_written (content_body c))

pub full_few : (n : ℕ) (value : List ℕ) → length value ≤ n → n < 65532 → FewIn (n + 7) (content.Full value)
full_few n value h less = subst (Few (n + 7)) (sym (full_is value)) (wrapped_few 274 n (plain value) less (refl, h))

pub refused_few : (code : ℕ) → FewIn 11 (content.Refused code)
refused_few code = subst (Few 11) (sym (outcome_is code)) (wrapped_few 276 4 (plain (code ∷ 0 ∷ 0 ∷ 0 ∷ [])) (omega arith) (refl, omega arith))

pub no_key_few : Few 0 (key_written None)
no_key_few = (refl, omega arith)

pub key_few : (bytes : List ℕ) → length bytes ≡ 8 → Few 33 (key_written (Some (record { ident = components.transaction_key; value = bytes })))
key_few bytes h =
    let inner = wrapped_few 274 8 (plain bytes) (omega arith) (refl, omega (arith, h)) in
    wrapped_few types.key_info 26 (after (plain (u32_bytes components.transaction_key)) (wrapped 274 (plain bytes))) (omega arith)
    (let a = after_few 4 15 (plain (u32_bytes components.transaction_key)) (wrapped 274 (plain bytes)) (refl, omega arith) inner in (a.0, omega (arith, a.1)))

-- ---- the response with two contents

pub path_few : (id k n : ℕ) (key : Option Key) (b : Body) → Few k (key_written key) → Few n (body_written b) → k + n < 65000 → Few (k + n + 15) (path_written (path (id ∷ []) key b))
path_few id k n key b h few less =
    let inner : Written = record { text = u16_bytes (key_flags key) ++ u16_bytes 1 ++ flat_map u32_bytes (id ∷ []) ++ ((key_written key).text ++ (body_written b).text); fits = nat_lt 1 65536 && ((key_written key).fits && (body_written b).fits) } in
    let held : Few (k + n + 8) inner = (both _ _ h.0 few.0, omega (arith, length-append (key_written key).text (body_written b).text, h.1, few.1)) in
    let whole = wrapped_few 272 (k + n + 8) inner (omega (arith, less)) held in
    subst (λ w. Few (k + n + 15) w) (sym (path_is (path (id ∷ []) key b))) (whole.0, omega (arith, whole.1))

-- GET-RESPONSE, of component 1 and of another
abbrev pub answers : ℕ → Option Key → Body → Body → Oper
answers id key b c = oper.Paths kinds.GetResponse (path (components.epoch ∷ []) None b ∷ path (id ∷ []) key c ∷ [])

pub response_small : (id : ℕ) (key : Option Key) (b c : Body) → Few 33 (key_written key) → Few 19 (body_written b) → Few 40000 (body_written c)
    → small (joined (select_written (on_mastership (answers id key b c ∷ [])) ∷ [])) 262116 ≡ true
response_small id key b c h first second =
    let one = path_few components.epoch 0 19 None b no_key_few first (omega arith) in
    let two = path_few id 33 40000 key c h second (omega arith) in
    let paths = after_few 34 40048 (path_written (path (components.epoch ∷ []) None b)) (joined (path_written (path (id ∷ []) key c) ∷ [])) one (one_few 40048 (path_written (path (id ∷ []) key c)) two) in
    let get = wrapped_few 9 40082 (joined (path_written (path (components.epoch ∷ []) None b) ∷ path_written (path (id ∷ []) key c) ∷ [])) (omega arith) paths in
    let opers = one_few 40089 (oper_written (answers id key b c)) get in
    let head = plain (u32_bytes components.mastership ++ u32_bytes 1) in
    let select = wrapped_few types.select 40097 (after head (joined (oper_written (answers id key b c) ∷ []))) (omega arith) (after_few 8 40089 head (joined (oper_written (answers id key b c) ∷ [])) (refl, omega arith) opers) in
    let all = one_few 40104 (select_written (on_mastership (answers id key b c ∷ []))) select in
    both _ _ (below (length (joined (select_written (on_mastership (answers id key b c ∷ [])) ∷ [])).text) 262117 (omega (arith, all.1))) all.0

-- ---- the contents of an answer

pub record_size : full_size transaction_type ≡ 528
record_size = search (rules, the_lemmas)

row_long : (n : TxnEntry) → IsTold n → length (inside_bytes transaction_type (row n)) ≤ 528
row_long n t = let b = bounded transaction_type (row n) transaction_sound (transaction_fits 5 (told_txn n) (told_small n t)) in omega (arith, b, record_size)

rows_long : (i : ℕ) (ns : List TxnEntry) → AllByRecursion IsTold ns → length (flat_map (entry_bytes (inside_bytes transaction_type)) (numbered i (rows ns))) ≤ 532 * length ns
rows_long i [] all = omega arith
rows_long i (n ∷ ns) all =
    let here = row_long n all.0 in
    let more = rows_long (suc i) ns all.1 in
    let whole = length-append (u32_bytes i ++ inside_bytes transaction_type (row n)) (flat_map (entry_bytes (inside_bytes transaction_type)) (numbered (suc i) (rows ns))) in
    omega (arith, here, more, whole)

-- the bytes of a list of records
pub table_written : (vs : List Value) → full_bytes transactions_type (table vs) ≡ flat_map (entry_bytes (inside_bytes transaction_type)) (numbered 1 vs)
table_written vs =
    ap (λ l. full_layer l transactions_type (table vs)) (out_array transaction_type 4096 (transaction_key ∷ []))
    ∙ ap (table_layer (inside_bytes transaction_type)) (out_table (numbered 1 vs))

pub table_long : (ns : List TxnEntry) → AllByRecursion IsTold ns → length ns ≤ 64 → length (full_bytes transactions_type (table (rows ns))) ≤ 34048
table_long ns all few = omega (arith, ap length (table_written (rows ns)), rows_long 1 ns all, few)

-- those of one record
pub record_written : (n : TxnEntry) → full_bytes transaction_type (row n) ≡ inside_bytes transaction_type (row n)
record_written n = ap (λ l. full_layer l transaction_type (row n)) (out_struct transaction_fields)

pub record_long : (n : TxnEntry) → IsTold n → length (full_bytes transaction_type (row n)) ≤ 528
record_long n t = omega (arith, ap length (record_written n), row_long n t)
