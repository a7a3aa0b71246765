-- How long the messages of a master are.
use Rattle.std.proofs.Common.{◌≡◌, ℕ, ◌+◌, ◌*◌, ◌<◌, ◌≤◌, ◌&&◌, Bool, true, false, nat_lt, List, [], ◌∷◌, ◌++◌, length, map, Option, Some, None, refl, sym, ap, ◌∙◌, subst, arith, length-append}
use Rattle.std.specs.List.{flat_map}
use Rattle.fc_base.specs.Ids.{Txn}
use Rattle.fc_wire.specs.Bytes.{u16_bytes, u32_bytes}
use Rattle.fc_wire.specs.Writing.{tlv_bytes, padding}
use Rattle.fc_path.specs.Canon.{Written, plain, after, joined, key_flags, key_written, wrapped, body_written, path_step, path_written, oper_written, select_written}
use Rattle.fc_path.specs.declared.oper.OperKind.TheVariants as kinds
use Rattle.fc_path.specs.declared.oper.Oper.{Oper}
use Rattle.fc_path.specs.declared.oper.Oper.TheVariants as oper
use Rattle.fc_path.specs.declared.oper.Select.{Select}
use Rattle.fc_path.specs.declared.path.Key.{Key}
use Rattle.fc_path.specs.declared.path.Body.{Body}
use Rattle.fc_path.specs.declared.path.Body.TheVariants as body
use Rattle.fc_path.proofs.Closing.{path_is}
use Rattle.fc_path.proofs.InGrammar.{full_is, nothing_is}
use Rattle.fc_path.proofs.Sizes.{tlv_size}
use Rattle.fc_msg.specs.Messages.{message_fits, selects_written}
use Rattle.fc_msg.specs.declared.message.Message.{Message}
use Rattle.fc_msg.specs.declared.message.MsgBody.TheVariants.{Config, Query, SetupResponse, Heartbeat}
use Rattle.fc_protocol.specs.Scopes.{Scope}
use Rattle.fc_plans.specs.Components as components
use Rattle.fc_plans.specs.Changes.{carrying, no_name}
use Rattle.fc_plans.specs.Mastership.{behind, of_transaction, on_mastership, path, sets, subject_bytes}
use Rattle.fc_asks.specs.Requests.{asks_held, asks_record, held_array, instances_from, numbers_from, opening_bytes}

-- selects whose lengths all fit, in a message
abbrev pub Fit : List Select → Type 0
Fit ss = (nat_lt (length (selects_written ss).text) 262117 && (selects_written ss).fits) ≡ true

pub config_fits : (m : Message) (ss : List Select) → m.body ≡ Config ss → Fit ss → message_fits m ≡ true
unfolding message_fits
config_fits m ss is h = rw is h

pub query_fits : (m : Message) (ss : List Select) → m.body ≡ Query ss → Fit ss → message_fits m ≡ true
unfolding message_fits
query_fits m ss is h = rw is h

pub heartbeat_fits : (m : Message) → m.body ≡ Heartbeat → message_fits m ≡ true
unfolding message_fits
heartbeat_fits m is = rw is refl

pub setup_response_fits : (m : Message) (result : ℕ) → m.body ≡ SetupResponse result → message_fits m ≡ true
unfolding message_fits tlv_bytes padding
setup_response_fits m result is = rw is refl

-- ---- what has few bytes

abbrev Few : ℕ → Written → Type 0
Few n w = (w.fits ≡ true) × (length w.text ≤ n)

both : (a b : Bool) → a ≡ true → b ≡ true → (a && b) ≡ true
both true b h k = k
both false b h k = cc

below : (m n : ℕ) → m < n → nat_lt m n ≡ true
below m n h = grind arith

wrapped_few : (kind n : ℕ) (w : Written) → n < 65532 → Few n w → Few (n + 7) (wrapped kind w)
wrapped_few kind n w small h = (both _ _ (below (length w.text) 65532 (omega (arith, h.1))) h.0, omega (arith, tlv_size kind w.text, h.1))

after_few : (m n : ℕ) (v w : Written) → Few m v → Few n w → Few (m + n) (after v w)
after_few m n v w h k = (both _ _ h.0 k.0, omega (arith, length-append v.text w.text, h.1, k.1))

one_few : (n : ℕ) (w : Written) → Few n w → Few n (joined (w ∷ []))
one_few n w h = (both _ _ h.0 refl, omega (arith, length-append w.text [], h.1))

plain_few : (n : ℕ) (bytes : List ℕ) → length bytes ≤ n → Few n (plain bytes)
plain_few n bytes h = (refl, h)

-- a path to one component
path_few : (id k n : ℕ) (key : Option Key) (b : Body) → Few k (key_written key) → Few n (body_written b) → k + n < 65000 → Few (k + n + 15) (path_written (path (id ∷ []) key b))
path_few id k n key b h few small =
    let inner : Written = record { text = u16_bytes (key_flags key) ++ u16_bytes 1 ++ flat_map u32_bytes (id ∷ []) ++ ((key_written key).text ++ (body_written b).text); fits = nat_lt 1 65536 && ((key_written key).fits && (body_written b).fits) } in
    let held : Few (k + n + 8) inner = (both _ _ h.0 few.0, omega (arith, length-append (key_written key).text (body_written b).text, h.1, few.1)) in
    let whole = wrapped_few 272 (k + n + 8) inner (omega (arith, small)) held in
    subst (λ w. Few (k + n + 15) w) (sym (path_is (path (id ∷ []) key b))) (whole.0, omega (arith, whole.1))

no_key : Few 0 (key_written None)
no_key = (refl, omega arith)

full_few : (n : ℕ) (value : List ℕ) → length value ≤ n → n < 65532 → Few (n + 7) (body_written (body.Full value))
full_few n value h small = subst (λ w. Few (n + 7) w) (sym (full_is value)) (wrapped_few 274 n (plain value) small (plain_few n value h))

-- an operation that writes so many bytes to it
sets_few : (id n : ℕ) (value : List ℕ) → length value ≤ n → n < 64000 → Few (n + 29) (oper_written (sets id value))
sets_few id n value h small =
    let at = path_few id 0 (n + 7) None (body.Full value) no_key (full_few n value h (omega (arith, small))) (omega (arith, small)) in
    let whole = wrapped_few 1 (0 + (n + 7) + 15) (joined (path_written (path (id ∷ []) None (body.Full value)) ∷ [])) (omega (arith, small)) (one_few (0 + (n + 7) + 15) (path_written (path (id ∷ []) None (body.Full value))) at) in
    (whole.0, omega (arith, whole.1))

-- operations on the class Mastership
mastership_few : (n : ℕ) (opers : List Oper) → Few n (joined (map oper_written opers)) → n < 64000 → Few (n + 15) (select_written (on_mastership opers))
mastership_few n opers h small =
    let head = plain (u32_bytes components.mastership ++ u32_bytes 1) in
    let whole = wrapped_few 4096 (8 + n) (after head (joined (map oper_written opers))) (omega (arith, small)) (after_few 8 n head (joined (map oper_written opers)) (refl, omega arith) h) in
    (whole.0, omega (arith, whole.1))

alone_fits : (n : ℕ) (s : Select) → Few n (select_written s) → n < 262117 → Fit (s ∷ [])
alone_fits n s h small = let one = one_few n (select_written s) h in both _ _ (below (length (selects_written (s ∷ [])).text) 262117 (omega (arith, one.1, small))) one.0

opers_fit : (n : ℕ) (opers : List Oper) → Few n (joined (map oper_written opers)) → n < 64000 → Fit (on_mastership opers ∷ [])
opers_fit n opers h small = alone_fits (n + 15) (on_mastership opers) (mastership_few n opers h small) (omega (arith, small))

pub written_fits : (id : ℕ) (value : List ℕ) → length value ≤ 60000 → Fit (on_mastership (sets id value ∷ []) ∷ [])
written_fits id value h = opers_fit 60029 (sets id value ∷ []) (one_few 60029 (oper_written (sets id value)) (sets_few id 60000 value h (omega arith))) (omega arith)

-- ---- each message

pub claim_fits : (w : ℕ) → Fit (on_mastership (sets components.epoch (u32_bytes w) ∷ []) ∷ [])
claim_fits w = written_fits components.epoch (u32_bytes w) (omega arith)

pub subject_fits : (id : ℕ) (x : Txn) → Fit (on_mastership (sets id (subject_bytes x) ∷ []) ∷ [])
subject_fits id x = written_fits id (subject_bytes x) (omega arith)

end_fits : (x : Txn) (o : Oper) → Few 4 (oper_written o) → Fit (on_mastership (sets components.subject (subject_bytes x) ∷ o ∷ []) ∷ [])
end_fits x o h =
    let named = sets components.subject (subject_bytes x) in
    opers_fit 41 (named ∷ o ∷ []) (after_few 37 4 (oper_written named) (joined (oper_written o ∷ [])) (sets_few components.subject 8 (subject_bytes x) (omega arith) (omega arith)) (one_few 4 (oper_written o) h)) (omega arith)

pub commit_fits : (x : Txn) → Fit (on_mastership (sets components.subject (subject_bytes x) ∷ oper.Commit ∷ []) ∷ [])
unfolding tlv_bytes padding
commit_fits x = end_fits x oper.Commit (refl, omega arith)

pub trcomp_fits : (x : Txn) → Fit (on_mastership (sets components.subject (subject_bytes x) ∷ oper.Trcomp ∷ []) ∷ [])
unfolding tlv_bytes padding
trcomp_fits x = end_fits x oper.Trcomp (refl, omega arith)

numbers_length : (i : ℕ) (ns : List ℕ) → length (numbers_from i ns) ≡ 8 * length ns
numbers_length i [] = refl
numbers_length i (n ∷ ns) = omega (arith, numbers_length (i + 1) ns)

instances_length : (i : ℕ) (ns : Scope) → length (instances_from i ns) ≡ 12 * length ns
instances_length i [] = refl
instances_length i (n ∷ ns) = omega (arith, instances_length (i + 1) ns)

opening_length : (x : Txn) (ps : List ℕ) (sc : Scope) → length (opening_bytes x ps sc) ≡ 16 + (8 * length ps + 12 * length sc)
opening_length x ps sc =
    omega (arith, length-append (held_array (numbers_from 1 ps)) (held_array (instances_from 1 sc)), numbers_length 1 ps, instances_length 1 sc)

pub opening_fits : (x : Txn) (ps : List ℕ) (sc : Scope) → length ps ≤ 64 → length sc ≤ 4096 → Fit (on_mastership (sets components.opening (opening_bytes x ps sc) ∷ []) ∷ [])
opening_fits x ps sc few small = written_fits components.opening (opening_bytes x ps sc) (omega (arith, opening_length x ps sc, few, small))

nothing_few : Few 0 (body_written body.Nothing)
nothing_few = subst (λ w. Few 0 w) (sym nothing_is) (refl, omega arith)

asks_few : (k : ℕ) (key : Option Key) (id other : ℕ) → Few k (key_written key) → k < 60000 → Few (k + 37) (oper_written (oper.Paths kinds.Get (path (id ∷ []) None body.Nothing ∷ path (other ∷ []) key body.Nothing ∷ [])))
asks_few k key id other h small =
    let one = path_few id 0 0 None body.Nothing no_key nothing_few (omega arith) in
    let two = path_few other k 0 key body.Nothing h nothing_few (omega (arith, small)) in
    let first = path_written (path (id ∷ []) None body.Nothing) in
    let second = path_written (path (other ∷ []) key body.Nothing) in
    let whole = wrapped_few 7 (15 + (k + 0 + 15)) (joined (first ∷ second ∷ [])) (omega (arith, small)) (after_few 15 (k + 0 + 15) first (joined (second ∷ [])) one (one_few (k + 0 + 15) second two)) in
    (whole.0, omega (arith, whole.1))

pub held_fits : Fit (on_mastership (oper.Paths kinds.Get asks_held ∷ []) ∷ [])
held_fits =
    let asks = oper.Paths kinds.Get asks_held in
    opers_fit 37 (asks ∷ []) (one_few 37 (oper_written asks) (asks_few 0 None components.epoch components.held no_key (omega arith))) (omega arith)

key_few : (x : Txn) → Few 26 (key_written (Some (record { ident = components.transaction_key; value = subject_bytes x })))
unfolding tlv_bytes padding
key_few x = (refl, omega arith)

pub record_fits : (x : Txn) → Fit (on_mastership (oper.Paths kinds.Get (asks_record x) ∷ []) ∷ [])
record_fits x =
    let asks = oper.Paths kinds.Get (asks_record x) in
    opers_fit 63 (asks ∷ []) (one_few 63 (oper_written asks) (asks_few 26 _ components.epoch components.transactions (key_few x) (omega arith))) (omega arith)

-- ---- changes

-- what names a transaction by these bytes, written
name_text : List ℕ → Written
name_text name =
    let at = path_step (record { ids = components.subject ∷ []; key = None; body = wrapped 274 (plain name) }) in
    wrapped 4096 (after (plain (u32_bytes components.mastership ++ u32_bytes 1)) (joined (wrapped 1 (joined (at ∷ [])) ∷ [])))

name_is : (name : List ℕ) → select_written (on_mastership (sets components.subject name ∷ [])) ≡ name_text name
unfolding name_text
name_is name =
    ap (λ w. wrapped 4096 (after (plain (u32_bytes components.mastership ++ u32_bytes 1)) (joined (wrapped 1 (joined (w ∷ [])) ∷ []))))
    (path_is (path (components.subject ∷ []) None (body.Full name)) ∙ ap (λ b. path_step (record { ids = components.subject ∷ []; key = None; body = b })) (full_is name))

-- and then these selects
abbrev FitBehind : Written → List Select → Type 0
FitBehind w ss = (nat_lt (length (w.text ++ (selects_written ss).text)) 262117 && (w.fits && (selects_written ss).fits)) ≡ true

-- it does not depend on the name
renamed : (x : Txn) (ss : List Select) → FitBehind (name_text no_name) ss → FitBehind (name_text (subject_bytes x)) ss
unfolding name_text tlv_bytes padding
renamed x ss h = h

and_first : (a b : Bool) → (a && b) ≡ true → a ≡ true
and_first true b h = refl
and_first false b h = cc

pub and_second : (a b : Bool) → (a && b) ≡ true → b ≡ true
and_second true b h = h
and_second false b h = cc

less_fits : (m n : ℕ) → n ≤ m → nat_lt m 262117 ≡ true → nat_lt n 262117 ≡ true
less_fits m n le h = grind arith

unnamed : (w : Written) (ss : List Select) → FitBehind w ss → Fit ss
unnamed w ss h =
    let rest = selects_written ss in
    let short = and_first (nat_lt (length (w.text ++ rest.text)) 262117) (w.fits && rest.fits) h in
    both _ _ (less_fits (length (w.text ++ rest.text)) (length rest.text) (omega (arith, length-append w.text rest.text)) short) (and_second w.fits rest.fits (and_second _ (w.fits && rest.fits) h))

behind_name : (ss : List Select) → message_fits (carrying (behind no_name ss)) ≡ true → FitBehind (name_text no_name) ss
unfolding message_fits
behind_name ss h = subst (λ w. FitBehind w ss) (name_is no_name) h

-- a change fits behind the name of any transaction, and alone, where it fits behind one
pub named_fits : (x : Txn) (ss : List Select) → message_fits (carrying (behind no_name ss)) ≡ true → Fit (of_transaction x ss)
named_fits x ss h = subst (λ w. FitBehind w ss) (sym (name_is (subject_bytes x))) (renamed x ss (behind_name ss h))

pub plain_fits : (ss : List Select) → message_fits (carrying (behind no_name ss)) ≡ true → Fit ss
plain_fits ss h = unnamed (name_text no_name) ss (behind_name ss h)

pub name_fits : (x : Txn) → Fit (of_transaction x [])
name_fits x = subject_fits components.subject x
