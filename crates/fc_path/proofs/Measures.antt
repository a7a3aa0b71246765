-- How many bytes are written.
use Rattle.std.proofs.Common.{◌≡◌, ℕ, ◌+◌, ◌*◌, ◌/◌, ◌<◌, ◌≤◌, ◌&&◌, Bool, true, false, nat_lt, List, [], ◌∷◌, ◌++◌, length, map, Option, Some, None, refl, sym, ap, ◌∙◌, subst, arith, length-append}
use Rattle.std.specs.List.{flat_map}
use Rattle.fc_wire.specs.Bytes.{u16_bytes, u32_bytes}
use Rattle.fc_wire.specs.Writing.{ilv_bytes, tlv_bytes, padding}
use Rattle.fc_wire.specs.declared.ilvs.Ilv.{Ilv}
use Rattle.fc_wire.proofs.ItemLaws.{tlv_length}
use Rattle.fc_path.specs.Kinds.{number_of}
use Rattle.fc_path.specs.Canon.{Written, plain, joined, ilv_written, result_written, key_written, key_flags, body_written, path_written, oper_written, select_written, full_written, sparse_written}
use Rattle.fc_path.specs.Results.{Sized, Held}
use Rattle.fc_path.specs.declared.oper.OperKind.{OperKind}
use Rattle.fc_path.specs.declared.oper.Oper.TheVariants as oper
use Rattle.fc_path.specs.declared.oper.Select.{Select}
use Rattle.fc_path.specs.declared.path.PathData.{PathData}
use Rattle.fc_path.specs.declared.path.Body.TheVariants as v
use Rattle.fc_path.proofs.Closing.{and_left, and_right, both_true, path_is, nested_is}
use Rattle.fc_path.proofs.Complete.{ids_length}
use Rattle.fc_path.proofs.InGrammar.{joined_whole, path_whole, oper_whole, key_whole, body_whole, nothing_is, full_is, sparse_is, outcome_is, ilv_whole}
use Rattle.fc_path.proofs.Sizes.{held_cases, in_tlv, lt_no, lt_yes, padding_length, tlv_size}

-- a FULLDATA
pub full_long : (value : List ℕ) → 65531 < length value → Held 65532 None (full_written value)
full_long value large = and_right _ _ (and_left _ _ (lt_no (length value) 65532 (omega (arith, large))))

pub full_over : (value : List ℕ) → 65531 < 4 + (length value + 3) / 4 * 4 → Held 65532 None (full_written value)
full_over value large = and_left _ _ (lt_no (length (tlv_bytes 274 value)) 65532 (omega (arith, tlv_size 274 value, large)))

pub full_sized : (value : List ℕ) → 4 + (length value + 3) / 4 * 4 ≤ 65531 → Held 65532 (Some (4 + (length value + 3) / 4 * 4)) (full_written value)
full_sized value small = (both_true _ _ (lt_yes (length value) 65532 (omega (arith, small))) refl, tlv_size 274 value, omega (arith, small))

-- an ILV
ilv_is : (ident : ℕ) (value : List ℕ) → length (ilv_bytes ident value) ≡ 8 + (length value + 3) / 4 * 4
unfolding ilv_bytes
ilv_is ident value = omega (arith, padding_length (length value), length-append value (padding (length value)))

pub ilv_sized : (ilv : Ilv) → length ilv.value ≤ 4294967287 → Sized (Some (8 + (length ilv.value + 3) / 4 * 4)) (ilv_written ilv)
ilv_sized ilv small = (lt_yes (length ilv.value + 8) 4294967296 (omega (arith, small)), ilv_is ilv.ident ilv.value)

pub ilv_long : (ilv : Ilv) → 4294967287 < length ilv.value → Sized None (ilv_written ilv)
ilv_long ilv large = lt_no (length ilv.value + 8) 4294967296 (omega (arith, large))

-- a SPARSEDATA
abbrev inside : List Ilv → Written
inside ilvs = joined (map ilv_written ilvs)

pub sparse_sized : (ilvs : List Ilv) (n : ℕ) → Held 65532 (Some n) (inside ilvs) → n + 4 ≤ 65531 → Held 65532 (Some (n + 4)) (sparse_written ilvs)
sparse_sized ilvs n h small = let is = in_tlv 275 n (inside ilvs) (joined_whole ilv_written ilv_whole ilvs) h in (is.0, is.1, omega (arith, small))

pub sparse_over : (ilvs : List Ilv) (n : ℕ) → Held 65532 (Some n) (inside ilvs) → 65531 < n + 4 → Held 65532 None (sparse_written ilvs)
sparse_over ilvs n h large =
    let is = in_tlv 275 n (inside ilvs) (joined_whole ilv_written ilv_whole ilvs) h in and_left _ _ (lt_no (length (sparse_written ilvs).text) 65532 (omega (arith, is.1, large)))

pub sparse_fails : (ilvs : List Ilv) → Held 65532 None (inside ilvs) → Held 65532 None (sparse_written ilvs)
sparse_fails ilvs h = and_right _ _ h

-- a body, by its kind
pub nothing_body : Held 65532 (Some 0) (body_written v.Nothing)
nothing_body = subst (Held 65532 (Some 0)) (sym nothing_is) (refl, refl, omega arith)

pub full_body : (value : List ℕ) (r : Option ℕ) → Held 65532 r (full_written value) → Held 65532 r (body_written (v.Full value))
full_body value r h = subst (Held 65532 r) (sym (full_is value)) h

pub sparse_body : (ilvs : List Ilv) (r : Option ℕ) → Held 65532 r (sparse_written ilvs) → Held 65532 r (body_written (v.Sparse ilvs))
sparse_body ilvs r h = subst (Held 65532 r) (sym (sparse_is ilvs)) h

pub outcome_body : (code : ℕ) → Held 65532 (Some 8) (body_written (v.Outcome code))
outcome_body code = subst (Held 65532 (Some 8)) (sym (outcome_is code)) (refl, tlv_size 276 (code ∷ 0 ∷ 0 ∷ 0 ∷ []), omega arith)

pub nested_body : (ps : List PathData) (r : Option ℕ) → Held 65532 r (joined (map path_written ps)) → Held 65532 r (body_written (v.Nested ps))
nested_body ps r h = subst (Held 65532 r) (sym (nested_is ps)) h

-- a PATH-DATA
abbrev value_text : PathData → List ℕ
value_text p = u16_bytes (key_flags p.key) ++ u16_bytes (length p.ids) ++ flat_map u32_bytes p.ids ++ ((key_written p.key).text ++ (body_written p.body).text)

value_size : (p : PathData) → length (value_text p) ≡ 4 + 4 * length p.ids + length (key_written p.key).text + length (body_written p.body).text
value_size p = omega (arith, ids_length p.ids, length-append (flat_map u32_bytes p.ids) ((key_written p.key).text ++ (body_written p.body).text), length-append (key_written p.key).text (body_written p.body).text)

abbrev value_fits : PathData → Bool
value_fits p = nat_lt (length p.ids) 65536 && ((key_written p.key).fits && (body_written p.body).fits)

path_fits : (p : PathData) → (path_written p).fits ≡ (nat_lt (length (value_text p)) 65532 && value_fits p)
path_fits p = ap (λ w. w.fits) (path_is p)

pub path_many : (p : PathData) → 65531 < length p.ids → Sized None (path_written p)
path_many p h = path_fits p ∙ and_left _ _ (lt_no (length (value_text p)) 65532 (omega (arith, value_size p)))

pub path_key_fails : (p : PathData) → Sized None (key_written p.key) → Sized None (path_written p)
path_key_fails p h = path_fits p ∙ and_right _ _ (and_right (nat_lt (length p.ids) 65536) _ (and_left _ _ h))

pub path_body_fails : (p : PathData) → Held 65532 None (body_written p.body) → Sized None (path_written p)
path_body_fails p h =
    let body = body_written p.body in
    path_fits p ∙ held_cases 65532 (length body.text) body.fits ((nat_lt (length (value_text p)) 65532 && value_fits p) ≡ false) h
    (λ (large : 65532 ≤ length body.text). and_left _ _ (lt_no (length (value_text p)) 65532 (omega (arith, value_size p, large))))
    (λ no. and_right _ _ (and_right (nat_lt (length p.ids) 65536) _ (and_right (key_written p.key).fits _ no)))

pub path_over : (p : PathData) (k b : ℕ) → Sized (Some k) (key_written p.key) → Held 65532 (Some b) (body_written p.body) → 65531 < 4 + 4 * length p.ids + k + b → Sized None (path_written p)
path_over p k b key body large = path_fits p ∙ and_left _ _ (lt_no (length (value_text p)) 65532 (omega (arith, value_size p, key.1, body.1)))

pub path_sized : (p : PathData) (k b : ℕ) → Sized (Some k) (key_written p.key) → Held 65532 (Some b) (body_written p.body) → 4 + 4 * length p.ids + k + b ≤ 65531
    → Sized (Some (4 + 4 * length p.ids + k + b + 4)) (path_written p)
path_sized p k b key body small =
    let size : length (value_text p) ≡ 4 + 4 * length p.ids + k + b = omega (arith, value_size p, key.1, body.1) in
    let text : (path_written p).text ≡ tlv_bytes 272 (value_text p) = ap (λ w. w.text) (path_is p) in (
      path_fits p ∙ both_true _ _ (lt_yes (length (value_text p)) 65532 (omega arith)) (both_true _ _ (lt_yes (length p.ids) 65536 (omega arith)) (both_true _ _ key.0 body.0)),
      omega (arith, ap length text, tlv_size 272 (value_text p), key_whole p.key, body_whole p.body, key.1, body.1),
    )

-- an operation
pub paths_oper : (kind : OperKind) (ps : List PathData) (n : ℕ) → Held 65532 (Some n) (joined (map path_written ps)) → Sized (Some (n + 4)) (oper_written (oper.Paths kind ps))
paths_oper kind ps n h = in_tlv (number_of kind) n (joined (map path_written ps)) (joined_whole path_written path_whole ps) h

pub paths_oper_fails : (kind : OperKind) (ps : List PathData) → Held 65532 None (joined (map path_written ps)) → Sized None (oper_written (oper.Paths kind ps))
paths_oper_fails kind ps h = h

pub commit_oper : Sized (Some 4) (oper_written oper.Commit)
commit_oper = in_tlv 12 0 (plain []) refl (refl, refl, omega arith)

pub trcomp_oper : Sized (Some 4) (oper_written oper.Trcomp)
trcomp_oper = in_tlv 14 0 (plain []) refl (refl, refl, omega arith)

pub response_oper : (code : ℕ) → Sized (Some 12) (oper_written (oper.CommitResponse code))
response_oper code =
    in_tlv 13 8 (result_written code) (tlv_length 276 (code ∷ 0 ∷ 0 ∷ 0 ∷ [])) (refl, tlv_size 276 (code ∷ 0 ∷ 0 ∷ 0 ∷ []), omega arith)

-- a select
abbrev opers_of : Select → Written
opers_of s = joined (map oper_written s.opers)

pub select_fails : (s : Select) → Held 65524 None (opers_of s) → Sized None (select_written s)
select_fails s h =
    let inner = opers_of s in
    let value = u32_bytes s.class ++ u32_bytes s.instance ++ inner.text in
    held_cases 65524 (length inner.text) inner.fits ((nat_lt (length value) 65532 && (true && inner.fits)) ≡ false) h
    (λ (large : 65524 ≤ length inner.text). and_left _ _ (lt_no (length value) 65532 (omega (arith, large)))) (λ no. and_right (nat_lt (length value) 65532) _ no)

pub select_sized : (s : Select) (n : ℕ) → Held 65524 (Some n) (opers_of s) → Sized (Some (n + 12)) (select_written s)
select_sized s n h =
    let value = u32_bytes s.class ++ u32_bytes s.instance ++ (opers_of s).text in
    (both_true _ _ (lt_yes (length value) 65532 (omega (arith, h.1, h.2))) h.0, omega (arith, tlv_size 4096 value, h.1, joined_whole oper_written oper_whole s.opers))
