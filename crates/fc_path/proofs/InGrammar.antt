-- What is written is in the grammar.
use Rattle.std.proofs.Common.{◌≡◌, ℕ, zero, suc, ◌+◌, ◌%◌, ◌<◌, ◌^◌, ◌&&◌, Bool, true, false, nat_lt, List, [], ◌∷◌, ◌++◌, length, map, Option, Some, None, refl, sym, ap, ◌∙◌, subst, arith, rules, length-append, append-nil}
use Rattle.std.specs.List.{flat_map, AllByRecursion}
use Rattle.fc_wire.specs.Bytes.{u16_bytes, u32_bytes}
use Rattle.fc_wire.specs.Tlvs.{IsTlv}
use Rattle.fc_wire.specs.Writing.{padding, tlv_bytes}
use Rattle.fc_wire.specs.declared.ilvs.Ilv.{Ilv}
use Rattle.fc_wire.proofs.ItemLaws.{tlv_is, ilv_is, tlv_length, ilv_length, no_padding}
use Rattle.fc_path.specs.Kinds.{number_of}
use Rattle.fc_path.specs.Canon.{Written, plain, joined, wrapped, ilv_written, result_written, key_written, key_flags, body_written, path_written, oper_written, select_written}
use Rattle.fc_path.specs.Proper.{ProperBody, ProperPath, ProperOper, ProperSelect}
use Rattle.fc_path.specs.Grammar.{Each, IsResult, IsOwnIlv, IsPathBy, IsBody, IsKeyed, IsValueIn, IsPath, IsOper, IsSelect}
use Rattle.fc_path.specs.declared.oper.OperKind.{OperKind}
use Rattle.fc_path.specs.declared.oper.Oper.{Oper}
use Rattle.fc_path.specs.declared.oper.Oper.TheVariants as oper
use Rattle.fc_path.specs.declared.oper.Select.{Select}
use Rattle.fc_path.specs.declared.path.Key.{Key}
use Rattle.fc_path.specs.declared.path.PathData.{PathData}
use Rattle.fc_path.specs.declared.path.Body.{Body, out-Body, roll-Body, the_lemmas}
use Rattle.fc_path.specs.declared.path.Body.TheOpen.{Body-F}
use Rattle.fc_path.specs.declared.path.Body.TheVariants as v
use Rattle.fc_path.specs.declared.path.Body.TheViews.{roll-out-Body}
use Rattle.fc_path.proofs.Closing.{path_is, nested_is}
use Rattle.fc_path.proofs.Complete.{ids_length}

-- a value that needs no padding
tlv_whole : (kind : ℕ) (value : List ℕ) → length value + 4 < 2 ^ 16 → length value % 4 ≡ 0 → IsTlv kind value value (tlv_bytes kind value)
tlv_whole kind value h w = subst (λ x. IsTlv kind value x (tlv_bytes kind value)) (ap (λ x. value ++ x) (no_padding value w) ∙ append-nil value) (tlv_is kind value h)

both_first : (a b : Bool) → (a && b) ≡ true → a ≡ true
both_first true b e = refl
both_first false b e = cc

both_second : (a b : Bool) → (a && b) ≡ true → b ≡ true
both_second true b e = e
both_second false b e = cc

-- the length fits
short : (n : ℕ) (f : Bool) → (nat_lt n 65532 && f) ≡ true → n + 4 < 2 ^ 16
short n f h = grind arith

lt_of : (m n : ℕ) → nat_lt m n ≡ true → m < n
lt_of m n h = grind arith

pub nothing_is : body_written v.Nothing ≡ plain []
nothing_is = search (rules, the_lemmas)

pub full_is : (value : List ℕ) → body_written (v.Full value) ≡ wrapped 274 (plain value)
full_is value = search (rules, the_lemmas)

pub sparse_is : (ilvs : List Ilv) → body_written (v.Sparse ilvs) ≡ wrapped 275 (joined (map ilv_written ilvs))
sparse_is ilvs = search (rules, the_lemmas)

pub outcome_is : (code : ℕ) → body_written (v.Outcome code) ≡ result_written code
outcome_is code = search (rules, the_lemmas)

-- all spellings are multiples of four
pub joined_whole : {A : Type 0} (f : A → Written) (whole : (x : A) → length (f x).text % 4 ≡ 0) (xs : List A) → length (joined (map f xs)).text % 4 ≡ 0
joined_whole f whole [] = refl
joined_whole f whole (x ∷ xs) = omega (arith, whole x, joined_whole f whole xs, length-append (f x).text (joined (map f xs)).text)

pub ilv_whole : (ilv : Ilv) → length (ilv_written ilv).text % 4 ≡ 0
ilv_whole ilv = ilv_length ilv.ident ilv.value

pub path_whole : (p : PathData) → length (path_written p).text % 4 ≡ 0
path_whole p = ap (λ w. length w.text % 4) (path_is p) ∙ tlv_length 272 _

pub oper_whole : (o : Oper) → length (oper_written o).text % 4 ≡ 0
oper_whole (oper.Paths kind paths) = tlv_length (number_of kind) _
oper_whole oper.Commit = tlv_length 12 []
oper_whole oper.Trcomp = tlv_length 14 []
oper_whole (oper.CommitResponse code) = tlv_length 13 _

layer_whole : (l : Body-F Body PathData) → length (body_written (roll-Body l)).text % 4 ≡ 0
layer_whole Body-F.Nothing = ap (λ w. length w.text % 4) (ap body_written v.rolls-Nothing ∙ nothing_is)
layer_whole (Body-F.Full value) = ap (λ w. length w.text % 4) (ap body_written (v.rolls-Full value) ∙ full_is value) ∙ tlv_length 274 value
layer_whole (Body-F.Sparse ilvs) = ap (λ w. length w.text % 4) (ap body_written (v.rolls-Sparse ilvs) ∙ sparse_is ilvs) ∙ tlv_length 275 _
layer_whole (Body-F.Outcome code) = ap (λ w. length w.text % 4) (ap body_written (v.rolls-Outcome code) ∙ outcome_is code) ∙ tlv_length 276 _
layer_whole (Body-F.Nested ps) = ap (λ w. length w.text % 4) (ap body_written (v.rolls-Nested ps) ∙ nested_is ps) ∙ joined_whole path_written path_whole ps

pub body_whole : (b : Body) → length (body_written b).text % 4 ≡ 0
body_whole b = ap (λ x. length (body_written x).text % 4) (sym (roll-out-Body b)) ∙ layer_whole (out-Body b)

pub key_whole : (key : Option Key) → length (key_written key).text % 4 ≡ 0
key_whole None = refl
key_whole (Some key) = tlv_length 273 _

pub each_in : {A : Type 0} (f : A → Written) (P : A → Type 0) (Is : A → List ℕ → Type 0) (one : (x : A) → P x → (f x).fits ≡ true → Is x (f x).text) (xs : List A) → AllByRecursion P xs → (joined (map f xs)).fits ≡ true
    → Each Is xs (joined (map f xs)).text
each_in f P Is one [] s h = refl
each_in f P Is one (x ∷ xs) s h = ((f x).text, (joined (map f xs)).text, refl, one x s.0 (both_first (f x).fits _ h), each_in f P Is one xs s.1 (both_second (f x).fits _ h))

all_any : {A : Type 0} (xs : List A) → AllByRecursion (λ x. Unit {0}) xs
all_any [] = tt
all_any (x ∷ xs) = (tt, all_any xs)

ilv_in : (ilv : Ilv) → Unit {0} → (ilv_written ilv).fits ≡ true → IsOwnIlv ilv (ilv_written ilv).text
ilv_in ilv s h = ilv_is ilv.ident ilv.value (lt_of _ _ h)

result_in : (code : ℕ) → IsResult code (result_written code).text
result_in code = (0 ∷ 0 ∷ 0 ∷ [], refl, tlv_whole 276 (code ∷ 0 ∷ 0 ∷ 0 ∷ []) (omega arith) refl)

key_in : (key : Option Key) → (key_written key).fits ≡ true → IsKeyed (key_flags key) key (key_written key).text
key_in None h = (refl, refl)
key_in (Some key) h =
    let full = tlv_bytes 274 key.value in
    let body = u32_bytes key.ident ++ full in
    let whole : length body % 4 ≡ 0 = omega (arith, tlv_length 274 key.value) in
    let inner : (nat_lt (length key.value) 65532 && true) ≡ true = both_second (nat_lt (length body) 65532) _ h in
    (refl, (body, body, full, key.value ++ padding (length key.value), tlv_whole 273 body (short _ _ h) whole, refl, tlv_is 274 key.value (short _ _ inner)))

abbrev value_text : PathData → List ℕ
value_text p = u16_bytes (key_flags p.key) ++ u16_bytes (length p.ids) ++ flat_map u32_bytes p.ids ++ ((key_written p.key).text ++ (body_written p.body).text)

value_whole : (p : PathData) → length (value_text p) % 4 ≡ 0
value_whole p =
    omega (arith, body_whole p.body, key_whole p.key, ids_length p.ids, length-append (flat_map u32_bytes p.ids) ((key_written p.key).text ++ (body_written p.body).text), length-append (key_written p.key).text (body_written p.body).text)

module _ (kind : OperKind) (V : PathData → List ℕ → Type 0) (P : PathData → Type 0) (inside : (p : PathData) → P p → (path_written p).fits ≡ true → V p (value_text p)) where
  path_in_by : (p : PathData) → P p → (path_written p).fits ≡ true → IsPathBy V p (path_written p).text
  path_in_by p s f =
      let same : (path_written p).text ≡ tlv_bytes 272 (value_text p) = ap (λ w. w.text) (path_is p) in
      let fits : (nat_lt (length (value_text p)) 65532 && _) ≡ true = sym (ap (λ w. w.fits) (path_is p)) ∙ f in
      (value_text p, value_text p, subst (IsTlv 272 (value_text p) (value_text p)) (sym same) (tlv_whole 272 (value_text p) (short _ _ fits) (value_whole p)), inside p s f)

  layer_in : (l : Body-F Body PathData) → ProperBody kind P l → (body_written (roll-Body l)).fits ≡ true → IsBody kind V l (body_written (roll-Body l)).text
  layer_in Body-F.Nothing s f = (s, ap (λ w. w.text) (ap body_written v.rolls-Nothing ∙ nothing_is))
  layer_in (Body-F.Full value) s f =
      let same : body_written (roll-Body (Body-F.Full value)) ≡ wrapped 274 (plain value) = ap body_written (v.rolls-Full value) ∙ full_is value in
      let fits : (nat_lt (length value) 65532 && true) ≡ true = sym (ap (λ w. w.fits) same) ∙ f in
      (s, value ++ padding (length value), subst (IsTlv 274 value (value ++ padding (length value))) (sym (ap (λ w. w.text) same)) (tlv_is 274 value (short _ _ fits)))
  layer_in (Body-F.Sparse ilvs) s f =
      let inner = joined (map ilv_written ilvs) in
      let same : body_written (roll-Body (Body-F.Sparse ilvs)) ≡ wrapped 275 inner = ap body_written (v.rolls-Sparse ilvs) ∙ sparse_is ilvs in
      let fits : (nat_lt (length inner.text) 65532 && inner.fits) ≡ true = sym (ap (λ w. w.fits) same) ∙ f in (
        s,
        inner.text,
        inner.text,
        subst (IsTlv 275 inner.text inner.text) (sym (ap (λ w. w.text) same)) (tlv_whole 275 inner.text (short _ _ fits) (joined_whole ilv_written ilv_whole ilvs)),
        each_in ilv_written (λ x. Unit {0}) IsOwnIlv ilv_in ilvs (all_any ilvs) (both_second (nat_lt (length inner.text) 65532) _ fits),
      )
  layer_in (Body-F.Outcome code) s f =
      let same : body_written (roll-Body (Body-F.Outcome code)) ≡ result_written code = ap body_written (v.rolls-Outcome code) ∙ outcome_is code in
      (s, subst (IsResult code) (sym (ap (λ w. w.text) same)) (result_in code))
  layer_in (Body-F.Nested ps) s f =
      let same : body_written (roll-Body (Body-F.Nested ps)) ≡ joined (map path_written ps) = ap body_written (v.rolls-Nested ps) ∙ nested_is ps in
      (s.0, subst (Each (IsPathBy V) ps) (sym (ap (λ w. w.text) same)) (each_in path_written P (IsPathBy V) path_in_by ps s.1 (sym (ap (λ w. w.fits) same) ∙ f)))

  body_in : (b : Body) → ProperBody kind P (out-Body b) → (body_written b).fits ≡ true → IsBody kind V (out-Body b) (body_written b).text
  body_in b s f =
      let same : roll-Body (out-Body b) ≡ b = roll-out-Body b in
      subst (λ x. IsBody kind V (out-Body b) (body_written x).text) same (layer_in (out-Body b) s (ap (λ x. (body_written x).fits) same ∙ f))

value_in : (kind : OperKind) (depth : ℕ) (p : PathData) → ProperPath kind depth p → (path_written p).fits ≡ true → IsValueIn kind depth p (value_text p)
value_in kind zero p s f = absurd s
value_in kind (suc depth) p s f =
    let fits : (nat_lt (length (value_text p)) 65532 && (nat_lt (length p.ids) 65536 && ((key_written p.key).fits && (body_written p.body).fits))) ≡ true = sym (ap (λ w. w.fits) (path_is p)) ∙ f in
    let more = both_second _ _ fits in
    let parts = both_second _ _ more in
    record {
      flags = key_flags p.key;
      keyed = (key_written p.key).text;
      rest = (body_written p.body).text;
      few = lt_of _ _ (both_first _ _ more);
      key = key_in p.key (both_first _ _ parts);
      body = body_in kind (IsValueIn kind depth) (ProperPath kind depth) (value_in kind depth) p.body s (both_second _ _ parts);
      spelled = refl;
    }

path_in : (kind : OperKind) (depth : ℕ) (p : PathData) → ProperPath kind depth p → (path_written p).fits ≡ true → IsPath kind depth p (path_written p).text
path_in kind depth p s f = path_in_by kind (IsValueIn kind depth) (ProperPath kind depth) (value_in kind depth) p s f

oper_in : (message : ℕ) (o : Oper) → ProperOper message o → (oper_written o).fits ≡ true → IsOper message o (oper_written o).text
oper_in message (oper.Paths kind paths) s f =
    let inner = joined (map path_written paths) in (
      number_of kind,
      inner.text,
      inner.text,
      s.0,
      tlv_whole (number_of kind) inner.text (short _ _ f) (joined_whole path_written path_whole paths),
      s.1,
      each_in path_written (ProperPath kind 16) (IsPath kind 16) (path_in kind 16) paths s.2 (both_second (nat_lt (length inner.text) 65532) _ f),
    )
oper_in message oper.Commit s f = (12, s, tlv_whole 12 [] (omega arith) refl)
oper_in message oper.Trcomp s f = (14, s, tlv_whole 14 [] (omega arith) refl)
oper_in message (oper.CommitResponse code) s f =
    let inner = (result_written code).text in
    (13, inner, inner, s, tlv_whole 13 inner (short _ _ f) (tlv_length 276 _), result_in code)

-- what is written is one spelling
pub select_in : (message : ℕ) (s : Select) → ProperSelect message s → (select_written s).fits ≡ true → IsSelect message s (select_written s).text
select_in message s p f =
    let inner = joined (map oper_written s.opers) in
    let value = u32_bytes s.class ++ u32_bytes s.instance ++ inner.text in
    let whole : length value % 4 ≡ 0 = omega (arith, joined_whole oper_written oper_whole s.opers) in
    let fits = both_second (nat_lt (length value) 65532) _ f in
    (value, value, p.0, tlv_whole 4096 value (short _ _ f) whole, (inner.text, refl, p.1, each_in oper_written (ProperOper message) (IsOper message) (oper_in message) s.opers p.2 (both_second true inner.fits fits)))
