-- The numbers of a message that bytes spell are within the ranges of their types.
use Rattle.std.proofs.Common.{◌≡◌, ◌<◌, ◌+◌, ◌/◌, ◌^◌, ℕ, zero, suc, true, List, [], ◌∷◌, ◌++◌, length, take, drop, map, Option, Some, None, sym, subst, arith}
use Rattle.std.specs.List.{flat_map, AllByRecursion}
use Rattle.std.proofs.lemmas.List.{take-append-drop}
use Rattle.fc_wire.specs.Bytes.{AreBytes, u32_bytes}
use Rattle.fc_wire.specs.Tlvs.{IsTlv}
use Rattle.fc_wire.specs.declared.ilvs.Ilv.{Ilv}
use Rattle.fc_path.specs.Grammar.{Each, IsResult, IsOwnIlv, IsPathBy, IsBody, IsKeyed, IsValueIn, IsPath, IsOper, IsSelect}
use Rattle.fc_path.specs.declared.oper.OperKind.{OperKind}
use Rattle.fc_path.specs.declared.oper.Oper.{Oper}
use Rattle.fc_path.specs.declared.oper.Oper.TheVariants as oper
use Rattle.fc_path.specs.declared.oper.Select.{Select}
use Rattle.fc_path.specs.declared.path.Key.{Key}
use Rattle.fc_path.specs.declared.path.PathData.{PathData}
use Rattle.fc_path.specs.declared.path.Body.{Body, out-Body}
use Rattle.fc_path.specs.declared.path.Body.TheOpen.{Body-F}
use Rattle.fc_msg.specs.Messages.{IsProper, ProperMsgBody, Spells, SpellsBody, message_fits}
use Rattle.fc_msg.specs.declared.message.Message.{Message}
use Rattle.fc_msg.specs.declared.message.MsgBody.{MsgBody}
use Rattle.fc_msg.specs.declared.message.MsgBody.TheVariants.{Setup, SetupResponse, Teardown, Config, ConfigResponse, Query, QueryResponse, Event, Heartbeat}
use Rattle.fc_text.specs.TextGrammar.{ilv_line, key_words, step_words, path_lines, oper_lines, select_lines, content_lines, message_lines, WordFits, LineFits, LinesFit, HasText}
use Rattle.fc_text.proofs.ReadPaths.{layer_lines, body_is, path_lines_are}
use Rattle.fc_text.proofs.WholeLines.{all_flat}

-- bytes in bytes
bytes_split : (xs ys : List ℕ) → AreBytes (xs ++ ys) → AreBytes xs × AreBytes ys
bytes_split [] ys h = (tt, h)
bytes_split (x ∷ xs) ys h = let (front, back) = bytes_split xs ys h.1 in ((h.0, front), back)

padded_bytes : (kind : ℕ) (body padded bytes : List ℕ) → IsTlv kind body padded bytes → AreBytes bytes → AreBytes padded
padded_bytes kind body padded bytes is fine = (subst AreBytes is.spelled fine).1.1.1.1

body_bytes : (kind : ℕ) (body padded bytes : List ℕ) → IsTlv kind body padded bytes → AreBytes bytes → AreBytes body
body_bytes kind body padded bytes is fine = (bytes_split body is.padding (subst AreBytes is.value (padded_bytes kind body padded bytes is fine))).0

small_in : (n : ℕ) (rest : List ℕ) → AreBytes (u32_bytes n ++ rest) → (n < 2 ^ 32) × AreBytes rest
small_in n rest h = let first : n / 2 ^ 24 < 256 = h.0 in (omega (arith, first), h.1.1.1.1)

each_of : {A : Type 0} (Is : A → List ℕ → Type 0) (P : A → Type 0) (one : (x : A) (bytes : List ℕ) → Is x bytes → AreBytes bytes → P x) (xs : List A) (bytes : List ℕ) → Each Is xs bytes → AreBytes bytes → AllByRecursion P xs
each_of Is P one [] bytes h fine = tt
each_of Is P one (x ∷ xs) bytes h fine =
    let (front, back) = bytes_split h.0 h.1 (subst AreBytes h.2 fine) in
    (one x h.0 h.3 front, each_of Is P one xs h.1 h.4 back)

-- the words of a PATH-DATA
key_fits : (flags : ℕ) (key : Option Key) (bytes : List ℕ) → IsKeyed flags key bytes → AreBytes bytes → AllByRecursion WordFits (key_words key)
key_fits flags None bytes h fine = tt
key_fits flags (Some key) bytes h fine =
    let padded = padded_bytes 273 h.1.0 h.1.1 bytes h.1.4 fine in
    let (ident, full) = small_in key.ident h.1.2 (subst AreBytes h.1.5 padded) in
    (tt, (ident, (body_bytes 274 key.value h.1.3 h.1.2 h.1.6 full, tt)))

steps_fit : (ids : List ℕ) (key : Option Key) (tail : List ℕ) → AreBytes (flat_map u32_bytes ids ++ tail) → (AreBytes tail → AllByRecursion WordFits (key_words key)) → AllByRecursion WordFits (step_words ids key)
steps_fit [] key tail fine more = more fine
steps_fit (id ∷ ids) key tail fine more = let (small, rest) = small_in id (flat_map u32_bytes ids ++ tail) fine in (small, steps_fit ids key tail rest more)

ids_tail : (ids tail : List ℕ) → AreBytes (flat_map u32_bytes ids ++ tail) → AreBytes tail
ids_tail [] tail fine = fine
ids_tail (id ∷ ids) tail fine = ids_tail ids tail (small_in id (flat_map u32_bytes ids ++ tail) fine).1

-- the lines of a body
ilv_fits : (level : ℕ) (ilv : Ilv) (bytes : List ℕ) → IsOwnIlv ilv bytes → AreBytes bytes → LineFits (ilv_line level ilv)
ilv_fits level ilv bytes is fine =
    let (ident, rest) = small_in ilv.ident (u32_bytes (length ilv.value + 8) ++ ilv.value ++ is.padding) (subst AreBytes is.spelled fine) in
    (tt, (ident, ((bytes_split ilv.value is.padding rest.1.1.1.1).0, tt)))

all_map : {A B : Type 0} (P : B → Type 0) (f : A → B) (xs : List A) → AllByRecursion (λ x. P (f x)) xs → AllByRecursion P (map f xs)
all_map P f [] h = tt
all_map P f (x ∷ xs) h = (h.0, all_map P f xs h.1)

code_fits : (code : ℕ) (bytes : List ℕ) → IsResult code bytes → AreBytes bytes → code < 16 ^ 2
code_fits code bytes h fine = let body = body_bytes 276 (code ∷ h.0) (code ∷ h.0) bytes h.2 fine in omega (arith, body.0)

layer_fits : (kind : OperKind) (V : PathData → List ℕ → Type 0) (one : (level : ℕ) (p : PathData) (padded : List ℕ) → V p padded → AreBytes padded → LinesFit (path_lines p level)) (level : ℕ) (l : Body-F Body PathData) (bytes : List ℕ)
    → IsBody kind V l bytes → AreBytes bytes → LinesFit (layer_lines l level)
layer_fits kind V one level Body-F.Nothing bytes h fine = tt
layer_fits kind V one level (Body-F.Full value) bytes h fine = ((tt, (body_bytes 274 value h.1 bytes h.2 fine, tt)), tt)
layer_fits kind V one level (Body-F.Sparse ilvs) bytes h fine =
    ((tt, tt), all_map LineFits (ilv_line (level + 1)) ilvs (each_of IsOwnIlv (λ ilv. LineFits (ilv_line (level + 1) ilv)) (ilv_fits (level + 1)) ilvs h.2 h.4 (padded_bytes 275 h.1 h.2 bytes h.3 fine)))
layer_fits kind V one level (Body-F.Outcome code) bytes h fine = ((tt, (code_fits code bytes h.1 fine, tt)), tt)
layer_fits kind V one level (Body-F.Nested ps) bytes h fine =
    all_flat LineFits (λ p. LinesFit (path_lines p level)) (λ p. path_lines p level) (λ p h. h) ps
    (each_of (IsPathBy V) (λ p. LinesFit (path_lines p level)) (λ p b is fine. one level p is.1 is.3 (padded_bytes 272 is.0 is.1 b is.2 fine)) ps bytes h.1 fine)

value_fits : (kind : OperKind) (depth level : ℕ) (p : PathData) (padded : List ℕ) → IsValueIn kind depth p padded → AreBytes padded → LinesFit (path_lines p level)
value_fits kind zero level p padded h fine = absurd h
value_fits kind (suc depth) level p padded h fine =
    let rest : AreBytes (flat_map u32_bytes p.ids ++ (h.keyed ++ h.rest)) = (subst AreBytes h.spelled fine).1.1.1.1 in
    let (keyed, body) = bytes_split h.keyed h.rest (ids_tail p.ids (h.keyed ++ h.rest) rest) in
    subst LinesFit (sym (path_lines_are p level)) (
      (tt, steps_fit p.ids p.key (h.keyed ++ h.rest) rest (λ t. key_fits h.flags p.key h.keyed h.key keyed)),
      subst LinesFit (sym (body_is p.body (level + 1))) (layer_fits kind (IsValueIn kind depth) (value_fits kind depth) (level + 1) (out-Body p.body) h.rest h.body body),
    )

-- operations and LFBselects
oper_fits : (message level : ℕ) (o : Oper) (bytes : List ℕ) → IsOper message o bytes → AreBytes bytes → LinesFit (oper_lines level o)
oper_fits message level (oper.Paths kind paths) bytes h fine = (
  (tt, tt),
  all_flat LineFits (λ p. LinesFit (path_lines p (level + 1))) (λ p. path_lines p (level + 1)) (λ p h. h) paths
      (each_of (IsPath kind 16) (λ p. LinesFit (path_lines p (level + 1))) (λ p b is fine. value_fits kind 16 (level + 1) p is.1 is.3 (padded_bytes 272 is.0 is.1 b is.2 fine)) paths h.2 h.6 (padded_bytes h.0 h.1 h.2 bytes h.4 fine)),
)
oper_fits message level oper.Commit bytes h fine = ((tt, tt), tt)
oper_fits message level oper.Trcomp bytes h fine = ((tt, tt), tt)
oper_fits message level (oper.CommitResponse code) bytes h fine = ((tt, tt), ((tt, (code_fits code h.2 h.5 (padded_bytes h.0 h.1 h.2 bytes h.4 fine), tt)), tt))

select_fits : (message level : ℕ) (s : Select) (bytes : List ℕ) → IsSelect message s bytes → AreBytes bytes → LinesFit (select_lines level s)
select_fits message level s bytes h fine =
    let padded = padded_bytes 4096 h.0 h.1 bytes h.3 fine in
    let value : AreBytes (u32_bytes s.class ++ (u32_bytes s.instance ++ h.4.0)) = subst AreBytes h.4.1 padded in
    let (class, more) = small_in s.class (u32_bytes s.instance ++ h.4.0) value in
    let (instance, rest) = small_in s.instance h.4.0 more in (
      (tt, (omega (arith, class), (omega (arith, instance), tt))),
      all_flat LineFits (λ o. LinesFit (oper_lines (level + 1) o)) (oper_lines (level + 1)) (λ o h. h) s.opers
          (each_of (IsOper message) (λ o. LinesFit (oper_lines (level + 1) o)) (oper_fits message (level + 1)) s.opers h.4.0 h.4.3 rest),
    )

selects_fit : (message : ℕ) (ss : List Select) (bytes : List ℕ) → Each (IsSelect message) ss bytes → AreBytes bytes → LinesFit (flat_map (select_lines 1) ss)
selects_fit message ss bytes h fine =
    all_flat LineFits (λ s. LinesFit (select_lines 1 s)) (select_lines 1) (λ s h. h) ss (each_of (IsSelect message) (λ s. LinesFit (select_lines 1 s)) (select_fits message 1) ss bytes h fine)

-- messages
content_fits : (b : MsgBody) (bytes : List ℕ) → ProperMsgBody b → SpellsBody b bytes → AreBytes bytes → LinesFit (content_lines b)
content_fits (Setup ss) bytes p h fine = selects_fit 1 ss bytes h fine
content_fits (SetupResponse n) bytes p h fine = ((tt, (p, tt)), tt)
content_fits (Teardown n) bytes p h fine = ((tt, (p, tt)), tt)
content_fits (Config ss) bytes p h fine = selects_fit 3 ss bytes h.1 fine
content_fits (ConfigResponse ss) bytes p h fine = selects_fit 19 ss bytes h.1 fine
content_fits (Query ss) bytes p h fine = selects_fit 4 ss bytes h.1 fine
content_fits (QueryResponse ss) bytes p h fine = selects_fit 20 ss bytes h.1 fine
content_fits (Event ss) bytes p h fine = selects_fit 5 ss bytes h.1 fine
content_fits Heartbeat bytes p h fine = tt

behind_head : (bytes : List ℕ) → AreBytes bytes → AreBytes (drop 24 bytes)
behind_head bytes fine = (bytes_split (take 24 bytes) (drop 24 bytes) (subst AreBytes (sym (take-append-drop 24 bytes)) fine)).1

pub spelled_fits : (m : Message) (bytes : List ℕ) → AreBytes bytes → Spells m bytes → IsProper m → LinesFit (message_lines m)
spelled_fits m bytes fine is proper =
    let source = proper.source in
    let dest = proper.dest in
    let corr = proper.correlator in
    ((tt, (omega (arith, source), (omega (arith, dest), (omega (arith, corr), (proper.flags, tt))))), content_fits m.body (drop 24 bytes) proper.body is.body (behind_head bytes fine))

pub spelled_has_text : (m : Message) (bytes : List ℕ) → AreBytes bytes → Spells m bytes → IsProper m → message_fits m ≡ true → HasText m
spelled_has_text m bytes fine is proper fits = record { proper = proper; fits = fits; ranges = spelled_fits m bytes fine is proper }
