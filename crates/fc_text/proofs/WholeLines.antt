-- Each line of a message has some words, and none of them has a space or a line feed in it.
use Rattle.std.proofs.Common.{◌+◌, ℕ, zero, suc, List, [], ◌∷◌, ◌++◌, map, codes, refl, sym, subst, arith}
use Rattle.std.specs.List.{flat_map, AllByRecursion}
use Rattle.fc_wire.specs.declared.ilvs.Ilv.{Ilv}
use Rattle.fc_path.specs.Proper.{ProperBody, ProperPath, ProperOper, ProperSelect}
use Rattle.fc_path.specs.declared.oper.OperKind.{OperKind}
use Rattle.fc_path.specs.declared.oper.Oper.{Oper}
use Rattle.fc_path.specs.declared.oper.Oper.TheVariants as oper
use Rattle.fc_path.specs.declared.oper.Select.{Select}
use Rattle.fc_path.specs.declared.path.PathData.{PathData}
use Rattle.fc_path.specs.declared.path.Body.{Body, out-Body}
use Rattle.fc_path.specs.declared.path.Body.TheOpen.{Body-F}
use Rattle.fc_msg.specs.Messages.{IsProper, ProperMsgBody}
use Rattle.fc_msg.specs.declared.message.Message.{Message}
use Rattle.fc_msg.specs.declared.message.MsgBody.{MsgBody}
use Rattle.fc_msg.specs.declared.message.MsgBody.TheVariants.{Setup, SetupResponse, Teardown, Config, ConfigResponse, Query, QueryResponse, Event, Heartbeat}
use Rattle.fc_text.specs.TextGrammar.{Line, number, octets, ilv_line, path_lines, oper_lines, select_lines, content_lines, message_lines}
use Rattle.fc_text.proofs.PlainWords.{Whole}
use Rattle.fc_text.proofs.ReadLines.{alone, ilv_whole, code_whole}
use Rattle.fc_text.proofs.ReadPaths.{layer_lines, body_is, path_lines_are, head_whole as path_whole}
use Rattle.fc_text.proofs.ReadMessages.{oper_word, name_for, select_whole, head_whole}

-- all of some lists one after the other
pub all_append : {A : Type 0} (P : A → Type 0) (xs ys : List A) → AllByRecursion P xs → AllByRecursion P ys → AllByRecursion P (xs ++ ys)
all_append P [] ys h k = k
all_append P (x ∷ xs) ys h k = (h.0, all_append P xs ys h.1 k)

pub all_flat : {X A : Type 0} (P : A → Type 0) (Q : X → Type 0) (f : X → List A) (one : (x : X) → Q x → AllByRecursion P (f x)) (xs : List X) → AllByRecursion Q xs → AllByRecursion P (flat_map f xs)
all_flat P Q f one [] h = tt
all_flat P Q f one (x ∷ xs) h = all_append P (f x) (flat_map f xs) (one x h.0) (all_flat P Q f one xs h.1)

abbrev pub AreWhole : List Line → Type 0
AreWhole ls = AllByRecursion Whole ls

ilvs_whole : (level : ℕ) (ilvs : List Ilv) → AreWhole (map (ilv_line level) ilvs)
ilvs_whole level [] = tt
ilvs_whole level (x ∷ xs) = (ilv_whole level x, ilvs_whole level xs)

layer_whole : (kind : OperKind) (P : PathData → Type 0) (one : (level : ℕ) (p : PathData) → P p → AreWhole (path_lines p level)) (level : ℕ) (l : Body-F Body PathData) → ProperBody kind P l → AreWhole (layer_lines l level)
layer_whole kind P one level Body-F.Nothing h = tt
layer_whole kind P one level (Body-F.Full value) h = (alone (codes "full") (record { some = omega arith; plain = refl }) (octets value ∷ []) (tt, tt) level, tt)
layer_whole kind P one level (Body-F.Sparse ilvs) h = (alone (codes "sparse") (record { some = omega arith; plain = refl }) [] tt level, ilvs_whole (level + 1) ilvs)
layer_whole kind P one level (Body-F.Outcome code) h = (code_whole level code, tt)
layer_whole kind P one level (Body-F.Nested ps) h = all_flat Whole P (λ p. path_lines p level) (one level) ps h.1

paths_whole : (kind : OperKind) (depth level : ℕ) (p : PathData) → ProperPath kind depth p → AreWhole (path_lines p level)
paths_whole kind zero level p h = absurd h
paths_whole kind (suc depth) level p h =
    subst AreWhole (sym (path_lines_are p level))
    (path_whole p level, subst AreWhole (sym (body_is p.body (level + 1))) (layer_whole kind (ProperPath kind depth) (paths_whole kind depth) (level + 1) (out-Body p.body) h))

oper_whole : (message level : ℕ) (o : Oper) → ProperOper message o → AreWhole (oper_lines level o)
oper_whole message level (oper.Paths kind paths) p =
    (alone (name_for (oper.Paths kind paths)) (oper_word (oper.Paths kind paths)) [] tt level, all_flat Whole (ProperPath kind 16) (λ q. path_lines q (level + 1)) (paths_whole kind 16 (level + 1)) paths p.2)
oper_whole message level oper.Commit p = (alone (codes "COMMIT") (oper_word oper.Commit) [] tt level, tt)
oper_whole message level oper.Trcomp p = (alone (codes "TRCOMP") (oper_word oper.Trcomp) [] tt level, tt)
oper_whole message level (oper.CommitResponse code) p = (alone (codes "COMMIT-RESPONSE") (oper_word (oper.CommitResponse code)) [] tt level, (code_whole (level + 1) code, tt))

selects_whole : (message level : ℕ) (s : Select) → ProperSelect message s → AreWhole (select_lines level s)
selects_whole message level s p = (select_whole level s, all_flat Whole (ProperOper message) (oper_lines (level + 1)) (oper_whole message (level + 1)) s.opers p.2)

pub all_selects_whole : (message level : ℕ) (ss : List Select) → AllByRecursion (ProperSelect message) ss → AreWhole (flat_map (select_lines level) ss)
all_selects_whole message level ss p = all_flat Whole (ProperSelect message) (select_lines level) (selects_whole message level) ss p

content_whole : (b : MsgBody) → ProperMsgBody b → AreWhole (content_lines b)
content_whole (Setup ss) p = all_selects_whole 1 1 ss p
content_whole (SetupResponse n) p = (alone (codes "result") (record { some = omega arith; plain = refl }) (number n ∷ []) (tt, tt) 1, tt)
content_whole (Teardown n) p = (alone (codes "reason") (record { some = omega arith; plain = refl }) (number n ∷ []) (tt, tt) 1, tt)
content_whole (Config ss) p = all_selects_whole 3 1 ss p.1
content_whole (ConfigResponse ss) p = all_selects_whole 19 1 ss p.1
content_whole (Query ss) p = all_selects_whole 4 1 ss p.1
content_whole (QueryResponse ss) p = all_selects_whole 20 1 ss p.1
content_whole (Event ss) p = all_selects_whole 5 1 ss p.1
content_whole Heartbeat p = tt

pub message_whole : (m : Message) → IsProper m → AreWhole (message_lines m)
message_whole m p = (head_whole m, content_whole m.body p.body)

pub messages_whole : (ms : List Message) → AllByRecursion IsProper ms → AreWhole (flat_map message_lines ms)
messages_whole ms p = all_flat Whole IsProper message_lines message_whole ms p
