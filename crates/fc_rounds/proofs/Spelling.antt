-- The messages of a round as they are spelled: each can be answered, and is.
use Rattle.std.proofs.Common.{[], ◌≡◌, ◌<◌, ◌≤◌, ℕ, ◌+◌, ◌&&◌, ◌||◌, not, nat_lt, Bool, true, false, List, ◌∷◌, ◌++◌, length, map, None, is_none, inl, inr, refl, sym, ap, ◌∙◌, arith}
use Rattle.std.specs.List.{flat_map}
use Rattle.fc_asks.specs.Plans.{change_at}
use Rattle.fc_asks.specs.Requests.{opening_bytes, request_of}
use Rattle.fc_asks.specs.declared.life.Life.{Life}
use Rattle.fc_base.specs.Ids.{Txn}
use Rattle.fc_msg.specs.Messages.{message_fits}
use Rattle.fc_msg.specs.declared.message.Message.{Message}
use Rattle.fc_msg.specs.declared.message.MsgBody.TheVariants.{Config}
use Rattle.fc_path.specs.Canon.{Written, after, joined, oper_written, path_written, plain, select_written}
use Rattle.fc_path.specs.Kinds.{number_of}
use Rattle.fc_path.specs.Results.{oper_results, path_results, results_fit, select_results, select_with}
use Rattle.fc_path.specs.declared.oper.Oper.{Oper}
use Rattle.fc_path.specs.declared.oper.Oper.TheVariants as oper
use Rattle.fc_path.specs.declared.oper.OperKind.TheVariants as kinds
use Rattle.fc_path.specs.declared.oper.Select.{Select}
use Rattle.fc_path.specs.declared.path.Body.TheVariants as body
use Rattle.fc_path.specs.declared.path.PathData.{PathData}
use Rattle.fc_plans.specs.Changes.{all_change, change_fault, carrying, is_floor, is_short, no_name}
use Rattle.fc_plans.specs.Components as components
use Rattle.fc_plans.specs.Mastership.{behind, of_transaction, on_mastership, path, sets, subject_bytes}
use Rattle.fc_protocol.proofs.Puts.{both_first}
use Rattle.fc_protocol.specs.Messages.{Sot, Mot, Eot, Trcomp}
use Rattle.fc_protocol.specs.Scopes.{Scope}
use Rattle.fc_querying.proofs.Sizes.{Few, after_few, below, both, no_key_few, one_few, path_few, refused_few, wrapped_few}
use Rattle.fc_reply.proofs.Filled.{full_result, path_results_is}
use Rattle.fc_reply.specs.Replies.{reply}
use Rattle.fc_wellformed.proofs.Clear.{MayChange, change_may, request_good, short_of}
use Rattle.fc_wellformed.specs.WellFormed.{KeepsChanges}
use Rattle.fc_wire.specs.Bytes.{u32_bytes}
use Rattle.fc_wire.specs.Types as types
use Rattle.fc_wire.specs.Writing.{tlv_bytes, padding}

-- a Config that is answered, whatever the codes of its operations are, by a response that passes no length field, and that passes none itself
pub record IsAnswered (m : Message) (selects : List Select) : Type 0 where
  pub config : m.body ≡ Config selects
  pub fits : (results_fit selects && message_fits m) ≡ true
  pub loud : (codes : List ℕ) → is_none (reply m selects codes) ≡ false

-- ---- the room that results take does not depend on what is written
abbrev blank : ℕ → PathData
blank id = path (id ∷ []) None (body.Outcome 0)

abbrev answer_fits : List Oper → List Select → PathData → Bool
answer_fits os ss q =
    let w : Written = joined (map select_written (select_with (on_mastership []) (oper.Paths kinds.SetResponse (q ∷ []) ∷ flat_map oper_results os) ++ flat_map select_results ss)) in
    nat_lt (length w.text) 262117 && w.fits

blank_value : (id : ℕ) (value : List ℕ) → path_results (path (id ∷ []) None (body.Full value)) ≡ blank id
blank_value id value = path_results_is (path (id ∷ []) None (body.Full value)) ∙ ap (path (id ∷ []) None) (full_result value)

results_are : (id : ℕ) (value : List ℕ) (os : List Oper) (ss : List Select) → results_fit (on_mastership (sets id value ∷ os) ∷ ss) ≡ answer_fits os ss (blank id)
results_are id value os ss = ap (answer_fits os ss) (blank_value id value)

-- ---- one select of Mastership
set_few : (id : ℕ) → Few 33 (oper_written (oper.Paths kinds.SetResponse (blank id ∷ [])))
set_few id =
    let at = path_few id 0 11 None (body.Outcome 0) no_key_few (refused_few 0) (omega arith) in
    let whole = wrapped_few (number_of kinds.SetResponse) 26 (joined (path_written (blank id) ∷ [])) (omega arith) (one_few 26 (path_written (blank id)) at) in
    (whole.0, omega (arith, whole.1))

alone : (n : ℕ) (os : List Oper) → Few n (joined (map oper_written os)) → n < 60000 → (let w : Written = joined (select_written (on_mastership os) ∷ []) in nat_lt (length w.text) 262117 && w.fits) ≡ true
alone n os h small =
    let head = plain (u32_bytes components.mastership ++ u32_bytes 1) in
    let inner = after_few 8 n head (joined (map oper_written os)) (refl, omega arith) h in
    let select = wrapped_few types.select (8 + n) (after head (joined (map oper_written os))) (omega (arith, small)) inner in
    let all = one_few (8 + n + 7) (select_written (on_mastership os)) select in
    both _ _ (below (length (joined (select_written (on_mastership os) ∷ [])).text) 262117 (omega (arith, all.1, small))) all.0

commit_few : Few 12 (oper_written (oper.CommitResponse 0))
unfolding tlv_bytes padding
commit_few = (refl, omega arith)

one_fits : (id : ℕ) → answer_fits [] [] (blank id) ≡ true
one_fits id = alone 33 (oper.Paths kinds.SetResponse (blank id ∷ []) ∷ []) (one_few 33 (oper_written (oper.Paths kinds.SetResponse (blank id ∷ []))) (set_few id)) (omega arith)

commit_fits : (id : ℕ) → answer_fits (oper.Commit ∷ []) [] (blank id) ≡ true
commit_fits id =
    alone 45 (oper.Paths kinds.SetResponse (blank id ∷ []) ∷ oper.CommitResponse 0 ∷ [])
    (after_few 33 12 (oper_written (oper.Paths kinds.SetResponse (blank id ∷ []))) (joined (oper_written (oper.CommitResponse 0) ∷ [])) (set_few id) (one_few 12 (oper_written (oper.CommitResponse 0)) commit_few)) (omega arith)

trcomp_fits : (id : ℕ) → answer_fits (oper.Trcomp ∷ []) [] (blank id) ≡ true
trcomp_fits id = one_fits id

-- ---- each message
and_true : (a b : Bool) → a ≡ true → b ≡ true → (a && b) ≡ true
and_true true b h k = k
and_true false b h k = absurd cc

short_change : (ss : List Select) → change_fault ss ≡ None → results_fit (behind no_name ss) ≡ true
short_change [] e = absurd cc
short_change (s ∷ ss) e = both_first (results_fit (behind no_name (s ∷ ss))) (message_fits (carrying (behind no_name (s ∷ ss)))) (short_of (not (all_change (s ∷ ss)) || is_floor (s ∷ ss)) (is_short (behind no_name (s ∷ ss))) e)

change_fits : (x : Txn) (ss : List Select) → MayChange ss → results_fit (of_transaction x ss) ≡ true
change_fits x ss (inl none) = ap (λ ts. results_fit (of_transaction x ts)) none ∙ results_are components.subject (subject_bytes x) [] [] ∙ one_fits components.subject
change_fits x ss (inr change) = results_are components.subject (subject_bytes x) [] ss ∙ sym (results_are components.subject no_name [] ss) ∙ short_change ss change.0

abbrev pub start_selects : Txn → List ℕ → Scope → List Select
start_selects x ps sc = on_mastership (sets components.opening (opening_bytes x ps sc) ∷ []) ∷ []

abbrev pub end_selects : Txn → Oper → List Select
end_selects x o = on_mastership (sets components.subject (subject_bytes x) ∷ o ∷ []) ∷ []

module _ (life : Life) (p corr : ℕ) (keeps : KeepsChanges life) where
  pub start_answered : (x : Txn) (ps : List ℕ) (sc : Scope) → length ps ≤ 64 → length sc ≤ 4096 → IsAnswered (request_of life p corr (Sot x ps sc)) (start_selects x ps sc)
  start_answered x ps sc few small = record {
    config = refl;
    fits = and_true (results_fit (start_selects x ps sc)) _ (results_are components.opening (opening_bytes x ps sc) [] [] ∙ one_fits components.opening) (request_good life p corr (Sot x ps sc) keeps (few, small)).fits;
    loud = λ codes. refl;
  }

  pub change_answered : (x : Txn) (i : ℕ) → IsAnswered (request_of life p corr (Mot x i)) (of_transaction x (change_at life.plans x p i))
  change_answered x i = record {
    config = refl;
    fits = and_true (results_fit (of_transaction x (change_at life.plans x p i))) _ (change_fits x (change_at life.plans x p i) (change_may life x p i keeps)) (request_good life p corr (Mot x i) keeps tt).fits;
    loud = λ codes. refl;
  }

  pub end_answered : (x : Txn) → IsAnswered (request_of life p corr (Eot x)) (end_selects x oper.Commit)
  end_answered x = record {
    config = refl;
    fits = and_true (results_fit (end_selects x oper.Commit)) _ (results_are components.subject (subject_bytes x) (oper.Commit ∷ []) [] ∙ commit_fits components.subject) (request_good life p corr (Eot x) keeps tt).fits;
    loud = λ codes. refl;
  }

  pub completion_answered : (x : Txn) → IsAnswered (request_of life p corr (Trcomp x)) (end_selects x oper.Trcomp)
  completion_answered x = record {
    config = refl;
    fits = and_true (results_fit (end_selects x oper.Trcomp)) _ (results_are components.subject (subject_bytes x) (oper.Trcomp ∷ []) [] ∙ trcomp_fits components.subject) (request_good life p corr (Trcomp x) keeps tt).fits;
    loud = λ codes. refl;
  }
