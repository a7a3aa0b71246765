-- A response has a place in the grammar where the request has.
use Rattle.std.proofs.Common.{◌≡◌, ℕ, zero, suc, ◌<◌, ◌^◌, ◌++◌, ◌&&◌, Bool, true, false, List, [], ◌∷◌, length, map, Option, Some, None, refl, sym, ap, ◌∙◌, subst, arith, rules}
use Rattle.std.specs.List.{AllByRecursion}
use Rattle.fc_wire.specs.declared.ilvs.Ilv.{Ilv}
use Rattle.fc_path.specs.Kinds.{operation_of, number_of, holds_selects, takes_full, takes_sparse, takes_outcome}
use Rattle.fc_path.specs.Proper.{ProperBody, ProperPath, ProperOper, ProperSelect}
use Rattle.fc_path.specs.Results.{select_with, response_kind}
use Rattle.fc_path.specs.declared.kinds.Operation.{Operation}
use Rattle.fc_path.specs.declared.kinds.Operation.TheVariants as operation
use Rattle.fc_path.specs.declared.oper.Oper.{Oper}
use Rattle.fc_path.specs.declared.oper.Oper.TheVariants as oper
use Rattle.fc_path.specs.declared.oper.OperKind.{OperKind}
use Rattle.fc_path.specs.declared.oper.OperKind.TheVariants as kinds
use Rattle.fc_path.specs.declared.oper.Select.{Select}
use Rattle.fc_path.specs.declared.path.PathData.{PathData, roll-PathData}
use Rattle.fc_path.specs.declared.path.Body.{Body, out-Body, roll-Body}
use Rattle.fc_path.specs.declared.path.Body.TheOpen.{Body-F}
use Rattle.fc_path.specs.declared.path.Body.TheVariants as v
use Rattle.fc_path.specs.declared.path.Body.TheViews.{out-roll-Body, roll-out-Body}
use Rattle.fc_msg.specs.Messages.{IsProper, ProperMsgBody, ProperSelects}
use Rattle.fc_msg.specs.declared.message.Message.{Message}
use Rattle.fc_msg.specs.declared.message.MsgBody.TheVariants.{Config}
use Rattle.fc_ops.specs.Filling.{Filled, next_of, each_filled, path_filled, body_filled, oper_filled, select_filled, selects_filled}
use Rattle.fc_ops.specs.declared.offers.Content.{Content}
use Rattle.fc_ops.specs.declared.offers.Content.TheVariants as content
use Rattle.fc_reply.specs.Answered.{results, oper_answered, opers_answered, each_answered, answered_selects}
use Rattle.fc_reply.specs.Replies.{reply, response, with_selects}
use Rattle.fc_reply.proofs.Filled.{leaf_filled, nothing_filled, full_filled, sparse_filled, outcome_filled, nested_filled, path_filled_is}
use Rattle.fc_reply.proofs.Fitting.{AreResults, codes_are_results, opers_answer, oper_answers, sent_is}

-- ---- contents that an operation may hold
abbrev pub Suits : OperKind → Content → Type 0
Suits kind (content.Full value) = takes_full kind ≡ true
Suits kind (content.Sparse ilvs) = takes_sparse kind ≡ true
Suits kind (content.Refused code) = takes_outcome kind ≡ true

abbrev pub AreSuited : OperKind → List Content → Type 0
AreSuited kind cs = AllByRecursion (Suits kind) cs

results_suit : (kind : OperKind) → takes_outcome kind ≡ true → (cs : List Content) → AreResults cs → AreSuited kind cs
results_suit kind t [] h = tt
results_suit kind t (content.Full value ∷ cs) h = absurd h.0
results_suit kind t (content.Sparse ilvs ∷ cs) h = absurd h.0
results_suit kind t (content.Refused code ∷ cs) h = (t, results_suit kind t cs h.1)

-- ---- what is filled with them
abbrev Holds : OperKind → (PathData → Type 0) → Body × List Content → Type 0
Holds kind P x = ProperBody kind P (out-Body x.0) × AreSuited kind x.1

body_proper : (kind : OperKind) (P : PathData → Type 0) (b : Body) (l : Body-F Body PathData) → roll-Body l ≡ b → ProperBody kind P l → ProperBody kind P (out-Body b)
body_proper kind P b l e h = subst (λ x. ProperBody kind P (out-Body x)) e (subst (ProperBody kind P) (sym (out-roll-Body l)) h)

leaf_proper : (kind : OperKind) (P : PathData → Type 0) (cs : List Content) → takes_outcome kind ≡ true → AreSuited kind cs → Holds kind P (leaf_filled cs)
leaf_proper kind P [] t h = (body_proper kind P (v.Outcome 0) (Body-F.Outcome 0) (v.rolls-Outcome 0) t, tt)
leaf_proper kind P (content.Full value ∷ cs) t h = (body_proper kind P (v.Full value) (Body-F.Full value) (v.rolls-Full value) h.0, h.1)
leaf_proper kind P (content.Sparse ilvs ∷ cs) t h = (body_proper kind P (v.Sparse ilvs) (Body-F.Sparse ilvs) (v.rolls-Sparse ilvs) h.0, h.1)
leaf_proper kind P (content.Refused code ∷ cs) t h = (body_proper kind P (v.Outcome code) (Body-F.Outcome code) (v.rolls-Outcome code) h.0, h.1)

each_long : (ps : List PathData) (cs : List Content) → length (each_filled (map path_filled ps) cs).0 ≡ length ps
each_long [] cs = refl
each_long (p ∷ ps) cs = ap suc (each_long ps (path_filled p cs).1)

-- what each one that has P becomes has Q
abbrev Becomes : OperKind → (PathData → Type 0) → (PathData → Type 0) → Type 0
Becomes kind P Q = (p : PathData) (cs : List Content) → P p → AreSuited kind cs → Q (path_filled p cs).0 × AreSuited kind (path_filled p cs).1

each_proper : (kind : OperKind) (P Q : PathData → Type 0) → Becomes kind P Q → (ps : List PathData) (cs : List Content) → AllByRecursion P ps → AreSuited kind cs
    → AllByRecursion Q (each_filled (map path_filled ps) cs).0 × AreSuited kind (each_filled (map path_filled ps) cs).1
each_proper kind P Q one [] cs a h = (tt, h)
each_proper kind P Q one (p ∷ ps) cs a h =
    let first = one p cs a.0 h in
    let more = each_proper kind P Q one ps (path_filled p cs).1 a.1 first.1 in ((first.0, more.0), more.1)

layer_proper : (request kind : OperKind) (P Q : PathData → Type 0) → Becomes kind P Q → takes_outcome kind ≡ true → (l : Body-F Body PathData) (cs : List Content)
    → ProperBody request P l → AreSuited kind cs → Holds kind Q (body_filled (roll-Body l) cs)
layer_proper request kind P Q one t Body-F.Nothing cs s h =
    subst (λ (g : Filled Body). Holds kind Q (g cs)) (sym (ap body_filled v.rolls-Nothing ∙ nothing_filled)) (leaf_proper kind Q cs t h)
layer_proper request kind P Q one t (Body-F.Full value) cs s h =
    subst (λ (g : Filled Body). Holds kind Q (g cs)) (sym (ap body_filled (v.rolls-Full value) ∙ full_filled value)) (leaf_proper kind Q cs t h)
layer_proper request kind P Q one t (Body-F.Sparse ilvs) cs s h =
    subst (λ (g : Filled Body). Holds kind Q (g cs)) (sym (ap body_filled (v.rolls-Sparse ilvs) ∙ sparse_filled ilvs)) (leaf_proper kind Q cs t h)
layer_proper request kind P Q one t (Body-F.Outcome code) cs s h =
    subst (λ (g : Filled Body). Holds kind Q (g cs)) (sym (ap body_filled (v.rolls-Outcome code) ∙ outcome_filled code)) (leaf_proper kind Q cs t h)
layer_proper request kind P Q one t (Body-F.Nested ps) cs s h =
    let xs = (each_filled (map path_filled ps) cs).0 in
    let inner = each_proper kind P Q one ps cs s.1 h in
    let long : 0 < length xs = omega (arith, each_long ps cs, s.0) in
    subst (λ (g : Filled Body). Holds kind Q (g cs)) (sym (ap body_filled (v.rolls-Nested ps) ∙ nested_filled ps))
    (body_proper kind Q (v.Nested xs) (Body-F.Nested xs) (v.rolls-Nested xs) (long, inner.0), inner.1)

pub path_proper : (request kind : OperKind) → takes_outcome kind ≡ true → (depth : ℕ) → Becomes kind (ProperPath request depth) (ProperPath kind depth)
path_proper request kind t zero p cs s h = absurd s
path_proper request kind t (suc depth) p cs s h =
    let same : roll-Body (out-Body p.body) ≡ p.body = roll-out-Body p.body in
    let inner = subst (λ b. Holds kind (ProperPath kind depth) (body_filled b cs)) same
    (layer_proper request kind (ProperPath request depth) (ProperPath kind depth) (path_proper request kind t depth) t (out-Body p.body) cs s h) in
    subst (λ (g : Filled PathData). ProperPath kind (suc depth) (g cs).0 × AreSuited kind (g cs).1) (sym (path_filled_is p)) inner

-- ---- the operations of a Config and their answers
record Answer (message : ℕ) (kind : OperKind) : Type 0 where
  stands : operation_of message (number_of kind) ≡ Some (operation.Paths kind)
  outcome : takes_outcome kind ≡ true

config_kind : (kind : OperKind) → operation_of 3 (number_of kind) ≡ Some (operation.Paths kind) → Answer 19 (response_kind kind)
config_kind kinds.Set h = record { stands = refl; outcome = refl }
config_kind kinds.SetProp h = record { stands = refl; outcome = refl }
config_kind kinds.Del h = record { stands = refl; outcome = refl }
config_kind kinds.Get h = cc
config_kind kinds.GetProp h = cc
config_kind kinds.SetResponse h = cc
config_kind kinds.SetPropResponse h = cc
config_kind kinds.DelResponse h = cc
config_kind kinds.GetResponse h = cc
config_kind kinds.GetPropResponse h = cc
config_kind kinds.Report h = cc

-- an operation with other PATH-DATA
paths_proper : (message : ℕ) (request kind : OperKind) → Answer message kind → (ps : List PathData) (cs : List Content) → 0 < length ps → AllByRecursion (ProperPath request 16) ps → AreSuited kind cs
    → ProperOper message (oper.Paths kind (each_filled (map path_filled ps) cs).0)
paths_proper message request kind k ps cs l s h =
    let inner = each_proper kind (ProperPath request 16) (ProperPath kind 16) (path_proper request kind k.outcome 16) ps cs s h in
    (k.stands, omega (arith, each_long ps cs, l), inner.0)

-- each operation of one message is answered by one of another
record IsAnswered (request message : ℕ) : Type 0 where
  kinds : (kind : OperKind) → operation_of request (number_of kind) ≡ Some (operation.Paths kind) → Answer message (response_kind kind)
  commits : operation_of request 12 ≡ Some operation.Commit → operation_of message 13 ≡ Some operation.CommitResponse
  selects : holds_selects message ≡ true

all_append : {A : Type 0} (P : A → Type 0) (xs ys : List A) → AllByRecursion P xs → AllByRecursion P ys → AllByRecursion P (xs ++ ys)
all_append P [] ys h k = k
all_append P (x ∷ xs) ys h k = (h.0, all_append P xs ys h.1 k)

module _ (request message : ℕ) (all : IsAnswered request message) where
  oper_proper : (o : Oper) (cs : List Content) → ProperOper request o → AreResults cs → AllByRecursion (ProperOper message) (oper_answered o cs).0
  oper_proper (oper.Paths kind ps) cs s h =
      let k = all.kinds kind s.0 in
      (paths_proper message kind (response_kind kind) k ps cs s.1 s.2 (results_suit (response_kind kind) k.outcome cs h), tt)
  oper_proper oper.Commit cs s h = (all.commits s, tt)
  oper_proper oper.Trcomp cs s h = tt
  oper_proper (oper.CommitResponse code) cs s h = tt

  opers_proper : (os : List Oper) (cs : List Content) → AllByRecursion (ProperOper request) os → AreResults cs → AllByRecursion (ProperOper message) (opers_answered os cs).0
  opers_proper [] cs s h = tt
  opers_proper (o ∷ os) cs s h =
      all_append (ProperOper message) (oper_answered o cs).0 _ (oper_proper o cs s.0 h) (opers_proper os (oper_answered o cs).1 s.1 (oper_answers o cs h).left)

  select_proper : (s : Select) (os : List Oper) → AllByRecursion (ProperOper message) os → AllByRecursion (ProperSelect message) (select_with s os)
  select_proper s [] h = tt
  select_proper s (o ∷ os) h = ((all.selects, omega arith, h), tt)

  selects_proper : (ss : List Select) (cs : List Content) → AllByRecursion (ProperSelect request) ss → AreResults cs → AllByRecursion (ProperSelect message) (each_answered ss cs).0
  selects_proper [] cs s h = tt
  selects_proper (x ∷ ss) cs s h =
      all_append (ProperSelect message) (select_with x (opers_answered x.opers cs).0) _ (select_proper x (opers_answered x.opers cs).0 (opers_proper x.opers cs s.0.2 h))
      (selects_proper ss (opers_answered x.opers cs).1 s.1 (opers_answer x.opers cs h).left)

config_answered : IsAnswered 3 19
config_answered = record { kinds = config_kind; commits = λ e. refl; selects = refl }

-- ---- the response
some_sent : (m r : Message) (codes : List ℕ) (ss : List Select) → with_selects m codes ss ≡ Some r → 0 < length ss
some_sent m r codes [] e = cc
some_sent m r codes (s ∷ ss) e = omega arith

response_proper : (m : Message) (ss : List Select) → IsProper m → 0 < length ss → AllByRecursion (ProperSelect 19) ss → IsProper (response m ss)
response_proper m ss p l h = record {
  source = p.dest;
  dest = p.source;
  correlator = p.correlator;
  flags = (omega arith, omega arith, omega arith, omega arith);
  body = (l, h);
}

pub reply_proper : (m r : Message) (selects : List Select) (codes : List ℕ) → IsProper m → m.body ≡ Config selects → reply m selects codes ≡ Some r → IsProper r
reply_proper m r selects codes p b e =
    let body : ProperSelects 3 selects = subst ProperMsgBody b p.body in
    let ss = answered_selects selects codes in
    subst IsProper (sym (sent_is m r codes ss e))
    (response_proper m ss p (some_sent m r codes ss e) (selects_proper 3 19 config_answered selects (results codes) body.1 (codes_are_results codes)))

-- ---- the operations of a query and their answers
any_suits : (kind : OperKind) → takes_full kind ≡ true → takes_sparse kind ≡ true → takes_outcome kind ≡ true → (cs : List Content) → AreSuited kind cs
any_suits kind f s o [] = tt
any_suits kind f s o (content.Full value ∷ cs) = (f, any_suits kind f s o cs)
any_suits kind f s o (content.Sparse ilvs ∷ cs) = (s, any_suits kind f s o cs)
any_suits kind f s o (content.Refused code ∷ cs) = (o, any_suits kind f s o cs)

record Asked (kind : OperKind) : Type 0 where
  answer : Answer 20 kind
  suits : (cs : List Content) → AreSuited kind cs

query_kind : (kind : OperKind) → operation_of 4 (number_of kind) ≡ Some (operation.Paths kind) → Asked (response_kind kind)
query_kind kinds.Get h = record { answer = record { stands = refl; outcome = refl }; suits = any_suits kinds.GetResponse refl refl refl }
query_kind kinds.GetProp h = record { answer = record { stands = refl; outcome = refl }; suits = any_suits kinds.GetPropResponse refl refl refl }
query_kind kinds.Set h = cc
query_kind kinds.SetProp h = cc
query_kind kinds.Del h = cc
query_kind kinds.SetResponse h = cc
query_kind kinds.SetPropResponse h = cc
query_kind kinds.DelResponse h = cc
query_kind kinds.GetResponse h = cc
query_kind kinds.GetPropResponse h = cc
query_kind kinds.Report h = cc

filled_oper_proper : (o : Oper) (cs : List Content) → ProperOper 4 o → ProperOper 20 (oper_filled o cs).0
filled_oper_proper (oper.Paths kind ps) cs s =
    let k = query_kind kind s.0 in paths_proper 20 kind (response_kind kind) k.answer ps cs s.1 s.2 (k.suits cs)
filled_oper_proper oper.Commit cs s = cc
filled_oper_proper oper.Trcomp cs s = cc
filled_oper_proper (oper.CommitResponse code) cs s = cc

filled_opers_proper : (os : List Oper) (cs : List Content) → AllByRecursion (ProperOper 4) os → AllByRecursion (ProperOper 20) (each_filled (map oper_filled os) cs).0 × (length (each_filled (map oper_filled os) cs).0 ≡ length os)
filled_opers_proper [] cs s = (tt, refl)
filled_opers_proper (o ∷ os) cs s =
    let more = filled_opers_proper os (oper_filled o cs).1 s.1 in ((filled_oper_proper o cs s.0, more.0), ap suc more.1)

filled_select_proper : (x : Select) (cs : List Content) → ProperSelect 4 x → ProperSelect 20 (select_filled x cs).0
filled_select_proper x cs s =
    let all = filled_opers_proper x.opers cs s.2 in (refl, omega (arith, all.1, s.1), all.0)

filled_each_proper : (ss : List Select) (cs : List Content) → AllByRecursion (ProperSelect 4) ss → AllByRecursion (ProperSelect 20) (selects_filled ss cs).0 × (length (selects_filled ss cs).0 ≡ length ss)
filled_each_proper [] cs s = (tt, refl)
filled_each_proper (x ∷ ss) cs s =
    let more = filled_each_proper ss (select_filled x cs).1 s.1 in ((filled_select_proper x cs s.0, more.0), ap suc more.1)

pub filled_proper : (selects : List Select) (cs : List Content) → ProperSelects 4 selects → ProperSelects 20 (selects_filled selects cs).0
filled_proper selects cs s =
    let all = filled_each_proper selects cs s.1 in (omega (arith, all.1, s.0), all.0)

-- ---- a query none of whose leaves is looked at
no_some : {A : Type 0} {x : A} → ◌≡◌ {A = Option A} None (Some x) → ⊥
no_some e = cc

query_answered : IsAnswered 4 20
query_answered = record { kinds = λ kind h. (query_kind kind h).answer; commits = λ e. absurd (no_some e); selects = refl }

longer : {A : Type 0} (xs ys : List A) → 0 < length xs → 0 < length (xs ++ ys)
longer [] ys h = absurd (omega (arith, h))
longer (x ∷ xs) ys h = omega arith

opers_some : (os : List Oper) (cs : List Content) → 0 < length os → AllByRecursion (ProperOper 4) os → 0 < length (opers_answered os cs).0
opers_some [] cs l h = absurd (omega (arith, l))
opers_some (oper.Paths kind ps ∷ os) cs l h = omega arith
opers_some (oper.Commit ∷ os) cs l h = absurd (no_some h.0)
opers_some (oper.Trcomp ∷ os) cs l h = absurd (no_some h.0)
opers_some (oper.CommitResponse code ∷ os) cs l h = absurd (no_some h.0)

select_some : (s : Select) (os : List Oper) → 0 < length os → 0 < length (select_with s os)
select_some s [] l = absurd (omega (arith, l))
select_some s (o ∷ os) l = omega arith

selects_some : (ss : List Select) (cs : List Content) → 0 < length ss → AllByRecursion (ProperSelect 4) ss → 0 < length (each_answered ss cs).0
selects_some [] cs l h = absurd (omega (arith, l))
selects_some (x ∷ ss) cs l h = longer (select_with x (opers_answered x.opers cs).0) _ (select_some x (opers_answered x.opers cs).0 (opers_some x.opers cs h.0.1 h.0.2))

pub refused_proper : (selects : List Select) (codes : List ℕ) → ProperSelects 4 selects → ProperSelects 20 (answered_selects selects codes)
refused_proper selects codes s =
    (selects_some selects (results codes) s.0 s.1, selects_proper 4 20 query_answered selects (results codes) s.1 (codes_are_results codes))
