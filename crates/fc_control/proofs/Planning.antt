-- What is next of a plan, what is to be given up, and a control element that begins.
use Rattle.std.proofs.Common.{◌≡◌, ◌≤◌, ◌<◌, get_or, ℕ, List, [], ◌∷◌, ◌++◌, length, drop, refl, sym, ap, ◌∙◌, append-nil, None}
use Rattle.std.proofs.lemmas.List.{drop_all, drop_more}
use Rattle.fc_base.specs.Ids.{Txn}
use Rattle.fc_asks.specs.declared.life.Life.{Life}
use Rattle.fc_protocol.specs.MasterMachine.{Master as Core, new_master}
use Rattle.fc_documents.specs.Parts.{begun as parts_of}
use Rattle.fc_control.specs.ControlNode.{ControlState, come, first_control}
use Rattle.fc_control.specs.Planning.{next_parts, whole_plan}
use Rattle.fc_documents.specs.declared.transaction.PlanTxn.{PlanTxn}

come_none : (now : ℕ) (l : List PlanTxn) → come now l [] ≡ []
come_none now [] = refl
come_none now (t ∷ ts) = refl

-- all that was begun was looked at
pub come_end : (txns whole : List Txn) (now : ℕ) (l : List PlanTxn) (xs : List Txn) (i : ℕ) → length xs ≤ i → txns ++ come now l (drop i xs) ≡ whole → txns ≡ whole
come_end txns whole now l xs i le is =
    sym (append-nil txns) ∙ ap (λ k. txns ++ k) (sym (come_none now l)) ∙ ap (λ ys. txns ++ come now l ys) (sym (drop_all i xs le)) ∙ is

pub next_some : (l : List PlanTxn) (k : ℕ) (t : PlanTxn) → k < length l → t ≡ get_or l k t → whole_plan (parts_of t) ≡ next_parts (drop k l)
next_some l k t lt at = ap (λ x. whole_plan (parts_of x)) at ∙ sym (ap next_parts (drop_more l k t lt))

pub next_none : (l : List PlanTxn) (k : ℕ) → length l ≤ k → None ≡ next_parts (drop k l)
next_none l k le = sym (ap next_parts (drop_all k l le))

pub first_is : (ce : ℕ) (life : Life) (core : Core) (begun : List Txn) (elements : List ℕ) (plan : List PlanTxn) (epoch : ℕ) → core ≡ new_master epoch elements → life.epoch ≡ epoch → begun ≡ []
    → record (first_control ce life elements plan) { core = core; begun = begun } ≡ first_control ce life elements plan
first_is ce life core begun elements plan epoch is same none =
    ap (λ begun. record (first_control ce life elements plan) { core = core; begun = begun }) none
    ∙ ap (λ core. record (first_control ce life elements plan) { core = core }) (is ∙ ap (λ e. new_master e elements) (sym same))
