-- What is lent of bodies, operations and LFBselects is what reading gives.
use Rattle.std.proofs.Common.{◌≡◌, ◌≢◌, ◌==◌, ◌||◌, ℕ, not, Bool, true, false, nat_lt, cond, drop, length, ◌+◌, List, Option, Some, None, Result, Ok, Err, refl, sym, ap, ◌∙◌, subst}
use Rattle.fc_base.specs.Answers.{◌>>=◌}
use Rattle.fc_wire.specs.Bytes.{u32_at}
use Rattle.fc_wire.specs.Tiling.{Tiling, next_of, rest_of}
use Rattle.fc_wire.specs.Tlvs.{TlvItem, tlvs}
use Rattle.fc_wire.specs.declared.header.WireFault.{WireFault}
use Rattle.fc_wire.specs.declared.header.WireFault.TheVariants as wire
use Rattle.fc_path.specs.BodyHeads.{body_held, leaf_held}
use Rattle.fc_path.specs.Kinds.{holds_selects, operation_of}
use Rattle.fc_path.specs.Stray.{Fails, Gives, beside, misplaced, shut}
use Rattle.fc_path.specs.Reading.{body_in, end_of, leaf_at, oper_at, oper_by, operation_at, outcome_at, select_at, single, some_in}
use Rattle.fc_path.specs.SelectHeads.{oper_head_at, oper_head_by, operation_head_at, select_head_at, with_opers, with_paths}
use Rattle.fc_path.specs.declared.fault.PathFault.{PathFault}
use Rattle.fc_path.specs.declared.fault.PathFault.TheVariants as faults
use Rattle.fc_path.specs.declared.kinds.Operation.{Operation}
use Rattle.fc_path.specs.declared.kinds.Operation.TheVariants as operation
use Rattle.fc_path.specs.declared.oper.Oper.{Oper}
use Rattle.fc_path.specs.declared.oper.Oper.TheVariants as oper
use Rattle.fc_path.specs.declared.select_heads.OperHead.{OperHead}
use Rattle.fc_path.specs.declared.body_heads.LeafRef.{LeafRef}
use Rattle.fc_path.specs.declared.body_heads.BodyRef.TheVariants as lent
use Rattle.fc_path.specs.declared.oper.OperKind.{OperKind}
use Rattle.fc_path.specs.declared.path.Body.{Body}
use Rattle.fc_path.specs.declared.path.PathData.{PathData}
use Rattle.fc_path.specs.declared.select_heads.OperHead.TheVariants as head
use Rattle.fc_path.specs.declared.select_heads.SelectHead.{SelectHead}
use Rattle.fc_path.proofs.Steps.{body_leaf, fails_bind}

-- tests in front, and what goes on behind them
behind_one : {A B : Type 0} (b : Bool) (e : PathFault) (x : A) (g : A → Result B PathFault) → cond b (g x) (Err e) ≡ (cond b (Ok x) (Err e) >>= g)
behind_one true e x g = refl
behind_one false e x g = refl

behind_both : {A B : Type 0} (a b : Bool) (e f : PathFault) (x : A) (g : A → Result B PathFault) → cond a (Err e) (cond b (Err f) (g x)) ≡ (cond a (Err e) (cond b (Err f) (Ok x)) >>= g)
behind_both true b e f x g = refl
behind_both false true e f x g = refl
behind_both false false e f x g = refl

-- an operation is its head and then what it holds
code_moves : (r : Result ℕ PathFault) → (r >>= λ code. Ok (oper.CommitResponse code)) ≡ ((r >>= λ code. Ok (head.CommitResponse code)) >>= with_paths)
code_moves (Ok code) = refl
code_moves (Err e) = refl

operation_is : (which : Operation) (t : TlvItem) → operation_at which t ≡ (operation_head_at which t >>= with_paths)
operation_is (operation.Paths kind) t = refl
operation_is operation.Commit t = behind_one (length t.body == 0) (faults.WrongBody t.place) head.Commit with_paths
operation_is operation.Trcomp t = behind_one (length t.body == 0) (faults.WrongBody t.place) head.Trcomp with_paths
operation_is operation.CommitResponse t = code_moves (single 276 outcome_at (end_of t) (tlvs (t.place + 4) t.padded).items (tlvs (t.place + 4) t.padded).fault)

oper_by_is : (which : Option Operation) (t : TlvItem) → oper_by which t ≡ (oper_head_by which t >>= with_paths)
oper_by_is (Some which) t = operation_is which t
oper_by_is None t = refl

pub oper_is : (message : ℕ) (t : TlvItem) → oper_at message t ≡ (oper_head_at message t >>= with_paths)
oper_is message t = oper_by_is (operation_of message t.kind) t

pub oper_held : (message : ℕ) (t : TlvItem) (h : OperHead) (result : Result Oper PathFault) → oper_head_at message t ≡ Ok h → Gives result (with_paths h) → Gives result (oper_at message t)
oper_held message t h result is gives = subst (Gives result) (sym (oper_is message t ∙ ap (λ r. r >>= with_paths) is)) gives

pub oper_stops : (message : ℕ) (t : TlvItem) (e : PathFault) → Fails e (oper_head_at message t) → Fails e (oper_at message t)
oper_stops message t e f = subst (Fails e) (sym (oper_is message t)) (fails_bind e (oper_head_at message t) with_paths f)

-- an LFBselect is its head and then its operations
pub select_is : (message : ℕ) (t : TlvItem) → select_at message t ≡ (select_head_at message t >>= with_opers message)
select_is message t =
    behind_both (not (t.kind == 4096) || not (holds_selects message)) (nat_lt (length t.body) 8) (misplaced t) (faults.Wire (wire.TlvShort t.place))
    (record { class = u32_at t.padded 0; instance = u32_at t.padded 4; opers = tlvs (t.place + 12) (drop 8 t.padded); end = end_of t }) (with_opers message)

pub select_read : (message : ℕ) (t : TlvItem) (h : SelectHead) (opers : List Oper) → select_head_at message t ≡ Ok h → some_in (oper_at message) h.end h.opers.items h.opers.fault ≡ Ok opers
    → select_at message t ≡ Ok (record { class = h.class; instance = h.instance; opers = opers })
select_read message t h opers is held =
    select_is message t ∙ ap (λ r. r >>= with_opers message) is ∙ ap (λ r. r >>= λ opers. Ok (record { class = h.class; instance = h.instance; opers = opers })) held

pub select_stops : (message : ℕ) (t : TlvItem) (e : PathFault) → Fails e (select_head_at message t) → Fails e (select_at message t)
select_stops message t e f = subst (Fails e) (sym (select_is message t)) (fails_bind e (select_head_at message t) (with_opers message) f)

pub opers_stop : (message : ℕ) (t : TlvItem) (h : SelectHead) (e : PathFault) → select_head_at message t ≡ Ok h → Fails e (some_in (oper_at message) h.end h.opers.items h.opers.fault) → Fails e (select_at message t)
opers_stop message t h e is f =
    subst (Fails e) (sym (select_is message t ∙ ap (λ r. r >>= with_opers message) is)) (fails_bind e (some_in (oper_at message) h.end h.opers.items h.opers.fault) _ f)

-- a body that begins with a leaf is that leaf, and then nothing
pub leaf_lent : (kind : OperKind) (one : TlvItem → Result PathData PathFault) (end : ℕ) (items : List TlvItem) (fault : Option WireFault) (t : TlvItem) (rest : Tiling TlvItem) (leaf : LeafRef)
    → Some (Ok t) ≡ next_of items fault → rest ≡ rest_of items fault → t.kind ≢ 272 → leaf_at kind t ≡ leaf_held leaf → body_in kind one end items fault ≡ body_held one (lent.Leaf leaf rest)
leaf_lent kind one end items fault t rest leaf n r k is =
    body_leaf kind one end items fault t rest n r k ∙ ap (λ (q : Result Body PathFault). q >>= λ leaf. shut beside rest.items rest.fault >>= λ _. Ok leaf) is
