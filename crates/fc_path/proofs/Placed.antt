-- Reading never gives want of memory: each fault that it gives has its place.
use Rattle.std.proofs.Common.{◌≡◌, ℕ, zero, suc, ◌+◌, ◌*◌, ◌/◌, ◌^◌, List, [], ◌∷◌, length, drop, Bool, true, false, ◌==◌, ◌||◌, not, cond, nat_lt, Option, Some, None, Result, Ok, Err, refl, subst}
use Rattle.fc_wire.specs.Bytes.{u16_at, u32_at}
use Rattle.fc_wire.specs.Tlvs.{TlvItem, tlvs}
use Rattle.fc_wire.specs.Ilvs.{IlvItem, ilvs}
use Rattle.fc_wire.specs.declared.header.WireFault.{WireFault}
use Rattle.fc_wire.specs.declared.header.WireFault.TheVariants as wire
use Rattle.fc_path.specs.Kinds.{is_known, in_select, operation_of, holds_selects}
use Rattle.fc_base.specs.Answers.{◌>>=◌}
use Rattle.fc_path.specs.Stray.{misplaced, beside, trailing, shut}
use Rattle.fc_path.specs.Reading.{each_in, some_in, single, full_at, outcome_at, sparse_in, sparse_at, key_at, leaf_at, path_or, nested_in, body_in, content_in, numbers, path_at, operation_at, oper_by, oper_at, select_at, end_of}
use Rattle.fc_path.specs.declared.fault.PathFault.{PathFault}
use Rattle.fc_path.specs.declared.fault.PathFault.TheVariants as faults
use Rattle.fc_path.specs.declared.kinds.Operation.{Operation}
use Rattle.fc_path.specs.declared.kinds.Operation.TheVariants as operation
use Rattle.fc_path.specs.declared.oper.OperKind.{OperKind}
use Rattle.fc_path.specs.declared.oper.Oper.{Oper}
use Rattle.fc_path.specs.declared.path.Body.{Body}
use Rattle.fc_path.specs.declared.path.Key.{Key}
use Rattle.fc_path.specs.declared.path.PathData.{PathData, roll-PathData}

abbrev pub HasPlace : PathFault → Type 0
HasPlace (faults.Wire fault) = Unit {0}
HasPlace (faults.UnknownTlv place) = Unit {0}
HasPlace (faults.CountPast place) = Unit {0}
HasPlace (faults.KeyFlag place) = Unit {0}
HasPlace (faults.TwoBodies place) = Unit {0}
HasPlace (faults.Deep place) = Unit {0}
HasPlace (faults.WrongBody place) = Unit {0}
HasPlace (faults.Trailing place) = Unit {0}
HasPlace faults.Memory = ⊥

pub record Placed {X : Type 0} (r : Result X PathFault) : Type 0 where
  pub has : (fault : PathFault) → r ≡ Err fault → HasPlace fault

not_err : (X : Type 0) (x : X) (fault : PathFault) → ◌≡◌ {A = Result X PathFault} (Ok x) (Err fault) → HasPlace fault
not_err X x fault e = cc

same_fault : {X : Type 0} (e f : PathFault) → ◌≡◌ {A = Result X PathFault} (Err e) (Err f) → e ≡ f
same_fault e f h = cc

pub read_ok : {X : Type 0} (x : X) → Placed (Ok x)
read_ok {X = X} x = record { has = λ fault e. not_err X x fault e }

pub broken : {X : Type 0} (fault : PathFault) → HasPlace fault → Placed {X = X} (Err fault)
broken fault h = record { has = λ f e. subst HasPlace (same_fault fault f e) h }

pub bind : {A B : Type 0} (r : Result A PathFault) (f : A → Result B PathFault) → Placed r → ((x : A) → Placed (f x)) → Placed (r >>= f)
bind (Ok x) f h g = g x
bind (Err fault) f h g = broken fault (h.has fault refl)

pub either : {X : Type 0} (b : Bool) (x y : Result X PathFault) → Placed x → Placed y → Placed (cond b x y)
either true x y h k = h
either false x y h k = k

fault_of : (b : Bool) (x y : PathFault) → HasPlace x → HasPlace y → HasPlace (cond b x y)
fault_of true x y h k = h
fault_of false x y h k = k

pub shut_placed : (stray : TlvItem → PathFault) (placed : (t : TlvItem) → HasPlace (stray t)) (ts : List TlvItem) (fault : Option WireFault) → Placed (shut stray ts fault)
shut_placed stray placed [] None = read_ok tt
shut_placed stray placed [] (Some f) = broken (faults.Wire f) tt
shut_placed stray placed (t ∷ ts) fault = broken (stray t) (placed t)

misplaced_placed : (t : TlvItem) → HasPlace (misplaced t)
misplaced_placed t = fault_of (is_known t.kind) (faults.WrongBody t.place) (faults.UnknownTlv t.place) tt tt

beside_placed : (t : TlvItem) → HasPlace (beside t)
beside_placed t = fault_of (is_known t.kind) (faults.TwoBodies t.place) (faults.UnknownTlv t.place) tt tt

pub trailing_placed : (t : TlvItem) → HasPlace (trailing t)
trailing_placed t = fault_of (is_known t.kind) (faults.Trailing t.place) (faults.UnknownTlv t.place) tt tt

module _ {X : Type 0} (one : TlvItem → Result X PathFault) (placed : (t : TlvItem) → Placed (one t)) where
  pub each_placed : (ts : List TlvItem) (fault : Option WireFault) → Placed (each_in one ts fault)
  each_placed [] None = read_ok []
  each_placed [] (Some f) = broken (faults.Wire f) tt
  each_placed (t ∷ ts) fault =
      bind (one t) (λ x. each_in one ts fault >>= λ xs. Ok (x ∷ xs)) (placed t) (λ x. bind (each_in one ts fault) (λ xs. Ok (x ∷ xs)) (each_placed ts fault) (λ xs. read_ok (x ∷ xs)))

  pub some_placed : (end : ℕ) (ts : List TlvItem) (fault : Option WireFault) → Placed (some_in one end ts fault)
  some_placed end [] None = broken (faults.WrongBody end) tt
  some_placed end [] (Some f) = broken (faults.Wire f) tt
  some_placed end (t ∷ ts) fault = each_placed (t ∷ ts) fault

  pub single_placed : (kind end : ℕ) (ts : List TlvItem) (fault : Option WireFault) → Placed (single kind one end ts fault)
  single_placed kind end [] None = broken (faults.WrongBody end) tt
  single_placed kind end [] (Some f) = broken (faults.Wire f) tt
  single_placed kind end (t ∷ ts) fault =
      either (t.kind == kind) (one t >>= λ x. shut trailing ts fault >>= λ _. Ok x) (Err (misplaced t))
      (bind (one t) (λ x. shut trailing ts fault >>= λ _. Ok x) (placed t) (λ x. bind (shut trailing ts fault) (λ _. Ok x) (shut_placed trailing trailing_placed ts fault) (λ _. read_ok x)))
      (broken (misplaced t) (misplaced_placed t))

outcome_placed : (t : TlvItem) → Placed (outcome_at t)
outcome_placed t = either (length t.body == 4) _ _ (read_ok _) (broken _ tt)

sparse_in_placed : (is : List IlvItem) (fault : Option WireFault) → Placed (sparse_in is fault)
sparse_in_placed is None = read_ok _
sparse_in_placed is (Some f) = broken (faults.Wire f) tt

sparse_placed : (t : TlvItem) → Placed (sparse_at t)
sparse_placed t = sparse_in_placed (ilvs (t.place + 4) t.padded).items (ilvs (t.place + 4) t.padded).fault

key_placed : (t : TlvItem) → Placed (key_at t)
key_placed t =
    either (nat_lt (length t.body) 4) _ _ (broken _ tt) (bind (single 274 full_at (end_of t) (tlvs (t.place + 8) (drop 4 t.padded)).items (tlvs (t.place + 8) (drop 4 t.padded)).fault) _
    (single_placed full_at (λ t. read_ok t.body) 274 (end_of t) (tlvs (t.place + 8) (drop 4 t.padded)).items (tlvs (t.place + 8) (drop 4 t.padded)).fault) (λ x. read_ok _))

leaf_placed : (kind : OperKind) (t : TlvItem) → Placed (leaf_at kind t)
leaf_placed kind t = either _ _ _ (read_ok _) (either _ _ _ (bind (sparse_at t) _ (sparse_placed t) (λ x. read_ok _)) (either _ _ _ (bind (outcome_at t) _ (outcome_placed t) (λ x. read_ok _)) (broken _ (misplaced_placed t))))

module _ (kind : OperKind) (one : TlvItem → Result PathData PathFault) (placed : (t : TlvItem) → Placed (one t)) where
  or_placed : (stray : TlvItem → PathFault) (strays : (t : TlvItem) → HasPlace (stray t)) (t : TlvItem) → Placed (path_or stray one t)
  or_placed stray strays t = either (t.kind == 272) (one t) (Err (stray t)) (placed t) (broken (stray t) (strays t))

  nested_placed : (t : TlvItem) (ts : List TlvItem) (fault : Option WireFault) → Placed (nested_in one t ts fault)
  nested_placed t ts fault =
      bind (one t) _ (placed t) (λ x. bind (each_in (path_or beside one) ts fault) _ (each_placed (path_or beside one) (or_placed beside beside_placed) ts fault) (λ xs. read_ok _))

  body_placed : (end : ℕ) (ts : List TlvItem) (fault : Option WireFault) → Placed (body_in kind one end ts fault)
  body_placed end [] None = either _ _ _ (read_ok _) (broken _ tt)
  body_placed end [] (Some f) = broken (faults.Wire f) tt
  body_placed end (t ∷ ts) fault =
      either (t.kind == 272) _ _ (bind (nested_in one t ts fault) _ (nested_placed t ts fault) (λ x. read_ok _))
      (bind (leaf_at kind t) _ (leaf_placed kind t) (λ x. bind (shut beside ts fault) _ (shut_placed beside beside_placed ts fault) (λ _. read_ok _)))

  content_placed : (path end : ℕ) (keyed : Bool) (ts : List TlvItem) (fault : Option WireFault) → Placed (content_in kind one path keyed end ts fault)
  content_placed path end keyed [] None = either keyed _ _ (broken _ tt) (bind (body_in kind one end [] None) _ (body_placed end [] None) (λ x. read_ok _))
  content_placed path end keyed [] (Some f) = broken (faults.Wire f) tt
  content_placed path end keyed (t ∷ ts) fault =
      either (not (is_known t.kind)) _ _ (broken _ tt) (either keyed _ _
      (either (t.kind == 273) _ _ (bind (key_at t) _ (key_placed t) (λ key. bind (body_in kind one end ts fault) _ (body_placed end ts fault) (λ b. read_ok _))) (broken _ tt))
      (either (t.kind == 273) _ _ (broken _ tt) (bind (body_in kind one end (t ∷ ts) fault) _ (body_placed end (t ∷ ts) fault) (λ b. read_ok _))))

path_placed : (kind : OperKind) (depth : ℕ) (t : TlvItem) → Placed (path_at kind depth t)
path_placed kind zero t = broken (faults.Deep t.place) tt
path_placed kind (suc depth) t =
    let n = u16_at t.padded 2 in
    let view = tlvs (t.place + 8 + 4 * n) (drop (4 + 4 * n) t.padded) in
    let keyed = u16_at t.padded 0 / 2 ^ 15 == 1 in
    let content = content_in kind (path_at kind depth) t.place keyed (end_of t) view.items view.fault in
    let make = λ (x : Option Key × Body). Ok (roll-PathData (record { ids = numbers n (drop 4 t.padded); key = x.0; body = x.1 })) in
    either (nat_lt (length t.padded) 4 || nat_lt (length t.padded) (4 + 4 * n)) (Err (faults.CountPast t.place)) (content >>= make) (broken (faults.CountPast t.place) tt)
    (bind content make (content_placed kind (path_at kind depth) (path_placed kind depth) t.place (end_of t) keyed view.items view.fault)
    (λ x. read_ok (roll-PathData (record { ids = numbers n (drop 4 t.padded); key = x.0; body = x.1 }))))

operation_placed : (which : Operation) (t : TlvItem) → Placed (operation_at which t)
operation_placed (operation.Paths kind) t =
    bind (some_in (path_or misplaced (path_at kind 16)) (end_of t) (tlvs (t.place + 4) t.padded).items (tlvs (t.place + 4) t.padded).fault) _
    (some_placed (path_or misplaced (path_at kind 16)) (or_placed kind (path_at kind 16) (path_placed kind 16) misplaced misplaced_placed) (end_of t) (tlvs (t.place + 4) t.padded).items (tlvs (t.place + 4) t.padded).fault) (λ x. read_ok _)
operation_placed operation.Commit t = either _ _ _ (read_ok _) (broken _ tt)
operation_placed operation.Trcomp t = either _ _ _ (read_ok _) (broken _ tt)
operation_placed operation.CommitResponse t =
    bind (single 276 outcome_at (end_of t) (tlvs (t.place + 4) t.padded).items (tlvs (t.place + 4) t.padded).fault) _
    (single_placed outcome_at outcome_placed 276 (end_of t) (tlvs (t.place + 4) t.padded).items (tlvs (t.place + 4) t.padded).fault) (λ x. read_ok _)

oper_by_placed : (which : Option Operation) (t : TlvItem) → Placed (oper_by which t)
oper_by_placed None t = broken _ (fault_of (in_select t.kind) (faults.WrongBody t.place) (faults.UnknownTlv t.place) tt tt)
oper_by_placed (Some which) t = operation_placed which t

pub select_placed : (message : ℕ) (t : TlvItem) → Placed (select_at message t)
select_placed message t =
    let view = tlvs (t.place + 12) (drop 8 t.padded) in
    let opers = some_in (oper_at message) (end_of t) view.items view.fault in
    let make = λ (opers : List Oper). Ok (record { class = u32_at t.padded 0; instance = u32_at t.padded 4; opers = opers }) in
    let short = faults.Wire (wire.TlvShort t.place) in
    either (not (t.kind == 4096) || not (holds_selects message)) (Err (misplaced t)) (cond (nat_lt (length t.body) 8) (Err short) (opers >>= make)) (broken (misplaced t) (misplaced_placed t))
    (either (nat_lt (length t.body) 8) (Err short) (opers >>= make) (broken short tt)
    (bind opers make (some_placed (oper_at message) (λ t. oper_by_placed (operation_of message t.kind) t) (end_of t) view.items view.fault)
    (λ x. read_ok (record { class = u32_at t.padded 0; instance = u32_at t.padded 4; opers = x }))))

pub never_memory : (message : ℕ) (t : TlvItem) → select_at message t ≡ Err faults.Memory → ⊥
never_memory message t e = (select_placed message t).has faults.Memory e
