-- What has a spelling is proper.
use Rattle.std.proofs.Common.{◌≡◌, ℕ, zero, suc, List, [], ◌∷◌, Bool, true, false, ◌==◌, ◌&&◌, cond, Option, Some, refl, sym, ap, ◌∙◌, ◌⊎◌, inl, inr, ⊎_elim, eqb-true}
use Rattle.std.specs.List.{AllByRecursion}
use Rattle.fc_wire.specs.Tlvs.{TlvItem}
use Rattle.fc_path.specs.Kinds.{Row, operations, operation_in, operation_of, number_of}
use Rattle.fc_path.specs.Grammar.{Each, IsPathBy, IsBody, IsValueIn, IsPath, IsOper, IsSelectOf}
use Rattle.fc_path.specs.Proper.{ProperBody, ProperPath, ProperOper, ProperSelect}
use Rattle.fc_path.specs.declared.kinds.Operation.{Operation}
use Rattle.fc_path.specs.declared.kinds.Operation.TheVariants as operation
use Rattle.fc_path.specs.declared.oper.OperKind.{OperKind}
use Rattle.fc_path.specs.declared.oper.Oper.{Oper}
use Rattle.fc_path.specs.declared.oper.Oper.TheVariants as oper
use Rattle.fc_path.specs.declared.oper.Select.{Select}
use Rattle.fc_path.specs.declared.path.PathData.{PathData}
use Rattle.fc_path.specs.declared.path.Body.{Body, out-Body}
use Rattle.fc_path.specs.declared.path.Body.TheOpen.{Body-F}

-- the type of an operation's TLV
abbrev type_of : Operation → ℕ
type_of (operation.Paths kind) = number_of kind
type_of operation.Commit = 12
type_of operation.Trcomp = 14
type_of operation.CommitResponse = 13

abbrev Typed : Row → Type 0
Typed row = row.kind ≡ type_of row.operation

all_typed : AllByRecursion Typed operations
all_typed = (refl, (refl, (refl, (refl, (refl, (refl, (refl, (refl, (refl, (refl, (refl, (refl, (refl, (refl, (refl, tt)))))))))))))))

chosen : {A : Type 0} (b : Bool) (x y z : A) → cond b x y ≡ z → ((b ≡ true) × (x ≡ z)) ⊎ ((b ≡ false) × (y ≡ z))
chosen true x y z e = inl (refl, e)
chosen false x y z e = inr (refl, e)

second : (a b : Bool) → (a && b) ≡ true → b ≡ true
second true b e = e
second false b e = cc

some_same : {A : Type 0} (x y : A) → ◌≡◌ {A = Option A} (Some x) (Some y) → x ≡ y
some_same x y e = cc

typed_in : (rows : List Row) (message n : ℕ) (o : Operation) → AllByRecursion Typed rows → operation_in rows message n ≡ Some o → n ≡ type_of o
typed_in [] message n o all e = cc
typed_in (x ∷ xs) message n o all e =
    ⊎_elim (λ (here : ((x.message == message && x.kind == n) ≡ true) × (Some x.operation ≡ Some o)).
    let kind : x.kind ≡ n = eqb-true _ _ (second (x.message == message) (x.kind == n) here.0) in
    sym kind ∙ all.0 ∙ ap type_of (some_same x.operation o here.1))
    (λ (there : ((x.message == message && x.kind == n) ≡ false) × (operation_in xs message n ≡ Some o)). typed_in xs message n o all.1 there.1)
    (chosen (x.message == message && x.kind == n) (Some x.operation) (operation_in xs message n) (Some o) e)

-- an operation stands under its own type alone
own_type : (message n : ℕ) (o : Operation) → operation_of message n ≡ Some o → operation_of message (type_of o) ≡ Some o
own_type message n o e = ap (operation_of message) (sym (typed_in operations message n o all_typed e)) ∙ e

pub all_of : {A : Type 0} (Is : A → List ℕ → Type 0) (P : A → Type 0) (one : (x : A) (bytes : List ℕ) → Is x bytes → P x) (xs : List A) (bytes : List ℕ) → Each Is xs bytes → AllByRecursion P xs
all_of Is P one [] bytes h = tt
all_of Is P one (x ∷ xs) bytes h = (one x h.0 h.3, all_of Is P one xs h.1 h.4)

layer_proper : (kind : OperKind) (V : PathData → List ℕ → Type 0) (P : PathData → Type 0) (one : (p : PathData) (padded : List ℕ) → V p padded → P p) (l : Body-F Body PathData) (bytes : List ℕ) → IsBody kind V l bytes → ProperBody kind P l
layer_proper kind V P one Body-F.Nothing bytes h = h.0
layer_proper kind V P one (Body-F.Full value) bytes h = h.0
layer_proper kind V P one (Body-F.Sparse ilvs) bytes h = h.0
layer_proper kind V P one (Body-F.Outcome code) bytes h = h.0
layer_proper kind V P one (Body-F.Nested ps) bytes h = (h.0, all_of (IsPathBy V) P (λ p b i. one p i.1 i.3) ps bytes h.1)

value_proper : (kind : OperKind) (depth : ℕ) (p : PathData) (padded : List ℕ) → IsValueIn kind depth p padded → ProperPath kind depth p
value_proper kind zero p padded h = absurd h
value_proper kind (suc depth) p padded h = layer_proper kind (IsValueIn kind depth) (ProperPath kind depth) (value_proper kind depth) (out-Body p.body) h.rest h.body

oper_proper : (message : ℕ) (o : Oper) (bytes : List ℕ) → IsOper message o bytes → ProperOper message o
oper_proper message (oper.Paths kind paths) bytes h =
    (own_type message h.0 (operation.Paths kind) h.3, h.5, all_of (IsPath kind 16) (ProperPath kind 16) (λ p b i. value_proper kind 16 p i.1 i.3) paths h.2 h.6)
oper_proper message oper.Commit bytes h = own_type message h.0 operation.Commit h.1
oper_proper message oper.Trcomp bytes h = own_type message h.0 operation.Trcomp h.1
oper_proper message (oper.CommitResponse code) bytes h = own_type message h.0 operation.CommitResponse h.3

pub proper_of : (message : ℕ) (tlv : TlvItem) (s : Select) → IsSelectOf message s tlv → ProperSelect message s
proper_of message tlv s h = (h.1, h.2.2, all_of (IsOper message) (ProperOper message) (oper_proper message) s.opers h.2.0 h.2.3)
