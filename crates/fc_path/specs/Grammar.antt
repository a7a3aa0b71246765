-- The grammar of paths, operations and selects, apart from how they are read: RFC 5810, sections 7.1 and 7.1.5 to
-- 7.1.8. Padding, all flags but that of the key, and the three bytes after a code are free.
use Rattle.std.specs.Prelude.{◌≡◌, ◌<◌, ℕ, zero, suc, ◌/◌, ◌^◌, true, List, [], ◌∷◌, ◌++◌, length, Option, Some, None}
use Rattle.std.specs.List.{flat_map}
use Rattle.fc_wire.specs.Bytes.{u16_bytes, u32_bytes}
use Rattle.fc_wire.specs.Tlvs.{TlvItem, IsTlv}
use Rattle.fc_wire.specs.Ilvs.{IsIlv}
use Rattle.fc_wire.specs.Types as types
use Rattle.fc_wire.specs.declared.ilvs.Ilv.{Ilv}
use Rattle.fc_path.specs.Kinds.{operation_of, holds_selects, takes_nothing, takes_full, takes_sparse, takes_outcome}
use Rattle.fc_path.specs.declared.kinds.Operation.TheVariants as operation
use Rattle.fc_path.specs.declared.oper.OperKind.{OperKind}
use Rattle.fc_path.specs.declared.oper.Oper.{Oper}
use Rattle.fc_path.specs.declared.oper.Oper.TheVariants as oper
use Rattle.fc_path.specs.declared.oper.Select.{Select}
use Rattle.fc_path.specs.declared.path.Key.{Key}
use Rattle.fc_path.specs.declared.path.PathData.{PathData}
use Rattle.fc_path.specs.declared.path.Body.{Body, out-Body}
use Rattle.fc_path.specs.declared.path.Body.TheOpen.{Body-F}

-- the bytes are these, one after the other
abbrev pub Each : {A : Type 0} → (A → List ℕ → Type 0) → List A → List ℕ → Type 0
Each Is [] bytes = bytes ≡ []
Each Is (x ∷ xs) bytes = (front : List ℕ) × (back : List ℕ) × (bytes ≡ front ++ back) × Is x front × Each Is xs back

-- a RESULT of a code
abbrev pub IsResult : ℕ → List ℕ → Type 0
IsResult code bytes = (free : List ℕ) × (length free ≡ 3) × IsTlv types.outcome (code ∷ free) (code ∷ free) bytes

-- an ILV of a SPARSEDATA
abbrev pub IsOwnIlv : Ilv → List ℕ → Type 0
IsOwnIlv ilv bytes = IsIlv ilv.ident ilv.value bytes

-- a KEYINFO: the number of the key, and one FULLDATA
abbrev pub IsKey : Key → List ℕ → Type 0
IsKey key bytes =
    (body : List ℕ) × (padded : List ℕ) × (full : List ℕ) × (all : List ℕ) × IsTlv types.key_info body padded bytes
    × (padded ≡ u32_bytes key.ident ++ full) × IsTlv types.full_data key.value all full

-- a PATH-DATA whose padded value is related to it by V
abbrev pub IsPathBy : (PathData → List ℕ → Type 0) → PathData → List ℕ → Type 0
IsPathBy V path bytes = (body : List ℕ) × (padded : List ℕ) × IsTlv types.path_data body padded bytes × V path padded

-- the body of a PATH-DATA of an operation: the leaf that the operation has, or more PATH-DATA
abbrev pub IsBody : OperKind → (PathData → List ℕ → Type 0) → Body-F Body PathData → List ℕ → Type 0
IsBody kind V Body-F.Nothing bytes = (takes_nothing kind ≡ true) × (bytes ≡ [])
IsBody kind V (Body-F.Full value) bytes = (takes_full kind ≡ true) × (padded : List ℕ) × IsTlv types.full_data value padded bytes
IsBody kind V (Body-F.Sparse ilvs) bytes =
    (takes_sparse kind ≡ true) × (body : List ℕ) × (padded : List ℕ) × IsTlv types.sparse_data body padded bytes × Each IsOwnIlv ilvs padded
IsBody kind V (Body-F.Outcome code) bytes = (takes_outcome kind ≡ true) × IsResult code bytes
IsBody kind V (Body-F.Nested paths) bytes = (0 < length paths) × Each (IsPathBy V) paths bytes

-- the key of a PATH-DATA, which is there exactly where its flag is set
abbrev pub IsKeyed : ℕ → Option Key → List ℕ → Type 0
IsKeyed flags None bytes = (flags / 2 ^ 15 ≡ 0) × (bytes ≡ [])
IsKeyed flags (Some key) bytes = (flags / 2 ^ 15 ≡ 1) × IsKey key bytes

-- the padded value of a PATH-DATA: flags, the count of the IDs, the IDs, a key where the flag says so, and the body
pub record IsValue (kind : OperKind) (V : PathData → List ℕ → Type 0) (path : PathData) (padded : List ℕ) : Type 0 where
  pub flags : ℕ
  pub keyed : List ℕ
  pub rest : List ℕ
  pub few : length path.ids < 2 ^ 16
  pub key : IsKeyed flags path.key keyed
  pub body : IsBody kind V (out-Body path.body) rest
  pub spelled : padded ≡ u16_bytes flags ++ u16_bytes (length path.ids) ++ flat_map u32_bytes path.ids ++ (keyed ++ rest)

-- the padded value of a PATH-DATA, below which so many levels less one may stand; none below level 0
abbrev pub IsValueIn : OperKind → ℕ → PathData → List ℕ → Type 0
IsValueIn kind zero path padded = ⊥
IsValueIn kind (suc depth) path padded = IsValue kind (IsValueIn kind depth) path padded

-- a PATH-DATA of an operation, at most so deep
abbrev pub IsPath : OperKind → ℕ → PathData → List ℕ → Type 0
IsPath kind depth = IsPathBy (IsValueIn kind depth)

-- an operation in a message of a type
abbrev pub IsOper : ℕ → Oper → List ℕ → Type 0
IsOper message (oper.Paths kind paths) bytes =
    (n : ℕ) × (body : List ℕ) × (padded : List ℕ) × (operation_of message n ≡ Some (operation.Paths kind))
    × IsTlv n body padded bytes × (0 < length paths) × Each (IsPath kind 16) paths padded
IsOper message oper.Commit bytes = (n : ℕ) × (operation_of message n ≡ Some operation.Commit) × IsTlv n [] [] bytes
IsOper message oper.Trcomp bytes = (n : ℕ) × (operation_of message n ≡ Some operation.Trcomp) × IsTlv n [] [] bytes
IsOper message (oper.CommitResponse code) bytes =
    (n : ℕ) × (body : List ℕ) × (padded : List ℕ) × (operation_of message n ≡ Some operation.CommitResponse)
    × IsTlv n body padded bytes × IsResult code padded

-- the padded value of an LFBselect: class, instance, and at least one operation
abbrev pub IsSelectValue : ℕ → Select → List ℕ → Type 0
IsSelectValue message select padded =
    (rest : List ℕ) × (padded ≡ u32_bytes select.class ++ u32_bytes select.instance ++ rest) × (0 < length select.opers)
    × Each (IsOper message) select.opers rest

-- a TLV that is the select, in a message of a type
abbrev pub IsSelectOf : ℕ → Select → TlvItem → Type 0
IsSelectOf message select tlv = (tlv.kind ≡ types.select) × (holds_selects message ≡ true) × IsSelectValue message select tlv.padded

-- bytes that are the select, in a message of a type
abbrev pub IsSelect : ℕ → Select → List ℕ → Type 0
IsSelect message select bytes =
    (body : List ℕ) × (padded : List ℕ) × (holds_selects message ≡ true) × IsTlv types.select body padded bytes
    × IsSelectValue message select padded
