-- What a control element writes at the class Mastership. This profile's own, over RFC 5810, sections 7.1 and 7.6.
use Rattle.std.specs.Prelude.{ℕ, List, [], ◌∷◌, ◌++◌, Option, None}
use Rattle.fc_base.specs.Ids.{Txn}
use Rattle.fc_wire.specs.Bytes.{u32_bytes}
use Rattle.fc_path.specs.declared.oper.OperKind.TheVariants as kinds
use Rattle.fc_path.specs.declared.oper.Oper.{Oper}
use Rattle.fc_path.specs.declared.oper.Oper.TheVariants as oper
use Rattle.fc_path.specs.declared.oper.Select.{Select}
use Rattle.fc_path.specs.declared.path.Key.{Key}
use Rattle.fc_path.specs.declared.path.PathData.{PathData, roll-PathData}
use Rattle.fc_path.specs.declared.path.Body.{Body}
use Rattle.fc_path.specs.declared.path.Body.TheVariants as body
use Rattle.fc_plans.specs.Components as components

abbrev pub path : List ℕ → Option Key → Body → PathData
path ids key b = roll-PathData (record { ids = ids; key = key; body = b })

-- operations on the instance 1 of Mastership
abbrev pub on_mastership : List Oper → Select
on_mastership opers = record { class = components.mastership; instance = 1; opers = opers }

abbrev pub sets : ℕ → List ℕ → Oper
sets id bytes = oper.Paths kinds.Set (path (id ∷ []) None (body.Full bytes) ∷ [])

-- a subject: epoch and number
abbrev pub subject_bytes : Txn → List ℕ
subject_bytes x = u32_bytes x.epoch ++ u32_bytes x.number

-- selects behind the one that names, by these bytes, the transaction of which they are
abbrev pub behind : List ℕ → List Select → List Select
behind name selects = on_mastership (sets components.subject name ∷ []) ∷ selects

abbrev pub of_transaction : Txn → List Select → List Select
of_transaction x = behind (subject_bytes x)
