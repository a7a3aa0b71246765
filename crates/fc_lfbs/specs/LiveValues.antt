-- The values that an element tells in the components of its own classes that stand in no configuration. This profile's own.
use Rattle.std.specs.Prelude.{◌≡◌, ◌≤◌, ℕ, suc, pos, ◌==◌, Bool, true, ◌&&◌, ◌||◌, List, [], ◌∷◌, codes, length, map, Option, Some, None, if◌then◌else◌}
use Rattle.std.specs.List.{filter}
use Rattle.fc_types.specs.BuiltIn.{is_live}
use Rattle.fc_types.specs.Ids.{is_distinct}
use Rattle.fc_types.specs.Libraries.{AreRising, same_instance}
use Rattle.fc_value.specs.declared.value.Value.{Value}
use Rattle.fc_value.specs.declared.value.Value.TheVariants as value

-- a transaction that is told: what names it, its state from 1 to 4 (started, prepared, completed, aborted), and its
-- participants, of which there are at most 64
pub record Txn : Type 0 where
  pub epoch : ℕ
  pub number : ℕ
  pub state : ℕ
  pub participants : List ℕ

-- what an element tells: its ID, all its instances, its present and its last control element, the epoch and the number of its master, and
-- the transactions in the order in which they were entered
pub record Told : Type 0 where
  pub id : ℕ
  pub instances : List (ℕ × ℕ)
  pub ce : ℕ
  pub last_ce : ℕ
  pub epoch : ℕ
  pub master : ℕ
  pub transactions : List Txn

abbrev pub txn_id : Txn → ℕ × ℕ
txn_id x = (x.epoch, x.number)

-- at most 65,536 instances, which rise, and at most 4,096 transactions, no two of one name
pub record IsTold (s : Told) : Type 0 where
  pub rising : AreRising s.instances
  pub instances : length s.instances ≤ 65536
  pub transactions : length s.transactions ≤ 4096
  pub distinct : is_distinct same_instance (map txn_id s.transactions) ≡ true

abbrev pub word : ℕ → Value
word n = value.Number (pos n)

-- entries whose subscripts rise by one
abbrev pub numbered : ℕ → List Value → List (ℕ × Value)
numbered n [] = []
numbered n (v ∷ vs) = (n, v) ∷ numbered (suc n) vs

-- an array whose subscripts rise from 1
abbrev pub table : List Value → Value
table vs = value.Table (numbered 1 vs)

abbrev pub selector : ℕ × ℕ → Value
selector p = value.Group (word p.0 ∷ word p.1 ∷ [])

abbrev pub transaction : Txn → Value
transaction x = value.Group (word x.epoch ∷ word x.number ∷ word x.state ∷ table (map word x.participants) ∷ [])

-- started or prepared
abbrev pub is_held : Txn → Bool
is_held x = (x.state == 1) || (x.state == 2)

-- LFBSelectors, FEID, FEVendor and FEModel, and LFBTopology and FENeighbors, which are empty
abbrev pub fe_object_value : Told → ℕ → Value
fe_object_value s id =
    if id == 2 then table (map selector s.instances)
    else (if id == 4 then word s.id
    else (if id == 5 then value.Text []
    else (if id == 6 then value.Text (codes "fc")
    else value.Table [])))

-- CurrentRunningVersion, FEID, CEID and LastCEID, and MulticastFEIDs, which is empty
abbrev pub fe_protocol_value : Told → ℕ → Value
fe_protocol_value s id =
    if id == 1 then word 1
    else (if id == 2 then word s.id
    else (if id == 8 then word s.ce
    else (if id == 13 then word s.last_ce
    else value.Table [])))

-- Epoch, Master, Transactions and Held
abbrev pub mastership_value : Told → ℕ → Value
mastership_value s id =
    if id == 1 then word s.epoch
    else (if id == 2 then word s.master
    else (if id == 3 then table (map transaction s.transactions)
    else table (map transaction (filter is_held s.transactions))))

abbrev pub live_value : Told → ℕ → ℕ → Value
live_value s class id =
    if class == 1 then fe_object_value s id else (if class == 2 then fe_protocol_value s id else mastership_value s id)

-- the value of a component, none where it is not a live one of instance 1
abbrev pub told_value : Told → ℕ → ℕ → ℕ → Option Value
told_value s class instance id = if is_live class id && (instance == 1) then Some (live_value s class id) else None
