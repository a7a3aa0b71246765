-- The spelling of selects that is written: free bits and padding are zero, and the length of a container counts all that
-- stands in it with its padding. RFC 5810, sections 6.2, 6.3 and 7.1.
use Rattle.std.specs.Prelude.{◌≡◌, ℕ, ◌+◌, ◌^◌, ◌&&◌, Bool, true, false, nat_lt, List, [], ◌∷◌, ◌++◌, length, map, Option, Some, None, Result, Ok, Err}
use Rattle.std.specs.List.{flat_map}
use Rattle.fc_base.specs.declared.faults.WriteFault.{WriteFault}
use Rattle.fc_base.specs.declared.faults.WriteFault.TheVariants as faults
use Rattle.fc_wire.specs.Bytes.{u16_bytes, u32_bytes}
use Rattle.fc_wire.specs.Writing.{Writing, writing, tlv_bytes, ilv_bytes}
use Rattle.fc_wire.specs.Types as types
use Rattle.fc_wire.specs.declared.ilvs.Ilv.{Ilv}
use Rattle.fc_path.specs.Kinds.{number_of}
use Rattle.fc_path.specs.declared.oper.Oper.{Oper}
use Rattle.fc_path.specs.declared.oper.Oper.TheVariants as oper
use Rattle.fc_path.specs.declared.oper.Select.{Select}
use Rattle.fc_path.specs.declared.path.Key.{Key}
use Rattle.fc_path.specs.declared.path.PathData.{PathData}
use Rattle.fc_path.specs.declared.path.Body.{Body}
use Rattle.fc_path.specs.declared.path.Body.TheFolds.{fold-PathData, fold-Body}
use Rattle.fc_path.specs.declared.path.Body.TheOpen.{Body-F, PathData-F}

-- a spelling, and whether each length in it fits its field
pub record Written : Type 0 where
  pub text : List ℕ
  pub fits : Bool

abbrev pub plain : List ℕ → Written
plain bytes = record { text = bytes; fits = true }

abbrev pub after : Written → Written → Written
after v w = record { text = v.text ++ w.text; fits = v.fits && w.fits }

-- one after the other
abbrev pub joined : List Written → Written
joined [] = plain []
joined (w ∷ ws) = after w (joined ws)

-- in a TLV, whose length is at most 65,535
abbrev pub wrapped : ℕ → Written → Written
wrapped kind w = record { text = tlv_bytes kind w.text; fits = nat_lt (length w.text) 65532 && w.fits }

abbrev pub ilv_written : Ilv → Written
ilv_written ilv = record { text = ilv_bytes ilv.ident ilv.value; fits = nat_lt (length ilv.value + 8) (2 ^ 32) }

-- a RESULT
abbrev pub result_written : ℕ → Written
result_written code = wrapped types.outcome (plain (code ∷ 0 ∷ 0 ∷ 0 ∷ []))

-- a KEYINFO, where there is a key, and the flag that says so
abbrev pub key_written : Option Key → Written
key_written None = plain []
key_written (Some key) = wrapped types.key_info (after (plain (u32_bytes key.ident)) (wrapped types.full_data (plain key.value)))

abbrev pub key_flags : Option Key → ℕ
key_flags None = 0
key_flags (Some key) = 2 ^ 15

abbrev pub full_written : List ℕ → Written
full_written value = wrapped types.full_data (plain value)

abbrev pub sparse_written : List Ilv → Written
sparse_written ilvs = wrapped types.sparse_data (joined (map ilv_written ilvs))

abbrev pub body_step : Body-F Written Written → Written
body_step Body-F.Nothing = plain []
body_step (Body-F.Full value) = full_written value
body_step (Body-F.Sparse ilvs) = sparse_written ilvs
body_step (Body-F.Outcome code) = result_written code
body_step (Body-F.Nested ws) = joined ws

abbrev pub path_step : PathData-F Written Written → Written
path_step p = wrapped types.path_data (record {
  text = u16_bytes (key_flags p.key) ++ u16_bytes (length p.ids) ++ flat_map u32_bytes p.ids ++ ((key_written p.key).text ++ p.body.text);
  fits = nat_lt (length p.ids) 65536 && ((key_written p.key).fits && p.body.fits);
})

abbrev pub body_written : Body → Written
body_written = fold-Body Written Written body_step path_step

abbrev pub path_written : PathData → Written
path_written = fold-PathData Written Written body_step path_step

abbrev pub oper_written : Oper → Written
oper_written (oper.Paths kind paths) = wrapped (number_of kind) (joined (map path_written paths))
oper_written oper.Commit = wrapped types.commit (plain [])
oper_written oper.Trcomp = wrapped types.trcomp (plain [])
oper_written (oper.CommitResponse code) = wrapped types.commit_response (result_written code)

abbrev pub select_written : Select → Written
select_written s =
    wrapped types.select (after (plain (u32_bytes s.class ++ u32_bytes s.instance)) (joined (map oper_written s.opers)))

-- what writing did: it appended the spelling, whose lengths fit; or a length does not fit; or memory was wanting
abbrev pub Pushed : Result (Unit {0}) WriteFault → Writing → Writing → Written → Type 0
Pushed (Ok x) old new w = (w.fits ≡ true) × (new ≡ writing (old.text ++ w.text) old.places)
Pushed (Err faults.TooLong) old new w = w.fits ≡ false
Pushed (Err faults.Memory) old new w = Unit {0}
