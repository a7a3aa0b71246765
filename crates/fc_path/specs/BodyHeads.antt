-- What the bodies of PATH-DATA are that reading lends: RFC 5810, section 7.1.
use Rattle.std.specs.Prelude.{◌≡◌, Result, Ok, Err}
use Rattle.fc_base.specs.Answers.{◌>>=◌}
use Rattle.fc_wire.specs.Tlvs.{TlvItem}
use Rattle.fc_path.specs.Stray.{Fails, beside, shut}
use Rattle.fc_path.specs.Reading.{nested_in, sparse_in}
use Rattle.fc_path.specs.declared.body_heads.BodyRef.{BodyRef}
use Rattle.fc_path.specs.declared.body_heads.BodyRef.TheVariants as lent
use Rattle.fc_path.specs.declared.body_heads.LeafRef.{LeafRef}
use Rattle.fc_path.specs.declared.body_heads.LeafRef.TheVariants as leaf
use Rattle.fc_path.specs.declared.fault.PathFault.{PathFault}
use Rattle.fc_path.specs.declared.path.Body.{Body}
use Rattle.fc_path.specs.declared.path.Body.TheVariants as body
use Rattle.fc_path.specs.declared.path.PathData.{PathData}

-- what a call lends is, once all of it is read, what reading gives
abbrev pub Holds : {X Y : Type 0} → (X → Result Y PathFault) → Result X PathFault → Result Y PathFault → Type 0
Holds held (Ok x) read = read ≡ held x
Holds held (Err fault) read = Fails fault read

-- the body that a leaf is, or the fault of an ILV of it
abbrev pub leaf_held : LeafRef → Result Body PathFault
leaf_held leaf.Nothing = Ok body.Nothing
leaf_held (leaf.Full value) = Ok (body.Full value.now)
leaf_held (leaf.Sparse ilvs) = sparse_in ilvs.items ilvs.fault >>= λ ilvs. Ok (body.Sparse ilvs)
leaf_held (leaf.Outcome code) = Ok (body.Outcome code)

-- the body that is lent, by what reads a PATH-DATA that it holds, or the first fault of it and of what stands behind it
abbrev pub body_held : (TlvItem → Result PathData PathFault) → BodyRef → Result Body PathFault
body_held one (lent.Leaf leaf behind) =
    leaf_held leaf >>= λ body. shut beside behind.items behind.fault >>= λ _. Ok body
body_held one (lent.Nested first behind) =
    nested_in one first behind.items behind.fault >>= λ paths. Ok (body.Nested paths)
