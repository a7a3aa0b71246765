-- TLVs that may not stand where they do, and the fault of each (this profile's own order of refusals).
use Rattle.std.specs.Prelude.{◌≡◌, ◌==◌, List, [], ◌∷◌, Option, Some, None, IfSome, Result, Ok, Err, if◌then◌else◌}
use Rattle.fc_base.specs.Answers as answers
use Rattle.fc_wire.specs.Tlvs.{TlvItem}
use Rattle.fc_wire.specs.Types as types
use Rattle.fc_wire.specs.declared.header.WireFault.{WireFault}
use Rattle.fc_path.specs.Kinds.{is_known}
use Rattle.fc_path.specs.declared.fault.PathFault.{PathFault}
use Rattle.fc_path.specs.declared.fault.PathFault.TheVariants as faults

-- the fault of reading that a fault tells: none where it tells that memory was wanting
abbrev pub told : PathFault → Option PathFault
told (faults.Wire fault) = Some (faults.Wire fault)
told (faults.UnknownTlv place) = Some (faults.UnknownTlv place)
told (faults.CountPast place) = Some (faults.CountPast place)
told (faults.KeyFlag place) = Some (faults.KeyFlag place)
told (faults.TwoBodies place) = Some (faults.TwoBodies place)
told (faults.Deep place) = Some (faults.Deep place)
told (faults.WrongBody place) = Some (faults.WrongBody place)
told (faults.Trailing place) = Some (faults.Trailing place)
told faults.Memory = None

-- the fault is want of memory, or the one that reading gives
abbrev pub Fails : {X : Type 0} → PathFault → Result X PathFault → Type 0
Fails fault read = IfSome (told fault) (λ f. read ≡ Err f)

-- what a call answers is what reading gives, unless memory is wanting
abbrev pub Gives : {X : Type 0} → Result X PathFault → Result X PathFault → Type 0
Gives = answers.Gives (λ x. x) told

-- a TLV that may not stand here
abbrev pub misplaced : TlvItem → PathFault
misplaced tlv = if is_known tlv.kind then faults.WrongBody tlv.place else faults.UnknownTlv tlv.place

-- a TLV beside the body of a PATH-DATA
abbrev pub beside : TlvItem → PathFault
beside tlv = if is_known tlv.kind then faults.TwoBodies tlv.place else faults.UnknownTlv tlv.place

-- a TLV behind the only one that may stand here
abbrev pub trailing : TlvItem → PathFault
trailing tlv = if is_known tlv.kind then faults.Trailing tlv.place else faults.UnknownTlv tlv.place

-- nothing but a PATH-DATA may stand here
abbrev pub a_path : (TlvItem → PathFault) → TlvItem → Result (Unit {0}) PathFault
a_path stray tlv = if tlv.kind == types.path_data then Ok tt else Err (stray tlv)

-- nothing may stand here
abbrev pub shut : (TlvItem → PathFault) → List TlvItem → Option WireFault → Result (Unit {0}) PathFault
shut stray [] None = Ok tt
shut stray [] (Some fault) = Err (faults.Wire fault)
shut stray (tlv ∷ tlvs) fault = Err (stray tlv)
