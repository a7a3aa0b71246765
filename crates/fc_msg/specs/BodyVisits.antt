-- The order of faults of a whole body, and of a whole message, as one list of tests in reading order, whatever loops read
-- it: the LFBselects, or the one TLV, each with all that it holds, and last the end of the body. This profile's own.
use Rattle.std.specs.Prelude.{◌≡◌, ℕ, ◌==◌, Bool, true, List, [], ◌∷◌, ◌++◌, length, drop, map, slice_index, Option, Some, None, if◌then◌else◌}
use Rattle.std.specs.List.{AllByRecursion, flat_map}
use Rattle.std.specs.Option.{option_and_then}
use Rattle.fc_wire.specs.Tlvs.{TlvItem, tlvs}
use Rattle.fc_wire.specs.declared.header.WireFault.{WireFault}
use Rattle.fc_path.specs.Visits.{Visit, visit, unless, only, past, nothing, place_of, walk_in, select_visits}
use Rattle.fc_path.specs.declared.fault.PathFault.TheVariants as faults
use Rattle.fc_msg.specs.Faults.{Rule, header_rules, told_of, type_rules}
use Rattle.fc_msg.specs.MessageTypes as types
use Rattle.fc_msg.specs.declared.fault.Refusal.{Refusal}

-- the test of an ASResult or ASTreason
abbrev pub number_visits : TlvItem → List Visit
number_visits tlv = visit tlv.place (unless (length tlv.body == 4) (faults.WrongBody tlv.place)) ∷ []

-- whether these LFBselects are enough: an AssociationSetup needs none, and every other type one
abbrev pub are_enough : Bool → List TlvItem → Bool
are_enough is_setup [] = is_setup
are_enough is_setup (tlv ∷ tlvs) = true

-- the test of the end of LFBselects: of what cut the TLVs off, or of one that is missing
abbrev pub end_visit : Bool → ℕ → Option WireFault → Visit
end_visit enough end None = visit end (unless enough (faults.WrongBody end))
end_visit enough end (Some fault) = visit (place_of fault) (Some (faults.Wire fault))

-- the tests of a body of a type, whose TLVs go on to an end
abbrev pub body_visits : ℕ → ℕ → List TlvItem → Option WireFault → List Visit
body_visits kind end tlvs fault =
    if kind == types.heartbeat then walk_in nothing past end tlvs fault
    else (if kind == types.setup_response then walk_in number_visits (only types.as_result) end tlvs fault
    else (if kind == types.teardown then walk_in number_visits (only types.as_reason) end tlvs fault
    else flat_map (select_visits kind) tlvs ++ end_visit (are_enough (kind == types.setup) tlvs) end fault ∷ []))

-- what a rule tells if it is broken, and what a test tells if it fails
abbrev pub told_if : Rule → Option Refusal
told_if rule = if rule.is_broken then Some rule.told else None

abbrev pub told_at : Visit → Option Refusal
told_at v = option_and_then told_of v.fault

-- the tests of the body behind the header
abbrev pub visits_in : List ℕ → List Visit
visits_in bytes =
    body_visits (slice_index bytes 1) (length bytes) (tlvs 24 (drop 24 bytes)).items (tlvs 24 (drop 24 bytes)).fault

-- what each test of bytes tells, in order: the rules of the header, those of the type, and the tests of the body
abbrev pub tests_of : List ℕ → List (Option Refusal)
tests_of bytes = map told_if (header_rules bytes ++ type_rules (slice_index bytes 1)) ++ map told_at (visits_in bytes)

-- a test that tells nothing
abbrev pub IsPassed : Option Refusal → Type 0
IsPassed test = test ≡ None

-- the first test that tells anything tells this
abbrev pub FirstTold : Refusal → List (Option Refusal) → Type 0
FirstTold told tests =
    (before : List (Option Refusal)) × (rest : List (Option Refusal)) × (tests ≡ before ++ Some told ∷ rest)
    × AllByRecursion IsPassed before
