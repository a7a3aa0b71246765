-- The classes that each element has of itself, each with the one instance 1: FE Object (RFC 5812, section 5) and FE Protocol (RFC 5810,
-- appendix B) in the part and with the numbers of this profile, and Mastership, which is this profile's own.
use Rattle.std.specs.Prelude.{ℕ, false, List, [], ◌∷◌, codes}
use Rattle.fc_types.specs.Components.{ComponentDecl}
use Rattle.fc_types.specs.declared.class.Class.{Class}
use Rattle.fc_types.specs.declared.class.EventDecl.{EventDecl}
use Rattle.fc_types.specs.declared.class.When.TheVariants as when
use Rattle.fc_lfbs.specs.Kinds.{kind_type}
use Rattle.fc_lfbs.specs.declared.kinds.Kind.{Kind}
use Rattle.fc_lfbs.specs.declared.kinds.Kind.TheVariants as kind

-- a component by its ID, its name, its kind and its rights: 1 to read, 2 to write, 3 for both
abbrev pub component : ℕ → List ℕ → Kind → ℕ → ComponentDecl
component id name kind access = record { id = id; name = name; ty = kind_type kind; access = access; optional = false }

abbrev pub fe_object : Class
fe_object = record {
  id = 1;
  name = codes "FEObject";
  components =
      component 1 (codes "LFBTopology") (kind.Words 65536) 1
      ∷ component 2 (codes "LFBSelectors") kind.Selectors 1
      ∷ component 3 (codes "FEName") kind.Name 3
      ∷ component 4 (codes "FEID") kind.Word 1
      ∷ component 5 (codes "FEVendor") kind.Name 1
      ∷ component 6 (codes "FEModel") kind.Name 1
      ∷ component 7 (codes "FEState") kind.Byte 3
      ∷ component 8 (codes "FENeighbors") (kind.Words 65536) 1
      ∷ [];
  event_base = 0;
  events = [];
}

-- the event that the primary control element is gone
abbrev pub primary_down : EventDecl
primary_down = record { id = 1; name = codes "PrimaryCEDown"; when = when.Changed; target = 8 ∷ [] }

abbrev pub fe_protocol : Class
fe_protocol = record {
  id = 2;
  name = codes "FEProtocol";
  components =
      component 1 (codes "CurrentRunningVersion") kind.Byte 1
      ∷ component 2 (codes "FEID") kind.Word 1
      ∷ component 3 (codes "MulticastFEIDs") (kind.Words 65536) 1
      ∷ component 4 (codes "CEHBPolicy") kind.Policy 3
      ∷ component 5 (codes "CEHDI") kind.Word 3
      ∷ component 6 (codes "FEHBPolicy") kind.Policy 3
      ∷ component 7 (codes "FEHI") kind.Word 3
      ∷ component 8 (codes "CEID") kind.Word 1
      ∷ component 9 (codes "BackupCEs") (kind.Words 16) 3
      ∷ component 13 (codes "LastCEID") kind.Word 1
      ∷ [];
  event_base = 61;
  events = primary_down ∷ [];
}

abbrev pub mastership : Class
mastership = record {
  id = 126977;
  name = codes "Mastership";
  components =
      component 1 (codes "Epoch") kind.Word 1
      ∷ component 2 (codes "Master") kind.Word 1
      ∷ component 3 (codes "Transactions") kind.Transactions 1
      ∷ component 4 (codes "Opening") kind.Opening 2
      ∷ component 5 (codes "Subject") kind.Subject 2
      ∷ component 7 (codes "Held") kind.Transactions 1
      ∷ [];
  event_base = 0;
  events = [];
}

abbrev pub built_in : List Class
built_in = fe_object ∷ fe_protocol ∷ mastership ∷ []
