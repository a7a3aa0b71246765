-- The classes and instances that a document's table declares, or its first fault (this profile's own). A table is looked at
-- whole before the tables in it, and these by the order of their keys and then by their place. In one table the unknown keys
-- come first, and then the missing and the wrong ones in the order of the declaration.
use Rattle.std.specs.Prelude.{ℕ, false, List, [], ◌∷◌, codes, Result, Ok}
use Rattle.toml.specs.Data.{Members}
use Rattle.fc_types.specs.Components.{ComponentDecl}
use Rattle.fc_types.specs.declared.class.EventDecl.{EventDecl}
use Rattle.fc_types.specs.declared.class.Class.{Class}
use Rattle.fc_base.specs.Answers.{◌>>=◌}
use Rattle.fc_library.specs.Keys.{only, number_at, number_or, text_at, truth_or, tables_or_none, numbers_at}
use Rattle.fc_library.specs.Names.{named, type_at, type_keys, when_at}
use Rattle.fc_library.specs.Types.{each, type_of}
use Rattle.fc_library.specs.declared.fault.LibFault.{LibFault}

-- a component (RFC 5812, section 4.7.4)
abbrev pub component : Members → Result ComponentDecl LibFault
component ms =
    only (codes "id" ∷ codes "name" ∷ codes "type" ∷ codes "access" ∷ codes "optional" ∷ type_keys (named ms)) ms >>= λ _.
    number_at (codes "id") 1 4294967295 ms >>= λ id.
    text_at (codes "name") ms >>= λ name.
    type_at ms >>= λ word.
    number_or 3 (codes "access") 3 ms >>= λ access.
    truth_or false (codes "optional") ms >>= λ optional.
    type_of word ms >>= λ ty.
    Ok (record { id = id; name = name; ty = ty; access = access; optional = optional })

-- an event (RFC 5812, section 4.7.6)
abbrev pub event : Members → Result EventDecl LibFault
event ms =
    only (codes "id" ∷ codes "name" ∷ codes "when" ∷ codes "target" ∷ []) ms >>= λ _.
    number_at (codes "id") 0 4294967295 ms >>= λ id.
    text_at (codes "name") ms >>= λ name.
    when_at ms >>= λ when.
    numbers_at (codes "target") ms >>= λ target.
    Ok (record { id = id; name = name; when = when; target = target })

-- a class (RFC 5812, section 4.7)
abbrev pub class : Members → Result Class LibFault
class ms =
    only (codes "id" ∷ codes "name" ∷ codes "component" ∷ codes "event_base" ∷ codes "event" ∷ []) ms >>= λ _.
    number_at (codes "id") 0 4294967295 ms >>= λ id.
    text_at (codes "name") ms >>= λ name.
    tables_or_none (codes "component") ms >>= λ component_tables.
    number_or 0 (codes "event_base") 4294967295 ms >>= λ event_base.
    tables_or_none (codes "event") ms >>= λ event_tables.
    each component component_tables >>= λ components.
    each event event_tables >>= λ events.
    Ok (record { id = id; name = name; components = components; event_base = event_base; events = events })

-- an instance: its class and its ID
abbrev pub instance : Members → Result (ℕ × ℕ) LibFault
instance ms =
    only (codes "class" ∷ codes "id" ∷ []) ms >>= λ _.
    number_at (codes "class") 0 4294967295 ms >>= λ class.
    number_at (codes "id") 0 4294967295 ms >>= λ id.
    Ok (class, id)

-- the classes and the instances of a document, in their order
abbrev pub declaration : Members → Result (List Class × List (ℕ × ℕ)) LibFault
declaration ms =
    only (codes "class" ∷ codes "instance" ∷ []) ms >>= λ _.
    tables_or_none (codes "class") ms >>= λ class_tables.
    tables_or_none (codes "instance") ms >>= λ instance_tables.
    each class class_tables >>= λ classes.
    each instance instance_tables >>= λ instances.
    Ok (classes, instances)
