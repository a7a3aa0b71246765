-- The library that the bytes of a document mean, or why they mean none (this profile's own): what TOML makes of them, then
-- what its tables declare, and then the rules that a library keeps.
use Rattle.std.specs.Prelude.{◌≡◌, ℕ, List, Option, Some, None, Result, Ok, Err, if◌then◌else◌}
use Rattle.std.specs.List.Sorted.{IsPermutation}
use Rattle.std.specs.Str.{is_utf8}
use Rattle.toml.specs.Data.{Members}
use Rattle.toml.specs.Parse.{parse_document}
use Rattle.fc_types.specs.Libraries.{AreRising, first_fault}
use Rattle.fc_types.specs.declared.class.Class.{Class}
use Rattle.fc_types.specs.declared.fault.CheckFault.{CheckFault}
use Rattle.fc_library.specs.Declarations.{declaration}
use Rattle.fc_base.specs.Answers.{◌>>=◌}
use Rattle.fc_library.specs.Gives.{Gives}
use Rattle.fc_library.specs.declared.fault.LibFault.{LibFault}
use Rattle.fc_library.specs.declared.fault.LibFault.TheVariants.{NotToml, Check}

-- the table that bytes write, where they are TOML
abbrev pub document : List ℕ → Option Members
document bytes = if is_utf8 bytes then parse_document bytes else None

-- classes and instances that keep the rules of a library
abbrev pub checked_by : List Class × List (ℕ × ℕ) → Option CheckFault → Result (List Class × List (ℕ × ℕ)) LibFault
checked_by given None = Ok given
checked_by given (Some fault) = Err (Check fault)

abbrev pub checked : List Class × List (ℕ × ℕ) → Result (List Class × List (ℕ × ℕ)) LibFault
checked given = checked_by given (first_fault given.0 given.1)

-- the classes and the instances, in the order of the document, of the library that a table means
abbrev pub library : Members → Result (List Class × List (ℕ × ℕ)) LibFault
library ms = declaration ms >>= checked

abbrev pub library_in : Option Members → Result (List Class × List (ℕ × ℕ)) LibFault
library_in None = Err NotToml
library_in (Some ms) = library ms

-- the same of the library that the bytes of a document mean
abbrev pub library_of : List ℕ → Result (List Class × List (ℕ × ℕ)) LibFault
library_of bytes = library_in (document bytes)

-- The answer is the library that is meant, whose instances are those of the document in rising order, or the fault for which
-- none is meant. It says nothing where there was no memory.
abbrev pub GivesLibrary : Result (List Class × List (ℕ × ℕ)) LibFault → Result (List Class × List (ℕ × ℕ)) LibFault → Type 0
GivesLibrary (Ok library) meant = (pairs : List (ℕ × ℕ)) × (meant ≡ Ok (library.0, pairs)) × IsPermutation pairs library.1 × AreRising library.1
GivesLibrary (Err fault) meant = Gives (Err fault) meant
