-- What is told of a large run: what has become of its transactions, how many messages were sent, how many rows the tables of all elements have, and one
-- number for all messages. This profile's own.
use Rattle.std.specs.Prelude.{ℕ, ◌+◌, ◌/◌, ◌==◌, ◌&&◌, Bool, true, false, if◌then◌else◌, List, [], ◌∷◌, ◌++◌, length, map, sum, codes, decimal, Option, Some, None}
use Rattle.fc_base.specs.Hex.{hex}
use Rattle.fc_element.specs.Configuration.{configured}
use Rattle.fc_element.specs.ElementMachine.{settled_in}
use Rattle.fc_element.specs.ElementState.{ElementState}
use Rattle.fc_element.specs.declared.configured.Configured.{Configured}
use Rattle.fc_generated.specs.Tables.{class}
use Rattle.fc_generated.specs.Transactions.{ids}
use Rattle.fc_master.specs.Reports.{outcome}
use Rattle.fc_protocol.specs.Jobs.{Job}
use Rattle.fc_protocol.specs.declared.states.Decision.{Decision}
use Rattle.fc_protocol.specs.declared.states.Decision.TheVariants.{Abort, Complete}
use Rattle.fc_world.specs.Lookups.{element_in, ruling_in}
use Rattle.fc_world.specs.Reports.{sent_count}
use Rattle.fc_world.specs.Trails.{trail_of}
use Rattle.fc_world.specs.Worlds.{Ruling, WorldState}

-- ---- the transactions, by what has become of them at all their participants
abbrev pub is_for : Decision → Decision → Bool
is_for Complete Complete = true
is_for Complete Abort = false
is_for Abort Complete = false
is_for Abort Abort = true

abbrev pub has_come_to : Decision → Option Decision → Bool
has_come_to d None = false
has_come_to d (Some e) = is_for d e

abbrev pub one_if : Bool → ℕ
one_if true = 1
one_if false = 0

abbrev pub count_of : Decision → List Job → ℕ
count_of d [] = 0
count_of d (j ∷ js) = one_if (has_come_to d (outcome j)) + count_of d js

-- those of the control element, where it runs
abbrev pub jobs_in : Option Ruling → List Job
jobs_in None = []
jobs_in (Some r) = r.core.jobs

abbrev pub jobs_of : WorldState → List Job
jobs_of w = jobs_in (ruling_in 1 w.controllers)

abbrev pub completed : WorldState → ℕ
completed w = count_of Complete (jobs_of w)

abbrev pub aborted : WorldState → ℕ
aborted w = count_of Abort (jobs_of w)

-- ---- the rows of the table, in the settled configuration of each element
-- the component that is the table
abbrev pub is_table : Configured → Bool
is_table c = (c.class == class) && ((c.instance == 1) && (c.component == 1))

-- a row is its subscript, its name and its rate, of four bytes each
abbrev pub rows_of : Option (List ℕ) → ℕ
rows_of None = 0
rows_of (Some bytes) = length bytes / 12

-- where the table is not among what is configured it has no rows, as at first
abbrev pub rows_in : List Configured → ℕ
rows_in [] = 0
rows_in (c ∷ cs) = if is_table c then rows_of c.form else rows_in cs

abbrev pub rows_of_element : Option ElementState → ℕ
rows_of_element None = 0
rows_of_element (Some e) = rows_in (configured (settled_in e))

abbrev pub rows_at : WorldState → ℕ → ℕ
rows_at w f = rows_of_element (element_in f w.nodes)

abbrev pub entries : WorldState → ℕ
entries w = sum (map (rows_at w) ids)

-- ---- the lines
unfoldable pub run_line : ℕ → List ℕ
run_line n = codes "gen " ++ (decimal n ++ codes "\n")

unfoldable pub jobs_line : ℕ → ℕ → List ℕ
jobs_line completed aborted = codes "completed " ++ (decimal completed ++ (codes " aborted " ++ (decimal aborted ++ codes "\n")))

unfoldable pub sent_line : ℕ → List ℕ
sent_line n = codes "sent " ++ (decimal n ++ codes "\n")

unfoldable pub entries_line : ℕ → List ℕ
entries_line n = codes "entries " ++ (decimal n ++ codes "\n")

unfoldable pub trail_line : ℕ → List ℕ
trail_line n = codes "trail " ++ (hex 8 n ++ codes "\n")

abbrev pub summary : ℕ → WorldState → List ℕ
summary n w =
    run_line n ++ (jobs_line (completed w) (aborted w) ++ (sent_line (sent_count w) ++ (entries_line (entries w) ++ trail_line (trail_of w.sent))))

-- the bytes of a heartbeat of the control element 40000001 to the element 2, with the correlator 0 and no flags
abbrev pub heartbeat : List ℕ
heartbeat = 16 ∷ 15 ∷ 0 ∷ 6 ∷ 64 ∷ 0 ∷ 0 ∷ 1 ∷ 0 ∷ 0 ∷ 0 ∷ 2 ∷ 0 ∷ 0 ∷ 0 ∷ 0 ∷ 0 ∷ 0 ∷ 0 ∷ 0 ∷ 0 ∷ 0 ∷ 0 ∷ 0 ∷ []
