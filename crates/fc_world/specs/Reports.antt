-- The report on a network element: a line for each call that was refused, in their order; then the reports on the elements and those on the
-- control elements, each in the order of the script; and last how many messages were sent. This profile's own.
use Rattle.std.specs.Prelude.{ℕ, List, ◌++◌, length, Option, Some, None, codes, decimal, min}
use Rattle.std.specs.List.{flat_map}
use Rattle.fc_base.specs.Ids.{Txn, txn_text}
use Rattle.fc_element.specs.Reports as element
use Rattle.fc_master.specs.Reports as master
use Rattle.fc_protocol.specs.MasterMachine.{Refusal, Deposed, TooMany, Stranger, NotReady, Busy, Spent, Unsettled, Unknown, Decided}
use Rattle.fc_world.specs.Worlds.{Ruling, Standing, WorldState, number_of}
use Rattle.fc_world.specs.declared.nodes.Node.{Node}

-- what is in the way at an element: a transaction, or a plain change or a floor that is not answered
abbrev pub busy_text : Option Txn → List ℕ
busy_text None = codes "plain"
busy_text (Some x) = txn_text x

abbrev pub busy_at : ℕ → Option Txn → List ℕ
busy_at f x = codes "busy " ++ (decimal f ++ (codes " " ++ busy_text x))

-- a word, and a number behind it
abbrev pub number_text : List ℕ → ℕ → List ℕ
number_text word n = word ++ (codes " " ++ decimal n)

abbrev pub refusal_text : Refusal → List ℕ
refusal_text (Deposed seen) = number_text (codes "deposed") seen
refusal_text (TooMany count) = number_text (codes "toomany") count
refusal_text (Stranger f) = number_text (codes "stranger") f
refusal_text (NotReady f) = number_text (codes "notready") f
refusal_text (Busy f x) = busy_at f x
refusal_text Spent = codes "spent"
refusal_text (Unsettled x) = codes "unsettled " ++ txn_text x
refusal_text Unknown = codes "unknown"
refusal_text (Decided d) = codes "decided"

-- the line of a refused call
unfoldable pub refusal_line : ℕ × Refusal → List ℕ
refusal_line r = codes "step " ++ (decimal r.0 ++ (codes " " ++ (refusal_text r.1 ++ codes "\n")))

abbrev pub node_lines : Node → List ℕ
node_lines n = element.report_of n.element

-- the line of a control element that does not run
unfoldable pub stopped_line : ℕ → List ℕ
stopped_line c = codes "controller " ++ (decimal c ++ codes " stopped\n")

abbrev pub running_lines : ℕ → Option Ruling → List ℕ
running_lines c None = stopped_line c
running_lines c (Some r) = master.report_of r.core

abbrev pub controller_lines : Standing → List ℕ
controller_lines s = running_lines (number_of s.ce) s.running

unfoldable pub sent_line : ℕ → List ℕ
sent_line n = codes "sent " ++ (decimal n ++ codes "\n")

-- how many messages were sent, as far as a number of 64 bits tells: more fit in no memory
abbrev pub sent_count : WorldState → ℕ
sent_count w = min (length w.sent) 18446744073709551615

abbrev pub world_report : WorldState → List ℕ
world_report w = flat_map refusal_line w.refused ++ (flat_map node_lines w.nodes ++ (flat_map controller_lines w.controllers ++ sent_line (sent_count w)))
