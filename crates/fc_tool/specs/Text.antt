-- What is written beside the texts of messages.
use Rattle.std.specs.Prelude.{ℕ, ◌+◌, List, ◌++◌, codes, decimal}
use Rattle.fc_msg.specs.Faults.{reason_text}
use Rattle.fc_msg.specs.declared.fault.Refusal.{Refusal}

-- the line of a refusal of bytes that begin at a place of the input
unfoldable pub refusal_text : ℕ → Refusal → List ℕ
refusal_text place fault =
    codes "refused " ++ (decimal (place + fault.place) ++ (codes " " ++ (reason_text fault.reason ++ codes "\n")))

abbrev pub usage_text : List ℕ
usage_text = codes "usage\n"
