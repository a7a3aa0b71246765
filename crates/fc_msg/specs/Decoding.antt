-- What an answer of decoding is to a message, and to a refusal. This profile's own.
use Rattle.std.specs.Prelude.{◌≡◌, ◌≤◌, ⊤, ℕ, Option, Some, None, IfSome, Result, Ok, Err}
use Rattle.fc_base.specs.Answers as answers
use Rattle.fc_path.specs.declared.fault.PathFault.{PathFault}
use Rattle.fc_msg.specs.Faults.{told_of}
use Rattle.fc_msg.specs.declared.message.Message.{Message}
use Rattle.fc_msg.specs.declared.fault.MsgFault.{MsgFault}
use Rattle.fc_msg.specs.declared.fault.MsgFault.TheVariants.{At, Memory}
use Rattle.fc_msg.specs.declared.fault.Refusal.{Refusal}

-- the rule that is broken by what a fault tells: none where it tells that it was out of memory
abbrev pub told : MsgFault → Option Refusal
told (At refusal) = Some refusal
told Memory = None

-- the answer is the message or the refusal that is meant, unless it is out of memory
abbrev pub Gives : Result Message MsgFault → Result Message Refusal → Type 0
Gives = answers.Gives (λ m. m) told

-- the fault tells the rule that is broken, unless it is out of memory
abbrev pub Refuses : Option Refusal → MsgFault → Type 0
Refuses broken fault = IfSome (told fault) (λ refusal. broken ≡ Some refusal)

-- the place that is told is that of one of so many bytes, or their end
abbrev pub IsWithin : ℕ → MsgFault → Type 0
IsWithin count (At refusal) = refusal.place ≤ count
IsWithin count Memory = ⊤

-- the fault of a message by that of its body
abbrev pub told_or_memory : Option Refusal → MsgFault
told_or_memory (Some told) = At told
told_or_memory None = Memory

abbrev pub fault_from : PathFault → MsgFault
fault_from fault = told_or_memory (told_of fault)
