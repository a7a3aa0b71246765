-- What `world` reads and writes, by how it ends. This profile's own.
use Rattle.std.specs.Prelude.{◌≡◌, ◌⊎◌, ◌≤◌, ℕ, Bool, true, false, List, [], length, codes, Option, Result, Ok, Err, ⊤}
use Rattle.std.specs.Io.KnownBytes.{Consumes}
use Rattle.fc_endings.specs.Endings.{CommandEnds}
use Rattle.fc_endings.specs.Looks.{LookEnds}
use Rattle.fc_endings.specs.Stops.{stop_status}
use Rattle.fc_endings.specs.declared.input.Look.{Look}
use Rattle.fc_endings.specs.declared.input.Look.TheVariants as look
use Rattle.fc_endings.specs.declared.stops.Stop.{Stop}
use Rattle.fc_library.specs.Refusals.{refusal_text}
use Rattle.fc_library.specs.declared.fault.LibFault.{LibFault}
use Rattle.fc_scripts.specs.Scripts.{Scripted, script_of}
use Rattle.fc_steps.specs.declared.step.Step.{Step}
use Rattle.fc_world.specs.Played.{setting_of}
use Rattle.fc_world.specs.Reports.{world_report}
use Rattle.fc_world.specs.Worlds.{WorldState}
use Rattle.fc_world.specs.declared.setting.Setting.{Setting}
use Rattle.fc_world.specs.Settings.{IsNetwork}
use Rattle.fc_playing.specs.Playing.{fault_text, played_from}
use Rattle.fc_playing.specs.Promised.{KeepsPromise}
use Rattle.fc_playing.specs.declared.end.PlayEnd.{PlayEnd}
use Rattle.fc_playing.specs.declared.end.PlayEnd.TheVariants.{Done, ReadFault, Refused, TooLong}
use Rattle.fc_playing.specs.declared.playing.StepFault.{StepFault}

-- ---- what is written, by what the bytes of a document mean

-- steps come to a world: the report on it is written
abbrev pub Reported : Result WorldState StepFault → List ℕ → Type 0
Reported come written = (w : WorldState) × (come ≡ Ok w) × (written ≡ world_report w)

-- they come to one that can't be made: the line of that is written alone
abbrev pub Faulted : Result WorldState StepFault → List ℕ → Type 0
Faulted come written = (f : StepFault) × (come ≡ Err f) × (written ≡ fault_text f)

-- the bytes mean no script: the line of that is written alone
abbrev pub MeansNone : Result Scripted LibFault → List ℕ → Type 0
MeansNone meant written = (fault : LibFault) × (meant ≡ Err fault) × (written ≡ refusal_text (codes "script") fault)

-- what the steps of a script come to
abbrev pub come_of : Scripted → Result WorldState StepFault
come_of s = played_from (setting_of s) s.steps

-- Where `world` ends so, this is written of what the bytes mean. A script that was played keeps the promise at each moment, up to a step that can't be
-- made.
abbrev pub PlaysSo : PlayEnd → Result Scripted LibFault → List ℕ → Type 0
PlaysSo Done meant written = (s : Scripted) × (meant ≡ Ok s) × Reported (come_of s) written × KeepsPromise s
PlaysSo Refused meant written = MeansNone meant written ⊎ ((s : Scripted) × (meant ≡ Ok s) × Faulted (come_of s) written × KeepsPromise s)
PlaysSo ReadFault meant written = written ≡ []
PlaysSo TooLong meant written = written ≡ []

-- what was seen of the input
abbrev pub look_of : PlayEnd → Look
look_of Done = look.Whole
look_of ReadFault = look.ReadFault
look_of Refused = look.Whole
look_of TooLong = look.TooLong

-- ---- the command, over an input of which so many bytes are looked at

-- an end that tells that the input can't be read comes only where that is so
abbrev pub TellsFault : Type 0 → PlayEnd → Type 0
TellsFault Unread ReadFault = Unread
TellsFault Unread Done = ⊤
TellsFault Unread Refused = ⊤
TellsFault Unread TooLong = ⊤

abbrev pub PlayWent : ℕ → Type 0 → Option (List ℕ) → Option (List ℕ) → PlayEnd → List ℕ → Type 0
PlayWent limit Unread before left end written =
    (bytes : List ℕ) × LookEnds limit (Ok (look_of end)) bytes before left × PlaysSo end (script_of bytes) written × TellsFault Unread end

-- out of memory before it came to an end
abbrev pub PlayLacked : ℕ → Option (List ℕ) → Option (List ℕ) → Type 0
PlayLacked limit before left = (bytes : List ℕ) × Consumes before left bytes × (length bytes ≤ limit)

-- How `world` ends: what was read, and what was written. `Unread` stands for a fault of the source.
abbrev pub PlayEnds : ℕ → Type 0 → Result PlayEnd Stop → Option (List ℕ) → Option (List ℕ) → Option (List ℕ) → Option (List ℕ) → Type 0
PlayEnds limit Unread how before left old new = CommandEnds PlayEnd (PlayWent limit Unread before left) (PlayLacked limit before left) how old new

-- the same of what was written alone, once the input was read whole
abbrev pub DocumentWent : List ℕ → PlayEnd → List ℕ → Type 0
DocumentWent bytes end written = (look_of end ≡ look.Whole) × PlaysSo end (script_of bytes) written

abbrev pub DocumentEnds : List ℕ → Result PlayEnd Stop → Option (List ℕ) → Option (List ℕ) → Type 0
DocumentEnds bytes how old new = CommandEnds PlayEnd (DocumentWent bytes) ⊤ how old new

-- and once it was seen to mean a script, of which a network can be made
abbrev pub SettingWent : Setting → List (ℕ × Step) → PlayEnd → List ℕ → Type 0
SettingWent s steps Done written = IsNetwork s × Reported (played_from s steps) written
SettingWent s steps Refused written = IsNetwork s × Faulted (played_from s steps) written
SettingWent s steps ReadFault written = ⊥
SettingWent s steps TooLong written = ⊥

abbrev pub SettingEnds : Setting → List (ℕ × Step) → Result PlayEnd Stop → Option (List ℕ) → Option (List ℕ) → Type 0
SettingEnds s steps how old new = CommandEnds PlayEnd (SettingWent s steps) ⊤ how old new

-- ---- ends and statuses

-- the end that tells that the input can't be read
abbrev pub is_unread : PlayEnd → Bool
is_unread ReadFault = true
is_unread Done = false
is_unread Refused = false
is_unread TooLong = false

-- the status of each ending
abbrev pub play_status : Result PlayEnd Stop → ℕ
play_status (Ok Done) = 0
play_status (Ok ReadFault) = 2
play_status (Ok Refused) = 5
play_status (Ok TooLong) = 12
play_status (Err stop) = stop_status stop
