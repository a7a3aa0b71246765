-- How `world` ends, from how its parts ended.
use Rattle.std.proofs.Common.{◌≡◌, ◌≢◌, ◌∙◌, ℕ, List, [], ◌∷◌, map, refl, sym, ap, subst, inl, inr, codes, None, Option, Some, Result, Ok, Err, IfOk}
use Rattle.std.specs.Prelude.{OnErr, OnOk, ⊤}
use Rattle.std.specs.Io.KnownBytes.{Appends, Keeps}
use Rattle.std.specs.List.Sorted.{IsPermutation}
use Rattle.std.proofs.KnownBytes.{Appends-nil}
use Rattle.fc_base.specs.Causes.{Rose}
use Rattle.fc_base.specs.Content.{AppendsFront}
use Rattle.fc_element.specs.ElementState.{ElementState}
use Rattle.fc_element.proofs.Openings.{opened_same}
use Rattle.fc_endings.specs.Looks.{LookCount, LookEnds}
use Rattle.fc_endings.specs.declared.input.Look.{Look}
use Rattle.fc_endings.specs.declared.input.Look.TheVariants as look
use Rattle.fc_endings.specs.declared.stops.Stop.{Stop}
use Rattle.fc_endings.specs.declared.stops.Stop.TheVariants.{NoMemory}
use Rattle.fc_endings.proofs.Endings.{finished_ends, told_ends, widened}
use Rattle.fc_library.specs.Refusals.{refusal_text}
use Rattle.fc_library.specs.declared.fault.LibFault.{LibFault}
use Rattle.fc_library.specs.declared.fault.LibFault.TheVariants as fault
use Rattle.fc_scripts.specs.Scripts.{GivesScript, Scripted, script_of, with_instances}
use Rattle.fc_steps.specs.declared.step.Step.{Step}
use Rattle.fc_world.specs.Played.{Played, begins_with, setting_of, world_of}
use Rattle.fc_world.specs.Reports.{world_report}
use Rattle.fc_world.specs.Settings.{IsNetwork}
use Rattle.fc_world.specs.Worlds.{WorldState, first_controller, first_node}
use Rattle.fc_world.specs.declared.nodes.Node.{Node}
use Rattle.fc_world.specs.declared.setting.Setting.{Setting}
use Rattle.fc_playing.specs.Playing.{PlaysTo, fault_text, played, played_from}
use Rattle.fc_playing.specs.Promised.{KeepsPromise}
use Rattle.fc_playing.specs.WorldRun.{DocumentEnds, DocumentWent, PlayEnds, PlayLacked, PlayWent, PlaysSo, SettingEnds, SettingWent, TellsFault, come_of, look_of}
use Rattle.fc_playing.specs.declared.end.PlayEnd.{PlayEnd}
use Rattle.fc_playing.specs.declared.end.PlayEnd.TheVariants.{Done, ReadFault, Refused, TooLong}
use Rattle.fc_playing.specs.declared.playing.StepFault.{StepFault}
use Rattle.fc_playing.proofs.Promising.{meant_promise}

-- an input that was read whole was read
tells_none : (Unread : Type 0) (end : PlayEnd) → look_of end ≡ look.Whole → TellsFault Unread end
tells_none Unread Done whole = tt
tells_none Unread Refused whole = tt
tells_none Unread TooLong whole = tt
tells_none Unread ReadFault whole = cc whole

-- the input was read whole
pub document_ends : (how : Result PlayEnd Stop) (limit : ℕ) (Unread : Type 0) (bytes : List ℕ) (before left old new : Option (List ℕ)) → LookEnds limit (Ok look.Whole) bytes before left
    → DocumentEnds bytes how old new → PlayEnds limit Unread how before left old new
document_ends how limit Unread bytes before left old new read ends =
    widened PlayEnd (DocumentWent bytes) (PlayWent limit Unread before left) ⊤ (PlayLacked limit before left) how old new
    (λ end written went. (bytes, rw went.0 read, went.1, tells_none Unread end went.0)) (λ lacked. (bytes, read.0, read.2)) ends

-- what was written stands after the flush, and where the flush stopped
pub play_finished : (end : PlayEnd) (how : Result PlayEnd Stop) (limit : ℕ) (Unread : Type 0) (before left old mid new : Option (List ℕ)) → PlayEnds limit Unread (Ok end) before left old mid
    → IfOk how (λ last. last ≡ end) → Keeps mid new → PlayEnds limit Unread how before left old new
play_finished end how limit Unread before left old mid new ends is kept =
    finished_ends PlayEnd (PlayWent limit Unread before left) (PlayLacked limit before left) end how old mid new ends is kept

-- the input can't be read
pub unread_ends : (how : Look) (limit f f' : ℕ) (bytes : List ℕ) (before left known : Option (List ℕ)) → LookEnds limit (Ok how) bytes before left → LookCount (Ok how) f f'
    → how ≡ look.ReadFault → PlayEnds limit (Rose f f') (Ok ReadFault) before left known known
unread_ends how limit f f' bytes before left known read count unread =
    ([], (bytes, rw unread at read, refl, subst (λ (l : Look). LookCount (Ok l) f f') unread count), Appends-nil known)

-- and is too long
pub long_ends : (how : Look) (limit f f' : ℕ) (bytes : List ℕ) (before left known : Option (List ℕ)) → LookEnds limit (Ok how) bytes before left → LookCount (Ok how) f f'
    → how ≡ look.TooLong → PlayEnds limit (Rose f f') (Ok TooLong) before left known known
long_ends how limit f f' bytes before left known read count long = ([], (bytes, rw long at read, refl, tt), Appends-nil known)

-- ---- the document means a script

-- the order of the instances in the document makes no difference
node_of : ℕ → ElementState → Node
node_of id e = record { id = id; element = e }

same_nodes : (es : List (ℕ × ℕ)) (s : Scripted) (pairs : List (ℕ × ℕ)) → IsPermutation pairs s.instances
    → map (first_node (setting_of (with_instances pairs s))) es ≡ map (first_node (setting_of s)) es
unfolding node_of
same_nodes [] s pairs moved = refl
same_nodes (e ∷ es) s pairs moved =
    ap (λ (x : ElementState). node_of e.0 x ∷ map (first_node (setting_of (with_instances pairs s))) es) (opened_same e.0 e.1 s.library pairs s.instances moved)
    ∙ ap (λ ns. first_node (setting_of s) e ∷ ns) (same_nodes es s pairs moved)

begun : Scripted → List Node → WorldState
begun s ns = record { nodes = ns; controllers = map first_controller s.controllers; sent = []; refused = [] }

same_come : (s : Scripted) (pairs : List (ℕ × ℕ)) → IsPermutation pairs s.instances → come_of (with_instances pairs s) ≡ played_from (setting_of s) s.steps
unfolding begun
same_come s pairs moved = ap (λ ns. played s.transactions (begun s ns) s.steps) (same_nodes s.elements s pairs moved)

script_went : (end : PlayEnd) (s meant : Scripted) (written : List ℕ) (given : Result Scripted LibFault) → given ≡ Ok meant → come_of meant ≡ played_from (setting_of s) s.steps
    → (IsNetwork (setting_of s) → KeepsPromise meant) → SettingWent (setting_of s) s.steps end written → (look_of end ≡ look.Whole) × PlaysSo end given written
script_went Done s meant written given is same promise (network, (w, came, writes)) = (refl, (meant, is, (w, same ∙ came, writes), promise network))
script_went Refused s meant written given is same promise (network, (f, came, writes)) = (refl, inr (meant, is, (f, same ∙ came, writes), promise network))
script_went ReadFault s meant written given is same promise went = absurd went
script_went TooLong s meant written given is same promise went = absurd went

pub script_ends : (how : Result PlayEnd Stop) (bytes : List ℕ) (s : Scripted) (old new : Option (List ℕ)) → GivesScript (Ok s) (script_of bytes) → SettingEnds (setting_of s) s.steps how old new
    → DocumentEnds bytes how old new
script_ends how bytes s old new (pairs, is, moved, order) ends =
    widened PlayEnd (SettingWent (setting_of s) s.steps) (DocumentWent bytes) ⊤ ⊤ how old new
    (λ end written went. script_went end s (with_instances pairs s) written (script_of bytes) is (same_come s pairs moved) (meant_promise bytes s pairs is) went) (λ lacked. tt) ends

-- what a world that begins with a setting comes to by steps, the setting comes to
comes_alike : (p : Played) (s : Setting) (given steps : List (ℕ × Step)) → p ≡ begins_with s → given ≡ steps → played_from s steps ≡ played p.setting.transactions (world_of p) given
comes_alike p s given steps at same = sym (λ i. played (at i).setting.transactions (world_of (at i)) (same i))

-- all steps were made
pub all_played : (fault : Option StepFault) (p : Played) (s : Setting) (given steps : List (ℕ × Step)) (w : WorldState) → fault ≡ None → p ≡ begins_with s → given ≡ steps
    → PlaysTo fault (played p.setting.transactions (world_of p) given) w → played_from s steps ≡ Ok w
all_played fault p s given steps w is at same plays = comes_alike p s given steps at same ∙ subst (λ f. PlaysTo f (played p.setting.transactions (world_of p) given) w) is plays

-- or one can't be
pub one_fails : (fault : Option StepFault) (f : StepFault) (p : Played) (s : Setting) (given steps : List (ℕ × Step)) (w : WorldState) → fault ≡ Some f → p ≡ begins_with s → given ≡ steps
    → PlaysTo fault (played p.setting.transactions (world_of p) given) w → played_from s steps ≡ Err f
one_fails fault f p s given steps w is at same plays = comes_alike p s given steps at same ∙ subst (λ g. PlaysTo g (played p.setting.transactions (world_of p) given) w) is plays

-- what a world that begins with a setting keeps, the setting keeps
pub network_of : (p : Played) (s : Setting) → p ≡ begins_with s → IsNetwork p.setting → IsNetwork s
network_of p s at is = subst (λ (q : Played). IsNetwork q.setting) at is

-- out of memory before all steps were made or one can't be
pub unplayed_ends : (s : Setting) (steps : List (ℕ × Step)) (known : Option (List ℕ)) → SettingEnds s steps (Err NoMemory) known known
unplayed_ends s steps known = inr (tt, Appends-nil known)

-- all steps were made, and the report was written, or a front of it
pub reported_ends : (how : Result PlayEnd Stop) (s : Setting) (steps : List (ℕ × Step)) (w : WorldState) (text now : Option (List ℕ)) → IsNetwork s → played_from s steps ≡ Ok w
    → IfOk how (λ end. end ≡ Done) → OnOk how (Appends text now (world_report w)) → OnErr how (AppendsFront text now (world_report w)) → SettingEnds s steps how text now
reported_ends how s steps w text now network is = told_ends PlayEnd (SettingWent s steps) ⊤ how Done text now (world_report w) (network, (w, is, refl))

-- one can't be made, and why was written, or a front of that
pub faulted_ends : (how : Result PlayEnd Stop) (s : Setting) (steps : List (ℕ × Step)) (f : StepFault) (text now : Option (List ℕ)) → IsNetwork s → played_from s steps ≡ Err f
    → IfOk how (λ end. end ≡ Refused) → OnOk how (Appends text now (fault_text f)) → OnErr how (AppendsFront text now (fault_text f)) → SettingEnds s steps how text now
faulted_ends how s steps f text now network is = told_ends PlayEnd (SettingWent s steps) ⊤ how Refused text now (fault_text f) (network, (f, is, refl))

-- ---- it means none

-- for a fault that is told
pub fault_meant : (f : LibFault) (bytes : List ℕ) → f ≢ fault.Memory → GivesScript (Err f) (script_of bytes) → script_of bytes ≡ Err f
fault_meant fault.NotToml bytes told given = given
fault_meant (fault.Unknown key) bytes told given = given
fault_meant (fault.Missing key) bytes told given = given
fault_meant (fault.WrongKind key) bytes told given = given
fault_meant (fault.Check f) bytes told given = given
fault_meant (fault.Rule r) bytes told given = given
fault_meant (fault.StepText place) bytes told given = given
fault_meant fault.Memory bytes told given = absurd (told refl)

-- why it means none was written, or a front of that
pub refused_ends : (how : Result PlayEnd Stop) (f : LibFault) (bytes : List ℕ) (text now : Option (List ℕ)) → script_of bytes ≡ Err f
    → IfOk how (λ end. end ≡ Refused) → OnOk how (Appends text now (refusal_text (codes "script") f)) → OnErr how (AppendsFront text now (refusal_text (codes "script") f))
    → DocumentEnds bytes how text now
refused_ends how f bytes text now is = told_ends PlayEnd (DocumentWent bytes) ⊤ how Refused text now (refusal_text (codes "script") f) (refl, inl (f, is, refl))
