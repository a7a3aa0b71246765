-- What is promised of every network holds of a script that is played, at each moment.
use Rattle.std.proofs.Common.{◌≡◌, ◌∙◌, ◌++◌, ◌≤◌, ℕ, List, [], ◌∷◌, length, length-append, append-nil, inl, inr, sym, ap, arith, subst, Option, Some, Result, Ok, Err}
use Rattle.std.specs.Io.KnownBytes.{Appends}
use Rattle.std.specs.List.{AllByRecursion}
use Rattle.fc_documents.specs.declared.transaction.PlanTxn.{PlanTxn}
use Rattle.fc_endings.specs.declared.stops.Stop.{Stop}
use Rattle.fc_endings.specs.declared.stops.Stop.TheVariants.{NoMemory, WriteFault}
use Rattle.fc_endings.proofs.Looking.{all_read, front_read}
use Rattle.fc_rounds.specs.Lines.{AreNumbered, OneWord}
use Rattle.fc_rounds.proofs.Runs.{agrees, fenced, folds_all, has_one_plan, is_ready, settles, settles_once}
use Rattle.fc_rounds.proofs.Reports.{one_word, report_tells}
use Rattle.fc_rounds.proofs.Telling.{tells_all}
use Rattle.fc_library.specs.declared.fault.LibFault.{LibFault}
use Rattle.fc_scripts.specs.Kept.{CanBeSaid}
use Rattle.fc_scripts.specs.Scripts.{Scripted, script_of, with_instances}
use Rattle.fc_scripts.proofs.Keeping.{kept_by}
use Rattle.fc_steps.specs.declared.step.Step.{Step}
use Rattle.fc_world.specs.Played.{AreMade, setting_of, world_after}
use Rattle.fc_world.specs.Reports.{world_report}
use Rattle.fc_world.specs.Settings.{IsNetwork}
use Rattle.fc_world.specs.Worlds.{WorldState, first_world}
use Rattle.fc_world.specs.WorldSteps.{happens}
use Rattle.fc_playing.specs.Playing.{CanAll}
use Rattle.fc_playing.specs.Promised.{KeepsPromise}
use Rattle.fc_playing.specs.Runs.{PlayRuns, WasPlayed}
use Rattle.fc_playing.specs.WorldRun.{PlayEnds, PlayWent, come_of, play_status}
use Rattle.fc_playing.specs.declared.end.PlayEnd.{PlayEnd}
use Rattle.fc_playing.specs.declared.end.PlayEnd.TheVariants.{Done, ReadFault, Refused, TooLong}
use Rattle.fc_playing.proofs.Steps.{are_made as steps_made, has_round}

-- ---- of every script

-- a text can say each of the first steps where it can say all
said_before : (done after : List (ℕ × Step)) → AllByRecursion CanBeSaid (done ++ after) → AllByRecursion CanBeSaid done
said_before [] after said = tt
said_before (x ∷ xs) after said = (said.0, said_before xs after said.1)

-- steps that texts can say are made where each of them can be
are_made : (ts : List PlanTxn) (w : WorldState) (done : List (ℕ × Step)) → CanAll ts w done → AllByRecursion CanBeSaid done → AreMade ts w done
are_made ts w [] can said = tt
are_made ts w (x ∷ xs) can said = (can.0, has_round x.1 said.0, are_made ts (happens ts w x) xs can.1 said.1)

made_of : (s : Scripted) (done after : List (ℕ × Step)) → AllByRecursion CanBeSaid s.steps → s.steps ≡ done ++ after → CanAll s.transactions (first_world (setting_of s)) done
    → AreMade s.transactions (first_world (setting_of s)) done
made_of s done after said split can = are_made s.transactions (first_world (setting_of s)) done can (said_before done after (subst (AllByRecursion CanBeSaid) split said))

pub keeps_promise : (s : Scripted) → IsNetwork (setting_of s) → AreNumbered (setting_of s) → AllByRecursion CanBeSaid s.steps → KeepsPromise s
keeps_promise s is numbered said = record {
  agree = λ done after split can. agrees (setting_of s) done is (made_of s done after said split can);
  once = λ done after split can. settles_once (setting_of s) done is (made_of s done after said split can);
  ready = λ done after split can. is_ready (setting_of s) done is (made_of s done after said split can);
  one_plan = λ done after split can. has_one_plan (setting_of s) done is (made_of s done after said split can);
  folded = λ done after split can. folds_all (setting_of s) done is (made_of s done after said split can);
  fenced = λ done after split can. fenced (world_after (setting_of s) done);
  settled = λ done after split can. settles (setting_of s) done is (made_of s done after said split can);
  told = λ done after split can. tells_all (setting_of s) done is (made_of s done after said split can);
  reported = λ done after split can. report_tells (setting_of s) done is (made_of s done after said split can);
  one_word = λ done after split can. one_word (setting_of s) done is (made_of s done after said split can) numbered;
}

-- what bytes mean keeps it, where the same with other instances is a network
pub meant_promise : (bytes : List ℕ) (s : Scripted) (pairs : List (ℕ × ℕ)) → script_of bytes ≡ Ok (with_instances pairs s) → IsNetwork (setting_of s) → KeepsPromise (with_instances pairs s)
meant_promise bytes s pairs means is =
    let kept = kept_by bytes (with_instances pairs s) means in
    keeps_promise (with_instances pairs s) (record { own = is.own; known = kept.known; apart = is.apart; controls = is.controls; planned = is.planned }) kept.numbered kept.said

-- ---- of a run

one_script : (meant : Result Scripted LibFault) (s t : Scripted) → meant ≡ Ok s → meant ≡ Ok t → s ≡ t
one_script meant s t one other = let same : Ok s ≡ Ok t = sym one ∙ other in cc same

-- what the input means keeps the promise, where it was played to its end or to a step that can't be made
pub run_promise : (before : Option (List ℕ)) (document : List ℕ) (s : Scripted) (limit status : ℕ) (left old new : Option (List ℕ)) (Unread Unwritten : Type 0)
    → PlayRuns limit status before left old new Unread Unwritten → before ≡ Some document → WasPlayed limit status document Unread → script_of document ≡ Ok s → KeepsPromise s
run_promise before document s limit status left old new Unread Unwritten runs known played means =
    let (how, is, ends) = runs.ends in
    by how (subst (λ b. PlayEnds limit Unread how b left old new) known ends) (subst (λ n. WasPlayed limit n document Unread) is played)
  where
    meant : (bytes : List ℕ) (t : Scripted) → document ≡ bytes → script_of bytes ≡ Ok t → KeepsPromise t → KeepsPromise s
    meant bytes t same are kept = subst KeepsPromise (one_script (script_of document) t s (ap script_of same ∙ are) means) kept

    none : (bytes : List ℕ) (fault : LibFault) → document ≡ bytes → script_of bytes ≡ Err fault → KeepsPromise s
    none bytes fault same are = let wrong : Err fault ≡ Ok s = sym are ∙ sym (ap script_of same) ∙ means in cc wrong

    -- whatever could be written of it
    went : (end : PlayEnd) (written : List ℕ) → PlayWent limit Unread (Some document) left end written → length document ≤ limit → (Unread → ⊥) → KeepsPromise s
    went Done written (bytes, (consumed, end, le), (t, are, reported, kept), told) short read = meant bytes t (all_read document bytes left consumed end) are kept
    went Refused written (bytes, (consumed, end, le), inl (fault, are, writes), told) short read = none bytes fault (all_read document bytes left consumed end) are
    went Refused written (bytes, (consumed, end, le), inr (t, are, faulted, kept), told) short read = meant bytes t (all_read document bytes left consumed end) are kept
    went ReadFault written (bytes, looked, writes, told) short read = absurd (read told)
    went TooLong written (bytes, (consumed, long), writes, told) short read =
        let (more, split) = front_read document bytes left consumed in
        absurd (omega (arith, ap length split, length-append bytes more, long, short))

    by : (how : Result PlayEnd Stop) → PlayEnds limit Unread how (Some document) left old new → WasPlayed limit (play_status how) document Unread → KeepsPromise s
    by (Ok Done) (written, (bytes, (consumed, end, le), (t, are, reported, kept), told), wrote) at = meant bytes t (all_read document bytes left consumed end) are kept
    by (Ok Refused) (written, (bytes, (consumed, end, le), inl (fault, are, writes), told), wrote) at = none bytes fault (all_read document bytes left consumed end) are
    by (Ok Refused) (written, (bytes, (consumed, end, le), inr (t, are, faulted, kept), told), wrote) at = meant bytes t (all_read document bytes left consumed end) are kept
    by (Ok ReadFault) ends (inl at) = absurd (omega (arith, at))
    by (Ok ReadFault) ends (inr (inl at)) = absurd (omega (arith, at))
    by (Ok ReadFault) ends (inr (inr (at, short, read))) = absurd (omega (arith, at))
    by (Ok TooLong) ends (inl at) = absurd (omega (arith, at))
    by (Ok TooLong) ends (inr (inl at)) = absurd (omega (arith, at))
    by (Ok TooLong) ends (inr (inr (at, short, read))) = absurd (omega (arith, at))
    by (Err WriteFault) ends (inl at) = absurd (omega (arith, at))
    by (Err WriteFault) ends (inr (inl at)) = absurd (omega (arith, at))
    by (Err WriteFault) (end, written, came, front) (inr (inr (at, short, read))) = went end written came short read
    by (Err NoMemory) ends (inl at) = absurd (omega (arith, at))
    by (Err NoMemory) ends (inr (inl at)) = absurd (omega (arith, at))
    by (Err NoMemory) ends (inr (inr (at, short, read))) = absurd (omega (arith, at))

-- the report on the world that a script comes to says one thing of each transaction
said_once : (s : Scripted) (w : WorldState) → KeepsPromise s → come_of s ≡ Ok w → OneWord (world_report w)
said_once s w kept come =
    let made = steps_made s.steps s.transactions (first_world (setting_of s)) w come in
    subst (λ v. OneWord (world_report v)) (sym made.1) (kept.one_word s.steps [] (sym (append-nil s.steps)) made.0)

-- and it is what was written, where the status tells of no fault
pub run_one_word : (limit status : ℕ) (before left old new : Option (List ℕ)) (Unread Unwritten : Type 0) → PlayRuns limit status before left old new Unread Unwritten → status ≡ 0
    → (written : List ℕ) × Appends old new written × OneWord written
run_one_word limit status before left old new Unread Unwritten runs done =
    let (how, is, ends) = runs.ends in
    by how (sym is ∙ done) ends
  where
    by : (how : Result PlayEnd Stop) → play_status how ≡ 0 → PlayEnds limit Unread how before left old new → (written : List ℕ) × Appends old new written × OneWord written
    by (Ok Done) at (written, (bytes, looked, (s, means, (w, come, is), kept), told), wrote) = (written, wrote, subst OneWord (sym is) (said_once s w kept come))
    by (Ok Refused) at ends = absurd (omega (arith, at))
    by (Ok ReadFault) at ends = absurd (omega (arith, at))
    by (Ok TooLong) at ends = absurd (omega (arith, at))
    by (Err WriteFault) at ends = absurd (omega (arith, at))
    by (Err NoMemory) at ends = absurd (omega (arith, at))
