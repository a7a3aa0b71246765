-- The status of `world`, from how it ended.
use Rattle.std.proofs.Common.{◌≡◌, ◌⊎◌, ℕ, List, [], inl, inr, refl, arith, Option, Result, Ok, Err}
use Rattle.std.proofs.KnownBytes.{Appends-nil}
use Rattle.fc_base.specs.Causes.{Rose}
use Rattle.fc_endings.specs.Endings.{EndCount}
use Rattle.fc_endings.specs.Stops.{SinkCount}
use Rattle.fc_endings.specs.declared.stops.Stop.{Stop}
use Rattle.fc_endings.specs.declared.stops.Stop.TheVariants.{NoMemory, WriteFault}
use Rattle.fc_endings.proofs.Looking.{consumes_none}
use Rattle.fc_playing.specs.WorldRun.{PlayEnds, is_unread, play_status}
use Rattle.fc_playing.specs.Runs.{PlayRuns}
use Rattle.fc_playing.specs.declared.end.PlayEnd.{PlayEnd}
use Rattle.fc_playing.specs.declared.end.PlayEnd.TheVariants.{Done, ReadFault, Refused, TooLong}

play_decides : (how : Result PlayEnd Stop) (f f' k k' : ℕ) → EndCount is_unread how f f' → SinkCount how k k' → (Rose f f' → ⊥) → (Rose k k' → ⊥)
    → (play_status how ≡ 0) ⊎ ((play_status how ≡ 5) ⊎ ((play_status how ≡ 12) ⊎ (play_status how ≡ 9)))
play_decides (Ok Done) f f' k k' source sink read wrote = inl refl
play_decides (Ok ReadFault) f f' k k' source sink read wrote = absurd (read source)
play_decides (Ok Refused) f f' k k' source sink read wrote = inr (inl refl)
play_decides (Ok TooLong) f f' k k' source sink read wrote = inr (inr (inl refl))
play_decides (Err WriteFault) f f' k k' source sink read wrote = absurd (wrote sink)
play_decides (Err NoMemory) f f' k k' source sink read wrote = inr (inr (inr refl))

pub play_runs : (how : Result PlayEnd Stop) (limit status : ℕ) (before left old new : Option (List ℕ)) (f f' k k' : ℕ) → status ≡ play_status how → PlayEnds limit (Rose f f') how before left old new
    → EndCount is_unread how f f' → SinkCount how k k' → PlayRuns limit status before left old new (Rose f f') (Rose k k')
play_runs how limit status before left old new f f' k k' is ends source sink =
    record { ends = (how, is, ends); complete = λ read wrote. rw is (play_decides how f f' k k' source sink read wrote) }

-- no memory, and nothing was done
pub play_none : (limit : ℕ) (left known : Option (List ℕ)) (f k : ℕ) → PlayRuns limit 9 left left known known (Rose f f) (Rose k k)
play_none limit left known f k =
    play_runs (Err NoMemory) limit 9 left left known known f f k k refl (inr (([], consumes_none left, omega arith), Appends-nil known)) (inl refl) refl
