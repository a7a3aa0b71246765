-- The status of `control`, from how it ended.
use Rattle.std.proofs.Common.{◌≡◌, ◌⊎◌, ℕ, List, [], inl, inr, refl, arith, length, Option, Result, Ok, Err}
use Rattle.std.proofs.KnownBytes.{Appends-nil}
use Rattle.fc_base.specs.Causes.{Rose}
use Rattle.fc_hub.specs.Hubs.{Held}
use Rattle.fc_hub.specs.Rounds.{Given}
use Rattle.fc_endings.specs.Endings.{EndCount}
use Rattle.fc_endings.specs.Stops.{SinkCount}
use Rattle.fc_endings.specs.declared.stops.Stop.{Stop}
use Rattle.fc_endings.specs.declared.stops.Stop.TheVariants.{NoMemory, WriteFault}
use Rattle.fc_endings.proofs.Looking.{consumes_none}
use Rattle.fc_controlling.specs.ControlRun.{ControlEnds, control_status, is_ungiven, is_unread, is_unserved}
use Rattle.fc_controlling.specs.Runs.{ControlRuns}
use Rattle.fc_controlling.specs.declared.asked.Asked.{Asked}
use Rattle.fc_controlling.specs.declared.asked.ControlEnd.{ControlEnd}
use Rattle.fc_controlling.specs.declared.asked.ControlEnd.TheVariants.{Deposed, Done, HubFault, NoRound, ReadFault, Refused, RoundsFault, TooLong, Turns, Unfinished}

-- without a fault the status is one of these
abbrev IsTold : ℕ → Type 0
IsTold status = (status ≡ 0) ⊎ ((status ≡ 7) ⊎ ((status ≡ 8) ⊎ ((status ≡ 10) ⊎ ((status ≡ 5) ⊎ ((status ≡ 11) ⊎ ((status ≡ 12) ⊎ (status ≡ 9)))))))

control_decides : (how : Result ControlEnd Stop) (f f' k k' h h' r r' : ℕ) → EndCount is_unread how f f' → SinkCount how k k' → EndCount is_unserved how h h' → EndCount is_ungiven how r r'
    → (Rose f f' → ⊥) → (Rose k k' → ⊥) → (Rose h h' → ⊥) → (Rose r r' → ⊥) → IsTold (control_status how)
control_decides (Ok Done) f f' k k' h h' r r' source sink hub rounds read wrote served given = inl refl
control_decides (Ok Unfinished) f f' k k' h h' r r' source sink hub rounds read wrote served given = inr (inl refl)
control_decides (Ok Deposed) f f' k k' h h' r r' source sink hub rounds read wrote served given = inr (inr (inl refl))
control_decides (Ok Turns) f f' k k' h h' r r' source sink hub rounds read wrote served given = inr (inr (inr (inl refl)))
control_decides (Ok Refused) f f' k k' h h' r r' source sink hub rounds read wrote served given = inr (inr (inr (inr (inl refl))))
control_decides (Ok NoRound) f f' k k' h h' r r' source sink hub rounds read wrote served given = inr (inr (inr (inr (inr (inl refl)))))
control_decides (Ok TooLong) f f' k k' h h' r r' source sink hub rounds read wrote served given = inr (inr (inr (inr (inr (inr (inl refl))))))
control_decides (Ok ReadFault) f f' k k' h h' r r' source sink hub rounds read wrote served given = absurd (read source)
control_decides (Ok HubFault) f f' k k' h h' r r' source sink hub rounds read wrote served given = absurd (served hub)
control_decides (Ok RoundsFault) f f' k k' h h' r r' source sink hub rounds read wrote served given = absurd (given rounds)
control_decides (Err WriteFault) f f' k k' h h' r r' source sink hub rounds read wrote served given = absurd (wrote sink)
control_decides (Err NoMemory) f f' k k' h h' r r' source sink hub rounds read wrote served given = inr (inr (inr (inr (inr (inr (inr refl))))))

pub control_runs : (how : Result ControlEnd Stop) (limit : ℕ) (asked : Asked) (status : ℕ) (before left : Option (List ℕ)) (given gave : Given) (first last : Option Held) (old new : Option (List ℕ)) (f f' k k' h h' r r' : ℕ)
    → status ≡ control_status how → ControlEnds limit asked (f, f') (h, h') (r, r') how before left given gave first last old new → EndCount is_unread how f f' → SinkCount how k k' → EndCount is_unserved how h h' → EndCount is_ungiven how r r'
    → ControlRuns limit asked status before left given gave first last old new (f, f') (k, k') (h, h') (r, r')
control_runs how limit asked status before left given gave first last old new f f' k k' h h' r r' is ends source sink hub rounds =
    record { ends = (how, is, ends); complete = λ read wrote served took. rw is (control_decides how f f' k k' h h' r r' source sink hub rounds read wrote served took) }

-- no memory, and nothing was done
pub control_none : (limit : ℕ) (asked : Asked) (left : Option (List ℕ)) (given : Given) (held : Option Held) (known : Option (List ℕ)) (f k h r : ℕ)
    → ControlRuns limit asked 9 left left given given held held known known (f, f) (k, k) (h, h) (r, r)
control_none limit asked left given held known f k h r =
    control_runs (Err NoMemory) limit asked 9 left left given given held held known known f f k k h h r r refl (inr (((refl, (refl, refl)), inl ([], consumes_none left, omega arith, refl, refl)), Appends-nil known))
    (inl refl) refl (inl refl) (inl refl)
