-- The status of `element`, from how it ended.
use Rattle.std.proofs.Common.{◌≡◌, ◌⊎◌, ℕ, List, [], inl, inr, refl, arith, Option, Result, Ok, Err}
use Rattle.std.proofs.KnownBytes.{Appends-nil}
use Rattle.fc_base.specs.Causes.{Rose}
use Rattle.fc_hub.specs.Hubs.{Held}
use Rattle.fc_endings.specs.Endings.{EndCount}
use Rattle.fc_endings.specs.Stops.{SinkCount}
use Rattle.fc_endings.specs.declared.stops.Stop.{Stop}
use Rattle.fc_endings.specs.declared.stops.Stop.TheVariants.{NoMemory, WriteFault}
use Rattle.fc_endings.proofs.Looking.{consumes_none}
use Rattle.fc_serving.specs.ElementRun.{ElementEnds, element_status, is_unread, is_unserved}
use Rattle.fc_serving.specs.Runs.{ElementRuns}
use Rattle.fc_serving.specs.declared.end.ElementEnd.{ElementEnd}
use Rattle.fc_serving.specs.declared.end.ElementEnd.TheVariants.{Done, HubFault, ReadFault, Refused, TooLong, Turns}

element_decides : (how : Result ElementEnd Stop) (f f' k k' h h' : ℕ) → EndCount is_unread how f f' → SinkCount how k k' → EndCount is_unserved how h h'
    → (Rose f f' → ⊥) → (Rose k k' → ⊥) → (Rose h h' → ⊥)
    → (element_status how ≡ 0) ⊎ ((element_status how ≡ 10) ⊎ ((element_status how ≡ 5) ⊎ ((element_status how ≡ 12) ⊎ (element_status how ≡ 9))))
element_decides (Ok Done) f f' k k' h h' source sink hub read wrote served = inl refl
element_decides (Ok Turns) f f' k k' h h' source sink hub read wrote served = inr (inl refl)
element_decides (Ok HubFault) f f' k k' h h' source sink hub read wrote served = absurd (served hub)
element_decides (Ok ReadFault) f f' k k' h h' source sink hub read wrote served = absurd (read source)
element_decides (Ok Refused) f f' k k' h h' source sink hub read wrote served = inr (inr (inl refl))
element_decides (Ok TooLong) f f' k k' h h' source sink hub read wrote served = inr (inr (inr (inl refl)))
element_decides (Err WriteFault) f f' k k' h h' source sink hub read wrote served = absurd (wrote sink)
element_decides (Err NoMemory) f f' k k' h h' source sink hub read wrote served = inr (inr (inr (inr refl)))

pub element_runs : (how : Result ElementEnd Stop) (limit id ce turns status : ℕ) (before left : Option (List ℕ)) (first last : Option Held) (old new : Option (List ℕ)) (f f' k k' h h' : ℕ)
    → status ≡ element_status how → ElementEnds limit id ce turns (f, f') (h, h') how before left first last old new
    → EndCount is_unread how f f' → SinkCount how k k' → EndCount is_unserved how h h' → ElementRuns limit id ce turns status before left first last old new (f, f') (k, k') (h, h')
element_runs how limit id ce turns status before left first last old new f f' k k' h h' is ends source sink hub =
    record { ends = (how, is, ends); complete = λ read wrote served. rw is (element_decides how f f' k k' h h' source sink hub read wrote served) }

-- no memory, and nothing was done
pub element_none : (limit id ce turns : ℕ) (left : Option (List ℕ)) (held : Option Held) (known : Option (List ℕ)) (f k h : ℕ)
    → ElementRuns limit id ce turns 9 left left held held known known (f, f) (k, k) (h, h)
element_none limit id ce turns left held known f k h =
    element_runs (Err NoMemory) limit id ce turns 9 left left held held known known f f k k h h refl (inr (((refl, refl), inl ([], consumes_none left, omega arith, refl)), Appends-nil known))
    (inl refl) refl (inl refl)
