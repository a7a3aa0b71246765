-- What a higher epoch and a decision make of a state.
use Rattle.std.proofs.Common.{◌≡◌, ◌≢◌, true, ◌⊎◌, inl, inr, refl, ap}
use Rattle.fc_agreement.specs.Core.{raised, settled}
use Rattle.fc_protocol.specs.Decide.{is_absent, is_started}
use Rattle.fc_protocol.specs.declared.states.Decision.{Decision}
use Rattle.fc_protocol.specs.declared.states.Decision.TheVariants.{Complete, Abort}
use Rattle.fc_protocol.specs.declared.states.Seen.{Seen}
use Rattle.fc_protocol.specs.declared.states.Seen.TheVariants.{Absent, Started, Prepared, Completed, Aborted}

pub was_absent : (s : Seen) → is_absent s ≡ true → s ≡ Absent
was_absent Absent e = refl
was_absent Started e = cc
was_absent Prepared e = cc
was_absent Completed e = cc
was_absent Aborted e = cc

pub was_started : (s : Seen) → is_started s ≡ true → s ≡ Started
was_started Absent e = cc
was_started Started e = refl
was_started Prepared e = cc
was_started Completed e = cc
was_started Aborted e = cc

pub settled_absent : (d : Decision) (s : Seen) → settled d s ≡ Absent → s ≡ Absent
settled_absent Complete Absent e = refl
settled_absent Complete Started e = cc
settled_absent Complete Prepared e = cc
settled_absent Complete Completed e = cc
settled_absent Complete Aborted e = cc
settled_absent Abort Absent e = refl
settled_absent Abort Started e = cc
settled_absent Abort Prepared e = cc
settled_absent Abort Completed e = cc
settled_absent Abort Aborted e = cc

pub settled_started : (d : Decision) (s : Seen) → settled d s ≡ Started → s ≡ Started
settled_started Complete Absent e = cc
settled_started Complete Started e = refl
settled_started Complete Prepared e = cc
settled_started Complete Completed e = cc
settled_started Complete Aborted e = cc
settled_started Abort Absent e = cc
settled_started Abort Started e = refl
settled_started Abort Prepared e = cc
settled_started Abort Completed e = cc
settled_started Abort Aborted e = cc

pub settled_aborted : (d : Decision) (s : Seen) → settled d s ≡ Aborted → (s ≡ Aborted) ⊎ (d ≡ Abort)
settled_aborted Complete Absent e = cc
settled_aborted Complete Started e = cc
settled_aborted Complete Prepared e = cc
settled_aborted Complete Completed e = cc
settled_aborted Complete Aborted e = inl refl
settled_aborted Abort s e = inr refl

pub settled_completed : (d : Decision) (s : Seen) → settled d s ≡ Completed → (s ≡ Completed) ⊎ (d ≡ Complete)
settled_completed Complete s e = inr refl
settled_completed Abort Absent e = cc
settled_completed Abort Started e = cc
settled_completed Abort Prepared e = cc
settled_completed Abort Completed e = inl refl
settled_completed Abort Aborted e = cc

pub settled_done : (d : Decision) (s : Seen) → (s ≡ Completed → settled d s ≡ Completed) × (s ≡ Aborted → settled d s ≡ Aborted)
settled_done Complete s = ((λ e. ap (settled Complete) e), (λ e. ap (settled Complete) e))
settled_done Abort s = ((λ e. ap (settled Abort) e), (λ e. ap (settled Abort) e))

pub abort_never : (s : Seen) → (settled Abort s ≢ Absent) × (settled Abort s ≢ Started)
abort_never Absent = ((λ e. cc), (λ e. cc))
abort_never Started = ((λ e. cc), (λ e. cc))
abort_never Prepared = ((λ e. cc), (λ e. cc))
abort_never Completed = ((λ e. cc), (λ e. cc))
abort_never Aborted = ((λ e. cc), (λ e. cc))

pub raised_started : (s : Seen) → raised s ≢ Started
raised_started Absent e = cc
raised_started Started e = cc
raised_started Prepared e = cc
raised_started Completed e = cc
raised_started Aborted e = cc

pub raised_absent : (s : Seen) → raised s ≡ Absent → s ≡ Absent
raised_absent Absent e = refl
raised_absent Started e = cc
raised_absent Prepared e = cc
raised_absent Completed e = cc
raised_absent Aborted e = cc

pub raised_completed : (s : Seen) → raised s ≡ Completed → s ≡ Completed
raised_completed Absent e = cc
raised_completed Started e = cc
raised_completed Prepared e = cc
raised_completed Completed e = refl
raised_completed Aborted e = cc

pub raised_aborted : (s : Seen) → raised s ≡ Aborted → (s ≡ Aborted) ⊎ (s ≡ Started)
raised_aborted Absent e = cc
raised_aborted Started e = inr refl
raised_aborted Prepared e = cc
raised_aborted Completed e = cc
raised_aborted Aborted e = inl refl

pub not_early : (s : Seen) → (s ≡ Absent) ⊎ ((s ≡ Started) ⊎ ((s ≢ Absent) × (s ≢ Started)))
not_early Absent = inl refl
not_early Started = inr (inl refl)
not_early Prepared = inr (inr ((λ e. cc), (λ e. cc)))
not_early Completed = inr (inr ((λ e. cc), (λ e. cc)))
not_early Aborted = inr (inr ((λ e. cc), (λ e. cc)))

pub settled_prepared : (d : Decision) (s : Seen) → settled d s ≡ Prepared → s ≡ Prepared
settled_prepared Complete Absent e = cc
settled_prepared Complete Started e = cc
settled_prepared Complete Prepared e = refl
settled_prepared Complete Completed e = cc
settled_prepared Complete Aborted e = cc
settled_prepared Abort Absent e = cc
settled_prepared Abort Started e = cc
settled_prepared Abort Prepared e = refl
settled_prepared Abort Completed e = cc
settled_prepared Abort Aborted e = cc

pub raised_prepared : (s : Seen) → raised s ≡ Prepared → s ≡ Prepared
raised_prepared Absent e = cc
raised_prepared Started e = cc
raised_prepared Prepared e = refl
raised_prepared Completed e = cc
raised_prepared Aborted e = cc

pub abort_unprepared : (s : Seen) → settled Abort s ≢ Prepared
abort_unprepared Absent e = cc
abort_unprepared Started e = cc
abort_unprepared Prepared e = cc
abort_unprepared Completed e = cc
abort_unprepared Aborted e = cc
