-- Why a call of a master is refused, as the protocol's master refuses it. This profile's own.
use Rattle.std.specs.Prelude.{ℕ, ◌+◌, ◌||◌, not, nat_le, nat_lt, Bool, List, [], ◌∷◌, Option, Some, None}
use Rattle.fc_base.specs.Ids.{Txn}
use Rattle.fc_protocol.specs.Collections.{or_next}
use Rattle.fc_protocol.specs.Jobs.{Job as Work}
use Rattle.fc_protocol.specs.MasterMachine.{Master as Core, Peer, Refusal, Deposed, TooMany, Stranger, NotReady, Busy, Spent, Unsettled, Unknown, Decided, any_spent, busy_at, busy_by, first_refusal, is_engaged, last_count, refused_if}
use Rattle.fc_protocol.specs.Scopes.{Scope}
use Rattle.fc_jobs.specs.Seats.{alone, peer_of}
use Rattle.fc_jobs.specs.declared.seat.Seat.{Seat}
use Rattle.fc_master.specs.declared.faults.BeginFault.{BeginFault}
use Rattle.fc_master.specs.declared.faults.BeginFault.TheVariants as begin
use Rattle.fc_master.specs.declared.faults.ForgetFault.{ForgetFault}
use Rattle.fc_master.specs.declared.faults.ForgetFault.TheVariants as forget
use Rattle.fc_master.specs.declared.faults.GiveUpFault.{GiveUpFault}
use Rattle.fc_master.specs.declared.faults.GiveUpFault.TheVariants as give_up

-- the refusal; none is want of memory
abbrev pub begin_told : BeginFault → Option Refusal
begin_told (begin.Deposed seen) = Some (Deposed seen)
begin_told (begin.TooMany count) = Some (TooMany count)
begin_told (begin.Stranger p) = Some (Stranger p)
begin_told (begin.NotReady p) = Some (NotReady p)
begin_told (begin.Busy p x) = Some (Busy p x)
begin_told begin.Spent = Some Spent
begin_told begin.Memory = None

abbrev pub begin_told_by : Option BeginFault → Option Refusal
begin_told_by None = None
begin_told_by (Some fault) = begin_told fault

abbrev pub give_up_told : GiveUpFault → Option Refusal
give_up_told (give_up.Deposed seen) = Some (Deposed seen)
give_up_told give_up.Unknown = Some Unknown
give_up_told (give_up.Decided d) = Some (Decided d)
give_up_told give_up.Memory = None

abbrev pub give_up_told_by : Option GiveUpFault → Option Refusal
give_up_told_by None = None
give_up_told_by (Some fault) = give_up_told fault

abbrev pub forget_told : ForgetFault → Option Refusal
forget_told (forget.Deposed seen) = Some (Deposed seen)
forget_told (forget.NotReady p) = Some (NotReady p)
forget_told (forget.Busy p x) = Some (Busy p x)
forget_told (forget.Unsettled x) = Some (Unsettled x)
forget_told forget.Spent = Some Spent
forget_told forget.Memory = None

abbrev pub forget_told_by : Option ForgetFault → Option Refusal
forget_told_by None = None
forget_told_by (Some fault) = forget_told fault

-- why the element p, of which this is kept, may take no part beside these jobs
abbrev pub peer_refusal : Peer → ℕ → Scope → List Work → Option Refusal
peer_refusal y p sc js = or_next (refused_if (not y.answered || (y.doubt || y.lost)) (NotReady p)) (busy_by (alone 0 y js None) p (busy_at p sc js))

-- why participants that are not too many may not begin
abbrev pub job_refusal : Core → List ℕ → (ℕ → ℕ) → (ℕ → Scope) → Option Refusal
job_refusal m ps changes scopes = or_next (first_refusal m ps scopes) (refused_if (nat_lt last_count (m.begun + 1) || any_spent m ps changes) Spent)

-- why the elements of these seats are not ready to forget
abbrev pub unready_seats : ℕ → List Seat → Option Refusal
unready_seats e [] = None
unready_seats e (s ∷ ss) = or_next (refused_if (not (peer_of e s).answered || (peer_of e s).lost) (NotReady s.element)) (unready_seats e ss)

-- the first of these seats that a plain change or an earlier floor waits for
abbrev pub engaged_seats : ℕ → List Seat → Option Refusal
engaged_seats e [] = None
engaged_seats e (s ∷ ss) = or_next (refused_if (is_engaged (peer_of e s)) (Busy s.element None)) (engaged_seats e ss)

-- whether the sequence of an element is used up
abbrev pub is_used_up : Seat → Bool
is_used_up s = nat_le last_count s.last

-- the seat, where this floor is wanted
abbrev pub seat_owing : Option Txn → Seat → Seat
seat_owing w s = record s { owes = w }
