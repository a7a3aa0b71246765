-- A Config while no life has claimed the element.
use Rattle.std.proofs.Common.{◌≡◌, ℕ, ◌==◌, not, Bool, true, false, cond, List, refl, ap, ◌∙◌, Option, Some, None, Result, Ok, Err}
use Rattle.std.specs.Prelude.{IfOk, OnOk}
use Rattle.fc_base.specs.declared.faults.Memory.{Memory}
use Rattle.fc_msg.specs.declared.message.Message.{Message}
use Rattle.fc_path.specs.declared.oper.Select.{Select}
use Rattle.fc_protocol.specs.Codes.{not_supported, read_only}
use Rattle.fc_performing.specs.declared.answering.Answered.{Answered}
use Rattle.fc_transactions.proofs.Done.{if_same}
use Rattle.fc_transactions.specs.Done.{IsDone}
use Rattle.fc_transactions.specs.Order.{unclaimed, with_ledger}
use Rattle.fc_transactions.specs.Phases.{Did, all_get, executes}
use Rattle.fc_transactions.specs.State.{TransactionState}
use Rattle.fc_transactions.specs.declared.ledger.Ledger.{Ledger}

done_by : (other at : Bool) (x : ℕ → Did) (y : Did) → None ≡ cond other (Some read_only) (cond at (Some not_supported) None) → y ≡ cond other (x read_only) (cond at (x not_supported) y)
done_by true at x y e = absurd cc
done_by false true x y e = absurd cc
done_by false false x y e = refl

-- the code with which it is refused, if it is
abbrev refusal : ℕ → Message → Option ℕ
refusal ce m = cond (not (m.source == ce)) (Some read_only) (cond m.flags.at (Some not_supported) None)

module _ (s : TransactionState) (peer : ℕ) (m : Message) (selects : List Select) (none : None ≡ refusal s.ce m) where
  performed_is : executes s.id s.ledger m selects ≡ unclaimed s m selects
  performed_is = done_by (not (m.source == s.ce)) m.flags.at (all_get s.ledger selects) (executes s.id s.ledger m selects) none

  pub unclaimed_done : (r : Result Answered Memory) → IfOk r (λ a. IsDone s.id peer m selects (executes s.id s.ledger m selects) a) → IfOk r (λ a. IsDone s.id peer m selects (unclaimed s m selects) a)
  unclaimed_done r y = if_same s.id peer m selects (executes s.id s.ledger m selects) (unclaimed s m selects) r performed_is y

  pub unclaimed_goes : (now : Ledger) (r : Result Answered Memory) → OnOk r (now ≡ (executes s.id s.ledger m selects).ledger) → OnOk r (with_ledger s now ≡ with_ledger s (unclaimed s m selects).ledger)
  unclaimed_goes now (Ok a) y = ap (with_ledger s) (y ∙ ap (λ (d : Did). d.ledger) performed_is)
  unclaimed_goes now (Err memory) y = tt
