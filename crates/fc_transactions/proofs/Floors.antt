-- Floors, by what a subject names.
use Rattle.std.proofs.Common.{◌≡◌, ℕ, ◌==◌, ◌&&◌, not, cond, List, refl, sym, ap, ◌∙◌, Option, Some, None, Result}
use Rattle.std.specs.Prelude.{IfOk}
use Rattle.fc_base.specs.Ids.{Txn}
use Rattle.fc_base.specs.declared.faults.Memory.{Memory}
use Rattle.fc_msg.specs.declared.message.Message.{Message}
use Rattle.fc_path.specs.declared.oper.Select.{Select}
use Rattle.fc_protocol.specs.Messages.{is_name}
use Rattle.fc_reply.specs.Counting.{each_gets}
use Rattle.fc_tx.specs.Records.{TxnRecords, new_floor_code, with_floor}
use Rattle.fc_performing.specs.declared.answering.Answered.{Answered}
use Rattle.fc_transactions.proofs.Done.{answered_done, if_done}
use Rattle.fc_transactions.proofs.Turns.{a_floor, no_floor}
use Rattle.fc_transactions.specs.Done.{IsAnswered, IsDone}
use Rattle.fc_transactions.specs.Phases.{code_of_floor, floors, floors_by}
use Rattle.fc_transactions.specs.declared.ledger.Ledger.{Ledger}

-- the floor that is set, where the subject is of the life that has claimed the element
abbrev pub own_floor : ℕ → Txn → Option Txn
own_floor epoch f = cond (f.epoch == epoch && not (f.number == 0)) (cond (is_name f) (Some f) None) None

module _ (p peer : ℕ) (m : Message) (selects : List Select) (epoch : ℕ) (l : Ledger) (f : Txn) where
  abbrev with_records : TxnRecords → Ledger
  with_records r = record { records = r; holdings = l.holdings; store = l.store; subscriptions = l.subscriptions }

  -- it names none
  module _ (none : None ≡ own_floor epoch f) where
    code_is : code_of_floor epoch l.records f ≡ 16
    code_is = no_floor (f.epoch == epoch && not (f.number == 0)) (is_name f) f (new_floor_code f l.records) none

    pub no_floor_done : (r : Result Answered Memory) → IfOk r (λ a. IsAnswered peer m selects (each_gets 16 selects) a) → IfOk r (λ a. IsDone p peer m selects (floors epoch l selects f) a)
    no_floor_done r y = if_done p peer m selects (each_gets 16 selects) r y (floors epoch l selects f) (ap (λ k. each_gets k selects) code_is) refl

    pub no_floor_ledger : l ≡ (floors epoch l selects f).ledger
    no_floor_ledger = sym (ap (λ k. (floors_by l selects f k).ledger) code_is)

  -- it names one
  module _ (floor : Txn) (some : Some floor ≡ own_floor epoch f) (code : ℕ) (coded : code ≡ new_floor_code floor l.records) where
    both : (floor ≡ f) × (code_of_floor epoch l.records f ≡ new_floor_code f l.records)
    both = a_floor (f.epoch == epoch && not (f.number == 0)) (is_name f) f floor (new_floor_code f l.records) some

    same_code : code_of_floor epoch l.records f ≡ code
    same_code = both.1 ∙ ap (λ x. new_floor_code x l.records) (sym both.0) ∙ sym coded

    pub floor_done : (a : Answered) → IsAnswered peer m selects (each_gets code selects) a → IsDone p peer m selects (floors epoch l selects f) a
    floor_done a y = answered_done p peer m selects (each_gets code selects) a y (floors epoch l selects f) (ap (λ k. each_gets k selects) same_code) refl

    pub floor_ledger : (now : TxnRecords) → now ≡ with_floor (new_floor_code floor l.records) floor l.records → with_records now ≡ (floors epoch l selects f).ledger
    floor_ledger now e = ap with_records (e ∙ ap (λ k. with_floor k floor l.records) (sym coded ∙ sym same_code) ∙ ap (λ x. with_floor (code_of_floor epoch l.records f) x l.records) both.0)
