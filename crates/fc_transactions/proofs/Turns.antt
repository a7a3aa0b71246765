-- The turns of phases, one by one.
use Rattle.std.proofs.Common.{◌≡◌, ℕ, Bool, true, false, cond, ◌&&◌, ◌==◌, not, List, ◌∷◌, Option, Some, None, refl, sym, ap, ◌∙◌}
use Rattle.fc_base.specs.Ids.{Txn}
use Rattle.fc_holding.specs.Held.{state_at}
use Rattle.fc_path.specs.declared.oper.Select.{Select}
use Rattle.fc_phases.specs.declared.values.Opening.{Opening}
use Rattle.fc_protocol.specs.Floors.{is_below}
use Rattle.fc_protocol.specs.Messages.{is_name}
use Rattle.fc_protocol.specs.Phases.{Turn, aborting, failed, keeps, preparing, settling, with_rest}
use Rattle.fc_protocol.specs.Records.{is_full, state_of, write}
use Rattle.fc_protocol.specs.Trace.{Settles}
use Rattle.fc_protocol.specs.declared.answers.TxnEntry.{TxnEntry}
use Rattle.fc_protocol.specs.declared.states.Decision.TheVariants.{Complete, Abort}
use Rattle.fc_protocol.specs.declared.states.TxnState.{TxnState}
use Rattle.fc_protocol.specs.declared.states.TxnState.TheVariants.{Aborted}
use Rattle.fc_tx.specs.Records.{TxnRecords, enter_turn, prepare_turn, settle_turn, start_turn, turned}
use Rattle.fc_transactions.specs.Phases.{Did, aborted_by, aborts, completed_by, completes, is_held_in, opened_txn, prepared_by, prepares, refuses, start_turn_by, starts_by, started}
use Rattle.fc_transactions.specs.declared.ledger.Ledger.{Ledger}

-- ---- one that names a transaction
pub none_is : {A : Type 0} (b : Bool) (x : A) → None ≡ cond b (Some x) None → b ≡ false
none_is true x e = absurd cc
none_is false x e = refl

pub some_is : {A : Type 0} (b : Bool) (x y : A) → Some y ≡ cond b (Some x) None → (b ≡ true) × (y ≡ x)
some_is true x y e = (refl, cc)
some_is false x y e = absurd cc

-- what names a transaction has the record that it has, and what names none has none
pub state_is : (x : Txn) (ns : List TxnEntry) → is_name x ≡ true → state_at x ns ≡ state_of x ns
state_is x ns e = ap (λ b. cond b (state_of x ns) None) e

pub state_none : (x : Txn) (ns : List TxnEntry) → is_name x ≡ false → state_at x ns ≡ None
state_none x ns e = ap (λ b. cond b (state_of x ns) None) e

-- ---- what comes with a start or a change
calm_by : (b : Bool) (t : Turn) → failed (b && not (0 == 0)) 0 t ≡ t
calm_by true t = refl
calm_by false t = refl

-- it has the code 0
pub calm : (t : Turn) → with_rest 0 t ≡ t
calm t = calm_by (t.code == 0) t

abbrev pub failing : ℕ → Turn → Turn
failing code t = record { new = Some Aborted; code = code; events = Settles Abort ∷ t.events }

-- it has another code
pub fails : (t : Turn) (code : ℕ) → t.code ≡ 0 → (code == 0) ≡ false → with_rest code t ≡ failing code t
fails t code e f = ap (λ (c : ℕ). failed (c == 0 && not (code == 0)) code t) e ∙ ap (λ b. failed (not b) code t) f

-- ---- SOT
module _ (r : TxnRecords) (o : Opening) where
  abbrev turn : Turn
  turn = start_turn (opened_txn o) o.instances r

  pub start_is : start_turn_by true r o 0 ≡ turn
  start_is = calm turn

  -- of the code of its check
  pub start_code : (fits : Bool) (code : ℕ) → fits ≡ true → code ≡ turn.code → (start_turn_by fits r o 0).code ≡ code
  start_code true code e f = ap (λ (t : Turn). t.code) start_is ∙ sym f
  start_code false code e f = absurd cc

  pub start_refused : (fits : Bool) → fits ≡ false → (start_turn_by fits r o 0).code ≡ 16
  start_refused true e = absurd cc
  start_refused false e = refl

  -- of its records
  pub start_records : (now : TxnRecords) → now ≡ turned (opened_txn o) o.participants o.instances turn r → now ≡ turned (opened_txn o) o.participants o.instances (start_turn_by true r o 0) r
  start_records now e = e ∙ ap (λ (t : Turn). turned (opened_txn o) o.participants o.instances t r) (sym start_is)

  pub failed_records : (now : TxnRecords) (code : ℕ) → turn.code ≡ 0 → (code == 0) ≡ false → now ≡ record { entries = write (opened_txn o) o.participants o.instances Aborted r.entries; floor = r.floor }
      → now ≡ turned (opened_txn o) o.participants o.instances (start_turn_by true r o code) r
  failed_records now code e f g = g ∙ ap (λ (t : Turn). turned (opened_txn o) o.participants o.instances t r) (sym (fails turn code e f))

pub starts_open : (p : ℕ) (l : Ledger) (o : Opening) (rest : List Select) (code : ℕ) → (code == 0) ≡ true → started p l o rest ≡ starts_by p l o rest code
starts_open p l o rest code e = sym (ap (λ b. cond b (started p l o rest) (refuses l rest code)) e)

pub starts_refuse : (p : ℕ) (l : Ledger) (o : Opening) (rest : List Select) (code : ℕ) → (code == 0) ≡ false → refuses l rest code ≡ starts_by p l o rest code
starts_refuse p l o rest code e = sym (ap (λ b. cond b (started p l o rest) (refuses l rest code)) e)

-- ---- floors
-- at an element of another epoch, or without a number, or with a subject that names none
pub no_floor : (a n : Bool) (x : Txn) (code : ℕ) → None ≡ cond a (cond n (Some x) None) None → cond n (cond a code 16) 16 ≡ 16
no_floor true true x code e = absurd cc
no_floor true false x code e = refl
no_floor false true x code e = refl
no_floor false false x code e = refl

pub a_floor : (a n : Bool) (x y : Txn) (code : ℕ) → Some y ≡ cond a (cond n (Some x) None) None → (y ≡ x) × (cond n (cond a code 16) 16 ≡ code)
a_floor true true x y code e = (cc, refl)
a_floor true false x y code e = absurd cc
a_floor false true x y code e = absurd cc
a_floor false false x y code e = absurd cc

-- ---- EOT and ABT
pub prepares_is : (p : ℕ) (l : Ledger) (x : Txn) → is_name x ≡ true → prepared_by p l x (prepare_turn x l.records) ≡ prepares p l x
prepares_is p l x e = ap (λ s. prepared_by p l x (preparing s)) (sym (state_is x l.records.entries e))

pub prepares_none : (p : ℕ) (l : Ledger) (x : Txn) → is_name x ≡ false → prepared_by p l x (preparing None) ≡ prepares p l x
prepares_none p l x e = ap (λ s. prepared_by p l x (preparing s)) (sym (state_none x l.records.entries e))

pub completes_is : (p : ℕ) (l : Ledger) (x : Txn) → is_name x ≡ true → completed_by p l x (settle_turn Complete x l.records) ≡ completes p l x
completes_is p l x e = ap (λ s. completed_by p l x (settling Complete s)) (sym (state_is x l.records.entries e))

pub completes_none : (p : ℕ) (l : Ledger) (x : Txn) → is_name x ≡ false → completed_by p l x (settling Complete None) ≡ completes p l x
completes_none p l x e = ap (λ s. completed_by p l x (settling Complete s)) (sym (state_none x l.records.entries e))

abbrev pub aborts_at : ℕ → Ledger → Txn → Option TxnState → Did
aborts_at p l x s = aborted_by p l x (is_held_in s) (aborting (is_name x && not (is_below x l.records.floor)) (is_full l.records.entries) s)

pub aborts_is : (p : ℕ) (l : Ledger) (x : Txn) (s : Option TxnState) → is_name x ≡ true → state_of x l.records.entries ≡ s → aborts_at p l x s ≡ aborts p l x
aborts_is p l x s e f = ap (aborts_at p l x) (sym (state_is x l.records.entries e ∙ f))

pub aborts_none : (p : ℕ) (l : Ledger) (x : Txn) → is_name x ≡ false → aborts_at p l x None ≡ aborts p l x
aborts_none p l x e = ap (aborts_at p l x) (sym (state_none x l.records.entries e))

-- one without a record
pub unknown_turn : (r : TxnRecords) (x : Txn) → is_name x ≡ true → aborting (is_name x && not (is_below x r.floor)) (is_full r.entries) None ≡ enter_turn x r
unknown_turn r x e = ap (λ b. aborting (b && not (is_below x r.floor)) (is_full r.entries) None) e

pub unnamed_turn : (r : TxnRecords) (x : Txn) → is_name x ≡ false → aborting (is_name x && not (is_below x r.floor)) (is_full r.entries) None ≡ keeps 11
unnamed_turn r x e = ap (λ b. aborting (b && not (is_below x r.floor)) (is_full r.entries) None) e
