-- A start and a change, by what comes with them.
use Rattle.std.proofs.Common.{◌≡◌, ℕ, ◌==◌, ◌&&◌, ◌≤◌, not, length, Bool, true, false, cond, List, [], ◌∷◌, ◌++◌, refl, sym, ap, ap₂, subst, ◌∙◌, Option, Some, None, Result, Ok, Err}
use Rattle.std.proofs.lemmas.Bool.{and_parts, eqb-true, leb-true}
use Rattle.std.specs.List.{list_all}
use Rattle.std.specs.Prelude.{IfOk, OnErr, nat_le}
use Rattle.fc_base.specs.declared.faults.Memory.{Memory}
use Rattle.fc_base.specs.Ids.{Txn}
use Rattle.fc_exec.specs.declared.operations.Operation.{Operation}
use Rattle.fc_holding.specs.Held.{has_all, scope_of, state_at}
use Rattle.fc_holding.specs.Holdings.{undone, with_rest, without}
use Rattle.fc_holding.specs.declared.holding.Holding.{Holding}
use Rattle.fc_machine.specs.ElementState.{and_rest, first_code}
use Rattle.fc_modes.specs.Modes.{Outcome}
use Rattle.fc_msg.specs.declared.message.Message.{Message}
use Rattle.fc_path.specs.declared.oper.Select.{Select}
use Rattle.fc_phases.specs.declared.values.Opening.{Opening}
use Rattle.fc_protocol.specs.Collections.{among}
use Rattle.fc_protocol.specs.ElementMachine.{rises_above, takes_part}
use Rattle.fc_protocol.specs.Messages.{is_name}
use Rattle.fc_protocol.specs.Phases.{Turn, adding, settling}
use Rattle.fc_protocol.specs.Records.{noted, state_of, write}
use Rattle.fc_protocol.specs.Scopes.{control_class, is_rising, is_scope}
use Rattle.fc_reply.specs.Counting.{each_gets}
use Rattle.fc_protocol.specs.declared.states.Decision.TheVariants.{Abort}
use Rattle.fc_protocol.specs.declared.states.TxnState.{TxnState}
use Rattle.fc_protocol.specs.declared.states.TxnState.TheVariants.{Started, Prepared, Completed, Aborted}
use Rattle.fc_store.specs.Stores.{IsWhole, Stored, gone_back, mark_of, over_mark, without_mark}
use Rattle.fc_tx.specs.Records.{TxnRecords, settle_turn, start_turn, turned}
use Rattle.fc_performing.specs.declared.answering.Answered.{Answered}
use Rattle.fc_transactions.proofs.Done.{answered_done, if_done, if_same, same_done}
use Rattle.fc_transactions.proofs.Rests.{rest_back, rest_codes, rest_less}
use Rattle.fc_transactions.proofs.Turns.{failed_records, fails, none_is, some_is, start_code, start_records, start_refused, starts_open, starts_refuse, state_is, state_none}
use Rattle.fc_transactions.specs.Done.{IsAnswered, IsDone}
use Rattle.fc_transactions.specs.Phases.{Did, continued, continues, extends, extends_failed, is_admitted, marked, opened_txn, opens, opens_failed, refuses, rest_outcome, start_turn_by, started, starts}
use Rattle.fc_transactions.specs.declared.ledger.Ledger.{Ledger}
use Rattle.fc_transactions.specs.declared.starting.Admission.{Admission}

abbrev ledger : TxnRecords → List Holding → Stored → Ledger → Ledger
ledger r hs s l = record { records = r; holdings = hs; store = s; subscriptions = l.subscriptions }

-- what was done while the mark stands is taken back
pub back : (scope mark : List (ℕ × ℕ)) (old now : Stored) (rest : List Select) → mark ≡ mark_of scope old → now ≡ (rest_outcome scope (marked scope old) rest).state → IsWhole old → over_mark gone_back mark now ≡ old
back scope mark old now rest m e whole = ap₂ (λ (k : List (ℕ × ℕ)) (s : Stored). over_mark gone_back k s) m e ∙ rest_back scope old rest whole

-- what is tried for the same
pub same_try : (scope other : List (ℕ × ℕ)) (rest more : List Select) (s : Stored) → scope ≡ other → rest ≡ more → rest_outcome scope (marked scope s) rest ≡ rest_outcome other (marked other s) more
same_try scope other rest more s e f = ap₂ (λ (sc : List (ℕ × ℕ)) (rs : List Select). rest_outcome sc (marked sc s) rs) e f

pub same_code : (code : ℕ) (one two : Outcome Stored Operation) → code ≡ first_code one.codes → one ≡ two → code ≡ first_code two.codes
same_code code one two e is = e ∙ ap (λ (t : Outcome Stored Operation). first_code t.codes) is

pub same_state : (now : Stored) (one two : Outcome Stored Operation) → now ≡ one.state → one ≡ two → now ≡ two.state
same_state now one two e is = e ∙ ap (λ (t : Outcome Stored Operation). t.state) is

pub same_answered : (peer : ℕ) (m : Message) (selects : List Select) (one two : Outcome Stored Operation) (a : Answered) → IsAnswered peer m selects (0 ∷ one.codes) a → one ≡ two → IsAnswered peer m selects (0 ∷ two.codes) a
same_answered peer m selects one two a x is = subst (λ (t : Outcome Stored Operation). IsAnswered peer m selects (0 ∷ t.codes) a) is x

-- nothing has changed
pub unchanged : (l : Ledger) (records : TxnRecords) (holdings : List Holding) (store : Stored) → records ≡ l.records → holdings ≡ l.holdings → store ≡ l.store → ledger records holdings store l ≡ l
unchanged l records holdings store e f g = ap₂ (λ (r : TxnRecords) (hs : List Holding). ledger r hs store l) e f ∙ ap (λ s. ledger l.records l.holdings s l) g

pub on_want : (l : Ledger) (r : Result Answered Memory) (records : TxnRecords) (holdings : List Holding) (store : Stored) → records ≡ l.records → holdings ≡ l.holdings → store ≡ l.store → OnErr r (ledger records holdings store l ≡ l)
on_want l (Ok a) records holdings store e f g = tt
on_want l (Err memory) records holdings store e f g = unchanged l records holdings store e f g

-- ---- SOT
-- whether it is admitted
module _ (p epoch : ℕ) (instances : List (ℕ × ℕ)) (o : Opening) (is : is_admitted p epoch instances o ≡ true) where
  abbrev taking : Bool
  taking = takes_part p o.participants && (not (not (has_all instances o.instances)) && is_scope o.instances)

  taken : taking ≡ true
  taken = (and_parts (not (o.number == 0)) taking (and_parts (o.epoch == epoch) (not (o.number == 0) && taking) (and_parts (is_name (opened_txn o)) (o.epoch == epoch && (not (o.number == 0) && taking)) is).1).1).1

  pub rises : is_rising o.instances ≡ true
  rises =
      (and_parts (is_rising o.instances) (list_all (λ i. not (i.0 == control_class)) o.instances)
      (and_parts (not (not (has_all instances o.instances))) (is_scope o.instances)
      (and_parts (takes_part p o.participants) (not (not (has_all instances o.instances)) && is_scope o.instances) taken).1).1).0

  pub few : length o.participants ≤ 64
  few =
      leb-true (length o.participants) 64
      (and_parts (rises_above 0 o.participants) (nat_le (length o.participants) 64)
      (and_parts (among p o.participants) (rises_above 0 o.participants && nat_le (length o.participants) 64)
      (and_parts (takes_part p o.participants) (not (not (has_all instances o.instances)) && is_scope o.instances) taken).0).1).1

-- by its code
module _ (p peer : ℕ) (m : Message) (selects : List Select) (epoch : ℕ) (l : Ledger) (o : Opening) (rest : List Select) where
  abbrev fits_here : Bool
  fits_here = is_admitted p epoch l.store.instances o

  abbrev code_here : ℕ
  code_here = (start_turn_by fits_here l.records o 0).code

  refused_is : (code : ℕ) → code_here ≡ code → (code == 0) ≡ false → refuses l rest code ≡ starts p epoch l o rest
  refused_is code e bad = ap (refuses l rest) (sym e) ∙ starts_refuse p l o rest code_here (ap (λ k. k == 0) e ∙ bad)

  pub refused_done : (code : ℕ) (r : Result Answered Memory) → code_here ≡ code → (code == 0) ≡ false → IfOk r (λ a. IsAnswered peer m selects (code ∷ each_gets 255 rest) a) → IfOk r (λ a. IsDone p peer m selects (starts p epoch l o rest) a)
  refused_done code r e bad y =
      if_same p peer m selects (refuses l rest code) (starts p epoch l o rest) r (refused_is code e bad) (if_done p peer m selects (code ∷ each_gets 255 rest) r y (refuses l rest code) refl refl)

  pub refused_ledger : (code : ℕ) → code_here ≡ code → (code == 0) ≡ false → l ≡ (starts p epoch l o rest).ledger
  refused_ledger code e bad = ap (λ (d : Did). d.ledger) (refused_is code e bad)

  pub starts_is : (code : ℕ) → code_here ≡ code → (code == 0) ≡ true → started p l o rest ≡ starts p epoch l o rest
  starts_is code e good = starts_open p l o rest code_here (ap (λ k. k == 0) e ∙ good)

  module _ (instances : List (ℕ × ℕ)) (there : instances ≡ l.store.instances) where
    abbrev admission : Option Admission
    admission = cond (is_admitted p epoch instances o) (Some (record { txn = opened_txn o; participants = o.participants })) None

    same_fits : (b : Bool) → is_admitted p epoch instances o ≡ b → fits_here ≡ b
    same_fits b e = sym (ap (λ is. is_admitted p epoch is o) there) ∙ e

    pub not_admitted : None ≡ admission → code_here ≡ 16
    not_admitted e = start_refused l.records o fits_here (same_fits false (none_is (is_admitted p epoch instances o) (record { txn = opened_txn o; participants = o.participants }) e))

    module _ (a : Admission) (some : Some a ≡ admission) where
      both : (is_admitted p epoch instances o ≡ true) × (a ≡ record { txn = opened_txn o; participants = o.participants })
      both = some_is (is_admitted p epoch instances o) (record { txn = opened_txn o; participants = o.participants }) a some

      pub admission_is : a ≡ record { txn = opened_txn o; participants = o.participants }
      admission_is = both.1

      pub scope_rises : is_rising o.instances ≡ true
      scope_rises = rises p epoch instances o both.0

      pub few_take_part : length o.participants ≤ 64
      few_take_part = few p epoch instances o both.0

      pub code_is_here : (code : ℕ) (scope : List (ℕ × ℕ)) → scope ≡ o.instances → code ≡ (start_turn a.txn scope l.records).code → code_here ≡ code
      code_is_here code scope s e =
          start_code l.records o fits_here code (same_fits true both.0)
          (e ∙ ap (λ sc. (start_turn a.txn sc l.records).code) s ∙ ap (λ (x : Admission). (start_turn x.txn o.instances l.records).code) both.1)

      pub accepted_here : (code : ℕ) (scope : List (ℕ × ℕ)) → scope ≡ o.instances → code ≡ (start_turn a.txn scope l.records).code → (code == 0) ≡ true → (start_turn a.txn o.instances l.records).code ≡ 0
      accepted_here code scope s e good = sym (ap (λ sc. (start_turn a.txn sc l.records).code) s) ∙ sym e ∙ eqb-true code 0 good

-- what is done
module _ (p peer : ℕ) (m : Message) (selects : List Select) (l : Ledger) (o : Opening) (rest : List Select) (a : Admission) (scope mark : List (ℕ × ℕ)) (code : ℕ)
    (named : a ≡ record { txn = opened_txn o; participants = o.participants }) (accepted : (start_turn a.txn o.instances l.records).code ≡ 0) (scoped : scope ≡ o.instances)
    (coded : code ≡ first_code (rest_outcome o.instances (marked o.instances l.store) rest).codes) where
  abbrev done : Outcome Stored Operation
  done = rest_outcome o.instances (marked o.instances l.store) rest

  txn_is : a.txn ≡ opened_txn o
  txn_is = ap (λ (x : Admission). x.txn) named

  few_is : a.participants ≡ o.participants
  few_is = ap (λ (x : Admission). x.participants) named

  pub accepted_is : (start_turn (opened_txn o) o.instances l.records).code ≡ 0
  accepted_is = ap (λ x. (start_turn x o.instances l.records).code) (sym txn_is) ∙ accepted

  pub accepted_scope : (start_turn a.txn scope l.records).code ≡ 0
  accepted_scope = ap (λ s. (start_turn a.txn s l.records).code) scoped ∙ accepted

  -- what came with it fails
  module _ (bad : (code == 0) ≡ false) where
    failed_is : opens_failed p l o done.codes code ≡ started p l o rest
    failed_is =
        ap (opens_failed p l o done.codes) coded
        ∙ sym (ap (λ b. cond b (opens p l o rest done) (opens_failed p l o done.codes (first_code done.codes))) (sym (ap (λ c. c == 0) coded) ∙ bad))

    pub failed_ledger : (records : TxnRecords) (store : Stored) → records ≡ record { entries = write a.txn a.participants scope Aborted l.records.entries; floor = l.records.floor } → store ≡ l.store
        → ledger records l.holdings store l ≡ (started p l o rest).ledger
    failed_ledger records store e f =
        ap₂ (λ (r : TxnRecords) (s : Stored). ledger r l.holdings s l)
        (failed_records l.records o records code accepted_is bad
        (e ∙ ap (λ x. record { entries = write x a.participants scope Aborted l.records.entries; floor = l.records.floor }) txn_is
        ∙ ap (λ ps. record { entries = write (opened_txn o) ps scope Aborted l.records.entries; floor = l.records.floor }) few_is
        ∙ ap (λ s. record { entries = write (opened_txn o) o.participants s Aborted l.records.entries; floor = l.records.floor }) scoped)) f
        ∙ ap (λ (d : Did). d.ledger) failed_is

    pub failed_done : (x : Answered) → IsAnswered peer m selects (0 ∷ done.codes) x → IsDone p peer m selects (started p l o rest) x
    failed_done x y = same_done p peer m selects (opens_failed p l o done.codes code) (started p l o rest) x failed_is (answered_done p peer m selects (0 ∷ done.codes) x y (opens_failed p l o done.codes code) refl refl)

  -- it is accepted
  module _ (good : (code == 0) ≡ true) (marked_so : mark ≡ mark_of o.instances l.store) where
    opened_is : opens p l o rest done ≡ started p l o rest
    opened_is = sym (ap (λ b. cond b (opens p l o rest done) (opens_failed p l o done.codes (first_code done.codes))) (sym (ap (λ c. c == 0) coded) ∙ good))

    pub opened_ledger : (records : TxnRecords) (holdings : List Holding) (store : Stored) → records ≡ turned a.txn a.participants scope (start_turn a.txn scope l.records) l.records
        → holdings ≡ l.holdings ++ record { txn = a.txn; mark = mark; rests = and_rest [] rest } ∷ [] → store ≡ done.state → ledger records holdings store l ≡ (started p l o rest).ledger
    opened_ledger records holdings store e f g =
        ap (λ r. ledger r holdings store l)
        (start_records l.records o records
        (e ∙ ap (λ x. turned x a.participants scope (start_turn x scope l.records) l.records) txn_is
        ∙ ap (λ ps. turned (opened_txn o) ps scope (start_turn (opened_txn o) scope l.records) l.records) few_is
        ∙ ap (λ s. turned (opened_txn o) o.participants s (start_turn (opened_txn o) s l.records) l.records) scoped))
        ∙ ap₂ (λ (hs : List Holding) (s : Stored). ledger (turned (opened_txn o) o.participants o.instances (start_turn_by true l.records o 0) l.records) hs s l)
        (f ∙ ap (λ x. l.holdings ++ record { txn = x; mark = mark; rests = and_rest [] rest } ∷ []) txn_is ∙ ap (λ k. l.holdings ++ record { txn = opened_txn o; mark = k; rests = and_rest [] rest } ∷ []) marked_so) g
        ∙ ap (λ (d : Did). d.ledger) opened_is

    pub opened_done : (x : Answered) → IsAnswered peer m selects (0 ∷ done.codes) x → IsDone p peer m selects (started p l o rest) x
    opened_done x y = same_done p peer m selects (opens p l o rest done) (started p l o rest) x opened_is (answered_done p peer m selects (0 ∷ done.codes) x y (opens p l o rest done) refl refl)

-- ---- MOT
-- by its code
module _ (p peer : ℕ) (m : Message) (selects : List Select) (l : Ledger) (rest : List Select) (x : Txn) where
  abbrev adding_code : ℕ
  adding_code = (adding 0 (state_at x l.records.entries)).code

  unchanged_is : (code : ℕ) → adding_code ≡ code → (code == 0) ≡ false → refuses l rest code ≡ continues p l x rest
  unchanged_is code e bad = ap (refuses l rest) (sym e) ∙ sym (ap (λ b. cond b (continued p l x rest) (refuses l rest adding_code)) (ap (λ k. k == 0) e ∙ bad))

  pub unchanged_done : (code : ℕ) (r : Result Answered Memory) → adding_code ≡ code → (code == 0) ≡ false → IfOk r (λ a. IsAnswered peer m selects (code ∷ each_gets 255 rest) a) → IfOk r (λ a. IsDone p peer m selects (continues p l x rest) a)
  unchanged_done code r e bad y =
      if_same p peer m selects (refuses l rest code) (continues p l x rest) r (unchanged_is code e bad) (if_done p peer m selects (code ∷ each_gets 255 rest) r y (refuses l rest code) refl refl)

  pub unchanged_ledger : (code : ℕ) → adding_code ≡ code → (code == 0) ≡ false → l ≡ (continues p l x rest).ledger
  unchanged_ledger code e bad = ap (λ (d : Did). d.ledger) (unchanged_is code e bad)

  pub continues_is : (code : ℕ) → adding_code ≡ code → (code == 0) ≡ true → continued p l x rest ≡ continues p l x rest
  continues_is code e good = sym (ap (λ b. cond b (continued p l x rest) (refuses l rest adding_code)) (ap (λ k. k == 0) e ∙ good))

  pub unnamed_code : is_name x ≡ false → adding_code ≡ 11
  unnamed_code e = ap (λ s. (adding 0 s).code) (state_none x l.records.entries e)

  pub named_code : (code : ℕ) (s : Option TxnState) → is_name x ≡ true → s ≡ state_of x l.records.entries → code ≡ (adding 0 s).code → adding_code ≡ code
  named_code code s e f g = ap (λ t. (adding 0 t).code) (state_is x l.records.entries e ∙ sym f) ∙ sym g

  pub named_started : (code : ℕ) (s : Option TxnState) → is_name x ≡ true → s ≡ state_of x l.records.entries → code ≡ (adding 0 s).code → (code == 0) ≡ true → adding_code ≡ 0
  named_started code s e f g good = named_code code s e f g ∙ eqb-true code 0 good

-- what is done
only_started : (s : Option TxnState) → (adding 0 s).code ≡ 0 → s ≡ Some Started
only_started None e = absurd cc
only_started (Some Started) e = refl
only_started (Some Prepared) e = absurd cc
only_started (Some Completed) e = absurd cc
only_started (Some Aborted) e = absurd cc

-- what is started is aborted where what comes with it fails
aborted_new : (code : ℕ) (s : Option TxnState) → s ≡ Some Started → (code == 0) ≡ false → (settling Abort s).new ≡ (adding code s).new
aborted_new code s e f = ap (λ t. (settling Abort t).new) e ∙ sym (ap (λ (t : Turn). t.new) (fails (record { new = None; code = 0; events = [] }) code refl f)) ∙ sym (ap (λ t. (adding code t).new) e)

module _ (p peer : ℕ) (m : Message) (selects : List Select) (l : Ledger) (x : Txn) (rest : List Select) (scope : List (ℕ × ℕ)) (code : ℕ)
    (named : is_name x ≡ true) (started_so : (adding 0 (state_at x l.records.entries)).code ≡ 0) (scoped : scope ≡ scope_of x l.records.entries)
    (coded : code ≡ first_code (rest_outcome scope (marked scope l.store) rest).codes) where
  abbrev outcome_here : Outcome Stored Operation
  outcome_here = rest_outcome (scope_of x l.records.entries) l.store rest

  codes_are : (rest_outcome scope (marked scope l.store) rest).codes ≡ outcome_here.codes
  codes_are = rest_codes scope l.store rest ∙ ap (λ s. (rest_outcome s l.store rest).codes) scoped

  code_is : code ≡ first_code outcome_here.codes
  code_is = coded ∙ ap first_code codes_are

  pub state_is_kept : over_mark without_mark (mark_of scope l.store) (rest_outcome scope (marked scope l.store) rest).state ≡ outcome_here.state
  state_is_kept = rest_less scope l.store rest ∙ ap (λ s. (rest_outcome s l.store rest).state) scoped

  pub kept_state : (mark : List (ℕ × ℕ)) (now : Stored) → mark ≡ mark_of scope l.store → now ≡ (rest_outcome scope (marked scope l.store) rest).state → over_mark without_mark mark now ≡ outcome_here.state
  kept_state mark now e f = ap₂ (λ (k : List (ℕ × ℕ)) (s : Stored). over_mark without_mark k s) e f ∙ state_is_kept

  -- its rest fails
  module _ (bad : (code == 0) ≡ false) where
    dropped_is : extends_failed p l x outcome_here.codes code ≡ continued p l x rest
    dropped_is =
        ap (extends_failed p l x outcome_here.codes) code_is
        ∙ sym (ap (λ b. cond b (extends p l x rest outcome_here) (extends_failed p l x outcome_here.codes (first_code outcome_here.codes))) (sym (ap (λ c. c == 0) code_is) ∙ bad))

    pub dropped_ledger : (records : TxnRecords) (holdings : List Holding) (store : Stored) → records ≡ turned x [] [] (settle_turn Abort x l.records) l.records → holdings ≡ without x l.holdings → store ≡ undone x l.holdings l.store
        → ledger records holdings store l ≡ (continued p l x rest).ledger
    dropped_ledger records holdings store e f g =
        let s = only_started (state_at x l.records.entries) started_so in
        let is = state_is x l.records.entries named in
        ap (λ r. ledger r holdings store l)
        (e ∙ ap (λ (n : Option TxnState). record { entries = noted x [] [] n l.records.entries; floor = l.records.floor }) (ap (λ t. (settling Abort t).new) (sym is) ∙ aborted_new code (state_at x l.records.entries) s bad))
        ∙ ap₂ (λ (hs : List Holding) (t : Stored). ledger (turned x [] [] (adding code (state_at x l.records.entries)) l.records) hs t l) f g
        ∙ ap (λ (d : Did). d.ledger) dropped_is

    pub dropped_done : (y : Answered) → IsAnswered peer m selects (0 ∷ (rest_outcome scope (marked scope l.store) rest).codes) y → IsDone p peer m selects (continued p l x rest) y
    dropped_done y z =
        same_done p peer m selects (extends_failed p l x outcome_here.codes code) (continued p l x rest) y dropped_is
        (answered_done p peer m selects (0 ∷ (rest_outcome scope (marked scope l.store) rest).codes) y z (extends_failed p l x outcome_here.codes code) (sym (ap (λ cs. 0 ∷ cs) codes_are)) refl)

  -- it is accepted
  module _ (good : (code == 0) ≡ true) where
    extended_is : extends p l x rest outcome_here ≡ continued p l x rest
    extended_is = sym (ap (λ b. cond b (extends p l x rest outcome_here) (extends_failed p l x outcome_here.codes (first_code outcome_here.codes))) (sym (ap (λ c. c == 0) code_is) ∙ good))

    same_records : (s : Option TxnState) → s ≡ Some Started → l.records ≡ turned x [] [] (adding 0 s) l.records
    same_records s e = sym (ap (λ t. turned x [] [] (adding 0 t) l.records) e)

    pub extended_ledger : (holdings : List Holding) (store : Stored) → holdings ≡ with_rest x rest l.holdings → store ≡ outcome_here.state → ledger l.records holdings store l ≡ (continued p l x rest).ledger
    extended_ledger holdings store f g =
        ap (λ r. ledger r holdings store l) (same_records (state_at x l.records.entries) (only_started (state_at x l.records.entries) started_so))
        ∙ ap₂ (λ (hs : List Holding) (t : Stored). ledger (turned x [] [] (adding 0 (state_at x l.records.entries)) l.records) hs t l) f g
        ∙ ap (λ (d : Did). d.ledger) extended_is

    pub extended_done : (y : Answered) → IsAnswered peer m selects (0 ∷ (rest_outcome scope (marked scope l.store) rest).codes) y → IsDone p peer m selects (continued p l x rest) y
    extended_done y z =
        same_done p peer m selects (extends p l x rest outcome_here) (continued p l x rest) y extended_is
        (answered_done p peer m selects (0 ∷ (rest_outcome scope (marked scope l.store) rest).codes) y z (extends p l x rest outcome_here) (sym (ap (λ cs. 0 ∷ cs) codes_are)) refl)
