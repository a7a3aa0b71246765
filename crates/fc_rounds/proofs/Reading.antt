-- What an element reads in a message of a round.
use Rattle.std.proofs.Common.{◌≡◌, ℕ, ◌==◌, not, Bool, true, false, List, None, if◌then◌else◌, refl, ap}
use Rattle.fc_abiding.specs.Abiding.{is_strange, rest_code}
use Rattle.fc_base.specs.Ids.{Txn}
use Rattle.fc_exec.specs.Operations.{operations}
use Rattle.fc_exec.specs.declared.operations.Operation.{Operation}
use Rattle.fc_folding.proofs.Going.{body_at, ops_for}
use Rattle.fc_holding.specs.Held.{has_all, scope_of}
use Rattle.fc_machine.specs.ElementState.{first_code}
use Rattle.fc_msg.specs.declared.message.Message.{Message}
use Rattle.fc_path.specs.declared.oper.Select.{Select}
use Rattle.fc_phases.specs.Asking.{body_of, txn_of}
use Rattle.fc_phases.specs.Shapes.{rest_of}
use Rattle.fc_phases.specs.declared.asked.Asked.{Asked}
use Rattle.fc_phases.specs.declared.asked.Asked.TheVariants.{Claim, Floor, Plain, Start, Change, Commit, Complete as Completing, Abort as Aborting, Malformed}
use Rattle.fc_protocol.specs.Messages as said
use Rattle.fc_protocol.specs.Messages.{Body}
use Rattle.fc_protocol.specs.Scopes.{Scope}
use Rattle.fc_protocol.specs.declared.answers.TxnEntry.{TxnEntry}
use Rattle.fc_protocol.specs.declared.verdict.Verdict.TheVariants.{Next}
use Rattle.fc_transactions.specs.Order.{claim_in}
use Rattle.fc_transactions.specs.Phases.{marked, rest_outcome}
use Rattle.fc_transactions.specs.declared.ledger.Ledger.{Ledger}

-- what it asks is this, with these operations, and is no claim
pub record Reads (m : Message) (selects : List Select) (a : Asked) (b : Body) (ops : List Operation) : Type 0 where
  pub claim : claim_in a ≡ None
  pub body : (ms : List TxnEntry) (own : Bool) → body_at ms m selects a own Next ≡ b
  pub ops_are : ops_for selects a Next ≡ ops

no_claim : (b : Bool) (w : ℕ) (x : Txn) (ps : List ℕ) (sc : Scope) → (if b then said.Claim w else said.Plain) ≡ said.Sot x ps sc → ⊥
no_claim true w x ps sc e = cc
no_claim false w x ps sc e = cc

no_change : (b : Bool) (w : ℕ) (x : Txn) (i : ℕ) → (if b then said.Claim w else said.Plain) ≡ said.Mot x i → ⊥
no_change true w x i e = cc
no_change false w x i e = cc

no_end : (b : Bool) (w : ℕ) (x : Txn) → (if b then said.Claim w else said.Plain) ≡ said.Eot x → ⊥
no_end true w x e = cc
no_end false w x e = cc

no_completion : (b : Bool) (w : ℕ) (x : Txn) → (if b then said.Claim w else said.Plain) ≡ said.Trcomp x → ⊥
no_completion true w x e = cc
no_completion false w x e = cc

module _ (m : Message) (selects : List Select) (count : ℕ) (x : Txn) where
  -- ---- a start
  pub record IsStart (a : Asked) (ps : List ℕ) (sc : Scope) : Type 0 where
    pub reads : Reads m selects a (said.Sot x ps sc) (operations (rest_of selects))
    pub strange : (l : Ledger) → is_strange l a ≡ not (has_all l.store.instances sc)
    pub rest : (l : Ledger) → rest_code l selects a ≡ first_code (rest_outcome sc (marked sc l.store) (rest_of selects)).codes

  pub start_read : (a : Asked) (ps : List ℕ) (sc : Scope) → body_of count a ≡ said.Sot x ps sc → IsStart a ps sc
  start_read (Claim w) ps sc e = absurd (no_claim (count == 0) w x ps sc e)
  start_read (Floor f) ps sc e = absurd cc
  start_read Plain ps sc e = absurd cc
  start_read (Start o) ps sc e =
      let same : o.instances ≡ sc = cc in record {
        reads = record { claim = refl; body = λ ms own. e; ops_are = refl };
        strange = λ l. ap (λ (is : Scope). not (has_all l.store.instances is)) same;
        rest = λ l. ap (λ (is : Scope). first_code (rest_outcome is (marked is l.store) (rest_of selects)).codes) same;
      }
  start_read (Change y) ps sc e = absurd cc
  start_read (Commit y) ps sc e = absurd cc
  start_read (Completing y) ps sc e = absurd cc
  start_read (Aborting y) ps sc e = absurd cc
  start_read Malformed ps sc e = absurd cc

  -- ---- a change
  pub record IsChange (a : Asked) : Type 0 where
    pub reads : Reads m selects a (said.Mot x 0) (operations (rest_of selects))
    pub strange : (l : Ledger) → is_strange l a ≡ false
    pub rest : (l : Ledger) → rest_code l selects a ≡ first_code (rest_outcome (scope_of x l.records.entries) l.store (rest_of selects)).codes

  pub change_read : (a : Asked) → body_of count a ≡ said.Mot x 0 → IsChange a
  change_read (Claim w) e = absurd (no_change (count == 0) w x 0 e)
  change_read (Floor f) e = absurd cc
  change_read Plain e = absurd cc
  change_read (Start o) e = absurd cc
  change_read (Change y) e =
      let same : txn_of y ≡ x = cc in record {
        reads = record { claim = refl; body = λ ms own. e; ops_are = refl };
        strange = λ l. refl;
        rest = λ l. ap (λ (z : Txn). first_code (rest_outcome (scope_of z l.records.entries) l.store (rest_of selects)).codes) same;
      }
  change_read (Commit y) e = absurd cc
  change_read (Completing y) e = absurd cc
  change_read (Aborting y) e = absurd cc
  change_read Malformed e = absurd cc

  -- ---- an end, and a completion
  pub record IsBare (a : Asked) (b : Body) : Type 0 where
    pub reads : Reads m selects a b (operations selects)
    pub strange : (l : Ledger) → is_strange l a ≡ false
    pub rest : (l : Ledger) → rest_code l selects a ≡ 0

  pub end_read : (a : Asked) → body_of count a ≡ said.Eot x → IsBare a (said.Eot x)
  end_read (Claim w) e = absurd (no_end (count == 0) w x e)
  end_read (Floor f) e = absurd cc
  end_read Plain e = absurd cc
  end_read (Start o) e = absurd cc
  end_read (Change y) e = absurd cc
  end_read (Commit y) e = record { reads = record { claim = refl; body = λ ms own. e; ops_are = refl }; strange = λ l. refl; rest = λ l. refl }
  end_read (Completing y) e = absurd cc
  end_read (Aborting y) e = absurd cc
  end_read Malformed e = absurd cc

  pub completion_read : (a : Asked) → body_of count a ≡ said.Trcomp x → IsBare a (said.Trcomp x)
  completion_read (Claim w) e = absurd (no_completion (count == 0) w x e)
  completion_read (Floor f) e = absurd cc
  completion_read Plain e = absurd cc
  completion_read (Start o) e = absurd cc
  completion_read (Change y) e = absurd cc
  completion_read (Commit y) e = absurd cc
  completion_read (Completing y) e = record { reads = record { claim = refl; body = λ ms own. e; ops_are = refl }; strange = λ l. refl; rest = λ l. refl }
  completion_read (Aborting y) e = absurd cc
  completion_read Malformed e = absurd cc
