-- The response of an element that goes by its fence, as the protocol of transactions says it: RFC 5810, section 7.6.2. Which codes it shows is
-- this profile's own.
use Rattle.std.specs.Prelude.{◌≡◌, ◌≢◌, ℕ, Bool, true, false, List, [], ◌∷◌, ◌++◌, length, Some, None, is_none, if◌then◌else◌}
use Rattle.std.specs.List.{flat_map}
use Rattle.fc_exec.specs.Operations.{operations}
use Rattle.fc_exec.specs.declared.operations.Operation.{Operation}
use Rattle.fc_exec.specs.declared.operations.Operation.TheVariants as operation
use Rattle.fc_holding.specs.Held.{scope_of, touches}
use Rattle.fc_machine.specs.ElementState.{first_code, response_code}
use Rattle.fc_machine.specs.Transactions.{shown_of}
use Rattle.fc_msg.specs.declared.message.Message.{Message}
use Rattle.fc_path.specs.declared.oper.Select.{Select}
use Rattle.fc_performing.specs.Sending.{responses}
use Rattle.fc_performing.specs.declared.out.Out.{Out}
use Rattle.fc_phases.specs.Asking.{body_of, txn_of}
use Rattle.fc_phases.specs.Shapes.{rest_of}
use Rattle.fc_phases.specs.declared.asked.Asked.{Asked}
use Rattle.fc_phases.specs.declared.asked.Asked.TheVariants.{Claim, Floor, Plain, Start, Change, Commit, Complete as Completing, Abort as Aborting, Malformed}
use Rattle.fc_protocol.specs.ElementMachine.{Circumstance, Heard, hears}
use Rattle.fc_protocol.specs.Messages.{Reply, stamp}
use Rattle.fc_protocol.specs.Scopes.{Scope}
use Rattle.fc_reply.specs.Replies.{reply}
use Rattle.fc_transactions.specs.Order.{Step}
use Rattle.fc_transactions.specs.Phases.{marked, rest_outcome, shape_code}
use Rattle.fc_transactions.specs.State.{TransactionState}
use Rattle.fc_transactions.specs.declared.ledger.Ledger.{Ledger}
use Rattle.fc_abiding.specs.Abiding.{Abides, is_strange, rest_code, seen}

-- a response leaves out the code of a TRCOMP, and no other
abbrev pub is_shown : Operation → Bool
is_shown (operation.Leaf l) = true
is_shown operation.Commit = true
is_shown operation.Trcomp = false

-- the codes of the operations of selects, as far as a response shows them
abbrev pub shown_codes : List Select → List ℕ → List ℕ
shown_codes selects codes = shown_of is_shown (operations selects) codes

-- the first code that is not 0 of those of a rest that are shown
abbrev pub shown_in : List Select → List ℕ → ℕ
shown_in rest codes = first_code (shown_codes rest codes)

abbrev pub rest_told : Ledger → List Select → Asked → ℕ
rest_told l selects (Claim word) = 0
rest_told l selects (Floor f) = 0
rest_told l selects Plain = 0
rest_told l selects (Start o) = shown_in (rest_of selects) (rest_outcome o.instances (marked o.instances l.store) (rest_of selects)).codes
rest_told l selects (Change x) = shown_in (rest_of selects) (rest_outcome (scope_of (txn_of x) l.records.entries) l.store (rest_of selects)).codes
rest_told l selects (Commit x) = 0
rest_told l selects (Completing x) = 0
rest_told l selects (Aborting x) = 0
rest_told l selects Malformed = 0

-- the instances at which leaves of selects lie
abbrev pub touched_by : Select → Scope
touched_by s = if touches s then (s.class, s.instance) ∷ [] else []

abbrev pub touched : List Select → Scope
touched selects = flat_map touched_by selects

-- what the protocol does not say of a Config whose operations have these codes
abbrev pub telling : Ledger → Message → List Select → Asked → List ℕ → Circumstance
telling l m selects a codes = record {
  unheard = false;
  misfit = 0;
  quiet = is_none (reply m selects codes);
  rest = rest_code l selects a;
  shown = rest_told l selects a;
  plain = response_code (shown_codes selects codes);
  touches = touched selects;
  strange = is_strange l a;
  shape = shape_code m.flags.em;
  others = [];
}

-- what the protocol says of it
abbrev pub told : TransactionState → Message → List Select → Asked → List ℕ → Heard
told s m selects a codes = hears s.id (seen s) m.source (telling s.ledger m selects a codes) (stamp m.corr) (body_of (stamp m.corr).count a)

-- what was done is what the protocol says; each operation has one code; and what was sent first is the response with these codes, or that there is none; where it shows a code,
-- the protocol says the first of them that is not 0, or 0
pub record Responds (s : TransactionState) (peer : ℕ) (m : Message) (selects : List Select) (a : Asked) (t : Step) (codes : List ℕ) : Type 0 where
  pub abides : Abides t (told s m selects a codes)
  pub each : length codes ≡ length (operations selects)
  pub notices : List Out
  pub outs : t.outs ≡ responses peer (reply m selects codes) ++ notices
  pub silent : reply m selects codes ≡ None → (told s m selects a codes).says ≡ None
  pub said : (r : Message) → reply m selects codes ≡ Some r → shown_codes selects codes ≢ [] → (told s m selects a codes).says ≡ Some (Reply (stamp m.corr) (response_code (shown_codes selects codes)))
