-- What an element sends for a Config that it does: RFC 5810, sections 7.6 and 7.8.
use Rattle.std.specs.Prelude.{◌≡◌, ℕ, List, [], ◌∷◌, ◌++◌, Some}
use Rattle.std.specs.FinMap.{get}
use Rattle.fc_assoc.specs.Associations.{heard_at}
use Rattle.fc_element.specs.ElementMachine.{ce_of, id_of, step}
use Rattle.fc_element.specs.ElementState.{ElementState}
use Rattle.fc_element.specs.Runs.{taken_at}
use Rattle.fc_element.specs.declared.input.ElIn.TheVariants.{Arrived}
use Rattle.fc_events.specs.declared.subscriptions.Notice.{Notice}
use Rattle.fc_msg.specs.declared.message.Message.{Message}
use Rattle.fc_path.specs.declared.oper.Select.{Select}
use Rattle.fc_performing.specs.Notices.{notice_outs, route}
use Rattle.fc_performing.specs.Sending.{responses}
use Rattle.fc_reply.specs.Replies.{reply}
use Rattle.fc_transactions.specs.Phases.{Did}

-- the element takes the Config that comes over this peer
abbrev pub Takes : ElementState → ℕ → Message → List Select → Type 0
Takes s peer m selects = taken_at s (Arrived peer m) ≡ (record { peer = peer; message = m; selects = selects }) ∷ []

-- the control element that may configure the element has an association over this peer
abbrev pub IsOver : ℕ → ElementState → Type 0
IsOver peer s = (now : ℕ) × (get s.associations (ce_of s) ≡ Some (heard_at now peer))

-- The response goes out, and behind it a notice for each report, in their order, to the control element that may configure the element, over
-- the peer of its association; where there are any, the Config was of that control element.
pub record TellsReports (s : ElementState) (peer : ℕ) (m : Message) (selects : List Select) (d : Did) : Type 0 where
  pub outs : let t = (step s (Arrived peer m)).state in (step s (Arrived peer m)).outs ≡ responses peer (reply m selects d.codes) ++ notice_outs d.ledger.store.library (route (id_of s) (ce_of t) peer) d.notices
  pub source : (n : Notice) (ns : List Notice) → d.notices ≡ n ∷ ns → m.source ≡ ce_of (step s (Arrived peer m)).state
  pub over : (n : Notice) (ns : List Notice) → d.notices ≡ n ∷ ns → IsOver peer (step s (Arrived peer m)).state
