-- The questions of a master are answered by one message.
use Rattle.std.proofs.Common.{◌≡◌, ℕ, ◌==◌, true, List, [], ◌∷◌, Option, None, refl, ap, ap₂, ◌∙◌, arith}
use Rattle.fc_asks.specs.Requests.{request_of}
use Rattle.fc_asks.specs.declared.life.Life.{Life}
use Rattle.fc_base.specs.Ids.{Txn}
use Rattle.fc_element.specs.ElementMachine.{answer_with, id_of, step}
use Rattle.fc_element.specs.ElementState.{ElementState}
use Rattle.fc_element.specs.declared.input.ElIn.TheVariants.{Arrived}
use Rattle.fc_msg.specs.declared.message.Message.{Message}
use Rattle.fc_msg.specs.declared.message.MsgBody.TheVariants.{Query, QueryResponse}
use Rattle.fc_ops.specs.Choosing.{small}
use Rattle.fc_path.specs.Canon.{joined, key_written, select_written}
use Rattle.fc_path.specs.Results.{path_results, results_fit}
use Rattle.fc_path.specs.declared.oper.Oper.TheVariants as oper
use Rattle.fc_path.specs.declared.oper.OperKind.TheVariants as kinds
use Rattle.fc_path.specs.declared.oper.Select.{Select}
use Rattle.fc_path.specs.declared.path.Body.TheVariants as body
use Rattle.fc_path.specs.declared.path.Key.{Key}
use Rattle.fc_path.specs.declared.path.PathData.{PathData}
use Rattle.fc_performing.specs.Sending.{out}
use Rattle.fc_plans.specs.Components as components
use Rattle.fc_plans.specs.Mastership.{on_mastership, path, subject_bytes}
use Rattle.fc_protocol.specs.Messages.{Ask, Ask_record, stamp}
use Rattle.fc_reply.proofs.Filled.{nothing_result, path_results_is}
use Rattle.fc_querying.specs.Asking.{AnswersHeld, AnswersRecords, IsAskable, IsAssociated, answer_to, gets, held_query, record_query}
use Rattle.fc_querying.proofs.Answered.{held_answered, record_answered, record_key}
use Rattle.fc_querying.proofs.Filling.{asks}
use Rattle.fc_querying.proofs.Sizes.{Few, key_few, no_key_few, refused_few, response_small}

-- ---- with results alone the answer passes no length field

blank_path : (ids : List ℕ) (key : Option Key) → path_results (path ids key body.Nothing) ≡ path ids key (body.Outcome 0)
blank_path ids key = path_results_is (path ids key body.Nothing) ∙ ap (path ids key) nothing_result

fits_blank : (id : ℕ) (key : Option Key) → Few 33 (key_written key) → results_fit (gets (asks id key)) ≡ true
fits_blank id key h =
    let zero = refused_few 0 in
    ap₂ (λ (p q : PathData). small (joined (select_written (on_mastership (oper.Paths kinds.GetResponse (p ∷ q ∷ []) ∷ [])) ∷ [])) 262116)
    (blank_path (components.epoch ∷ []) None) (blank_path (id ∷ []) key)
    ∙ response_small id key (body.Outcome 0) (body.Outcome 0) h (zero.0, omega (arith, zero.1)) (zero.0, omega (arith, zero.1))

-- ---- it is sent

itself : (n : ℕ) → (n == n) ≡ true
itself n = grind arith

-- a Query of an associated control element to the element itself
pub record IsOwn (s : ElementState) (ce : ℕ) (m : Message) (selects : List Select) : Type 0 where
  pub source : m.source ≡ ce
  pub dest : m.dest ≡ id_of s
  pub body : m.body ≡ Query selects

-- the element answers it at once with the answer to these selects, and of what Configs change nothing is changed
abbrev pub AnswersAtOnce : ElementState → ℕ → Message → List Select → Type 0
AnswersAtOnce s peer m selects =
    ((step s (Arrived peer m)).outs ≡ out peer (answer_with m (QueryResponse (answer_to s.transactions selects))) ∷ []) × ((step s (Arrived peer m)).state.transactions ≡ s.transactions)

sent : (s : ElementState) (peer : ℕ) (m : Message) (selects : List Select) (ce : ℕ) → IsAssociated s ce → IsOwn s ce m selects → results_fit selects ≡ true → AnswersAtOnce s peer m selects
unfolding step
sent s peer m selects ce a own fits =
    let own_id : (m.dest == id_of s) ≡ true = ap (λ (n : ℕ). n == id_of s) own.dest ∙ itself (id_of s) in
    (rw (own.body, own.source, a.control, a.associated, fits, own_id) refl, rw (own.body, own.source, a.control, a.associated) refl)

pub held_at_once : (s : ElementState) (peer corr : ℕ) (life : Life) → IsAssociated s life.ce → AnswersAtOnce s peer (request_of life (id_of s) corr Ask) held_query
held_at_once s peer corr life a =
    sent s peer (request_of life (id_of s) corr Ask) held_query life.ce a (record { source = refl; dest = refl; body = refl }) (fits_blank components.held None (no_key_few.0, omega (arith, no_key_few.1)))

pub record_at_once : (s : ElementState) (peer corr : ℕ) (life : Life) (x : Txn) → IsAssociated s life.ce → AnswersAtOnce s peer (request_of life (id_of s) corr (Ask_record x)) (record_query x)
record_at_once s peer corr life x a =
    sent s peer (request_of life (id_of s) corr (Ask_record x)) (record_query x) life.ce a (record { source = refl; dest = refl; body = refl }) (fits_blank components.transactions (record_key x) (key_few (subject_bytes x) refl))

pub held_sent : (s : ElementState) → IsAskable s.transactions → AnswersHeld s
held_sent s is peer corr life a =
    let t = held_at_once s peer corr life a in record {
      selects = answer_to s.transactions held_query;
      outs = t.0;
      stays = t.1;
      read = held_answered s.transactions (stamp corr) is;
      said = refl;
    }

pub record_sent : (s : ElementState) → IsAskable s.transactions → AnswersRecords s
record_sent s is peer corr life x a named =
    let t = record_at_once s peer corr life x a in record {
      selects = answer_to s.transactions (record_query x);
      outs = t.0;
      stays = t.1;
      read = record_answered s.transactions x (stamp corr) is named;
      said = refl;
    }
