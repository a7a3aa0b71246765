-- What Configs may change, over whole lists of inputs, is what the Configs that are taken make of it.
use Rattle.std.proofs.Common.{◌≡◌, ℕ, ◌==◌, ◌&&◌, not, Bool, true, false, cond, List, [], ◌∷◌, ◌++◌, append_assoc, append-nil, refl, sym, ap, ap₂, ◌∙◌}
use Rattle.fc_assoc.specs.Associations.{entered}
use Rattle.fc_exec.specs.declared.operations.Operation.{Operation}
use Rattle.fc_machine.specs.Trace.{Fact}
use Rattle.fc_msg.specs.Messages.{message_fits}
use Rattle.fc_msg.specs.declared.message.Message.{Message}
use Rattle.fc_msg.specs.declared.message.MsgBody.{MsgBody}
use Rattle.fc_msg.specs.declared.message.MsgBody.TheVariants.{Setup, SetupResponse, Teardown, Config, ConfigResponse, Query, QueryResponse, Event, Heartbeat}
use Rattle.fc_path.specs.Results.{results_fit}
use Rattle.fc_path.specs.declared.oper.Select.{Select}
use Rattle.fc_transactions.specs.Order.{configured}
use Rattle.fc_transactions.specs.State.{TransactionState}
use Rattle.fc_element.specs.declared.input.ElIn.{ElIn}
use Rattle.fc_element.specs.declared.input.ElIn.TheVariants.{Opened, Arrived, Closed, Moment}
use Rattle.fc_element.specs.ElementMachine.{Turn, turn, all_get, beaten, beats_of, hearing, hearing_if, id_of, is_associated, is_ce, is_due, is_own, moved_on, on_body, on_moment, query_outs, step, taking, watched, with_associations}
use Rattle.fc_element.specs.ElementState.{ElementState}
use Rattle.fc_element.specs.Runs.{Ledgered, Taken, after, facts, ledgered, taken, taken_at, taken_body, taken_if}

-- what a turn leaves of what Configs may change, and its facts, are what these Configs make
abbrev IsLedgered : TransactionState → List Taken → Turn → Type 0
IsLedgered t cs u = (u.state.transactions ≡ (ledgered t cs).state) × (u.facts ≡ (ledgered t cs).facts)

heard_keeps : (b : Bool) (s : ElementState) (peer : ℕ) (m : Message) → (hearing_if b s peer m).transactions ≡ s.transactions
heard_keeps true s peer m = refl
heard_keeps false s peer m = refl

module _ (s : ElementState) (peer : ℕ) (m : Message) where
  config_ledgered : (selects : List Select) (a b c d : Bool)
      → IsLedgered s.transactions (taken_if (a && (b && (c && not d))) (record { peer = peer; message = m; selects = selects }))
      (cond a (cond (not b) (turn s []) (cond (not c) (all_get s peer m selects 4) (cond d (all_get s peer m selects 18) (taking s peer m (configured s.transactions peer m selects))))) (turn s []))
  config_ledgered selects false b c d = (refl, refl)
  config_ledgered selects true false c d = (refl, refl)
  config_ledgered selects true true false d = (refl, refl)
  config_ledgered selects true true true true = (refl, refl)
  config_ledgered selects true true true false = (heard_keeps (configured s.transactions peer m selects).is_heard _ peer m, refl)

  query_ledgered : (selects : List Select) (b : Bool) → IsLedgered s.transactions [] (cond b (turn (hearing s peer m) (query_outs s peer m selects)) (turn s []))
  query_ledgered selects true = (refl, refl)
  query_ledgered selects false = (refl, refl)

  response_ledgered : (b : Bool) → IsLedgered s.transactions [] (cond b (turn (with_associations s (entered s.associations m.source peer s.clock)) []) (turn s []))
  response_ledgered true = (refl, refl)
  response_ledgered false = (refl, refl)

  body_ledgered : (body : MsgBody) → IsLedgered s.transactions (taken_body s peer m body) (on_body s peer m body)
  body_ledgered (Setup selects) = (refl, refl)
  body_ledgered (SetupResponse result) = response_ledgered (is_own s m && result == 0)
  body_ledgered (Teardown reason) = (refl, refl)
  body_ledgered (Config selects) = config_ledgered selects (is_associated s m) (results_fit selects && message_fits m) (is_own s m) (m.flags.em == 0)
  body_ledgered (ConfigResponse selects) = (refl, refl)
  body_ledgered (Query selects) = query_ledgered selects (is_associated s m)
  body_ledgered (QueryResponse selects) = (refl, refl)
  body_ledgered (Event selects) = (refl, refl)
  body_ledgered Heartbeat = (refl, refl)

  message_ledgered : (b : Bool) → IsLedgered s.transactions (cond b (taken_body s peer m m.body) []) (cond b (on_body s peer m m.body) (turn s []))
  message_ledgered true = body_ledgered m.body
  message_ledgered false = (refl, refl)

beating_ledgered : (w : ElementState) (b : Bool) → IsLedgered w.transactions [] (cond b (turn (beaten w) (beats_of (id_of w) w.associations)) (turn w []))
beating_ledgered w true = (refl, refl)
beating_ledgered w false = (refl, refl)

moment_ledgered : (s : ElementState) (moment : ℕ) → IsLedgered s.transactions [] (on_moment (moved_on s moment))
moment_ledgered s moment = let w = watched (moved_on s moment) in beating_ledgered w (is_due w)

step_ledgered : (s : ElementState) (i : ElIn) → IsLedgered s.transactions (taken_at s i) (step s i)
unfolding step
step_ledgered s (Opened peer) = (refl, refl)
step_ledgered s (Arrived peer m) = message_ledgered s peer m (is_ce m.source)
step_ledgered s (Closed peer) = (refl, refl)
step_ledgered s (Moment moment) = moment_ledgered s moment

-- ---- one list of Configs behind another
state_two : (t : TransactionState) (xs ys : List Taken) → (ledgered t (xs ++ ys)).state ≡ (ledgered (ledgered t xs).state ys).state
state_two t [] ys = refl
state_two t (c ∷ cs) ys = state_two (configured t c.peer c.message c.selects).state cs ys

facts_two : (t : TransactionState) (xs ys : List Taken) → (ledgered t (xs ++ ys)).facts ≡ (ledgered (ledgered t xs).state ys).facts ++ (ledgered t xs).facts
facts_two t [] ys = sym (append-nil (ledgered t ys).facts)
facts_two t (c ∷ cs) ys =
    let u = configured t c.peer c.message c.selects in
    ap (λ (fs : List (Fact Operation)). fs ++ u.facts) (facts_two u.state cs ys) ∙ append_assoc (ledgered (ledgered u.state cs).state ys).facts (ledgered u.state cs).facts u.facts

-- ---- all inputs
pub after_ledgered : (s : ElementState) (is : List ElIn) → (after s is).transactions ≡ (ledgered s.transactions (taken s is)).state
after_ledgered s [] = refl
after_ledgered s (i ∷ is) =
    after_ledgered (step s i).state is ∙ ap (λ (t : TransactionState). (ledgered t (taken (step s i).state is)).state) (step_ledgered s i).0
    ∙ sym (state_two s.transactions (taken_at s i) (taken (step s i).state is))

pub facts_ledgered : (s : ElementState) (is : List ElIn) → facts s is ≡ (ledgered s.transactions (taken s is)).facts
facts_ledgered s [] = refl
facts_ledgered s (i ∷ is) =
    ap₂ (λ (fs gs : List (Fact Operation)). fs ++ gs)
    (facts_ledgered (step s i).state is ∙ ap (λ (t : TransactionState). (ledgered t (taken (step s i).state is)).facts) (step_ledgered s i).0) (step_ledgered s i).1
    ∙ sym (facts_two s.transactions (taken_at s i) (taken (step s i).state is))
