-- What an element sends over a whole list of inputs, and why.
use Rattle.std.proofs.Common.{◌≡◌, ◌↔◌, Option, Some, None, inl, inr, ℕ, ◌-◌, ◌==◌, ◌&&◌, not, nat_lt, cond, Bool, true, false, is_some, List, [], ◌∷◌, ◌++◌, append_assoc, map, refl, sym, ap, ap₂, ◌∙◌, subst, arith, eqb-true}
use Rattle.std.proofs.lemmas.Bool.Decides.{nat_tests}
use Rattle.std.specs.Cmp.{nat_cmp_total}
use Rattle.std.specs.FinMap.{contains_key, entries, get, get-remove, len, remove}
use Rattle.std.specs.Ordering.{nat_cmp, eq_by_cmp}
use Rattle.fc_events.specs.Telling.{notice_select}
use Rattle.std.specs.List.{AllByRecursion}
use Rattle.fc_assoc.specs.Associations.{AssociationMap}
use Rattle.fc_assoc.specs.declared.heard.Heard.{Heard}
use Rattle.fc_msg.specs.declared.message.Message.{Message}
use Rattle.fc_msg.specs.declared.message.MsgBody.{MsgBody}
use Rattle.fc_msg.specs.declared.message.MsgBody.TheVariants.{Setup, SetupResponse, Teardown, Config, ConfigResponse, Query, QueryResponse, Event, Heartbeat}
use Rattle.fc_element.specs.declared.input.ElIn.{ElIn}
use Rattle.fc_element.specs.declared.input.ElIn.TheVariants.{Opened, Arrived, Closed, Moment}
use Rattle.fc_element.specs.ElementState.{ElementState, opened}
use Rattle.fc_path.specs.Results.{results_fit}
use Rattle.fc_performing.specs.Notices.{route}
use Rattle.fc_performing.specs.Sending.{out}
use Rattle.fc_performing.specs.declared.out.Out.{Out}
use Rattle.fc_path.specs.declared.oper.Select.{Select}
use Rattle.fc_reply.specs.Replies.{reply, response}
use Rattle.fc_reply.proofs.Fitting.{sent_is}
use Rattle.fc_reply.specs.Answered.{answered_selects}
use Rattle.fc_types.specs.declared.class.Class.{Class}
use Rattle.fc_element.specs.ElementMachine.{turn, step, answer_to, heartbeat_of, is_ce, is_own, is_associated, on_body, on_message, on_moment, by_order, ce_of, down_outs, has_lost, hearing, id_of, ledger_of, settled_in, query_answer, query_selects, watched, moved_on, is_due, beating, beaten, beats_of}
use Rattle.fc_element.specs.Runs.{after, sent, IsAssociated, Asks, Beats, IsCalledFor, WasCalledFor}
use Rattle.fc_blocks.specs.Settings.{fe_policy, fe_interval}
use Rattle.fc_element.proofs.Configs.{config_all}
use Rattle.fc_element.proofs.Configuring.{IsResponse}
use Rattle.fc_element.proofs.Runs.{both, kept_responds, named, same_key}
use Rattle.fc_element.proofs.Telling.{all_append, downs_all, notices_all}

pub sent_each : (s : ElementState) (before behind : List ElIn) (i : ElIn)
    → sent s (before ++ i ∷ behind) ≡ sent s before ++ ((step (after s before) i).outs ++ sent (step (after s before) i).state behind)
sent_each s [] behind i = refl
sent_each s (j ∷ before) behind i =
    ap (λ (xs : List Out). (step s j).outs ++ xs) (sent_each (step s j).state before behind i)
    ∙ sym (append_assoc (step s j).outs (sent (step s j).state before) ((step (after (step s j).state before) i).outs ++ sent (step (after (step s j).state before) i).state behind))

-- the one answer is sent where the test holds
answer_where : (b : Bool) (o p : Out) → cond b (o ∷ []) [] ≡ p ∷ [] → b ≡ true
answer_where true o p e = refl
answer_where false o p e = absurd (cc)

nothing_is : {P : Type 0} (o : Out) → ◌≡◌ {A = List Out} [] (o ∷ []) → P
nothing_is o e = absurd (cc)

quiet : {P : Type 0} (b : Bool) (s t : ElementState) (o : Out) → (cond b (turn s []) (turn t [])).outs ≡ o ∷ [] → P
quiet true s t o e = nothing_is o e
quiet false s t o e = nothing_is o e

one_out : (a b : Out) → ◌≡◌ {A = List Out} (a ∷ []) (b ∷ []) → a ≡ b
one_out a b e = cc

no_response : (selects : List Select) → QueryResponse selects ≡ Heartbeat → ⊥
no_response selects e = cc

-- an answer to a query or to a Config is no heartbeat
not_query : {P : Type 0} (s : ElementState) (peer : ℕ) (m : Message) (selects : List Select) (a b : Bool)
    → (cond a (turn (hearing s peer m) (cond b (out peer (query_answer s m selects) ∷ []) [])) (turn s [])).outs ≡ out peer (answer_to m) ∷ [] → P
not_query s peer m selects true true e =
    absurd (no_response (query_selects s m selects) (ap (λ (o : Out). o.message.body) (one_out (out peer (query_answer s m selects)) (out peer (answer_to m)) e)))
not_query s peer m selects true false e = nothing_is (out peer (answer_to m)) e
not_query s peer m selects false b e = nothing_is (out peer (answer_to m)) e

-- nor is a response to a Config, or a notice
abbrev IsNoBeat : Out → Type 0
IsNoBeat o = o.message.body ≡ Heartbeat → ⊥

no_event : (selects : List Select) → Event selects ≡ Heartbeat → ⊥
no_event selects e = cc

no_config_response : (selects : List Select) → ConfigResponse selects ≡ Heartbeat → ⊥
no_config_response selects e = cc

no_reply : (peer : ℕ) (m : Message) (selects : List Select) (codes : List ℕ) (r : Message) → reply m selects codes ≡ Some r → IsNoBeat (out peer r)
no_reply peer m selects codes r e f =
    let is : r ≡ response m (answered_selects selects codes) = sent_is m r codes (answered_selects selects codes) e in
    no_config_response (answered_selects selects codes) (ap (λ (x : Message). x.body) (sym is) ∙ f)

kept_no_beat : (o : Option Message) (r : Message) (peer : ℕ) → IsResponse o → o ≡ Some r → IsNoBeat (out peer r)
kept_no_beat o r peer k e f = let is : IsResponse (Some r) = subst IsResponse e k in no_config_response is.0 (sym is.1 ∙ f)

config_no_beat : (s : ElementState) → IsResponse s.transactions.kept → (peer : ℕ) (m : Message) (selects : List Select) (a : Bool) → is_associated s m ≡ a
    → AllByRecursion IsNoBeat (cond a (by_order s peer m selects) (turn s [])).outs
config_no_beat s k peer m selects a known =
    config_all IsNoBeat s peer m selects (λ codes r known fits e. no_reply peer m selects codes r e) (λ r known own e. kept_no_beat s.transactions.kept r peer k e)
    (λ d known own e. notices_all IsNoBeat d.ledger.store.library (route (id_of s) m.source peer) d.notices (λ n front back f fits. no_event (notice_select d.ledger.store.library n ∷ [])))
    a known

downs_no_beat : (s : ElementState) (remaining : AssociationMap) → AllByRecursion IsNoBeat (down_outs s remaining)
downs_no_beat s remaining = downs_all IsNoBeat s remaining (λ ce h n front back e lost k fits. no_event (notice_select (ledger_of s).store.library n ∷ []))

no_answer : {P : Type 0} (outs : List Out) (peer : ℕ) (m : Message) → AllByRecursion IsNoBeat outs → outs ≡ out peer (answer_to m) ∷ [] → P
no_answer outs peer m all e = absurd ((subst (AllByRecursion IsNoBeat) e all).0 refl)

asked_by : (s : ElementState) → IsResponse s.transactions.kept → (peer : ℕ) (m : Message) (body : MsgBody) → m.body ≡ body → (on_body s peer m body).outs ≡ out peer (answer_to m) ∷ [] → IsAssociated s m.source × Asks m
asked_by s k peer m (Setup selects) e f = nothing_is (out peer (answer_to m)) f
asked_by s k peer m (SetupResponse result) e f = quiet (is_own s m && result == 0) _ _ (out peer (answer_to m)) f
asked_by s k peer m (Teardown reason) e f = no_answer (down_outs s (remove s.associations m.source)) peer m (downs_no_beat s (remove s.associations m.source)) f
asked_by s k peer m (Config selects) e f = no_answer (cond (is_associated s m) (by_order s peer m selects) (turn s [])).outs peer m (config_no_beat s k peer m selects (is_associated s m) refl) f
asked_by s k peer m (ConfigResponse selects) e f = nothing_is (out peer (answer_to m)) f
asked_by s k peer m (Query selects) e f = not_query s peer m selects (is_associated s m) (results_fit selects) f
asked_by s k peer m (QueryResponse selects) e f = nothing_is (out peer (answer_to m)) f
asked_by s k peer m (Event selects) e f = nothing_is (out peer (answer_to m)) f
asked_by s k peer m Heartbeat e f =
    let p : (contains_key s.associations m.source ≡ true) × ((m.flags.ack == 3) ≡ true) =
    both _ _ (answer_where (contains_key s.associations m.source && m.flags.ack == 3) (out peer (answer_to m)) (out peer (answer_to m)) f) in
    (p.0, (e, eqb-true m.flags.ack 3 p.1))

asked_in : (s : ElementState) → IsResponse s.transactions.kept → (peer : ℕ) (m : Message) (b : Bool) → (cond b (on_body s peer m m.body) (turn s [])).outs ≡ out peer (answer_to m) ∷ [] → IsAssociated s m.source × Asks m
asked_in s k peer m true e = asked_by s k peer m m.body refl e
asked_in s k peer m false e = nothing_is (out peer (answer_to m)) e

is_answered : (s : ElementState) (peer : ℕ) (m : Message) → is_ce m.source ≡ true → IsAssociated s m.source → Asks m → (on_message s peer m).outs ≡ out peer (answer_to m) ∷ []
is_answered s peer m ce known asks =
    ap (λ (b : Bool). (cond b (on_body s peer m m.body) (turn s [])).outs) ce
    ∙ ap (λ (body : MsgBody). (on_body s peer m body).outs) asks.0
    ∙ ap (λ (b : Bool). cond b (out peer (answer_to m) ∷ []) []) (ap₂ (λ (a b : Bool). a && b) known (three m.flags.ack asks.1))
  where
    three : (n : ℕ) → n ≡ 3 → (n == 3) ≡ true
    three n e = grind (arith, nat_tests)

pub answered : (id ce peer : ℕ) (library : List Class) (instances : List (ℕ × ℕ)) (is : List ElIn) (m : Message)
    → ((step (after (opened id ce library instances) is) (Arrived peer m)).outs ≡ out peer (answer_to m) ∷ []) ↔ (IsAssociated (after (opened id ce library instances) is) m.source × Asks m)
unfolding step
answered id ce peer library instances is m = (
  λ e. asked_in (after (opened id ce library instances) is) (kept_responds id ce library instances is) peer m (is_ce m.source) e,
  λ p. is_answered (after (opened id ce library instances) is) peer m (named id ce m.source library instances is p.0) p.0 p.1,
)

-- what is sent at one input
all_weaker : {X : Type 0} (P Q : X → Type 0) → ((x : X) → P x → Q x) → (xs : List X) → AllByRecursion P xs → AllByRecursion Q xs
all_weaker P Q weaker [] a = tt
all_weaker P Q weaker (x ∷ xs) a = (weaker x a.0, all_weaker P Q weaker xs a.1)

none_or : (P : Out → Type 0) (b : Bool) (o : Out) → (b ≡ true → P o) → AllByRecursion P (cond b (o ∷ []) [])
none_or P true o h = (h refl, tt)
none_or P false o h = tt

quiet_all : (P : Out → Type 0) (b : Bool) (s t : ElementState) → AllByRecursion P (cond b (turn s []) (turn t [])).outs
quiet_all P true s t = tt
quiet_all P false s t = tt

config_called : (s : ElementState) (peer : ℕ) (m : Message) (selects : List Select) → m.body ≡ Config selects → (a : Bool) → is_associated s m ≡ a
    → AllByRecursion (IsCalledFor s (Arrived peer m)) (cond a (by_order s peer m selects) (turn s [])).outs
config_called s peer m selects body a known =
    config_all (IsCalledFor s (Arrived peer m)) s peer m selects (λ codes r known fits e. (known, inr (inr (inl (selects, codes, body, e, refl)))))
    (λ r known own e. (known, inr (inr (inr (inl (selects, r, body, own, e, refl))))))
    (λ d known own e. notices_all (IsCalledFor s (Arrived peer m)) d.ledger.store.library (route (id_of s) m.source peer) d.notices
    (λ n front back f fits. (known, inr (inr (inr (inr (inl (selects, d, n, front, back, body, own, e, f, refl))))))))
    a known

-- the control element that may configure the element has an association, and without that of the sender it has none: it is the sender
lost_is : (s : ElementState) (m : Message) → has_lost s (remove s.associations m.source) ≡ true → IsAssociated s m.source
lost_is s m lost =
    let p = both _ _ lost in
    let q = both _ _ p.1 in
    by_key (eq_by_cmp nat_cmp (ce_of s) m.source) refl q.0 (subst (λ (o : Option Heard). not (is_some o) ≡ true) (get-remove nat_cmp_total s.associations m.source (ce_of s)) q.1)
  where
    not_both : (b : Bool) → b ≡ true → not b ≡ true → ⊥
    not_both true e f = cc
    not_both false e f = cc

    by_key : (b : Bool) → eq_by_cmp nat_cmp (ce_of s) m.source ≡ b → contains_key s.associations (ce_of s) ≡ true → not (is_some (cond b None (get s.associations (ce_of s)))) ≡ true
        → IsAssociated s m.source
    by_key true e there gone = subst (λ (ce : ℕ). contains_key s.associations ce ≡ true) (same_key (ce_of s) m.source e) there
    by_key false e there gone = absurd (not_both (is_some (get s.associations (ce_of s))) there gone)

teardown_called : (s : ElementState) (peer : ℕ) (m : Message) (reason : ℕ) → m.body ≡ Teardown reason → AllByRecursion (IsCalledFor s (Arrived peer m)) (down_outs s (remove s.associations m.source))
teardown_called s peer m reason body =
    downs_all (IsCalledFor s (Arrived peer m)) s (remove s.associations m.source)
    (λ ce h n front back e lost k fits. (lost_is s m lost, inr (inr (inr (inr (inr (reason, body, (ce, h, n, front, back, e, lost, k, refl))))))))

query_called : (s : ElementState) (peer : ℕ) (m : Message) (selects : List Select) → m.body ≡ Query selects → (a b : Bool) → is_associated s m ≡ a
    → AllByRecursion (IsCalledFor s (Arrived peer m)) (cond a (turn (hearing s peer m) (cond b (out peer (query_answer s m selects) ∷ []) [])) (turn s [])).outs
query_called s peer m selects body true true known = ((known, inr (inl (selects, body, refl))), tt)
query_called s peer m selects body true false known = tt
query_called s peer m selects body false b known = tt

body_called : (s : ElementState) (peer : ℕ) (m : Message) (body : MsgBody) → m.body ≡ body → AllByRecursion (IsCalledFor s (Arrived peer m)) (on_body s peer m body).outs
body_called s peer m (Setup selects) e = tt
body_called s peer m (SetupResponse result) e = quiet_all (IsCalledFor s (Arrived peer m)) (is_own s m && result == 0) _ _
body_called s peer m (Teardown reason) e = teardown_called s peer m reason e
body_called s peer m (Config selects) e = config_called s peer m selects e (is_associated s m) refl
body_called s peer m (ConfigResponse selects) e = tt
body_called s peer m (Query selects) e = query_called s peer m selects e (is_associated s m) (results_fit selects) refl
body_called s peer m (QueryResponse selects) e = tt
body_called s peer m (Event selects) e = tt
body_called s peer m Heartbeat e = none_or (IsCalledFor s (Arrived peer m)) (contains_key s.associations m.source && m.flags.ack == 3) (out peer (answer_to m)) called
  where
    called : (contains_key s.associations m.source && m.flags.ack == 3) ≡ true → IsCalledFor s (Arrived peer m) (out peer (answer_to m))
    called f =
        let p : (contains_key s.associations m.source ≡ true) × ((m.flags.ack == 3) ≡ true) = both _ _ f in
        (p.0, inl ((e, eqb-true m.flags.ack 3 p.1), refl))

message_called : (s : ElementState) (peer : ℕ) (m : Message) (b : Bool) → AllByRecursion (IsCalledFor s (Arrived peer m)) (cond b (on_body s peer m m.body) (turn s [])).outs
message_called s peer m true = body_called s peer m m.body refl
message_called s peer m false = tt

-- a heartbeat to each of the control elements
abbrev IsBeat : ℕ → List (ℕ × Heard) → Out → Type 0
IsBeat id pairs o = (ce : ℕ) × (h : Heard) × (front : List (ℕ × Heard)) × (back : List (ℕ × Heard)) × (pairs ≡ front ++ (ce, h) ∷ back) × (o ≡ out h.peer (heartbeat_of id ce))

all_beats : (id : ℕ) (front pairs : List (ℕ × Heard)) → AllByRecursion (IsBeat id (front ++ pairs)) (map (λ (pair : ℕ × Heard). out pair.1.peer (heartbeat_of id pair.0)) pairs)
all_beats id front [] = tt
all_beats id front (pair ∷ pairs) = (
  (pair.0, pair.1, front, pairs, refl, refl),
  subst (λ (whole : List (ℕ × Heard)). AllByRecursion (IsBeat id whole) (map (λ (p : ℕ × Heard). out p.1.peer (heartbeat_of id p.0)) pairs))
      (append_assoc front (pair ∷ []) pairs) (all_beats id (front ++ pair ∷ []) pairs),
)

beating_called : (w : ElementState) → AllByRecursion (Beats w w.associations) (beating w).outs
beating_called w = by_due (is_due w) refl
  where
    by_due : (b : Bool) → is_due w ≡ b → AllByRecursion (Beats w w.associations) (cond b (turn (beaten w) (beats_of (id_of w) w.associations)) (turn w [])).outs
    by_due false e = tt
    by_due true e =
        let p : ((fe_policy (settled_in w) == 1) ≡ true) × ((not (nat_lt (w.clock - w.last_beat) (fe_interval (settled_in w))) && not (len w.associations == 0)) ≡ true) = both _ _ e in
        all_weaker (IsBeat (id_of w) (entries w.associations)) (Beats w w.associations)
        (λ o beat. (eqb-true (fe_policy (settled_in w)) 1 p.0, beat.0, beat.1, beat.2, beat.3, beat.4, beat.5))
        (map (λ (pair : ℕ × Heard). out pair.1.peer (heartbeat_of (id_of w) pair.0)) (entries w.associations)) (all_beats (id_of w) [] (entries w.associations))

moment_called : (s : ElementState) (moment : ℕ) → AllByRecursion (IsCalledFor s (Moment moment)) (on_moment (moved_on s moment)).outs
moment_called s moment =
    let w = watched (moved_on s moment) in
    all_append (IsCalledFor s (Moment moment)) (down_outs (moved_on s moment) w.associations) (beating w).outs
    (downs_all (IsCalledFor s (Moment moment)) (moved_on s moment) w.associations (λ ce h n front back e lost k fits. inl (ce, h, n, front, back, e, lost, k, refl)))
    (all_weaker (Beats w w.associations) (IsCalledFor s (Moment moment)) (λ o beat. inr beat) (beating w).outs (beating_called w))

step_called : (s : ElementState) (i : ElIn) → AllByRecursion (IsCalledFor s i) (step s i).outs
unfolding step
step_called s (Opened peer) = (refl, tt)
step_called s (Arrived peer m) = message_called s peer m (is_ce m.source)
step_called s (Closed peer) = tt
step_called s (Moment moment) = moment_called s moment

pub all_called : (s : ElementState) (is : List ElIn) → AllByRecursion (WasCalledFor s is) (sent s is)
all_called s [] = tt
all_called s (i ∷ is) =
    all_append (WasCalledFor s (i ∷ is)) (step s i).outs (sent (step s i).state is)
    (all_weaker (IsCalledFor s i) (WasCalledFor s (i ∷ is)) (λ o called. ([], i, is, refl, called)) (step s i).outs (step_called s i))
    (all_weaker (WasCalledFor (step s i).state is) (WasCalledFor s (i ∷ is))
    (λ o w. (i ∷ w.0, w.1, w.2, ap (λ (xs : List ElIn). i ∷ xs) w.3, w.4)) (sent (step s i).state is) (all_called (step s i).state is))
