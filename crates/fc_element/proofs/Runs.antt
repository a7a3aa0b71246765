-- What an element is and sends over a whole list of inputs.
use Rattle.std.proofs.Common.{◌≡◌, ℕ, ◌+◌, ◌≤◌, ◌==◌, ◌&&◌, not, nat_lt, max, cond, Bool, true, false, is_some, List, [], ◌∷◌, ◌++◌, append_assoc, append-nil, Option, Some, None, refl, sym, ap, ◌∙◌, subst, arith, eqb-true}
use Rattle.std.proofs.lemmas.Bool.Decides.{nat_tests}
use Rattle.std.specs.Cmp.{nat_cmp_total}
use Rattle.std.specs.FinMap as finmap
use Rattle.std.specs.List.{AllByRecursion}
use Rattle.std.specs.FinMap.{contains_key, get, get-empty, get-insert, get-remove, get-retain_keys}
use Rattle.std.specs.Ordering.{nat_cmp, eq_by_cmp}
use Rattle.std.specs.declared.cmp.Ordering.TheVariants.{Equal}
use Rattle.fc_assoc.specs.Associations.{AssociationMap, entered, renewed, still_heard, takes_in, is_past, is_silent, heard_at}
use Rattle.fc_assoc.specs.declared.heard.Heard.{Heard}
use Rattle.fc_msg.specs.Messages.{message_fits}
use Rattle.fc_msg.specs.declared.message.Message.{Message}
use Rattle.fc_msg.specs.declared.message.MsgBody.{MsgBody}
use Rattle.fc_msg.specs.declared.message.MsgBody.TheVariants.{Setup, SetupResponse, Teardown, Config, ConfigResponse, Query, QueryResponse, Event, Heartbeat}
use Rattle.fc_element.specs.declared.input.ElIn.{ElIn}
use Rattle.fc_element.specs.declared.input.ElIn.TheVariants.{Opened, Arrived, Closed, Moment}
use Rattle.fc_element.specs.ElementState.{ElementState, opened}
use Rattle.fc_path.specs.Results.{results_fit}
use Rattle.fc_path.specs.declared.oper.Select.{Select}
use Rattle.fc_transactions.specs.Order.{configured}
use Rattle.fc_transactions.specs.State.{TransactionState}
use Rattle.fc_types.specs.declared.class.Class.{Class}
use Rattle.fc_element.specs.ElementMachine.{turn, step, is_ce, is_own, is_associated, on_body, by_order, all_get, hearing, hearing_if, id_of, query_outs, settled_in, taking, with_associations, with_transactions, moved_on, watched, is_due, beating, beaten, beats_of}
use Rattle.fc_element.proofs.Configuring.{IsResponse, configured_id, configured_responds}
use Rattle.fc_blocks.specs.Settings.{ce_policy, ce_dead}
use Rattle.fc_element.specs.Runs.{after, IsAssociated, IsNoMoment, WasAccepted, WasHeard, WasLast}

pub both : (a b : Bool) → (a && b) ≡ true → (a ≡ true) × (b ≡ true)
both true b e = (refl, e)
both false b e = absurd (cc)

pub after_more : (s : ElementState) (before : List ElIn) (i : ElIn) → after s (before ++ i ∷ []) ≡ (step (after s before) i).state
after_more s [] i = refl
after_more s (j ∷ before) i = after_more (step s j).state before i

pub same_key : (q k : ℕ) → eq_by_cmp nat_cmp q k ≡ true → q ≡ k
same_key q k e = grind (arith, nat_tests)

same_number : (q k : ℕ) → nat_cmp q k ≡ Equal → q ≡ k
same_number q k e = grind (arith, nat_tests)

kept_heard : (o : Option Heard) (now dead : ℕ) (h : Heard) → cond (not (is_silent o now dead)) o None ≡ Some h → (o ≡ Some h) × (now ≤ h.last + dead)
kept_heard None now dead h e = absurd (cc)
kept_heard (Some g) now dead h e = by_past (is_past g now dead) refl e
  where
    not_past : (a b : ℕ) → nat_lt a b ≡ false → b ≤ a
    not_past a b p = grind arith

    by_past : (b : Bool) → is_past g now dead ≡ b → cond (not b) (Some g) None ≡ Some h → (◌≡◌ {A = Option Heard} (Some g) (Some h)) × (now ≤ h.last + dead)
    by_past true p f = absurd (cc)
    by_past false p f = let same : g ≡ h = cc in (f, subst (λ (k : Heard). now ≤ k.last + dead) same (not_past (g.last + dead) now p))

-- what a moment leaves of the associations
abbrev left : ElementState → ℕ → AssociationMap
left s moment = still_heard s.associations (max s.clock moment) (ce_dead (settled_in s))

heard_still : (s : ElementState) (moment who : ℕ) (h : Heard) → get (left s moment) who ≡ Some h → (get s.associations who ≡ Some h) × (max s.clock moment ≤ h.last + ce_dead (settled_in s))
heard_still s moment who h e =
    kept_heard (get s.associations who) (max s.clock moment) (ce_dead (settled_in s)) h
    (sym (get-retain_keys s.associations (λ ce. not (is_silent (get s.associations ce) (max s.clock moment) (ce_dead (settled_in s)))) who alike) ∙ e)
  where
    alike : (x : ℕ) → nat_cmp who x ≡ Equal
        → not (is_silent (get s.associations x) (max s.clock moment) (ce_dead (settled_in s))) ≡ not (is_silent (get s.associations who) (max s.clock moment) (ce_dead (settled_in s)))
    alike x f = ap (λ ce. not (is_silent (get s.associations ce) (max s.clock moment) (ce_dead (settled_in s)))) (sym (same_number who x f))

-- what is known of an association
record Known (s0 : ElementState) (is : List ElIn) (who : ℕ) (h : Heard) : Type 0 where
  ce : is_ce who ≡ true
  accepted : WasAccepted s0 who is
  heard : WasHeard s0 who h is

-- what holds after any inputs
record Kept (s0 : ElementState) (is : List ElIn) (s : ElementState) : Type 0 where
  id : id_of s ≡ id_of s0
  responds : IsResponse s.transactions.kept
  all : (who : ℕ) (h : Heard) → get s.associations who ≡ Some h → Known s0 is who h

module _ (s0 : ElementState) (is : List ElIn) (i : ElIn) where
  more_accepted : (who : ℕ) → WasAccepted s0 who is → WasAccepted s0 who (is ++ i ∷ [])
  more_accepted who w = (w.0, w.1, w.2, w.3 ++ i ∷ [], ap (λ (xs : List ElIn). xs ++ i ∷ []) w.4 ∙ append_assoc w.0 (Arrived w.1 w.2 ∷ w.3) (i ∷ []), w.5)

  more_heard : (who : ℕ) (h : Heard) → WasHeard s0 who h is → WasHeard s0 who h (is ++ i ∷ [])
  more_heard who h w = (w.0, w.1, w.2 ++ i ∷ [], ap (λ (xs : List ElIn). xs ++ i ∷ []) w.3 ∙ append_assoc w.0 (Arrived h.peer w.1 ∷ w.2) (i ∷ []), w.4, w.5)

  module _ (s : ElementState) (same : after s0 is ≡ s) (kept : Kept s0 is s) where
    more_known : (who : ℕ) (h : Heard) → Known s0 is who h → Known s0 (is ++ i ∷ []) who h
    more_known who h k = record { ce = k.ce; accepted = more_accepted who k.accepted; heard = more_heard who h k.heard }

    -- nothing has changed
    stays : Kept s0 (is ++ i ∷ []) s
    stays = record { id = kept.id; responds = kept.responds; all = λ who h e. more_known who h (kept.all who h e) }

    -- an association was entered or renewed, of a control element that has accepted one
    module _ (peer : ℕ) (m : Message) (come : i ≡ Arrived peer m) (ce : is_ce m.source ≡ true) (accepted : WasAccepted s0 m.source (is ++ i ∷ [])) where
      known_now : Known s0 (is ++ i ∷ []) m.source (heard_at s.clock peer)
      known_now = record {
        ce = ce;
        accepted = accepted;
        heard = (is, m, [], ap (λ (j : ElIn). is ++ j ∷ []) come, refl, ap (λ (t : ElementState). t.clock) (sym same));
      }

      put : Kept s0 (is ++ i ∷ []) (with_associations s (finmap.insert s.associations m.source (heard_at s.clock peer)))
      put = record { id = kept.id; responds = kept.responds; all = all_put }
        where
          A : AssociationMap
          A = finmap.insert s.associations m.source (heard_at s.clock peer)

          is_now : (who : ℕ) (h : Heard) (b : Bool) → eq_by_cmp nat_cmp who m.source ≡ b → cond b (Some (heard_at s.clock peer)) (get s.associations who) ≡ Some h → Known s0 (is ++ i ∷ []) who h
          is_now who h true e f =
              subst (λ (w : ℕ). Known s0 (is ++ i ∷ []) w h) (sym (same_key who m.source e))
              (subst (λ (g : Heard). Known s0 (is ++ i ∷ []) m.source g) (inside f) known_now)
            where
              inside : Some (heard_at s.clock peer) ≡ Some h → heard_at s.clock peer ≡ h
              inside g = cc
          is_now who h false e f = more_known who h (kept.all who h f)

          all_put : (who : ℕ) (h : Heard) → get A who ≡ Some h → Known s0 (is ++ i ∷ []) who h
          all_put who h e = is_now who h (eq_by_cmp nat_cmp who m.source) refl (sym (get-insert nat_cmp_total s.associations m.source (heard_at s.clock peer) who) ∙ e)

    -- associations have ended
    fewer : (A : AssociationMap) → ((who : ℕ) (h : Heard) → get A who ≡ Some h → get s.associations who ≡ Some h) → Kept s0 (is ++ i ∷ []) (with_associations s A)
    fewer A less = record { id = kept.id; responds = kept.responds; all = λ who h e. more_known who h (kept.all who h (less who h e)) }

    removed : (ce who : ℕ) (h : Heard) → get (finmap.remove s.associations ce) who ≡ Some h → get s.associations who ≡ Some h
    removed ce who h e = kept_one (eq_by_cmp nat_cmp who ce) (sym (get-remove nat_cmp_total s.associations ce who) ∙ e)
      where
        kept_one : (b : Bool) → cond b None (get s.associations who) ≡ Some h → get s.associations who ≡ Some h
        kept_one true f = absurd (cc)
        kept_one false f = f

    heartbeat_kept : (peer : ℕ) (m : Message) → i ≡ Arrived peer m → is_ce m.source ≡ true → Kept s0 (is ++ i ∷ []) (with_associations s (renewed s.associations m.source peer s.clock))
    heartbeat_kept peer m come ce = by_known (contains_key s.associations m.source) refl
      where
        known_before : (o : Option Heard) → get s.associations m.source ≡ o → is_some o ≡ true → WasAccepted s0 m.source is
        known_before None e f = absurd (cc)
        known_before (Some h) e f = let k = kept.all m.source h e in k.accepted

        by_known : (b : Bool) → contains_key s.associations m.source ≡ b
            → Kept s0 (is ++ i ∷ []) (with_associations s (cond b (finmap.insert s.associations m.source (heard_at s.clock peer)) s.associations))
        by_known true e = put peer m come ce (more_accepted m.source (known_before (get s.associations m.source) refl e))
        by_known false e = fewer s.associations (λ who h f. f)

    accepted_kept : (peer : ℕ) (m : Message) → i ≡ Arrived peer m → is_ce m.source ≡ true → m.dest ≡ id_of s → m.body ≡ SetupResponse 0
        → Kept s0 (is ++ i ∷ []) (with_associations s (entered s.associations m.source peer s.clock))
    accepted_kept peer m come ce dest body = by_room (takes_in s.associations m.source)
      where
        now_accepted : WasAccepted s0 m.source (is ++ i ∷ [])
        now_accepted = (is, peer, m, [], ap (λ (j : ElIn). is ++ j ∷ []) come, (refl, dest ∙ kept.id, body))

        by_room : (b : Bool) → Kept s0 (is ++ i ∷ []) (with_associations s (cond b (finmap.insert s.associations m.source (heard_at s.clock peer)) s.associations))
        by_room true = put peer m come ce now_accepted
        by_room false = fewer s.associations (λ who h f. f)

    response_kept : (peer : ℕ) (m : Message) (result : ℕ) → i ≡ Arrived peer m → is_ce m.source ≡ true → m.body ≡ SetupResponse result
        → (b : Bool) → (is_own s m && result == 0) ≡ b
        → Kept s0 (is ++ i ∷ []) (cond b (turn (with_associations s (entered s.associations m.source peer s.clock)) []) (turn s [])).state
    response_kept peer m result come ce body true e =
        let p : (is_own s m ≡ true) × ((result == 0) ≡ true) = both _ _ e in
        accepted_kept peer m come ce (eqb-true m.dest (id_of s) p.0) (body ∙ ap SetupResponse (eqb-true result 0 p.1))
    response_kept peer m result come ce body false e = stays

    -- a query and a Config: whether the association is renewed or not, and whatever becomes of what Configs may change
    module _ (peer : ℕ) (m : Message) (come : i ≡ Arrived peer m) (ce : is_ce m.source ≡ true) (selects : List Select) where
      heard_kept : Kept s0 (is ++ i ∷ []) (hearing s peer m)
      heard_kept = heartbeat_kept peer m come ce

      query_kept : (b : Bool) → Kept s0 (is ++ i ∷ []) (cond b (turn (hearing s peer m) (query_outs s peer m selects)) (turn s [])).state
      query_kept true = heard_kept
      query_kept false = stays

      taken_kept : (b : Bool) (t : TransactionState) → t.id ≡ s.transactions.id → IsResponse t.kept → Kept s0 (is ++ i ∷ []) (hearing_if b (with_transactions s t) peer m)
      taken_kept true t e r = record { id = e ∙ kept.id; responds = r; all = heard_kept.all }
      taken_kept false t e r = record { id = e ∙ kept.id; responds = r; all = stays.all }

      order_kept : (a b c : Bool)
          → Kept s0 (is ++ i ∷ []) (cond (not a) (turn s []) (cond (not b) (all_get s peer m selects 4) (cond c (all_get s peer m selects 18) (taking s peer m (configured s.transactions peer m selects))))).state
      order_kept false b c = stays
      order_kept true false c = stays
      order_kept true true true = stays
      order_kept true true false =
          let u = configured s.transactions peer m selects in
          taken_kept u.is_heard u.state (configured_id s.transactions peer m selects) (configured_responds s.transactions peer m selects kept.responds)

      config_kept : (b : Bool) → Kept s0 (is ++ i ∷ []) (cond b (by_order s peer m selects) (turn s [])).state
      config_kept true = order_kept (results_fit selects && message_fits m) (is_own s m) (m.flags.em == 0)
      config_kept false = stays

    body_kept : (peer : ℕ) (m : Message) → i ≡ Arrived peer m → is_ce m.source ≡ true → (body : MsgBody) → m.body ≡ body → Kept s0 (is ++ i ∷ []) (on_body s peer m body).state
    body_kept peer m come ce (Setup selects) e = stays
    body_kept peer m come ce (SetupResponse result) e = response_kept peer m result come ce e (is_own s m && result == 0) refl
    body_kept peer m come ce (Teardown reason) e = fewer (finmap.remove s.associations m.source) (removed m.source)
    body_kept peer m come ce (Config selects) e = config_kept peer m come ce selects (is_associated s m)
    body_kept peer m come ce (ConfigResponse selects) e = stays
    body_kept peer m come ce (Query selects) e = query_kept peer m come ce selects (is_associated s m)
    body_kept peer m come ce (QueryResponse selects) e = stays
    body_kept peer m come ce (Event selects) e = stays
    body_kept peer m come ce Heartbeat e = heartbeat_kept peer m come ce

    message_kept : (peer : ℕ) (m : Message) → i ≡ Arrived peer m → (b : Bool) → is_ce m.source ≡ b → Kept s0 (is ++ i ∷ []) (cond b (on_body s peer m m.body) (turn s [])).state
    message_kept peer m come true e = body_kept peer m come e m.body refl
    message_kept peer m come false e = stays

    left_kept : (moment : ℕ) → Kept s0 (is ++ i ∷ []) (with_associations (moved_on s moment) (left s moment))
    left_kept moment = record { id = kept.id; responds = kept.responds; all = λ who h e. more_known who h (kept.all who h (heard_still s moment who h e).0) }

    watched_kept : (moment : ℕ) → Kept s0 (is ++ i ∷ []) (watched (moved_on s moment))
    watched_kept moment = by_policy (ce_policy (settled_in s) == 0)
      where
        by_policy : (b : Bool) → Kept s0 (is ++ i ∷ []) (with_associations (moved_on s moment) (cond b (left s moment) s.associations))
        by_policy true = left_kept moment
        by_policy false = record { id = stays.id; responds = stays.responds; all = stays.all }

    beating_kept : (w : ElementState) → Kept s0 (is ++ i ∷ []) w → Kept s0 (is ++ i ∷ []) (beating w).state
    beating_kept w k = by_due (is_due w)
      where
        by_due : (b : Bool) → Kept s0 (is ++ i ∷ []) (cond b (turn (beaten w) (beats_of (id_of w) w.associations)) (turn w [])).state
        by_due true = record { id = k.id; responds = k.responds; all = k.all }
        by_due false = k

step_kept : (s0 : ElementState) (is : List ElIn) (i : ElIn) (s : ElementState) → after s0 is ≡ s → Kept s0 is s → Kept s0 (is ++ i ∷ []) (step s i).state
unfolding step
step_kept s0 is (Opened peer) s same kept = stays s0 is (Opened peer) s same kept
step_kept s0 is (Arrived peer m) s same kept = message_kept s0 is (Arrived peer m) s same kept peer m refl (is_ce m.source) refl
step_kept s0 is (Closed peer) s same kept = stays s0 is (Closed peer) s same kept
step_kept s0 is (Moment moment) s same kept =
    beating_kept s0 is (Moment moment) s same kept (watched (moved_on s moment)) (watched_kept s0 is (Moment moment) s same kept moment)

runs_kept : (s0 : ElementState) (is : List ElIn) (s : ElementState) (rest : List ElIn) → after s0 is ≡ s → Kept s0 is s → Kept s0 (is ++ rest) (after s rest)
runs_kept s0 is s [] same kept = subst (λ (xs : List ElIn). Kept s0 xs s) (sym (append-nil is)) kept
runs_kept s0 is s (i ∷ rest) same kept =
    subst (λ (xs : List ElIn). Kept s0 xs (after (step s i).state rest)) (append_assoc is (i ∷ []) rest)
    (runs_kept s0 (is ++ i ∷ []) (step s i).state rest (after_more s0 is i ∙ ap (λ (t : ElementState). (step t i).state) same) (step_kept s0 is i s same kept))

always_kept : (id ce : ℕ) (library : List Class) (instances : List (ℕ × ℕ)) (is : List ElIn) → Kept (opened id ce library instances) is (after (opened id ce library instances) is)
always_kept id ce library instances is = runs_kept first [] first is refl at_first
  where
    first : ElementState
    first = opened id ce library instances

    none : (who : ℕ) (h : Heard) → get first.associations who ≡ Some h → ⊥
    none who h e = let f : get first.associations who ≡ None = get-empty nat_cmp who in cc

    at_first : Kept first [] first
    at_first = record { id = refl; responds = tt; all = λ who h e. absurd (none who h e) }

association : (s : ElementState) (who : ℕ) → IsAssociated s who → (h : Heard) × (get s.associations who ≡ Some h)
association s who e = by_get (get s.associations who) refl e
  where
    by_get : (o : Option Heard) → get s.associations who ≡ o → is_some o ≡ true → (h : Heard) × (get s.associations who ≡ Some h)
    by_get None f g = absurd (cc)
    by_get (Some h) f g = (h, f)

pub was_accepted : (id ce who : ℕ) (library : List Class) (instances : List (ℕ × ℕ)) (is : List ElIn) → IsAssociated (after (opened id ce library instances) is) who → WasAccepted (opened id ce library instances) who is
was_accepted id ce who library instances is e =
    let a = association (after (opened id ce library instances) is) who e in
    let kept = always_kept id ce library instances is in
    let k = kept.all who a.0 a.1 in
    k.accepted

pub was_heard : (id ce who : ℕ) (library : List Class) (instances : List (ℕ × ℕ)) (is : List ElIn) → IsAssociated (after (opened id ce library instances) is) who
    → (h : Heard) × WasLast (after (opened id ce library instances) is) who h × WasHeard (opened id ce library instances) who h is
was_heard id ce who library instances is e =
    let a = association (after (opened id ce library instances) is) who e in
    let kept = always_kept id ce library instances is in
    let k = kept.all who a.0 a.1 in
    (a.0, a.1, k.heard)

pub named : (id ce who : ℕ) (library : List Class) (instances : List (ℕ × ℕ)) (is : List ElIn) → IsAssociated (after (opened id ce library instances) is) who → is_ce who ≡ true
named id ce who library instances is e =
    let a = association (after (opened id ce library instances) is) who e in
    let kept = always_kept id ce library instances is in
    let k = kept.all who a.0 a.1 in
    k.ce

pub kept_responds : (id ce : ℕ) (library : List Class) (instances : List (ℕ × ℕ)) (is : List ElIn) → IsResponse (after (opened id ce library instances) is).transactions.kept
kept_responds id ce library instances is = let kept = always_kept id ce library instances is in kept.responds

-- ---- the kept response, over one input from any state
module _ (s : ElementState) (kept : IsResponse s.transactions.kept) (peer : ℕ) (m : Message) where
  heard_responds : (b : Bool) (t : TransactionState) → IsResponse t.kept → IsResponse (hearing_if b (with_transactions s t) peer m).transactions.kept
  heard_responds true t k = k
  heard_responds false t k = k

  config_responds : (selects : List Select) (a b c d : Bool)
      → IsResponse (cond a (cond (not b) (turn s []) (cond (not c) (all_get s peer m selects 4) (cond d (all_get s peer m selects 18) (taking s peer m (configured s.transactions peer m selects))))) (turn s [])).state.transactions.kept
  config_responds selects false b c d = kept
  config_responds selects true false c d = kept
  config_responds selects true true false d = kept
  config_responds selects true true true true = kept
  config_responds selects true true true false =
      let u = configured s.transactions peer m selects in
      heard_responds u.is_heard u.state (configured_responds s.transactions peer m selects kept)

  query_responds : (selects : List Select) (b : Bool) → IsResponse (cond b (turn (hearing s peer m) (query_outs s peer m selects)) (turn s [])).state.transactions.kept
  query_responds selects true = kept
  query_responds selects false = kept

  setup_responds : (b : Bool) → IsResponse (cond b (turn (with_associations s (entered s.associations m.source peer s.clock)) []) (turn s [])).state.transactions.kept
  setup_responds true = kept
  setup_responds false = kept

  body_responds : (body : MsgBody) → IsResponse (on_body s peer m body).state.transactions.kept
  body_responds (Setup selects) = kept
  body_responds (SetupResponse result) = setup_responds (is_own s m && result == 0)
  body_responds (Teardown reason) = kept
  body_responds (Config selects) = config_responds selects (is_associated s m) (results_fit selects && message_fits m) (is_own s m) (m.flags.em == 0)
  body_responds (ConfigResponse selects) = kept
  body_responds (Query selects) = query_responds selects (is_associated s m)
  body_responds (QueryResponse selects) = kept
  body_responds (Event selects) = kept
  body_responds Heartbeat = kept

  message_responds : (b : Bool) → IsResponse (cond b (on_body s peer m m.body) (turn s [])).state.transactions.kept
  message_responds true = body_responds m.body
  message_responds false = kept

beating_responds : (w : ElementState) (b : Bool) → IsResponse w.transactions.kept → IsResponse (cond b (turn (beaten w) (beats_of (id_of w) w.associations)) (turn w [])).state.transactions.kept
beating_responds w true k = k
beating_responds w false k = k

moment_responds : (s : ElementState) (moment : ℕ) → IsResponse s.transactions.kept → IsResponse (beating (watched (moved_on s moment))).state.transactions.kept
moment_responds s moment k = let w = watched (moved_on s moment) in beating_responds w (is_due w) k

pub step_responds : (s : ElementState) (i : ElIn) → IsResponse s.transactions.kept → IsResponse (step s i).state.transactions.kept
unfolding step
step_responds s (Opened peer) k = k
step_responds s (Arrived peer m) k = message_responds s k peer m (is_ce m.source)
step_responds s (Closed peer) k = k
step_responds s (Moment moment) k = moment_responds s moment k

-- ---- silence
-- whoever has an association was heard within so long a time
abbrev AreTimely : ℕ → ElementState → Type 0
AreTimely dead s = (who : ℕ) (h : Heard) → get s.associations who ≡ Some h → s.clock ≤ h.last + dead

module _ (dead : ℕ) (s : ElementState) (timely : AreTimely dead s) where
  now_timely : (A : AssociationMap) (who ce peer : ℕ) (h : Heard) (b : Bool) → eq_by_cmp nat_cmp who ce ≡ b
      → cond b (Some (heard_at s.clock peer)) (get s.associations who) ≡ Some h → s.clock ≤ h.last + dead
  now_timely A who ce peer h true e f = subst (λ (g : Heard). s.clock ≤ g.last + dead) (inside f) (omega arith)
    where
      inside : Some (heard_at s.clock peer) ≡ Some h → heard_at s.clock peer ≡ h
      inside g = cc
  now_timely A who ce peer h false e f = timely who h f

  put_timely : (ce peer : ℕ) → AreTimely dead (with_associations s (finmap.insert s.associations ce (heard_at s.clock peer)))
  put_timely ce peer who h e =
      now_timely s.associations who ce peer h (eq_by_cmp nat_cmp who ce) refl (sym (get-insert nat_cmp_total s.associations ce (heard_at s.clock peer) who) ∙ e)

  renewed_timely : (ce peer : ℕ) (b : Bool) → AreTimely dead (with_associations s (cond b (finmap.insert s.associations ce (heard_at s.clock peer)) s.associations))
  renewed_timely ce peer true = put_timely ce peer
  renewed_timely ce peer false = timely

  ended_timely : (ce : ℕ) → AreTimely dead (with_associations s (finmap.remove s.associations ce))
  ended_timely ce who h e = kept_one (eq_by_cmp nat_cmp who ce) (sym (get-remove nat_cmp_total s.associations ce who) ∙ e)
    where
      kept_one : (b : Bool) → cond b None (get s.associations who) ≡ Some h → s.clock ≤ h.last + dead
      kept_one true f = absurd (cc)
      kept_one false f = timely who h f

  module _ (peer : ℕ) (m : Message) where
    hearing_timely : AreTimely dead (hearing s peer m)
    hearing_timely = renewed_timely m.source peer (contains_key s.associations m.source)

    response_timely : (b : Bool) → AreTimely dead (cond b (turn (with_associations s (entered s.associations m.source peer s.clock)) []) (turn s [])).state
    response_timely true = renewed_timely m.source peer (takes_in s.associations m.source)
    response_timely false = timely

    query_timely : (selects : List Select) (b : Bool) → AreTimely dead (cond b (turn (hearing s peer m) (query_outs s peer m selects)) (turn s [])).state
    query_timely selects true = hearing_timely
    query_timely selects false = timely

    taken_timely : (b : Bool) (t : TransactionState) → AreTimely dead (hearing_if b (with_transactions s t) peer m)
    taken_timely true t = hearing_timely
    taken_timely false t = timely

    order_timely : (selects : List Select) (a b c : Bool)
        → AreTimely dead (cond (not a) (turn s []) (cond (not b) (all_get s peer m selects 4) (cond c (all_get s peer m selects 18) (taking s peer m (configured s.transactions peer m selects))))).state
    order_timely selects false b c = timely
    order_timely selects true false c = timely
    order_timely selects true true true = timely
    order_timely selects true true false = let u = configured s.transactions peer m selects in taken_timely u.is_heard u.state

    config_timely : (selects : List Select) (b : Bool) → AreTimely dead (cond b (by_order s peer m selects) (turn s [])).state
    config_timely selects true = order_timely selects (results_fit selects && message_fits m) (is_own s m) (m.flags.em == 0)
    config_timely selects false = timely

    body_timely : (body : MsgBody) → AreTimely dead (on_body s peer m body).state
    body_timely (Setup selects) = timely
    body_timely (SetupResponse result) = response_timely (is_own s m && result == 0)
    body_timely (Teardown reason) = ended_timely m.source
    body_timely (Config selects) = config_timely selects (is_associated s m)
    body_timely (ConfigResponse selects) = timely
    body_timely (Query selects) = query_timely selects (is_associated s m)
    body_timely (QueryResponse selects) = timely
    body_timely (Event selects) = timely
    body_timely Heartbeat = hearing_timely

    message_timely : (b : Bool) → AreTimely dead (cond b (on_body s peer m m.body) (turn s [])).state
    message_timely true = body_timely m.body
    message_timely false = timely

step_timely : (dead : ℕ) (s : ElementState) (i : ElIn) → IsNoMoment i → AreTimely dead s → AreTimely dead (step s i).state
unfolding step
step_timely dead s (Opened peer) still timely = timely
step_timely dead s (Arrived peer m) still timely = message_timely dead s timely peer m (is_ce m.source)
step_timely dead s (Closed peer) still timely = timely
step_timely dead s (Moment moment) still timely = absurd still

runs_timely : (dead : ℕ) (s : ElementState) (is : List ElIn) → AllByRecursion IsNoMoment is → AreTimely dead s → AreTimely dead (after s is)
runs_timely dead s [] still timely = timely
runs_timely dead s (i ∷ is) still timely = runs_timely dead (step s i).state is still.1 (step_timely dead s i still.0 timely)

moment_timely : (s : ElementState) (moment : ℕ) → ce_policy (settled_in s) ≡ 0 → AreTimely (ce_dead (settled_in s)) (step s (Moment moment)).state
unfolding step
moment_timely s moment watches = beating_timely (watched (moved_on s moment)) (by_policy (ce_policy (settled_in s) == 0) (policy (ce_policy (settled_in s)) watches))
  where
    policy : (n : ℕ) → n ≡ 0 → (n == 0) ≡ true
    policy n e = grind (arith, nat_tests)

    by_policy : (b : Bool) → b ≡ true → AreTimely (ce_dead (settled_in s)) (with_associations (moved_on s moment) (cond b (left s moment) s.associations))
    by_policy true e who h f = (heard_still s moment who h f).1
    by_policy false e who h f = absurd (cc)

    beating_timely : (w : ElementState) → AreTimely (ce_dead (settled_in s)) w → AreTimely (ce_dead (settled_in s)) (beating w).state
    beating_timely w timely = by_due (is_due w)
      where
        by_due : (b : Bool) → AreTimely (ce_dead (settled_in s)) (cond b (turn (beaten w) (beats_of (id_of w) w.associations)) (turn w [])).state
        by_due true = timely
        by_due false = timely

pub silent_end : (s : ElementState) (who moment : ℕ) (behind : List ElIn) → AllByRecursion IsNoMoment behind → ce_policy (settled_in s) ≡ 0 → IsAssociated (after s (Moment moment ∷ behind)) who
    → (h : Heard) × WasLast (after s (Moment moment ∷ behind)) who h × ((after s (Moment moment ∷ behind)).clock ≤ h.last + ce_dead (settled_in s))
silent_end s who moment behind still watches e =
    let a = association (after s (Moment moment ∷ behind)) who e in
    (a.0, a.1, runs_timely (ce_dead (settled_in s)) (step s (Moment moment)).state behind still (moment_timely s moment watches) who a.0 a.1)
