-- What tells of events, and heartbeats, are none of the protocol's messages.
use Rattle.std.proofs.Common.{◌≡◌, ℕ, Bool, true, false, if◌then◌else◌, List, [], ◌∷◌, ◌++◌, map, refl, sym, subst}
use Rattle.std.specs.FinMap.{entries}
use Rattle.std.specs.List.{flat_map}
use Rattle.fc_querying.specs.Answering.{AreNotices}
use Rattle.fc_assoc.specs.Associations.{AssociationMap}
use Rattle.fc_assoc.specs.declared.heard.Heard.{Heard}
use Rattle.fc_element.specs.ElementMachine.{answer_to, beating, beats_of, down_outs, has_lost, heartbeat_of, id_of, is_due, ledger_of, moved_on, setup_of, step, watched}
use Rattle.fc_element.specs.ElementState.{ElementState}
use Rattle.fc_element.specs.Notices.{down_to, peers_of}
use Rattle.fc_element.specs.declared.input.ElIn.TheVariants.{Moment}
use Rattle.fc_events.specs.declared.subscriptions.Notice.{Notice}
use Rattle.fc_events.specs.declared.subscriptions.Subscription.{Subscription}
use Rattle.fc_msg.specs.Messages.{message_fits}
use Rattle.fc_msg.specs.declared.message.Message.{Message}
use Rattle.fc_path.specs.declared.oper.Select.{Select}
use Rattle.fc_performing.specs.Notices.{notice_message, notice_out, notice_outs, sent_if}
use Rattle.fc_performing.specs.Sending.{event_from, out}
use Rattle.fc_performing.specs.declared.out.Out.{Out}
use Rattle.fc_performing.specs.declared.out.Route.{Route}
use Rattle.fc_protocol.specs.Messages.{Other_up, Setup}
use Rattle.fc_transactions.specs.State.{TransactionState}
use Rattle.fc_types.specs.declared.class.Class.{Class}
use Rattle.fc_hearing.specs.Hearing.{AreOthers, IsHeardAs}

-- ---- one message

pub wish_heard : (id : ℕ) → IsHeardAs (setup_of id) Setup
wish_heard id = record { core = λ c p. refl; wish = refl; calm = λ e. absurd (cc e); silent = λ e. absurd (cc e) }

pub event_heard : (from to : ℕ) (selects : List Select) → IsHeardAs (event_from from to selects) Other_up
event_heard from to selects = record { core = λ c p. refl; wish = refl; calm = λ e life c p. refl; silent = λ e k c p. refl }

pub beat_heard : (id ce : ℕ) → IsHeardAs (heartbeat_of id ce) Other_up
beat_heard id ce = record { core = λ c p. refl; wish = refl; calm = λ e life c p. refl; silent = λ e k c p. refl }

pub answer_heard : (m : Message) → IsHeardAs (answer_to m) Other_up
answer_heard m = record { core = λ c p. refl; wish = refl; calm = λ e life c p. refl; silent = λ e k c p. refl }

-- ---- lists of them

others_more : (xs ys : List Out) → AreOthers xs → AreOthers ys → AreOthers (xs ++ ys)
others_more [] ys a b = b
others_more (x ∷ xs) ys a b = (a.0, others_more xs ys a.1 b)

sent_others : (b : Bool) (o : Out) → IsHeardAs o.message Other_up → AreOthers (sent_if b o)
sent_others true o h = (h, tt)
sent_others false o h = tt

pub notices_others : (library : List Class) (r : Route) (notices : List Notice) → AreOthers (notice_outs library r notices)
notices_others library r [] = tt
notices_others library r (n ∷ ns) =
    others_more (notice_out library r n) (notice_outs library r ns)
    (sent_others (message_fits (notice_message library r n)) (out r.peer (notice_message library r n)) (event_heard r.from r.to _)) (notices_others library r ns)

pub told_others : (s : TransactionState) (peer : ℕ) (m : Message) (outs : List Out) → AreNotices s peer m outs → AreOthers outs
told_others s peer m outs (library, notices, is) = subst AreOthers (sym is) (notices_others library _ notices)

each_beat : (id : ℕ) (pairs : List (ℕ × Heard)) → AreOthers (map (λ pair. out pair.1.peer (heartbeat_of id pair.0)) pairs)
each_beat id [] = tt
each_beat id (pair ∷ pairs) = (beat_heard id pair.0, each_beat id pairs)

pub beats_others : (id : ℕ) (m : AssociationMap) → AreOthers (beats_of id m)
beats_others id m = each_beat id (entries m)

each_down : (id : ℕ) (library : List Class) (subs : List Subscription) (pairs : List (ℕ × ℕ)) → AreOthers (flat_map (down_to id library subs) pairs)
each_down id library subs [] = tt
each_down id library subs (pair ∷ pairs) =
    others_more (down_to id library subs pair) (flat_map (down_to id library subs) pairs) (notices_others library _ _) (each_down id library subs pairs)

-- one of two lists
either_others : (b : Bool) (xs ys : List Out) → AreOthers xs → AreOthers ys → AreOthers (if b then xs else ys)
either_others true xs ys a c = a
either_others false xs ys a c = c

pub downs_others : (s : ElementState) (remaining : AssociationMap) → AreOthers (down_outs s remaining)
downs_others s remaining =
    either_others (has_lost s remaining) (flat_map (down_to (id_of s) (ledger_of s).store.library (ledger_of s).subscriptions) (peers_of remaining)) []
    (each_down (id_of s) (ledger_of s).store.library (ledger_of s).subscriptions (peers_of remaining)) tt

beating_others : (s : ElementState) (b : Bool) → is_due s ≡ b → AreOthers (beating s).outs
beating_others s true e = rw (e) (beats_others (id_of s) s.associations)
beating_others s false e = rw (e) tt

pub moment_others : (s : ElementState) (moment : ℕ) → AreOthers (step s (Moment moment)).outs
unfolding step
moment_others s moment =
    let now = moved_on s moment in
    others_more (down_outs now (watched now).associations) (beating (watched now)).outs (downs_others now (watched now).associations) (beating_others (watched now) (is_due (watched now)) refl)
