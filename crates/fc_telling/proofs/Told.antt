-- Of which events the messages tell that an element sends.
use Rattle.std.proofs.Common.{◌≡◌, ℕ, Bool, true, false, cond, List, [], ◌∷◌, ◌++◌, append_assoc, map, Option, Some, None, refl, sym, ap, subst, ◌∙◌}
use Rattle.std.specs.FinMap.{entries}
use Rattle.std.specs.List.{AllByRecursion, flat_map}
use Rattle.std.specs.Ordering.{is_lt}
use Rattle.fc_assoc.specs.Associations.{AssociationMap}
use Rattle.fc_assoc.specs.declared.heard.Heard.{Heard}
use Rattle.fc_element.specs.ElementMachine.{beaten, beating, beats_of, down_outs, has_lost, heartbeat_of, id_of, is_due, ledger_of, turn}
use Rattle.fc_element.specs.ElementState.{ElementState}
use Rattle.fc_element.specs.Notices.{down_to, listed, peers_of}
use Rattle.fc_element.proofs.Configuring.{IsResponse}
use Rattle.fc_element.proofs.Telling.{all_append}
use Rattle.fc_events.specs.Events.{place}
use Rattle.fc_events.specs.Order.{IsNotBefore, NeverFall, told_places}
use Rattle.fc_events.specs.Subscribing.{is_registered}
use Rattle.fc_events.specs.Telling.{primary_down}
use Rattle.fc_events.specs.declared.subscriptions.EventPlace.{EventPlace}
use Rattle.fc_events.specs.declared.subscriptions.Notice.{Notice}
use Rattle.fc_events.specs.declared.subscriptions.Subscription.{Subscription}
use Rattle.fc_msg.specs.Messages.{message_fits}
use Rattle.fc_msg.specs.declared.message.Message.{Message}
use Rattle.fc_msg.specs.declared.message.MsgBody.TheVariants.{ConfigResponse}
use Rattle.fc_path.specs.declared.oper.Select.{Select}
use Rattle.fc_performing.specs.Notices.{notice_message, notice_outs, route, sent_if}
use Rattle.fc_performing.specs.Sending.{out, responses}
use Rattle.fc_performing.specs.declared.out.Out.{Out}
use Rattle.fc_performing.specs.declared.out.Route.{Route}
use Rattle.fc_reply.specs.Answered.{answered_selects}
use Rattle.fc_reply.specs.Replies.{is_wanted, reply, response, with_selects}
use Rattle.fc_types.specs.declared.class.Class.{Class}
use Rattle.fc_telling.specs.ToldEvents.{told_body, told_by, told_out}
use Rattle.fc_wire.specs.Bytes.{u32_bytes}

told_more : (xs ys : List Out) → told_by (xs ++ ys) ≡ told_by xs ++ told_by ys
told_more [] ys = refl
told_more (x ∷ xs) ys = ap (λ (ps : List EventPlace). told_out x ++ ps) (told_more xs ys) ∙ sym (append_assoc (told_out x) (told_by xs) (told_by ys))

-- ---- notices tell of their events, but for those that are not sent
all_sent : (P : EventPlace → Type 0) (library : List Class) (r : Route) (notices : List Notice) → AllByRecursion P (told_places notices) → AllByRecursion P (told_by (notice_outs library r notices))
all_sent P library r [] h = tt
all_sent P library r (n ∷ ns) h = elim (message_fits (notice_message library r n)) as (λ b. AllByRecursion P (told_by (sent_if b (out r.peer (notice_message library r n)) ++ notice_outs library r ns))) [
  | true ↦ (h.0, all_sent P library r ns h.1)
  | false ↦ all_sent P library r ns h.1
]

notices_fall : (library : List Class) (r : Route) (notices : List Notice) → NeverFall (told_places notices) → NeverFall (told_by (notice_outs library r notices))
notices_fall library r [] h = tt
notices_fall library r (n ∷ ns) h = elim (message_fits (notice_message library r n)) as (λ b. NeverFall (told_by (sent_if b (out r.peer (notice_message library r n)) ++ notice_outs library r ns))) [
  | true ↦ (all_sent (IsNotBefore n.place) library r ns h.0, notices_fall library r ns h.1)
  | false ↦ notices_fall library r ns h.1
]

-- ---- a response tells of none
wanted_told : (peer : ℕ) (m : Message) (selects : List Select) (b : Bool) → told_by (responses peer (cond b (Some (response m selects)) None)) ≡ []
wanted_told peer m selects true = refl
wanted_told peer m selects false = refl

with_told : (peer : ℕ) (m : Message) (codes : List ℕ) (selects : List Select) → told_by (responses peer (with_selects m codes selects)) ≡ []
with_told peer m codes [] = refl
with_told peer m codes (s ∷ ss) = wanted_told peer m (s ∷ ss) (is_wanted m.flags.ack codes)

reply_told : (peer : ℕ) (m : Message) (selects : List Select) (codes : List ℕ) → told_by (responses peer (reply m selects codes)) ≡ []
reply_told peer m selects codes = with_told peer m codes (answered_selects selects codes)

pub reply_falls : (peer : ℕ) (m : Message) (selects : List Select) (codes : List ℕ) → NeverFall (told_by (responses peer (reply m selects codes)))
reply_falls peer m selects codes = subst NeverFall (sym (reply_told peer m selects codes)) tt

-- and one that was kept tells of none
body_told : (r : Message) (selects : List Select) → r.body ≡ ConfigResponse selects → told_body r.body ≡ []
body_told r selects e = ap told_body e

pub kept_falls : (peer : ℕ) (o : Option Message) → IsResponse o → NeverFall (told_by (responses peer o))
kept_falls peer None k = tt
kept_falls peer (Some r) k = subst (λ (ps : List EventPlace). NeverFall (ps ++ [])) (sym (body_told r k.0 k.1)) tt

-- a response, and then notices
pub says_falls : (peer : ℕ) (m : Message) (selects : List Select) (codes : List ℕ) (library : List Class) (r : Route) (notices : List Notice) → NeverFall (told_places notices)
    → NeverFall (told_by (responses peer (reply m selects codes) ++ notice_outs library r notices))
says_falls peer m selects codes library r notices h =
    subst NeverFall
    (sym (told_more (responses peer (reply m selects codes)) (notice_outs library r notices) ∙ ap (λ (ps : List EventPlace). ps ++ told_by (notice_outs library r notices)) (reply_told peer m selects codes)))
    (notices_fall library r notices h)

-- ---- of the end of the first control element all are told alike
abbrev IsDown : EventPlace → Type 0
IsDown p = p ≡ place 2 1 1

down_not_before : IsNotBefore (place 2 1 1) (place 2 1 1)
down_not_before e = subst (λ r. cond (is_lt r) ⊥ (Unit {0})) e tt

none_before : (ps : List EventPlace) → AllByRecursion IsDown ps → AllByRecursion (IsNotBefore (place 2 1 1)) ps
none_before [] h = tt
none_before (p ∷ ps) h = (subst (IsNotBefore (place 2 1 1)) (sym h.0) down_not_before, none_before ps h.1)

downs_fall : (ps : List EventPlace) → AllByRecursion IsDown ps → NeverFall ps
downs_fall [] h = tt
downs_fall (p ∷ ps) h = (subst (λ (q : EventPlace). AllByRecursion (IsNotBefore q) ps) (sym h.0) (none_before ps h.1), downs_fall ps h.1)

listed_down : (ce : ℕ) (b : Bool) → AllByRecursion IsDown (told_places (listed (cond b (Some (record { place = place 2 1 1; value = u32_bytes ce })) None)))
listed_down ce true = (refl, tt)
listed_down ce false = tt

each_down : (id : ℕ) (library : List Class) (subs : List Subscription) (pairs : List (ℕ × ℕ)) → AllByRecursion IsDown (told_by (flat_map (down_to id library subs) pairs))
each_down id library subs [] = tt
each_down id library subs (pair ∷ pairs) =
    subst (AllByRecursion IsDown) (sym (told_more (down_to id library subs pair) (flat_map (down_to id library subs) pairs)))
    (all_append IsDown (told_by (down_to id library subs pair)) (told_by (flat_map (down_to id library subs) pairs))
    (all_sent IsDown library (route id pair.0 pair.1) (listed (primary_down pair.0 subs)) (listed_down pair.0 (is_registered 2 1 1 subs))) (each_down id library subs pairs))

all_down : (s : ElementState) (remaining : AssociationMap) → AllByRecursion IsDown (told_by (down_outs s remaining))
all_down s remaining = by_lost (has_lost s remaining)
  where
    by_lost : (b : Bool) → AllByRecursion IsDown (told_by (cond b (flat_map (down_to (id_of s) (ledger_of s).store.library (ledger_of s).subscriptions) (peers_of remaining)) []))
    by_lost true = each_down (id_of s) (ledger_of s).store.library (ledger_of s).subscriptions (peers_of remaining)
    by_lost false = tt

pub down_falls : (s : ElementState) (remaining : AssociationMap) → NeverFall (told_by (down_outs s remaining))
down_falls s remaining = downs_fall (told_by (down_outs s remaining)) (all_down s remaining)

-- ---- heartbeats tell of none
beats_told : (id : ℕ) (pairs : List (ℕ × Heard)) → told_by (map (λ (pair : ℕ × Heard). out pair.1.peer (heartbeat_of id pair.0)) pairs) ≡ []
beats_told id [] = refl
beats_told id (pair ∷ pairs) = beats_told id pairs

beating_told : (w : ElementState) → told_by (beating w).outs ≡ []
beating_told w = by_due (is_due w)
  where
    by_due : (b : Bool) → told_by (cond b (turn (beaten w) (beats_of (id_of w) w.associations)) (turn w [])).outs ≡ []
    by_due true = beats_told (id_of w) (entries w.associations)
    by_due false = refl

pub moment_falls : (s : ElementState) (remaining : AssociationMap) (w : ElementState) → NeverFall (told_by (down_outs s remaining ++ (beating w).outs))
moment_falls s remaining w =
    downs_fall (told_by (down_outs s remaining ++ (beating w).outs))
    (subst (AllByRecursion IsDown) (sym (told_more (down_outs s remaining) (beating w).outs))
    (all_append IsDown (told_by (down_outs s remaining)) (told_by (beating w).outs) (all_down s remaining) (subst (AllByRecursion IsDown) (sym (beating_told w)) tt)))
