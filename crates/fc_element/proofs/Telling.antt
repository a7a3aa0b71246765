-- What holds of each notice that is sent.
use Rattle.std.proofs.Common.{◌≡◌, ℕ, Bool, true, false, cond, List, [], ◌∷◌, ◌++◌, append_assoc, map, refl, sym, ◌∙◌, Option, Some, None}
use Rattle.std.specs.FinMap.{entries}
use Rattle.std.specs.List.{AllByRecursion, flat_map}
use Rattle.fc_assoc.specs.Associations.{AssociationMap}
use Rattle.fc_assoc.specs.declared.heard.Heard.{Heard}
use Rattle.fc_events.specs.Telling.{primary_down}
use Rattle.fc_events.specs.declared.subscriptions.Notice.{Notice}
use Rattle.fc_msg.specs.Messages.{message_fits}
use Rattle.fc_types.specs.declared.class.Class.{Class}
use Rattle.fc_performing.specs.Notices.{notice_message, notice_out, notice_outs, route, sent_if}
use Rattle.fc_performing.specs.Sending.{out}
use Rattle.fc_performing.specs.declared.out.Out.{Out}
use Rattle.fc_performing.specs.declared.out.Route.{Route}
use Rattle.fc_element.specs.ElementMachine.{down_outs, has_lost, id_of, ledger_of}
use Rattle.fc_element.specs.ElementState.{ElementState}
use Rattle.fc_element.specs.Notices.{down_to, listed}

pub all_append : {X : Type 0} (P : X → Type 0) (xs ys : List X) → AllByRecursion P xs → AllByRecursion P ys → AllByRecursion P (xs ++ ys)
all_append P [] ys a b = b
all_append P (x ∷ xs) ys a b = (a.0, all_append P xs ys a.1 b)

sent_all : (P : Out → Type 0) (b : Bool) (o : Out) → (b ≡ true → P o) → AllByRecursion P (sent_if b o)
sent_all P true o h = (h refl, tt)
sent_all P false o h = tt

-- of one notice, which fits
pub notice_all : (P : Out → Type 0) (library : List Class) (r : Route) (n : Notice)
    → (message_fits (notice_message library r n) ≡ true → P (out r.peer (notice_message library r n))) → AllByRecursion P (notice_out library r n)
notice_all P library r n h = sent_all P (message_fits (notice_message library r n)) (out r.peer (notice_message library r n)) h

-- of each one among notices
pub notices_all : (P : Out → Type 0) (library : List Class) (r : Route) (notices : List Notice)
    → ((n : Notice) (front back : List Notice) → notices ≡ front ++ n ∷ back → message_fits (notice_message library r n) ≡ true → P (out r.peer (notice_message library r n)))
    → AllByRecursion P (notice_outs library r notices)
notices_all P library r notices h = from [] notices refl
  where
    from : (front ns : List Notice) → notices ≡ front ++ ns → AllByRecursion P (notice_outs library r ns)
    from front [] e = tt
    from front (n ∷ ns) e =
        all_append P (notice_out library r n) (notice_outs library r ns) (notice_all P library r n (h n front ns e)) (from (front ++ n ∷ []) ns (e ∙ sym (append_assoc front (n ∷ []) ns)))

-- of what those are told that remain
pub downs_all : (P : Out → Type 0) (s : ElementState) (remaining : AssociationMap)
    → ((ce : ℕ) (h : Heard) (n : Notice) (front back : List (ℕ × Heard)) → entries remaining ≡ front ++ (ce, h) ∷ back → has_lost s remaining ≡ true → primary_down ce (ledger_of s).subscriptions ≡ Some n
    → message_fits (notice_message (ledger_of s).store.library (route (id_of s) ce h.peer) n) ≡ true → P (out h.peer (notice_message (ledger_of s).store.library (route (id_of s) ce h.peer) n)))
    → AllByRecursion P (down_outs s remaining)
downs_all P s remaining h = by_lost (has_lost s remaining) refl
  where
    one : (pair : ℕ × Heard) (front back : List (ℕ × Heard)) → entries remaining ≡ front ++ pair ∷ back → has_lost s remaining ≡ true → (o : Option Notice) → primary_down pair.0 (ledger_of s).subscriptions ≡ o
        → AllByRecursion P (notice_outs (ledger_of s).store.library (route (id_of s) pair.0 pair.1.peer) (listed o))
    one pair front back e lost None k = tt
    one pair front back e lost (Some n) k =
        let r : Route = route (id_of s) pair.0 pair.1.peer in
        all_append P (notice_out (ledger_of s).store.library r n) [] (notice_all P (ledger_of s).store.library r n (h pair.0 pair.1 n front back e lost k)) tt

    from : has_lost s remaining ≡ true → (front pairs : List (ℕ × Heard)) → entries remaining ≡ front ++ pairs → AllByRecursion P (flat_map (down_to (id_of s) (ledger_of s).store.library (ledger_of s).subscriptions) (map (λ (pair : ℕ × Heard). (pair.0, pair.1.peer)) pairs))
    from lost front [] e = tt
    from lost front (pair ∷ pairs) e =
        all_append P (down_to (id_of s) (ledger_of s).store.library (ledger_of s).subscriptions (pair.0, pair.1.peer)) (flat_map (down_to (id_of s) (ledger_of s).store.library (ledger_of s).subscriptions) (map (λ (p : ℕ × Heard). (p.0, p.1.peer)) pairs)) (one pair front pairs e lost (primary_down pair.0 (ledger_of s).subscriptions) refl)
        (from lost (front ++ pair ∷ []) pairs (e ∙ sym (append_assoc front (pair ∷ []) pairs)))

    by_lost : (b : Bool) → has_lost s remaining ≡ b → AllByRecursion P (cond b (flat_map (down_to (id_of s) (ledger_of s).store.library (ledger_of s).subscriptions) (map (λ (pair : ℕ × Heard). (pair.0, pair.1.peer)) (entries remaining))) [])
    by_lost true e = from e [] (entries remaining) refl
    by_lost false e = tt
