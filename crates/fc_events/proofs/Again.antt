-- What an evaluation leaves.
use Rattle.std.proofs.Common.{◌≡◌, ℕ, Bool, true, false, cond, List, [], ◌∷◌, ◌++◌, map, Option, Some, None, refl, sym, ap, ◌∙◌}
use Rattle.std.specs.List.{flat_map, AllByRecursion}
use Rattle.fc_store.specs.Stores.{Stored}
use Rattle.fc_watch.proofs.Again.{equal_value}
use Rattle.fc_watch.specs.Settings.{condition_of}
use Rattle.fc_watch.specs.Watching.{evaluated}
use Rattle.fc_watch.specs.declared.settings.Settings.{Settings}
use Rattle.fc_watch.specs.declared.watch.Watch.{Watch}
use Rattle.fc_events.specs.Events.{Sight, is_signed, seen_of, sight_of}
use Rattle.fc_events.specs.Reports.{IsSettled, IsSettledBy, evaluated_but, evaluated_in, is_held, reported, reported_by, reports, reports_but, with_watch}
use Rattle.fc_events.specs.declared.subscriptions.EventPlace.{EventPlace}
use Rattle.fc_events.specs.declared.subscriptions.Notice.{Notice}
use Rattle.fc_events.specs.declared.subscriptions.Subscription.{Subscription}

abbrev sub_of : EventPlace → Settings → Option Watch → Subscription
sub_of place settings watch = record { place = place; settings = settings; watch = watch }

again_by : (s : Stored) (place : EventPlace) (settings : Settings) (o : Option Watch) (g : Option Sight) → sight_of s place ≡ g → evaluated_in s (reported_by (sub_of place settings o) o g).0 ≡ ((reported_by (sub_of place settings o) o g).0, [])
again_by s place settings None g is = refl
again_by s place settings (Some watch) None is = ap (reported_by (sub_of place settings (Some watch)) (Some watch)) is
again_by s place settings (Some watch) (Some sight) is =
    let sub = sub_of place settings (Some watch) in
    let c = condition_of sight.when (is_signed sight.ty) settings in
    let x = seen_of sight.ty sight.value in
    let w = (evaluated c watch x).0 in
    ap (reported_by (with_watch sub w) (Some w)) is ∙ ap (reported (with_watch sub w) sight) (equal_value c watch x)

-- an event that was evaluated is as an evaluation leaves it
pub again : (s : Stored) (sub : Subscription) → evaluated_in s (evaluated_in s sub).0 ≡ ((evaluated_in s sub).0, [])
again s sub = again_by s sub.place sub.settings sub.watch (sight_of s sub.place) refl

abbrev after : Stored → Subscription → Subscription
after s sub = (evaluated_in s sub).0

abbrev told : Stored → Subscription → List Notice
told s sub = (evaluated_in s sub).1

all_again : (s : Stored) (subs : List Subscription) → map (after s) (map (after s) subs) ≡ map (after s) subs
all_again s [] = refl
all_again s (sub ∷ subs) = ap (λ r. r.0 ∷ map (after s) (map (after s) subs)) (again s sub) ∙ ap (λ l. after s sub ∷ l) (all_again s subs)

none_again : (s : Stored) (subs : List Subscription) → flat_map (told s) (map (after s) subs) ≡ []
none_again s [] = refl
none_again s (sub ∷ subs) = ap (λ r. r.1 ++ flat_map (told s) (map (after s) subs)) (again s sub) ∙ none_again s subs

pub second_report : (s : Stored) (subs : List Subscription) → reports s (reports s subs).0 ≡ ((reports s subs).0, [])
second_report s subs = ap (λ l. (l, flat_map (told s) (map (after s) subs))) (all_again s subs) ∙ ap (λ n. (map (after s) subs, n)) (none_again s subs)

one_by : (now settled : Stored) (sub : Subscription) (b : Bool) → IsSettledBy now settled sub b → cond b (sub, []) (evaluated_in now sub) ≡ evaluated_in settled sub
one_by now settled sub true h = sym (ap (evaluated_in settled) h.1 ∙ again settled h.0 ∙ ap (λ x. (x, [])) (sym h.1))
one_by now settled sub false same = ap (reported_by sub sub.watch) same

one : (held : List (ℕ × ℕ)) (now settled : Stored) (sub : Subscription) → IsSettled held now settled sub → evaluated_but held now sub ≡ evaluated_in settled sub
one held now settled sub h = one_by now settled sub (is_held held sub.place) h

abbrev after_but : List (ℕ × ℕ) → Stored → Subscription → Subscription
after_but held now sub = (evaluated_but held now sub).0

abbrev told_but : List (ℕ × ℕ) → Stored → Subscription → List Notice
told_but held now sub = (evaluated_but held now sub).1

same_after : (held : List (ℕ × ℕ)) (now settled : Stored) (subs : List Subscription) → AllByRecursion (IsSettled held now settled) subs → map (after_but held now) subs ≡ map (after settled) subs
same_after held now settled [] h = refl
same_after held now settled (sub ∷ subs) h =
    ap (λ r. r.0 ∷ map (after_but held now) subs) (one held now settled sub h.0) ∙ ap (λ l. after settled sub ∷ l) (same_after held now settled subs h.1)

same_told : (held : List (ℕ × ℕ)) (now settled : Stored) (subs : List Subscription) → AllByRecursion (IsSettled held now settled) subs → flat_map (told_but held now) subs ≡ flat_map (told settled) subs
same_told held now settled [] h = refl
same_told held now settled (sub ∷ subs) h =
    ap (λ r. r.1 ++ flat_map (told_but held now) subs) (one held now settled sub h.0) ∙ ap (λ l. told settled sub ++ l) (same_told held now settled subs h.1)

pub all_settled : (held : List (ℕ × ℕ)) (now settled : Stored) (subs : List Subscription) → AllByRecursion (IsSettled held now settled) subs → reports_but held now subs ≡ reports settled subs
all_settled held now settled subs h =
    ap (λ l. (l, flat_map (told_but held now) subs)) (same_after held now settled subs h) ∙ ap (λ n. (map (after settled) subs, n)) (same_told held now settled subs h)
