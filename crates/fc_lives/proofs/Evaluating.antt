-- What an evaluation beside what is held leaves and tells.
use Rattle.std.proofs.Common.{◌≡◌, ℕ, Bool, true, false, List, [], ◌∷◌, ◌++◌, map, refl, sym, ap, ◌∙◌, subst}
use Rattle.std.specs.List.{AllByRecursion, flat_map}
use Rattle.fc_events.proofs.Again.{again, all_settled}
use Rattle.fc_events.specs.Events.{sight_of}
use Rattle.fc_events.specs.Reports.{IsSettled, IsSettledBy, evaluated_in, is_held, reported_by, reports, reports_but}
use Rattle.fc_events.specs.declared.subscriptions.EventPlace.{EventPlace}
use Rattle.fc_events.specs.declared.subscriptions.Notice.{Notice}
use Rattle.fc_events.specs.declared.subscriptions.Subscription.{Subscription}
use Rattle.fc_store.specs.Stores.{Stored}
use Rattle.fc_lives.specs.SettledEvents.{AreQuiet, IsQuiet}

-- an event at one of these instances is quiet
abbrev pub IsQuietThere : List (ℕ × ℕ) → Stored → Subscription → Type 0
IsQuietThere held settled sub = is_held held sub.place ≡ true → IsQuiet settled sub

abbrev pub AreQuietThere : List (ℕ × ℕ) → Stored → List Subscription → Type 0
AreQuietThere held settled subs = AllByRecursion (IsQuietThere held settled) subs

pub quiet_there : (held : List (ℕ × ℕ)) (settled : Stored) (subs : List Subscription) → AreQuiet settled subs → AreQuietThere held settled subs
quiet_there held settled [] q = tt
quiet_there held settled (sub ∷ subs) q = (λ e. q.0, quiet_there held settled subs q.1)

-- at another configuration, in which the same is seen there
quiet_seen : (old new : Stored) (sub : Subscription) → sight_of new sub.place ≡ sight_of old sub.place → IsQuiet old sub → IsQuiet new sub
quiet_seen old new sub e q = ap (reported_by sub sub.watch) e ∙ q

pub quiet_moved : (held : List (ℕ × ℕ)) (old new : Stored) (subs : List Subscription) → ((p : EventPlace) → is_held held p ≡ true → sight_of new p ≡ sight_of old p) → AreQuietThere held old subs → AreQuietThere held new subs
quiet_moved held old new [] same q = tt
quiet_moved held old new (sub ∷ subs) same q = (λ e. quiet_seen old new sub (same sub.place e) (q.0 e), quiet_moved held old new subs same q.1)

-- ---- so an evaluation of all others now is one of all at the settled configuration
settled_by : (now settled : Stored) (sub : Subscription) (b : Bool) → (b ≡ true → IsQuiet settled sub) → (b ≡ false → sight_of now sub.place ≡ sight_of settled sub.place) → IsSettledBy now settled sub b
settled_by now settled sub true q same = let p = q refl in (sub, sym (ap (λ (r : Subscription × List Notice). r.0) p))
settled_by now settled sub false q same = same refl

pub all_are : (held : List (ℕ × ℕ)) (now settled : Stored) (subs : List Subscription) → AreQuietThere held settled subs → ((p : EventPlace) → is_held held p ≡ false → sight_of now p ≡ sight_of settled p) → AllByRecursion (IsSettled held now settled) subs
all_are held now settled [] q same = tt
all_are held now settled (sub ∷ subs) q same = (settled_by now settled sub (is_held held sub.place) q.0 (same sub.place), all_are held now settled subs q.1 same)

pub reports_settled : (held : List (ℕ × ℕ)) (now settled : Stored) (subs : List Subscription) → AreQuietThere held settled subs → ((p : EventPlace) → is_held held p ≡ false → sight_of now p ≡ sight_of settled p) → reports_but held now subs ≡ reports settled subs
reports_settled held now settled subs q same = all_settled held now settled subs (all_are held now settled subs q same)

-- ---- and leaves each event quiet
abbrev after : Stored → Subscription → Subscription
after s sub = (evaluated_in s sub).0

abbrev told : Stored → Subscription → List Notice
told s sub = (evaluated_in s sub).1

all_quiet : (s : Stored) (subs : List Subscription) → AreQuiet s (map (after s) subs)
all_quiet s [] = tt
all_quiet s (sub ∷ subs) = (again s sub, all_quiet s subs)

pub reports_quiet : (s : Stored) (subs new : List Subscription) (notices : List Notice) → reports s subs ≡ (new, notices) → AreQuiet s new
reports_quiet s subs new notices e = subst (AreQuiet s) (ap (λ (r : List Subscription × List Notice). r.0) e) (all_quiet s subs)

-- what is quiet is as it was
same_after : (s : Stored) (subs : List Subscription) → AreQuiet s subs → map (after s) subs ≡ subs
same_after s [] q = refl
same_after s (sub ∷ subs) q = ap (λ (r : Subscription × List Notice). r.0 ∷ map (after s) subs) q.0 ∙ ap (λ l. sub ∷ l) (same_after s subs q.1)

none_told : (s : Stored) (subs : List Subscription) → AreQuiet s subs → flat_map (told s) subs ≡ []
none_told s [] q = refl
none_told s (sub ∷ subs) q = ap (λ (r : Subscription × List Notice). r.1 ++ flat_map (told s) subs) q.0 ∙ none_told s subs q.1

pub quiet_reports : (s : Stored) (subs : List Subscription) → AreQuiet s subs → reports s subs ≡ (subs, [])
quiet_reports s subs q = ap (λ l. (l, flat_map (told s) subs)) (same_after s subs q) ∙ ap (λ (n : List Notice). (subs, n)) (none_told s subs q)
