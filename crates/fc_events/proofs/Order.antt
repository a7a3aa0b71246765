-- The order of events, and of what is told of them.
use Rattle.std.proofs.Common.{◌≡◌, ℕ, Bool, true, false, cond, not, List, [], ◌∷◌, ◌++◌, map, Option, Some, None, Result, Ok, Err, refl, sym, ap, subst, ◌∙◌}
use Rattle.std.specs.Cmp.{IsTotalOrder, then_total, on_total, nat_cmp_total, tied_itself}
use Rattle.std.specs.List.{flat_map, filter, AllByRecursion}
use Rattle.std.specs.Ordering.{is_lt, ordering_reverse}
use Rattle.std.specs.declared.cmp.Ordering.{Ordering}
use Rattle.std.specs.declared.cmp.Ordering.TheVariants.{Less, Equal, Greater}
use Rattle.fc_base.specs.Answers.{◌>>=◌}
use Rattle.fc_path.specs.declared.oper.Spot.{Spot}
use Rattle.fc_store.specs.Stores.{Stored}
use Rattle.fc_watch.specs.Settings.{settings_after}
use Rattle.fc_watch.specs.declared.settings.Settings.{Settings}
use Rattle.fc_watch.specs.declared.watch.Told.{Told}
use Rattle.fc_watch.specs.declared.watch.Watch.{Watch}
use Rattle.fc_wire.specs.declared.ilvs.Ilv.{Ilv}
use Rattle.fc_events.specs.Events.{Sight, event_at, sight_of}
use Rattle.fc_events.specs.Order.{Before, DoRise, IsNotBefore, NeverFall, places, told_places}
use Rattle.fc_events.specs.Reports.{evaluated_but, evaluated_in, is_held, notice, reported_by, reports_but}
use Rattle.fc_events.specs.Subscribing.{entered, entered_by, first_watch, is_at, place_cmp, set_event, set_spot, settings_at, with_settings, without_event}
use Rattle.fc_events.specs.declared.subscriptions.EventPlace.{EventPlace}
use Rattle.fc_events.specs.declared.subscriptions.Notice.{Notice}
use Rattle.fc_events.specs.declared.subscriptions.Subscription.{Subscription}

total : IsTotalOrder place_cmp
total = then_total (on_total (λ (p : EventPlace). p.class) nat_cmp_total) (then_total (on_total (λ (p : EventPlace). p.instance) nat_cmp_total) (on_total (λ (p : EventPlace). p.event) nat_cmp_total))

-- ---- entering
all_later : (p q : EventPlace) (ps : List EventPlace) → Before p q → AllByRecursion (Before q) ps → AllByRecursion (Before p) ps
all_later p q [] e h = tt
all_later p q (r ∷ ps) e h = (total.trans p q r e h.0, all_later p q ps e h.1)

all_level : (p q : EventPlace) (ps : List EventPlace) → place_cmp p q ≡ Equal → AllByRecursion (Before q) ps → AllByRecursion (Before p) ps
all_level p q [] e h = tt
all_level p q (r ∷ ps) e h = (total.congr p q r e ∙ h.0, all_level p q ps e h.1)

all_by : (p : EventPlace) (o : Ordering) (s t : Subscription) (ts more : List Subscription) → Before p s.place → AllByRecursion (Before p) (places (t ∷ ts)) → AllByRecursion (Before p) (places more) → AllByRecursion (Before p) (places (entered_by o s t ts more))
all_by p Less s t ts more e h k = (e, h)
all_by p Equal s t ts more e h k = (e, h.1)
all_by p Greater s t ts more e h k = (h.0, k)

all_entered : (p : EventPlace) (s : Subscription) (subs : List Subscription) → Before p s.place → AllByRecursion (Before p) (places subs) → AllByRecursion (Before p) (places (entered s subs))
all_entered p s [] e h = (e, tt)
all_entered p s (t ∷ ts) e h = all_by p (place_cmp s.place t.place) s t ts (entered s ts) e h (all_entered p s ts e h.1)

rises_by : (o : Ordering) (s t : Subscription) (ts : List Subscription) → place_cmp s.place t.place ≡ o → DoRise (places (t ∷ ts)) → DoRise (places (entered s ts)) → DoRise (places (entered_by o s t ts (entered s ts)))
rises_by Less s t ts e h k = ((e, all_later s.place t.place (places ts) e h.0), h)
rises_by Equal s t ts e h k = (all_level s.place t.place (places ts) e h.0, h.1)
rises_by Greater s t ts e h k = (all_entered t.place s ts (total.antisymm t.place s.place ∙ ap ordering_reverse e) h.0, k)

pub entered_rises : (s : Subscription) (subs : List Subscription) → DoRise (places subs) → DoRise (places (entered s subs))
entered_rises s [] h = (tt, tt)
entered_rises s (t ∷ ts) h = rises_by (place_cmp s.place t.place) s t ts refl h (entered_rises s ts h.1)

-- ---- leaving
abbrev stays : EventPlace → Subscription → Bool
stays p s = not (is_at p s)

all_left : (q p : EventPlace) (subs : List Subscription) → AllByRecursion (Before q) (places subs) → AllByRecursion (Before q) (places (without_event p subs))
all_left q p [] h = tt
all_left q p (s ∷ subs) h = elim (stays p s) as (λ b. AllByRecursion (Before q) (places (cond b (s ∷ without_event p subs) (without_event p subs)))) [
  | true ↦ (h.0, all_left q p subs h.1)
  | false ↦ all_left q p subs h.1
]

pub left_rises : (p : EventPlace) (subs : List Subscription) → DoRise (places subs) → DoRise (places (without_event p subs))
left_rises p [] h = tt
left_rises p (s ∷ subs) h = elim (stays p s) as (λ b. DoRise (places (cond b (s ∷ without_event p subs) (without_event p subs)))) [
  | true ↦ (all_left s.place p subs h.0, left_rises p subs h.1)
  | false ↦ left_rises p subs h.1
]

-- ---- a SET-PROP
with_rises : (s : Stored) (p : EventPlace) (t : Settings) (subs : List Subscription) → DoRise (places subs) → DoRise (places (with_settings s p t subs))
with_rises s p t subs h = elim t.registered as (λ b. DoRise (places (cond b (entered (record { place = p; settings = t; watch = first_watch s p }) subs) (without_event p subs)))) [
  | true ↦ entered_rises (record { place = p; settings = t; watch = first_watch s p }) subs h
  | false ↦ left_rises p subs h
]

abbrev DoesRise : Result (List Subscription) ℕ → Type 0
DoesRise (Ok subs) = DoRise (places subs)
DoesRise (Err code) = Unit {0}

settings_rise : (s : Stored) (p : EventPlace) (subs : List Subscription) (r : Result Settings ℕ) → DoRise (places subs) → DoesRise (r >>= λ t. Ok (with_settings s p t subs))
settings_rise s p subs (Ok t) h = with_rises s p t subs h
settings_rise s p subs (Err code) h = tt

place_rises : (s : Stored) (ilvs : List Ilv) (subs : List Subscription) (r : Result EventPlace ℕ) → DoRise (places subs) → DoesRise (r >>= set_event s ilvs subs)
place_rises s ilvs subs (Ok p) h = settings_rise s p subs (settings_after [] (settings_at p subs) ilvs) h
place_rises s ilvs subs (Err code) h = tt

pub set_rises : (s : Stored) (spot : Spot) (ilvs : List Ilv) (subs others : List Subscription) → DoRise (places subs) → set_spot s spot ilvs subs ≡ Ok others → DoRise (places others)
set_rises s spot ilvs subs others h is = subst DoesRise is (place_rises s ilvs subs (event_at s.library s.instances spot) h)

-- ---- reports
place_by : (sub : Subscription) (o : Option Watch) (g : Option Sight) → (reported_by sub o g).0.place ≡ sub.place
place_by sub None g = refl
place_by sub (Some w) None = refl
place_by sub (Some w) (Some sight) = refl

place_but : (s : Stored) (sub : Subscription) (b : Bool) → (cond b (sub, []) (evaluated_in s sub)).0.place ≡ sub.place
place_but s sub true = refl
place_but s sub false = place_by sub sub.watch (sight_of s sub.place)

abbrev after_but : List (ℕ × ℕ) → Stored → Subscription → Subscription
after_but held s sub = (evaluated_but held s sub).0

abbrev told_but : List (ℕ × ℕ) → Stored → Subscription → List Notice
told_but held s sub = (evaluated_but held s sub).1

same_places : (held : List (ℕ × ℕ)) (s : Stored) (subs : List Subscription) → places (map (after_but held s) subs) ≡ places subs
same_places held s [] = refl
same_places held s (sub ∷ subs) =
    ap (λ p. p ∷ places (map (after_but held s) subs)) (place_but s sub (is_held held sub.place)) ∙ ap (λ l. sub.place ∷ l) (same_places held s subs)

pub reported_rises : (held : List (ℕ × ℕ)) (s : Stored) (subs : List Subscription) → DoRise (places subs) → DoRise (places (reports_but held s subs).0)
reported_rises held s subs h = subst DoRise (sym (same_places held s subs)) h

-- ---- notices
abbrev AreAt : EventPlace → List Notice → Type 0
AreAt p notices = AllByRecursion (λ q. q ≡ p) (told_places notices)

at_by_told : (p : EventPlace) (sight : Sight) (told : List Told) → AreAt p (map (notice p sight) told)
at_by_told p sight [] = tt
at_by_told p sight (t ∷ ts) = (refl, at_by_told p sight ts)

at_by : (sub : Subscription) (o : Option Watch) (g : Option Sight) → AreAt sub.place (reported_by sub o g).1
at_by sub None g = tt
at_by sub (Some w) None = tt
at_by sub (Some w) (Some sight) = at_by_told sub.place sight _

at_but : (s : Stored) (sub : Subscription) (b : Bool) → AreAt sub.place (cond b (sub, []) (evaluated_in s sub)).1
at_but s sub true = tt
at_but s sub false = at_by sub sub.watch (sight_of s sub.place)

less_is_not_equal : Less ≡ Equal → ⊥
less_is_not_equal e = subst (λ r. cond (is_lt r) (Unit {0}) ⊥) e tt

less_is_not_greater : Less ≡ Greater → ⊥
less_is_not_greater e = subst (λ r. cond (is_lt r) (Unit {0}) ⊥) e tt

not_before_itself : (p : EventPlace) → IsNotBefore p p
not_before_itself p e = less_is_not_equal (sym e ∙ tied_itself total p)

not_after : (p q : EventPlace) → Before p q → IsNotBefore p q
not_after p q e f = less_is_not_greater (sym f ∙ total.antisymm q p ∙ ap ordering_reverse e)

all_not : (p : EventPlace) (xs ys : List Notice) → AreAt p xs → AllByRecursion (Before p) (told_places ys) → AllByRecursion (IsNotBefore p) (told_places (xs ++ ys))
all_not p [] [] h k = tt
all_not p [] (y ∷ ys) h k = (not_after p y.place k.0, all_not p [] ys tt k.1)
all_not p (x ∷ xs) ys h k = (subst (IsNotBefore p) (sym h.0) (not_before_itself p), all_not p xs ys h.1 k)

fall_front : (p : EventPlace) (xs ys : List Notice) → AreAt p xs → AllByRecursion (Before p) (told_places ys) → NeverFall (told_places ys) → NeverFall (told_places (xs ++ ys))
fall_front p [] ys h k f = f
fall_front p (x ∷ xs) ys h k f =
    (subst (λ q. AllByRecursion (IsNotBefore q) (told_places (xs ++ ys))) (sym h.0) (all_not p xs ys h.1 k), fall_front p xs ys h.1 k f)

all_front : (p q : EventPlace) (xs ys : List Notice) → Before p q → AreAt q xs → AllByRecursion (Before p) (told_places ys) → AllByRecursion (Before p) (told_places (xs ++ ys))
all_front p q [] ys e h k = k
all_front p q (x ∷ xs) ys e h k = (subst (Before p) (sym h.0) e, all_front p q xs ys e h.1 k)

all_told : (p : EventPlace) (held : List (ℕ × ℕ)) (s : Stored) (subs : List Subscription) → AllByRecursion (Before p) (places subs) → AllByRecursion (Before p) (told_places (flat_map (told_but held s) subs))
all_told p held s [] h = tt
all_told p held s (sub ∷ subs) h =
    all_front p sub.place (told_but held s sub) (flat_map (told_but held s) subs) h.0 (at_but s sub (is_held held sub.place)) (all_told p held s subs h.1)

pub never_fall : (held : List (ℕ × ℕ)) (s : Stored) (subs : List Subscription) → DoRise (places subs) → NeverFall (told_places (reports_but held s subs).1)
never_fall held s [] h = tt
never_fall held s (sub ∷ subs) h =
    fall_front sub.place (told_but held s sub) (flat_map (told_but held s) subs) (at_but s sub (is_held held sub.place)) (all_told sub.place held s subs h.0) (never_fall held s subs h.1)
