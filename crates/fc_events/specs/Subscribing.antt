-- What is registered for events, and what a SET-PROP makes of it: RFC 5812, section 4.8.5, and RFC 5810, section 7.1.6; the codes and
-- their order are this profile's own.
use Rattle.std.specs.Prelude.{◌≡◌, ℕ, suc, ◌==◌, ◌&&◌, Bool, not, List, [], ◌∷◌, find, Option, Some, None, option_map, Result, Ok, Err, if◌then◌else◌}
use Rattle.std.specs.List.{filter, list_any}
use Rattle.std.specs.Ordering.{nat_cmp, ordering_then}
use Rattle.std.specs.declared.cmp.Ordering.{Ordering}
use Rattle.std.specs.declared.cmp.Ordering.TheVariants.{Less, Equal, Greater}
use Rattle.fc_base.specs.Answers.{◌>>=◌}
use Rattle.fc_base.specs.declared.faults.OpFault.{OpFault}
use Rattle.fc_path.specs.declared.oper.Spot.{Spot}
use Rattle.fc_store.specs.Stores.{Stored}
use Rattle.fc_value.specs.Outcomes.{Fails}
use Rattle.fc_watch.specs.Settings.{opening, settings_after}
use Rattle.fc_watch.specs.Watching.{started}
use Rattle.fc_watch.specs.declared.settings.Settings.{Settings}
use Rattle.fc_watch.specs.declared.watch.Watch.{Watch}
use Rattle.fc_wire.specs.declared.ilvs.Ilv.{Ilv}
use Rattle.fc_events.specs.Events.{Sight, event_at, place, seen_of, sight_of}
use Rattle.fc_events.specs.declared.subscriptions.EventPlace.{EventPlace}
use Rattle.fc_events.specs.declared.subscriptions.Subscription.{Subscription}

-- events go by class, instance and ID
abbrev pub place_cmp : EventPlace → EventPlace → Ordering
place_cmp p q = ordering_then (nat_cmp p.class q.class) (ordering_then (nat_cmp p.instance q.instance) (nat_cmp p.event q.event))

abbrev pub is_at : EventPlace → Subscription → Bool
is_at p s = (s.place.class == p.class) && ((s.place.instance == p.instance) && (s.place.event == p.event))

-- the subscription of an event
abbrev pub subscribed : EventPlace → List Subscription → Option Subscription
subscribed p subs = find (is_at p) subs

abbrev pub settings_or_opening : Option Subscription → Settings
settings_or_opening None = opening
settings_or_opening (Some s) = s.settings

-- the properties of an event
abbrev pub settings_at : EventPlace → List Subscription → Settings
settings_at p subs = settings_or_opening (subscribed p subs)

abbrev pub is_registered : ℕ → ℕ → ℕ → List Subscription → Bool
is_registered class instance event subs = list_any (is_at (place class instance event)) subs

-- with a subscription in its place, where another one of its event gives way
abbrev pub entered_by : Ordering → Subscription → Subscription → List Subscription → List Subscription → List Subscription
entered_by Less s t ts more = s ∷ t ∷ ts
entered_by Equal s t ts more = s ∷ ts
entered_by Greater s t ts more = t ∷ more

abbrev pub entered : Subscription → List Subscription → List Subscription
entered s [] = s ∷ []
entered s (t ∷ ts) = entered_by (place_cmp s.place t.place) s t ts (entered s ts)

-- the place of the subscription of an event among rising ones, or else where it belongs
abbrev pub later : Result ℕ ℕ → Result ℕ ℕ
later (Ok at) = Ok (suc at)
later (Err at) = Err (suc at)

abbrev pub seat_by : Ordering → Result ℕ ℕ → Result ℕ ℕ
seat_by Less more = Err 0
seat_by Equal more = Ok 0
seat_by Greater more = later more

abbrev pub seat : EventPlace → List Subscription → Result ℕ ℕ
seat p [] = Err 0
seat p (t ∷ ts) = seat_by (place_cmp p t.place) (seat p ts)

-- without that of an event
abbrev pub without_event : EventPlace → List Subscription → List Subscription
without_event p subs = filter (λ s. not (is_at p s)) subs

-- the memory that starts with what there is at the target, where there is anything
abbrev pub first_watch : Stored → EventPlace → Option Watch
first_watch s p = option_map (λ (sight : Sight). started (seen_of sight.ty sight.value)) (sight_of s p)

-- an event with other properties: it is registered with a memory that starts anew, or not registered
abbrev pub with_settings : Stored → EventPlace → Settings → List Subscription → List Subscription
with_settings s p t subs =
    if t.registered then entered (record { place = p; settings = t; watch = first_watch s p }) subs else without_event p subs

abbrev pub set_event : Stored → List Ilv → List Subscription → EventPlace → Result (List Subscription) ℕ
set_event s ilvs subs p = settings_after [] (settings_at p subs) ilvs >>= λ t. Ok (with_settings s p t subs)

-- what a SET-PROP makes of what is registered, or its code
abbrev pub set_spot : Stored → Spot → List Ilv → List Subscription → Result (List Subscription) ℕ
set_spot s spot ilvs subs = event_at s.library s.instances spot >>= set_event s ilvs subs

-- what a call answers and what is registered then: what is meant, or after the code of a refusal, and for want of memory, what was
-- registered before
abbrev pub Set : Result (Unit {0}) OpFault → Result (List Subscription) ℕ → List Subscription → List Subscription → Type 0
Set (Ok x) meant old new = meant ≡ Ok new
Set (Err fault) meant old new = Fails fault meant × (new ≡ old)
