-- What is told of registered events when the configuration has settled: RFC 5812, section 4.8.5, and RFC 5810, section 7.1.6, on REPORT;
-- the order of the notices is this profile's own.
use Rattle.std.specs.Prelude.{◌≡◌, ℕ, Bool, true, false, List, [], ◌∷◌, ◌++◌, map, Option, Some, None, if◌then◌else◌}
use Rattle.std.specs.List.{flat_map, list_any}
use Rattle.fc_store.specs.Stores.{Stored}
use Rattle.fc_types.specs.Libraries.{same_instance}
use Rattle.fc_value.specs.Writing.{full_bytes}
use Rattle.fc_watch.specs.Settings.{condition_of}
use Rattle.fc_watch.specs.Watching.{evaluated}
use Rattle.fc_watch.specs.declared.watch.Told.{Told}
use Rattle.fc_watch.specs.declared.watch.Told.TheVariants as told
use Rattle.fc_watch.specs.declared.watch.Watch.{Watch}
use Rattle.fc_wire.specs.Bytes.{u32_bytes}
use Rattle.fc_events.specs.Events.{Sight, is_signed, seen_of, sight_of}
use Rattle.fc_events.specs.declared.subscriptions.EventPlace.{EventPlace}
use Rattle.fc_events.specs.declared.subscriptions.Notice.{Notice}
use Rattle.fc_events.specs.declared.subscriptions.Subscription.{Subscription}

-- the value of a notice: the target as it is, or the subscript of the entry
abbrev pub told_bytes : Sight → Told → List ℕ
told_bytes sight told.Target = full_bytes sight.ty sight.value
told_bytes sight (told.Entry subscript) = u32_bytes subscript

abbrev pub notice : EventPlace → Sight → Told → Notice
notice p sight t = record { place = p; value = told_bytes sight t }

abbrev pub with_watch : Subscription → Watch → Subscription
with_watch sub watch = record { place = sub.place; settings = sub.settings; watch = Some watch }

abbrev pub reported : Subscription → Sight → Watch × List Told → Subscription × List Notice
reported sub sight r = (with_watch sub r.0, map (notice sub.place sight) r.1)

abbrev pub reported_at : Subscription → Watch → Sight → Subscription × List Notice
reported_at sub watch sight =
    reported sub sight (evaluated (condition_of sight.when (is_signed sight.ty) sub.settings) watch (seen_of sight.ty sight.value))

abbrev pub reported_by : Subscription → Option Watch → Option Sight → Subscription × List Notice
reported_by sub None sight = (sub, [])
reported_by sub (Some watch) None = (sub, [])
reported_by sub (Some watch) (Some sight) = reported_at sub watch sight

-- a subscription after an evaluation of its event, with what is told; an event without a memory, or whose target has no value in the
-- configuration, is not told
abbrev pub evaluated_in : Stored → Subscription → Subscription × List Notice
evaluated_in s sub = reported_by sub sub.watch (sight_of s sub.place)

-- whether an event stands at one of these instances
abbrev pub is_held : List (ℕ × ℕ) → EventPlace → Bool
is_held held p = list_any (same_instance (p.class, p.instance)) held

abbrev pub evaluated_but : List (ℕ × ℕ) → Stored → Subscription → Subscription × List Notice
evaluated_but held s sub = if is_held held sub.place then (sub, []) else evaluated_in s sub

-- what is registered after an evaluation of each event outside these instances, in their order, and all that is told
abbrev pub reports_but : List (ℕ × ℕ) → Stored → List Subscription → List Subscription × List Notice
reports_but held s subs =
    (map (λ sub. (evaluated_but held s sub).0) subs, flat_map (λ sub. (evaluated_but held s sub).1) subs)

-- the same of every event
abbrev pub reports : Stored → List Subscription → List Subscription × List Notice
reports = reports_but []

-- what is registered of an event, and what is told behind other notices
abbrev pub Reported : List Notice → List Notice → Subscription → Subscription × List Notice → Type 0
Reported old new sub r = (sub ≡ r.0) × (new ≡ old ++ r.1)

-- an event at one of the instances is as an evaluation at the settled configuration left it, and every other one sees there what it sees now
abbrev pub IsSettledBy : Stored → Stored → Subscription → Bool → Type 0
IsSettledBy now settled sub true = (before : Subscription) × (sub ≡ (evaluated_in settled before).0)
IsSettledBy now settled sub false = sight_of now sub.place ≡ sight_of settled sub.place

abbrev pub IsSettled : List (ℕ × ℕ) → Stored → Stored → Subscription → Type 0
IsSettled held now settled sub = IsSettledBy now settled sub (is_held held sub.place)
