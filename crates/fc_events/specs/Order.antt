-- The order of events, and of what is told of them. This profile's own.
use Rattle.std.specs.Prelude.{◌≡◌, List, [], ◌∷◌, map}
use Rattle.std.specs.List.{AllByRecursion}
use Rattle.std.specs.declared.cmp.Ordering.TheVariants.{Less}
use Rattle.fc_events.specs.Subscribing.{place_cmp}
use Rattle.fc_events.specs.declared.subscriptions.EventPlace.{EventPlace}
use Rattle.fc_events.specs.declared.subscriptions.Notice.{Notice}
use Rattle.fc_events.specs.declared.subscriptions.Subscription.{Subscription}

-- an event is before another one by its class, its instance and its ID
abbrev pub Before : EventPlace → EventPlace → Type 0
Before p q = place_cmp p q ≡ Less

-- each one is before those after it
abbrev pub DoRise : List EventPlace → Type 0
DoRise [] = Unit {0}
DoRise (p ∷ ps) = AllByRecursion (Before p) ps × DoRise ps

abbrev pub IsNotBefore : EventPlace → EventPlace → Type 0
IsNotBefore p q = Before q p → ⊥

-- none is before one that stands in front of it
abbrev pub NeverFall : List EventPlace → Type 0
NeverFall [] = Unit {0}
NeverFall (p ∷ ps) = AllByRecursion (IsNotBefore p) ps × NeverFall ps

abbrev pub places : List Subscription → List EventPlace
places subs = map (λ (s : Subscription). s.place) subs

abbrev pub told_places : List Notice → List EventPlace
told_places notices = map (λ (n : Notice). n.place) notices
