-- Where a subscription stands, and what it means to enter it there.
use Rattle.std.proofs.Common.{◌≡◌, ℕ, zero, suc, ◌+◌, ◌<◌, ◌≤◌, List, [], ◌∷◌, length, slice_set, Result, Ok, Err, refl, sym, ap, ◌∙◌, arith}
use Rattle.std.specs.List.{insert}
use Rattle.std.specs.List.Sorted.{IsSearchInRange}
use Rattle.std.specs.declared.cmp.Ordering.{Ordering}
use Rattle.std.specs.declared.cmp.Ordering.TheVariants.{Less, Equal, Greater}
use Rattle.fc_events.specs.Subscribing.{entered, entered_by, later, place_cmp, seat, seat_by}
use Rattle.fc_events.specs.declared.subscriptions.EventPlace.{EventPlace}
use Rattle.fc_events.specs.declared.subscriptions.Subscription.{Subscription}

abbrev pub shifted : ℕ → Result ℕ ℕ → Result ℕ ℕ
shifted n (Ok at) = Ok (n + at)
shifted n (Err at) = Err (n + at)

abbrev pub placed : Subscription → List Subscription → Result ℕ ℕ → List Subscription
placed s subs (Ok at) = slice_set subs at s
placed s subs (Err at) = insert subs at s

placed_later : (s t : Subscription) (ts : List Subscription) (r : Result ℕ ℕ) → placed s (t ∷ ts) (later r) ≡ t ∷ placed s ts r
placed_later s t ts (Ok at) = refl
placed_later s t ts (Err at) = refl

entered_at : (s t : Subscription) (ts : List Subscription) (o : Ordering) → entered s ts ≡ placed s ts (seat s.place ts) → entered_by o s t ts (entered s ts) ≡ placed s (t ∷ ts) (seat_by o (seat s.place ts))
entered_at s t ts Less more = refl
entered_at s t ts Equal more = refl
entered_at s t ts Greater more = ap (λ l. t ∷ l) more ∙ sym (placed_later s t ts (seat s.place ts))

-- to enter a subscription is to put it where its event has its seat
pub entered_is : (s : Subscription) (subs : List Subscription) → entered s subs ≡ placed s subs (seat s.place subs)
entered_is s [] = refl
entered_is s (t ∷ ts) = entered_at s t ts (place_cmp s.place t.place) (entered_is s ts)

range_later : (r : Result ℕ ℕ) (n : ℕ) → IsSearchInRange r n → IsSearchInRange (later r) (suc n)
range_later (Ok at) n h = omega (arith, h)
range_later (Err at) n h = omega (arith, h)

range_by : (o : Ordering) (r : Result ℕ ℕ) (n : ℕ) → IsSearchInRange r n → IsSearchInRange (seat_by o r) (suc n)
range_by Less r n h = omega arith
range_by Equal r n h = omega arith
range_by Greater r n h = range_later r n h

-- a seat is a place of the list, or the one behind its end
pub seat_in_range : (p : EventPlace) (subs : List Subscription) → IsSearchInRange (seat p subs) (length subs)
seat_in_range p [] = omega arith
seat_in_range p (t ∷ ts) = range_by (place_cmp p t.place) (seat p ts) (length ts) (seat_in_range p ts)

-- what stands there afterwards, by what was found
pub entered_seen : (s : Subscription) (subs : List Subscription) (r : Result ℕ ℕ) → r ≡ seat s.place subs → placed s subs r ≡ entered s subs
entered_seen s subs r is = ap (placed s subs) is ∙ sym (entered_is s subs)
