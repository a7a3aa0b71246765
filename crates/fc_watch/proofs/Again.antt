-- A second evaluation.
use Rattle.std.proofs.Common.{◌≡◌, ℕ, ◌==◌, ◌&&◌, ◌||◌, not, nat_lt, nat_le, ℤ, pos, negsuc, int_lt, int_le, ◌-ℤ◌, ◌+ℤ◌, Bool, true, false, cond, List, [], ◌∷◌, map, refl, ap, ◌∙◌, arith, rules, if◌then◌else◌}
use Rattle.std.specs.List.{list_any}
use Rattle.std.specs.Str.{bytes_eq}
use Rattle.fc_types.specs.declared.class.When.{When}
use Rattle.fc_types.specs.declared.class.When.TheVariants as when
use Rattle.fc_watch.specs.declared.watch.Condition.{Condition}
use Rattle.fc_watch.specs.declared.watch.Seen.{Seen}
use Rattle.fc_watch.specs.declared.watch.Seen.TheVariants as seen
use Rattle.fc_watch.specs.declared.watch.Told.TheVariants as told
use Rattle.fc_watch.specs.declared.watch.Watch.{Watch}
use Rattle.fc_watch.specs.Watching.{number, subscripts, once, without, gap, differs, hits_of, armed_of, last_of, noted, after, evaluated}

-- a value above the threshold is not below it by the hysteresis
apart : (t w : ℤ) (v : ℕ) → int_lt t w ≡ true → int_le w (t -ℤ pos v) ≡ false
apart t w v h = grind arith

apart_below : (t w : ℤ) (v : ℕ) → int_lt w t ≡ true → int_le (t +ℤ pos v) w ≡ false
apart_below t w v h = grind arith

-- armed before, satisfied, and beyond the hysteresis: not satisfied twice, and armed as it was
stays_quiet : (armed x y : Bool) → (x ≡ true → y ≡ false) → ((if armed then not x else y) && x) ≡ false
stays_quiet true true y h = refl
stays_quiet true false y h = refl
stays_quiet false true y h = ap (λ b. b && true) (h refl)
stays_quiet false false true h = refl
stays_quiet false false false h = refl

stays_armed : (armed x y : Bool) → (x ≡ true → y ≡ false) → (if (if armed then not x else y) then not x else y) ≡ (if armed then not x else y)
stays_armed true true y h = h refl
stays_armed true false y h = refl
stays_armed false true y h = ap (λ b. if b then false else y) (h refl)
stays_armed false false true h = refl
stays_armed false false false h = refl

gap_same : (w : ℤ) → gap w w ≡ 0
gap_same (pos a) = omega arith
gap_same (negsuc a) = omega arith

bytes_same : (xs : List ℕ) → bytes_eq xs xs ≡ true
bytes_same [] = refl
bytes_same (x ∷ xs) = search rules

or_right : (a b : Bool) → b ≡ true → (a || b) ≡ true
or_right true b h = refl
or_right false b h = h

any_here : (x : ℕ) (xs : List ℕ) → list_any (λ y. y == x) (x ∷ xs) ≡ true
any_here x xs = grind arith

any_behind : (x z : ℕ) (xs : List ℕ) → list_any (λ y. y == x) xs ≡ true → list_any (λ y. y == x) (z ∷ xs) ≡ true
any_behind x z xs h = or_right (z == x) (list_any (λ y. y == x) xs) h

none_without : (xs zs : List ℕ) → ((x : ℕ) → list_any (λ y. y == x) xs ≡ true → list_any (λ y. y == x) zs ≡ true) → without xs zs ≡ []
none_without [] zs h = refl
none_without (x ∷ xs) zs h =
    ap (λ b. cond (not b) (x ∷ without xs zs) (without xs zs)) (h x (any_here x xs)) ∙ none_without xs zs (λ z k. h z (any_behind z x xs k))

differs_same : (v : ℕ) (w : Seen) → differs v w w ≡ false
differs_same v (seen.Number w) = ap (λ n. nat_lt 0 n && nat_le v n) (gap_same w)
differs_same v (seen.Bytes b) = ap not (bytes_same b)
differs_same v (seen.Subscripts s) = refl

none_twice : (xs : List ℕ) → map told.Entry (without xs xs) ≡ []
none_twice xs = ap (map told.Entry) (none_without xs xs (λ x h. h))

-- nothing is satisfied where the value is the one seen last
quiet : (k : When) (c : Condition) (armed : Bool) (old w : Seen) (s : ℕ) → hits_of k c (record { armed = armed_of k c armed w; satisfied = s; last = last_of k old w }) w ≡ []
quiet when.Greater c armed old w s =
    ap once (stays_quiet armed (int_lt c.threshold (number w)) (int_le (number w) (c.threshold -ℤ pos c.hysteresis)) (λ h. apart c.threshold (number w) c.hysteresis h))
quiet when.Less c armed old w s =
    ap once (stays_quiet armed (int_lt (number w) c.threshold) (int_le (c.threshold +ℤ pos c.hysteresis) (number w)) (λ h. apart_below c.threshold (number w) c.hysteresis h))
quiet when.Changed c armed old w s = ap once (differs_same c.hysteresis w)
quiet when.Created c armed old w s = none_twice (subscripts w)
quiet when.Deleted c armed old w s = none_twice (subscripts w)

still : (k : When) (c : Condition) (armed : Bool) (w : Seen) → armed_of k c (armed_of k c armed w) w ≡ armed_of k c armed w
still when.Greater c armed w =
    stays_armed armed (int_lt c.threshold (number w)) (int_le (number w) (c.threshold -ℤ pos c.hysteresis)) (λ h. apart c.threshold (number w) c.hysteresis h)
still when.Less c armed w =
    stays_armed armed (int_lt (number w) c.threshold) (int_le (c.threshold +ℤ pos c.hysteresis) (number w)) (λ h. apart_below c.threshold (number w) c.hysteresis h)
still when.Changed c armed w = refl
still when.Created c armed w = refl
still when.Deleted c armed w = refl

last_again : (k : When) (old w : Seen) → last_of k (last_of k old w) w ≡ last_of k old w
last_again when.Greater old w = refl
last_again when.Less old w = refl
last_again when.Changed old w = refl
last_again when.Created old w = refl
last_again when.Deleted old w = refl

abbrev watch : Bool → ℕ → Seen → Watch
watch armed satisfied last = record { armed = armed; satisfied = satisfied; last = last }

after_again : (c : Condition) (w : Watch) (x : Seen) (s : ℕ) → evaluated c (after c w x s) x ≡ (after c w x s, [])
after_again c w x s =
    let f = after c w x s in
    ap (λ hits. (after c f x (noted c.count s hits).0, (noted c.count s hits).1)) (quiet c.when c w.armed w.last x s)
    ∙ ap (λ (b : Bool). (watch b s (last_of c.when f.last x), [])) (still c.when c w.armed x)
    ∙ ap (λ (y : Seen). (watch f.armed s y, [])) (last_again c.when w.last x)

-- a second evaluation on an equal value
pub equal_value : (c : Condition) (w : Watch) (x : Seen) → evaluated c (evaluated c w x).0 x ≡ ((evaluated c w x).0, [])
equal_value c w x = after_again c w x (noted c.count w.satisfied (hits_of c.when c w x)).0

-- an event that is not armed arms only beyond the hysteresis
pub arms_above : (c : Condition) (x : Seen) → armed_of when.Greater c false x ≡ true → int_le (number x) (c.threshold -ℤ pos c.hysteresis) ≡ true
arms_above c x h = h

pub arms_below : (c : Condition) (x : Seen) → armed_of when.Less c false x ≡ true → int_le (c.threshold +ℤ pos c.hysteresis) (number x) ≡ true
arms_below c x h = h
