-- The first by its bytes of some keys.
use Rattle.std.proofs.Common.{◌≡◌, ◌↔◌, ◌||◌, ℕ, Bool, true, false, if◌then◌else◌, List, [], ◌∷◌, Ok, Err, Ordering, Less, Equal, Greater, refl, ap, subst}
use Rattle.std.proofs.lemmas.Cmp.{nat_list_cmp_total, upto, tied_itself}
use Rattle.std.proofs.lemmas.Slice.Eq.{bytes_eq-Decides}
use Rattle.std.specs.Cmp.Lexicographic.{slice_cmp}
use Rattle.std.specs.List.{AllByRecursion, list_any}
use Rattle.std.specs.Ordering.{nat_cmp, is_gt, ordering_reverse}
use Rattle.std.specs.Str.{bytes_eq}
use Rattle.toml.specs.Data.{Members}
use Rattle.fc_library.specs.declared.fault.LibFault.TheVariants.{Unknown}
use Rattle.fc_library.specs.Keys.{is_among, unknown_keys, least_from, none_of, only}

-- a key that is not after another, which is so at least one way round
abbrev NotAfter : List ℕ → List ℕ → Type 0
NotAfter key other = is_gt (slice_cmp nat_cmp key other) ≡ false

turned : (o : Ordering) → is_gt o ≡ true → is_gt (ordering_reverse o) ≡ false
turned Less h = cc
turned Equal h = cc
turned Greater h = refl

not_back : (key other : List ℕ) → is_gt (slice_cmp nat_cmp key other) ≡ true → NotAfter other key
not_back key other h = rw (nat_list_cmp_total.antisymm other key) (turned (slice_cmp nat_cmp key other) h)

not_itself : (key : List ℕ) → NotAfter key key
not_itself key = rw (tied_itself nat_list_cmp_total key) refl

of_itself : (key : List ℕ) → bytes_eq key key ≡ true
of_itself key = (bytes_eq-Decides key key).1 refl

second : (a b : Bool) → b ≡ true → (a || b) ≡ true
second true b h = refl
second false b h = h

around : (a b c : Bool) → (a || c) ≡ true → (a || (b || c)) ≡ true
around true b c h = refl
around false true c h = refl
around false false c h = h

among_by : (after : Bool) (key other : List ℕ) (keys : List (List ℕ)) → is_among (least_from other keys) (other ∷ keys) ≡ true
    → is_among (least_from key keys) (key ∷ keys) ≡ true → is_among (least_from (if after then other else key) keys) (key ∷ other ∷ keys) ≡ true
among_by true key other keys h k = second (bytes_eq (least_from other keys) key) _ h
among_by false key other keys h k = around (bytes_eq (least_from key keys) key) (bytes_eq (least_from key keys) other) (list_any (bytes_eq (least_from key keys)) keys) k

least_among : (key : List ℕ) (keys : List (List ℕ)) → is_among (least_from key keys) (key ∷ keys) ≡ true
least_among key [] = rw (of_itself key) refl
least_among key (other ∷ keys) = among_by (is_gt (slice_cmp nat_cmp key other)) key other keys (least_among other keys) (least_among key keys)

-- no key of some is before the one
abbrev NoneBefore : List ℕ → List (List ℕ) → Type 0
NoneBefore key keys = AllByRecursion (λ other. is_gt (slice_cmp nat_cmp key other) ≡ false) keys

before_by : (after : Bool) (key other : List ℕ) (keys : List (List ℕ)) → is_gt (slice_cmp nat_cmp key other) ≡ after → NoneBefore (least_from other keys) (other ∷ keys)
    → NoneBefore (least_from key keys) (key ∷ keys) → NoneBefore (least_from (if after then other else key) keys) (key ∷ other ∷ keys)
before_by true key other keys is h k = (upto nat_list_cmp_total _ other key h.0 (not_back key other is), h)
before_by false key other keys is h k = (k.0, (upto nat_list_cmp_total _ key other k.0 is, k.1))

least_before : (key : List ℕ) (keys : List (List ℕ)) → NoneBefore (least_from key keys) (key ∷ keys)
least_before key [] = (not_itself key, tt)
least_before key (other ∷ keys) = before_by (is_gt (slice_cmp nat_cmp key other)) key other keys refl (least_before other keys) (least_before key keys)

told_of : (keys : List (List ℕ)) (key : List ℕ) → none_of keys ≡ Err (Unknown key) → (is_among key keys ≡ true) × AllByRecursion (λ other. is_gt (slice_cmp nat_cmp key other) ≡ false) keys
told_of [] key h = cc
told_of (k ∷ keys) key h =
    let same : least_from k keys ≡ key = cc in
    subst (λ x. (is_among x (k ∷ keys) ≡ true) × NoneBefore x (k ∷ keys)) same (least_among k keys, least_before k keys)

pub least_is_told : (known : List (List ℕ)) (ms : Members) (key : List ℕ) → only known ms ≡ Err (Unknown key)
    → (is_among key (unknown_keys known ms) ≡ true) × AllByRecursion (λ other. is_gt (slice_cmp nat_cmp key other) ≡ false) (unknown_keys known ms)
least_is_told known ms key h = told_of (unknown_keys known ms) key h

none_is : (keys : List (List ℕ)) → none_of keys ≡ Ok tt → keys ≡ []
none_is [] h = refl
none_is (k ∷ keys) h = cc

pub none_is_told : (known : List (List ℕ)) (ms : Members) → only known ms ≡ Ok tt ↔ unknown_keys known ms ≡ []
none_is_told known ms = (λ h. none_is (unknown_keys known ms) h, λ e. ap none_of e)
