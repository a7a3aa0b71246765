-- Where the message of a number stands, and how many there are, among batches that know how many messages were sent before them.
use Rattle.std.proofs.Common.{◌≡◌, ℕ, ◌<◌, ◌≤◌, ◌+◌, ◌-◌, min, zero, suc, List, [], ◌∷◌, ◌++◌, length, refl, sym, ap, subst, ◌∙◌, arith, Option, Some, None, slice_get}
use Rattle.std.proofs.lemmas.List.{length-append}
use Rattle.std.proofs.lemmas.Option.{none-some}
use Rattle.std.specs.List.{HoldsAt}
use Rattle.fc_world.specs.Lookups.{parcel_in}
use Rattle.fc_world.specs.Stages.{AreCounted, all_parcels, most, parcels_of}
use Rattle.fc_world.specs.declared.sent.Batch.{Batch}
use Rattle.fc_world.specs.declared.sent.Parcel.{Parcel}

-- a place in the first of two lists, and one behind it
in_front : {A : Type 0} (xs ys : List A) (i : ℕ) → i < length xs → slice_get (xs ++ ys) i ≡ slice_get xs i
in_front [] ys i l = absurd (omega arith)
in_front (x ∷ xs) ys zero l = refl
in_front (x ∷ xs) ys (suc i) l = in_front xs ys i (omega arith)

behind : {A : Type 0} (xs ys : List A) (k i : ℕ) → k ≡ length xs + i → slice_get (xs ++ ys) k ≡ slice_get ys i
behind [] ys k i e = let z : k ≡ i = omega arith in ap (λ j. slice_get ys j) z
behind (x ∷ xs) ys zero i e = absurd (omega arith)
behind (x ∷ xs) ys (suc k) i e = behind xs ys k i (omega arith)

alone : {A : Type 0} (xs : List A) (i : ℕ) → slice_get (xs ++ []) i ≡ slice_get xs i
alone [] i = refl
alone (x ∷ xs) zero = refl
alone (x ∷ xs) (suc i) = alone xs i

-- a batch that begins at or before a place has all that was sent before it there
reached : (bs : List Batch) (n place at : ℕ) → AreCounted n bs → place < most → at < length bs → HoldsAt (λ (b : Batch). b.before ≤ place) bs at → n ≤ place
reached [] n place at c l s h = absurd (omega arith)
reached (b ∷ bs) n place zero c l s h = let e : b.before ≡ min n most = c.0 in let u : b.before ≤ place = h b in omega arith
reached (b ∷ bs) n place (suc at) c l s h =
    let r : n + length (parcels_of b) ≤ place = reached bs (n + length (parcels_of b)) place at c.1 l (omega arith) (λ d. h d) in
    omega arith

-- the first batch, where the next one begins later
first : (b : Batch) (bs : List Batch) (n k place : ℕ) → AreCounted n (b ∷ bs) → place ≡ n + k → place < most → (1 < length (b ∷ bs) → HoldsAt (λ (d : Batch). place < d.before) (b ∷ bs) 1)
    → slice_get (all_parcels (b ∷ bs)) k ≡ slice_get (parcels_of b) (place - b.before)
first b [] n k place c p l h =
    let e : b.before ≡ min n most = c.0 in
    let z : k ≡ place - b.before = omega arith in
    alone (parcels_of b) k ∙ ap (λ i. slice_get (parcels_of b) i) z
first b (d ∷ bs) n k place c p l h =
    let e : b.before ≡ min n most = c.0 in
    let f : d.before ≡ min (n + length (parcels_of b)) most = c.1.0 in
    let u : place < d.before = h (omega arith) d in
    let z : k ≡ place - b.before = omega arith in
    in_front (parcels_of b) (all_parcels (d ∷ bs)) k (omega arith) ∙ ap (λ i. slice_get (parcels_of b) i) z

-- what stands at a place of one that is there
abbrev part_of : Option Batch → ℕ → Option Parcel
part_of None place = None
part_of (Some b) place = slice_get (parcels_of b) (place - b.before)

begun : (bs : List Batch) (n k place at : ℕ) (b : Batch) → AreCounted n bs → place ≡ n + k → place < most → at < length bs → slice_get bs at ≡ Some b
    → HoldsAt (λ (d : Batch). d.before ≤ place) bs at → (at + 1 < length bs → HoldsAt (λ (d : Batch). place < d.before) bs (at + 1))
    → slice_get (all_parcels bs) k ≡ slice_get (parcels_of b) (place - b.before)
begun [] n k place at b c p l s g f h = absurd (omega arith)
begun (a ∷ bs) n k place zero b c p l s g f h = subst (λ (x : Option Batch). slice_get (all_parcels (a ∷ bs)) k ≡ part_of x place) g (first a bs n k place c p l h)
begun (a ∷ bs) n k place (suc at) b c p l s g f h =
    let r : n + length (parcels_of a) ≤ place = reached bs (n + length (parcels_of a)) place at c.1 l (omega arith) (λ d. f d) in
    let w : suc at + 1 ≡ suc (at + 1) = omega arith in
    behind (parcels_of a) (all_parcels bs) k (k - length (parcels_of a)) (omega arith)
    ∙ begun bs (n + length (parcels_of a)) (k - length (parcels_of a)) place at b c.1 (omega arith) l (omega arith) g (λ d. f d) (λ t d. subst (λ x. HoldsAt (λ (e : Batch). place < e.before) (a ∷ bs) x) w (h (omega arith)) d)

-- The message of a number, whose place is one less: the first batches up to this many begin at that place or before it, and those behind them
-- later.
pub found : (bs : List Batch) (number place many i : ℕ) (b : Batch) → AreCounted 0 bs → number ≡ place + 1 → number ≤ most → 0 < many → many ≤ length bs → slice_get bs (many - 1) ≡ Some b
    → HoldsAt (λ (d : Batch). d.before ≤ place) bs (many - 1) → (many < length bs → HoldsAt (λ (d : Batch). place < d.before) bs many) → i ≡ place - b.before
    → parcel_in number (all_parcels bs) ≡ slice_get (parcels_of b) i
found bs number place many i b c p m o l g f h e =
    let z : number ≡ suc place = omega arith in
    let w : many ≡ (many - 1) + 1 = omega arith in
    ap (λ x. parcel_in x (all_parcels bs)) z
    ∙ (begun bs 0 place place (many - 1) b c (omega arith) (omega arith) (omega arith) g f (λ t. subst (λ x. HoldsAt (λ (d : Batch). place < d.before) bs x) w (h (omega arith)))
    ∙ ap (λ x. slice_get (parcels_of b) x) (sym e))

-- and where no batch begins there or before there is none
pub none_found : (bs : List Batch) (number place many : ℕ) → AreCounted 0 bs → many ≡ 0 → (many < length bs → HoldsAt (λ (d : Batch). place < d.before) bs many) → number ≡ place + 1
    → parcel_in number (all_parcels bs) ≡ None
none_found bs number place many c z h p = let w : number ≡ suc place = omega arith in ap (λ x. parcel_in x (all_parcels bs)) w ∙ by bs c (subst (λ x. x < length bs → HoldsAt (λ (d : Batch). place < d.before) bs x) z h)
  where
    by : (bs : List Batch) → AreCounted 0 bs → (0 < length bs → HoldsAt (λ (d : Batch). place < d.before) bs 0) → slice_get (all_parcels bs) place ≡ None
    by [] c h = refl
    by (b ∷ bs) c h = let e : b.before ≡ min 0 most = c.0 in let u : place < b.before = h (omega arith) b in absurd (omega arith)

-- ---- how many there are
abbrev count_of : Option Batch → ℕ
count_of None = 0
count_of (Some b) = min (b.before + length (parcels_of b)) most

counted : (bs : List Batch) (n : ℕ) (b : Batch) → AreCounted n bs → slice_get bs (length bs - 1) ≡ Some b → min (b.before + length (parcels_of b)) most ≡ min (n + length (all_parcels bs)) most
counted [] n b c g = absurd (none-some b g)
counted (a ∷ []) n b c g =
    let e : a.before ≡ min n most = c.0 in
    let l : length (all_parcels (a ∷ [])) ≡ length (parcels_of a) + 0 = length-append (parcels_of a) [] in
    let s : min (a.before + length (parcels_of a)) most ≡ count_of (Some b) = ap count_of g in
    let t : min (a.before + length (parcels_of a)) most ≡ min (n + length (all_parcels (a ∷ []))) most = omega arith in
    sym s ∙ t
counted (a ∷ d ∷ bs) n b c g =
    let w : length (a ∷ d ∷ bs) - 1 ≡ suc (length (d ∷ bs) - 1) = omega arith in
    let r : min (b.before + length (parcels_of b)) most ≡ min ((n + length (parcels_of a)) + length (all_parcels (d ∷ bs))) most =
    counted (d ∷ bs) (n + length (parcels_of a)) b c.1 (ap (λ x. slice_get (a ∷ d ∷ bs) x) (sym w) ∙ g) in
    let l : length (all_parcels (a ∷ d ∷ bs)) ≡ length (parcels_of a) + length (all_parcels (d ∷ bs)) = length-append (parcels_of a) (all_parcels (d ∷ bs)) in
    r ∙ ap (λ x. min x most) (omega arith)

pub count_is : (bs : List Batch) (b : Batch) (last r : ℕ) → last ≡ length (parcels_of b) → r ≡ min (b.before + last) most → slice_get bs (length bs - 1) ≡ Some b → AreCounted 0 bs → r ≡ min (length (all_parcels bs)) most
count_is bs b last r l e g c = let z : 0 + length (all_parcels bs) ≡ length (all_parcels bs) = omega arith in e ∙ (ap (λ x. min (b.before + x) most) l ∙ (counted bs 0 b c g ∙ ap (λ x. min x most) z))
