-- What is sent is appended, counted, and proper.
use Rattle.std.proofs.Common.{◌≡◌, ◌+◌, ℕ, min, List, [], ◌∷◌, ◌++◌, append-nil, append_assoc, length, length-append, map, Option, Some, None, IfSome, refl, sym, ap, ◌∙◌, subst, arith}
use Rattle.std.specs.List.{AllByRecursion}
use Rattle.fc_performing.specs.Sending.{IsSaid}
use Rattle.fc_performing.specs.declared.out.Out.{Out}
use Rattle.fc_wellformed.proofs.Keeping.{all_append}
use Rattle.fc_world.specs.Stages.{AreCounted, IsProperParcel, all_parcels, batch_behind, batches_from, batches_of, most, parcels_in, parcels_of, placed_refusal, refusals_of}
use Rattle.fc_world.specs.Worlds.{downward, upward}
use Rattle.fc_world.specs.declared.lives.Answer.{Answer}
use Rattle.fc_world.specs.declared.lives.Answer.TheVariants as answer
use Rattle.fc_world.specs.declared.faults.Refused.{Refused}
use Rattle.fc_world.specs.declared.sent.Batch.{Batch}
use Rattle.fc_world.specs.declared.sent.Outs.{Outs}
use Rattle.fc_world.specs.declared.sent.Outs.TheVariants as outs
use Rattle.fc_world.specs.declared.sent.Parcel.{Parcel}
use Rattle.fc_world.proofs.Clearing.{SaysWell, down_proper, up_proper}

-- ---- one batch more
whole_more : (bs : List Batch) (b : Batch) → all_parcels (bs ++ b ∷ []) ≡ all_parcels bs ++ parcels_of b
whole_more [] b = append-nil (parcels_of b)
whole_more (c ∷ bs) b = ap (λ l. parcels_of c ++ l) (whole_more bs b) ∙ sym (append_assoc (parcels_of c) (all_parcels bs) (parcels_of b))

counted_more : (n m : ℕ) (bs : List Batch) (b : Batch) → AreCounted n bs → m ≡ n + length (all_parcels bs) → b.before ≡ min m most → AreCounted n (bs ++ b ∷ [])
counted_more n m [] b counted e is = (is ∙ ap (λ k. min k most) (omega (arith, e)), tt)
counted_more n m (c ∷ bs) b counted e is =
    let sum : length (all_parcels (c ∷ bs)) ≡ length (parcels_of c) + length (all_parcels bs) = length-append (parcels_of c) (all_parcels bs) in
    (counted.0, counted_more (n + length (parcels_of c)) m bs b counted.1 (omega (arith, e, sum)) is)

pub counted_behind : (bs : List Batch) (os : Outs) → AreCounted 0 bs → AreCounted 0 (bs ++ batch_behind bs os ∷ [])
counted_behind bs os counted = counted_more 0 (length (all_parcels bs)) bs (batch_behind bs os) counted (omega arith) refl

abbrev AllProper : List Parcel → Type 0
AllProper ps = AllByRecursion IsProperParcel ps

proper_behind : (bs : List Batch) (os : Outs) → AllProper (all_parcels bs) → AllProper (parcels_in os) → AllProper (all_parcels (bs ++ batch_behind bs os ∷ []))
proper_behind bs os all more = subst AllProper (sym (whole_more bs (batch_behind bs os))) (all_append IsProperParcel (all_parcels bs) (parcels_in os) all more)

-- ---- what an element sends
abbrev pub ups : ℕ → Option (List Out) → List Parcel
ups f None = []
ups f (Some os) = upward f os

-- these batches are those, and what was sent behind them
pub record Grows (old new : List Batch) (more : List Parcel) : Type 0 where
  pub whole : all_parcels new ≡ all_parcels old ++ more
  pub counted : AreCounted 0 new
  pub proper : AllByRecursion IsProperParcel (all_parcels new)

stays_grown : (bs : List Batch) → AreCounted 0 bs → AllProper (all_parcels bs) → Grows bs (bs ++ []) []
stays_grown bs counted proper =
    let same = append-nil bs in
    record {
      whole = ap all_parcels same ∙ sym (append-nil (all_parcels bs));
      counted = subst (AreCounted 0) (sym same) counted;
      proper = subst (λ l. AllProper (all_parcels l)) (sym same) proper;
    }

grown_behind : (bs : List Batch) (os : Outs) → AreCounted 0 bs → AllProper (all_parcels bs) → AllProper (parcels_in os) → Grows bs (bs ++ batch_behind bs os ∷ []) (parcels_in os)
grown_behind bs os counted proper more = record {
  whole = whole_more bs (batch_behind bs os);
  counted = counted_behind bs os counted;
  proper = proper_behind bs os proper more;
}

grown_from : (f : ℕ) (bs : List Batch) (o : Option (List Out)) → AreCounted 0 bs → AllProper (all_parcels bs) → IfSome o (AllByRecursion IsSaid) → Grows bs (bs ++ batches_from f bs o) (ups f o)
grown_from f bs None counted proper said = stays_grown bs counted proper
grown_from f bs (Some os) counted proper said = grown_behind bs (outs.OfElement f os) counted proper (up_proper f os said)

pub grows_from : (f : ℕ) (old mid new : List Batch) (o : Option (List Out)) → mid ≡ old → new ≡ mid ++ batches_from f mid o → AreCounted 0 old → AllByRecursion IsProperParcel (all_parcels old)
    → IfSome o (AllByRecursion IsSaid) → Grows old new (ups f o)
grows_from f old mid new o e is counted proper said =
    subst (λ l. Grows old l (ups f o)) (sym (is ∙ ap (λ l. l ++ batches_from f l o) e)) (grown_from f old o counted proper said)

-- ---- what a control element sends
abbrev pub downs : ℕ → Option Answer → List Parcel
downs c None = []
downs c (Some (answer.Spoke os)) = downward c os
downs c (Some (answer.Refused r)) = []

grown_of : (c : ℕ) (bs : List Batch) (a : Option Answer) → AreCounted 0 bs → AllProper (all_parcels bs) → SaysWell a → Grows bs (bs ++ batches_of c bs a) (downs c a)
grown_of c bs None counted proper well = stays_grown bs counted proper
grown_of c bs (Some (answer.Spoke os)) counted proper well = grown_behind bs (outs.OfController c os) counted proper (down_proper c os well)
grown_of c bs (Some (answer.Refused r)) counted proper well = stays_grown bs counted proper

pub grows_of : (c : ℕ) (old mid new : List Batch) (a : Option Answer) → mid ≡ old → new ≡ mid ++ batches_of c mid a → AreCounted 0 old → AllByRecursion IsProperParcel (all_parcels old)
    → SaysWell a → Grows old new (downs c a)
grows_of c old mid new a e is counted proper well =
    subst (λ l. Grows old l (downs c a)) (sym (is ∙ ap (λ l. l ++ batches_of c l a) e)) (grown_of c old a counted proper well)

-- ---- refused calls
pub refused_more : (old more : List (ℕ × Refused)) → map placed_refusal (old ++ more) ≡ map placed_refusal old ++ map placed_refusal more
refused_more [] more = refl
refused_more (r ∷ old) more = ap (λ l. placed_refusal r ∷ l) (refused_more old more)

pub refused_grows : (place : ℕ) (old mid new : List (ℕ × Refused)) (a : Option Answer) → mid ≡ old → new ≡ mid ++ refusals_of place a → map placed_refusal new ≡ map placed_refusal old ++ map placed_refusal (refusals_of place a)
refused_grows place old mid new a e is = ap (map placed_refusal) (is ∙ ap (λ l. l ++ refusals_of place a) e) ∙ refused_more old (refusals_of place a)
