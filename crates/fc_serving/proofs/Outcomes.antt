-- A known input and a known hub have one ending of those in which nothing failed.
use Rattle.std.proofs.Common.{◌≡◌, ℕ, List, length, refl, sym, ap, subst, ◌∙◌, arith, length-append, Option, Some, Ok}
use Rattle.fc_hub.specs.Hubs.{Held}
use Rattle.fc_serving.specs.declared.end.ElementEnd.{ElementEnd}
use Rattle.fc_serving.specs.declared.end.ElementEnd.TheVariants.{Done, ReadFault, HubFault, Refused, Turns, TooLong}
use Rattle.fc_endings.specs.declared.input.Look.TheVariants as look
use Rattle.fc_endings.specs.Looks.{LookEnds}
use Rattle.fc_serving.specs.ElementRun.{ElementEnds, IsOutcome, MeansLibrary, MeansNone}
use Rattle.fc_endings.proofs.Looking.{read_twice, whole_long}

-- a document means a library or none
either_means : (bytes : List ℕ) → MeansLibrary bytes → MeansNone bytes → ⊥
either_means bytes (given, is) (fault, refused) = let same = sym is ∙ refused in cc same

pub library_or_none : (limit : ℕ) (bytes one two : List ℕ) (l k : Option (List ℕ)) → LookEnds limit (Ok look.Whole) one (Some bytes) l → LookEnds limit (Ok look.Whole) two (Some bytes) k
    → MeansLibrary one → MeansNone two → ⊥
library_or_none limit bytes one two l k read other means none = either_means two (subst MeansLibrary (read_twice limit bytes one two l k read other) means) none

over_turns : (limit id ce turns : ℕ) (bytes : List ℕ) (held : Held) (l k : Option (List ℕ)) (new other : Option Held) (o p n m : Option (List ℕ)) (read reads served serves : ℕ × ℕ)
    → ElementEnds limit id ce turns read served (Ok Done) (Some bytes) l (Some held) new o n → ElementEnds limit id ce turns reads serves (Ok Turns) (Some bytes) k (Some held) other p m → ⊥
over_turns limit id ce turns bytes held l k new other o p n m a b c d (text, (read, events, seen, judged, (few, went, all), is, counts), wrote) (line, (reads, others, looked, weighed, (many, (coming, split, goes)), says, tells), writes) =
    absurd (omega (arith, ap length all, ap length split, length-append others coming))

pub one_outcome : (e f : ElementEnd) (limit id ce turns : ℕ) (bytes : List ℕ) (held : Held) (l k : Option (List ℕ)) (new other : Option Held) (o p n m : Option (List ℕ)) (read reads served serves : ℕ × ℕ) → IsOutcome e → IsOutcome f
    → ElementEnds limit id ce turns read served (Ok e) (Some bytes) l (Some held) new o n → ElementEnds limit id ce turns reads serves (Ok f) (Some bytes) k (Some held) other p m → e ≡ f
one_outcome Done Done limit id ce turns bytes held l k new other o p n m r s u v a b x y = refl
one_outcome Done Turns limit id ce turns bytes held l k new other o p n m r s u v a b x y = absurd (over_turns limit id ce turns bytes held l k new other o p n m r s u v x y)
one_outcome Done Refused limit id ce turns bytes held l k new other o p n m r s u v a b x y = absurd (library_or_none limit bytes x.1.0 y.1.0 l k x.1.2 y.1.2 x.1.3 y.1.3)
one_outcome Done TooLong limit id ce turns bytes held l k new other o p n m r s u v a b x y = absurd (whole_long limit bytes x.1.0 y.1.0 l k x.1.2 y.1.2)
one_outcome Turns Done limit id ce turns bytes held l k new other o p n m r s u v a b x y = absurd (over_turns limit id ce turns bytes held k l other new p o m n s r v u y x)
one_outcome Turns Turns limit id ce turns bytes held l k new other o p n m r s u v a b x y = refl
one_outcome Turns Refused limit id ce turns bytes held l k new other o p n m r s u v a b x y = absurd (library_or_none limit bytes x.1.0 y.1.0 l k x.1.2 y.1.2 x.1.3 y.1.3)
one_outcome Turns TooLong limit id ce turns bytes held l k new other o p n m r s u v a b x y = absurd (whole_long limit bytes x.1.0 y.1.0 l k x.1.2 y.1.2)
one_outcome Refused Done limit id ce turns bytes held l k new other o p n m r s u v a b x y = absurd (library_or_none limit bytes y.1.0 x.1.0 k l y.1.2 x.1.2 y.1.3 x.1.3)
one_outcome Refused Turns limit id ce turns bytes held l k new other o p n m r s u v a b x y = absurd (library_or_none limit bytes y.1.0 x.1.0 k l y.1.2 x.1.2 y.1.3 x.1.3)
one_outcome Refused Refused limit id ce turns bytes held l k new other o p n m r s u v a b x y = refl
one_outcome Refused TooLong limit id ce turns bytes held l k new other o p n m r s u v a b x y = absurd (whole_long limit bytes x.1.0 y.1.0 l k x.1.2 y.1.2)
one_outcome TooLong Done limit id ce turns bytes held l k new other o p n m r s u v a b x y = absurd (whole_long limit bytes y.1.0 x.1.0 k l y.1.2 x.1.2)
one_outcome TooLong Turns limit id ce turns bytes held l k new other o p n m r s u v a b x y = absurd (whole_long limit bytes y.1.0 x.1.0 k l y.1.2 x.1.2)
one_outcome TooLong Refused limit id ce turns bytes held l k new other o p n m r s u v a b x y = absurd (whole_long limit bytes y.1.0 x.1.0 k l y.1.2 x.1.2)
one_outcome TooLong TooLong limit id ce turns bytes held l k new other o p n m r s u v a b x y = refl
one_outcome ReadFault f limit id ce turns bytes held l k new other o p n m r s u v a b x y = absurd a
one_outcome HubFault f limit id ce turns bytes held l k new other o p n m r s u v a b x y = absurd a
one_outcome Done ReadFault limit id ce turns bytes held l k new other o p n m r s u v a b x y = absurd b
one_outcome Done HubFault limit id ce turns bytes held l k new other o p n m r s u v a b x y = absurd b
one_outcome Turns ReadFault limit id ce turns bytes held l k new other o p n m r s u v a b x y = absurd b
one_outcome Turns HubFault limit id ce turns bytes held l k new other o p n m r s u v a b x y = absurd b
one_outcome Refused ReadFault limit id ce turns bytes held l k new other o p n m r s u v a b x y = absurd b
one_outcome Refused HubFault limit id ce turns bytes held l k new other o p n m r s u v a b x y = absurd b
one_outcome TooLong ReadFault limit id ce turns bytes held l k new other o p n m r s u v a b x y = absurd b
one_outcome TooLong HubFault limit id ce turns bytes held l k new other o p n m r s u v a b x y = absurd b
