-- What the words meant, from what was answered of them.
use Rattle.std.proofs.Common.{◌≡◌, ◌∙◌, sym, ap, refl, ℕ, List, [], ◌⊎◌, Option, None, Some, Result, Ok, Err, inl, inr, take, arith}
use Rattle.std.proofs.KnownBytes.{Appends-nil}
use Rattle.fc_base.specs.Causes.{Rose}
use Rattle.fc_playing.specs.Runs.{WasPlayed}
use Rattle.fc_words.specs.declared.commands.Command.{Command}
use Rattle.fc_words.specs.declared.commands.Command.TheVariants.{Control, Element, Gen, Make, Show, World}
use Rattle.fc_tool.specs.declared.make.Made.{Made}
use Rattle.fc_tool.specs.declared.show.Shown.{Shown}
use Rattle.fc_endings.specs.declared.stops.Stop.{Stop}
use Rattle.fc_tool.specs.declared.make.Made.TheVariants as made
use Rattle.fc_tool.specs.declared.show.Shown.TheVariants as shown
use Rattle.fc_endings.specs.declared.stops.Stop.TheVariants.{NoMemory, WriteFault}
use Rattle.fc_endings.specs.Endings.{EndCount}
use Rattle.fc_tool.specs.Make.{MakeEnds, is_unread as make_unread, make_status}
use Rattle.fc_tool.specs.Run.{UsageEnds, usage_status}
use Rattle.fc_tool.specs.Runs.{MakeRuns, ShowRuns}
use Rattle.fc_tool.specs.Show.{ShowEnds, is_unread as show_unread, status_of}
use Rattle.fc_endings.specs.Stops.{SinkCount}
use Rattle.fc_endings.proofs.Endings.{none_written}
use Rattle.fc_tool.proofs.Shows.{stops_here}
use Rattle.fc_endings.proofs.Looking.{consumes_none}

fe_of : Option Command → ℕ
fe_of (Some (Element fe ce address connections turns)) = fe
fe_of (Some (Control ce rounds connections turns addresses)) = 0
fe_of (Some Show) = 0
fe_of (Some Make) = 0
fe_of (Some World) = 0
fe_of (Some (Gen n)) = 0
fe_of None = 0

ce_of : Option Command → ℕ
ce_of (Some (Element fe ce address connections turns)) = ce
ce_of (Some (Control ce rounds connections turns addresses)) = ce
ce_of (Some Show) = 0
ce_of (Some Make) = 0
ce_of (Some World) = 0
ce_of (Some (Gen n)) = 0
ce_of None = 0

turns_of : Option Command → ℕ
turns_of (Some (Element fe ce address connections turns)) = turns
turns_of (Some (Control ce rounds connections turns addresses)) = turns
turns_of (Some Show) = 0
turns_of (Some Make) = 0
turns_of (Some World) = 0
turns_of (Some (Gen n)) = 0
turns_of None = 0

-- two answers of the same words are one
pub one_element : (meant : Option Command) (fe ce : ℕ) (address : List ℕ) (connections turns : ℕ) (fe' ce' : ℕ) (address' : List ℕ) (connections' turns' : ℕ)
    → meant ≡ Some (Element fe ce address connections turns) → meant ≡ Some (Element fe' ce' address' connections' turns') → (fe ≡ fe') × (ce ≡ ce') × (turns ≡ turns')
unfolding fe_of ce_of turns_of
one_element meant fe ce address connections turns fe' ce' address' connections' turns' one other =
    let same = sym one ∙ other in (ap fe_of same, ap ce_of same, ap turns_of same)

pub not_both : (meant : Option Command) (fe ce : ℕ) (address : List ℕ) (connections turns : ℕ) → meant ≡ Some (Element fe ce address connections turns) → meant ≡ Some Show → ⊥
not_both meant fe ce address connections turns one other = let same = sym one ∙ other in cc same

pub show_or_make : (meant : Option Command) → meant ≡ Some Show → meant ≡ Some Make → ⊥
show_or_make meant one other = let same = sym one ∙ other in cc same

pub element_or_make : (meant : Option Command) (fe ce : ℕ) (address : List ℕ) (connections turns : ℕ) → meant ≡ Some (Element fe ce address connections turns) → meant ≡ Some Make → ⊥
element_or_make meant fe ce address connections turns one other = let same = sym one ∙ other in cc same

addresses_of : Option Command → List (List ℕ)
addresses_of (Some (Element fe ce address connections turns)) = []
addresses_of (Some (Control ce rounds connections turns addresses)) = addresses
addresses_of (Some Show) = []
addresses_of (Some Make) = []
addresses_of (Some World) = []
addresses_of (Some (Gen n)) = []
addresses_of None = []

pub one_control : (meant : Option Command) (ce : ℕ) (rounds : List ℕ) (connections turns : ℕ) (addresses : List (List ℕ)) (ce' : ℕ) (rounds' : List ℕ) (connections' turns' : ℕ) (addresses' : List (List ℕ))
    → meant ≡ Some (Control ce rounds connections turns addresses) → meant ≡ Some (Control ce' rounds' connections' turns' addresses') → (ce ≡ ce') × (turns ≡ turns') × (addresses ≡ addresses')
unfolding ce_of turns_of addresses_of
one_control meant ce rounds connections turns addresses ce' rounds' connections' turns' addresses' one other =
    let same = sym one ∙ other in (ap ce_of same, ap turns_of same, ap addresses_of same)

pub show_or_control : (meant : Option Command) (ce : ℕ) (rounds : List ℕ) (connections turns : ℕ) (addresses : List (List ℕ)) → meant ≡ Some (Control ce rounds connections turns addresses) → meant ≡ Some Show → ⊥
show_or_control meant ce rounds connections turns addresses one other = let same = sym one ∙ other in cc same

pub make_or_control : (meant : Option Command) (ce : ℕ) (rounds : List ℕ) (connections turns : ℕ) (addresses : List (List ℕ)) → meant ≡ Some (Control ce rounds connections turns addresses) → meant ≡ Some Make → ⊥
make_or_control meant ce rounds connections turns addresses one other = let same = sym one ∙ other in cc same

pub element_or_control : (meant : Option Command) (ce : ℕ) (rounds : List ℕ) (connections turns : ℕ) (addresses : List (List ℕ)) (fe ce' : ℕ) (address : List ℕ) (connections' turns' : ℕ)
    → meant ≡ Some (Control ce rounds connections turns addresses) → meant ≡ Some (Element fe ce' address connections' turns') → ⊥
element_or_control meant ce rounds connections turns addresses fe ce' address connections' turns' one other = let same = sym one ∙ other in cc same

pub world_or_show : (meant : Option Command) → meant ≡ Some World → meant ≡ Some Show → ⊥
world_or_show meant one other = let same = sym one ∙ other in cc same

pub world_or_make : (meant : Option Command) → meant ≡ Some World → meant ≡ Some Make → ⊥
world_or_make meant one other = let same = sym one ∙ other in cc same

pub world_or_element : (meant : Option Command) (fe ce : ℕ) (address : List ℕ) (connections turns : ℕ) → meant ≡ Some World → meant ≡ Some (Element fe ce address connections turns) → ⊥
world_or_element meant fe ce address connections turns one other = let same = sym one ∙ other in cc same

pub world_or_control : (meant : Option Command) (ce : ℕ) (rounds : List ℕ) (connections turns : ℕ) (addresses : List (List ℕ)) → meant ≡ Some World → meant ≡ Some (Control ce rounds connections turns addresses) → ⊥
world_or_control meant ce rounds connections turns addresses one other = let same = sym one ∙ other in cc same

pub gen_or_show : (meant : Option Command) (n : ℕ) → meant ≡ Some (Gen n) → meant ≡ Some Show → ⊥
gen_or_show meant n one other = let same = sym one ∙ other in cc same

pub gen_or_make : (meant : Option Command) (n : ℕ) → meant ≡ Some (Gen n) → meant ≡ Some Make → ⊥
gen_or_make meant n one other = let same = sym one ∙ other in cc same

pub gen_or_world : (meant : Option Command) (n : ℕ) → meant ≡ Some (Gen n) → meant ≡ Some World → ⊥
gen_or_world meant n one other = let same = sym one ∙ other in cc same

pub gen_or_element : (meant : Option Command) (n fe ce : ℕ) (address : List ℕ) (connections turns : ℕ) → meant ≡ Some (Gen n) → meant ≡ Some (Element fe ce address connections turns) → ⊥
gen_or_element meant n fe ce address connections turns one other = let same = sym one ∙ other in cc same

pub gen_or_control : (meant : Option Command) (n ce : ℕ) (rounds : List ℕ) (connections turns : ℕ) (addresses : List (List ℕ)) → meant ≡ Some (Gen n) → meant ≡ Some (Control ce rounds connections turns addresses) → ⊥
gen_or_control meant n ce rounds connections turns addresses one other = let same = sym one ∙ other in cc same

count_of : Option Command → ℕ
count_of (Some (Element fe ce address connections turns)) = 0
count_of (Some (Control ce rounds connections turns addresses)) = 0
count_of (Some Show) = 0
count_of (Some Make) = 0
count_of (Some World) = 0
count_of (Some (Gen n)) = n
count_of None = 0

pub one_gen : (meant : Option Command) (n m : ℕ) → meant ≡ Some (Gen n) → meant ≡ Some (Gen m) → n ≡ m
unfolding count_of
one_gen meant n m one other = ap count_of (sym one ∙ other)

-- ---- a run of a command

show_decides : (how : Result Shown Stop) (f f' k k' : ℕ) → EndCount show_unread how f f' → SinkCount how k k' → (Rose f f' → ⊥) → (Rose k k' → ⊥)
    → (status_of how ≡ 0) ⊎ ((status_of how ≡ 6) ⊎ ((status_of how ≡ 12) ⊎ (status_of how ≡ 9)))
show_decides (Ok shown.Done) f f' k k' source sink read wrote = inl refl
show_decides (Ok shown.ReadFault) f f' k k' source sink read wrote = absurd (read source)
show_decides (Ok shown.Refused) f f' k k' source sink read wrote = inr (inl refl)
show_decides (Ok shown.TooLong) f f' k k' source sink read wrote = inr (inr (inl refl))
show_decides (Err WriteFault) f f' k k' source sink read wrote = absurd (wrote sink)
show_decides (Err NoMemory) f f' k k' source sink read wrote = inr (inr (inr refl))

pub show_runs : (how : Result Shown Stop) (limit status : ℕ) (before left old new : Option (List ℕ)) (f f' k k' : ℕ) → status ≡ status_of how → ShowEnds limit how before left old new
    → EndCount show_unread how f f' → SinkCount how k k' → ShowRuns limit status before left old new (Rose f f') (Rose k k')
show_runs how limit status before left old new f f' k k' is ends source sink =
    record { ends = (how, is, ends); complete = λ read wrote. rw is (show_decides how f f' k k' source sink read wrote) }

make_decides : (how : Result Made Stop) (f f' k k' : ℕ) → EndCount make_unread how f f' → SinkCount how k k' → (Rose f f' → ⊥) → (Rose k k' → ⊥)
    → (make_status how ≡ 0) ⊎ ((make_status how ≡ 5) ⊎ ((make_status how ≡ 12) ⊎ (make_status how ≡ 9)))
make_decides (Ok made.Done) f f' k k' source sink read wrote = inl refl
make_decides (Ok made.ReadFault) f f' k k' source sink read wrote = absurd (read source)
make_decides (Ok made.Refused) f f' k k' source sink read wrote = inr (inl refl)
make_decides (Ok made.TooLong) f f' k k' source sink read wrote = inr (inr (inl refl))
make_decides (Err WriteFault) f f' k k' source sink read wrote = absurd (wrote sink)
make_decides (Err NoMemory) f f' k k' source sink read wrote = inr (inr (inr refl))

pub make_runs : (how : Result Made Stop) (limit status : ℕ) (before left old new : Option (List ℕ)) (f f' k k' : ℕ) → status ≡ make_status how → MakeEnds limit how before left old new
    → EndCount make_unread how f f' → SinkCount how k k' → MakeRuns limit status before left old new (Rose f f') (Rose k k')
make_runs how limit status before left old new f f' k k' is ends source sink =
    record { ends = (how, is, ends); complete = λ read wrote. rw is (make_decides how f f' k k' source sink read wrote) }

-- no memory, and nothing was done
pub usage_none : (known : Option (List ℕ)) → (how : Result (Unit {0}) Stop) × (9 ≡ usage_status how) × UsageEnds how known known
usage_none known = (Err NoMemory, refl, none_written known _)

pub show_none : (limit : ℕ) (left known : Option (List ℕ)) (f k : ℕ) → ShowRuns limit 9 left left known known (Rose f f) (Rose k k)
show_none limit left known f k =
    show_runs (Err NoMemory) limit 9 left left known known f f k k refl
    ([], consumes_none left, (omega arith, stops_here _ _ (take limit []) [] (take limit []) known known (record { frames = []; whole = refl; each = tt }) (Appends-nil known)))
    (inl refl) refl

pub make_none : (limit : ℕ) (left known : Option (List ℕ)) (f k : ℕ) → MakeRuns limit 9 left left known known (Rose f f) (Rose k k)
make_none limit left known f k =
    make_runs (Err NoMemory) limit 9 left left known known f f k k refl (inr (([], consumes_none left, omega arith), Appends-nil known)) (inl refl) refl

-- with the status of that no script was played
pub not_played : (limit status : ℕ) (document : List ℕ) (Unread : Type 0) → status ≡ 9 → WasPlayed limit status document Unread → ⊥
not_played limit status document Unread is (inl at) = absurd (omega (arith, is, at))
not_played limit status document Unread is (inr (inl at)) = absurd (omega (arith, is, at))
not_played limit status document Unread is (inr (inr (at, short, read))) = absurd (omega (arith, is, at))
