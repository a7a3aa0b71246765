-- How `make` ends, from how its parts ended, and that a known input has one ending.
use Rattle.std.proofs.Common.{◌≡◌, ℕ, List, [], ◌++◌, refl, sym, ap, ◌∙◌, Option, Some, Result, Ok, Err, IfOk}
use Rattle.std.specs.Prelude.{⊤}
use Rattle.std.specs.Io.KnownBytes.{Keeps}
use Rattle.fc_base.specs.Content.{AppendsFront}
use Rattle.fc_msg.specs.declared.message.Message.{Message}
use Rattle.fc_making.specs.Making.{Makes as AreMade}
use Rattle.fc_text.specs.TextGrammar.{SpellsText}
use Rattle.fc_lines.specs.TextPlaces.{TextPlace}
use Rattle.fc_text.specs.TextReading.{text_in}
use Rattle.fc_lines.specs.declared.fault.TextFault.TheVariants.{At}
use Rattle.fc_endings.specs.declared.input.Look.TheVariants as look
use Rattle.fc_tool.specs.declared.make.Made.{Made}
use Rattle.fc_tool.specs.declared.make.Made.TheVariants.{Done, ReadFault, Refused, TooLong}
use Rattle.fc_endings.specs.declared.stops.Stop.{Stop}
use Rattle.fc_endings.specs.Looks.{LookEnds}
use Rattle.fc_tool.specs.Make.{IsTextOf, IsTold, MakeEnds, MakeLacked, MakeWent, Makes, TextEnds, TextWent, bytes_of, look_of}
use Rattle.fc_endings.proofs.Endings.{cut_short, finished_ends, widened}
use Rattle.fc_endings.proofs.Looking.{read_twice, whole_long}

-- ---- the text

-- what was made of a text is the bytes of whatever messages it is a text of
pub made_of : (bytes written old new : List ℕ) (ms : List Message) → ((ns : List Message) → SpellsText ns bytes → AreMade (Ok tt) (Ok ns) old new) → SpellsText ms bytes → old ≡ [] → written ≡ new
    → IsTextOf ms bytes written
made_of bytes written old new ms only spelled e w = (
  spelled,
  λ ns s.
      let (ks, is, made) = only ns s in
      let same : ns ≡ ks = cc in
      w ∙ made ∙ ap (λ l. l ++ bytes_of ks) e ∙ ap bytes_of (sym same),
)

-- a text that is refused is one of no messages
pub none_of : (bytes old new : List ℕ) (line column : ℕ) → ((ns : List Message) → SpellsText ns bytes → AreMade (Err (At line column)) (Ok ns) old new) → (ms : List Message) → SpellsText ms bytes → ⊥
none_of bytes old new line column only ms s = let is = (only ms s).0 in cc

-- of what is to be written of the text a front was
pub text_stops : (stop : Stop) (end : Made) (bytes written : List ℕ) (old new : Option (List ℕ)) → look_of end ≡ look.Whole → Makes end bytes written
    → AppendsFront old new written → TextEnds bytes (Err stop) old new
text_stops stop end bytes written old new whole makes front = cut_short Made (TextWent bytes) ⊤ stop end old new written (whole, makes) front

-- the input was read whole
pub whole_ends : (how : Result Made Stop) (limit : ℕ) (bytes : List ℕ) (before left old new : Option (List ℕ)) → LookEnds limit (Ok look.Whole) bytes before left
    → TextEnds bytes how old new → MakeEnds limit how before left old new
whole_ends how limit bytes before left old new read ends =
    widened Made (TextWent bytes) (MakeWent limit before left) ⊤ (MakeLacked limit before left) how old new
    (λ end written went. (bytes, rw went.0 read, went.1)) (λ lacked. (bytes, read.0, read.2)) ends

-- what was written stands after the flush, and where the flush stopped
pub make_finished : (end : Made) (how : Result Made Stop) (limit : ℕ) (before left old mid new : Option (List ℕ)) → MakeEnds limit (Ok end) before left old mid
    → IfOk how (λ last. last ≡ end) → Keeps mid new → MakeEnds limit how before left old new
make_finished end how limit before left old mid new ends is kept =
    finished_ends Made (MakeWent limit before left) (MakeLacked limit before left) end how old mid new ends is kept

-- ---- one ending

text_or_none : (limit : ℕ) (bytes one two : List ℕ) (l k : Option (List ℕ)) (ms : List Message) (at : TextPlace) → LookEnds limit (Ok look.Whole) one (Some bytes) l
    → LookEnds limit (Ok look.Whole) two (Some bytes) k → text_in one ≡ Ok ms → text_in two ≡ Err at → ⊥
text_or_none limit bytes one two l k ms at read other is refused =
    let same = sym is ∙ ap text_in (read_twice limit bytes one two l k read other) ∙ refused in cc same

pub one_made : (e f : Made) (limit : ℕ) (bytes : List ℕ) (l k o p n m : Option (List ℕ)) → IsTold e → IsTold f
    → MakeEnds limit (Ok e) (Some bytes) l o n → MakeEnds limit (Ok f) (Some bytes) k p m → e ≡ f
one_made Done Done limit bytes l k o p n m a b x y = refl
one_made Done Refused limit bytes l k o p n m a b x y = absurd (text_or_none limit bytes x.1.0 y.1.0 l k _ _ x.1.1 y.1.1 x.1.2.1 y.1.2.1)
one_made Done TooLong limit bytes l k o p n m a b x y = absurd (whole_long limit bytes x.1.0 y.1.0 l k x.1.1 y.1.1)
one_made Refused Done limit bytes l k o p n m a b x y = absurd (text_or_none limit bytes y.1.0 x.1.0 k l _ _ y.1.1 x.1.1 y.1.2.1 x.1.2.1)
one_made Refused Refused limit bytes l k o p n m a b x y = refl
one_made Refused TooLong limit bytes l k o p n m a b x y = absurd (whole_long limit bytes x.1.0 y.1.0 l k x.1.1 y.1.1)
one_made TooLong Done limit bytes l k o p n m a b x y = absurd (whole_long limit bytes y.1.0 x.1.0 k l y.1.1 x.1.1)
one_made TooLong Refused limit bytes l k o p n m a b x y = absurd (whole_long limit bytes y.1.0 x.1.0 k l y.1.1 x.1.1)
one_made TooLong TooLong limit bytes l k o p n m a b x y = refl
one_made ReadFault f limit bytes l k o p n m a b x y = absurd a
one_made Done ReadFault limit bytes l k o p n m a b x y = absurd b
one_made Refused ReadFault limit bytes l k o p n m a b x y = absurd b
one_made TooLong ReadFault limit bytes l k o p n m a b x y = absurd b
