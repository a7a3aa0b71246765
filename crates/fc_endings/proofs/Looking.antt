-- What is read of a known input.
use Rattle.std.proofs.Common.{◌≡◌, ◌∙◌, ◌++◌, ℕ, List, [], length, refl, sym, ap, arith, append-nil, length-append, Option, None, Some, Ok}
use Rattle.std.specs.Io.KnownBytes.{Consumes, IsAtEnd}
use Rattle.fc_endings.specs.Looks.{LookEnds}
use Rattle.fc_endings.specs.declared.input.Look.TheVariants as look

-- nothing was read
pub consumes_none : (known : Option (List ℕ)) → Consumes known known []
consumes_none None = tt
consumes_none (Some xs) = refl

-- what was read up to the end is all
pub all_read : (bytes read : List ℕ) (left : Option (List ℕ)) → Consumes (Some bytes) left read → IsAtEnd left → bytes ≡ read
all_read bytes read None consumed end = absurd consumed
all_read bytes read (Some xs) consumed end = consumed ∙ ap (λ l. read ++ l) end ∙ append-nil read

-- and else a front of all
pub front_read : (bytes read : List ℕ) (left : Option (List ℕ)) → Consumes (Some bytes) left read → (more : List ℕ) × (bytes ≡ read ++ more)
front_read bytes read None consumed = absurd consumed
front_read bytes read (Some xs) consumed = (xs, consumed)

-- an input that is read whole is read whole once
pub read_twice : (limit : ℕ) (bytes one two : List ℕ) (l k : Option (List ℕ)) → LookEnds limit (Ok look.Whole) one (Some bytes) l → LookEnds limit (Ok look.Whole) two (Some bytes) k → one ≡ two
read_twice limit bytes one two l k (consumed, end, le) (read, finish, short) = sym (all_read bytes one l consumed end) ∙ all_read bytes two k read finish

-- and is never seen to be longer than is looked at
pub whole_long : (limit : ℕ) (bytes one two : List ℕ) (l k : Option (List ℕ)) → LookEnds limit (Ok look.Whole) one (Some bytes) l → LookEnds limit (Ok look.TooLong) two (Some bytes) k → ⊥
whole_long limit bytes one two l k (consumed, end, le) (consumes, long) =
    let same = all_read bytes one l consumed end in
    let (more, split) = front_read bytes two k consumes in
    absurd (omega (arith, ap length same, ap length split, length-append two more))
