-- The frames of a stream, as a splitter gives them that is fed the bytes at once. This profile's own, over RFC 5810, section 6.1.
use Rattle.std.specs.Prelude.{ℕ, zero, suc, List, [], ◌∷◌, length}
use Rattle.fc_msg.specs.Splitting.{Call, Split, after_calls, feed, next, unfed}

-- frames are asked for so often
abbrev pub asked : ℕ → List Call
asked zero = []
asked (suc n) = next ∷ asked n

-- each frame has a byte, so as many calls as there are bytes take all frames
unfoldable pub cut_of : List ℕ → Split
cut_of bytes = after_calls unfed (feed bytes ∷ asked (length bytes))

-- the whole frames at the front of bytes
abbrev pub frames : List ℕ → List (List ℕ)
frames bytes = (cut_of bytes).taken

-- what stands after them
abbrev pub rest : List ℕ → List ℕ
rest bytes = (cut_of bytes).rest
