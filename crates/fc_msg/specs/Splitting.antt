-- What a splitter has taken and what is left, after any pieces were fed and any frames asked for: RFC 5810, section 6.1,
-- of a stream that comes in pieces.
use Rattle.std.specs.Prelude.{ℕ, List, [], ◌∷◌, ◌++◌, length, take, nat_lt, if◌then◌else◌}
use Rattle.fc_wire.specs.Frames.{frame_len, without_first}

-- a call on a splitter: a piece is fed, or the next frame is asked for
pub data Call : Type 0 where
  feed : List ℕ → Call
  next : Call

-- the frames that were taken, and the bytes that are left
pub record Split : Type 0 where
  pub taken : List (List ℕ)
  pub rest : List ℕ

-- the frame that stands whole at the front, where there is one
abbrev pub first_frame : List ℕ → List (List ℕ)
first_frame bytes = if nat_lt (length bytes) (frame_len bytes) then [] else take (frame_len bytes) bytes ∷ []

-- one call
abbrev pub after_call : Split → Call → Split
after_call s (feed piece) = record { taken = s.taken; rest = s.rest ++ piece }
after_call s next = record { taken = s.taken ++ first_frame s.rest; rest = without_first s.rest }

-- all calls, in their order
abbrev pub after_calls : Split → List Call → Split
after_calls s [] = s
after_calls s (call ∷ calls) = after_calls (after_call s call) calls

-- nothing was fed
abbrev pub unfed : Split
unfed = record { taken = []; rest = [] }

-- the whole stream: the pieces that were fed, one after the other
abbrev pub fed : List Call → List ℕ
fed [] = []
fed (feed piece ∷ calls) = piece ++ fed calls
fed (next ∷ calls) = fed calls
