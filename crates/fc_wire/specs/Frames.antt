-- How a stream of bytes is cut into frames, one for each message: RFC 5810, section 6.1, on the length in the header;
-- that a length of less than a header counts as one header is this profile's own.
use Rattle.std.specs.Prelude.{◌≡◌, ◌<◌, ℕ, ◌*◌, max, List, ◌++◌, length, drop, nat_lt, if◌then◌else◌}
use Rattle.std.specs.List.{AllByRecursion, flat_map}
use Rattle.fc_wire.specs.Bytes.{u16_at}

-- how long the frame is that begins with these bytes: its words stand in its bytes 2 and 3, and count for 6 at least
abbrev pub frame_len : List ℕ → ℕ
frame_len bytes = 4 * max (u16_at bytes 2) 6

-- the bytes are one frame
abbrev pub IsFrame : List ℕ → Type 0
IsFrame bytes = length bytes ≡ frame_len bytes

-- no whole frame stands at the front; bytes that are not there count 0, so fewer than 24 bytes never hold one
abbrev pub IsPartial : List ℕ → Type 0
IsPartial bytes = length bytes < frame_len bytes

-- the bytes without the first frame, where one stands there
abbrev pub without_first : List ℕ → List ℕ
without_first bytes = if nat_lt (length bytes) (frame_len bytes) then bytes else drop (frame_len bytes) bytes

-- one after the other
abbrev pub joined : List (List ℕ) → List ℕ
joined frames = flat_map (λ frame. frame) frames

-- the bytes are the frames, one after the other, and then less than a whole frame
pub record Frames (bytes : List ℕ) (frames : List (List ℕ)) (rest : List ℕ) : Type 0 where
  pub whole : bytes ≡ joined frames ++ rest
  pub each : AllByRecursion IsFrame frames
  pub partial : IsPartial rest
