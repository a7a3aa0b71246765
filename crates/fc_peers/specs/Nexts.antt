-- What stands first among the bytes of a peer: less than a frame, a message, or a frame that is none. This profile's own.
use Rattle.std.specs.Prelude.{◌≡◌, ◌≤◌, ⊤, ℕ, List, length, take, Some, None}
use Rattle.fc_wire.specs.Frames.{IsPartial, frame_len}
use Rattle.fc_msg.specs.Messages.{IsProper}
use Rattle.fc_msg.specs.Reading.{message_in}
use Rattle.fc_peers.specs.declared.arriving.Next.{Next}
use Rattle.fc_peers.specs.declared.arriving.Next.TheVariants as next

abbrev pub IsNextOf : List ℕ → Next → Type 0
IsNextOf bytes next.Nothing = IsPartial bytes
IsNextOf bytes (next.Arrived m) = (frame_len bytes ≤ length bytes) × (message_in (take (frame_len bytes) bytes) ≡ Some m)
IsNextOf bytes next.NoMessage = (frame_len bytes ≤ length bytes) × (message_in (take (frame_len bytes) bytes) ≡ None)

-- a message is one that the grammar has
abbrev pub IsProperNext : Next → Type 0
IsProperNext next.Nothing = ⊤
IsProperNext (next.Arrived m) = IsProper m
IsProperNext next.NoMessage = ⊤
