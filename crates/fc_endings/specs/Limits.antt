-- How much is read of an input: this profile's own.
use Rattle.std.specs.Prelude.{ℕ}

-- so many bytes of an input are looked at, 64 MiB; one more shows that there are too many
abbrev pub most_bytes : ℕ
most_bytes = 67108864
