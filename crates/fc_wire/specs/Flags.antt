-- The flags of a header as plain values: RFC 5810, section 6.1.
use Rattle.std.specs.Prelude.{◌<◌, ℕ, Bool}

-- acknowledgement, priority, execution mode, whether in a transaction, and its phase
pub record FlagValues : Type 0 where
  pub ack : ℕ
  pub pri : ℕ
  pub em : ℕ
  pub at : Bool
  pub tp : ℕ

-- each value fits its bits
abbrev pub FlagsFit : FlagValues → Type 0
FlagsFit flags = (flags.ack < 4) × (flags.pri < 8) × (flags.em < 4) × (flags.tp < 4)
