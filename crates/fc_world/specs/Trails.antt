-- One number for all messages that were sent. This profile's own.
use Rattle.std.specs.Prelude.{ℕ, ◌+◌, ◌*◌, ◌%◌, ◌^◌, List, drop, length, Option, Some, None}
use Rattle.std.specs.List.{fold}
use Rattle.fc_msg.specs.Messages.{canonical}
use Rattle.fc_jobs.specs.declared.sending.CeOut.{CeOut}
use Rattle.fc_performing.specs.declared.out.Out.{Out}
use Rattle.fc_world.specs.declared.sent.Parcel.{Parcel}
use Rattle.fc_world.specs.Worlds.{message_of}

-- behind one more byte
abbrev pub trodden : ℕ → ℕ → ℕ
trodden h b = (31 * h + b) % 2 ^ 32

-- behind the bytes of one more message
abbrev pub past : ℕ → Parcel → ℕ
past h p = fold trodden h (canonical (message_of p))

-- the same of what an element, or a control element, sends
abbrev pub past_out : ℕ → Out → ℕ
past_out h o = fold trodden h (canonical o.message)

abbrev pub past_ce_out : ℕ → CeOut → ℕ
past_ce_out h o = fold trodden h (canonical o.message)

abbrev pub trail_of : List Parcel → ℕ
trail_of ps = fold past 0 ps

-- ---- a trail that is taken along
-- of how many messages it is, the first of all, and the number that these make
pub record TrailSoFar : Type 0 where
  pub count : ℕ
  pub number : ℕ

-- of none
abbrev pub no_trail : TrailSoFar
no_trail = record { count = 0; number = 0 }

-- behind the next message, where there is one
abbrev pub behind_next : Option Parcel → TrailSoFar → TrailSoFar
behind_next None t = t
behind_next (Some p) t = record { count = t.count + 1; number = past t.number p }

-- behind all of these messages
abbrev pub gone_on : List Parcel → TrailSoFar → TrailSoFar
gone_on ps t = record { count = t.count + length (drop t.count ps); number = fold past t.number (drop t.count ps) }
