-- A heartbeat can be encoded.
use Rattle.std.proofs.Common.{◌≡◌, ◌&&◌, nat_lt, length, true, ap, sym}
use Rattle.fc_msg.specs.Messages.{message_fits, body_written}
use Rattle.fc_msg.specs.declared.message.Message.{Message}
use Rattle.fc_msg.specs.declared.message.MsgBody.TheVariants.{Heartbeat}

pub heartbeat_fits : (m : Message) → m.body ≡ Heartbeat → true ≡ message_fits m
unfolding message_fits
heartbeat_fits m e = ap (λ b. nat_lt (length (body_written b).text) 262117 && (body_written b).fits) (sym e)
