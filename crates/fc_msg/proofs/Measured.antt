-- Messages that can be encoded.
use Rattle.std.proofs.Common.{◌≡◌, ℕ, ◌+◌, ◌*◌, ◌/◌, ◌&&◌, Bool, true, nat_lt, length, Some, refl, sym, ap, ◌∙◌, arith}
use Rattle.fc_wire.specs.Bytes.{u32_bytes}
use Rattle.fc_path.specs.Canon.{Written, plain, wrapped}
use Rattle.fc_path.specs.Results.{Held}
use Rattle.fc_path.proofs.Closing.{both_true}
use Rattle.fc_path.proofs.Sizes.{lt_yes, tlv_size}
use Rattle.fc_msg.specs.Messages.{body_written, message_fits, selects_written}
use Rattle.fc_msg.specs.declared.message.Message.{Message}
use Rattle.fc_msg.specs.declared.message.MsgBody.{MsgBody}

abbrev pub text_fits : Written → Bool
text_fits w = nat_lt (length w.text) 262117 && w.fits

pub held_fits : (w : Written) (n : ℕ) → Held 262117 (Some n) w → true ≡ text_fits w
held_fits w n h = sym (both_true _ _ (lt_yes (length w.text) 262117 (omega (arith, h.1, h.2))) h.0)

-- by the body of a message
pub fits_by : (m : Message) (b : MsgBody) (can : Bool) → m.body ≡ b → can ≡ text_fits (body_written b) → can ≡ message_fits m
unfolding message_fits
fits_by m b can is fits = fits ∙ ap (λ x. text_fits (body_written x)) (sym is)

pub number_fits : (kind number : ℕ) → true ≡ text_fits (wrapped kind (plain (u32_bytes number)))
number_fits kind number = sym (both_true _ _ (lt_yes _ 262117 (omega (arith, tlv_size kind (u32_bytes number)))) refl)
