-- What encoding appends.
use Rattle.std.proofs.Common.{◌≡◌, ◌<◌, ◌≤◌, ◌&&◌, nat_lt, Bool, true, false, ℕ, List, [], ◌++◌, length, Some, Result, Ok, Err, OnOk, arith, ap, ◌∙◌}
use Rattle.std.specs.Result.{IsErrOf}
use Rattle.fc_base.specs.declared.faults.WriteFault.{WriteFault}
use Rattle.fc_base.specs.declared.faults.WriteFault.TheVariants as faults
use Rattle.fc_wire.specs.Writing.{Writing, writing}
use Rattle.fc_path.specs.Canon.{Pushed, Written}
use Rattle.fc_msg.proofs.Canonical.{spelled}
use Rattle.fc_msg.proofs.Reading.{read}
use Rattle.fc_msg.specs.Messages.{IsProper, body_written, canonical, message_fits, with_body}
use Rattle.fc_msg.specs.Reading.{message_in}
use Rattle.fc_msg.specs.declared.message.Message.{Message}

long_of : (n : ℕ) (f : Bool) → f ≡ false → (nat_lt n 262117 && f) ≡ false
long_of n f e = grind arith

pub body_long : (m : Message) (e : WriteFault) (old new : Writing) → Pushed (Err e) old new (body_written m.body) → IsErrOf {T = Unit {0}} (Err e) faults.TooLong → message_fits m ≡ false
unfolding message_fits
body_long m faults.TooLong old new h is = long_of (length (body_written m.body).text) (body_written m.body).fits h
body_long m faults.Memory old new h is = cc

text_of : (w : Written) (old new : Writing) → old ≡ writing [] [] → Pushed (Ok tt) old new w → new.text ≡ w.text
text_of w old new o h = ap (λ (x : Writing). x.text) h.1 ∙ ap (λ (x : Writing). x.text ++ w.text) o

over_of : (n : ℕ) (f : Bool) → 262116 < n → (nat_lt n 262117 && f) ≡ false
over_of n f e = grind arith

pub body_over : (m : Message) (old new : Writing) (body : List ℕ) → old ≡ writing [] [] → Pushed (Ok tt) old new (body_written m.body) → body ≡ new.text → 262116 < length body → message_fits m ≡ false
unfolding message_fits
body_over m old new body o h e long =
    let same = e ∙ text_of (body_written m.body) old new o h in
    over_of (length (body_written m.body).text) (body_written m.body).fits (omega (arith, ap length same))

fits_of : (n : ℕ) (f : Bool) → n ≤ 262116 → f ≡ true → (nat_lt n 262117 && f) ≡ true
fits_of n f e g = grind arith

pub body_fits : (m : Message) (old new : Writing) (body : List ℕ) → old ≡ writing [] [] → Pushed (Ok tt) old new (body_written m.body) → body ≡ new.text → length body ≤ 262116
    → (message_fits m ≡ true) × (with_body m body ≡ canonical m)
unfolding message_fits canonical
body_fits m old new body o h e few =
    let same = e ∙ text_of (body_written m.body) old new o h in
    (fits_of (length (body_written m.body).text) (body_written m.body).fits (omega (arith, ap length same)) h.0, ap (with_body m) same)

pub given_ok : (r : Result (Unit {0}) WriteFault) (m : Message) (body new old : List ℕ) → OnOk r (new ≡ old ++ with_body m body) → (message_fits m ≡ true) × (with_body m body ≡ canonical m)
    → OnOk r ((message_fits m ≡ true) × (new ≡ old ++ canonical m))
given_ok (Ok x) m body new old h is = (is.0, h ∙ ap (λ l. old ++ l) is.1)
given_ok (Err e) m body new old h is = tt

-- what is appended is read as the message
pub given_again : (r : Result (Unit {0}) WriteFault) (m : Message) (body new old : List ℕ) → OnOk r (new ≡ old ++ with_body m body) → (message_fits m ≡ true) × (with_body m body ≡ canonical m)
    → IsProper m → OnOk r (message_in (canonical m) ≡ Some m)
given_again (Ok x) m body new old h is proper = read m (canonical m) (spelled m proper is.0)
given_again (Err e) m body new old h is proper = tt
