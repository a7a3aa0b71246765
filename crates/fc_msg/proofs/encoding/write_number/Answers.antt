use Rattle.std.proofs.Common.{◌≡◌, ◌<◌, ◌/◌, ◌%◌, ◌^◌, ℕ, length, [], ◌∷◌, ◌++◌, true, refl, ap, ◌∙◌, arith}
use Rattle.fc_wire.specs.Bytes.{u32_bytes}
use Rattle.fc_wire.specs.Writing.{head_bytes, writing}
use Rattle.fc_path.proofs.Closing.{closing, grow}
use Rattle.fc_msg.proofs.encoding.write_number.Goals as goal

high : (n : ℕ) → n < 2 ^ 32 → n / 2 ^ 24 % 2 ^ 8 ≡ n / 2 ^ 24
high n small = omega arith

pub returns : goal.returns
returns c =
    let old = c.args.to.now in
    let n = c.args.number in
    closing old c.put.new.self c.end.new.self (u32_bytes n) c.args.kind c.in_ok-begun.begun true c.end.result c.in_ok-begun.ensures.begun
    (grow old.text (head_bytes c.args.kind) (u32_bytes n) (old.places ++ length old.text ∷ []) c.begin.new.self c.put.new.self c.in_ok-begun.ensures.ok
    (c.in_ok-put.ensures.ok ∙ ap (λ l. writing (c.begin.new.self.text ++ l) c.begin.new.self.places) c.to_be_bytes.ensures
    ∙ ap (λ k. writing (c.begin.new.self.text ++ k ∷ n / 2 ^ 16 % 2 ^ 8 ∷ n / 2 ^ 8 % 2 ^ 8 ∷ n % 2 ^ 8 ∷ []) c.begin.new.self.places) (high n (omega (arith, c.ranges.number.fits))))) refl c.end.ensures.tlv c.end.ensures.long
