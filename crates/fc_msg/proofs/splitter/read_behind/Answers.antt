use Rattle.std.proofs.Common.{◌≡◌, ◌+◌, ◌-◌, ℕ, List, length, take, drop, arith, ◌∙◌}
use Rattle.std.proofs.lemmas.List.{length-take-le, length-drop}
use Rattle.fc_msg.proofs.Holding.{old_front, read_behind}
use Rattle.fc_msg.proofs.splitter.read_behind.Goals as goal

size_of : (xs : List ℕ) (k most : ℕ) → length xs ≡ k + most → length (take (length xs - k) (drop k xs)) ≡ most
size_of xs k most size = omega (arith, length-take-le (length xs - k) (drop k xs) (omega (arith, length-drop k xs)))

pub returns-in-Ok-clause-fed : goal.returns-in-Ok-clause-fed
returns-in-Ok-clause-fed g c =
    let n = c.in-Ok.given in
    let k = c.len-held.result in
    let most = c.args.most in
    let bytes = c.args.bytes.now.items in
    let xs = c.deref_mut.result.now in
    let into = c.read.new.into in
    let told = c.in-Ok.ensures in
    let held : k ≡ length bytes = c.len-held.ensures ∙ c.args.bytes.now.ok.0 in
    let front : take k xs ≡ bytes = old_front bytes _ k most xs held (c.deref_mut.ensures.value ∙ c.in_ok-resize.ensures.items) in
    let whole : length xs ≡ k + most = c.deref_mut.ensures.len ∙ c.in_ok-resize.ensures.len in
    let size : length into ≡ most = c.read.auto.into ∙ size_of xs k most whole in (
      take n into,
      c.truncate.ensures.items ∙ read_behind bytes into _ _ xs _ k n front (omega (arith, whole)) told.bound (omega (arith, told.bound, size, c.in_ok-resize.ensures.len)),
      length-take-le n into told.bound,
      omega (arith, told.bound, size),
      told.bytes.0,
      λ none. told.bytes.1 none (omega (arith, size, c.requires.some)),
    )
