use Rattle.std.proofs.lemmas.Result.{err_from_is_err_and}
use Rattle.std.proofs.Common.{◌≡◌, ◌++◌, ◌-◌, [], length, take, drop, refl, inl, inr, ap, sym, ◌∙◌, append-nil, arith}
use Rattle.std.proofs.lemmas.List.{length-drop}
use Rattle.fc_wire.specs.Frames.{frame_len}
use Rattle.fc_tool.specs.Show.{text_of}
use Rattle.fc_tool.specs.Text.{refusal_text}
use Rattle.fc_tool.proofs.Shows.{stops_at_once, lines_stop}
use Rattle.fc_tool.proofs.show.show_piece.Goals as goal

pub returns-in_err-cut-clause-ends : goal.returns-in_err-cut-clause-ends
returns-in_err-cut-clause-ends g c =
    let p = err_from_is_err_and c.from_residual.result c.from_residual.ensures.1 in
    rw p.1 (stops_at_once _ _ _)

pub returns-in_err-put-in-None-clause-ends : goal.returns-in_err-put-in-None-clause-ends
returns-in_err-put-in-None-clause-ends g c =
    let p = err_from_is_err_and c.from_residual-in_err-put-in-None.result c.from_residual-in_err-put-in-None.ensures.1 in
    let told = c.in_err-put-in-None.ensures in
    let (hs, there, lines) = c.in_ok-cut.ensures.shown in
    let is : c.push_frames.new.text.items ≡ text_of hs ++ [] = lines ∙ ap (λ l. l ++ text_of hs) c.clear.ensures.items ∙ sym (append-nil (text_of hs)) in
    rw p.1 (lines_stop _ _ hs _ [] _ _ _ (rw c.rest.ensures at there) (inl refl) is (rw c.as_slice.ensures.value at told.err))

pub returns-in_err-line-in-Some-clause-ends : goal.returns-in_err-line-in-Some-clause-ends
returns-in_err-line-in-Some-clause-ends g c =
    let p = err_from_is_err_and c.from_residual-in_err-line-in-Some.result c.from_residual-in_err-line-in-Some.ensures.1 in
    rw p.1 (stops_at_once _ _ _)

pub returns-in_err-push_bytes-in-Some-clause-ends : goal.returns-in_err-push_bytes-in-Some-clause-ends
returns-in_err-push_bytes-in-Some-clause-ends g c =
    let p = err_from_is_err_and c.from_residual-in_err-push_bytes-in-Some.result c.from_residual-in_err-push_bytes-in-Some.ensures.1 in
    rw p.1 (stops_at_once _ _ _)

pub returns-in_err-put-in-Some-clause-ends : goal.returns-in_err-put-in-Some-clause-ends
returns-in_err-put-in-Some-clause-ends g c =
    let p = err_from_is_err_and c.from_residual-in_err-put-in-Some.result c.from_residual-in_err-put-in-Some.ensures.1 in
    let told = c.in_err-put-in-Some.ensures in
    let (hs, there, lines) = c.in_ok-cut.ensures.shown in
    let bytes = c.args.splitter.now in
    let rest = drop c.in_ok-cut.cut.taken bytes in
    let fault = c.in-Some.fault in
    let place : c.args.fed - (length c.rest-in-Some.result.now - c.in_ok-cut.cut.taken) ≡ c.args.fed - length rest =
    omega (arith, ap length c.rest-in-Some.ensures, length-drop c.in_ok-cut.cut.taken bytes) in
    let first : c.push_frames.new.text.items ≡ text_of hs = lines ∙ ap (λ l. l ++ text_of hs) c.clear.ensures.items in
    let second : c.as_bytes.result.now ≡ refusal_text (c.args.fed - length rest) fault =
    c.as_bytes.ensures.value ∙ c.in_ok-line-in-Some.ensures ∙ ap (λ n. refusal_text n fault) place in
    let text : c.as_slice-in-Some.result.now ≡ text_of hs ++ refusal_text (c.args.fed - length rest) fault =
    c.as_slice-in-Some.ensures.value ∙ c.in_ok-push_bytes-in-Some.ensures ∙ ap (λ l. l ++ c.as_bytes.result.now) first ∙ ap (λ l. text_of hs ++ l) second in
    let whole = rw (c.in-Some.is, c.rest.ensures) at c.in_ok-cut.ensures.whole in
    let refused = rw (c.in-Some.is, c.rest.ensures) at c.in_ok-cut.ensures.refused in
    rw p.1 (lines_stop _ _ hs rest _ _ _ _ (rw c.rest.ensures at there)
    (inr (take (frame_len rest) rest, inl (whole, refl), inr (fault, refused, refl))) text told.err)
