-- A known input decides how `world` ends.
use Rattle.std.proofs.Common.{◌≡◌, ◌<◌, ◌≤◌, ◌∙◌, ◌++◌, ℕ, true, false, nat_lt, List, [], length, refl, sym, ap, arith, length-append, inl, inr, codes, Option, Some, None, Ok}
use Rattle.std.specs.Io.KnownBytes.{Appends}
use Rattle.fc_endings.specs.Looks.{LookEnds}
use Rattle.fc_endings.specs.declared.input.Look.TheVariants as look
use Rattle.fc_endings.proofs.Looking.{all_read, front_read}
use Rattle.fc_library.specs.Refusals.{refusal_text}
use Rattle.fc_scripts.specs.Scripts.{script_of}
use Rattle.fc_world.specs.Reports.{world_report}
use Rattle.fc_playing.specs.Outcomes.{CameTo, IsOutcome, Outcome, outcome, outcome_by, outcome_by_steps, outcome_of}
use Rattle.fc_playing.specs.Playing.{fault_text}
use Rattle.fc_playing.specs.WorldRun.{PlayEnds}
use Rattle.fc_playing.specs.declared.end.PlayEnd.{PlayEnd}
use Rattle.fc_playing.specs.declared.end.PlayEnd.TheVariants.{Done, ReadFault, Refused, TooLong}

is_less : (a b : ℕ) → a < b → nat_lt a b ≡ true
is_less a b lt = grind arith

is_no_less : (a b : ℕ) → b ≤ a → nat_lt a b ≡ false
is_no_less a b le = grind arith

-- the document was read whole
whole_is : (limit : ℕ) (document bytes : List ℕ) (left : Option (List ℕ)) → LookEnds limit (Ok look.Whole) bytes (Some document) left → outcome_of limit document ≡ outcome_by false (script_of bytes)
whole_is limit document bytes left (consumed, end, le) =
    let same = all_read document bytes left consumed end in
    let short : length document ≤ limit = omega (arith, ap length same, le) in
    ap (λ b. outcome_by b (script_of document)) (is_no_less limit (length document) short) ∙ ap (λ l. outcome_by false (script_of l)) same

long_is : (limit : ℕ) (document bytes : List ℕ) (left : Option (List ℕ)) → LookEnds limit (Ok look.TooLong) bytes (Some document) left → outcome_of limit document ≡ outcome TooLong []
long_is limit document bytes left (consumes, long) =
    let (more, split) = front_read document bytes left consumes in
    let lt : limit < length document = omega (arith, ap length split, length-append bytes more, long) in
    ap (λ b. outcome_by b (script_of document)) (is_less limit (length document) lt)

-- what came, by what was told
came : (o told : Outcome) (end : PlayEnd) (written old : List ℕ) (text : Option (List ℕ)) → o ≡ told → end ≡ told.end → written ≡ told.text → Appends (Some old) text written → CameTo o end old text
came o told end written old None is ends writes wrote = absurd wrote
came o told end written old (Some text) is ends writes wrote = record {
  end = ends ∙ ap (λ (x : Outcome). x.end) (sym is);
  text = ap Some (wrote ∙ ap (λ l. old ++ l) (writes ∙ ap (λ (x : Outcome). x.text) (sym is)));
}

pub decided : (e : PlayEnd) (limit : ℕ) (Unread : Type 0) (document : List ℕ) (left : Option (List ℕ)) (old : List ℕ) (text : Option (List ℕ)) → IsOutcome e → PlayEnds limit Unread (Ok e) (Some document) left (Some old) text
    → CameTo (outcome_of limit document) e old text
decided Done limit Unread document left old text out (written, (bytes, read, (s, means, (w, come, writes), kept), told), wrote) =
    came _ (outcome Done (world_report w)) Done written old text
    (whole_is limit document bytes left read ∙ ap (outcome_by false) means ∙ ap outcome_by_steps come) refl writes wrote
decided Refused limit Unread document left old text out (written, (bytes, read, inl (fault, means, writes), told), wrote) =
    came _ (outcome Refused (refusal_text (codes "script") fault)) Refused written old text
    (whole_is limit document bytes left read ∙ ap (outcome_by false) means) refl writes wrote
decided Refused limit Unread document left old text out (written, (bytes, read, inr (s, means, (f, come, writes), kept), told), wrote) =
    came _ (outcome Refused (fault_text f)) Refused written old text
    (whole_is limit document bytes left read ∙ ap (outcome_by false) means ∙ ap outcome_by_steps come) refl writes wrote
decided TooLong limit Unread document left old text out (written, (bytes, read, writes, told), wrote) =
    came _ (outcome TooLong []) TooLong written old text (long_is limit document bytes left read) refl writes wrote
decided ReadFault limit Unread document left old text out ends = absurd out
