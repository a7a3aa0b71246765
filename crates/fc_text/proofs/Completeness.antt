-- Bytes that spell messages, or LFBselects, are read as them.
use Rattle.std.proofs.Common.{◌≡◌, ℕ, List, [], ◌++◌, Result, Ok, append-nil, refl, sym, ap, ◌∙◌}
use Rattle.std.specs.List.{flat_map}
use Rattle.fc_path.specs.Proper.{ProperSelect}
use Rattle.fc_path.specs.declared.oper.Select.{Select}
use Rattle.fc_msg.specs.declared.message.Message.{Message}
use Rattle.fc_lines.specs.LineWords.{lines_of, lines_left, text_lines, closed}
use Rattle.fc_text.specs.TextGrammar.{select_lines, message_lines, SpellsText, SpellsSelects}
use Rattle.fc_lines.specs.TextPlaces.{TextPlace}
use Rattle.fc_text.specs.TextReading.{select_at, text_in, body_in}
use Rattle.fc_text.proofs.PlainWords.{lines_are}
use Rattle.fc_text.proofs.ReadItems.{some_reads}
use Rattle.fc_text.proofs.ReadMessages.{text_by, both_all, select_begins, select_reads}
use Rattle.fc_text.proofs.SplitLines.{lines_back}
use Rattle.fc_text.proofs.WholeLines.{messages_whole, all_selects_whole}

pub spelled_text_is_read : (ms : List Message) (bytes : List ℕ) → SpellsText ms bytes → text_in bytes ≡ Ok ms
spelled_text_is_read ms bytes s =
    let texts = s.lines.0 in
    let whole = messages_whole ms s.proper in
    text_by ms texts bytes (both_all ms s.proper s.fit) s.lines.1 (lines_back texts bytes (lines_are (flat_map message_lines ms) texts whole s.lines.1) s.lines.2)

same_ok : (ms ns : List Message) → ◌≡◌ {A = Result (List Message) TextPlace} (Ok ms) (Ok ns) → ms ≡ ns
same_ok ms ns e = cc

pub one_text : (ms ns : List Message) (bytes : List ℕ) → SpellsText ms bytes → SpellsText ns bytes → ms ≡ ns
one_text ms ns bytes s t = same_ok ms ns (sym (spelled_text_is_read ms bytes s) ∙ spelled_text_is_read ns bytes t)

-- the same of LFBselects
selects_by : (ss : List Select) (texts : List (List ℕ)) (bytes : List ℕ) (s : SpellsSelects ss bytes) → texts ≡ s.lines.0 → lines_of bytes ≡ texts → body_in bytes ≡ Ok ss
unfolding body_in closed
selects_by ss texts bytes s is e =
    let r = some_reads (select_lines 0) (ProperSelect 3) (select_at 3 0) 0 (select_begins 0) (select_reads 3 0) ss 0 s.lines.0 [] s.some s.proper s.lines.1 tt in
    let same : text_lines bytes ≡ lines_left 0 (s.lines.0 ++ []) = ap (lines_left 0) (e ∙ is ∙ sym (append-nil s.lines.0)) in
    rw (same, r.1) refl

pub spelled_body_is_read : (ss : List Select) (bytes : List ℕ) → SpellsSelects ss bytes → body_in bytes ≡ Ok ss
spelled_body_is_read ss bytes s =
    let texts = s.lines.0 in
    selects_by ss texts bytes s refl (lines_back texts bytes (lines_are (flat_map (select_lines 0) ss) texts (all_selects_whole 3 0 ss s.proper) s.lines.1) s.lines.2)

same_selects : (ss rs : List Select) → ◌≡◌ {A = Result (List Select) TextPlace} (Ok ss) (Ok rs) → ss ≡ rs
same_selects ss rs e = cc

pub one_body : (ss rs : List Select) (bytes : List ℕ) → SpellsSelects ss bytes → SpellsSelects rs bytes → ss ≡ rs
one_body ss rs bytes s t = same_selects ss rs (sym (spelled_body_is_read ss bytes s) ∙ spelled_body_is_read rs bytes t)
