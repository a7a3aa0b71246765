use Rattle.std.proofs.Common.{◌≡◌, ◌+◌, ◌-◌, ◌∙◌, List, ℕ, length, take, drop, true, sym, ap, subst, arith, length-drop}
use Rattle.std.proofs.lemmas.List.{take_all}
use Rattle.fc_lines.specs.LineWords.{IsPlain, EndsWord, behind_line, line_in, lines_left, lines_of, words_from}
use Rattle.fc_lines.proofs.OpenLines.{last_word, last_words, same_behind, next_word, next_words, next_behind}
use Rattle.fc_lines.proofs.words.passed.Goals as goal

pub returns-then-ends_line-clause-word : goal.returns-then-ends_line-clause-word
returns-then-ends_line-clause-word c =
    last_word c.args.line c.args.column c.args.len c.args.rest.now c.split_at.result.0.now c.split_at.result.1.now c.split_at.ensures.by_index.0 c.split_at.ensures.front_len (subst IsPlain (sym c.split_at.ensures.front) c.requires.plain)
    (c.ends_line.ensures.yes c.if-ends_line.true)

pub returns-then-ends_line-clause-words : goal.returns-then-ends_line-clause-words
returns-then-ends_line-clause-words c =
    last_words c.args.line c.args.column c.args.len c.args.rest.now c.split_at.result.0.now c.split_at.result.1.now c.split_at.ensures.by_index.0 c.split_at.ensures.front_len (subst IsPlain (sym c.split_at.ensures.front) c.requires.plain)
    (c.ends_line.ensures.yes c.if-ends_line.true)

pub returns-then-ends_line-clause-behind : goal.returns-then-ends_line-clause-behind
returns-then-ends_line-clause-behind c =
    ap (λ l. lines_left c.args.line (lines_of l))
    (same_behind c.args.line c.args.column c.args.len c.args.rest.now c.split_at.result.0.now c.split_at.result.1.now c.split_at.ensures.by_index.0 c.split_at.ensures.front_len (subst IsPlain (sym c.split_at.ensures.front) c.requires.plain))

-- what stands behind the first byte
tail : (xs : List ℕ) → take (length xs - 1) (drop 1 xs) ≡ drop 1 xs
tail xs = take_all (length xs - 1) (drop 1 xs) (omega (arith, length-drop 1 xs))

pub returns-clause-word : goal.returns-clause-word
returns-clause-word c =
    next_word c.args.line c.args.column c.args.len c.args.rest.now c.split_at.result.0.now c.split_at.result.1.now c.split_at.ensures.by_index.0 c.split_at.ensures.front_len (subst IsPlain (sym c.split_at.ensures.front) c.requires.plain)
    (drop 1 c.split_at.result.1.now) (c.ends_line.ensures.no (subst EndsWord (sym c.split_at.ensures.back) c.requires.end) c.if-ends_line.false)

pub returns-clause-words : goal.returns-clause-words
returns-clause-words c =
    ap (λ l. words_from c.args.line (c.args.column + c.args.len + 1) true (line_in l)) (tail c.split_at.result.1.now)
    ∙ next_words c.args.line c.args.column c.args.len c.args.rest.now c.split_at.result.0.now c.split_at.result.1.now c.split_at.ensures.by_index.0 c.split_at.ensures.front_len (subst IsPlain (sym c.split_at.ensures.front) c.requires.plain)
    (drop 1 c.split_at.result.1.now) (c.ends_line.ensures.no (subst EndsWord (sym c.split_at.ensures.back) c.requires.end) c.if-ends_line.false)

pub returns-clause-behind : goal.returns-clause-behind
returns-clause-behind c =
    ap (λ l. lines_left c.args.line (lines_of (behind_line l))) (tail c.split_at.result.1.now)
    ∙ ap (λ l. lines_left c.args.line (lines_of l))
    (next_behind c.args.line c.args.column c.args.len c.args.rest.now c.split_at.result.0.now c.split_at.result.1.now c.split_at.ensures.by_index.0 c.split_at.ensures.front_len (subst IsPlain (sym c.split_at.ensures.front) c.requires.plain)
    (drop 1 c.split_at.result.1.now) (c.ends_line.ensures.no (subst EndsWord (sym c.split_at.ensures.back) c.requires.end) c.if-ends_line.false))
