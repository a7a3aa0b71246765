-- The fold of the operations and their codes, one more at a time.
use Rattle.std.proofs.Common.{◌≡◌, ◌≢◌, ℕ, zero, suc, ◌+◌, ◌<◌, ◌≤◌, List, [], ◌∷◌, ◌++◌, length, take, drop, get_or, replicate, refl, sym, ap, ◌∙◌, drop-cons}
use Rattle.std.proofs.lemmas.List.{take_more, take-append-drop}
use Rattle.std.proofs.lemmas.Grind.{fold-append}
use Rattle.fc_modes.specs.Modes.{folded, codes_of}
use Rattle.fc_modes.specs.Reaching.{Refused, Done}
use Rattle.fc_modes.proofs.Positions.{is_refused, position_among, position_none}
use Rattle.std.specs.List.{position}
use Rattle.std.proofs.lemmas.List.{take_all}

at_place : (n code : ℕ) (rest : List ℕ) → get_or (replicate n 0 ++ code ∷ rest) n 0 ≡ code
at_place zero code rest = refl
at_place (suc n) code rest = at_place n code rest

module _ {S O : Type 0} (effect : S → O → S × ℕ) where
  pub folded_more : (s : S) (xs ys : List O) → folded effect s (xs ++ ys) ≡ folded effect (folded effect s xs) ys
  folded_more s xs ys = fold-append (λ state op. (effect state op).0) s xs ys

  pub codes_more : (s : S) (xs ys : List O) → codes_of effect s (xs ++ ys) ≡ codes_of effect s xs ++ codes_of effect (folded effect s xs) ys
  codes_more s [] ys = refl
  codes_more s (x ∷ xs) ys = ap (λ (cs : List ℕ). (effect s x).1 ∷ cs) (codes_more (effect s x).0 xs ys)

  pub codes_long : (s : S) (ops : List O) → length (codes_of effect s ops) ≡ length ops
  codes_long s [] = refl
  codes_long s (op ∷ ops) = ap suc (codes_long (effect s op).0 ops)

  -- an operation at its place, applied to what those before it gave
  pub record Step (s : S) (ops : List O) (at : ℕ) (op : O) (code : ℕ) (before after : S) : Type 0 where
    pub state : after ≡ folded effect s (take (at + 1) ops)
    pub codes : codes_of effect s (take (at + 1) ops) ≡ codes_of effect s (take at ops) ++ code ∷ []
    pub given : effect (folded effect s (take at ops)) op ≡ (after, code)

  pub step : (s : S) (ops : List O) (at : ℕ) (op : O) (code : ℕ) (before after : S) → at < length ops → op ≡ get_or ops at op → before ≡ folded effect s (take at ops) → (after, code) ≡ effect before op → Step s ops at op code before after
  step s ops at op code before after lt is so_far did =
      let given : effect (folded effect s (take at ops)) op ≡ (after, code) = sym (did ∙ ap (λ (t : S). effect t op) so_far) in
      let more : take (at + 1) ops ≡ take at ops ++ op ∷ [] = take_more ops at op lt ∙ ap (λ (x : O). take at ops ++ x ∷ []) (sym is) in
      record {
        state = sym (ap (λ (xs : List O). folded effect s xs) more ∙ folded_more s (take at ops) (op ∷ []) ∙ ap (λ (p : S × ℕ). p.0) given);
        codes = ap (λ (xs : List O). codes_of effect s xs) more ∙ codes_more s (take at ops) (op ∷ []) ∙ ap (λ (p : S × ℕ). codes_of effect s (take at ops) ++ p.1 ∷ []) given;
        given = given;
      }

  pub goes_on : (s : S) (ops : List O) (at : ℕ) (op : O) (code : ℕ) (before after : S) (old new : List ℕ) → new ≡ old ++ code ∷ [] → old ≡ codes_of effect s (take at ops) → Step s ops at op code before after → new ≡ codes_of effect s (take (at + 1) ops)
  goes_on s ops at op code before after old new pushed so_far st = pushed ∙ ap (λ (cs : List ℕ). cs ++ code ∷ []) so_far ∙ sym st.codes

  -- the codes of all operations around that one
  codes_split : (s : S) (ops : List O) (at : ℕ) (op : O) (code : ℕ) (before after : S) → at < length ops → op ≡ get_or ops at op → Step s ops at op code before after → codes_of effect s ops ≡ codes_of effect s (take at ops) ++ code ∷ codes_of effect after (drop (suc at) ops)
  codes_split s ops at op code before after lt is st =
      let split : ops ≡ take at ops ++ op ∷ drop (suc at) ops = sym (take-append-drop at ops) ∙ ap (λ (xs : List O). take at ops ++ xs) (drop-cons ops at op lt ∙ ap (λ (x : O). x ∷ drop (suc at) ops) (sym is)) in
      ap (λ (xs : List O). codes_of effect s xs) split ∙ codes_more s (take at ops) (op ∷ drop (suc at) ops)
      ∙ ap (λ (p : S × ℕ). codes_of effect s (take at ops) ++ p.1 ∷ codes_of effect p.0 (drop (suc at) ops)) st.given

  pub refused_here : (s : S) (ops : List O) (at : ℕ) (op : O) (code : ℕ) (before after : S) → ((t : S) (x : O) → (effect t x).1 ≢ 0 → (effect t x).0 ≡ t) → at < length ops → op ≡ get_or ops at op → before ≡ folded effect s (take at ops)
      → codes_of effect s (take at ops) ≡ replicate at 0 → (after, code) ≡ effect before op → (code ≡ 0 → ⊥) → Refused effect s ops (record { at = at; code = code }) after
  refused_here s ops at op code before after kept lt is so_far zeros did bad =
      let st : Step s ops at op code before after = step s ops at op code before after lt is so_far did in
      let codes : codes_of effect s ops ≡ replicate at 0 ++ code ∷ codes_of effect after (drop (suc at) ops) =
      codes_split s ops at op code before after lt is st ∙ ap (λ (cs : List ℕ). cs ++ code ∷ codes_of effect after (drop (suc at) ops)) zeros in
      record {
        place = ap (λ (cs : List ℕ). position is_refused cs) codes ∙ position_among at code (codes_of effect after (drop (suc at) ops)) bad;
        within = lt;
        code = ap (λ (cs : List ℕ). get_or cs at 0) codes ∙ at_place at code (codes_of effect after (drop (suc at) ops));
        state = ap (λ (p : S × ℕ). p.0) did ∙ kept before op (λ e. bad (ap (λ (p : S × ℕ). p.1) did ∙ e)) ∙ so_far;
      }

  pub all_done : (s : S) (ops : List O) (at : ℕ) (now : S) → at ≤ length ops → length ops ≤ at → now ≡ folded effect s (take at ops) → codes_of effect s (take at ops) ≡ replicate at 0 → Done effect s ops now
  all_done s ops at now le ge so_far zeros =
      let whole : take at ops ≡ ops = take_all at ops ge in
      record {
        place = ap (λ (cs : List ℕ). position is_refused cs) (ap (λ (xs : List O). codes_of effect s xs) (sym whole) ∙ zeros) ∙ position_none at;
        state = so_far ∙ ap (λ (xs : List O). folded effect s xs) whole;
      }
