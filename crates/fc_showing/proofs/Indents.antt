-- One level more is two spaces more at the end.
use Rattle.std.proofs.Common.{◌≡◌, ◌+◌, ℕ, zero, suc, List, [], ◌∷◌, ◌++◌, refl, sym, ap, ◌∙◌, append_assoc, arith}
use Rattle.fc_text.specs.Text.{indent}

end_of : (n : ℕ) → indent (suc n) ≡ indent n ++ (32 ∷ 32 ∷ [])
end_of zero = refl
end_of (suc n) = ap (λ l. 32 ∷ 32 ∷ l) (end_of n)

next : (n : ℕ) → n + 1 ≡ suc n
next n = omega arith

pub one_more : (old now new : List ℕ) (n : ℕ) → now ≡ old ++ indent n → new ≡ now ++ (32 ∷ 32 ∷ []) → new ≡ old ++ indent (n + 1)
one_more old now new n h k = k ∙ ap (λ l. l ++ (32 ∷ 32 ∷ [])) h ∙ append_assoc old (indent n) _ ∙ ap (λ l. old ++ l) (sym (end_of n)) ∙ ap (λ k. old ++ indent k) (sym (next n))
