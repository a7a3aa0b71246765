-- How the steps of a script come about, one after the other.
use Rattle.std.proofs.Common.{◌≡◌, ◌<◌, ◌≤◌, ℕ, suc, ◌+◌, ◌-◌, List, [], ◌∷◌, ◌++◌, append-nil, append_assoc, map, Result, Ok, Err, sym, ap, ◌∙◌, arith}
use Rattle.fc_base.specs.Answers.{◌>>=◌}
use Rattle.fc_steps.specs.declared.step.Step.{Step}
use Rattle.fc_steps.specs.declared.step.Step.TheVariants.{Deliver}
use Rattle.fc_scripts.specs.Steps.{delivery, deliveries, numbers_from}

-- one delivery more
pub next_delivery : (place message last : ℕ) (steps new whole : List (ℕ × Step)) → new ≡ steps ++ (place, Deliver message) ∷ []
    → steps ++ map (delivery place) (numbers_from message (last - message)) ≡ whole → message < last → new ++ map (delivery place) (numbers_from (message + 1) (last - (message + 1))) ≡ whole
next_delivery place message last steps new whole is h below =
    let more = map (delivery place) (numbers_from (message + 1) (last - (message + 1))) in
    let one : last - message ≡ suc (last - (message + 1)) = omega (arith, below) in
    ap (λ (xs : List (ℕ × Step)). xs ++ more) is ∙ append_assoc steps ((place, Deliver message) ∷ []) more
    ∙ sym (ap (λ (n : ℕ). steps ++ map (delivery place) (numbers_from message n)) one) ∙ h

-- and the last one
pub last_delivery : (place first message last : ℕ) (old steps new : List (ℕ × Step)) → new ≡ steps ++ (place, Deliver last) ∷ []
    → steps ++ map (delivery place) (numbers_from message (last - message)) ≡ old ++ map (delivery place) (numbers_from first (last - first)) → last ≤ message → new ≡ old ++ deliveries place first last
last_delivery place first message last old steps new is h above =
    let none : last - message ≡ 0 = omega (arith, above) in
    let all : steps ≡ old ++ map (delivery place) (numbers_from first (last - first)) =
    sym (append-nil steps) ∙ sym (ap (λ (n : ℕ). steps ++ map (delivery place) (numbers_from message n)) none) ∙ h in
    is ∙ ap (λ (xs : List (ℕ × Step)). xs ++ (place, Deliver last) ∷ []) all ∙ append_assoc old (map (delivery place) (numbers_from first (last - first))) ((place, Deliver last) ∷ [])

-- what a text says is behind what was said before it
pub steps_go : {A F : Type 0} (r : Result (List A) F) (old at new : List A) (meant : Result (List A) F) → new ≡ old ++ at → ((r >>= λ more. Ok (at ++ more)) >>= λ xs. Ok (old ++ xs)) ≡ meant
    → (r >>= λ xs. Ok (new ++ xs)) ≡ meant
steps_go (Ok more) old at new meant is e = ap Ok (ap (λ ys. ys ++ more) is ∙ append_assoc old at more) ∙ e
steps_go (Err f) old at new meant is e = e
