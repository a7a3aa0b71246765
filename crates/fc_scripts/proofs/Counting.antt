-- There are as many steps as the limit counts.
use Rattle.std.proofs.Common.{◌≡◌, ℕ, zero, suc, ◌+◌, ◌-◌, List, [], ◌∷◌, ◌++◌, map, length, Option, Some, None, Ok, refl, sym, ap, arith}
use Rattle.std.proofs.lemmas.List.{length-append, length-map}
use Rattle.fc_documents.proofs.Chains.{read_first}
use Rattle.fc_steps.specs.declared.step.Step.{Step}
use Rattle.fc_steps.specs.declared.step.StepText.{StepText}
use Rattle.fc_steps.specs.declared.step.StepText.TheVariants.{One, Deliveries}
use Rattle.fc_scripts.specs.Steps.{behind_first, count, numbers_from, delivery, deliveries, steps_at, steps_from}

many_numbers : (first n : ℕ) → length (numbers_from first n) ≡ n
many_numbers first zero = refl
many_numbers first (suc n) = let more = many_numbers (first + 1) n in omega (arith, more)

many_deliveries : (place first last : ℕ) → length (deliveries place first last) ≡ 1 + (last - first)
many_deliveries place first last =
    let numbers = many_numbers first (last - first) in
    let mapped = length-map (numbers_from first (last - first)) (delivery place) in
    let whole = length-append (map (delivery place) (numbers_from first (last - first))) (delivery place last ∷ []) in
    omega (arith, numbers, mapped, whole)

many_at : (place : ℕ) (t : StepText) → length (steps_at place t) ≡ 1 + behind_first (Some t)
many_at place (One s) = refl
many_at place (Deliveries first last) = many_deliveries place first last

pub counted : (place : ℕ) (ts : List (Option StepText)) (steps : List (ℕ × Step)) → steps_from place ts ≡ Ok steps → length steps ≡ count ts
counted place [] steps e = let same : [] ≡ steps = cc in ap length (sym same)
counted place (None ∷ ts) steps e = cc
counted place (Some t ∷ ts) steps e =
    let (more, read, made) = read_first (steps_from (place + 1) ts) (λ more. Ok (steps_at place t ++ more)) steps e in
    let same : steps_at place t ++ more ≡ steps = cc in
    let here = many_at place t in
    let rest = counted (place + 1) ts more read in
    let whole = length-append (steps_at place t) more in
    let is = ap length same in
    omega (arith, here, rest, whole, is)
