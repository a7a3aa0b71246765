-- The steps are refused for the first text that says none.
use Rattle.std.proofs.Common.{◌≡◌, ℕ, ◌+◌, true, false, List, [], ◌∷◌, ◌++◌, map, length, Option, Some, None, is_some, Result, Ok, Err, refl, sym, ap, ◌∙◌, arith}
use Rattle.std.proofs.lemmas.Bool.{and_parts}
use Rattle.std.specs.List.{list_all}
use Rattle.fc_base.specs.Answers.{◌>>=◌}
use Rattle.fc_library.specs.declared.fault.LibFault.{LibFault}
use Rattle.fc_library.specs.declared.fault.LibFault.TheVariants.{StepText as StepFault}
use Rattle.fc_documents.proofs.Chains.{both}
use Rattle.fc_steps.specs.Steps.{step_of}
use Rattle.fc_steps.specs.declared.step.Step.{Step}
use Rattle.fc_steps.specs.declared.step.StepText.{StepText}
use Rattle.fc_scripts.specs.Steps.{steps_at, steps_from}
use Rattle.fc_scripts.specs.Causes.{says_step, IsFirstWrong}

-- the steps of texts from a place on
abbrev read_from : ℕ → List (List ℕ) → Result (List (ℕ × Step)) LibFault
read_from place texts = steps_from place (map step_of texts)

-- nothing but a text refuses them
abbrev pub OnlyStep : {A : Type 0} → Result A LibFault → Type 0
OnlyStep r = (fault : LibFault) → r ≡ Err fault → (place : ℕ) × (fault ≡ StepFault place)

only_made : {A B : Type 0} (r : Result A LibFault) (f : A → B) → OnlyStep r → OnlyStep (r >>= λ x. Ok (f x))
only_made (Ok x) f h fault e = cc
only_made (Err g) f h fault e = h fault (let same : g ≡ fault = cc in ap Err same)

pub only_steps : (place : ℕ) (ts : List (Option StepText)) → OnlyStep (steps_from place ts)
only_steps place [] = λ fault e. cc
only_steps place (None ∷ ts) = λ fault e. (place, cc)
only_steps place (Some t ∷ ts) = only_made (steps_from (place + 1) ts) (λ more. steps_at place t ++ more) (only_steps (place + 1) ts)

-- where that text stands, counted from a place
record Wrong (place : ℕ) (texts : List (List ℕ)) (n : ℕ) : Type 0 where
  before : List (List ℕ)
  text : List ℕ
  after : List (List ℕ)
  split : texts ≡ before ++ text ∷ after
  said : list_all says_step before ≡ true
  wrong : says_step text ≡ false
  place_is : n ≡ place + length before

first_wrong : (place n : ℕ) (text : List ℕ) (texts : List (List ℕ)) → step_of text ≡ None → place ≡ n → Wrong place (text ∷ texts) n
first_wrong place n text texts none same =
    record { before = []; text = text; after = texts; split = refl; said = refl; wrong = ap is_some none; place_is = omega (arith, same) }

later_wrong : (place n : ℕ) (text : List ℕ) (t : StepText) (texts : List (List ℕ)) → step_of text ≡ Some t → Wrong (place + 1) texts n → Wrong place (text ∷ texts) n
later_wrong place n text t texts some h =
    let at = h.place_is in
    record {
      before = text ∷ h.before;
      text = h.text;
      after = h.after;
      split = ap (λ (ws : List (List ℕ)). text ∷ ws) h.split;
      said = both (says_step text) (list_all says_step h.before) (ap is_some some) h.said;
      wrong = h.wrong;
      place_is = omega (arith, at);
    }

fault_behind : {A B : Type 0} (r : Result A LibFault) (f : A → B) (fault : LibFault) → (r >>= λ x. Ok (f x)) ≡ Err fault → r ≡ Err fault
fault_behind (Ok x) f fault e = cc
fault_behind (Err g) f fault e = let same : g ≡ fault = cc in ap Err same

wrong_by : (place n : ℕ) (text : List ℕ) (texts : List (List ℕ)) → (read_from (place + 1) texts ≡ Err (StepFault n) → Wrong (place + 1) texts n) → (o : Option StepText) → step_of text ≡ o
    → steps_from place (o ∷ map step_of texts) ≡ Err (StepFault n) → Wrong place (text ∷ texts) n
wrong_by place n text texts later None is e = first_wrong place n text texts is cc
wrong_by place n text texts later (Some t) is e =
    later_wrong place n text t texts is (later (fault_behind (read_from (place + 1) texts) (λ more. steps_at place t ++ more) (StepFault n) e))

wrong_told : (place n : ℕ) (texts : List (List ℕ)) → read_from place texts ≡ Err (StepFault n) → Wrong place texts n
wrong_told place n [] e = cc
wrong_told place n (text ∷ texts) e = wrong_by place n text texts (λ h. wrong_told (place + 1) n texts h) (step_of text) refl e

stops_by : (place n : ℕ) (texts : List (List ℕ)) (o : Option StepText) → is_some o ≡ true → read_from (place + 1) texts ≡ Err (StepFault n) → steps_from place (o ∷ map step_of texts) ≡ Err (StepFault n)
stops_by place n texts None h e = cc
stops_by place n texts (Some t) h e = ap (λ r. r >>= λ more. Ok (steps_at place t ++ more)) e

stops_here : (place n : ℕ) (texts : List (List ℕ)) (o : Option StepText) → is_some o ≡ false → n ≡ place → steps_from place (o ∷ map step_of texts) ≡ Err (StepFault n)
stops_here place n texts None h same = ap (λ (m : ℕ). Err (StepFault m)) (sym same)
stops_here place n texts (Some t) h same = cc

stops_at : (place n : ℕ) (before : List (List ℕ)) (text : List ℕ) (after : List (List ℕ)) → list_all says_step before ≡ true → says_step text ≡ false → n ≡ place + length before
    → read_from place (before ++ text ∷ after) ≡ Err (StepFault n)
stops_at place n [] text after said wrong at = stops_here place n after (step_of text) wrong (omega (arith, at))
stops_at place n (first ∷ before) text after said wrong at =
    let (here, there) = and_parts (says_step first) (list_all says_step before) said in
    stops_by place n (before ++ text ∷ after) (step_of first) here (stops_at (place + 1) n before text after there wrong (omega (arith, at)))

wrong_first : (n : ℕ) (texts : List (List ℕ)) → Wrong 1 texts n → IsFirstWrong texts n
wrong_first n texts h = record { before = h.before; text = h.text; after = h.after; split = h.split; said = h.said; wrong = h.wrong; place_is = h.place_is }

pub wrong_is_first : (n : ℕ) (texts : List (List ℕ)) → steps_from 1 (map step_of texts) ≡ Err (StepFault n) → IsFirstWrong texts n
wrong_is_first n texts e = wrong_first n texts (wrong_told 1 n texts e)

pub first_is_wrong : (n : ℕ) (texts : List (List ℕ)) → IsFirstWrong texts n → steps_from 1 (map step_of texts) ≡ Err (StepFault n)
first_is_wrong n texts h = ap (read_from 1) h.split ∙ stops_at 1 n h.before h.text h.after h.said h.wrong h.place_is
