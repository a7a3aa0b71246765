-- What the text of a step says (this profile's own): the name of the step, and behind single spaces its words.
use Rattle.std.specs.Prelude.{◌≡◌, ◌≤◌, ◌<◌, ◌^◌, ℕ, nat_le, true, if◌then◌else◌, List, ◌∷◌, ◌++◌, codes, decimal, Option, Some, None}
use Rattle.std.specs.Str.{bytes_eq}
use Rattle.fc_base.specs.Ids.{IsFe, IsRound, IsEpoch, Txn, txn_text}
use Rattle.fc_steps.specs.Words.{given, cut, controller, element, round, long, txn, is_name}
use Rattle.fc_steps.specs.declared.step.Step.{Step}
use Rattle.fc_steps.specs.declared.step.Step.TheVariants as step
use Rattle.fc_steps.specs.declared.step.StepText.{StepText}
use Rattle.fc_steps.specs.declared.step.StepText.TheVariants.{One, Deliveries}

-- ---- how each is written
abbrev pub written : Step → List ℕ
written (step.Open f c) = codes "open " ++ decimal f ++ 32 ∷ decimal c
written (step.Deliver i) = codes "deliver " ++ decimal i
written (step.Moment f t) = codes "moment " ++ decimal f ++ 32 ∷ decimal t
written (step.Start c r) = codes "start " ++ decimal c ++ 32 ∷ decimal r
written (step.Stop c) = codes "stop " ++ decimal c
written (step.Begin c n) = codes "begin " ++ decimal c ++ 32 ∷ n
written (step.Plain c n) = codes "plain " ++ decimal c ++ 32 ∷ n
written (step.GiveUp c x) = codes "giveup " ++ decimal c ++ 32 ∷ txn_text x
written (step.Resend c f) = codes "resend " ++ decimal c ++ 32 ∷ decimal f
written (step.Forget c) = codes "forget " ++ decimal c
written (step.Restart f) = codes "restart " ++ decimal f

abbrev pub text_of : StepText → List ℕ
text_of (One s) = written s
text_of (Deliveries first last) = codes "deliver " ++ decimal first ++ 45 ∷ decimal last

-- ---- what a text says
-- a step of one word behind its name
abbrev pub of_one : {A : Type 0} → (List ℕ → Option A) → (A → Step) → List ℕ → Option StepText
of_one read make rest = given (read rest) λ a. Some (One (make a))

-- and of two
abbrev pub of_two : {A B : Type 0} → (List ℕ → Option A) → (List ℕ → Option B) → (A → B → Step) → List ℕ → Option StepText
of_two first second make rest = given (cut 32 rest) λ p. given (first p.0) λ a. given (second p.1) λ b. Some (One (make a b))

abbrev pub name : List ℕ → Option (List ℕ)
name word = if is_name word then Some word else None

-- a controller's number, and a name behind it
abbrev pub named : List ℕ → Option (ℕ × List ℕ)
named rest = given (cut 32 rest) λ p. given (controller p.0) λ c. if is_name p.1 then Some (c, p.1) else None

-- one message, or those from one place to another
abbrev pub from_to : ℕ → ℕ → Option StepText
from_to first last = if nat_le first last then Some (Deliveries first last) else None

abbrev pub range : List ℕ → Option StepText
range rest = given (cut 45 rest) λ p. given (long p.0) λ first. given (long p.1) λ last. from_to first last

abbrev pub or_range : List ℕ → Option ℕ → Option StepText
or_range rest (Some i) = Some (One (step.Deliver i))
or_range rest None = range rest

abbrev pub deliveries : List ℕ → Option StepText
deliveries rest = or_range rest (long rest)

abbrev pub of_name : List ℕ → List ℕ → Option StepText
of_name word rest =
    if bytes_eq word (codes "open") then of_two element controller step.Open rest
    else (if bytes_eq word (codes "deliver") then deliveries rest
    else (if bytes_eq word (codes "moment") then of_two element long step.Moment rest
    else (if bytes_eq word (codes "start") then of_two controller round step.Start rest
    else (if bytes_eq word (codes "stop") then of_one controller step.Stop rest
    else (if bytes_eq word (codes "begin") then of_two controller name step.Begin rest
    else (if bytes_eq word (codes "plain") then of_two controller name step.Plain rest
    else (if bytes_eq word (codes "giveup") then of_two controller txn step.GiveUp rest
    else (if bytes_eq word (codes "resend") then of_two controller element step.Resend rest
    else (if bytes_eq word (codes "forget") then of_one controller step.Forget rest
    else (if bytes_eq word (codes "restart") then of_one element step.Restart rest
    else None))))))))))

abbrev pub step_of : List ℕ → Option StepText
step_of text = given (cut 32 text) λ p. of_name p.0 p.1

-- ---- what can be said
abbrev pub IsController : ℕ → Type 0
IsController c = c < 2 ^ 8

abbrev pub IsLong : ℕ → Type 0
IsLong n = n < 2 ^ 64

abbrev pub IsTxn : Txn → Type 0
IsTxn x = IsEpoch x.epoch × (0 < x.number) × (x.number < 2 ^ 32)

abbrev pub CanStep : Step → Type 0
CanStep (step.Open f c) = IsFe f × IsController c
CanStep (step.Deliver i) = IsLong i
CanStep (step.Moment f t) = IsFe f × IsLong t
CanStep (step.Start c r) = IsController c × IsRound r
CanStep (step.Stop c) = IsController c
CanStep (step.Begin c n) = IsController c × (is_name n ≡ true)
CanStep (step.Plain c n) = IsController c × (is_name n ≡ true)
CanStep (step.GiveUp c x) = IsController c × IsTxn x
CanStep (step.Resend c f) = IsController c × IsFe f
CanStep (step.Forget c) = IsController c
CanStep (step.Restart f) = IsFe f

abbrev pub CanSay : StepText → Type 0
CanSay (One s) = CanStep s
CanSay (Deliveries first last) = IsLong first × IsLong last × (first ≤ last)
