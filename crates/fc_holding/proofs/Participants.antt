-- Participants.
use Rattle.std.proofs.Common.{◌≡◌, ◌<◌, ◌^◌, ℕ, Bool, true, false, cond, ◌&&◌, nat_lt, nat_le, List, [], ◌∷◌, length, Option, Some, None, option_map, option_and_then, refl, sym, ap, ◌∙◌, arith, Result, Ok, Err}
use Rattle.std.specs.Prelude.{IfOk}
use Rattle.fc_base.specs.declared.faults.Memory.{Memory}
use Rattle.std.proofs.lemmas.Bool.{lt-ltb, ltb-true}
use Rattle.fc_protocol.specs.Collections.{among}
use Rattle.fc_protocol.specs.ElementMachine.{rises_above, takes_part}
use Rattle.fc_holding.specs.Naming.{ids_from}

abbrev behind : ℕ → List ℕ → ℕ → Option (List ℕ)
behind p ps n = option_map (λ (ns : List ℕ). n ∷ ns) (ids_from n ps)

more_by : (p : ℕ) (ps : List ℕ) (r : Bool) → ids_from p ps ≡ cond r (Some ps) None → option_map (λ (ns : List ℕ). p ∷ ns) (ids_from p ps) ≡ cond r (Some (p ∷ ps)) None
more_by p ps true e = ap (option_map (λ (ns : List ℕ). p ∷ ns)) e
more_by p ps false e = ap (option_map (λ (ns : List ℕ). p ∷ ns)) e

above : (n p : ℕ) → nat_lt n p ≡ true → nat_lt 0 p ≡ true
above n p e = let lt : n < p = ltb-true n p e in lt-ltb 0 p (omega (arith, lt))

next_by : (n p : ℕ) (ps : List ℕ) (a b z : Bool) → nat_lt n p ≡ a → nat_lt 0 p ≡ z → ids_from p ps ≡ cond (rises_above p ps) (Some ps) None
    → option_and_then (behind p ps) (cond (a && b) (Some p) None) ≡ cond ((a && (z && b)) && rises_above p ps) (Some (p ∷ ps)) None
next_by n p ps false b z e f h = refl
next_by n p ps true false true e f h = refl
next_by n p ps true false false e f h = refl
next_by n p ps true true true e f h = more_by p ps (rises_above p ps) h
next_by n p ps true true false e f h = absurd (let g : true ≡ false = sym (above n p e) ∙ f in cc)

pub same_ids : (n : ℕ) (ws : List ℕ) → ids_from n ws ≡ cond (rises_above n ws) (Some ws) None
same_ids n [] = refl
same_ids n (p ∷ ps) = next_by n p ps (nat_lt n p) (nat_lt p (2 ^ 30)) (nat_lt 0 p) refl refl (same_ids p ps)

-- what is no participant
pub not_among : (p : ℕ) (ps : List ℕ) → among p ps ≡ false → None ≡ cond (takes_part p ps) (Some ps) None
not_among p ps e = ap (λ b. cond (b && (rises_above 0 ps && nat_le (length ps) 64)) (Some ps) None) (sym e)

too_many_by : (a r : Bool) (ps : List ℕ) (m : Bool) → m ≡ false → None ≡ cond (a && (r && m)) (Some ps) None
too_many_by false r ps m e = refl
too_many_by true false ps m e = refl
too_many_by true true ps m e = ap (λ b. cond b (Some ps) None) (sym e)

pub too_many : (p : ℕ) (ps : List ℕ) → nat_le (length ps) 64 ≡ false → None ≡ cond (takes_part p ps) (Some ps) None
too_many p ps e = too_many_by (among p ps) (rises_above 0 ps) ps (nat_le (length ps) 64) e

part_by : (a r m : Bool) (ps : List ℕ) → a ≡ true → m ≡ true → cond r (Some ps) None ≡ cond (a && (r && m)) (Some ps) None
part_by a false m ps e f = ap (λ b. cond (b && false) (Some ps) None) (sym e)
part_by a true m ps e f = ap (λ b. cond (true && b) (Some ps) None) (sym f) ∙ ap (λ b. cond (b && m) (Some ps) None) (sym e)

pub takes : (p : ℕ) (ps : List ℕ) → among p ps ≡ true → nat_le (length ps) 64 ≡ true → ids_from 0 ps ≡ cond (takes_part p ps) (Some ps) None
takes p ps e f = same_ids 0 ps ∙ part_by (among p ps) (rises_above 0 ps) (nat_le (length ps) 64) ps e f

pub if_takes : (r : Result (Option (List ℕ)) Memory) (p : ℕ) (ps : List ℕ) → among p ps ≡ true → nat_le (length ps) 64 ≡ true → IfOk r (λ ids. ids ≡ ids_from 0 ps) → IfOk r (λ ids. ids ≡ cond (takes_part p ps) (Some ps) None)
if_takes (Ok ids) p ps e f h = h ∙ takes p ps e f
if_takes (Err memory) p ps e f h = tt
