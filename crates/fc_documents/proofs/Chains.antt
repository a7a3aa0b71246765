-- What the readers of a chain give, where the whole gives something.
use Rattle.std.proofs.Common.{◌≡◌, ◌&&◌, Bool, true, false, List, [], ◌∷◌, map, length, Result, Ok, Err, refl, sym, subst}
use Rattle.std.proofs.lemmas.Bool.{and_parts}
use Rattle.std.specs.List.{list_all}
use Rattle.fc_base.specs.Answers.{◌>>=◌}
use Rattle.fc_library.specs.declared.fault.DocumentRule.{DocumentRule}
use Rattle.fc_library.specs.declared.fault.DocumentRule.TheVariants as broken
use Rattle.fc_library.specs.declared.fault.LibFault.{LibFault}
use Rattle.fc_documents.specs.Rules.{kept}
use Rattle.fc_documents.specs.Parts.{each_of}

pub both : (a b : Bool) → a ≡ true → b ≡ true → (a && b) ≡ true
both true b h k = k
both false b h k = h

-- the first reader gives something, and the next one the whole
pub read_first : {A B : Type 0} (r : Result A LibFault) (next : A → Result B LibFault) (y : B) → (r >>= next) ≡ Ok y → (x : A) × (r ≡ Ok x) × (next x ≡ Ok y)
read_first (Ok x) next y e = (x, refl, e)
read_first (Err f) next y e = cc

both_read : {B : Type 0} (r : Result B LibFault) (s : Result (List B) LibFault) (zs : List B) → (r >>= λ y. s >>= λ ys. Ok (y ∷ ys)) ≡ Ok zs
    → (y : B) × (ys : List B) × (r ≡ Ok y) × (s ≡ Ok ys) × (zs ≡ y ∷ ys)
both_read (Ok y) (Ok ys) zs e = (y, ys, refl, refl, cc)
both_read (Ok y) (Err f) zs e = cc
both_read (Err f) s zs e = cc

-- of the items of a list the first gives something, and so do the others
pub each_step : {A B : Type 0} (read : A → Result B LibFault) (x : A) (xs : List A) (zs : List B) → each_of read (x ∷ xs) ≡ Ok zs
    → (y : B) × (ys : List B) × (read x ≡ Ok y) × (each_of read xs ≡ Ok ys) × (zs ≡ y ∷ ys)
each_step read x xs zs e = both_read (read x) (each_of read xs) zs e

pub nothing_read : {A B : Type 0} (read : A → Result B LibFault) (ys : List B) → each_of read [] ≡ Ok ys → ys ≡ []
nothing_read read ys e = cc

-- what holds of each item holds of what it gives
pub all_made : {A B : Type 0} (read : A → Result B LibFault) (before : A → Bool) (after : B → Bool) → ((x : A) (y : B) → read x ≡ Ok y → before x ≡ true → after y ≡ true)
    → (xs : List A) (ys : List B) → each_of read xs ≡ Ok ys → list_all before xs ≡ true → list_all after ys ≡ true
all_made read before after makes [] ys e h = subst (λ zs. list_all after zs ≡ true) (sym (nothing_read read ys e)) refl
all_made read before after makes (x ∷ xs) zs e h =
    let (y, ys, first, rest, is) = each_step read x xs zs e in
    let (here, there) = and_parts (before x) (list_all before xs) h in
    subst (λ zs. list_all after zs ≡ true) (sym is) (both (after y) (list_all after ys) (makes x y first here) (all_made read before after makes xs ys rest there))

-- what is the same of each item and what it gives is the same of both lists
pub same_mapped : {A B C : Type 0} (read : A → Result B LibFault) (f : A → C) (g : B → C) → ((x : A) (y : B) → read x ≡ Ok y → g y ≡ f x)
    → (xs : List A) (ys : List B) → each_of read xs ≡ Ok ys → map g ys ≡ map f xs
same_mapped read f g same [] ys e = rw (nothing_read read ys e) refl
same_mapped read f g same (x ∷ xs) zs e =
    let (y, ys, first, rest, is) = each_step read x xs zs e in
    rw (is, same x y first, same_mapped read f g same xs ys rest) refl

-- there is as much as before
pub same_length : {A B : Type 0} (read : A → Result B LibFault) (xs : List A) (ys : List B) → each_of read xs ≡ Ok ys → length ys ≡ length xs
same_length read [] ys e = rw (nothing_read read ys e) refl
same_length read (x ∷ xs) zs e =
    let (y, ys, first, rest, is) = each_step read x xs zs e in
    rw (is, same_length read xs ys rest) refl

-- a rule is kept, and the next reader gives the whole
pub kept_first : {A : Type 0} (rule : DocumentRule) (b : Bool) (next : Unit → Result A LibFault) (y : A) → (kept rule b >>= next) ≡ Ok y → (b ≡ true) × (next tt ≡ Ok y)
kept_first rule true next y e = (refl, e)
kept_first rule false next y e = cc

behind_rule : {P : Type 0} (b : Bool) (made p : P) → (kept broken.TooMany b >>= λ _. Ok made) ≡ Ok p → (b ≡ true) × (p ≡ made)
behind_rule true made p e = (refl, cc)
behind_rule false made p e = cc

-- each rule is kept, and the transactions are read between them
pub behind_rules : {T P : Type 0} (a b c : Bool) (r : Result T LibFault) (d : T → Bool) (make : T → P) (p : P)
    → (kept broken.TooMany a >>= λ _. kept broken.Element b >>= λ _. kept broken.Name c >>= λ _. r >>= λ t. kept broken.TooMany (d t) >>= λ _. Ok (make t)) ≡ Ok p
    → (a ≡ true) × (b ≡ true) × (c ≡ true) × (t : T) × (r ≡ Ok t) × (d t ≡ true) × (p ≡ make t)
behind_rules false b c r d make p e = cc
behind_rules true false c r d make p e = cc
behind_rules true true false r d make p e = cc
behind_rules true true true (Err f) d make p e = cc
behind_rules true true true (Ok t) d make p e = let (last, is) = behind_rule (d t) (make t) p e in (refl, refl, refl, t, refl, last, is)
