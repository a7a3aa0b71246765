-- Elements of a plan are apart.
use Rattle.std.proofs.Common.{◌≡◌, ◌==◌, ◌&&◌, ◌||◌, ℕ, Bool, true, not, nat_eq, List, [], ◌∷◌, refl, ap, ◌∙◌}
use Rattle.std.specs.List.{list_any}
use Rattle.fc_types.specs.Ids.{is_distinct}
use Rattle.fc_protocol.specs.Collections.{among}
use Rattle.fc_jobs.specs.Sending.{are_apart}

among_is : (p : ℕ) (qs : List ℕ) → among p qs ≡ list_any (nat_eq p) qs
among_is p [] = refl
among_is p (q ∷ qs) = ap (λ b. p == q || b) (among_is p qs)

pub apart_is : (ps : List ℕ) → are_apart ps ≡ is_distinct nat_eq ps
apart_is [] = refl
apart_is (p ∷ ps) = ap (λ b. not b && are_apart ps) (among_is p ps) ∙ ap (λ b. not (list_any (nat_eq p) ps) && b) (apart_is ps)
