use Rattle.std.proofs.Common.{◌≡◌, ℕ, List, ◌⊎◌, inl, inr, Err}
use Rattle.fc_text.specs.FirstMisfit.{IsWithin}
use Rattle.fc_lines.specs.TextPlaces.{TextPlace}
use Rattle.fc_text.specs.TextReading.{text_in, body_in}
use Rattle.fc_text.proofs.Misfits.{text_within, body_within}
use Rattle.fc_text.proofs.RefusedPlaces.{text_first, body_first}
use Rattle.fc_text.proofs.laws.text_is_refused_at_its_first_misfit.Goals as goal

by_either : (bytes : List ℕ) (p : TextPlace) → (text_in bytes ≡ Err p) ⊎ (body_in bytes ≡ Err p) → IsWithin p bytes
by_either bytes p (inl e) = text_within bytes p e
by_either bytes p (inr e) = body_within bytes p e

pub returns-clause-text : goal.returns-clause-text
returns-clause-text c = text_first

pub returns-clause-body : goal.returns-clause-body
returns-clause-body c = body_first

pub returns-clause-within : goal.returns-clause-within
returns-clause-within c = by_either
