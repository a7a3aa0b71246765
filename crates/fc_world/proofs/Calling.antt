-- What is asked of a control element, by its number and by what is asked.
use Rattle.std.proofs.Common.{◌≡◌, ℕ, List, Option, Some, None, refl, ap, ◌∙◌, subst}
use Rattle.fc_world.specs.Lookups.{ruling_in}
use Rattle.fc_world.specs.Stages.{Refuses, Tells, call_of}
use Rattle.fc_world.specs.Worlds.{Ruling, Standing, WorldState}
use Rattle.fc_world.specs.WorldSteps.{calls, refusal_by}
use Rattle.fc_world.specs.declared.faults.Refused.{Refused}
use Rattle.fc_world.specs.declared.lives.Request.{Request}
use Rattle.fc_world.specs.declared.lives.Request.TheVariants as request

-- what comes of it
pub asked_as : (c n place : ℕ) (q r : Request) (w new : WorldState) → n ≡ c → q ≡ r → new ≡ calls place n (call_of n q) (ruling_in n w.controllers) w → new ≡ calls place c (call_of c r) (ruling_in c w.controllers) w
asked_as c n place q r w new e f is =
    is ∙ ap (λ k. calls place k (call_of k q) (ruling_in k w.controllers) w) e ∙ ap (λ x. calls place c (call_of c x) (ruling_in c w.controllers) w) f

-- and why it is refused
pub refused_as : (c n : ℕ) (q r : Request) (ss : List Standing) (o : Option Refused) → n ≡ c → q ≡ r
    → Tells (Refuses q) o (refusal_by (call_of n q) (ruling_in n ss)) → Tells (Refuses r) o (refusal_by (call_of c r) (ruling_in c ss))
refused_as c n q r ss o e f h =
    subst (λ x. Tells (Refuses x) o (refusal_by (call_of c x) (ruling_in c ss))) f (subst (λ k. Tells (Refuses q) o (refusal_by (call_of k q) (ruling_in k ss))) e h)

-- to send once more what waits is never refused
pub never_refused : (c f : ℕ) (o : Option Ruling) → refusal_by (call_of c (request.Resend f)) o ≡ None
never_refused c f None = refl
never_refused c f (Some r) = refl
