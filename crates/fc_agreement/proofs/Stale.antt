-- A request of a life below the element's epoch changes nothing there.
use Rattle.std.proofs.Common.{◌≡◌, ℕ, ◌<◌, ◌==◌, Bool, true, false, cond, [], None, refl, arith}
use Rattle.fc_protocol.specs.ElementMachine.{ElementState, Circumstance, Heard, only_says, by_verdict, configured, by_body, reply, hears}
use Rattle.fc_protocol.specs.Messages.{Stamp, Body, Claim, Sot, Mot, Eot, Trcomp, Abt, Floor, Malformed, Plain, Ask, Ask_record}
use Rattle.fc_protocol.specs.declared.verdict.Verdict.{Verdict}
use Rattle.fc_protocol.specs.declared.verdict.Verdict.TheVariants.{Claim as Claims, Unclaimed, Stale, Again, Gap, Next}
use Rattle.fc_agreement.proofs.Hearing.{verdict_on, next_is, claims_claim}

abbrev Unchanged : ElementState → Heard → Type 0
Unchanged el r = (r.element ≡ el) × (r.facts ≡ [])

same_by : (p : ℕ) (el : ElementState) (k : ℕ) (c : Circumstance) (s : Stamp) (b : Body) (v : Verdict) → s.life < el.epoch → verdict_on el k s b ≡ v → Unchanged el (by_verdict p el k c s b v)
same_by p el k c s b (Claims g) l e = let above : el.epoch < s.life = (claims_claim el k s b g e).1 in absurd (omega arith)
same_by p el k c s b Unclaimed l e = (refl, refl)
same_by p el k c s b Stale l e = (refl, refl)
same_by p el k c s b Again l e = (refl, refl)
same_by p el k c s b Next l e = let at : s.life ≡ el.epoch = (next_is el k s b e).0 in absurd (omega arith)
same_by p el k c s b Gap l e = (refl, refl)

same_if : (el : ElementState) (b : Bool) (v w : Heard) → Unchanged el v → Unchanged el w → Unchanged el (cond b v w)
same_if el true v w f g = f
same_if el false v w f g = g

same_config : (p : ℕ) (el : ElementState) (k : ℕ) (c : Circumstance) (s : Stamp) (b : Body) → s.life < el.epoch → Unchanged el (configured p el k c s b)
same_config p el k c s b l =
    same_if el (c.misfit == 0) (by_verdict p el k c s b (verdict_on el k s b)) (only_says el (reply c.quiet s c.misfit)) (same_by p el k c s b (verdict_on el k s b) l refl) (refl, refl)

same_body : (p : ℕ) (el : ElementState) (k : ℕ) (c : Circumstance) (s : Stamp) (b : Body) → s.life < el.epoch → Unchanged el (by_body p el k c s b)
same_body p el k c s Ask l = (refl, refl)
same_body p el k c s (Ask_record y) l = (refl, refl)
same_body p el k c s (Claim w) l = same_config p el k c s (Claim w) l
same_body p el k c s (Sot y ps sc) l = same_config p el k c s (Sot y ps sc) l
same_body p el k c s (Mot y i) l = same_config p el k c s (Mot y i) l
same_body p el k c s (Eot y) l = same_config p el k c s (Eot y) l
same_body p el k c s (Trcomp y) l = same_config p el k c s (Trcomp y) l
same_body p el k c s (Abt y) l = same_config p el k c s (Abt y) l
same_body p el k c s (Floor f) l = same_config p el k c s (Floor f) l
same_body p el k c s Malformed l = same_config p el k c s Malformed l
same_body p el k c s Plain l = same_config p el k c s Plain l

pub fenced_law : (p : ℕ) (el : ElementState) (k : ℕ) (c : Circumstance) (s : Stamp) (b : Body) → s.life < el.epoch → ((hears p el k c s b).element ≡ el) × ((hears p el k c s b).facts ≡ [])
fenced_law p el k c s b l = same_if el c.unheard (only_says el None) (by_body p el k c s b) (refl, refl) (same_body p el k c s b l)
