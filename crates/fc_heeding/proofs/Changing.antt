-- An element does with a request what it does with what is read of it.
use Rattle.std.proofs.Common.{◌≡◌, ℕ, ◌==◌, Bool, true, false, if◌then◌else◌, Option, None, refl, ap}
use Rattle.fc_base.specs.Ids.{Txn}
use Rattle.fc_protocol.specs.ElementMachine.{Circumstance, ElementState, Heard, by_verdict, hears, only_says, reply, unclaimed_code}
use Rattle.fc_protocol.specs.Fence.{judge}
use Rattle.fc_protocol.specs.Messages.{Body, Claim, Sot, Mot, Eot, Trcomp, Abt, Floor, Malformed, Plain, Ask, Ask_record, Stamp}
use Rattle.fc_protocol.specs.declared.verdict.Verdict.{Verdict}
use Rattle.fc_protocol.specs.declared.verdict.Verdict.TheVariants.{Claim as Claims, Unclaimed, Stale, Again, Gap, Next}
use Rattle.fc_heeding.specs.Heeding.{as_read}

module _ (p : ℕ) (el : ElementState) (k : ℕ) (c : Circumstance) (m : Stamp) where
  code_of : (x : Txn) (i : ℕ) (b : Bool) → unclaimed_code b c.plain (Mot x 0) ≡ unclaimed_code b c.plain (Mot x i)
  code_of x i true = refl
  code_of x i false = refl

  by_each : (x : Txn) (i : ℕ) (v : Verdict) → by_verdict p el k c m (Mot x 0) v ≡ by_verdict p el k c m (Mot x i) v
  by_each x i (Claims e) = refl
  by_each x i Unclaimed = ap (λ (code : ℕ). only_says el (reply c.quiet m code)) (code_of x i (k == el.ce))
  by_each x i Stale = refl
  by_each x i Again = refl
  by_each x i Gap = refl
  by_each x i Next = refl

  pub heard_as_read : (b : Body) → hears p el k c m (as_read b) ≡ hears p el k c m b
  heard_as_read (Claim w) = refl
  heard_as_read (Sot x ps sc) = refl
  heard_as_read (Mot x i) =
      ap (λ (h : Heard). if c.unheard then only_says el None else (if c.misfit == 0 then h else only_says el (reply c.quiet m c.misfit)))
      (by_each x i (judge el.epoch el.master el.sequence k m None))
  heard_as_read (Eot x) = refl
  heard_as_read (Trcomp x) = refl
  heard_as_read (Abt x) = refl
  heard_as_read (Floor f) = refl
  heard_as_read Malformed = refl
  heard_as_read Plain = refl
  heard_as_read Ask = refl
  heard_as_read (Ask_record x) = refl
