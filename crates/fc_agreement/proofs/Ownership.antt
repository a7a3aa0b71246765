-- Who has claimed an element.
use Rattle.std.proofs.Common.{◌≡◌, ℕ, ◌+◌, ◌==◌, ◌&&◌, Bool, true, false, cond, List, [], ◌∷◌, ◌++◌, Option, Some, None, ⊎_elim, refl, sym, ap, ◌∙◌, eqb-true}
use Rattle.fc_agreement.specs.Restarts.{with_restarts}
use Rattle.fc_protocol.specs.ElementMachine.{ElementState, new_element, resumed, Circumstance, Heard, only_says, reply, by_verdict, configured, by_body, hears}
use Rattle.fc_protocol.specs.Fence.{claims, judge}
use Rattle.fc_protocol.specs.Messages.{is_epoch, Stamp, Body, Claim, Sot, Mot, Eot, Trcomp, Abt, Floor, Malformed, Plain, Ask, Ask_record, claim_of}
use Rattle.fc_protocol.specs.OneElement.{Arrival, hears_all, Owned}
use Rattle.fc_protocol.specs.Trace.{Fact}
use Rattle.fc_protocol.specs.declared.verdict.Verdict.{Verdict}
use Rattle.fc_protocol.specs.declared.verdict.Verdict.TheVariants.{Claim as Claims, Unclaimed, Stale, Again, Gap, Next}
use Rattle.fc_protocol.proofs.Basics.{both, cond_true, cond_false}
use Rattle.fc_protocol.proofs.Puts.{both_first, both_second}

-- a claim is of an epoch
claimed_epoch : (epoch sender : ℕ) (m : Stamp) (claim : Option ℕ) → claims epoch sender m claim ≡ true → is_epoch m.life ≡ true
claimed_epoch epoch sender m None e = cc
claimed_epoch epoch sender m (Some w) e =
    let front : (m.life == w && m.count == 0) ≡ true = both_first (m.life == w && m.count == 0) _ e in
    let same : m.life ≡ w = eqb-true m.life w (both_first (m.life == w) _ front) in
    ap is_epoch same ∙ both_first (is_epoch w) _ (both_second (m.life == w && m.count == 0) _ e)

no_claim : (a b c d : Bool) (e : ℕ) → cond a Unclaimed (cond b (cond c Again (cond d Next Gap)) Stale) ≡ Claims e → ⊥
no_claim true b c d e i = cc
no_claim false true true d e i = cc
no_claim false true false true e i = cc
no_claim false true false false e i = cc
no_claim false false c d e i = cc

is_life : (n e : ℕ) → Claims n ≡ Claims e → n ≡ e
is_life n e i = cc

judged_epoch : (epoch master seq sender : ℕ) (m : Stamp) (claim : Option ℕ) (e : ℕ) → judge epoch master seq sender m claim ≡ Claims e → is_epoch e ≡ true
judged_epoch epoch master seq sender m claim e i =
    ⊎_elim (λ u. ap is_epoch (sym (is_life m.life e (sym (cond_true (claims epoch sender m claim) (Claims m.life) _ u) ∙ i))) ∙ claimed_epoch epoch sender m claim u)
    (λ u. absurd (no_claim (epoch == 0) (m.life == epoch && sender == master) (m.count == seq) (m.count == seq + 1) e (sym (cond_false (claims epoch sender m claim) (Claims m.life) _ u) ∙ i))) (both (claims epoch sender m claim))

-- what is judged next is claimed
next_claimed : (a b c d : Bool) → cond a Unclaimed (cond b (cond c Again (cond d Next Gap)) Stale) ≡ Next → a ≡ false
next_claimed true b c d i = cc
next_claimed false b c d i = refl

judged_next : (epoch master seq sender : ℕ) (m : Stamp) (claim : Option ℕ) → judge epoch master seq sender m claim ≡ Next → (epoch == 0) ≡ false
judged_next epoch master seq sender m claim i =
    ⊎_elim (λ u. let z : Claims m.life ≡ Next = sym (cond_true (claims epoch sender m claim) (Claims m.life) _ u) ∙ i in cc)
    (λ u. next_claimed (epoch == 0) (m.life == epoch && sender == master) (m.count == seq) (m.count == seq + 1) (sym (cond_false (claims epoch sender m claim) (Claims m.life) _ u) ∙ i)) (both (claims epoch sender m claim))

-- an epoch is not 0
epoch_some : (e : ℕ) → is_epoch e ≡ true → (e == 0) ≡ false
epoch_some e i = ⊎_elim (λ u. let z : e ≡ 0 = eqb-true e 0 u in let t : is_epoch 0 ≡ true = sym (ap is_epoch z) ∙ i in cc) (λ u. u) (both (e == 0))

never : {A : Type 0} (b : Bool) → b ≡ true → b ≡ false → A
never true e f = cc
never false e f = cc

module _ (ce p : ℕ) where
  owned_if : (b : Bool) (v w : Heard) → Owned ce v.element → Owned ce w.element → Owned ce (cond b v w).element
  owned_if true v w f h = f
  owned_if false v w f h = h

  owned_verdict : (el : ElementState) (k : ℕ) (c : Circumstance) (m : Stamp) (b : Body) (v : Verdict) → judge el.epoch el.master el.sequence k m (claim_of b) ≡ v → Owned ce el → Owned ce (by_verdict p el k c m b v).element
  owned_verdict el k c m b (Claims e) j o = let i = judged_epoch el.epoch el.master el.sequence k m (claim_of b) e j in ((λ z. never (e == 0) z (epoch_some e i)), (λ z. (i, refl)))
  owned_verdict el k c m b Unclaimed j o = o
  owned_verdict el k c m b Stale j o = o
  owned_verdict el k c m b Again j o = o
  owned_verdict el k c m b Gap j o = o
  owned_verdict el k c m b Next j o = ((λ z. never (el.epoch == 0) z (judged_next el.epoch el.master el.sequence k m (claim_of b) j)), (λ z. o.1 z))

  owned_config : (el : ElementState) (k : ℕ) (c : Circumstance) (m : Stamp) (b : Body) → Owned ce el → Owned ce (configured p el k c m b).element
  owned_config el k c m b o = owned_if (c.misfit == 0) _ (only_says el (reply c.quiet m c.misfit)) (owned_verdict el k c m b (judge el.epoch el.master el.sequence k m (claim_of b)) refl o) o

  owned_body : (el : ElementState) (k : ℕ) (c : Circumstance) (m : Stamp) (b : Body) → Owned ce el → Owned ce (by_body p el k c m b).element
  owned_body el k c m (Claim w) o = owned_config el k c m (Claim w) o
  owned_body el k c m (Sot x ps sc) o = owned_config el k c m (Sot x ps sc) o
  owned_body el k c m (Mot x i) o = owned_config el k c m (Mot x i) o
  owned_body el k c m (Eot x) o = owned_config el k c m (Eot x) o
  owned_body el k c m (Trcomp x) o = owned_config el k c m (Trcomp x) o
  owned_body el k c m (Abt x) o = owned_config el k c m (Abt x) o
  owned_body el k c m (Floor f) o = owned_config el k c m (Floor f) o
  owned_body el k c m Malformed o = owned_config el k c m Malformed o
  owned_body el k c m Plain o = owned_config el k c m Plain o
  owned_body el k c m Ask o = o
  owned_body el k c m (Ask_record x) o = o

  owned_all : (arrivals : List Arrival) (el : ElementState) (fs : List Fact) → Owned ce el → Owned ce (hears_all p arrivals el fs).element
  owned_all [] el fs o = o
  owned_all (a ∷ rest) el fs o =
      let r = hears p el a.sender a.circumstance a.stamp a.body in
      owned_all rest r.element (r.facts ++ fs) (owned_if a.circumstance.unheard (only_says el None) (by_body p el a.sender a.circumstance a.stamp a.body) o (owned_body el a.sender a.circumstance a.stamp a.body o))

  owned_runs : (runs : List (List Arrival)) (el : ElementState) (fs : List Fact) → Owned ce el → Owned ce (with_restarts p runs el fs).element
  owned_runs [] el fs o = o
  owned_runs (arrivals ∷ runs) el fs o =
      let r = hears_all p arrivals (resumed el) fs in
      owned_runs runs r.element r.facts (owned_all arrivals (resumed el) fs o)

  pub owned_law : (runs : List (List Arrival)) → Owned ce (with_restarts p runs (new_element ce) []).element
  owned_law runs = owned_runs runs (new_element ce) [] ((λ z. (refl, refl, refl)), (λ z. let t : true ≡ false = z in cc))
