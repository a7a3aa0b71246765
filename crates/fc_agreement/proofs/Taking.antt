-- An idle element takes the next message of its master, where nothing goes wrong.
use Rattle.std.proofs.Common.{◌≡◌, ℕ, ◌+◌, ◌==◌, ◌&&◌, Bool, true, false, List, [], ◌∷◌, Option, Some, None, ⊎_elim, refl, ap, ◌∙◌, arith, eqb-true, eq-eqb}
use Rattle.fc_base.specs.Ids.{Txn}
use Rattle.fc_agreement.specs.CleanRound.{Smooth}
use Rattle.fc_protocol.specs.ElementMachine.{ElementState, Circumstance, acts, Acts, shows, after, admits, only_says, next_with, by_verdict, configured, by_body, hears}
use Rattle.fc_protocol.specs.Fence.{judge}
use Rattle.fc_protocol.specs.Floors.{is_below}
use Rattle.fc_protocol.specs.Messages.{Stamp, Body, Sot, Mot, Eot, Trcomp, claim_of}
use Rattle.fc_protocol.specs.Phases.{shown_code, opening, adding, preparing, settling}
use Rattle.fc_protocol.specs.Records.{state_of, write, clashes, is_packed}
use Rattle.fc_protocol.specs.Scopes.{Scope}
use Rattle.fc_protocol.specs.Trace.{Opened_at, Prepared_at, Settled_at}
use Rattle.fc_protocol.specs.declared.states.Decision.TheVariants.{Complete}
use Rattle.fc_protocol.specs.declared.states.TxnState.{TxnState}
use Rattle.fc_protocol.specs.declared.states.TxnState.TheVariants.{Started as RecordStarted, Prepared as RecordPrepared, Completed as RecordCompleted}
use Rattle.fc_protocol.specs.declared.verdict.Verdict.TheVariants.{Unclaimed, Stale, Again, Gap, Next}
use Rattle.fc_protocol.proofs.Basics.{cond_true, cond_false, and_true, both}

abbrev pub at_count : ℕ → ℕ → Stamp
at_count e n = record { life = e; count = n }

pub judge_next : (e master seq sender n : ℕ) → (e == 0) ≡ false → sender ≡ master → n ≡ seq + 1 → judge e master seq sender (at_count e n) None ≡ Next
judge_next e master seq sender n z s c =
    let mine : (e == e && sender == master) ≡ true = and_true (e == e) _ (eq-eqb e e refl) (eq-eqb sender master s) in
    let old : (n == seq) ≡ false = ⊎_elim (λ t. let i : n ≡ seq = eqb-true n seq t in absurd (omega arith)) (λ t. t) (both (n == seq)) in
    cond_false (e == 0) Unclaimed _ z ∙ cond_true (e == e && sender == master) _ Stale mine ∙ cond_false (n == seq) Again _ old ∙ cond_true (n == seq + 1) Next Gap (eq-eqb n (seq + 1) c)

-- the message that the element expects
pub record Expected (el : ElementState) (k n : ℕ) (c : Circumstance) : Type 0 where
  pub smooth : Smooth c
  pub claimed : (el.epoch == 0) ≡ false
  pub sender : k ≡ el.master
  pub count : n ≡ el.sequence + 1

module _ (p : ℕ) (el : ElementState) (k n : ℕ) (c : Circumstance) (x : Expected el k n c) where
  abbrev m : Stamp
  m = at_count el.epoch n

  pub taken : (b : Body) → claim_of b ≡ None → configured p el k c m b ≡ next_with el false m (acts p el.epoch c b el.floor el.records)
  taken b i =
      cond_true (c.misfit == 0) _ _ (eq-eqb c.misfit 0 x.smooth.fits) ∙ ap (λ o. by_verdict p el k c m b (judge el.epoch el.master el.sequence k m o)) i
      ∙ ap (by_verdict p el k c m b) (judge_next el.epoch el.master el.sequence k n x.claimed x.sender x.count) ∙ ap (λ q. next_with el q m (acts p el.epoch c b el.floor el.records)) x.smooth.answers

  pub heard : (b : Body) → hears p el k c m b ≡ by_body p el k c m b
  heard b = cond_false c.unheard (only_says el None) (by_body p el k c m b) x.smooth.heard

  pub sot_taken : (y : Txn) (ps : List ℕ) (sc : Scope) → admits p el.epoch y ps false sc ≡ true → clashes sc el.records ≡ false → is_packed el.records ≡ false → state_of y el.records ≡ None → is_below y el.floor ≡ false
      → hears p el k c m (Sot y ps sc) ≡ next_with el false m (record { records = write y ps sc RecordStarted el.records; floor = el.floor; code = 0; facts = Opened_at p y ps ∷ [] })
  sot_taken y ps sc a h f s b =
      let ns = el.records in
      let go : Bool → Bool → Bool → Bool → ℕ → Option TxnState → Acts = λ fits below clash full rest t. shows (shown_code (opening fits below clash full 0 t).code rest c.shown) (after p (opening fits below clash full rest t) y ps sc el.floor ns) in
      heard (Sot y ps sc) ∙ taken (Sot y ps sc) refl ∙ ap (next_with el false m)
      (ap (λ v. go (admits p el.epoch y ps v sc) (is_below y el.floor) (clashes sc ns) (is_packed ns) c.rest (state_of y ns)) x.smooth.known ∙ ap (λ v. go v (is_below y el.floor) (clashes sc ns) (is_packed ns) c.rest (state_of y ns)) a
      ∙ ap (λ v. go true v (clashes sc ns) (is_packed ns) c.rest (state_of y ns)) b ∙ ap (λ v. go true false v (is_packed ns) c.rest (state_of y ns)) h ∙ ap (λ v. go true false false v c.rest (state_of y ns)) f
      ∙ ap (λ v. go true false false false v (state_of y ns)) x.smooth.succeeds ∙ ap (λ v. go true false false false 0 v) s)

  pub mot_taken : (y : Txn) (i : ℕ) → state_of y el.records ≡ Some RecordStarted → hears p el k c m (Mot y i) ≡ next_with el false m (record { records = el.records; floor = el.floor; code = 0; facts = [] })
  mot_taken y i s =
      heard (Mot y i) ∙ taken (Mot y i) refl ∙ ap (next_with el false m) (ap (λ v. shows (shown_code (adding 0 (state_of y el.records)).code v c.shown) (after p (adding v (state_of y el.records)) y [] [] el.floor el.records)) x.smooth.succeeds
      ∙ ap (λ v. shows (shown_code (adding 0 v).code 0 c.shown) (after p (adding 0 v) y [] [] el.floor el.records)) s)

  pub eot_taken : (y : Txn) → state_of y el.records ≡ Some RecordStarted → hears p el k c m (Eot y) ≡ next_with el false m (record { records = write y [] [] RecordPrepared el.records; floor = el.floor; code = 0; facts = Prepared_at p y ∷ [] })
  eot_taken y s = heard (Eot y) ∙ taken (Eot y) refl ∙ ap (next_with el false m) (ap (λ v. after p (preparing v) y [] [] el.floor el.records) s)

  pub trcomp_taken : (y : Txn) → state_of y el.records ≡ Some RecordPrepared → hears p el k c m (Trcomp y) ≡ next_with el false m (record { records = write y [] [] RecordCompleted el.records; floor = el.floor; code = 0; facts = Settled_at p y Complete ∷ [] })
  trcomp_taken y s = heard (Trcomp y) ∙ taken (Trcomp y) refl ∙ ap (next_with el false m) (ap (λ v. after p (settling Complete v) y [] [] el.floor el.records) s)
