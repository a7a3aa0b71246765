-- A clean round goes on as long as messages are delivered, and stands still where none is left.
use Rattle.std.proofs.Common.{[], ◌≡◌, ◌≤◌, ℕ, zero, suc, ◌+◌, true, List, ◌∷◌, ◌++◌, append_assoc, append-nil, length, slice_get, Some, None, inl, ⊎_elim, refl, sym, ap, ◌∙◌, subst, arith}
use Rattle.fc_agreement.proofs.Round.{Phase, Ground, Going}
use Rattle.fc_agreement.proofs.RoundRuns.{Once, arrived, passed as going_passed}
use Rattle.fc_asks.specs.Plans.{changes_of, numbered as numbered_of}
use Rattle.fc_asks.specs.declared.life.Life.{Life}
use Rattle.fc_element.specs.ElementMachine.{is_ce}
use Rattle.fc_rounds.specs.Following.{IsSent}
use Rattle.fc_rounds.specs.Networks.{ce_of}
use Rattle.fc_jobs.specs.Plans.{changes_in, scopes_in}
use Rattle.fc_plans.specs.declared.plan.Part.{Part}
use Rattle.fc_protocol.specs.Collections.{among}
use Rattle.fc_protocol.specs.MasterMachine.{Master, next_txn}
use Rattle.fc_protocol.specs.Messages.{Sent}
use Rattle.fc_protocol.specs.WorldSteps.{World}
use Rattle.fc_wellformed.specs.WellFormed.{KeepsChanges}
use Rattle.fc_world.specs.Lookups.{parcel_in}
use Rattle.fc_world.specs.Settings.{IsNetwork}
use Rattle.fc_world.specs.Worlds.{WorldState}
use Rattle.fc_world.specs.WorldSteps.{delivers}
use Rattle.fc_world.specs.WorldSteps as world
use Rattle.fc_world.specs.declared.sent.Parcel.{Parcel}
use Rattle.fc_world.specs.declared.setting.Setting.{Setting}
use Rattle.fc_rounds.proofs.Delivering.{Seen, stepped}
use Rattle.fc_rounds.proofs.Lists.{length_one, pairs_length}
use Rattle.fc_blocks.specs.Opening.{opened_store}
use Rattle.fc_holding.specs.Held.{has_all}
use Rattle.fc_rounds.proofs.Phases.{passes, steps}
use Rattle.fc_rounds.proofs.Rounding.{Kept, kept_still, next, seen}
use Rattle.fc_rounds.specs.CleanRound.{deliveries}

none_there : (ps : List Parcel) (n : ℕ) → length ps ≤ n → slice_get ps n ≡ None
none_there [] zero h = refl
none_there [] (suc n) h = refl
none_there (p ∷ ps) zero h = absurd (omega (arith, h))
none_there (p ∷ ps) (suc n) h = none_there ps n (omega (arith, h))

pub none_numbered : (ps : List Parcel) (i : ℕ) → length ps + 1 ≤ i → parcel_in i ps ≡ None
none_numbered ps zero h = refl
none_numbered ps (suc n) h = none_there ps n (omega (arith, h))

module _ (s : Setting) (is : IsNetwork s) (start : Seen s) (k : ℕ) (m : Master) (ps : List ℕ) (parts : List Part) (L : Life) (keeps : KeepsChanges L) (plan : numbered_of L.plans (next_txn m).number ≡ Some parts) (ce : ℕ) (of_ce : ce_of s k ≡ ce) (control : is_ce ce ≡ true)
    (few : length ps ≤ 64) (small : (p : ℕ) → length (scopes_in parts p) ≤ 4096) (places : ℕ → ℕ) (ground : Ground start.a k m ps (changes_in parts) (scopes_in parts)) (one : Once ps)
    (counts : (p : ℕ) → among p ps ≡ true → changes_in parts p ≡ length (changes_of p parts)) (known : (p : ℕ) → among p ps ≡ true → has_all (opened_store s.library s.instances).instances (scopes_in parts p) ≡ true) where
  abbrev Goes : World → List Sent → List Sent → (ℕ → Phase) → Type 0
  Goes = Going start.a k m ps (changes_in parts) (scopes_in parts)

  abbrev KeptBeside : Seen s → List Sent → List Sent → Type 0
  KeptBeside = Kept s is start k m ps parts L keeps plan ce of_ce control few small places ground one

  abbrev next_one : Seen s → ℕ → Seen s
  next_one = next s is start k m ps parts L keeps plan ce of_ce control few small places ground one

  abbrev seen_one : Seen s → World
  seen_one = seen s is start k m ps parts L keeps plan ce of_ce control few small places ground one

  -- after so many deliveries
  abbrev pub after : ℕ → ℕ → Seen s → Seen s
  after i n v = arrived start.a k m ps (changes_in parts) (scopes_in parts) ground one seen_one next_one KeptBeside i n v

  pub record IsKept (v : Seen s) : Type 0 where
    pub before : List Sent
    pub rest : List Sent
    pub kept : KeptBeside v before rest

  -- none is left
  ended : (n i : ℕ) (v : Seen s) (before : List Sent) → KeptBeside v before [] → length v.w.sent + 1 ≤ i → IsKept (after i n v)
  ended zero i v before z low = record { before = before; rest = []; kept = z }
  ended (suc n) i v before z low =
      let none : parcel_in i v.w.sent ≡ None = none_numbered v.w.sent i low in
      let u = next_one v i in
      let w_is : u.w ≡ v.w = ap (λ o. delivers (places i) o v.w) none in
      let a_is : u.a ≡ v.a = (stepped s is v (places i) i).none none in
      ended n (i + 1) u before (kept_still s is start k m ps parts L keeps plan ce of_ce control few small places ground one v u before [] w_is a_is z)
      (let same : length u.w.sent ≡ length v.w.sent = ap (λ (q : WorldState). length q.sent) w_is in omega (arith, same, low))

  all_delivered : (v : Seen s) (before : List Sent) (ph : ℕ → Phase) → Goes v.a before [] ph → length v.w.sent ≡ length before
  all_delivered v before ph y = pairs_length (IsSent s) v.w.sent v.a.sent v.follows.sent ∙ ap (λ ts. length ts) (y.sent ∙ append-nil before)

  more : (before : List Sent) (s0 : Sent) (i : ℕ) → i ≡ length before + 1 → i + 1 ≡ length (before ++ s0 ∷ []) + 1
  more before s0 i e = let l : length (before ++ s0 ∷ []) ≡ length before + 1 = length_one before s0 in omega (arith, l, e)

  pub goes_on : (n i : ℕ) (v : Seen s) (before rest : List Sent) (ph : ℕ → Phase) → Goes v.a before rest ph → KeptBeside v before rest → i ≡ length before + 1 → IsKept (after i n v)
  goes_on zero i v before rest ph y z e = record { before = before; rest = rest; kept = z }
  goes_on (suc n) i v before [] ph y z e = ended (suc n) i v before z (let l : length v.w.sent ≡ length before = all_delivered v before ph y in omega (arith, l, e))
  goes_on (suc n) i v before (s0 ∷ rest) ph y z e =
      ⊎_elim
      (λ u.
      let t = passes s is start k m ps parts L keeps plan ce of_ce control few small places ground one counts known v before s0 rest ph i y z e u in
      goes_on n (i + 1) (next_one v i) (before ++ s0 ∷ []) rest ph
      (subst (λ b. Goes b (before ++ s0 ∷ []) rest ph) (sym t.0) (going_passed start.a k m ps (changes_in parts) (scopes_in parts) ground one seen_one next_one KeptBeside
      (passes s is start k m ps parts L keeps plan ce of_ce control few small places ground one counts known) (steps s is start k m ps parts L keeps plan ce of_ce control few small places ground one counts known) v.a before s0 rest ph y u))
      t.1 (more before s0 i e))
      (λ u.
      let t = steps s is start k m ps parts L keeps plan ce of_ce control few small places ground one counts known v before s0 rest ph i y z e u in
      goes_on n (i + 1) (next_one v i) (before ++ s0 ∷ []) t.0.after t.0.phase t.0.going t.1 (more before s0 i e))
      (y.queue.each s0 (inl refl))

  -- ---- as the steps of a script
  pub after_world : (n i : ℕ) (v : Seen s) → (after i n v).w ≡ world.run s.transactions v.w (deliveries places i n)
  after_world zero i v = refl
  after_world (suc n) i v = after_world n (i + 1) (next_one v i)

  pub after_facts : (n i : ℕ) (v : Seen s) → (after i n v).fs ≡ world.facts s.transactions v.w (deliveries places i n) ++ v.fs
  after_facts zero i v = refl
  after_facts (suc n) i v =
      let u = next_one v i in
      after_facts n (i + 1) u ∙ sym (append_assoc (world.facts s.transactions u.w (deliveries places (i + 1) n)) (world.facts_of (parcel_in i v.w.sent) v.w) v.fs)
