-- Each message of a participant in a clean round, by the phase in which it is.
use Rattle.std.proofs.Common.{◌&&◌, [], ◌≡◌, ◌≤◌, ℕ, zero, suc, ◌+◌, ◌==◌, not, nat_le, true, false, List, ◌∷◌, ◌++◌, length, Some, ⊎_elim, refl, sym, ap, ◌∙◌, subst, arith, eq-eqb}
use Rattle.fc_protocol.specs.Floors.{is_below}
use Rattle.fc_abiding.specs.Abiding.{IsLike}
use Rattle.fc_agreement.proofs.Round.{Phase, Asking, Told, Ready, Ending, Ended, Done, flies, Ground, Going, Stands, message_of, body}
use Rattle.fc_agreement.proofs.RoundElements.{Next}
use Rattle.fc_agreement.proofs.RoundRuns.{Once, Passes, Steps}
use Rattle.fc_agreement.proofs.Taking.{at_count}
use Rattle.fc_asks.specs.Plans.{changes_of, numbered as numbered_of}
use Rattle.fc_asks.specs.declared.life.Life.{Life}
use Rattle.fc_base.specs.Ids.{Txn}
use Rattle.fc_element.specs.ElementMachine.{is_ce}
use Rattle.fc_rounds.specs.Networks.{ce_of}
use Rattle.fc_jobs.specs.Plans.{changes_in, scopes_in}
use Rattle.fc_plans.specs.declared.plan.Part.{Part}
use Rattle.fc_protocol.proofs.Basics.{both, cond_false, cond_true, and_true}
use Rattle.fc_protocol.specs.Collections.{among}
use Rattle.fc_protocol.specs.ElementMachine.{admits, takes_part}
use Rattle.fc_protocol.specs.ElementMachine as protocol
use Rattle.fc_protocol.specs.MasterMachine.{Master, next_txn}
use Rattle.fc_protocol.specs.Messages as said
use Rattle.fc_protocol.specs.Messages.{Sent, sent}
use Rattle.fc_protocol.specs.Records.{clashes, is_packed, state_of}
use Rattle.fc_protocol.specs.Scopes.{Scope, is_scope}
use Rattle.fc_protocol.specs.WorldSteps.{World}
use Rattle.fc_wellformed.specs.WellFormed.{KeepsChanges}
use Rattle.fc_world.specs.Settings.{IsNetwork}
use Rattle.fc_world.specs.declared.setting.Setting.{Setting}
use Rattle.fc_rounds.proofs.Delivering.{Seen}
use Rattle.fc_rounds.proofs.Taking.{change_taken, completion_taken, end_taken, start_taken}
use Rattle.fc_blocks.specs.Opening.{opened_store}
use Rattle.fc_rounds.proofs.Walking.{like_at}
use Rattle.fc_rounds.proofs.Rounding.{At, Kept, next, passed, replied, requested, seen}
use Rattle.fc_holding.specs.Held.{has_all}

no_zero : (n : ℕ) → not (n + 1 == 0) ≡ true
no_zero n = grind arith

suc_not : (n : ℕ) → (suc n == 0) ≡ false
suc_not n = grind arith

is_low : (n o : ℕ) → nat_le n o ≡ true → n ≤ o
is_low n o e = grind (arith, e)

module _ (s : Setting) (is : IsNetwork s) (start : Seen s) (k : ℕ) (m : Master) (ps : List ℕ) (parts : List Part) (L : Life) (keeps : KeepsChanges L) (plan : numbered_of L.plans (next_txn m).number ≡ Some parts) (ce : ℕ) (of_ce : ce_of s k ≡ ce) (control : is_ce ce ≡ true)
    (few : length ps ≤ 64) (small : (p : ℕ) → length (scopes_in parts p) ≤ 4096) (places : ℕ → ℕ) (ground : Ground start.a k m ps (changes_in parts) (scopes_in parts)) (one : Once ps)
    (counts : (p : ℕ) → among p ps ≡ true → changes_in parts p ≡ length (changes_of p parts)) (known : (p : ℕ) → among p ps ≡ true → has_all (opened_store s.library s.instances).instances (scopes_in parts p) ≡ true) where
  abbrev changes : ℕ → ℕ
  changes = changes_in parts

  abbrev scopes : ℕ → Scope
  scopes = scopes_in parts

  abbrev x : Txn
  x = next_txn m

  abbrev last : ℕ → ℕ
  last p = (m.at p).last

  abbrev Goes : World → List Sent → List Sent → (ℕ → Phase) → Type 0
  Goes = Going start.a k m ps changes scopes

  abbrev KeptBeside : Seen s → List Sent → List Sent → Type 0
  KeptBeside = Kept s is start k m ps parts L keeps plan ce of_ce control few small places ground one

  abbrev next_one : Seen s → ℕ → Seen s
  next_one = next s is start k m ps parts L keeps plan ce of_ce control few small places ground one

  pub passes : Passes start.a k m ps changes scopes ground one (seen s is start k m ps parts L keeps plan ce of_ce control few small places ground one) next_one KeptBeside
  passes v before s0 rest ph i y z e u = passed s is start k m ps parts L keeps plan ce of_ce control few small places ground one v before s0 rest ph i y z e u

  module _ (v : Seen s) (before : List Sent) (s0 : Sent) (rest : List Sent) (ph : ℕ → Phase) (i : ℕ) (y : Goes v.a before (s0 ∷ rest) ph) (z : KeptBeside v before (s0 ∷ rest)) (e : i ≡ length before + 1) (p : ℕ) (a : among p ps ≡ true) where
    abbrev Result : Type 0
    Result = (n : Next start.a k m ps changes scopes (next_one v i).a (before ++ s0 ∷ []) s0 ph) × KeptBeside (next_one v i) (before ++ s0 ∷ []) n.after

    abbrev Sends : Phase → Type 0
    Sends h = s0 ≡ sent p k (message_of start.a k m ps changes scopes p h)

    abbrev el : protocol.ElementState
    el = v.a.at p

    abbrev here : At s is start k m ps parts L keeps plan ce of_ce control few small places ground one v.w p
    here = z.at p a

    like : IsLike here.e.transactions el
    like = like_at s is v p here.e here.there

    stands : (h : Phase) → ph p ≡ h → Stands start.a k m ps changes scopes p el v.a.facts h
    stands h q = subst (Stands start.a k m ps changes scopes p el v.a.facts) q (y.stand p a).stands

    begins : ph p ≡ Asking 0 → Sends (Asking 0) → Result
    begins q se =
        let st = stands (Asking 0) q in
        let n = last p + 1 + 0 in
        let at : el.sequence ≡ last p + 0 = st.0 in
        let same : here.e.transactions.sequence ≡ el.sequence = like.sequence in
        let part = ground.parts p a in
        let count : n ≡ here.e.transactions.sequence + 1 = omega (arith, at, same) in
        let seq : here.e.transactions.sequence ≡ last p = omega (arith, at, same) in
        let epoch : here.e.transactions.epoch ≡ m.epoch = like.epoch ∙ (y.stand p a).epoch in
        let fit : admits p here.e.transactions.epoch x ps false (scopes p) ≡ true =
        and_true (m.epoch == here.e.transactions.epoch) _ (eq-eqb _ _ (sym epoch)) (and_true (not (m.begun + 1 == 0)) (takes_part p ps && is_scope (scopes p)) (no_zero m.begun) (and_true (takes_part p ps) (is_scope (scopes p)) part.takes part.scoped)) in
        requested s is start k m ps parts L keeps plan ce of_ce control few small places ground one v before s0 rest ph i y z e p a (Asking 0) q refl se n (said.Sot x ps (scopes p)) refl count refl refl
        (λ d request asks spelled. start_taken s k p x parts (scopes p) (last p) L keeps plan ce control of_ce here.e here.has d m.epoch n (said.Sot x ps (scopes p)) request ground.epoch _ _ count ps refl asks spelled few (small p) (known p a) fit
        (ap (λ o. is_below x o) like.floor ∙ st.1.3) (ap (clashes (scopes p)) like.records ∙ st.1.1) (ap is_packed like.records ∙ st.1.2) (ap (state_of x) like.records ∙ st.1.0) seq)

    adds : (d : ℕ) → ph p ≡ Asking (suc d) → nat_le (suc d) (changes p) ≡ true → Sends (Asking (suc d)) → Result
    adds d q low se =
        let st = stands (Asking (suc d)) q in
        let n = last p + 1 + suc d in
        let at : el.sequence ≡ last p + suc d = st.0 in
        let same : here.e.transactions.sequence ≡ el.sequence = like.sequence in
        let count : n ≡ here.e.transactions.sequence + 1 = omega (arith, at, same) in
        let seq : here.e.transactions.sequence ≡ last p + 1 + d = omega (arith, at, same) in
        let body_is : body start.a k m ps changes scopes (suc d) p ≡ said.Mot x (suc d) = cond_false (suc d == 0) _ _ (suc_not d) ∙ cond_true (nat_le (suc d) (changes p)) (said.Mot x (suc d)) (said.Eot x) low in
        requested s is start k m ps parts L keeps plan ce of_ce control few small places ground one v before s0 rest ph i y z e p a (Asking (suc d)) q refl se n (said.Mot x (suc d)) (ap (said.Request (at_count m.epoch n)) body_is) count refl refl
        (λ o request asks spelled. change_taken s k p x parts (scopes p) (last p) L keeps plan ce control of_ce here.e here.has o m.epoch n (said.Mot x (suc d)) request ground.epoch _ _ count d refl asks spelled
        (is_low (suc d) (length (changes_of p parts)) (ap (nat_le (suc d)) (sym (counts p a)) ∙ low)) (ap (state_of x) like.records ∙ st.1) seq)

    prepares : (d : ℕ) → ph p ≡ Asking (suc d) → nat_le (suc d) (changes p) ≡ false → Sends (Asking (suc d)) → Result
    prepares d q high se =
        let st = stands (Asking (suc d)) q in
        let n = last p + 1 + suc d in
        let at : el.sequence ≡ last p + suc d = st.0 in
        let same : here.e.transactions.sequence ≡ el.sequence = like.sequence in
        let count : n ≡ here.e.transactions.sequence + 1 = omega (arith, at, same) in
        let body_is : body start.a k m ps changes scopes (suc d) p ≡ said.Eot x = cond_false (suc d == 0) _ _ (suc_not d) ∙ cond_false (nat_le (suc d) (changes p)) (said.Mot x (suc d)) (said.Eot x) high in
        requested s is start k m ps parts L keeps plan ce of_ce control few small places ground one v before s0 rest ph i y z e p a (Asking (suc d)) q refl se n (said.Eot x) (ap (said.Request (at_count m.epoch n)) body_is) count refl refl
        (λ o request asks spelled. end_taken s k p x parts (scopes p) (last p) L keeps plan ce control of_ce here.e here.has o m.epoch n (said.Eot x) request ground.epoch _ _ count refl asks spelled (ap (state_of x) like.records ∙ st.1))

    completes : ph p ≡ Ending → Sends Ending → Result
    completes q se =
        let st = stands Ending q in
        let n = last p + changes p + 3 in
        let at : el.sequence ≡ last p + changes p + 2 = st.0 in
        let same : here.e.transactions.sequence ≡ el.sequence = like.sequence in
        let count : n ≡ here.e.transactions.sequence + 1 = omega (arith, at, same) in
        requested s is start k m ps parts L keeps plan ce of_ce control few small places ground one v before s0 rest ph i y z e p a Ending q refl se n (said.Trcomp x) refl count refl refl
        (λ o request asks spelled. completion_taken s k p x parts (scopes p) (last p) L keeps plan ce control of_ce here.e here.has o m.epoch n (said.Trcomp x) request ground.epoch _ _ count refl asks spelled (ap (state_of x) like.records ∙ st.1))

    asks_on : (d : ℕ) → ph p ≡ Asking d → Sends (Asking d) → Result
    asks_on zero q se = begins q se
    asks_on (suc d) q se = ⊎_elim (λ b. adds d q b se) (λ b. prepares d q b se) (both (nat_le (suc d) (changes p)))

    by_h : (h : Phase) → ph p ≡ h → flies h ≡ true → Sends h → Result
    by_h (Asking d) q f se = asks_on d q se
    by_h (Told d) q f se = replied s is start k m ps parts L keeps plan ce of_ce control few small places ground one v before s0 rest ph i y z e p a (Told d) q f se (at_count m.epoch (last p + 1 + d)) refl
    by_h Ready q f se = absurd cc
    by_h Ending q f se = completes q se
    by_h Ended q f se = replied s is start k m ps parts L keeps plan ce of_ce control few small places ground one v before s0 rest ph i y z e p a Ended q f se (at_count m.epoch (last p + changes p + 3)) refl
    by_h Done q f se = absurd cc

  pub steps : Steps start.a k m ps changes scopes ground one (seen s is start k m ps parts L keeps plan ce of_ce control few small places ground one) next_one KeptBeside
  steps v before s0 rest ph i y z e u = by_h v before s0 rest ph i y z e s0.element u.0 (ph s0.element) refl u.1 u.2
