-- The records of each element of a network tell what was settled there.
use Rattle.std.proofs.Common.{◌≡◌, ℕ, List, [], ◌∷◌, Option, Some, None, refl, sym, ap, ◌∙◌, subst}
use Rattle.std.specs.List.{AllByRecursion}
use Rattle.fc_abiding.specs.Runs.{life_of}
use Rattle.fc_abiding.proofs.Hearing.{life_heard}
use Rattle.fc_agreement.proofs.Numbers.{follows_core_law}
use Rattle.fc_agreement.proofs.OneElement.{clear_law, distinct_law}
use Rattle.fc_blocks.specs.Opening.{opened_store}
use Rattle.fc_exec.specs.declared.operations.Operation.{Operation}
use Rattle.fc_machine.specs.Trace.{Fact, bare_facts}
use Rattle.fc_protocol.specs.ElementMachine.{ElementState, new_element}
use Rattle.fc_protocol.specs.OneElement.{Distinct, FloorClear, RecordsTell, end_of, hears_all}
use Rattle.fc_protocol.specs.Records.{seen}
use Rattle.fc_protocol.specs.WorldSteps.{Network, Step, first_world, run}
use Rattle.fc_protocol.specs.declared.states.Decision.{Decision}
use Rattle.fc_protocol.specs.declared.states.Decision.TheVariants.{Complete, Abort}
use Rattle.fc_protocol.specs.declared.states.TxnState.{TxnState}
use Rattle.fc_protocol.specs.declared.states.TxnState.TheVariants as state
use Rattle.fc_steps.specs.declared.step.Step.{Step as Made}
use Rattle.fc_transactions.specs.State.{TransactionState}
use Rattle.fc_world.specs.Played.{AreMade}
use Rattle.fc_world.specs.Settings.{IsNetwork}
use Rattle.fc_world.specs.Worlds.{first_world as first}
use Rattle.fc_world.specs.WorldSteps as world
use Rattle.fc_world.specs.declared.nodes.Node.{Node}
use Rattle.fc_world.specs.declared.setting.Setting.{Setting}
use Rattle.fc_rounds.specs.Following.{GoesOn, IsElement}
use Rattle.fc_rounds.specs.Networks.{network_of}
use Rattle.fc_rounds.proofs.Runs.{goes}
use Rattle.fc_rounds.specs.Promise.{AllTell, Tells}

-- ---- of the protocol's world
-- a state that is seen as an end is that end
end_seen : (o : Option TxnState) (d : Decision) → seen o ≡ seen (Some (end_of d)) → o ≡ Some (end_of d)
end_seen None Complete h = cc
end_seen None Abort h = cc
end_seen (Some state.Started) Complete h = cc
end_seen (Some state.Started) Abort h = cc
end_seen (Some state.Prepared) Complete h = cc
end_seen (Some state.Prepared) Abort h = cc
end_seen (Some state.Completed) Complete h = refl
end_seen (Some state.Completed) Abort h = cc
end_seen (Some state.Aborted) Complete h = cc
end_seen (Some state.Aborted) Abort h = refl

-- the records of each element tell what it has settled, as one core tells both
pub protocol_tells : (n : Network) (steps : List Step) (p : ℕ) → let w = run steps (first_world n) in RecordsTell p (w.at p).floor (w.at p).records w.facts
protocol_tells n steps p x d above =
    let (parts, all, until, since, now, then) = follows_core_law n steps [] x in
    let (elements, facts, prepared, decided) = now in
    let same = (elements p).1 above in
    (λ settled. end_seen _ d (sym same ∙ (facts p d).0 settled), λ there. (facts p d).1 (same ∙ ap seen there))

-- ---- of a network
module _ (s : Setting) (done : List (ℕ × Made)) (is : IsNetwork s) (made : AreMade s.transactions (first s) done) where
  abbrev trace : List (Fact Operation)
  trace = world.facts s.transactions (first s) done

  abbrev gone : GoesOn s (world.run s.transactions (first s) done) trace (first_world (network_of s))
  gone = goes s done is made

  one_tells : (n : Node) → IsElement s trace ((run gone.steps (first_world (network_of s))).at n.id) n → Tells trace n
  one_tells n it =
      let a = run gone.steps (first_world (network_of s)) in
      let opening = opened_store s.library s.instances in
      let life = life_of n.id it.ce opening it.came in
      let h = life_heard n.id it.ce opening it.came in
      let then = hears_all n.id h.0 (new_element it.ce) [] in
      let told = protocol_tells (network_of s) gone.steps n.id in
      record {
        settled = subst (λ fl. RecordsTell n.id fl n.element.transactions.ledger.records.entries (bare_facts trace)) (sym it.like.floor)
            (subst (λ ns. RecordsTell n.id (a.at n.id).floor ns (bare_facts trace)) (sym it.like.records)
            (subst (RecordsTell n.id (a.at n.id).floor (a.at n.id).records) (sym gone.follows.facts) told));
        below = subst (λ (t : TransactionState). FloorClear t.ledger.records.floor t.ledger.records.entries) (sym it.life)
            (subst (λ fl. FloorClear fl life.state.ledger.records.entries) (sym h.1.floor) (subst (FloorClear then.element.floor) (sym h.1.records) (clear_law n.id it.ce (h.0 ∷ []))));
        single = subst (λ (t : TransactionState). Distinct t.ledger.records.entries) (sym it.life)
            (subst Distinct (sym h.1.records) (distinct_law n.id it.ce (h.0 ∷ [])));
      }

  all_tell : (at : ℕ → ElementState) (ns : List Node) → ((n : Node) → IsElement s trace (at n.id) n → Tells trace n) → AllByRecursion (λ (n : Node). IsElement s trace (at n.id) n) ns → AllByRecursion (Tells trace) ns
  all_tell at [] one all = tt
  all_tell at (n ∷ ns) one all = (one n all.0, all_tell at ns one all.1)

  pub tells_all : AllTell (world.run s.transactions (first s) done) trace
  tells_all = all_tell (run gone.steps (first_world (network_of s))).at (world.run s.transactions (first s) done).nodes one_tells gone.follows.elements
