-- Each element of a world has lived some runs.
use Rattle.std.proofs.Common.{◌≡◌, ℕ, ◌==◌, Bool, true, false, cond, List, [], ◌∷◌, ◌++◌, refl, sym, ap, ◌∙◌, subst, eqb-true}
use Rattle.fc_machine.specs.ElementMachine.{Input, step, steps}
use Rattle.fc_machine.specs.ElementState.{Element, new_element, restarted}
use Rattle.fc_machine.specs.Ground.{Ground}
use Rattle.fc_machine.specs.Trace.{Fact}
use Rattle.fc_machine.specs.WorldSteps as world
use Rattle.fc_machine.specs.WorldSteps.{Masters, first_world, run}
use Rattle.fc_headline.specs.Restarts.{with_restarts, Lived}
use Rattle.fc_headline.proofs.Worlds.{run_keeps}
use Rattle.fc_protocol.specs.Collections.{put}
use Rattle.fc_protocol.specs.WorldSteps.{Network}

module _ {Config Op Subs : Type 0} (g : Ground Config Op Subs) (p : ℕ) where
  -- one more input
  steps_more : (inputs : List (Input Op)) (i : Input Op) (el : Element Config Op Subs) (fs : List (Fact Op)) → (steps g p (inputs ++ i ∷ []) el fs).element ≡ (step g p (steps g p inputs el fs).element i).element
  steps_more [] i el fs = refl
  steps_more (j ∷ rest) i el fs = let r = step g p el j in steps_more rest i r.element (r.facts ++ fs)

  -- one more run
  runs_more : (runs : List (List (Input Op))) (inputs : List (Input Op)) (el : Element Config Op Subs) (fs : List (Fact Op))
      → let r = with_restarts g p runs el fs in (with_restarts g p (runs ++ inputs ∷ []) el fs).element ≡ (steps g p inputs (restarted r.element) r.facts).element
  runs_more [] inputs el fs = refl
  runs_more (first ∷ runs) inputs el fs = let r = steps g p first (restarted el) fs in runs_more runs inputs r.element r.facts

  -- runs that have ended, and what has come since
  record Lives (first el : Element Config Op Subs) : Type 0 where
    ended : List (List (Input Op))
    since : List (Input Op)
    now : let r = with_restarts g p ended first [] in (steps g p since (restarted r.element) r.facts).element ≡ el

  lives_step : (first el : Element Config Op Subs) (i : Input Op) → Lives first el → Lives first (step g p el i).element
  lives_step first el i l =
      let r = with_restarts g p l.ended first [] in
      record { ended = l.ended; since = l.since ++ i ∷ []; now = steps_more l.since i (restarted r.element) r.facts ∙ ap (λ (e : Element Config Op Subs). (step g p e i).element) l.now }

  lives_restart : (first el : Element Config Op Subs) → Lives first el → Lives first (restarted el)
  lives_restart first el l = record { ended = l.ended ++ l.since ∷ []; since = []; now = ap (λ (e : Element Config Op Subs). restarted e) (runs_more l.ended l.since first [] ∙ l.now) }

  lived : (first el : Element Config Op Subs) → Lives first el → Lived g p first el
  lived first el l = (l.ended ++ l.since ∷ [], runs_more l.ended l.since first [] ∙ l.now)

module _ {Config Op Subs M P C : Type 0} (g : Ground Config Op Subs) (ms : Masters Op M P C) (firsts : ℕ → Element Config Op Subs) where
  AllLive : (ℕ → Element Config Op Subs) → List (Fact Op) → Type 0
  AllLive at fs = (p : ℕ) → Lives g p (firsts p) (at p)

  all_step : (at : ℕ → Element Config Op Subs) (fs : List (Fact Op)) (q : ℕ) (i : Input Op) → AllLive at fs → AllLive (put at q (step g q (at q) i).element) ((step g q (at q) i).facts ++ fs)
  unfolding put AllLive
  all_step at fs q i a p = by_test (p == q) refl
    where
      by_test : (b : Bool) → (p == q) ≡ b → Lives g p (firsts p) (cond b (step g q (at q) i).element (at p))
      by_test true e = subst (λ v. Lives g v (firsts v) (step g q (at q) i).element) (sym (eqb-true p q e)) (lives_step g q (firsts q) (at q) i (a q))
      by_test false e = a p

  all_restart : (at : ℕ → Element Config Op Subs) (fs : List (Fact Op)) (q : ℕ) → AllLive at fs → AllLive (put at q (restarted (at q))) fs
  unfolding put AllLive
  all_restart at fs q a p = by_test (p == q) refl
    where
      by_test : (b : Bool) → (p == q) ≡ b → Lives g p (firsts p) (cond b (restarted (at q)) (at p))
      by_test true e = subst (λ v. Lives g v (firsts v) (restarted (at q))) (sym (eqb-true p q e)) (lives_restart g q (firsts q) (at q) (a q))
      by_test false e = a p

  run_lives : (ss : List (world.Step P C)) (w : world.World Config Op Subs M) → AllLive w.at w.facts → AllLive (run g ms ss w).at (run g ms ss w).facts
  run_lives ss w a = run_keeps g ms AllLive all_step all_restart ss w a

pub world_lives : {Config Op Subs M P C : Type 0} (g : Ground Config Op Subs) (ms : Masters Op M P C) (opening : Config) (subs : Subs) (n : Network) (ss : List (world.Step P C)) (p : ℕ)
    → Lived g p (new_element opening subs (n.first_ce p)) ((run g ms ss (first_world opening subs n)).at p)
unfolding AllLive
world_lives {Config} {Op} {Subs} g ms opening subs n ss p =
    let firsts : ℕ → Element Config Op Subs = λ q. new_element opening subs (n.first_ce q) in
    lived g p (firsts p) ((run g ms ss (first_world opening subs n)).at p) (run_lives g ms firsts ss (first_world opening subs n) (λ q. record { ended = []; since = []; now = refl }) p)
