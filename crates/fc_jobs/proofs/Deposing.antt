-- An answer of a greater epoch: all that waits is dropped.
use Rattle.std.proofs.Common.{◌≡◌, ℕ, ◌==◌, Bool, true, false, cond, List, [], ◌∷◌, map, max, Option, Some, None, unwrap_or, refl, ap, ◌∙◌}
use Rattle.std.proofs.Math.Path.{fun_ext}
use Rattle.fc_base.specs.Ids.{Txn}
use Rattle.fc_protocol.specs.Jobs.{Job}
use Rattle.fc_protocol.specs.MasterMachine.{Peer, dropped, depose, decide_all}
use Rattle.fc_jobs.specs.declared.job.Job.{Job as Kept}
use Rattle.fc_jobs.specs.Effects.{carried}
use Rattle.fc_jobs.specs.JobViews.{jobs_of}
use Rattle.fc_jobs.specs.Sending.{Begun, core_by}
use Rattle.fc_jobs.specs.declared.seat.Seat.{Seat}
use Rattle.fc_jobs.specs.Seats.{peer_of, peer_at, elements_of, seat_dropped}

module _ (e : ℕ) (w : Option Txn) where
  dropped_if : (b : Bool) (y z : Peer) → cond b (dropped y) (dropped z) ≡ dropped (cond b y z)
  dropped_if true y z = refl
  dropped_if false y z = refl

  dropped_at : (ss : List Seat) (p : ℕ) → peer_at e w (map seat_dropped ss) p ≡ dropped (peer_at e w ss p)
  dropped_at [] p = refl
  dropped_at (s ∷ ss) p = ap (cond (p == s.element) (dropped (peer_of e s))) (dropped_at ss p) ∙ dropped_if (p == s.element) (peer_of e s) (peer_at e w ss p)

  pub all_dropped : (ss : List Seat) → peer_at e w (map seat_dropped ss) ≡ (λ p. dropped (peer_at e w ss p))
  all_dropped ss = fun_ext (dropped_at ss)

pub same_elements : (ss : List Seat) → elements_of (map seat_dropped ss) ≡ elements_of ss
same_elements [] = refl
same_elements (s ∷ ss) = ap (λ ps. s.element ∷ ps) (same_elements ss)

-- a master that an answer deposes, its jobs decided where they can be
pub deposed_is : (e : ℕ) (ss ns : List Seat) (js jobs : List Kept) (begun : Begun) (told p : ℕ) (d : Option ℕ) → ns ≡ map seat_dropped ss → jobs_of jobs ≡ map (carried e p None) (jobs_of js)
    → core_by e ns jobs begun (Some (max (unwrap_or d 0) told)) ≡ decide_all (depose (core_by e ss js begun d) told)
deposed_is e ss ns js jobs begun told p d f g =
    let x = Some (max (unwrap_or d 0) told) in
    ap (λ (ts : List Seat). core_by e ts jobs begun x) f
    ∙ ap (λ (es : List ℕ). record { epoch = e; elements = es; at = peer_at e begun.wanted (map seat_dropped ss); jobs = jobs_of jobs; begun = begun.count; deposed = x }) (same_elements ss)
    ∙ ap (λ (t : ℕ → Peer). record { epoch = e; elements = elements_of ss; at = t; jobs = jobs_of jobs; begun = begun.count; deposed = x }) (all_dropped e begun.wanted ss)
    ∙ ap (λ (ks : List Job). record { epoch = e; elements = elements_of ss; at = λ q. dropped (peer_at e begun.wanted ss q); jobs = ks; begun = begun.count; deposed = x }) g
