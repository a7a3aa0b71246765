-- What an input makes of a master, before what is due is sent.
use Rattle.std.proofs.Common.{◌≡◌, ℕ, ◌<◌, true, cond, List, [], ◌∷◌, map, length, get_or, Option, sym, ap, ◌∙◌}
use Rattle.std.proofs.Math.ListN.{set}
use Rattle.fc_base.specs.Ids.{Txn}
use Rattle.fc_protocol.specs.Collections.{among, put}
use Rattle.fc_protocol.specs.Jobs.{Job as Work, decided_job, given_up}
use Rattle.fc_protocol.specs.Messages.{Setup}
use Rattle.fc_protocol.specs.MasterMachine.{Peer, again, at_put, decide_all, gives_up, heard}
use Rattle.fc_jobs.specs.declared.job.Job.{Job}
use Rattle.fc_jobs.specs.declared.seat.Seat.{Seat}
use Rattle.fc_jobs.specs.declared.sending.CeOut.{CeOut}
use Rattle.fc_jobs.specs.JobViews.{jobs_of}
use Rattle.fc_jobs.specs.Seats.{elements_of, peer_at, peer_of}
use Rattle.fc_jobs.specs.Sending.{core_by, spelled}
use Rattle.fc_jobs.proofs.Asking.{changed}
use Rattle.fc_jobs.proofs.Seating.{elements_set, peer_found}
use Rattle.fc_master.specs.Masters.{begun_of, core_of}
use Rattle.fc_master.specs.Steps.{setup_response, greeting}
use Rattle.fc_master.specs.declared.master.Master.{Master}

-- each job decided where it can be
abbrev pub all_decided : ℕ → List Work → List Work
all_decided e ks = map (λ (j : Work). decided_job e j.decision j) ks

-- the master as it is, each job decided where it can be
pub as_it_is : (m : Master) (ss : List Seat) (js : List Job) (d : Option ℕ) → ss ≡ m.seats → jobs_of js ≡ all_decided m.life.epoch (jobs_of m.jobs.all) → d ≡ m.deposed
    → core_by m.life.epoch ss js (begun_of m) d ≡ decide_all (core_of m)
as_it_is m ss js d a b x =
    ap (λ (ts : List Seat). core_by m.life.epoch ts js (begun_of m) d) a
    ∙ ap (λ (ks : List Work). record { epoch = m.life.epoch; elements = elements_of m.seats; at = peer_at m.life.epoch m.wanted m.seats; jobs = ks; begun = m.begun; deposed = d }) b
    ∙ ap (λ (o : Option ℕ). record { epoch = m.life.epoch; elements = elements_of m.seats; at = peer_at m.life.epoch m.wanted m.seats; jobs = all_decided m.life.epoch (jobs_of m.jobs.all); begun = m.begun; deposed = o }) x

-- the job of a transaction is given up
pub given_up_is : (m : Master) (ss : List Seat) (js : List Job) (x : Txn) → ss ≡ m.seats → jobs_of js ≡ all_decided m.life.epoch (map (given_up x) (jobs_of m.jobs.all))
    → core_by m.life.epoch ss js (begun_of m) m.deposed ≡ decide_all (gives_up (core_of m) x)
given_up_is m ss js x a b =
    ap (λ (ts : List Seat). core_by m.life.epoch ts js (begun_of m) m.deposed) a
    ∙ ap (λ (ks : List Work). record { epoch = m.life.epoch; elements = elements_of m.seats; at = peer_at m.life.epoch m.wanted m.seats; jobs = ks; begun = m.begun; deposed = m.deposed }) b

-- an element of the master wishes to be associated
module _ (m : Master) (i : ℕ) (s n : Seat) (p : ℕ) (l : i < length m.seats) (g : s ≡ get_or m.seats i s) (q : s.element ≡ p) (t : among p (elements_of m.seats) ≡ true) where
  here : peer_at m.life.epoch m.wanted m.seats p ≡ peer_of m.life.epoch s
  here = ap (peer_at m.life.epoch m.wanted m.seats) (sym q) ∙ peer_found m.life.epoch m.wanted m.seats i s l g m.apart

  pub elements_after : (hs ss : List Seat) → n.element ≡ s.element → ss ≡ m.seats → hs ≡ set ss i n → elements_of hs ≡ elements_of m.seats
  elements_after hs ss h a r = ap elements_of (r ∙ ap (λ (xs : List Seat). set xs i n) a) ∙ elements_set m.seats i s n l g h

  pub setup_is : (hs ss : List Seat) (js : List Job) (d : Option ℕ) → n.element ≡ s.element → ((e : ℕ) → peer_of e n ≡ record (peer_of e s) { met = true }) → ss ≡ m.seats → hs ≡ set ss i n
      → jobs_of js ≡ all_decided m.life.epoch (jobs_of m.jobs.all) → d ≡ m.deposed → core_by m.life.epoch hs js (begun_of m) d ≡ decide_all (heard (core_of m) p Setup)
  setup_is hs ss js d h u a r b x =
      changed m.life.epoch m.seats m.jobs.all js (begun_of m) d p i s n hs l g m.apart q h (r ∙ ap (λ (xs : List Seat). set xs i n) a) (λ y. record y { met = true }) (jobs_of m.jobs.all) (u m.life.epoch) b
      ∙ ap (λ (o : Option ℕ). decide_all (record { epoch = m.life.epoch; elements = elements_of m.seats; at = put (peer_at m.life.epoch m.wanted m.seats) p (record (peer_at m.life.epoch m.wanted m.seats p) { met = true }); jobs = jobs_of m.jobs.all; begun = m.begun; deposed = o })) x
      ∙ sym (ap (λ b. decide_all (cond b (at_put (core_of m) p (record ((core_of m).at p) { met = true })) (core_of m))) t)

  pub greeting_is : (corr : ℕ) (first : List CeOut) → first ≡ setup_response m.life s.element corr 0 ∷ spelled m.life (again 0 s.element (peer_of m.life.epoch s).waits) → first ≡ greeting m.life (core_of m) p corr
  greeting_is corr first f =
      f ∙ ap (λ r. setup_response m.life r corr 0 ∷ spelled m.life (again 0 r (peer_of m.life.epoch s).waits)) q
      ∙ ap (λ (y : Peer). setup_response m.life p corr 0 ∷ spelled m.life (again 0 p y.waits)) (sym here)
      ∙ sym (ap (λ b. cond b (setup_response m.life p corr 0 ∷ spelled m.life (again 0 p ((core_of m).at p).waits)) (setup_response m.life p corr 1 ∷ [])) t)
