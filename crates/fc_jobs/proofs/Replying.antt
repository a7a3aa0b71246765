-- A response to a Config, and what it does to a master.
use Rattle.std.proofs.Common.{◌≡◌, ℕ, ◌<◌, ◌==◌, true, false, cond, List, [], ◌∷◌, map, length, get_or, Option, Some, None, refl, sym, ap, ◌∙◌}
use Rattle.std.proofs.Math.ListN.{set}
use Rattle.fc_protocol.specs.Collections.{put}
use Rattle.fc_protocol.specs.Jobs.{Job, by_code, decided_job}
use Rattle.fc_protocol.specs.Messages.{Stamp, Reply}
use Rattle.fc_protocol.specs.MasterMachine.{Peer, Master, Waiting, matches, heard, coded, after_code, decide_all}
use Rattle.fc_jobs.specs.declared.seat.Seat.{Seat}
use Rattle.fc_jobs.specs.declared.job.Job.{Job as Kept}
use Rattle.fc_base.specs.Ids.{Txn}
use Rattle.fc_jobs.specs.declared.effects.Effect.{Effect}
use Rattle.fc_jobs.specs.Effects.{affected, carried}
use Rattle.fc_jobs.specs.Seats.{peer_of, peer_at, elements_of}
use Rattle.fc_jobs.specs.JobViews.{jobs_of}
use Rattle.fc_jobs.specs.Sending.{Begun, are_apart, core_by}
use Rattle.fc_jobs.proofs.Seating.{peer_found, peer_set, elements_set}

pub same_jobs : (p : ℕ) (js : List Job) → map (affected p None) js ≡ js
same_jobs p [] = refl
same_jobs p (j ∷ js) = ap (λ ks. j ∷ ks) (same_jobs p js)

pub map_twice : {A B C : Type 0} (f : B → C) (g : A → B) (xs : List A) → map f (map g xs) ≡ map (λ x. f (g x)) xs
map_twice f g [] = refl
map_twice f g (x ∷ xs) = ap (λ ys. f (g x) ∷ ys) (map_twice f g xs)

-- the jobs after an effect, each decided where it can be
pub jobs_decided : (e p : ℕ) (js jobs : List Kept) (eff : Option (Txn × Effect)) (ks : List Job) → jobs_of jobs ≡ map (carried e p eff) (jobs_of js) → map (affected p eff) (jobs_of js) ≡ ks
    → jobs_of jobs ≡ map (λ (j : Job). decided_job e j.decision j) ks
jobs_decided e p js jobs eff ks f g = f ∙ (sym (map_twice (λ (j : Job). decided_job e j.decision j) (affected p eff) (jobs_of js)) ∙ ap (map (λ (j : Job). decided_job e j.decision j)) g)

module _ (e : ℕ) (ss : List Seat) (js jobs : List Kept) (begun : Begun) (d : Option ℕ) (p : ℕ) (st : Stamp) (code : ℕ) where
  abbrev core : Master
  core = core_by e ss js begun d

  -- a response that counts for nothing
  pub unheard : matches st false (peer_at e begun.wanted ss p).waits ≡ false → jobs_of jobs ≡ map (carried e p None) (jobs_of js) → core_by e ss jobs begun d ≡ decide_all (heard core p (Reply st code))
  unheard n f =
      ap (λ (ks : List Job). record { epoch = e; elements = elements_of ss; at = peer_at e begun.wanted ss; jobs = ks; begun = begun.count; deposed = d }) (jobs_decided e p js jobs None (jobs_of js) f (same_jobs p (jobs_of js)))
      ∙ ap (λ b. decide_all (cond b (coded core p code (peer_at e begun.wanted ss p).waits) core)) (sym n)

  module _ (i : ℕ) (s n : Seat) (o : Waiting) (eff : Option (Txn × Effect)) (l : i < length ss) (g : s ≡ get_or ss i s) (a : are_apart (elements_of ss) ≡ true) (q : s.element ≡ p) where
    found_here : peer_at e begun.wanted ss p ≡ peer_of e s
    found_here = ap (peer_at e begun.wanted ss) (sym q) ∙ peer_found e begun.wanted ss i s l g a

    abbrev later : (ℕ → Peer) → Master
    later f = record { epoch = e; elements = elements_of ss; at = f; jobs = by_code e p o.body (code == 0) (jobs_of js); begun = begun.count; deposed = d }

    heard_is : matches st false (peer_of e s).waits ≡ true → (peer_of e s).waits ≡ Some o → heard core p (Reply st code) ≡ later (put (peer_at e begun.wanted ss) p (after_code (peer_of e s) o.body code))
    heard_is m w =
        ap (λ b. cond b (coded core p code (peer_at e begun.wanted ss p).waits) core) (ap (λ (y : Peer). matches st false y.waits) found_here ∙ m)
        ∙ ap (coded core p code) (ap (λ (y : Peer). y.waits) found_here ∙ w)
        ∙ ap (λ y. later (put (peer_at e begun.wanted ss) p (after_code y o.body code))) found_here

    -- the response to what waits
    pub replied : matches st false (peer_of e s).waits ≡ true → (peer_of e s).waits ≡ Some o → n.element ≡ s.element → peer_of e n ≡ after_code (peer_of e s) o.body code
        → jobs_of jobs ≡ map (carried e p eff) (jobs_of js) → map (affected p eff) (jobs_of js) ≡ by_code e p o.body (code == 0) (jobs_of js)
        → core_by e (set ss i n) jobs begun d ≡ decide_all (heard core p (Reply st code))
    replied m w h f u v =
        let ks = map (λ (j : Job). decided_job e j.decision j) (by_code e p o.body (code == 0) (jobs_of js)) in
        let peers : peer_at e begun.wanted (set ss i n) ≡ put (peer_at e begun.wanted ss) p (after_code (peer_of e s) o.body code) =
        peer_set e begun.wanted ss i s n l g a h ∙ (ap (λ r. put (peer_at e begun.wanted ss) r (peer_of e n)) q ∙ ap (put (peer_at e begun.wanted ss) p) f) in
        ap (λ (ks : List Job). record { epoch = e; elements = elements_of (set ss i n); at = peer_at e begun.wanted (set ss i n); jobs = ks; begun = begun.count; deposed = d }) (jobs_decided e p js jobs eff _ u v)
        ∙ ap (λ (es : List ℕ). record { epoch = e; elements = es; at = peer_at e begun.wanted (set ss i n); jobs = ks; begun = begun.count; deposed = d }) (elements_set ss i s n l g h)
        ∙ ap (λ (t : ℕ → Peer). record { epoch = e; elements = elements_of ss; at = t; jobs = ks; begun = begun.count; deposed = d }) peers
        ∙ ap decide_all (sym (heard_is m w))
