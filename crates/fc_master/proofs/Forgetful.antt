-- The elements of a master that lets them forget.
use Rattle.std.proofs.Common.{◌≡◌, ℕ, zero, suc, ◌<◌, ◌==◌, Bool, true, false, not, ◌||◌, nat_le, cond, List, [], ◌∷◌, map, length, get_or, Option, Some, None, refl, sym, ap, ◌∙◌, arith}
use Rattle.std.proofs.Math.Path.{fun_ext}
use Rattle.std.specs.List.{list_any}
use Rattle.fc_base.specs.Ids.{Txn}
use Rattle.fc_protocol.specs.Collections.{or_next}
use Rattle.fc_protocol.specs.Jobs.{Job as Work}
use Rattle.fc_protocol.specs.MasterMachine.{Master as Core, Peer, NotReady, Busy, any_last, decide_all, engaged, forgets, is_engaged, last_count, next_txn, refused_if, unready}
use Rattle.fc_jobs.specs.declared.job.Job.{Job}
use Rattle.fc_jobs.specs.declared.seat.Seat.{Seat}
use Rattle.fc_jobs.specs.JobViews.{jobs_of}
use Rattle.fc_jobs.specs.Seats.{elements_of, peer_at, peer_of}
use Rattle.fc_jobs.specs.Sending.{core_by}
use Rattle.fc_jobs.proofs.Seating.{peer_found}
use Rattle.fc_master.proofs.Changing.{all_decided}
use Rattle.fc_master.specs.Masters.{core_of}
use Rattle.fc_master.specs.Refusals.{engaged_seats, is_used_up, seat_owing, unready_seats}
use Rattle.fc_master.specs.declared.master.Master.{Master}

-- the elements of seats, of which the master keeps what the seats say
module _ (m : Core) (e : ℕ) where
  abbrev pub Kept : List Seat → Type 0
  Kept ss = (i : ℕ) (s : Seat) → i < length ss → s ≡ get_or ss i s → m.at s.element ≡ peer_of e s

  first_kept : (t : Seat) (ss : List Seat) → Kept (t ∷ ss) → m.at t.element ≡ peer_of e t
  first_kept t ss f = f zero t (omega arith) refl

  rest_kept : (t : Seat) (ss : List Seat) → Kept (t ∷ ss) → Kept ss
  rest_kept t ss f = λ i s l g. f (suc i) s (omega (arith, l)) g

  pub unready_is : (ss : List Seat) → Kept ss → unready_seats e ss ≡ unready m (elements_of ss)
  unready_is [] f = refl
  unready_is (t ∷ ss) f =
      ap (λ (y : Peer). or_next (refused_if (not y.answered || y.lost) (NotReady t.element)) (unready_seats e ss)) (sym (first_kept t ss f))
      ∙ ap (λ o. or_next (refused_if (not (m.at t.element).answered || (m.at t.element).lost) (NotReady t.element)) o) (unready_is ss (rest_kept t ss f))

  pub engaged_is : (ss : List Seat) → Kept ss → engaged_seats e ss ≡ engaged m (elements_of ss)
  engaged_is [] f = refl
  engaged_is (t ∷ ss) f =
      ap (λ (y : Peer). or_next (refused_if (is_engaged y) (Busy t.element None)) (engaged_seats e ss)) (sym (first_kept t ss f))
      ∙ ap (λ o. or_next (refused_if (is_engaged (m.at t.element)) (Busy t.element None)) o) (engaged_is ss (rest_kept t ss f))

  pub used_up_is : (ss : List Seat) → Kept ss → list_any is_used_up ss ≡ any_last m (elements_of ss)
  used_up_is [] f = refl
  used_up_is (t ∷ ss) f =
      ap (λ (y : Peer). nat_le last_count y.last || list_any is_used_up ss) (sym (first_kept t ss f))
      ∙ ap (λ b. nat_le last_count (m.at t.element).last || b) (used_up_is ss (rest_kept t ss f))

-- of a master all its seats
pub all_kept : (me : Master) → Kept (core_of me) me.life.epoch me.seats
all_kept me = λ i s l g. peer_found me.life.epoch me.wanted me.seats i s l g me.apart

-- a floor that is wanted at every element
abbrev owes_at : Option Txn → Peer → Peer
owes_at o y = record y { owes = o }

each_owes : (b : Bool) (o : Option Txn) (x y : Peer) → cond b (owes_at o x) (owes_at o y) ≡ owes_at o (cond b x y)
each_owes true o x y = refl
each_owes false o x y = refl

owing_at : (e : ℕ) (w o : Option Txn) (ss : List Seat) (p : ℕ) → peer_at e o (map (seat_owing o) ss) p ≡ owes_at o (peer_at e w ss p)
owing_at e w o [] p = refl
owing_at e w o (s ∷ ss) p = ap (cond (p == s.element) (owes_at o (peer_of e s))) (owing_at e w o ss p) ∙ each_owes (p == s.element) o (peer_of e s) (peer_at e w ss p)

pub same_elements_owe : (o : Option Txn) (ss : List Seat) → elements_of (map (seat_owing o) ss) ≡ elements_of ss
same_elements_owe o [] = refl
same_elements_owe o (s ∷ ss) = ap (λ ps. s.element ∷ ps) (same_elements_owe o ss)

-- the master that wants every element to forget
pub forgets_is : (me : Master) (x : Txn) (ss : List Seat) (js : List Job) → x ≡ next_txn (core_of me) → ss ≡ map (seat_owing (Some x)) me.seats → jobs_of js ≡ all_decided me.life.epoch (jobs_of me.jobs.all)
    → core_by me.life.epoch ss js (record { count = me.begun; wanted = Some x }) me.deposed ≡ decide_all (forgets (core_of me))
forgets_is me x ss js n a b =
    let e = me.life.epoch in
    ap (λ (ts : List Seat). core_by e ts js (record { count = me.begun; wanted = Some x }) me.deposed) a
    ∙ ap (λ (es : List ℕ). record { epoch = e; elements = es; at = peer_at e (Some x) (map (seat_owing (Some x)) me.seats); jobs = jobs_of js; begun = me.begun; deposed = me.deposed }) (same_elements_owe (Some x) me.seats)
    ∙ ap (λ (f : ℕ → Peer). record { epoch = e; elements = elements_of me.seats; at = f; jobs = jobs_of js; begun = me.begun; deposed = me.deposed }) (fun_ext (owing_at e me.wanted (Some x) me.seats))
    ∙ ap (λ (ks : List Work). record { epoch = e; elements = elements_of me.seats; at = λ p. owes_at (Some x) (peer_at e me.wanted me.seats p); jobs = ks; begun = me.begun; deposed = me.deposed }) b
    ∙ ap (λ (y : Txn). decide_all (record { epoch = e; elements = elements_of me.seats; at = λ p. owes_at (Some y) (peer_at e me.wanted me.seats p); jobs = jobs_of me.jobs.all; begun = me.begun; deposed = me.deposed })) n
