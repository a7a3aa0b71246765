-- Elements that are sent what is due, one after the other.
use Rattle.std.proofs.Common.{◌≡◌, ℕ, zero, suc, ◌≤◌, IfSome, ◌+◌, ◌<◌, true, List, [], ◌∷◌, ◌++◌, length, drop, get_or, Option, Some, None, option_map, refl, sym, ap, ◌∙◌, subst, arith}
use Rattle.std.proofs.Math.ListN.{set}
use Rattle.std.proofs.lemmas.List.{append_assoc, append-nil, length-map}
use Rattle.std.specs.List.{drop-map}
use Rattle.fc_protocol.specs.Messages.{Body}
use Rattle.fc_protocol.specs.MasterMachine.{Peer, Master, due, sends_one, sends_all, and_says, Speaks}
use Rattle.fc_jobs.specs.declared.seat.Seat.{Seat}
use Rattle.fc_jobs.specs.declared.job.Job.{Job as Kept}
use Rattle.fc_asks.specs.declared.life.Life.{Life}
use Rattle.fc_jobs.specs.declared.sending.CeOut.{CeOut}
use Rattle.fc_jobs.specs.declared.sending.Sending.{Sending}
use Rattle.fc_jobs.specs.Seats.{peer_of, peer_at, elements_of, alone}
use Rattle.fc_jobs.specs.JobViews.{jobs_of}
use Rattle.fc_jobs.specs.Sending.{Begun, are_apart, core_by, spelled, sent_out, sent_peer}
use Rattle.fc_jobs.proofs.Seating.{peer_found, core_set, elements_set}
use Rattle.fc_asks.proofs.Numbered.{drop_at}

some_same : {A : Type 0} (a b : A) → Some a ≡ Some b → a ≡ b
some_same a b e = cc

drop_past : {A : Type 0} (xs : List A) (i : ℕ) → length xs ≤ i → drop i xs ≡ []
drop_past [] zero l = refl
drop_past [] (suc i) l = refl
drop_past (x ∷ xs) zero l = absurd (omega arith)
drop_past (x ∷ xs) (suc i) l = drop_past xs i (omega arith)

pub same_count : (ss start : List Seat) → elements_of ss ≡ elements_of start → length ss ≡ length start
same_count ss start e = sym (length-map ss (λ (u : Seat). u.element)) ∙ (ap length e ∙ length-map start (λ (u : Seat). u.element))

module _ (life : Life) (js : List Kept) (k : ℕ) (begun : Begun) where
  abbrev e : ℕ
  e = life.epoch

  abbrev core : List Seat → Master
  core ss = core_by e ss js begun None

  abbrev pub all : List Seat → List ℕ → Speaks
  all ss ps = sends_all k ps (core ss)

  -- what is sent from here on, with what was sent before, is all that is sent
  pub record Goes (ss start : List Seat) (i : ℕ) (outs : List CeOut) : Type 0 where
    pub elements : elements_of ss ≡ elements_of start
    pub master : (all ss (drop i (elements_of start))).master ≡ (all start (elements_of start)).master
    pub says : outs ++ spelled life (all ss (drop i (elements_of start))).says ≡ spelled life (all start (elements_of start)).says

  module _ (ss start : List Seat) (i : ℕ) (outs : List CeOut) (s : Seat) (l : i < length ss) (g : s ≡ get_or ss i s) (a : are_apart (elements_of start) ≡ true) (x : Goes ss start i outs) where
    abbrev rest : List ℕ
    rest = drop (i + 1) (elements_of start)

    abbrev due_is : Option Body
    due_is = due (alone e (peer_of e s) (jobs_of js) None) s.element

    here : drop i (elements_of start) ≡ s.element ∷ rest
    here =
        ap (drop i) (sym x.elements) ∙ (drop-map (λ (u : Seat). u.element) i ss ∙ (ap elements_of (drop_at ss i s l) ∙ (ap (λ (u : Seat). u.element ∷ elements_of (drop (i + 1) ss)) (sym g)
        ∙ (ap (λ ps. s.element ∷ ps) (sym (drop-map (λ (u : Seat). u.element) (i + 1) ss) ∙ ap (drop (i + 1)) x.elements)))))

    apart : are_apart (elements_of ss) ≡ true
    apart = ap are_apart x.elements ∙ a

    due_here : due (core ss) s.element ≡ due_is
    due_here = ap (λ y. due (alone e y (jobs_of js) None) s.element) (peer_found e begun.wanted ss i s l g apart)

    abbrev one : Option Body → Speaks
    one o = sends_one k (core ss) s.element o

    turn : all ss (drop i (elements_of start)) ≡ and_says (sends_all k rest (one due_is).master) (one due_is).says
    turn = ap (all ss) here ∙ ap (λ o. and_says (sends_all k rest (one o).master) (one o).says) due_here

    pub none_goes : due_is ≡ None → Goes ss start (i + 1) outs
    none_goes n =
        let t : all ss (drop i (elements_of start)) ≡ all ss rest = turn ∙ ap (λ o. and_says (sends_all k rest (one o).master) (one o).says) n in
        record { elements = x.elements; master = ap (λ (r : Speaks). r.master) (sym t) ∙ x.master; says = ap (λ (r : Speaks). outs ++ spelled life r.says) (sym t) ∙ x.says }

    module _ (b : Body) (d : due_is ≡ Some b) (n : Sending) (h : n.seat.element ≡ s.element) (p : peer_of e n.seat ≡ sent_peer e (peer_of e s) b) (o : n.out ≡ sent_out life s.element (peer_of e s) b) where
      found_here : peer_at e begun.wanted ss s.element ≡ peer_of e s
      found_here = peer_found e begun.wanted ss i s l g apart

      abbrev after : List Seat
      after = set ss i n.seat

      moved : core after ≡ (one (Some b)).master
      moved = core_set e ss js begun None i s n.seat (sent_peer e (peer_at e begun.wanted ss s.element) b) l g apart h (p ∙ ap (λ y. sent_peer e y b) (sym found_here))

      step : all ss (drop i (elements_of start)) ≡ and_says (all after rest) (one (Some b)).says
      step = turn ∙ (ap (λ o. and_says (sends_all k rest (one o).master) (one o).says) d ∙ ap (λ m. and_says (sends_all k rest m) (one (Some b)).says) (sym moved))

      out_here : sent_out life s.element (peer_at e begun.wanted ss s.element) b ≡ n.out
      out_here = ap (λ y. sent_out life s.element y b) found_here ∙ sym o

      pub some_goes : Goes after start (i + 1) (outs ++ n.out ∷ [])
      some_goes = record {
        elements = elements_set ss i s n.seat l g h ∙ x.elements;
        master = ap (λ (r : Speaks). r.master) (sym step) ∙ x.master;
        says = append_assoc outs (n.out ∷ []) _ ∙ (ap (λ t. outs ++ t ∷ spelled life (all after rest).says) (sym out_here) ∙ (ap (λ (r : Speaks). outs ++ spelled life r.says) (sym step) ∙ x.says));
      }

    some_by : (o : Option Body) (n : Sending) → due_is ≡ o → n.seat.element ≡ s.element → Some (peer_of e n.seat) ≡ option_map (sent_peer e (peer_of e s)) o → Some n.out ≡ option_map (sent_out life s.element (peer_of e s)) o
        → Goes (set ss i n.seat) start (i + 1) (outs ++ n.out ∷ [])
    some_by None n d h p o = cc
    some_by (Some b) n d h p o = some_goes b d n h (some_same _ _ p) (some_same _ _ o)

    none_by : (o : Option Body) → due_is ≡ o → None ≡ option_map (sent_peer e (peer_of e s)) o → Goes ss start (i + 1) outs
    none_by None d p = none_goes d
    none_by (Some b) d p = cc

    abbrev peers : Option Sending → Option Peer
    peers = option_map (λ (n : Sending). peer_of e n.seat)

    pub sent_goes : (r : Option Sending) (n : Sending) (ns : List Seat) (os : List CeOut) → r ≡ Some n → ns ≡ set ss i n.seat → os ≡ outs ++ n.out ∷ [] → IfSome r (λ n. n.seat.element ≡ s.element)
        → peers r ≡ option_map (sent_peer e (peer_of e s)) due_is → option_map (λ (n : Sending). n.out) r ≡ option_map (sent_out life s.element (peer_of e s)) due_is → Goes ns start (i + 1) os
    sent_goes r n ns os c u v h p o =
        let h' : n.seat.element ≡ s.element = subst (λ t. IfSome t (λ n. n.seat.element ≡ s.element)) c h in
        subst (λ t. Goes t start (i + 1) os) (sym u) (subst (λ t. Goes (set ss i n.seat) start (i + 1) t) (sym v)
        (some_by due_is n refl h' (ap peers (sym c) ∙ p) (ap (option_map (λ (n : Sending). n.out)) (sym c) ∙ o)))

    pub quiet_goes : (r : Option Sending) (ns : List Seat) (os : List CeOut) → r ≡ None → ns ≡ ss → os ≡ outs → peers r ≡ option_map (sent_peer e (peer_of e s)) due_is → Goes ns start (i + 1) os
    quiet_goes r ns os c u v p =
        subst (λ t. Goes t start (i + 1) os) (sym u) (subst (λ t. Goes ss start (i + 1) t) (sym v) (none_by due_is refl (ap peers (sym c) ∙ p)))

  module _ (ss start : List Seat) (i : ℕ) (outs : List CeOut) (l : length start ≤ i) (x : Goes ss start i outs) where
    gone : all ss (drop i (elements_of start)) ≡ record { master = core ss; says = [] }
    gone = ap (all ss) (drop-map (λ (u : Seat). u.element) i start ∙ ap elements_of (drop_past start i l))

    pub master_end : core ss ≡ (all start (elements_of start)).master
    master_end = ap (λ (r : Speaks). r.master) (sym gone) ∙ x.master

    pub outs_end : outs ≡ spelled life (all start (elements_of start)).says
    outs_end = sym (append-nil outs) ∙ (ap (λ (r : Speaks). outs ++ spelled life r.says) (sym gone) ∙ x.says)
