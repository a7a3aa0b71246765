-- What every move keeps.
use Rattle.std.proofs.Common.{◌≡◌, ◌≢◌, ℕ, zero, suc, ◌<◌, ◌≤◌, ◌==◌, Bool, true, false, cond, ◌&&◌, ◌||◌, List, [], ◌∷◌, slice_get, Option, Some, None, is_none, nat_lt, ◌⊎◌, inl, inr, ⊎_elim, refl, sym, ap, ◌∙◌, subst, arith, eqb-true, eq-eqb}
use Rattle.fc_protocol.specs.Collections.{among, put}
use Rattle.fc_agreement.specs.Core.{Note, Element, Core, Move, Raise, Open, Fail, Prepare, Tell, Decide, Give_up, Commit, Settle, start, moved, moves, decides_by, commits_by, settles_by, changed, decides, to, raised, settled, answers, picked, fits}
use Rattle.fc_protocol.specs.Decide.{with_first, decision_by, any, every, is_absent, is_started, is_prepared, is_completed, is_aborted}
use Rattle.fc_protocol.specs.declared.states.Decision.{Decision}
use Rattle.fc_protocol.specs.declared.states.Decision.TheVariants.{Complete, Abort}
use Rattle.fc_protocol.specs.declared.states.Seen.{Seen}
use Rattle.fc_protocol.specs.declared.states.Seen.TheVariants.{Absent, Started, Prepared, Completed, Aborted}
use Rattle.fc_protocol.proofs.Puts.{was_none, both_first, both_second, put_cases, put_keep, put_two, put_here, not_true, not_none}
use Rattle.fc_agreement.proofs.States.{was_absent, was_started, settled_absent, settled_started, settled_aborted, settled_completed, settled_done, settled_prepared, abort_never, abort_unprepared, raised_started, raised_absent, raised_completed, raised_aborted, raised_prepared, not_early}

module _ (own : ℕ) (parts : List ℕ) where
  -- some participant can never be prepared in the eyes of a later life
  abbrev Doomed : (ℕ → Bool) → Type 0
  Doomed dead = (r : ℕ) × (among r parts ≡ true) × (dead r ≡ true)

  abbrev Says : ℕ → Element → Bool → ℕ → Seen → Type 0
  Says p x k life Absent = own < life → among p parts ≡ true → k ≡ true
  Says p x k life Started = life ≤ own
  Says p x k life Prepared = (x.prepared ≡ true) × (own < life → k ≡ false)
  Says p x k life Completed = x.state ≡ Completed
  Says p x k life Aborted = x.state ≡ Aborted

  -- one element, which is dead or not
  record Fine (decided : ℕ → Option Decision) (told : List Note) (doom : Type 0) (p : ℕ) (x : Element) (k : Bool) : Type 0 where
    reach : (e : ℕ) (d : Decision) → decided e ≡ Some d → own < e → among p parts ≡ true → e ≤ x.epoch
    prepared_all : (f : ℕ) → decided f ≡ Some Complete → among p parts ≡ true → x.prepared ≡ true
    alive_all : (f : ℕ) → decided f ≡ Some Complete → among p parts ≡ true → k ≡ false
    aborted : x.state ≡ Aborted → doom
    completed : x.state ≡ Completed → (f : ℕ) × (decided f ≡ Some Complete)
    late : x.prepared ≡ true → (x.state ≢ Absent) × (x.state ≢ Started)
    undone : k ≡ true → x.prepared ≡ true → decided own ≡ Some Abort
    started : x.state ≡ Started → (x.epoch ≡ own) × (among p parts ≡ true)
    absent : x.state ≡ Absent → own < x.epoch → among p parts ≡ true → k ≡ true
    gone : k ≡ true → (x.state ≢ Started) × (x.state ≡ Absent → own < x.epoch) × (x.state ≢ Prepared)
    ready : x.state ≡ Prepared → x.prepared ≡ true
    notes : (w : ℕ) (n : Note) → slice_get told w ≡ Some n → n.element ≡ p → (n.life ≤ x.epoch) × Says p x k n.life n.state

  record Inv (c : Core) (dead : ℕ → Bool) : Type 0 where
    least : (e : ℕ) (d : Decision) → c.decided e ≡ Some d → own ≤ e
    refused : (e : ℕ) → c.decided e ≡ Some Abort → own < e → Doomed dead
    each : (p : ℕ) → Fine c.decided c.notes (Doomed dead) p (c.at p) (dead p)

  agrees : (c : Core) (dead : ℕ → Bool) → Inv c dead → (p q : ℕ) → (c.at p).state ≡ Completed → (c.at q).state ≡ Aborted → ⊥
  agrees c dead i p q done undone =
      let f = (i.each p).completed done in
      let r = (i.each q).aborted undone in
      let no : true ≡ false = sym r.2 ∙ (i.each r.0).alive_all f.0 f.1 r.1 in cc

  had_prepared : (c : Core) (dead : ℕ → Bool) → Inv c dead → (p q : ℕ) → (c.at p).state ≡ Completed → among q parts ≡ true → (c.at q).prepared ≡ true
  had_prepared c dead i p q done in_parts = let f = (i.each p).completed done in (i.each q).prepared_all f.0 f.1 in_parts

  -- more is doomed
  weaker : (decided : ℕ → Option Decision) (told : List Note) (doom more : Type 0) (p : ℕ) (x : Element) (k : Bool) → (doom → more) → Fine decided told doom p x k → Fine decided told more p x k
  weaker decided told doom more p x k m f =
      record { reach = f.reach; prepared_all = f.prepared_all; alive_all = f.alive_all; aborted = λ e. m (f.aborted e); completed = f.completed; late = f.late; undone = f.undone; started = f.started; absent = f.absent; gone = f.gone; ready = f.ready; notes = f.notes }

  doomed_more : (dead : ℕ → Bool) (p : ℕ) (k : Bool) → (dead p ≡ true → k ≡ true) → Doomed dead → Doomed (put dead p k)
  doomed_more dead p k m d = (d.0, d.1, put_keep dead p k d.0 true d.2 (λ e. m (ap dead (sym e) ∙ d.2)))

  -- one element changes
  one_changes : (c : Core) (dead : ℕ → Bool) (p : ℕ) (x : Element) (k : Bool) → Inv c dead → (dead p ≡ true → k ≡ true) → Fine c.decided c.notes (Doomed (put dead p k)) p x k → Inv (changed c p x) (put dead p k)
  one_changes c dead p x k i m here =
      record {
        least = i.least;
        refused = λ e h l. doomed_more dead p k m (i.refused e h l);
        each = put_two (Fine c.decided c.notes (Doomed (put dead p k))) c.at dead p x k here (λ q. weaker c.decided c.notes (Doomed dead) (Doomed (put dead p k)) q (c.at q) (dead q) (doomed_more dead p k m) (i.each q));
      }

  -- what a note says stays true
  says_on : (p : ℕ) (x y : Element) (k m : Bool) (life : ℕ) (s : Seen) → (x.state ≡ Completed → y.state ≡ Completed) → (x.state ≡ Aborted → y.state ≡ Aborted) → (x.prepared ≡ true → y.prepared ≡ true) → (k ≡ true → m ≡ true)
      → (x.prepared ≡ true → own < life → k ≡ false → m ≡ false) → Says p x k life s → Says p y m life s
  says_on p x y k m life Absent a b c d e h = λ l i. d (h l i)
  says_on p x y k m life Started a b c d e h = h
  says_on p x y k m life Prepared a b c d e h = (c h.0, λ l. e h.0 l (h.1 l))
  says_on p x y k m life Completed a b c d e h = a h
  says_on p x y k m life Aborted a b c d e h = b h

  abbrev Good : Core → Type 0
  Good c = (dead : ℕ → Bool) × Inv c dead

  differ : {P : Type 0} (a b : Seen) → a ≡ b → (a ≡ b → ⊥) → P
  differ a b e h = absurd (h e)

  doomed_now : (dead : ℕ → Bool) (p : ℕ) → among p parts ≡ true → Doomed (put dead p true)
  doomed_now dead p in_parts = (p, in_parts, put_here dead p true)

  open_keeps : (c : Core) (dead : ℕ → Bool) (p : ℕ) → Inv c dead → among p parts ≡ true → (c.at p).epoch ≡ own → (c.at p).state ≡ Absent → Inv (changed c p (to (c.at p) Started)) (put dead p (dead p))
  open_keeps c dead p i in_parts at_own was =
      let f = i.each p in
      let y : Element = to (c.at p) Started in
      one_changes c dead p y (dead p) i (λ e. e) (record {
        reach = f.reach;
        prepared_all = f.prepared_all;
        alive_all = f.alive_all;
        aborted = λ e. cc;
        completed = λ e. cc;
        late = λ h. absurd ((f.late h).0 was);
        undone = f.undone;
        started = λ _. (at_own, in_parts);
        absent = λ e. cc;
        gone = λ h. let below : own < (c.at p).epoch = (f.gone h).1 was in absurd (omega arith);
        ready = λ e. cc;
        notes = λ w n e s. ((f.notes w n e s).0, says_on p (c.at p) y (dead p) (dead p) n.life n.state (λ h. cc) (λ h. cc) (λ h. h) (λ h. h) (λ _ _ h. h) (f.notes w n e s).1);
      })

  fail_keeps : (c : Core) (dead : ℕ → Bool) (p : ℕ) → Inv c dead → (c.at p).state ≡ Started → Inv (changed c p (to (c.at p) Aborted)) (put dead p true)
  fail_keeps c dead p i was =
      let f = i.each p in
      let y : Element = to (c.at p) Aborted in
      one_changes c dead p y true i (λ e. refl) (record {
        reach = f.reach;
        prepared_all = f.prepared_all;
        alive_all = λ g e m. absurd ((f.late (f.prepared_all g e m)).1 was);
        aborted = λ e. doomed_now dead p (f.started was).1;
        completed = λ e. cc;
        late = λ h. absurd ((f.late h).1 was);
        undone = λ _ h. absurd ((f.late h).1 was);
        started = λ e. cc;
        absent = λ e. cc;
        gone = λ _. ((λ e. cc), (λ e. cc), (λ e. cc));
        ready = λ e. cc;
        notes = λ w n e s. ((f.notes w n e s).0, says_on p (c.at p) y (dead p) true n.life n.state (λ h. cc) (λ h. cc) (λ h. h) (λ h. refl) (λ h _ _. absurd ((f.late h).1 was)) (f.notes w n e s).1);
      })

  prepare_keeps : (c : Core) (dead : ℕ → Bool) (p : ℕ) → Inv c dead → (c.at p).state ≡ Started → Inv (changed c p (record { epoch = (c.at p).epoch; state = Prepared; prepared = true })) (put dead p (dead p))
  prepare_keeps c dead p i was =
      let f = i.each p in
      let y : Element = record { epoch = (c.at p).epoch; state = Prepared; prepared = true } in
      one_changes c dead p y (dead p) i (λ e. e) (record {
        reach = f.reach;
        prepared_all = λ _ _ _. refl;
        alive_all = f.alive_all;
        aborted = λ e. cc;
        completed = λ e. cc;
        late = λ _. ((λ e. cc), (λ e. cc));
        undone = λ h _. absurd ((f.gone h).0 was);
        started = λ e. cc;
        absent = λ e. cc;
        gone = λ h. absurd ((f.gone h).0 was);
        ready = λ _. refl;
        notes = λ w n e s. ((f.notes w n e s).0, says_on p (c.at p) y (dead p) (dead p) n.life n.state (λ h. cc) (λ h. cc) (λ h. refl) (λ h. h) (λ _ _ h. h) (f.notes w n e s).1);
      })

  -- an element that hasn't prepared is raised above the transaction
  raise_dead : (c : Core) (dead : ℕ → Bool) (p e : ℕ) → Inv c dead → (c.at p).epoch < e → own < e → among p parts ≡ true → ((c.at p).prepared ≡ true → ⊥) → ((c.at p).state ≡ Completed → ⊥) → ((c.at p).state ≡ Aborted → ⊥)
      → Inv (changed c p (record { epoch = e; state = raised (c.at p).state; prepared = (c.at p).prepared })) (put dead p true)
  raise_dead c dead p e i less above in_parts unprepared undone unaborted =
      let f = i.each p in
      let y : Element = record { epoch = e; state = raised (c.at p).state; prepared = (c.at p).prepared } in
      one_changes c dead p y true i (λ _. refl) (record {
        reach = λ g d h l m. let low : g ≤ (c.at p).epoch = f.reach g d h l m in omega arith;
        prepared_all = f.prepared_all;
        alive_all = λ g h m. absurd (unprepared (f.prepared_all g h m));
        aborted = λ _. doomed_now dead p in_parts;
        completed = λ h. absurd (undone (raised_completed _ h));
        late = λ h. absurd (unprepared h);
        undone = λ _ h. absurd (unprepared h);
        started = λ h. absurd (raised_started _ h);
        absent = λ _ _ _. refl;
        gone = λ _. (raised_started (c.at p).state, (λ _. above), (λ h. unprepared (f.ready (raised_prepared _ h))));
        ready = λ h. f.ready (raised_prepared _ h);
        notes = λ w n h s. let low : n.life ≤ (c.at p).epoch = (f.notes w n h s).0 in
            (omega arith, says_on p (c.at p) y (dead p) true n.life n.state (λ h. absurd (undone h)) (λ h. absurd (unaborted h)) (λ h. h) (λ _. refl) (λ h _ _. absurd (unprepared h)) (f.notes w n h s).1);
      })

  raise_plain : (c : Core) (dead : ℕ → Bool) (p e : ℕ) → Inv c dead → (c.at p).epoch < e → ((c.at p).state ≢ Started) → ((c.at p).state ≡ Absent → own < e → among p parts ≡ true → dead p ≡ true)
      → Inv (changed c p (record { epoch = e; state = raised (c.at p).state; prepared = (c.at p).prepared })) (put dead p (dead p))
  raise_plain c dead p e i less unstarted absent =
      let f = i.each p in
      let y : Element = record { epoch = e; state = raised (c.at p).state; prepared = (c.at p).prepared } in
      one_changes c dead p y (dead p) i (λ h. h) (record {
        reach = λ g d h l m. let low : g ≤ (c.at p).epoch = f.reach g d h l m in omega arith;
        prepared_all = f.prepared_all;
        alive_all = f.alive_all;
        aborted = λ h. doomed_more dead p (dead p) (λ k. k) (⊎_elim f.aborted (λ k. absurd (unstarted k)) (raised_aborted _ h));
        completed = λ h. f.completed (raised_completed _ h);
        late = λ h. ((λ k. (f.late h).0 (raised_absent _ k)), raised_started (c.at p).state);
        undone = f.undone;
        started = λ h. absurd (raised_started _ h);
        absent = λ h. absent (raised_absent _ h);
        gone = λ h. (raised_started (c.at p).state, (λ k. let low : own < (c.at p).epoch = (f.gone h).1 (raised_absent _ k) in omega arith), (λ k. (f.gone h).2 (raised_prepared _ k)));
        ready = λ h. f.ready (raised_prepared _ h);
        notes = λ w n h s. let low : n.life ≤ (c.at p).epoch = (f.notes w n h s).0 in
            (omega arith, says_on p (c.at p) y (dead p) (dead p) n.life n.state (λ h. ap raised h) (λ h. ap raised h) (λ h. h) (λ h. h) (λ _ _ h. h) (f.notes w n h s).1);
      })

  -- a settlement that dooms nobody anew
  settle_plain : (c : Core) (dead : ℕ → Bool) (p : ℕ) (d : Decision) → Inv c dead → c.decided (c.at p).epoch ≡ Some d → (d ≡ Abort → Doomed dead) → Inv (changed c p (to (c.at p) (settled d (c.at p).state))) (put dead p (dead p))
  settle_plain c dead p d i has doom =
      let f = i.each p in
      let y : Element = to (c.at p) (settled d (c.at p).state) in
      one_changes c dead p y (dead p) i (λ h. h) (record {
        reach = f.reach;
        prepared_all = f.prepared_all;
        alive_all = f.alive_all;
        aborted = λ h. doomed_more dead p (dead p) (λ k. k) (⊎_elim f.aborted doom (settled_aborted d _ h));
        completed = λ h. ⊎_elim f.completed (λ k. ((c.at p).epoch, has ∙ ap Some k)) (settled_completed d _ h);
        late = λ h. ((λ k. (f.late h).0 (settled_absent d _ k)), (λ k. (f.late h).1 (settled_started d _ k)));
        undone = f.undone;
        started = λ h. f.started (settled_started d _ h);
        absent = λ h. f.absent (settled_absent d _ h);
        gone = λ h. ((λ k. (f.gone h).0 (settled_started d _ k)), (λ k. (f.gone h).1 (settled_absent d _ k)), (λ k. (f.gone h).2 (settled_prepared d _ k)));
        ready = λ h. f.ready (settled_prepared d _ h);
        notes = λ w n h s. ((f.notes w n h s).0, says_on p (c.at p) y (dead p) (dead p) n.life n.state (settled_done d (c.at p).state).0 (settled_done d (c.at p).state).1 (λ h. h) (λ h. h) (λ _ _ h. h) (f.notes w n h s).1);
      })

  -- the life of the transaction gave it up
  settle_own : (c : Core) (dead : ℕ → Bool) (p : ℕ) → Inv c dead → among p parts ≡ true → c.decided (c.at p).epoch ≡ Some Abort → (c.at p).epoch ≡ own → Inv (changed c p (to (c.at p) (settled Abort (c.at p).state))) (put dead p true)
  settle_own c dead p i in_parts has at_own =
      let f = i.each p in
      let y : Element = to (c.at p) (settled Abort (c.at p).state) in
      let gave : c.decided own ≡ Some Abort = ap c.decided (sym at_own) ∙ has in
      one_changes c dead p y true i (λ h. refl) (record {
        reach = f.reach;
        prepared_all = f.prepared_all;
        alive_all = λ g h m.
            let low : own ≤ g = i.least g Complete h in
            let no : g ≢ own = λ e. let same : Some Complete ≡ Some Abort = sym h ∙ ap c.decided e ∙ gave in cc in
            let above : own < g = omega arith in
            let reach : g ≤ (c.at p).epoch = f.reach g Complete h above m in
            absurd (omega arith);
        aborted = λ _. doomed_now dead p in_parts;
        completed = λ h. ⊎_elim f.completed (λ k. cc) (settled_completed Abort _ h);
        late = λ h. abort_never (c.at p).state;
        undone = λ _ _. gave;
        started = λ h. absurd ((abort_never (c.at p).state).1 h);
        absent = λ h. absurd ((abort_never (c.at p).state).0 h);
        gone = λ _. ((abort_never (c.at p).state).1, (λ k. absurd ((abort_never (c.at p).state).0 k)), abort_unprepared (c.at p).state);
        ready = λ h. f.ready (settled_prepared Abort _ h);
        notes = λ w n h s.
            let low : n.life ≤ (c.at p).epoch = (f.notes w n h s).0 in
            (low, says_on p (c.at p) y (dead p) true n.life n.state (settled_done Abort (c.at p).state).0 (settled_done Abort (c.at p).state).1 (λ h. h) (λ h. refl) (λ _ l _. absurd (omega arith)) (f.notes w n h s).1);
      })

  -- an element tells its state
  says_now : (c : Core) (dead : ℕ → Bool) (p : ℕ) (s : Seen) → Fine c.decided c.notes (Doomed dead) p (c.at p) (dead p) → (c.at p).state ≡ s → Says p (c.at p) (dead p) (c.at p).epoch s
  says_now c dead p Absent f e = f.absent e
  says_now c dead p Started f e = let here : (c.at p).epoch ≡ own = (f.started e).0 in omega arith
  says_now c dead p Prepared f e = (f.ready e, λ _. not_true (dead p) (λ k. (f.gone k).2 e))
  says_now c dead p Completed f e = e
  says_now c dead p Aborted f e = e

  abbrev note_of : Core → ℕ → Note
  note_of c p = record { life = (c.at p).epoch; element = p; state = (c.at p).state }

  told_more : (c : Core) (dead : ℕ → Bool) (p q : ℕ) → Inv c dead → (w : ℕ) (n : Note) → slice_get (note_of c p ∷ c.notes) w ≡ Some n → n.element ≡ q → (n.life ≤ (c.at q).epoch) × Says q (c.at q) (dead q) n.life n.state
  told_more c dead p q i zero n e s =
      let same : note_of c p ≡ n = cc in
      let here : p ≡ q = ap (λ m. m.element) same ∙ s in
      subst (λ m. (m.life ≤ (c.at q).epoch) × Says q (c.at q) (dead q) m.life m.state) same
      (subst (λ r. ((c.at p).epoch ≤ (c.at r).epoch) × Says r (c.at r) (dead r) (c.at p).epoch (c.at p).state) here (omega arith, says_now c dead p (c.at p).state (i.each p) refl))
  told_more c dead p q i (suc w) n e s = (i.each q).notes w n e s

  tell_keeps : (c : Core) (dead : ℕ → Bool) (p : ℕ) → Inv c dead → Inv (record { at = c.at; decided = c.decided; notes = note_of c p ∷ c.notes }) dead
  tell_keeps c dead p i = record {
    least = i.least;
    refused = i.refused;
    each = λ q. let f = i.each q in
        record {
          reach = f.reach;
          prepared_all = f.prepared_all;
          alive_all = f.alive_all;
          aborted = f.aborted;
          completed = f.completed;
          late = f.late;
          undone = f.undone;
          started = f.started;
          absent = f.absent;
          gone = f.gone;
          ready = f.ready;
          notes = told_more c dead p q i;
        };
  }

  same_some : {A : Type 0} (x y : A) → Some x ≡ Some y → x ≡ y
  same_some x y e = cc

  -- a life decides
  decide_keeps : (c : Core) (dead : ℕ → Bool) (e : ℕ) (d : Decision) → Inv c dead → c.decided e ≡ None → own ≤ e → ((q : ℕ) → own < e → among q parts ≡ true → e ≤ (c.at q).epoch)
      → ((q : ℕ) → d ≡ Complete → among q parts ≡ true → ((c.at q).prepared ≡ true) × (dead q ≡ false)) → (d ≡ Abort → own < e → Doomed dead) → Inv (decides c e d) dead
  decide_keeps c dead e d i none low reach complete doom =
      let kept = λ (f : ℕ) (g : Decision) (h : c.decided f ≡ Some g). put_keep c.decided e (Some d) f (Some g) h (λ s. not_none (c.decided e) g none (ap c.decided (sym s) ∙ h)) in
      record {
        least = λ f g h. ⊎_elim (λ k. let same : f ≡ e = k.0 in omega arith) (i.least f g) (put_cases c.decided e (Some d) f (Some g) h);
        refused = λ f h l. ⊎_elim (λ k. let same : f ≡ e = k.0 in doom (same_some d Abort k.1) (omega arith)) (λ k. i.refused f k l) (put_cases c.decided e (Some d) f (Some Abort) h);
        each = λ q. let f = i.each q in
            record {
              reach = λ g h k l m. ⊎_elim (λ s. let same : g ≡ e = s.0 in let r : e ≤ (c.at q).epoch = reach q (omega arith) m in omega arith) (λ s. f.reach g h s l m) (put_cases c.decided e (Some d) g (Some h) k);
              prepared_all = λ g k m. ⊎_elim (λ s. (complete q (same_some d Complete s.1) m).0) (λ s. f.prepared_all g s m) (put_cases c.decided e (Some d) g (Some Complete) k);
              alive_all = λ g k m. ⊎_elim (λ s. (complete q (same_some d Complete s.1) m).1) (λ s. f.alive_all g s m) (put_cases c.decided e (Some d) g (Some Complete) k);
              aborted = f.aborted;
              completed = λ h. let g = f.completed h in (g.0, kept g.0 Complete g.1);
              late = f.late;
              undone = λ h k. kept own Abort (f.undone h k);
              started = f.started;
              absent = f.absent;
              gone = f.gone;
              ready = f.ready;
              notes = f.notes;
            };
      }

  -- the notes that answers were picked from
  abbrev Told : List Note → ℕ → List ℕ → List Seen → Type 0
  Told notes life [] [] = Unit {0}
  Told notes life [] (s ∷ ss) = ⊥
  Told notes life (p ∷ ps) [] = ⊥
  Told notes life (p ∷ ps) (s ∷ ss) = (w : ℕ) × (n : Note) × (slice_get notes w ≡ Some n) × (n.life ≡ life) × (n.element ≡ p) × (n.state ≡ s) × Told notes life ps ss

  told_first : (notes : List Note) (life p w : ℕ) (ps : List ℕ) (n : Note) (rest : Option (List Seen)) (ss : List Seen) → slice_get notes w ≡ Some n → n.life ≡ life → n.element ≡ p → ((ts : List Seen) → rest ≡ Some ts → Told notes life ps ts)
      → with_first n.state rest ≡ Some ss → Told notes life (p ∷ ps) ss
  told_first notes life p w ps n None ss e l m h k = cc
  told_first notes life p w ps n (Some ts) ss e l m h k = subst (Told notes life (p ∷ ps)) (same_some (n.state ∷ ts) ss k) (w, n, e, l, m, refl, h ts refl)

  told_if : (notes : List Note) (life p w : ℕ) (ps : List ℕ) (n : Note) (rest : Option (List Seen)) (ss : List Seen) (b : Bool) → fits life p n ≡ b → slice_get notes w ≡ Some n → ((ts : List Seen) → rest ≡ Some ts → Told notes life ps ts)
      → cond b (with_first n.state rest) None ≡ Some ss → Told notes life (p ∷ ps) ss
  told_if notes life p w ps n rest ss true f e h k = told_first notes life p w ps n rest ss e (eqb-true _ _ (both_first (n.life == life) (n.element == p) f)) (eqb-true _ _ (both_second (n.life == life) (n.element == p) f)) h k
  told_if notes life p w ps n rest ss false f e h k = cc

  told_picked : (notes : List Note) (life p w : ℕ) (ps : List ℕ) (o : Option Note) (rest : Option (List Seen)) (ss : List Seen) → slice_get notes w ≡ o → ((ts : List Seen) → rest ≡ Some ts → Told notes life ps ts) → picked life p o rest ≡ Some ss → Told notes life (p ∷ ps) ss
  told_picked notes life p w ps None rest ss e h k = cc
  told_picked notes life p w ps (Some n) rest ss e h k = told_if notes life p w ps n rest ss (fits life p n) refl e h k

  answers_told : (notes : List Note) (life : ℕ) (ps ws : List ℕ) (ss : List Seen) → answers life notes ps ws ≡ Some ss → Told notes life ps ss
  answers_told notes life [] [] [] e = tt
  answers_told notes life [] [] (s ∷ ss) e = cc
  answers_told notes life [] (w ∷ ws) ss e = cc
  answers_told notes life (p ∷ ps) [] ss e = cc
  answers_told notes life (p ∷ ps) (w ∷ ws) ss e = told_picked notes life p w ps (slice_get notes w) (answers life notes ps ws) ss refl (answers_told notes life ps ws) e

  record Picked (notes : List Note) (life q : ℕ) (t : Seen → Bool) : Type 0 where
    which : ℕ
    note : Note
    found : slice_get notes which ≡ Some note
    of_life : note.life ≡ life
    of_element : note.element ≡ q
    test : t note.state ≡ true

  either : (a b : Bool) → (a || b) ≡ true → (a ≡ true) ⊎ (b ≡ true)
  either true b e = inl refl
  either false b e = inr e

  or_true : (a b : Bool) → b ≡ true → (a || b) ≡ true
  or_true true b h = refl
  or_true false b h = h

  self_among : (p : ℕ) (ps : List ℕ) → among p (p ∷ ps) ≡ true
  self_among p ps = ap (λ b. b || among p ps) (eq-eqb p p refl)

  more_among : (q p : ℕ) (ps : List ℕ) → among q ps ≡ true → among q (p ∷ ps) ≡ true
  more_among q p ps h = or_true (q == p) _ h

  any_note : (notes : List Note) (life : ℕ) (t : Seen → Bool) (ps : List ℕ) (ss : List Seen) → Told notes life ps ss → any t ss ≡ true → (q : ℕ) × (among q ps ≡ true) × Picked notes life q t
  any_note notes life t [] [] h e = cc
  any_note notes life t [] (s ∷ ss) h e = absurd h
  any_note notes life t (p ∷ ps) [] h e = absurd h
  any_note notes life t (p ∷ ps) (s ∷ ss) h e =
      ⊎_elim (λ k. (p, self_among p ps, record { which = h.0; note = h.1; found = h.2; of_life = h.3; of_element = h.4; test = ap t h.5 ∙ k }))
      (λ k. let r = any_note notes life t ps ss h.6 k in (r.0, more_among r.0 p ps r.1, r.2)) (either (t s) (any t ss) e)

  every_note : (notes : List Note) (life : ℕ) (t : Seen → Bool) (ps : List ℕ) (ss : List Seen) → Told notes life ps ss → every t ss ≡ true → (q : ℕ) → among q ps ≡ true → Picked notes life q t
  every_note notes life t [] [] h e q m = cc
  every_note notes life t [] (s ∷ ss) h e q m = absurd h
  every_note notes life t (p ∷ ps) [] h e q m = absurd h
  every_note notes life t (p ∷ ps) (s ∷ ss) h e q m =
      ⊎_elim (λ k. record { which = h.0; note = h.1; found = h.2; of_life = h.3; of_element = h.4 ∙ sym (eqb-true q p k); test = ap t h.5 ∙ both_first (t s) (every t ss) e })
      (every_note notes life t ps ss h.6 (both_second (t s) (every t ss) e) q) (either (q == p) (among q ps) m)

  abbrev bad : Seen → Bool
  bad Absent = true
  bad Started = true
  bad Aborted = true
  bad Prepared = false
  bad Completed = false

  pick_complete : (a b e : Bool) → cond a Complete (cond b Abort (cond e Complete Abort)) ≡ Complete → (a ≡ true) ⊎ (e ≡ true)
  pick_complete true b e h = inl refl
  pick_complete false true e h = cc
  pick_complete false false true h = inr refl
  pick_complete false false false h = cc

  pick_abort : (a b e : Bool) → cond a Complete (cond b Abort (cond e Complete Abort)) ≡ Abort → (a ≡ false) × ((b ≡ true) ⊎ (e ≡ false))
  pick_abort true b e h = cc
  pick_abort false true e h = (refl, inl refl)
  pick_abort false false true h = cc
  pick_abort false false false h = (refl, inr refl)

  aborted_bad : (ss : List Seen) → any is_aborted ss ≡ true → any bad ss ≡ true
  aborted_bad [] h = cc
  aborted_bad (Absent ∷ ss) h = refl
  aborted_bad (Started ∷ ss) h = refl
  aborted_bad (Prepared ∷ ss) h = aborted_bad ss h
  aborted_bad (Completed ∷ ss) h = aborted_bad ss h
  aborted_bad (Aborted ∷ ss) h = refl

  unready_bad : (ss : List Seen) → any is_completed ss ≡ false → every is_prepared ss ≡ false → any bad ss ≡ true
  unready_bad [] c h = cc
  unready_bad (Absent ∷ ss) c h = refl
  unready_bad (Started ∷ ss) c h = refl
  unready_bad (Prepared ∷ ss) c h = unready_bad ss c h
  unready_bad (Completed ∷ ss) c h = cc
  unready_bad (Aborted ∷ ss) c h = refl

  decide_bad : (ss : List Seen) → decision_by ss ≡ Abort → any bad ss ≡ true
  decide_bad ss h = let p = pick_abort (any is_completed ss) (any is_aborted ss) (every is_prepared ss) h in ⊎_elim (aborted_bad ss) (unready_bad ss p.0) p.1

  every_true : (ss : List Seen) → every (λ _. true) ss ≡ true
  every_true [] = refl
  every_true (s ∷ ss) = every_true ss

  -- what a bad note shows
  bad_doomed : (c : Core) (dead : ℕ → Bool) (i : Inv c dead) (e q : ℕ) (s : Seen) → own < e → among q parts ≡ true → bad s ≡ true → Says q (c.at q) (dead q) e s → Doomed dead
  bad_doomed c dead i e q Absent l m b h = (q, m, h l m)
  bad_doomed c dead i e q Started l m b h = absurd (omega arith)
  bad_doomed c dead i e q Prepared l m b h = cc
  bad_doomed c dead i e q Completed l m b h = cc
  bad_doomed c dead i e q Aborted l m b h = (i.each q).aborted h

  says_completed : (q life : ℕ) (x : Element) (k : Bool) (s : Seen) → is_completed s ≡ true → Says q x k life s → x.state ≡ Completed
  says_completed q life x k Absent b h = cc
  says_completed q life x k Started b h = cc
  says_completed q life x k Prepared b h = cc
  says_completed q life x k Completed b h = h
  says_completed q life x k Aborted b h = cc

  says_prepared : (q life : ℕ) (x : Element) (k : Bool) (s : Seen) → is_prepared s ≡ true → Says q x k life s → (x.prepared ≡ true) × (own < life → k ≡ false)
  says_prepared q life x k Absent b h = cc
  says_prepared q life x k Started b h = cc
  says_prepared q life x k Prepared b h = h
  says_prepared q life x k Completed b h = cc
  says_prepared q life x k Aborted b h = cc

  told_says : (c : Core) (dead : ℕ → Bool) (i : Inv c dead) (e q : ℕ) (t : Seen → Bool) (k : Picked c.notes e q t) → (e ≤ (c.at q).epoch) × Says q (c.at q) (dead q) e k.note.state
  told_says c dead i e q t k = subst (λ l. (l ≤ (c.at q).epoch) × Says q (c.at q) (dead q) l k.note.state) k.of_life ((i.each q).notes k.which k.note k.found k.of_element)

  by_answers : (c : Core) (dead : ℕ → Bool) (e : ℕ) (o : Option (List Seen)) → Inv c dead → own < e → c.decided e ≡ None → ((ss : List Seen) → o ≡ Some ss → Told c.notes e parts ss) → Inv (decides_by c e o) dead
  by_answers c dead e None i above none told = i
  by_answers c dead e (Some ss) i above none told =
      let t = told ss refl in
      decide_keeps c dead e (decision_by ss) i none (omega arith)
      (λ q _ m. (told_says c dead i e q (λ _. true) (every_note c.notes e (λ _. true) parts ss t (every_true ss) q m)).0)
      (λ q h m. ⊎_elim (λ k.
      let r = any_note c.notes e is_completed parts ss t k in
      let g = (i.each r.0).completed (says_completed r.0 e (c.at r.0) (dead r.0) r.2.note.state r.2.test (told_says c dead i e r.0 is_completed r.2).1) in
      ((i.each q).prepared_all g.0 g.1 m, (i.each q).alive_all g.0 g.1 m))
      (λ k.
      let r = every_note c.notes e is_prepared parts ss t k q m in
      let s = says_prepared q e (c.at q) (dead q) r.note.state r.test (told_says c dead i e q is_prepared r).1 in
      (s.0, s.1 above))
      (pick_complete (any is_completed ss) (any is_aborted ss) (every is_prepared ss) h))
      (λ h l.
      let r = any_note c.notes e bad parts ss t (decide_bad ss h) in
      bad_doomed c dead i e r.0 r.2.note.state l r.1 r.2.test (told_says c dead i e r.0 bad r.2).1)

  give_up_keeps : (c : Core) (dead : ℕ → Bool) → Inv c dead → c.decided own ≡ None → Inv (decides c own Abort) dead
  give_up_keeps c dead i none = decide_keeps c dead own Abort i none (omega arith) (λ q l m. absurd (omega arith)) (λ q h m. cc) (λ _ l. absurd (omega arith))

  commit_if : (c : Core) (dead : ℕ → Bool) (ss : List Seen) (b : Bool) → Inv c dead → c.decided own ≡ None → Told c.notes own parts ss → every is_prepared ss ≡ b → Inv (cond b (decides c own Complete) c) dead
  commit_if c dead ss false i none t e = i
  commit_if c dead ss true i none t e =
      decide_keeps c dead own Complete i none (omega arith) (λ q l m. absurd (omega arith))
      (λ q h m.
      let r = every_note c.notes own is_prepared parts ss t e q m in
      let s = says_prepared q own (c.at q) (dead q) r.note.state r.test (told_says c dead i own q is_prepared r).1 in
      (s.0, not_true (dead q) (λ k. not_none (c.decided own) Abort none ((i.each q).undone k s.0))))
      (λ h l. absurd (omega arith))

  by_commit : (c : Core) (dead : ℕ → Bool) (o : Option (List Seen)) → Inv c dead → c.decided own ≡ None → ((ss : List Seen) → o ≡ Some ss → Told c.notes own parts ss) → Inv (commits_by c own o) dead
  by_commit c dead None i none told = i
  by_commit c dead (Some ss) i none told = commit_if c dead ss (every is_prepared ss) i none (told ss refl) refl

  guard : (b : Bool) (x y : Core) → (b ≡ true → Good x) → Good y → Good (cond b x y)
  guard true x y h g = h refl
  guard false x y h g = g

  at_or_above : (m n : ℕ) → m ≤ n → (n ≡ m) ⊎ (m < n)
  at_or_above m n h = grind arith

  lt_of : (m n : ℕ) → nat_lt m n ≡ true → m < n
  lt_of m n h = grind arith

  not_lt : (m n : ℕ) → nat_lt m n ≡ false → m < n → ⊥
  not_lt m n h l = grind arith

  above_both : (a b : Bool) (m e : ℕ) → nat_lt m e ≡ a → ((m < e) × (b ≡ true)) ⊎ (m < e → b ≡ true → ⊥)
  above_both true true m e h = inl (lt_of m e h, refl)
  above_both true false m e h = inr (λ _ k. cc)
  above_both false b m e h = inr (λ l _. not_lt m e h l)

  above_and : (m e p : ℕ) → ((m < e) × (among p parts ≡ true)) ⊎ (m < e → among p parts ≡ true → ⊥)
  above_and m e p = above_both (nat_lt m e) (among p parts) m e refl

  settles : (c : Core) (dead : ℕ → Bool) (p : ℕ) (o : Option Decision) → Inv c dead → among p parts ≡ true → c.decided (c.at p).epoch ≡ o → Good (settles_by c p o)
  settles c dead p None i m e = (dead, i)
  settles c dead p (Some Complete) i m e = (put dead p (dead p), settle_plain c dead p Complete i e (λ h. cc))
  settles c dead p (Some Abort) i m e =
      let low : own ≤ (c.at p).epoch = i.least (c.at p).epoch Abort e in
      ⊎_elim (λ h. (put dead p true, settle_own c dead p i m e h)) (λ h. (put dead p (dead p), settle_plain c dead p Abort i e (λ _. i.refused (c.at p).epoch e h))) (at_or_above own (c.at p).epoch low)

  differs_completed : {s : Seen} → s ≡ Absent → s ≡ Completed → ⊥
  differs_completed e h = cc

  differs_aborted : {s : Seen} → s ≡ Absent → s ≡ Aborted → ⊥
  differs_aborted e h = cc

  differs_started : {s : Seen} → s ≡ Absent → s ≡ Started → ⊥
  differs_started e h = cc

  started_completed : {s : Seen} → s ≡ Started → s ≡ Completed → ⊥
  started_completed e h = cc

  started_aborted : {s : Seen} → s ≡ Started → s ≡ Aborted → ⊥
  started_aborted e h = cc

  raises : (c : Core) (dead : ℕ → Bool) (p e : ℕ) → Inv c dead → (c.at p).epoch < e → Good (changed c p (record { epoch = e; state = raised (c.at p).state; prepared = (c.at p).prepared }))
  raises c dead p e i less =
      let f = i.each p in
      ⊎_elim (λ was. ⊎_elim (λ k. (put dead p true, raise_dead c dead p e i less k.0 k.1 (λ h. (f.late h).0 was) (λ h. differs_completed was h) (λ h. differs_aborted was h)))
      (λ k. (put dead p (dead p), raise_plain c dead p e i less (λ h. differs_started was h) (λ _ l m. absurd (k l m)))) (above_and own e p))
      (⊎_elim (λ was.
      let here : (c.at p).epoch ≡ own = (f.started was).0 in
      (put dead p true, raise_dead c dead p e i less (omega arith) (f.started was).1 (λ h. (f.late h).1 was) (λ h. started_completed was h) (λ h. started_aborted was h)))
      (λ k. (put dead p (dead p), raise_plain c dead p e i less k.1 (λ h. absurd (k.0 h)))))
      (not_early (c.at p).state)

  happens_keeps : (c : Core) (m : Move) → Good c → Good (moved own parts c m)
  happens_keeps c (Raise p e) g = guard (nat_lt (c.at p).epoch e) _ c (λ t. raises c g.0 p e g.1 (lt_of _ _ t)) g
  happens_keeps c (Open p) g =
      guard (among p parts && ((c.at p).epoch == own && is_absent (c.at p).state)) _ c (λ t.
      let u = both_second (among p parts) _ t in
      (put g.0 p (g.0 p), open_keeps c g.0 p g.1 (both_first (among p parts) _ t) (eqb-true _ _ (both_first ((c.at p).epoch == own) _ u)) (was_absent _ (both_second ((c.at p).epoch == own) _ u)))) g
  happens_keeps c (Fail p) g = guard (is_started (c.at p).state) _ c (λ t. (put g.0 p true, fail_keeps c g.0 p g.1 (was_started _ t))) g
  happens_keeps c (Prepare p) g = guard ((c.at p).epoch == own && is_started (c.at p).state) _ c (λ t. (put g.0 p (g.0 p), prepare_keeps c g.0 p g.1 (was_started _ (both_second ((c.at p).epoch == own) _ t)))) g
  happens_keeps c (Tell p) g = (g.0, tell_keeps c g.0 p g.1)
  happens_keeps c (Decide e which) g =
      guard (nat_lt own e && is_none (c.decided e)) _ c (λ t. (
        g.0,
        by_answers c g.0 e (answers e c.notes parts which) g.1 (lt_of _ _ (both_first (nat_lt own e) _ t)) (was_none _ (both_second (nat_lt own e) _ t))
            (answers_told c.notes e parts which),
      )) g
  happens_keeps c Give_up g = guard (is_none (c.decided own)) _ c (λ t. (g.0, give_up_keeps c g.0 g.1 (was_none _ t))) g
  happens_keeps c (Commit which) g = guard (is_none (c.decided own)) _ c (λ t. (g.0, by_commit c g.0 (answers own c.notes parts which) g.1 (was_none _ t) (answers_told c.notes own parts which))) g
  happens_keeps c (Settle p) g = guard (among p parts) _ c (λ t. settles c g.0 p (c.decided (c.at p).epoch) g.1 t refl) g

  start_fine : (p : ℕ) → Fine (λ _. None) [] (Doomed (λ _. false)) p (record { epoch = 0; state = Absent; prepared = false }) false
  start_fine p = record {
    reach = λ e d h. cc;
    prepared_all = λ f h. cc;
    alive_all = λ f h. cc;
    aborted = λ h. cc;
    completed = λ h. cc;
    late = λ h. cc;
    undone = λ h. cc;
    started = λ h. cc;
    absent = λ _ l. absurd (omega arith);
    gone = λ h. cc;
    ready = λ h. cc;
    notes = λ w n h. cc;
  }

  start_good : Good start
  start_good = (λ _. false, record { least = λ e d h. cc; refused = λ e h. cc; each = start_fine })

  run_good : (ms : List Move) (c : Core) → Good c → Good (moves own parts ms c)
  run_good [] c g = g
  run_good (m ∷ ms) c g = run_good ms (moved own parts c m) (happens_keeps c m g)

  pub agree : (ms : List Move) (p q : ℕ) → ((moves own parts ms start).at p).state ≡ Completed → ((moves own parts ms start).at q).state ≡ Aborted → ⊥
  agree ms p q h k = let g = run_good ms start start_good in agrees (moves own parts ms start) g.0 g.1 p q h k

  pub ready : (ms : List Move) (p q : ℕ) → ((moves own parts ms start).at p).state ≡ Completed → among q parts ≡ true → ((moves own parts ms start).at q).prepared ≡ true
  ready ms p q h m = let g = run_good ms start start_good in had_prepared (moves own parts ms start) g.0 g.1 p q h m

  -- a life above the transaction's own decides only once all participants have reached it
  pub reached : (ms : List Move) (p e : ℕ) (d : Decision) → (moves own parts ms start).decided e ≡ Some d → own < e → among p parts ≡ true → e ≤ ((moves own parts ms start).at p).epoch
  reached ms p e d h l m = let g = run_good ms start start_good in (g.1.each p).reach e d h l m

  -- to complete is decided only once all participants have prepared
  pub all_had_prepared : (ms : List Move) (p e : ℕ) → (moves own parts ms start).decided e ≡ Some Complete → among p parts ≡ true → ((moves own parts ms start).at p).prepared ≡ true
  all_had_prepared ms p e h m = let g = run_good ms start start_good in (g.1.each p).prepared_all e h m

  -- what is started is at the transaction's own epoch
  pub started_own : (ms : List Move) (p : ℕ) → ((moves own parts ms start).at p).state ≡ Started → ((moves own parts ms start).at p).epoch ≡ own
  started_own ms p h = let g = run_good ms start start_good in ((g.1.each p).started h).0

  -- once any life has decided to complete, no later life decides to abort
  pub later_complete : (ms : List Move) (f e : ℕ) → (moves own parts ms start).decided f ≡ Some Complete → (moves own parts ms start).decided e ≡ Some Abort → own < e → ⊥
  later_complete ms f e h k l =
      let g = run_good ms start start_good in
      let r = g.1.refused e k l in
      let no : true ≡ false = sym r.2 ∙ (g.1.each r.0).alive_all f h r.1 in cc

  -- no note at an element is of a life above its epoch
  pub notes_low : (ms : List Move) (p w : ℕ) (n : Note) → slice_get (moves own parts ms start).notes w ≡ Some n → n.element ≡ p → n.life ≤ ((moves own parts ms start).at p).epoch
  notes_low ms p w n i e = let g = run_good ms start start_good in ((g.1.each p).notes w n i e).0
