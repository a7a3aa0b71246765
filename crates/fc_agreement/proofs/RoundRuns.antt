-- A clean round, message by message, until none is left.
use Rattle.std.proofs.Common.{◌≡◌, ℕ, zero, suc, ◌+◌, ◌<◌, ◌≤◌, ◌==◌, ◌&&◌, ◌||◌, not, Bool, true, false, cond, List, [], ◌∷◌, ◌++◌, append_assoc, slice_get, length, Option, Some, None, inl, inr, ⊎_elim, refl, sym, ap, ◌∙◌, subst, arith, eqb-true, eq-eqb}
use Rattle.std.proofs.Math.Path.{fun_ext}
use Rattle.fc_agreement.specs.CleanRound.{spoken_count, is_notice, Smooth, arrive}
use Rattle.fc_protocol.specs.Collections.{among, put}
use Rattle.fc_protocol.specs.ElementMachine.{Circumstance}
use Rattle.fc_protocol.specs.MasterMachine.{Master}
use Rattle.fc_protocol.specs.Messages.{Message, Setup, Beat, Request, Reply, Holds, Tells, Unread, Other_up, Other_down, Sent, sent}
use Rattle.fc_protocol.specs.WorldSteps.{World, Deliver, speaks, with_master, to_master, delivered, delivers, numbered, happens}
use Rattle.fc_protocol.specs.Scopes.{Scope}
use Rattle.fc_protocol.proofs.Puts.{put_keep}
use Rattle.fc_protocol.proofs.Basics.{both}
use Rattle.fc_agreement.proofs.Calm.{CalmWorld, LifeCalm, calm_finishes}
use Rattle.fc_agreement.proofs.Round.{Phase, Asking, Told, Ready, Ending, Ended, Done, flies, left, Ground, message_of, Going}
use Rattle.fc_agreement.proofs.RoundElements.{Arrives, Next, asked, ended}
use Rattle.fc_agreement.proofs.RoundMasters.{told, settles}
use Rattle.fc_agreement.proofs.Sends.{busy}

was_notice : (t : Message) → is_notice t ≡ true → t ≡ Other_up
was_notice Setup e = cc
was_notice Beat e = cc
was_notice (Request s b) e = cc
was_notice (Reply s c) e = cc
was_notice (Holds s e ns) i = cc
was_notice (Tells s z e t) i = cc
was_notice (Unread s e) i = cc
was_notice Other_up e = refl
was_notice Other_down e = cc

none_after : {A : Type 0} (xs : List A) → xs ++ [] ≡ xs
none_after [] = refl
none_after (x ∷ xs) = ap (λ v. x ∷ v) (none_after xs)

put_same : {A : Type 0} (f : ℕ → A) (p : ℕ) (v : A) → f p ≡ v → put f p v ≡ f
put_same f p v e = fun_ext (λ q. put_keep f p v q (f q) refl (λ i. sym e ∙ ap f (sym i)))

-- a calm master that hears what it ignores changes nothing
same_world : (v : World) (j : ℕ) (m : Master) → v.masters j ≡ Some m → with_master v j m (v.sent ++ [] ++ []) ≡ v
same_world v j m e =
    ap (λ (f : ℕ → Option Master). record { network = v.network; at = v.at; masters = f; sent = v.sent ++ [] ++ []; used = v.used; facts = v.facts; begun = v.begun }) (put_same v.masters j (Some m) e)
    ∙ ap (λ ss. record { network = v.network; at = v.at; masters = v.masters; sent = ss; used = v.used; facts = v.facts; begun = v.begun }) (none_after (v.sent ++ []) ∙ none_after v.sent)

ignored : (v : World) (p j : ℕ) (o : Option Master) → v.masters j ≡ o → LifeCalm o → to_master v p j Other_up o ≡ v
ignored v p j None e c = refl
ignored v p j (Some m) e c = ap (speaks v j []) (calm_finishes j m c) ∙ same_world v j m e

pub notice_arrives : (v : World) (c : Circumstance) (i : ℕ) (s : Sent) → CalmWorld v → numbered v.sent i ≡ Some s → is_notice s.message ≡ true → happens v (Deliver i c) ≡ v
notice_arrives v c i s calm n e =
    ap (delivers v c) n ∙ ap (delivered v c s.element s.controller) (was_notice s.message e) ∙ ignored v s.element s.controller (v.masters s.controller) refl (calm s.controller)

get_at : (before : List Sent) (s : Sent) (rest : List Sent) (n : ℕ) → length before ≡ n → slice_get (before ++ s ∷ rest) n ≡ Some s
get_at [] s rest zero e = refl
get_at [] s rest (suc n) e = absurd (omega arith)
get_at (b ∷ before) s rest zero e = absurd (omega arith)
get_at (b ∷ before) s rest (suc n) e = get_at before s rest n (omega arith)

number_at : (ss : List Sent) (n i : ℕ) → i ≡ n + 1 → numbered ss i ≡ slice_get ss n
number_at ss n i e = let f : i ≡ suc n = omega arith in subst (λ j. numbered ss j ≡ slice_get ss n) (sym f) refl

-- a sum over the participants
abbrev pub total : (ℕ → ℕ) → List ℕ → ℕ
total f [] = 0
total f (p ∷ ps) = f p + total f ps

or_here : (a b : Bool) → a ≡ true → (a || b) ≡ true
or_here true b e = refl
or_here false b e = cc

or_there : (a b : Bool) → b ≡ true → (a || b) ≡ true
or_there true b e = refl
or_there false b e = e

or_rest : (a b : Bool) → a ≡ false → (a || b) ≡ true → b ≡ true
or_rest true b e f = cc
or_rest false b e f = f

-- no participant stands twice
abbrev pub Once : List ℕ → Type 0
Once [] = Unit {0}
Once (p ∷ ps) = (among p ps ≡ false) × Once ps

total_same : (f g : ℕ → ℕ) (ps : List ℕ) → ((q : ℕ) → among q ps ≡ true → g q ≡ f q) → total g ps ≡ total f ps
total_same f g [] h = refl
total_same f g (p ∷ ps) h =
    let a : g p ≡ f p = h p (or_here (p == p) (among p ps) (eq-eqb p p refl)) in
    let b : total g ps ≡ total f ps = total_same f g ps (λ q e. h q (or_there (q == p) (among q ps) e)) in omega arith

differ : (q p : ℕ) (ps : List ℕ) → among p ps ≡ false → among q ps ≡ true → (q == p) ≡ false
differ q p ps n e = ⊎_elim (λ t. let z : true ≡ false = sym e ∙ ap (λ v. among v ps) (eqb-true q p t) ∙ n in cc) (λ t. t) (both (q == p))

total_less : (f g : ℕ → ℕ) (ps : List ℕ) (p : ℕ) → Once ps → ((q : ℕ) → among q ps ≡ true → (q == p) ≡ false → g q ≡ f q) → among p ps ≡ true → g p + 1 ≡ f p → total g ps + 1 ≡ total f ps
total_less f g [] p o h a l = cc
total_less f g (n ∷ ps) p o h a l =
    ⊎_elim (λ u.
    let e : p ≡ n = eqb-true p n u in
    let s : g n + 1 ≡ f n = subst (λ v. g v + 1 ≡ f v) e l in
    let b : total g ps ≡ total f ps = total_same f g ps (λ q i. h q (or_there (q == n) (among q ps) i) (ap (λ v. q == v) e ∙ differ q n ps o.0 i)) in omega arith)
    (λ u.
    let s : g n ≡ f n = h n (or_here (n == n) (among n ps) (eq-eqb n n refl)) (turned n p u) in
    let b : total g ps + 1 ≡ total f ps = total_less f g ps p o.1 (λ q i. h q (or_there (q == n) (among q ps) i)) (or_rest (p == n) (among p ps) u a) l in omega arith)
    (both (p == n))
  where
    turned : (n p : ℕ) → (p == n) ≡ false → (n == p) ≡ false
    turned n p e = ⊎_elim (λ t. let z : true ≡ false = sym (eq-eqb p n (sym (eqb-true n p t))) ∙ e in cc) (λ t. t) (both (n == p))

module _ (w : World) (k : ℕ) (m : Master) (ps : List ℕ) (changes : ℕ → ℕ) (scopes : ℕ → Scope) where
  -- a message of p arrives
  pub by_phase : (v : World) (before : List Sent) (s : Sent) (rest : List Sent) (ph : ℕ → Phase) (i : ℕ) (c : Circumstance) → Arrives w k m ps changes scopes v i c before s rest ph → (p : ℕ) → among p ps ≡ true → (h : Phase) → ph p ≡ h → flies h ≡ true → s ≡ sent p k (message_of w k m ps changes scopes p h)
      → Next w k m ps changes scopes (happens v (Deliver i c)) (before ++ s ∷ []) s ph
  by_phase v before s rest ph i c z p a (Asking d) e f x = asked w k m ps changes scopes v i c before s rest ph z p a d e x
  by_phase v before s rest ph i c z p a (Told d) e f x = told w k m ps changes scopes v i c before s rest ph z p a d e x
  by_phase v before s rest ph i c z p a Ready e f x = cc
  by_phase v before s rest ph i c z p a Ending e f x = ended w k m ps changes scopes v i c before s rest ph z p a e x
  by_phase v before s rest ph i c z p a Ended e f x = settles w k m ps changes scopes v i c before s rest ph z p a e x
  by_phase v before s rest ph i c z p a Done e f x = cc

  -- the first message of the queue has this number
  pub number_of : (v : World) (before : List Sent) (s : Sent) (rest : List Sent) (ph : ℕ → Phase) (i : ℕ) → Going w k m ps changes scopes v before (s ∷ rest) ph → i ≡ length before + 1 → numbered v.sent i ≡ Some s
  number_of v before s rest ph i g e = number_at v.sent (length before) i e ∙ ap (λ ss. slice_get ss (length before)) g.sent ∙ get_at before s rest (length before) refl

-- The round of anything whose world is seen, as of a world itself: the message of a number arrives there, and what is kept beside the round stays
module _ (w : World) (k : ℕ) (m : Master) (ps : List ℕ) (changes : ℕ → ℕ) (scopes : ℕ → Scope) (ground : Ground w k m ps changes scopes) (one : Once ps) {S : Type 0} (seen : S → World) (next : S → ℕ → S) (Kept : S → List Sent → List Sent → Type 0) where
  -- a notice changes nothing
  abbrev pub Passes : Type 0
  Passes = (v : S) (before : List Sent) (s : Sent) (rest : List Sent) (ph : ℕ → Phase) (i : ℕ) → Going w k m ps changes scopes (seen v) before (s ∷ rest) ph → Kept v before (s ∷ rest) → i ≡ length before + 1 → is_notice s.message ≡ true
      → (seen (next v i) ≡ seen v) × Kept (next v i) (before ++ s ∷ []) rest

  -- a message of a participant is a step of the round
  abbrev pub Steps : Type 0
  Steps = (v : S) (before : List Sent) (s : Sent) (rest : List Sent) (ph : ℕ → Phase) (i : ℕ) → Going w k m ps changes scopes (seen v) before (s ∷ rest) ph → Kept v before (s ∷ rest) → i ≡ length before + 1
      → (among s.element ps ≡ true) × (flies (ph s.element) ≡ true) × (s ≡ sent s.element k (message_of w k m ps changes scopes s.element (ph s.element)))
      → (n : Next w k m ps changes scopes (seen (next v i)) (before ++ s ∷ []) s ph) × Kept (next v i) (before ++ s ∷ []) n.after

  -- so many messages have arrived
  abbrev pub arrived : ℕ → ℕ → S → S
  arrived i zero v = v
  arrived i (suc n) v = arrived (i + 1) n (next v i)

  abbrev pub left_at : (ℕ → Phase) → ℕ → ℕ
  left_at ph q = left w k m ps changes scopes q (ph q)

  -- the world once no message is left
  pub record Over (v : S) (before : List Sent) (ph : ℕ → Phase) (i : ℕ) : Type 0 where
    pub since : List Sent
    pub phase : ℕ → Phase
    pub going : Going w k m ps changes scopes (seen (arrived i (length since) v)) (before ++ since) [] phase
    pub count : spoken_count since + total (left_at phase) ps ≡ total (left_at ph) ps

  module _ (passes : Passes) (steps : Steps) where
    length_one : (before : List Sent) (s : Sent) → length (before ++ s ∷ []) ≡ length before + 1
    length_one [] s = refl
    length_one (b ∷ before) s = let e : length (before ++ s ∷ []) ≡ length before + 1 = length_one before s in omega arith

    more_length : (n i : ℕ) (v : S) → arrived i (n + 1) v ≡ arrived (i + 1) n (next v i)
    more_length n i v = let e : n + 1 ≡ suc n = omega arith in ap (λ o. arrived i o v) e

    -- one more message has arrived
    over_more : (v : S) (before : List Sent) (s : Sent) (ph h : ℕ → Phase) (i : ℕ) → cond (is_notice s.message) 0 1 + total (left_at h) ps ≡ total (left_at ph) ps → Over (next v i) (before ++ s ∷ []) h (i + 1) → Over v before ph i
    over_more v before s ph h i e o = record {
      since = s ∷ o.since;
      phase = o.phase;
      going = subst (λ z. Going w k m ps changes scopes z (before ++ s ∷ o.since) [] o.phase) (sym (let l : length (s ∷ o.since) ≡ length o.since + 1 = omega arith in ap (λ n. seen (arrived i n v)) l ∙ ap seen (more_length (length o.since) i v)))
          (subst (λ z. Going w k m ps changes scopes (seen (arrived (i + 1) (length o.since) (next v i))) z [] o.phase) (append_assoc before (s ∷ []) o.since) o.going);
      count = let c : spoken_count o.since + total (left_at o.phase) ps ≡ total (left_at h) ps = o.count in omega arith;
    }

    notice_count : (q : ℕ) (s : Sent) (rest : List Sent) → is_notice s.message ≡ true → busy q (s ∷ rest) ≡ busy q rest
    notice_count q s rest e = ap (λ b. cond (q == s.element && not b) 1 0 + busy q rest) e ∙ no_more (q == s.element) (busy q rest)
      where
        no_more : (b : Bool) (n : ℕ) → cond (b && false) 1 0 + n ≡ n
        no_more true n = omega arith
        no_more false n = omega arith

    -- a notice has arrived, and nothing has changed
    pub passed : (v : World) (before : List Sent) (s : Sent) (rest : List Sent) (ph : ℕ → Phase) → Going w k m ps changes scopes v before (s ∷ rest) ph → is_notice s.message ≡ true → Going w k m ps changes scopes v (before ++ s ∷ []) rest ph
    passed v before s rest ph g e = record {
      sent = g.sent ∙ sym (append_assoc before (s ∷ []) rest);
      network = g.network;
      calm = g.calm;
      now = g.now;
      runs = g.runs;
      epoch = g.epoch;
      elements = g.elements;
      deposed = g.deposed;
      job = g.job;
      jobs = g.jobs;
      txn = g.txn;
      mine = g.mine;
      parts = g.parts;
      changed = g.changed;
      others = g.others;
      peers = g.peers;
      job_in = g.job_in;
      stand = g.stand;
      mode = g.mode;
      queue = record { each = λ t i. g.queue.each t (inr i); count = λ q a. sym (notice_count q s rest e) ∙ g.queue.count q a };
    }

    -- with so many deliveries left, whatever notices stand between
    abbrev Walks : ℕ → Type 0
    Walks n = (v : S) (before after : List Sent) (ph : ℕ → Phase) (i : ℕ) → Going w k m ps changes scopes (seen v) before after ph → Kept v before after → i ≡ length before + 1 → total (left_at ph) ps ≤ n → Over v before ph i

    abbrev Below : ℕ → Type 0
    Below n = (o : ℕ) → o < n → Walks o

    walk_on : (n : ℕ) → Below n → (after : List Sent) (v : S) (before : List Sent) (ph : ℕ → Phase) (i : ℕ) → Going w k m ps changes scopes (seen v) before after ph → Kept v before after → i ≡ length before + 1 → total (left_at ph) ps ≤ n → Over v before ph i
    walk_on n r [] v before ph i g z e l = record { since = []; phase = ph; going = subst (λ b. Going w k m ps changes scopes (seen v) b [] ph) (sym (none_after before)) g; count = omega arith }
    walk_on n r (s ∷ rest) v before ph i g z e l =
        ⊎_elim (λ u.
        let t = passes v before s rest ph i g z e u in
        over_more v before s ph ph i (ap (λ b. cond b 0 1 + total (left_at ph) ps) u ∙ no_count (total (left_at ph) ps))
        (walk_on n r rest (next v i) (before ++ s ∷ []) ph (i + 1) (subst (λ b. Going w k m ps changes scopes b (before ++ s ∷ []) rest ph) (sym t.0) (passed (seen v) before s rest ph g u)) t.1 (let c : length (before ++ s ∷ []) ≡ length before + 1 = length_one before s in omega arith) l))
        (λ u.
        let y = steps v before s rest ph i g z e u in
        let t = y.0 in
        let less : total (left_at t.phase) ps + 1 ≡ total (left_at ph) ps = total_less (left_at ph) (left_at t.phase) ps t.who one t.rest t.part t.less in
        over_more v before s ph t.phase i (ap (λ b. cond b 0 1 + total (left_at t.phase) ps) t.spoken ∙ (omega arith))
        (r (total (left_at t.phase) ps) (omega arith) (next v i) (before ++ s ∷ []) t.after t.phase (i + 1) t.going y.1 (let c : length (before ++ s ∷ []) ≡ length before + 1 = length_one before s in omega arith) (omega arith)))
        (g.queue.each s (inl refl))
      where
        no_count : (n : ℕ) → 0 + n ≡ n
        no_count n = omega arith

    below : (n : ℕ) → Below n
    below zero o l = absurd (omega arith)
    below (suc n) o l = λ v before after ph i g z e t. walk_on o (λ q u. below n q (omega arith)) after v before ph i g z e t

    pub walks : (v : S) (before after : List Sent) (ph : ℕ → Phase) (i : ℕ) → Going w k m ps changes scopes (seen v) before after ph → Kept v before after → i ≡ length before + 1 → Over v before ph i
    walks v before after ph i g z e = below (suc (total (left_at ph) ps)) (total (left_at ph) ps) (omega arith) v before after ph i g z e (omega arith)

-- of a world, where all is smooth
module _ (w : World) (k : ℕ) (m : Master) (ps : List ℕ) (changes : ℕ → ℕ) (scopes : ℕ → Scope) (ground : Ground w k m ps changes scopes) (one : Once ps) (cs : ℕ → Circumstance) (smooth : (i : ℕ) → Smooth (cs i)) where
  abbrev pub next_world : World → ℕ → World
  next_world v i = happens v (Deliver i (cs i))

  abbrev pub no_more : World → List Sent → List Sent → Type 0
  no_more v before after = Unit {0}

  pub world_passes : Passes w k m ps changes scopes ground one (λ (v : World). v) next_world no_more
  world_passes v before s rest ph i g z e u = (notice_arrives v (cs i) i s g.calm (number_of w k m ps changes scopes v before s rest ph i g e) u, tt)

  pub world_steps : Steps w k m ps changes scopes ground one (λ (v : World). v) next_world no_more
  world_steps v before s rest ph i g z e u =
      (by_phase w k m ps changes scopes v before s rest ph i (cs i) (record { ground = ground; going = g; smooth = smooth i; number = number_of w k m ps changes scopes v before s rest ph i g e }) s.element u.0 (ph s.element) refl u.1 u.2, tt)

  pub arrived_is : (n i : ℕ) (v : World) → arrived w k m ps changes scopes ground one (λ (u : World). u) next_world no_more i n v ≡ arrive cs i n v
  arrived_is zero i v = refl
  arrived_is (suc n) i v = arrived_is n (i + 1) (next_world v i)
