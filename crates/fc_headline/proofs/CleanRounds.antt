-- A clean round in a world of whole elements: it goes as the protocol's, since each message meets an element that is as the round needs it.
use Rattle.std.proofs.Common.{◌≡◌, ℕ, zero, suc, ◌+◌, ◌≤◌, ◌==◌, nat_le, Bool, true, false, cond, List, [], ◌∷◌, ◌++◌, append_assoc, append-nil, length, slice_get, Option, Some, None, option_map, inl, inr, ⊎_elim, refl, sym, ap, ◌∙◌, subst, arith, eqb-true, eq-eqb}
use Rattle.std.proofs.Math.Path.{fun_ext}
use Rattle.std.specs.FinMap.{contains_key, get}
use Rattle.fc_base.specs.Ids.{Txn}
use Rattle.fc_modes.specs.declared.mode.Mode.TheVariants.{AllOrNone}
use Rattle.fc_agreement.specs.CleanRound.{Smooth, Able, Completes as BareCompletes, is_notice, spoken_count, round_count}
use Rattle.fc_agreement.proofs.Round.{Phase, Asking, Told, Ready, Ending, Ended, Done, flies, Ground as Grounded, Going, Stands, message_of, body}
use Rattle.fc_agreement.proofs.RoundElements.{Next}
use Rattle.fc_agreement.proofs.RoundRuns.{Once, Passes, Steps, arrived, by_phase, number_of, notice_arrives}
use Rattle.fc_agreement.proofs.RoundStart.{ground, once, round}
use Rattle.fc_agreement.proofs.Taking.{at_count, judge_next}
use Rattle.fc_headline.specs.CleanRound.{IdleFor, MayBegin, delivers_from, Completes, CleanRound}
use Rattle.fc_headline.proofs.Folded.{new_folds}
use Rattle.fc_headline.proofs.Likes.{viewed_append, as_sent, Like, Likes, AllGood, sender_same, request_at, delivers_like, begin_like, run_likes, first_likes}
use Rattle.fc_headline.proofs.Served.{still_there, outs_spelled, Served, Serves, smooth_of, takes_is, circumstance_is, sot_serves, mot_serves, eot_serves, trcomp_serves}
use Rattle.fc_headline.proofs.Worlds.{in_whole, AllFold, run_all}
use Rattle.fc_machine.specs.ElementMachine.{Arrived, Step as MachineStep, acts, heard_from, step, takes}
use Rattle.fc_machine.specs.ElementState.{Element, bares, tx}
use Rattle.fc_machine.specs.Ground.{Ground, Lawful}
use Rattle.fc_machine.specs.Messages.{Configuring, Ask_held, Ask_one, Ask_other, Told_held, Told_one, Told_unread, Told_other, Message, Setup, Beat, Response, Says, Notice, Accepted, Teardown, Beat_down, Query, Configure}
use Rattle.fc_machine.specs.Trace.{bare_facts}
use Rattle.fc_machine.specs.Views.{config_body, view, peers_of, circumstance_of}
use Rattle.fc_machine.specs.Transactions.{executes}
use Rattle.fc_machine.specs.WorldSteps.{Parcel, is_down, Spoke, Masters, World, Step, Deliver, Begin, first_world, parcels, numbered, sender, with_step, with_spoke, with_begun, to_master, delivers, begin_at, begun_by, happens, run, viewed, MastersFit, Fitting, SpelledAs, SpelledMessage, Spelled, MastersSpell}
use Rattle.fc_protocol.specs.Collections.{among, put}
use Rattle.fc_protocol.specs.ElementMachine.{Circumstance, ElementState, admits, takes_part, rises_above}
use Rattle.fc_protocol.specs.Fence.{judge}
use Rattle.fc_protocol.specs.Jobs.{Job}
use Rattle.fc_protocol.specs.MasterMachine.{Master, begin_refusal, next_txn}
use Rattle.fc_protocol.specs.Messages as said
use Rattle.fc_protocol.specs.Messages.{Stamp, Body, Claim, Sot, Mot, Eot, Trcomp, Abt, Floor, Malformed, Plain, Ask, Ask_record, is_query, claim_of, Request, Reply, Other_up, Other_down, Sent, sent}
use Rattle.fc_protocol.specs.Records.{state_of, clashes, is_packed}
use Rattle.fc_protocol.specs.Scopes.{Scope, is_scope}
use Rattle.fc_protocol.specs.Trace.{Settled_at}
use Rattle.fc_protocol.specs.WorldSteps as steps
use Rattle.fc_protocol.specs.WorldSteps.{Network}
use Rattle.fc_protocol.specs.declared.states.Decision.TheVariants.{Complete}
use Rattle.fc_protocol.specs.declared.states.TxnState.TheVariants.{Started, Completed}
use Rattle.fc_protocol.specs.declared.verdict.Verdict.TheVariants.{Next as IsNext}
use Rattle.fc_protocol.proofs.Basics.{AllOf, all_append, cond_true, cond_false, and_true, both}
use Rattle.fc_protocol.proofs.Puts.{put_here}

-- Messages

config_back : (b t : Body) → config_body b ≡ t → (t ≡ Malformed → ⊥) → b ≡ t
config_back (Claim w) t e n = e
config_back (Sot x ps sc) t e n = e
config_back (Mot x i) t e n = e
config_back (Eot x) t e n = e
config_back (Trcomp x) t e n = e
config_back (Abt x) t e n = e
config_back (Floor f) t e n = e
config_back Malformed t e n = e
config_back Plain t e n = e
config_back Ask t e n = absurd (n (sym e))
config_back (Ask_record x) t e n = absurd (n (sym e))

-- a request that is no Query is a Config
asked_of : {Op : Type 0} (m : Message Op) (s : Stamp) (b : Body) → view m ≡ Request s b → is_query b ≡ false → (c : Configuring Op) × (m ≡ Configure c) × (c.stamp ≡ s) × (config_body c.body ≡ b)
asked_of Setup s b e q = cc
asked_of (Beat true) s b e q = cc
asked_of (Beat false) s b e q = cc
asked_of (Response a) s b e q = cc
asked_of (Says m (Told_held n ns)) s b e q = cc
asked_of (Says m (Told_one x n t)) s b e q = cc
asked_of (Says m (Told_unread n)) s b e q = cc
asked_of (Says m Told_other) s b e q = cc
asked_of (Notice n) s b e q = cc
asked_of (Accepted r) s b e q = cc
asked_of Teardown s b e q = cc
asked_of (Beat_down w) s b e q = cc
asked_of (Query m l a Ask_held) s b e q = let z : Ask ≡ b = cc in let t : true ≡ false = ap is_query z ∙ q in cc
asked_of (Query m l a (Ask_one x)) s b e q = let z : Ask_record x ≡ b = cc in let t : true ≡ false = ap is_query z ∙ q in cc
asked_of (Query m l a Ask_other) s b e q = let z : Ask ≡ b = cc in let t : true ≡ false = ap is_query z ∙ q in cc
asked_of (Configure c) s b e q = (c, refl, cc, cc)

abbrev goes_down : said.Message → Bool
goes_down said.Setup = false
goes_down said.Beat = false
goes_down (Request s b) = true
goes_down (Reply s code) = false
goes_down (said.Holds s e ns) = false
goes_down (said.Tells s x e t) = false
goes_down (said.Unread s e) = false
goes_down Other_up = false
goes_down Other_down = true

goes_up : {Op : Type 0} (m : Message Op) (t : said.Message) → view m ≡ t → goes_down t ≡ false → is_down m ≡ false
goes_up Setup t e d = refl
goes_up (Beat w) t e d = refl
goes_up (Response a) t e d = refl
goes_up (Says m u) t e d = refl
goes_up (Notice n) t e d = refl
goes_up (Accepted r) t e d = let z : true ≡ false = ap goes_down e ∙ d in cc
goes_up Teardown t e d = let z : true ≡ false = ap goes_down e ∙ d in cc
goes_up (Beat_down w) t e d = let z : true ≡ false = ap goes_down e ∙ d in cc
goes_up (Query m l a q) t e d = let z : true ≡ false = ap goes_down e ∙ d in cc
goes_up (Configure c) t e d = let z : true ≡ false = ap goes_down e ∙ d in cc

notice_up : (t : said.Message) → is_notice t ≡ true → goes_down t ≡ false
notice_up said.Setup e = cc
notice_up said.Beat e = cc
notice_up (Request s b) e = cc
notice_up (Reply s code) e = cc
notice_up (said.Holds s n ns) e = cc
notice_up (said.Tells s x n t) e = cc
notice_up (said.Unread s n) e = cc
notice_up Other_up e = refl
notice_up Other_down e = cc

-- Lists

cancel : (xs ys zs : List Sent) → xs ++ ys ≡ xs ++ zs → ys ≡ zs
cancel [] ys zs e = e
cancel (x ∷ xs) ys zs e = cancel xs ys zs cc

none_viewed : {Op : Type 0} (xs : List (Parcel Op)) → viewed xs ≡ [] → xs ≡ []
none_viewed [] e = refl
none_viewed (x ∷ xs) e = cc

length_viewed : {Op : Type 0} (xs : List (Parcel Op)) → length (viewed xs) ≡ length xs
length_viewed [] = refl
length_viewed (x ∷ xs) = ap suc (length_viewed xs)

regroup : {A : Type 0} (xs : List A) (x : A) (ys zs : List A) → (xs ++ x ∷ ys) ++ zs ≡ (xs ++ x ∷ []) ++ (ys ++ zs)
regroup [] x ys zs = refl
regroup (y ∷ xs) x ys zs = ap (λ v. y ∷ v) (regroup xs x ys zs)

there : {A : Type 0} (xs : List A) (x : A) (ys : List A) (n : ℕ) → length xs ≡ n → slice_get (xs ++ x ∷ ys) n ≡ Some x
there [] x ys zero e = refl
there [] x ys (suc n) e = absurd (omega arith)
there (y ∷ xs) x ys zero e = absurd (omega arith)
there (y ∷ xs) x ys (suc n) e = there xs x ys n (omega arith)

numbered_at : {Op : Type 0} (ss : List (Parcel Op)) (n i : ℕ) → i ≡ n + 1 → numbered ss i ≡ slice_get ss n
numbered_at ss n i e = let f : i ≡ suc n = omega arith in subst (λ j. numbered ss j ≡ slice_get ss n) (sym f) refl

parcel_is : {Op : Type 0} (q : Parcel Op) (p k : ℕ) (m : Message Op) → q.element ≡ p → q.controller ≡ k → q.message ≡ m → q ≡ record { element = p; controller = k; message = m }
parcel_is q p k m a b c = ap (λ (v : ℕ). record { element = v; controller = q.controller; message = q.message }) a ∙ ap (λ (v : ℕ). record { element = p; controller = v; message = q.message }) b ∙ ap (λ v. record { element = p; controller = k; message = v }) c

-- the first of what waits
record Head {Op : Type 0} (xs : List (Parcel Op)) (s : Sent) (ss : List Sent) : Type 0 where
  first : Parcel Op
  others : List (Parcel Op)
  whole : xs ≡ first ∷ others
  seen : as_sent first ≡ s
  behind : viewed others ≡ ss

head_of : {Op : Type 0} (xs : List (Parcel Op)) (s : Sent) (ss : List Sent) → viewed xs ≡ s ∷ ss → Head xs s ss
head_of [] s ss e = cc
head_of (x ∷ xs) s ss e = record { first = x; others = xs; whole = refl; seen = cc; behind = cc }

-- a circumstance in which all goes well
abbrev all_well : Circumstance
all_well = record { unheard = false; misfit = 0; quiet = false; rest = 0; shown = 0; plain = 0; touches = []; strange = false; shape = 0; others = [] }

well_smooth : Smooth all_well
well_smooth = record { heard = refl; fits = refl; answers = refl; known = refl; succeeds = refl }

some_one : {A : Type 0} (a b : A) → Some a ≡ Some b → a ≡ b
some_one a b e = cc

put_some : {A : Type 0} (Q : ℕ → A → Type 0) (f : ℕ → A) (p : ℕ) (v : A) (q : ℕ) → (q ≡ p → Q q v) → ((q == p) ≡ false → Q q (f q)) → Q q (put f p v q)
unfolding put
put_some Q f p v q here else_where = by_test (q == p) refl
  where
    by_test : (b : Bool) → (q == p) ≡ b → Q q (cond b v (f q))
    by_test true e = here (eqb-true q p e)
    by_test false e = else_where e

module _ {Config Op Subs M P C : Type 0} (g : Ground Config Op Subs) (ms : Masters Op M P C) where
  -- as the protocol sees a world
  abbrev pub bare_world : World Config Op Subs M → steps.World
  bare_world v = record { network = v.network; at = λ p. tx (v.at p); masters = λ k. option_map ms.core (v.masters k); sent = viewed v.sent; used = v.used; facts = bare_facts v.facts; begun = v.begun }

  like_itself : (v : World Config Op Subs M) → Like g ms v (bare_world v)
  like_itself v = record { network = refl; at = λ p. refl; masters = λ k. refl; sent = refl; used = λ k. refl; facts = refl; begun = refl }

  like_is : (v : World Config Op Subs M) (w : steps.World) → Like g ms v w → bare_world v ≡ w
  like_is v w l =
      ap (λ n. record { network = n; at = λ p. tx (v.at p); masters = λ k. option_map ms.core (v.masters k); sent = viewed v.sent; used = v.used; facts = bare_facts v.facts; begun = v.begun }) l.network
      ∙ ap (λ a. record { network = w.network; at = a; masters = λ k. option_map ms.core (v.masters k); sent = viewed v.sent; used = v.used; facts = bare_facts v.facts; begun = v.begun }) (fun_ext l.at)
      ∙ ap (λ a. record { network = w.network; at = w.at; masters = a; sent = viewed v.sent; used = v.used; facts = bare_facts v.facts; begun = v.begun }) (fun_ext l.masters)
      ∙ ap (λ a. record { network = w.network; at = w.at; masters = w.masters; sent = a; used = v.used; facts = bare_facts v.facts; begun = v.begun }) l.sent
      ∙ ap (λ a. record { network = w.network; at = w.at; masters = w.masters; sent = w.sent; used = a; facts = bare_facts v.facts; begun = v.begun }) (fun_ext l.used)
      ∙ ap (λ a. record { network = w.network; at = w.at; masters = w.masters; sent = w.sent; used = w.used; facts = a; begun = v.begun }) l.facts
      ∙ ap (λ a. record { network = w.network; at = w.at; masters = w.masters; sent = w.sent; used = w.used; facts = w.facts; begun = a }) l.begun

  some_of : (o : Option M) (n : Master) → option_map ms.core o ≡ Some n → (a : M) × (o ≡ Some a)
  some_of None n e = cc
  some_of (Some a) n e = (a, refl)

module _ {Config Op Subs M P C : Type 0} (g : Ground Config Op Subs) (law : Lawful g) (ms : Masters Op M P C) (opening : Config) (Good : M → Type 0) (fit : MastersFit ms Good) (Drives : M → Txn → P → Type 0) (spell : MastersSpell ms Good Drives) (subs : Subs) (net : Network) (script : List (Step P C)) where
  abbrev W : Type 0
  W = World Config Op Subs M

  abbrev pub start : W
  start = run g ms script (first_world opening subs net)

  abbrev bare : W → steps.World
  bare = bare_world g ms

  likes : (ts : List steps.Step) × Likes g ms Good fit start (steps.run ts (steps.first_world net))
  likes = run_likes g ms Good fit script (first_world opening subs net) (steps.first_world net) (first_likes g ms Good fit opening subs net)

  module _ (k : ℕ) (m : M) (plan : P) (p0 : ℕ) (qs : List ℕ) (named : ms.parts plan ≡ p0 ∷ qs) (may : MayBegin g ms start k m plan) where
    abbrev ps : List ℕ
    ps = p0 ∷ qs

    abbrev w : steps.World
    w = steps.run likes.0 (steps.first_world net)

    abbrev c : Master
    c = ms.core m

    abbrev x : Txn
    x = next_txn c

    abbrev counts : ℕ → ℕ
    counts = ms.counts plan

    abbrev scopes : ℕ → Scope
    scopes = ms.scopes plan

    abbrev source : ℕ
    source = sender g ms start k

    like : Like g ms start w
    like = likes.1.like

    good : Good m
    good = likes.1.good k m may.runs

    source_is : source ≡ steps.sender w k
    source_is = sender_same g ms start w k like

    idle_at : (p : ℕ) → among p ps ≡ true → IdleFor g ms start k m plan p
    idle_at p a = may.idle p (subst (λ v. among p v ≡ true) (sym named) a)

    able : Able w k c ps counts scopes
    able = record {
      runs = sym (like.masters k) ∙ ap (option_map ms.core) may.runs;
      may = ap (λ v. begin_refusal c v counts scopes) (sym named) ∙ sym (fit.begins k m plan good).refused ∙ may.may;
      rising = subst (λ v. rises_above 0 v ≡ true) named may.rising;
      scoped = λ p a. (idle_at p a).scoped;
      idle = λ p a. let i = idle_at p a in record {
        epoch = sym (ap (λ (e : ElementState). e.epoch) (like.at p)) ∙ i.epoch;
        master = sym (ap (λ (e : ElementState). e.master) (like.at p)) ∙ i.master ∙ source_is;
        sequence = sym (ap (λ (e : ElementState). e.sequence) (like.at p)) ∙ i.sequence;
        free = sym (ap (λ (e : ElementState). clashes (scopes p) e.records) (like.at p)) ∙ i.free;
        room = sym (ap (λ (e : ElementState). is_packed e.records) (like.at p)) ∙ i.room;
        met = i.met;
        claimed = i.claimed;
        waits = i.waits;
      };
    }

    abbrev base : Grounded w k c ps counts scopes
    base = ground net likes.0 k c p0 qs counts scopes able

    abbrev single : Once ps
    single = once net likes.0 k c p0 qs counts scopes able

    abbrev Goes : steps.World → List Sent → List Sent → (ℕ → Phase) → Type 0
    Goes = Going w k c ps counts scopes

    abbrev next : W → ℕ → W
    next v i = happens g ms v (Deliver i)

    abbrev Spells : Parcel Op → Type 0
    Spells = Spelled x (ms.change plan)

    -- what a participant is beside what the protocol sees of it
    record Has (v : W) (p : ℕ) : Type 0 where
      associated : contains_key (v.at p).associations source ≡ true
      served : Served g x (scopes p) (ms.change plan p) (start.at p).settled (c.at p).last (v.at p).sequence (v.at p).settled (v.at p).records

    -- what is kept beside the round
    record Holds (v : W) (before after : List Sent) : Type 0 where
      all_good : AllGood g ms Good fit v.masters
      folds : AllFold g law ms opening v
      earlier : List (Parcel Op)
      queue : List (Parcel Op)
      split : v.sent ≡ earlier ++ queue
      front : viewed earlier ≡ before
      back : viewed queue ≡ after
      spelled : AllOf Spells queue
      drives : (a : M) → v.masters k ≡ Some a → Drives a x plan
      at : (p : ℕ) → among p ps ≡ true → Has v p

    -- the first message of the queue has gone, and more has come
    holds_on : (v u : W) (before : List Sent) (s : Sent) (rest after : List Sent) (z : Holds v before (s ∷ rest)) (more : List (Parcel Op)) → AllGood g ms Good fit u.masters → AllFold g law ms opening u → u.sent ≡ v.sent ++ more → (bare u).sent ≡ (before ++ s ∷ []) ++ after → AllOf Spells more
        → ((a : M) → u.masters k ≡ Some a → Drives a x plan) → ((p : ℕ) → among p ps ≡ true → Has u p) → Holds u (before ++ s ∷ []) after
    holds_on v u before s rest after z more ag af e f sp dr at =
        let h = head_of z.queue s rest z.back in
        let split : u.sent ≡ (z.earlier ++ h.first ∷ []) ++ (h.others ++ more) = e ∙ ap (λ q. q ++ more) (z.split ∙ ap (λ q. z.earlier ++ q) h.whole) ∙ regroup z.earlier h.first h.others more in
        let front : viewed (z.earlier ++ h.first ∷ []) ≡ before ++ s ∷ [] = viewed_append z.earlier (h.first ∷ []) ∙ ap (λ q. q ++ as_sent h.first ∷ []) z.front ∙ ap (λ q. before ++ q ∷ []) h.seen in
        record {
          all_good = ag;
          folds = af;
          earlier = z.earlier ++ h.first ∷ [];
          queue = h.others ++ more;
          split = split;
          front = front;
          back = cancel (before ++ s ∷ []) (viewed (h.others ++ more)) after (ap (λ q. q ++ viewed (h.others ++ more)) (sym front) ∙ sym (viewed_append (z.earlier ++ h.first ∷ []) (h.others ++ more)) ∙ ap viewed (sym split) ∙ f);
          spelled = all_append Spells h.others more (subst (AllOf Spells) h.whole z.spelled).1 sp;
          drives = dr;
          at = at;
        }

    -- the message of this number
    the_first : (v : W) (before : List Sent) (s : Sent) (rest : List Sent) (z : Holds v before (s ∷ rest)) (i : ℕ) → i ≡ length before + 1 → numbered v.sent i ≡ Some (head_of z.queue s rest z.back).first
    the_first v before s rest z i e =
        let h = head_of z.queue s rest z.back in
        let long : length z.earlier ≡ length before = sym (length_viewed z.earlier) ∙ ap (λ q. length q) z.front in
        numbered_at v.sent (length before) i e ∙ ap (λ q. slice_get q (length before)) (z.split ∙ ap (λ q. z.earlier ++ q) h.whole) ∙ there z.earlier h.first h.others (length before) long

    -- a delivery, as the protocol sees it
    next_seen : (v : W) (before after : List Sent) (z : Holds v before after) (i : ℕ) → (d : Circumstance) × (bare (next v i) ≡ steps.happens (bare v) (steps.Deliver i d))
    next_seen v before after z i =
        let r = delivers_like g ms Good fit v (bare v) i (record { like = like_itself g ms v; good = z.all_good }) in
        (r.0, like_is g ms (next v i) (steps.happens (bare v) (steps.Deliver i r.0)) r.1.like)

    next_good : (v : W) (before after : List Sent) (z : Holds v before after) (i : ℕ) → AllGood g ms Good fit (next v i).masters
    next_good v before after z i = (delivers_like g ms Good fit v (bare v) i (record { like = like_itself g ms v; good = z.all_good })).1.good

    next_folds : (v : W) (before after : List Sent) (z : Holds v before after) (i : ℕ) → AllFold g law ms opening (next v i)
    next_folds v before after z i = run_all g law ms opening (Deliver i ∷ []) v z.folds

    -- Something arrives at a master

    up_is : (v : W) (before : List Sent) (s : Sent) (rest : List Sent) (z : Holds v before (s ∷ rest)) (i : ℕ) → i ≡ length before + 1 → goes_down s.message ≡ false
        → let q = (head_of z.queue s rest z.back).first in next v i ≡ to_master g ms v q.element q.controller q.message (v.masters q.controller)
    up_is v before s rest z i e d =
        let h = head_of z.queue s rest z.back in
        let q = h.first in
        ap (delivers g ms v) (the_first v before s rest z i e) ∙ cond_false (is_down q.message) _ _ (goes_up q.message (view q.message) refl (ap (λ (t : Sent). goes_down t.message) h.seen ∙ d))

    drives_on : (v : W) (j : ℕ) (a b : M) → ((o : M) → v.masters k ≡ Some o → Drives o x plan) → ((o : M) → v.masters k ≡ Some o → k ≡ j → Drives b x plan) → v.masters j ≡ Some a → (o : M) → put v.masters j (Some b) k ≡ Some o → Drives o x plan
    drives_on v j a b dr now r = put_some (λ q (f : Option M). (o : M) → f ≡ Some o → Drives o x plan) v.masters j (Some b) k (λ i o e. subst (λ n. Drives n x plan) (some_one b o e) (now a (ap v.masters i ∙ r) i)) (λ _. dr)

    heard_holds : (v : W) (before : List Sent) (s : Sent) (rest after : List Sent) (z : Holds v before (s ∷ rest)) (p j : ℕ) (t : Message Op) (o : Option M) → v.masters j ≡ o → let u = to_master g ms v p j t o in AllGood g ms Good fit u.masters → AllFold g law ms opening u
        → (bare u).sent ≡ (before ++ s ∷ []) ++ after → ((a : M) → o ≡ Some a → AllOf Spells (ms.hears j a p t).says) → Holds u (before ++ s ∷ []) after
    heard_holds v before s rest after z p j t None r ag af f sp = holds_on v v before s rest after z [] ag af (sym (append-nil v.sent)) f tt z.drives (λ q a. let h = z.at q a in record { associated = h.associated; served = h.served })
    heard_holds v before s rest after z p j t (Some a) r ag af f sp =
        holds_on v (with_spoke g ms v j (ms.hears j a p t)) before s rest after z (ms.hears j a p t).says ag af refl f (sp a refl)
        (drives_on v j a (ms.hears j a p t).master z.drives (λ o e i. (spell.hears j a p t x plan (z.all_good j a r) (z.drives a (ap v.masters i ∙ r))).0) r)
        (λ q b. let h = z.at q b in record { associated = h.associated; served = h.served })

    none_more : (v : W) (p j : ℕ) (t : Message Op) (o : Option M) → viewed (to_master g ms v p j t o).sent ≡ viewed v.sent → (a : M) → o ≡ Some a → (ms.hears j a p t).says ≡ []
    none_more v p j t None e a i = cc
    none_more v p j t (Some b) e a i =
        let r = ms.hears j b p t in
        let n : r.says ≡ [] = none_viewed r.says (cancel (viewed v.sent) (viewed r.says) [] (sym (viewed_append v.sent r.says) ∙ e ∙ sym (append-nil (viewed v.sent)))) in
        subst (λ y. (ms.hears j y p t).says ≡ []) (some_one b a i) n

    passes : Passes w k c ps counts scopes base single bare next Holds
    passes v before s rest ph i y z e u =
        let h = head_of z.queue s rest z.back in
        let q = h.first in
        let d = notice_up s.message u in
        let r = next_seen v before (s ∷ rest) z i in
        let same : bare (next v i) ≡ bare v = r.1 ∙ notice_arrives (bare v) r.0 i s y.calm (number_of w k c ps counts scopes (bare v) before s rest ph i y e) u in
        let up = up_is v before s rest z i e d in
        let sent_same : viewed (to_master g ms v q.element q.controller q.message (v.masters q.controller)).sent ≡ viewed v.sent = ap (λ n. viewed n.sent) (sym up) ∙ ap (λ (n : steps.World). n.sent) same in (
          same,
          subst (λ n. Holds n (before ++ s ∷ []) rest) (sym up)
              (heard_holds v before s rest rest z q.element q.controller q.message (v.masters q.controller) refl (subst (λ n. AllGood g ms Good fit n.masters) up (next_good v before (s ∷ rest) z i)) (subst (AllFold g law ms opening) up (next_folds v before (s ∷ rest) z i))
              (sent_same ∙ y.sent ∙ sym (append_assoc before (s ∷ []) rest)) (λ a n. subst (AllOf Spells) (sym (none_more v q.element q.controller q.message (v.masters q.controller) sent_same a n)) tt)),
        )

    -- A step of the round

    abbrev Result : W → List Sent → Sent → (ℕ → Phase) → ℕ → Type 0
    Result v before s ph i = (n : Next w k c ps counts scopes (bare (next v i)) (before ++ s ∷ []) s ph) × Holds (next v i) (before ++ s ∷ []) n.after

    -- a response reaches its master
    replied : (v : W) (before : List Sent) (s : Sent) (rest : List Sent) (ph : ℕ → Phase) (i : ℕ) (y : Goes (bare v) before (s ∷ rest) ph) (z : Holds v before (s ∷ rest)) → i ≡ length before + 1 → (p : ℕ) → among p ps ≡ true → (h : Phase) → ph p ≡ h → flies h ≡ true
        → (n : ℕ) → message_of w k c ps counts scopes p h ≡ Reply (at_count c.epoch n) 0 → s ≡ sent p k (message_of w k c ps counts scopes p h) → Result v before s ph i
    replied v before s rest ph i y z e p a h eh fl n msg se =
        let is : s ≡ sent p k (Reply (at_count c.epoch n) 0) = se ∙ ap (sent p k) msg in
        let down : goes_down s.message ≡ false = ap (λ (t : Sent). goes_down t.message) is in
        let hd = head_of z.queue s rest z.back in
        let q = hd.first in
        let r = next_seen v before (s ∷ rest) z i in
        let number = number_of w k c ps counts scopes (bare v) before s rest ph i y e in
        let by = λ (d : Circumstance). ap (steps.delivers (bare v) d) number ∙ ap (λ t. steps.delivers (bare v) d (Some t)) is in
        let any : steps.happens (bare v) (steps.Deliver i r.0) ≡ steps.happens (bare v) (steps.Deliver i all_well) = by r.0 ∙ sym (by all_well) in
        let seen : bare (next v i) ≡ steps.happens (bare v) (steps.Deliver i all_well) = r.1 ∙ any in
        let first = by_phase w k c ps counts scopes (bare v) before s rest ph i all_well (record { ground = base; going = y; smooth = well_smooth; number = number }) p a h eh fl se in
        let now : Next w k c ps counts scopes (bare (next v i)) (before ++ s ∷ []) s ph = subst (λ b. Next w k c ps counts scopes b (before ++ s ∷ []) s ph) (sym seen) first in
        let up = up_is v before s rest z i e down in
        let mine : q.controller ≡ k = ap (λ (t : Sent). t.controller) (hd.seen ∙ is) in (
          now,
          subst (λ u. Holds u (before ++ s ∷ []) now.after) (sym up)
              (heard_holds v before s rest now.after z q.element q.controller q.message (v.masters q.controller) refl (subst (λ u. AllGood g ms Good fit u.masters) up (next_good v before (s ∷ rest) z i)) (subst (AllFold g law ms opening) up (next_folds v before (s ∷ rest) z i))
              (ap (λ (u : W). viewed u.sent) (sym up) ∙ now.going.sent)
              (λ o f. (spell.hears q.controller o q.element q.message x plan (z.all_good q.controller o f) (z.drives o (ap v.masters (sym mine) ∙ f))).1)),
        )

    -- a request reaches its element
    module _ (v : W) (before : List Sent) (s : Sent) (rest : List Sent) (ph : ℕ → Phase) (i : ℕ) (y : Goes (bare v) before (s ∷ rest) ph) (z : Holds v before (s ∷ rest)) (e : i ≡ length before + 1) (p : ℕ) (a : among p ps ≡ true) (h : Phase) (eh : ph p ≡ h) (fl : flies h ≡ true) where
      abbrev el : Element Config Op Subs
      el = v.at p

      abbrev later : Element Config Op Subs
      later = heard_from g el source k

      abbrev Serve : Configuring Op → Body → Type 0
      Serve m b = Serves g p later m b x (scopes p) (ms.change plan p) (start.at p).settled (c.at p).last

      requested : (n : ℕ) (b : Body) → message_of w k c ps counts scopes p h ≡ Request (at_count c.epoch n) b → s ≡ sent p k (message_of w k c ps counts scopes p h) → n ≡ el.sequence + 1 → is_query b ≡ false → (b ≡ Malformed → ⊥) → claim_of b ≡ None
          → ((m : Configuring Op) → SpelledAs x (ms.change plan p) m b → Fitting m × Serve m b) → Result v before s ph i
      requested n b msg se count nq nm nc serve =
          let is : s ≡ sent p k (Request (at_count c.epoch n) b) = se ∙ ap (sent p k) msg in
          let hd = head_of z.queue s rest z.back in
          let q = hd.first in
          let q_is = hd.seen ∙ is in
          let ask = asked_of q.message (at_count c.epoch n) b (ap (λ (t : Sent). t.message) q_is) nq in
          let m = ask.0 in
          let body_is : m.body ≡ b = config_back m.body b ask.3 nm in
          let spelled : SpelledMessage x (ms.change plan q.element) q.message = (subst (AllOf Spells) hd.whole z.spelled).0 in
          let spelled_here : SpelledAs x (ms.change plan p) m b = subst (SpelledAs x (ms.change plan p) m) body_is (subst (λ t. SpelledMessage x (ms.change plan p) t) ask.1 (subst (λ o. SpelledMessage x (ms.change plan o) q.message) (ap (λ (t : Sent). t.element) q_is) spelled)) in
          let served = serve m spelled_here in
          let fits = served.0 in
          let does : Serve m m.body = subst (Serve m) (sym body_is) served.1 in
          let stand = y.stand p a in
          let here : sender g ms v k ≡ source = y.network ∙ sym source_is in
          let next_is : judge el.epoch el.master el.sequence source m.stamp (claim_of m.body) ≡ IsNext =
          ap (λ t. judge el.epoch el.master el.sequence source t (claim_of m.body)) (ask.2 ∙ ap (λ o. at_count o n) (sym stand.epoch)) ∙ ap (λ o. judge el.epoch el.master el.sequence source (at_count el.epoch n) o) (ap claim_of body_is ∙ nc)
          ∙ judge_next el.epoch el.master el.sequence source n (ap (λ o. o == 0) stand.epoch ∙ base.epoch) (source_is ∙ sym stand.master) count in
          let known = may.controller in
          let heard = (z.at p a).associated in
          let does_now = acts g p later m AllOrNone m.body in
          let smooth : Smooth (circumstance_of g p el k source (Configure m)) =
          subst Smooth (sym (circumstance_is g p k source el m fits known heard next_is)) (smooth_of g later m m.body (executes g p later m AllOrNone).shown (peers_of (get later.associations later.ce) does_now.notices) does_now fits.ack does.loud does.instances does.succeeds) in
          let whole = parcel_is q p k (Configure m) (ap (λ (t : Sent). t.element) q_is) (ap (λ (t : Sent). t.controller) q_is) ask.1 in
          let u = with_step g ms v p (step g p el (Arrived k (sender g ms v k) (Configure m))) in
          let to : next v i ≡ u = ap (delivers g ms v) (the_first v before s rest z i e ∙ ap Some whole) in
          let number = number_of w k c ps counts scopes (bare v) before s rest ph i y e in
          let d = circumstance_of g p el k (sender g ms v k) (Configure m) in
          let smooth_here : Smooth d = subst (λ o. Smooth (circumstance_of g p el k o (Configure m))) (sym here) smooth in
          let at = request_at g ms v (bare v) p k (Configure m) m.stamp (config_body m.body) (like_itself g ms v) refl in
          let same : steps.happens (bare v) (steps.Deliver i d) ≡ steps.delivered (bare v) d p k (Request m.stamp (config_body m.body)) =
          ap (steps.delivers (bare v) d) number ∙ ap (λ t. steps.delivers (bare v) d (Some t)) is ∙ ap (steps.delivered (bare v) d p k) (ap (λ t. Request t b) (sym ask.2) ∙ ap (Request m.stamp) (sym ask.3)) in
          let seen : bare (next v i) ≡ steps.happens (bare v) (steps.Deliver i d) = ap bare to ∙ like_is g ms u _ at ∙ sym same in
          let first = by_phase w k c ps counts scopes (bare v) before s rest ph i d (record { ground = base; going = y; smooth = smooth_here; number = number }) p a h eh fl se in
          let now : Next w k c ps counts scopes (bare (next v i)) (before ++ s ∷ []) s ph = subst (λ o. Next w k c ps counts scopes o (before ++ s ∷ []) s ph) (sym seen) first in
          let step_is : step g p el (Arrived k (sender g ms v k) (Configure m)) ≡ takes g later k m does_now = ap (λ o. step g p el (Arrived k o (Configure m))) here ∙ takes_is g p k source el m fits known heard next_is in
          let outs : AllOf Spells (parcels p (step g p el (Arrived k (sender g ms v k) (Configure m))).outs) = subst (λ (r : MachineStep Config Op Subs). AllOf Spells (parcels p r.outs)) (sym step_is) (outs_spelled x (ms.change plan) p k _ _ does_now.notices) in
          let still = still_there el.associations source k el.clock heard in
          let mine : Has u p = record {
            associated = put_some (λ o (t : Element Config Op Subs). contains_key t.associations source ≡ true) v.at p _ p (λ _. subst (λ (r : MachineStep Config Op Subs). contains_key r.element.associations source ≡ true) (sym step_is) still) (λ _. heard);
            served = put_some (λ o (t : Element Config Op Subs). Served g x (scopes p) (ms.change plan p) (start.at p).settled (c.at p).last t.sequence t.settled t.records) v.at p _ p
                (λ _. subst (λ (r : MachineStep Config Op Subs). Served g x (scopes p) (ms.change plan p) (start.at p).settled (c.at p).last r.element.sequence r.element.settled r.element.records) (sym step_is) does.served) (λ _. (z.at p a).served);
          } in
          let others : (o : ℕ) → among o ps ≡ true → Has u o = λ o b. ⊎_elim (λ t. subst (Has u) (sym (eqb-true o p t)) mine) (λ t. let h = z.at o b in record {
            associated = put_some (λ r (n : Element Config Op Subs). contains_key n.associations source ≡ true) v.at p _ o (λ r. absurd (apart o p t r)) (λ _. h.associated);
            served = put_some (λ r (n : Element Config Op Subs). Served g x (scopes o) (ms.change plan o) (start.at o).settled (c.at o).last n.sequence n.settled n.records) v.at p _ o (λ r. absurd (apart o p t r)) (λ _. h.served);
          }) (both (o == p)) in (
            now,
            subst (λ o. Holds o (before ++ s ∷ []) now.after) (sym to)
                (holds_on v u before s rest now.after z (parcels p (step g p el (Arrived k (sender g ms v k) (Configure m))).outs) z.all_good (subst (AllFold g law ms opening) to (next_folds v before (s ∷ rest) z i)) refl
                (ap (λ (n : W). viewed n.sent) (sym to) ∙ now.going.sent) outs z.drives others),
          )
        where
          apart : (o p : ℕ) → (o == p) ≡ false → o ≡ p → ⊥
          apart o p t r = let z : true ≡ false = sym (eq-eqb o p r) ∙ t in cc

    last_of : ℕ → ℕ
    last_of p = (c.at p).last

    no_zero : (n : ℕ) → Rattle.std.proofs.Common.not (n + 1 == 0) ≡ true
    no_zero n = grind arith

    suc_not : (n : ℕ) → (suc n == 0) ≡ false
    suc_not n = grind arith

    is_low : (n o : ℕ) → nat_le n o ≡ true → n ≤ o
    is_low n o e = grind arith

    module _ (v : W) (before : List Sent) (s : Sent) (rest : List Sent) (ph : ℕ → Phase) (i : ℕ) (y : Goes (bare v) before (s ∷ rest) ph) (z : Holds v before (s ∷ rest)) (e : i ≡ length before + 1) (p : ℕ) (a : among p ps ≡ true) where
      stands : (h : Phase) → ph p ≡ h → Stands w k c ps counts scopes p (tx (v.at p)) (bare v).facts h
      stands h q = subst (Stands w k c ps counts scopes p (tx (v.at p)) (bare v).facts) q (y.stand p a).stands

      served : Served g x (scopes p) (ms.change plan p) (start.at p).settled (c.at p).last (v.at p).sequence (v.at p).settled (v.at p).records
      served = (z.at p a).served

      begins : ph p ≡ Asking 0 → s ≡ sent p k (message_of w k c ps counts scopes p (Asking 0)) → Result v before s ph i
      begins q se =
          let st = stands (Asking 0) q in
          let seq : (v.at p).sequence ≡ (c.at p).last + 0 = st.0 in
          let part = base.parts p a in
          let fits : admits p (v.at p).epoch x ps false (scopes p) ≡ true =
          and_true (c.epoch == (v.at p).epoch) _ (eq-eqb _ _ (sym (y.stand p a).epoch)) (and_true (Rattle.std.proofs.Common.not (c.begun + 1 == 0)) _ (no_zero c.begun) (and_true (takes_part p ps) (is_scope (scopes p)) part.takes part.scoped)) in
          requested v before s rest ph i y z e p a (Asking 0) q refl ((c.at p).last + 1 + 0) (Sot x ps (scopes p)) refl se (omega arith) refl (λ n. cc) refl
          (λ m sp. let f = sp refl in (
            f.0,
            sot_serves g law p (heard_from g (v.at p) source k) m x (scopes p) (ms.change plan p) (start.at p).settled (c.at p).last ps f.1 (idle_at p a).instances fits st.1.3 st.1.1 st.1.2 st.1.0 (omega arith)
                (served.kept (λ t. let r : None ≡ Some Completed = sym st.1.0 ∙ t in absurd {A = ⊥} cc)),
          ))

      adds : (d : ℕ) → ph p ≡ Asking (suc d) → nat_le (suc d) (counts p) ≡ true → s ≡ sent p k (message_of w k c ps counts scopes p (Asking (suc d))) → Result v before s ph i
      adds d q low se =
          let st = stands (Asking (suc d)) q in
          let seq : (v.at p).sequence ≡ (c.at p).last + suc d = st.0 in
          let body_is : body w k c ps counts scopes (suc d) p ≡ Mot x (suc d) = cond_false (suc d == 0) _ _ (suc_not d) ∙ cond_true (nat_le (suc d) (counts p)) (Mot x (suc d)) (Eot x) low in
          let kept = (z.folds p).0 in
          requested v before s rest ph i y z e p a (Asking (suc d)) q refl ((c.at p).last + 1 + suc d) (Mot x (suc d)) (ap (Request (at_count c.epoch ((c.at p).last + 1 + suc d))) body_is) se (omega arith) refl (λ n. cc) refl
          (λ m sp. let f = sp refl in (
            f.0,
            mot_serves g law p (heard_from g (v.at p) source k) m x (scopes p) (ms.change plan p) (start.at p).settled (c.at p).last d (counts p) f.1 (is_low (suc d) (counts p) low) st.1 kept.fine kept.disjoint served (omega arith)
                (idle_at p a).succeeds (idle_at p a).inside,
          ))

      prepares : (d : ℕ) → ph p ≡ Asking (suc d) → nat_le (suc d) (counts p) ≡ false → s ≡ sent p k (message_of w k c ps counts scopes p (Asking (suc d))) → Result v before s ph i
      prepares d q high se =
          let st = stands (Asking (suc d)) q in
          let seq : (v.at p).sequence ≡ (c.at p).last + suc d = st.0 in
          let body_is : body w k c ps counts scopes (suc d) p ≡ Eot x = cond_false (suc d == 0) _ _ (suc_not d) ∙ cond_false (nat_le (suc d) (counts p)) (Mot x (suc d)) (Eot x) high in
          requested v before s rest ph i y z e p a (Asking (suc d)) q refl ((c.at p).last + 1 + suc d) (Eot x) (ap (Request (at_count c.epoch ((c.at p).last + 1 + suc d))) body_is) se (omega arith) refl (λ n. cc) refl
          (λ m sp. (sp refl, eot_serves g law p (heard_from g (v.at p) source k) m x (scopes p) (ms.change plan p) (start.at p).settled (c.at p).last st.1 served))

      completes : ph p ≡ Ending → s ≡ sent p k (message_of w k c ps counts scopes p Ending) → Result v before s ph i
      completes q se =
          let st = stands Ending q in
          let seq : (v.at p).sequence ≡ (c.at p).last + counts p + 2 = st.0 in
          requested v before s rest ph i y z e p a Ending q refl ((c.at p).last + counts p + 3) (Trcomp x) refl se (omega arith) refl (λ n. cc) refl
          (λ m sp. (sp refl, trcomp_serves g law p (heard_from g (v.at p) source k) m x (scopes p) (ms.change plan p) (start.at p).settled (c.at p).last st.1))

      asks : (d : ℕ) → ph p ≡ Asking d → s ≡ sent p k (message_of w k c ps counts scopes p (Asking d)) → Result v before s ph i
      asks zero q se = begins q se
      asks (suc d) q se = ⊎_elim (λ b. adds d q b se) (λ b. prepares d q b se) (both (nat_le (suc d) (counts p)))

      by_h : (h : Phase) → ph p ≡ h → flies h ≡ true → s ≡ sent p k (message_of w k c ps counts scopes p h) → Result v before s ph i
      by_h (Asking d) q f se = asks d q se
      by_h (Told d) q f se = replied v before s rest ph i y z e p a (Told d) q f ((c.at p).last + 1 + d) refl se
      by_h Ready q f se = cc
      by_h Ending q f se = completes q se
      by_h Ended q f se = replied v before s rest ph i y z e p a Ended q f ((c.at p).last + counts p + 3) refl se
      by_h Done q f se = cc

    goes : Steps w k c ps counts scopes base single bare next Holds
    goes v before s rest ph i y z e u = by_h v before s rest ph i y z e s.element u.0 (ph s.element) refl u.1 u.2

    -- The beginning

    abbrev first : W
    first = happens g ms start (Begin k plan)

    abbrev spoke : Spoke Op M
    spoke = (ms.begins k m plan).spoke

    begins_like : Likes g ms Good fit first (steps.begin_at w k (ms.parts plan) counts scopes (option_map ms.core (start.masters k)))
    begins_like = begin_like g ms Good fit start w k plan (start.masters k) likes.1 refl

    begun_is : bare first ≡ steps.happens w (steps.Begin k ps counts scopes)
    begun_is =
        like_is g ms first _ begins_like.like ∙ ap (λ o. steps.begin_at w k (ms.parts plan) counts scopes o) (like.masters k) ∙ ap (λ r. steps.begin_at w k r counts scopes (w.masters k)) named

    first_is : first ≡ with_spoke g ms (with_begun g ms start (record { txn = x; parts = ms.parts plan })) k spoke
    first_is = ap (begin_at g ms start k plan) may.runs ∙ ap (λ o. begun_by g ms start k plan m o spoke) may.may

    first_sent : first.sent ≡ start.sent ++ spoke.says
    first_sent = ap (λ (u : W). u.sent) first_is

    begun_holds : (after : List Sent) → Goes (bare first) w.sent after (λ _. Asking 0) → Holds first w.sent after
    begun_holds after y = record {
      all_good = begins_like.good;
      folds = run_all g law ms opening (Begin k plan ∷ []) start (run_all g law ms opening script (first_world opening subs net) (λ q. new_folds g opening q));
      earlier = start.sent;
      queue = spoke.says;
      split = first_sent;
      front = like.sent;
      back = cancel w.sent (viewed spoke.says) after (ap (λ q. q ++ viewed spoke.says) (sym like.sent) ∙ sym (viewed_append start.sent spoke.says) ∙ ap viewed (sym first_sent) ∙ y.sent);
      spelled = (spell.begins k m plan good may.may).1;
      drives = λ a e. subst (λ n. Drives n x plan) (some_one spoke.master a (sym (put_here start.masters k (Some spoke.master)) ∙ sym (ap (λ (u : W). u.masters k) first_is) ∙ e)) (spell.begins k m plan good may.may).0;
      at = λ p a.
          let at_is : first.at p ≡ start.at p = ap (λ (u : W). u.at p) first_is in
          let none : state_of x (bares (first.at p).records) ≡ None = (y.stand p a).stands.1.0 in record {
            associated = ap (λ (t : Element Config Op Subs). contains_key t.associations source) at_is ∙ (idle_at p a).associated;
            served = record {
              kept = λ _. ap (λ (t : Element Config Op Subs). t.settled) at_is;
              added = λ t. let r : None ≡ Some Started = sym none ∙ t in cc;
            };
          };
    }

    over : (o : ℕ) × BareCompletes w (bare (arrived w k c ps counts scopes base single bare next Holds (length w.sent + 1) o first)) k c ps counts o
    over = round net likes.0 k c p0 qs counts scopes able bare next Holds passes goes first begun_is begun_holds

    arrived_run : (n i : ℕ) (v : W) → arrived w k c ps counts scopes base single bare next Holds i n v ≡ run g ms (delivers_from i n) v
    arrived_run zero i v = refl
    arrived_run (suc n) i v = arrived_run n (i + 1) (next v i)

    -- What a delivery adds

    abbrev Grows : W → W → Type 0
    Grows v u = (more : List (Parcel Op)) × (u.sent ≡ v.sent ++ more)

    up_grows : (v : W) (p j : ℕ) (t : Message Op) (o : Option M) → Grows v (to_master g ms v p j t o)
    up_grows v p j t None = ([], sym (append-nil v.sent))
    up_grows v p j t (Some a) = ((ms.hears j a p t).says, refl)

    if_grows : (b : Bool) (v u t : W) → Grows v u → Grows v t → Grows v (cond b u t)
    if_grows true v u t f h = f
    if_grows false v u t f h = h

    delivers_grow : (v : W) (o : Option (Parcel Op)) → Grows v (delivers g ms v o)
    delivers_grow v None = ([], sym (append-nil v.sent))
    delivers_grow v (Some q) = if_grows (is_down q.message) v _ _ (parcels q.element (step g q.element (v.at q.element) (Arrived q.controller (sender g ms v q.controller) q.message)).outs, refl) (up_grows v q.element q.controller q.message (v.masters q.controller))

    all_grow : (n i : ℕ) (v : W) → Grows v (run g ms (delivers_from i n) v)
    all_grow zero i v = ([], sym (append-nil v.sent))
    all_grow (suc n) i v =
        let one = delivers_grow v (numbered v.sent i) in
        let more = all_grow n (i + 1) (next v i) in
        (one.0 ++ more.0, more.1 ∙ ap (λ q. q ++ more.0) one.1 ∙ append_assoc v.sent one.0 more.0)

    pub completed : (n : ℕ) × Completes ms start (run g ms (Begin k plan ∷ delivers_from (length start.sent + 1) n) start) k m plan n
    completed =
        let n = over.0 in
        let end = run g ms (delivers_from (length start.sent + 1) n) first in
        let long : length w.sent ≡ length start.sent = ap (λ q. length q) (sym like.sent) ∙ length_viewed start.sent in
        let end_is : arrived w k c ps counts scopes base single bare next Holds (length w.sent + 1) n first ≡ end = ap (λ o. arrived w k c ps counts scopes base single bare next Holds (o + 1) n first) long ∙ arrived_run n (length start.sent + 1) first in
        let done : BareCompletes w (bare end) k c ps counts n = subst (λ u. BareCompletes w (bare u) k c ps counts n) end_is over.1 in
        let more = all_grow n (length start.sent + 1) first in
        let since = spoke.says ++ more.0 in
        let sent_is : end.sent ≡ start.sent ++ since = more.1 ∙ ap (λ q. q ++ more.0) first_sent ∙ append_assoc start.sent spoke.says more.0 in
        let same : viewed since ≡ done.since = cancel w.sent (viewed since) done.since (ap (λ q. q ++ viewed since) (sym like.sent) ∙ sym (viewed_append start.sent since) ∙ ap viewed (sym sent_is) ∙ done.sent) in
        let now = some_of g ms (end.masters k) done.now done.runs in
        let core_is : ms.core now.0 ≡ done.now = some_master (ms.core now.0) done.now (ap (option_map ms.core) (sym now.1) ∙ done.runs) in (
          n,
          record {
            since = since;
            sent = sent_is;
            delivered = sym (length_viewed since) ∙ ap (λ q. length q) same ∙ done.delivered;
            count = ap spoken_count same ∙ done.count ∙ ap (round_count counts) (sym named);
            elements = λ p a. in_whole (Settled_at p x Complete) end.facts (done.elements p (subst (λ v. among p v ≡ true) named a));
            now = now.0;
            runs = now.1;
            job = done.job;
            found = ap (λ (b : Master). Rattle.fc_protocol.specs.Jobs.find x b.jobs) core_is ∙ done.found;
            decision = done.decision;
            settled = done.settled;
          },
        )
      where
        some_master : (a b : Master) → Some a ≡ Some b → a ≡ b
        some_master a b e = cc

  pub clean_round : CleanRound g ms start
  clean_round k m plan p qs named may = completed k m plan p qs named may
