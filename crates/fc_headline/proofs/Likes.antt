-- A world of whole elements goes as the protocol's.
use Rattle.std.proofs.Common.{◌≡◌, ℕ, zero, suc, ◌+◌, ◌*◌, ◌==◌, ◌&&◌, not, Bool, true, false, cond, List, [], ◌∷◌, ◌++◌, slice_get, Option, Some, None, is_none, is_some, option_map, ◌⊎◌, inl, inr, ⊎_elim, refl, sym, ap, ◌∙◌, subst, append_assoc, append-nil}
use Rattle.fc_base.specs.Ids.{Txn}
use Rattle.fc_machine.specs.ElementMachine as machine
use Rattle.fc_machine.specs.ElementMachine.{Input, Opened, Arrived, Moment, Out, on_moment, step}
use Rattle.fc_machine.specs.ElementState.{restarted, tx}
use Rattle.fc_machine.specs.Ground.{Ground}
use Rattle.fc_machine.specs.Messages.{Message, Setup, Beat, Response, Says, Notice, Accepted, Teardown, Beat_down, Query, Configure}
use Rattle.fc_machine.specs.Messages as message
use Rattle.fc_machine.specs.Trace.{Fact, Of_protocol, Added_at, Plain_at, bare_facts}
use Rattle.fc_machine.specs.Views.{config_body, query_body, view, view_told, views, turns, circumstance_of}
use Rattle.fc_machine.specs.WorldSteps.{Parcel, is_down, Spoke, Called, Masters, World, can_live, Step, Open, Deliver, Passes, Restart, Start, Stop, Begin, Change, Give_up, Resend, Forget, first_world, parcels, numbered, sender, with_step, with_spoke, to_master, delivers, starts, with_begun, called, begun_by, begin_at, change_at, give_up_at, forget_at, resend_at, happens, run, viewed, MastersFit}
use Rattle.fc_headline.proofs.Arriving.{moment_aside, arrives}
use Rattle.fc_protocol.specs.Collections.{among, put}
use Rattle.fc_protocol.specs.ElementMachine.{Circumstance, ElementState, Heard, only_says, hears}
use Rattle.fc_protocol.specs.MasterMachine.{Refusal, Master, Speaks, new_master, heard, at_once, finish, begin_refusal, begins, next_txn, plain_refusal, sends_one, give_up_refusal, gives_up, forget_refusal, forgets}
use Rattle.fc_protocol.specs.Messages as said
use Rattle.fc_protocol.specs.Messages.{Request, Other_up, Other_down, Sent, sent}
use Rattle.fc_protocol.specs.WorldSteps as steps
use Rattle.fc_protocol.specs.WorldSteps.{Network, Begun, controller_of, is_round, spoken, murmurs}

-- Lists

pub bare_append : {Op : Type 0} (xs ys : List (Fact Op)) → bare_facts (xs ++ ys) ≡ bare_facts xs ++ bare_facts ys
bare_append [] ys = refl
bare_append (Of_protocol f ∷ xs) ys = ap (λ v. f ∷ v) (bare_append xs ys)
bare_append (Added_at p x ops ∷ xs) ys = bare_append xs ys
bare_append (Plain_at p ops ∷ xs) ys = bare_append xs ys

pub viewed_append : {Op : Type 0} (xs ys : List (Parcel Op)) → viewed (xs ++ ys) ≡ viewed xs ++ viewed ys
viewed_append [] ys = refl
viewed_append (x ∷ xs) ys = ap (λ v. sent x.element x.controller (view x.message) ∷ v) (viewed_append xs ys)

viewed_parcels : {Op : Type 0} (p : ℕ) (os : List (Out Op)) → viewed (parcels p os) ≡ views p os
viewed_parcels p [] = refl
viewed_parcels p (o ∷ os) = ap (λ v. sent p o.peer (view o.message) ∷ v) (viewed_parcels p os)

abbrev pub as_sent : {Op : Type 0} → Parcel Op → Sent
as_sent s = sent s.element s.controller (view s.message)

get_viewed : {Op : Type 0} (xs : List (Parcel Op)) (i : ℕ) → slice_get (viewed xs) i ≡ option_map as_sent (slice_get xs i)
get_viewed [] i = refl
get_viewed (x ∷ xs) zero = refl
get_viewed (x ∷ xs) (suc i) = get_viewed xs i

numbered_viewed : {Op : Type 0} (xs : List (Parcel Op)) (i : ℕ) → steps.numbered (viewed xs) i ≡ option_map as_sent (numbered xs i)
numbered_viewed xs zero = refl
numbered_viewed xs (suc i) = get_viewed xs i

both_puts : {A B : Type 0} (f : A → B) (h : ℕ → A) (l : ℕ → B) (p : ℕ) (v : A) (w : B) → f v ≡ w → ((q : ℕ) → f (h q) ≡ l q) → (q : ℕ) → f (put h p v q) ≡ put l p w q
unfolding put
both_puts f h l p v w e k q = by_test (q == p)
  where
    by_test : (b : Bool) → f (cond b v (h q)) ≡ cond b w (l q)
    by_test true = e
    by_test false = k q

put_same : {A : Type 0} (l : ℕ → A) (p q : ℕ) → put l p (l p) q ≡ l q
unfolding put
put_same l p q = by_test (q == p) refl
  where
    by_test : (b : Bool) → (q == p) ≡ b → cond b (l p) (l q) ≡ l q
    by_test true e = ap l (sym (Rattle.std.proofs.Common.eqb-true q p e))
    by_test false e = refl

none_same : {A B : Type 0} (f : A → B) (o : Option A) → is_none (option_map f o) ≡ is_none o
none_same f None = refl
none_same f (Some a) = refl

module _ {Config Op Subs M P C : Type 0} (g : Ground Config Op Subs) (ms : Masters Op M P C) where
  abbrev pub W : Type 0
  W = World Config Op Subs M

  -- v is w, seen by the protocol
  pub record Like (v : W) (w : steps.World) : Type 0 where
    pub network : v.network ≡ w.network
    pub at : (p : ℕ) → tx (v.at p) ≡ w.at p
    pub masters : (k : ℕ) → option_map ms.core (v.masters k) ≡ w.masters k
    pub sent : viewed v.sent ≡ w.sent
    pub used : (k : ℕ) → v.used k ≡ w.used k
    pub facts : bare_facts v.facts ≡ w.facts
    pub begun : v.begun ≡ w.begun

  -- an element has taken an input
  step_like : (v : W) (w : steps.World) (p : ℕ) (r : machine.Step Config Op Subs) (el : ElementState) (ss : List Sent) (fs : List _) → Like v w → tx r.element ≡ el → views p r.outs ≡ ss → bare_facts r.facts ≡ fs → Like (with_step g ms v p r) (steps.with_element w p el ss fs)
  step_like v w p r el ss fs l e s f = record {
    network = l.network;
    at = both_puts tx v.at w.at p r.element el e l.at;
    masters = l.masters;
    sent = viewed_append v.sent (parcels p r.outs) ∙ ap (λ x. x ++ viewed (parcels p r.outs)) l.sent ∙ ap (λ x. w.sent ++ x) (viewed_parcels p r.outs ∙ s);
    used = l.used;
    facts = bare_append r.facts v.facts ∙ ap (λ x. x ++ bare_facts v.facts) f ∙ ap (λ x. fs ++ x) l.facts;
    begun = l.begun;
  }

  -- one that the protocol does not see
  aside_like : (v : W) (w : steps.World) (p : ℕ) (r : machine.Step Config Op Subs) (ss : List Sent) → Like v w → tx r.element ≡ tx (v.at p) → views p r.outs ≡ ss → bare_facts r.facts ≡ [] → Like (with_step g ms v p r) (steps.says w ss)
  aside_like v w p r ss l e s f = record {
    network = l.network;
    at = λ q. both_puts tx v.at w.at p r.element (w.at p) (e ∙ l.at p) l.at q ∙ put_same w.at p q;
    masters = l.masters;
    sent = viewed_append v.sent (parcels p r.outs) ∙ ap (λ x. x ++ viewed (parcels p r.outs)) l.sent ∙ ap (λ x. w.sent ++ x) (viewed_parcels p r.outs ∙ s);
    used = l.used;
    facts = bare_append r.facts v.facts ∙ ap (λ x. x ++ bare_facts v.facts) f ∙ l.facts;
    begun = l.begun;
  }

  -- a master has spoken
  spoke_like : (v : W) (w : steps.World) (k : ℕ) (r : Spoke Op M) (m : Master) (ss : List Sent) → Like v w → ms.core r.master ≡ m → viewed r.says ≡ ss → Like (with_spoke g ms v k r) (steps.with_master w k m (w.sent ++ ss))
  spoke_like v w k r m ss l e s = record {
    network = l.network;
    at = l.at;
    masters = both_puts (option_map ms.core) v.masters w.masters k (Some r.master) (Some m) (ap Some e) l.masters;
    sent = viewed_append v.sent r.says ∙ ap (λ x. x ++ viewed r.says) l.sent ∙ ap (λ x. w.sent ++ x) s;
    used = l.used;
    facts = l.facts;
    begun = l.begun;
  }

  pub sender_same : (v : W) (w : steps.World) (k : ℕ) → Like v w → sender g ms v k ≡ steps.sender w k
  sender_same v w k l = ap (λ n. Rattle.std.specs.Prelude.unwrap_or (controller_of n.controllers k) 0) l.network

  -- a request arrives at an element, in its circumstance
  pub request_at : (v : W) (w : steps.World) (p k : ℕ) (m : Message Op) (s : said.Stamp) (b : said.Body) → Like v w → view m ≡ Request s b
      → Like (with_step g ms v p (step g p (v.at p) (Arrived k (sender g ms v k) m))) (steps.delivered w (circumstance_of g p (v.at p) k (sender g ms v k) m) p k (Request s b))
  request_at v w p k m s b l e =
      let a = arrives g p k (sender g ms v k) (v.at p) m in
      let c = circumstance_of g p (v.at p) k (sender g ms v k) m in
      let same : turns c p (tx (v.at p)) (sender g ms v k) (view m) ≡ hears p (w.at p) (steps.sender w k) c s b =
      ap (turns c p (tx (v.at p)) (sender g ms v k)) e ∙ ap (λ el. hears p el (sender g ms v k) c s b) (l.at p) ∙ ap (λ n. hears p (w.at p) n c s b) (sender_same v w k l) in
      let h = hears p (w.at p) (steps.sender w k) c s b in
      let r = step g p (v.at p) (Arrived k (sender g ms v k) m) in
      subst (λ ss. Like (with_step g ms v p r) (record { network = w.network; at = put w.at p h.element; masters = w.masters; sent = ss; used = w.used; facts = h.facts ++ w.facts; begun = w.begun }))
      (sym (append_assoc w.sent (spoken p k h.says) (murmurs p c.others)))
      (step_like v w p r h.element (spoken p k h.says ++ murmurs p c.others) h.facts l
      (a.element ∙ ap (λ (x : Heard). x.element) same) (a.says ∙ ap (λ (x : Heard). spoken p k x.says ++ murmurs p c.others) same) (a.facts ∙ ap (λ (x : Heard). x.facts) same))

  request_like : (v : W) (w : steps.World) (p k : ℕ) (m : Message Op) (s : said.Stamp) (b : said.Body) → Like v w → view m ≡ Request s b
      → (c : Circumstance) × Like (with_step g ms v p (step g p (v.at p) (Arrived k (sender g ms v k) m))) (steps.delivered w c p k (Request s b))
  request_like v w p k m s b l e = (circumstance_of g p (v.at p) k (sender g ms v k) m, request_at v w p k m s b l e)

  -- something else arrives there
  other_like : (v : W) (w : steps.World) (p k : ℕ) (m : Message Op) → Like v w → view m ≡ Other_down → (c : Circumstance) × Like (with_step g ms v p (step g p (v.at p) (Arrived k (sender g ms v k) m))) (steps.delivered w c p k Other_down)
  other_like v w p k m l e =
      let a = arrives g p k (sender g ms v k) (v.at p) m in
      let c = circumstance_of g p (v.at p) k (sender g ms v k) m in
      let same : turns c p (tx (v.at p)) (sender g ms v k) (view m) ≡ only_says (tx (v.at p)) None = ap (turns c p (tx (v.at p)) (sender g ms v k)) e in (
        c,
        aside_like v w p (step g p (v.at p) (Arrived k (sender g ms v k) m)) (murmurs p c.others) l
            (a.element ∙ ap (λ (x : Heard). x.element) same) (a.says ∙ ap (λ (x : Heard). spoken p k x.says ++ murmurs p c.others) same) (a.facts ∙ ap (λ (x : Heard). x.facts) same),
      )

  -- a world whose masters are good
  module _ (Good : M → Type 0) (fit : MastersFit ms Good) where
    abbrev pub AllGood : (ℕ → Option M) → Type 0
    AllGood f = (k : ℕ) (m : M) → f k ≡ Some m → Good m

    pub record Likes (v : W) (w : steps.World) : Type 0 where
      pub like : Like v w
      pub good : AllGood v.masters

    good_put : (f : ℕ → Option M) (k : ℕ) (o : Option M) → AllGood f → ((m : M) → o ≡ Some m → Good m) → AllGood (put f k o)
    unfolding put
    good_put f k o a h j m e = by_test (j == k) e
      where
        by_test : (b : Bool) → cond b o (f j) ≡ Some m → Good m
        by_test true i = h m i
        by_test false i = a j m i

    some_is : (a b : M) → Some a ≡ Some b → Good a → Good b
    some_is a b e h = let i : a ≡ b = cc in subst Good i h

    -- something arrives at a master
    up_like : (v : W) (w : steps.World) (p k : ℕ) (m : Message Op) (o : Option M) → Likes v w → v.masters k ≡ o → Likes (to_master g ms v p k m o) (steps.to_master w p k (view m) (option_map ms.core o))
    up_like v w p k m None l e = l
    up_like v w p k m (Some a) l e =
        let f = fit.hears k a p m (l.good k a e) in
        let n = finish k (heard (ms.core a) p (view m)) in
        record {
          like = subst (λ ss. Like (with_spoke g ms v k (ms.hears k a p m)) (steps.with_master w k n.master ss)) (sym (append_assoc w.sent (at_once k (ms.core a) p (view m)) n.says))
              (spoke_like v w k (ms.hears k a p m) n.master (at_once k (ms.core a) p (view m) ++ n.says) l.like f.1 f.2);
          good = good_put v.masters k (Some (ms.hears k a p m).master) l.good (λ b i. some_is (ms.hears k a p m).master b i f.0);
        }

    up_at : (v : W) (w : steps.World) (p k : ℕ) (m : Message Op) → Likes v w → Likes (to_master g ms v p k m (v.masters k)) (steps.to_master w p k (view m) (w.masters k))
    up_at v w p k m l = subst (λ o. Likes (to_master g ms v p k m (v.masters k)) (steps.to_master w p k (view m) o)) (l.like.masters k) (up_like v w p k m (v.masters k) l refl)

    no_circumstance : Circumstance
    no_circumstance = record { unheard = true; misfit = 0; quiet = true; touches = []; strange = false; rest = 0; shown = 0; plain = 0; shape = 0; others = [] }

    downs : (v : W) (w : steps.World) (p k : ℕ) (m : Message Op) (t : said.Message) → AllGood v.masters → (c : Circumstance) × Like (with_step g ms v p (step g p (v.at p) (Arrived k (sender g ms v k) m))) (steps.delivered w c p k t)
        → (c : Circumstance) × Likes (with_step g ms v p (step g p (v.at p) (Arrived k (sender g ms v k) m))) (steps.delivered w c p k t)
    downs v w p k m t a r = (r.0, record { like = r.1; good = a })

    beat_at : (v : W) (w : steps.World) (p k : ℕ) (b : Bool) → Likes v w → (c : Circumstance) × Likes (to_master g ms v p k (Beat b) (v.masters k)) (steps.delivered w c p k (view {Op = Op} (Beat b)))
    beat_at v w p k true l = (no_circumstance, up_at v w p k (Beat true) l)
    beat_at v w p k false l = (no_circumstance, up_at v w p k (Beat false) l)

    told_at : (v : W) (w : steps.World) (p k : ℕ) (s : said.Stamp) (t : message.Told) → Likes v w → (c : Circumstance) × Likes (to_master g ms v p k (Says s t) (v.masters k)) (steps.delivered w c p k (view_told s t))
    told_at v w p k s (message.Told_held e ns) l = (no_circumstance, up_at v w p k (Says s (message.Told_held e ns)) l)
    told_at v w p k s (message.Told_one z e t) l = (no_circumstance, up_at v w p k (Says s (message.Told_one z e t)) l)
    told_at v w p k s (message.Told_unread e) l = (no_circumstance, up_at v w p k (Says s (message.Told_unread e)) l)
    told_at v w p k s message.Told_other l = (no_circumstance, up_at v w p k (Says s message.Told_other) l)

    -- a message arrives
    arrives_like : (v : W) (w : steps.World) (p k : ℕ) (m : Message Op) → Likes v w
        → (c : Circumstance) × Likes (cond (is_down m) (with_step g ms v p (step g p (v.at p) (Arrived k (sender g ms v k) m))) (to_master g ms v p k m (v.masters k))) (steps.delivered w c p k (view m))
    arrives_like v w p k Setup l = (no_circumstance, up_at v w p k Setup l)
    arrives_like v w p k (Beat b) l = beat_at v w p k b l
    arrives_like v w p k (Response a) l = (no_circumstance, up_at v w p k (Response a) l)
    arrives_like v w p k (Says s t) l = told_at v w p k s t l
    arrives_like v w p k (Notice n) l = (no_circumstance, up_at v w p k (Notice n) l)
    arrives_like v w p k (Accepted r) l = downs v w p k (Accepted r) Other_down l.good (other_like v w p k (Accepted r) l.like refl)
    arrives_like v w p k Teardown l = downs v w p k Teardown Other_down l.good (other_like v w p k Teardown l.like refl)
    arrives_like v w p k (Beat_down b) l = downs v w p k (Beat_down b) Other_down l.good (other_like v w p k (Beat_down b) l.like refl)
    arrives_like v w p k (Query s x y q) l = downs v w p k (Query s x y q) (Request s (query_body q)) l.good (request_like v w p k (Query s x y q) s (query_body q) l.like refl)
    arrives_like v w p k (Configure m) l = downs v w p k (Configure m) (Request m.stamp (config_body m.body)) l.good (request_like v w p k (Configure m) m.stamp (config_body m.body) l.like refl)

    delivers_some : (v : W) (w : steps.World) (o : Option (Parcel Op)) → Likes v w → (c : Circumstance) × Likes (delivers g ms v o) (steps.delivers w c (option_map as_sent o))
    delivers_some v w None l = (no_circumstance, l)
    delivers_some v w (Some s) l = arrives_like v w s.element s.controller s.message l

    pub delivers_like : (v : W) (w : steps.World) (i : ℕ) → Likes v w → (c : Circumstance) × Likes (delivers g ms v (numbered v.sent i)) (steps.delivers w c (steps.numbered w.sent i))
    delivers_like v w i l =
        let r = delivers_some v w (numbered v.sent i) l in
        (r.0, subst (λ o. Likes (delivers g ms v (numbered v.sent i)) (steps.delivers w r.0 o)) (sym (numbered_viewed v.sent i) ∙ ap (λ ss. steps.numbered ss i) l.like.sent) r.1)

    -- Calls

    spoke_speaks : (v : W) (w : steps.World) (k : ℕ) (r : Spoke Op M) (now : Speaks) → Likes v w → Good r.master → ms.core r.master ≡ now.master → viewed r.says ≡ now.says → Likes (with_spoke g ms v k r) (steps.speaks w k [] now)
    spoke_speaks v w k r now l h e s = record {
      like = subst (λ ss. Like (with_spoke g ms v k r) (steps.with_master w k now.master (ss ++ now.says))) (sym (append-nil w.sent)) (spoke_like v w k r now.master now.says l.like e s);
      good = good_put v.masters k (Some r.master) l.good (λ b i. some_is r.master b i h);
    }

    -- what a call that is not refused owes
    abbrev Took : Called Op M → Speaks → Type 0
    Took r now = Good r.spoke.master × (ms.core r.spoke.master ≡ now.master) × (viewed r.spoke.says ≡ now.says)

    took_speaks : (v : W) (w : steps.World) (k : ℕ) (r : Called Op M) (now : Speaks) → Likes v w → Took r now → Likes (with_spoke g ms v k r.spoke) (steps.speaks w k [] now)
    took_speaks v w k r now l t = spoke_speaks v w k r.spoke now l t.0 t.1 t.2

    give_up_case : (v : W) (w : steps.World) (k : ℕ) (x : Txn) (m : M) (r : Called Op M) (o : Option Refusal) → Likes v w → (o ≡ None → Took r (finish k (gives_up (ms.core m) x)))
        → Likes (called g ms v k o r.spoke) (steps.give_up_by w k x (ms.core m) o)
    give_up_case v w k x m r (Some z) l t = l
    give_up_case v w k x m r None l t = took_speaks v w k r (finish k (gives_up (ms.core m) x)) l (t refl)

    give_up_like : (v : W) (w : steps.World) (k : ℕ) (x : Txn) (o : Option M) → Likes v w → v.masters k ≡ o → Likes (give_up_at g ms v k x o) (steps.give_up_at w k x (option_map ms.core o))
    give_up_like v w k x None l e = l
    give_up_like v w k x (Some m) l e =
        let f = fit.gives_up k m x (l.good k m e) in
        let r = ms.gives_up k m x in
        subst (λ o. Likes (called g ms v k o r.spoke) (steps.give_up_by w k x (ms.core m) (give_up_refusal (ms.core m) x))) (sym f.refused) (give_up_case v w k x m r (give_up_refusal (ms.core m) x) l f.taken)

    change_case : (v : W) (w : steps.World) (k p : ℕ) (m : M) (r : Called Op M) (o : Option Refusal) → Likes v w → (o ≡ None → Took r (sends_one k (ms.core m) p (Some said.Plain)))
        → Likes (called g ms v k o r.spoke) (steps.change_by w k p (ms.core m) o)
    change_case v w k p m r (Some z) l t = l
    change_case v w k p m r None l t = took_speaks v w k r (sends_one k (ms.core m) p (Some said.Plain)) l (t refl)

    change_like : (v : W) (w : steps.World) (k p : ℕ) (c : C) (o : Option M) → Likes v w → v.masters k ≡ o → Likes (change_at g ms v k p c o) (steps.change_at w k p (option_map ms.core o))
    change_like v w k p c None l e = l
    change_like v w k p c (Some m) l e =
        let f = fit.changes k m p c (l.good k m e) in
        let r = ms.changes k m p c in
        subst (λ o. Likes (called g ms v k o r.spoke) (steps.change_by w k p (ms.core m) (plain_refusal (ms.core m) p))) (sym f.refused) (change_case v w k p m r (plain_refusal (ms.core m) p) l f.taken)

    begun_like : (v : W) (w : steps.World) (b : Begun) → Likes v w → Likes (with_begun g ms v b) (steps.with_begun w b)
    begun_like v w b l = record {
      like = record { network = l.like.network; at = l.like.at; masters = l.like.masters; sent = l.like.sent; used = l.like.used; facts = l.like.facts; begun = ap (λ x. b ∷ x) l.like.begun };
      good = l.good;
    }

    begin_case : (v : W) (w : steps.World) (k : ℕ) (plan : P) (m : M) (r : Called Op M) (o : Option Refusal) → Likes v w → (o ≡ None → Took r (finish k (begins (ms.core m) (ms.parts plan) (ms.counts plan) (ms.scopes plan))))
        → Likes (begun_by g ms v k plan m o r.spoke) (steps.begin_by w k (ms.parts plan) (ms.counts plan) (ms.scopes plan) (ms.core m) o)
    begin_case v w k plan m r (Some z) l t = l
    begin_case v w k plan m r None l t =
        let b : Begun = record { txn = next_txn (ms.core m); parts = ms.parts plan } in
        took_speaks (with_begun g ms v b) (steps.with_begun w b) k r (finish k (begins (ms.core m) (ms.parts plan) (ms.counts plan) (ms.scopes plan))) (begun_like v w b l) (t refl)

    pub begin_like : (v : W) (w : steps.World) (k : ℕ) (plan : P) (o : Option M) → Likes v w → v.masters k ≡ o → Likes (begin_at g ms v k plan o) (steps.begin_at w k (ms.parts plan) (ms.counts plan) (ms.scopes plan) (option_map ms.core o))
    begin_like v w k plan None l e = l
    begin_like v w k plan (Some m) l e =
        let f = fit.begins k m plan (l.good k m e) in
        let r = ms.begins k m plan in
        let n = begin_refusal (ms.core m) (ms.parts plan) (ms.counts plan) (ms.scopes plan) in
        subst (λ o. Likes (begun_by g ms v k plan m o r.spoke) (steps.begin_by w k (ms.parts plan) (ms.counts plan) (ms.scopes plan) (ms.core m) n)) (sym f.refused) (begin_case v w k plan m r n l f.taken)

    forget_case : (v : W) (w : steps.World) (k : ℕ) (m : M) (r : Called Op M) (o : Option Refusal) → Likes v w → (o ≡ None → Took r (finish k (forgets (ms.core m))))
        → Likes (called g ms v k o r.spoke) (steps.forget_by w k (ms.core m) o)
    forget_case v w k m r (Some z) l t = l
    forget_case v w k m r None l t = took_speaks v w k r (finish k (forgets (ms.core m))) l (t refl)

    forget_like : (v : W) (w : steps.World) (k : ℕ) (o : Option M) → Likes v w → v.masters k ≡ o → Likes (forget_at g ms v k o) (steps.forget_at w k (option_map ms.core o))
    forget_like v w k None l e = l
    forget_like v w k (Some m) l e =
        let f = fit.forgets k m (l.good k m e) in
        let r = ms.forgets k m in
        subst (λ o. Likes (called g ms v k o r.spoke) (steps.forget_by w k (ms.core m) (forget_refusal (ms.core m)))) (sym f.refused) (forget_case v w k m r (forget_refusal (ms.core m)) l f.taken)

    resend_like : (v : W) (w : steps.World) (k p : ℕ) (o : Option M) → Likes v w → v.masters k ≡ o → Likes (resend_at g ms v k p o) (steps.resend_at w k p (option_map ms.core o))
    resend_like v w k p None l e = l
    resend_like v w k p (Some m) l e = record {
      like = record {
        network = l.like.network;
        at = l.like.at;
        masters = l.like.masters;
        sent = viewed_append v.sent (ms.resends k m p) ∙ ap (λ x. x ++ viewed (ms.resends k m p)) l.like.sent ∙ ap (λ x. w.sent ++ x) (fit.resends k m p (l.good k m e));
        used = l.like.used;
        facts = l.like.facts;
        begun = l.like.begun;
      };
      good = l.good;
    }

    -- Steps

    likes_if : (b : Bool) (v x : W) (w y : steps.World) → Likes v w → Likes x y → Likes (cond b v x) (cond b w y)
    likes_if true v x w y l k = l
    likes_if false v x w y l k = k

    start_like : (v : W) (w : steps.World) (k r : ℕ) → can_live (256 * r + k) v.network.elements ≡ true → Likes v w → Likes (starts g ms v k r) (steps.starts w k r)
    start_like v w k r b l =
        let f = fit.born (256 * r + k) v.network.elements b in
        record {
          like = record {
            network = l.like.network;
            at = l.like.at;
            masters = both_puts (option_map ms.core) v.masters w.masters k (Some (ms.born (256 * r + k) v.network.elements)) (Some (new_master (256 * r + k) w.network.elements)) (ap Some (f.1 ∙ ap (λ n. new_master (256 * r + k) n.elements) l.like.network)) l.like.masters;
            sent = l.like.sent;
            used = both_puts (λ (x : List ℕ). x) v.used w.used k (r ∷ v.used k) (r ∷ w.used k) (ap (λ x. r ∷ x) (l.like.used k)) l.like.used;
            facts = l.like.facts;
            begun = l.like.begun;
          };
          good = good_put v.masters k (Some (ms.born (256 * r + k) v.network.elements)) l.good (λ b i. some_is (ms.born (256 * r + k) v.network.elements) b i f.0);
        }

    -- where a life can have the elements, it begins here where it begins there
    may_same : (v : W) (w : steps.World) (k r : ℕ) → Likes v w → ((is_some (controller_of v.network.controllers k) && is_round r) && (is_none (v.masters k) && not (among r (v.used k)))) ≡ steps.may_start w k r
    may_same v w k r l =
        ap (λ n. (is_some (controller_of n.controllers k) && is_round r) && (is_none (v.masters k) && not (among r (v.used k)))) l.like.network
        ∙ ap (λ b. (is_some (controller_of w.network.controllers k) && is_round r) && (b && not (among r (v.used k)))) (sym (none_same ms.core (v.masters k)) ∙ ap is_none (l.like.masters k))
        ∙ ap (λ u. (is_some (controller_of w.network.controllers k) && is_round r) && (is_none (w.masters k) && not (among r u))) (l.like.used k)

    stop_like : (v : W) (w : steps.World) (k : ℕ) → Likes v w → Likes (record v { masters = put v.masters k None }) (record w { masters = put w.masters k None })
    stop_like v w k l = record {
      like = record { network = l.like.network; at = l.like.at; masters = both_puts (option_map ms.core) v.masters w.masters k None None refl l.like.masters; sent = l.like.sent; used = l.like.used; facts = l.like.facts; begun = l.like.begun };
      good = good_put v.masters k None l.good (λ b i. none_is b i);
    }
      where
        none_is : (b : M) → None ≡ Some b → Good b
        none_is b i = cc

    -- a life that can't have these elements begins neither here nor there, where nothing is delivered in its place
    starts_if : (v : W) (w : steps.World) (k r : ℕ) (can may : Bool) → can_live (256 * r + k) v.network.elements ≡ can → may ≡ steps.may_start w k r → Likes v w → (t : steps.Step) × Likes (cond (can && may) (starts g ms v k r) v) (steps.happens w t)
    starts_if v w k r false may e f l = (steps.Deliver 0 no_circumstance, l)
    starts_if v w k r true may e f l = (steps.Start k r, subst (λ b. Likes (cond may (starts g ms v k r) v) (cond b (steps.starts w k r) w)) f (likes_if may _ _ _ _ (start_like v w k r e l) l))

    -- a step there is one here
    pub step_likes : (v : W) (w : steps.World) (s : Step P C) → Likes v w → (t : steps.Step) × Likes (happens g ms v s) (steps.happens w t)
    step_likes v w (Open p k) l =
        let opened = step g p (v.at p) (Opened k) in (
          steps.Open p k,
          subst (λ n. Likes (happens g ms v (Open p k)) (cond (among p n.elements && is_some (controller_of n.controllers k)) (steps.says w (sent p k said.Setup ∷ [])) w)) l.like.network
              (likes_if (among p v.network.elements && is_some (controller_of v.network.controllers k)) _ _ _ _ (record { like = aside_like v w p opened (sent p k said.Setup ∷ []) l.like refl refl refl; good = l.good }) l),
        )
    step_likes v w (Deliver i) l = let r = delivers_like v w i l in (steps.Deliver i r.0, r.1)
    step_likes v w (Passes p t) l =
        let a = moment_aside g p (v.at p) t in (
          steps.Moment p a.says.0,
          subst (λ n. Likes (happens g ms v (Passes p t)) (cond (among p n.elements) (steps.says w (murmurs p a.says.0)) w)) l.like.network
              (likes_if (among p v.network.elements) _ _ _ _ (record { like = aside_like v w p (on_moment g (v.at p) t) (murmurs p a.says.0) l.like a.element a.says.1 (ap bare_facts a.facts); good = l.good }) l),
        )
    step_likes v w (Restart p) l = (
      steps.Moment p [],
      subst (λ n. Likes (happens g ms v (Restart p)) (cond (among p n.elements) (steps.says w (murmurs p [])) w)) l.like.network
          (likes_if (among p v.network.elements) _ _ _ _ (record { like = aside_like v w p (machine.no_fact (restarted (v.at p)) []) [] l.like refl refl refl; good = l.good }) l),
    )
    step_likes v w (Start k r) l = starts_if v w k r (can_live (256 * r + k) v.network.elements) ((is_some (controller_of v.network.controllers k) && is_round r) && (is_none (v.masters k) && not (among r (v.used k)))) refl (may_same v w k r l) l
    step_likes v w (Stop k) l = (steps.Stop k, stop_like v w k l)
    step_likes v w (Begin k plan) l =
        (steps.Begin k (ms.parts plan) (ms.counts plan) (ms.scopes plan), subst (λ o. Likes (begin_at g ms v k plan (v.masters k)) (steps.begin_at w k (ms.parts plan) (ms.counts plan) (ms.scopes plan) o)) (l.like.masters k) (begin_like v w k plan (v.masters k) l refl))
    step_likes v w (Change k p c) l = (steps.Change k p, subst (λ o. Likes (change_at g ms v k p c (v.masters k)) (steps.change_at w k p o)) (l.like.masters k) (change_like v w k p c (v.masters k) l refl))
    step_likes v w (Give_up k x) l = (steps.Give_up k x, subst (λ o. Likes (give_up_at g ms v k x (v.masters k)) (steps.give_up_at w k x o)) (l.like.masters k) (give_up_like v w k x (v.masters k) l refl))
    step_likes v w (Resend k p) l = (steps.Resend k p, subst (λ o. Likes (resend_at g ms v k p (v.masters k)) (steps.resend_at w k p o)) (l.like.masters k) (resend_like v w k p (v.masters k) l refl))
    step_likes v w (Forget k) l = (steps.Forget k, subst (λ o. Likes (forget_at g ms v k (v.masters k)) (steps.forget_at w k o)) (l.like.masters k) (forget_like v w k (v.masters k) l refl))

    -- and so with every list of steps
    pub run_likes : (ss : List (Step P C)) (v : W) (w : steps.World) → Likes v w → (ts : List steps.Step) × Likes (run g ms ss v) (steps.run ts w)
    run_likes [] v w l = ([], l)
    run_likes (s ∷ ss) v w l =
        let r = step_likes v w s l in
        let u = run_likes ss (happens g ms v s) (steps.happens w r.0) r.1 in
        (r.0 ∷ u.0, u.1)

    pub first_likes : (opening : Config) (subs : Subs) (n : Network) → Likes (first_world opening subs n) (steps.first_world n)
    first_likes opening subs n = record {
      like = record { network = refl; at = λ p. refl; masters = λ k. refl; sent = refl; used = λ k. refl; facts = refl; begun = refl };
      good = λ k m e. none_good m e;
    }
      where
        none_good : (m : M) → None ≡ Some m → Good m
        none_good m e = cc
