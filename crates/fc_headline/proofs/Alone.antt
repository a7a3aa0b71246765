-- One element by itself goes as the protocol's.
use Rattle.std.proofs.Common.{eq-eqb, ◌≡◌, ℕ, true, List, [], ◌∷◌, ◌++◌, refl, sym, ap, ◌∙◌, subst}
use Rattle.fc_agreement.specs.Restarts as bare
use Rattle.fc_agreement.specs.Scopes.{RisingScopes}
use Rattle.fc_machine.specs.ElementMachine.{Input, Opened, Arrived, Closed, Moment, Step, on_moment, step, steps}
use Rattle.fc_machine.specs.ElementState.{Entry, Element, new_element, restarted, ops_of, bares, tx}
use Rattle.fc_machine.specs.Ground.{Ground, Lawful}
use Rattle.fc_machine.specs.Messages.{Message, Setup, Beat, Response, Says, Notice, Accepted, Teardown, Beat_down, Query, Configure}
use Rattle.fc_headline.specs.OneElement.{Each, Inside, ElementKeeps}
use Rattle.fc_headline.specs.Restarts.{with_restarts}
use Rattle.fc_machine.specs.Trace.{Fact, Of_protocol, bare_facts}
use Rattle.fc_machine.specs.Views.{config_body, query_body, view, circumstance_of}
use Rattle.fc_headline.proofs.Arriving.{IsSilent, moment_aside, arrives, beat_silent, told_silent}
use Rattle.fc_headline.proofs.Folded.{runs_fold, new_folds}
use Rattle.fc_headline.proofs.Likes.{bare_append}
use Rattle.fc_headline.proofs.Registered.{associates}
use Rattle.fc_headline.proofs.Scopes.{Fine}
use Rattle.fc_headline.proofs.Sound.{each_held, runs_sound, new_sound, all_pass}
use Rattle.fc_headline.proofs.Worlds.{in_bare, in_whole}
use Rattle.fc_protocol.specs.ElementMachine as protocol
use Rattle.fc_protocol.specs.ElementMachine.{ElementState, Circumstance, Heard, hears}
use Rattle.fc_protocol.specs.Messages as said
use Rattle.fc_protocol.specs.OneElement.{Arrival, hears_all, Distinct, Limited, ScopesApart, FewParticipants, FloorClear, Owned, RecordsTell}
use Rattle.fc_agreement.proofs.Ownership.{owned_law}
use Rattle.fc_protocol.specs.Trace as trace
use Rattle.fc_protocol.specs.Trace.{Prepared_at, Settled_at}
use Rattle.fc_protocol.specs.declared.states.Decision.TheVariants.{Complete}
use Rattle.fc_protocol.proofs.Basics.{AllOf}
use Rattle.fc_agreement.proofs.OneElement.{first_law, settles_law, distinct_law, limited_law, apart_law, few_law, rising_law, clear_law, tell_law}

module _ {Config Op Subs : Type 0} (g : Ground Config Op Subs) (p : ℕ) where
  -- the element, and all its facts, are those of these requests
  record Same (el : Element Config Op Subs) (fs : List (Fact Op)) (h : Heard) : Type 0 where
    element : tx el ≡ h.element
    facts : bare_facts fs ≡ h.facts

  -- one step is at most one request
  record OneStep (el : Element Config Op Subs) (fs : List (Fact Op)) (r : Step Config Op Subs) : Type 0 where
    arrivals : List Arrival
    same : (rest : List Arrival) → (e : ElementState) (b : List trace.Fact) → e ≡ tx el → b ≡ bare_facts fs → hears_all p (arrivals ++ rest) e b ≡ hears_all p rest (tx r.element) (bare_facts (r.facts ++ fs))

  quiet_step : (el : Element Config Op Subs) (fs : List (Fact Op)) (r : Step Config Op Subs) → tx r.element ≡ tx el → bare_facts r.facts ≡ [] → OneStep el fs r
  quiet_step el fs r e f = record {
    arrivals = [];
    same = λ rest d b i j. ap (λ v. hears_all p rest v b) (i ∙ sym e) ∙ ap (hears_all p rest (tx r.element)) (j ∙ sym (bare_append r.facts fs ∙ ap (λ v. v ++ bare_facts fs) f));
  }

  request_step : (el : Element Config Op Subs) (fs : List (Fact Op)) (r : Step Config Op Subs) (source : ℕ) (c : Circumstance) (m : said.Stamp) (b : said.Body)
      → tx r.element ≡ (hears p (tx el) source c m b).element → bare_facts r.facts ≡ (hears p (tx el) source c m b).facts → OneStep el fs r
  request_step el fs r source c m b e f = record {
    arrivals = record { sender = source; circumstance = c; stamp = m; body = b } ∷ [];
    same = λ rest d bs i j.
        ap (λ v. hears_all p rest (hears p v source c m b).element ((hears p v source c m b).facts ++ bs)) i
        ∙ ap (λ v. hears_all p rest v ((hears p (tx el) source c m b).facts ++ bs)) (sym e)
        ∙ ap (λ v. hears_all p rest (tx r.element) (v ++ bs)) (sym f) ∙ ap (λ v. hears_all p rest (tx r.element) (bare_facts r.facts ++ v)) j ∙ ap (hears_all p rest (tx r.element)) (sym (bare_append r.facts fs));
  }

  silent_step : (el : Element Config Op Subs) (fs : List (Fact Op)) (k source : ℕ) (m : Message Op) → IsSilent g (view m) → OneStep el fs (step g p el (Arrived k source m))
  silent_step el fs k source m s =
      let a = arrives g p k source el m in
      quiet_step el fs (step g p el (Arrived k source m)) (a.element ∙ ap (λ (h : Heard). h.element) (s (circumstance_of g p el k source m) p (tx el) source)) (a.facts ∙ ap (λ (h : Heard). h.facts) (s (circumstance_of g p el k source m) p (tx el) source))

  arrived_step : (el : Element Config Op Subs) (fs : List (Fact Op)) (k source : ℕ) (m : Message Op) → OneStep el fs (step g p el (Arrived k source m))
  arrived_step el fs k source Setup = silent_step el fs k source Setup (λ c q e j. refl)
  arrived_step el fs k source (Beat w) = silent_step el fs k source (Beat w) (beat_silent g w)
  arrived_step el fs k source (Response a) = silent_step el fs k source (Response a) (λ c q e j. refl)
  arrived_step el fs k source (Says m t) = silent_step el fs k source (Says m t) (told_silent g m t)
  arrived_step el fs k source (Notice n) = silent_step el fs k source (Notice n) (λ c q e j. refl)
  arrived_step el fs k source (Accepted r) = silent_step el fs k source (Accepted r) (λ c q e j. refl)
  arrived_step el fs k source Teardown = silent_step el fs k source Teardown (λ c q e j. refl)
  arrived_step el fs k source (Beat_down w) = silent_step el fs k source (Beat_down w) (λ c q e j. refl)
  arrived_step el fs k source (Query m l a q) = let v = arrives g p k source el (Query m l a q) in request_step el fs _ source (circumstance_of g p el k source (Query m l a q)) m (query_body q) v.element v.facts
  arrived_step el fs k source (Configure m) = let v = arrives g p k source el (Configure m) in request_step el fs _ source (circumstance_of g p el k source (Configure m)) m.stamp (config_body m.body) v.element v.facts

  one_step : (el : Element Config Op Subs) (fs : List (Fact Op)) (i : Input Op) → OneStep el fs (step g p el i)
  one_step el fs (Opened k) = quiet_step el fs _ refl refl
  one_step el fs (Arrived k source m) = arrived_step el fs k source m
  one_step el fs (Closed k) = quiet_step el fs _ refl refl
  one_step el fs (Moment t) = let a = moment_aside g p el t in quiet_step el fs (on_moment g el t) a.element (ap bare_facts a.facts)

  -- the requests of a list of inputs
  goes_as : (inputs : List (Input Op)) (el : Element Config Op Subs) (fs : List (Fact Op)) → (arrivals : List Arrival) × ((tx (steps g p inputs el fs).element ≡ (hears_all p arrivals (tx el) (bare_facts fs)).element) × (bare_facts (steps g p inputs el fs).facts ≡ (hears_all p arrivals (tx el) (bare_facts fs)).facts))
  goes_as [] el fs = ([], (refl, refl))
  goes_as (i ∷ rest) el fs =
      let o = one_step el fs i in
      let r = step g p el i in
      let v = goes_as rest r.element (r.facts ++ fs) in
      let s = o.same v.0 (tx el) (bare_facts fs) refl refl in
      (o.arrivals ++ v.0, (v.1.0 ∙ ap (λ (h : Heard). h.element) (sym s), v.1.1 ∙ ap (λ (h : Heard). h.facts) (sym s)))

  -- those of all runs: each goes as one of the bare element
  pub runs_go_as : (runs : List (List (Input Op))) (el : Element Config Op Subs) (fs : List (Fact Op)) → (arrivals : List (List Arrival)) × ((tx (with_restarts g p runs el fs).element ≡ (bare.with_restarts p arrivals (tx el) (bare_facts fs)).element) × (bare_facts (with_restarts g p runs el fs).facts ≡ (bare.with_restarts p arrivals (tx el) (bare_facts fs)).facts))
  runs_go_as [] el fs = ([], (refl, refl))
  runs_go_as (inputs ∷ runs) el fs =
      let a = goes_as inputs (restarted el) fs in
      let r = steps g p inputs (restarted el) fs in
      let h = hears_all p a.0 (tx el) (bare_facts fs) in
      let v = runs_go_as runs r.element r.facts in
      let s = ap (λ e. bare.with_restarts p v.0 e (bare_facts r.facts)) a.1.0 ∙ ap (bare.with_restarts p v.0 h.element) a.1.1 in
      (a.0 ∷ v.0, (v.1.0 ∙ ap (λ (h : Heard). h.element) s, v.1.1 ∙ ap (λ (h : Heard). h.facts) s))

to_each : {A : Type 0} (P : A → Type 0) (xs : List A) → AllOf P xs → Each P xs
to_each P [] h = tt
to_each P (x ∷ xs) h = (h.0, to_each P xs h.1)

module _ {Config Op Subs : Type 0} (g : Ground Config Op Subs) where
  to_inside : (ns : List (Entry Op)) → AllOf (Fine g) ns → Each (Inside g) ns
  to_inside [] f = tt
  to_inside (n ∷ ns) f = ((λ h. to_each _ (ops_of n) (f.0 h)), to_inside ns f.1)

  pub element_keeps : Lawful g → ElementKeeps g
  element_keeps law p opening subs ce runs =
      let first = new_element opening subs ce in
      let a = runs_go_as g p runs first [] in
      let r = with_restarts g p runs first [] in
      let f = runs_fold g law opening p runs first [] (new_folds g opening p) in
      let s = runs_sound g ce p (λ ops. true) runs first [] (all_pass runs) (new_sound g ce (λ ops. true) opening subs) in
      let h = bare.with_restarts p a.0 (protocol.new_element ce) [] in
      let records : bares r.element.records ≡ h.element.records = ap (λ (e : ElementState). e.records) a.1.0 in
      record {
        prepared = λ x later before e. in_whole (Prepared_at p x) before (first_law p ce a.0 x (bare_facts later) (bare_facts before) (sym a.1.1 ∙ ap bare_facts e ∙ bare_append later (Of_protocol (Settled_at p x Complete) ∷ before)));
        once = λ x d e later before s i. settles_law p ce a.0 x d e (bare_facts later) (bare_facts before) (sym a.1.1 ∙ ap bare_facts s ∙ bare_append later (Of_protocol (Settled_at p x d) ∷ before)) (in_bare (Settled_at p x e) before i);
        tells = subst (RecordsTell p r.element.floor (bares r.element.records)) (sym a.1.1) (subst (λ (e : ElementState). RecordsTell p e.floor e.records h.facts) (sym a.1.0) (tell_law p ce a.0));
        distinct = subst Distinct (sym records) (distinct_law p ce a.0);
        limited = subst Limited (sym records) (limited_law p ce a.0);
        apart = subst ScopesApart (sym records) (apart_law p ce a.0);
        few = subst FewParticipants (sym records) (few_law p ce a.0);
        rising = subst RisingScopes (sym records) (rising_law p ce a.0);
        clear = subst (λ (e : ElementState). FloorClear e.floor e.records) (sym a.1.0) (clear_law p ce a.0);
        inside = to_inside r.element.records f.0.fine;
        unclaimed = λ z. f.1 (eq-eqb r.element.epoch 0 z);
        owned = subst (Owned ce) (sym a.1.0) (owned_law ce p a.0);
        controller = s.0;
        associations = associates g law p ce opening subs runs;
        kept = s.1;
        rests = (each_held (λ ops. true) r.element.records s.2).0;
      }
