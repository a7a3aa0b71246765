-- What an element keeps of its events and of its associations, over its whole life.
use Rattle.std.proofs.Common.{◌≡◌, ℕ, ◌==◌, ◌&&◌, not, Bool, true, false, cond, List, [], ◌∷◌, ◌++◌, Option, Some, None, refl, sym, subst}
use Rattle.std.specs.FinMap.{contains_key, remove}
use Rattle.fc_assoc.specs.Associations.{still_heard}
use Rattle.fc_base.specs.Ids.{Txn}
use Rattle.fc_modes.specs.Modes.{outcome}
use Rattle.fc_modes.specs.declared.mode.Mode.{Mode}
use Rattle.fc_modes.proofs.Outcomes.{kept_is_done}
use Rattle.fc_headline.specs.Events.{Preserves, Quiet, EventsPass, EventsQuiet}
use Rattle.fc_headline.specs.OneElement.{Associates}
use Rattle.fc_headline.specs.Restarts.{with_restarts}
use Rattle.fc_headline.proofs.Associated.{none_associated, entered_associated, renewed_associated, removed_associated, heard_associated}
use Rattle.fc_machine.specs.ElementMachine.{Input, Opened, Arrived, Closed, Moment, Step, acts, unclaimed_by, unclaimed, by_verdict, by_mode, on_config, heard_from, with_associations, ended, from_associate, accepts, is_ce, moved_on, watched, is_due, step, steps}
use Rattle.fc_machine.specs.ElementState.{Element, new_element, restarted, ops_at, bares, first_code}
use Rattle.fc_machine.specs.Ground.{Ground, Lawful}
use Rattle.fc_machine.specs.Messages.{Configuring, Message, Setup, Beat, Response, Says, Notice, Accepted, Teardown, Beat_down, Query, Configure}
use Rattle.fc_machine.specs.Trace.{Fact}
use Rattle.fc_machine.specs.Transactions.{Did, all_get, is_completed, all_in, with_floor, places, scope_at, rest_codes, turned, and_adds, and_completes, starts_by, continues_by, floors_by, changes, sets_props, executes, plain}
use Rattle.fc_protocol.specs.ElementMachine.{admits}
use Rattle.fc_protocol.specs.Fence.{judge}
use Rattle.fc_protocol.specs.Floors.{is_below, floor_code}
use Rattle.fc_protocol.specs.Messages.{Body, Claim, Sot, Mot, Eot, Trcomp, Abt, Floor, Malformed, Plain, Ask, Ask_record, claim_of}
use Rattle.fc_protocol.specs.Phases.{Turn, opening, adding, settling}
use Rattle.fc_protocol.specs.Records.{state_of, is_packed, clashes, any_taken}
use Rattle.fc_protocol.specs.Scopes.{Scope}
use Rattle.fc_protocol.specs.declared.states.Decision.TheVariants.{Complete}
use Rattle.fc_protocol.specs.declared.states.TxnState.{TxnState}
use Rattle.fc_protocol.specs.declared.states.TxnState.TheVariants.{Started, Prepared, Completed, Aborted}
use Rattle.fc_protocol.specs.declared.verdict.Verdict.{Verdict}
use Rattle.fc_protocol.specs.declared.verdict.Verdict.TheVariants.{Claim as Claims, Unclaimed, Stale, Again, Gap, Next}

module _ {Config Op Subs : Type 0} (g : Ground Config Op Subs) (law : Lawful g) (P : Config → Subs → Type 0) (k : Preserves g P) (p : ℕ) where
  abbrev pub Keeps : Element Config Op Subs → Type 0
  Keeps el = P el.settled el.subs × Associates g el.associations

  step_if : (b : Bool) (v w : Step Config Op Subs) → Keeps v.element → Keeps w.element → Keeps (cond b v w).element
  step_if true v w f h = f
  step_if false v w f h = h

  abbrev KeepsDid : Did Config Op Subs → Type 0
  KeepsDid d = P d.settled d.subs

  did_if : (b : Bool) (v w : Did Config Op Subs) → KeepsDid v → KeepsDid w → KeepsDid (cond b v w)
  did_if true v w f h = f
  did_if false v w f h = h

  module _ (el : Element Config Op Subs) (f : P el.settled el.subs) where
    adds_keeps : (b : Bool) (x : Txn) (ps : List ℕ) (sc : Scope) (t : Turn) (ops : List Op) (cs ds : List ℕ) → KeepsDid (and_adds g b p x ops (turned g p el x ps sc t cs ds))
    adds_keeps true x ps sc t ops cs ds = f
    adds_keeps false x ps sc t ops cs ds = f

    starts_keeps : (x : Txn) (ps : List ℕ) (sc : Scope) (ops : List Op) (fits below clash full : Bool) (codes : List ℕ) → KeepsDid (starts_by g p el x ps sc ops fits below clash full codes)
    starts_keeps x ps sc ops fits below clash full codes = let t = opening fits below clash full (first_code codes) (state_of x (bares el.records)) in adds_keeps (t.code == 0) x ps sc t ops _ _

    continues_keeps : (x : Txn) (ops : List Op) (codes : List ℕ) → KeepsDid (continues_by g p el x ops codes)
    continues_keeps x ops codes = let t = adding (first_code codes) (state_of x (bares el.records)) in adds_keeps (t.code == 0) x [] [] t ops _ _

    completes_at : (x : Txn) (cs ds : List ℕ) (s : Option TxnState) → let t = settling Complete s in KeepsDid (and_completes g (is_completed t.new) el x (turned g p el x [] [] t cs ds))
    completes_at x cs ds None = f
    completes_at x cs ds (Some Started) = f
    completes_at x cs ds (Some Prepared) = k.changed el.settled el.subs (ops_at x el.records) f
    completes_at x cs ds (Some Completed) = f
    completes_at x cs ds (Some Aborted) = f

    changes_keeps : (m : Configuring Op) (mode : Mode) → KeepsDid (changes g p el m mode)
    changes_keeps m mode =
        subst (λ c. P c (g.reports c el.subs).0) (sym (kept_is_done g.effect law.refused mode el.settled m.ops)) (k.changed el.settled el.subs (outcome g.effect mode el.settled m.ops).done f)

    executes_keeps : (m : Configuring Op) (mode : Mode) → KeepsDid (executes g p el m mode)
    executes_keeps m mode = did_if m.props (sets_props g el m mode) (changes g p el m mode) (k.set el.settled el.subs mode m.ops f) (changes_keeps m mode)

    plain_keeps : (m : Configuring Op) (mode : Mode) → KeepsDid (plain g p el m mode)
    plain_keeps m mode = did_if (any_taken (bares el.records) (places g m.ops)) _ _ f (executes_keeps m mode)

    floors_keeps : (m : Configuring Op) (y : Txn) (code : ℕ) → KeepsDid (floors_by g el m y code)
    floors_keeps m y code = did_if (code == 0) (with_floor g el m y) (all_get g el m code) f f

    acts_keeps : (m : Configuring Op) (mode : Mode) (b : Body) → KeepsDid (acts g p el m mode b)
    acts_keeps m mode (Claim w) = f
    acts_keeps m mode (Sot x ps sc) = starts_keeps x ps sc m.ops (admits p el.epoch x ps (not (all_in g sc)) sc) (is_below x el.floor) (clashes sc (bares el.records)) (is_packed (bares el.records)) (rest_codes g el sc m.ops)
    acts_keeps m mode (Mot x i) = continues_keeps x m.ops (rest_codes g el (scope_at x el.records) m.ops)
    acts_keeps m mode (Eot x) = f
    acts_keeps m mode (Trcomp x) = completes_at x _ _ (state_of x (bares el.records))
    acts_keeps m mode (Abt x) = f
    acts_keeps m mode (Floor y) = floors_keeps m y (floor_code el.epoch el.floor y (bares el.records))
    acts_keeps m mode Malformed = f
    acts_keeps m mode Plain = plain_keeps m mode
    acts_keeps m mode Ask = f
    acts_keeps m mode (Ask_record x) = f

    unclaimed_by_keeps : (m : Configuring Op) (mode : Mode) (b : Body) → KeepsDid (unclaimed_by g p el m mode b)
    unclaimed_by_keeps m mode (Claim w) = f
    unclaimed_by_keeps m mode (Sot x ps sc) = f
    unclaimed_by_keeps m mode (Mot x i) = f
    unclaimed_by_keeps m mode (Eot x) = f
    unclaimed_by_keeps m mode (Trcomp x) = f
    unclaimed_by_keeps m mode (Abt x) = f
    unclaimed_by_keeps m mode (Floor y) = f
    unclaimed_by_keeps m mode Malformed = f
    unclaimed_by_keeps m mode Plain = executes_keeps m mode
    unclaimed_by_keeps m mode Ask = f
    unclaimed_by_keeps m mode (Ask_record x) = f

    unclaimed_keeps : (source : ℕ) (m : Configuring Op) (mode : Mode) → KeepsDid (unclaimed g p el source m mode)
    unclaimed_keeps source m mode = did_if (source == el.ce) _ _ (unclaimed_by_keeps m mode m.body) f

  heard_keeps : (el : Element Config Op Subs) (s : Keeps el) (peer source : ℕ) → is_ce g source ≡ true → Keeps (heard_from g el source peer)
  heard_keeps el s peer source c = (s.0, renewed_associated g el.associations source peer el.clock c s.1)

  verdict_keeps : (el : Element Config Op Subs) (s : Keeps el) (peer source : ℕ) → is_ce g source ≡ true → (m : Configuring Op) (mode : Mode) (v : Verdict) → Keeps (by_verdict g p el peer source m mode v).element
  verdict_keeps el s peer source c m mode (Claims e) = heard_keeps el s peer source c
  verdict_keeps el s peer source c m mode Unclaimed = let h = heard_keeps el s peer source c in (unclaimed_keeps (heard_from g el source peer) h.0 source m mode, h.1)
  verdict_keeps el s peer source c m mode Stale = s
  verdict_keeps el s peer source c m mode Again = heard_keeps el s peer source c
  verdict_keeps el s peer source c m mode Gap = heard_keeps el s peer source c
  verdict_keeps el s peer source c m mode Next = let h = heard_keeps el s peer source c in (acts_keeps (heard_from g el source peer) h.0 m mode m.body, h.1)

  mode_keeps : (el : Element Config Op Subs) (s : Keeps el) (peer source : ℕ) → is_ce g source ≡ true → (m : Configuring Op) (o : Option Mode) → Keeps (by_mode g p el peer source m o).element
  mode_keeps el s peer source c m None = s
  mode_keeps el s peer source c m (Some mode) = verdict_keeps el s peer source c m mode (judge el.epoch el.master el.sequence source m.stamp (claim_of m.body))

  config_keeps : (el : Element Config Op Subs) (s : Keeps el) (peer source : ℕ) → is_ce g source ≡ true → (m : Configuring Op) → Keeps (on_config g p el peer source m).element
  config_keeps el s peer source c m = step_if m.lost _ _ s (step_if m.astray _ _ s (mode_keeps el s peer source c m m.mode))

  ended_keeps : (el : Element Config Op Subs) (s : Keeps el) (b : Bool) → Keeps (ended g b el).0
  ended_keeps el s true = (k.ceased el.settled el.subs s.0, s.1)
  ended_keeps el s false = s

  associate_keeps : (el : Element Config Op Subs) (s : Keeps el) (peer source : ℕ) → is_ce g source ≡ true → (m : Message Op) → Keeps (from_associate g p el peer source m).element
  associate_keeps el s peer source c Setup = s
  associate_keeps el s peer source c (Beat w) = s
  associate_keeps el s peer source c (Response a) = s
  associate_keeps el s peer source c (Says m t) = s
  associate_keeps el s peer source c (Notice n) = s
  associate_keeps el s peer source c (Accepted r) = s
  associate_keeps el s peer source c Teardown = ended_keeps (with_associations g el (remove el.associations source)) (s.0, removed_associated g el.associations source s.1) (source == el.ce && contains_key el.associations source)
  associate_keeps el s peer source c (Beat_down w) = heard_keeps el s peer source c
  associate_keeps el s peer source c (Query m l a q) = heard_keeps el s peer source c
  associate_keeps el s peer source c (Configure m) = config_keeps el s peer source c m

  in_if : (b : Bool) (v w : Element Config Op Subs) → Keeps v → Keeps w → Keeps (cond b v w)
  in_if true v w f h = f
  in_if false v w f h = h

  accepts_keeps : (el : Element Config Op Subs) (s : Keeps el) (peer source : ℕ) → is_ce g source ≡ true → (m : Message Op) (other : Step Config Op Subs) → Keeps other.element → Keeps (accepts g el peer source m other).element
  accepts_keeps el s peer source c Setup other h = h
  accepts_keeps el s peer source c (Beat w) other h = h
  accepts_keeps el s peer source c (Response a) other h = h
  accepts_keeps el s peer source c (Says m t) other h = h
  accepts_keeps el s peer source c (Notice n) other h = h
  accepts_keeps el s peer source c (Accepted r) other h = in_if (r == 0) _ _ (s.0, entered_associated g el.associations source peer el.clock c s.1) s
  accepts_keeps el s peer source c Teardown other h = h
  accepts_keeps el s peer source c (Beat_down w) other h = h
  accepts_keeps el s peer source c (Query m l a q) other h = h
  accepts_keeps el s peer source c (Configure m) other h = h

  watched_if : (b : Bool) (v w : Element Config Op Subs × List ℕ) → Keeps v.0 → Keeps w.0 → Keeps (cond b v w).0
  watched_if true v w f h = f
  watched_if false v w f h = h

  watched_keeps : (el : Element Config Op Subs) (s : Keeps el) → Keeps (watched g el).0
  watched_keeps el s =
      watched_if ((g.settings el.settled).ce_policy == 0) _ _
      (ended_keeps (with_associations g el (still_heard el.associations el.clock (g.settings el.settled).ce_dead)) (s.0, heard_associated g el.associations el.clock (g.settings el.settled).ce_dead s.1) _) s

  -- only what comes from a control element is heard
  message_if : (el : Element Config Op Subs) (s : Keeps el) (source : ℕ) (b : Bool) (v : Step Config Op Subs) → is_ce g source ≡ b → (is_ce g source ≡ true → Keeps v.element) → Keeps (cond b v (record { element = el; outs = []; facts = [] })).element
  message_if el s source true v e h = h e
  message_if el s source false v e h = s

  step_keeps : (el : Element Config Op Subs) (s : Keeps el) (i : Input Op) → Keeps (step g p el i).element
  step_keeps el s (Opened peer) = s
  step_keeps el s (Arrived peer source m) = message_if el s source (is_ce g source) _ refl (λ c. accepts_keeps el s peer source c m _ (step_if (contains_key el.associations source) _ _ (associate_keeps el s peer source c m) s))
  step_keeps el s (Closed peer) = s
  step_keeps el s (Moment moment) = let r = watched g (moved_on g el moment) in let h = watched_keeps (moved_on g el moment) s in step_if (is_due g r.0) _ _ h h

  steps_keep : (inputs : List (Input Op)) (el : Element Config Op Subs) (fs : List (Fact Op)) → Keeps el → Keeps (steps g p inputs el fs).element
  steps_keep [] el fs s = s
  steps_keep (i ∷ rest) el fs s = let r = step g p el i in steps_keep rest r.element (r.facts ++ fs) (step_keeps el s i)

  -- what resumes has no associations
  pub runs_keep : (runs : List (List (Input Op))) (el : Element Config Op Subs) (fs : List (Fact Op)) → Keeps el → Keeps (with_restarts g p runs el fs).element
  runs_keep [] el fs s = s
  runs_keep (inputs ∷ runs) el fs s = let r = steps g p inputs (restarted el) fs in runs_keep runs r.element r.facts (steps_keep inputs (restarted el) fs (s.0, none_associated g))

-- of any ground, since nothing is asked of it
anything : {Config Op Subs : Type 0} (g : Ground Config Op Subs) → Preserves g (λ c subs. Unit {0})
anything g = record { changed = λ c subs ops f. f; set = λ c subs mode ops f. f; ceased = λ c subs f. f }

pub associates : {Config Op Subs : Type 0} (g : Ground Config Op Subs) → Lawful g → (p ce : ℕ) (opening : Config) (subs : Subs) (runs : List (List (Input Op))) → Associates g (with_restarts g p runs (new_element opening subs ce) []).element.associations
associates g law p ce opening subs runs = (runs_keep g law (λ c s. Unit {0}) (anything g) p runs (new_element opening subs ce) [] (tt, none_associated g)).1

pub events_pass : {Config Op Subs : Type 0} (g : Ground Config Op Subs) → Lawful g → EventsPass g
events_pass g law test k p opening subs ce runs t = (runs_keep g law (λ c s. test c s ≡ true) k p runs (new_element opening subs ce) [] (t, none_associated g)).0

pub events_quiet : {Config Op Subs : Type 0} (g : Ground Config Op Subs) → Lawful g → EventsQuiet g
events_quiet g law k p opening subs ce runs q = (runs_keep g law (Quiet g) k p runs (new_element opening subs ce) [] (q, none_associated g)).0
