-- The facts of an element are its own, and what others do does not touch what it has completed.
use Rattle.std.proofs.Common.{◌≡◌, ℕ, ◌==◌, ◌&&◌, not, Bool, true, false, cond, List, [], ◌∷◌, ◌++◌, Option, Some, None, refl, sym, ap, ◌∙◌, subst}
use Rattle.std.specs.FinMap.{contains_key}
use Rattle.fc_base.specs.Ids.{Txn}
use Rattle.fc_modes.specs.Modes.{folded}
use Rattle.fc_modes.specs.declared.mode.Mode.{Mode}
use Rattle.fc_machine.specs.ElementMachine.{Input, Opened, Arrived, Closed, Moment, Step, acts, unclaimed_by, by_verdict, by_mode, on_config, heard_from, from_associate, accepts, is_ce, is_due, watched, moved_on, step}
use Rattle.fc_machine.specs.ElementState.{Entry, Element, bares, first_code}
use Rattle.fc_headline.specs.Folds.{Clean}
use Rattle.fc_machine.specs.Ground.{Place, Ground}
use Rattle.fc_machine.specs.Messages.{Configuring, Message, Setup, Beat, Response, Says, Notice, Accepted, Teardown, Beat_down, Query, Configure}
use Rattle.fc_machine.specs.Trace.{Fact, Of_protocol, Added_at, Plain_at, of_protocol, added, completed, completed_by}
use Rattle.fc_machine.specs.Transactions.{Did, is_completed, all_in, places, scope_at, rest_codes, turned, and_adds, and_completes, starts_by, continues_by, with_floor, all_get, plain}
use Rattle.fc_headline.proofs.Folding.{Folds}
use Rattle.fc_protocol.specs.ElementMachine.{admits}
use Rattle.fc_protocol.specs.Fence.{judge}
use Rattle.fc_protocol.specs.Messages.{same, is_name, Body, Claim, Sot, Mot, Eot, Trcomp, Abt, Floor, Malformed, Plain, Ask, Ask_record, claim_of}
use Rattle.fc_protocol.specs.Phases.{opening, adding, preparing, settling, aborting}
use Rattle.fc_protocol.specs.Records.{state_of, is_full, is_packed, clashes, any_taken, still_started}
use Rattle.fc_protocol.specs.Floors.{is_below, floor_code}
use Rattle.fc_protocol.specs.Trace as protocol
use Rattle.fc_protocol.specs.Trace.{Event, Opens, Prepares, Settles, facts_of, undone_facts}
use Rattle.fc_protocol.specs.declared.answers.TxnEntry.{TxnEntry}
use Rattle.fc_protocol.specs.declared.states.Decision.TheVariants.{Complete, Abort}
use Rattle.fc_protocol.specs.declared.verdict.Verdict.{Verdict}
use Rattle.fc_protocol.specs.declared.verdict.Verdict.TheVariants.{Claim as Claims, Unclaimed, Stale, Again, Gap, Next}
use Rattle.fc_protocol.proofs.Basics.{AllOf, cond_false}

abbrev pub protocol_owner : protocol.Fact → ℕ
protocol_owner (protocol.Opened_at p x ps) = p
protocol_owner (protocol.Prepared_at p x) = p
protocol_owner (protocol.Settled_at p x d) = p
protocol_owner (protocol.Claimed_at p e) = p

abbrev pub owner : {Op : Type 0} → Fact Op → ℕ
owner (Of_protocol f) = protocol_owner f
owner (Added_at p x ops) = p
owner (Plain_at p ops) = p

abbrev pub Owned : {Op : Type 0} → ℕ → List (Fact Op) → Type 0
Owned p fs = AllOf (λ f. owner f ≡ p) fs

event_owner : (p : ℕ) (x : Txn) (ps : List ℕ) (e : Event) → protocol_owner (protocol.fact_of p x ps e) ≡ p
event_owner p x ps Opens = refl
event_owner p x ps Prepares = refl
event_owner p x ps (Settles d) = refl

events_owned : (Op : Type 0) (p : ℕ) (x : Txn) (ps : List ℕ) (es : List Event) → Owned {Op = Op} p (of_protocol (facts_of p x ps es))
events_owned Op p x ps [] = tt
events_owned Op p x ps (e ∷ es) = (event_owner p x ps e, events_owned Op p x ps es)

lifted_append : (Op : Type 0) (p : ℕ) (xs ys : List protocol.Fact) → Owned {Op = Op} p (of_protocol xs) → Owned {Op = Op} p (of_protocol ys) → Owned {Op = Op} p (of_protocol (xs ++ ys))
lifted_append Op p [] ys h k = k
lifted_append Op p (x ∷ xs) ys h k = (h.0, lifted_append Op p xs ys h.1 k)

undone_if : (Op : Type 0) (b : Bool) (p : ℕ) (x : Txn) → Owned {Op = Op} p (of_protocol (cond b (protocol.Settled_at p x Abort ∷ []) []))
undone_if Op true p x = (refl, tt)
undone_if Op false p x = tt

undone_owned : (Op : Type 0) (p : ℕ) (ns : List TxnEntry) → Owned {Op = Op} p (of_protocol (undone_facts p ns))
undone_owned Op p [] = tt
undone_owned Op p (n ∷ ns) = lifted_append Op p (undone_facts p ns) (cond (still_started n.state) (protocol.Settled_at p n.txn Abort ∷ []) []) (undone_owned Op p ns) (undone_if Op (still_started n.state) p n.txn)

module _ {Config Op Subs : Type 0} (g : Ground Config Op Subs) (p : ℕ) where
  step_if : (b : Bool) (v w : Step Config Op Subs) → Owned p v.facts → Owned p w.facts → Owned p (cond b v w).facts
  step_if true v w f h = f
  step_if false v w f h = h

  did_if : (b : Bool) (v w : Did Config Op Subs) → Owned p v.facts → Owned p w.facts → Owned p (cond b v w).facts
  did_if true v w f h = f
  did_if false v w f h = h

  adds : (b : Bool) (x : Txn) (ops : List Op) (d : Did Config Op Subs) → Owned p d.facts → Owned p (and_adds g b p x ops d).facts
  adds true x ops d f = (refl, f)
  adds false x ops d f = f

  ends : (b : Bool) (el : Element Config Op Subs) (x : Txn) (d : Did Config Op Subs) → Owned p d.facts → Owned p (and_completes g b el x d).facts
  ends true el x d f = f
  ends false el x d f = f

  plain_owned : (el : Element Config Op Subs) (m : Configuring Op) (mode : Mode) → Owned p (plain g p el m mode).facts
  plain_owned el m mode = did_if (any_taken (bares el.records) (places g m.ops)) _ _ tt (did_if m.props _ _ tt (refl, tt))

  starts_owned : (el : Element Config Op Subs) (x : Txn) (ps : List ℕ) (sc : List Place) (ops : List Op) (fits below clash full : Bool) (codes : List ℕ) → Owned p (starts_by g p el x ps sc ops fits below clash full codes).facts
  starts_owned el x ps sc ops fits below clash full codes =
      let s = state_of x (bares el.records) in
      let t = opening fits below clash full (first_code codes) s in
      adds (t.code == 0) x ops (turned g p el x ps sc t _ _) (events_owned Op p x ps t.events)

  continues_owned : (el : Element Config Op Subs) (x : Txn) (ops : List Op) (codes : List ℕ) → Owned p (continues_by g p el x ops codes).facts
  continues_owned el x ops codes =
      let s = state_of x (bares el.records) in
      let t = adding (first_code codes) s in
      adds (t.code == 0) x ops (turned g p el x [] [] t _ _) (events_owned Op p x [] t.events)

  acts_owned : (el : Element Config Op Subs) (m : Configuring Op) (mode : Mode) (b : Body) → Owned p (acts g p el m mode b).facts
  acts_owned el m mode (Claim w) = tt
  acts_owned el m mode (Sot x ps sc) =
      starts_owned el x ps sc m.ops (admits p el.epoch x ps (not (all_in g sc)) sc) (is_below x el.floor) (clashes sc (bares el.records)) (is_packed (bares el.records)) (rest_codes g el sc m.ops)
  acts_owned el m mode (Mot x i) = continues_owned el x m.ops (rest_codes g el (scope_at x el.records) m.ops)
  acts_owned el m mode (Eot x) = events_owned Op p x [] (preparing (state_of x (bares el.records))).events
  acts_owned el m mode (Trcomp x) = ends (is_completed (settling Complete (state_of x (bares el.records))).new) el x _ (events_owned Op p x [] (settling Complete (state_of x (bares el.records))).events)
  acts_owned el m mode (Abt x) = events_owned Op p x [] (aborting (is_name x && not (is_below x el.floor)) (is_full (bares el.records)) (state_of x (bares el.records))).events
  acts_owned el m mode (Floor f) = did_if (floor_code el.epoch el.floor f (bares el.records) == 0) (with_floor g el m f) (all_get g el m (floor_code el.epoch el.floor f (bares el.records))) tt tt
  acts_owned el m mode Malformed = tt
  acts_owned el m mode Plain = plain_owned el m mode
  acts_owned el m mode Ask = tt
  acts_owned el m mode (Ask_record x) = tt

  unclaimed_owned : (el : Element Config Op Subs) (m : Configuring Op) (mode : Mode) (b : Body) → Owned p (unclaimed_by g p el m mode b).facts
  unclaimed_owned el m mode (Claim w) = (refl, tt)
  unclaimed_owned el m mode (Sot x ps sc) = tt
  unclaimed_owned el m mode (Mot x i) = tt
  unclaimed_owned el m mode (Eot x) = tt
  unclaimed_owned el m mode (Trcomp x) = tt
  unclaimed_owned el m mode (Abt x) = tt
  unclaimed_owned el m mode (Floor f) = (refl, tt)
  unclaimed_owned el m mode Malformed = tt
  unclaimed_owned el m mode Plain = did_if m.props _ _ tt (refl, tt)
  unclaimed_owned el m mode Ask = tt
  unclaimed_owned el m mode (Ask_record x) = tt

  verdict_owned : (el : Element Config Op Subs) (peer source : ℕ) (m : Configuring Op) (mode : Mode) (v : Verdict) → Owned p (by_verdict g p el peer source m mode v).facts
  verdict_owned el peer source m mode (Claims e) = (refl, undone_owned Op p (bares el.records))
  verdict_owned el peer source m mode Unclaimed = did_if (source == el.ce) _ _ (unclaimed_owned (heard_from g el source peer) m mode m.body) tt
  verdict_owned el peer source m mode Stale = tt
  verdict_owned el peer source m mode Again = tt
  verdict_owned el peer source m mode Gap = tt
  verdict_owned el peer source m mode Next = acts_owned (heard_from g el source peer) m mode m.body

  mode_owned : (el : Element Config Op Subs) (peer source : ℕ) (m : Configuring Op) (o : Option Mode) → Owned p (by_mode g p el peer source m o).facts
  mode_owned el peer source m None = tt
  mode_owned el peer source m (Some mode) = verdict_owned el peer source m mode (judge el.epoch el.master el.sequence source m.stamp (claim_of m.body))

  config_owned : (el : Element Config Op Subs) (peer source : ℕ) (m : Configuring Op) → Owned p (on_config g p el peer source m).facts
  config_owned el peer source m = step_if m.lost _ _ tt (step_if m.astray _ _ tt (mode_owned el peer source m m.mode))

  associate_owned : (el : Element Config Op Subs) (peer source : ℕ) (m : Message Op) → Owned p (from_associate g p el peer source m).facts
  associate_owned el peer source Setup = tt
  associate_owned el peer source (Beat w) = tt
  associate_owned el peer source (Response a) = tt
  associate_owned el peer source (Says m t) = tt
  associate_owned el peer source (Notice n) = tt
  associate_owned el peer source (Accepted r) = tt
  associate_owned el peer source Teardown = tt
  associate_owned el peer source (Beat_down w) = tt
  associate_owned el peer source (Query m l a q) = tt
  associate_owned el peer source (Configure m) = config_owned el peer source m

  accepts_owned : (el : Element Config Op Subs) (peer source : ℕ) (m : Message Op) (other : Step Config Op Subs) → Owned p other.facts → Owned p (accepts g el peer source m other).facts
  accepts_owned el peer source Setup other h = h
  accepts_owned el peer source (Beat w) other h = h
  accepts_owned el peer source (Response a) other h = h
  accepts_owned el peer source (Says m t) other h = h
  accepts_owned el peer source (Notice n) other h = h
  accepts_owned el peer source (Accepted r) other h = tt
  accepts_owned el peer source Teardown other h = h
  accepts_owned el peer source (Beat_down w) other h = h
  accepts_owned el peer source (Query m l a q) other h = h
  accepts_owned el peer source (Configure m) other h = h

  pub step_owned : (el : Element Config Op Subs) (i : Input Op) → Owned p (step g p el i).facts
  step_owned el (Opened peer) = tt
  step_owned el (Arrived peer source m) = step_if (is_ce g source) _ _ (accepts_owned el peer source m _ (step_if (contains_key el.associations source) _ _ (associate_owned el peer source m) tt)) tt
  step_owned el (Closed peer) = tt
  step_owned el (Moment moment) = step_if (is_due g (watched g (moved_on g el moment)).0) _ _ tt tt

-- Facts of others

first_false : (a b : Bool) → a ≡ false → (a && b) ≡ false
first_false true b e = cc
first_false false b e = refl

elsewhere : {A : Type 0} (p q : ℕ) (v w : A) → (p == q) ≡ false → cond (p == q) v w ≡ w
elsewhere p q v w e = cond_false (p == q) v w e

completed_one : {Op : Type 0} (p q : ℕ) (f : protocol.Fact) (fs : List (Fact Op)) (before : List Op) → (p == q) ≡ false → protocol_owner f ≡ q → completed_by p f fs before ≡ before
completed_one p q (protocol.Opened_at r x ps) fs before d e = refl
completed_one p q (protocol.Prepared_at r x) fs before d e = refl
completed_one p q (protocol.Settled_at r x y) fs before d e = cond_false (p == r) _ before (subst (λ v. (p == v) ≡ false) (sym e) d)
completed_one p q (protocol.Claimed_at r x) fs before d e = refl

completed_other : {Op : Type 0} (p q : ℕ) (new fs : List (Fact Op)) → (p == q) ≡ false → Owned q new → completed p (new ++ fs) ≡ completed p fs
completed_other p q [] fs d h = refl
completed_other p q (Of_protocol f ∷ new) fs d h = completed_one p q f (new ++ fs) (completed p (new ++ fs)) d h.0 ∙ completed_other p q new fs d h.1
completed_other p q (Added_at r x ops ∷ new) fs d h = completed_other p q new fs d h.1
completed_other p q (Plain_at r ops ∷ new) fs d h = cond_false (p == r) _ (completed p (new ++ fs)) (subst (λ v. (p == v) ≡ false) (sym h.0) d) ∙ completed_other p q new fs d h.1

added_other : {Op : Type 0} (p q : ℕ) (x : Txn) (new fs : List (Fact Op)) → (p == q) ≡ false → Owned q new → added p x (new ++ fs) ≡ added p x fs
added_other p q x [] fs d h = refl
added_other p q x (Of_protocol f ∷ new) fs d h = added_other p q x new fs d h.1
added_other p q x (Added_at r y ops ∷ new) fs d h =
    cond_false (p == r && same x y) _ (added p x (new ++ fs)) (first_false (p == r) (same x y) (subst (λ v. (p == v) ≡ false) (sym h.0) d)) ∙ added_other p q x new fs d h.1
added_other p q x (Plain_at r ops ∷ new) fs d h = added_other p q x new fs d h.1

-- what others do does not touch it
pub folds_other : {Config Op Subs : Type 0} (g : Ground Config Op Subs) (opening : Config) (p q : ℕ) (fl : Option Txn) (c : Config) (ns : List (Entry Op)) (new fs : List (Fact Op)) → (p == q) ≡ false → Owned q new → Folds g opening p fl c ns fs → Folds g opening p fl c ns (new ++ fs)
folds_other g opening p q fl c ns new fs d h f = record {
  settles = f.settles ∙ ap (folded g.effect opening) (sym (completed_other p q new fs d h));
  clean = subst (Clean g.effect opening) (sym (completed_other p q new fs d h)) f.clean;
  works = f.works;
  fine = f.fine;
  disjoint = f.disjoint;
  live = f.live;
  known = λ x b o. added_other p q x new fs d h ∙ f.known x b o;
}
