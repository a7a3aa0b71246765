-- What each Config leaves of what is registered, and tells, beside the settled configuration of the machine of an element.
use Rattle.std.proofs.Common.{◌≡◌, inl, inr, ℕ, ◌==◌, not, Bool, true, false, cond, List, [], ◌∷◌, slice_get, Option, Some, None, refl, sym, ap, ◌∙◌, subst}
use Rattle.std.specs.List.{AllByRecursion}
use Rattle.fc_abiding.proofs.Following.{named_state}
use Rattle.fc_base.specs.Ids.{Txn}
use Rattle.fc_events.specs.Events.{place, sight_of}
use Rattle.fc_events.specs.Reports.{is_held, reports, reports_but}
use Rattle.fc_events.specs.Setting.{exec_outcome}
use Rattle.fc_events.specs.declared.subscriptions.EventPlace.{EventPlace}
use Rattle.fc_events.specs.declared.subscriptions.Notice.{Notice}
use Rattle.fc_events.specs.declared.subscriptions.Subscription.{Subscription}
use Rattle.fc_exec.specs.Operations.{applied, executed, operations}
use Rattle.fc_exec.specs.declared.operations.Operation.{Operation}
use Rattle.fc_exec.specs.declared.operations.Operation.TheVariants as operation
use Rattle.fc_folding.proofs.Going.{MachineStep, body_at, ops_for, standing_as, taken_as}
use Rattle.fc_folding.proofs.Lying.{basis, selects_free}
use Rattle.fc_folding.proofs.Phases.{Fit, MachineDid, MachineElement, kept_as}
use Rattle.fc_folding.proofs.Whole.{folded_settled, folded_whole}
use Rattle.fc_holding.specs.Held.{held_instances, scope_of, state_at, waits}
use Rattle.fc_holding.specs.declared.holding.Holding.{Holding}
use Rattle.fc_machine.specs.ElementMachine as machine
use Rattle.fc_machine.specs.ElementState.{Entry, bares, first_code, ops_at, written}
use Rattle.fc_machine.specs.Messages.{Configuring}
use Rattle.fc_machine.specs.Transactions as phases
use Rattle.fc_machine.specs.Transactions.{is_completed, places, rest_codes, scope_at}
use Rattle.fc_modes.proofs.Outcomes.{kept_is_done}
use Rattle.fc_modes.specs.Modes.{Outcome, folded, outcome}
use Rattle.fc_modes.specs.declared.mode.Mode.{Mode}
use Rattle.fc_msg.specs.declared.message.Message.{Message}
use Rattle.fc_path.specs.declared.oper.Select.{Select}
use Rattle.fc_path.specs.declared.oper.Spot.{Spot}
use Rattle.fc_performing.specs.Performing.{Performed, are_props, mode_of, registered}
use Rattle.fc_performing.specs.Performing as performing
use Rattle.fc_phases.specs.Asking.{txn_of}
use Rattle.fc_phases.specs.Shapes.{rest_of}
use Rattle.fc_phases.specs.declared.asked.Asked.{Asked}
use Rattle.fc_phases.specs.declared.asked.Asked.TheVariants.{Claim, Floor, Plain, Start, Change, Commit, Complete as Completing, Abort as Aborting, Malformed}
use Rattle.fc_phases.specs.declared.values.Opening.{Opening}
use Rattle.fc_protocol.specs.Messages as said
use Rattle.fc_protocol.specs.Phases.{Turn, adding, settling}
use Rattle.fc_protocol.specs.Records.{any_taken, state_of}
use Rattle.fc_protocol.specs.declared.answers.TxnEntry.{TxnEntry}
use Rattle.fc_protocol.specs.declared.states.Decision.TheVariants.{Complete}
use Rattle.fc_protocol.specs.declared.states.TxnState.{TxnState}
use Rattle.fc_protocol.specs.declared.states.TxnState.TheVariants.{Started, Prepared, Completed, Aborted}
use Rattle.fc_protocol.specs.declared.verdict.Verdict.{Verdict}
use Rattle.fc_protocol.specs.declared.verdict.Verdict.TheVariants.{Claim as Claims, Unclaimed, Stale, Again, Gap, Next}
use Rattle.fc_standing.proofs.Commuting.{lawful, props_are}
use Rattle.fc_standing.proofs.Entries as entries
use Rattle.fc_standing.proofs.Records.{lie_beside}
use Rattle.fc_standing.proofs.Standing.{beside_state, standing_instances}
use Rattle.fc_standing.specs.Basis.{leaves_of, props_set}
use Rattle.fc_standing.specs.Holding.{IsSettled, LieBeside, holdings, standing}
use Rattle.fc_store.specs.Stores.{IsWhole, Stored}
use Rattle.fc_element.specs.Runs.{did_by}
use Rattle.fc_transactions.specs.Order.{by_verdict, unclaimed}
use Rattle.fc_transactions.specs.Phases.{Did, aborted_by, abort_turn, acts, all_get, both_codes, completed_by, continued_by, continues_by, executes, extends, extends_failed, floors_by, code_of_floor, is_admitted, is_held_in, marked, opened_txn, opens, opens_failed, others_held, performs, plain, prepares, refuses, rest_outcome, settles, start_turn_by, started, started_by, starts_by, turns}
use Rattle.fc_transactions.specs.Phases as real
use Rattle.fc_transactions.specs.State.{TransactionState}
use Rattle.fc_transactions.specs.declared.ledger.Ledger.{Ledger}
use Rattle.fc_lives.specs.SettledEvents.{AreQuiet, TellsAt}
use Rattle.fc_lives.proofs.Beside.{free_beside, others_are, taken_elsewhere}
use Rattle.fc_lives.proofs.Evaluating.{AreQuietThere, IsQuietThere, quiet_moved, quiet_reports, quiet_there, reports_quiet, reports_settled}
use Rattle.fc_lives.proofs.Leaving.{IsElsewhere, folded_frames, outcome_frames}
use Rattle.fc_standing.proofs.Copies.{settled_is}
use Rattle.fc_lives.proofs.Props.{IsSame, props_codes, props_same}
use Rattle.fc_lives.proofs.Seeing.{Completes, completing, pair_of, seen_beside, seen_elsewhere, seen_folded, seen_less}
use Rattle.fc_lives.proofs.Setting.{IsFreshLeaf, event_there, props_keep}

-- what has to wait does nothing
abbrev waiting : Bool → said.Body
waiting true = said.Malformed
waiting false = said.Plain

-- ---- the settled configuration of the machine, where a Config leaves it
adds_settled : (instances : List (ℕ × ℕ)) (b : Bool) (p : ℕ) (x : Txn) (ops : List Operation) (d : MachineDid) → (phases.and_adds (basis instances) b p x ops d).settled ≡ d.settled
adds_settled instances true p x ops d = refl
adds_settled instances false p x ops d = refl

module _ (p : ℕ) (instances : List (ℕ × ℕ)) (el : MachineElement) (kept : Option Message) (hs : List Holding) (subs : List Subscription) (fit : Fit instances el hs) (m : Message) (selects : List Select) (quiet : AreQuiet el.settled subs) where
  abbrev c : Stored
  c = el.settled

  abbrev ns : List (Entry Operation)
  ns = el.records

  abbrev ms : List TxnEntry
  ms = bares el.records

  abbrev l : Ledger
  l = kept_as el hs subs

  abbrev mode : Mode
  mode = mode_of m.flags.em

  abbrev Tells : Stored → Did → Type 0
  Tells settled d = TellsAt c settled l m selects d

  -- nothing changes
  still : (d : Did) → d.ledger.subscriptions ≡ subs → d.notices ≡ [] → Tells c d
  still d s n = record { before = subs; are = inl refl; told = quiet_reports c subs quiet ∙ λ i. (sym s i, sym n i) }

  still_at : (settled : Stored) (d : Did) → settled ≡ c → d.ledger.subscriptions ≡ subs → d.notices ≡ [] → Tells settled d
  still_at settled d e s n = subst (λ t. Tells t d) (sym e) (still d s n)

  -- ---- plain changes
  abbrev all : List (ℕ × ℕ)
  all = l.store.instances

  abbrev held : List (ℕ × ℕ)
  held = others_held l None

  there : (i : ℕ) (pair : ℕ × ℕ) → slice_get c.instances i ≡ Some pair → slice_get all i ≡ Some pair
  there i pair e = ap (λ ps. slice_get ps i) (standing_instances c (holdings ns)) ∙ e

  lies_at : (spot : Spot) (q : EventPlace) → (q.class ≡ spot.class) × (q.instance ≡ spot.instance) → is_held held q ≡ true → is_held held (place spot.class spot.instance q.event) ≡ true
  lies_at spot q t e = (λ i. is_held held (place (sym t.0 i) (sym t.1 i) q.event)) ∙ e

  fresh_all : (ops : List Operation) → ((pair : ℕ × ℕ) (event : ℕ) → is_held held (place pair.0 pair.1 event) ≡ true → AllByRecursion (IsElsewhere pair) ops) → AllByRecursion (IsFreshLeaf (IsQuietThere held c) l.store) (leaves_of ops)
  fresh_all [] f = tt
  fresh_all (operation.Leaf x ∷ ops) f = (λ others ilvs q t a g k r e. absurd ((f (x.spot.class, x.spot.instance) q.event (lies_at x.spot q (event_there l.store.library l.store.instances x.spot q g) e)).0 refl), fresh_all ops (λ pair event e. (f pair event e).1))
  fresh_all (operation.Commit ∷ ops) f = fresh_all ops (λ pair event e. (f pair event e).1)
  fresh_all (operation.Trcomp ∷ ops) f = fresh_all ops (λ pair event e. (f pair event e).1)

  module _ (free : AllByRecursion (LieBeside (operations selects)) (holdings ns)) where
    abbrev on_settled : Outcome Stored Operation
    on_settled = outcome applied mode c (operations selects)

    abbrev new : Stored
    new = on_settled.state

    is_folded : new ≡ folded applied c on_settled.done
    is_folded = kept_is_done applied (lawful (λ (n : Notice). 0) 0 instances).refused mode c (operations selects)

    new_settled : IsSettled new
    new_settled = subst IsSettled (sym is_folded) (folded_settled c on_settled.done fit.settled)

    new_whole : IsWhole new
    new_whole = subst IsWhole (sym is_folded) (folded_whole c on_settled.done fit.whole)

    elsewhere : (q : EventPlace) → is_held held q ≡ true → AllByRecursion (IsElsewhere (pair_of q)) (operations selects)
    elsewhere q e = taken_elsewhere all (pair_of q) (operations selects) ns e free

    now_is : (executed mode l.store selects).state ≡ standing new (holdings ns)
    now_is = beside_state mode c (holdings ns) (operations selects) fit.apart free

    seen_now : (q : EventPlace) → is_held held q ≡ false → sight_of (executed mode l.store selects).state q ≡ sight_of new q
    seen_now q e =
        ap (λ (t : Stored). sight_of t q) now_is
        ∙ seen_beside new (holdings ns) q fit.apart new_settled new_whole (λ i g. free_beside all (pair_of q) i (there i (pair_of q) (ap (λ ps. slice_get ps i) (sym (outcome_frames mode c (operations selects)).instances) ∙ g)) ns e)

    seen_still : (q : EventPlace) → is_held held q ≡ false → sight_of l.store q ≡ sight_of c q
    seen_still q e = seen_beside c (holdings ns) q fit.apart fit.settled fit.whole (λ i g. free_beside all (pair_of q) i (there i (pair_of q) g) ns e)

    abbrev props : List Subscription
    props = (exec_outcome mode l.store subs selects).state.1

    props_quiet : AreQuietThere held c props
    props_quiet = props_keep (IsQuietThere held c) l.store mode subs selects (fresh_all (operations selects) (λ pair event e. elsewhere (place pair.0 pair.1 event) e)) (quiet_there held c subs quiet)

    moved_quiet : AreQuietThere held new subs
    moved_quiet = quiet_moved held c new subs (λ q e. seen_elsewhere mode c (operations selects) q (elsewhere q e)) (quiet_there held c subs quiet)

    -- at the settled configuration they do the same
    library_is : l.store.library ≡ c.library
    library_is = ap (λ (t : Stored). t.library) (settled_is c (holdings ns) fit.apart fit.settled fit.whole)

    seen_by : (q : EventPlace) (b : Bool) → is_held held q ≡ b → (b ≡ true → ⊥) → sight_of l.store q ≡ sight_of c q
    seen_by q true e n = absurd (n refl)
    seen_by q false e n = seen_still q e

    same_all : (ops : List Operation) → ((pair : ℕ × ℕ) (event : ℕ) → is_held held (place pair.0 pair.1 event) ≡ true → AllByRecursion (IsElsewhere pair) ops)
        → AllByRecursion (IsSame l.store c library_is (standing_instances c (holdings ns))) (leaves_of ops)
    same_all [] f = tt
    same_all (operation.Leaf x ∷ ops) f = (
      λ q g. seen_by q (is_held held q) refl (λ e. (f (x.spot.class, x.spot.instance) q.event (lies_at x.spot q (event_there c.library c.instances x.spot q g) e)).0 refl),
      same_all ops (λ pair event e. (f pair event e).1),
    )
    same_all (operation.Commit ∷ ops) f = same_all ops (λ pair event e. (f pair event e).1)
    same_all (operation.Trcomp ∷ ops) f = same_all ops (λ pair event e. (f pair event e).1)

    all_same : AllByRecursion (IsSame l.store c library_is (standing_instances c (holdings ns))) (leaves_of (operations selects))
    all_same = same_all (operations selects) (λ pair event e. elsewhere (place pair.0 pair.1 event) e)

    abbrev props_there : List Subscription
    props_there = (exec_outcome mode c subs selects).state.1

    props_are_there : props ≡ props_there
    props_are_there = props_same l.store c library_is (standing_instances c (holdings ns)) mode subs selects all_same

    executes_by : (body : said.Body) (b : Bool) → are_props selects ≡ b
        → Tells (cond {A = MachineDid} b (phases.sets_props (basis instances) el (taken_as m selects body (operations selects)) mode) (phases.changes (basis instances) p el (taken_as m selects body (operations selects)) mode)).settled
        (performs p l selects held (cond {A = Performed} b (registered l.store (exec_outcome mode l.store subs selects)) (performing.configured subs (executed mode l.store selects))))
    executes_by body true e = record {
      before = props_there;
      are = inr (e, refl, props_codes l.store c library_is (standing_instances c (holdings ns)) mode subs selects all_same);
      told = ap (reports c) (sym props_are_there) ∙ sym (reports_settled held l.store c props props_quiet seen_still);
    }
    executes_by body false e = record { before = subs; are = inl refl; told = sym (reports_settled held (executed mode l.store selects).state new subs moved_quiet seen_now) }

    executes_at : (body : said.Body) → Tells (phases.executes (basis instances) p el (taken_as m selects body (operations selects)) mode).settled (executes p l m selects)
    executes_at body = executes_by body (are_props selects) refl

  plain_if : (b : Bool) → waits ms selects ≡ b → Tells (machine.acts (basis instances) p el (taken_as m selects (waiting b) (operations selects)) mode (waiting b)).settled (cond {A = Did} b (all_get l selects 18) (executes p l m selects))
  plain_if true e = still _ refl refl
  plain_if false e =
      let free : any_taken ms (places (basis instances) (operations selects)) ≡ false = selects_free instances ms selects e in
      let conf = taken_as m selects said.Plain (operations selects) in
      subst (λ b. Tells (cond {A = MachineDid} b (phases.all_get (basis instances) el conf 18) (phases.executes (basis instances) p el conf mode)).settled (executes p l m selects)) (sym free)
      (executes_at (lie_beside (λ n. 0) 0 instances ns (operations selects) free) said.Plain)

  plain_at : Tells (machine.acts (basis instances) p el (taken_as m selects (waiting (waits ms selects)) (operations selects)) mode (waiting (waits ms selects))).settled (plain p l m selects)
  plain_at = plain_if (waits ms selects) refl

  -- ---- EOT with TRCOMP
  module _ (x : Txn) (is : state_of x ms ≡ Some Prepared) where
    abbrev done : Stored
    done = folded applied c (ops_at x ns)

    abbrev after : List (Entry Operation)
    after = written x [] [] Completed ns

    completes : Completes x ns
    completes = completing x Prepared ns fit.apart is refl

    others_same : others_held l (Some x) ≡ held_instances all None (bares after)
    others_same = others_are all x ns Prepared fit.distinct is

    still_held : (q : EventPlace) → is_held (others_held l (Some x)) q ≡ true → sight_of done q ≡ sight_of c q
    still_held q e = seen_folded c (ops_at x ns) q (taken_elsewhere all (pair_of q) (ops_at x ns) after (ap (λ is. is_held is q) (sym others_same) ∙ e) completes.beside)

    now_done : (q : EventPlace) → is_held (others_held l (Some x)) q ≡ false → sight_of l.store q ≡ sight_of done q
    now_done q e =
        let frames = folded_frames c (ops_at x ns) in
        sym (seen_less (scope_at x ns) c.instances l.store q (standing_instances c (holdings ns)))
        ∙ ap (λ (t : Stored). sight_of t q) (entries.completes c x Prepared [] [] ns fit.apart is refl)
        ∙ seen_beside done (holdings after) q completes.held (folded_settled c (ops_at x ns) fit.settled) (folded_whole c (ops_at x ns) fit.whole)
        (λ i g. free_beside all (pair_of q) i (there i (pair_of q) (ap (λ ps. slice_get ps i) (sym frames.instances) ∙ g)) after (ap (λ is. is_held is q) (sym others_same) ∙ e))

    settles_at : (t : Turn) → Tells done (settles p l x t (reports_but (others_held l (Some x)) l.store subs))
    settles_at t = record {
      before = subs;
      are = inl refl;
      told =
          sym (reports_settled (others_held l (Some x)) l.store done subs (quiet_moved (others_held l (Some x)) c done subs still_held (quiet_there (others_held l (Some x)) c subs quiet)) now_done);
    }

  completes_at : (x : Txn) (s : Option TxnState) (codes shown : List ℕ) → state_of x ms ≡ s
      → Tells (phases.and_completes (basis instances) (is_completed (settling Complete s).new) el x (phases.turned (basis instances) p el x [] [] (settling Complete s) codes shown)).settled
      (completed_by p l x (settling Complete s))
  completes_at x None codes shown is = still _ refl refl
  completes_at x (Some Started) codes shown is = still _ refl refl
  completes_at x (Some Prepared) codes shown is = settles_at x is (settling Complete (Some Prepared))
  completes_at x (Some Completed) codes shown is = still _ refl refl
  completes_at x (Some Aborted) codes shown is = still _ refl refl

  -- ---- the others leave what is registered, and tell nothing
  abbrev Silent : Did → Type 0
  Silent d = (d.ledger.subscriptions ≡ subs) × (d.notices ≡ [])

  silent_if : (b : Bool) (d e : Did) → Silent d → Silent e → Silent (cond b d e)
  silent_if true d e f g = f
  silent_if false d e f g = g

  starts_silent : (o : Opening) (rest : List Select) (code : ℕ) → Silent (starts_by p l o rest code)
  starts_silent o rest code =
      let done = rest_outcome o.instances (marked o.instances l.store) rest in
      let k = first_code done.codes in
      silent_if (code == 0) (started p l o rest) (refuses l rest code) (silent_if (k == 0) (opens p l o rest done) (opens_failed p l o done.codes k) (refl, refl) (refl, refl)) (refl, refl)

  continues_silent : (x : Txn) (rest : List Select) (code : ℕ) → Silent (continues_by p l x rest code)
  continues_silent x rest code =
      let done = rest_outcome (scope_of x ms) l.store rest in
      let k = first_code done.codes in
      silent_if (code == 0) (real.continued p l x rest) (refuses l rest code) (silent_if (k == 0) (extends p l x rest done) (extends_failed p l x done.codes k) (refl, refl) (refl, refl)) (refl, refl)

  silent : (settled : Stored) (d : Did) → settled ≡ c → Silent d → Tells settled d
  silent settled d e s = still_at settled d e s.0 s.1

  state_is : (x : Txn) → state_at x ms ≡ state_of x ms
  state_is x = named_state x ms fit.named

  abbrev conf_of : Asked → Configuring Operation
  conf_of a = taken_as m selects (body_at ms m selects a true Next) (ops_for selects a Next)

  floors_settled : (conf : Configuring Operation) (f : Txn) (code : ℕ) (b : Bool) → (cond {A = MachineDid} b (phases.with_floor (basis instances) el conf f) (phases.all_get (basis instances) el conf code)).settled ≡ c
  floors_settled conf f code true = refl
  floors_settled conf f code false = refl

  acts_at : (a : Asked) → Tells (machine.acts (basis instances) p el (conf_of a) mode (body_at ms m selects a true Next)).settled (acts p el.epoch l m selects a)
  acts_at (Claim w) = plain_at
  acts_at (Floor f) = silent _ _ (floors_settled (conf_of (Floor f)) (txn_of f) _ _) (refl, refl)
  acts_at Plain = plain_at
  acts_at (Start o) = silent _ _ (adds_settled instances _ p (opened_txn o) (operations (rest_of selects)) _) (starts_silent o (rest_of selects) (start_turn_by (is_admitted p el.epoch l.store.instances o) l.records o 0).code)
  acts_at (Change x) = silent _ _ (adds_settled instances _ p (txn_of x) (operations (rest_of selects)) _) (continues_silent (txn_of x) (rest_of selects) (adding 0 (state_at (txn_of x) ms)).code)
  acts_at (Commit x) = silent _ _ refl (refl, refl)
  acts_at (Completing x) =
      let y = txn_of x in
      let code = (settling Complete (state_of y ms)).code in
      subst (λ st. Tells (phases.completes (basis instances) p el y).settled (completed_by p l y (settling Complete st))) (sym (state_is y)) (completes_at y (state_of y ms) (code ∷ []) (code ∷ []) refl)
  acts_at (Aborting x) =
      let y = txn_of x in
      silent _ _ refl (silent_if (is_held_in (state_at y ms)) _ _ (refl, refl) (refl, refl))
  acts_at Malformed = silent _ _ refl (refl, refl)

  -- ---- while no life has claimed it
  abbrev early : Bool → Bool → said.Body
  early false at = said.Plain
  early true true = said.Malformed
  early true false = said.Plain

  unclaimed_at : (own at : Bool) → el.records ≡ []
      → Tells (cond {A = MachineDid} own (machine.unclaimed_by (basis instances) p el (taken_as m selects (early own at) (operations selects)) mode (early own at)) (phases.all_get (basis instances) el (taken_as m selects (early own at) (operations selects)) 12)).settled
      (cond {A = Did} (not own) (all_get l selects 12) (cond {A = Did} at (all_get l selects 21) (executes p l m selects)))
  unclaimed_at false at e = still _ refl refl
  unclaimed_at true true e = still _ refl refl
  unclaimed_at true false e = executes_at (subst (λ (xs : List (Entry Operation)). AllByRecursion (LieBeside (operations selects)) (holdings xs)) (sym e) tt) said.Plain

  -- ---- what is registered is what the machine has registered
  module _ (same : el.subs ≡ subs) where
    abbrev SameSubs : Did → MachineDid → Type 0
    SameSubs d e = d.ledger.subscriptions ≡ e.subs

    told_same : (settled : Stored) (before : List Subscription) (d : Did) (xs : List Subscription) → reports settled before ≡ (d.ledger.subscriptions, d.notices) → xs ≡ before → d.ledger.subscriptions ≡ (reports settled xs).0
    told_same settled before d xs t e = sym (ap (λ (r : List Subscription × List Notice). r.0) t) ∙ ap (λ z. (reports settled z).0) (sym e)

    adds_subs : (b : Bool) (x : Txn) (ops : List Operation) (d : MachineDid) → (phases.and_adds (basis instances) b p x ops d).subs ≡ d.subs
    adds_subs true x ops d = refl
    adds_subs false x ops d = refl

    floors_subs : (conf : Configuring Operation) (f : Txn) (code : ℕ) (b : Bool) → (cond {A = MachineDid} b (phases.with_floor (basis instances) el conf f) (phases.all_get (basis instances) el conf code)).subs ≡ el.subs
    floors_subs conf f code true = refl
    floors_subs conf f code false = refl

    module _ (free : AllByRecursion (LieBeside (operations selects)) (holdings ns)) where
      executed_same : (body : said.Body) (b : Bool) → are_props selects ≡ b
          → SameSubs (performs p l selects held (cond {A = Performed} b (registered l.store (exec_outcome mode l.store subs selects)) (performing.configured subs (executed mode l.store selects))))
          (cond {A = MachineDid} b (phases.sets_props (basis instances) el (taken_as m selects body (operations selects)) mode) (phases.changes (basis instances) p el (taken_as m selects body (operations selects)) mode))
      unfolding executes_by
      executed_same body true e =
          told_same c (props_there free) (performs p l selects held (registered l.store (exec_outcome mode l.store subs selects))) (props_set c el.subs mode (operations selects)).0 (executes_by free body true e).told
          (ap (λ z. (props_set c z mode (operations selects)).0) same ∙ ap (λ (r : List Subscription × List ℕ). r.0) (props_are mode c subs selects))
      executed_same body false e = told_same (new free) subs (performs p l selects held (performing.configured subs (executed mode l.store selects))) el.subs (executes_by free body false e).told same

      executes_same : (body : said.Body) → SameSubs (executes p l m selects) (phases.executes (basis instances) p el (taken_as m selects body (operations selects)) mode)
      executes_same body = executed_same body (are_props selects) refl

    plain_same : (b : Bool) → waits ms selects ≡ b → SameSubs (cond {A = Did} b (all_get l selects 18) (executes p l m selects)) (machine.acts (basis instances) p el (taken_as m selects (waiting b) (operations selects)) mode (waiting b))
    plain_same true e = sym same
    plain_same false e =
        let free : any_taken ms (places (basis instances) (operations selects)) ≡ false = selects_free instances ms selects e in
        let conf = taken_as m selects said.Plain (operations selects) in
        subst (λ b. SameSubs (executes p l m selects) (cond {A = MachineDid} b (phases.all_get (basis instances) el conf 18) (phases.executes (basis instances) p el conf mode))) (sym free)
        (executes_same (lie_beside (λ n. 0) 0 instances ns (operations selects) free) said.Plain)

    completes_same : (x : Txn) (s : Option TxnState) (codes shown : List ℕ) → state_of x ms ≡ s
        → SameSubs (completed_by p l x (settling Complete s)) (phases.and_completes (basis instances) (is_completed (settling Complete s).new) el x (phases.turned (basis instances) p el x [] [] (settling Complete s) codes shown))
    unfolding settles_at
    completes_same x None codes shown is = sym same
    completes_same x (Some Started) codes shown is = sym same
    completes_same x (Some Prepared) codes shown is =
        let t = settling Complete (Some Prepared) in
        told_same (done x is) subs (settles p l x t (reports_but (others_held l (Some x)) l.store subs)) el.subs (settles_at x is t).told same
    completes_same x (Some Completed) codes shown is = sym same
    completes_same x (Some Aborted) codes shown is = sym same

    acts_same : (a : Asked) → SameSubs (acts p el.epoch l m selects a) (machine.acts (basis instances) p el (conf_of a) mode (body_at ms m selects a true Next))
    acts_same (Claim w) = plain_same (waits ms selects) refl
    acts_same (Floor f) = sym (floors_subs (conf_of (Floor f)) (txn_of f) _ _ ∙ same)
    acts_same Plain = plain_same (waits ms selects) refl
    acts_same (Start o) = (starts_silent o (rest_of selects) (start_turn_by (is_admitted p el.epoch l.store.instances o) l.records o 0).code).0 ∙ sym (adds_subs _ (opened_txn o) (operations (rest_of selects)) _ ∙ same)
    acts_same (Change x) = (continues_silent (txn_of x) (rest_of selects) (adding 0 (state_at (txn_of x) ms)).code).0 ∙ sym (adds_subs _ (txn_of x) (operations (rest_of selects)) _ ∙ same)
    acts_same (Commit x) = sym same
    acts_same (Completing x) =
        let y = txn_of x in
        let code = (settling Complete (state_of y ms)).code in
        subst (λ st. SameSubs (completed_by p l y (settling Complete st)) (phases.completes (basis instances) p el y)) (sym (state_is y)) (completes_same y (state_of y ms) (code ∷ []) (code ∷ []) refl)
    acts_same (Aborting x) = (silent_if (is_held_in (state_at (txn_of x) ms)) _ _ (refl, refl) (refl, refl)).0 ∙ sym same
    acts_same Malformed = sym same

    unclaimed_same : (own at : Bool) → el.records ≡ []
        → SameSubs (cond {A = Did} (not own) (all_get l selects 12) (cond {A = Did} at (all_get l selects 21) (executes p l m selects)))
        (cond {A = MachineDid} own (machine.unclaimed_by (basis instances) p el (taken_as m selects (early own at) (operations selects)) mode (early own at)) (phases.all_get (basis instances) el (taken_as m selects (early own at) (operations selects)) 12))
    unclaimed_same false at e = sym same
    unclaimed_same true true e = sym same
    unclaimed_same true false e = executes_same (subst (λ (xs : List (Entry Operation)). AllByRecursion (LieBeside (operations selects)) (holdings xs)) (sym e) tt) said.Plain

-- what a Config does at an element that stands as one of the machine, and what the machine does
module _ (p : ℕ) (instances : List (ℕ × ℕ)) (el : MachineElement) (kept : Option Message) (hs : List Holding) (subs : List Subscription) (fit : Fit instances el hs) (m : Message) (selects : List Select) (peer : ℕ) (quiet : AreQuiet el.settled subs) where
  abbrev here : TransactionState
  here = standing_as p kept el hs subs

  abbrev now : MachineElement
  now = machine.heard_from (basis instances) el m.source peer

  now_fit : Fit instances now hs
  now_fit = record {
    held = fit.held;
    instances_are = fit.instances_are;
    settled = fit.settled;
    whole = fit.whole;
    apart = fit.apart;
    distinct = fit.distinct;
    named = fit.named;
  }

  abbrev mine : Bool
  mine = m.source == el.ce

  abbrev machine_by : Asked → Verdict → MachineStep
  machine_by a v = machine.by_verdict (basis instances) p el peer m.source (taken_as m selects (body_at (bares el.records) m selects a mine v) (ops_for selects a v)) (mode_of m.flags.em) v

  abbrev TellsIt : Stored → Option Did → Type 0
  TellsIt settled None = Unit {0}
  TellsIt settled (Some d) = TellsAt el.settled settled here.ledger m selects d

  tells_by : (a : Asked) (v : Verdict) → ((el.epoch == 0) ≡ true → el.records ≡ []) → (v ≡ Unclaimed → (el.epoch == 0) ≡ true) → TellsIt (machine_by a v).element.settled (did_by here m selects a v)
  tells_by a (Claims e) bare early = tt
  tells_by a Unclaimed bare early = unclaimed_at p instances now kept hs subs now_fit m selects quiet mine m.flags.at (bare (early refl))
  tells_by a Stale bare early = tt
  tells_by a Again bare early = tt
  tells_by a Gap bare early = tt
  tells_by a Next bare early = acts_at p instances now kept hs subs now_fit m selects quiet a

  pub verdict_tells : (a : Asked) (v : Verdict) → ((el.epoch == 0) ≡ true → el.records ≡ []) → (v ≡ Unclaimed → (el.epoch == 0) ≡ true) → (d : Did) → did_by here m selects a v ≡ Some d
      → TellsAt el.settled (machine_by a v).element.settled here.ledger m selects d
  verdict_tells a v bare early d e = subst (TellsIt (machine_by a v).element.settled) e (tells_by a v bare early)

  leaves_quiet : (settled : Stored) (d : Did) → TellsAt el.settled settled here.ledger m selects d → AreQuiet settled d.ledger.subscriptions
  leaves_quiet settled d t = reports_quiet settled t.before d.ledger.subscriptions d.notices t.told

  pub verdict_quiet : (a : Asked) (v : Verdict) → ((el.epoch == 0) ≡ true → el.records ≡ []) → (v ≡ Unclaimed → (el.epoch == 0) ≡ true)
      → AreQuiet (machine_by a v).element.settled (by_verdict here peer m selects a v).state.ledger.subscriptions
  verdict_quiet a (Claims e) bare early = quiet
  verdict_quiet a Unclaimed bare early = leaves_quiet _ (unclaimed here m selects) (tells_by a Unclaimed bare early)
  verdict_quiet a Stale bare early = quiet
  verdict_quiet a Again bare early = quiet
  verdict_quiet a Gap bare early = quiet
  verdict_quiet a Next bare early = leaves_quiet _ (acts here.id here.epoch here.ledger m selects a) (tells_by a Next bare early)

  pub verdict_same : el.subs ≡ subs → (a : Asked) (v : Verdict) → ((el.epoch == 0) ≡ true → el.records ≡ []) → (v ≡ Unclaimed → (el.epoch == 0) ≡ true)
      → (by_verdict here peer m selects a v).state.ledger.subscriptions ≡ (machine_by a v).element.subs
  verdict_same same a (Claims e) bare early = sym same
  verdict_same same a Unclaimed bare early = unclaimed_same p instances now kept hs subs now_fit m selects quiet same mine m.flags.at (bare (early refl))
  verdict_same same a Stale bare early = sym same
  verdict_same same a Again bare early = sym same
  verdict_same same a Gap bare early = sym same
  verdict_same same a Next bare early = acts_same p instances now kept hs subs now_fit m selects quiet same a
