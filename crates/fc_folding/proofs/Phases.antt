-- What each phase does on a store on which transactions are held, and what it does at the machine of an element.
use Rattle.std.proofs.Common.{◌≡◌, ℕ, zero, suc, ◌==◌, ◌&&◌, not, Bool, true, false, cond, List, [], ◌∷◌, ◌++◌, length, Option, Some, None, option_map, refl, sym, ap, ◌∙◌, subst, append-nil}
use Rattle.std.proofs.lemmas.Bool.{eqb-true}
use Rattle.std.proofs.lemmas.Grind.{flat_map-append}
use Rattle.std.specs.List.{AllByRecursion}
use Rattle.fc_abiding.proofs.Following.{AreNamed, above_zero}
use Rattle.fc_base.specs.Ids.{Txn}
use Rattle.fc_events.specs.declared.subscriptions.Notice.{Notice}
use Rattle.fc_events.specs.declared.subscriptions.Subscription.{Subscription}
use Rattle.fc_events.specs.Setting.{exec_outcome}
use Rattle.fc_exec.specs.Operations.{applied, executed, operations}
use Rattle.fc_exec.specs.Operations as exec
use Rattle.fc_exec.specs.declared.operations.Operation.{Operation}
use Rattle.fc_headline.proofs.Forgetting.{bares_without}
use Rattle.fc_headline.proofs.Held.{bares_rest, bares_written}
use Rattle.fc_holding.specs.Held.{scope_of, state_at}
use Rattle.fc_holding.specs.Holdings.{over_held, settled_with, undone, with_rest, without}
use Rattle.fc_holding.specs.Holdings as holding
use Rattle.fc_holding.specs.declared.holding.Holding.{Holding}
use Rattle.fc_machine.specs.ElementState.{Element, Entry, bares, first_code, ops_at, rest_added, written}
use Rattle.fc_machine.specs.ElementState as machine_state
use Rattle.fc_machine.specs.Ground.{Ground}
use Rattle.fc_machine.specs.Messages.{Configuring}
use Rattle.fc_machine.specs.Trace.{Fact, Added_at, Plain_at, of_protocol}
use Rattle.fc_machine.specs.Transactions.{checked, checked_shown, is_completed, places, rest_codes, scope_at}
use Rattle.fc_machine.specs.Transactions as machine
use Rattle.fc_modes.proofs.Outcomes.{done_is_accepted, kept_is_done}
use Rattle.fc_modes.specs.Modes.{Outcome, accepted, folded, outcome}
use Rattle.fc_modes.specs.declared.mode.Mode.{Mode}
use Rattle.fc_modes.specs.declared.mode.Mode.TheVariants.{AllOrNone}
use Rattle.fc_path.specs.declared.oper.Select.{Select}
use Rattle.fc_performing.specs.Performing.{Performed, are_props, performed, registered}
use Rattle.fc_performing.specs.Performing as performing
use Rattle.fc_phases.specs.declared.values.Opening.{Opening}
use Rattle.fc_protocol.proofs.Basics.{cond_true, none_some, same_self, some_same}
use Rattle.fc_protocol.proofs.Records.{state_written}
use Rattle.fc_protocol.specs.Floors.{floor_code, held_under, is_below, is_under}
use Rattle.fc_protocol.specs.Messages.{same}
use Rattle.fc_protocol.specs.OneElement.{Distinct}
use Rattle.fc_protocol.specs.Phases.{Turn, adding, aborting, becomes, failed, keeps, opening, preparing, settling}
use Rattle.fc_protocol.specs.Records.{clashes, is_held, is_packed, noted, state_of, write}
use Rattle.fc_protocol.specs.Scopes.{Scope}
use Rattle.fc_protocol.specs.Trace.{Opens, facts_of}
use Rattle.fc_protocol.specs.declared.answers.TxnEntry.{TxnEntry}
use Rattle.fc_protocol.specs.declared.states.Decision.TheVariants.{Complete}
use Rattle.fc_protocol.specs.declared.states.TxnState.{TxnState}
use Rattle.fc_protocol.specs.declared.states.TxnState.TheVariants.{Started, Prepared, Completed, Aborted}
use Rattle.fc_standing.proofs.Commuting.{lawful}
use Rattle.fc_standing.proofs.Copies.{copied_codes, working_is}
use Rattle.fc_standing.proofs.Entries as entries
use Rattle.fc_standing.proofs.Places.{begun_is}
use Rattle.fc_standing.proofs.Records.{may_begin, rest_done, rest_inside, rest_is}
use Rattle.fc_standing.proofs.Standing.{beside_codes, beside_state, folded_instances, marked_is}
use Rattle.fc_standing.specs.Holding.{AreHeld, IsSettled, LieBeside, LieIn, held_ops, holdings, marking, standing}
use Rattle.fc_standing.specs.Holding as standing
use Rattle.fc_store.specs.Stores.{IsWhole, Stored, Tree, gone_back, mark_of, over_mark, with_mark, without_mark}
use Rattle.fc_transactions.specs.Phases.{Did, abort_turn, aborted_by, adds, all_get, both_codes, continued, continued_by, continues_by, executes, extends, extends_failed, idles, is_held_in, marked, opened_holding, opened_txn, opens, opens_failed, performs, plain_facts, prepared_by, refuses, rest_outcome, settles, start_turn_by, started, started_by, starts_by, turns}
use Rattle.fc_transactions.specs.declared.ledger.Ledger.{Ledger}
use Rattle.fc_tx.specs.Records.{TxnRecords, turned}
use Rattle.fc_folding.specs.Folding.{ops_of}
use Rattle.fc_folding.proofs.Kept.{Kept, extend, find_in, first_rest, leave, over_kept, over_view, view, views, views_more, with_rest_view, without_view}
use Rattle.fc_folding.proofs.Entries.{entered, extend_kept, find_kept, forgotten, holdings_entered, holdings_forgotten, kept_of, kept_prepared, leave_kept, one_kept, opened_kept}
use Rattle.fc_folding.proofs.Lying.{basis}
use Rattle.fc_folding.proofs.Whole.{folded_settled, folded_whole}

abbrev pub MachineElement : Type 0
MachineElement = Element Stored Operation (List Subscription)

abbrev pub MachineDid : Type 0
MachineDid = machine.Did Stored Operation (List Subscription)

-- what an element keeps that stands as an element of the machine
abbrev pub kept_as : MachineElement → List Holding → List Subscription → Ledger
kept_as el hs subs = record { records = record { entries = bares el.records; floor = el.floor }; holdings = hs; store = standing el.settled (holdings el.records); subscriptions = subs }

-- what holds of it
pub record Fit (instances : List (ℕ × ℕ)) (el : MachineElement) (hs : List Holding) : Type 0 where
  pub held : views hs ≡ kept_of instances el.records
  pub instances_are : el.settled.instances ≡ instances
  pub settled : IsSettled el.settled
  pub whole : IsWhole el.settled
  pub apart : AreHeld (holdings el.records)
  pub distinct : Distinct (bares el.records)
  pub named : AreNamed (bares el.records)

-- what was done is what the machine did
pub record Does (instances : List (ℕ × ℕ)) (d : Did) (e : MachineDid) : Type 0 where
  pub records : d.ledger.records.entries ≡ bares e.records
  pub floor : d.ledger.records.floor ≡ e.floor
  pub held : views d.ledger.holdings ≡ kept_of instances e.records
  pub store : d.ledger.store ≡ standing e.settled (holdings e.records)
  pub settled : IsSettled e.settled
  pub whole : IsWhole e.settled
  pub instances_are : e.settled.instances ≡ instances
  pub facts : d.facts ≡ e.facts

-- ---- scopes
scope_by : (x : Txn) (n : Entry Operation) (ns : List (Entry Operation)) (b : Bool) → scope_of x (bares ns) ≡ scope_at x ns → cond b n.scope (scope_of x (bares ns)) ≡ cond b n.scope (scope_at x ns)
scope_by x n ns true e = refl
scope_by x n ns false e = e

scope_is : (x : Txn) (ns : List (Entry Operation)) → scope_of x (bares ns) ≡ scope_at x ns
scope_is x [] = refl
scope_is x (n ∷ ns) = scope_by x n ns (same x n.txn) (scope_is x ns)

opened_by : (x : Txn) (ps : List ℕ) (sc : Scope) (n : Entry Operation) (ns : List (Entry Operation)) (b : Bool) → same x n.txn ≡ b → cond b (Some n.state) (state_of x (bares ns)) ≡ None
    → (state_of x (bares ns) ≡ None → scope_at x (written x ps sc Started ns) ≡ sc)
    → scope_at x (cond b (machine_state.entry n.txn Started n.participants n.scope n.rests ∷ ns) (n ∷ written x ps sc Started ns)) ≡ sc
opened_by x ps sc n ns true e g r = absurd (none_some n.state (sym g))
opened_by x ps sc n ns false e g r = ap (λ c. cond c n.scope (scope_at x (written x ps sc Started ns))) e ∙ r g

scope_opened : (x : Txn) (ps : List ℕ) (sc : Scope) (ns : List (Entry Operation)) → state_of x (bares ns) ≡ None → scope_at x (written x ps sc Started ns) ≡ sc
scope_opened x ps sc [] g = ap (λ c. cond c sc []) (same_self x)
scope_opened x ps sc (n ∷ ns) g = opened_by x ps sc n ns (same x n.txn) refl g (λ i. scope_opened x ps sc ns i)

-- ---- the mark of one that is held
mark_by : (change : Tree → Tree) (o : Option Kept) (mark : List (ℕ × ℕ)) (ops : List Operation) (s : Stored) → option_map (λ (k : Kept). k.1) o ≡ Some (mark, ops) → over_kept change o s ≡ over_mark change mark s
mark_by change None mark ops s e = absurd (none_some (mark, ops) e)
mark_by change (Some k) mark ops s e = ap (λ (q : List (ℕ × ℕ) × List Operation). over_mark change q.0 s) (some_same k.1 (mark, ops) e)

module _ (p : ℕ) (instances : List (ℕ × ℕ)) (el : MachineElement) (hs : List Holding) (subs : List Subscription) (fit : Fit instances el hs) where
  abbrev g : Ground Stored Operation (List Subscription)
  g = basis instances

  abbrev c : Stored
  c = el.settled

  abbrev ns : List (Entry Operation)
  ns = el.records

  abbrev ms : List TxnEntry
  ms = bares el.records

  abbrev l : Ledger
  l = kept_as el hs subs

  -- ---- nothing changes
  pub still : (d : Did) (e : MachineDid) → d.ledger ≡ l → e.records ≡ el.records → e.floor ≡ el.floor → e.settled ≡ el.settled → d.facts ≡ e.facts → Does instances d e
  still d e a b f s i = record {
    records = ap (λ (k : Ledger). k.records.entries) a ∙ ap bares (sym b);
    floor = ap (λ (k : Ledger). k.records.floor) a ∙ sym f;
    held = ap (λ (k : Ledger). views k.holdings) a ∙ fit.held ∙ ap (kept_of instances) (sym b);
    store = ap (λ (k : Ledger). k.store) a ∙ ap (λ (t : Stored). standing t (holdings ns)) (sym s) ∙ ap (λ (xs : List (Entry Operation)). standing e.settled (holdings xs)) (sym b);
    settled = subst IsSettled (sym s) fit.settled;
    whole = subst IsWhole (sym s) fit.whole;
    instances_are = ap (λ (t : Stored). t.instances) s ∙ fit.instances_are;
    facts = i;
  }

  at_mark : (change : Tree → Tree) (x : Txn) (s : TxnState) (t : Stored) → state_of x ms ≡ Some s → is_held s ≡ true → over_held change (holding.found x hs) t ≡ over_mark change (marking (scope_at x ns) c.instances) t
  at_mark change x s t is h =
      over_view change x hs t ∙ ap (λ ks. over_kept change (find_in x ks) t) fit.held
      ∙ mark_by change (find_in x (kept_of instances ns)) (marking (scope_at x ns) instances) (ops_at x ns) t (find_kept instances x s ns is h)
      ∙ ap (λ is. over_mark change (marking (scope_at x ns) is) t) (sym fit.instances_are)

  gone : (x : Txn) (t s : TxnState) → is_held t ≡ false → state_of x ms ≡ Some s → is_held s ≡ true → views (without x hs) ≡ kept_of instances (written x [] [] t ns)
  gone x t s d is h = without_view x hs ∙ ap (leave x) fit.held ∙ leave_kept instances x [] [] t s ns d is h

  -- what is held goes back
  undoes : (x : Txn) (s : TxnState) → state_of x ms ≡ Some s → is_held s ≡ true → undone x hs l.store ≡ standing c (holdings (written x [] [] Aborted ns))
  undoes x s is h = at_mark gone_back x s l.store is h ∙ entries.undoes c x s [] [] ns fit.apart is h

  -- ---- EOT with COMMIT
  pub prepares_at : (x : Txn) (s : Option TxnState) (codes shown : List ℕ) → state_of x ms ≡ s → Does instances (prepared_by p l x (preparing s)) (machine.turned g p el x [] [] (preparing s) codes shown)
  prepares_at x None codes shown is = still _ _ refl refl refl refl refl
  prepares_at x (Some Started) codes shown is = record {
    records = sym (bares_written x [] [] Prepared ns);
    floor = refl;
    held = fit.held ∙ sym (kept_prepared instances x [] [] ns is);
    store = ap (standing c) (sym (entries.prepares x [] [] ns is));
    settled = fit.settled;
    whole = fit.whole;
    instances_are = fit.instances_are;
    facts = refl;
  }
  prepares_at x (Some Prepared) codes shown is = still _ _ refl refl refl refl refl
  prepares_at x (Some Completed) codes shown is = still _ _ refl refl refl refl refl
  prepares_at x (Some Aborted) codes shown is = still _ _ refl refl refl refl refl

  -- ---- EOT with TRCOMP
  abbrev completing : Txn → Turn → List Subscription × List Notice → Did
  completing x t told = cond {A = Did} (is_completed t.new) (settles p l x t told) (turns p l x [] [] t l.holdings l.store (both_codes t.code))

  pub completes_at : (x : Txn) (s : Option TxnState) (told : List Subscription × List Notice) (codes shown : List ℕ) → state_of x ms ≡ s
      → Does instances (completing x (settling Complete s) told) (machine.and_completes g (is_completed (settling Complete s).new) el x (machine.turned g p el x [] [] (settling Complete s) codes shown))
  completes_at x None told codes shown is = still _ _ refl refl refl refl refl
  completes_at x (Some Started) told codes shown is = still _ _ refl refl refl refl refl
  completes_at x (Some Prepared) told codes shown is = record {
    records = sym (bares_written x [] [] Completed ns);
    floor = refl;
    held = gone x Completed Prepared refl is refl;
    store = at_mark without_mark x Prepared l.store is refl ∙ entries.completes c x Prepared [] [] ns fit.apart is refl;
    settled = folded_settled c (ops_at x ns) fit.settled;
    whole = folded_whole c (ops_at x ns) fit.whole;
    instances_are = folded_instances c (ops_at x ns) ∙ fit.instances_are;
    facts = refl;
  }
  completes_at x (Some Completed) told codes shown is = still _ _ refl refl refl refl refl
  completes_at x (Some Aborted) told codes shown is = still _ _ refl refl refl refl refl

  -- ---- ABT
  goes_back : (x : Txn) (s : TxnState) (d : Did) (e : MachineDid) → state_of x ms ≡ Some s → is_held s ≡ true → d.ledger.records ≡ record { entries = write x [] [] Aborted ms; floor = el.floor } → d.ledger.holdings ≡ without x hs → d.ledger.store ≡ undone x hs l.store
      → e.records ≡ written x [] [] Aborted ns → e.floor ≡ el.floor → e.settled ≡ c → d.facts ≡ e.facts → Does instances d e
  goes_back x s d e is h r q u b f t i = record {
    records = ap (λ (k : TxnRecords). k.entries) r ∙ sym (bares_written x [] [] Aborted ns) ∙ ap bares (sym b);
    floor = ap (λ (k : TxnRecords). k.floor) r ∙ sym f;
    held = ap views q ∙ gone x Aborted s refl is h ∙ ap (kept_of instances) (sym b);
    store = u ∙ undoes x s is h ∙ ap (λ (v : Stored). standing v (holdings (written x [] [] Aborted ns))) (sym t) ∙ ap (λ (xs : List (Entry Operation)). standing e.settled (holdings xs)) (sym b);
    settled = subst IsSettled (sym t) fit.settled;
    whole = subst IsWhole (sym t) fit.whole;
    instances_are = ap (λ (v : Stored). v.instances) t ∙ fit.instances_are;
    facts = i;
  }

  pub aborts_at : (x : Txn) (named full : Bool) (s : Option TxnState) (codes shown : List ℕ) → state_of x ms ≡ s
      → Does instances (aborted_by p l x (is_held_in s) (aborting named full s)) (machine.turned g p el x [] [] (aborting named full s) codes shown)
  aborts_at x false full None codes shown is = still _ _ refl refl refl refl refl
  aborts_at x true true None codes shown is = still _ _ refl refl refl refl refl
  aborts_at x true false None codes shown is = record {
    records = sym (bares_written x [] [] Aborted ns);
    floor = refl;
    held = fit.held ∙ sym (entered (one_kept instances) x [] [] ns is);
    store = ap (standing c) (sym (holdings_entered x [] [] ns is));
    settled = fit.settled;
    whole = fit.whole;
    instances_are = fit.instances_are;
    facts = refl;
  }
  aborts_at x named full (Some Started) codes shown is = goes_back x Started _ _ is refl refl refl refl refl refl refl refl
  aborts_at x named full (Some Prepared) codes shown is = goes_back x Prepared _ _ is refl refl refl refl refl refl refl refl
  aborts_at x named full (Some Completed) codes shown is = still _ _ refl refl refl refl refl
  aborts_at x named full (Some Aborted) codes shown is = still _ _ refl refl refl refl refl

  -- ---- MOT
  abbrev done_in : Scope → List Select → Outcome Stored Operation
  done_in sc rest = rest_outcome sc l.store rest

  -- a change at the machine, where its rest fails with this code or not
  abbrev changes : Txn → List Operation → Turn → List ℕ → List ℕ → MachineDid
  changes x ops t codes shown = machine.and_adds g (t.code == 0) p x ops (machine.turned g p el x [] [] t codes shown)

  extends_at : (x : Txn) (rest : List Select) (sc : Scope) (codes shown : List ℕ) → state_at x ms ≡ Some Started → state_of x ms ≡ Some Started → sc ≡ scope_at x ns → first_code (done_in sc rest).codes ≡ 0
      → Does instances (extends p l x rest (done_in sc rest)) (changes x (operations rest) (keeps 0) codes shown)
  extends_at x rest sc codes shown at is e z = record {
    records = ap (λ (o : Option TxnState). noted x [] [] (adding 0 o).new ms) at ∙ sym (bares_rest x (operations rest) ns);
    floor = refl;
    held = with_rest_view x rest hs ∙ ap (extend x (operations rest)) fit.held ∙ extend_kept instances x (operations rest) Started ns is refl;
    store =
        rest_done sc l.store (operations rest) z
        ∙ entries.adds c x Started ns (operations rest) fit.apart is refl (subst (λ (z : Scope). LieIn z (operations rest)) e (rest_inside sc l.store (operations rest) z));
    settled = fit.settled;
    whole = fit.whole;
    instances_are = fit.instances_are;
    facts = ap (λ (o : Option TxnState). Added_at p x (operations rest) ∷ of_protocol (facts_of p x [] (adding 0 o).events)) at;
  }

  turn_failed : (code : ℕ) → (code == 0) ≡ false → adding code (Some Started) ≡ failed true code (keeps 0)
  turn_failed code e = ap (λ b. failed (not b) code (keeps 0)) e

  fails_at : (x : Txn) (ops : List Operation) (cs : List ℕ) (code : ℕ) (codes shown : List ℕ) → state_at x ms ≡ Some Started → state_of x ms ≡ Some Started → (code == 0) ≡ false
      → Does instances (extends_failed p l x cs code) (machine.turned g p el x [] [] (failed true code (keeps 0)) codes shown)
  fails_at x ops cs code codes shown at is e =
      let t : adding code (state_at x ms) ≡ failed true code (keeps 0) = ap (adding code) at ∙ turn_failed code e in
      goes_back x Started (extends_failed p l x cs code) (machine.turned g p el x [] [] (failed true code (keeps 0)) codes shown) is refl (ap (λ (u : Turn). turned x [] [] u l.records) t) refl refl refl refl refl
      (ap (λ (u : Turn). of_protocol (facts_of p x [] u.events)) t)

  continued_at : (x : Txn) (rest : List Select) (sc : Scope) (code : ℕ) (b : Bool) (codes shown : List ℕ) → state_at x ms ≡ Some Started → state_of x ms ≡ Some Started → sc ≡ scope_at x ns → first_code (done_in sc rest).codes ≡ code → (code == 0) ≡ b
      → Does instances (cond b (extends p l x rest (done_in sc rest)) (extends_failed p l x (done_in sc rest).codes code)) (changes x (operations rest) (failed (not b) code (keeps 0)) codes shown)
  continued_at x rest sc code true codes shown at is e z k = extends_at x rest sc codes shown at is e (z ∙ eqb-true code 0 k)
  continued_at x rest sc code false codes shown at is e z k =
      subst (λ b. Does instances (extends_failed p l x (done_in sc rest).codes code) (machine.and_adds g b p x (operations rest) (machine.turned g p el x [] [] (failed true code (keeps 0)) codes shown))) (sym k)
      (fails_at x (operations rest) (done_in sc rest).codes code codes shown at is k)

  pub rest_there : (x : Txn) (rest : List Select) → (done_in (scope_of x ms) rest).codes ≡ rest_codes g el (scope_at x ns) (operations rest)
  rest_there x rest =
      rest_is (λ n. 0) 0 instances el (scope_of x ms) (operations rest) fit.settled ∙ ap (λ sc. rest_codes g el sc (operations rest)) (scope_is x ns)

  abbrev mot_by : Txn → List Operation → List ℕ → Option TxnState → MachineDid
  mot_by x ops codes s = changes x ops (adding (first_code codes) s) (checked (adding 0 s).code codes (length ops)) (checked_shown g.is_shown ops (adding 0 s).code codes)

  pub continues_at : (x : Txn) (rest : List Select) (codes : List ℕ) (s : Option TxnState) → state_at x ms ≡ s → state_of x ms ≡ s → (done_in (scope_of x ms) rest).codes ≡ codes
      → Does instances (continues_by p l x rest (adding 0 s).code) (mot_by x (operations rest) codes s)
  continues_at x rest codes None at is e = still _ _ refl refl refl refl refl
  continues_at x rest codes (Some Started) at is e =
      let code = first_code (done_in (scope_of x ms) rest).codes in
      let q : code ≡ first_code codes = ap first_code e in
      subst (λ n. Does instances (continued p l x rest) (changes x (operations rest) (failed (not (n == 0)) n (keeps 0)) (checked 0 codes (length (operations rest))) (checked_shown g.is_shown (operations rest) 0 codes))) q
      (continued_at x rest (scope_of x ms) code (code == 0) (checked 0 codes (length (operations rest))) (checked_shown g.is_shown (operations rest) 0 codes) at is (scope_is x ns) refl refl)
  continues_at x rest codes (Some Prepared) at is e = still _ _ refl refl refl refl refl
  continues_at x rest codes (Some Completed) at is e = still _ _ refl refl refl refl refl
  continues_at x rest codes (Some Aborted) at is e = still _ _ refl refl refl refl refl

  -- ---- SOT
  abbrev starting_on : Scope → Stored
  starting_on sc = marked sc l.store

  abbrev begun : Scope → standing.Holding
  begun sc = record { scope = sc; ops = [] }

  begins : (sc : Scope) → clashes sc ms ≡ false → mark_of sc l.store ≡ marking sc c.instances
  begins sc f = begun_is c (holdings ns) sc (may_begin sc ns fit.apart f) fit.settled

  begun_on : (sc : Scope) → clashes sc ms ≡ false → starting_on sc ≡ standing c (holdings ns ++ begun sc ∷ [])
  begun_on sc f = ap (λ mark. over_mark with_mark mark l.store) (begins sc f) ∙ marked_is c (holdings ns) sc

  no_more : (gs : List standing.Holding) (sc : Scope) → held_ops (gs ++ begun sc ∷ []) ≡ held_ops gs
  no_more gs sc = flat_map-append (λ (h : standing.Holding). h.ops) gs (begun sc ∷ []) ∙ append-nil (held_ops gs)

  works_same : (sc : Scope) → clashes sc ms ≡ false → Rattle.fc_store.specs.Stores.settled [] (starting_on sc) ≡ Rattle.fc_store.specs.Stores.settled [] l.store
  works_same sc f =
      ap (Rattle.fc_store.specs.Stores.settled []) (begun_on sc f) ∙ working_is c (holdings ns ++ begun sc ∷ []) fit.settled ∙ ap (folded applied c) (no_more (holdings ns) sc)
      ∙ sym (working_is c (holdings ns) fit.settled)

  first_there : (sc : Scope) (rest : List Select) → clashes sc ms ≡ false → (rest_outcome sc (starting_on sc) rest).codes ≡ rest_codes g el sc (operations rest)
  first_there sc rest f =
      copied_codes sc AllOrNone (starting_on sc) (operations rest) ∙ ap (λ t. (outcome (exec.within sc) AllOrNone t (operations rest)).codes) (works_same sc f)
      ∙ sym (copied_codes sc AllOrNone l.store (operations rest)) ∙ rest_is (λ n. 0) 0 instances el sc (operations rest) fit.settled

  -- the records with one that begins
  module _ (o : Opening) (none : state_of (opened_txn o) ms ≡ None) (clear : clashes o.instances ms ≡ false) (turn_is : (code : ℕ) → start_turn_by true l.records o code ≡ opening true false false false code None) where
    abbrev x : Txn
    x = opened_txn o

    abbrev with_it : List (Entry Operation)
    with_it = written x o.participants o.instances Started ns

    abbrev new : Turn
    new = becomes Started 0 (Opens ∷ [])

    held_with : holdings with_it ≡ holdings ns ++ begun o.instances ∷ []
    held_with = entries.opens x o.participants o.instances ns none

    state_with : state_of x (bares with_it) ≡ Some Started
    state_with = ap (state_of x) (bares_written x o.participants o.instances Started ns) ∙ state_written x x o.participants o.instances Started ms ∙ cond_true (same x x) (Some Started) (state_of x ms) (same_self x)

    abbrev starts_as : Turn → List Operation → List ℕ → List ℕ → MachineDid
    starts_as t ops codes shown = machine.and_adds g (t.code == 0) p x ops (machine.turned g p el x o.participants o.instances t codes shown)

    marked_so : mark_of o.instances l.store ≡ marking o.instances instances
    marked_so = begins o.instances clear ∙ ap (marking o.instances) fit.instances_are

    kept_so : (rest : List Select) → ◌≡◌ {A = List (ℕ × ℕ) × List Operation} (mark_of o.instances l.store, ops_of (opened_holding o l.store rest)) (marking o.instances instances, operations rest)
    kept_so rest = λ i. (marked_so i, first_rest rest i)

    opens_at : (rest : List Select) (codes shown : List ℕ) → first_code (rest_outcome o.instances (starting_on o.instances) rest).codes ≡ 0
        → Does instances (opens p l o rest (rest_outcome o.instances (starting_on o.instances) rest)) (starts_as new (operations rest) codes shown)
    opens_at rest codes shown z =
        let ops = operations rest in
        let sc = o.instances in
        record {
          records = ap (λ (t : Turn). noted x o.participants sc t.new ms) (turn_is 0) ∙ sym (bares_written x o.participants sc Started ns) ∙ sym (bares_rest x ops with_it);
          floor = refl;
          held =
              views_more hs (opened_holding o l.store rest)
              ∙ ap (λ (ks : List Kept). ks ++ view (opened_holding o l.store rest) ∷ []) fit.held
              ∙ ap (λ (q : List (ℕ × ℕ) × List Operation). kept_of instances ns ++ (x, q) ∷ []) (kept_so rest)
              ∙ sym (opened_kept instances x o.participants sc ops ns none);
          store =
              rest_done sc (starting_on sc) ops z ∙ ap (λ t. folded applied t ops) (begun_on sc clear ∙ ap (standing c) (sym held_with))
              ∙ entries.adds c x Started with_it ops (subst AreHeld (sym held_with) (may_begin sc ns fit.apart clear)) state_with refl
              (subst (λ (z : Scope). LieIn z ops) (sym (scope_opened x o.participants sc ns none)) (rest_inside sc (starting_on sc) ops z));
          settled = fit.settled;
          whole = fit.whole;
          instances_are = fit.instances_are;
          facts = ap (λ (t : Turn). Added_at p x ops ∷ of_protocol (facts_of p x o.participants t.events)) (turn_is 0);
        }

    open_failed : (code : ℕ) → (code == 0) ≡ false → opening true false false false code None ≡ failed true code new
    open_failed code e = ap (λ b. failed (not b) code new) e

    opens_fails : (cs : List ℕ) (code : ℕ) (codes shown : List ℕ) → (code == 0) ≡ false → Does instances (opens_failed p l o cs code) (machine.turned g p el x o.participants o.instances (failed true code new) codes shown)
    opens_fails cs code codes shown e =
        let t : start_turn_by true l.records o code ≡ failed true code new = turn_is code ∙ open_failed code e in
        record {
          records = ap (λ (u : Turn). noted x o.participants o.instances u.new ms) t ∙ sym (bares_written x o.participants o.instances Aborted ns);
          floor = refl;
          held = fit.held ∙ sym (entered (one_kept instances) x o.participants o.instances ns none);
          store = ap (standing c) (sym (holdings_entered x o.participants o.instances ns none));
          settled = fit.settled;
          whole = fit.whole;
          instances_are = fit.instances_are;
          facts = ap (λ (u : Turn). of_protocol (facts_of p x o.participants u.events)) t;
        }

    started_by_code : (rest : List Select) (code : ℕ) (b : Bool) (codes shown : List ℕ) → first_code (rest_outcome o.instances (starting_on o.instances) rest).codes ≡ code → (code == 0) ≡ b
        → Does instances (cond b (opens p l o rest (rest_outcome o.instances (starting_on o.instances) rest)) (opens_failed p l o (rest_outcome o.instances (starting_on o.instances) rest).codes code))
        (starts_as (failed (not b) code new) (operations rest) codes shown)
    started_by_code rest code true codes shown z k = opens_at rest codes shown (z ∙ eqb-true code 0 k)
    started_by_code rest code false codes shown z k =
        let cs = (rest_outcome o.instances (starting_on o.instances) rest).codes in
        subst (λ b. Does instances (opens_failed p l o cs code) (machine.and_adds g b p x (operations rest) (machine.turned g p el x o.participants o.instances (failed true code new) codes shown))) (sym k)
        (opens_fails cs code codes shown k)

    started_at : (rest : List Select) (codes shown : List ℕ) (n : ℕ) → first_code (rest_outcome o.instances (starting_on o.instances) rest).codes ≡ n
        → Does instances (started p l o rest) (starts_as (opening true false false false n None) (operations rest) codes shown)
    started_at rest codes shown n q =
        let code = first_code (rest_outcome o.instances (starting_on o.instances) rest).codes in
        subst (λ n. Does instances (started p l o rest) (starts_as (opening true false false false n None) (operations rest) codes shown)) q (started_by_code rest code (code == 0) codes shown refl refl)

  module _ (o : Opening) (rest : List Select) where
    -- a start at the machine, by what it depends on
    abbrev sot_by : Bool → Bool → Bool → Bool → List ℕ → Option TxnState → MachineDid
    sot_by fits below clash full codes s =
        let t = opening fits below clash full (first_code codes) s in
        let check = (opening fits below clash full 0 s).code in
        machine.and_adds g (t.code == 0) p (opened_txn o) (operations rest)
        (machine.turned g p el (opened_txn o) o.participants o.instances t (checked check codes (length (operations rest))) (checked_shown g.is_shown (operations rest) check codes))

    starts_by_tests : (fits below clash full : Bool) (s : Option TxnState) → is_below (opened_txn o) el.floor ≡ below → clashes o.instances ms ≡ clash → is_packed ms ≡ full → state_of (opened_txn o) ms ≡ s
        → Does instances (starts_by p l o rest (opening fits below clash full 0 s).code) (sot_by fits below clash full (rest_codes g el o.instances (operations rest)) s)
    starts_by_tests false below clash full s b k f is = still _ _ refl refl refl refl refl
    starts_by_tests true below clash full (Some s) b k f is = still _ _ refl refl refl refl refl
    starts_by_tests true true clash full None b k f is = still _ _ refl refl refl refl refl
    starts_by_tests true false true full None b k f is = still _ _ refl refl refl refl refl
    starts_by_tests true false false true None b k f is = still _ _ refl refl refl refl refl
    starts_by_tests true false false false None b k f is =
        let codes = rest_codes g el o.instances (operations rest) in
        started_at o is k (λ code i. opening true (b i) (k i) (f i) code (is i)) rest (checked 0 codes (length (operations rest))) (checked_shown g.is_shown (operations rest) 0 codes) (first_code codes)
        (ap first_code (first_there o.instances rest k))

    pub starts_at : (fits : Bool) → Does instances (starts_by p l o rest (start_turn_by fits l.records o 0).code) (machine.starts_by g p el (opened_txn o) o.participants o.instances (operations rest) fits (is_below (opened_txn o) el.floor) (clashes o.instances ms) (is_packed ms) (rest_codes g el o.instances (operations rest)))
    starts_at fits = starts_by_tests fits (is_below (opened_txn o) el.floor) (clashes o.instances ms) (is_packed ms) (state_of (opened_txn o) ms) refl refl refl refl

  -- ---- floors
  nothing_under : (a b u h : Bool) → ◌≡◌ {A = ℕ} (cond (a && b) (cond u 16 (cond h 18 0)) 16) 0 → h ≡ false
  nothing_under true true true h e = absurd cc
  nothing_under true true false true e = absurd cc
  nothing_under true true false false e = refl
  nothing_under true false u h e = absurd cc
  nothing_under false b u h e = absurd cc

  pub floors_at : (m : Configuring Operation) (selects : List Select) (f : Txn) (code : ℕ) → floor_code el.epoch el.floor f ms ≡ code
      → Does instances (Rattle.fc_transactions.specs.Phases.floors_by l selects f code) (machine.floors_by g el m f code)
  floors_at m selects f zero e =
      let none : held_under f ms ≡ false = nothing_under (f.epoch == el.epoch) (not (f.number == 0)) (is_below f el.floor) (held_under f ms) e in
      record {
        records = sym (bares_without (λ y. is_under y f) ns);
        floor = refl;
        held = fit.held ∙ sym (forgotten (one_kept instances) f ns none);
        store = ap (standing c) (sym (holdings_forgotten f ns none));
        settled = fit.settled;
        whole = fit.whole;
        instances_are = fit.instances_are;
        facts = refl;
      }
  floors_at m selects f (suc code) e =
      subst (λ b. Does instances (Rattle.fc_transactions.specs.Phases.floors_by l selects f (suc code)) (cond {A = MachineDid} b (machine.with_floor g el m f) (machine.all_get g el m (suc code)))) (sym (above_zero code))
      (still _ _ refl refl refl refl refl)

  -- ---- plain changes
  module _ (selects : List Select) (mode : Mode) (free : AllByRecursion (LieBeside (operations selects)) (holdings ns)) where
    abbrev on_store : Outcome Stored Operation
    on_store = executed mode l.store selects

    abbrev on_settled : Outcome Stored Operation
    on_settled = outcome applied mode c (operations selects)

    done_same : on_store.done ≡ on_settled.done
    done_same =
        done_is_accepted applied mode l.store (operations selects) ∙ ap (λ codes. accepted codes (operations selects)) (beside_codes mode c (holdings ns) (operations selects) fit.apart free)
        ∙ sym (done_is_accepted applied mode c (operations selects))

    is_folded : on_settled.state ≡ folded applied c on_settled.done
    is_folded = kept_is_done applied (lawful (λ (n : Notice). 0) 0 instances).refused mode c (operations selects)

    abbrev told_by : Bool → Outcome Rattle.fc_events.specs.Setting.Stands Rattle.fc_path.specs.declared.oper.Leaf.Leaf → Performed
    told_by b q = cond {A = Performed} b (registered l.store q) (performing.configured l.subscriptions on_store)

    pub performs_at : (m : Configuring Operation) (b : Bool) (out : List (ℕ × ℕ)) (q : Outcome Rattle.fc_events.specs.Setting.Stands Rattle.fc_path.specs.declared.oper.Leaf.Leaf) → m.ops ≡ operations selects → are_props selects ≡ b
        → Does instances (performs p l selects out (told_by b q)) (cond {A = MachineDid} b (machine.sets_props g el m mode) (machine.changes g p el m mode))
    performs_at m true out q ops e = record {
      records = refl;
      floor = refl;
      held = fit.held;
      store = refl;
      settled = fit.settled;
      whole = fit.whole;
      instances_are = fit.instances_are;
      facts = ap (λ b. cond {A = List (Fact Operation)} b [] (Plain_at p [] ∷ [])) e;
    }
    performs_at m false out q ops e =
        let o : outcome applied mode c m.ops ≡ on_settled = ap (outcome applied mode c) ops in
        let state : (outcome applied mode c m.ops).state ≡ folded applied c on_settled.done = ap (λ (z : Outcome Stored Operation). z.state) o ∙ is_folded in
        record {
          records = refl;
          floor = refl;
          held = fit.held;
          store = beside_state mode c (holdings ns) (operations selects) fit.apart free ∙ ap (λ (z : Outcome Stored Operation). standing z.state (holdings ns)) (sym o);
          settled = subst IsSettled (sym state) (folded_settled c on_settled.done fit.settled);
          whole = subst IsWhole (sym state) (folded_whole c on_settled.done fit.whole);
          instances_are = ap (λ (t : Stored). t.instances) state ∙ folded_instances c on_settled.done ∙ fit.instances_are;
          facts = ap (λ b. cond {A = List (Fact Operation)} b [] (Plain_at p on_store.done ∷ [])) e ∙ ap (λ (ops : List Operation). Plain_at p ops ∷ []) (done_same ∙ ap (λ (z : Outcome Stored Operation). z.done) (sym o));
        }
