-- Each Config at an element, and at the machine of an element.
use Rattle.std.proofs.Common.{◌≡◌, ℕ, ◌+◌, ◌==◌, ◌&&◌, not, Bool, true, false, cond, List, [], ◌∷◌, Option, Some, None, refl, sym, ap, ◌∙◌, subst}
use Rattle.std.specs.List.{AllByRecursion}
use Rattle.fc_abiding.proofs.Following.{admitted_is, floor_is, named_state}
use Rattle.fc_base.specs.Ids.{Txn}
use Rattle.fc_events.specs.Reports.{reports_but}
use Rattle.fc_events.specs.Setting.{exec_outcome}
use Rattle.fc_events.specs.declared.subscriptions.Subscription.{Subscription}
use Rattle.fc_exec.specs.Operations.{operations}
use Rattle.fc_exec.specs.declared.operations.Operation.{Operation}
use Rattle.fc_headline.proofs.Held.{bares_undone}
use Rattle.fc_holding.specs.Held.{has_all, state_at, waits}
use Rattle.fc_holding.specs.declared.holding.Holding.{Holding}
use Rattle.fc_machine.specs.ElementMachine as machine
use Rattle.fc_machine.specs.ElementState.{Entry, bares, undone_records}
use Rattle.fc_machine.specs.Messages.{Configuring}
use Rattle.fc_machine.specs.Transactions.{all_in, is_completed, places, rest_codes, scope_at}
use Rattle.fc_machine.specs.Transactions as phases
use Rattle.fc_msg.specs.declared.message.Message.{Message}
use Rattle.fc_path.specs.declared.oper.Select.{Select}
use Rattle.fc_performing.specs.Performing.{are_props, mode_of}
use Rattle.fc_phases.specs.Asking.{txn_of}
use Rattle.fc_phases.specs.Shapes.{rest_of}
use Rattle.fc_phases.specs.declared.asked.Asked.{Asked}
use Rattle.fc_phases.specs.declared.asked.Asked.TheVariants.{Claim, Floor, Plain, Start, Change, Commit, Complete as Completing, Abort as Aborting, Malformed}
use Rattle.fc_phases.specs.declared.values.Opening.{Opening}
use Rattle.fc_protocol.specs.ElementMachine.{admits}
use Rattle.fc_protocol.specs.Fence.{claims, judge}
use Rattle.fc_protocol.specs.Floors.{floor_code, is_below}
use Rattle.fc_protocol.specs.Messages as said
use Rattle.fc_protocol.specs.Messages.{Stamp, claim_of, is_epoch, is_name, stamp}
use Rattle.fc_protocol.specs.Phases.{adding, aborting, preparing, settling}
use Rattle.fc_protocol.specs.Records.{any_taken, clashes, is_full, is_packed, state_of}
use Rattle.fc_protocol.specs.Scopes.{Scope, lists}
use Rattle.fc_protocol.specs.declared.answers.TxnEntry.{TxnEntry}
use Rattle.fc_protocol.specs.declared.states.Decision.TheVariants.{Complete}
use Rattle.fc_protocol.specs.declared.verdict.Verdict.{Verdict}
use Rattle.fc_protocol.specs.declared.verdict.Verdict.TheVariants.{Claim as Claims, Unclaimed, Stale, Again, Gap, Next}
use Rattle.fc_standing.proofs.Entries as entries
use Rattle.fc_standing.proofs.Records.{lie_beside}
use Rattle.fc_standing.proofs.Standing.{standing_instances}
use Rattle.fc_standing.specs.Holding.{IsSettled, LieBeside, gone_back_to, holdings, standing}
use Rattle.fc_store.specs.Stores.{IsWhole, Stored}
use Rattle.fc_transactions.specs.Order.{Step, by_verdict, claim_in}
use Rattle.fc_transactions.specs.Phases.{Did, abort_turn, acts, all_get, code_of_floor, executes, floors_by, is_admitted, is_held_in, opened_txn, others_held, plain, shape_code, start_turn_by, starts_by}
use Rattle.fc_transactions.specs.Phases as real
use Rattle.fc_transactions.specs.State.{TransactionState}
use Rattle.fc_transactions.specs.declared.ledger.Ledger.{Ledger}
use Rattle.fc_folding.proofs.Kept.{back_all, back_view, stay, stay_view, views}
use Rattle.fc_folding.proofs.Entries.{all_told, back_kept, kept_of, stay_kept}
use Rattle.fc_folding.proofs.Lying.{basis, selects_free}
use Rattle.fc_folding.proofs.Phases.{Does, Fit, MachineDid, MachineElement, aborts_at, completes_at, continues_at, floors_at, kept_as, performs_at, prepares_at, rest_there, starts_at, still}

abbrev pub MachineStep : Type 0
MachineStep = machine.Step Stored Operation (List Subscription)

-- an element that stands as one of the machine
abbrev pub standing_as : ℕ → Option Message → MachineElement → List Holding → List Subscription → TransactionState
standing_as p kept el hs subs = record { id = p; epoch = el.epoch; master = el.master; sequence = el.sequence; kept = kept; ce = el.ce; last_ce = el.last_ce; ledger = kept_as el hs subs }

-- and so does this one
pub record Means (instances : List (ℕ × ℕ)) (p : ℕ) (s : TransactionState) (el : MachineElement) : Type 0 where
  pub id : s.id ≡ p
  pub epoch : s.epoch ≡ el.epoch
  pub master : s.master ≡ el.master
  pub sequence : s.sequence ≡ el.sequence
  pub ce : s.ce ≡ el.ce
  pub last_ce : s.last_ce ≡ el.last_ce
  pub records : s.ledger.records.entries ≡ bares el.records
  pub floor : s.ledger.records.floor ≡ el.floor
  pub held : views s.ledger.holdings ≡ kept_of instances el.records
  pub store : s.ledger.store ≡ standing el.settled (holdings el.records)
  pub settled : IsSettled el.settled
  pub whole : IsWhole el.settled
  pub instances_are : el.settled.instances ≡ instances

pub means_is : (instances : List (ℕ × ℕ)) (p : ℕ) (s : TransactionState) (el : MachineElement) → Means instances p s el → s ≡ standing_as p s.kept el s.ledger.holdings s.ledger.subscriptions
means_is instances p s el m =
    λ i. record {
      id = m.id i;
      epoch = m.epoch i;
      master = m.master i;
      sequence = m.sequence i;
      kept = s.kept;
      ce = m.ce i;
      last_ce = m.last_ce i;
      ledger = record { records = record { entries = m.records i; floor = m.floor i }; holdings = s.ledger.holdings; store = m.store i; subscriptions = s.ledger.subscriptions };
    }

-- a step is that of the machine
pub record Goes (instances : List (ℕ × ℕ)) (p : ℕ) (t : Step) (r : MachineStep) : Type 0 where
  pub means : Means instances p t.state r.element
  pub facts : t.facts ≡ r.facts

-- ---- a Config as the machine takes it, with what it asks there
abbrev pub taken_as : Message → List Select → said.Body → List Operation → Configuring Operation
taken_as m selects body ops = record {
  stamp = stamp m.corr;
  ack = m.flags.ack;
  mode = Some (mode_of m.flags.em);
  lost = false;
  astray = false;
  body = body;
  shape = shape_code m.flags.em;
  ops = ops;
  props = are_props selects;
  more = 0;
  bare = false;
}

-- what has to wait does nothing
abbrev waiting_body : Bool → said.Body
waiting_body true = said.Malformed
waiting_body false = said.Plain

abbrev next_body : List TxnEntry → List Select → Asked → said.Body
next_body ms selects (Claim w) = waiting_body (waits ms selects)
next_body ms selects (Floor f) = said.Floor (txn_of f)
next_body ms selects Plain = waiting_body (waits ms selects)
next_body ms selects (Start o) = said.Sot (opened_txn o) o.participants o.instances
next_body ms selects (Change x) = said.Mot (txn_of x) 0
next_body ms selects (Commit x) = said.Eot (txn_of x)
next_body ms selects (Completing x) = said.Trcomp (txn_of x)
next_body ms selects (Aborting x) = said.Abt (txn_of x)
next_body ms selects Malformed = said.Malformed

abbrev next_ops : List Select → Asked → List Operation
next_ops selects (Claim w) = operations selects
next_ops selects (Floor f) = operations selects
next_ops selects Plain = operations selects
next_ops selects (Start o) = operations (rest_of selects)
next_ops selects (Change x) = operations (rest_of selects)
next_ops selects (Commit x) = operations selects
next_ops selects (Completing x) = operations selects
next_ops selects (Aborting x) = operations selects
next_ops selects Malformed = operations selects

-- what an element that no life has claimed does with it
abbrev early_body : Bool → Bool → said.Body
early_body false at = said.Plain
early_body true true = said.Malformed
early_body true false = said.Plain

abbrev claim_body : Option ℕ → said.Body
claim_body None = said.Plain
claim_body (Some w) = said.Claim w

abbrev pub body_at : List TxnEntry → Message → List Select → Asked → Bool → Verdict → said.Body
body_at ms m selects a own (Claims e) = claim_body (claim_in a)
body_at ms m selects a own Unclaimed = early_body own m.flags.at
body_at ms m selects a own Stale = said.Plain
body_at ms m selects a own Again = said.Plain
body_at ms m selects a own Gap = said.Plain
body_at ms m selects a own Next = next_body ms selects a

abbrev pub ops_for : List Select → Asked → Verdict → List Operation
ops_for selects a (Claims e) = operations selects
ops_for selects a Unclaimed = operations selects
ops_for selects a Stale = operations selects
ops_for selects a Again = operations selects
ops_for selects a Gap = operations selects
ops_for selects a Next = next_ops selects a

-- ---- the verdict is the same
module _ (epoch master sequence sender : ℕ) (x : Stamp) where
  abbrev by_claim : Bool → Verdict
  by_claim b = cond b (Claims x.life) (cond (epoch == 0) Unclaimed (cond (x.life == epoch && sender == master) (cond (x.count == sequence) Again (cond (x.count == sequence + 1) Next Gap)) Stale))

  abbrev is_claims : Verdict → Bool
  is_claims (Claims e) = true
  is_claims Unclaimed = false
  is_claims Stale = false
  is_claims Again = false
  is_claims Gap = false
  is_claims Next = false

  unclaimed_by : (b : Bool) (v : Verdict) → is_claims v ≡ false → by_claim b ≡ v → by_claim false ≡ v
  unclaimed_by true v n e = absurd (let k : true ≡ false = ap is_claims e ∙ n in cc)
  unclaimed_by false v n e = e

  judged_plain : (o : Option ℕ) (v : Verdict) → is_claims v ≡ false → judge epoch master sequence sender x o ≡ v → judge epoch master sequence sender x None ≡ v
  judged_plain o v n e = unclaimed_by (claims epoch sender x o) v n e

  no_word : (b : said.Body) (o : Option ℕ) (v : Verdict) → claim_of b ≡ None → is_claims v ≡ false → judge epoch master sequence sender x o ≡ v → judge epoch master sequence sender x (claim_of b) ≡ v
  no_word b o v w n e = ap (judge epoch master sequence sender x) w ∙ judged_plain o v n e

  claim_word : (o : Option ℕ) → claim_of (claim_body o) ≡ o
  claim_word None = refl
  claim_word (Some w) = refl

  waiting_word : (b : Bool) → claim_of (waiting_body b) ≡ None
  waiting_word true = refl
  waiting_word false = refl

  next_word : (ms : List TxnEntry) (selects : List Select) (a : Asked) → claim_of (next_body ms selects a) ≡ None
  next_word ms selects (Claim w) = waiting_word (waits ms selects)
  next_word ms selects (Floor f) = refl
  next_word ms selects Plain = waiting_word (waits ms selects)
  next_word ms selects (Start o) = refl
  next_word ms selects (Change y) = refl
  next_word ms selects (Commit y) = refl
  next_word ms selects (Completing y) = refl
  next_word ms selects (Aborting y) = refl
  next_word ms selects Malformed = refl

  early_word : (own at : Bool) → claim_of (early_body own at) ≡ None
  early_word false at = refl
  early_word true true = refl
  early_word true false = refl

  pub judged_same : (ms : List TxnEntry) (m : Message) (selects : List Select) (a : Asked) (own : Bool) (v : Verdict) → judge epoch master sequence sender x (claim_in a) ≡ v
      → judge epoch master sequence sender x (claim_of (body_at ms m selects a own v)) ≡ v
  judged_same ms m selects a own (Claims e) j = ap (judge epoch master sequence sender x) (claim_word (claim_in a)) ∙ j
  judged_same ms m selects a own Unclaimed j = no_word (early_body own m.flags.at) (claim_in a) Unclaimed (early_word own m.flags.at) refl j
  judged_same ms m selects a own Stale j = no_word said.Plain (claim_in a) Stale refl refl j
  judged_same ms m selects a own Again j = no_word said.Plain (claim_in a) Again refl refl j
  judged_same ms m selects a own Gap j = no_word said.Plain (claim_in a) Gap refl refl j
  judged_same ms m selects a own Next j = no_word (next_body ms selects a) (claim_in a) Next (next_word ms selects a) refl j

-- ---- instances
module _ (p : ℕ) (instances : List (ℕ × ℕ)) (el : MachineElement) (kept : Option Message) (hs : List Holding) (subs : List Subscription) (fit : Fit instances el hs) (m : Message) (selects : List Select) where
  abbrev s : TransactionState
  s = standing_as p kept el hs subs

  abbrev l : Ledger
  l = kept_as el hs subs

  abbrev ms : List TxnEntry
  ms = bares el.records

  all_there : (sc : Scope) → all_in (basis instances) sc ≡ has_all instances sc
  all_there [] = refl
  all_there (i ∷ is) = ap (λ b. lists instances i && b) (all_there is)

  instances_there : l.store.instances ≡ instances
  instances_there = standing_instances el.settled (holdings el.records) ∙ fit.instances_are

  -- ---- plain changes
  executes_at : (body : said.Body) → AllByRecursion (LieBeside (operations selects)) (holdings el.records)
      → Does instances (executes p l m selects) (phases.executes (basis instances) p el (taken_as m selects body (operations selects)) (mode_of m.flags.em))
  executes_at body free =
      performs_at p instances el hs subs fit selects (mode_of m.flags.em) free (taken_as m selects body (operations selects)) (are_props selects) (others_held l None)
      (exec_outcome (mode_of m.flags.em) l.store subs selects) refl refl

  plain_if : (b : Bool) → waits ms selects ≡ b → Does instances (cond {A = Did} b (all_get l selects 18) (executes p l m selects)) (machine.acts (basis instances) p el (taken_as m selects (waiting_body b) (operations selects)) (mode_of m.flags.em) (waiting_body b))
  plain_if true e = still p instances el hs subs fit _ _ refl refl refl refl refl
  plain_if false e =
      let free : any_taken ms (places (basis instances) (operations selects)) ≡ false = selects_free instances ms selects e in
      let conf = taken_as m selects said.Plain (operations selects) in
      subst (λ b. Does instances (executes p l m selects) (cond {A = MachineDid} b (phases.all_get (basis instances) el conf 18) (phases.executes (basis instances) p el conf (mode_of m.flags.em)))) (sym free)
      (executes_at said.Plain (lie_beside (λ n. 0) 0 instances el.records (operations selects) free))

  plain_at : Does instances (plain p l m selects) (machine.acts (basis instances) p el (taken_as m selects (waiting_body (waits ms selects)) (operations selects)) (mode_of m.flags.em) (waiting_body (waits ms selects)))
  plain_at = plain_if (waits ms selects) refl

  -- ---- what is next
  state_is : (x : Txn) → state_at x ms ≡ state_of x ms
  state_is x = named_state x ms fit.named

  fits_is : (o : Opening) → is_epoch el.epoch ≡ true → is_admitted p el.epoch l.store.instances o ≡ admits p el.epoch (opened_txn o) o.participants (not (all_in (basis instances) o.instances)) o.instances
  fits_is o e =
      admitted_is p el.epoch l o e
      ∙ ap (λ b. admits p el.epoch (opened_txn o) o.participants (not b) o.instances) (ap (λ is. has_all is o.instances) instances_there ∙ sym (all_there o.instances))

  acts_at : (a : Asked) → is_epoch el.epoch ≡ true → Does instances (acts p el.epoch l m selects a) (machine.acts (basis instances) p el (taken_as m selects (next_body ms selects a) (next_ops selects a)) (mode_of m.flags.em) (next_body ms selects a))
  acts_at (Claim w) e = plain_at
  acts_at (Floor f) e =
      let conf = taken_as m selects (said.Floor (txn_of f)) (operations selects) in
      subst (λ code. Does instances (floors_by l selects (txn_of f) code) (phases.floors_by (basis instances) el conf (txn_of f) (floor_code el.epoch el.floor (txn_of f) ms))) (sym (floor_is p el.epoch l (txn_of f) e))
      (floors_at p instances el hs subs fit conf selects (txn_of f) (floor_code el.epoch el.floor (txn_of f) ms) refl)
  acts_at Plain e = plain_at
  acts_at (Start o) e =
      subst (λ fits. Does instances (starts_by p l o (rest_of selects) (start_turn_by (is_admitted p el.epoch l.store.instances o) l.records o 0).code)
      (phases.starts_by (basis instances) p el (opened_txn o) o.participants o.instances (operations (rest_of selects)) fits (is_below (opened_txn o) el.floor) (clashes o.instances ms) (is_packed ms) (rest_codes (basis instances) el o.instances (operations (rest_of selects)))))
      (fits_is o e) (starts_at p instances el hs subs fit o (rest_of selects) (is_admitted p el.epoch l.store.instances o))
  acts_at (Change x) e =
      let y = txn_of x in
      let rest = rest_of selects in
      subst (λ st. Does instances (real.continues_by p l y rest (adding 0 st).code) (phases.continues_by (basis instances) p el y (operations rest) (rest_codes (basis instances) el (scope_at y el.records) (operations rest)))) (sym (state_is y))
      (continues_at p instances el hs subs fit y rest (rest_codes (basis instances) el (scope_at y el.records) (operations rest)) (state_of y ms) (state_is y) refl (rest_there p instances el hs subs fit y rest))
  acts_at (Commit x) e =
      let y = txn_of x in
      let code = (preparing (state_of y ms)).code in
      subst (λ st. Does instances (real.prepared_by p l y (preparing st)) (phases.prepares (basis instances) p el y)) (sym (state_is y)) (prepares_at p instances el hs subs fit y (state_of y ms) (code ∷ code ∷ []) (code ∷ code ∷ []) refl)
  acts_at (Completing x) e =
      let y = txn_of x in
      let code = (settling Complete (state_of y ms)).code in
      subst (λ st. Does instances (real.completed_by p l y (settling Complete st)) (phases.completes (basis instances) p el y)) (sym (state_is y))
      (completes_at p instances el hs subs fit y (state_of y ms) (reports_but (others_held l (Some y)) l.store l.subscriptions) (code ∷ []) (code ∷ []) refl)
  acts_at (Aborting x) e =
      let y = txn_of x in
      let named = is_name y && not (is_below y el.floor) in
      let code = (aborting named (is_full ms) (state_of y ms)).code in
      subst (λ st. Does instances (real.aborted_by p l y (is_held_in st) (aborting named (is_full ms) st)) (phases.aborts (basis instances) p el y)) (sym (state_is y))
      (aborts_at p instances el hs subs fit y named (is_full ms) (state_of y ms) (code ∷ []) (code ∷ []) refl)
  acts_at Malformed e = still p instances el hs subs fit _ _ refl refl refl refl refl

  -- ---- by the verdict
  unclaimed_at : (own at : Bool) → el.records ≡ []
      → Does instances (cond {A = Did} (not own) (all_get l selects 12) (cond {A = Did} at (all_get l selects 21) (executes p l m selects)))
      (cond {A = MachineDid} own (machine.unclaimed_by (basis instances) p el (taken_as m selects (early_body own at) (operations selects)) (mode_of m.flags.em) (early_body own at)) (phases.all_get (basis instances) el (taken_as m selects (early_body own at) (operations selects)) 12))
  unclaimed_at false at e = still p instances el hs subs fit _ _ refl refl refl refl refl
  unclaimed_at true true e = still p instances el hs subs fit _ _ refl refl refl refl refl
  unclaimed_at true false e = executes_at said.Plain (subst (λ (ns : List (Entry Operation)). AllByRecursion (LieBeside (operations selects)) (holdings ns)) (sym e) tt)

  claims_store : Rattle.fc_holding.specs.Holdings.all_undone ms hs l.store ≡ standing el.settled (holdings (undone_records el.records))
  claims_store =
      back_view ms hs l.store ∙ ap (λ ks. back_all ms ks l.store) fit.held ∙ back_kept instances ms el.records (all_told el.records fit.distinct) l.store
      ∙ ap (λ is. gone_back_to is el.records l.store) (sym fit.instances_are) ∙ entries.claims el.settled el.records fit.apart

-- as it stands, with what holds of it
means_of : (instances : List (ℕ × ℕ)) (p : ℕ) (kept : Option Message) (el : MachineElement) (hs : List Holding) (subs : List Subscription) → Fit instances el hs → Means instances p (standing_as p kept el hs subs) el
means_of instances p kept el hs subs fit = record {
  id = refl;
  epoch = refl;
  master = refl;
  sequence = refl;
  ce = refl;
  last_ce = refl;
  records = refl;
  floor = refl;
  held = fit.held;
  store = refl;
  settled = fit.settled;
  whole = fit.whole;
  instances_are = fit.instances_are;
}

module _ (p : ℕ) (instances : List (ℕ × ℕ)) (el : MachineElement) (kept : Option Message) (hs : List Holding) (subs : List Subscription) (fit : Fit instances el hs) (m : Message) (selects : List Select) (peer : ℕ) where
  abbrev here : TransactionState
  here = standing_as p kept el hs subs

  -- the machine has heard of the sender
  abbrev now : MachineElement
  now = machine.heard_from (basis instances) el m.source peer

  now_fit : Fit instances now hs
  now_fit = record {
    held = fit.held;
    instances_are = fit.instances_are;
    settled = fit.settled;
    whole = fit.whole;
    apart = fit.apart;
    distinct = fit.distinct;
    named = fit.named;
  }

  abbrev mine : Bool
  mine = m.source == el.ce

  pub verdict_at : (a : Asked) (v : Verdict) → ((el.epoch == 0) ≡ true → el.records ≡ []) → (v ≡ Unclaimed → (el.epoch == 0) ≡ true) → (v ≡ Next → is_epoch el.epoch ≡ true)
      → Goes instances p (by_verdict here peer m selects a v) (machine.by_verdict (basis instances) p el peer m.source (taken_as m selects (body_at (bares el.records) m selects a mine v) (ops_for selects a v)) (mode_of m.flags.em) v)
  verdict_at a (Claims e) bare early is = record {
    means = record {
      id = refl;
      epoch = refl;
      master = refl;
      sequence = refl;
      ce = refl;
      last_ce = refl;
      records = sym (bares_undone el.records);
      floor = refl;
      held = stay_view (bares el.records) hs ∙ ap (stay (bares el.records)) fit.held ∙ stay_kept instances (bares el.records) el.records (all_told el.records fit.distinct);
      store = claims_store p instances el kept hs subs fit m selects;
      settled = fit.settled;
      whole = fit.whole;
      instances_are = fit.instances_are;
    };
    facts = refl;
  }
  verdict_at a Unclaimed bare early is =
      let x = unclaimed_at p instances now kept hs subs now_fit m selects mine m.flags.at (bare (early refl)) in
      record {
        means = record { id = refl; epoch = refl; master = refl; sequence = refl; ce = refl; last_ce = refl; records = x.records; floor = x.floor; held = x.held; store = x.store; settled = x.settled; whole = x.whole; instances_are = x.instances_are };
        facts = x.facts;
      }
  verdict_at a Stale bare early is = record { means = means_of instances p kept el hs subs fit; facts = refl }
  verdict_at a Again bare early is = record { means = means_of instances p kept now hs subs now_fit; facts = refl }
  verdict_at a Gap bare early is = record { means = means_of instances p kept now hs subs now_fit; facts = refl }
  verdict_at a Next bare early is =
      let x = acts_at p instances now kept hs subs now_fit m selects a (is refl) in
      record {
        means = record { id = refl; epoch = refl; master = refl; sequence = refl; ce = refl; last_ce = refl; records = x.records; floor = x.floor; held = x.held; store = x.store; settled = x.settled; whole = x.whole; instances_are = x.instances_are };
        facts = x.facts;
      }
