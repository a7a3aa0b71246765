-- The life of an element is that of the Configs that it takes.
use Rattle.std.proofs.Common.{◌≡◌, ℕ, ◌<◌, Bool, true, false, not, ◌&&◌, ◌==◌, ◌/◌, ◌%◌, ◌^◌, List, [], ◌∷◌, ◌++◌, map, length, append_assoc, if◌then◌else◌, refl, sym, ap, ap₂, subst, ◌∙◌}
use Rattle.std.proofs.lemmas.List.{length-map}
use Rattle.std.specs.List.{AllByRecursion}
use Rattle.fc_abiding.specs.Runs.{Came, IsHeard, Life, life_from, life_of}
use Rattle.fc_blocks.specs.Opening.{opened_store, with_own}
use Rattle.fc_element.specs.ElementMachine.{Turn, all_get, by_order, hearing_if, is_associated, is_ce, is_own, on_body, on_config, step, taking, turn, with_transactions}
use Rattle.fc_element.specs.ElementState.{ElementState, opened}
use Rattle.fc_element.specs.Runs.{Taken, after, facts, is_taken, ledgered, taken, taken_at, taken_body, taken_if}
use Rattle.fc_element.specs.declared.input.ElIn.{ElIn}
use Rattle.fc_element.specs.declared.input.ElIn.TheVariants.{Opened, Arrived, Closed, Moment}
use Rattle.fc_element.proofs.Ledgered.{after_ledgered, facts_ledgered}
use Rattle.fc_exec.specs.declared.operations.Operation.{Operation}
use Rattle.fc_folding.specs.Folding.{Fits, Folds, OfControls, is_control}
use Rattle.fc_machine.specs.Trace.{Fact}
use Rattle.fc_msg.specs.declared.message.Message.{Message}
use Rattle.fc_msg.specs.declared.message.MsgBody.{MsgBody}
use Rattle.fc_msg.specs.declared.message.MsgBody.TheVariants as body
use Rattle.fc_standing.specs.Holding.{IsSettled}
use Rattle.fc_store.specs.Stores.{IsWhole, IsWholeTree, Pairwise, Stored, Tree, declared_in, opening_tree, opens}
use Rattle.fc_store.specs.Stores as stores
use Rattle.fc_abiding.proofs.Following.{stale_facts, stale_heard, stale_state}
use Rattle.fc_abiding.proofs.Hearing.{life_heard}
use Rattle.fc_folding.proofs.Lives.{life_controller, life_fits, life_folds, life_unclaimed}
use Rattle.fc_lfbs.specs.BuiltIns.{built_in}
use Rattle.fc_transactions.specs.Order.{Step, asked_of, configured, judged}
use Rattle.fc_abiding.proofs.Hearing.{replaced_facts, replaced_heard, replaced_state}
use Rattle.fc_msg.specs.Messages.{message_fits}
use Rattle.fc_path.specs.Results.{results_fit}
use Rattle.fc_path.specs.declared.oper.Select.{Select}
use Rattle.fc_performing.specs.declared.out.Out.{Out}
use Rattle.fc_protocol.specs.Messages.{stamp}
use Rattle.fc_protocol.specs.declared.verdict.Verdict.TheVariants.{Stale}
use Rattle.fc_transactions.specs.State.{TransactionState}
use Rattle.fc_types.specs.declared.class.Class.{Class}
use Rattle.fc_lives.specs.Lives.{life_after}

-- ---- Configs that are taken, as those that came
abbrev came : Taken → Came
came t = record { peer = t.peer; message = t.message; selects = t.selects }

abbrev pub all_came : List Taken → List Came
all_came ts = map came ts

abbrev life : TransactionState → List (Fact Operation) → Life
life s fs = record { state = s; facts = fs }

life_by : (cs : List Taken) (t : TransactionState) (fs : List (Fact Operation)) → life_from (all_came cs) t fs ≡ life (ledgered t cs).state ((ledgered t cs).facts ++ fs)
life_by [] t fs = refl
life_by (c ∷ cs) t fs =
    let r = configured t c.peer c.message c.selects in
    life_by cs r.state (r.facts ++ fs) ∙ ap (life (ledgered r.state cs).state) (sym (append_assoc (ledgered r.state cs).facts r.facts fs))

none_behind : (xs : List (Fact Operation)) → xs ++ [] ≡ xs
none_behind [] = refl
none_behind (x ∷ xs) = ap (λ ys. x ∷ ys) (none_behind xs)

pub life_is : (id ce : ℕ) (library : List Class) (instances : List (ℕ × ℕ)) (is : List ElIn) → life_after id ce library instances is ≡ life_of id ce (opened_store library instances) (all_came (taken (opened id ce library instances) is))
life_is id ce library instances is =
    let s = opened id ce library instances in
    ap₂ life (after_ledgered s is) (facts_ledgered s is ∙ sym (none_behind (ledgered s.transactions (taken s is)).facts)) ∙ sym (life_by (taken s is) s.transactions [])

-- ---- each is of a control element
if_taken : (b : Bool) (t : Taken) (ts : List Taken) → is_control t.message.source ≡ true → OfControls (all_came ts) → OfControls (all_came (taken_if b t ++ ts))
if_taken true t ts control more = (control, more)
if_taken false t ts control more = more

of_body : (s : ElementState) (peer : ℕ) (m : Message) (b : MsgBody) (ts : List Taken) → is_control m.source ≡ true → OfControls (all_came ts) → OfControls (all_came (taken_body s peer m b ++ ts))
of_body s peer m (body.Config selects) ts control more = if_taken (is_taken s m selects) (record { peer = peer; message = m; selects = selects }) ts control more
of_body s peer m (body.Setup x) ts control more = more
of_body s peer m (body.SetupResponse x) ts control more = more
of_body s peer m (body.Teardown x) ts control more = more
of_body s peer m (body.ConfigResponse x) ts control more = more
of_body s peer m (body.Query x) ts control more = more
of_body s peer m (body.QueryResponse x) ts control more = more
of_body s peer m (body.Event x) ts control more = more
of_body s peer m body.Heartbeat ts control more = more

of_source : (s : ElementState) (peer : ℕ) (m : Message) (ts : List Taken) (b : Bool) → is_control m.source ≡ b → OfControls (all_came ts) → OfControls (all_came ((if b then taken_body s peer m m.body else []) ++ ts))
of_source s peer m ts true e more = of_body s peer m m.body ts e more
of_source s peer m ts false e more = more

of_input : (s : ElementState) (i : ElIn) (ts : List Taken) → OfControls (all_came ts) → OfControls (all_came (taken_at s i ++ ts))
of_input s (Opened peer) ts more = more
of_input s (Arrived peer m) ts more = of_source s peer m ts (is_ce m.source) refl more
of_input s (Closed peer) ts more = more
of_input s (Moment moment) ts more = more

pub of_controls : (s : ElementState) (is : List ElIn) → OfControls (all_came (taken s is))
of_controls s [] = tt
of_controls s (i ∷ is) = of_input s i (taken (step s i).state is) (of_controls (step s i).state is)

-- ---- a store that opens has no mark, and is whole
bare_trees : (library : List Class) (pairs : List (ℕ × ℕ)) → AllByRecursion (λ (t : Tree). t.held ≡ []) (map (opening_tree library) pairs)
bare_trees library [] = tt
bare_trees library (p ∷ ps) = (refl, bare_trees library ps)

pub bare : (library : List Class) (pairs : List (ℕ × ℕ)) → IsSettled (stores.opened library pairs)
bare library pairs = bare_trees library pairs

whole_trees : (library : List Class) (pairs : List (ℕ × ℕ)) → Pairwise (IsWholeTree library) pairs (map (opening_tree library) pairs)
whole_trees library [] = tt
whole_trees library (p ∷ ps) = (length-map (declared_in library p.0) (opens p.0), whole_trees library ps)

pub whole : (library : List Class) (pairs : List (ℕ × ℕ)) → IsWhole (stores.opened library pairs)
whole library pairs = whole_trees library pairs

-- ---- what holds of the life of the Configs holds of that of the element
module _ (id ce : ℕ) (library : List Class) (instances : List (ℕ × ℕ)) (is : List ElIn) where
  abbrev configs : List Came
  configs = all_came (taken (opened id ce library instances) is)

  abbrev store : Stored
  store = opened_store library instances

  back : life_of id ce store configs ≡ life_after id ce library instances is
  back = sym (life_is id ce library instances is)

  pub folds : Folds store (life_after id ce library instances is)
  folds = subst (Folds store) back (life_folds id ce store configs (bare (library ++ built_in) (with_own instances)) (whole (library ++ built_in) (with_own instances)) (of_controls (opened id ce library instances) is))

  pub fits : Fits (life_after id ce library instances is).state.ledger
  fits = subst (λ (l : Life). Fits l.state.ledger) back (life_fits id ce store configs (bare (library ++ built_in) (with_own instances)) (whole (library ++ built_in) (with_own instances)) (of_controls (opened id ce library instances) is))

  pub heard : IsHeard id ce (life_after id ce library instances is)
  heard = subst (IsHeard id ce) back (life_heard id ce store configs)

  pub unclaimed : (life_after id ce library instances is).state.epoch ≡ 0 → (life_after id ce library instances is).state.ledger.records.entries ≡ []
  unclaimed =
      subst (λ (l : Life). l.state.epoch ≡ 0 → l.state.ledger.records.entries ≡ []) back
      (life_unclaimed id ce store configs (bare (library ++ built_in) (with_own instances)) (whole (library ++ built_in) (with_own instances)) (of_controls (opened id ce library instances) is))

  pub controller : is_control ce ≡ true → is_control (life_after id ce library instances is).state.ce ≡ true
  controller =
      subst (λ (l : Life). is_control ce ≡ true → is_control l.state.ce ≡ true) back
      (life_controller id ce store configs (bare (library ++ built_in) (with_own instances)) (whole (library ++ built_in) (with_own instances)) (of_controls (opened id ce library instances) is))

-- ---- a Config that transactions make nothing of changes nothing
-- the state of a turn is as before, and nothing has happened
abbrev Nothing : ElementState → Turn → Type 0
Nothing s t = (t.state ≡ s) × (t.facts ≡ [])

module _ (s : ElementState) (peer : ℕ) (m : Message) (selects : List Select)
    (same : (configured s.transactions peer m selects).state ≡ s.transactions) (unheard : (configured s.transactions peer m selects).is_heard ≡ false)
    (unseen : (configured s.transactions peer m selects).facts ≡ []) where
  nothing : (outs : List Out) → Nothing s (turn s outs)
  nothing outs = (refl, refl)

  taking_by : (t : Step) → t.state ≡ s.transactions → t.is_heard ≡ false → t.facts ≡ [] → Nothing s (taking s peer m t)
  taking_by t state heard facts = (ap (λ (b : Bool). hearing_if b (with_transactions s t.state) peer m) heard ∙ ap (with_transactions s) state, facts)

  either_turn : (b : Bool) (t u : Turn) → Nothing s t → Nothing s u → Nothing s (if b then t else u)
  either_turn true t u h k = h
  either_turn false t u h k = k

  order_nothing : Nothing s (by_order s peer m selects)
  order_nothing =
      let taken = taking s peer m (configured s.transactions peer m selects) in
      let last = taking_by (configured s.transactions peer m selects) same unheard unseen in
      let moded = either_turn (m.flags.em == 0) (all_get s peer m selects 18) taken (refl, refl) last in
      let own = either_turn (not (is_own s m)) (all_get s peer m selects 4) (if m.flags.em == 0 then all_get s peer m selects 18 else taken) (refl, refl) moded in
      either_turn (not (results_fit selects && message_fits m)) (turn s []) (if not (is_own s m) then all_get s peer m selects 4 else (if m.flags.em == 0 then all_get s peer m selects 18 else taken)) (nothing []) own

  config_nothing : Nothing s (on_config s peer m selects)
  config_nothing = either_turn (is_associated s m) (by_order s peer m selects) (turn s []) order_nothing (nothing [])

  nothing_done : m.body ≡ body.Config selects → Nothing s (step s (Arrived peer m))
  unfolding step
  nothing_done is = either_turn (is_ce m.source) (on_body s peer m m.body) (turn s []) (subst (λ b. Nothing s (on_body s peer m b)) (sym is) config_nothing) (nothing [])

-- one whose verdict is that it is stale
pub stale_nothing : (s : ElementState) (peer : ℕ) (m : Message) (selects : List Select) → m.body ≡ body.Config selects → judged s.transactions m (asked_of m selects) ≡ Stale
    → Nothing s (step s (Arrived peer m))
stale_nothing s peer m selects is stale =
    let t = s.transactions in
    nothing_done s peer m selects (stale_state t peer m selects stale) (stale_heard t peer m selects stale) (stale_facts t peer m selects stale) is

-- one of a life that was replaced
pub replaced_nothing : (s : ElementState) (peer : ℕ) (m : Message) (selects : List Select) → (stamp m.corr).life < s.transactions.epoch → m.body ≡ body.Config selects
    → Nothing s (step s (Arrived peer m))
replaced_nothing s peer m selects below is =
    let t = s.transactions in
    nothing_done s peer m selects (replaced_state t peer m selects below) (replaced_heard t peer m selects below) (replaced_facts t peer m selects below) is
