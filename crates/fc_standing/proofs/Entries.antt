-- What the records of an element become, and the transactions that are held on its store.
use Rattle.std.proofs.Common.{◌≡◌, ℕ, Bool, true, false, List, [], ◌∷◌, ◌++◌, refl, sym, ap, subst, ◌∙◌, Some, None, append_assoc, append-nil, if◌then◌else◌}
use Rattle.std.specs.List.{AllByRecursion}
use Rattle.fc_base.specs.Ids.{Txn}
use Rattle.fc_exec.specs.Operations.{applied}
use Rattle.fc_exec.specs.declared.operations.Operation.{Operation}
use Rattle.fc_machine.specs.ElementState.{Entry, and_rest, bares, entry, flat, ops_at, ops_of, rest_added, undone_records, written}
use Rattle.fc_machine.specs.Transactions.{scope_at}
use Rattle.fc_modes.specs.Modes.{folded}
use Rattle.fc_protocol.specs.Messages.{same}
use Rattle.fc_protocol.specs.Records.{is_held, state_of, undone}
use Rattle.fc_protocol.specs.Scopes.{Scope}
use Rattle.fc_protocol.specs.declared.states.TxnState.{TxnState}
use Rattle.fc_protocol.specs.declared.states.TxnState.TheVariants.{Started, Prepared, Completed, Aborted}
use Rattle.fc_store.specs.Stores.{Stored, gone_back, over_mark, without_mark}
use Rattle.fc_store.proofs.Lists.{none_some, some_is}
use Rattle.fc_standing.specs.Holding.{AreHeld, Holding, IsApart, LieIn, gone_back_to, holdings, holdings_by, marking, standing, started_back}
use Rattle.fc_standing.proofs.Standing.{added_is, completed_is, undone_is}

abbrev choose : {A : Type 0} → Bool → A → A → A
choose b x y = if b then x else y

abbrev with_rests : Entry Operation → List Operation → Entry Operation
with_rests n ops = record { txn = n.txn; state = n.state; participants = n.participants; scope = n.scope; rests = and_rest n.rests ops }

-- where the record of x stands, and what it becomes
record At (x : Txn) (s : TxnState) (ns : List (Entry Operation)) : Type 0 where
  before : List (Entry Operation)
  n : Entry Operation
  more : List (Entry Operation)
  is : ns ≡ before ++ n ∷ more
  state : n.state ≡ s
  scope : scope_at x ns ≡ n.scope
  ops : ops_at x ns ≡ ops_of n
  writes : (ps : List ℕ) (sc : Scope) (t : TxnState) → written x ps sc t ns ≡ before ++ entry n.txn t n.participants n.scope n.rests ∷ more
  adds : (new : List Operation) → rest_added x new ns ≡ before ++ with_rests n new ∷ more

behind : (x : Txn) (s : TxnState) (n : Entry Operation) (ns : List (Entry Operation)) → same x n.txn ≡ false → At x s ns → At x s (n ∷ ns)
behind x s n ns e a = record {
  before = n ∷ a.before;
  n = a.n;
  more = a.more;
  is = ap (λ ms. n ∷ ms) a.is;
  state = a.state;
  scope = ap (λ b. choose b n.scope (scope_at x ns)) e ∙ a.scope;
  ops = ap (λ b. choose b (ops_of n) (ops_at x ns)) e ∙ a.ops;
  writes = λ ps sc t. ap (λ b. choose b (entry n.txn t n.participants n.scope n.rests ∷ ns) (n ∷ written x ps sc t ns)) e ∙ ap (λ ms. n ∷ ms) (a.writes ps sc t);
  adds = λ new. ap (λ b. choose b (with_rests n new ∷ ns) (n ∷ rest_added x new ns)) e ∙ ap (λ ms. n ∷ ms) (a.adds new);
}

at_by : (x : Txn) (s : TxnState) (n : Entry Operation) (ns : List (Entry Operation)) (b : Bool) → same x n.txn ≡ b → choose b (Some n.state) (state_of x (bares ns)) ≡ Some s
    → (state_of x (bares ns) ≡ Some s → At x s ns) → At x s (n ∷ ns)
at_by x s n ns true e f later = record {
  before = [];
  n = n;
  more = ns;
  is = refl;
  state = some_is n.state s f;
  scope = ap (λ b. choose b n.scope (scope_at x ns)) e;
  ops = ap (λ b. choose b (ops_of n) (ops_at x ns)) e;
  writes = λ ps sc t. ap (λ b. choose b (entry n.txn t n.participants n.scope n.rests ∷ ns) (n ∷ written x ps sc t ns)) e;
  adds = λ new. ap (λ b. choose b (with_rests n new ∷ ns) (n ∷ rest_added x new ns)) e;
}
at_by x s n ns false e f later = behind x s n ns e (later f)

find_at : (x : Txn) (s : TxnState) (ns : List (Entry Operation)) → state_of x (bares ns) ≡ Some s → At x s ns
find_at x s [] e = absurd (none_some s e)
find_at x s (n ∷ ns) e = at_by x s n ns (same x n.txn) refl e (λ f. find_at x s ns f)

-- ---- the held ones among them
append_by : (n : Entry Operation) (hs gs ks : List Holding) (b : Bool) → ks ≡ hs ++ gs → holdings_by b n ks ≡ holdings_by b n hs ++ gs
append_by n hs gs ks true e = ap (λ ls. record { scope = n.scope; ops = ops_of n } ∷ ls) e
append_by n hs gs ks false e = e

all_append : (ns ms : List (Entry Operation)) → holdings (ns ++ ms) ≡ holdings ns ++ holdings ms
all_append [] ms = refl
all_append (n ∷ ns) ms = append_by n (holdings ns) (holdings ms) (holdings (ns ++ ms)) (is_held n.state) (all_append ns ms)

abbrev held_as : Entry Operation → Holding
held_as n = record { scope = n.scope; ops = ops_of n }

with_held : (before : List (Entry Operation)) (n : Entry Operation) (more : List (Entry Operation)) → is_held n.state ≡ true → holdings (before ++ n ∷ more) ≡ holdings before ++ held_as n ∷ holdings more
with_held before n more e = all_append before (n ∷ more) ∙ ap (λ b. holdings before ++ holdings_by b n (holdings more)) e

without_held : (before : List (Entry Operation)) (n : Entry Operation) (more : List (Entry Operation)) → is_held n.state ≡ false → holdings (before ++ n ∷ more) ≡ holdings before ++ holdings more
without_held before n more e = all_append before (n ∷ more) ∙ ap (λ b. holdings before ++ holdings_by b n (holdings more)) e

-- ---- operations
flat_more : (rests : List (List Operation)) (ops : List Operation) → flat (rests ++ ops ∷ []) ≡ flat rests ++ ops
flat_more [] ops = append-nil ops
flat_more (r ∷ rests) ops = ap (λ os. r ++ os) (flat_more rests ops) ∙ sym (append_assoc r (flat rests) ops)

rests_more : (rests : List (List Operation)) (ops : List Operation) → flat (and_rest rests ops) ≡ flat rests ++ ops
rests_more rests [] = sym (append-nil (flat rests))
rests_more rests (op ∷ ops) = flat_more rests (op ∷ ops)

-- ---- the laws
opened_by : (x : Txn) (ps : List ℕ) (sc : Scope) (n : Entry Operation) (ns : List (Entry Operation)) (b : Bool) → choose b (Some n.state) (state_of x (bares ns)) ≡ None
    → (state_of x (bares ns) ≡ None → written x ps sc Started ns ≡ ns ++ entry x Started ps sc [] ∷ [])
    → choose b (entry n.txn Started n.participants n.scope n.rests ∷ ns) (n ∷ written x ps sc Started ns) ≡ n ∷ ns ++ entry x Started ps sc [] ∷ []
opened_by x ps sc n ns true e later = absurd (none_some n.state (sym e))
opened_by x ps sc n ns false e later = ap (λ ms. n ∷ ms) (later e)

opened_last : (x : Txn) (ps : List ℕ) (sc : Scope) (ns : List (Entry Operation)) → state_of x (bares ns) ≡ None → written x ps sc Started ns ≡ ns ++ entry x Started ps sc [] ∷ []
opened_last x ps sc [] e = refl
opened_last x ps sc (n ∷ ns) e = opened_by x ps sc n ns (same x n.txn) e (λ f. opened_last x ps sc ns f)

pub opens : (x : Txn) (ps : List ℕ) (sc : Scope) (ns : List (Entry Operation)) → state_of x (bares ns) ≡ None → holdings (written x ps sc Started ns) ≡ holdings ns ++ record { scope = sc; ops = [] } ∷ []
opens x ps sc ns e = ap holdings (opened_last x ps sc ns e) ∙ all_append ns (entry x Started ps sc [] ∷ [])

pub prepares : (x : Txn) (ps : List ℕ) (sc : Scope) (ns : List (Entry Operation)) → state_of x (bares ns) ≡ Some Started → holdings (written x ps sc Prepared ns) ≡ holdings ns
prepares x ps sc ns e =
    let a = find_at x Started ns e in
    ap holdings (a.writes ps sc Prepared) ∙ with_held a.before (entry a.n.txn Prepared a.n.participants a.n.scope a.n.rests) a.more refl
    ∙ sym (ap holdings a.is ∙ with_held a.before a.n a.more (ap is_held a.state))

record Stands (x : Txn) (s : TxnState) (ns : List (Entry Operation)) (a : At x s ns) : Type 0 where
  is : holdings ns ≡ holdings a.before ++ held_as a.n ∷ holdings a.more
  held : AreHeld (holdings a.before ++ held_as a.n ∷ holdings a.more)

stands : (x : Txn) (s : TxnState) (ns : List (Entry Operation)) (a : At x s ns) → AreHeld (holdings ns) → is_held s ≡ true → Stands x s ns a
stands x s ns a h e =
    let p : holdings ns ≡ holdings a.before ++ held_as a.n ∷ holdings a.more = ap holdings a.is ∙ with_held a.before a.n a.more (ap is_held a.state ∙ e) in
    record { is = p; held = subst AreHeld p h }

pub adds : (c : Stored) (x : Txn) (s : TxnState) (ns : List (Entry Operation)) (ops : List Operation) → AreHeld (holdings ns) → state_of x (bares ns) ≡ Some s → is_held s ≡ true → LieIn (scope_at x ns) ops
    → folded applied (standing c (holdings ns)) ops ≡ standing c (holdings (rest_added x ops ns))
adds c x s ns ops h e k l =
    let a = find_at x s ns e in
    let t = stands x s ns a h k in
    let new : holdings (rest_added x ops ns) ≡ holdings a.before ++ held_as (with_rests a.n ops) ∷ holdings a.more =
    ap holdings (a.adds ops) ∙ with_held a.before (with_rests a.n ops) a.more (ap is_held a.state ∙ k) in
    ap (λ hs. folded applied (standing c hs) ops) t.is ∙ added_is c (holdings a.before) (holdings a.more) (held_as a.n) ops t.held (subst (λ sc. LieIn sc ops) a.scope l)
    ∙ ap (λ os. standing c (holdings a.before ++ record { scope = a.n.scope; ops = os } ∷ holdings a.more)) (sym (rests_more a.n.rests ops)) ∙ ap (standing c) (sym new)

pub undoes : (c : Stored) (x : Txn) (s : TxnState) (ps : List ℕ) (sc : Scope) (ns : List (Entry Operation)) → AreHeld (holdings ns) → state_of x (bares ns) ≡ Some s → is_held s ≡ true
    → over_mark gone_back (marking (scope_at x ns) c.instances) (standing c (holdings ns)) ≡ standing c (holdings (written x ps sc Aborted ns))
undoes c x s ps sc ns h e k =
    let a = find_at x s ns e in
    let t = stands x s ns a h k in
    ap (λ z. over_mark gone_back (marking z c.instances) (standing c (holdings ns))) a.scope ∙ ap (λ hs. over_mark gone_back (marking a.n.scope c.instances) (standing c hs)) t.is
    ∙ undone_is c (holdings a.before) (holdings a.more) (held_as a.n) t.held
    ∙ ap (standing c) (sym (ap holdings (a.writes ps sc Aborted) ∙ without_held a.before (entry a.n.txn Aborted a.n.participants a.n.scope a.n.rests) a.more refl))

pub completes : (c : Stored) (x : Txn) (s : TxnState) (ps : List ℕ) (sc : Scope) (ns : List (Entry Operation)) → AreHeld (holdings ns) → state_of x (bares ns) ≡ Some s → is_held s ≡ true
    → over_mark without_mark (marking (scope_at x ns) c.instances) (standing c (holdings ns)) ≡ standing (folded applied c (ops_at x ns)) (holdings (written x ps sc Completed ns))
completes c x s ps sc ns h e k =
    let a = find_at x s ns e in
    let t = stands x s ns a h k in
    ap (λ z. over_mark without_mark (marking z c.instances) (standing c (holdings ns))) a.scope ∙ ap (λ hs. over_mark without_mark (marking a.n.scope c.instances) (standing c hs)) t.is
    ∙ completed_is c (holdings a.before) (holdings a.more) (held_as a.n) t.held
    ∙ ap (λ os. standing (folded applied c os) (holdings a.before ++ holdings a.more)) (sym a.ops)
    ∙ ap (standing (folded applied c (ops_at x ns))) (sym (ap holdings (a.writes ps sc Completed) ∙ without_held a.before (entry a.n.txn Completed a.n.participants a.n.scope a.n.rests) a.more refl))

-- ---- a claim
apart_less : (h x : Holding) (before more : List Holding) → AllByRecursion (IsApart h) (before ++ x ∷ more) → AllByRecursion (IsApart h) (before ++ more)
apart_less h x [] more a = a.1
apart_less h x (g ∷ before) more a = (a.0, apart_less h x before more a.1)

held_less : (before : List Holding) (x : Holding) (more : List Holding) → AreHeld (before ++ x ∷ more) → AreHeld (before ++ more)
held_less [] x more a = a.1.1
held_less (h ∷ before) x more a = (a.0, (apart_less h x before more a.1.0, held_less before x more a.1.1))

back_by : (c : Stored) (before : List Holding) (n : Entry Operation) (ns : List (Entry Operation)) (s : TxnState)
    → ((others : List Holding) → AreHeld (others ++ holdings ns) → gone_back_to c.instances ns (standing c (others ++ holdings ns)) ≡ standing c (others ++ holdings (undone_records ns)))
    → AreHeld (before ++ holdings_by (is_held s) n (holdings ns))
    → gone_back_to c.instances ns (started_back c.instances s n.scope (standing c (before ++ holdings_by (is_held s) n (holdings ns))))
    ≡ standing c (before ++ holdings_by (is_held (undone s)) (entry n.txn (undone s) n.participants n.scope n.rests) (holdings (undone_records ns)))
back_by c before n ns Started later a =
    ap (gone_back_to c.instances ns) (undone_is c before (holdings ns) (held_as n) a) ∙ later before (held_less before (held_as n) (holdings ns) a)
back_by c before n ns Prepared later a =
    let p : before ++ held_as n ∷ holdings ns ≡ (before ++ held_as n ∷ []) ++ holdings ns = sym (append_assoc before (held_as n ∷ []) (holdings ns)) in
    ap (λ hs. gone_back_to c.instances ns (standing c hs)) p ∙ later (before ++ held_as n ∷ []) (subst AreHeld p a)
    ∙ ap (standing c) (append_assoc before (held_as n ∷ []) (holdings (undone_records ns)))
back_by c before n ns Completed later a = later before a
back_by c before n ns Aborted later a = later before a

claimed : (c : Stored) (ns : List (Entry Operation)) (before : List Holding) → AreHeld (before ++ holdings ns) → gone_back_to c.instances ns (standing c (before ++ holdings ns)) ≡ standing c (before ++ holdings (undone_records ns))
claimed c [] before a = refl
claimed c (n ∷ ns) before a = back_by c before n ns n.state (λ others. claimed c ns others) a

pub claims : (c : Stored) (ns : List (Entry Operation)) → AreHeld (holdings ns) → gone_back_to c.instances ns (standing c (holdings ns)) ≡ standing c (holdings (undone_records ns))
claims c ns a = claimed c ns [] a
