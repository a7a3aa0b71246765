-- The plainest masters that do what the protocol says: they keep what it says, and the changes of each transaction. This profile's own.
use Rattle.std.specs.Prelude.{ℕ, true, false, List, [], ◌∷◌, ◌++◌, Some, if◌then◌else◌}
use Rattle.fc_base.specs.Ids.{Txn}
use Rattle.fc_modes.specs.declared.mode.Mode.TheVariants.{AllOrNone}
use Rattle.fc_machine.specs.Messages.{Ask_held, Ask_one, Told_held, Told_one, Told_unread, Message, Setup, Beat, Response, Says, Notice, Accepted, Query, Configure}
use Rattle.fc_machine.specs.Plainest.{Pair, Set}
use Rattle.fc_machine.specs.WorldSteps.{Parcel, Spoke, Masters, World, first_world}
use Rattle.fc_protocol.specs.Examples.{first_controller}
use Rattle.fc_protocol.specs.MasterMachine as protocol
use Rattle.fc_protocol.specs.MasterMachine.{new_master, next_txn, heard, at_once, finish, again, begin_refusal, begins, plain_refusal, sends_one, give_up_refusal, gives_up, forget_refusal, forgets}
use Rattle.fc_protocol.specs.Scopes.{Scope}
use Rattle.fc_protocol.specs.Messages as said
use Rattle.fc_protocol.specs.Messages.{same, Stamp, Body, Claim, Sot, Mot, Eot, Trcomp, Abt, Floor, Malformed, Plain, Ask, Ask_record, Sent}

-- A message of the protocol, spelled as plainly as can be, where these are the changes of each transaction at its element

-- a Config that asks for a response always
abbrev pub spelled_config : {Op : Type 0} → Stamp → Body → List Op → Message Op
spelled_config m b ops = Configure (record { stamp = m; ack = 3; mode = Some AllOrNone; lost = false; astray = false; body = b; shape = 16; ops = ops; props = false; more = 0; bare = false })

-- a request
abbrev pub spelled_body : {Op : Type 0} → (Txn → ℕ → List Op) → Stamp → Body → Message Op
spelled_body f m (Claim w) = spelled_config m (Claim w) []
spelled_body f m (Sot x ps sc) = spelled_config m (Sot x ps sc) []
spelled_body f m (Mot x i) = spelled_config m (Mot x i) (f x i)
spelled_body f m (Eot x) = spelled_config m (Eot x) []
spelled_body f m (Trcomp x) = spelled_config m (Trcomp x) []
spelled_body f m (Abt x) = spelled_config m (Abt x) []
spelled_body f m (Floor y) = spelled_config m (Floor y) []
spelled_body f m Malformed = spelled_config m Malformed []
spelled_body f m Plain = spelled_config m Plain []
spelled_body f m Ask = Query m false false Ask_held
spelled_body f m (Ask_record x) = Query m false false (Ask_one x)

-- any message
abbrev pub spelled : {Op : Type 0} → (Txn → ℕ → List Op) → said.Message → Message Op
spelled f said.Setup = Setup
spelled f said.Beat = Beat true
spelled f (said.Request m b) = spelled_body f m b
spelled f (said.Reply m code) = Response (record { stamp = m; codes = code ∷ [] })
spelled f (said.Holds m e ns) = Says m (Told_held e ns)
spelled f (said.Tells m x e s) = Says m (Told_one x e s)
spelled f (said.Unread m e) = Says m (Told_unread e)
spelled f said.Other_up = Notice 0
spelled f said.Other_down = Accepted 0

-- all of these messages, each with the changes at its element
abbrev pub all_spelled : {Op : Type 0} → (Txn → ℕ → ℕ → List Op) → List Sent → List (Parcel Op)
all_spelled f [] = []
all_spelled f (s ∷ ss) = record { element = s.element; controller = s.controller; message = spelled (λ x. f x s.element) s.message } ∷ all_spelled f ss

-- a master: what the protocol keeps of it, and the changes of each transaction at each element
pub record Driver (Op : Type 0) : Type 0 where
  pub core : protocol.Master
  pub changes : Txn → ℕ → ℕ → List Op

-- a master with these changes that says first these messages and then those of the protocol
abbrev pub spoke_of : {Op : Type 0} → (Txn → ℕ → ℕ → List Op) → List Sent → protocol.Speaks → Spoke Op (Driver Op)
spoke_of f first r = record { master = record { core = r.master; changes = f }; says = all_spelled f (first ++ r.says) }

-- whom a plan names, and for each how many changes there are, their scope and their operations
pub record Plan (Op : Type 0) : Type 0 where
  pub parts : List ℕ
  pub counts : ℕ → ℕ
  pub scopes : ℕ → Scope
  pub changes : ℕ → ℕ → List Op

-- the changes, with those of one transaction more
abbrev pub with_changes : {Op : Type 0} → Txn → (ℕ → ℕ → List Op) → (Txn → ℕ → ℕ → List Op) → Txn → ℕ → ℕ → List Op
with_changes x new f y = if same y x then new else f y

-- masters that keep what the protocol says, and the changes of each transaction
abbrev pub plainest : (Op : Type 0) → Masters Op (Driver Op) (Plan Op) (Unit {0})
plainest Op = record {
  born = λ e es. record { core = new_master e es; changes = λ x p i. [] };
  hears = λ k m p x. let y = Rattle.fc_machine.specs.Views.view x in spoke_of m.changes (at_once k m.core p y) (finish k (heard m.core p y));
  begins = λ k m plan. record { refusal = begin_refusal m.core plan.parts plan.counts plan.scopes; spoke = spoke_of (with_changes (next_txn m.core) plan.changes m.changes) [] (finish k (begins m.core plan.parts plan.counts plan.scopes)) };
  changes = λ k m p c. record { refusal = plain_refusal m.core p; spoke = spoke_of m.changes [] (sends_one k m.core p (Some Plain)) };
  gives_up = λ k m x. record { refusal = give_up_refusal m.core x; spoke = spoke_of m.changes [] (finish k (gives_up m.core x)) };
  forgets = λ k m. record { refusal = forget_refusal m.core; spoke = spoke_of m.changes [] (finish k (forgets m.core)) };
  resends = λ k m p. all_spelled m.changes (again k p (m.core.at p).waits);
  core = λ m. m.core;
  parts = λ plan. plan.parts;
  counts = λ plan. plan.counts;
  scopes = λ plan. plan.scopes;
  change = λ plan p i. plan.changes p i;
}

-- the first world of such masters over these elements, each with two numbers, and one controller
abbrev pub two_numbers : List ℕ → World Pair Set (Unit {0}) (Driver Set)
two_numbers es = first_world (record { first = 1; second = 1 }) (record {}) (record { elements = es; controllers = first_controller ∷ []; first_ce = λ _. first_controller })
