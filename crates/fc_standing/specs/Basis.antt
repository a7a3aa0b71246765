-- The store of an element as that on which the machine of an element stands: RFC 5810, sections 7.1.7 and 7.6, on operations and their codes, and 7.3.1 on heartbeats;
-- how notices are counted is this profile's own.
use Rattle.std.specs.Prelude.{ℕ, Bool, true, false, List, [], ◌∷◌, map, Option, Some, None}
use Rattle.std.specs.List.{flat_map, list_any}
use Rattle.fc_blocks.specs.Settings.{ce_dead, ce_policy, fe_interval, fe_policy}
use Rattle.fc_events.specs.Reports as events
use Rattle.fc_events.specs.Setting.{Stands, effect}
use Rattle.fc_events.specs.Telling.{primary_down}
use Rattle.fc_events.specs.declared.subscriptions.Notice.{Notice}
use Rattle.fc_events.specs.declared.subscriptions.Subscription.{Subscription}
use Rattle.fc_exec.specs.Operations.{applied, place_of}
use Rattle.fc_exec.specs.declared.operations.Operation.{Operation}
use Rattle.fc_exec.specs.declared.operations.Operation.TheVariants as operation
use Rattle.fc_machine.specs.Ground.{Ground, Settings}
use Rattle.fc_modes.specs.Modes.{Outcome, outcome}
use Rattle.fc_modes.specs.declared.mode.Mode.{Mode}
use Rattle.fc_path.specs.declared.oper.Leaf.{Leaf}
use Rattle.fc_store.specs.Stores.{Stored}
use Rattle.fc_types.specs.Libraries.{same_instance}

-- a response leaves out a TRCOMP alone
abbrev pub is_shown : Operation → Bool
is_shown (operation.Leaf l) = true
is_shown operation.Commit = true
is_shown operation.Trcomp = false

-- the settings of heartbeats in a configuration
abbrev pub settings_of : Stored → Settings
settings_of s = record { ce_policy = ce_policy s; ce_dead = ce_dead s; fe_policy = fe_policy s; fe_interval = fe_interval s }

-- the leaves among operations
abbrev pub leaf_of : Operation → List Leaf
leaf_of (operation.Leaf l) = l ∷ []
leaf_of operation.Commit = []
leaf_of operation.Trcomp = []

abbrev pub leaves_of : List Operation → List Leaf
leaves_of ops = flat_map leaf_of ops

-- what is registered after properties were set, and the codes
abbrev pub registered : Outcome Stands Leaf → List Subscription × List ℕ
registered o = (o.state.1, o.codes)

abbrev pub props_set : Stored → List Subscription → Mode → List Operation → List Subscription × List ℕ
props_set s subs mode ops = registered (outcome effect mode (s, subs) (leaves_of ops))

-- each notice as its number
abbrev pub counted : (Notice → ℕ) → List Subscription × List Notice → List Subscription × List ℕ
counted told r = (r.0, map told r.1)

abbrev pub counted_one : (Notice → ℕ) → Option Notice → List ℕ
counted_one told None = []
counted_one told (Some n) = told n ∷ []

-- a configuration is what a store holds, and an operation is one of a Config. The machine tells notices by numbers, which may be any, and so may be the
-- control element of which the last notice says that it is gone.
abbrev pub store_basis : (Notice → ℕ) → ℕ → List (ℕ × ℕ) → Ground Stored Operation (List Subscription)
store_basis told gone instances = record {
  effect = applied;
  place_of = place_of;
  is_shown = is_shown;
  has_instance = λ pair. list_any (same_instance pair) instances;
  settings = settings_of;
  set_props = props_set;
  reports = λ s subs. counted told (events.reports s subs);
  ceases = λ subs. (subs, counted_one told (primary_down gone subs));
}
