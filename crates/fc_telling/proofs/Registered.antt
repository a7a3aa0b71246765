-- What is registered rises after every list of SET-PROPs, in each mode.
use Rattle.std.proofs.Common.{◌≡◌, ℕ, List, [], ◌∷◌, take, Option, Some, None, Result, Ok, Err, refl}
use Rattle.std.specs.List.{flat_map}
use Rattle.fc_events.specs.Order.{DoRise, places}
use Rattle.fc_events.specs.Setting.{Stands, answered, effect, effect_by, exec_outcome}
use Rattle.fc_events.specs.Subscribing.{set_spot}
use Rattle.fc_events.specs.declared.subscriptions.Subscription.{Subscription}
use Rattle.fc_events.proofs.Order.{set_rises}
use Rattle.fc_modes.specs.Modes.{first_refused, folded, outcome, outcome_by}
use Rattle.fc_modes.specs.declared.mode.Mode.{Mode}
use Rattle.fc_modes.specs.declared.mode.Mode.TheVariants.{AllOrNone, UntilFailure, Continue}
use Rattle.fc_path.specs.Leaves.{select_leaves}
use Rattle.fc_path.specs.declared.oper.Leaf.{Leaf}
use Rattle.fc_path.specs.declared.oper.Select.{Select}
use Rattle.fc_path.specs.declared.oper.Spot.{Spot}
use Rattle.fc_path.specs.declared.path.Body.{Body, out-Body}
use Rattle.fc_path.specs.declared.path.Body.TheOpen.{Body-F}
use Rattle.fc_path.specs.declared.path.PathData.{PathData}
use Rattle.fc_store.specs.Stores.{Stored}
use Rattle.fc_wire.specs.declared.ilvs.Ilv.{Ilv}

-- ---- what each operation keeps, all of them keep
module _ {S O : Type 0} (effect_of : S → O → S × ℕ) (P : S → Type 0) (kept : (s : S) (op : O) → P s → P (effect_of s op).0) where
  pub all_keep : (s : S) (ops : List O) → P s → P (folded effect_of s ops)
  all_keep s [] h = h
  all_keep s (op ∷ ops) h = all_keep (effect_of s op).0 ops (kept s op h)

  keep_by : (o : Option ℕ) (mode : Mode) (s : S) (ops : List O) → P s → P (outcome_by effect_of o mode s ops).state
  keep_by None mode s ops h = all_keep s ops h
  keep_by (Some at) AllOrNone s ops h = h
  keep_by (Some at) UntilFailure s ops h = all_keep s (take at ops) h
  keep_by (Some at) Continue s ops h = all_keep s ops h

  pub modes_keep : (mode : Mode) (s : S) (ops : List O) → P s → P (outcome effect_of mode s ops).state
  modes_keep mode s ops h = keep_by (first_refused effect_of s ops) mode s ops h

-- ---- a SET-PROP
abbrev Rises : Stands → Type 0
Rises s = DoRise (places s.1)

answer_rises : (s : Stands) (spot : Spot) (ilvs : List Ilv) (r : Result (List Subscription) ℕ) → set_spot s.0 spot ilvs s.1 ≡ r → Rises s → Rises (answered s r).0
answer_rises s spot ilvs (Ok subs) e h = set_rises s.0 spot ilvs s.1 subs h e
answer_rises s spot ilvs (Err code) e h = h

body_rises : (s : Stands) (spot : Spot) (layer : Body-F Body PathData) → Rises s → Rises (effect_by s spot layer).0
body_rises s spot (Body-F.Sparse ilvs) h = answer_rises s spot ilvs (set_spot s.0 spot ilvs s.1) refl h
body_rises s spot Body-F.Nothing h = h
body_rises s spot (Body-F.Full value) h = h
body_rises s spot (Body-F.Outcome code) h = h
body_rises s spot (Body-F.Nested paths) h = h

effect_rises : (s : Stands) (leaf : Leaf) → Rises s → Rises (effect s leaf).0
effect_rises s leaf h = body_rises s leaf.spot (out-Body leaf.body) h

pub each_rises : (s : Stored) (subs : List Subscription) (leaves : List Leaf) → DoRise (places subs) → DoRise (places (folded effect (s, subs) leaves).1)
each_rises s subs leaves h = all_keep effect Rises effect_rises (s, subs) leaves h

pub whole_rises : (mode : Mode) (s : Stored) (subs : List Subscription) (selects : List Select) → DoRise (places subs) → DoRise (places (exec_outcome mode s subs selects).state.1)
whole_rises mode s subs selects h = modes_keep effect Rises effect_rises mode (s, subs) (flat_map select_leaves selects) h
