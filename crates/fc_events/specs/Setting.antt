-- Running SET-PROP operations: RFC 5810, section 7.1.6; an operation with another body is refused, which is this profile's own.
use Rattle.std.specs.Prelude.{◌≡◌, ◌≢◌, ℕ, List, Result, Ok, Err, refl}
use Rattle.std.specs.Coded.{Coded, coded×, coded_list}
use Rattle.std.specs.List.{flat_map}
use Rattle.fc_modes.specs.Modes.{Outcome, outcome}
use Rattle.fc_modes.specs.declared.mode.Mode.{Mode}
use Rattle.fc_path.specs.Leaves.{select_leaves}
use Rattle.fc_path.specs.declared.oper.Leaf.{Leaf}
use Rattle.fc_path.specs.declared.oper.Select.{Select}
use Rattle.fc_path.specs.declared.path.Body.{Body, out-Body}
use Rattle.fc_path.specs.declared.path.Body.TheOpen.{Body-F, PathData-F}
use Rattle.fc_path.specs.declared.path.PathData.{PathData}
use Rattle.fc_path.specs.declared.oper.Spot.{Spot}
use Rattle.fc_store.specs.Stores.{Stored, stored_code}
use Rattle.fc_value.specs.Outcomes.{invalid_tlv}
use Rattle.fc_events.specs.Subscribing.{set_spot}
use Rattle.fc_events.specs.contracts.subscriptions.Subscription as contracts
use Rattle.fc_events.specs.declared.subscriptions.Subscription.{Subscription}

-- the configuration, and what is registered
abbrev pub Stands : Type 0
Stands = Stored × List Subscription

abbrev pub stands_code : Coded Stands
stands_code = coded× stored_code (coded_list contracts.the_row.coded)

abbrev pub answered : Stands → Result (List Subscription) ℕ → Stands × ℕ
answered s (Ok subs) = ((s.0, subs), 0)
answered s (Err code) = (s, code)

abbrev pub effect_by : Stands → Spot → Body-F Body PathData → Stands × ℕ
effect_by s spot (Body-F.Sparse ilvs) = answered s (set_spot s.0 spot ilvs s.1)
effect_by s spot Body-F.Nothing = (s, invalid_tlv)
effect_by s spot (Body-F.Full value) = (s, invalid_tlv)
effect_by s spot (Body-F.Outcome code) = (s, invalid_tlv)
effect_by s spot (Body-F.Nested paths) = (s, invalid_tlv)

abbrev pub effect_at : Stands → Spot → Body → Stands × ℕ
effect_at s spot body = effect_by s spot (out-Body body)

-- what an operation makes of what is registered, and its code
abbrev pub effect : Stands → Leaf → Stands × ℕ
effect s leaf = effect_at s leaf.spot leaf.body

answered_keeps : (s : Stands) (r : Result (List Subscription) ℕ) → (answered s r).1 ≢ 0 → (answered s r).0 ≡ s
answered_keeps s (Ok subs) bad = absurd (bad refl)
answered_keeps s (Err code) bad = refl

by_keeps : (s : Stands) (spot : Spot) (layer : Body-F Body PathData) → (effect_by s spot layer).1 ≢ 0 → (effect_by s spot layer).0 ≡ s
by_keeps s spot (Body-F.Sparse ilvs) bad = answered_keeps s (set_spot s.0 spot ilvs s.1) bad
by_keeps s spot Body-F.Nothing bad = refl
by_keeps s spot (Body-F.Full value) bad = refl
by_keeps s spot (Body-F.Outcome code) bad = refl
by_keeps s spot (Body-F.Nested paths) bad = refl

-- an operation that is refused changes nothing
pub refused_keeps : (s : Stands) (leaf : Leaf) → (effect s leaf).1 ≢ 0 → (effect s leaf).0 ≡ s
refused_keeps s leaf bad = by_keeps s leaf.spot (out-Body leaf.body) bad

-- what a list of operations gives in a mode
abbrev pub exec_outcome : Mode → Stored → List Subscription → List Select → Outcome Stands Leaf
exec_outcome mode s subs selects = outcome effect mode (s, subs) (flat_map select_leaves selects)
