use Rattle.std.proofs.Common.{◌≡◌, ◌≤◌, ◌<◌, ℕ, length, option_map, ap, rules}
use Rattle.fc_keys.specs.Buckets.{place_of}
use Rattle.fc_keys.specs.Keys.{KeyMap}
use Rattle.fc_keys.proofs.Spread.{IsTaken, none_there, none_taken, taken}
use Rattle.fc_keys.proofs.table.Table.take.Goals as goal
use Rattle.fc_keys.proofs.table.Table.take.Goals.{After-drop}

pub returns-then-place-len-clause-node : goal.returns-then-place-len-clause-node
returns-then-place-len-clause-node c =
    let within : 0 < length c.self.inside.buckets.items → c.place-place.result < length c.self.inside.buckets.items = search rules in
    let beyond : length c.self.inside.buckets.items ≤ c.place-place.result = search rules in
    none_there c.args.self.now.0 c.self.inside.buckets.items c.place-place.result c.args.key.now (ap (λ (v : KeyMap × ℕ). v.0) c.self.view_is) within beyond

pub returns-then-place-len-clause-pairs : goal.returns-then-place-len-clause-pairs
returns-then-place-len-clause-pairs c =
    let within : 0 < length c.self.inside.buckets.items → c.place-place.result < length c.self.inside.buckets.items = search rules in
    let beyond : length c.self.inside.buckets.items ≤ c.place-place.result = search rules in
    none_taken c.args.self.now.0 c.self.inside.buckets.items c.place-place.result c.args.key.now (ap (λ (v : KeyMap × ℕ). v.0) c.self.view_is) within beyond

whole : (c : After-drop) → IsTaken c.args.self.now.0 c.exchange.new.trees.items c.args.key.now (option_map (λ x. x.0) c.removed-tree.result.1)
whole c =
    let is : c.place-place.result ≡ place_of c.args.key.now (length c.self.inside.buckets.items) = search rules in
    let within : c.place-place.result < length c.self.inside.buckets.items = search rules in
    taken c.args.self.now.0 c.self.inside.buckets.items c.exchange-tree.new.trees.items c.exchange.new.trees.items c.exchange-tree.result _ c.removed-tree.result.0 c.args.key.now
    c.place-place.result _ (ap (λ (v : KeyMap × ℕ). v.0) c.self.view_is) c.self.invariant is within c.exchange-tree.ensures.given c.removed-tree.ensures.node
    c.removed-tree.ensures.pairs c.exchange-tree.ensures.after c.exchange.ensures.after

pub invariant_of-self : goal.invariant_of-self
invariant_of-self c = (whole (goal.at.invariant_of-self c).After-drop).spread

pub returns-clause-node : goal.returns-clause-node
returns-clause-node c = (whole (goal.at.returns-clause-node c).After-drop).answer

pub returns-clause-pairs : goal.returns-clause-pairs
returns-clause-pairs c = (whole (goal.at.returns-clause-pairs c).After-drop).made
