use Rattle.std.proofs.Common.{◌≡◌, ◌<◌, ℕ, length, is_some, ap, rules}
use Rattle.fc_keys.specs.Buckets.{place_of}
use Rattle.fc_keys.specs.Keys.{KeyMap}
use Rattle.fc_keys.proofs.Spread.{IsEntered, entered}
use Rattle.fc_keys.proofs.table.Table.enter.Goals as goal
use Rattle.fc_keys.proofs.table.Table.enter.Goals.{After-drop}

whole : (c : After-drop) → IsEntered c.args.self.now.0 c.exchange.new.trees.items c.args.key c.args.subscript (is_some c.entered-tree.result.1)
whole c =
    let is : c.place-place.result ≡ place_of c.args.key (length c.self.inside.buckets.items) = search rules in
    let within : c.place-place.result < length c.self.inside.buckets.items = search rules in
    entered c.args.self.now.0 c.self.inside.buckets.items c.exchange-tree.new.trees.items c.exchange.new.trees.items c.exchange-tree.result _ c.entered-tree.result.0 c.args.key c.args.subscript
    c.place-place.result (is_some c.entered-tree.result.1) (ap (λ (v : KeyMap × ℕ). v.0) c.self.view_is) c.self.invariant is within c.exchange-tree.ensures.given c.entered-tree.ensures.back
    c.entered-tree.ensures.pairs c.exchange-tree.ensures.after c.exchange.ensures.after

pub invariant_of-self : goal.invariant_of-self
invariant_of-self c = (whole (goal.at.invariant_of-self c).After-drop).spread

pub returns-clause-back : goal.returns-clause-back
returns-clause-back c = (whole (goal.at.returns-clause-back c).After-drop).answer

pub returns-clause-pairs : goal.returns-clause-pairs
returns-clause-pairs c = (whole (goal.at.returns-clause-pairs c).After-drop).made
