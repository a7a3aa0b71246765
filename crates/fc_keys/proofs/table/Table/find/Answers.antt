use Rattle.std.proofs.Common.{◌≡◌, ◌≤◌, ◌<◌, ◌∙◌, ℕ, length, sym, ap, rules}
use Rattle.fc_keys.specs.Buckets.{place_of, tree_at}
use Rattle.fc_keys.specs.Keys.{KeyMap}
use Rattle.fc_keys.proofs.Spread.{found_at, none_there, read_at}
use Rattle.fc_keys.proofs.table.Table.find.Goals as goal

pub returns-then-place-len : goal.returns-then-place-len
returns-then-place-len c =
    let within : 0 < length c.self.inside.buckets.items → c.place-place.result < length c.self.inside.buckets.items = search rules in
    let beyond : length c.self.inside.buckets.items ≤ c.place-place.result = search rules in
    none_there c.args.self.now.0 c.self.inside.buckets.items c.place-place.result c.args.key.now (ap (λ (v : KeyMap × ℕ). v.0) c.self.view_is) within beyond

pub returns : goal.returns
returns c =
    let is : c.place-place.result ≡ place_of c.args.key.now (length c.self.inside.buckets.items) = search rules in
    let within : c.place-place.result < length c.self.inside.buckets.items = search rules in
    let tree : c.index.result.now ≡ tree_at c.self.inside.buckets.items c.place-place.result = read_at _ _ _ within c.index.ensures in
    (rw tree at c.find.ensures) (c.self.invariant.sorted c.place-place.result)
    ∙ sym (found_at c.args.self.now.0 c.args.key.now c.place-place.result c.self.inside.buckets.items (ap (λ (v : KeyMap × ℕ). v.0) c.self.view_is) c.self.invariant is)
