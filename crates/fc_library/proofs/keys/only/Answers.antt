use Rattle.std.proofs.Common.{◌≡◌, ◌∷◌, rules, arith}
use Rattle.std.proofs.lemmas.Grind.{common_steps}
use Rattle.toml.proofs.Views.{Entry}
use Rattle.fc_library.proofs.Chain.{other_key, known_key, later_keys}
use Rattle.fc_library.proofs.keys.only.Goals as goal

pub returns-then-not-is_known : goal.returns-then-not-is_known
returns-then-not-is_known c =
    let e : Entry = (c.in-Some.name.now, c.in-Some.field-0-1.now) in
    let iter : c.members.name-iterator ≡ e ∷ c.next.new.self = grind (arith, common_steps) in
    let meaning = rw iter at c.members.invariant.meaning in
    let ordered = rw iter at c.members.invariant.ordered in
    other_key c.is_known.result _ e c.next.new.self _ _ c.unknown.result (search rules) c.is_known.ensures c.as_str.ensures.value (search rules) ordered meaning

pub members-preserved : goal.members-preserved
members-preserved c =
    let e : Entry = (c.in-Some.name.now, c.in-Some.field-0-1.now) in
    let iter : c.members.name-iterator ≡ e ∷ c.next.new.self = grind (arith, common_steps) in
    let meaning = rw iter at c.members.invariant.meaning in
    let ordered = rw iter at c.members.invariant.ordered in
    record { meaning = known_key c.is_known.result _ e c.next.new.self _ _ (search rules) c.is_known.ensures c.as_str.ensures.value meaning; ordered = later_keys e c.next.new.self ordered }
