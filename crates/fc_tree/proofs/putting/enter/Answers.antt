use Rattle.std.proofs.Common.{ap, ◌∙◌, length, List, ℕ}
use Rattle.fc_value.specs.declared.value.Value.{Value}
use Rattle.std.specs.List.{insert}
use Rattle.fc_tree.proofs.Rooms.{enter_step, not_le}
use Rattle.fc_tree.proofs.putting.enter.Goals as goal

pub returns : goal.returns
returns c = enter_step c.args.subscript c.args.limit c.room_at-place.result c.args.entries c.as_slice.result.now c.insert.new.self.items c.from_vec.result c.args.value c.as_slice.ensures c.room_at-place.ensures.place (c.in_ok-insert.ensures.items ∙ ap (λ (xs : List (ℕ × Value)). insert xs c.room_at-place.result (c.args.subscript, c.args.value)) c.into_vec-entries.ensures) (not_le c.args.limit (length c.args.entries) c.len.result c.len.ensures c.if-len-limit.false) c.from_vec.ensures
