use Rattle.std.proofs.Common.{arith, sym, ap, ◌∙◌, subst, ◌≤◌, ◌<◌, length, vec_capacity, Some, Option, slice_set}
use Rattle.std.specs.FinMap as map
use Rattle.fc_value.specs.declared.value.Value.{Value}
use Rattle.fc_rows.specs.Rowed.{updated}
use Rattle.fc_rows.proofs.RowPlaces.{found, missing, put_in_place, taken_out, put_new, stays, room_for}
use Rattle.fc_rows.proofs.rows.RowList.swap.Goals as goal

pub invariant_of-self : goal.invariant_of-self
invariant_of-self c = (put_in_place c.args.self.now c.self.inside.entries.items c.as_slice.result.now _ _ c.args.subscript c.in-Ok.place c.index_mut.result.now c.replace.new.dest c.self.view_is c.self.invariant c.as_slice.ensures.value c.in-Ok.ensures.place c.in-Ok.ensures.range c.index_mut.ensures.value (λ i. slice_set c.self.inside.entries.items c.in-Ok.place (c.index_mut.result.now.0, c.replace.new.dest))).0

pub returns-in-Some-clause-given : goal.returns-in-Some-clause-given
returns-in-Some-clause-given c = ap Some c.replace.ensures.value ∙ sym (found c.args.self.now c.self.inside.entries.items c.as_slice.result.now _ c.args.subscript c.in-Ok.place c.index_mut.result.now c.self.view_is c.self.invariant c.as_slice.ensures.value c.in-Ok.ensures.place c.in-Ok.ensures.range c.index_mut.ensures.value)

pub returns-in-Some-clause-rows : goal.returns-in-Some-clause-rows
returns-in-Some-clause-rows c =
    (put_in_place c.args.self.now c.self.inside.entries.items c.as_slice.result.now _ _ c.args.subscript c.in-Ok.place c.index_mut.result.now c.replace.new.dest c.self.view_is c.self.invariant c.as_slice.ensures.value c.in-Ok.ensures.place c.in-Ok.ensures.range c.index_mut.ensures.value (λ i. slice_set c.self.inside.entries.items c.in-Ok.place (c.index_mut.result.now.0, c.replace.new.dest))).1
    ∙ ap (λ (w : Value). updated c.args.self.now.0 c.args.subscript (Some w)) c.replace.ensures.after ∙ ap (updated c.args.self.now.0 c.args.subscript) (sym c.in-Some.is)

pub invariant_of-self-in-None : goal.invariant_of-self-in-None
invariant_of-self-in-None c = (taken_out c.args.self.now c.self.inside.entries.items c.as_slice.result.now c.remove.new.self.items _ c.args.subscript c.in-Ok.place c.self.view_is c.self.invariant c.as_slice.ensures.value c.in-Ok.ensures.place c.remove.ensures.items).0

pub returns-in-None-clause-given : goal.returns-in-None-clause-given
returns-in-None-clause-given c = sym (found c.args.self.now c.self.inside.entries.items c.as_slice.result.now _ c.args.subscript c.in-Ok.place c.remove.result c.self.view_is c.self.invariant c.as_slice.ensures.value c.in-Ok.ensures.place c.in-Ok.ensures.range c.remove.ensures.value)

pub returns-in-None-clause-rows : goal.returns-in-None-clause-rows
returns-in-None-clause-rows c = (taken_out c.args.self.now c.self.inside.entries.items c.as_slice.result.now c.remove.new.self.items _ c.args.subscript c.in-Ok.place c.self.view_is c.self.invariant c.as_slice.ensures.value c.in-Ok.ensures.place c.remove.ensures.items).1
    ∙ ap (updated c.args.self.now.0 c.args.subscript) (sym c.in-None.is)

pub put_at-requires-clause-room : goal.put_at-requires-clause-room
put_at-requires-clause-room c =
    let room : length c.self.inside.entries.items < vec_capacity c.self.inside.entries = room_for c.args.self.now c.self.inside.entries.items c.as_slice.result.now _ c.args.subscript c.in-Err.place c.in-Some-value.value c.self.view_is c.self.invariant c.as_slice.ensures.value c.in-Err.ensures.place
    (subst (λ (o : Option Value). map.len (updated c.args.self.now.0 c.args.subscript o) ≤ c.args.self.now.1) c.in-Some-value.is c.requires) in
    omega (arith, c.as_slice.ensures.len, ap length c.as_slice.ensures.value)

pub invariant_of-self-in-Some-value : goal.invariant_of-self-in-Some-value
invariant_of-self-in-Some-value c = (put_new c.args.self.now c.self.inside.entries.items c.as_slice.result.now c.put_at.new.entries.items _ c.args.subscript c.in-Err.place c.in-Some-value.value c.self.view_is c.self.invariant c.as_slice.ensures.value c.in-Err.ensures.place c.put_at.ensures.items).0

pub returns-in-Some-value-clause-given : goal.returns-in-Some-value-clause-given
returns-in-Some-value-clause-given c = sym (missing c.args.self.now c.self.inside.entries.items c.as_slice.result.now _ c.args.subscript c.in-Err.place c.self.view_is c.self.invariant c.as_slice.ensures.value c.in-Err.ensures.place)

pub returns-in-Some-value-clause-rows : goal.returns-in-Some-value-clause-rows
returns-in-Some-value-clause-rows c = (put_new c.args.self.now c.self.inside.entries.items c.as_slice.result.now c.put_at.new.entries.items _ c.args.subscript c.in-Err.place c.in-Some-value.value c.self.view_is c.self.invariant c.as_slice.ensures.value c.in-Err.ensures.place c.put_at.ensures.items).1
    ∙ ap (updated c.args.self.now.0 c.args.subscript) (sym c.in-Some-value.is)

pub returns-in-None-value-clause-given : goal.returns-in-None-value-clause-given
returns-in-None-value-clause-given c = sym (missing c.args.self.now c.self.inside.entries.items c.as_slice.result.now _ c.args.subscript c.in-Err.place c.self.view_is c.self.invariant c.as_slice.ensures.value c.in-Err.ensures.place)

pub returns-in-None-value-clause-rows : goal.returns-in-None-value-clause-rows
returns-in-None-value-clause-rows c = stays c.args.self.now c.self.inside.entries.items c.as_slice.result.now _ c.args.subscript c.in-Err.place c.self.view_is c.self.invariant c.as_slice.ensures.value c.in-Err.ensures.place
    ∙ ap (updated c.args.self.now.0 c.args.subscript) (sym c.in-None-value.is)
