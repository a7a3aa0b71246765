use Rattle.std.proofs.Common.{option_map, sym, ap}
use Rattle.fc_assoc.specs.declared.heard.Heard.{Heard}
use Rattle.fc_assoc.proofs.Effects.{reads, reads_none}
use Rattle.fc_assoc.proofs.associations.Associations.peer_of.Goals as goal

pub returns-in-Ok : goal.returns-in-Ok
returns-in-Ok c =
    sym (ap (option_map (λ (heard : Heard). heard.peer)) (reads c.args.self.now c.self.inside.pairs.items c.as_slice.result.now c.args.ce c.in-Ok.place c.index.result.now c.self.view_is c.self.invariant c.as_slice.ensures.value c.in-Ok.ensures c.index.ensures))

pub returns-in-Err : goal.returns-in-Err
returns-in-Err c =
    sym (ap (option_map (λ (heard : Heard). heard.peer)) (reads_none c.args.self.now c.self.inside.pairs.items c.as_slice.result.now c.args.ce c.in-Err.field-0 c.self.view_is c.self.invariant c.as_slice.ensures.value c.in-Err.ensures))
