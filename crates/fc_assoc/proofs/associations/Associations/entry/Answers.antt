use Rattle.fc_assoc.proofs.Effects.{shown}
use Rattle.fc_assoc.proofs.associations.Associations.entry.Goals as goal

pub returns-in-Some : goal.returns-in-Some
returns-in-Some c = shown c.args.self.now c.self.inside.pairs.items c.as_slice.result.now c.args.place _ c.self.view_is c.self.invariant c.as_slice.ensures.value c.in-Some.ensures

pub returns-in-None : goal.returns-in-None
returns-in-None c = shown c.args.self.now c.self.inside.pairs.items c.as_slice.result.now c.args.place _ c.self.view_is c.self.invariant c.as_slice.ensures.value c.in-None.ensures
