use Rattle.fc_types.proofs.Nests.{fields_nest, entry_nests, atom_nests, none_nest}
use Rattle.fc_types.proofs.laws.nesting_types.Goals as goal

pub returns-clause-fields : goal.returns-clause-fields
returns-clause-fields c = fields_nest

pub returns-clause-entry : goal.returns-clause-entry
returns-clause-entry c = entry_nests

pub returns-clause-atom : goal.returns-clause-atom
returns-clause-atom c = atom_nests

pub returns-clause-none : goal.returns-clause-none
returns-clause-none c = none_nest
