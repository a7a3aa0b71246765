use Rattle.std.proofs.Common.{ap, rules}
use Rattle.fc_types.specs.declared.ty.Ty as type
use Rattle.fc_lfbs.proofs.kinds.instance.Goals as goal

pub returns : goal.returns
returns c = ap type.Struct (search rules)
