use Rattle.std.proofs.Common.{rules}
use Rattle.fc_lfbs.proofs.Kept.{kept_of}
use Rattle.fc_lfbs.proofs.classes.built_in.Goals as goal

pub returns-clause-kept : goal.returns-clause-kept
returns-clause-kept c = kept_of _ (search rules)
