use Rattle.std.proofs.Common.{ap, ◌∙◌, arith}
use Rattle.fc_path.specs.Heads.{behind_first}
use Rattle.fc_path.proofs.Heading.{ids_rest}
use Rattle.fc_path.proofs.heads.Ids.next.Goals as goal

pub returns-clause-rest : goal.returns-clause-rest
returns-clause-rest c = ids_rest c.self.inside.count _ c.self.inside.rest.now c.split_at.result.1.now (omega arith) c.split_at.ensures.back ∙ ap behind_first c.self.view_is
