use Rattle.fc_lines.proofs.OpenLines.{ended_none}
use Rattle.fc_lines.proofs.lines.Lines.close.Goals as goal

pub go_on-requires : goal.go_on-requires
go_on-requires c = ended_none c.args.words.0 c.in_ok-end.ensures.exact
