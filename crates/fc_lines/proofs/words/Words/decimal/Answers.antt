use Rattle.fc_lines.proofs.OpenLines.{number_read}
use Rattle.fc_lines.proofs.words.Words.decimal.Goals as goal

pub returns-in-Some-clause-exact : goal.returns-in-Some-clause-exact
returns-in-Some-clause-exact c = number_read c.in-Some.number c.args.self.now.0 c.quick_decimal.new.self.0 c.in-Some.ensures.some
