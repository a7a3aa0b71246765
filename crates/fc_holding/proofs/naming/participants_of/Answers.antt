use Rattle.std.proofs.Common.{sym, arith, le-leb}
use Rattle.fc_holding.proofs.Participants.{if_takes}
use Rattle.fc_holding.proofs.naming.participants_of.Goals as goal

pub returns : goal.returns
returns c = if_takes c.ids_from.result c.args.id c.args.words.now (sym c.if-not-is_among.ensures) (let h = c.if-words-gt64.false in le-leb _ 64 (omega (arith, h))) c.ids_from.ensures
