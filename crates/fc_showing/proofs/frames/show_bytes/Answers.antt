use Rattle.std.proofs.Common.{arith}
use Rattle.fc_wire.proofs.Spelled.{bytes_all}
use Rattle.fc_showing.proofs.Appending.{all_kept, all_refused, all_spelled, all_within}
use Rattle.fc_showing.proofs.frames.show_bytes.Goals as goal

pub returns-clause-shown : goal.returns-clause-shown
returns-clause-shown c =
    all_spelled c.show_whole.result c.args.bytes.now c.args.into.now.items c.show_whole.new.into.items (bytes_all c.args.bytes.now (λ i. omega (arith, c.type_inv.bytes i))) c.show_whole.ensures

pub returns-clause-refused : goal.returns-clause-refused
returns-clause-refused c = all_refused c.show_whole.result c.args.bytes.now c.args.into.now.items c.show_whole.new.into.items c.show_whole.ensures

pub returns-clause-within : goal.returns-clause-within
returns-clause-within c =
    all_within c.show_whole.result c.args.bytes.now c.args.into.now.items c.show_whole.new.into.items (bytes_all c.args.bytes.now (λ i. omega (arith, c.type_inv.bytes i))) c.first_broken_rule_is_told.ensures.within c.show_whole.ensures

pub returns-clause-err : goal.returns-clause-err
returns-clause-err c = all_kept c.show_whole.result c.args.bytes.now c.args.into.now.items c.show_whole.new.into.items c.show_whole.ensures

pub returns-clause-again : goal.returns-clause-again
returns-clause-again c m is fits = c.decoded_text_is_read.ensures.read m c.args.bytes.now (bytes_all c.args.bytes.now (λ i. omega (arith, c.type_inv.bytes i))) is fits
