use Rattle.std.proofs.Common.{length, ap, subst, arith}
use Rattle.fc_wire.specs.Bytes.{AreBytes}
use Rattle.fc_path.specs.Stray.{Gives}
use Rattle.fc_path.proofs.Complete.{select_read}
use Rattle.fc_path.proofs.Sound.{found_of}
use Rattle.fc_path.proofs.oper.Select.read.Goals as goal

pub returns-clause-found : goal.returns-clause-found
returns-clause-found c =
    let e = c.padded-padded.ensures in
    let fine = subst AreBytes e.padded c.are_bytes.ensures in
    found_of c.args.message c.read_select.result c.args.tlv.now fine (omega (arith, e.whole, ap length e.padded)) (omega (arith, e.cut, ap length e.padded)) c.read_select.ensures

pub returns-clause-only : goal.returns-clause-only
returns-clause-only c = λ s h.
    subst (Gives c.read_select.result) (select_read c.args.message s c.args.tlv.now (omega (arith, c.padded-padded.ensures.few, ap length c.padded-padded.ensures.padded)) h) c.read_select.ensures
