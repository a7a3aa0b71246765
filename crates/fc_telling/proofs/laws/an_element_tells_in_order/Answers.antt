use Rattle.std.proofs.Common.{refl}
use Rattle.fc_telling.proofs.Life.{always_done, always_sent}
use Rattle.fc_telling.proofs.laws.an_element_tells_in_order.Goals as goal

pub returns : goal.returns
returns c = record { notice = λ peer library r n. refl; done = always_done; sent = always_sent }
