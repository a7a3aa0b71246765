use Rattle.std.proofs.Common.{sym, subst}
use Rattle.fc_querying.proofs.Answering.{heard_whole}
use Rattle.fc_querying.specs.Answering.{IsHeardWhole}
use Rattle.fc_blocks.specs.Opening.{opened_store}
use Rattle.fc_element.specs.ElementState.{opened}
use Rattle.fc_element.specs.Runs.{taken}
use Rattle.fc_lives.proofs.Lives.{all_came, life_is}
use Rattle.fc_querying.proofs.configs.elements_keep_the_reply.Goals as goal

pub returns : goal.returns
returns c id ce library instances is =
    subst (IsHeardWhole id ce) (sym (life_is id ce library instances is)) (heard_whole id ce (opened_store library instances) (all_came (taken (opened id ce library instances) is)))
