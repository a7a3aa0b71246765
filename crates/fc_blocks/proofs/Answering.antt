-- The selects of an answer are ones that the grammar has.
use Rattle.std.proofs.Common.{◌≡◌, ℕ, List, Result, Ok, Err, subst, sym}
use Rattle.std.specs.Prelude.{IfOk}
use Rattle.fc_base.specs.declared.faults.Memory.{Memory}
use Rattle.fc_blocks.specs.Queries.{Telling}
use Rattle.fc_msg.specs.Messages.{ProperSelects}
use Rattle.fc_ops.specs.Answering.{answered, response_fits}
use Rattle.fc_ops.specs.Asking.{contents_of, questions}
use Rattle.fc_ops.specs.Filling.{selects_filled}
use Rattle.fc_ops.specs.declared.asking.Prop.{Prop}
use Rattle.fc_path.specs.declared.oper.Select.{Select}
use Rattle.fc_reply.specs.Answered.{answered_selects}
use Rattle.fc_reply.proofs.Grammar.{filled_proper, refused_proper}
use Rattle.fc_store.specs.Stores.{Stored}

-- what a query is answered with, by the properties that its leaves hold
abbrev pub answer_by : Telling → Stored → List Prop → List Select → List Select
answer_by told s props selects = (selects_filled selects (answered (response_fits selects) (contents_of told s props (questions selects)))).0

pub told_proper : (told : Telling) (s : Stored) (props : List Prop) (selects : List Select) (r : Result (List Select) Memory) → ProperSelects 4 selects → IfOk r (λ others. others ≡ answer_by told s props selects) → IfOk r (λ others. ProperSelects 20 others)
told_proper told s props selects (Ok others) p e =
    subst (ProperSelects 20) (sym e) (filled_proper selects (answered (response_fits selects) (contents_of told s props (questions selects))) p)
told_proper told s props selects (Err fault) p e = tt

pub foreign_proper : (selects : List Select) (codes : List ℕ) (r : Result (List Select) Memory) → ProperSelects 4 selects → IfOk r (λ others. others ≡ answered_selects selects codes) → IfOk r (λ others. ProperSelects 20 others)
foreign_proper selects codes (Ok others) p e = subst (ProperSelects 20) (sym e) (refused_proper selects codes p)
foreign_proper selects codes (Err fault) p e = tt
