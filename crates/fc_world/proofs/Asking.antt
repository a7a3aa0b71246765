-- What a request asks of a life, by the request that it is.
use Rattle.std.proofs.Common.{◌≡◌, ℕ, Result, IfOk, sym, subst, ap, ◌∙◌}
use Rattle.fc_asks.specs.declared.life.Life.{Life}
use Rattle.fc_base.specs.declared.faults.Memory.{Memory}
use Rattle.fc_protocol.specs.MasterMachine.{Master as Core}
use Rattle.fc_world.specs.Stages.{AnswersCall}
use Rattle.fc_world.specs.Worlds.{Ruling}
use Rattle.fc_world.specs.declared.lives.Answer.{Answer}
use Rattle.fc_world.specs.declared.lives.Request.{Request}

pub asked : (q r : Request) (old new : Ruling) (result : Result Answer Memory) → q ≡ r
    → IfOk result (λ a. (k : ℕ) → AnswersCall k r old a new) → IfOk result (λ a. (k : ℕ) → AnswersCall k q old a new)
asked q r old new result same given = subst (λ x. IfOk result (λ a. (k : ℕ) → AnswersCall k x old a new)) (sym same) given

pub ruling_is : (l : Life) (m : Core) (r : Ruling) → r.life ≡ l → r.core ≡ m → r ≡ record { life = l; core = m }
ruling_is l m r life core = ap (λ (x : Life). record { life = x; core = r.core }) life ∙ ap (λ (x : Core). record { life = l; core = x }) core
