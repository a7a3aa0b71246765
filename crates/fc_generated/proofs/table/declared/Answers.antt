use Rattle.std.proofs.Common.{◌∙◌, subst}
use Rattle.std.specs.List.Sorted.{IsPermutation}
use Rattle.fc_generated.specs.Tables.{instance}
use Rattle.fc_generated.proofs.Alone.{alone}
use Rattle.fc_generated.proofs.table.declared.Goals as goal

pub returns-in-Ok-clause-instances : goal.returns-in-Ok-clause-instances
returns-in-Ok-clause-instances c =
    alone instance _ (subst (λ xs. IsPermutation xs c.in-Ok.declared.1) (c.into_vec-2.ensures ∙ c.in_ok-instances.ensures) c.in-Ok.ensures.instances)
