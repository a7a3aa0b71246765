-- The steps to a leaf: those of all PATH-DATA that it stands in, from outside to inside. RFC 5810, section 7.1.
use Rattle.std.specs.Prelude.{List}
use Rattle.std.specs.List.{flat_map}
use Rattle.fc_path.specs.declared.oper.Step.{Step}

-- the steps of PATH-DATA that stand in each other
abbrev pub steps_along : List (List Step) → List Step
steps_along segments = flat_map (λ steps. steps) segments
