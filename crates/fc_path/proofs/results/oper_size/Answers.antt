use Rattle.std.proofs.Common.{◌+◌, map, Some, None, sym, subst}
use Rattle.fc_path.specs.Canon.{joined, path_written}
use Rattle.fc_path.specs.Results.{Held, Sized, path_results}
use Rattle.fc_path.proofs.Sizes.{oper_part, paths_part, paths_part_fails, commit_part}
use Rattle.fc_path.proofs.results.oper_size.Goals as goal

pub returns-in-Some-clause-size : goal.returns-in-Some-clause-size
returns-in-Some-clause-size c =
    subst (λ o. Sized (Some (c.in-Some.size + 4)) (oper_part o)) (sym c.in-Paths.is)
    (paths_part c.in-Paths.field-0 c.in-Paths.paths c.in-Some.size (subst (λ l. Held 65532 (Some c.in-Some.size) (joined (map (λ p. path_written (path_results p)) l))) c.as_slice.ensures c.in-Some.ensures))

pub returns-in-None-clause-size : goal.returns-in-None-clause-size
returns-in-None-clause-size c =
    subst (λ o. Sized None (oper_part o)) (sym c.in-Paths.is)
    (paths_part_fails c.in-Paths.field-0 c.in-Paths.paths (subst (λ l. Held 65532 None (joined (map (λ p. path_written (path_results p)) l))) c.as_slice.ensures c.in-None.ensures))

pub returns-in-Commit-clause-size : goal.returns-in-Commit-clause-size
returns-in-Commit-clause-size c = subst (λ o. Sized (Some 12) (oper_part o)) (sym c.in-Commit.is) commit_part
