use Rattle.std.proofs.Common.{◌+◌, map, Some, None, sym, subst}
use Rattle.fc_path.specs.Canon.{joined, oper_written, path_written}
use Rattle.fc_path.specs.Results.{Held, Sized}
use Rattle.fc_path.proofs.Measures.{commit_oper, paths_oper, paths_oper_fails, response_oper, trcomp_oper}
use Rattle.fc_path.proofs.measuring.written_oper.Goals as goal

pub returns-in-Some-clause-size : goal.returns-in-Some-clause-size
returns-in-Some-clause-size c =
    subst (λ o. Sized (Some (c.in-Some.size + 4)) (oper_written o)) (sym c.in-Paths.is)
    (paths_oper c.in-Paths.field-0 c.in-Paths.paths c.in-Some.size (subst (λ l. Held 65532 (Some c.in-Some.size) (joined (map path_written l))) c.as_slice.ensures c.in-Some.ensures))

pub returns-in-None-clause-size : goal.returns-in-None-clause-size
returns-in-None-clause-size c =
    subst (λ o. Sized None (oper_written o)) (sym c.in-Paths.is)
    (paths_oper_fails c.in-Paths.field-0 c.in-Paths.paths (subst (λ l. Held 65532 None (joined (map path_written l))) c.as_slice.ensures c.in-None.ensures))

pub returns-in-Commit-clause-size : goal.returns-in-Commit-clause-size
returns-in-Commit-clause-size c = subst (λ o. Sized (Some 4) (oper_written o)) (sym c.in-Commit.is) commit_oper

pub returns-in-Trcomp-clause-size : goal.returns-in-Trcomp-clause-size
returns-in-Trcomp-clause-size c = subst (λ o. Sized (Some 4) (oper_written o)) (sym c.in-Trcomp.is) trcomp_oper

pub returns-in-CommitResponse-clause-size : goal.returns-in-CommitResponse-clause-size
returns-in-CommitResponse-clause-size c = subst (λ o. Sized (Some 12) (oper_written o)) (sym c.in-CommitResponse.is) (response_oper c.in-CommitResponse.field-0)
