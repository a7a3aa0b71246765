use Rattle.std.proofs.Common.{◌+◌, ◌*◌, map, Some, sym, subst, arith}
use Rattle.fc_path.specs.Canon.{joined, body_written, path_written, sparse_written}
use Rattle.fc_path.specs.Results.{Held, Sized}
use Rattle.fc_path.proofs.Measures.{full_body, nested_body, nothing_body, outcome_body, path_body_fails, path_key_fails, path_many, path_over, path_sized, sparse_body}
use Rattle.fc_path.proofs.Sizes.{held_over, held_fails, held_more}
use Rattle.fc_path.proofs.measuring.+measure.Goals as goal

pub written_body-returns-in-Nothing : goal.written_body-returns-in-Nothing
written_body-returns-in-Nothing t c = subst (λ b. Held 65532 (Some 0) (body_written b)) (sym c.in-Nothing.is) nothing_body

pub written_body-returns-in-Full : goal.written_body-returns-in-Full
written_body-returns-in-Full t c = subst (λ b. Held 65532 c.full_size.result (body_written b)) (sym c.in-Full.is) (full_body c.in-Full.value c.full_size.result c.full_size.ensures)

pub written_body-returns-in-Sparse : goal.written_body-returns-in-Sparse
written_body-returns-in-Sparse t c =
    subst (λ b. Held 65532 c.sparse_size.result (body_written b)) (sym c.in-Sparse.is)
    (sparse_body c.in-Sparse.ilvs c.sparse_size.result (subst (λ l. Held 65532 c.sparse_size.result (sparse_written l)) c.as_slice.ensures c.sparse_size.ensures))

pub written_body-returns-in-Outcome : goal.written_body-returns-in-Outcome
written_body-returns-in-Outcome t c = subst (λ b. Held 65532 (Some 8) (body_written b)) (sym c.in-Outcome.is) (outcome_body c.in-Outcome.field-0)

pub written_body-returns-in-Nested : goal.written_body-returns-in-Nested
written_body-returns-in-Nested t c =
    subst (λ b. Held 65532 c.written_paths.result (body_written b)) (sym c.in-Nested.is)
    (nested_body c.in-Nested.paths c.written_paths.result (subst (λ l. Held 65532 c.written_paths.result (joined (map path_written l))) c.as_slice-in-Nested.ensures c.written_paths.ensures))

pub written_path-returns-then-count-gt-VALUE-clause-size : goal.written_path-returns-then-count-gt-VALUE-clause-size
written_path-returns-then-count-gt-VALUE-clause-size t c = path_many c.args.path.now (omega (arith, c.len-count.ensures))

pub written_path-returns-in-None-clause-size : goal.written_path-returns-in-None-clause-size
written_path-returns-in-None-clause-size t c = path_key_fails c.args.path.now c.in-None.ensures.size

pub written_path-returns-in-None-written_body-clause-size : goal.written_path-returns-in-None-written_body-clause-size
written_path-returns-in-None-written_body-clause-size t c = path_body_fails c.args.path.now c.in-None-written_body.ensures

pub written_path-returns-then-size-gt-VALUE-clause-size : goal.written_path-returns-then-size-gt-VALUE-clause-size
written_path-returns-then-size-gt-VALUE-clause-size t c =
    path_over c.args.path.now c.in-Some.size c.in-Some-written_body.size c.in-Some.ensures.size c.in-Some-written_body.ensures (omega (arith, c.len-count.ensures))

pub written_path-returns-else-size-gt-VALUE-clause-size : goal.written_path-returns-else-size-gt-VALUE-clause-size
written_path-returns-else-size-gt-VALUE-clause-size t c =
    subst (λ n. Sized (Some (4 + 4 * n + c.in-Some.size + c.in-Some-written_body.size + 4)) (path_written c.args.path.now)) (sym c.len-count.ensures)
    (path_sized c.args.path.now c.in-Some.size c.in-Some-written_body.size c.in-Some.ensures.size c.in-Some-written_body.ensures (omega (arith, c.len-count.ensures)))

pub written_paths-returns-then-sum-size-gt-VALUE : goal.written_paths-returns-then-sum-size-gt-VALUE
written_paths-returns-then-sum-size-gt-VALUE t c =
    held_over path_written 65532 c.args.paths.now c.loop-path.path-index c.path-item.result c.loop-path.sum c.in-Some.size (omega arith) c.path-item.is c.loop-path.invariant c.in-Some.ensures.size (omega arith)

pub written_paths-returns-in-None : goal.written_paths-returns-in-None
written_paths-returns-in-None t c = held_fails path_written 65532 c.args.paths.now c.loop-path.path-index c.path-item.result (omega arith) c.path-item.is c.in-None.ensures.size

pub written_paths-loop-path-preserved : goal.written_paths-loop-path-preserved
written_paths-loop-path-preserved t c =
    held_more path_written 65532 c.args.paths.now c.loop-path.path-index c.path-item.result c.loop-path.sum c.in-Some.size (omega arith) c.path-item.is c.loop-path.invariant c.in-Some.ensures.size (omega arith)
