use Rattle.std.proofs.Common.{◌+◌, ◌*◌, map, Some, sym, subst, arith}
use Rattle.fc_path.specs.Canon.{joined, body_written, path_written}
use Rattle.fc_path.specs.Results.{Held, Sized, body_results, path_results}
use Rattle.fc_path.proofs.Sizes.{nothing_held, full_held, sparse_held, outcome_held, nested_held, path_many, path_body_fails, path_over, path_sized, held_over, held_fails, held_more}
use Rattle.fc_path.proofs.results.+size.Goals as goal

pub body_size-returns-in-Nothing : goal.body_size-returns-in-Nothing
body_size-returns-in-Nothing t c = subst (λ b. Held 65532 (Some 8) (body_written (body_results b))) (sym c.in-Nothing.is) nothing_held

pub body_size-returns-in-Full : goal.body_size-returns-in-Full
body_size-returns-in-Full t c = subst (λ b. Held 65532 (Some 8) (body_written (body_results b))) (sym c.in-Full.is) (full_held c.in-Full.field-0)

pub body_size-returns-in-Sparse : goal.body_size-returns-in-Sparse
body_size-returns-in-Sparse t c = subst (λ b. Held 65532 (Some 8) (body_written (body_results b))) (sym c.in-Sparse.is) (sparse_held c.in-Sparse.field-0)

pub body_size-returns-in-Outcome : goal.body_size-returns-in-Outcome
body_size-returns-in-Outcome t c = subst (λ b. Held 65532 (Some 8) (body_written (body_results b))) (sym c.in-Outcome.is) (outcome_held c.in-Outcome.field-0)

pub body_size-returns-in-Nested : goal.body_size-returns-in-Nested
body_size-returns-in-Nested t c =
    subst (λ b. Held 65532 c.paths_size.result (body_written (body_results b))) (sym c.in-Nested.is)
    (nested_held c.in-Nested.paths c.paths_size.result (subst (λ l. Held 65532 c.paths_size.result (joined (map (λ p. path_written (path_results p)) l))) c.as_slice.ensures c.paths_size.ensures))

pub path_size-returns-then-count-gt-VALUE-clause-size : goal.path_size-returns-then-count-gt-VALUE-clause-size
path_size-returns-then-count-gt-VALUE-clause-size t c = path_many c.args.path.now (omega (arith, c.len-count.ensures))

pub path_size-returns-in-None-body_size-clause-size : goal.path_size-returns-in-None-body_size-clause-size
path_size-returns-in-None-body_size-clause-size t c = path_body_fails c.args.path.now c.in-None-body_size.ensures

pub path_size-returns-then-size-gt-VALUE-clause-size : goal.path_size-returns-then-size-gt-VALUE-clause-size
path_size-returns-then-size-gt-VALUE-clause-size t c =
    path_over c.args.path.now c.in-Some.size c.in-Some-body_size.size c.in-Some.ensures.size c.in-Some-body_size.ensures (omega (arith, c.len-count.ensures))

pub path_size-returns-else-size-gt-VALUE-clause-size : goal.path_size-returns-else-size-gt-VALUE-clause-size
path_size-returns-else-size-gt-VALUE-clause-size t c =
    subst (λ n. Sized (Some (4 + 4 * n + c.in-Some.size + c.in-Some-body_size.size + 4)) (path_written (path_results c.args.path.now))) (sym c.len-count.ensures)
    (path_sized c.args.path.now c.in-Some.size c.in-Some-body_size.size c.in-Some.ensures.size c.in-Some-body_size.ensures (omega (arith, c.len-count.ensures)))

pub paths_size-returns-then-sum-size-gt-VALUE : goal.paths_size-returns-then-sum-size-gt-VALUE
paths_size-returns-then-sum-size-gt-VALUE t c =
    held_over (λ p. path_written (path_results p)) 65532 c.args.paths.now c.loop-path.path-index c.path-item.result c.loop-path.sum c.in-Some.size (omega arith) c.path-item.is c.loop-path.invariant c.in-Some.ensures.size (omega arith)

pub paths_size-returns-in-None : goal.paths_size-returns-in-None
paths_size-returns-in-None t c =
    held_fails (λ p. path_written (path_results p)) 65532 c.args.paths.now c.loop-path.path-index c.path-item.result (omega arith) c.path-item.is c.in-None.ensures.size

pub paths_size-loop-path-preserved : goal.paths_size-loop-path-preserved
paths_size-loop-path-preserved t c =
    held_more (λ p. path_written (path_results p)) 65532 c.args.paths.now c.loop-path.path-index c.path-item.result c.loop-path.sum c.in-Some.size (omega arith) c.path-item.is c.loop-path.invariant c.in-Some.ensures.size (omega arith)
