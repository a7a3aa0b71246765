use Rattle.std.proofs.Common.{Ok, ap, refl, subst, sym, ◌∙◌}
use Rattle.fc_base.specs.Answers.{◌>>=◌}
use Rattle.fc_path.specs.Canon.{oper_written}
use Rattle.fc_path.specs.declared.kinds.Operation.{Operation}
use Rattle.fc_path.specs.declared.oper.Oper.TheVariants as oper
use Rattle.fc_text.specs.TextReading.{operation_at, operation_paths_at}
use Rattle.fc_making.specs.Writes.{Writes, operation_written}
use Rattle.fc_making.proofs.WrittenParts.{writes_as}
use Rattle.fc_making.proofs.write_select.write_operation.Goals as goal

pub returns-in-Paths-clause-exact : goal.returns-in-Paths-clause-exact
returns-in-Paths-clause-exact c =
    subst (λ (o : Operation). Writes c.write_holding.result (operation_at o c.args.level c.args.lines.now) c.write_holding.new.lines oper_written c.args.to.now c.write_holding.new.to) (sym c.in-Paths.is)
    (writes_as c.write_holding.result (operation_paths_at c.in-Paths.kind c.args.level c.args.lines.now) c.write_holding.new.lines (oper.Paths c.in-Paths.kind) (operation_written c.in-Paths.kind) oper_written c.args.to.now c.write_holding.new.to
    (λ paths. refl) c.write_holding.ensures.exact)

pub returns-in_ok-write_response-in-CommitResponse-clause-exact : goal.returns-in_ok-write_response-in-CommitResponse-clause-exact
returns-in_ok-write_response-in-CommitResponse-clause-exact c = (
  oper.CommitResponse c.in_ok-code-in-CommitResponse.code,
  ap (λ (o : Operation). operation_at o c.args.level c.args.lines.now) c.in-CommitResponse.is ∙ ap (λ q. q >>= λ code. Ok (oper.CommitResponse code.0, code.1)) c.in_ok-code-in-CommitResponse.ensures.exact,
  c.in_ok-write_response-in-CommitResponse.ensures,
)
