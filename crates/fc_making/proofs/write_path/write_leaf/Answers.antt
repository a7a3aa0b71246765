use Rattle.std.proofs.Common.{◌+◌, Err, Ok, ap, refl, subst, sym}
use Rattle.std.proofs.lemmas.Result.{err_from_is_err_and}
use Rattle.fc_path.specs.Canon.{Pushed, body_written, sparse_written}
use Rattle.fc_path.specs.declared.path.Body.TheVariants as body
use Rattle.fc_path.proofs.InGrammar.{full_is, outcome_is, sparse_is}
use Rattle.fc_lines.specs.LineReading.{ilv_at, leaf_said}
use Rattle.fc_lines.specs.declared.said.LeafLine.{LeafLine}
use Rattle.fc_text.specs.HeadedReading.{leaf_of}
use Rattle.fc_text.specs.TextReading.{many_at}
use Rattle.fc_making.specs.Writes.{Writes, unwritten_by}
use Rattle.fc_making.proofs.WrittenParts.{writes, writes_as}
use Rattle.fc_making.proofs.write_path.write_leaf.Goals as goal

pub returns-in_ok-write_full-in-Full-clause-exact : goal.returns-in_ok-write_full-in-Full-clause-exact
returns-in_ok-write_full-in-Full-clause-exact c = (
  body.Full c.in-Full.word,
  ap (λ (s : LeafLine). leaf_of c.args.level (leaf_said s) c.args.lines.now) c.in-Full.is,
  subst (Pushed (Ok tt) c.args.to.now c.write_full.new.to) (sym (full_is c.in-Full.word)) c.in_ok-write_full-in-Full.ensures,
)

pub returns-in-Sparse-clause-exact : goal.returns-in-Sparse-clause-exact
returns-in-Sparse-clause-exact c =
    subst (λ (s : LeafLine). Writes c.write_sparse.result (leaf_of c.args.level (leaf_said s) c.args.lines.now) c.write_sparse.new.lines body_written c.args.to.now c.write_sparse.new.to) (sym c.in-Sparse.is)
    (writes_as c.write_sparse.result (many_at (c.args.level + 1) (ilv_at (c.args.level + 1)) c.args.lines.now) c.write_sparse.new.lines body.Sparse sparse_written body_written c.args.to.now c.write_sparse.new.to sparse_is c.write_sparse.ensures.exact)

pub returns-in_ok-write_outcome-in-Outcome-clause-exact : goal.returns-in_ok-write_outcome-in-Outcome-clause-exact
returns-in_ok-write_outcome-in-Outcome-clause-exact c = (
  body.Outcome c.in-Outcome.code,
  ap (λ (s : LeafLine). leaf_of c.args.level (leaf_said s) c.args.lines.now) c.in-Outcome.is,
  subst (Pushed (Ok tt) c.args.to.now c.write_outcome.new.to) (sym (outcome_is c.in-Outcome.code)) c.in_ok-write_outcome-in-Outcome.ensures,
)

pub returns-in_err-write_full-in-Full-clause-exact : goal.returns-in_err-write_full-in-Full-clause-exact
returns-in_err-write_full-in-Full-clause-exact c =
    let p = err_from_is_err_and c.from_residual.result c.from_residual.ensures.1 in
    rw (p.1, p.2) (writes (leaf_of c.args.level (leaf_said c.args.said) c.args.lines.now) c.args.lines.now body_written (body.Full c.in-Full.word) c.args.to.now c.write_full.new.to (Err c.in_err-write_full-in-Full.field-0.0) (Err (unwritten_by c.in_err-write_full-in-Full.field-0.0)) refl
    (ap (λ (s : LeafLine). leaf_of c.args.level (leaf_said s) c.args.lines.now) c.in-Full.is) (subst (Pushed (Err c.in_err-write_full-in-Full.field-0.0) c.args.to.now c.write_full.new.to) (sym (full_is c.in-Full.word)) c.in_err-write_full-in-Full.ensures))
