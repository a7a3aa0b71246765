use Rattle.std.proofs.Common.{length, ap, ◌∙◌}
use Rattle.fc_ops.specs.Asking.{contents_of}
use Rattle.fc_ops.proofs.Counts.{query_counts}
use Rattle.fc_ops.proofs.asking.query.Goals as goal

pub answer_query-requires-clause-count : goal.answer_query-requires-clause-count
answer_query-requires-clause-count g c =
    let told = g.L.Live.told c.args.live.now in
    ap (λ qs. length (contents_of told c.args.store.now c.args.props.now qs)) (c.deref.ensures.value ∙ c.in_ok-questions.ensures)
    ∙ query_counts told c.args.store.now c.args.props.now c.args.selects.now
