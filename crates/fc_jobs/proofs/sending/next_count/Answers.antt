use Rattle.std.proofs.Common.{◌<◌, ◌-◌, ◌^◌, cond, sym, ◌∙◌, subst, rules}
use Rattle.fc_jobs.proofs.sending.next_count.Goals as goal

pub overflow_add-result : goal.overflow_add-result
overflow_add-result c =
    let seat = c.args.seat.now in
    let few : seat.queries < 2 ^ 32 - 1 = subst (λ b. cond b seat.queries seat.last < 2 ^ 32 - 1) (sym (c.is_query.ensures 0) ∙ c.if-is_query.true) (c.requires 0) in
    search rules

pub overflow_add-result-else-is_query : goal.overflow_add-result-else-is_query
overflow_add-result-else-is_query c =
    let seat = c.args.seat.now in
    let few : seat.last < 2 ^ 32 - 1 = subst (λ b. cond b seat.queries seat.last < 2 ^ 32 - 1) (sym (c.is_query.ensures 0) ∙ c.if-is_query.false) (c.requires 0) in
    search rules
