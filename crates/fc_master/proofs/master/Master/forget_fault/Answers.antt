use Rattle.std.proofs.Common.{◌||◌, nat_le, List, is_some, sym, ap, ◌∙◌}
use Rattle.std.specs.List.{list_any}
use Rattle.fc_protocol.specs.MasterMachine.{Spent, any_last, deposed_by, engaged, last_count, refused_if, unready, unsettled}
use Rattle.fc_jobs.specs.declared.job.Job.{Job}
use Rattle.fc_jobs.specs.JobViews.{jobs_of}
use Rattle.fc_master.proofs.Forgetful.{all_kept, engaged_is, unready_is, used_up_is}
use Rattle.fc_master.proofs.Rested.{unsettled_open}
use Rattle.fc_master.proofs.Refusing.{fourth_told, is_last, last_told, not_last, second_told, spent_first, spent_not, spent_second, third_told}
use Rattle.fc_master.specs.Masters.{core_of}
use Rattle.fc_master.specs.Refusals.{engaged_seats, forget_told, forget_told_by, is_used_up, unready_seats}
use Rattle.fc_master.proofs.master.Master.forget_fault.Goals as goal

pub returns-in-Some-unready_fault : goal.returns-in-Some-unready_fault
returns-in-Some-unready_fault c =
    let me = c.args.self.now in
    let e = me.life.epoch in
    let m = core_of me in
    let told = c.unready_fault.ensures.told e ∙ ap (unready_seats e) c.as_slice.ensures ∙ unready_is m e me.seats (all_kept me) in
    second_told (deposed_by m.deposed) (unready m m.elements) (engaged m m.elements) (unsettled m.jobs) (refused_if (any_last m m.elements || nat_le last_count m.begun) Spent) (forget_told c.in-Some-unready_fault.fault)
    (ap deposed_by c.in_default.is) (sym (ap forget_told_by c.in-Some-unready_fault.is) ∙ told)
    (ap (λ o. is_some (forget_told_by o)) (sym c.in-Some-unready_fault.is) ∙ c.unready_fault.ensures.sure ∙ ap is_some c.in-Some-unready_fault.is)

pub returns-in-Some-engaged_fault : goal.returns-in-Some-engaged_fault
returns-in-Some-engaged_fault c =
    let me = c.args.self.now in
    let e = me.life.epoch in
    let m = core_of me in
    let first = c.unready_fault.ensures.told e ∙ ap (unready_seats e) c.as_slice.ensures ∙ unready_is m e me.seats (all_kept me) in
    let told = c.engaged_fault.ensures.told e ∙ ap (engaged_seats e) c.as_slice-2.ensures ∙ engaged_is m e me.seats (all_kept me) in
    third_told (deposed_by m.deposed) (unready m m.elements) (engaged m m.elements) (unsettled m.jobs) (refused_if (any_last m m.elements || nat_le last_count m.begun) Spent) (forget_told c.in-Some-engaged_fault.fault)
    (ap deposed_by c.in_default.is) (sym first ∙ ap forget_told_by c.in_default-unready_fault.is) (sym (ap forget_told_by c.in-Some-engaged_fault.is) ∙ told)
    (ap (λ o. is_some (forget_told_by o)) (sym c.in-Some-engaged_fault.is) ∙ c.engaged_fault.ensures.sure ∙ ap is_some c.in-Some-engaged_fault.is)

pub returns-in-Some-unsettled_fault : goal.returns-in-Some-unsettled_fault
returns-in-Some-unsettled_fault c =
    let me = c.args.self.now in
    let e = me.life.epoch in
    let m = core_of me in
    let first = c.unready_fault.ensures.told e ∙ ap (unready_seats e) c.as_slice.ensures ∙ unready_is m e me.seats (all_kept me) in
    let second = c.engaged_fault.ensures.told e ∙ ap (engaged_seats e) c.as_slice-2.ensures ∙ engaged_is m e me.seats (all_kept me) in
    let told = c.unsettled_fault.ensures.told ∙ ap (λ (js : List Job). unsettled (jobs_of js)) c.open.ensures ∙ unsettled_open me.jobs in
    fourth_told (deposed_by m.deposed) (unready m m.elements) (engaged m m.elements) (unsettled m.jobs) (refused_if (any_last m m.elements || nat_le last_count m.begun) Spent) (forget_told c.in-Some-unsettled_fault.fault)
    (ap deposed_by c.in_default.is) (sym first ∙ ap forget_told_by c.in_default-unready_fault.is) (sym second ∙ ap forget_told_by c.in_default-engaged_fault.is) (sym (ap forget_told_by c.in-Some-unsettled_fault.is) ∙ told)
    (ap (λ o. is_some (forget_told_by o)) (sym c.in-Some-unsettled_fault.is) ∙ c.unsettled_fault.ensures.sure ∙ ap is_some c.in-Some-unsettled_fault.is)

pub returns-then-is_any_last : goal.returns-then-is_any_last
returns-then-is_any_last c =
    let me = c.args.self.now in
    let e = me.life.epoch in
    let m = core_of me in
    let first = c.unready_fault.ensures.told e ∙ ap (unready_seats e) c.as_slice.ensures ∙ unready_is m e me.seats (all_kept me) in
    let second = c.engaged_fault.ensures.told e ∙ ap (engaged_seats e) c.as_slice-2.ensures ∙ engaged_is m e me.seats (all_kept me) in
    let third = c.unsettled_fault.ensures.told ∙ ap (λ (js : List Job). unsettled (jobs_of js)) c.open.ensures ∙ unsettled_open me.jobs in
    let used = c.is_any_last.ensures ∙ ap (list_any is_used_up) c.as_slice-3.ensures ∙ used_up_is m e me.seats (all_kept me) in
    spent_first (any_last m m.elements) (nat_le last_count m.begun) Spent (sym used ∙ c.if-is_any_last.true)
    ∙ last_told (deposed_by m.deposed) (unready m m.elements) (engaged m m.elements) (unsettled m.jobs) (refused_if (any_last m m.elements || nat_le last_count m.begun) Spent)
    (ap deposed_by c.in_default.is) (sym first ∙ ap forget_told_by c.in_default-unready_fault.is) (sym second ∙ ap forget_told_by c.in_default-engaged_fault.is) (sym third ∙ ap forget_told_by c.in_default-unsettled_fault.is)

pub returns-then-self-ge-LAST : goal.returns-then-self-ge-LAST
returns-then-self-ge-LAST c =
    let me = c.args.self.now in
    let e = me.life.epoch in
    let m = core_of me in
    let first = c.unready_fault.ensures.told e ∙ ap (unready_seats e) c.as_slice.ensures ∙ unready_is m e me.seats (all_kept me) in
    let second = c.engaged_fault.ensures.told e ∙ ap (engaged_seats e) c.as_slice-2.ensures ∙ engaged_is m e me.seats (all_kept me) in
    let third = c.unsettled_fault.ensures.told ∙ ap (λ (js : List Job). unsettled (jobs_of js)) c.open.ensures ∙ unsettled_open me.jobs in
    spent_second (any_last m m.elements) (nat_le last_count m.begun) Spent (is_last m.begun c.if-self-ge-LAST.true)
    ∙ last_told (deposed_by m.deposed) (unready m m.elements) (engaged m m.elements) (unsettled m.jobs) (refused_if (any_last m m.elements || nat_le last_count m.begun) Spent)
    (ap deposed_by c.in_default.is) (sym first ∙ ap forget_told_by c.in_default-unready_fault.is) (sym second ∙ ap forget_told_by c.in_default-engaged_fault.is) (sym third ∙ ap forget_told_by c.in_default-unsettled_fault.is)

pub returns : goal.returns
returns c =
    let me = c.args.self.now in
    let e = me.life.epoch in
    let m = core_of me in
    let first = c.unready_fault.ensures.told e ∙ ap (unready_seats e) c.as_slice.ensures ∙ unready_is m e me.seats (all_kept me) in
    let second = c.engaged_fault.ensures.told e ∙ ap (engaged_seats e) c.as_slice-2.ensures ∙ engaged_is m e me.seats (all_kept me) in
    let third = c.unsettled_fault.ensures.told ∙ ap (λ (js : List Job). unsettled (jobs_of js)) c.open.ensures ∙ unsettled_open me.jobs in
    let used = c.is_any_last.ensures ∙ ap (list_any is_used_up) c.as_slice-3.ensures ∙ used_up_is m e me.seats (all_kept me) in
    spent_not (any_last m m.elements) (nat_le last_count m.begun) Spent (sym used ∙ c.if-is_any_last.false) (not_last m.begun c.if-self-ge-LAST.false)
    ∙ last_told (deposed_by m.deposed) (unready m m.elements) (engaged m m.elements) (unsettled m.jobs) (refused_if (any_last m m.elements || nat_le last_count m.begun) Spent)
    (ap deposed_by c.in_default.is) (sym first ∙ ap forget_told_by c.in_default-unready_fault.is) (sym second ∙ ap forget_told_by c.in_default-engaged_fault.is) (sym third ∙ ap forget_told_by c.in_default-unsettled_fault.is)
