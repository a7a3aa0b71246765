use Rattle.fc_exec.specs.Running.{unmarked}
use Rattle.fc_exec.proofs.Framed.{codes_kept, err_kept, reference_kept, running_kept, state_kept}
use Rattle.fc_exec.proofs.bounded.run_in.Goals as goal

pub returns-clause-same_running : goal.returns-clause-same_running
returns-clause-same_running c =
    let old = c.args.bounded.now in
    let new = c.run_mode.new.runner in
    running_kept c.run_mode.result (old.scope.now, (old.running.ghost_name, old.running.now.store.ghost_name)) c.args.mode (unmarked old.running.now.mark old.running.now.store.now) c.args.operations.now
    ((new.scope.now, (new.running.ghost_name, new.running.now.store.ghost_name)), unmarked new.running.now.mark new.running.now.store.now) c.run_mode.ensures.state c.run_mode.ensures.err

pub returns-clause-same_reference : goal.returns-clause-same_reference
returns-clause-same_reference c =
    let old = c.args.bounded.now in
    let new = c.run_mode.new.runner in
    reference_kept c.run_mode.result (old.scope.now, (old.running.ghost_name, old.running.now.store.ghost_name)) c.args.mode (unmarked old.running.now.mark old.running.now.store.now) c.args.operations.now
    ((new.scope.now, (new.running.ghost_name, new.running.now.store.ghost_name)), unmarked new.running.now.mark new.running.now.store.now) c.run_mode.ensures.state c.run_mode.ensures.err

pub returns-clause-codes : goal.returns-clause-codes
returns-clause-codes c =
    let old = c.args.bounded.now in
    codes_kept c.run_mode.result (old.scope.now, (old.running.ghost_name, old.running.now.store.ghost_name)) c.args.mode (unmarked old.running.now.mark old.running.now.store.now) c.args.operations.now c.run_mode.ensures.codes

pub returns-clause-state : goal.returns-clause-state
returns-clause-state c =
    let old = c.args.bounded.now in
    let new = c.run_mode.new.runner in
    state_kept c.run_mode.result (old.scope.now, (old.running.ghost_name, old.running.now.store.ghost_name)) c.args.mode (unmarked old.running.now.mark old.running.now.store.now) c.args.operations.now
    ((new.scope.now, (new.running.ghost_name, new.running.now.store.ghost_name)), unmarked new.running.now.mark new.running.now.store.now) c.run_mode.ensures.state

pub returns-clause-err : goal.returns-clause-err
returns-clause-err c =
    let old = c.args.bounded.now in
    let new = c.run_mode.new.runner in
    err_kept c.run_mode.result (old.scope.now, (old.running.ghost_name, old.running.now.store.ghost_name)) (unmarked old.running.now.mark old.running.now.store.now)
    ((new.scope.now, (new.running.ghost_name, new.running.now.store.ghost_name)), unmarked new.running.now.mark new.running.now.store.now) c.run_mode.ensures.err
