use Rattle.fc_exec.specs.Running.{unmarked}
use Rattle.fc_exec.proofs.Named.{codes_kept, err_kept, reference_kept, state_kept}
use Rattle.fc_exec.proofs.running.run_in.Goals as goal

pub returns-clause-same_reference : goal.returns-clause-same_reference
returns-clause-same_reference c =
    let old = c.args.running.now in
    let new = c.run_mode.new.runner in
    reference_kept c.run_mode.result old.store.ghost_name c.args.mode (unmarked old.mark old.store.now) c.args.operations.now (new.store.ghost_name, unmarked new.mark new.store.now) c.run_mode.ensures.state c.run_mode.ensures.err

pub returns-clause-codes : goal.returns-clause-codes
returns-clause-codes c =
    let old = c.args.running.now in
    codes_kept c.run_mode.result old.store.ghost_name c.args.mode (unmarked old.mark old.store.now) c.args.operations.now c.run_mode.ensures.codes

pub returns-clause-state : goal.returns-clause-state
returns-clause-state c =
    let old = c.args.running.now in
    let new = c.run_mode.new.runner in
    state_kept c.run_mode.result old.store.ghost_name c.args.mode (unmarked old.mark old.store.now) c.args.operations.now (new.store.ghost_name, unmarked new.mark new.store.now) c.run_mode.ensures.state

pub returns-clause-err : goal.returns-clause-err
returns-clause-err c =
    let old = c.args.running.now in
    let new = c.run_mode.new.runner in
    err_kept c.run_mode.result old.store.ghost_name (unmarked old.mark old.store.now) (new.store.ghost_name, unmarked new.mark new.store.now) c.run_mode.ensures.err
