use Rattle.std.proofs.Common.{ap}
use Rattle.fc_world.specs.Played.{Played}
use Rattle.fc_generating.proofs.Tries.{follows_on, made, unmade}
use Rattle.fc_generating.proofs.trying.try_step.Goals as goal

pub returns-in_ok-go_on-in-Ok-clause-tried : goal.returns-in_ok-go_on-in-Ok-clause-tried
returns-in_ok-go_on-in-Ok-clause-tried c rest = made c.args.world.now c.step.new.self c.args.place c.args.step rest c.in-Ok.ensures.can c.in-Ok.ensures.ok

pub returns-in_ok-go_on-in-Ok-clause-follows : goal.returns-in_ok-go_on-in-Ok-clause-follows
returns-in_ok-go_on-in-Ok-clause-follows c =
    follows_on c.args.world.now c.step.new.self c.args.place c.args.step c.args.trail.now c.go_on.new.self c.in-Ok.ensures.ok c.requires.follows c.in_ok-go_on-in-Ok.ensures.ok

pub returns-in_ok-not_memory-in-Err-clause-tried : goal.returns-in_ok-not_memory-in-Err-clause-tried
returns-in_ok-not_memory-in-Err-clause-tried c rest =
    unmade c.args.world.now c.step.new.self c.args.place c.args.step rest c.in-Err.fault (c.in-Err.ensures.fault c.in_ok-not_memory-in-Err.ensures) c.in-Err.ensures.err

pub returns-in_ok-not_memory-in-Err-clause-setting : goal.returns-in_ok-not_memory-in-Err-clause-setting
returns-in_ok-not_memory-in-Err-clause-setting c = ap (λ (t : Played). t.setting) c.in-Err.ensures.err
