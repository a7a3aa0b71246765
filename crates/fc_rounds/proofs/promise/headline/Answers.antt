use Rattle.std.proofs.Common.{subst}
use Rattle.fc_world.specs.Played.{AreMade, world_after}
use Rattle.fc_world.specs.Worlds.{first_world}
use Rattle.fc_rounds.proofs.Runs.{agrees, fenced, folds_all, has_one_plan, is_ready, made_before, settles, settles_once}
use Rattle.fc_rounds.proofs.Reports.{one_word, report_tells}
use Rattle.fc_rounds.proofs.Telling.{tells_all}
use Rattle.fc_rounds.proofs.promise.headline.Goals as goal

pub returns-clause-agree : goal.returns-clause-agree
returns-clause-agree c done after is = agrees c.args.world.now.setting done c.keeps.ensures.network (made_before c.args.world.now.setting.transactions (first_world c.args.world.now.setting) done after (subst (AreMade c.args.world.now.setting.transactions (first_world c.args.world.now.setting)) is c.keeps.ensures.made))

pub returns-clause-once : goal.returns-clause-once
returns-clause-once c done after is = settles_once c.args.world.now.setting done c.keeps.ensures.network (made_before c.args.world.now.setting.transactions (first_world c.args.world.now.setting) done after (subst (AreMade c.args.world.now.setting.transactions (first_world c.args.world.now.setting)) is c.keeps.ensures.made))

pub returns-clause-ready : goal.returns-clause-ready
returns-clause-ready c done after is = is_ready c.args.world.now.setting done c.keeps.ensures.network (made_before c.args.world.now.setting.transactions (first_world c.args.world.now.setting) done after (subst (AreMade c.args.world.now.setting.transactions (first_world c.args.world.now.setting)) is c.keeps.ensures.made))

pub returns-clause-one_plan : goal.returns-clause-one_plan
returns-clause-one_plan c done after is = has_one_plan c.args.world.now.setting done c.keeps.ensures.network (made_before c.args.world.now.setting.transactions (first_world c.args.world.now.setting) done after (subst (AreMade c.args.world.now.setting.transactions (first_world c.args.world.now.setting)) is c.keeps.ensures.made))

pub returns-clause-folded : goal.returns-clause-folded
returns-clause-folded c done after is = folds_all c.args.world.now.setting done c.keeps.ensures.network (made_before c.args.world.now.setting.transactions (first_world c.args.world.now.setting) done after (subst (AreMade c.args.world.now.setting.transactions (first_world c.args.world.now.setting)) is c.keeps.ensures.made))

pub returns-clause-settled : goal.returns-clause-settled
returns-clause-settled c done after is = settles c.args.world.now.setting done c.keeps.ensures.network (made_before c.args.world.now.setting.transactions (first_world c.args.world.now.setting) done after (subst (AreMade c.args.world.now.setting.transactions (first_world c.args.world.now.setting)) is c.keeps.ensures.made))

pub returns-clause-fenced : goal.returns-clause-fenced
returns-clause-fenced c done after is = fenced (world_after c.args.world.now.setting done)

pub returns-clause-told : goal.returns-clause-told
returns-clause-told c done after is = tells_all c.args.world.now.setting done c.keeps.ensures.network (made_before c.args.world.now.setting.transactions (first_world c.args.world.now.setting) done after (subst (AreMade c.args.world.now.setting.transactions (first_world c.args.world.now.setting)) is c.keeps.ensures.made))

pub returns-clause-reported : goal.returns-clause-reported
returns-clause-reported c done after is = report_tells c.args.world.now.setting done c.keeps.ensures.network (made_before c.args.world.now.setting.transactions (first_world c.args.world.now.setting) done after (subst (AreMade c.args.world.now.setting.transactions (first_world c.args.world.now.setting)) is c.keeps.ensures.made))

pub returns-clause-one_word : goal.returns-clause-one_word
returns-clause-one_word c numbered done after is = one_word c.args.world.now.setting done c.keeps.ensures.network (made_before c.args.world.now.setting.transactions (first_world c.args.world.now.setting) done after (subst (AreMade c.args.world.now.setting.transactions (first_world c.args.world.now.setting)) is c.keeps.ensures.made)) numbered
