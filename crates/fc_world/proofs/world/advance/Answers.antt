use Rattle.std.proofs.Common.{sym, subst, ap, ◌∙◌, ◌++◌, ◌∷◌, []}
use Rattle.fc_world.specs.Played.{AreMade}
use Rattle.fc_world.specs.Stages.{RefusesAt, Tells, state_of}
use Rattle.fc_world.specs.Worlds.{first_world}
use Rattle.fc_world.specs.WorldSteps.{refusal_of}
use Rattle.fc_world.proofs.Acting.{as_was_sound, as_was_state}
use Rattle.fc_world.proofs.Playing.{is_clear, played_more, played_same}
use Rattle.fc_world.proofs.Running.{apart_stays, made_more}
use Rattle.fc_world.proofs.world.advance.Goals as goal

pub take_step-requires-clause-apart : goal.take_step-requires-clause-apart
take_step-requires-clause-apart c = apart_stays c.args.setting.now c.args.done.now.items (state_of c.args.stage.now) c.requires.state c.requires.network.apart

pub take_step-requires-clause-clear : goal.take_step-requires-clause-clear
take_step-requires-clause-clear c = is_clear c.args.setting.now c.requires.network

pub returns-clause-made : goal.returns-clause-made
returns-clause-made c =
    subst (AreMade c.args.setting.now.transactions (first_world c.args.setting.now)) (sym (c.push_reserved.ensures.items ∙ ap (λ l. l ++ (c.args.place, c.args.step) ∷ []) c.reserve.ensures.items))
    (made_more c.args.setting.now.transactions (first_world c.args.setting.now) c.args.done.now.items (c.args.place, c.args.step) c.requires.made c.requires.can c.requires.round)

pub returns-clause-state : goal.returns-clause-state
returns-clause-state c =
    played_more c.args.setting.now c.args.done.now.items c.push_reserved.new.self.items (c.args.place, c.args.step) (state_of c.args.stage.now) (state_of c.take_step.new.self) c.requires.state c.in_ok-refused.ensures.ok
    (c.push_reserved.ensures.items ∙ ap (λ l. l ++ (c.args.place, c.args.step) ∷ []) c.reserve.ensures.items)

pub returns-clause-ok : goal.returns-clause-ok
returns-clause-ok c = c.push_reserved.ensures.items ∙ ap (λ l. l ++ (c.args.place, c.args.step) ∷ []) c.reserve.ensures.items

pub returns-clause-refused : goal.returns-clause-refused
returns-clause-refused c = subst (λ w. Tells (RefusesAt c.args.step) c.in_ok-refused.refused (refusal_of c.args.setting.now.transactions w c.args.step)) c.requires.state c.in_ok-refused.ensures.refused

pub returns-in_err-refused-clause-state : goal.returns-in_err-refused-clause-state
returns-in_err-refused-clause-state c =
    played_same c.args.setting.now c.args.done.now.items c.reserve.new.self.items (state_of c.args.stage.now) (state_of c.take_step.new.self) c.requires.state (as_was_state c.take_step.new.self c.args.stage.now c.in_err-refused.ensures.err)
    c.reserve.ensures.items

pub returns-in_err-refused-clause-sound : goal.returns-in_err-refused-clause-sound
returns-in_err-refused-clause-sound c = as_was_sound c.take_step.new.self c.args.stage.now c.in_err-refused.ensures.err c.requires.sound

pub returns-in_err-refused-clause-made : goal.returns-in_err-refused-clause-made
returns-in_err-refused-clause-made c = subst (AreMade c.args.setting.now.transactions (first_world c.args.setting.now)) (sym c.reserve.ensures.items) c.requires.made
