use Rattle.std.proofs.Common.{ap, map, subst, sym, vec_items}
use Rattle.fc_world.specs.Stages.{AreCounted, standing_of}
use Rattle.fc_world.proofs.Acting.{called_stage}
use Rattle.fc_world.proofs.Staging.{refused_by}
use Rattle.fc_world.proofs.stage.Stage.call.Goals as goal

pub keep-requires-clause-counted : goal.keep-requires-clause-counted
keep-requires-clause-counted c = subst (AreCounted 0) (sym c.reserve.ensures.items) c.requires.sound.counted

pub returns-clause-refused : goal.returns-clause-refused
returns-clause-refused c =
    refused_by c.args.number c.args.request (map standing_of c.args.self.now.controllers.items) c.in_ok-answer.answer (map standing_of c.ask_in.new.controllers.items) c.keep.result c.keep.ensures.refused c.in_ok-answer.ensures.ok

pub returns-clause-ok : goal.returns-clause-ok
returns-clause-ok c =
    (called_stage c.args.number c.args.place c.args.request c.args.self.now c.keep.new.self c.in_ok-answer.answer c.reserve.new.self.items (map standing_of c.ask_in.new.controllers.items) c.reserve-2.new.self.items
    c.reserve.ensures.items c.reserve-2.ensures.items c.in_ok-answer.ensures.ok c.keep.ensures.sent c.keep.ensures.kept (ap vec_items c.keep.ensures.nodes)
    (ap (λ v. map standing_of (vec_items v)) c.keep.ensures.controllers) c.requires.clear c.requires.sound).0

pub returns-clause-sound : goal.returns-clause-sound
returns-clause-sound c =
    (called_stage c.args.number c.args.place c.args.request c.args.self.now c.keep.new.self c.in_ok-answer.answer c.reserve.new.self.items (map standing_of c.ask_in.new.controllers.items) c.reserve-2.new.self.items
    c.reserve.ensures.items c.reserve-2.ensures.items c.in_ok-answer.ensures.ok c.keep.ensures.sent c.keep.ensures.kept (ap vec_items c.keep.ensures.nodes)
    (ap (λ v. map standing_of (vec_items v)) c.keep.ensures.controllers) c.requires.clear c.requires.sound).1
