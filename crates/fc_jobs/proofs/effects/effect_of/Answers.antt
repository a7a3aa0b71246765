use Rattle.std.proofs.Common.{sym, ap, ◌∙◌}
use Rattle.fc_protocol.specs.Jobs.{by_code}
use Rattle.fc_asks.specs.Bodies.{body_of}
use Rattle.fc_jobs.proofs.Replying.{same_jobs}
use Rattle.fc_jobs.proofs.effects.effect_of.Goals as goal

pub returns-in-Claim : goal.returns-in-Claim
returns-in-Claim c = λ p js. same_jobs p js ∙ ap (λ a. by_code c.args.epoch p (body_of c.args.epoch a) c.args.is_good js) (sym c.in-Claim.is)

pub returns-in-Ask : goal.returns-in-Ask
returns-in-Ask c = λ p js. same_jobs p js ∙ ap (λ a. by_code c.args.epoch p (body_of c.args.epoch a) c.args.is_good js) (sym c.in-Ask.is)

pub returns-in-Record : goal.returns-in-Record
returns-in-Record c = λ p js. same_jobs p js ∙ ap (λ a. by_code c.args.epoch p (body_of c.args.epoch a) c.args.is_good js) (sym c.in-Record.is)

pub returns-in-Plain : goal.returns-in-Plain
returns-in-Plain c = λ p js. same_jobs p js ∙ ap (λ a. by_code c.args.epoch p (body_of c.args.epoch a) c.args.is_good js) (sym c.in-Plain.is)

pub returns-in-Floor : goal.returns-in-Floor
returns-in-Floor c = λ p js. same_jobs p js ∙ ap (λ a. by_code c.args.epoch p (body_of c.args.epoch a) c.args.is_good js) (sym c.in-Floor.is)
