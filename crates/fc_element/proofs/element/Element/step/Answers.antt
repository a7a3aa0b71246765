use Rattle.std.proofs.Common.{subst}
use Rattle.fc_performing.specs.Sending.{IsAnswer}
use Rattle.fc_element.specs.ElementState.{ElementState}
use Rattle.fc_element.proofs.Fitting.{given_fits}
use Rattle.fc_element.proofs.element.Element.step.Goals as goal

pub returns-clause-fit : goal.returns-clause-fit
returns-clause-fit c =
    given_fits c.args.self.now (subst (λ (s : ElementState). IsAnswer s.transactions.kept) c.self.view_is c.kept-kept.ensures.fits) c.args.input c.taken.result c.requires.proper c.taken.ensures.outs
