use Rattle.std.proofs.Common.{refl, subst, ◌≡◌}
use Rattle.fc_msg.specs.Messages.{selects_written}
use Rattle.fc_msg.specs.declared.message.MsgBody.TheVariants as v
use Rattle.fc_msg.proofs.Measured.{fits_by, number_fits, text_fits}
use Rattle.fc_msg.proofs.fitting.fits.Goals as goal

pub returns-in-Setup : goal.returns-in-Setup
returns-in-Setup c =
    fits_by c.args.message.now (v.Setup c.in-Setup.selects) c.selects_fit.result c.in-Setup.is (subst (λ ss. c.selects_fit.result ≡ text_fits (selects_written ss)) c.as_slice.ensures c.selects_fit.ensures)

pub returns-in-Config : goal.returns-in-Config
returns-in-Config c =
    fits_by c.args.message.now (v.Config c.in-Config.selects) c.selects_fit-in-Config.result c.in-Config.is (subst (λ ss. c.selects_fit-in-Config.result ≡ text_fits (selects_written ss)) c.as_slice-in-Config.ensures c.selects_fit-in-Config.ensures)

pub returns-in-ConfigResponse : goal.returns-in-ConfigResponse
returns-in-ConfigResponse c =
    fits_by c.args.message.now (v.ConfigResponse c.in-ConfigResponse.selects) c.selects_fit-in-ConfigResponse.result c.in-ConfigResponse.is (subst (λ ss. c.selects_fit-in-ConfigResponse.result ≡ text_fits (selects_written ss)) c.as_slice-in-ConfigResponse.ensures c.selects_fit-in-ConfigResponse.ensures)

pub returns-in-Query : goal.returns-in-Query
returns-in-Query c =
    fits_by c.args.message.now (v.Query c.in-Query.selects) c.selects_fit-in-Query.result c.in-Query.is (subst (λ ss. c.selects_fit-in-Query.result ≡ text_fits (selects_written ss)) c.as_slice-in-Query.ensures c.selects_fit-in-Query.ensures)

pub returns-in-QueryResponse : goal.returns-in-QueryResponse
returns-in-QueryResponse c =
    fits_by c.args.message.now (v.QueryResponse c.in-QueryResponse.selects) c.selects_fit-in-QueryResponse.result c.in-QueryResponse.is (subst (λ ss. c.selects_fit-in-QueryResponse.result ≡ text_fits (selects_written ss)) c.as_slice-in-QueryResponse.ensures c.selects_fit-in-QueryResponse.ensures)

pub returns-in-Event : goal.returns-in-Event
returns-in-Event c =
    fits_by c.args.message.now (v.Event c.in-Event.selects) c.selects_fit-in-Event.result c.in-Event.is (subst (λ ss. c.selects_fit-in-Event.result ≡ text_fits (selects_written ss)) c.as_slice-in-Event.ensures c.selects_fit-in-Event.ensures)

pub returns-in-SetupResponse : goal.returns-in-SetupResponse
returns-in-SetupResponse c = fits_by c.args.message.now (v.SetupResponse c.in-SetupResponse.field-0) _ c.in-SetupResponse.is (number_fits _ c.in-SetupResponse.field-0)

pub returns-in-Teardown : goal.returns-in-Teardown
returns-in-Teardown c = fits_by c.args.message.now (v.Teardown c.in-Teardown.field-0) _ c.in-Teardown.is (number_fits _ c.in-Teardown.field-0)

pub returns-in-Heartbeat : goal.returns-in-Heartbeat
returns-in-Heartbeat c = fits_by c.args.message.now v.Heartbeat _ c.in-Heartbeat.is refl
