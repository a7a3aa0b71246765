use Rattle.std.proofs.Common.{◌≡◌, ◌++◌, ℕ, List, sym, ap, ◌∙◌}
use Rattle.fc_path.specs.declared.oper.Select.{Select}
use Rattle.fc_msg.specs.declared.message.MsgBody.{MsgBody}
use Rattle.fc_protocol.specs.Messages.{Reply, Setup, stamp}
use Rattle.fc_protocol.specs.MasterMachine.{finish, heard}
use Rattle.fc_asks.specs.Codes.{response_code}
use Rattle.fc_jobs.specs.Answers.{answered}
use Rattle.fc_jobs.specs.Sending.{spelled}
use Rattle.fc_jobs.specs.declared.sending.CeOut.{CeOut}
use Rattle.fc_jobs.proofs.Dues.{if_ok_on}
use Rattle.fc_jobs.proofs.Laws.{on_ok_by}
use Rattle.fc_master.specs.Masters.{core_of}
use Rattle.fc_master.specs.Steps.{at_once_to, greeting, heard_of, said, stepped}
use Rattle.fc_master.specs.declared.input.CeIn.{CeIn}
use Rattle.fc_master.proofs.master.Master.step.Goals as goal

pub returns-in-Setup-clause-core : goal.returns-in-Setup-clause-core
returns-in-Setup-clause-core c =
    let m = core_of c.args.self.now in
    let msg = c.in-Arrived.message in
    on_ok_by c.hear_setup.result c.hear_setup.ensures.core (λ f k. f k
    ∙ ap (λ (b : MsgBody). (finish k (heard_of m c.in-Arrived.element msg.corr b)).master) (sym c.in-Setup.is)
    ∙ ap (λ (i : CeIn). (stepped k m i).master) (sym c.in-Arrived.is))

pub returns-in-Setup-clause-outs : goal.returns-in-Setup-clause-outs
returns-in-Setup-clause-outs c =
    let me = c.args.self.now in
    let m = core_of me in
    let p = c.in-Arrived.element in
    let msg = c.in-Arrived.message in
    if_ok_on (λ (outs : List CeOut). (k : ℕ) → outs ≡ greeting me.life m p msg.corr ++ spelled me.life (finish k (heard m p Setup)).says) _ c.hear_setup.result
    (λ outs f k. f k
    ∙ ap (λ (b : MsgBody). at_once_to me.life m p msg b ++ spelled me.life (finish k (heard_of m p msg.corr b)).says) (sym c.in-Setup.is)
    ∙ ap (λ (i : CeIn). said me.life k m i) (sym c.in-Arrived.is)) c.hear_setup.ensures.outs

pub returns-in-ConfigResponse-clause-core : goal.returns-in-ConfigResponse-clause-core
returns-in-ConfigResponse-clause-core c =
    let m = core_of c.args.self.now in
    let p = c.in-Arrived.element in
    let msg = c.in-Arrived.message in
    on_ok_by c.hear_config_response.result c.hear_config_response.ensures.core (λ f k. f k
    ∙ ap (λ (ss : List Select). (finish k (heard m p (Reply (stamp msg.corr) (response_code ss)))).master) c.as_slice.ensures
    ∙ ap (λ (b : MsgBody). (finish k (heard_of m p msg.corr b)).master) (sym c.in-ConfigResponse.is)
    ∙ ap (λ (i : CeIn). (stepped k m i).master) (sym c.in-Arrived.is))

pub returns-in-ConfigResponse-clause-outs : goal.returns-in-ConfigResponse-clause-outs
returns-in-ConfigResponse-clause-outs c =
    let me = c.args.self.now in
    let m = core_of me in
    let p = c.in-Arrived.element in
    let msg = c.in-Arrived.message in
    if_ok_on (λ (outs : List CeOut). (k : ℕ) → outs ≡ spelled me.life (finish k (heard m p (Reply (stamp msg.corr) (response_code c.as_slice.result.now)))).says) _ c.hear_config_response.result
    (λ outs f k. f k
    ∙ ap (λ (ss : List Select). spelled me.life (finish k (heard m p (Reply (stamp msg.corr) (response_code ss)))).says) c.as_slice.ensures
    ∙ ap (λ (b : MsgBody). at_once_to me.life m p msg b ++ spelled me.life (finish k (heard_of m p msg.corr b)).says) (sym c.in-ConfigResponse.is)
    ∙ ap (λ (i : CeIn). said me.life k m i) (sym c.in-Arrived.is)) c.hear_config_response.ensures.outs

pub returns-in-QueryResponse-clause-core : goal.returns-in-QueryResponse-clause-core
returns-in-QueryResponse-clause-core c =
    let m = core_of c.args.self.now in
    let p = c.in-Arrived.element in
    let msg = c.in-Arrived.message in
    on_ok_by c.hear_query_response.result c.hear_query_response.ensures.core (λ f k. f k
    ∙ ap (λ (ss : List Select). (finish k (answered m p msg.corr ss)).master) c.as_slice-in-QueryResponse.ensures
    ∙ ap (λ (b : MsgBody). (finish k (heard_of m p msg.corr b)).master) (sym c.in-QueryResponse.is)
    ∙ ap (λ (i : CeIn). (stepped k m i).master) (sym c.in-Arrived.is))

pub returns-in-QueryResponse-clause-outs : goal.returns-in-QueryResponse-clause-outs
returns-in-QueryResponse-clause-outs c =
    let me = c.args.self.now in
    let m = core_of me in
    let p = c.in-Arrived.element in
    let msg = c.in-Arrived.message in
    if_ok_on (λ (outs : List CeOut). (k : ℕ) → outs ≡ spelled me.life (finish k (answered m p msg.corr c.as_slice-in-QueryResponse.result.now)).says) _ c.hear_query_response.result
    (λ outs f k. f k
    ∙ ap (λ (ss : List Select). spelled me.life (finish k (answered m p msg.corr ss)).says) c.as_slice-in-QueryResponse.ensures
    ∙ ap (λ (b : MsgBody). at_once_to me.life m p msg b ++ spelled me.life (finish k (heard_of m p msg.corr b)).says) (sym c.in-QueryResponse.is)
    ∙ ap (λ (i : CeIn). said me.life k m i) (sym c.in-Arrived.is)) c.hear_query_response.ensures.outs
