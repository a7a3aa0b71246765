use Rattle.fc_text.proofs.Heartbeats.{heartbeat_fits}
use Rattle.fc_text.proofs.reading.can_encode.Goals as goal

pub returns-in-Heartbeat : goal.returns-in-Heartbeat
returns-in-Heartbeat c = heartbeat_fits c.args.message.now c.in-Heartbeat.is
