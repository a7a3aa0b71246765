use Rattle.fc_peers.proofs.Streaming.{frames_cut}
use Rattle.fc_serving.proofs.laws.node_takes_the_frames.Goals as goal

pub returns : goal.returns
returns c = frames_cut
