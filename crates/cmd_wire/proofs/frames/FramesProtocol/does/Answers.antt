use Rattle.cmd_wire.proofs.FrameEffectFacts.{frames_do}
use Rattle.cmd_wire.proofs.frames.FramesProtocol.does.Goals as goal

pub returns : goal.returns
returns c = frames_do
