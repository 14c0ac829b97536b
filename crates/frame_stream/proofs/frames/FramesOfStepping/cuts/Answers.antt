use Rattle.frame_stream.proofs.CutFrameFacts.{frames_cut}
use Rattle.frame_stream.proofs.frames.FramesOfStepping.cuts.Goals as goal

pub returns : goal.returns
returns g c = frames_cut c.first_frame_settles.ensures
