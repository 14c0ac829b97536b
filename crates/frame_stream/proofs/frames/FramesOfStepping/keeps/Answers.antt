use Rattle.frame_stream.proofs.CutFrameFacts.{frames_keep}
use Rattle.frame_stream.proofs.frames.FramesOfStepping.keeps.Goals as goal

pub returns : goal.returns
returns g c = λ setting. frames_keep c.first_frame_settles.ensures (g.R.CallStepping.answers setting)
