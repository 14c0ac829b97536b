use Rattle.cmd_wire.proofs.FrontEndRunFacts.{completes_frames, ends_frames, reads_frames, runs_frames}
use Rattle.cmd_wire.proofs.frames.FramesProtocol.ends.Goals as goal

pub returns-clause-told : goal.returns-clause-told
returns-clause-told c = runs_frames c.bytes_spell_steps.ensures c.runs_are_of_steps.ensures.run c.runs_are_of_steps.ensures.served

pub returns-clause-read : goal.returns-clause-read
returns-clause-read c = reads_frames c.bytes_spell_steps.ensures c.reading_is_of_steps.ensures

pub returns-clause-complete : goal.returns-clause-complete
returns-clause-complete c = completes_frames c.reading_is_of_steps.ensures

pub returns-clause-ends : goal.returns-clause-ends
returns-clause-ends c = ends_frames c.all_are_looked_at.ensures c.frame_is_read.ensures
