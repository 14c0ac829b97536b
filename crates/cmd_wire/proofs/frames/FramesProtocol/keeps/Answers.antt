use Rattle.cmd_wire.proofs.frames.FramesProtocol.keeps.Goals as goal

pub returns-clause-reads : goal.returns-clause-reads
returns-clause-reads c = c.keeps-2.ensures tt
