use Rattle.std.proofs.Common.{◌∙◌, ◌≤◌, length, arith}
use Rattle.std.proofs.lemmas.Grind.{common_steps}
use Rattle.cmd_audit.proofs.TranscriptPieceFacts.{taken_all, taken_more}
use Rattle.cmd_audit.proofs.transcript.read_transcript.Goals as goal

pub returns-in_err-read_more-clause-takes : goal.returns-in_err-read_more-clause-takes
returns-in_err-read_more-clause-takes g c = λ tells.
    let was = c.loop-piece.invariant in
    taken_more _ _ _ _ _ _ (was.taken tells) (was.calls tells) (was.ends tells) (c.read_more.ensures.told (was.tells ∙ tells))

pub returns-in-Some-eq0-clause-takes : goal.returns-in-Some-eq0-clause-takes
returns-in-Some-eq0-clause-takes g c = λ tells.
    let was = c.loop-piece.invariant in
    taken_more _ _ _ _ _ _ (was.taken tells) (was.calls tells) (was.ends tells) (c.read_more.ensures.told (was.tells ∙ tells))

pub returns-in-None-clause-takes : goal.returns-in-None-clause-takes
returns-in-None-clause-takes g c = λ tells.
    let was = c.loop-piece.invariant in
    taken_more _ _ _ _ _ _ (was.taken tells) (was.calls tells) (was.ends tells) (c.read_more.ensures.told (was.tells ∙ tells))

pub returns-clause-takes : goal.returns-clause-takes
returns-clause-takes g c = λ tells.
    let was = c.loop-piece.invariant in
    let few : length c.loop-piece.text.items ≤ 1048577 = grind (arith, common_steps) in
    taken_all _ _ _ (was.taken tells) (was.calls tells) (was.ends tells) few
