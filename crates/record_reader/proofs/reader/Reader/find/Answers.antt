use Rattle.std.proofs.Common.{◌≡◌, ◌∙◌, false, [], rules}
use Rattle.record_reader.proofs.Taken.{at_end}
use Rattle.record_reader.proofs.reader.Reader.find.Goals as goal

pub returns-then-branch-eq0-clause-told : goal.returns-then-branch-eq0-clause-told
returns-then-branch-eq0-clause-told g c = λ source.
    let was = c.loop-length.invariant in
    let waits : g.R.Stepping.looked c.args.before c.loop-length.self false ≡ [] = search rules in
    let filled = c.fill.ensures.told (was.tells ∙ source) in
    rw c.last.ensures (at_end g.R.Stepping.looked g.R.Stepping.refuses c.cuts.ensures c.args.before c.args.self.now c.loop-length.self _ _ _ _ (was.told source) waits (search (rules, filled)))
