use Rattle.cmd_run.proofs.laws.proceeding_adds_events.Goals as goal

pub returns : goal.returns
returns c = λ note before after lists next events p stand. rw (p.ledger, p.lists_are) at
    (c.calls_add_their_events.ensures note 17 p.calls before lists events stand p.moves)
