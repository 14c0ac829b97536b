use Rattle.mod_env.proofs.setting.look.Goals as goal

pub returns-then-asks-clause-told : goal.returns-then-asks-clause-told
returns-then-asks-clause-told g c = λ tells conv clock. rw c.if-asks.true (c.look_user.ensures.told tells conv clock)

pub returns-else-asks-clause-told : goal.returns-else-asks-clause-told
returns-else-asks-clause-told g c = λ tells conv clock act code end rest. rw c.if-asks.false (rw c.if-asks.false at rest)
