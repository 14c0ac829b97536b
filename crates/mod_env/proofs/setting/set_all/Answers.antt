use Rattle.std.proofs.Common.{◌∙◌}
use Rattle.mod_env.proofs.SetVariableFacts.{first_of, nothing_left, one_more, stopped}
use Rattle.mod_env.proofs.setting.set_all.Goals as goal

pub loop-rest-preserved : goal.loop-rest-preserved
loop-rest-preserved g c =
    let inv = c.loop-rest.invariant in
    record {
      tells = c.in_ok-set_variable.ensures.tells ∙ inv.tells;
      files = λ tells. c.in_ok-set_variable.ensures.files (inv.tells ∙ tells) ∙ inv.files tells;
      told = λ tells conv clock act code end a.
          one_more _ _ _ _ _ _ c.set_variable.new.accounts _ _ _ (first_of _ c.entry-item.result c.in-len1-up.len_at_least c.entry-item.is) (inv.told tells conv clock)
          (rw c.if-not-branch.false at (c.in_ok-set_variable.ensures.told (inv.tells ∙ tells) conv clock)) act code end a;
      puts = c.puts_alone.ensures.again _ _ _ inv.puts c.in_ok-set_variable.ensures.puts;
    }

pub returns-then-not-branch-clause-told : goal.returns-then-not-branch-clause-told
returns-then-not-branch-clause-told g c = λ tells conv clock act code end rest.
    let inv = c.loop-rest.invariant in
    stopped _ _ _ _ _ _ c.set_variable.new.accounts _ _ _ (first_of _ c.entry-item.result c.in-len1-up.len_at_least c.entry-item.is) (inv.told tells conv clock)
    (rw c.if-not-branch.true at (c.in_ok-set_variable.ensures.told (inv.tells ∙ tells) conv clock)) act code end rest

pub returns-clause-told : goal.returns-clause-told
returns-clause-told g c = λ tells conv clock act code end rest. c.loop-rest.invariant.told tells conv clock act code end (rw (nothing_left _ c.in_default.len_below) rest)
