use Rattle.mod_env.proofs.SetVariableFacts.{puts, too_long}
use Rattle.mod_env.proofs.setting.set_by.Goals as goal

pub returns-in-TooLong-clause-told : goal.returns-in-TooLong-clause-told
returns-in-TooLong-clause-told c = λ conv vault clock process act known code end rest.
    too_long c.act_steps.ensures.seeing c.env_steps.ensures.seeing _ _ known _ _ c.in_ok-expansion_of.ensures c.in-TooLong.is act code end rest

pub returns-in_ok-put-in-Puts-clause-told : goal.returns-in_ok-put-in-Puts-clause-told
returns-in_ok-put-in-Puts-clause-told c = λ conv vault clock process act known code end rest.
    puts c.act_steps.ensures.seeing c.env_steps.ensures.seeing _ _ known _ _ _ c.in_ok-expansion_of.ensures c.in-Puts.is act code end
    ((rw c.bytes.ensures at (c.in_ok-put-in-Puts.ensures.told conv vault clock process)) _ known code end rest)
