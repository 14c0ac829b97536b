use Rattle.std.proofs.Common.{refl}
use Rattle.mod_env.proofs.EnvironmentStepFacts.{putting_env}
use Rattle.mod_env.proofs.setting.put.Goals as goal

pub returns-clause-told : goal.returns-clause-told
returns-clause-told c = λ conv vault clock process act known code end rest.
    putting_env c.args.text.now act known c.args.transaction.now (record c.args.transaction.now { env = c.put_in.new.env }) conv vault clock process code end (record { others = refl }) c.in_ok-put_in.ensures rest
