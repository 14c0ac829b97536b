use Rattle.mod_env.proofs.SetVariableFacts.{first_of, nothing_left, puts_more}
use Rattle.mod_env.proofs.setting.put_all.Goals as goal

pub loop-rest-preserved : goal.loop-rest-preserved
loop-rest-preserved c =
    let inv = c.loop-rest.invariant in
    record {
      told = λ conv vault clock process act known code end a.
          inv.told conv vault clock process act known code end (puts_more _ _ c.text-item.result act known _ code end (first_of _ c.text-item.result c.in-len1-up.len_at_least c.text-item.is)
          ((rw c.bytes.ensures at (c.in_ok-put.ensures.told conv vault clock process)) _ known code end a));
      puts = c.puts_alone.ensures.again _ _ _ inv.puts c.in_ok-put.ensures.puts;
    }

pub returns-clause-told : goal.returns-clause-told
returns-clause-told c = λ conv vault clock process act known code end a. c.loop-rest.invariant.told conv vault clock process act known code end (rw (nothing_left _ c.in_default.len_below) a)
