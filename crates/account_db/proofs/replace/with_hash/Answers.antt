use Rattle.std.proofs.Common.{rules}
use Rattle.account_db.specs.Replace.{with_hash}
use Rattle.account_db.proofs.replace.with_hash.Goals as goal

pub returns : goal.returns
unfolding with_hash
returns c = search rules
