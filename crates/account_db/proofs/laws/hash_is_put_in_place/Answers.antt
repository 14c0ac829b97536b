use Rattle.account_db.proofs.NewHashBytesFacts.{placed}
use Rattle.account_db.proofs.laws.hash_is_put_in_place.Goals as goal

pub returns : goal.returns
returns c = placed
