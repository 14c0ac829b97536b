use Rattle.laws_cost.proofs.DigestTextFacts.{hash_is_of_digests, no_digest_is_left_out}
use Rattle.laws_cost.proofs.laws.digests_make_the_hash.Goals as goal

pub returns-clause-hash : goal.returns-clause-hash
returns-clause-hash c = hash_is_of_digests

pub returns-clause-whole : goal.returns-clause-whole
returns-clause-whole c = no_digest_is_left_out
