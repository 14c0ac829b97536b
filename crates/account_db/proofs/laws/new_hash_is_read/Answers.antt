use Rattle.account_db.proofs.NewHashEntryFacts.{others_entries, read_again, users_entry}
use Rattle.account_db.proofs.laws.new_hash_is_read.Goals as goal

pub returns-clause-read : goal.returns-clause-read
returns-clause-read c = λ user hash day text entries colon newline small e. read_again user hash day colon newline small text entries e

pub returns-clause-users : goal.returns-clause-users
returns-clause-users c = users_entry

pub returns-clause-others : goal.returns-clause-others
returns-clause-others c = others_entries
