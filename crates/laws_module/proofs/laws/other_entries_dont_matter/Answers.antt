use Rattle.laws_module.proofs.Alike.{others_dont_matter_unless_changed}
use Rattle.laws_module.proofs.UnixChangeFacts.{others_dont_matter_to_change}
use Rattle.laws_module.proofs.laws.other_entries_dont_matter.Goals as goal

pub returns-clause-unless_changed : goal.returns-clause-unless_changed
returns-clause-unless_changed c = others_dont_matter_unless_changed

pub returns-clause-change : goal.returns-clause-change
returns-clause-change c = others_dont_matter_to_change c.new_hash_is_read.ensures.read c.new_hash_is_read.ensures.users c.hash_fits_a_field.ensures
