use Rattle.laws_module.proofs.UnchangedEntryFacts.{files_stay, other_entries_stay}
use Rattle.laws_module.proofs.laws.other_entries_stay.Goals as goal

pub returns-clause-entries : goal.returns-clause-entries
returns-clause-entries c = other_entries_stay c.new_hash_is_read.ensures.read c.new_hash_is_read.ensures.others c.hash_fits_a_field.ensures

pub returns-clause-files : goal.returns-clause-files
returns-clause-files c = files_stay
