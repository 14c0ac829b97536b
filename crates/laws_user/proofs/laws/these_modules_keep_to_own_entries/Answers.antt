use Rattle.laws_user.proofs.OwnEntryModuleFacts.{these_keep}
use Rattle.laws_user.proofs.laws.these_modules_keep_to_own_entries.Goals as goal

pub returns : goal.returns
returns c =
    these_keep c.users_dont_matter_to_each_other.ensures c.other_modules_leave_user_and_files.ensures c.other_entries_stay.ensures.entries
    c.other_entries_stay.ensures.files c.other_tallies_dont_matter.ensures.others
