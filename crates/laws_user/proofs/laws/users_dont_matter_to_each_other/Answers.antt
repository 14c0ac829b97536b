use Rattle.laws_user.proofs.AlikeModuleFacts.{users_dont_matter}
use Rattle.laws_user.proofs.laws.users_dont_matter_to_each_other.Goals as goal

pub returns : goal.returns
returns c =
    users_dont_matter c.other_entries_dont_matter.ensures.unless_changed c.other_entries_dont_matter.ensures.change
    c.other_entries_stay.ensures.entries c.other_entries_stay.ensures.files c.other_tallies_dont_matter.ensures.same
    c.other_tallies_dont_matter.ensures.others
