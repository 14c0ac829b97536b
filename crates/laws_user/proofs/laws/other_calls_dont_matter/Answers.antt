use Rattle.laws_user.proofs.OtherUserFacts.{calls_dont_matter}
use Rattle.laws_user.proofs.laws.other_calls_dont_matter.Goals as goal

pub returns : goal.returns
returns c = calls_dont_matter c.users_dont_matter_to_calls.ensures.same c.users_dont_matter_to_calls.ensures.others
