use Rattle.pam_room.proofs.Prompts.{prompt_fits}
use Rattle.pam_room.proofs.ask.get_user.Goals as goal

pub ask-requires-clause-short : goal.ask-requires-clause-short
ask-requires-clause-short g c = rw c.in_ok-prompt.ensures (prompt_fits _)
