use Rattle.pam_room.specs.Plain.{plain_call}
use Rattle.mod_history.specs.Pwhistory.{checks_token}
use Rattle.mod_history.proofs.pam_pwhistory.PwhistoryWorkWork.work.Goals as goal

pub returns-clause-told : goal.returns-clause-told
returns-clause-told g c = λ talks tells clock ticks. c.codes_finish.ensures (checks_token (plain_call c.args.asked.now.call.now)) _ _ _ (c.check_token.ensures.told talks tells _)
