use Rattle.module_acts.specs.Act.{shows}
use Rattle.std.proofs.Common.{codes}
use Rattle.pam_base.specs.declared.code.Code.TheVariants.{AuthtokErr}
use Rattle.pam_base.specs.declared.style.Style.TheVariants.{ErrorMsg}
use Rattle.mod_history.specs.Pwhistory.{refuses_token}
use Rattle.mod_history.proofs.refusal.refuse_token.Goals as goal

pub returns-clause-told : goal.returns-clause-told
unfolding refuses_token
returns-clause-told g c = λ talks vault clock process act known code end rest.
    c.unset_token.ensures.told _ vault clock process (shows ErrorMsg (codes "Password has been already used.") (act AuthtokErr)) known code end
    (c.in_ok-show.ensures.told talks vault clock process (act AuthtokErr) known code end rest)
