use Rattle.std.proofs.Common.{◌∙◌, ap, refl}
use Rattle.cmd_all.specs.Exit.{exit_status}
use Rattle.cmd_all.proofs.CleanupRecordFacts.{cleaned_at, nothing_since}
use Rattle.cmd_all.proofs.LoggingIn.{ends_login, logs_in_not, logs_in_so}
use Rattle.cmd_all.proofs.RunStatusFacts.{both_left, both_right}
use Rattle.cmd_all.proofs.login.log_in.Goals as goal

pub library_under-requires : goal.library_under-requires
library_under-requires g c = rw (c.with_terminal-desk.ensures.sixteen, c.with_terminal-desk.ensures.mods, c.with_terminal-desk.ensures.delay) c.requires.ready

pub returns-in-Err-clause-login : goal.returns-in-Err-clause-login
returns-in-Err-clause-login g c = logs_in_not _ _ _ _ _ _ _ refl c.in-Err.ensures.stays refl

pub returns-in-Err-clause-cleaned_up : goal.returns-in-Err-clause-cleaned_up
returns-in-Err-clause-cleaned_up g c = nothing_since _ _ _ _ c.in-Err.ensures.stays c.requires.ready.no_births c.requires.ready.no_receipts

pub returns-in-Ok-clause-login : goal.returns-in-Ok-clause-login
returns-in-Ok-clause-login g c =
    logs_in_so _ _ _ _ _ _ _ _ _ _ c.login-verdict.result c.in-Ok.ensures.opened c.with_terminal-desk.ensures.setup.players
    c.with_terminal-desk.ensures.setup.slots (λ both. both_right _ _ (c.with_terminal-desk.ensures.setup.tells ∙ both))
    (λ number given. rw c.with_terminal-desk.ensures.delay given) c.library_under.ensures.tells (ap exit_status c.login_exit.ensures)
    _ c.with_terminal-desk.ensures.setup.moments
    (λ both number gives all sink. c.login-verdict.ensures.told (both_left _ _ (c.with_terminal-desk.ensures.setup.tells ∙ both)) number gives all sink)
    (λ sink. c.login-verdict.ensures.reports sink)

pub returns-in-Ok-clause-cleaned_up : goal.returns-in-Ok-clause-cleaned_up
returns-in-Ok-clause-cleaned_up g c =
    rw c.with_terminal-desk.ensures.setup.players at
    (cleaned_at _ _ (ends_login c.login-verdict.result _ (ap exit_status c.login_exit.ensures)) _ _ _ _ _ _ (c.proceeding_adds_events.ensures _)
    c.in-Ok.ensures.opened refl refl refl
    c.login-verdict.ensures.went c.login-verdict.ensures.none_open)
