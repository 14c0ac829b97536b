use Rattle.std.proofs.Common.{ap, refl, sym, ◌∙◌}
use Rattle.cmd_all.specs.Exit.{exit_status}
use Rattle.cmd_all.proofs.CleanupRecordFacts.{cleaned_as, nothing_cleaned, nothing_to_clean}
use Rattle.cmd_all.proofs.Commands.{audit_asked, audit_not_two, check_asked, check_is_other, generate_asked, generate_is_other}
use Rattle.cmd_all.proofs.Commands.{goes_reading, goes_unread, login_asked, login_is_other, not_read, run_asked, run_not_two, tally_asked}
use Rattle.cmd_all.proofs.Commands.{tally_is_other, wire_asked, wire_not_two}
use Rattle.cmd_all.proofs.Under.{frames_read_causes, frames_so, frames_write_causes, script_read_causes, script_so, script_write_causes}
use Rattle.cmd_all.proofs.program.pamsess.Goals as goal

pub returns-in-Some-Run-clause-run : goal.returns-in-Some-Run-clause-run
returns-in-Some-Run-clause-run g c root asked =
    run_asked _ _ _ _ _ _ _ root (rw c.in-Some-Run.field-0-is at c.in-Some-Run.ensures) asked
    (script_so _ _ _ (c.status-in-Some-Run.ensures ∙ ap exit_status c.script_exit.ensures) _ _ _ _ c.run_under.ensures.under
    c.numbers_go_alone.ensures c.run_under.ensures.reports)

pub returns-in-Some-Run-clause-command : goal.returns-in-Some-Run-clause-command
returns-in-Some-Run-clause-command g c =
    goes_reading _ _ _ _ (rw c.in-Some-Run.field-0-is at c.in-Some-Run.ensures)
    (λ is. run_not_two _ (sym (c.status-in-Some-Run.ensures ∙ ap exit_status c.script_exit.ensures) ∙ is)) (λ none. none)

pub returns-in-Some-Run-clause-read_causes : goal.returns-in-Some-Run-clause-read_causes
returns-in-Some-Run-clause-read_causes g c = script_read_causes _ _ _ (c.status-in-Some-Run.ensures ∙ ap exit_status c.script_exit.ensures) _ _ _ _
    c.run_under.ensures.under

pub returns-in-Some-Run-clause-write_causes : goal.returns-in-Some-Run-clause-write_causes
returns-in-Some-Run-clause-write_causes g c = script_write_causes _ _ _ (c.status-in-Some-Run.ensures ∙ ap exit_status c.script_exit.ensures) _ _ _ _
    c.run_under.ensures.under

pub returns-in-Some-Run-clause-cleaned_up : goal.returns-in-Some-Run-clause-cleaned_up
returns-in-Some-Run-clause-cleaned_up g c =
    cleaned_as _ _ _ _ _ _ _ (rw c.in-Some-Run.field-0-is at c.in-Some-Run.ensures) c.run_under.ensures.under.cleaned_up

pub returns-in-Some-Wire-clause-wire : goal.returns-in-Some-Wire-clause-wire
returns-in-Some-Wire-clause-wire g c root asked =
    wire_asked _ _ _ _ _ _ _ root (rw c.in-Some-Wire.field-0-is at c.in-Some-Wire.ensures) asked
    (frames_so _ _ _ (c.status-in-Some-Wire.ensures ∙ ap exit_status c.frames_exit.ensures) _ _ _ _ c.run_under-in-Some-Wire.ensures.under
    c.run_under-in-Some-Wire.ensures.reports)

pub returns-in-Some-Wire-clause-command : goal.returns-in-Some-Wire-clause-command
returns-in-Some-Wire-clause-command g c =
    goes_reading _ _ _ _ (rw c.in-Some-Wire.field-0-is at c.in-Some-Wire.ensures)
    (λ is. wire_not_two _ (sym (c.status-in-Some-Wire.ensures ∙ ap exit_status c.frames_exit.ensures) ∙ is)) (λ none. none)

pub returns-in-Some-Wire-clause-read_causes : goal.returns-in-Some-Wire-clause-read_causes
returns-in-Some-Wire-clause-read_causes g c = frames_read_causes _ _ _ (c.status-in-Some-Wire.ensures ∙ ap exit_status c.frames_exit.ensures) _ _ _ _
    c.run_under-in-Some-Wire.ensures.under

pub returns-in-Some-Wire-clause-write_causes : goal.returns-in-Some-Wire-clause-write_causes
returns-in-Some-Wire-clause-write_causes g c = frames_write_causes _ _ _ (c.status-in-Some-Wire.ensures ∙ ap exit_status c.frames_exit.ensures) _ _ _ _
    c.run_under-in-Some-Wire.ensures.under

pub returns-in-Some-Wire-clause-cleaned_up : goal.returns-in-Some-Wire-clause-cleaned_up
returns-in-Some-Wire-clause-cleaned_up g c =
    cleaned_as _ _ _ _ _ _ _ (rw c.in-Some-Wire.field-0-is at c.in-Some-Wire.ensures) c.run_under-in-Some-Wire.ensures.under.cleaned_up

pub returns-in-Some-Check-clause-check : goal.returns-in-Some-Check-clause-check
returns-in-Some-Check-clause-check g c root service asked =
    rw c.status-in-Some-Check.ensures
    (check_asked _ _ _ _ _ _ root service (rw c.in-Some-Check.field-0-is at c.in-Some-Check.ensures) asked c.check_service.ensures.check)

pub returns-in-Some-Check-clause-command : goal.returns-in-Some-Check-clause-command
returns-in-Some-Check-clause-command g c =
    rw c.status-in-Some-Check.ensures
    (goes_unread _ _ _ _ (rw c.in-Some-Check.field-0-is at c.in-Some-Check.ensures) (check_is_other _ c.check_service.ensures.check.check_statuses) refl)

pub returns-in-Some-Check-clause-read_causes : goal.returns-in-Some-Check-clause-read_causes
returns-in-Some-Check-clause-read_causes g c =
    rw c.status-in-Some-Check.ensures
    (not_read _ _ (check_is_other _ c.check_service.ensures.check.check_statuses) refl refl)

pub returns-in-Some-Check-clause-cleaned_up : goal.returns-in-Some-Check-clause-cleaned_up
returns-in-Some-Check-clause-cleaned_up g c =
    nothing_cleaned _ _ _ _ c.check_service.ensures.ledger c.requires.no_births c.requires.no_receipts

pub returns-in-Some-Tally-clause-tally : goal.returns-in-Some-Tally-clause-tally
returns-in-Some-Tally-clause-tally g c root user asked =
    rw c.status-in-Some-Tally.ensures
    (tally_asked _ _ _ _ _ _ root user (rw c.in-Some-Tally.field-0-is at c.in-Some-Tally.ensures) asked c.tally_user.ensures.tally)

pub returns-in-Some-Tally-clause-command : goal.returns-in-Some-Tally-clause-command
returns-in-Some-Tally-clause-command g c =
    rw c.status-in-Some-Tally.ensures
    (goes_unread _ _ _ _ (rw c.in-Some-Tally.field-0-is at c.in-Some-Tally.ensures) (tally_is_other _ c.tally_user.ensures.tally.tally_statuses) refl)

pub returns-in-Some-Tally-clause-read_causes : goal.returns-in-Some-Tally-clause-read_causes
returns-in-Some-Tally-clause-read_causes g c =
    rw c.status-in-Some-Tally.ensures
    (not_read _ _ (tally_is_other _ c.tally_user.ensures.tally.tally_statuses) refl refl)

pub returns-in-Some-Tally-clause-cleaned_up : goal.returns-in-Some-Tally-clause-cleaned_up
returns-in-Some-Tally-clause-cleaned_up g c =
    nothing_cleaned _ _ _ _ c.tally_user.ensures.ledger c.requires.no_births c.requires.no_receipts

pub returns-in-Some-Audit-clause-audit : goal.returns-in-Some-Audit-clause-audit
returns-in-Some-Audit-clause-audit g c root service asked =
    rw c.status-in-Some-Audit.ensures
    (audit_asked _ _ _ _ _ _ _ root service (rw c.in-Some-Audit.field-0-is at c.in-Some-Audit.ensures) asked c.audit_service.ensures.audit)

pub returns-in-Some-Audit-clause-command : goal.returns-in-Some-Audit-clause-command
returns-in-Some-Audit-clause-command g c =
    rw c.status-in-Some-Audit.ensures
    (goes_reading _ _ _ _ (rw c.in-Some-Audit.field-0-is at c.in-Some-Audit.ensures)
    (λ is. audit_not_two c.audit_service.ensures.audit.audit_statuses.0 (sym c.audit_service.ensures.audit.audit_statuses.1 ∙ is)) (λ none. none))

pub returns-in-Some-Audit-clause-cleaned_up : goal.returns-in-Some-Audit-clause-cleaned_up
returns-in-Some-Audit-clause-cleaned_up g c =
    nothing_cleaned _ _ _ _ c.audit_service.ensures.ledger c.requires.no_births c.requires.no_receipts

pub returns-in-Some-Generate-clause-generate : goal.returns-in-Some-Generate-clause-generate
returns-in-Some-Generate-clause-generate g c seed lines asked =
    rw c.status-in-Some-Generate.ensures
    (generate_asked _ _ _ _ _ _ _ seed lines (rw c.in-Some-Generate.field-0-is at c.in-Some-Generate.ensures) asked c.generate_lines.ensures.generate)

pub returns-in-Some-Generate-clause-command : goal.returns-in-Some-Generate-clause-command
returns-in-Some-Generate-clause-command g c =
    rw c.status-in-Some-Generate.ensures
    (goes_unread _ _ _ _ (rw c.in-Some-Generate.field-0-is at c.in-Some-Generate.ensures)
    (generate_is_other _ c.generate_lines.ensures.generate.generate_statuses) refl)

pub returns-in-Some-Generate-clause-read_causes : goal.returns-in-Some-Generate-clause-read_causes
returns-in-Some-Generate-clause-read_causes g c =
    rw c.status-in-Some-Generate.ensures
    (not_read _ _ (generate_is_other _ c.generate_lines.ensures.generate.generate_statuses) refl refl)

pub returns-in-Some-Generate-clause-cleaned_up : goal.returns-in-Some-Generate-clause-cleaned_up
returns-in-Some-Generate-clause-cleaned_up g c =
    rw c.status-in-Some-Generate.ensures
    (cleaned_as _ _ _ _ _ _ _ (rw c.in-Some-Generate.field-0-is at c.in-Some-Generate.ensures) c.generate_lines.ensures.cleaned_up)

pub returns-in-Some-Login-clause-login : goal.returns-in-Some-Login-clause-login
returns-in-Some-Login-clause-login g c root service user asked =
    rw c.status-in-Some-Login.ensures
    (login_asked _ _ _ _ _ _ _ _ root service user (rw c.in-Some-Login.field-0-is at c.in-Some-Login.ensures) asked c.log_in.ensures.login)

pub returns-in-Some-Login-clause-command : goal.returns-in-Some-Login-clause-command
returns-in-Some-Login-clause-command g c =
    rw c.status-in-Some-Login.ensures
    (goes_unread _ _ _ _ (rw c.in-Some-Login.field-0-is at c.in-Some-Login.ensures) (login_is_other _ c.log_in.ensures.login.login_statuses) refl)

pub returns-in-Some-Login-clause-read_causes : goal.returns-in-Some-Login-clause-read_causes
returns-in-Some-Login-clause-read_causes g c =
    rw c.status-in-Some-Login.ensures
    (not_read _ _ (login_is_other _ c.log_in.ensures.login.login_statuses) refl refl)

pub returns-in-Some-Login-clause-cleaned_up : goal.returns-in-Some-Login-clause-cleaned_up
returns-in-Some-Login-clause-cleaned_up g c =
    rw c.status-in-Some-Login.ensures
    (cleaned_as _ _ _ _ _ _ _ (rw c.in-Some-Login.field-0-is at c.in-Some-Login.ensures) c.log_in.ensures.cleaned_up)

pub returns-in-Some-LoginAs-clause-login : goal.returns-in-Some-LoginAs-clause-login
returns-in-Some-LoginAs-clause-login g c root service user asked =
    rw c.status-in-Some-LoginAs.ensures
    (login_asked _ _ _ _ _ _ _ _ root service user (rw c.in-Some-LoginAs.field-0-is at c.in-Some-LoginAs.ensures) asked c.log_in-in-Some-LoginAs.ensures.login)

pub returns-in-Some-LoginAs-clause-command : goal.returns-in-Some-LoginAs-clause-command
returns-in-Some-LoginAs-clause-command g c =
    rw c.status-in-Some-LoginAs.ensures
    (goes_unread _ _ _ _ (rw c.in-Some-LoginAs.field-0-is at c.in-Some-LoginAs.ensures)
    (login_is_other _ c.log_in-in-Some-LoginAs.ensures.login.login_statuses) refl)

pub returns-in-Some-LoginAs-clause-read_causes : goal.returns-in-Some-LoginAs-clause-read_causes
returns-in-Some-LoginAs-clause-read_causes g c =
    rw c.status-in-Some-LoginAs.ensures
    (not_read _ _ (login_is_other _ c.log_in-in-Some-LoginAs.ensures.login.login_statuses) refl refl)

pub returns-in-Some-LoginAs-clause-cleaned_up : goal.returns-in-Some-LoginAs-clause-cleaned_up
returns-in-Some-LoginAs-clause-cleaned_up g c =
    rw c.status-in-Some-LoginAs.ensures
    (cleaned_as _ _ _ _ _ _ _ (rw c.in-Some-LoginAs.field-0-is at c.in-Some-LoginAs.ensures) c.log_in-in-Some-LoginAs.ensures.cleaned_up)

pub returns-in-None-clause-cleaned_up : goal.returns-in-None-clause-cleaned_up
returns-in-None-clause-cleaned_up g c =
    nothing_to_clean _ _ _ c.requires.no_births c.requires.no_receipts

pub returns-in-Some-Check-clause-write_causes : goal.returns-in-Some-Check-clause-write_causes
returns-in-Some-Check-clause-write_causes g c = rw c.status-in-Some-Check.ensures c.check_service.ensures.write_causes

pub returns-in-Some-Tally-clause-write_causes : goal.returns-in-Some-Tally-clause-write_causes
returns-in-Some-Tally-clause-write_causes g c = rw c.status-in-Some-Tally.ensures c.tally_user.ensures.write_causes

pub returns-in-Some-Audit-clause-write_causes : goal.returns-in-Some-Audit-clause-write_causes
returns-in-Some-Audit-clause-write_causes g c = rw c.status-in-Some-Audit.ensures c.audit_service.ensures.write_causes

pub returns-in-Some-Audit-clause-read_causes : goal.returns-in-Some-Audit-clause-read_causes
returns-in-Some-Audit-clause-read_causes g c = rw c.status-in-Some-Audit.ensures c.audit_service.ensures.read_causes

pub returns-in-Some-Generate-clause-write_causes : goal.returns-in-Some-Generate-clause-write_causes
returns-in-Some-Generate-clause-write_causes g c = rw c.status-in-Some-Generate.ensures c.generate_lines.ensures.write_causes

pub returns-in-Some-Login-clause-write_causes : goal.returns-in-Some-Login-clause-write_causes
returns-in-Some-Login-clause-write_causes g c = rw c.status-in-Some-Login.ensures c.log_in.ensures.write_causes

pub returns-in-Some-LoginAs-clause-write_causes : goal.returns-in-Some-LoginAs-clause-write_causes
returns-in-Some-LoginAs-clause-write_causes g c = rw c.status-in-Some-LoginAs.ensures c.log_in-in-Some-LoginAs.ensures.write_causes
