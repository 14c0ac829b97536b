-- Test cases, computed: each form as docs/report.md has it, and lines without a form.
use Rattle.std.specs.Prelude.{◌≡◌, [], codes, Some, None}
use Rattle.std.proofs.Common.{refl}
use Rattle.std.specs.Fmt.{digits}
use Rattle.pam_base.specs.declared.code.Code.TheVariants.{Abort, AuthErr, CredErr}
use Rattle.pam_base.specs.declared.call.Func.TheVariants.{Authenticate, SetCred}
use Rattle.pam_base.specs.declared.fault.FaultKind.TheVariants.{ReadFailed}
use Rattle.pam_base.specs.declared.fault.ScriptKind.TheVariants.{BadWord}
use Rattle.pam_base.specs.declared.style.Style.TheVariants.{EchoOff}
use Rattle.service_load.specs.FirstFault.{fault_at}
use Rattle.handler_chain.specs.Retell.{seen_at}
use Rattle.report_lines.specs.Line.{told_message, told_visit, told_cleanup, told_wait, told_missing, told_variable, shows_code, shows_fault, shows_value, shows_count, shows_not_open, shows_already_open, shows_bad_number, shows_pending, starts, ends, runs, gets_item, lists_env, answered, closed_by_program, unread, refused_at}
use Rattle.report_lines.specs.Guess.{if_printed, read_line}
use Rattle.report_lines.specs.Says.{tells, results, lasts}

said : read_line (codes "1 say 1 Password: ") ≡ Some (tells 1 (told_message EchoOff (codes "Password: ")))
unfolding digits if_printed
said = refl

visited : read_line (codes "1 line 1 pam_probe CRED_ERR 17") ≡ Some (tells 1 (told_visit (seen_at 1 (codes "pam_probe") CredErr)))
unfolding digits if_printed
visited = refl

cleaned : read_line (codes "1 clean 0 20000000 256 pam_probe a") ≡ Some (tells 1 (told_cleanup (record {
  id = 0;
  status = 536870912;
  note = 256;
  owner = codes "pam_probe";
  datum = codes "a";
})))
unfolding digits if_printed
cleaned = refl

waited : read_line (codes "1 wait AUTH_ERR 7 3000001 3000000") ≡ Some (tells 1 (told_wait AuthErr 3000001 3000000))
unfolding digits if_printed
waited = refl

missed : read_line (codes "1 note missing pam_none") ≡ Some (tells 1 (told_missing (codes "pam_none")))
unfolding digits if_printed
missed = refl

variable_set : read_line (codes "1 env B=") ≡ Some (tells 1 (told_variable (codes "B=")))
unfolding digits if_printed
variable_set = refl

coded : read_line (codes "1 setcred CRED_ERR 17") ≡ Some (results 1 (answered (runs SetCred) (shows_code CredErr)))
unfolding digits if_printed
coded = refl

refused : read_line (codes "1 start refused /etc/pam.d/t 0 ReadFailed 16") ≡ Some (results 1 (answered starts (shows_fault (fault_at (codes "/etc/pam.d/t") 0 ReadFailed))))
unfolding digits if_printed
refused = refl

valued : read_line (codes "1 get_item set pts/1") ≡ Some (results 1 (answered gets_item (shows_value (Some (codes "pts/1")))))
unfolding digits if_printed
valued = refl

unvalued : read_line (codes "1 get_item unset") ≡ Some (results 1 (answered gets_item (shows_value None)))
unfolding digits if_printed
unvalued = refl

counted : read_line (codes "1 envlist 1") ≡ Some (results 1 (answered lists_env (shows_count 1)))
unfolding digits if_printed
counted = refl

closed : read_line (codes "1 end not open") ≡ Some (results 1 (answered ends shows_not_open))
unfolding digits if_printed
closed = refl

opened : read_line (codes "1 start already open") ≡ Some (results 1 (answered starts shows_already_open))
unfolding digits if_printed
opened = refl

unnumbered : read_line (codes "17 start bad number") ≡ Some (results 17 (answered starts shows_bad_number))
unfolding digits if_printed
unnumbered = refl

kept_waiting : read_line (codes "1 setcred ABORT 26 pending authenticate") ≡ Some (results 1 (answered (runs SetCred) (shows_pending Authenticate)))
unfolding digits if_printed
kept_waiting = refl

ended : read_line (codes "2 closed ABORT 26") ≡ Some (results 2 (closed_by_program Abort))
unfolding digits if_printed
ended = refl

faulty_read : read_line (codes "read fault") ≡ Some (lasts unread)
unfolding digits if_printed
faulty_read = refl

faulty_script : read_line (codes "script 8 BadWord 1") ≡ Some (lasts (refused_at 8 BadWord))
unfolding digits if_printed
faulty_script = refl

-- a code with another code's number, a leading zero, a number of 33 bits, a variable without `=`,
-- two spaces, nothing
other_number : read_line (codes "1 setcred CRED_ERR 18") ≡ None
unfolding digits if_printed
other_number = refl

leading_zero : read_line (codes "01 end not open") ≡ None
unfolding digits if_printed
leading_zero = refl

too_large : read_line (codes "4294967296 end not open") ≡ None
unfolding digits if_printed
too_large = refl

no_value : read_line (codes "1 env B") ≡ None
unfolding digits if_printed
no_value = refl

two_spaces : read_line (codes "1 end  not open") ≡ None
unfolding digits if_printed
two_spaces = refl

nothing_there : read_line [] ≡ None
unfolding digits if_printed
nothing_there = refl
