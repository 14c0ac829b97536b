-- pam_wheel(8) and pam_securetty(8) leave USER and all files.
use Rattle.std.proofs.Common.{ℕ, Bool, true, false, ◌==◌, List, Option, Some, None, codes}
use Rattle.pam_base.specs.declared.code.Code.TheVariants as returns
use Rattle.pam_room.specs.Call.{PlainCall}
use Rattle.account_db.specs.declared.passwd.Passwd.{Passwd}
use Rattle.module_acts.specs.Accounts.{Account, account_limit, found, missing, unreadable}
use Rattle.module_acts.specs.Act.{Act, answers, finds_account, reads_groups, reads_passwds, unless_answered}
use Rattle.module_acts.specs.Steps.{sees_caller}
use Rattle.module_acts.specs.Uncheck.{code_unchecked}
use Rattle.mod_history.specs.Wheel.{checks_wheel, code_by_groups, code_by_passwds, wheel_act}
use Rattle.mod_history.specs.Securetty.{terminal_for_account, terminal_code, checks_if_root, looks_up_terminal, checks_terminal, securetty_act, terminal_name}
use Rattle.laws_denial.proofs.Steps.{Still, answering, asking, finding, reading, reading_groups, reading_passwds, seeing_caller, seeing_items, unless}

module _ (who : List ℕ) where
  -- ---- pam_wheel

  wheel_checked : (args : List (List ℕ)) (caller : ℕ) → Still who (checks_wheel args caller)
  wheel_checked args caller =
      let groups_read : List ℕ → Option (List Passwd) → Act = λ user passwds. reads_groups (λ groups. answers (code_by_groups args caller passwds groups)) in
      asking who (λ user. reads_passwds (λ passwds. unless_answered (code_by_passwds args caller user passwds) (groups_read user passwds)))
      (λ user. reading_passwds who (λ passwds. unless_answered (code_by_passwds args caller user passwds) (groups_read user passwds))
      (λ passwds. unless who (code_by_passwds args caller user passwds) (groups_read user passwds)
      (reading_groups who (λ groups. answers (code_by_groups args caller passwds groups))
      (λ groups. answering who (code_by_groups args caller passwds groups)))))

  pub wheel_leaves : (call : PlainCall) → Still who (wheel_act call)
  wheel_leaves call =
      unless who (code_unchecked call.func returns.Success) (sees_caller (checks_wheel call.args))
      (seeing_caller who (checks_wheel call.args) (wheel_checked call.args))

  -- ---- pam_securetty

  terminal_checked : (tty : Option (List ℕ)) → Still who (looks_up_terminal tty)
  terminal_checked None = answering who returns.ServiceErr
  terminal_checked (Some tty) =
      reading who (codes "/etc/securetty") account_limit (λ content. answers (terminal_code (terminal_name tty) content))
      (λ content. answering who (terminal_code (terminal_name tty) content))

  root_checked : (root : Bool) → Still who (checks_if_root root)
  root_checked true = seeing_items who (λ items. looks_up_terminal items.tty) (λ items. terminal_checked items.tty)
  root_checked false = answering who returns.Success

  account_checked : (a : Account) → Still who (terminal_for_account a)
  account_checked unreadable = answering who returns.ServiceErr
  account_checked missing = answering who returns.UserUnknown
  account_checked (found entry) = root_checked (entry.uid == 0)

  pub securetty_leaves : (call : PlainCall) → Still who (securetty_act call)
  securetty_leaves call = unless who (code_unchecked call.func returns.Success) checks_terminal
      (asking who (λ user. finds_account user terminal_for_account) (λ user. finding who user terminal_for_account account_checked))
