-- pam_wheel(8) and pam_securetty(8) leave each file as it was, and pam_pwhistory(8) each file
-- except its history.
use Rattle.std.proofs.Common.{◌≡◌, ℕ, Bool, true, false, ◌==◌, List, length, nat_le, Option, Some, None, codes}
use Rattle.pam_base.specs.declared.code.Code.{Code}
use Rattle.pam_base.specs.declared.code.Code.TheVariants as returns
use Rattle.pam_base.specs.declared.item.ItemName.TheVariants.{AuthTok}
use Rattle.pam_base.specs.declared.item.ItemName.{ItemName}
use Rattle.pam_base.specs.declared.style.Style.TheVariants.{ErrorMsg}
use Rattle.pam_outside.specs.declared.held.LockKind.TheVariants.{Record}
use Rattle.pam_outside.specs.Paths.{path_of}
use Rattle.pam_room.specs.Call.{PlainCall}
use Rattle.mod_unix.specs.module_acts.specs.account_db.specs.declared.passwd.Passwd.{Passwd}
use Rattle.mod_unix.specs.module_acts.specs.Accounts.{Account, account_limit, found, missing, unreadable}
use Rattle.mod_unix.specs.module_acts.specs.Act.{Act, answers, finds_account, lets_go, reads_groups, reads_passwds, shows, unless_answered}
use Rattle.mod_unix.specs.module_acts.specs.Steps.{sees_caller}
use Rattle.mod_unix.specs.module_acts.specs.Uncheck.{code_unchecked}
use Rattle.mod_unix.specs.declared.look.KnownPassword.{KnownPassword}
use Rattle.mod_unix.specs.declared.look.KnownPassword.TheVariants.{Unknown, Unavailable, Plain, Shadowed}
use Rattle.mod_unix.specs.Change.{write_result}
use Rattle.mod_unix.specs.Look.{looks}
use Rattle.mod_history.specs.declared.history.Remembered.{Remembered}
use Rattle.mod_history.specs.History.{history_text}
use Rattle.mod_history.specs.Renewal.{hashes_of, renewed}
use Rattle.mod_history.specs.Wheel.{checks_wheel, code_by_groups, code_by_passwds, wheel_act}
use Rattle.mod_history.specs.Securetty.{terminal_for_account, terminal_code, checks_if_root, looks_up_terminal, checks_terminal, securetty_act, terminal_name}
use Rattle.mod_history.specs.Pwhistory.{at_once, stores_if_fits, unless_remember_zero, remembers_if_taken, stores_unless_used, checks_token}
use Rattle.mod_history.specs.Pwhistory.{compares_token, history_in, history_limit, history_name, if_locked, is_refused, locks_history}
use Rattle.mod_history.specs.Pwhistory.{pwhistory_act, refuses_token, remember_in_history, remember_locked, remember_of, remembers}
use Rattle.mod_history.specs.Pwhistory.{renew_if_known, renews, stores_text, unless_refused, unless_used, unsets_item}
use Rattle.laws_audit.proofs.Steps.{Leaves, answering, asking, finding, holding, letting_go, reading, reading_groups, reading_passwds}
use Rattle.laws_audit.proofs.Steps.{replacing, seeing_caller, seeing_items, showing, unless}
use Rattle.laws_audit.proofs.Unixes.{looking, taking}

module _ (path : List ℕ) where
  abbrev Still : Act → Type 0
  Still act = Leaves path act

  -- ---- pam_wheel

  wheel_checked : (args : List (List ℕ)) (caller : ℕ) → Still (checks_wheel args caller)
  wheel_checked args caller =
      let groups_read : List ℕ → Option (List Passwd) → Act = λ user passwds. reads_groups (λ groups. answers (code_by_groups args caller passwds groups)) in
      asking path (λ user. reads_passwds (λ passwds. unless_answered (code_by_passwds args caller user passwds) (groups_read user passwds)))
      (λ user. reading_passwds path (λ passwds. unless_answered (code_by_passwds args caller user passwds) (groups_read user passwds))
      (λ passwds. unless path (code_by_passwds args caller user passwds) (groups_read user passwds)
      (reading_groups path (λ groups. answers (code_by_groups args caller passwds groups))
      (λ groups. answering path (code_by_groups args caller passwds groups)))))

  pub wheel_leaves : (call : PlainCall) → Still (wheel_act call)
  wheel_leaves call = unless path (code_unchecked call.func returns.Success) (sees_caller (checks_wheel call.args))
      (seeing_caller path (checks_wheel call.args) (wheel_checked call.args))

  -- ---- pam_securetty

  terminal_checked : (tty : Option (List ℕ)) → Still (looks_up_terminal tty)
  terminal_checked None = answering path returns.ServiceErr
  terminal_checked (Some tty) = reading path (codes "/etc/securetty") account_limit (λ content. answers (terminal_code (terminal_name tty) content))
      (λ content. answering path (terminal_code (terminal_name tty) content))

  root_checked : (root : Bool) → Still (checks_if_root root)
  root_checked true = seeing_items path (λ items. looks_up_terminal items.tty) (λ items. terminal_checked items.tty)
  root_checked false = answering path returns.Success

  account_checked : (a : Account) → Still (terminal_for_account a)
  account_checked unreadable = answering path returns.ServiceErr
  account_checked missing = answering path returns.UserUnknown
  account_checked (found entry) = root_checked (entry.uid == 0)

  pub securetty_leaves : (call : PlainCall) → Still (securetty_act call)
  securetty_leaves call = unless path (code_unchecked call.func returns.Success) checks_terminal
      (asking path (λ user. finds_account user terminal_for_account) (λ user. finding path user terminal_for_account account_checked))

  -- ---- pam_pwhistory

  unsetting : (item : ItemName) (act : Act) → Still act → Still (unsets_item item act)
  unfolding unsets_item
  unsetting item act next stage = next _

  module _ (apart : (root : List ℕ) → path_of root history_name ≡ path → ⊥) (act : Code → Act) (next : (code : Code) → Still (act code)) where
    refusing : Still (refuses_token act)
    unfolding refuses_token
    refusing =
        let shown : Act = shows ErrorMsg (codes "Password has been already used.") (act returns.AuthtokErr) in
        unsetting AuthTok shown (showing path ErrorMsg (codes "Password has been already used.") (act returns.AuthtokErr) (next returns.AuthtokErr))

    -- the lock is released, and then the code is returned
    abbrev ends : Option Code → Act
    ends done = lets_go true (unless_refused act done)

    unless_used_since : (done : Option Code) → Still (unless_refused act done)
    unless_used_since (Some code) = next code
    unless_used_since None = refusing

    ended : (done : Option Code) → Still (ends done)
    ended done = letting_go path true (unless_refused act done) (unless_used_since done)

    by_size : (short : Bool) (text : List ℕ) → Still (stores_if_fits short text (λ code. ends (Some code)))
    by_size true text = replacing path history_name text (λ done. ends (Some (write_result done))) apart (λ done. ended (Some (write_result done)))
    by_size false text = ended (Some returns.AuthtokErr)

    storing : (text : List ℕ) → Still (stores_text text (λ code. ends (Some code)))
    unfolding stores_text
    storing text = by_size (nat_le (length text) history_limit) text

    used : (refused : Bool) (remember : ℕ) (user hash : List ℕ) (history : List Remembered) → Still (stores_unless_used refused remember user hash history ends)
    used true remember user hash history = ended None
    used false remember user hash history = storing (history_text (renewed remember user hash history))

    module _ (call : PlainCall) (remember : ℕ) (user hash token : List ℕ) where
      history_read : (history : Option (List Remembered)) → Still (remember_in_history call remember user hash token history ends)
      history_read None = ended (Some returns.AuthtokErr)
      history_read (Some history) =
          seeing_caller path (λ caller. stores_unless_used (is_refused call.args caller token hash (hashes_of user history)) remember user hash history ends)
          (λ caller. used (is_refused call.args caller token hash (hashes_of user history)) remember user hash history)

      read_again : Still (remember_locked call remember user hash token ends)
      unfolding remember_locked
      read_again = reading path history_name history_limit (λ content. remember_in_history call remember user hash token (history_in content) ends)
          (λ content. history_read (history_in content))

      by_held : (held : Bool) → Still (if_locked call remember user hash token act held)
      by_held true = read_again
      by_held false = unsetting AuthTok (act returns.AuthtokErr) (next returns.AuthtokErr)

      locking : Still (locks_history call remember user hash token act)
      unfolding locks_history
      locking = holding path (codes "/etc/.pwd.lock") Record (if_locked call remember user hash token act) by_held

      unless_had : (refused : Bool) → Still (unless_used refused call remember user hash token act)
      unless_had true = refusing
      unless_had false = locking

      compared : (history : Option (List Remembered)) → Still (compares_token call remember user hash token history act)
      compared None = next returns.AuthtokErr
      compared (Some history) =
          seeing_caller path (λ caller. unless_used (is_refused call.args caller token hash (hashes_of user history)) call remember user hash token act)
          (λ caller. unless_had (is_refused call.args caller token hash (hashes_of user history)))

      unless_zero : (zero : Bool) → Still (unless_remember_zero zero call remember user hash token act)
      unless_zero true = next returns.Success
      unless_zero false = reading path history_name history_limit (λ content. compares_token call remember user hash token (history_in content) act)
          (λ content. compared (history_in content))

    module _ (call : PlainCall) (user : List ℕ) where
      with_token : (hash : List ℕ) (token : Option (List ℕ)) → Still (remembers_if_taken call user hash token act)
      with_token hash None = next returns.AuthtokErr
      with_token hash (Some token) = unless_zero call (remember_of call.args) user hash token (remember_of call.args == 0)

      remembering : (hash : List ℕ) (token : Option (List ℕ)) → Still (remembers call user hash token act)
      unfolding remembers
      remembering hash token = with_token hash token

      renewing : (hash : List ℕ) → Still (renews call user hash act)
      unfolding renews
      renewing hash = taking path (λ token. remembers call user hash token act) (remembering hash) call

      by_known : (look : KnownPassword) → Still (renew_if_known call user look act)
      unfolding renew_if_known
      by_known Unknown = next returns.UserUnknown
      by_known Unavailable = next returns.AuthtokErr
      by_known (Plain hash) = renewing hash
      by_known (Shadowed entry) = renewing entry.hash

    checking : (call : PlainCall) → Still (checks_token call act)
    unfolding checks_token
    checking call = asking path (λ user. looks user (λ look. renew_if_known call user look act))
        (λ user. looking path user (λ look. renew_if_known call user look act) (by_known call user))

  pub pwhistory_leaves : ((root : List ℕ) → path_of root history_name ≡ path → ⊥) → (call : PlainCall) → Still (pwhistory_act call)
  pwhistory_leaves apart call = unless path (at_once call.func call.flags) (checks_token call answers) (checking apart answers (answering path) call)
