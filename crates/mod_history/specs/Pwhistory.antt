-- pam_pwhistory(8): a password that was used before is refused.
--
-- Its steps, from the entry point on:
--   `pwhistory_act`, `checks_token`: the user is asked for, and the password looked up
--   `renew_if_known`, `renews`: the new token is taken
--   `remembers`, `remembers_if_taken`, `unless_remember_zero`: with `remember=0` nothing is remembered
--   `compares_token`, `unless_used`: a token that was used before is refused
--   `locks_history`, `if_locked`: the account files are locked
--   `remember_locked`, `remember_in_history`: the history is read again
--   `stores_unless_used`, `stores_text`, `stores_if_fits`: and replaced
--   `unless_refused`: the token was used before after all
use Rattle.std.specs.Prelude.{ℕ, Bool, true, false, ◌==◌, ◌&&◌, ◌||◌, not, nat_le, if◌then◌else◌, List, [], length, Option, Some, None, Result, Ok, Err, codes, unwrap_or}
use Rattle.std.specs.List.{list_any}
use Rattle.std.specs.Option.{option_and_then}
use Rattle.std.specs.Str.{bytes_eq}
use Rattle.pam_base.specs.declared.code.Code.{Code}
use Rattle.pam_base.specs.declared.code.Code.TheVariants.{Success, UserUnknown, AuthtokErr, ModuleUnknown}
use Rattle.pam_base.specs.declared.call.Func.{Func}
use Rattle.pam_base.specs.declared.call.Func.TheVariants.{Authenticate, SetCred, AcctMgmt, OpenSession, CloseSession, ChAuthTok}
use Rattle.pam_base.specs.declared.item.ItemName.{ItemName}
use Rattle.pam_base.specs.declared.item.ItemName.TheVariants.{AuthTok}
use Rattle.pam_base.specs.declared.style.Style.TheVariants.{ErrorMsg}
use Rattle.item_store.specs.Items.{with_text}
use Rattle.pam_outside.specs.declared.held.LockKind.TheVariants.{Record}
use Rattle.pam_room.specs.Call.{PlainCall, has_flag, prelim_check, value_among}
use Rattle.pam_room.specs.Module.{Plays}
use Rattle.module_acts.specs.declared.content.Content.{Content}
use Rattle.module_acts.specs.declared.content.Content.TheVariants.{Absent, Unreadable, Holds}
use Rattle.module_acts.specs.Act.{Act, answers, asks_user, holds_lock, in_room, lets_go, plays_by, reads_file, replaces_file, shows, unless_answered}
use Rattle.module_acts.specs.Steps.{sees_caller}
use Rattle.sha_crypt.specs.declared.setting.SettingFault.{SettingFault}
use Rattle.sha_crypt.specs.Hash.{crypted}
use Rattle.mod_unix.specs.declared.look.KnownPassword.{KnownPassword}
use Rattle.mod_unix.specs.declared.look.KnownPassword.TheVariants.{Unknown, Unavailable, Plain, Shadowed}
use Rattle.mod_unix.specs.Change.{write_result, takes_token}
use Rattle.mod_unix.specs.Look.{looks}
use Rattle.mod_history.specs.declared.history.Remembered.{Remembered}
use Rattle.module_acts.specs.Arguments.{has_argument, short_number}
use Rattle.mod_history.specs.History.{history_of, history_text}
use Rattle.mod_history.specs.Renewal.{hashes_of, renewed}

-- ---- arguments

-- how many hashes of a user are kept: `remember=`, of at most three digits, or 10
unfoldable pub remember_of : List (List ℕ) → ℕ
remember_of args =
    unwrap_or (option_and_then (short_number 3) (value_among (codes "remember=") args)) 10

-- ---- whether a token was used before

abbrev pub is_made : Result (List ℕ) SettingFault → List ℕ → Bool
is_made (Ok made) hash = bytes_eq made hash
is_made (Err fault) hash = false

-- its hash, under this hash as the setting, is this hash (crypt(3))
abbrev pub has_hash : List ℕ → List ℕ → Bool
has_hash token hash = is_made (crypted hash token) hash

-- it is the user's, or was
unfoldable pub was_used : List ℕ → List ℕ → List (List ℕ) → Bool
was_used token hash hashes = has_hash token hash || list_any (has_hash token) hashes

-- root may use a password again, unless `enforce_for_root` is given
abbrev pub is_enforced : List (List ℕ) → ℕ → Bool
is_enforced args caller = not (caller == 0) || has_argument (codes "enforce_for_root") args

-- ---- a token that was used before

-- an item is unset (pam_set_item(3))
unfoldable pub unsets_item : ItemName → Act → Act
unsets_item item act stage =
    let items = with_text stage.room.items item None in
    act (in_room (record stage.room { items = items }) stage)

-- AUTHTOK is unset, so that no later module takes it, and the user gets a message
unfoldable pub refuses_token : (Code → Act) → Act
refuses_token act =
    unsets_item AuthTok (shows ErrorMsg (codes "Password has been already used.") (act AuthtokErr))

-- ---- the file

abbrev pub history_name : List ℕ
history_name = codes "/etc/security/pamsess_history"

-- the maximum number of bytes of the file
abbrev pub history_limit : ℕ
history_limit = 1048576

-- what is read: a file that doesn't exist has no lines, and a damaged one counts as unreadable
abbrev pub history_in : Content → Option (List Remembered)
history_in Absent = Some []
history_in Unreadable = None
history_in (Holds text) = history_of text

abbrev pub stores_if_fits : Bool → List ℕ → (Code → Act) → Act
stores_if_fits true text act = replaces_file history_name text (λ done. act (write_result done))
stores_if_fits false text act = act AuthtokErr

-- the file is replaced, unless it became too long
unfoldable pub stores_text : List ℕ → (Code → Act) → Act
stores_text text act = stores_if_fits (nat_le (length text) history_limit) text act

abbrev pub is_refused : List (List ℕ) → ℕ → List ℕ → List ℕ → List (List ℕ) → Bool
is_refused args caller token hash hashes = is_enforced args caller && was_used token hash hashes

-- ---- under the lock

-- the token was used before, which is None, or the file is replaced
abbrev pub stores_unless_used : Bool → ℕ → List ℕ → List ℕ → List Remembered → (Option Code → Act) → Act
stores_unless_used true remember user hash history act = act None
stores_unless_used false remember user hash history act =
    stores_text (history_text (renewed remember user hash history)) (λ code. act (Some code))

abbrev pub remember_in_history : PlainCall → ℕ → List ℕ → List ℕ → List ℕ → Option (List Remembered)
    → (Option Code → Act) → Act
remember_in_history call remember user hash token None act = act (Some AuthtokErr)
remember_in_history call remember user hash token (Some history) act =
    sees_caller (λ caller. stores_unless_used (is_refused call.args caller token hash (hashes_of user history))
    remember user hash history act)

-- the history is read again, since it may have changed before it was locked
unfoldable pub remember_locked : PlainCall → ℕ → List ℕ → List ℕ → List ℕ → (Option Code → Act)
    → Act
remember_locked call remember user hash token act =
    reads_file history_name history_limit (λ content. remember_in_history call remember user hash token
    (history_in content) act)

-- after the lock is let go
abbrev pub unless_refused : (Code → Act) → Option Code → Act
unless_refused act (Some code) = act code
unless_refused act None = refuses_token act

-- if the lock can't be taken, no later module takes the token
abbrev pub if_locked : PlainCall → ℕ → List ℕ → List ℕ → List ℕ → (Code → Act) → Bool → Act
if_locked call remember user hash token act true =
    remember_locked call remember user hash token (λ done. lets_go true (unless_refused act done))
if_locked call remember user hash token act false = unsets_item AuthTok (act AuthtokErr)

-- the lock is that of the account files (lckpwdf(3))
unfoldable pub locks_history : PlainCall → ℕ → List ℕ → List ℕ → List ℕ → (Code → Act) → Act
locks_history call remember user hash token act =
    holds_lock (codes "/etc/.pwd.lock") Record (if_locked call remember user hash token act)

-- ---- the second pass

abbrev pub unless_used : Bool → PlainCall → ℕ → List ℕ → List ℕ → List ℕ → (Code → Act) → Act
unless_used true call remember user hash token act = refuses_token act
unless_used false call remember user hash token act =
    locks_history call remember user hash token act

-- the token is looked for in the history before that is locked
abbrev pub compares_token : PlainCall → ℕ → List ℕ → List ℕ → List ℕ → Option (List Remembered)
    → (Code → Act) → Act
compares_token call remember user hash token None act = act AuthtokErr
compares_token call remember user hash token (Some history) act =
    sees_caller (λ caller. unless_used (is_refused call.args caller token hash
    (hashes_of user history)) call remember user hash token act)

-- with `remember=0` nothing is remembered, and nothing is looked up
abbrev pub unless_remember_zero : Bool → PlainCall → ℕ → List ℕ → List ℕ → List ℕ → (Code → Act) → Act
unless_remember_zero true call remember user hash token act = act Success
unless_remember_zero false call remember user hash token act =
    reads_file history_name history_limit (λ content. compares_token call remember user hash token
    (history_in content) act)

abbrev pub remembers_if_taken : PlainCall → List ℕ → List ℕ → Option (List ℕ) → (Code → Act) → Act
remembers_if_taken call user hash None act = act AuthtokErr
remembers_if_taken call user hash (Some token) act =
    unless_remember_zero (remember_of call.args == 0) call (remember_of call.args) user hash token act

unfoldable pub remembers : PlainCall → List ℕ → List ℕ → Option (List ℕ) → (Code → Act) → Act
remembers call user hash token act = remembers_if_taken call user hash token act

-- the new token is taken as pam_unix takes it
unfoldable pub renews : PlainCall → List ℕ → List ℕ → (Code → Act) → Act
renews call user hash act = takes_token call (λ token. remembers call user hash token act)

unfoldable pub renew_if_known : PlainCall → List ℕ → KnownPassword → (Code → Act) → Act
renew_if_known call user Unknown act = act UserUnknown
renew_if_known call user Unavailable act = act AuthtokErr
renew_if_known call user (Plain hash) act = renews call user hash act
renew_if_known call user (Shadowed entry) act = renews call user entry.hash act

unfoldable pub checks_token : PlainCall → (Code → Act) → Act
checks_token call act = asks_user (λ user. looks user (λ look. renew_if_known call user look act))

-- ---- the module

-- it has only chauthtok, whose first pass returns SUCCESS at once
abbrev pub at_once : Func → ℕ → Option Code
at_once Authenticate flags = Some ModuleUnknown
at_once SetCred flags = Some ModuleUnknown
at_once AcctMgmt flags = Some ModuleUnknown
at_once OpenSession flags = Some ModuleUnknown
at_once CloseSession flags = Some ModuleUnknown
at_once ChAuthTok flags = if has_flag flags prelim_check then Some Success else None

abbrev pub pwhistory_act : PlainCall → Act
pwhistory_act call = unless_answered (at_once call.func call.flags) (checks_token call answers)

abbrev pub pwhistory_plays : Plays
pwhistory_plays = plays_by pwhistory_act
