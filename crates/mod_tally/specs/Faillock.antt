-- pam_faillock(8): the failures of a user are counted, and a user who failed too often is locked.
--
-- Its steps, from the entry point on:
--   `faillock_act`, `task_or_code`: what the call is to do, or its code at once
--   `checks_tally`, `unless_no_file`: the user is asked for; the name has to be one of a file
--   `task_for_account`, `unless_spared`: the account is looked up; root isn't locked without `even_deny_root`
--   `does_task`: which of the next two comes first
--   `locks_file`, `if_held`: the file is locked; `if_any`: only if there is something to clear
--   `task_on_file`, `task_if_readable`: the file is read
--   `task_on_failures`: `preauth`, `authfail`, `authsucc` or acct_mgmt, with the failures in the file
--   `unless_locked`, `denies_if_locked`: AUTH_ERR if the user is locked
--   `tries_lock`, `records`, `clears`: a failure could be recorded, is recorded, or all are cleared
--   `writes_tally`: the file is replaced
use Rattle.std.specs.Prelude.{ℕ, Bool, true, false, not, ◌==◌, ◌&&◌, ◌||◌, nat_le, if◌then◌else◌, List, [], ◌∷◌, ◌++◌, length, take, codes, unwrap_or, Option, Some, None, Result, Ok, Err}
use Rattle.std.specs.List.{list_any}
use Rattle.std.specs.Str.{bytes_eq}
use Rattle.pam_base.specs.declared.code.Code.{Code}
use Rattle.pam_base.specs.declared.code.Code.TheVariants as returns
use Rattle.pam_base.specs.declared.call.Func.{Func}
use Rattle.pam_base.specs.declared.call.Func.TheVariants.{Authenticate, SetCred, AcctMgmt, OpenSession, CloseSession, ChAuthTok}
use Rattle.item_store.specs.Items.{ItemTexts}
use Rattle.pam_outside.specs.declared.held.LockKind.TheVariants.{Whole}
use Rattle.module_acts.specs.pam_room.specs.Call.{PlainCall}
use Rattle.module_acts.specs.pam_room.specs.Module.{Plays}
use Rattle.module_acts.specs.declared.content.Content.{Content}
use Rattle.module_acts.specs.declared.content.Content.TheVariants.{Absent, Unreadable, Holds}
use Rattle.module_acts.specs.Content.{is_rooted}
use Rattle.module_acts.specs.Accounts.{Account, found, missing, unreadable}
use Rattle.module_acts.specs.Act.{Act, answers, asks_user, finds_account, holds_lock, lets_go, plays_by, reads_file, replaces_file, sees_items, sees_moment}
use Rattle.mod_tally.specs.declared.tally.Failure.{Failure}
use Rattle.mod_tally.specs.declared.settings.Task.{Task}
use Rattle.mod_tally.specs.declared.settings.Task.TheVariants.{Preauth, AuthFail, AuthSucc, Clear}
use Rattle.mod_tally.specs.Settings.{PlainSettings, settings_of, task_among}
use Rattle.mod_tally.specs.Tally.{counting, failures_of, is_locked, tally_text}

-- ---- the file of a user

-- a user's name that can't be the name of a file
abbrev pub is_no_file : List ℕ → Bool
is_no_file user = length user == 0 || (bytes_eq user (codes ".") || bytes_eq user (codes ".."))
    || list_any (λ b. b == 47) user

-- the file is in the directory; if that isn't a path from the root, nor is this
abbrev pub tally_name : List ℕ → List ℕ → List ℕ
tally_name folder user = if is_rooted folder then folder ++ (47 ∷ user) else []

-- The lock of a user's file is another file in the directory. No user's tally has its name, since no name in
-- /etc/passwd has a colon.
abbrev pub lock_name : List ℕ → List ℕ → List ℕ
lock_name folder user = tally_name folder (46 ∷ (user ++ codes ":pamsess-lock"))

-- the maximum number of bytes of the file
abbrev pub tally_limit : ℕ
tally_limit = 65536

-- the failures in it, unless it can't be read; if there is no file there are none
abbrev pub failures_in : Content → Option (List Failure)
failures_in Absent = Some []
failures_in Unreadable = None
failures_in (Holds text) = failures_of text

abbrev pub reads_tally : List ℕ → (Option (List Failure) → Act) → Act
reads_tally name act = reads_file name tally_limit (λ content. act (failures_in content))

-- if it wasn't done, the result is SERVICE_ERR
abbrev pub write_result : Code → Bool → Code
write_result code done = if done then code else returns.ServiceErr

abbrev pub sets_if : Bool → List ℕ → List ℕ → Code → (Code → Act) → Act
sets_if true name text code act = replaces_file name text (λ done. act (write_result code done))
sets_if false name text code act = act returns.ServiceErr

-- the file is replaced by one with this text, unless that is too long
abbrev pub sets_text : List ℕ → List ℕ → Code → (Code → Act) → Act
sets_text name text code act =
    sets_if (is_rooted name && nat_le (length text) tally_limit) name text code act

-- the file is replaced by one with these failures
abbrev pub writes_tally : List ℕ → List Failure → Code → (Code → Act) → Act
writes_tally name failures code act = sets_text name (tally_text failures) code act

-- ---- what is done

abbrev pub from : ℕ → ℕ → List ℕ → Failure
from kind moment source = record { moment = moment; kind = kind; source = take 64 source }

abbrev pub from_terminal : ℕ → List ℕ → List ℕ → Failure
from_terminal moment [] service = from 83 moment service
from_terminal moment (b ∷ bs) service = from 84 moment (b ∷ bs)

-- where a failure comes from: the remote host, else the terminal, else the service (R, T, S)
abbrev pub from_host : ℕ → List ℕ → List ℕ → List ℕ → Failure
from_host moment [] tty service = from_terminal moment tty service
from_host moment (b ∷ bs) tty service = from 82 moment (b ∷ bs)

abbrev pub new_failure : ℕ → ItemTexts → Failure
new_failure moment items = from_host moment (unwrap_or items.rhost []) (unwrap_or items.tty [])
    (unwrap_or items.service [])

-- a failure is recorded after those in the file, and those that don't count any more are dropped
abbrev pub records : PlainSettings → List ℕ → List Failure → (Code → Act) → Act
records s name failures act =
    sees_moment (λ now. sees_items (λ items.
    writes_tally name (counting s.interval (failures ++ new_failure now items ∷ []))
    returns.Ignore act))

-- failures are cleared if there are any
abbrev pub clears : List ℕ → List Failure → (Code → Act) → Act
clears name [] act = act returns.Success
clears name (f ∷ fs) act = writes_tally name [] returns.Success act

abbrev pub denies_if_locked : Bool → ((Code → Act) → Act) → (Code → Act) → Act
denies_if_locked true step act = act returns.AuthErr
denies_if_locked false step act = step act

abbrev pub unless_locked : PlainSettings → List Failure → ((Code → Act) → Act) → (Code → Act) → Act
unless_locked s failures step act =
    sees_moment (λ now. denies_if_locked (is_locked s.deny s.interval s.unlock now failures) step act)

-- The lock is taken and let go: a failure that couldn't be recorded isn't verified for.
abbrev pub if_taken : List ℕ → (Code → Act) → Bool → Act
if_taken lock act true = lets_go (is_rooted lock) (act returns.Success)
if_taken lock act false = act returns.ServiceErr

abbrev pub tries_lock : List ℕ → (Code → Act) → Act
tries_lock lock act = holds_lock lock Whole (if_taken lock act)

-- whether the failures in the file lock the user; acct_mgmt clears them even then
abbrev pub is_denied : Task → PlainSettings → ℕ → List Failure → Bool
is_denied Clear s now failures = false
is_denied Preauth s now failures = is_locked s.deny s.interval s.unlock now failures
is_denied AuthFail s now failures = is_locked s.deny s.interval s.unlock now failures
is_denied AuthSucc s now failures = is_locked s.deny s.interval s.unlock now failures

-- with the failures in the file: `preauth`, `authfail`, `authsucc`, acct_mgmt
abbrev pub task_on_failures : Task → PlainSettings → List ℕ → List ℕ → List Failure → (Code → Act) → Act
task_on_failures Preauth s file lock failures act = unless_locked s failures (tries_lock lock) act
task_on_failures AuthFail s file lock failures act = unless_locked s failures (records s file failures) act
task_on_failures AuthSucc s file lock failures act = unless_locked s failures (clears file failures) act
task_on_failures Clear s file lock failures act = clears file failures act

abbrev pub task_if_readable : Task → PlainSettings → List ℕ → List ℕ → (Code → Act) → Option (List Failure)
    → Act
task_if_readable task s file lock act None = act returns.ServiceErr
task_if_readable task s file lock act (Some failures) = task_on_failures task s file lock failures act

-- the file is read
abbrev pub task_on_file : Task → PlainSettings → List ℕ → List ℕ → (Code → Act) → Act
task_on_file task s file lock act = reads_tally file (task_if_readable task s file lock act)

-- without the lock no file is read, and the result is SERVICE_ERR
abbrev pub if_held : Task → PlainSettings → List ℕ → List ℕ → (Code → Act) → Bool → Act
if_held task s file lock act true =
    task_on_file task s file lock (λ code. lets_go (is_rooted lock) (act code))
if_held task s file lock act false = act returns.ServiceErr

-- the file is read; meanwhile it is locked
abbrev pub locks_file : Task → PlainSettings → List ℕ → List ℕ → (Code → Act) → Act
locks_file task s file lock act = holds_lock lock Whole (if_held task s file lock act)

-- it is locked, and read again, only if there are failures to clear
abbrev pub if_any : Task → PlainSettings → List ℕ → List ℕ → (Code → Act) → Option (List Failure)
    → Act
if_any task s file lock act None = act returns.ServiceErr
if_any task s file lock act (Some []) = act returns.Success
if_any task s file lock act (Some (f ∷ fs)) = locks_file task s file lock act

-- ---- the module

-- a failure is recorded under the lock; the other three read the file first
abbrev pub does_task : Task → PlainSettings → List ℕ → List ℕ → (Code → Act) → Act
does_task Preauth s file lock act = task_on_file Preauth s file lock act
does_task AuthFail s file lock act = locks_file AuthFail s file lock act
does_task AuthSucc s file lock act = reads_tally file (if_any AuthSucc s file lock act)
does_task Clear s file lock act = reads_tally file (if_any Clear s file lock act)

-- the code for root, who isn't locked without `even_deny_root`
abbrev pub spared_answer : Task → Code
spared_answer AuthFail = returns.Ignore
spared_answer other = returns.Success

abbrev pub unless_spared : Bool → Task → PlainSettings → List ℕ → Act
unless_spared true task s user = answers (spared_answer task)
unless_spared false task s user =
    does_task task s (tally_name s.folder user) (lock_name s.folder user) answers

abbrev pub task_for_account : Task → PlainSettings → List ℕ → Account → Act
task_for_account task s user unreadable = answers returns.ServiceErr
task_for_account task s user missing = answers returns.Ignore
task_for_account task s user (found entry) = unless_spared (entry.uid == 0 && not s.locks_root) task s user

abbrev pub unless_no_file : Bool → Task → PlainSettings → List ℕ → Act
unless_no_file true task s user = answers returns.UserUnknown
unless_no_file false task s user = finds_account user (task_for_account task s user)

abbrev pub checks_tally : Task → PlainSettings → Act
checks_tally task s = asks_user (λ user. unless_no_file (is_no_file user) task s user)

-- an authentication without a mode returns SERVICE_ERR; acct_mgmt clears the failures, whatever the
-- mode
abbrev pub given_mode : Option Task → Result Task Code
given_mode None = Err returns.ServiceErr
given_mode (Some task) = Ok task

abbrev pub task_of : Func → Option Task → Result Task Code
task_of Authenticate mode = given_mode mode
task_of SetCred mode = Err returns.Success
task_of AcctMgmt mode = Ok Clear
task_of OpenSession mode = Err returns.ModuleUnknown
task_of CloseSession mode = Err returns.ModuleUnknown
task_of ChAuthTok mode = Err returns.ModuleUnknown

abbrev pub task_or_code : Result Task Code → PlainSettings → Act
task_or_code (Err code) s = answers code
task_or_code (Ok task) s = checks_tally task s

-- the code of a call in which the user isn't asked for
abbrev pub refused : Result Task Code → Option Code
refused (Err code) = Some code
refused (Ok task) = None

-- what is done once the user's name is known
abbrev pub for_user : Result Task Code → PlainSettings → List ℕ → Act
for_user (Err code) s user = answers code
for_user (Ok task) s user = unless_no_file (is_no_file user) task s user

abbrev pub faillock_act : PlainCall → Act
faillock_act call = task_or_code (task_of call.func (task_among call.args)) (settings_of call.args)

abbrev pub faillock_plays : Plays
faillock_plays = plays_by faillock_act
