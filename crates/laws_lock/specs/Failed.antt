-- That wrong passwords lock a user (pam_faillock(8); the statement is this project's own).
use Rattle.std.specs.Prelude.{◌≡◌, ◌≤◌, ◌<◌, ℕ, ◌==◌, ◌&&◌, not, false, true, List, Option, Some, Ok, codes, count_by, length}
use Rattle.std.specs.List.{AllByRecursion}
use Rattle.pam_base.specs.declared.call.Func.TheVariants.{Authenticate}
use Rattle.pam_outside.specs.Files.{file_at}
use Rattle.pam_outside.specs.Paths.{path_of}
use Rattle.pam_room.specs.Call.{PlainCall}
use Rattle.pam_room.specs.Module.{NamedData, SeenRoom, Sight}
use Rattle.account_db.specs.declared.passwd.Passwd.{Passwd}
use Rattle.account_db.specs.Passwd.{entry_of, passwds_of}
use Rattle.module_acts.specs.Accounts.{account_limit}
use Rattle.module_acts.specs.Content.{is_rooted}
use Rattle.mod_tally.specs.declared.tally.Failure.{Failure}
use Rattle.mod_tally.specs.Faillock.{faillock_plays, is_no_file, tally_limit, tally_name}
use Rattle.mod_tally.specs.Recorded.{Follow, IsWith, Served, deeds_of, failures_on_file, recorded_by}
use Rattle.mod_tally.specs.Settings.{PlainSettings, settings_of, task_among, task_word}
use Rattle.mod_tally.specs.Tally.{counts, is_soon, latest}
use Rattle.laws_lock.specs.Locked.{IsLocked, refused}

-- how many of these failures are less than `fail_interval` seconds before the latest of them
abbrev pub recent : PlainSettings → List Failure → ℕ
recent s failures = count_by (counts s.interval (latest failures)) failures

-- at least `deny` of them, and at least one, and less than `unlock_time` seconds have passed since
-- the latest, or the lock doesn't end by itself
pub record AreEnough (s : PlainSettings) (now : ℕ) (failures : List Failure) : Type 0 where
  pub some : 0 < recent s failures
  pub enough : s.deny ≤ recent s failures
  pub soon : is_soon s.unlock (latest failures) now ≡ true

-- a user of whom failures are counted: the name can be a file's, there is an entry in passwd, and
-- it isn't root's, unless `even_deny_root` is given; the files are below a path from the root, and
-- no access fails
pub record IsCounted (s : PlainSettings) (sight : Sight) (user : List ℕ) : Type 0 where
  pub named : is_no_file user ≡ false
  pub passwd : List ℕ
  pub passwd_is : file_at (path_of sight.root (codes "/etc/passwd")) sight.files ≡ Some passwd
  pub passwd_fits : length passwd ≤ account_limit
  pub entries : List Passwd
  pub entries_are : passwds_of passwd ≡ Ok entries
  pub entry : Passwd
  pub entry_is : entry_of user entries ≡ Some entry
  pub lockable : (entry.uid == 0 && not s.locks_root) ≡ false
  pub folder : is_rooted s.folder ≡ true
  pub none_fails : (n : ℕ) → sight.failing n ≡ false

-- a file that isn't longer than pam_faillock reads it
abbrev pub FitsTally : Option (List ℕ) → Type 0
FitsTally found = (text : List ℕ) → found ≡ Some text → length text ≤ tally_limit

-- These calls of pam_faillock, which may be from many transactions, were made one after another,
-- with one `fail_interval`, and nothing else changed the user's file. If enough of the failures
-- that they recorded, since they were last cleared, count, the user is locked wherever the file is
-- as they left it.
abbrev pub EnoughFailuresLock : Type 0
EnoughFailuresLock =
    (calls : List Served) (before after : Option (List ℕ)) (failures : List Failure)
    (s : PlainSettings) (sight : Sight) (user : List ℕ) →
    let path = path_of sight.root (tally_name s.folder user) in
    Follow path before calls after → AllByRecursion (IsWith s.interval) (deeds_of calls) →
    failures_on_file before ≡ Some failures →
    AreEnough s sight.clock.moment (recorded_by (deeds_of calls) failures) →
    IsCounted s sight user → file_at path sight.files ≡ after → FitsTally after →
    IsLocked s sight user

-- Then the next authenticate with `preauth`, which finds the file as they left it, returns
-- AUTH_ERR, takes no lock and does nothing else.
abbrev pub WrongPasswordsLock : Type 0
WrongPasswordsLock =
    (calls : List Served) (before after : Option (List ℕ)) (failures : List Failure)
    (call : PlainCall) (room : SeenRoom) (held : List NamedData) (sight : Sight) (user : List ℕ) →
    let s = settings_of call.args in
    let path = path_of sight.root (tally_name s.folder user) in
    Follow path before calls after → AllByRecursion (IsWith s.interval) (deeds_of calls) →
    failures_on_file before ≡ Some failures →
    AreEnough s sight.clock.moment (recorded_by (deeds_of calls) failures) →
    call.func ≡ Authenticate → task_among call.args ≡ task_word (codes "preauth") →
    room.items.user ≡ Some user → IsCounted s sight user →
    file_at path sight.files ≡ after → FitsTally after →
    faillock_plays call room held sight ≡ refused room sight
