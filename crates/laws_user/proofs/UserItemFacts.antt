-- pam_faillock leaves USER if it is set.
use Rattle.std.proofs.Common.{◌≡◌, ℕ, Bool, true, false, not, ◌&&◌, ◌==◌, nat_le, List, [], ◌∷◌, length, Option, Some, None, Result, Ok, Err, unwrap_or, codes}
use Rattle.std.specs.Prelude.{◌||◌, nat_lt}
use Rattle.pam_base.specs.declared.code.Code.{Code}
use Rattle.pam_base.specs.declared.code.Code.TheVariants as returns
use Rattle.pam_outside.specs.declared.held.LockKind.{LockKind}
use Rattle.pam_outside.specs.declared.held.LockKind.TheVariants.{Whole}
use Rattle.pam_outside.specs.declared.vault.TheConstants.{MAX_FILE}
use Rattle.pam_outside.specs.Paths.{path_of}
use Rattle.pam_room.specs.Call.{PlainCall}
use Rattle.pam_room.specs.Module.{NamedData, SeenRoom, Sight}
use Rattle.pam_room.specs.Say.{user_or_ask}
use Rattle.pam_room.specs.item_store.specs.Items.{ItemTexts}
use Rattle.account_db.specs.declared.passwd.Passwd.{Passwd}
use Rattle.module_acts.specs.declared.content.Content.{Content}
use Rattle.module_acts.specs.declared.content.Content.TheVariants.{Absent}
use Rattle.module_acts.specs.Content.{is_rooted}
use Rattle.module_acts.specs.Accounts.{Account, account_in, account_limit, found, missing, nothing_known, passwds_in, unreadable}
use Rattle.module_acts.specs.Act.{Act, Stage, answers, asks_user, content_seen, finds_account, holds_if, holds_lock, holds_unless, later, lets_go, passwds_by, reads_file, reads_if, reads_passwds, replaced, replaces_file, sees_items, sees_moment, with_user}
use Rattle.mod_tally.specs.declared.settings.Task.{Task}
use Rattle.mod_tally.specs.declared.settings.Task.TheVariants.{Preauth, AuthFail, AuthSucc, Clear}
use Rattle.mod_tally.specs.declared.tally.Failure.{Failure}
use Rattle.mod_tally.specs.Faillock.{task_for_account, task_or_code, task_on_file, denies_if_locked, unless_no_file, unless_spared, task_if_readable, task_on_failures, clears, does_task, failures_in, faillock_plays, if_any, if_held, if_taken, is_no_file, lock_name, locks_file, reads_tally, records, sets_if, spared_answer, tally_limit, tally_name, task_of, tries_lock, unless_locked, write_result}
use Rattle.mod_tally.specs.Settings.{PlainSettings, settings_of, task_among}
use Rattle.mod_tally.specs.Tally.{is_locked, tally_text}

module _ (who : List ℕ) where
  -- USER is still this name after the rest
  abbrev Keeps : Act → Type 0
  Keeps act = (stage : Stage) → stage.room.items.user ≡ Some who → (act stage).room.items.user ≡ Some who

  abbrev AllKeep : (Code → Act) → Type 0
  AllKeep act = (code : Code) → Keeps (act code)

  answering : AllKeep answers
  unfolding answers
  answering code stage is = is

  -- ---- what is seen and read

  asked_by : (known : Option (List ℕ)) (act : List ℕ → Act) → ((user : List ℕ) → Keeps (act user)) → (stage : Stage) → known ≡ Some who
      → stage.room.items.user ≡ Some who → (with_user (user_or_ask known stage.room) act stage).room.items.user ≡ Some who
  asked_by None act next stage there is = absurd cc
  asked_by (Some name) act next stage there is = next (unwrap_or stage.room.items.user []) stage is

  asking : (act : List ℕ → Act) → ((user : List ℕ) → Keeps (act user)) → Keeps (asks_user act)
  unfolding asks_user
  asking act next stage is = asked_by stage.room.items.user act next stage is is

  seeing_moment : (act : ℕ → Act) → ((now : ℕ) → Keeps (act now)) → Keeps (sees_moment act)
  unfolding sees_moment
  seeing_moment act next stage is = next stage.sight.clock.moment stage is

  seeing_items : (act : ItemTexts → Act) → ((items : ItemTexts) → Keeps (act items)) → Keeps (sees_items act)
  unfolding sees_items
  seeing_items act next stage is = next stage.room.items stage is

  read_by : (rooted : Bool) (name : List ℕ) (limit : ℕ) (act : Content → Act) → ((c : Content) → Keeps (act c)) → Keeps (reads_if rooted name limit act)
  read_by true name limit act next stage is = next (content_seen name limit stage.sight) (record stage { sight = later stage.sight }) is
  read_by false name limit act next stage is = next Absent stage is

  reading_tally : (name : List ℕ) (act : Option (List Failure) → Act) → ((fs : Option (List Failure)) → Keeps (act fs)) → Keeps (reads_tally name act)
  unfolding reads_file
  reading_tally name act next stage is = read_by (is_rooted name) name tally_limit (λ c. act (failures_in c)) (λ c. next (failures_in c)) stage is

  passwds_so : (known : Option (Option (List Passwd))) (act : Option (List Passwd) → Act) → ((es : Option (List Passwd)) → Keeps (act es))
      → Keeps (passwds_by known act)
  passwds_so (Some es) act next stage is = next es stage is
  passwds_so None act next stage is =
      let found_there = passwds_in (content_seen (codes "/etc/passwd") account_limit stage.sight) in
      next found_there (record stage { known = record stage.known { passwds = Some found_there }; sight = later stage.sight }) is

  finding : (user : List ℕ) (act : Account → Act) → ((a : Account) → Keeps (act a)) → Keeps (finds_account user act)
  unfolding reads_passwds
  finding user act next stage is = passwds_so stage.known.passwds (λ es. act (account_in user es)) (λ es. next (account_in user es)) stage is

  -- ---- what is written and locked

  replacing : (name bytes : List ℕ) (act : Bool → Act) → ((done : Bool) → Keeps (act done)) → Keeps (replaces_file name bytes act)
  unfolding replaces_file
  replacing name bytes act next stage is =
      let fails : Bool = stage.sight.failing 0 || nat_lt MAX_FILE (length bytes) in
      next (not fails) (record stage { sight = replaced fails (path_of stage.sight.root name) bytes stage.sight }) is

  hold_unless : (fails : Bool) (path : List ℕ) (kind : LockKind) (act : Bool → Act) → ((b : Bool) → Keeps (act b)) → Keeps (holds_unless fails path kind act)
  hold_unless true path kind act next stage is = next false (record stage { sight = later stage.sight }) is
  hold_unless false path kind act next stage is = next true (record stage { sight = later stage.sight }) is

  hold_if : (rooted : Bool) (lock : List ℕ) (kind : LockKind) (act : Bool → Act) → ((b : Bool) → Keeps (act b)) → Keeps (holds_if rooted lock kind act)
  hold_if true lock kind act next stage is = hold_unless (stage.sight.failing 0) (path_of stage.sight.root lock) kind act next stage is
  hold_if false lock kind act next stage is = next true stage is

  holding : (lock : List ℕ) (kind : LockKind) (act : Bool → Act) → ((b : Bool) → Keeps (act b)) → Keeps (holds_lock lock kind act)
  unfolding holds_lock
  holding lock kind act next stage is = hold_if (is_rooted lock) lock kind act next stage is

  letting_go : (held : Bool) (act : Act) → Keeps act → Keeps (lets_go held act)
  unfolding lets_go
  letting_go held act next stage is = next stage is

  -- ---- what pam_faillock does

  module _ (name : List ℕ) where
    set_if : (b : Bool) (text : List ℕ) (code : Code) (act : Code → Act) → AllKeep act → Keeps (sets_if b name text code act)
    set_if true text code act all = replacing name text (λ done. act (write_result code done)) (λ done. all (write_result code done))
    set_if false text code act all = all returns.ServiceErr

    cleared : (failures : List Failure) (act : Code → Act) → AllKeep act → Keeps (clears name failures act)
    cleared [] act all = all returns.Success
    cleared (f ∷ fs) act all = set_if (is_rooted name && nat_le (length (tally_text [])) tally_limit) (tally_text []) returns.Success act all

    recorded : (s : PlainSettings) (failures : List Failure) (act : Code → Act) → AllKeep act → Keeps (records s name failures act)
    recorded s failures act all = seeing_moment _ (λ now. seeing_items _ (λ items. set_if _ _ returns.Ignore act all))

    locked_or : (b : Bool) (step : (Code → Act) → Act) (act : Code → Act) → AllKeep act → Keeps (step act) → Keeps (denies_if_locked b step act)
    locked_or true step act all next = all returns.AuthErr
    locked_or false step act all next = next

    unlocked : (s : PlainSettings) (failures : List Failure) (step : (Code → Act) → Act) (act : Code → Act) → AllKeep act → Keeps (step act)
        → Keeps (unless_locked s failures step act)
    unlocked s failures step act all next = seeing_moment _ (λ now. locked_or (is_locked s.deny s.interval s.unlock now failures) step act all next)

    taken : (lock : List ℕ) (act : Code → Act) → AllKeep act → (b : Bool) → Keeps (if_taken lock act b)
    taken lock act all true = letting_go (is_rooted lock) (act returns.Success) (all returns.Success)
    taken lock act all false = all returns.ServiceErr

    module _ (s : PlainSettings) (lock : List ℕ) where
      done_by : (task : Task) (failures : List Failure) (act : Code → Act) → AllKeep act → Keeps (task_on_failures task s name lock failures act)
      done_by Preauth failures act all = unlocked s failures (tries_lock lock) act all (holding lock Whole (if_taken lock act) (taken lock act all))
      done_by AuthFail failures act all = unlocked s failures (records s name failures) act all (recorded s failures act all)
      done_by AuthSucc failures act all = unlocked s failures (clears name failures) act all (cleared failures act all)
      done_by Clear failures act all = cleared failures act all

      tallied : (task : Task) (act : Code → Act) → AllKeep act → (failures : Option (List Failure)) → Keeps (task_if_readable task s name lock act failures)
      tallied task act all None = all returns.ServiceErr
      tallied task act all (Some failures) = done_by task failures act all

      filed : (task : Task) (act : Code → Act) → AllKeep act → Keeps (task_on_file task s name lock act)
      filed task act all = reading_tally name (task_if_readable task s name lock act) (tallied task act all)

      held_so : (task : Task) (act : Code → Act) → AllKeep act → (b : Bool) → Keeps (if_held task s name lock act b)
      held_so task act all true = filed task (λ code. lets_go (is_rooted lock) (act code)) (λ code. letting_go (is_rooted lock) (act code) (all code))
      held_so task act all false = all returns.ServiceErr

      locked : (task : Task) (act : Code → Act) → AllKeep act → Keeps (locks_file task s name lock act)
      locked task act all = holding lock Whole (if_held task s name lock act) (held_so task act all)

      some_or_none : (task : Task) (act : Code → Act) → AllKeep act → (fs : Option (List Failure)) → Keeps (if_any task s name lock act fs)
      some_or_none task act all None = all returns.ServiceErr
      some_or_none task act all (Some []) = all returns.Success
      some_or_none task act all (Some (f ∷ fs)) = locked task act all

      does_so : (task : Task) (act : Code → Act) → AllKeep act → Keeps (does_task task s name lock act)
      does_so Preauth act all = filed Preauth act all
      does_so AuthFail act all = locked AuthFail act all
      does_so AuthSucc act all = reading_tally name (if_any AuthSucc s name lock act) (some_or_none AuthSucc act all)
      does_so Clear act all = reading_tally name (if_any Clear s name lock act) (some_or_none Clear act all)

  -- ---- the user

  module _ (s : PlainSettings) (task : Task) where
    spared : (user : List ℕ) (b : Bool) → Keeps (unless_spared b task s user)
    spared user true = answering (spared_answer task)
    spared user false = does_so (tally_name s.folder user) s (lock_name s.folder user) task answers answering

    accounted : (user : List ℕ) (a : Account) → Keeps (task_for_account task s user a)
    accounted user unreadable = answering returns.ServiceErr
    accounted user missing = answering returns.Ignore
    accounted user (found entry) = spared user (entry.uid == 0 && not s.locks_root)

    named : (user : List ℕ) (b : Bool) → Keeps (unless_no_file b task s user)
    named user true = answering returns.UserUnknown
    named user false = finding user (task_for_account task s user) (accounted user)

  by_result : (r : Result Task Code) (s : PlainSettings) → Keeps (task_or_code r s)
  by_result (Err code) s = answering code
  by_result (Ok task) s = asking (λ user. unless_no_file (is_no_file user) task s user) (λ user. named s task user (is_no_file user))

pub faillock_keeps_user : (call : PlainCall) (room : SeenRoom) (held : List NamedData) (sight : Sight) (who : List ℕ) → room.items.user ≡ Some who
    → (faillock_plays call room held sight).room.items.user ≡ Some who
faillock_keeps_user call room held sight who is =
    by_result who (task_of call.func (task_among call.args)) (settings_of call.args)
    (record { room = room; held = held; known = nothing_known; sight = sight }) is
