-- A call of pam_faillock changes no file but the tally of the user it is for, and leaves the transaction as it is once the user's name is known.
use Rattle.std.proofs.Common.{◌≡◌, ◌⊎◌, inl, inr, ℕ, Bool, true, false, not, ◌&&◌, ◌||◌, cond, ◌==◌, List, [], ◌∷◌, ◌++◌, length, codes, Option, Some}
use Rattle.std.proofs.Common.{None, Result, Ok, Err, nat_le, nat_lt, unwrap_or, refl, sym, ap, ◌∙◌}
use Rattle.std.specs.Str.{bytes_eq}
use Rattle.std.proofs.lemmas.Slice.Eq.{bytes_eq-Decides}
use Rattle.pam_base.specs.declared.code.Code.{Code}
use Rattle.pam_base.specs.declared.code.Code.TheVariants as returns
use Rattle.pam_outside.specs.declared.held.LockKind.{LockKind}
use Rattle.pam_outside.specs.declared.held.LockKind.TheVariants.{Whole}
use Rattle.pam_outside.specs.declared.vault.TheConstants.{MAX_FILE}
use Rattle.pam_outside.specs.Files.{File, file_at, file_put}
use Rattle.pam_outside.specs.Paths.{path_of}
use Rattle.pam_room.specs.Call.{PlainCall}
use Rattle.pam_room.specs.Module.{NamedData, Played, SeenRoom, Sight}
use Rattle.pam_room.specs.Say.{AfterPrompt, user_asked}
use Rattle.account_db.specs.declared.passwd.Passwd.{Passwd}
use Rattle.module_acts.specs.declared.content.Content.{Content}
use Rattle.module_acts.specs.declared.content.Content.TheVariants.{Absent}
use Rattle.module_acts.specs.Accounts.{Account, account_in, account_limit, found, missing, nothing_known, passwds_in, unreadable}
use Rattle.module_acts.specs.Act.{Act, Stage, answers, asks_user, called, content_seen, finds_account, holds_if, holds_lock, holds_unless, later}
use Rattle.module_acts.specs.Act.{lets_go, passwds_by, reads_file, reads_if, reads_passwds, replaced, replaces_file, sees_items, sees_moment}
use Rattle.module_acts.specs.Act.{with_user}
use Rattle.module_acts.specs.Content.{is_rooted}
use Rattle.mod_tally.specs.declared.settings.Task.{Task}
use Rattle.mod_tally.specs.declared.settings.Task.TheVariants.{Preauth, AuthFail, AuthSucc, Clear}
use Rattle.mod_tally.specs.declared.tally.Failure.{Failure}
use Rattle.mod_tally.specs.Faillock.{clears, denies_if_locked, does_task, faillock_plays, failures_in, if_any, if_held, if_taken, is_no_file}
use Rattle.mod_tally.specs.Faillock.{lock_name, locks_file, new_failure, reads_tally, records, sets_if, sets_text, spared_answer, tally_limit}
use Rattle.mod_tally.specs.Faillock.{tally_name, task_for_account, task_if_readable, task_of, task_on_failures, task_on_file, task_or_code}
use Rattle.mod_tally.specs.Faillock.{tries_lock, unless_locked, unless_no_file, unless_spared, write_result}
use Rattle.mod_tally.specs.Settings.{PlainSettings, settings_of, task_among}
use Rattle.mod_tally.specs.Tally.{counting, is_locked, tally_text}

-- ---- another file

module _ (path bytes other : List ℕ) (differs : bytes_eq path other ≡ false) where
  past_by : (f : File) (fs : List File) (b : Bool) → bytes_eq f.path path ≡ b → file_at other (file_put path bytes fs) ≡ file_at other fs
      → file_at other (cond b (record { path = path; bytes = bytes } ∷ fs) (f ∷ file_put path bytes fs)) ≡ file_at other (f ∷ fs)
  past_by f fs true e below =
      let is : f.path ≡ path = (bytes_eq-Decides f.path path).0 e in
      let passed : bytes_eq f.path other ≡ false = ap (λ (p : List ℕ). bytes_eq p other) is ∙ differs in
      rw (differs, passed) refl
  past_by f fs false e below = rw below refl

  put_past : (files : List File) → file_at other (file_put path bytes files) ≡ file_at other files
  put_past [] = rw differs refl
  put_past (f ∷ fs) = past_by f fs (bytes_eq f.path path) refl (put_past fs)

module _ (path name : List ℕ) where
  -- the transaction is as it was; so is the file, if it isn't the one that is set
  record Keeps (stage : Stage) (p : Played) : Type 0 where
    room_is : p.room ≡ stage.room
    file_is : bytes_eq (path_of stage.sight.root name) path ≡ false → file_at path p.files ≡ file_at path stage.sight.files

  abbrev All : Act → Type 0
  All act = (stage : Stage) → Keeps stage (act stage)

  answering : (code : Code) → All (answers code)
  unfolding answers
  answering code stage = record { room_is = refl; file_is = λ differs. refl }

  abbrev on : Stage → Stage
  on stage = record stage { sight = later stage.sight }

  once_more : (stage : Stage) (p : Played) → Keeps (on stage) p → Keeps stage (called p)
  once_more stage p k = record { room_is = k.room_is; file_is = k.file_is }

  by_known : (known : Option (Option (List Passwd))) (act : Option (List Passwd) → Act) → ((e : Option (List Passwd)) → All (act e))
      → All (passwds_by known act)
  by_known (Some e) act next stage = next e stage
  by_known None act next stage =
      let there = passwds_in (content_seen (codes "/etc/passwd") account_limit stage.sight) in
      let now : Stage = record stage { known = record stage.known { passwds = Some there }; sight = later stage.sight } in
      let k = next there now in
      record { room_is = k.room_is; file_is = k.file_is }

  finding : (user : List ℕ) (act : Account → Act) → ((a : Account) → All (act a)) → All (finds_account user act)
  unfolding reads_passwds
  finding user act next stage = by_known stage.known.passwds (λ e. act (account_in user e)) (λ e. next (account_in user e)) stage

  locking : (lock : List ℕ) (kind : LockKind) (act : Bool → Act) → ((held : Bool) → All (act held)) → All (holds_lock lock kind act)
  unfolding holds_lock
  locking lock kind act next stage = by (is_rooted lock)
    where
      unless : (fails : Bool) → Keeps stage (holds_unless fails (path_of stage.sight.root lock) kind act stage)
      unless true = let k = next false (on stage) in record { room_is = k.room_is; file_is = k.file_is }
      unless false = let k = next true (on stage) in record { room_is = k.room_is; file_is = k.file_is }

      by : (rooted : Bool) → Keeps stage (holds_if rooted lock kind act stage)
      by true = unless (stage.sight.failing 0)
      by false = next true stage

  reading : (file : List ℕ) (limit : ℕ) (act : Content → Act) → ((content : Content) → All (act content)) → All (reads_file file limit act)
  unfolding reads_file
  reading file limit act next stage = by (is_rooted file)
    where
      by : (rooted : Bool) → Keeps stage (reads_if rooted file limit act stage)
      by true = let k = next (content_seen file limit stage.sight) (on stage) in record { room_is = k.room_is; file_is = k.file_is }
      by false = next Absent stage

  letting_go : (held : Bool) (act : Act) → All act → All (lets_go held act)
  unfolding lets_go
  letting_go held act next stage = let k = next stage in record { room_is = k.room_is; file_is = k.file_is }

  -- ---- the steps of the module

  abbrev Ends : (Code → Act) → Type 0
  Ends act = (code : Code) → All (act code)

  module _ (act : Code → Act) (ends : Ends act) where
    put : (b : Bool) (text : List ℕ) (code : Code) (stage : Stage)
        → Keeps stage (called (act (write_result code (not b)) (record stage { sight = replaced b (path_of stage.sight.root name) text stage.sight })))
    put true text code stage = let k = ends returns.ServiceErr (on stage) in record { room_is = k.room_is; file_is = k.file_is }
    put false text code stage =
        let k = ends code (record stage { sight = replaced false (path_of stage.sight.root name) text stage.sight }) in
        record {
          room_is = k.room_is;
          file_is = λ differs. k.file_is differs ∙ put_past (path_of stage.sight.root name) text path differs stage.sight.files;
        }

    set_by : (b : Bool) (text : List ℕ) (code : Code) → All (sets_if b name text code act)
    unfolding replaces_file
    set_by true text code stage = put (stage.sight.failing 0 || nat_lt MAX_FILE (length text)) text code stage
    set_by false text code stage = ends returns.ServiceErr stage

    setting : (text : List ℕ) (code : Code) → All (sets_text name text code act)
    setting text code = set_by (is_rooted name && nat_le (length text) tally_limit) text code

    denied_by : (b : Bool) (step : (Code → Act) → Act) → All (step act) → All (denies_if_locked b step act)
    denied_by true step next stage = ends returns.AuthErr stage
    denied_by false step next stage = next stage

    guarding : (s : PlainSettings) (fs : List Failure) (step : (Code → Act) → Act) → All (step act) → All (unless_locked s fs step act)
    unfolding sees_moment
    guarding s fs step next stage = denied_by (is_locked s.deny s.interval s.unlock stage.sight.clock.moment fs) step next stage

    taking : (lock : List ℕ) (held : Bool) → All (if_taken lock act held)
    taking lock true = letting_go (is_rooted lock) (act returns.Success) (ends returns.Success)
    taking lock false = ends returns.ServiceErr

    recording : (s : PlainSettings) (fs : List Failure) → All (records s name fs act)
    unfolding sees_moment sees_items
    recording s fs stage =
        setting (tally_text (counting s.interval (fs ++ new_failure stage.sight.clock.moment stage.room.items ∷ []))) returns.Ignore stage

    clearing : (fs : List Failure) → All (clears name fs act)
    clearing [] = ends returns.Success
    clearing (f ∷ fs) = setting (tally_text []) returns.Success

    tasking : (s : PlainSettings) (lock : List ℕ) (fs : List Failure) (task : Task) → All (task_on_failures task s name lock fs act)
    tasking s lock fs Preauth = guarding s fs (tries_lock lock) (locking lock Whole (if_taken lock act) (taking lock))
    tasking s lock fs AuthFail = guarding s fs (records s name fs) (recording s fs)
    tasking s lock fs AuthSucc = guarding s fs (clears name fs) (clearing fs)
    tasking s lock fs Clear = clearing fs

    readable : (s : PlainSettings) (lock : List ℕ) (task : Task) (there : Option (List Failure)) → All (task_if_readable task s name lock act there)
    readable s lock task None = ends returns.ServiceErr
    readable s lock task (Some fs) = tasking s lock fs task

    on_file : (s : PlainSettings) (lock : List ℕ) (task : Task) → All (task_on_file task s name lock act)
    on_file s lock task =
        reading name tally_limit (λ content. task_if_readable task s name lock act (failures_in content))
        (λ content. readable s lock task (failures_in content))

  module _ (act : Code → Act) (ends : Ends act) (s : PlainSettings) (lock : List ℕ) (task : Task) where
    held_by : (held : Bool) → All (if_held task s name lock act held)
    held_by true = on_file (λ code. lets_go (is_rooted lock) (act code)) (λ code. letting_go (is_rooted lock) (act code) (ends code)) s lock task
    held_by false = ends returns.ServiceErr

    locked : All (locks_file task s name lock act)
    locked = locking lock Whole (if_held task s name lock act) held_by

    any_by : (there : Option (List Failure)) → All (if_any task s name lock act there)
    any_by None = ends returns.ServiceErr
    any_by (Some []) = ends returns.Success
    any_by (Some (f ∷ fs)) = locked

    looked_up : All (reads_tally name (if_any task s name lock act))
    looked_up = reading name tally_limit (λ content. if_any task s name lock act (failures_in content)) (λ content. any_by (failures_in content))

  doing : (act : Code → Act) → Ends act → (s : PlainSettings) (lock : List ℕ) (task : Task) → All (does_task task s name lock act)
  doing act ends s lock Preauth = on_file act ends s lock Preauth
  doing act ends s lock AuthFail = locked act ends s lock AuthFail
  doing act ends s lock AuthSucc = looked_up act ends s lock AuthSucc
  doing act ends s lock Clear = looked_up act ends s lock Clear

-- ---- for a user

module _ (path : List ℕ) (s : PlainSettings) (task : Task) (user : List ℕ) where
  abbrev name : List ℕ
  name = tally_name s.folder user

  sparing : (b : Bool) → All path name (unless_spared b task s user)
  sparing true = answering path name (spared_answer task)
  sparing false = doing path name answers (answering path name) s (lock_name s.folder user) task

  accounting : (a : Account) → All path name (task_for_account task s user a)
  accounting unreadable = answering path name returns.ServiceErr
  accounting missing = answering path name returns.Ignore
  accounting (found entry) = sparing (entry.uid == 0 && not s.locks_root)

  for_named : (b : Bool) → All path name (unless_no_file b task s user)
  for_named true = answering path name returns.UserUnknown
  for_named false = finding path name user (task_for_account task s user) accounting

-- What a call leaves: the transaction as it is once the user was asked for, or as it was; and the file, unless it is the
-- tally of the user that is then set.
pub record Leaves (path : List ℕ) (call : PlainCall) (room : SeenRoom) (sight : Sight) (p : Played) : Type 0 where
  pub room_is : (p.room ≡ room) ⊎ (p.room ≡ (user_asked room).room)
  pub file_is : ((user : List ℕ) → p.room.items.user ≡ Some user → bytes_eq (path_of sight.root (tally_name (settings_of call.args).folder user)) path ≡ false)
      → file_at path p.files ≡ file_at path sight.files

module _ (path : List ℕ) (call : PlainCall) where
  abbrev given : PlainSettings
  given = settings_of call.args

  -- without a name nothing is done
  by_name : (task : Task) (set : Option (List ℕ)) (stage : Stage) → set ≡ stage.room.items.user
      → let p = unless_no_file (is_no_file (unwrap_or set [])) task given (unwrap_or set []) stage in
      (p.room ≡ stage.room)
      × (((user : List ℕ) → p.room.items.user ≡ Some user → bytes_eq (path_of stage.sight.root (tally_name given.folder user)) path ≡ false)
      → file_at path p.files ≡ file_at path stage.sight.files)
  unfolding answers
  by_name task None stage is = (refl, λ other. refl)
  by_name task (Some user) stage is =
      let k = for_named path given task user (is_no_file user) stage in
      (k.room_is, λ other. k.file_is (other user (ap (λ (r : SeenRoom). r.items.user) k.room_is ∙ sym is)))

  asked_by : (a : AfterPrompt) (refused : Bool) → a.refused ≡ refused → (task : Task) (room : SeenRoom) (held : List NamedData) (sight : Sight) → a ≡ user_asked room
      → Leaves path call room sight (with_user a (λ user. unless_no_file (is_no_file user) task given user)
      (record { room = room; held = held; known = nothing_known; sight = sight }))
  asked_by a true is task room held sight same = rw is (record { room_is = inr (ap (λ (b : AfterPrompt). b.room) same); file_is = λ other. refl })
  asked_by a false is task room held sight same =
      let stage : Stage = record { room = a.room; held = held; known = nothing_known; sight = sight } in
      let b = by_name task a.room.items.user stage refl in
      rw is (record { room_is = inr (b.0 ∙ ap (λ (c : AfterPrompt). c.room) same); file_is = b.1 })

  by_task : (r : Result Task Code) (room : SeenRoom) (held : List NamedData) (sight : Sight)
      → Leaves path call room sight (task_or_code r given (record { room = room; held = held; known = nothing_known; sight = sight }))
  unfolding answers asks_user
  by_task (Err code) room held sight = record { room_is = inl refl; file_is = λ other. refl }
  by_task (Ok task) room held sight = asked_by (user_asked room) (user_asked room).refused refl task room held sight refl

  pub leaves : (room : SeenRoom) (held : List NamedData) (sight : Sight) → Leaves path call room sight (faillock_plays call room held sight)
  leaves room held sight = by_task (task_of call.func (task_among call.args)) room held sight
