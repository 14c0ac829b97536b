-- What a call of the module does to a file: it leaves it, records a failure, or clears the failures.
use Rattle.std.proofs.Common.{◌≡◌, ◌⊎◌, inl, inr, ℕ, Bool, true, false, not, ◌&&◌, ◌||◌, cond, List, [], ◌∷◌, ◌++◌, length, Option, Some, None, Result, Ok, Err, nat_le, nat_lt, refl, sym, ap, subst, ◌∙◌}
use Rattle.std.specs.Str.{bytes_eq}
use Rattle.std.proofs.lemmas.Slice.Eq.{bytes_eq-Decides}
use Rattle.pam_base.specs.declared.code.Code.{Code}
use Rattle.pam_base.specs.declared.code.Code.TheVariants as returns
use Rattle.item_store.specs.Items.{ItemTexts}
use Rattle.pam_outside.specs.declared.held.LockKind.{LockKind}
use Rattle.pam_outside.specs.declared.held.LockKind.TheVariants.{Whole}
use Rattle.pam_outside.specs.declared.vault.TheConstants.{MAX_FILE}
use Rattle.pam_outside.specs.Files.{File, file_at, file_put}
use Rattle.module_acts.specs.pam_room.specs.Call.{PlainCall}
use Rattle.module_acts.specs.pam_room.specs.Module.{NamedData, Played, SeenRoom, Sight}
use Rattle.module_acts.specs.pam_room.specs.Say.{user_asked}
use Rattle.module_acts.specs.account_db.specs.declared.passwd.Passwd.{Passwd}
use Rattle.module_acts.specs.declared.content.Content.TheVariants.{Unreadable, Holds}
use Rattle.pam_outside.specs.Paths.{path_of}
use Rattle.module_acts.specs.Content.{content_of, is_rooted}
use Rattle.module_acts.specs.Accounts.{Account, found, missing, unreadable, account_in, nothing_known}
use Rattle.module_acts.specs.Act.{Act, Stage, answers, asks_user, called, finds_account, holds_if, holds_lock, holds_unless, in_room, later, lets_go, passwds_by, reads_file, reads_if, reads_passwds, replaced, replaces_file, sees_items, sees_moment}
use Rattle.mod_tally.specs.declared.tally.Failure.{Failure}
use Rattle.mod_tally.specs.declared.settings.Task.{Task}
use Rattle.mod_tally.specs.declared.settings.Task.TheVariants.{Preauth, AuthFail, AuthSucc, Clear}
use Rattle.mod_tally.specs.Settings.{PlainSettings, settings_of, task_among}
use Rattle.mod_tally.specs.Tally.{counting, failures_of, is_locked, tally_text}
use Rattle.mod_tally.specs.Faillock.{task_for_account, task_or_code, task_on_file, denies_if_locked, unless_no_file, unless_spared, task_if_readable, task_on_failures, clears, does_task, faillock_plays, failures_in, if_any, if_held, if_taken, is_no_file, lock_name, locks_file, new_failure, reads_tally, records, sets_if, sets_text, spared_answer, tally_limit, tally_name, task_of, tries_lock, unless_locked, write_result}
use Rattle.mod_tally.specs.Recorded.{Deed, left, recorded, cleared, Does, DoesTo, IsOpen, failures_on_file}
use Rattle.mod_tally.proofs.ReplacedFileFacts.{put_past, put_there}

-- ---- the steps

-- what is done with a code at the end: it is returned, and nothing changes but the locks
record Ends (act : Code → Act) : Type 0 where
  code_is : (code : Code) (stage : Stage) → (act code stage).code ≡ code
  items_are : (code : Code) (stage : Stage) → (act code stage).room.items ≡ stage.room.items
  files_are : (code : Code) (stage : Stage) → (act code stage).files ≡ stage.sight.files

answering : Ends answers
unfolding answers
answering = record { code_is = λ code stage. refl; items_are = λ code stage. refl; files_are = λ code stage. refl }

freeing : (held : Bool) (act : Code → Act) → Ends act → Ends (λ code. lets_go held (act code))
unfolding lets_go
freeing held act e = record { code_is = e.code_is; items_are = e.items_are; files_are = e.files_are }

module _ (path : List ℕ) (call : PlainCall) where
  -- what the module does is one of the three
  abbrev pub DoesOne : Sight → Played → Type 0
  DoesOne sight p = (d : Deed) × Does path call sight p d

  abbrev pub Keeps : Act → Type 0
  Keeps act = (stage : Stage) → DoesOne stage.sight (act stage)

  answers_keep : (code : Code) → Keeps (answers code)
  unfolding answers
  answers_keep code stage = (left, refl)

  picked : (sight : Sight) (b : Bool) (x y : Played) → DoesOne sight x → DoesOne sight y → DoesOne sight (cond b x y)
  picked sight true x y l r = l
  picked sight false x y l r = r

  asking : (act : List ℕ → Act) → ((user : List ℕ) → Keeps (act user)) → Keeps (asks_user act)
  unfolding asks_user
  asking act next stage = picked stage.sight (user_asked stage.room).refused _ _ (left, refl) (next _ (in_room (user_asked stage.room).room stage))

  by_known : (known : Option (Option (List Passwd))) (act : Option (List Passwd) → Act) → ((e : Option (List Passwd)) → Keeps (act e)) → Keeps (passwds_by known act)
  by_known (Some e) act next stage = next e stage
  by_known None act next stage = next _ _

  finding : (user : List ℕ) (act : Account → Act) → ((a : Account) → Keeps (act a)) → Keeps (finds_account user act)
  unfolding reads_passwds
  finding user act next stage = by_known stage.known.passwds (λ e. act (account_in user e)) (λ e. next (account_in user e)) stage

  -- the lock of a file is taken
  locking : (name : List ℕ) (kind : LockKind) (act : Bool → Act) → ((held : Bool) → Keeps (act held)) → Keeps (holds_lock name kind act)
  unfolding holds_lock
  locking name kind act next stage = by (is_rooted name)
    where
      unless : (fails : Bool) → DoesOne stage.sight (holds_unless fails (path_of stage.sight.root name) kind act stage)
      unless true = next false (record stage { sight = later stage.sight })
      unless false = next true (record stage { sight = later stage.sight })

      by : (rooted : Bool) → DoesOne stage.sight (holds_if rooted name kind act stage)
      by true = unless (stage.sight.failing 0)
      by false = next true stage

  -- a tally is read
  looking : (name : List ℕ) (act : Option (List Failure) → Act) → ((found : Option (List Failure)) → Keeps (act found)) → Keeps (reads_tally name act)
  unfolding reads_file
  looking name act next stage = by (is_rooted name)
    where
      by : (rooted : Bool) → DoesOne stage.sight (reads_if rooted name tally_limit (λ content. act (failures_in content)) stage)
      by true = next _ (record stage { sight = later stage.sight })
      by false = next (Some []) stage

  abbrev pub task_is : Task → Type 0
  task_is task = task_of call.func (task_among call.args) ≡ Ok task

  abbrev pub given : PlainSettings
  given = settings_of call.args

  -- ---- up to the end

  module _ (act : Code → Act) (e : Ends act) where
    ended : (sight : Sight) (stage : Stage) (code : Code) (d : Deed) → DoesTo path call sight.clock.moment stage.room.items sight.files code stage.sight.files d → DoesOne sight (act code stage)
    ended sight stage code d does =
        let D = DoesTo path call sight.clock.moment in (
          d,
          subst (λ (c : Code). D (act code stage).room.items sight.files c (act code stage).files d) (sym (e.code_is code stage))
              (subst (λ (i : ItemTexts). D i sight.files code (act code stage).files d) (sym (e.items_are code stage))
              (subst (λ (f : List File). D stage.room.items sight.files code f d) (sym (e.files_are code stage)) does)),
        )

    stays : (code : Code) → Keeps (act code)
    stays code stage = ended stage.sight stage code left refl

    -- a file is set, if nothing fails
    put : (stage : Stage) (name text : List ℕ) (code : Code) (d : Deed) (b : Bool)
        → (path_of stage.sight.root name ≡ path → DoesTo path call stage.sight.clock.moment stage.room.items stage.sight.files code (file_put (path_of stage.sight.root name) text stage.sight.files) d)
        → DoesOne stage.sight (called (act (write_result code (not b)) (record stage { sight = replaced b (path_of stage.sight.root name) text stage.sight })))
    put stage name text code d true does = ended stage.sight (record stage { sight = later stage.sight }) returns.ServiceErr left refl
    put stage name text code d false does = by (bytes_eq (path_of stage.sight.root name) path) refl
      where
        after : Stage
        after = record stage { sight = replaced false (path_of stage.sight.root name) text stage.sight }

        by : (t : Bool) → bytes_eq (path_of stage.sight.root name) path ≡ t → DoesOne stage.sight (called (act code after))
        by true f = ended stage.sight after code d (does ((bytes_eq-Decides (path_of stage.sight.root name) path).0 f))
        by false f = ended stage.sight after code left (put_past (path_of stage.sight.root name) text path f stage.sight.files)

    set_by : (b : Bool) (stage : Stage) (name text : List ℕ) (code : Code) (d : Deed)
        → (b ≡ true → path_of stage.sight.root name ≡ path → DoesTo path call stage.sight.clock.moment stage.room.items stage.sight.files code (file_put (path_of stage.sight.root name) text stage.sight.files) d)
        → DoesOne stage.sight (sets_if b name text code act stage)
    unfolding replaces_file
    set_by true stage name text code d does = put stage name text code d (stage.sight.failing 0 || nat_lt MAX_FILE (length text)) (does refl)
    set_by false stage name text code d does = stays returns.ServiceErr stage

    both : (a b : Bool) → (a && b) ≡ true → a ≡ true
    both true b f = refl
    both false b f = f

    setting : (stage : Stage) (name text : List ℕ) (code : Code) (d : Deed)
        → (is_rooted name ≡ true → path_of stage.sight.root name ≡ path → DoesTo path call stage.sight.clock.moment stage.room.items stage.sight.files code (file_put (path_of stage.sight.root name) text stage.sight.files) d)
        → DoesOne stage.sight (sets_text name text code act stage)
    setting stage name text code d does = set_by (is_rooted name && nat_le (length text) tally_limit) stage name text code d (λ f. does (both (is_rooted name) (nat_le (length text) tally_limit) f))

    locked_by : (b : Bool) (step : (Code → Act) → Act) (stage : Stage) → (b ≡ false → DoesOne stage.sight (step act stage)) → DoesOne stage.sight (denies_if_locked b step act stage)
    locked_by true step stage next = stays returns.AuthErr stage
    locked_by false step stage next = next refl

    unlocked_so : (fs : List Failure) (step : (Code → Act) → Act) (stage : Stage) → (IsOpen given stage.sight.clock.moment fs → DoesOne stage.sight (step act stage)) → DoesOne stage.sight (unless_locked given fs step act stage)
    unfolding sees_moment
    unlocked_so fs step stage next = locked_by (is_locked given.deny given.interval given.unlock stage.sight.clock.moment fs) step stage next

    taking : (lock : List ℕ) (held : Bool) → Keeps (if_taken lock act held)
    unfolding lets_go
    taking lock true = stays returns.Success
    taking lock false = stays returns.ServiceErr

    trying : (lock : List ℕ) → Keeps (tries_lock lock act)
    trying lock = locking lock Whole (if_taken lock act) (taking lock)

    -- ---- with the failures in the file

    module _ (name : List ℕ) (stage : Stage) where
      -- the file was read
      abbrev Stood : List Failure → Type 0
      Stood fs = is_rooted name ≡ true → failures_on_file (file_at (path_of stage.sight.root name) stage.sight.files) ≡ Some fs

      at_path : (fs : List Failure) → Stood fs → is_rooted name ≡ true → path_of stage.sight.root name ≡ path → failures_on_file (file_at path stage.sight.files) ≡ Some fs
      at_path fs stood rooted f = ap (λ (p : List ℕ). failures_on_file (file_at p stage.sight.files)) (sym f) ∙ stood rooted

      put_at : (text : List ℕ) → path_of stage.sight.root name ≡ path → file_at path (file_put (path_of stage.sight.root name) text stage.sight.files) ≡ Some text
      put_at text f = ap (λ (p : List ℕ). file_at p (file_put (path_of stage.sight.root name) text stage.sight.files)) (sym f) ∙ put_there (path_of stage.sight.root name) text stage.sight.files

      recording : (fs : List Failure) → Stood fs → task_is AuthFail → IsOpen given stage.sight.clock.moment fs → DoesOne stage.sight (records given name fs act stage)
      unfolding sees_moment sees_items
      recording fs stood task unlocked =
          let f = new_failure stage.sight.clock.moment stage.room.items in
          setting stage name (tally_text (counting given.interval (fs ++ f ∷ []))) returns.Ignore (recorded given.interval f) (λ rooted e. record {
            task = task;
            code_is = refl;
            interval_is = refl;
            failure_is = refl;
            on_file = fs;
            stood = at_path fs stood rooted e;
            unlocked = unlocked;
            stands = put_at (tally_text (counting given.interval (fs ++ f ∷ []))) e;
          })

      clearing : (fs : List Failure) → Stood fs → (task_is Clear ⊎ (task_is AuthSucc × IsOpen given stage.sight.clock.moment fs)) → DoesOne stage.sight (clears name fs act stage)
      clearing [] stood allowed = stays returns.Success stage
      clearing (f ∷ fs) stood allowed =
          setting stage name (tally_text []) returns.Success cleared (λ rooted e. record {
            code_is = refl;
            on_file = f ∷ fs;
            stood = at_path (f ∷ fs) stood rooted e;
            allowed = allowed;
            stands = put_at (tally_text []) e;
          })

      doing : (lock : List ℕ) (task : Task) → task_is task → (fs : List Failure) → Stood fs → DoesOne stage.sight (task_on_failures task given name lock fs act stage)
      doing lock Preauth task fs stood = unlocked_so fs (tries_lock lock) stage (λ unlocked. trying lock stage)
      doing lock AuthFail task fs stood = unlocked_so fs (records given name fs) stage (λ unlocked. recording fs stood task unlocked)
      doing lock AuthSucc task fs stood = unlocked_so fs (clears name fs) stage (λ unlocked. clearing fs stood (inr (task, unlocked)))
      doing lock Clear task fs stood = clearing fs stood (inl task)

    -- ---- the file is read

    module _ (task : Task) (is : task_is task) (name lock : List ℕ) (stage : Stage) where
      by_found : (found : Option (List Failure)) → ((fs : List Failure) → found ≡ Some fs → Stood name stage fs) → DoesOne stage.sight (task_if_readable task given name lock act found stage)
      by_found None stood = stays returns.ServiceErr stage
      by_found (Some fs) stood = doing name stage lock task is fs (stood fs refl)

      by_length : (long : Bool) (text : List ℕ) → file_at (path_of stage.sight.root name) stage.sight.files ≡ Some text → DoesOne stage.sight (task_if_readable task given name lock act (failures_in (cond long Unreadable (Holds text))) stage)
      by_length true text f = stays returns.ServiceErr stage
      by_length false text f = by_found (failures_of text) (λ fs g rooted. ap failures_on_file f ∙ g)

      by_content : (o : Option (List ℕ)) → file_at (path_of stage.sight.root name) stage.sight.files ≡ o → (fails : Bool) → DoesOne stage.sight (task_if_readable task given name lock act (failures_in (content_of fails tally_limit o)) stage)
      unfolding content_of
      by_content o f true = stays returns.ServiceErr stage
      by_content None f false = by_found (Some []) (λ fs g rooted. ap failures_on_file f ∙ g)
      by_content (Some text) f false = by_length (nat_lt tally_limit (length text)) text f

    reading : (task : Task) → task_is task → (name lock : List ℕ) → Keeps (task_on_file task given name lock act)
    unfolding reads_file
    reading task is name lock stage = by (is_rooted name) refl
      where
        by : (rooted : Bool) → is_rooted name ≡ rooted → DoesOne stage.sight (reads_if rooted name tally_limit (λ content. task_if_readable task given name lock act (failures_in content)) stage)
        by true f = by_content task is name lock (record stage { sight = later stage.sight }) (file_at (path_of stage.sight.root name) stage.sight.files) refl (stage.sight.failing 0)
        by false f = by_found task is name lock stage (Some []) (λ fs g rooted. absurd (let both : ◌≡◌ {A = Bool} true false = sym rooted ∙ f in cc))

  -- ---- the file is locked, and read

  module _ (act : Code → Act) (e : Ends act) (task : Task) (is : task_is task) (name lock : List ℕ) where
    held_by : (held : Bool) → Keeps (if_held task given name lock act held)
    held_by true = reading (λ code. lets_go (is_rooted lock) (act code)) (freeing (is_rooted lock) act e) task is name lock
    held_by false = stays act e returns.ServiceErr

    holding : Keeps (locks_file task given name lock act)
    holding = locking lock Whole (if_held task given name lock act) held_by

    any_by : (found : Option (List Failure)) → Keeps (if_any task given name lock act found)
    any_by None = stays act e returns.ServiceErr
    any_by (Some []) = stays act e returns.Success
    any_by (Some (f ∷ fs)) = holding

  tasking : (act : Code → Act) → Ends act → (task : Task) → task_is task → (name lock : List ℕ) → Keeps (does_task task given name lock act)
  tasking act e Preauth is name lock = reading act e Preauth is name lock
  tasking act e AuthFail is name lock = holding act e AuthFail is name lock
  tasking act e AuthSucc is name lock = looking name (if_any AuthSucc given name lock act) (any_by act e AuthSucc is name lock)
  tasking act e Clear is name lock = looking name (if_any Clear given name lock act) (any_by act e Clear is name lock)

  -- ---- the module

  sparing : (b : Bool) (task : Task) → task_is task → (user : List ℕ) → Keeps (unless_spared b task given user)
  sparing true task is user = answers_keep (spared_answer task)
  sparing false task is user = tasking answers answering task is (tally_name given.folder user) (lock_name given.folder user)

  accounting : (task : Task) → task_is task → (user : List ℕ) (a : Account) → Keeps (task_for_account task given user a)
  accounting task is user unreadable = answers_keep returns.ServiceErr
  accounting task is user missing = answers_keep returns.Ignore
  accounting task is user (found entry) = sparing _ task is user

  naming : (b : Bool) (task : Task) → task_is task → (user : List ℕ) → Keeps (unless_no_file b task given user)
  naming true task is user = answers_keep returns.UserUnknown
  naming false task is user = finding user (task_for_account task given user) (accounting task is user)

  calling : (r : Result Task Code) → task_of call.func (task_among call.args) ≡ r → Keeps (task_or_code r given)
  calling (Err code) e = answers_keep code
  calling (Ok task) e = asking (λ user. unless_no_file (is_no_file user) task given user) (λ user. naming (is_no_file user) task e user)

  pub does_one : (room : SeenRoom) (held : List NamedData) (sight : Sight) → DoesOne sight (faillock_plays call room held sight)
  does_one room held sight = calling (task_of call.func (task_among call.args)) refl (record { room = room; held = held; known = nothing_known; sight = sight })
