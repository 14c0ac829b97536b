-- Authenticate of pam_faillock, in each of its three modes, for a user who is locked: AUTH_ERR, and the transaction and
-- all files stay.
use Rattle.std.proofs.Common.{◌≡◌, inl, inr, ℕ, suc, ◌≤◌, Bool, true, false, true≢false, ◌==◌, ◌&&◌, not, List, [], ◌∷◌, length, Option, Some, None, Result, Ok, codes, unwrap_or, refl, sym, ap, ◌∙◌, subst}
use Rattle.std.proofs.lemmas.Bool.{le-ltb}
use Rattle.std.specs.Result.{result_ok}
use Rattle.pam_base.specs.declared.code.Code.{Code}
use Rattle.pam_base.specs.declared.code.Code.TheVariants as returns
use Rattle.pam_base.specs.declared.call.Func.TheVariants.{Authenticate}
use Rattle.pam_outside.specs.declared.held.LockKind.{LockKind}
use Rattle.pam_outside.specs.declared.held.LockKind.TheVariants.{Whole}
use Rattle.pam_outside.specs.Files.{file_at}
use Rattle.pam_outside.specs.Paths.{path_of}
use Rattle.pam_room.specs.Module.{NamedData, Played, SeenRoom, Sight}
use Rattle.pam_room.specs.Say.{user_or_ask}
use Rattle.account_db.specs.declared.fault.DbFault.{DbFault}
use Rattle.account_db.specs.declared.passwd.Passwd.{Passwd}
use Rattle.account_db.specs.Passwd.{entry_of, passwds_of}
use Rattle.module_acts.specs.declared.content.Content.{Content}
use Rattle.module_acts.specs.declared.content.Content.TheVariants as content
use Rattle.module_acts.specs.Accounts.{Account, Known, account_in, account_limit, account_or_missing, found, nothing_known, passwds_in}
use Rattle.module_acts.specs.Act.{Act, Stage, answers, asks_user, called, content_seen, holds_if, holds_lock, holds_unless, later, lets_go, passwds_by, reads_file, reads_if, reads_passwds, sees_moment, with_user}
use Rattle.module_acts.specs.Content.{content_of, is_rooted}
use Rattle.mod_tally.specs.declared.tally.Failure.{Failure}
use Rattle.mod_tally.specs.declared.settings.Task.{Task}
use Rattle.mod_tally.specs.declared.settings.Task.TheVariants.{Preauth, AuthFail, AuthSucc}
use Rattle.mod_tally.specs.Faillock.{task_for_account, task_or_code, task_on_file, denies_if_locked, unless_no_file, unless_spared, task_if_readable, task_on_failures, clears, does_task, failures_in, faillock_plays, given_mode, if_any, if_held, is_no_file, lock_name, locks_file, reads_tally, records, tally_limit, tally_name, tries_lock, unless_locked}
use Rattle.mod_tally.specs.Settings.{PlainSettings, settings_of, task_among}
use Rattle.mod_tally.specs.Tally.{failures_of, is_locked}
use Rattle.laws_lock.specs.Locked.{IsLocked}
use Rattle.laws_denial.specs.Kept_out.{HasMode}

-- ---- how it ends

pub record Refused (stage : Stage) (p : Played) : Type 0 where
  pub code_is : p.code ≡ returns.AuthErr
  pub room_is : p.room ≡ stage.room
  pub files_are : p.files ≡ stage.sight.files

abbrev on : Stage → Stage
on stage = record stage { sight = later stage.sight }

-- after one more call of `Vault`
once_more : (stage : Stage) (p : Played) → Refused (on stage) p → Refused stage (called p)
once_more stage p r = record { code_is = r.code_is; room_is = r.room_is; files_are = r.files_are }

refuses_at : (stage : Stage) → Refused stage (answers returns.AuthErr stage)
unfolding answers
refuses_at stage = record { code_is = refl; room_is = refl; files_are = refl }

abbrev Refuses : (Code → Act) → Type 0
Refuses act = (stage : Stage) → Refused stage (act returns.AuthErr stage)

lets_it_go : (held : Bool) (act : Code → Act) → Refuses act → Refuses (λ code. lets_go held (act code))
unfolding lets_go
lets_it_go held act refuses stage =
    let r = refuses stage in
    record { code_is = r.code_is; room_is = r.room_is; files_are = r.files_are }

-- ---- files that are read

read_whole : (failing : Bool) (limit : ℕ) (there : Option (List ℕ)) (text : List ℕ) → failing ≡ false → there ≡ Some text → length text ≤ limit
    → content_of failing limit there ≡ content.Holds text
unfolding content_of
read_whole true limit there text works is fits = absurd (true≢false works)
read_whole false limit None text works is fits = absurd cc
read_whole false limit (Some bytes) text works is fits =
    let same : bytes ≡ text = cc in
    rw (same, le-ltb limit (length text) fits) refl

rooted : (folder user : List ℕ) → is_rooted folder ≡ true → is_rooted (tally_name folder user) ≡ true
rooted [] user e = absurd (true≢false (sym e))
rooted (b ∷ bs) user e = rw e e

read_by : (r : Bool) (name : List ℕ) (limit : ℕ) (text : List ℕ) (act : Content → Act) (stage : Stage) → r ≡ true
    → content_seen name limit stage.sight ≡ content.Holds text
    → Refused (on stage) (act (content.Holds text) (on stage)) → Refused stage (reads_if r name limit act stage)
read_by false name limit text act stage is seen r = absurd (true≢false (sym is))
read_by true name limit text act stage is seen r =
    subst (λ (c : Content). Refused stage (called (act c (on stage)))) (sym seen) (once_more stage (act (content.Holds text) (on stage)) r)

module _ (s : PlainSettings) where
  abbrev LockedAt : Stage → List Failure → Type 0
  LockedAt stage failures = is_locked s.deny s.interval s.unlock stage.sight.clock.moment failures ≡ true

  -- the file has failures by which the user is locked
  record Tallied (file : List ℕ) (stage : Stage) : Type 0 where
    there : List ℕ
    there_is : file_at (path_of stage.sight.root file) stage.sight.files ≡ Some there
    fits : length there ≤ tally_limit
    failures : List Failure
    failures_are : failures_of there ≡ Some failures
    locked : LockedAt stage failures
    works : (n : ℕ) → stage.sight.failing n ≡ false

  still_tallied : (file : List ℕ) (stage : Stage) → Tallied file stage → Tallied file (on stage)
  still_tallied file stage t = record {
    there = t.there;
    there_is = t.there_is;
    fits = t.fits;
    failures = t.failures;
    failures_are = t.failures_are;
    locked = t.locked;
    works = λ n. t.works (suc n);
  }

  reads : (file : List ℕ) (act : Option (List Failure) → Act) (stage : Stage) (t : Tallied file stage) → is_rooted file ≡ true
      → Refused (on stage) (act (Some t.failures) (on stage)) → Refused stage (reads_tally file act stage)
  unfolding reads_file
  reads file act stage t root r =
      read_by (is_rooted file) file tally_limit t.there (λ c. act (failures_in c)) stage root
      (read_whole (stage.sight.failing 0) tally_limit (file_at (path_of stage.sight.root file) stage.sight.files) t.there (t.works 0) t.there_is t.fits)
      (subst (λ (o : Option (List Failure)). Refused (on stage) (act o (on stage))) (sym t.failures_are) r)

  -- ---- a user who is locked

  by_test : (b : Bool) (step : (Code → Act) → Act) (act : Code → Act) (stage : Stage) → b ≡ true → Refused stage (act returns.AuthErr stage)
      → Refused stage (denies_if_locked b step act stage)
  by_test true step act stage is r = r
  by_test false step act stage is r = absurd (true≢false (sym is))

  guarded : (failures : List Failure) (step : (Code → Act) → Act) (act : Code → Act) (stage : Stage) → LockedAt stage failures → Refuses act
      → Refused stage (unless_locked s failures step act stage)
  unfolding sees_moment
  guarded failures step act stage locked refuses =
      by_test (is_locked s.deny s.interval s.unlock stage.sight.clock.moment failures) step act stage locked (refuses stage)

  -- a task that is only done for a user who isn't locked
  abbrev Guards : Task → Type 0
  Guards task = (file lock : List ℕ) (failures : List Failure) (act : Code → Act) (stage : Stage) → LockedAt stage failures → Refuses act
      → Refused stage (task_on_failures task s file lock failures act stage)

  preauth_guards : Guards Preauth
  preauth_guards file lock failures act stage locked refuses = guarded failures (tries_lock lock) act stage locked refuses

  authfail_guards : Guards AuthFail
  authfail_guards file lock failures act stage locked refuses = guarded failures (records s file failures) act stage locked refuses

  authsucc_guards : Guards AuthSucc
  authsucc_guards file lock failures act stage locked refuses = guarded failures (clears file failures) act stage locked refuses

  filed : (task : Task) → Guards task → (file lock : List ℕ) (act : Code → Act) (stage : Stage) → is_rooted file ≡ true → Tallied file stage → Refuses act
      → Refused stage (task_on_file task s file lock act stage)
  filed task guards file lock act stage root t refuses =
      reads file (task_if_readable task s file lock act) stage t root (guards file lock t.failures act (on stage) t.locked refuses)

  held_unless : (fails : Bool) (path : List ℕ) (kind : LockKind) (act : Bool → Act) (stage : Stage) → fails ≡ false → Refused (on stage) (act true (on stage))
      → Refused stage (holds_unless fails path kind act stage)
  held_unless true path kind act stage is r = absurd (true≢false is)
  held_unless false path kind act stage is r = record { code_is = r.code_is; room_is = r.room_is; files_are = r.files_are }

  held_if : (root : Bool) (name : List ℕ) (kind : LockKind) (act : Bool → Act) (stage : Stage) → root ≡ true → stage.sight.failing 0 ≡ false
      → Refused (on stage) (act true (on stage))
      → Refused stage (holds_if root name kind act stage)
  held_if true name kind act stage is works r = held_unless (stage.sight.failing 0) (path_of stage.sight.root name) kind act stage works r
  held_if false name kind act stage is works r = absurd (true≢false (sym is))

  locked_file : (task : Task) → Guards task → (file lock : List ℕ) (act : Code → Act) (stage : Stage) → is_rooted file ≡ true → is_rooted lock ≡ true
      → Tallied file stage → Refuses act
      → Refused stage (locks_file task s file lock act stage)
  unfolding holds_lock
  locked_file task guards file lock act stage root lock_root t refuses =
      held_if (is_rooted lock) lock Whole (if_held task s file lock act) stage lock_root (t.works 0)
      (filed task guards file lock (λ code. lets_go (is_rooted lock) (act code)) (on stage) root (still_tallied file stage t)
      (lets_it_go (is_rooted lock) act refuses))

  -- ---- the three tasks

  abbrev Does : Task → Type 0
  Does task =
      (file lock : List ℕ) (stage : Stage) → is_rooted file ≡ true → is_rooted lock ≡ true → Tallied file stage → Refused stage
      (does_task task s file lock answers stage)

  preauth : Does Preauth
  preauth file lock stage root lock_root t = filed Preauth preauth_guards file lock answers stage root t refuses_at

  authfail : Does AuthFail
  authfail file lock stage root lock_root t = locked_file AuthFail authfail_guards file lock answers stage root lock_root t refuses_at

  some_there : (failures : List Failure) (file lock : List ℕ) (stage : Stage) → LockedAt stage failures → is_rooted file ≡ true → is_rooted lock ≡ true
      → Tallied file stage
      → Refused stage (if_any AuthSucc s file lock answers (Some failures) stage)
  some_there [] file lock stage locked root lock_root t = absurd (true≢false (sym locked))
  some_there (f ∷ fs) file lock stage locked root lock_root t = locked_file AuthSucc authsucc_guards file lock answers stage root lock_root t refuses_at

  authsucc : Does AuthSucc
  authsucc file lock stage root lock_root t =
      reads file (if_any AuthSucc s file lock answers) stage t root
      (some_there t.failures file lock (on stage) t.locked root lock_root (still_tallied file stage t))

  -- ---- the user

  module _ (user : List ℕ) (task : Task) (does : Does task) where
    unspared : (b : Bool) (stage : Stage) → b ≡ false → is_rooted s.folder ≡ true → Tallied (tally_name s.folder user) stage
        → Refused stage (unless_spared b task s user stage)
    unspared true stage is folder t = absurd (true≢false is)
    unspared false stage is folder t =
        does (tally_name s.folder user) (lock_name s.folder user) stage (rooted s.folder user folder) (rooted s.folder _ folder) t

    found_so : (entries : List Passwd) (entry : Passwd) (text : List ℕ) → passwds_of text ≡ Ok entries → entry_of user entries ≡ Some entry
        → account_in user (passwds_in (content.Holds text)) ≡ found entry
    found_so entries entry text are there =
        ap (λ (r : Result (List Passwd) DbFault). account_in user (result_ok r)) are ∙ ap account_or_missing there

    tallied_in : (stage : Stage) → IsLocked s stage.sight user → Tallied (tally_name s.folder user) stage
    tallied_in stage l = record {
      there = l.tally;
      there_is = l.tally_is;
      fits = l.tally_fits;
      failures = l.failures;
      failures_are = l.failures_are;
      locked = l.locked;
      works = l.none_fails;
    }

    named : (b : Bool) (stage : Stage) → b ≡ false → stage.known ≡ nothing_known → IsLocked s stage.sight user → Refused stage (unless_no_file b task s user stage)
    unfolding reads_passwds
    named true stage is known l = absurd (true≢false is)
    named false stage is known l =
        let text = content_seen (codes "/etc/passwd") account_limit stage.sight in
        let next : Stage = record stage { known = record stage.known { passwds = Some (passwds_in text) }; sight = later stage.sight } in
        let seen : text ≡ content.Holds l.passwd =
        read_whole (stage.sight.failing 0) account_limit (file_at (path_of stage.sight.root (codes "/etc/passwd")) stage.sight.files) l.passwd (l.none_fails 0)
        l.passwd_is l.passwd_fits in
        let account : account_in user (passwds_in text) ≡ found l.entry =
        ap (λ (c : Content). account_in user (passwds_in c)) seen ∙ found_so l.entries l.entry l.passwd l.entries_are l.entry_is in
        let t : Tallied (tally_name s.folder user) next =
        still_tallied (tally_name s.folder user) (record stage { known = next.known }) (tallied_in (record stage { known = next.known }) l) in
        let r : Refused next (unless_spared (l.entry.uid == 0 && not s.locks_root) task s user next) =
        unspared (l.entry.uid == 0 && not s.locks_root) next l.lockable l.folder t in
        let found_one : Refused stage (called (task_for_account task s user (found l.entry) next)) =
        record { code_is = r.code_is; room_is = r.room_is; files_are = r.files_are } in
        subst (λ (k : Known). Refused stage (passwds_by k.passwds (λ es. task_for_account task s user (account_in user es)) stage)) (sym known)
        (subst (λ (a : Account). Refused stage (called (task_for_account task s user a next))) (sym account) found_one)

    asked : (there : Option (List ℕ)) (stage : Stage) → there ≡ Some user → stage.room.items.user ≡ Some user → stage.known ≡ nothing_known
        → IsLocked s stage.sight user
        → Refused stage (with_user (user_or_ask there stage.room) (λ u. unless_no_file (is_no_file u) task s u) stage)
    asked None stage is set known l = absurd cc
    asked (Some u) stage is set known l =
        let who : unwrap_or stage.room.items.user [] ≡ user = ap (λ (o : Option (List ℕ)). unwrap_or o []) set in
        subst (λ (x : List ℕ). Refused stage (unless_no_file (is_no_file x) task s x stage)) (sym who) (named (is_no_file user) stage l.named known l)

    checked : (stage : Stage) → stage.room.items.user ≡ Some user → stage.known ≡ nothing_known → IsLocked s stage.sight user
        → Refused stage (task_or_code (Ok task) s stage)
    unfolding asks_user
    checked stage set known l = asked stage.room.items.user stage set set known l

-- ---- a line with one of the three modes

by_mode : (s : PlainSettings) (user : List ℕ) (task : Task) (mode : Option Task) → Does s task → mode ≡ Some task → (stage : Stage)
    → stage.room.items.user ≡ Some user
    → stage.known ≡ nothing_known → IsLocked s stage.sight user → Refused stage (task_or_code (given_mode mode) s stage)
by_mode s user task mode does is stage set known l =
    subst (λ (o : Option Task). Refused stage (task_or_code (given_mode o) s stage)) (sym is) (checked s user task does stage set known l)

by_modes : (s : PlainSettings) (user : List ℕ) (args : List (List ℕ)) → HasMode args → (stage : Stage) → stage.room.items.user ≡ Some user
    → stage.known ≡ nothing_known → IsLocked s stage.sight user → Refused stage (task_or_code (given_mode (task_among args)) s stage)
by_modes s user args (inl is) stage set known l = by_mode s user Preauth (task_among args) (preauth s) is stage set known l
by_modes s user args (inr (inl is)) stage set known l = by_mode s user AuthFail (task_among args) (authfail s) is stage set known l
by_modes s user args (inr (inr is)) stage set known l = by_mode s user AuthSucc (task_among args) (authsucc s) is stage set known l

pub locked_is_refused : (flags : ℕ) (args : List (List ℕ)) (room : SeenRoom) (held : List NamedData) (sight : Sight) (user : List ℕ) → HasMode args
    → room.items.user ≡ Some user
    → IsLocked (settings_of args) sight user
    → Refused (record { room = room; held = held; known = nothing_known; sight = sight })
    (faillock_plays (record { func = Authenticate; flags = flags; args = args }) room held sight)
locked_is_refused flags args room held sight user mode set l =
    by_modes (settings_of args) user args mode (record { room = room; held = held; known = nothing_known; sight = sight }) set refl l
