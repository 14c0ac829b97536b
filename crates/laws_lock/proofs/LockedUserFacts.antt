-- Authenticate of pam_faillock for a user who is locked.
use Rattle.std.proofs.Common.{◌≡◌, ℕ, ◌≤◌, Bool, true, false, true≢false, ◌==◌, ◌&&◌, not, List, [], ◌∷◌, length, Option, Some, None}
use Rattle.std.proofs.Common.{Result, Ok, codes, unwrap_or, refl, sym, ap, ◌∙◌}
use Rattle.std.proofs.lemmas.Bool.{le-ltb}
use Rattle.pam_base.specs.declared.call.Func.{Func}
use Rattle.pam_base.specs.declared.code.Code.{Code}
use Rattle.pam_base.specs.declared.code.Code.TheVariants as returns
use Rattle.pam_outside.specs.Files.{file_at}
use Rattle.pam_outside.specs.Paths.{path_of}
use Rattle.pam_room.specs.Module.{answered}
use Rattle.pam_room.specs.Say.{user_or_ask}
use Rattle.std.specs.Result.{result_ok}
use Rattle.account_db.specs.declared.fault.DbFault.{DbFault}
use Rattle.account_db.specs.declared.passwd.Passwd.{Passwd}
use Rattle.account_db.specs.Passwd.{entry_of, passwds_of}
use Rattle.module_acts.specs.declared.content.Content.{Content}
use Rattle.module_acts.specs.declared.content.Content.TheVariants as content
use Rattle.module_acts.specs.Accounts.{Account, Known, found, account_in, account_limit, account_or_missing, nothing_known, passwds_in}
use Rattle.module_acts.specs.Act.{Act, Stage, answers, asks_user, called, content_seen, later, passwds_by, reads_file, reads_if}
use Rattle.module_acts.specs.Act.{reads_passwds, sees_moment, with_user}
use Rattle.module_acts.specs.Content.{content_of, is_rooted}
use Rattle.mod_tally.specs.declared.tally.Failure.{Failure}
use Rattle.mod_tally.specs.Faillock.{task_for_account, task_or_code, task_on_file, denies_if_locked, unless_no_file, unless_spared}
use Rattle.mod_tally.specs.Faillock.{task_if_readable, task_on_failures, does_task, failures_in, given_mode, is_no_file, lock_name}
use Rattle.mod_tally.specs.Faillock.{tally_limit, tally_name, task_of, tries_lock}
use Rattle.mod_tally.specs.Settings.{PlainSettings, settings_of, task_among, task_word}
use Rattle.mod_tally.specs.Tally.{failures_of, is_locked}
use Rattle.laws_lock.specs.Locked.{IsLocked, LockedIsRefused}

pub read_whole : (failing : Bool) (limit : ℕ) (there : Option (List ℕ)) (text : List ℕ) → failing ≡ false → there ≡ Some text → length text ≤ limit
    → content_of failing limit there ≡ content.Holds text
unfolding content_of
read_whole true limit there text works is fits = absurd (true≢false works)
read_whole false limit None text works is fits = absurd cc
read_whole false limit (Some bytes) text works is fits =
    let same : bytes ≡ text = cc in
    rw (same, le-ltb limit (length text) fits) refl

pub rooted : (folder user : List ℕ) → is_rooted folder ≡ true → is_rooted (tally_name folder user) ≡ true
rooted [] user e = absurd (true≢false (sym e))
rooted (b ∷ bs) user e = rw e e

refused : (b : Bool) (step : (Code → Act) → Act) (stage : Stage) → b ≡ true
    → denies_if_locked b step answers stage ≡ answered returns.AuthErr stage.room stage.sight
unfolding answers
refused true step stage e = refl
refused false step stage e = absurd (true≢false (sym e))

read_tally : (act : Option (List Failure) → Act) (r : Bool) (name tally : List ℕ) (failures : List Failure) (stage : Stage) → r ≡ true
    → content_seen name tally_limit stage.sight ≡ content.Holds tally
    → failures_of tally ≡ Some failures → act (Some failures) (record stage { sight = later stage.sight }) ≡ answered returns.AuthErr stage.room stage.sight
    → reads_if r name tally_limit (λ c. act (failures_in c)) stage ≡ called (answered returns.AuthErr stage.room stage.sight)
read_tally act false name tally failures stage is seen are does = absurd (true≢false (sym is))
read_tally act true name tally failures stage is seen are does =
    let next : Stage = record stage { sight = later stage.sight } in
    ap (λ (c : Content). called (act (failures_in c) next)) seen ∙ ap (λ (o : Option (List Failure)). called (act o next)) are ∙ ap called does

module _ (s : PlainSettings) where
  abbrev LockedAt : Stage → List Failure → Type 0
  LockedAt stage failures = is_locked s.deny s.interval s.unlock stage.sight.clock.moment failures ≡ true

  -- a mode in which a user who is locked is refused
  abbrev Locks : (List ℕ → List ℕ → List Failure → (Code → Act) → Act) → Type 0
  Locks does = (file lock : List ℕ) (failures : List Failure) (stage : Stage) → LockedAt stage failures
      → does file lock failures answers stage ≡ answered returns.AuthErr stage.room stage.sight

  -- a mode in which the file is read first, without a lock
  abbrev ReadsFirst : (List ℕ → List ℕ → (Code → Act) → Act) → (List ℕ → List ℕ → (Code → Act) → Act) → Type 0
  ReadsFirst does reads = (file lock : List ℕ) (stage : Stage) → does file lock answers stage ≡ reads file lock answers stage

  module _ (user : List ℕ) where
    unspared : (task : _) → Locks (task_on_failures task s) → ReadsFirst (does_task task s) (task_on_file task s)
        → (b : Bool) (tally : List ℕ) (failures : List Failure) (stage : Stage) → b ≡ false → is_rooted s.folder ≡ true
        → content_seen (tally_name s.folder user) tally_limit stage.sight ≡ content.Holds tally
        → failures_of tally ≡ Some failures → LockedAt stage failures → unless_spared b task s user stage
        ≡ called (answered returns.AuthErr stage.room stage.sight)
    unfolding reads_file
    unspared task locks first true tally failures stage is folder seen are locked = absurd (true≢false is)
    unspared task locks first false tally failures stage is folder seen are locked =
        let file = tally_name s.folder user in
        let lock = lock_name s.folder user in
        first file lock stage
        ∙ read_tally (task_if_readable task s file lock answers) (is_rooted file) file tally failures stage (rooted s.folder user folder) seen are
        (locks file lock failures (record stage { sight = later stage.sight }) locked)

    pub found_so : (entries : List Passwd) (entry : Passwd) (text : List ℕ) (c : Content) → c ≡ content.Holds text → passwds_of text ≡ Ok entries
        → entry_of user entries ≡ Some entry → account_in user (passwds_in c) ≡ found entry
    found_so entries entry text c is are there =
        ap (λ (x : Content). account_in user (passwds_in x)) is ∙ ap (λ (r : Result (List Passwd) DbFault). account_in user (result_ok r)) are
        ∙ ap account_or_missing there

    named_so : (task : _) → Locks (task_on_failures task s) → ReadsFirst (does_task task s) (task_on_file task s) → (b : Bool) (stage : Stage) → b ≡ false
        → stage.known ≡ nothing_known → IsLocked s stage.sight user → unless_no_file b task s user stage
        ≡ called (called (answered returns.AuthErr stage.room stage.sight))
    unfolding reads_passwds
    named_so task locks first true stage is known l = absurd (true≢false is)
    named_so task locks first false stage is known l =
        let text = content_seen (codes "/etc/passwd") account_limit stage.sight in
        let entries = passwds_in text in
        let next : Stage = record stage { known = record stage.known { passwds = Some entries }; sight = later stage.sight } in
        let passwd_seen : text ≡ content.Holds l.passwd =
        read_whole (stage.sight.failing 0) account_limit (file_at (path_of stage.sight.root (codes "/etc/passwd")) stage.sight.files) l.passwd (l.none_fails 0)
        l.passwd_is l.passwd_fits in
        let tally_seen : content_seen (tally_name s.folder user) tally_limit next.sight ≡ content.Holds l.tally =
        read_whole (stage.sight.failing 1) tally_limit (file_at (path_of stage.sight.root (tally_name s.folder user)) stage.sight.files) l.tally
        (l.none_fails 1) l.tally_is l.tally_fits in
        ap (λ (k : Known). passwds_by k.passwds (λ es. task_for_account task s user (account_in user es)) stage) known
        ∙ ap (λ (a : Account). called (task_for_account task s user a next)) (found_so l.entries l.entry l.passwd text passwd_seen l.entries_are l.entry_is)
        ∙ ap called (unspared task locks first (l.entry.uid == 0 && not s.locks_root) l.tally l.failures next l.lockable l.folder tally_seen
        l.failures_are l.locked)

    asked : (task : _) → Locks (task_on_failures task s) → ReadsFirst (does_task task s) (task_on_file task s) → (known_user : Option (List ℕ)) (stage : Stage)
        → known_user ≡ Some user → stage.room.items.user ≡ Some user → stage.known ≡ nothing_known → IsLocked s stage.sight user
        → with_user (user_or_ask known_user stage.room) (λ u. unless_no_file (is_no_file u) task s u) stage
        ≡ called (called (answered returns.AuthErr stage.room stage.sight))
    asked task locks first None stage is there known l = absurd cc
    asked task locks first (Some u) stage is there known l =
        let who : unwrap_or stage.room.items.user [] ≡ user = ap (λ (o : Option (List ℕ)). unwrap_or o []) there in
        ap (λ (x : List ℕ). unless_no_file (is_no_file x) task s x stage) who ∙ named_so task locks first (is_no_file user) stage l.named known l

asked_task : (s : PlainSettings) (user : List ℕ) (stage : Stage) → stage.room.items.user ≡ Some user → stage.known ≡ nothing_known → IsLocked s stage.sight user
    → task_or_code (given_mode (task_word (codes "preauth"))) s stage ≡ called (called (answered returns.AuthErr stage.room stage.sight))
unfolding asks_user sees_moment
asked_task s user stage is known l =
    asked s user _ (λ file lock failures at locked. refused (is_locked s.deny s.interval s.unlock at.sight.clock.moment failures) (tries_lock lock) at locked)
    (λ file lock at. refl) stage.room.items.user stage is is known l

pub locked_is_refused : LockedIsRefused
locked_is_refused call room held sight user func mode is l =
    let stage : Stage = record { room = room; held = held; known = nothing_known; sight = sight } in
    let s = settings_of call.args in
    ap (λ (f : Func). task_or_code (task_of f (task_among call.args)) s stage) func
    ∙ ap (λ m. task_or_code (given_mode m) s stage) mode
    ∙ asked_task s user stage is refl l
