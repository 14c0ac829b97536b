-- Authenticate of pam_faillock with `authfail` records a failure that can be recorded.
use Rattle.std.proofs.Common.{◌≡◌, ℕ, suc, ◌≤◌, Bool, true, false, true≢false, if◌then◌else◌, not, ◌==◌, ◌&&◌, ◌||◌, nat_le, nat_lt, List}
use Rattle.std.proofs.Common.{[], ◌∷◌, ◌++◌, length, Option, Some, None, codes, unwrap_or, refl, sym, ap, ◌∙◌, subst, arith}
use Rattle.std.specs.Str.{bytes_eq}
use Rattle.std.proofs.lemmas.Bool.{le-leb, le-ltb}
use Rattle.std.proofs.lemmas.Slice.Eq.{bytes_eq-Decides}
use Rattle.pam_base.specs.declared.call.Func.{Func}
use Rattle.pam_base.specs.declared.code.Code.{Code}
use Rattle.pam_base.specs.declared.code.Code.TheVariants as returns
use Rattle.pam_outside.specs.declared.held.LockKind.TheVariants.{Whole}
use Rattle.pam_outside.specs.declared.vault.TheConstants.{MAX_FILE}
use Rattle.pam_outside.specs.Files.{File, file_at, file_put}
use Rattle.pam_outside.specs.Paths.{path_of}
use Rattle.pam_room.specs.Module.{Played, SeenRoom}
use Rattle.pam_room.specs.Say.{user_or_ask}
use Rattle.module_acts.specs.declared.content.Content.{Content}
use Rattle.module_acts.specs.declared.content.Content.TheVariants as content
use Rattle.module_acts.specs.Accounts.{Account, Known, account_in, account_limit, found, nothing_known, passwds_in}
use Rattle.module_acts.specs.Act.{Act, Stage, answers, asks_user, called, content_seen, holds_if, holds_lock, holds_unless, later, lets_go}
use Rattle.module_acts.specs.Act.{passwds_by, reads_file, reads_if, reads_passwds, replaced, replaces_file, sees_items, sees_moment}
use Rattle.module_acts.specs.Act.{with_user}
use Rattle.module_acts.specs.Content.{content_of, is_rooted}
use Rattle.mod_tally.specs.declared.settings.Task.{Task}
use Rattle.mod_tally.specs.declared.settings.Task.TheVariants.{AuthFail}
use Rattle.mod_tally.specs.declared.tally.Failure.{Failure}
use Rattle.mod_tally.specs.Faillock.{denies_if_locked, failures_in, given_mode, if_held, is_no_file, lock_name, locks_file, records}
use Rattle.mod_tally.specs.Faillock.{sets_if, tally_limit, tally_name, task_for_account, task_if_readable, task_of, task_on_file}
use Rattle.mod_tally.specs.Faillock.{task_or_code, unless_no_file, unless_spared, write_result}
use Rattle.mod_tally.specs.Recorded.{failures_on_file}
use Rattle.mod_tally.specs.Settings.{PlainSettings, settings_of, task_among, task_word}
use Rattle.mod_tally.specs.Tally.{failures_of, is_locked}
use Rattle.laws_lock.specs.Failed.{FitsTally, IsCounted}
use Rattle.laws_lock.specs.Usual.{AuthfailRecords, CanRecord, HasRecorded, one_more}
use Rattle.laws_lock.proofs.LockedUserFacts.{found_so, read_whole, rooted}

-- ---- the file after it was replaced

put_step : (b : Bool) (path bytes : List ℕ) (f : File) (fs : List File) → bytes_eq f.path path ≡ b → file_at path (file_put path bytes fs) ≡ Some bytes
    → file_at path (if b then record { path = path; bytes = bytes } ∷ fs else f ∷ file_put path bytes fs) ≡ Some bytes
put_step true path bytes f fs is rest = rw ((bytes_eq-Decides path path).1 refl) refl
put_step false path bytes f fs is rest = rw is rest

put_there : (path bytes : List ℕ) (fs : List File) → file_at path (file_put path bytes fs) ≡ Some bytes
put_there path bytes [] = rw ((bytes_eq-Decides path path).1 refl) refl
put_there path bytes (f ∷ fs) = put_step (bytes_eq f.path path) path bytes f fs refl (put_there path bytes fs)

-- ---- what is read

tally_read : (limit : ℕ) (there : Option (List ℕ)) (failures : List Failure) → failures_on_file there ≡ Some failures
    → ((text : List ℕ) → there ≡ Some text → length text ≤ limit) → failures_in (content_of false limit there) ≡ Some failures
unfolding content_of
tally_read limit None failures is fits = is
tally_read limit (Some text) failures is fits = rw (le-ltb limit (length text) (fits text refl)) is

module _ (s : PlainSettings) (user : List ℕ) (failures : List Failure) where
  abbrev name : List ℕ
  name = tally_name s.folder user

  abbrev lock : List ℕ
  lock = lock_name s.folder user

  abbrev path_at : Stage → List ℕ
  path_at stage = path_of stage.sight.root name

  abbrev text_at : Stage → List ℕ
  text_at stage = one_more s stage.sight.clock.moment stage.room.items failures

  abbrev Recorded : Stage → Played → Type 0
  Recorded stage p = HasRecorded (path_at stage) (text_at stage) stage.room p

  -- what the code is followed by: the lock is let go
  abbrev ends : Code → Act
  ends code = lets_go (is_rooted lock) (answers code)

  -- nothing keeps it from being written
  record Can (stage : Stage) : Type 0 where
    folder : is_rooted s.folder ≡ true
    none_fails : (n : ℕ) → stage.sight.failing n ≡ false
    on_file : failures_on_file (file_at (path_at stage) stage.sight.files) ≡ Some failures
    fits : FitsTally (file_at (path_at stage) stage.sight.files)
    unlocked : is_locked s.deny s.interval s.unlock stage.sight.clock.moment failures ≡ false
    has_room : length (text_at stage) ≤ tally_limit

  abbrev on : Stage → Stage
  on stage = record stage { sight = later stage.sight }

  later_can : (stage : Stage) → Can stage → Can (on stage)
  later_can stage c = record {
    folder = c.folder;
    none_fails = λ n. c.none_fails (suc n);
    on_file = c.on_file;
    fits = c.fits;
    unlocked = c.unlocked;
    has_room = c.has_room;
  }

  more : (stage : Stage) (p : Played) → Recorded stage p → Recorded stage (called p)
  more stage p r = record { code_is = r.code_is; file_is = r.file_is; room_is = r.room_is }

  put : (fails : Bool) (stage : Stage) → fails ≡ false
      → Recorded stage (ends (write_result returns.Ignore (not fails)) (record stage { sight = replaced fails (path_at stage) (text_at stage) stage.sight }))
  unfolding lets_go answers
  put true stage is = absurd (true≢false is)
  put false stage is = record { code_is = refl; file_is = put_there (path_at stage) (text_at stage) stage.sight.files; room_is = refl }

  written : (b : Bool) (stage : Stage) → b ≡ true → Can stage → Recorded stage (sets_if b name (text_at stage) returns.Ignore ends stage)
  unfolding replaces_file
  written false stage is c = absurd (true≢false (sym is))
  written true stage is c =
      let short : nat_lt MAX_FILE (length (text_at stage)) ≡ false = le-ltb MAX_FILE (length (text_at stage)) (within (length (text_at stage)) c.has_room) in
      let fails : (stage.sight.failing 0 || nat_lt MAX_FILE (length (text_at stage))) ≡ false = rw (c.none_fails 0, short) refl in
      more stage (ends (write_result returns.Ignore (not (stage.sight.failing 0 || nat_lt MAX_FILE (length (text_at stage)))))
      (record stage { sight = replaced (stage.sight.failing 0 || nat_lt MAX_FILE (length (text_at stage))) (path_at stage) (text_at stage) stage.sight }))
      (put (stage.sight.failing 0 || nat_lt MAX_FILE (length (text_at stage))) stage fails)
    where
      within : (n : ℕ) → n ≤ 65536 → n ≤ 1048576
      within n le = omega (arith, le)

  recorded : (stage : Stage) → Can stage → Recorded stage (records s name failures ends stage)
  unfolding sees_moment sees_items
  recorded stage c =
      let ok : (is_rooted name && nat_le (length (text_at stage)) tally_limit) ≡ true =
      rw (rooted s.folder user c.folder, le-leb (length (text_at stage)) tally_limit c.has_room) refl in
      written (is_rooted name && nat_le (length (text_at stage)) tally_limit) stage ok c

  unless_locked_now : (b : Bool) (stage : Stage) → b ≡ false → Can stage → Recorded stage (denies_if_locked b (records s name failures) ends stage)
  unless_locked_now true stage is c = absurd (true≢false is)
  unless_locked_now false stage is c = recorded stage c

  tallied : (there : Option (List Failure)) (stage : Stage) → there ≡ Some failures → Can stage
      → Recorded stage (task_if_readable AuthFail s name lock ends there stage)
  unfolding sees_moment
  tallied there stage is c =
      subst (λ (f : Option (List Failure)). Recorded stage (task_if_readable AuthFail s name lock ends f stage)) (sym is)
      (unless_locked_now (is_locked s.deny s.interval s.unlock stage.sight.clock.moment failures) stage c.unlocked c)

  filed : (b : Bool) (stage : Stage) → b ≡ true → Can stage
      → Recorded stage (reads_if b name tally_limit (λ c. task_if_readable AuthFail s name lock ends (failures_in c)) stage)
  filed false stage is c = absurd (true≢false (sym is))
  filed true stage is c =
      let here = file_at (path_at stage) stage.sight.files in
      let seen : failures_in (content_of (stage.sight.failing 0) tally_limit here) ≡ Some failures =
      ap (λ (f : Bool). failures_in (content_of f tally_limit here)) (c.none_fails 0) ∙ tally_read tally_limit here failures c.on_file c.fits in
      more stage (task_if_readable AuthFail s name lock ends (failures_in (content_seen name tally_limit stage.sight)) (on stage))
      (tallied (failures_in (content_seen name tally_limit stage.sight)) (on stage) seen (later_can stage c))

  held : (stage : Stage) → Can stage → Recorded stage (task_on_file AuthFail s name lock ends stage)
  unfolding reads_file
  held stage c = filed (is_rooted name) stage (rooted s.folder user c.folder) c

  lock_taken : (b : Bool) (stage : Stage) → b ≡ false → Can stage
      → Recorded stage (holds_unless b (path_of stage.sight.root lock) Whole (if_held AuthFail s name lock answers) stage)
  lock_taken true stage is c = absurd (true≢false is)
  lock_taken false stage is c =
      let r = held (on stage) (later_can stage c) in
      record { code_is = r.code_is; file_is = r.file_is; room_is = r.room_is }

  locked : (b : Bool) (stage : Stage) → b ≡ true → Can stage → Recorded stage (holds_if b lock Whole (if_held AuthFail s name lock answers) stage)
  locked false stage is c = absurd (true≢false (sym is))
  locked true stage is c = lock_taken (stage.sight.failing 0) stage (c.none_fails 0) c

  done : (stage : Stage) → Can stage → Recorded stage (locks_file AuthFail s name lock answers stage)
  unfolding holds_lock
  done stage c = locked (is_rooted lock) stage (rooted s.folder (46 ∷ (user ++ codes ":pamsess-lock")) c.folder) c

  unspared : (b : Bool) (stage : Stage) → b ≡ false → Can stage → Recorded stage (unless_spared b AuthFail s user stage)
  unspared true stage is c = absurd (true≢false is)
  unspared false stage is c = done stage c

  -- the stage at which passwd was read
  abbrev after_passwd : Stage → Stage
  after_passwd stage =
      let found_there = passwds_in (content_seen (codes "/etc/passwd") account_limit stage.sight) in
      record stage { known = record stage.known { passwds = Some found_there }; sight = later stage.sight }

  after_can : (stage : Stage) → Can stage → Can (after_passwd stage)
  after_can stage c = record {
    folder = c.folder;
    none_fails = λ n. c.none_fails (suc n);
    on_file = c.on_file;
    fits = c.fits;
    unlocked = c.unlocked;
    has_room = c.has_room;
  }

  named : (b : Bool) (stage : Stage) → b ≡ false → stage.known ≡ nothing_known → IsCounted s stage.sight user → Can stage
      → Recorded stage (unless_no_file b AuthFail s user stage)
  unfolding reads_passwds
  named true stage is known i c = absurd (true≢false is)
  named false stage is known i c =
      let text = content_seen (codes "/etc/passwd") account_limit stage.sight in
      let next : Stage = after_passwd stage in
      let seen : text ≡ content.Holds i.passwd =
      read_whole (stage.sight.failing 0) account_limit (file_at (path_of stage.sight.root (codes "/etc/passwd")) stage.sight.files) i.passwd (i.none_fails 0)
      i.passwd_is i.passwd_fits in
      let there : account_in user (passwds_in text) ≡ found i.entry = found_so s user i.entries i.entry i.passwd text seen i.entries_are i.entry_is in
      let r = unspared (i.entry.uid == 0 && not s.locks_root) next i.lockable (after_can stage c) in
      let by_found : Recorded stage (called (task_for_account AuthFail s user (account_in user (passwds_in text)) next)) =
      subst (λ (a : Account). Recorded stage (called (task_for_account AuthFail s user a next))) (sym there)
      (record { code_is = r.code_is; file_is = r.file_is; room_is = r.room_is }) in
      subst (λ (k : Known). Recorded stage (passwds_by k.passwds (λ es. task_for_account AuthFail s user (account_in user es)) stage)) (sym known) by_found

  asked : (set : Option (List ℕ)) (stage : Stage) → set ≡ Some user → stage.room.items.user ≡ Some user → stage.known ≡ nothing_known
      → IsCounted s stage.sight user → Can stage
      → Recorded stage (with_user (user_or_ask set stage.room) (λ u. unless_no_file (is_no_file u) AuthFail s u) stage)
  asked None stage is there known i c = absurd cc
  asked (Some u) stage is there known i c =
      let who : unwrap_or stage.room.items.user [] ≡ user = ap (λ (o : Option (List ℕ)). unwrap_or o []) there in
      subst (λ (x : List ℕ). Recorded stage (unless_no_file (is_no_file x) AuthFail s x stage)) (sym who) (named (is_no_file user) stage i.named known i c)

  by_mode : (stage : Stage) → stage.room.items.user ≡ Some user → stage.known ≡ nothing_known → IsCounted s stage.sight user → Can stage
      → Recorded stage (task_or_code (given_mode (task_word (codes "authfail"))) s stage)
  unfolding asks_user
  by_mode stage is known i c = asked stage.room.items.user stage is is known i c

pub authfail_records : AuthfailRecords
authfail_records call room held sight user failures func mode is can =
    let stage : Stage = record { room = room; held = held; known = nothing_known; sight = sight } in
    let s = settings_of call.args in
    let c : Can s user failures stage = record {
      folder = can.counted.folder;
      none_fails = can.counted.none_fails;
      on_file = can.on_file;
      fits = can.fits;
      unlocked = can.unlocked;
      has_room = can.has_room;
    } in
    let R : Played → Type 0 = λ p. HasRecorded (path_of sight.root (tally_name s.folder user)) (one_more s sight.clock.moment room.items failures) room p in
    subst (λ (f : Func). R (task_or_code (task_of f (task_among call.args)) s stage)) (sym func)
    (subst (λ (m : Option Task). R (task_or_code (given_mode m) s stage)) (sym mode) (by_mode s user failures stage is refl can.counted c))
