-- Calls of pam_faillock over other files that agree for the user.
use Rattle.std.proofs.Common.{◌≡◌, ◌≢◌, ℕ, Bool, true, false, not, cond, ◌==◌, ◌&&◌, ◌||◌, nat_le, nat_lt, length, List, [], ◌∷◌, Option, Some, None, Result, Ok, Err, codes, unwrap_or, refl, sym, ap, ◌∙◌, subst}
use Rattle.std.specs.Str.{bytes_eq}
use Rattle.std.proofs.lemmas.Slice.Eq.{bytes_eq-Decides}
use Rattle.pam_base.specs.declared.code.Code.{Code}
use Rattle.pam_base.specs.declared.code.Code.TheVariants as returns
use Rattle.pam_outside.specs.declared.held.LockKind.{LockKind}
use Rattle.pam_outside.specs.declared.held.LockKind.TheVariants.{Whole}
use Rattle.pam_outside.specs.declared.vault.TheConstants.{MAX_FILE}
use Rattle.pam_outside.specs.Files.{File, file_at, file_put}
use Rattle.pam_outside.specs.Paths.{path_of}
use Rattle.pam_room.specs.item_store.specs.Items.{ItemTexts}
use Rattle.pam_room.specs.Module.{Played, answered}
use Rattle.pam_room.specs.Say.{AfterPrompt, user_asked}
use Rattle.account_db.specs.declared.passwd.Passwd.{Passwd}
use Rattle.module_acts.specs.declared.content.Content.{Content}
use Rattle.module_acts.specs.Content.{content_of, is_rooted}
use Rattle.module_acts.specs.Accounts.{Account, account_in, account_limit, found, missing, nothing_known, passwds_in, unreadable}
use Rattle.module_acts.specs.Act.{Act, Stage, answers, asks_user, called, content_seen, finds_account, holds_if, holds_lock, after_letting_go, holds_unless, in_room, later, lets_go, passwds_by, reads_file, reads_if, reads_passwds, replaced, replaces_file, sees_items, sees_moment, took}
use Rattle.mod_tally.specs.declared.settings.Task.{Task}
use Rattle.mod_tally.specs.declared.settings.Task.TheVariants.{Preauth, AuthFail, AuthSucc, Clear}
use Rattle.mod_tally.specs.declared.tally.Failure.{Failure}
use Rattle.mod_tally.specs.Faillock.{task_for_account, task_or_code, task_on_file, denies_if_locked, unless_no_file, unless_spared, task_if_readable, task_on_failures, clears, does_task, failures_in, if_any, if_held, if_taken, is_no_file, lock_name, locks_file, reads_tally, records, sets_if, spared_answer, tally_limit, tally_name, task_of, tries_lock, unless_locked, write_result}
use Rattle.mod_tally.specs.Settings.{PlainSettings, settings_of, task_among}
use Rattle.mod_tally.specs.Tally.{is_locked, tally_text}
use Rattle.laws_module.specs.Others.{apart}
use Rattle.laws_module.specs.Tallies.{OtherFilesStay, OtherTalliesDontMatter}

-- ---- a file that is set

module _ (path bytes at : List ℕ) (f : File) where
  put_first : (fs : List File) (t : Bool) → bytes_eq path at ≡ t → bytes_eq f.path at ≡ bytes_eq path at
      → cond (bytes_eq path at) (Some bytes) (file_at at fs) ≡ cond (bytes_eq path at) (Some bytes) (cond (bytes_eq f.path at) (Some f.bytes) (file_at at fs))
  put_first fs true is equal = rw is refl
  put_first fs false is equal = rw (is, equal ∙ is) refl

  own : (t : Bool) → bytes_eq path at ≡ t → bytes_eq f.path path ≡ false → bytes_eq f.path at ≡ true
      → Some f.bytes ≡ cond (bytes_eq path at) (Some bytes) (Some f.bytes)
  own false at_path other is = rw at_path refl
  own true at_path other is =
      let equal : f.path ≡ path = (bytes_eq-Decides f.path at).0 is ∙ sym ((bytes_eq-Decides path at).0 at_path) in
      absurd (let both : true ≡ false = sym ((bytes_eq-Decides f.path path).1 equal) ∙ other in cc)

  put_later : (there before : Option (List ℕ)) (t : Bool) → bytes_eq f.path at ≡ t → bytes_eq f.path path ≡ false
      → there ≡ cond (bytes_eq path at) (Some bytes) before
      → cond (bytes_eq f.path at) (Some f.bytes) there ≡ cond (bytes_eq path at) (Some bytes) (cond (bytes_eq f.path at) (Some f.bytes) before)
  put_later there before false is other below = rw is below
  put_later there before true is other below = rw is (own (bytes_eq path at) refl other is)

  put_by : (fs : List File) (b : Bool) → bytes_eq f.path path ≡ b → file_at at (file_put path bytes fs) ≡ cond (bytes_eq path at) (Some bytes) (file_at at fs)
      → file_at at (cond b (record { path = path; bytes = bytes } ∷ fs) (f ∷ file_put path bytes fs)) ≡ cond (bytes_eq path at) (Some bytes)
      (file_at at (f ∷ fs))
  put_by fs true e below = put_first fs (bytes_eq path at) refl (ap (λ (p : List ℕ). bytes_eq p at) ((bytes_eq-Decides f.path path).0 e))
  put_by fs false e below = put_later (file_at at (file_put path bytes fs)) (file_at at fs) (bytes_eq f.path at) refl e below

-- what is at a path after a file was set
pub put_at : (path bytes at : List ℕ) (files : List File) → file_at at (file_put path bytes files) ≡ cond (bytes_eq path at) (Some bytes) (file_at at files)
put_at path bytes at [] = refl
put_at path bytes at (f ∷ fs) = put_by path bytes at f fs (bytes_eq f.path path) refl (put_at path bytes at fs)

pub not_there : (path at : List ℕ) → path ≢ at → (t : Bool) → bytes_eq path at ≡ t → bytes_eq path at ≡ false
not_there path at other true e = absurd (other ((bytes_eq-Decides path at).0 e))
not_there path at other false e = e

abbrev with_files : List File → Stage → Stage
with_files files stage = record stage { sight = record stage.sight { files = files } }

abbrev on : Stage → Stage
on stage = record stage { sight = later stage.sight }

-- ---- one after the other

module _ (name : List ℕ) where
  abbrev path_at : Stage → List ℕ
  path_at stage = path_of stage.sight.root name

  abbrev passwd_at : Stage → List ℕ
  passwd_at stage = path_of stage.sight.root (codes "/etc/passwd")

  -- other files in which passwd and this file are the same
  record Twin (stage : Stage) (others : List File) : Type 0 where
    passwd : file_at (passwd_at stage) others ≡ file_at (passwd_at stage) stage.sight.files
    tally : file_at (path_at stage) others ≡ file_at (path_at stage) stage.sight.files

  -- the same was done over them, also to this file, and to no other
  pub record Same (stage : Stage) (p q : Played) : Type 0 where
    pub rest : apart p ≡ apart q
    pub tally : file_at (path_at stage) p.files ≡ file_at (path_at stage) q.files
    pub left : (path : List ℕ) → path_at stage ≢ path → file_at path q.files ≡ file_at path stage.sight.files

  abbrev Alike : Act → Type 0
  Alike act = (stage : Stage) (others : List File) → Twin stage others → Same stage (act (with_files others stage)) (act stage)

  answering : (code : Code) → Alike (answers code)
  unfolding answers
  answering code stage others t = record { rest = refl; tally = t.tally; left = λ path other. refl }

  once_more : (stage : Stage) (p q : Played) → Same (on stage) p q → Same stage (called p) (called q)
  once_more stage p q s = record { rest = ap called s.rest; tally = s.tally; left = s.left }

  later_twin : (stage : Stage) (others : List File) → Twin stage others → Twin (on stage) others
  later_twin stage others t = record { passwd = t.passwd; tally = t.tally }

  -- ---- what is seen

  seeing_moment : (act : ℕ → Act) → ((now : ℕ) → Alike (act now)) → Alike (sees_moment act)
  unfolding sees_moment
  seeing_moment act next stage others t = next stage.sight.clock.moment stage others t

  seeing_items : (act : ItemTexts → Act) → ((items : ItemTexts) → Alike (act items)) → Alike (sees_items act)
  unfolding sees_items
  seeing_items act next stage others t = next stage.room.items stage others t

  read_by : (rooted : Bool) (limit : ℕ) (act : Content → Act) → ((c : Content) → Alike (act c)) → Alike (reads_if rooted name limit act)
  read_by false limit act next stage others t = next _ stage others t
  read_by true limit act next stage others t =
      let here = content_seen name limit stage.sight in
      let there = content_seen name limit (record stage.sight { files = others }) in
      let is : there ≡ here = ap (content_of (stage.sight.failing 0) limit) t.tally in
      subst (λ (c : Content). Same stage (called (act c (with_files others (on stage)))) (called (act here (on stage)))) (sym is)
      (once_more stage (act here (with_files others (on stage))) (act here (on stage)) (next here (on stage) others (later_twin stage others t)))

  reading : (limit : ℕ) (act : Content → Act) → ((c : Content) → Alike (act c)) → Alike (reads_file name limit act)
  unfolding reads_file
  reading limit act next stage others t = read_by (is_rooted name) limit act next stage others t

  reading_tally : (act : Option (List Failure) → Act) → ((fs : Option (List Failure)) → Alike (act fs)) → Alike (reads_tally name act)
  reading_tally act next = reading tally_limit (λ c. act (failures_in c)) (λ c. next (failures_in c))

  passwds_so : (known : Option (Option (List Passwd))) (act : Option (List Passwd) → Act) → ((es : Option (List Passwd)) → Alike (act es))
      → Alike (passwds_by known act)
  passwds_so (Some es) act next stage others t = next es stage others t
  passwds_so None act next stage others t =
      let here = passwds_in (content_seen (codes "/etc/passwd") account_limit stage.sight) in
      let there = passwds_in (content_seen (codes "/etc/passwd") account_limit (record stage.sight { files = others })) in
      let is : there ≡ here = ap (λ (o : Option (List ℕ)). passwds_in (content_of (stage.sight.failing 0) account_limit o)) t.passwd in
      let next_stage : Option (List Passwd) → Stage = λ es. record stage { known = record stage.known { passwds = Some es }; sight = later stage.sight } in
      let s = next here (next_stage here) others (record { passwd = t.passwd; tally = t.tally }) in
      subst (λ (es : Option (List Passwd)). Same stage (called (act es (with_files others (next_stage es)))) (called (act here (next_stage here)))) (sym is)
      (record { rest = ap called s.rest; tally = s.tally; left = s.left })

  reading_passwds : (act : Option (List Passwd) → Act) → ((es : Option (List Passwd)) → Alike (act es)) → Alike (reads_passwds act)
  unfolding reads_passwds
  reading_passwds act next stage others t = passwds_so stage.known.passwds act next stage others t

  finding : (user : List ℕ) (act : Account → Act) → ((a : Account) → Alike (act a)) → Alike (finds_account user act)
  finding user act next = reading_passwds (λ es. act (account_in user es)) (λ es. next (account_in user es))

  -- ---- the file is set

  both_put : (path bytes at : List ℕ) (files others : List File) → file_at at others ≡ file_at at files
      → file_at at (file_put path bytes others) ≡ file_at at (file_put path bytes files)
  both_put path bytes at files others same =
      put_at path bytes at others ∙ ap (λ (o : Option (List ℕ)). cond (bytes_eq path at) (Some bytes) o) same ∙ sym (put_at path bytes at files)

  set_by : (fails : Bool) (bytes : List ℕ) (act : Bool → Act) → ((done : Bool) → Alike (act done)) → (stage : Stage) (others : List File) → Twin stage others
      → Same stage (called (act (not fails) (record stage { sight = replaced fails (path_at stage) bytes (record stage.sight { files = others }) })))
      (called (act (not fails) (record stage { sight = replaced fails (path_at stage) bytes stage.sight })))
  set_by true bytes act next stage others t =
      once_more stage (act false (with_files others (on stage))) (act false (on stage)) (next false (on stage) others (later_twin stage others t))
  set_by false bytes act next stage others t =
      let now : Stage = with_files (file_put (path_at stage) bytes stage.sight.files) (on stage) in
      let s = next true now (file_put (path_at stage) bytes others) (record {
        passwd = both_put (path_at stage) bytes (passwd_at stage) stage.sight.files others t.passwd;
        tally = both_put (path_at stage) bytes (path_at stage) stage.sight.files others t.tally;
      }) in
      record {
        rest = ap called s.rest;
        tally = s.tally;
        left = λ path other. s.left path other ∙ put_at (path_at stage) bytes path stage.sight.files
            ∙ ap (λ (b : Bool). cond b (Some bytes) (file_at path stage.sight.files))
            (not_there (path_at stage) path other (bytes_eq (path_at stage) path) refl);
      }

  replacing : (bytes : List ℕ) (act : Bool → Act) → ((done : Bool) → Alike (act done)) → Alike (replaces_file name bytes act)
  unfolding replaces_file
  replacing bytes act next stage others t = set_by (stage.sight.failing 0 || nat_lt MAX_FILE (length bytes)) bytes act next stage others t

  -- ---- locks

  hold_unless : (fails : Bool) (path : List ℕ) (kind : LockKind) (act : Bool → Act) → ((b : Bool) → Alike (act b)) → Alike (holds_unless fails path kind act)
  hold_unless true path kind act next stage others t =
      once_more stage (act false (with_files others (on stage))) (act false (on stage)) (next false (on stage) others (later_twin stage others t))
  hold_unless false path kind act next stage others t =
      let s = next true (on stage) others (later_twin stage others t) in
      record { rest = ap (λ (p : Played). called (took path kind p)) s.rest; tally = s.tally; left = s.left }

  hold_if : (rooted : Bool) (lock : List ℕ) (kind : LockKind) (act : Bool → Act) → ((b : Bool) → Alike (act b)) → Alike (holds_if rooted lock kind act)
  hold_if true lock kind act next stage others t = hold_unless (stage.sight.failing 0) (path_of stage.sight.root lock) kind act next stage others t
  hold_if false lock kind act next stage others t = next true stage others t

  holding : (lock : List ℕ) (kind : LockKind) (act : Bool → Act) → ((b : Bool) → Alike (act b)) → Alike (holds_lock lock kind act)
  unfolding holds_lock
  holding lock kind act next stage others t = hold_if (is_rooted lock) lock kind act next stage others t

  abbrev let_gone : Bool → Played → Played
  let_gone held p = record p { locks = after_letting_go held p.locks }

  letting_go : (held : Bool) (act : Act) → Alike act → Alike (lets_go held act)
  unfolding lets_go
  letting_go held act next stage others t =
      let s = next stage others t in
      record { rest = ap (let_gone held) s.rest; tally = s.tally; left = s.left }

  -- ---- what pam_faillock does

  abbrev AllAlike : (Code → Act) → Type 0
  AllAlike act = (code : Code) → Alike (act code)

  set_if : (b : Bool) (text : List ℕ) (code : Code) (act : Code → Act) → AllAlike act → Alike (sets_if b name text code act)
  set_if true text code act all = replacing text (λ done. act (write_result code done)) (λ done. all (write_result code done))
  set_if false text code act all = all returns.ServiceErr

  cleared : (failures : List Failure) (act : Code → Act) → AllAlike act → Alike (clears name failures act)
  cleared [] act all = all returns.Success
  cleared (f ∷ fs) act all = set_if (is_rooted name && nat_le (length (tally_text [])) tally_limit) (tally_text []) returns.Success act all

  recorded : (s : PlainSettings) (failures : List Failure) (act : Code → Act) → AllAlike act → Alike (records s name failures act)
  recorded s failures act all = seeing_moment _ (λ now. seeing_items _ (λ items. set_if _ _ returns.Ignore act all))

  locked_or : (b : Bool) (step : (Code → Act) → Act) (act : Code → Act) → AllAlike act → Alike (step act) → Alike (denies_if_locked b step act)
  locked_or true step act all next = all returns.AuthErr
  locked_or false step act all next = next

  unlocked : (s : PlainSettings) (failures : List Failure) (step : (Code → Act) → Act) (act : Code → Act) → AllAlike act → Alike (step act)
      → Alike (unless_locked s failures step act)
  unlocked s failures step act all next = seeing_moment _ (λ now. locked_or (is_locked s.deny s.interval s.unlock now failures) step act all next)

  taken : (lock : List ℕ) (act : Code → Act) → AllAlike act → (b : Bool) → Alike (if_taken lock act b)
  taken lock act all true = letting_go (is_rooted lock) (act returns.Success) (all returns.Success)
  taken lock act all false = all returns.ServiceErr

  module _ (s : PlainSettings) (lock : List ℕ) where
    done_by : (task : Task) (failures : List Failure) (act : Code → Act) → AllAlike act → Alike (task_on_failures task s name lock failures act)
    done_by Preauth failures act all = unlocked s failures (tries_lock lock) act all (holding lock Whole (if_taken lock act) (taken lock act all))
    done_by AuthFail failures act all = unlocked s failures (records s name failures) act all (recorded s failures act all)
    done_by AuthSucc failures act all = unlocked s failures (clears name failures) act all (cleared failures act all)
    done_by Clear failures act all = cleared failures act all

    tallied : (task : Task) (act : Code → Act) → AllAlike act → (failures : Option (List Failure)) → Alike (task_if_readable task s name lock act failures)
    tallied task act all None = all returns.ServiceErr
    tallied task act all (Some failures) = done_by task failures act all

    filed : (task : Task) (act : Code → Act) → AllAlike act → Alike (task_on_file task s name lock act)
    filed task act all = reading_tally (task_if_readable task s name lock act) (tallied task act all)

    held : (task : Task) (act : Code → Act) → AllAlike act → (b : Bool) → Alike (if_held task s name lock act b)
    held task act all true = filed task (λ code. lets_go (is_rooted lock) (act code)) (λ code. letting_go (is_rooted lock) (act code) (all code))
    held task act all false = all returns.ServiceErr

    locked : (task : Task) (act : Code → Act) → AllAlike act → Alike (locks_file task s name lock act)
    locked task act all = holding lock Whole (if_held task s name lock act) (held task act all)

    some_or_none : (task : Task) (act : Code → Act) → AllAlike act → (fs : Option (List Failure)) → Alike (if_any task s name lock act fs)
    some_or_none task act all None = all returns.ServiceErr
    some_or_none task act all (Some []) = all returns.Success
    some_or_none task act all (Some (f ∷ fs)) = locked task act all

    does_so : (task : Task) (act : Code → Act) → AllAlike act → Alike (does_task task s name lock act)
    does_so Preauth act all = filed Preauth act all
    does_so AuthFail act all = locked AuthFail act all
    does_so AuthSucc act all = reading_tally (if_any AuthSucc s name lock act) (some_or_none AuthSucc act all)
    does_so Clear act all = reading_tally (if_any Clear s name lock act) (some_or_none Clear act all)

-- ---- the user

module _ (s : PlainSettings) (user : List ℕ) where
  abbrev AlikeFor : Act → Type 0
  AlikeFor act = Alike (tally_name s.folder user) act

  spared : (b : Bool) (task : Task) → AlikeFor (unless_spared b task s user)
  spared true task = answering (tally_name s.folder user) (spared_answer task)
  spared false task = does_so (tally_name s.folder user) s (lock_name s.folder user) task answers (answering (tally_name s.folder user))

  accounted : (task : Task) (a : Account) → AlikeFor (task_for_account task s user a)
  accounted task unreadable = answering (tally_name s.folder user) returns.ServiceErr
  accounted task missing = answering (tally_name s.folder user) returns.Ignore
  accounted task (found entry) = spared (entry.uid == 0 && not s.locks_root) task

  named : (b : Bool) (task : Task) → AlikeFor (unless_no_file b task s user)
  named true task = answering (tally_name s.folder user) returns.UserUnknown
  named false task = finding (tally_name s.folder user) user (task_for_account task s user) (accounted task)

  by_asking : (task : Task) (refused : Bool) (a : AfterPrompt) (stage : Stage) (others : List File) → a.room.items.user ≡ Some user
      → Twin (tally_name s.folder user) stage others
      → Same (tally_name s.folder user) stage
      (cond refused (answered returns.ConvErr a.room (record stage.sight { files = others }))
      (unless_no_file (is_no_file (unwrap_or a.room.items.user [])) task s (unwrap_or a.room.items.user []) (in_room a.room (with_files others stage))))
      (cond refused (answered returns.ConvErr a.room stage.sight)
      (unless_no_file (is_no_file (unwrap_or a.room.items.user [])) task s (unwrap_or a.room.items.user []) (in_room a.room stage)))
  by_asking task true a stage others is t = record { rest = refl; tally = t.tally; left = λ path other. refl }
  by_asking task false a stage others is t =
      let who : unwrap_or a.room.items.user [] ≡ user = ap (λ (o : Option (List ℕ)). unwrap_or o []) is in
      let r = named (is_no_file user) task (in_room a.room stage) others (record { passwd = t.passwd; tally = t.tally }) in
      subst (λ (u : List ℕ). Same (tally_name s.folder user) stage (unless_no_file (is_no_file u) task s u (in_room a.room (with_files others stage)))
      (unless_no_file (is_no_file u) task s u (in_room a.room stage))) (sym who)
      (record { rest = r.rest; tally = r.tally; left = r.left })

  by_result : (r : Result Task Code) (stage : Stage) (others : List File) → (user_asked stage.room).room.items.user ≡ Some user
      → Twin (tally_name s.folder user) stage others
      → Same (tally_name s.folder user) stage (task_or_code r s (with_files others stage)) (task_or_code r s stage)
  unfolding asks_user
  by_result (Err code) stage others is t = answering (tally_name s.folder user) code stage others t
  by_result (Ok task) stage others is t = by_asking task (user_asked stage.room).refused (user_asked stage.room) stage others is t

pub other_tallies : OtherTalliesDontMatter
other_tallies call room held sight others user is agree =
    let stage : Stage = record { room = room; held = held; known = nothing_known; sight = sight } in
    let r =
    by_result (settings_of call.args) user (task_of call.func (task_among call.args)) stage others is (record { passwd = agree.passwd; tally = agree.tally }) in
    record { rest = r.rest; tally = r.tally }

pub other_files : OtherFilesStay
other_files call room held sight user path is other =
    let stage : Stage = record { room = room; held = held; known = nothing_known; sight = sight } in
    (by_result (settings_of call.args) user (task_of call.func (task_among call.args)) stage sight.files is (record { passwd = refl; tally = refl })).left path
    other
