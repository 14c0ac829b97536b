-- Steps of a module's definition, put before the rest of the definition.
use Rattle.std.proofs.Common.{◌≡◌, ℕ, zero, suc, Bool, true, false, ◌||◌, cond, nat_lt, length, List, [], Option, Some, None, is_some, unwrap_or, codes, Result, Ok, Err, IfOk, refl, sym, ap, ◌∙◌}
use Rattle.std.proofs.lemmas.List.{append-nil}
use Rattle.pam_base.specs.declared.code.Code.{Code}
use Rattle.pam_base.specs.declared.fault.NoMemory.{NoMemory}
use Rattle.pam_room.specs.item_store.specs.Items.{ItemTexts}
use Rattle.pam_outside.specs.declared.held.LockKind.{LockKind}
use Rattle.pam_outside.specs.declared.vault.TheConstants.{MAX_FILE}
use Rattle.pam_outside.specs.Files.{File, Locks, VaultState, counted, file_put, is_failing, locked, refuses, unlocked}
use Rattle.pam_outside.specs.Counts.{next_count}
use Rattle.pam_outside.specs.Time.{ClockState, random_taken}
use Rattle.pam_room.specs.Call.{PlainCall}
use Rattle.pam_room.specs.declared.process.Process.{Process}
use Rattle.pam_room.specs.Plain.{plain_process}
use Rattle.pam_room.specs.State.{PlainProcess, PlainRoom, Scene, scene_of}
use Rattle.pam_room.specs.Module.{Played, PlaysIn, Sight, after_calls, failing_of, sight_of, with_played}
use Rattle.account_db.specs.declared.group.Group.{Group}
use Rattle.account_db.specs.declared.passwd.Passwd.{Passwd}
use Rattle.module_acts.specs.declared.content.Content.{Content}
use Rattle.module_acts.specs.declared.content.Content.TheVariants.{Absent}
use Rattle.pam_outside.specs.Paths.{path_of}
use Rattle.module_acts.specs.Content.{content_at, is_rooted}
use Rattle.module_acts.specs.Accounts.{Known, account_limit, groups_in, known_groups, known_passwds, nothing_known, passwds_in, shells_in}
use Rattle.module_acts.specs.Act.{Act, Acts, LooksTo, after_letting_go, answers, called, content_seen, draws_word, groups_by, holds_lock, later, lets_go, passwds_by, plays_by, reads_file, reads_groups, reads_if, reads_passwds, reads_shells, replaced, replaces_file, sees_items, sees_moment, stage_of, took}

-- ---- a step that leaves the files, and one that calls `Vault` once

pub carried : (act next : Act) (known after : Known) (s mid : Scene) (code : Code) (new : Scene) → act (stage_of known s) ≡ next (stage_of after mid)
    → ((p : Played) → with_played p mid ≡ with_played p s) → Acts next after mid code new → Acts act known s code new
carried act next known after s mid code new e same a = record {
  code_is = a.code_is ∙ ap (λ (p : Played). p.code) (sym e);
  scene_is = a.scene_is ∙ same (next (stage_of after mid)) ∙ ap (λ (p : Played). with_played p s) (sym e);
}

-- the scene after one call of `Vault`
abbrev pub after_call : Scene → Scene
after_call s = scene_of s.room (counted s.vault) s.clock s.process

counted_once : (act next : Act) (known after : Known) (s : Scene) (code : Code) (new : Scene) → act (stage_of known s) ≡ called (next (stage_of after (after_call s)))
    → Acts next after (after_call s) code new → Acts act known s code new
counted_once act next known after s code new e a = record {
  code_is = a.code_is ∙ ap (λ (p : Played). p.code) (sym e);
  scene_is = a.scene_is ∙ ap (λ (p : Played). with_played p s) (sym e);
}

-- what the next call finds, and what is seen after it
later_sight : (s : Scene) → later (sight_of s) ≡ sight_of (after_call s)
unfolding failing_of
later_sight s = refl

content_is : (name : List ℕ) (limit : ℕ) (s : Scene) → content_seen name limit (sight_of s) ≡ content_at s.process.root name limit s.vault
unfolding failing_of content_at
content_is name limit s = refl

-- ---- the end

pub answering : (code : Code) (known : Known) (s : Scene) → Acts (answers code) known s code s
unfolding answers
answering code known s = record { code_is = refl; scene_is = rw append-nil refl }

-- ---- the room

pub seeing : (act : ItemTexts → Act) (known : Known) (s : Scene) (code : Code) (new : Scene) → Acts (act s.room.transaction.items) known s code new → Acts (sees_items act) known s code new
unfolding sees_items
seeing act known s code new a = carried (sees_items act) (act s.room.transaction.items) known known s s code new refl (λ p. refl) a

pub timing : (act : ℕ → Act) (known : Known) (s : Scene) (code : Code) (new : Scene) → Acts (act s.clock.moment) known s code new → Acts (sees_moment act) known s code new
unfolding sees_moment
timing act known s code new a = carried (sees_moment act) (act s.clock.moment) known known s s code new refl (λ p. refl) a

-- ---- files

pub drawing : (act : ℕ → Act) (known : Known) (room : PlainRoom) (vault : VaultState) (clock : ClockState) (process : PlainProcess) (code : Code) (new : Scene)
    → Acts (act clock.word) known (scene_of room vault (random_taken clock) process) code new → Acts (draws_word act) known (scene_of room vault clock process) code new
unfolding draws_word
drawing act known room vault clock process code new a = record { code_is = a.code_is; scene_is = a.scene_is }

module _ (room : PlainRoom) (vault : VaultState) (clock : ClockState) (process : PlainProcess) where
  by_root : (rooted : Bool) (name : List ℕ) (limit : ℕ) (act : Content → Act) (known : Known) (content : Content) (after : VaultState) (code : Code) (new : Scene)
      → content ≡ cond rooted (content_at process.root name limit vault) Absent → after ≡ cond rooted (counted vault) vault
      → Acts (act content) known (scene_of room after clock process) code new → Acts (reads_if rooted name limit act) known (scene_of room vault clock process) code new
  by_root true name limit act known content after code new is next a =
      let s = scene_of room vault clock process in
      let same : reads_if true name limit act (stage_of known s) ≡ called (act content (stage_of known (after_call s))) = rw (is, content_is name limit s, later_sight s) refl in
      counted_once (reads_if true name limit act) (act content) known known s code new same (rw next at a)
  by_root false name limit act known content after code new is next a =
      carried (reads_if false name limit act) (act content) known known (scene_of room vault clock process) (scene_of room after clock process) code new (rw (is, next) refl) (λ p. rw next refl) a

  pub reading : (name : List ℕ) (limit : ℕ) (act : Content → Act) (known : Known) (content : Content) (after : VaultState) (code : Code) (new : Scene) → is_rooted name ≡ true
      → content ≡ content_at process.root name limit vault → after ≡ counted vault
      → Acts (act content) known (scene_of room after clock process) code new → Acts (reads_file name limit act) known (scene_of room vault clock process) code new
  unfolding reads_file
  reading name limit act known content after code new rooted is next a = by_root (is_rooted name) name limit act known content after code new (rw rooted is) (rw rooted next) a

  pub not_reading : (name : List ℕ) (limit : ℕ) (act : Content → Act) (known : Known) (code : Code) (new : Scene) → is_rooted name ≡ false
      → Acts (act Absent) known (scene_of room vault clock process) code new → Acts (reads_file name limit act) known (scene_of room vault clock process) code new
  unfolding reads_file
  not_reading name limit act known code new rooted a = by_root (is_rooted name) name limit act known Absent vault code new (rw rooted refl) (rw rooted refl) a

  pub reading_shells : (act : Option (List (List ℕ)) → Act) (known : Known) (content : Content) (found : Option (List (List ℕ))) (after : VaultState) (code : Code) (new : Scene)
      → content ≡ content_at process.root (codes "/etc/shells") account_limit vault → found ≡ shells_in content → after ≡ counted vault
      → Acts (act found) known (scene_of room after clock process) code new → Acts (reads_shells act) known (scene_of room vault clock process) code new
  unfolding reads_shells
  reading_shells act known content found after code new is e next a =
      reading (codes "/etc/shells") account_limit (λ text. act (shells_in text)) known content after code new refl is next (rw (← e) a)

  -- ---- account files

  first_passwds : (before : Option (Option (List Passwd))) (act : Option (List Passwd) → Act) (known : Known) (content : Content) (found : Option (List Passwd)) (after : VaultState) (code : Code) (new : Scene)
      → is_some before ≡ false → content ≡ content_at process.root (codes "/etc/passwd") account_limit vault → found ≡ passwds_in content → after ≡ counted vault
      → Acts (act found) (record known { passwds = Some found }) (scene_of room after clock process) code new → Acts (passwds_by before act) known (scene_of room vault clock process) code new
  first_passwds None act known content found after code new none is e next a =
      let s = scene_of room vault clock process in
      let same : passwds_by None act (stage_of known s) ≡ called (act found (stage_of (record known { passwds = Some found }) (after_call s))) = rw (e, is, content_is _ _ s, later_sight s) refl in
      counted_once (passwds_by None act) (act found) known (record known { passwds = Some found }) s code new same (rw next at a)
  first_passwds (Some before) act known content found after code new none is e next a = absurd cc

  passwds_again : (before : Option (Option (List Passwd))) (act : Option (List Passwd) → Act) (known : Known) (code : Code) (new : Scene) → is_some before ≡ true
      → Acts (act (unwrap_or before None)) known (scene_of room vault clock process) code new → Acts (passwds_by before act) known (scene_of room vault clock process) code new
  passwds_again None act known code new some a = absurd cc
  passwds_again (Some before) act known code new some a =
      let s = scene_of room vault clock process in
      carried (passwds_by (Some before) act) (act before) known known s s code new refl (λ p. refl) a

  by_passwds : (act : Option (List Passwd) → Act) (known : Known) (code : Code) (new : Scene) → Acts (passwds_by known.passwds act) known (scene_of room vault clock process) code new
      → Acts (reads_passwds act) known (scene_of room vault clock process) code new
  unfolding reads_passwds
  by_passwds act known code new a =
      let s = scene_of room vault clock process in
      carried (reads_passwds act) (passwds_by known.passwds act) known known s s code new refl (λ p. refl) a

  first_groups : (before : Option (Option (List Group))) (act : Option (List Group) → Act) (known : Known) (content : Content) (found : Option (List Group)) (after : VaultState) (code : Code) (new : Scene)
      → is_some before ≡ false → content ≡ content_at process.root (codes "/etc/group") account_limit vault → found ≡ groups_in content → after ≡ counted vault
      → Acts (act found) (record known { groups = Some found }) (scene_of room after clock process) code new → Acts (groups_by before act) known (scene_of room vault clock process) code new
  first_groups None act known content found after code new none is e next a =
      let s = scene_of room vault clock process in
      let same : groups_by None act (stage_of known s) ≡ called (act found (stage_of (record known { groups = Some found }) (after_call s))) = rw (e, is, content_is _ _ s, later_sight s) refl in
      counted_once (groups_by None act) (act found) known (record known { groups = Some found }) s code new same (rw next at a)
  first_groups (Some before) act known content found after code new none is e next a = absurd cc

  groups_again : (before : Option (Option (List Group))) (act : Option (List Group) → Act) (known : Known) (code : Code) (new : Scene) → is_some before ≡ true
      → Acts (act (unwrap_or before None)) known (scene_of room vault clock process) code new → Acts (groups_by before act) known (scene_of room vault clock process) code new
  groups_again None act known code new some a = absurd cc
  groups_again (Some before) act known code new some a =
      let s = scene_of room vault clock process in
      carried (groups_by (Some before) act) (act before) known known s s code new refl (λ p. refl) a

  by_groups : (act : Option (List Group) → Act) (known : Known) (code : Code) (new : Scene) → Acts (groups_by known.groups act) known (scene_of room vault clock process) code new
      → Acts (reads_groups act) known (scene_of room vault clock process) code new
  unfolding reads_groups
  by_groups act known code new a =
      let s = scene_of room vault clock process in
      carried (reads_groups act) (groups_by known.groups act) known known s s code new refl (λ p. refl) a

module _ (process : Process) (known : Known) (vault : VaultState) where
  pub reading_passwds : (content : Content) (found : Option (List Passwd)) (after : VaultState) → is_some known.passwds ≡ false
      → content ≡ content_at process.root (codes "/etc/passwd") account_limit vault → found ≡ passwds_in content → after ≡ counted vault
      → LooksTo reads_passwds found process known vault (record known { passwds = Some found }) after
  reading_passwds content found after none is e next = λ room clock act code end rest.
      by_passwds room vault clock (plain_process process) act known code end (first_passwds room vault clock (plain_process process) known.passwds act known content found after code end none is e next rest)

  pub knowing_passwds : is_some known.passwds ≡ true → LooksTo reads_passwds (known_passwds known) process known vault known vault
  knowing_passwds some = λ room clock act code end rest.
      by_passwds room vault clock (plain_process process) act known code end (passwds_again room vault clock (plain_process process) known.passwds act known code end some rest)

  pub reading_groups : (content : Content) (found : Option (List Group)) (after : VaultState) → is_some known.groups ≡ false
      → content ≡ content_at process.root (codes "/etc/group") account_limit vault → found ≡ groups_in content → after ≡ counted vault
      → LooksTo reads_groups found process known vault (record known { groups = Some found }) after
  reading_groups content found after none is e next = λ room clock act code end rest.
      by_groups room vault clock (plain_process process) act known code end (first_groups room vault clock (plain_process process) known.groups act known content found after code end none is e next rest)

  pub knowing_groups : is_some known.groups ≡ true → LooksTo reads_groups (known_groups known) process known vault known vault
  knowing_groups some = λ room clock act code end rest.
      by_groups room vault clock (plain_process process) act known code end (groups_again room vault clock (plain_process process) known.groups act known code end some rest)

-- ---- a file that is set

-- which calls fail, and how many were made, doesn't depend on the files
calls_apart : (n : ℕ) (v : VaultState) (x f : List File) (l : Locks) → record (after_calls n (record v { files = x })) { files = f; locks = l } ≡ record (after_calls n v) { files = f; locks = l }
calls_apart zero v x f l = refl
calls_apart (suc n) v x f l = calls_apart n (counted v) x f l

fails_apart : (n : ℕ) (v : VaultState) (x : List File) → is_failing (after_calls n (record v { files = x })) ≡ is_failing (after_calls n v)
fails_apart n v x = ap is_failing (calls_apart n v x [] v.locks)

-- nor on the locks
lock_calls_apart : (n : ℕ) (v : VaultState) (x l : Locks) (f : List File) → record (after_calls n (record v { locks = x })) { files = f; locks = l } ≡ record (after_calls n v) { files = f; locks = l }
lock_calls_apart zero v x l f = refl
lock_calls_apart (suc n) v x l f = lock_calls_apart n (counted v) x l f

locks_fail : (n : ℕ) (v : VaultState) (x : Locks) → is_failing (after_calls n v) ≡ is_failing (after_calls n (record v { locks = x }))
locks_fail n v x = sym (ap is_failing (lock_calls_apart n v x x []))

locks_apart : (v : VaultState) (x : Locks) → failing_of v ≡ failing_of (record v { locks = x })
unfolding failing_of
locks_apart v x = λ i k. locks_fail k v x i

failing_apart : (v : VaultState) (x : List File) → failing_of (record v { files = x }) ≡ failing_of v
unfolding failing_of
failing_apart v x = λ i k. fails_apart k v x i

module _ (room : PlainRoom) (vault : VaultState) (clock : ClockState) (process : PlainProcess) (name bytes : List ℕ) (act : Bool → Act) (known : Known) (code : Code) (new : Scene) where
  abbrev set_whole : VaultState
  set_whole = counted (record vault { files = file_put (path_of process.root name) bytes vault.files })

  set_sight : replaced false (path_of process.root name) bytes (sight_of (scene_of room vault clock process)) ≡ sight_of (scene_of room set_whole clock process)
  unfolding failing_of
  set_sight =
      ap (λ (f : ℕ → Bool). record (sight_of (scene_of room set_whole clock process)) { failing = f }) (sym (failing_apart (counted vault) (file_put (path_of process.root name) bytes vault.files)))

  set_played : (p : Played) → with_played p (scene_of room set_whole clock process) ≡ with_played (called p) (scene_of room vault clock process)
  set_played p = λ i. record (with_played (called p) (scene_of room vault clock process)) { vault = calls_apart p.calls (counted vault) (file_put (path_of process.root name) bytes vault.files) p.files (p.locks (next_count vault.calls) vault.locks) i }

  next_refuses : ((sight_of (scene_of room vault clock process)).failing 0 || nat_lt MAX_FILE (length bytes)) ≡ refuses bytes vault
  unfolding failing_of
  next_refuses = refl

  pub replacing : refuses bytes vault ≡ false → Acts (act true) known (scene_of room set_whole clock process) code new → Acts (replaces_file name bytes act) known (scene_of room vault clock process) code new
  unfolding replaces_file
  replacing e a =
      let s = scene_of room vault clock process in
      let t = scene_of room set_whole clock process in
      let same : replaces_file name bytes act (stage_of known s) ≡ called (act true (stage_of known t)) = rw (next_refuses, e, set_sight) refl in
      record {
        code_is = a.code_is ∙ ap (λ (p : Played). p.code) (sym same);
        scene_is = a.scene_is ∙ set_played (act true (stage_of known t)) ∙ ap (λ (p : Played). with_played p s) (sym same);
      }

  pub not_replacing : refuses bytes vault ≡ true → Acts (act false) known (scene_of room (counted vault) clock process) code new → Acts (replaces_file name bytes act) known (scene_of room vault clock process) code new
  unfolding replaces_file
  not_replacing e a =
      let s = scene_of room vault clock process in
      let same : replaces_file name bytes act (stage_of known s) ≡ called (act false (stage_of known (after_call s))) = rw (next_refuses, e, later_sight s) refl in
      counted_once (replaces_file name bytes act) (act false) known known s code new same a

-- ---- a lock

module _ (room : PlainRoom) (vault : VaultState) (clock : ClockState) (process : PlainProcess) (name : List ℕ) (kind : LockKind) (act : Bool → Act) (known : Known) (code : Code) (new : Scene) where
  next_is : (sight_of (scene_of room vault clock process)).failing 0 ≡ is_failing vault
  unfolding failing_of
  next_is = refl

  -- the scene after the call that took it
  abbrev held_scene : Scene
  held_scene = scene_of room (locked (path_of process.root name) kind (counted vault)) clock process

  held_sight : later (sight_of (scene_of room vault clock process)) ≡ sight_of held_scene
  unfolding failing_of
  held_sight = later_sight (scene_of room vault clock process) ∙ ap (λ (f : ℕ → Bool). record (sight_of held_scene) { failing = f }) (locks_apart (counted vault) (locked (path_of process.root name) kind (counted vault)).locks)

  held_played : (p : Played) → with_played p held_scene ≡ with_played (called (took (path_of process.root name) kind p)) (scene_of room vault clock process)
  held_played p = λ i. record (with_played (called (took (path_of process.root name) kind p)) (scene_of room vault clock process)) { vault = lock_calls_apart p.calls (counted vault) (locked (path_of process.root name) kind (counted vault)).locks (p.locks (next_count vault.calls) (locked (path_of process.root name) kind (counted vault)).locks) p.files i }

  pub holding : is_rooted name ≡ true → is_failing vault ≡ false → Acts (act true) known held_scene code new → Acts (holds_lock name kind act) known (scene_of room vault clock process) code new
  unfolding holds_lock
  holding rooted e a =
      let s = scene_of room vault clock process in
      let same : holds_lock name kind act (stage_of known s) ≡ called (took (path_of process.root name) kind (act true (stage_of known held_scene))) = rw (rooted, next_is, e, held_sight) refl in
      record {
        code_is = a.code_is ∙ ap (λ (p : Played). p.code) (sym same);
        scene_is = a.scene_is ∙ held_played (act true (stage_of known held_scene)) ∙ ap (λ (p : Played). with_played p s) (sym same);
      }

  pub refusing : is_rooted name ≡ true → is_failing vault ≡ true → Acts (act false) known (scene_of room (counted vault) clock process) code new → Acts (holds_lock name kind act) known (scene_of room vault clock process) code new
  unfolding holds_lock
  refusing rooted e a =
      let s = scene_of room vault clock process in
      let same : holds_lock name kind act (stage_of known s) ≡ called (act false (stage_of known (after_call s))) = rw (rooted, next_is, e, later_sight s) refl in
      counted_once (holds_lock name kind act) (act false) known known s code new same a

  pub not_holding : is_rooted name ≡ false → Acts (act true) known (scene_of room vault clock process) code new → Acts (holds_lock name kind act) known (scene_of room vault clock process) code new
  unfolding holds_lock
  not_holding rooted a =
      let s = scene_of room vault clock process in
      carried (holds_lock name kind act) (act true) known known s s code new (rw rooted refl) (λ p. refl) a

module _ (room : PlainRoom) (vault : VaultState) (clock : ClockState) (process : PlainProcess) (held : Bool) (act : Act) (known : Known) (code : Code) (new : Scene) where
  abbrev freed_scene : Scene
  freed_scene = scene_of room (unlocked held vault) clock process

  freed_sight : sight_of (scene_of room vault clock process) ≡ sight_of freed_scene
  unfolding failing_of
  freed_sight = ap (λ (f : ℕ → Bool). record (sight_of freed_scene) { failing = f }) (locks_apart vault (unlocked held vault).locks)

  freed_played : (p : Played) → with_played p freed_scene ≡ with_played (record p { locks = after_letting_go held p.locks }) (scene_of room vault clock process)
  freed_played p = λ i. record (with_played (record p { locks = after_letting_go held p.locks }) (scene_of room vault clock process)) { vault = lock_calls_apart p.calls vault (unlocked held vault).locks (p.locks vault.calls (unlocked held vault).locks) p.files i }

  pub freeing : Acts act known freed_scene code new → Acts (lets_go held act) known (scene_of room vault clock process) code new
  unfolding lets_go
  freeing a =
      let s = scene_of room vault clock process in
      let same : lets_go held act (stage_of known s) ≡ record (act (stage_of known freed_scene)) { locks = after_letting_go held (act (stage_of known freed_scene)).locks } = ap (λ (x : Sight). lets_go held act (record (stage_of known s) { sight = x })) freed_sight in
      record {
        code_is = a.code_is ∙ ap (λ (p : Played). p.code) (sym same);
        scene_is = a.scene_is ∙ freed_played (act (stage_of known freed_scene)) ∙ ap (λ (p : Played). with_played p s) (sym same);
      }

-- ---- modules

pub playing : (act : PlainCall → Act) (call : PlainCall) (old new : Scene) (result : Result Code NoMemory) → IfOk result (λ code. Acts (act call) nothing_known old code new)
    → IfOk result (λ code. PlaysIn (plays_by act) call old code new)
playing act call old new (Ok code) a = record { code_is = a.code_is; scene_is = a.scene_is }
playing act call old new (Err none) a = a
