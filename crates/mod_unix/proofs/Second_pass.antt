-- What a second pass that succeeded wrote.
use Rattle.std.proofs.Common.{◌≡◌, ◌⊎◌, inl, inr, ℕ, ◌≤◌, Bool, true, false, not, ◌||◌, ◌==◌, nat_lt, cond, List, [], ◌∷◌, length, Option, Some, None, Result, Ok, Err, codes, refl, ap, ◌∙◌}
use Rattle.std.specs.Str.{bytes_eq}
use Rattle.std.proofs.lemmas.Bool.{and_parts, ltb-false}
use Rattle.conv_port.specs.declared.conv.ConvFault.{ConvFault}
use Rattle.item_store.specs.Items.{ItemTexts}
use Rattle.conv_port.specs.declared.message.Reply.{Reply}
use Rattle.pam_outside.specs.declared.held.LockKind.TheVariants.{Record}
use Rattle.pam_outside.specs.declared.vault.TheConstants.{MAX_FILE}
use Rattle.pam_outside.specs.Files.{File, file_at, file_put}
use Rattle.pam_outside.specs.Paths.{path_of}
use Rattle.pam_outside.specs.Time.{Time}
use Rattle.pam_room.specs.Call.{PlainCall, has_flag, prelim_check}
use Rattle.pam_room.specs.Module.{Played, SeenRoom}
use Rattle.pam_room.specs.Say.{speak}
use Rattle.account_db.specs.declared.fault.DbFault.{DbFault}
use Rattle.account_db.specs.declared.shadow.Shadow.{Shadow}
use Rattle.account_db.specs.Replace.{unless_faulty_file, with_hash}
use Rattle.account_db.specs.Shadow.{shadow_of, shadows_of}
use Rattle.module_acts.specs.declared.content.Content.{Content}
use Rattle.module_acts.specs.Accounts.{account_limit}
use Rattle.module_acts.specs.Act.{Act, Stage, answers, called, content_seen, draws_word, holds_lock, holds_unless, in_room, later, lets_go, reads_file, replaced, replaces_file, sees_items}
use Rattle.module_acts.specs.Content.{content_of}
use Rattle.module_acts.specs.Steps.{exchanges, sees_clock, sets_item, with_replies}
use Rattle.mod_unix.specs.declared.look.Field.{Field}
use Rattle.mod_unix.specs.declared.look.KnownPassword.{KnownPassword}
use Rattle.mod_unix.specs.declared.look.KnownPassword.TheVariants.{Unknown, Unavailable, Plain, Shadowed}
use Rattle.mod_unix.specs.Aging.{day_of}
use Rattle.module_acts.specs.Arguments.{has_argument}
use Rattle.mod_unix.specs.Flags.{change_expired_authtok}
use Rattle.mod_unix.specs.Change.{authtok_or_asks, write_result, unless_token_is_kept, checks_or_changes, replaces_shadow, change_by, changed_by, changed_shadow, changes_entry, changes_locked, changes_shadow, if_locked, is_kept, new_prompts, same_reply, sets_new, stores_token, takes_token, usable}
use Rattle.mod_unix.specs.Look.{after_passwd, shadow_if_x, field_in, is_x, looks, shadow_among, shadow_in, shadowed}
use Rattle.mod_unix.specs.NewHash.{hashed_token}
use Rattle.mod_unix.specs.Changed.{shadow_path}
use Rattle.pam_base.specs.declared.code.Code.{Code}
use Rattle.pam_base.specs.declared.code.Code.TheVariants as returns
use Rattle.module_acts.specs.declared.content.Content.TheVariants as content
use Rattle.mod_unix.specs.declared.look.Field.TheVariants as field

-- ---- what the module did

-- shadow was replaced by one with the hash of AUTHTOK
pub record Written (user root : List ℕ) (clock : Time) (before : List File) (room : SeenRoom) (after : List File) : Type 0 where
  pub token : List ℕ
  pub token_is : room.items.auth_tok ≡ Some token
  pub short : length token ≤ 512
  pub args : List (List ℕ)
  pub old : List ℕ
  pub old_is : file_at (shadow_path root) before ≡ Some old
  pub entries : List Shadow
  pub entries_are : shadows_of old ≡ Ok entries
  pub entry : Shadow
  pub entry_is : shadow_of user entries ≡ Some entry
  pub after_is : after ≡ file_put (shadow_path root) (with_hash user (hashed_token args clock.word token) (day_of clock.moment) old) before

-- the file was replaced
record Replaced (user hash root : List ℕ) (today : ℕ) (before : List File) (room : SeenRoom) (p : Played) : Type 0 where
  old : List ℕ
  old_is : file_at (shadow_path root) before ≡ Some old
  entries : List Shadow
  entries_are : shadows_of old ≡ Ok entries
  entry : Shadow
  entry_is : shadow_of user entries ≡ Some entry
  room_is : p.room ≡ room
  after_is : p.files ≡ file_put (shadow_path root) (with_hash user hash today old) before

holds_by : (b : Bool) (text old : List ℕ) → cond b content.Unreadable (content.Holds text) ≡ content.Holds old → Some text ≡ Some old
holds_by true text old e = absurd cc
holds_by false text old e = let same : text ≡ old = cc in ap (λ (t : List ℕ). Some t) same

holds : (failing : Bool) (limit : ℕ) (found : Option (List ℕ)) (old : List ℕ) → content_of failing limit found ≡ content.Holds old → found ≡ Some old
unfolding content_of
holds true limit found old e = absurd cc
holds false limit None old e = absurd cc
holds false limit (Some text) old e = holds_by (nat_lt limit (length text)) text old e

module _ (user hash : List ℕ) (today : ℕ) where
  -- the lock is let go, and the code returned
  abbrev ends : Code → Act
  ends code = lets_go true (answers code)

  put_by : (failing : Bool) (path text : List ℕ) (stage : Stage) → (ends (write_result (not failing)) (record stage { sight = replaced failing path text stage.sight })).code ≡ returns.Success
      → ((ends (write_result (not failing)) (record stage { sight = replaced failing path text stage.sight })).files ≡ file_put path text stage.sight.files)
      × ((ends (write_result (not failing)) (record stage { sight = replaced failing path text stage.sight })).room ≡ stage.room)
  unfolding answers lets_go
  put_by true path text stage e = absurd cc
  put_by false path text stage e = (refl, refl)

  put : (old text : List ℕ) (es : List Shadow) (entry : Shadow) (stage : Stage) → file_at (shadow_path stage.sight.root) stage.sight.files ≡ Some old → shadows_of old ≡ Ok es → shadow_of user es ≡ Some entry → text ≡ with_hash user hash today old
      → (replaces_file (codes "/etc/shadow") text (λ done. ends (write_result done)) stage).code ≡ returns.Success
      → Replaced user hash stage.sight.root today stage.sight.files stage.room (replaces_file (codes "/etc/shadow") text (λ done. ends (write_result done)) stage)
  unfolding replaces_file
  put old text es entry stage at are is new e =
      let made = put_by (stage.sight.failing 0 || nat_lt MAX_FILE (length text)) (shadow_path stage.sight.root) text stage e in
      record { old = old; old_is = at; entries = es; entries_are = are; entry = entry; entry_is = is; room_is = made.1; after_is = made.0 ∙ ap (λ (t : List ℕ). file_put (shadow_path stage.sight.root) t stage.sight.files) new }

  by_entry : (found : Option Shadow) (old : List ℕ) (es : List Shadow) (stage : Stage) → file_at (shadow_path stage.sight.root) stage.sight.files ≡ Some old → shadows_of old ≡ Ok es → shadow_of user es ≡ found
      → (replaces_shadow (changed_by (shadowed found) (Ok (with_hash user hash today old))) ends stage).code ≡ returns.Success
      → Replaced user hash stage.sight.root today stage.sight.files stage.room (replaces_shadow (changed_by (shadowed found) (Ok (with_hash user hash today old))) ends stage)
  unfolding answers lets_go
  by_entry None old es stage at are is e = absurd cc
  by_entry (Some entry) old es stage at are is e = put old (with_hash user hash today old) es entry stage at are is refl e

  by_entries : (r : Result (List Shadow) DbFault) (old : List ℕ) (stage : Stage) → file_at (shadow_path stage.sight.root) stage.sight.files ≡ Some old → shadows_of old ≡ r
      → (replaces_shadow (changed_by (shadow_among user r) (unless_faulty_file r (with_hash user hash today old))) ends stage).code ≡ returns.Success
      → Replaced user hash stage.sight.root today stage.sight.files stage.room (replaces_shadow (changed_by (shadow_among user r) (unless_faulty_file r (with_hash user hash today old))) ends stage)
  unfolding answers lets_go
  by_entries (Err fault) old stage at are e = absurd cc
  by_entries (Ok es) old stage at are e = by_entry (shadow_of user es) old es stage at are refl e

  by_content : (c : Content) (stage : Stage) → ((old : List ℕ) → c ≡ content.Holds old → file_at (shadow_path stage.sight.root) stage.sight.files ≡ Some old)
      → (replaces_shadow (changed_shadow user hash today c) ends stage).code ≡ returns.Success
      → Replaced user hash stage.sight.root today stage.sight.files stage.room (replaces_shadow (changed_shadow user hash today c) ends stage)
  unfolding answers lets_go changed_shadow
  by_content content.Absent stage at e = absurd cc
  by_content content.Unreadable stage at e = absurd cc
  by_content (content.Holds old) stage at e = by_entries (shadows_of old) old stage (at old refl) refl e

  locked : (stage : Stage) → (changes_locked user hash today ends stage).code ≡ returns.Success
      → Replaced user hash stage.sight.root today stage.sight.files stage.room (changes_locked user hash today ends stage)
  unfolding changes_locked reads_file
  locked stage e =
      let r = by_content (content_seen (codes "/etc/shadow") account_limit stage.sight) (record stage { sight = later stage.sight })
      (λ old h. holds (stage.sight.failing 0) account_limit (file_at (shadow_path stage.sight.root) stage.sight.files) old h) e in
      record { old = r.old; old_is = r.old_is; entries = r.entries; entries_are = r.entries_are; entry = r.entry; entry_is = r.entry_is; room_is = r.room_is; after_is = r.after_is }

  by_failing : (fails : Bool) (stage : Stage) → (holds_unless fails (path_of stage.sight.root (codes "/etc/.pwd.lock")) Record (if_locked user hash today answers) stage).code ≡ returns.Success
      → Replaced user hash stage.sight.root today stage.sight.files stage.room (holds_unless fails (path_of stage.sight.root (codes "/etc/.pwd.lock")) Record (if_locked user hash today answers) stage)
  unfolding answers
  by_failing true stage e = absurd cc
  by_failing false stage e =
      let r = locked (record stage { sight = later stage.sight }) e in
      record { old = r.old; old_is = r.old_is; entries = r.entries; entries_are = r.entries_are; entry = r.entry; entry_is = r.entry_is; room_is = r.room_is; after_is = r.after_is }

  changed : (stage : Stage) → (changes_shadow user hash today answers stage).code ≡ returns.Success
      → Replaced user hash stage.sight.root today stage.sight.files stage.room (changes_shadow user hash today answers stage)
  unfolding changes_shadow holds_lock
  changed stage e = by_failing (stage.sight.failing 0) stage e

-- ---- the second pass

module _ (call : PlainCall) (user : List ℕ) where
  -- what the rest of the definition left, from a stage on
  pub record Done (stage : Stage) (p : Played) : Type 0 where
    pub user_stays : p.room.items.user ≡ stage.room.items.user
    pub written : Written user stage.sight.root stage.sight.clock stage.sight.files p.room p.files

  stored : (token : List ℕ) (stage : Stage) → length token ≤ 512 → stage.room.items.auth_tok ≡ Some token → (stores_token call user (Some token) answers stage).code ≡ returns.Success
      → Done stage (stores_token call user (Some token) answers stage)
  unfolding stores_token sees_clock draws_word
  stored token stage short is e =
      let r = changed user (hashed_token call.args stage.sight.clock.word token) (day_of stage.sight.clock.moment) stage e in
      record {
        user_stays = ap (λ (x : SeenRoom). x.items.user) r.room_is;
        written = record {
          token = token;
          token_is = ap (λ (x : SeenRoom). x.items.auth_tok) r.room_is ∙ is;
          short = short;
          args = call.args;
          old = r.old;
          old_is = r.old_is;
          entries = r.entries;
          entries_are = r.entries_are;
          entry = r.entry;
          entry_is = r.entry_is;
          after_is = r.after_is;
        };
      }

  by_usable : (empty long : Bool) (token : List ℕ) (stage : Stage) → (length token == 0) ≡ empty → nat_lt 512 (length token) ≡ long → stage.room.items.auth_tok ≡ Some token
      → (stores_token call user (cond (empty || long) None (Some token)) answers stage).code ≡ returns.Success → Done stage (stores_token call user (cond (empty || long) None (Some token)) answers stage)
  unfolding stores_token answers
  by_usable true long token stage n l is e = absurd cc
  by_usable false true token stage n l is e = absurd cc
  by_usable false false token stage n l is e = stored token stage (ltb-false 512 (length token) l) is e

  by_found : (found : Option (List ℕ)) (stage : Stage) → stage.room.items.auth_tok ≡ found → (stores_token call user (usable found) answers stage).code ≡ returns.Success
      → Done stage (stores_token call user (usable found) answers stage)
  unfolding stores_token answers
  by_found None stage is e = absurd cc
  by_found (Some token) stage is e = by_usable (length token == 0) (nat_lt 512 (length token)) token stage refl refl is e

  -- the stage with a new AUTHTOK
  abbrev with_token : List ℕ → Stage → Stage
  with_token token stage = in_room (record stage.room { items = record stage.room.items { auth_tok = Some token } }) stage

  by_new : (empty long : Bool) (token : List ℕ) (stage : Stage) → (length token == 0) ≡ empty → nat_lt 512 (length token) ≡ long
      → (sets_new (cond (empty || long) None (Some token)) (λ t. stores_token call user t answers) stage).code ≡ returns.Success
      → Done stage (sets_new (cond (empty || long) None (Some token)) (λ t. stores_token call user t answers) stage)
  unfolding stores_token answers sets_item
  by_new true long token stage n l e = absurd cc
  by_new false true token stage n l e = absurd cc
  by_new false false token stage n l e =
      let d = stored token (with_token token stage) (ltb-false 512 (length token) l) refl e in
      record { user_stays = d.user_stays; written = d.written }

  by_same : (same : Bool) (token : List ℕ) (stage : Stage) → (sets_new (cond same (usable (Some token)) None) (λ t. stores_token call user t answers) stage).code ≡ returns.Success
      → Done stage (sets_new (cond same (usable (Some token)) None) (λ t. stores_token call user t answers) stage)
  unfolding stores_token answers
  by_same true token stage e = by_new (length token == 0) (nat_lt 512 (length token)) token stage refl refl e
  by_same false token stage e = absurd cc

  by_replies : (replies : List Reply) (stage : Stage) → (sets_new (same_reply replies) (λ t. stores_token call user t answers) stage).code ≡ returns.Success
      → Done stage (sets_new (same_reply replies) (λ t. stores_token call user t answers) stage)
  unfolding stores_token answers
  by_replies [] stage e = absurd cc
  by_replies (a ∷ []) stage e = absurd cc
  by_replies (a ∷ b ∷ []) stage e = by_same (bytes_eq a.text b.text) a.text stage e
  by_replies (a ∷ b ∷ c ∷ cs) stage e = absurd cc

  by_answer : (answer : Result (List Reply) ConvFault) (room : SeenRoom) (stage : Stage) → room.items ≡ stage.room.items
      → (with_replies answer room (λ replies. sets_new (same_reply replies) (λ t. stores_token call user t answers)) stage).code ≡ returns.Success
      → Done stage (with_replies answer room (λ replies. sets_new (same_reply replies) (λ t. stores_token call user t answers)) stage)
  by_answer (Err fault) room stage same e = absurd cc
  by_answer (Ok replies) room stage same e =
      let d = by_replies replies (in_room room stage) e in
      record { user_stays = d.user_stays ∙ ap (λ (i : ItemTexts). i.user) same; written = d.written }

  by_use : (given : Bool) (stage : Stage) → (authtok_or_asks given (λ t. stores_token call user t answers) stage).code ≡ returns.Success → Done stage (authtok_or_asks given (λ t. stores_token call user t answers) stage)
  unfolding sees_items exchanges
  by_use true stage e = by_found stage.room.items.auth_tok stage refl e
  by_use false stage e = by_answer (speak new_prompts stage.room).answer (speak new_prompts stage.room).room stage refl e

  second : (stage : Stage) → (takes_token call (λ t. stores_token call user t answers) stage).code ≡ returns.Success → Done stage (takes_token call (λ t. stores_token call user t answers) stage)
  unfolding takes_token
  second stage e = by_use (has_argument (codes "use_authtok") call.args) stage e

  -- or nothing changed, because of the flag
  pub record Kept (stage : Stage) (p : Played) : Type 0 where
    pub flag : has_flag call.flags change_expired_authtok ≡ true
    pub files_are : p.files ≡ stage.sight.files

  abbrev pub Ended : Stage → Played → Type 0
  Ended stage p = Kept stage p ⊎ Done stage p

  by_flag : (first : Bool) (today : ℕ) (entry : Shadow) (stage : Stage) → first ≡ false → (checks_or_changes first call user today entry answers stage).code ≡ returns.Success → Ended stage (checks_or_changes first call user today entry answers stage)
  by_flag true today entry stage distinct e = absurd cc
  by_flag false today entry stage distinct e = inr (second stage e)

  by_keeping : (kept : Bool) (today : ℕ) (entry : Shadow) (stage : Stage) → is_kept call today entry ≡ kept → has_flag call.flags prelim_check ≡ false
      → (unless_token_is_kept kept call user today entry answers stage).code ≡ returns.Success → Ended stage (unless_token_is_kept kept call user today entry answers stage)
  unfolding answers
  by_keeping true today entry stage k distinct e = inl (record { flag = (and_parts (has_flag call.flags change_expired_authtok) _ k).0; files_are = refl })
  by_keeping false today entry stage k distinct e = by_flag (has_flag call.flags prelim_check) today entry stage distinct e

  module _ (distinct : has_flag call.flags prelim_check ≡ false) where
    by_looking : (look : KnownPassword) (stage : Stage) → (change_by call user look answers stage).code ≡ returns.Success → Ended stage (change_by call user look answers stage)
    unfolding change_by changes_entry sees_clock answers
    by_looking Unknown stage e = absurd cc
    by_looking Unavailable stage e = absurd cc
    by_looking (Plain hash) stage e = absurd cc
    by_looking (Shadowed entry) stage e = by_keeping (is_kept call (day_of stage.sight.clock.moment) entry) (day_of stage.sight.clock.moment) entry stage refl distinct e

    -- one more call of `Vault` in between
    onward : (stage : Stage) (p : Played) → Ended (record stage { sight = later stage.sight }) p → Ended stage (called p)
    onward stage p (inl k) = inl (record { flag = k.flag; files_are = k.files_are })
    onward stage p (inr d) = inr (record { user_stays = d.user_stays; written = d.written })

    by_password : (x : Bool) (hash : List ℕ) (stage : Stage) → (shadow_if_x x user hash (λ look. change_by call user look answers) stage).code ≡ returns.Success → Ended stage (shadow_if_x x user hash (λ look. change_by call user look answers) stage)
    unfolding reads_file
    by_password true hash stage e =
        let look = shadow_in user (content_seen (codes "/etc/shadow") account_limit stage.sight) in
        let next = record stage { sight = later stage.sight } in
        onward stage (change_by call user look answers next) (by_looking look next e)
    by_password false hash stage e = by_looking (Plain hash) stage e

    by_fields : (f : Field) (stage : Stage) → (after_passwd user f (λ look. change_by call user look answers) stage).code ≡ returns.Success → Ended stage (after_passwd user f (λ look. change_by call user look answers) stage)
    by_fields field.Unreadable stage e = by_looking Unavailable stage e
    by_fields field.Missing stage e = by_looking Unknown stage e
    by_fields (field.Holds hash) stage e = by_password (is_x hash) hash stage e

    pub looked : (stage : Stage) → (looks user (λ look. change_by call user look answers) stage).code ≡ returns.Success → Ended stage (looks user (λ look. change_by call user look answers) stage)
    unfolding looks reads_file
    looked stage e =
        let f = field_in user (content_seen (codes "/etc/passwd") account_limit stage.sight) in
        let next = record stage { sight = later stage.sight } in
        onward stage (after_passwd user f (λ look. change_by call user look answers) next) (by_fields f next e)
