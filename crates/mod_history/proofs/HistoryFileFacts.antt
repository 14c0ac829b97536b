-- What a call of pam_pwhistory(8) does to a file: it leaves it, or renews a user's line in it.
use Rattle.std.proofs.Common.{◌≡◌, ℕ, Bool, true, false, not, ◌==◌, cond, List, [], ◌∷◌, length, Option, Some, None, Result, Ok, Err, codes, nat_le, nat_lt, unwrap_or, ◌||◌, refl, sym, ap, ◌∙◌}
use Rattle.std.specs.Str.{bytes_eq}
use Rattle.std.proofs.lemmas.Slice.Eq.{bytes_eq-Decides}
use Rattle.pam_base.specs.declared.code.Code.{Code}
use Rattle.conv_port.specs.declared.conv.ConvFault.{ConvFault}
use Rattle.conv_port.specs.declared.message.Reply.{Reply}
use Rattle.pam_outside.specs.declared.held.LockKind.TheVariants.{Record}
use Rattle.pam_outside.specs.declared.vault.TheConstants.{MAX_FILE}
use Rattle.pam_outside.specs.Files.{File, file_at, file_put}
use Rattle.pam_outside.specs.Paths.{path_of}
use Rattle.pam_room.specs.Call.{PlainCall}
use Rattle.pam_room.specs.Module.{NamedData, Played, SeenRoom, Sight}
use Rattle.pam_room.specs.Say.{speak, user_asked}
use Rattle.std.specs.Result.{result_ok}
use Rattle.account_db.specs.declared.fault.DbFault.{DbFault}
use Rattle.account_db.specs.declared.passwd.Passwd.{Passwd}
use Rattle.account_db.specs.Passwd.{entry_of, passwds_of}
use Rattle.module_acts.specs.declared.content.Content.{Content}
use Rattle.module_acts.specs.declared.content.Content.TheVariants as content
use Rattle.module_acts.specs.Accounts.{account_limit, nothing_known, passwds_in}
use Rattle.module_acts.specs.Act.{Act, Stage, answers, asks_user, called, holds_lock, holds_unless, in_room, later, lets_go, reads_file, replaced as seen_after, replaces_file, sees_items, shows, unless_answered}
use Rattle.module_acts.specs.Content.{content_of}
use Rattle.module_acts.specs.Steps.{exchanges, sees_caller, sets_item, with_replies}
use Rattle.mod_unix.specs.declared.look.KnownPassword.{KnownPassword}
use Rattle.mod_unix.specs.declared.look.KnownPassword.TheVariants.{Unknown, Unavailable, Plain, Shadowed}
use Rattle.module_acts.specs.Arguments.{has_argument}
use Rattle.mod_unix.specs.Change.{authtok_or_asks, write_result, new_prompts, same_reply, sets_new, takes_token, usable}
use Rattle.mod_unix.specs.Look.{after_passwd, shadow_if_x as by_password, field_among, field_in, field_or_missing, is_x, looks, shadow_in}
use Rattle.mod_history.specs.declared.history.Remembered.{Remembered}
use Rattle.mod_history.specs.History.{history_of, history_text}
use Rattle.mod_history.specs.Pwhistory.{at_once, stores_if_fits, unless_remember_zero, stores_unless_used, checks_token, compares_token, history_in, history_limit, history_name, if_locked, is_refused, locks_history, pwhistory_plays, refuses_token, remember_in_history, remember_locked, remember_of, remembers, renew_if_known, renews, stores_text, unless_refused, unless_used, unsets_item}
use Rattle.mod_history.specs.Renewal.{hashes_of, renewed}
use Rattle.mod_history.specs.Standing.{Deed, left, replaced, Does, account_text, entry_hash, hash_by, hash_in, passwd_hash, present_hash, history_on_file}
use Rattle.mod_history.proofs.Renewed.{same}

-- ---- a file that is set

module _ (path bytes : List ℕ) where
  abbrev pub it : File
  it = record { path = path; bytes = bytes }

  put_by : (f : File) (fs : List File) (b : Bool) → bytes_eq f.path path ≡ b → file_at path (file_put path bytes fs) ≡ Some bytes → file_at path (cond b (it ∷ fs) (f ∷ file_put path bytes fs)) ≡ Some bytes
  put_by f fs true e below = rw (same path) refl
  put_by f fs false e below = rw e below

  pub put_there : (files : List File) → file_at path (file_put path bytes files) ≡ Some bytes
  put_there [] = rw (same path) refl
  put_there (f ∷ fs) = put_by f fs (bytes_eq f.path path) refl (put_there fs)

  module _ (other : List ℕ) (differs : bytes_eq path other ≡ false) where
    past_by : (f : File) (fs : List File) (b : Bool) → bytes_eq f.path path ≡ b → file_at other (file_put path bytes fs) ≡ file_at other fs → file_at other (cond b (it ∷ fs) (f ∷ file_put path bytes fs)) ≡ file_at other (f ∷ fs)
    past_by f fs true e below =
        let passed : bytes_eq f.path other ≡ false = ap (λ (p : List ℕ). bytes_eq p other) ((bytes_eq-Decides f.path path).0 e) ∙ differs in
        rw (passed, differs) refl
    past_by f fs false e below = rw below refl

    pub put_past : (files : List File) → file_at other (file_put path bytes files) ≡ file_at other files
    put_past [] = rw differs refl
    put_past (f ∷ fs) = past_by f fs (bytes_eq f.path path) refl (put_past fs)

-- ---- the steps

module _ (path : List ℕ) (call : PlainCall) (room : SeenRoom) where
  -- what the module does leaves the file or renews a line in it
  abbrev pub DoesOne : Sight → Played → Type 0
  DoesOne sight p = (d : Deed) × Does path call room sight p d

  module _ (user : List ℕ) (asked : user ≡ unwrap_or (user_asked room).room.items.user []) where
    module _ (hash : List ℕ) where
      -- the user's hash is this one
      abbrev pub Knows : Stage → Type 0
      Knows stage = present_hash stage.sight.root stage.sight.files user ≡ Some hash

      -- the lock is let go, and the rest is done
      abbrev ends : Option Code → Act
      ends done = lets_go true (unless_refused answers done)

      abbrev text_of : List Remembered → List ℕ
      text_of on_file = history_text (renewed (remember_of call.args) user hash on_file)

      -- a file is set, if nothing fails
      put : (stage : Stage) (on_file : List Remembered) (fails : Bool) → Knows stage → history_on_file (file_at (path_of stage.sight.root history_name) stage.sight.files) ≡ Some on_file
          → DoesOne stage.sight (called (ends (Some (write_result (not fails))) (record stage { sight = seen_after fails (path_of stage.sight.root history_name) (text_of on_file) stage.sight })))
      unfolding answers lets_go
      put stage on_file true knows stood = (left, refl)
      put stage on_file false knows stood = by (bytes_eq (path_of stage.sight.root history_name) path) refl
        where
          by : (t : Bool) → bytes_eq (path_of stage.sight.root history_name) path ≡ t
              → DoesOne stage.sight (called (ends (Some (write_result true)) (record stage { sight = seen_after false (path_of stage.sight.root history_name) (text_of on_file) stage.sight })))
          by true e =
              let is : path_of stage.sight.root history_name ≡ path = (bytes_eq-Decides (path_of stage.sight.root history_name) path).0 e in
              let new = text_of on_file in (
                replaced user hash,
                record {
                  code_is = refl;
                  user_is = asked;
                  hash_is = knows;
                  on_file = on_file;
                  stood = ap (λ (p : List ℕ). history_on_file (file_at p stage.sight.files)) (sym is) ∙ stood;
                  stands = ap (λ (p : List ℕ). file_at p (file_put (path_of stage.sight.root history_name) new stage.sight.files)) (sym is) ∙ put_there (path_of stage.sight.root history_name) new stage.sight.files;
                },
              )
          by false e = (left, put_past (path_of stage.sight.root history_name) (text_of on_file) path e stage.sight.files)

      stored : (stage : Stage) (on_file : List Remembered) (short : Bool) → Knows stage → history_on_file (file_at (path_of stage.sight.root history_name) stage.sight.files) ≡ Some on_file
          → DoesOne stage.sight (stores_if_fits short (text_of on_file) (λ code. ends (Some code)) stage)
      unfolding answers lets_go replaces_file
      stored stage on_file true knows stood = put stage on_file (stage.sight.failing 0 || nat_lt MAX_FILE (length (text_of on_file))) knows stood
      stored stage on_file false knows stood = (left, refl)

      used : (stage : Stage) (on_file : List Remembered) (refused : Bool) → Knows stage → history_on_file (file_at (path_of stage.sight.root history_name) stage.sight.files) ≡ Some on_file
          → DoesOne stage.sight (stores_unless_used refused (remember_of call.args) user hash on_file ends stage)
      unfolding answers lets_go refuses_token unsets_item shows stores_text
      used stage on_file true knows stood = (left, refl)
      used stage on_file false knows stood = stored stage on_file (nat_le (length (text_of on_file)) history_limit) knows stood

      module _ (token : List ℕ) where
        by_found : (stage : Stage) (found : Option (List Remembered)) → Knows stage → ((on_file : List Remembered) → found ≡ Some on_file → history_on_file (file_at (path_of stage.sight.root history_name) stage.sight.files) ≡ Some on_file)
            → DoesOne stage.sight (remember_in_history call (remember_of call.args) user hash token found ends stage)
        unfolding answers lets_go sees_caller
        by_found stage None knows stood = (left, refl)
        by_found stage (Some on_file) knows stood = used stage on_file (is_refused call.args stage.sight.caller token hash (hashes_of user on_file)) knows (stood on_file refl)

        by_long : (stage : Stage) (long : Bool) (text : List ℕ) → Knows stage → file_at (path_of stage.sight.root history_name) stage.sight.files ≡ Some text
            → DoesOne stage.sight (remember_in_history call (remember_of call.args) user hash token (history_in (cond long content.Unreadable (content.Holds text))) ends stage)
        by_long stage true text knows at = by_found stage None knows (λ on_file e. absurd cc)
        by_long stage false text knows at = by_found stage (history_of text) knows (λ on_file e. ap history_on_file at ∙ e)

        by_file : (stage : Stage) (o : Option (List ℕ)) (fails : Bool) → Knows stage → file_at (path_of stage.sight.root history_name) stage.sight.files ≡ o
            → DoesOne stage.sight (remember_in_history call (remember_of call.args) user hash token (history_in (content_of fails history_limit o)) ends stage)
        unfolding content_of
        by_file stage o true knows at = by_found stage None knows (λ on_file e. absurd cc)
        by_file stage None false knows at = by_found stage (Some []) knows (λ on_file e. ap history_on_file at ∙ e)
        by_file stage (Some text) false knows at = by_long stage (nat_lt history_limit (length text)) text knows at

        read_again : (stage : Stage) → Knows stage → DoesOne stage.sight (remember_locked call (remember_of call.args) user hash token ends stage)
        unfolding remember_locked reads_file
        read_again stage knows = by_file (record stage { sight = later stage.sight }) (file_at (path_of stage.sight.root history_name) stage.sight.files) (stage.sight.failing 0) knows refl

        by_failing : (stage : Stage) (fails : Bool) → Knows stage
            → DoesOne stage.sight (holds_unless fails (path_of stage.sight.root (codes "/etc/.pwd.lock")) Record (if_locked call (remember_of call.args) user hash token answers) stage)
        unfolding answers unsets_item
        by_failing stage true knows = (left, refl)
        by_failing stage false knows = read_again (record stage { sight = later stage.sight }) knows

        by_lock : (stage : Stage) → Knows stage → DoesOne stage.sight (locks_history call (remember_of call.args) user hash token answers stage)
        unfolding locks_history holds_lock
        by_lock stage knows = by_failing stage (stage.sight.failing 0) knows

        unless : (stage : Stage) (refused : Bool) → Knows stage → DoesOne stage.sight (unless_used refused call (remember_of call.args) user hash token answers stage)
        unfolding answers refuses_token unsets_item shows
        unless stage true knows = (left, refl)
        unless stage false knows = by_lock stage knows

        compared : (stage : Stage) (found : Option (List Remembered)) → Knows stage → DoesOne stage.sight (compares_token call (remember_of call.args) user hash token found answers stage)
        unfolding answers sees_caller
        compared stage None knows = (left, refl)
        compared stage (Some on_file) knows = unless stage (is_refused call.args stage.sight.caller token hash (hashes_of user on_file)) knows

        by_zero : (stage : Stage) (none : Bool) → Knows stage → DoesOne stage.sight (unless_remember_zero none call (remember_of call.args) user hash token answers stage)
        unfolding answers reads_file
        by_zero stage true knows = (left, refl)
        by_zero stage false knows =
            compared (record stage { sight = later stage.sight }) (history_in (content_of (stage.sight.failing 0) history_limit (file_at (path_of stage.sight.root history_name) stage.sight.files))) knows

      remembering : (token : Option (List ℕ)) (stage : Stage) → Knows stage → DoesOne stage.sight (remembers call user hash token answers stage)
      unfolding remembers answers
      remembering None stage knows = (left, refl)
      remembering (Some token) stage knows = by_zero token stage (remember_of call.args == 0) knows

      -- ---- the new token

      abbrev rest : Option (List ℕ) → Act
      rest token = remembers call user hash token answers

      taken : (token : Option (List ℕ)) (stage : Stage) → Knows stage → DoesOne stage.sight (sets_new token rest stage)
      unfolding sets_item
      taken None stage knows = remembering None stage knows
      taken (Some token) stage knows = remembering (Some token) (in_room (record stage.room { items = record stage.room.items { auth_tok = Some token } }) stage) knows

      replied : (answer : Result (List Reply) ConvFault) (after : SeenRoom) (stage : Stage) → Knows stage → DoesOne stage.sight (with_replies answer after (λ replies. sets_new (same_reply replies) rest) stage)
      replied (Err fault) after stage knows = (left, refl)
      replied (Ok replies) after stage knows = taken (same_reply replies) (in_room after stage) knows

      by_use_authtok : (given : Bool) (stage : Stage) → Knows stage → DoesOne stage.sight (authtok_or_asks given rest stage)
      unfolding sees_items exchanges
      by_use_authtok true stage knows = remembering (usable stage.room.items.auth_tok) stage knows
      by_use_authtok false stage knows = replied (speak new_prompts stage.room).answer (speak new_prompts stage.room).room stage knows

      renewing : (stage : Stage) → Knows stage → DoesOne stage.sight (renews call user hash answers stage)
      unfolding renews takes_token
      renewing stage knows = by_use_authtok (has_argument (codes "use_authtok") call.args) stage knows

    -- ---- what is known of the user's password

    abbrev next : KnownPassword → Act
    next look = renew_if_known call user look answers

    looking : (look : KnownPassword) (stage : Stage) → present_hash stage.sight.root stage.sight.files user ≡ hash_in look → DoesOne stage.sight (next look stage)
    unfolding renew_if_known answers
    looking Unknown stage is = (left, refl)
    looking Unavailable stage is = (left, refl)
    looking (Plain hash) stage is = renewing hash stage is
    looking (Shadowed entry) stage is = renewing entry.hash stage is

    failed : (stage : Stage) → DoesOne stage.sight (next Unavailable stage)
    unfolding renew_if_known answers
    failed stage = (left, refl)

    abbrev shadow_at : Stage → Content
    shadow_at stage = account_text stage.sight.root (codes "/etc/shadow") stage.sight.files

    abbrev hash_at : Stage → Option (List ℕ)
    hash_at stage = present_hash stage.sight.root stage.sight.files user

    by_shadow : (fails : Bool) (stage : Stage) → hash_at stage ≡ hash_in (shadow_in user (shadow_at stage))
        → DoesOne stage.sight (next (shadow_in user (content_of fails account_limit (file_at (path_of stage.sight.root (codes "/etc/shadow")) stage.sight.files))) stage)
    unfolding content_of
    by_shadow true stage is = failed stage
    by_shadow false stage is = looking (shadow_in user (shadow_at stage)) stage is

    by_mark : (x : Bool) (hash : List ℕ) (stage : Stage) → hash_at stage ≡ hash_by x user hash (shadow_at stage) → DoesOne stage.sight (by_password x user hash next stage)
    unfolding reads_file
    by_mark true hash stage is = by_shadow (stage.sight.failing 0) (record stage { sight = later stage.sight }) is
    by_mark false hash stage is = looking (Plain hash) stage is

    by_entry : (o : Option Passwd) (stage : Stage) → hash_at stage ≡ entry_hash user o (shadow_at stage) → DoesOne stage.sight (after_passwd user (field_or_missing o) next stage)
    by_entry None stage is = looking Unknown stage is
    by_entry (Some entry) stage is = by_mark (is_x entry.password) entry.password stage is

    by_passwds : (r : Result (List Passwd) DbFault) (stage : Stage) → hash_at stage ≡ passwd_hash user (result_ok r) (shadow_at stage) → DoesOne stage.sight (after_passwd user (field_among user r) next stage)
    by_passwds (Err fault) stage is = failed stage
    by_passwds (Ok entries) stage is = by_entry (entry_of user entries) stage is

    by_content : (c : Content) (stage : Stage) → hash_at stage ≡ passwd_hash user (passwds_in c) (shadow_at stage) → DoesOne stage.sight (after_passwd user (field_in user c) next stage)
    by_content content.Absent stage is = failed stage
    by_content content.Unreadable stage is = failed stage
    by_content (content.Holds text) stage is = by_passwds (passwds_of text) stage is

    by_passwd : (fails : Bool) (stage : Stage) → DoesOne stage.sight (after_passwd user (field_in user (content_of fails account_limit (file_at (path_of stage.sight.root (codes "/etc/passwd")) stage.sight.files))) next stage)
    unfolding content_of
    by_passwd true stage = failed stage
    by_passwd false stage = by_content (account_text stage.sight.root (codes "/etc/passwd") stage.sight.files) stage refl

    looked : (stage : Stage) → DoesOne stage.sight (looks user next stage)
    unfolding looks reads_file
    looked stage = by_passwd (stage.sight.failing 0) (record stage { sight = later stage.sight })

  -- ---- the module

  picked : (sight : Sight) (b : Bool) (x y : Played) → DoesOne sight x → DoesOne sight y → DoesOne sight (cond b x y)
  picked sight true x y l r = l
  picked sight false x y l r = r

  checked : (stage : Stage) → stage.room ≡ room → DoesOne stage.sight (checks_token call answers stage)
  unfolding checks_token asks_user
  checked stage is =
      let after = user_asked stage.room in
      let user = unwrap_or after.room.items.user [] in
      picked stage.sight after.refused _ _ (left, refl) (looked user (ap (λ (r : SeenRoom). unwrap_or (user_asked r).room.items.user []) is) (in_room after.room stage))

  by_answer : (o : Option Code) (stage : Stage) → stage.room ≡ room → DoesOne stage.sight (unless_answered o (checks_token call answers) stage)
  unfolding answers
  by_answer (Some code) stage is = (left, refl)
  by_answer None stage is = checked stage is

  pub does_one : (held : List NamedData) (sight : Sight) → DoesOne sight (pwhistory_plays call room held sight)
  does_one held sight = by_answer (at_once call.func call.flags) (record { room = room; held = held; known = nothing_known; sight = sight }) refl
