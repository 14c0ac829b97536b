-- Chauthtok of pam_unix over other files that agree for the user.
use Rattle.std.proofs.Common.{◌≡◌, ◌≢◌, ℕ, ◌^◌, ◌<◌, ◌≤◌, Bool, true, false, not, ◌||◌, ◌==◌, nat_lt, cond, List, [], ◌∷◌, length, Option, Some, None, Result, Ok, Err, codes, refl, sym, ap, ◌∙◌, subst, eqb, arith}
use Rattle.std.specs.List.{list_any}
use Rattle.std.specs.Str.{bytes_eq}
use Rattle.std.proofs.lemmas.Bool.{le-ltb}
use Rattle.pam_base.specs.Bytes.{has_byte}
use Rattle.pam_base.specs.declared.call.Func.{Func}
use Rattle.pam_base.specs.declared.call.Func.TheVariants.{ChAuthTok}
use Rattle.pam_base.specs.declared.code.Code.{Code}
use Rattle.pam_base.specs.declared.code.Code.TheVariants as returns
use Rattle.pam_base.specs.declared.item.ItemName.TheVariants.{AuthTok}
use Rattle.conv_port.specs.declared.message.Reply.{Reply}
use Rattle.pam_outside.specs.declared.held.LockKind.TheVariants.{Record}
use Rattle.pam_outside.specs.declared.vault.TheConstants.{MAX_FILE}
use Rattle.pam_outside.specs.Files.{File, file_at, file_put}
use Rattle.pam_outside.specs.Paths.{path_of}
use Rattle.pam_room.specs.Call.{PlainCall, has_flag, prelim_check}
use Rattle.pam_room.specs.Module.{Played}
use Rattle.pam_room.specs.Say.{user_asked}
use Rattle.account_db.specs.declared.fault.DbFault.{DbFault}
use Rattle.account_db.specs.declared.shadow.Shadow.{Shadow}
use Rattle.account_db.specs.Replace.{changed_entries, renewed, unless_faulty_file, with_hash}
use Rattle.account_db.specs.Shadow.{shadow_of, shadows_of}
use Rattle.module_acts.specs.declared.content.Content.{Content}
use Rattle.module_acts.specs.declared.content.Content.TheVariants as content
use Rattle.module_acts.specs.Accounts.{account_limit, nothing_known}
use Rattle.module_acts.specs.Act.{Act, Stage, answers, called, draws_word, drew, lets_go, reads_file, replaced, replaces_file}
use Rattle.module_acts.specs.Arguments.{has_argument}
use Rattle.module_acts.specs.Content.{content_of}
use Rattle.module_acts.specs.Steps.{sees_clock}
use Rattle.sha_crypt.specs.declared.setting.SettingFault.{SettingFault}
use Rattle.sha_crypt.specs.Hash.{crypted}
use Rattle.sha_crypt.specs.Setting.{is_forbidden}
use Rattle.mod_unix.specs.declared.look.KnownPassword.{KnownPassword}
use Rattle.mod_unix.specs.declared.look.KnownPassword.TheVariants.{Unknown, Unavailable, Plain, Shadowed}
use Rattle.mod_unix.specs.Aging.{day_of}
use Rattle.mod_unix.specs.Authenticate.{is_empty}
use Rattle.mod_unix.specs.Change.{asks_old, authtok_or_asks, unless_too_early, asks_old_unless_empty, unless_token_is_kept, checks_or_changes, unless_caller_is_root, replaces_shadow, stores_if_taken, change_by, changed_by, changed_shadow, changes_entry, changes_locked, changes_shadow, changes_token, if_locked, is_kept, is_too_early, new_prompts, same_reply, sets_new, stores_token, takes_token, tries_change, usable, write_result}
use Rattle.mod_unix.specs.Look.{looks, shadow_among, shadowed}
use Rattle.mod_unix.specs.NewHash.{hashed_token, made_hash, new_setting}
use Rattle.mod_unix.specs.Unix.{act_of_func}
use Rattle.mod_unix.specs.Verify.{hash_verified}
use Rattle.laws_module.specs.Others.{AgreeFor, IsShadow}
use Rattle.laws_module.specs.OwnEntry.{AgreeToChange, HasRoom, NewHash, OthersDontMatterToChange, with_hashes}
use Rattle.laws_module.proofs.ReplacedShadowFacts.{elsewhere_put, put_there, not_passwd}
use Rattle.laws_module.proofs.Steps.{Agrees, Alike as AlikeBy, Same, SameFrom as SameBy, answering, asking, asking_token, drawing, exchanging, holding, letting_go, looking, on, once_more, seeing_caller, seeing_clock, seeing_items, setting, with_files, within}

-- ---- a new hash fits a field

part_false : (a b : Bool) → (a || b) ≡ false → (a ≡ false) × (b ≡ false)
part_false true b e = absurd cc
part_false false b e = (refl, e)

no_separator : (hash : List ℕ) → list_any is_forbidden hash ≡ false → (has_byte 58 hash ≡ false) × (has_byte 10 hash ≡ false)
no_separator [] e = (refl, refl)
no_separator (b ∷ bs) e =
    let parts = part_false (is_forbidden b) (list_any is_forbidden bs) e in
    let colon = part_false (eqb b 0 || eqb b 10) (eqb b 58) parts.0 in
    let newline = part_false (eqb b 0) (eqb b 10) colon.0 in
    let rest = no_separator bs parts.1 in
    (rw (colon.1) rest.0, rw (newline.1) rest.1)

-- what account_db and sha_crypt say of hashes and of shadow with a new one
abbrev pub HashesFit : Type 0
HashesFit = (setting key hash : List ℕ) → crypted setting key ≡ Ok hash → list_any is_forbidden hash ≡ false

abbrev pub ReadsAgain : Type 0
ReadsAgain =
    (user hash : List ℕ) (day : ℕ) (text : List ℕ) (entries : List Shadow) → has_byte 58 hash ≡ false → has_byte 10 hash ≡ false → day < 10 ^ 9
    → shadows_of text ≡ Ok entries → shadows_of (with_hash user hash day text) ≡ Ok (changed_entries user hash day entries)

abbrev pub OwnChanged : Type 0
OwnChanged =
    (user hash : List ℕ) (day : ℕ) (entries : List Shadow) (entry : Shadow) → shadow_of user entries ≡ Some entry
    → shadow_of user (changed_entries user hash day entries) ≡ Some (renewed hash day entry)

module _ (fits : HashesFit) where
  made_fits : (setting key : List ℕ) (made : Result (List ℕ) SettingFault) → crypted setting key ≡ made → list_any is_forbidden (made_hash made) ≡ false
  made_fits setting key (Ok hash) is = fits setting key hash is
  made_fits setting key (Err fault) is = refl

  pub token_fits : (args : List (List ℕ)) (word : ℕ) (token : List ℕ)
      → (has_byte 58 (hashed_token args word token) ≡ false) × (has_byte 10 (hashed_token args word token) ≡ false)
  unfolding hashed_token
  token_fits args word token =
      no_separator (made_hash (crypted (new_setting args word) token)) (made_fits (new_setting args word) token (crypted (new_setting args word) token) refl)

pub few_days : (moment : ℕ) → moment ≤ 1000000000000 → day_of moment < 10 ^ 9
few_days moment le = omega arith

-- the new text of shadow
pub text_of : (user hash : List ℕ) (today : ℕ) (text : List ℕ) (entries : List Shadow) → shadows_of text ≡ Ok entries
    → changed_shadow user hash today (content.Holds text) ≡ changed_by (shadowed (shadow_of user entries)) (Ok (with_hash user hash today text))
unfolding changed_shadow
text_of user hash today text entries are =
    ap (λ (r : Result (List Shadow) DbFault). changed_by (shadow_among user r) (unless_faulty_file r (with_hash user hash today text))) are

some_same : (a b : List ℕ) → Some a ≡ Some b → a ≡ b
some_same a b e = cc

module _ (read : ReadsAgain) (own : OwnChanged) (fits : HashesFit) (user : List ℕ) where
  abbrev R : List ℕ → ℕ → List File → List File → Type 0
  R root moment files others = AgreeToChange user root moment files others

  abbrev Alike : Act → Type 0
  Alike act = AlikeBy R act

  abbrev AllAlike : (Code → Act) → Type 0
  AllAlike act = (code : Code) → Alike (act code)

  -- ---- shadow is replaced

  module _ (n : NewHash) where
    abbrev hash : List ℕ
    hash = hashed_token n.args n.word n.token

    abbrev today : ℕ
    today = day_of n.moment

    abbrev new : List ℕ → List ℕ
    new text = with_hash user hash today text

    -- a readable shadow with the new hash
    is_shadow : (root : List ℕ) (files : List File) (entries : List Shadow) (s : IsShadow root files entries) → HasRoom user root files
        → IsShadow root (file_put (path_of root (codes "/etc/shadow")) (new s.text) files) (changed_entries user hash today entries)
    is_shadow root files entries s room = record {
      text = new s.text;
      text_is = put_there (path_of root (codes "/etc/shadow")) (new s.text) files;
      entries_are = read user hash today s.text entries (token_fits fits n.args n.word n.token).0 (token_fits fits n.args n.word n.token).1
          (few_days n.moment n.is_time) s.entries_are;
      fits = room s.text (n ∷ []) s.text_is;
    }

    has_room : (root : List ℕ) (files : List File) (entries : List Shadow) (s : IsShadow root files entries) → HasRoom user root files
        → HasRoom user root (file_put (path_of root (codes "/etc/shadow")) (new s.text) files)
    has_room root files entries s room text hashes at =
        let same : new s.text ≡ text = some_same (new s.text) text (sym (put_there (path_of root (codes "/etc/shadow")) (new s.text) files) ∙ at) in
        subst (λ (t : List ℕ). length (with_hashes user hashes t) ≤ account_limit) same (room s.text (n ∷ hashes) s.text_is)

    passwd_stays : (root bytes : List ℕ) (files : List File)
        → file_at (path_of root (codes "/etc/passwd")) (file_put (path_of root (codes "/etc/shadow")) bytes files) ≡ file_at (path_of root (codes "/etc/passwd")) files
    passwd_stays root bytes files = elsewhere_put (path_of root (codes "/etc/shadow")) bytes (path_of root (codes "/etc/passwd")) files (not_passwd root)

    both_put : (root : List ℕ) (moment : ℕ) (files others : List File) (r : AgreeToChange user root moment files others) (entry : Shadow)
        → shadow_of user r.agree.entries ≡ Some entry
        → AgreeToChange user root moment (file_put (path_of root (codes "/etc/shadow")) (new r.agree.first.text) files)
        (file_put (path_of root (codes "/etc/shadow")) (new r.agree.second.text) others)
    both_put root moment files others r entry is =
        let a = r.agree in
        record {
          agree = record {
            passwd = passwd_stays root (new a.second.text) others ∙ a.passwd ∙ sym (passwd_stays root (new a.first.text) files);
            entries = changed_entries user hash today a.entries;
            first = is_shadow root files a.entries a.first r.here;
            later = changed_entries user hash today a.later;
            second = is_shadow root others a.later a.second r.there;
            entry = own user hash today a.later entry (a.entry ∙ is) ∙ sym (own user hash today a.entries entry is);
          };
          here = has_room root files a.entries a.first r.here;
          there = has_room root others a.later a.second r.there;
          is_time = r.is_time;
        }

    abbrev shadow_at : Stage → List ℕ
    shadow_at stage = path_of stage.sight.root (codes "/etc/shadow")

    set_by : (fails : Bool) (here there : List ℕ) (act : Bool → Act) → ((done : Bool) → Alike (act done)) → (stage : Stage) (others : List File)
        → Agrees R stage others
        → R stage.sight.root stage.sight.clock.moment (file_put (shadow_at stage) here stage.sight.files) (file_put (shadow_at stage) there others)
        → SameBy R stage (called (act (not fails) (record stage { sight = replaced fails (shadow_at stage) there (record stage.sight { files = others }) })))
        (called (act (not fails) (record stage { sight = replaced fails (shadow_at stage) here stage.sight })))
    set_by true here there act next stage others r after =
        once_more R stage.sight.root stage.sight.clock.moment (act false (with_files others (on stage))) (act false (on stage)) (next false (on stage) others r)
    set_by false here there act next stage others r after =
        let now : Stage = with_files (file_put (shadow_at stage) here stage.sight.files) (on stage) in
        let there_now : Stage = with_files (file_put (shadow_at stage) there others) (on stage) in
        once_more R stage.sight.root stage.sight.clock.moment (act true there_now) (act true now) (next true now (file_put (shadow_at stage) there others) after)

    put : (act : Code → Act) → AllAlike act → (entry : Shadow) (stage : Stage) (others : List File) (r : Agrees R stage others)
        → shadow_of user r.agree.entries ≡ Some entry
        → SameBy R stage
        (replaces_shadow (Some (new r.agree.second.text)) act (with_files others stage))
        (replaces_shadow (Some (new r.agree.first.text)) act stage)
    unfolding replaces_file
    put act all entry stage others r is =
        let here = new r.agree.first.text in
        let there = new r.agree.second.text in
        let short_here : nat_lt MAX_FILE (length here) ≡ false = le-ltb MAX_FILE (length here) (r.here r.agree.first.text (n ∷ []) r.agree.first.text_is) in
        let short_there : nat_lt MAX_FILE (length there) ≡ false = le-ltb MAX_FILE (length there) (r.there r.agree.second.text (n ∷ []) r.agree.second.text_is) in
        rw (short_here, short_there)
        (set_by (stage.sight.failing 0 || false) here there (λ done. act (write_result done)) (λ done. all (write_result done)) stage others r
        (both_put stage.sight.root stage.sight.clock.moment stage.sight.files others r entry is))

    by_entry : (act : Code → Act) → AllAlike act → (found : Option Shadow) (stage : Stage) (others : List File) (r : Agrees R stage others)
        → shadow_of user r.agree.entries ≡ found
        → SameBy R stage
        (replaces_shadow (changed_by (shadowed found) (Ok (new r.agree.second.text))) act (with_files others stage))
        (replaces_shadow (changed_by (shadowed found) (Ok (new r.agree.first.text))) act stage)
    by_entry act all None stage others r is = all returns.AuthtokErr stage others r
    by_entry act all (Some entry) stage others r is = put act all entry stage others r is

    -- what is put there, if shadow is read
    new_text : (root : List ℕ) (files : List File) (entries : List Shadow) (s : IsShadow root files entries)
        → changed_shadow user hash today (content_of false account_limit (file_at (path_of root (codes "/etc/shadow")) files))
        ≡ changed_by (shadowed (shadow_of user entries)) (Ok (new s.text))
    new_text root files entries s =
        ap (λ (o : Option (List ℕ)). changed_shadow user hash today (content_of false account_limit o)) s.text_is
        ∙ ap (changed_shadow user hash today) (within account_limit s.text s.fits)
        ∙ text_of user hash today s.text entries s.entries_are

    unread : (act : Code → Act) → AllAlike act → (stage : Stage) (others : List File) → Agrees R stage others
        → SameBy R stage
        (replaces_shadow (changed_shadow user hash today (content_of true account_limit (file_at (shadow_at stage) others))) act (with_files others stage))
        (replaces_shadow (changed_shadow user hash today (content_of true account_limit (file_at (shadow_at stage) stage.sight.files))) act stage)
    unfolding content_of changed_shadow
    unread act all stage others r = all returns.AuthtokErr stage others r

    by_failing : (act : Code → Act) → AllAlike act → (fails : Bool) (stage : Stage) (others : List File) → Agrees R stage others
        → SameBy R stage
        (replaces_shadow (changed_shadow user hash today (content_of fails account_limit (file_at (shadow_at stage) others))) act (with_files others stage))
        (replaces_shadow (changed_shadow user hash today (content_of fails account_limit (file_at (shadow_at stage) stage.sight.files))) act stage)
    by_failing act all true stage others r = unread act all stage others r
    by_failing act all false stage others r =
        let a = r.agree in
        let here = new_text stage.sight.root stage.sight.files a.entries a.first in
        let there = new_text stage.sight.root others a.later a.second
        ∙ ap (λ (found : Option Shadow). changed_by (shadowed found) (Ok (new a.second.text))) a.entry in
        subst (λ (o : Option (List ℕ)). SameBy R stage
        (replaces_shadow (changed_shadow user hash today (content_of false account_limit (file_at (shadow_at stage) others))) act (with_files others stage))
        (replaces_shadow o act stage)) (sym here)
        (subst (λ (o : Option (List ℕ)). SameBy R stage (replaces_shadow o act (with_files others stage))
        (replaces_shadow (changed_by (shadowed (shadow_of user a.entries)) (Ok (new a.first.text))) act stage)) (sym there)
        (by_entry act all (shadow_of user a.entries) stage others r refl))

    read_again : (act : Code → Act) → AllAlike act → Alike (changes_locked user hash today act)
    unfolding changes_locked reads_file
    read_again act all stage others r =
        once_more R stage.sight.root stage.sight.clock.moment
        (replaces_shadow (changed_shadow user hash today (content_of (stage.sight.failing 0) account_limit (file_at (shadow_at stage) others))) act (with_files others (on stage)))
        (replaces_shadow (changed_shadow user hash today (content_of (stage.sight.failing 0) account_limit (file_at (shadow_at stage) stage.sight.files))) act (on stage))
        (by_failing act all (stage.sight.failing 0) (on stage) others r)

    if_held : (act : Code → Act) → AllAlike act → (b : Bool) → Alike (if_locked user hash today act b)
    if_held act all true = read_again (λ code. lets_go true (act code)) (λ code. letting_go R true (act code) (all code))
    if_held act all false = all returns.AuthtokErr

    changing : (act : Code → Act) → AllAlike act → Alike (changes_shadow user hash today act)
    unfolding changes_shadow
    changing act all = holding R (codes "/etc/.pwd.lock") Record (if_locked user hash today act) (if_held act all)

  -- ---- the second pass

  module _ (call : PlainCall) (act : Code → Act) (all : AllAlike act) where
    hashed : (token : List ℕ) → Alike (stores_if_taken call user (Some token) act)
    unfolding sees_clock draws_word
    hashed token stage others r =
        let s = changing (record {
          args = call.args;
          word = stage.sight.clock.word;
          token = token;
          moment = stage.sight.clock.moment;
          is_time = r.is_time;
        }) act all stage others r in
        record { rest = ap drew s.rest; left = s.left }

    stored : (token : Option (List ℕ)) → Alike (stores_token call user token act)
    unfolding stores_token
    stored None = all returns.AuthtokErr
    stored (Some token) = hashed token

    token_set : (token : Option (List ℕ)) → Alike (sets_new token (λ t. stores_token call user t act))
    token_set None = stored None
    token_set (Some token) = setting R AuthTok token (stores_token call user (Some token) act) (stored (Some token))

    token_taken : (given : Bool) → Alike (authtok_or_asks given (λ t. stores_token call user t act))
    token_taken true = seeing_items R (λ items. stores_token call user (usable items.auth_tok) act) (λ items. stored (usable items.auth_tok))
    token_taken false =
        exchanging R new_prompts (λ replies. sets_new (same_reply replies) (λ t. stores_token call user t act)) (λ replies. token_set (same_reply replies))

    second : Alike (takes_token call (λ t. stores_token call user t act))
    unfolding takes_token
    second = token_taken (has_argument (codes "use_authtok") call.args)

    -- ---- the first pass

    module _ (today : ℕ) (entry : Shadow) where
      old_asked : Alike (asks_old entry act)
      unfolding asks_old
      old_asked = asking_token R true (codes "Password: ") (λ token. act (hash_verified entry.hash token)) (λ token. all (hash_verified entry.hash token))

      unless_none : (none : Bool) → Alike (asks_old_unless_empty none entry act)
      unless_none true = all returns.Success
      unless_none false = old_asked

      unless_early : (early : Bool) → Alike (unless_too_early early entry act)
      unless_early true = all returns.AuthtokErr
      unless_early false = unless_none (is_empty entry.hash)

      unless_root : (root : Bool) → Alike (unless_caller_is_root root today entry act)
      unless_root true = all returns.Success
      unless_root false = unless_early (is_too_early today entry.last_change entry.min)

      first : Alike (tries_change today entry act)
      unfolding tries_change
      first = seeing_caller R (λ caller. unless_caller_is_root (caller == 0) today entry act) (λ caller. unless_root (caller == 0))

      -- ---- both

      pass : (check : Bool) → Alike (checks_or_changes check call user today entry act)
      pass true = first
      pass false = second

      unless_kept : (kept : Bool) → Alike (unless_token_is_kept kept call user today entry act)
      unless_kept true = all returns.Success
      unless_kept false = pass (has_flag call.flags prelim_check)

    entry_changed : (entry : Shadow) → Alike (changes_entry call user entry act)
    unfolding changes_entry
    entry_changed entry =
        seeing_clock R (λ clock. unless_token_is_kept (is_kept call (day_of clock.moment) entry) call user (day_of clock.moment) entry act)
        (λ clock. unless_kept (day_of clock.moment) entry (is_kept call (day_of clock.moment) entry))

    known : (look : KnownPassword) → Alike (change_by call user look act)
    unfolding change_by
    known Unknown = all returns.UserUnknown
    known Unavailable = all returns.AuthinfoUnavail
    known (Plain hash) = all returns.AuthtokErr
    known (Shadowed entry) = entry_changed entry

  agrees : (root : List ℕ) (moment : ℕ) (files others : List File) → R root moment files others → AgreeFor user root files others
  agrees root moment files others r = r.agree

  changed : (call : PlainCall) → Alike (looks user (λ look. change_by call user look answers))
  changed call = looking R user agrees (λ look. change_by call user look answers) (known call answers (answering R))

  asked_first : (call : PlainCall) (stage : Stage) (others : List File) → (user_asked stage.room).room.items.user ≡ Some user → Agrees R stage others
      → SameBy R stage (changes_token call answers (with_files others stage)) (changes_token call answers stage)
  unfolding changes_token
  asked_first call stage others is r = asking R user (λ name. looks name (λ look. change_by call name look answers)) (changed call) stage others is r

  by_function : (f : Func) (call : PlainCall) (stage : Stage) (others : List File) → f ≡ ChAuthTok → (user_asked stage.room).room.items.user ≡ Some user
      → Agrees R stage others → SameBy R stage (act_of_func f call (with_files others stage)) (act_of_func f call stage)
  by_function f call stage others func is r =
      subst (λ (x : Func). SameBy R stage (act_of_func x call (with_files others stage)) (act_of_func x call stage)) (sym func) (asked_first call stage others is r)

pub others_dont_matter_to_change : ReadsAgain → OwnChanged → HashesFit → OthersDontMatterToChange
others_dont_matter_to_change read own fits call room held sight others user func is agree =
    let s = by_function read own fits user call.func call (record { room = room; held = held; known = nothing_known; sight = sight }) others func is agree in
    (s.rest, s.left)
