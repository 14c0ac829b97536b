-- pam_unix(8) leaves each file as it was, except shadow(5).
use Rattle.std.proofs.Common.{◌≡◌, ℕ, Bool, true, false, ◌==◌, List, [], ◌∷◌, Option, Some, None, Result, Ok, Err, codes}
use Rattle.pam_base.specs.declared.code.Code.{Code}
use Rattle.pam_base.specs.declared.code.Code.TheVariants as returns
use Rattle.pam_base.specs.declared.call.Func.{Func}
use Rattle.pam_base.specs.declared.call.Func.TheVariants as funcs
use Rattle.pam_base.specs.declared.item.ItemName.TheVariants.{AuthTok}
use Rattle.pam_outside.specs.declared.held.LockKind.TheVariants.{Record}
use Rattle.pam_outside.specs.Paths.{path_of}
use Rattle.pam_room.specs.Call.{PlainCall, has_flag, prelim_check}
use Rattle.mod_unix.specs.module_acts.specs.account_db.specs.declared.shadow.Shadow.{Shadow}
use Rattle.mod_unix.specs.module_acts.specs.account_db.specs.declared.fault.DbFault.{DbFault}
use Rattle.mod_unix.specs.module_acts.specs.account_db.specs.declared.passwd.Passwd.{Passwd}
use Rattle.mod_unix.specs.module_acts.specs.account_db.specs.Passwd.{entry_of, passwds_of}
use Rattle.mod_unix.specs.module_acts.specs.declared.content.Content.{Content}
use Rattle.mod_unix.specs.module_acts.specs.declared.content.Content.TheVariants as content
use Rattle.mod_unix.specs.module_acts.specs.Accounts.{account_limit}
use Rattle.mod_unix.specs.module_acts.specs.Act.{Act, answers, draws_word, lets_go}
use Rattle.mod_unix.specs.module_acts.specs.Arguments.{has_argument}
use Rattle.mod_unix.specs.module_acts.specs.Steps.{answers_keeping}
use Rattle.pam_base.specs.Code.{number_of}
use Rattle.mod_unix.specs.declared.look.KnownPassword.{KnownPassword}
use Rattle.mod_unix.specs.declared.look.KnownPassword.TheVariants.{Unknown, Unavailable, Plain, Shadowed}
use Rattle.mod_unix.specs.Aging.{aged, day_of}
use Rattle.mod_unix.specs.Look.{after_passwd, shadow_if_x, field_among, field_in, field_or_missing, is_x, looks, shadow_in}
use Rattle.mod_unix.specs.Verify.{hash_verified, verified}
use Rattle.mod_unix.specs.NewHash.{hashed_token}
use Rattle.mod_unix.specs.Account.{account_by, checks_account}
use Rattle.mod_unix.specs.Authenticate.{asks_password, authenticates, judge_account, unless_open, first_pass_or_asks as verified_by, delays}
use Rattle.mod_unix.specs.Authenticate.{is_empty, is_open, is_success, keeps_for_setcred, setcred_return, try_first, unless_success}
use Rattle.mod_unix.specs.Authenticate.{verifies_token, with_first}
use Rattle.mod_unix.specs.Change.{asks_old, authtok_or_asks, write_result, unless_too_early, asks_old_unless_empty, unless_token_is_kept}
use Rattle.mod_unix.specs.Change.{checks_or_changes, unless_caller_is_root, replaces_shadow, stores_if_taken, change_by, changed_shadow}
use Rattle.mod_unix.specs.Change.{changes_entry, changes_locked, changes_shadow, changes_token, if_locked, is_kept, is_too_early}
use Rattle.mod_unix.specs.Change.{new_prompts, same_reply, sets_new, stores_token, takes_token, tries_change, usable}
use Rattle.mod_unix.specs.Unix.{act_of_func, kept_code, unix_act}
use Rattle.laws_audit.proofs.Steps.{Leaves, answering, asking, asking_token, delaying, drawing, exchanging, holding, keeping, letting_go}
use Rattle.laws_audit.proofs.Steps.{reading, replacing, seeing_caller, seeing_clock, seeing_data, seeing_items, setting_item}

module _ (path : List ℕ) where
  abbrev Still : Act → Type 0
  Still act = Leaves path act

  -- ---- what is known of a user

  module _ (user : List ℕ) (act : KnownPassword → Act) (next : (look : KnownPassword) → Still (act look)) where
    by_hash : (x : Bool) (hash : List ℕ) → Still (shadow_if_x x user hash act)
    by_hash true hash = reading path (codes "/etc/shadow") account_limit (λ c. act (shadow_in user c)) (λ c. next (shadow_in user c))
    by_hash false hash = next (Plain hash)

    by_entry : (entry : Option Passwd) → Still (after_passwd user (field_or_missing entry) act)
    by_entry (Some entry) = by_hash (is_x entry.password) entry.password
    by_entry None = next Unknown

    by_entries : (entries : Result (List Passwd) DbFault) → Still (after_passwd user (field_among user entries) act)
    by_entries (Ok entries) = by_entry (entry_of user entries)
    by_entries (Err fault) = next Unavailable

    by_content : (c : Content) → Still (after_passwd user (field_in user c) act)
    by_content content.Absent = next Unavailable
    by_content content.Unreadable = next Unavailable
    by_content (content.Holds text) = by_entries (passwds_of text)

    pub looking : Still (looks user act)
    unfolding looks
    looking = reading path (codes "/etc/passwd") account_limit (λ c. after_passwd user (field_in user c) act) by_content

  -- ---- authenticate

  -- the code is kept for setcred
  abbrev keeps : Code → Act
  keeps code = answers_keeping (record { name = setcred_return; payload = number_of code ∷ [] }) code

  kept : (code : Code) → Still (keeps code)
  kept code = keeping path (record { name = setcred_return; payload = number_of code ∷ [] }) code

  module _ (look : KnownPassword) where
    asked : Still (asks_password look keeps_for_setcred)
    unfolding asks_password keeps_for_setcred
    asked = asking_token path false (codes "Password: ") (λ token. keeps (verified look token)) (λ token. kept (verified look token))

    first : (token : Option (List ℕ)) → Still (with_first look token keeps_for_setcred)
    unfolding keeps_for_setcred
    first (Some token) = kept (verified look token)
    first None = answering path returns.AuthErr

    asked_unless : (done : Bool) → Still (unless_success done look keeps_for_setcred)
    unfolding keeps_for_setcred
    asked_unless true = kept returns.Success
    asked_unless false = asked

    tried : (token : Option (List ℕ)) → Still (try_first look token keeps_for_setcred)
    tried (Some token) = asked_unless (is_success (verified look token))
    tried None = asked

    passed : (given try : Bool) → Still (verified_by given try look keeps_for_setcred)
    passed true try = seeing_items path (λ items. with_first look items.auth_tok keeps_for_setcred) (λ items. first items.auth_tok)
    passed false true = seeing_items path (λ items. try_first look items.auth_tok keeps_for_setcred) (λ items. tried items.auth_tok)
    passed false false = asked

    module _ (call : PlainCall) where
      verifying : Still (verifies_token call look keeps_for_setcred)
      unfolding verifies_token
      verifying = passed (has_argument (codes "use_first_pass") call.args) (has_argument (codes "try_first_pass") call.args)

      delayed : (none : Bool) → Still (delays none (verifies_token call look keeps_for_setcred))
      delayed true = verifying
      delayed false = delaying path 2000000 (verifies_token call look keeps_for_setcred) verifying

      opened : (empty : Bool) → Still (unless_open empty call look keeps_for_setcred)
      unfolding keeps_for_setcred
      opened true = kept returns.Success
      opened false = delayed (has_argument (codes "nodelay") call.args)

      by_known : Still (judge_account call look keeps_for_setcred)
      unfolding judge_account
      by_known = opened (is_open call look)

  authenticating : (call : PlainCall) → Still (authenticates call keeps_for_setcred)
  unfolding authenticates
  authenticating call = asking path (λ user. looks user (λ look. judge_account call look keeps_for_setcred))
      (λ user. looking user (λ look. judge_account call look keeps_for_setcred) (λ look. by_known look call))

  -- ---- acct_mgmt

  module _ (act : Code → Act) (next : (code : Code) → Still (act code)) where
    account_known : (look : KnownPassword) → Still (account_by look act)
    unfolding account_by
    account_known Unknown = next returns.UserUnknown
    account_known Unavailable = next returns.AuthinfoUnavail
    account_known (Plain hash) = next returns.Success
    account_known (Shadowed entry) = seeing_clock path (λ clock. act (aged (day_of clock.moment) entry)) (λ clock. next (aged (day_of clock.moment) entry))

    checking : Still (checks_account act)
    unfolding checks_account
    checking = asking path (λ user. looks user (λ look. account_by look act)) (λ user. looking user (λ look. account_by look act) account_known)

    -- ---- chauthtok, its first pass

    old_asked : (entry : Shadow) → Still (asks_old entry act)
    unfolding asks_old
    old_asked entry = asking_token path true (codes "Password: ") (λ token. act (hash_verified entry.hash token))
        (λ token. next (hash_verified entry.hash token))

    unless_empty : (none : Bool) (entry : Shadow) → Still (asks_old_unless_empty none entry act)
    unless_empty true entry = next returns.Success
    unless_empty false entry = old_asked entry

    unless_early : (early : Bool) (entry : Shadow) → Still (unless_too_early early entry act)
    unless_early true entry = next returns.AuthtokErr
    unless_early false entry = unless_empty (is_empty entry.hash) entry

    unless_root : (root : Bool) (today : ℕ) (entry : Shadow) → Still (unless_caller_is_root root today entry act)
    unless_root true today entry = next returns.Success
    unless_root false today entry = unless_early (is_too_early today entry.last_change entry.min) entry

    trying : (today : ℕ) (entry : Shadow) → Still (tries_change today entry act)
    unfolding tries_change
    trying today entry = seeing_caller path (λ caller. unless_caller_is_root (caller == 0) today entry act) (λ caller. unless_root (caller == 0) today entry)

  -- ---- the new token

  module _ (act : Option (List ℕ) → Act) (next : (token : Option (List ℕ)) → Still (act token)) where
    new_set : (token : Option (List ℕ)) → Still (sets_new token act)
    new_set (Some token) = setting_item path AuthTok token (act (Some token)) (next (Some token))
    new_set None = next None

    given_or_asked : (given : Bool) → Still (authtok_or_asks given act)
    given_or_asked true = seeing_items path (λ items. act (usable items.auth_tok)) (λ items. next (usable items.auth_tok))
    given_or_asked false = exchanging path new_prompts (λ replies. sets_new (same_reply replies) act) (λ replies. new_set (same_reply replies))

    pub taking : (call : PlainCall) → Still (takes_token call act)
    unfolding takes_token
    taking call = given_or_asked (has_argument (codes "use_authtok") call.args)

  -- ---- shadow is replaced, which is another file

  module _ (apart : (root : List ℕ) → path_of root (codes "/etc/shadow") ≡ path → ⊥) (act : Code → Act) (next : (code : Code) → Still (act code)) where
    -- the lock is released, and then the code is returned
    ended : (code : Code) → Still (lets_go true (act code))
    ended code = letting_go path true (act code) (next code)

    text_set : (text : Option (List ℕ)) → Still (replaces_shadow text (λ code. lets_go true (act code)))
    text_set (Some text) = replacing path (codes "/etc/shadow") text (λ done. lets_go true (act (write_result done))) apart (λ done. ended (write_result done))
    text_set None = ended returns.AuthtokErr

    locked : (user hash : List ℕ) (today : ℕ) → Still (changes_locked user hash today (λ code. lets_go true (act code)))
    unfolding changes_locked
    locked user hash today =
        reading path (codes "/etc/shadow") account_limit (λ c. replaces_shadow (changed_shadow user hash today c) (λ code. lets_go true (act code)))
        (λ c. text_set (changed_shadow user hash today c))

    by_held : (user hash : List ℕ) (today : ℕ) (held : Bool) → Still (if_locked user hash today act held)
    by_held user hash today true = locked user hash today
    by_held user hash today false = next returns.AuthtokErr

    changing : (user hash : List ℕ) (today : ℕ) → Still (changes_shadow user hash today act)
    unfolding changes_shadow
    changing user hash today = holding path (codes "/etc/.pwd.lock") Record (if_locked user hash today act) (by_held user hash today)

    module _ (call : PlainCall) (user : List ℕ) where
      token_stored : (token : Option (List ℕ)) → Still (stores_if_taken call user token act)
      token_stored (Some token) =
          seeing_clock path (λ clock. draws_word (λ word. changes_shadow user (hashed_token call.args word token) (day_of clock.moment) act))
          (λ clock. drawing path (λ word. changes_shadow user (hashed_token call.args word token) (day_of clock.moment) act)
          (λ word. changing user (hashed_token call.args word token) (day_of clock.moment)))
      token_stored None = next returns.AuthtokErr

      storing : (token : Option (List ℕ)) → Still (stores_token call user token act)
      unfolding stores_token
      storing token = token_stored token

      in_pass : (preliminary : Bool) (today : ℕ) (entry : Shadow) → Still (checks_or_changes preliminary call user today entry act)
      in_pass true today entry = trying act next today entry
      in_pass false today entry = taking (λ token. stores_token call user token act) storing call

      unless_kept : (keeps : Bool) (today : ℕ) (entry : Shadow) → Still (unless_token_is_kept keeps call user today entry act)
      unless_kept true today entry = next returns.Success
      unless_kept false today entry = in_pass (has_flag call.flags prelim_check) today entry

      entry_changed : (entry : Shadow) → Still (changes_entry call user entry act)
      unfolding changes_entry
      entry_changed entry =
          seeing_clock path (λ clock. unless_token_is_kept (is_kept call (day_of clock.moment) entry) call user (day_of clock.moment) entry act)
          (λ clock. unless_kept (is_kept call (day_of clock.moment) entry) (day_of clock.moment) entry)

      changed_by_look : (look : KnownPassword) → Still (change_by call user look act)
      unfolding change_by
      changed_by_look Unknown = next returns.UserUnknown
      changed_by_look Unavailable = next returns.AuthinfoUnavail
      changed_by_look (Plain hash) = next returns.AuthtokErr
      changed_by_look (Shadowed entry) = entry_changed entry

    token_changed : (call : PlainCall) → Still (changes_token call act)
    unfolding changes_token
    token_changed call = asking path (λ user. looks user (λ look. change_by call user look act))
        (λ user. looking user (λ look. change_by call user look act) (changed_by_look call user))

  -- ---- the module

  module _ (apart : (root : List ℕ) → path_of root (codes "/etc/shadow") ≡ path → ⊥) where
    by_function : (func : Func) (call : PlainCall) → Still (act_of_func func call)
    by_function funcs.Authenticate call = authenticating call
    by_function funcs.SetCred call = seeing_data path (λ held. answers (kept_code held)) (λ held. answering path (kept_code held))
    by_function funcs.AcctMgmt call = checking answers (answering path)
    by_function funcs.ChAuthTok call = token_changed apart answers (answering path) call
    by_function funcs.OpenSession call = answering path returns.Success
    by_function funcs.CloseSession call = answering path returns.Success

    pub unix_leaves : (call : PlainCall) → Still (unix_act call)
    unix_leaves call = by_function call.func call
