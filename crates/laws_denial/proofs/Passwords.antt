-- pam_unix(8): authenticate leaves USER and all files.
use Rattle.std.proofs.Common.{ℕ, Bool, true, false, List, [], ◌∷◌, Option, Some, None, Result, Ok, Err, codes}
use Rattle.pam_base.specs.declared.code.Code.{Code}
use Rattle.pam_base.specs.declared.code.Code.TheVariants as returns
use Rattle.pam_room.specs.Call.{PlainCall}
use Rattle.account_db.specs.declared.fault.DbFault.{DbFault}
use Rattle.account_db.specs.declared.passwd.Passwd.{Passwd}
use Rattle.account_db.specs.Passwd.{entry_of, passwds_of}
use Rattle.module_acts.specs.declared.content.Content.{Content}
use Rattle.module_acts.specs.declared.content.Content.TheVariants as content
use Rattle.module_acts.specs.Accounts.{account_limit}
use Rattle.module_acts.specs.Act.{Act}
use Rattle.module_acts.specs.Arguments.{has_argument}
use Rattle.module_acts.specs.Steps.{answers_keeping}
use Rattle.pam_base.specs.Code.{number_of}
use Rattle.mod_unix.specs.declared.look.KnownPassword.{KnownPassword}
use Rattle.mod_unix.specs.declared.look.KnownPassword.TheVariants.{Unknown, Unavailable, Plain}
use Rattle.mod_unix.specs.Look.{after_passwd, shadow_if_x, field_among, field_in, field_or_missing, is_x, looks, shadow_in}
use Rattle.mod_unix.specs.Verify.{verified}
use Rattle.mod_unix.specs.Authenticate.{asks_password, authenticates, judge_account, unless_open, first_pass_or_asks as verified_by, delays, is_open, is_success, keeps_for_setcred, setcred_return, try_first, unless_success, verifies_token, with_first}
use Rattle.laws_denial.proofs.Steps.{Still, answering, asking, asking_token, delaying, keeping, reading, seeing_items}

module _ (who : List ℕ) where
  -- ---- what is known of a user

  module _ (user : List ℕ) (act : KnownPassword → Act) (next : (look : KnownPassword) → Still who (act look)) where
    by_hash : (x : Bool) (hash : List ℕ) → Still who (shadow_if_x x user hash act)
    by_hash true hash = reading who (codes "/etc/shadow") account_limit (λ c. act (shadow_in user c)) (λ c. next (shadow_in user c))
    by_hash false hash = next (Plain hash)

    by_entry : (entry : Option Passwd) → Still who (after_passwd user (field_or_missing entry) act)
    by_entry (Some entry) = by_hash (is_x entry.password) entry.password
    by_entry None = next Unknown

    by_entries : (entries : Result (List Passwd) DbFault) → Still who (after_passwd user (field_among user entries) act)
    by_entries (Ok entries) = by_entry (entry_of user entries)
    by_entries (Err fault) = next Unavailable

    by_content : (c : Content) → Still who (after_passwd user (field_in user c) act)
    by_content content.Absent = next Unavailable
    by_content content.Unreadable = next Unavailable
    by_content (content.Holds text) = by_entries (passwds_of text)

    pub looking : Still who (looks user act)
    unfolding looks
    looking = reading who (codes "/etc/passwd") account_limit (λ c. after_passwd user (field_in user c) act) by_content

  -- ---- authenticate

  -- the code is kept for setcred
  abbrev keeps : Code → Act
  keeps code = answers_keeping (record { name = setcred_return; payload = number_of code ∷ [] }) code

  kept : (code : Code) → Still who (keeps code)
  kept code = keeping who (record { name = setcred_return; payload = number_of code ∷ [] }) code

  module _ (look : KnownPassword) where
    asked : Still who (asks_password look keeps_for_setcred)
    unfolding asks_password keeps_for_setcred
    asked = asking_token who false (codes "Password: ") (λ token. keeps (verified look token)) (λ token. kept (verified look token))

    first : (token : Option (List ℕ)) → Still who (with_first look token keeps_for_setcred)
    unfolding keeps_for_setcred
    first (Some token) = kept (verified look token)
    first None = answering who returns.AuthErr

    asked_unless : (done : Bool) → Still who (unless_success done look keeps_for_setcred)
    unfolding keeps_for_setcred
    asked_unless true = kept returns.Success
    asked_unless false = asked

    tried : (token : Option (List ℕ)) → Still who (try_first look token keeps_for_setcred)
    tried (Some token) = asked_unless (is_success (verified look token))
    tried None = asked

    passed : (given try : Bool) → Still who (verified_by given try look keeps_for_setcred)
    passed true try = seeing_items who (λ items. with_first look items.auth_tok keeps_for_setcred) (λ items. first items.auth_tok)
    passed false true = seeing_items who (λ items. try_first look items.auth_tok keeps_for_setcred) (λ items. tried items.auth_tok)
    passed false false = asked

    module _ (call : PlainCall) where
      verifying : Still who (verifies_token call look keeps_for_setcred)
      unfolding verifies_token
      verifying = passed (has_argument (codes "use_first_pass") call.args) (has_argument (codes "try_first_pass") call.args)

      delayed : (none : Bool) → Still who (delays none (verifies_token call look keeps_for_setcred))
      delayed true = verifying
      delayed false = delaying who 2000000 (verifies_token call look keeps_for_setcred) verifying

      opened : (empty : Bool) → Still who (unless_open empty call look keeps_for_setcred)
      unfolding keeps_for_setcred
      opened true = kept returns.Success
      opened false = delayed (has_argument (codes "nodelay") call.args)

      by_known : Still who (judge_account call look keeps_for_setcred)
      unfolding judge_account
      by_known = opened (is_open call look)

  pub authenticating : (call : PlainCall) → Still who (authenticates call keeps_for_setcred)
  unfolding authenticates
  authenticating call =
      asking who (λ user. looks user (λ look. judge_account call look keeps_for_setcred))
      (λ user. looking user (λ look. judge_account call look keeps_for_setcred) (λ look. by_known look call))
