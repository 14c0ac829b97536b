-- pam_unix(8), chauthtok.
--
-- Its steps, from the entry point on:
--   `changes_token`: the user is asked for, and the password looked up
--   `change_by`: only a password in shadow can be changed
--   `changes_entry`, `unless_token_is_kept`: with CHANGE_EXPIRED_AUTHTOK only one that is too old
--   `checks_or_changes`: the first pass or the second
-- The first pass:
--   `tries_change`, `unless_caller_is_root`: root always may
--   `unless_too_early`: not before the minimum age
--   `asks_old_unless_empty`, `asks_old`: the old password is verified
-- The second pass:
--   `takes_token`, `authtok_or_asks`: with `use_authtok` AUTHTOK, else a token that is asked for twice
--   `sets_new`: which becomes AUTHTOK
--   `stores_token`, `stores_if_taken`: the new token's hash
--   `changes_shadow`, `if_locked`: the account files are locked
--   `changes_locked`, `replaces_shadow`: shadow is read again, and replaced
use Rattle.std.specs.Prelude.{ℕ, ◌+◌, ◌==◌, ◌&&◌, ◌||◌, not, nat_lt, Bool, true, false, if◌then◌else◌, List, [], ◌∷◌, length, Option, Some, None, Result, Ok, Err, codes}
use Rattle.std.specs.Str.{bytes_eq}
use Rattle.pam_base.specs.declared.code.Code.{Code}
use Rattle.pam_base.specs.declared.code.Code.TheVariants as returns
use Rattle.pam_base.specs.declared.item.ItemName.TheVariants.{AuthTok}
use Rattle.pam_base.specs.declared.style.Style.TheVariants.{EchoOff}
use Rattle.conv_port.specs.declared.message.Message.{Message}
use Rattle.conv_port.specs.declared.message.Reply.{Reply}
use Rattle.pam_outside.specs.declared.held.LockKind.TheVariants.{Record}
use Rattle.pam_room.specs.Call.{PlainCall, has_flag, prelim_check}
use Rattle.account_db.specs.declared.fault.DbFault.{DbFault}
use Rattle.account_db.specs.declared.shadow.Shadow.{Shadow}
use Rattle.account_db.specs.Replace.{hash_replaced}
use Rattle.module_acts.specs.declared.content.Content.{Content}
use Rattle.module_acts.specs.declared.content.Content.TheVariants as content
use Rattle.module_acts.specs.Accounts.{account_limit}
use Rattle.module_acts.specs.Act.{Act, asks_user, draws_word, holds_lock, lets_go, reads_file, sees_items, replaces_file}
use Rattle.module_acts.specs.Steps.{asks_token, exchanges, sees_caller, sees_clock, sets_item}
use Rattle.mod_unix.specs.declared.look.KnownPassword.{KnownPassword}
use Rattle.mod_unix.specs.declared.look.KnownPassword.TheVariants.{Unknown, Unavailable, Plain, Shadowed}
use Rattle.mod_unix.specs.Aging.{aged, day_of}
use Rattle.module_acts.specs.Arguments.{has_argument}
use Rattle.mod_unix.specs.Flags.{change_expired_authtok}
use Rattle.mod_unix.specs.Authenticate.{is_empty}
use Rattle.mod_unix.specs.Look.{looks, shadow_in}
use Rattle.mod_unix.specs.NewHash.{hashed_token}
use Rattle.mod_unix.specs.Verify.{hash_verified}

-- ---- the first pass: whether the token may be changed

abbrev pub is_too_early : ℕ → Option ℕ → Option ℕ → Bool
is_too_early today None min = false
is_too_early today (Some last) None = false
is_too_early today (Some last) (Some min) = nat_lt today (last + min)

unfoldable pub asks_old : Shadow → (Code → Act) → Act
asks_old entry act =
    asks_token true (codes "Password: ") (λ token. act (hash_verified entry.hash token))

-- a user without a password need not give the old one
abbrev pub asks_old_unless_empty : Bool → Shadow → (Code → Act) → Act
asks_old_unless_empty true entry act = act returns.Success
asks_old_unless_empty false entry act = asks_old entry act

abbrev pub unless_too_early : Bool → Shadow → (Code → Act) → Act
unless_too_early true entry act = act returns.AuthtokErr
unless_too_early false entry act = asks_old_unless_empty (is_empty entry.hash) entry act

-- root always may
abbrev pub unless_caller_is_root : Bool → ℕ → Shadow → (Code → Act) → Act
unless_caller_is_root true today entry act = act returns.Success
unless_caller_is_root false today entry act = unless_too_early (is_too_early today entry.last_change entry.min) entry act

unfoldable pub tries_change : ℕ → Shadow → (Code → Act) → Act
tries_change today entry act = sees_caller (λ caller. unless_caller_is_root (caller == 0) today entry act)

-- ---- the second pass: the new token

-- a token that is empty, or has more than 512 bytes, isn't taken
abbrev pub usable : Option (List ℕ) → Option (List ℕ)
usable None = None
usable (Some token) = if length token == 0 || nat_lt 512 (length token) then None else Some token

abbrev pub new_prompts : List Message
new_prompts =
    record { style = EchoOff; text = codes "New password: " }
    ∷ record { style = EchoOff; text = codes "Retype new password: " } ∷ []

-- nor are two replies that differ
abbrev pub same_reply : List Reply → Option (List ℕ)
same_reply [] = None
same_reply (a ∷ []) = None
same_reply (a ∷ b ∷ []) = if bytes_eq a.text b.text then usable (Some a.text) else None
same_reply (a ∷ b ∷ c ∷ cs) = None

abbrev pub sets_new : Option (List ℕ) → (Option (List ℕ) → Act) → Act
sets_new (Some token) act = sets_item AuthTok token (act (Some token))
sets_new None act = act None

-- with `use_authtok` the token of an earlier module, else one that is asked for twice
abbrev pub authtok_or_asks : Bool → (Option (List ℕ) → Act) → Act
authtok_or_asks true act = sees_items (λ items. act (usable items.auth_tok))
authtok_or_asks false act = exchanges new_prompts (λ replies. sets_new (same_reply replies) act)

unfoldable pub takes_token : PlainCall → (Option (List ℕ) → Act) → Act
takes_token call act = authtok_or_asks (has_argument (codes "use_authtok") call.args) act

-- ---- the second pass: the new hash

-- the text of shadow with the new hash, if the user has an entry
abbrev pub changed_by : KnownPassword → Result (List ℕ) DbFault → Option (List ℕ)
changed_by (Shadowed entry) (Ok text) = Some text
changed_by (Shadowed entry) (Err fault) = None
changed_by Unknown text = None
changed_by Unavailable text = None
changed_by (Plain hash) text = None

unfoldable pub changed_shadow : List ℕ → List ℕ → ℕ → Content → Option (List ℕ)
changed_shadow user hash today content.Absent = None
changed_shadow user hash today content.Unreadable = None
changed_shadow user hash today (content.Holds text) =
    changed_by (shadow_in user (content.Holds text)) (hash_replaced user hash today text)

abbrev pub write_result : Bool → Code
write_result true = returns.Success
write_result false = returns.AuthtokErr

abbrev pub replaces_shadow : Option (List ℕ) → (Code → Act) → Act
replaces_shadow (Some text) act = replaces_file (codes "/etc/shadow") text (λ done. act (write_result done))
replaces_shadow None act = act returns.AuthtokErr

-- shadow is read again, and replaced
unfoldable pub changes_locked : List ℕ → List ℕ → ℕ → (Code → Act) → Act
changes_locked user hash today act = reads_file (codes "/etc/shadow") account_limit (λ c.
    replaces_shadow (changed_shadow user hash today c) act)

-- without the lock no file is read, and the result is AUTHTOK_ERR
abbrev pub if_locked : List ℕ → List ℕ → ℕ → (Code → Act) → Bool → Act
if_locked user hash today act true =
    changes_locked user hash today (λ code. lets_go true (act code))
if_locked user hash today act false = act returns.AuthtokErr

-- meanwhile the account files are locked
unfoldable pub changes_shadow : List ℕ → List ℕ → ℕ → (Code → Act) → Act
changes_shadow user hash today act =
    holds_lock (codes "/etc/.pwd.lock") Record (if_locked user hash today act)

abbrev pub stores_if_taken : PlainCall → List ℕ → Option (List ℕ) → (Code → Act) → Act
stores_if_taken call user (Some token) act = sees_clock (λ clock. draws_word (λ word.
    changes_shadow user (hashed_token call.args word token) (day_of clock.moment) act))
stores_if_taken call user None act = act returns.AuthtokErr

unfoldable pub stores_token : PlainCall → List ℕ → Option (List ℕ) → (Code → Act) → Act
stores_token call user token act = stores_if_taken call user token act

-- ---- both passes

abbrev pub asks_for_new : Code → Bool
asks_for_new returns.NewAuthtokReqd = true
asks_for_new code = false

-- with CHANGE_EXPIRED_AUTHTOK a token that need not be changed stays
abbrev pub is_kept : PlainCall → ℕ → Shadow → Bool
is_kept call today entry =
    has_flag call.flags change_expired_authtok && not (asks_for_new (aged today entry))

abbrev pub checks_or_changes : Bool → PlainCall → List ℕ → ℕ → Shadow → (Code → Act) → Act
checks_or_changes true call user today entry act = tries_change today entry act
checks_or_changes false call user today entry act =
    takes_token call (λ token. stores_token call user token act)

abbrev pub unless_token_is_kept : Bool → PlainCall → List ℕ → ℕ → Shadow → (Code → Act) → Act
unless_token_is_kept true call user today entry act = act returns.Success
unless_token_is_kept false call user today entry act =
    checks_or_changes (has_flag call.flags prelim_check) call user today entry act

unfoldable pub changes_entry : PlainCall → List ℕ → Shadow → (Code → Act) → Act
changes_entry call user entry act = sees_clock (λ clock.
    unless_token_is_kept (is_kept call (day_of clock.moment) entry) call user (day_of clock.moment) entry act)

unfoldable pub change_by : PlainCall → List ℕ → KnownPassword → (Code → Act) → Act
change_by call user Unknown act = act returns.UserUnknown
change_by call user Unavailable act = act returns.AuthinfoUnavail
change_by call user (Plain hash) act = act returns.AuthtokErr
change_by call user (Shadowed entry) act = changes_entry call user entry act

unfoldable pub changes_token : PlainCall → (Code → Act) → Act
changes_token call act = asks_user (λ user. looks user (λ look. change_by call user look act))
