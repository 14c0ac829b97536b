-- pam_unix(8), authenticate.
--
-- Its steps, from the entry point on:
--   `authenticates`: the user is asked for, and the password looked up
--   `judge_account`, `unless_open`: with `nullok` a user without a password is let in
--   `delays`: a delay is requested, except with `nodelay`
--   `verifies_token`, `first_pass_or_asks`: which token it is
--   `with_first`: with `use_first_pass`, that of an earlier module
--   `try_first`, `unless_success`: with `try_first_pass`, that one first
--   `asks_password`: else one that is asked for
--   `verified`: the token is compared with the hash
--   `keeps_for_setcred`: the code is kept for setcred
use Rattle.std.specs.Prelude.{ℕ, Bool, true, false, ◌&&◌, not, List, [], ◌∷◌, Option, Some, None, codes}
use Rattle.pam_base.specs.Code.{number_of}
use Rattle.pam_base.specs.declared.code.Code.{Code}
use Rattle.pam_base.specs.declared.code.Code.TheVariants as returns
use Rattle.pam_room.specs.Call.{PlainCall, has_flag}
use Rattle.module_acts.specs.Act.{Act, answers, asks_user, sees_items}
use Rattle.module_acts.specs.Steps.{answers_keeping, asks_token, requests_delay}
use Rattle.mod_unix.specs.declared.authenticate.Authenticated.{Authenticated}
use Rattle.mod_unix.specs.declared.authenticate.Authenticated.TheVariants.{Kept, Unkept}
use Rattle.mod_unix.specs.declared.look.KnownPassword.{KnownPassword}
use Rattle.mod_unix.specs.declared.look.KnownPassword.TheVariants.{Unknown, Unavailable, Plain, Shadowed}
use Rattle.module_acts.specs.Arguments.{has_argument}
use Rattle.mod_unix.specs.Flags.{disallow_null_authtok}
use Rattle.mod_unix.specs.Look.{looks}
use Rattle.mod_unix.specs.Verify.{verified}

-- whether the user has a hash, and it is empty
abbrev pub is_empty : List ℕ → Bool
is_empty [] = true
is_empty (b ∷ bs) = false

abbrev pub has_empty_hash : KnownPassword → Bool
has_empty_hash (Plain hash) = is_empty hash
has_empty_hash (Shadowed entry) = is_empty entry.hash
has_empty_hash Unknown = false
has_empty_hash Unavailable = false

-- with `nullok` a user without a password is let in, unless the application disallows it
abbrev pub is_open : PlainCall → KnownPassword → Bool
is_open call look = has_empty_hash look && has_argument (codes "nullok") call.args
    && not (has_flag call.flags disallow_null_authtok)

abbrev pub is_success : Code → Bool
is_success returns.Success = true
is_success code = false

-- a token is asked for and verified
unfoldable pub asks_password : KnownPassword → (Authenticated → Act) → Act
asks_password look act =
    asks_token false (codes "Password: ") (λ token. act (Kept (verified look token)))

-- `use_first_pass`: only the token that an earlier module asked for
abbrev pub with_first : KnownPassword → Option (List ℕ) → (Authenticated → Act) → Act
with_first look (Some token) act = act (Kept (verified look token))
with_first look None act = act (Unkept returns.AuthErr)

-- `try_first_pass`: that token first, if it is set
abbrev pub unless_success : Bool → KnownPassword → (Authenticated → Act) → Act
unless_success true look act = act (Kept returns.Success)
unless_success false look act = asks_password look act

abbrev pub try_first : KnownPassword → Option (List ℕ) → (Authenticated → Act) → Act
try_first look (Some token) act = unless_success (is_success (verified look token)) look act
try_first look None act = asks_password look act

abbrev pub first_pass_or_asks : Bool → Bool → KnownPassword → (Authenticated → Act) → Act
first_pass_or_asks true try look act = sees_items (λ items. with_first look items.auth_tok act)
first_pass_or_asks false true look act = sees_items (λ items. try_first look items.auth_tok act)
first_pass_or_asks false false look act = asks_password look act

unfoldable pub verifies_token : PlainCall → KnownPassword → (Authenticated → Act) → Act
verifies_token call look act = first_pass_or_asks (has_argument (codes "use_first_pass") call.args)
    (has_argument (codes "try_first_pass") call.args) look act

-- unless `nodelay` is given, a delay of two seconds is requested
abbrev pub delays : Bool → Act → Act
delays true act = act
delays false act = requests_delay 2000000 act

abbrev pub unless_open : Bool → PlainCall → KnownPassword → (Authenticated → Act) → Act
unless_open true call look act = act (Kept returns.Success)
unless_open false call look act =
    delays (has_argument (codes "nodelay") call.args) (verifies_token call look act)

unfoldable pub judge_account : PlainCall → KnownPassword → (Authenticated → Act) → Act
judge_account call look act = unless_open (is_open call look) call look act

unfoldable pub authenticates : PlainCall → (Authenticated → Act) → Act
authenticates call act = asks_user (λ user. looks user (λ look. judge_account call look act))

-- the name of the data whose code setcred returns
abbrev pub setcred_return : List ℕ
setcred_return = codes "unix_setcred_return"

-- the code is kept for setcred, except that of `use_first_pass` without a token
unfoldable pub keeps_for_setcred : Authenticated → Act
keeps_for_setcred (Kept code) =
    answers_keeping (record { name = setcred_return; payload = number_of code ∷ [] }) code
keeps_for_setcred (Unkept code) = answers code
