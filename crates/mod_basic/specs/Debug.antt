-- pam_debug(8): it returns what its arguments say. That it shows no message and asks for no user is this project's own.
use Rattle.std.specs.Prelude.{ℕ, Bool, if◌then◌else◌, Option, Some, None, List, codes}
use Rattle.std.specs.Option.{unwrap_or}
use Rattle.pam_base.specs.Code.{code_of_word}
use Rattle.pam_base.specs.declared.code.Code.{Code}
use Rattle.pam_base.specs.declared.code.Code.TheVariants.{Success}
use Rattle.pam_base.specs.declared.call.Func.{Func}
use Rattle.pam_base.specs.declared.call.Func.TheVariants.{Authenticate, SetCred, AcctMgmt, OpenSession, CloseSession, ChAuthTok}
use Rattle.pam_room.specs.Call.{PlainCall, has_flag, prelim_check, value_among}
use Rattle.pam_room.specs.Module.{Plays}
use Rattle.mod_basic.specs.AtOnce.{plays_at_once}

-- the argument of a function; the two passes of chauthtok have one each
abbrev pub debug_key : Func → Bool → List ℕ
debug_key Authenticate first = codes "auth="
debug_key SetCred first = codes "cred="
debug_key AcctMgmt first = codes "acct="
debug_key OpenSession first = codes "open_session="
debug_key CloseSession first = codes "close_session="
debug_key ChAuthTok first = if first then codes "prechauthtok=" else codes "chauthtok="

-- the code of a word; SUCCESS if there is no word, or if it isn't a code's
abbrev pub code_or_success : Option (List ℕ) → Code
code_or_success None = Success
code_or_success (Some word) = unwrap_or (code_of_word word) Success

abbrev pub debug_code : PlainCall → Code
debug_code call =
    code_or_success (value_among (debug_key call.func (has_flag call.flags prelim_check)) call.args)

abbrev pub debug_plays : Plays
debug_plays = plays_at_once (λ call items caller. debug_code call)
