-- The return codes, by the table of numbers and names in pam(3) and _pam_types.h.
use Rattle.std.specs.Prelude.{ℕ, Bool, List, [], ◌∷◌, Option, codes}
use Rattle.std.specs.Str.{str_eq_ignore_ascii_case, str_to_ascii_lowercase}
use Rattle.std.specs.List.{find, list_any}
use Rattle.pam_base.specs.declared.code.Code.{Code}
use Rattle.pam_base.specs.declared.code.Code.TheVariants.{Success, OpenErr, SymbolErr, ServiceErr, SystemErr, BufErr, PermDenied, AuthErr, CredInsufficient, AuthinfoUnavail, UserUnknown, MaxTries, NewAuthtokReqd, AcctExpired, SessionErr, CredUnavail, CredExpired, CredErr, NoModuleData, ConvErr, AuthtokErr, AuthtokRecoveryErr, AuthtokLockBusy, AuthtokDisableAging, TryAgain, Ignore, Abort, AuthtokExpired, ModuleUnknown, BadItem, ConvAgain, Incomplete}

-- the number of a code
abbrev pub number_of : Code → ℕ
number_of Success = 0
number_of OpenErr = 1
number_of SymbolErr = 2
number_of ServiceErr = 3
number_of SystemErr = 4
number_of BufErr = 5
number_of PermDenied = 6
number_of AuthErr = 7
number_of CredInsufficient = 8
number_of AuthinfoUnavail = 9
number_of UserUnknown = 10
number_of MaxTries = 11
number_of NewAuthtokReqd = 12
number_of AcctExpired = 13
number_of SessionErr = 14
number_of CredUnavail = 15
number_of CredExpired = 16
number_of CredErr = 17
number_of NoModuleData = 18
number_of ConvErr = 19
number_of AuthtokErr = 20
number_of AuthtokRecoveryErr = 21
number_of AuthtokLockBusy = 22
number_of AuthtokDisableAging = 23
number_of TryAgain = 24
number_of Ignore = 25
number_of Abort = 26
number_of AuthtokExpired = 27
number_of ModuleUnknown = 28
number_of BadItem = 29
number_of ConvAgain = 30
number_of Incomplete = 31

-- the name that is printed
abbrev pub name_of : Code → List ℕ
name_of Success = codes "SUCCESS"
name_of OpenErr = codes "OPEN_ERR"
name_of SymbolErr = codes "SYMBOL_ERR"
name_of ServiceErr = codes "SERVICE_ERR"
name_of SystemErr = codes "SYSTEM_ERR"
name_of BufErr = codes "BUF_ERR"
name_of PermDenied = codes "PERM_DENIED"
name_of AuthErr = codes "AUTH_ERR"
name_of CredInsufficient = codes "CRED_INSUFFICIENT"
name_of AuthinfoUnavail = codes "AUTHINFO_UNAVAIL"
name_of UserUnknown = codes "USER_UNKNOWN"
name_of MaxTries = codes "MAXTRIES"
name_of NewAuthtokReqd = codes "NEW_AUTHTOK_REQD"
name_of AcctExpired = codes "ACCT_EXPIRED"
name_of SessionErr = codes "SESSION_ERR"
name_of CredUnavail = codes "CRED_UNAVAIL"
name_of CredExpired = codes "CRED_EXPIRED"
name_of CredErr = codes "CRED_ERR"
name_of NoModuleData = codes "NO_MODULE_DATA"
name_of ConvErr = codes "CONV_ERR"
name_of AuthtokErr = codes "AUTHTOK_ERR"
name_of AuthtokRecoveryErr = codes "AUTHTOK_RECOVERY_ERR"
name_of AuthtokLockBusy = codes "AUTHTOK_LOCK_BUSY"
name_of AuthtokDisableAging = codes "AUTHTOK_DISABLE_AGING"
name_of TryAgain = codes "TRY_AGAIN"
name_of Ignore = codes "IGNORE"
name_of Abort = codes "ABORT"
name_of AuthtokExpired = codes "AUTHTOK_EXPIRED"
name_of ModuleUnknown = codes "MODULE_UNKNOWN"
name_of BadItem = codes "BAD_ITEM"
name_of ConvAgain = codes "CONV_AGAIN"
name_of Incomplete = codes "INCOMPLETE"

-- the word of a code (pam.conf(5)): its name in lower case; 21 is `authtok_recover_err` there
abbrev pub code_word : Code → List ℕ
code_word AuthtokRecoveryErr = codes "authtok_recover_err"
code_word code = str_to_ascii_lowercase (name_of code)

-- all codes, in the order of their numbers
abbrev pub all_codes : List Code
all_codes = Success ∷ OpenErr ∷ SymbolErr ∷ ServiceErr ∷ SystemErr ∷ BufErr ∷ PermDenied ∷ AuthErr
    ∷ CredInsufficient ∷ AuthinfoUnavail ∷ UserUnknown ∷ MaxTries ∷ NewAuthtokReqd ∷ AcctExpired
    ∷ SessionErr ∷ CredUnavail ∷ CredExpired ∷ CredErr ∷ NoModuleData ∷ ConvErr ∷ AuthtokErr
    ∷ AuthtokRecoveryErr ∷ AuthtokLockBusy ∷ AuthtokDisableAging ∷ TryAgain ∷ Ignore ∷ Abort
    ∷ AuthtokExpired ∷ ModuleUnknown ∷ BadItem ∷ ConvAgain ∷ Incomplete ∷ []

-- the other words that pam.conf(5) has for a code
abbrev pub other_words : Code → List (List ℕ)
other_words AuthtokRecoveryErr = codes "authtok_recover_err" ∷ []
other_words c = []

-- whether a word of a configuration names the code, in any case
abbrev pub is_word : Code → List ℕ → Bool
is_word c word = list_any (λ w. str_eq_ignore_ascii_case word w) (name_of c ∷ other_words c)

-- the code that a word names
abbrev pub code_of_word : List ℕ → Option Code
code_of_word word = find (λ c. is_word c word) all_codes
