-- pam_debug and pam_probe return each code.
use Rattle.std.proofs.Common.{◌≡◌, [], ◌∷◌, ◌++◌, false, Option, Some, codes, unwrap_or, refl, ap}
use Rattle.pam_base.specs.Code.{code_of_word, name_of}
use Rattle.pam_base.specs.declared.code.Code.{Code}
use Rattle.pam_base.specs.declared.code.Code.TheVariants as returns
use Rattle.pam_base.specs.declared.call.Func.{Func}
use Rattle.pam_base.specs.declared.call.Func.TheVariants.{Authenticate, SetCred, AcctMgmt, OpenSession, CloseSession, ChAuthTok}
use Rattle.mod_basic.specs.Debug.{code_or_success, debug_code, debug_key, debug_plays}
use Rattle.mod_basic.specs.Probe.{fixed_answer, probe_plays}
use Rattle.laws_code.specs.Returns.{ReturnsEach}

named : (code : Code) → code_of_word (name_of code) ≡ Some code
named returns.Success = refl
named returns.OpenErr = refl
named returns.SymbolErr = refl
named returns.ServiceErr = refl
named returns.SystemErr = refl
named returns.BufErr = refl
named returns.PermDenied = refl
named returns.AuthErr = refl
named returns.CredInsufficient = refl
named returns.AuthinfoUnavail = refl
named returns.UserUnknown = refl
named returns.MaxTries = refl
named returns.NewAuthtokReqd = refl
named returns.AcctExpired = refl
named returns.SessionErr = refl
named returns.CredUnavail = refl
named returns.CredExpired = refl
named returns.CredErr = refl
named returns.NoModuleData = refl
named returns.ConvErr = refl
named returns.AuthtokErr = refl
named returns.AuthtokRecoveryErr = refl
named returns.AuthtokLockBusy = refl
named returns.AuthtokDisableAging = refl
named returns.TryAgain = refl
named returns.Ignore = refl
named returns.Abort = refl
named returns.AuthtokExpired = refl
named returns.ModuleUnknown = refl
named returns.BadItem = refl
named returns.ConvAgain = refl
named returns.Incomplete = refl

given : (code : Code) → code_or_success (Some (name_of code)) ≡ code
given code = ap (λ (o : Option Code). unwrap_or o returns.Success) (named code)

debugs_so : (f : Func) (code : Code) → debug_code (record { func = f; flags = 0; args = (debug_key f false ++ name_of code) ∷ [] }) ≡ code
debugs_so Authenticate code = given code
debugs_so SetCred code = given code
debugs_so AcctMgmt code = given code
debugs_so OpenSession code = given code
debugs_so CloseSession code = given code
debugs_so ChAuthTok code = given code

pub debugs : ReturnsEach debug_plays
debugs func code = ((debug_key func false ++ name_of code) ∷ [], λ room held sight. debugs_so func code)

answers_so : (code : Code) → fixed_answer ((codes "answer=" ++ name_of code) ∷ []) ≡ code
answers_so code = rw (named code) refl

pub probes : ReturnsEach probe_plays
probes func code = ((codes "answer=" ++ name_of code) ∷ [], λ room held sight. answers_so code)
