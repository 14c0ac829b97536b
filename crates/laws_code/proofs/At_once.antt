-- The codes of the modules that decide at once.
use Rattle.std.proofs.Common.{◌≡◌, ◌≢◌, inl, inr, ℕ, ◌==◌, Bool, true, false, cond, refl}
use Rattle.std.proofs.lemmas.Bool.{eqb-true}
use Rattle.pam_base.specs.declared.code.Code.TheVariants as returns
use Rattle.pam_base.specs.declared.call.Func.{Func}
use Rattle.pam_base.specs.declared.call.Func.TheVariants.{Authenticate, SetCred, AcctMgmt, OpenSession, CloseSession, ChAuthTok}
use Rattle.mod_basic.specs.Permit.{permit_plays}
use Rattle.mod_basic.specs.Deny.{deny_plays, denial}
use Rattle.mod_basic.specs.Rootok.{rootok_code, rootok_plays}
use Rattle.laws_code.specs.Codes.{deny_codes, permit_codes, rootok_codes}
use Rattle.laws_code.specs.Returns.{IsOneOf, ReturnsOf}
use Rattle.laws_code.specs.Succeeds.{DenyNeverSucceeds, RootokSucceedsForRoot}
use Rattle.laws_code.proofs.ModuleCodeFacts.{either}

pub permits : ReturnsOf permit_plays permit_codes
permits call room held sight = inl refl

denies_so : (f : Func) → IsOneOf (denial f) (deny_codes f)
denies_so Authenticate = inl refl
denies_so SetCred = inl refl
denies_so AcctMgmt = inl refl
denies_so OpenSession = inl refl
denies_so CloseSession = inl refl
denies_so ChAuthTok = inl refl

pub denies : ReturnsOf deny_plays deny_codes
denies call room held sight = denies_so call.func

fails_so : (f : Func) → denial f ≡ returns.Success → ⊥
fails_so Authenticate e = cc
fails_so SetCred e = cc
fails_so AcctMgmt e = cc
fails_so OpenSession e = cc
fails_so CloseSession e = cc
fails_so ChAuthTok e = cc

pub never_succeeds : DenyNeverSucceeds
never_succeeds call room held sight e = fails_so call.func e

root_so : (f : Func) (caller : ℕ) → IsOneOf (rootok_code f caller) (rootok_codes f)
root_so Authenticate caller = either (λ c. IsOneOf c (rootok_codes Authenticate)) (caller == 0) _ _ (inl refl) (inr (inl refl))
root_so SetCred caller = inl refl
root_so AcctMgmt caller = either (λ c. IsOneOf c (rootok_codes AcctMgmt)) (caller == 0) _ _ (inl refl) (inr (inl refl))
root_so OpenSession caller = inl refl
root_so CloseSession caller = inl refl
root_so ChAuthTok caller = either (λ c. IsOneOf c (rootok_codes ChAuthTok)) (caller == 0) _ _ (inl refl) (inr (inl refl))

pub roots : ReturnsOf rootok_plays rootok_codes
roots call room held sight = root_so call.func sight.caller

zero_so : (b : Bool) (caller : ℕ) → (caller == 0) ≡ b → cond b returns.Success returns.AuthErr ≡ returns.Success → caller ≡ 0
zero_so true caller is e = eqb-true caller 0 is
zero_so false caller is e = absurd cc

root_needed : (f : Func) (caller : ℕ) → f ≢ SetCred → rootok_code f caller ≡ returns.Success → caller ≡ 0
root_needed Authenticate caller other e = zero_so (caller == 0) caller refl e
root_needed SetCred caller other e = absurd (other refl)
root_needed AcctMgmt caller other e = zero_so (caller == 0) caller refl e
root_needed OpenSession caller other e = absurd cc
root_needed CloseSession caller other e = absurd cc
root_needed ChAuthTok caller other e = zero_so (caller == 0) caller refl e

pub root_alone : RootokSucceedsForRoot
root_alone call room held sight other e = root_needed call.func sight.caller other e
