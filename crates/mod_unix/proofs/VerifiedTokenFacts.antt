-- Tokens that were verified.
use Rattle.std.proofs.Common.{◌≡◌, ℕ, List, [], Option, Some, unwrap_or}
use Rattle.pam_base.specs.declared.code.Code.{Code}
use Rattle.pam_room.specs.State.{Scene}
use Rattle.module_acts.specs.Act.{Act, Acts}
use Rattle.mod_unix.specs.declared.authenticate.Authenticated.{Authenticated}
use Rattle.mod_unix.specs.declared.authenticate.Authenticated.TheVariants.{Kept}
use Rattle.mod_unix.specs.declared.look.KnownPassword.{KnownPassword}
use Rattle.module_acts.specs.Accounts.{Known}
use Rattle.mod_unix.specs.Verify.{verified}

-- the token in an item was verified
pub kept : (look : KnownPassword) (found : Option (List ℕ)) (token : List ℕ) (answer : Code) (act : Authenticated → Act) (known : Known) (s end : Scene) (code : Code) → Some token ≡ found → answer ≡ verified look token
    → Acts (act (Kept answer)) known s code end → Acts (act (Kept (verified look (unwrap_or found [])))) known s code end
kept look found token answer act known s end code e f rest = rw (← e, ← f) rest
