-- Where the hash of a user is stored.
use Rattle.std.proofs.Common.{◌≡◌, ℕ, Bool, true, false, List, codes}
use Rattle.pam_base.specs.declared.code.Code.{Code}
use Rattle.pam_room.specs.State.{Scene}
use Rattle.module_acts.specs.Accounts.{Known, account_limit}
use Rattle.module_acts.specs.Act.{Act, Acts, reads_file}
use Rattle.mod_unix.specs.declared.look.Field.TheVariants.{Holds}
use Rattle.mod_unix.specs.declared.look.KnownPassword.{KnownPassword}
use Rattle.mod_unix.specs.declared.look.KnownPassword.TheVariants.{Plain}
use Rattle.mod_unix.specs.Look.{after_passwd, shadow_if_x, is_x, shadow_in}

module _ (user hash : List ℕ) (act : KnownPassword → Act) (known : Known) (s : Scene) (code : Code) (end : Scene) where
  not_x : (x : Bool) → false ≡ x → Acts (act (Plain hash)) known s code end → Acts (shadow_if_x x user hash act) known s code end
  not_x x e rest = rw (← e) rest

  pub not_in_shadow : false ≡ is_x hash → Acts (act (Plain hash)) known s code end → Acts (after_passwd user (Holds hash) act) known s code end
  not_in_shadow e rest = not_x _ e rest

  an_x : (x : Bool) → true ≡ x → Acts (reads_file (codes "/etc/shadow") account_limit (λ c. act (shadow_in user c))) known s code end → Acts (shadow_if_x x user hash act) known s code end
  an_x x e rest = rw (← e) rest

  pub in_shadow : true ≡ is_x hash → Acts (reads_file (codes "/etc/shadow") account_limit (λ c. act (shadow_in user c))) known s code end → Acts (after_passwd user (Holds hash) act) known s code end
  in_shadow e rest = an_x _ e rest
