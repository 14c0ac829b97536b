-- When somebody is let in (this project's own).
use Rattle.std.specs.Prelude.{◌≡◌, ℕ}
use Rattle.pam_base.specs.declared.call.Func.{Func}
use Rattle.pam_base.specs.declared.call.Func.TheVariants.{Authenticate, SetCred, AcctMgmt}
use Rattle.pam_base.specs.declared.flags.TheConstants.{ESTABLISH_CRED}
use Rattle.pam_handle.specs.declared.handle.Handle.{Handle}
use Rattle.pam_room.specs.declared.world.World.{World}

-- the same objects and the same process, except for the clock
pub record IsSameWorld {A B C : Type 0} {VA : A → Type 0} {VB : B → Type 0} {VC : C → Type 0}
    (old new : World A B C VA VB VC) : Type 0 where
  pub vault : new.vault ≡ old.vault
  pub nap : new.nap ≡ old.nap
  pub process : new.process ≡ old.process

-- Three calls, one after another on one transaction, returned SUCCESS. `Succeeds` says of a call of a function with these
-- flags that it did, with the transaction and the world before and after it; between two calls only the clock is set.
pub record IsLetIn {X : Type 0} {V : X → Type 0} {W : Type 0}
    (Succeeds : Func → ℕ → Handle X V → Handle X V → W → W → Type 0) (Same : W → W → Type 0)
    (old new : Handle X V) (before after : W) : Type 0 where
  -- the transaction and the world before and after each call
  pub authenticated : Handle X V
  pub checked : Handle X V
  pub at_first : W
  pub after_first : W
  pub at_second : W
  pub after_second : W
  pub at_third : W
  pub authenticate : Succeeds Authenticate 0 old authenticated at_first after_first
  pub acct_mgmt : Succeeds AcctMgmt 0 authenticated checked at_second after_second
  pub setcred : Succeeds SetCred ESTABLISH_CRED checked new at_third after
  pub first : Same before at_first
  pub second : Same after_first at_second
  pub third : Same after_second at_third
