-- The result of a function of the module is returned.
use Rattle.std.proofs.Common.{◌≡◌, ℕ, [], ◌∷◌, Result, Ok, Err, IfOk, subst}
use Rattle.pam_base.specs.Code.{number_of}
use Rattle.pam_base.specs.declared.code.Code.{Code}
use Rattle.pam_base.specs.declared.code.Code.TheVariants as returns
use Rattle.pam_base.specs.declared.fault.ConvErr.{ConvErr}
use Rattle.pam_base.specs.declared.fault.NoMemory.{NoMemory as Memoryless}
use Rattle.pam_base.specs.declared.fault.Refuse.{Refuse}
use Rattle.pam_base.specs.declared.fault.Refuse.TheVariants.{Named}
use Rattle.pam_room.specs.State.{Scene}
use Rattle.module_acts.specs.Accounts.{Known, nothing_known}
use Rattle.module_acts.specs.Act.{Act, Acts, Yields, answers}
use Rattle.module_acts.specs.Returns.{Ends, Follows}
use Rattle.module_acts.specs.Steps.{answers_keeping}
use Rattle.mod_unix.specs.declared.authenticate.Authenticated.{Authenticated}
use Rattle.mod_unix.specs.declared.authenticate.Authenticated.TheVariants.{Kept, Unkept}
use Rattle.mod_unix.specs.Authenticate.{keeps_for_setcred, setcred_return}

pub refused : {A : Type 0} (e : Refuse ConvErr) (x : ConvErr) (step : (A → Act) → Act) (act : A → Act) (s b : Scene) → e ≡ Named x → Ends e step s b → Follows (step act) s returns.ConvErr b
refused e x step act s b is h = (rw is at h) act nothing_known

module _ (step : (Authenticated → Act) → Act) (answer : Authenticated) (code : Code) (s b : Scene) where
  pub unkept : ((code : Code) (known : Known) (s : Scene) → Acts (answers code) known s code s) → answer ≡ Unkept code → Yields answer step s b → Follows (step keeps_for_setcred) s code b
  unfolding keeps_for_setcred
  unkept answering is h = (rw is at h) keeps_for_setcred nothing_known code b (answering code nothing_known b)

  pub settled : (r : Result Code Memoryless) (number : ℕ) (end : Scene) → answer ≡ Kept code → number ≡ number_of code → Yields answer step s b
      → IfOk r (λ a. Follows (answers_keeping (record { name = setcred_return; payload = number ∷ [] }) code) b a end) → IfOk r (λ a. Follows (step keeps_for_setcred) s a end)
  unfolding keeps_for_setcred
  settled (Ok a) number end is e h g =
      let came : Yields (Kept code) step s b = subst (λ (x : Authenticated). Yields x step s b) is h in
      came keeps_for_setcred nothing_known a end (subst (λ n. Follows (answers_keeping (record { name = setcred_return; payload = n ∷ [] }) code) b a end) e g)
  settled (Err none) number end is e h g = g
