-- What the module does for each function.
use Rattle.std.proofs.Common.{◌≡◌, Result, IfOk, sym, subst}
use Rattle.pam_base.specs.declared.call.Func.{Func}
use Rattle.pam_base.specs.declared.call.Func.TheVariants.{SetCred}
use Rattle.pam_base.specs.declared.code.Code.{Code}
use Rattle.pam_base.specs.declared.fault.NoMemory.{NoMemory}
use Rattle.std.specs.Prelude.{List}
use Rattle.pam_room.specs.Call.{PlainCall}
use Rattle.pam_room.specs.Module.{NamedData, named_data}
use Rattle.pam_room.specs.State.{Scene}
use Rattle.module_acts.specs.Act.{Act, Acts, answers}
use Rattle.module_acts.specs.Returns.{Follows}
use Rattle.module_acts.specs.Steps.{sees_data}
use Rattle.module_acts.specs.Accounts.{Known, nothing_known}
use Rattle.mod_unix.specs.Unix.{act_of_func, kept_code}

pub by_this : (f func : Func) (call : PlainCall) (r : Result Code NoMemory) (old new : Scene) → f ≡ func → IfOk r (λ code. Follows (act_of_func func call) old code new) → IfOk r (λ code. Follows (act_of_func f call) old code new)
by_this f func call r old new e h = subst (λ x. IfOk r (λ code. Follows (act_of_func x call) old code new)) (sym e) h

pub set_cred : ((code : Code) (known : Known) (s : Scene) → Acts (answers code) known s code s)
    → ((act : List NamedData → Act) (known : Known) (s : Scene) (code : Code) (new : Scene) → Acts (act (named_data s.room.transaction.datums.live)) known s code new → Acts (sees_data act) known s code new)
    → (call : PlainCall) (s : Scene) (code : Code) → code ≡ kept_code (named_data s.room.transaction.datums.live) → Follows (act_of_func SetCred call) s code s
set_cred answering seeing call s code e = seeing (λ held. answers (kept_code held)) nothing_known s code s (subst (λ x. Acts (answers x) nothing_known s code s) e (answering code nothing_known s))
