-- The result of a step, or of a whole definition, is returned.
use Rattle.std.proofs.Common.{◌≡◌, Result, Ok, Err}
use Rattle.pam_base.specs.declared.code.Code.{Code}
use Rattle.pam_base.specs.declared.code.Code.TheVariants as returns
use Rattle.pam_base.specs.declared.fault.ConvErr.{ConvErr}
use Rattle.pam_base.specs.declared.fault.Refuse.{Refuse}
use Rattle.pam_base.specs.declared.fault.Refuse.TheVariants.{NoMemory, Named}
use Rattle.pam_room.specs.State.{Scene}
use Rattle.module_acts.specs.Accounts.{nothing_known}
use Rattle.module_acts.specs.Act.{Act, answers}
use Rattle.module_acts.specs.Returns.{Ends, Finishes, Follows, Returns}
use Rattle.module_acts.proofs.TransactionStepFacts.{answering}

pub refused : {A : Type 0} (e : Refuse ConvErr) (x : ConvErr) (step : (A → Act) → Act) (act : A → Act) (s b : Scene) → e ≡ Named x → Ends e step s b → Follows (step act) s returns.ConvErr b
refused e x step act s b is h = (rw is at h) act nothing_known

pub unanswered : (e : Refuse ConvErr) (x : ConvErr) (act : Act) (s b : Scene) → e ≡ Named x → Finishes (Err e) act s b → Follows act s returns.ConvErr b
unanswered e x act s b is h = rw is at h

pub code_finishes : (step : (Code → Act) → Act) (r : Result Code (Refuse ConvErr)) (old new : Scene) → Returns r step old new → Finishes r (step answers) old new
code_finishes step (Ok code) old new h = h answers nothing_known code new (answering code nothing_known new)
code_finishes step (Err (Named e)) old new h = h answers nothing_known
code_finishes step (Err NoMemory) old new h = tt
