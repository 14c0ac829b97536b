-- The calls between start and end, one after another.
use Rattle.std.proofs.Common.{◌≡◌, Bool, true, false, List, [], ◌∷◌, Option, Some, None, ap, sym, ◌∙◌}
use Rattle.pam_base.specs.declared.code.Code.{Code}
use Rattle.pam_base.specs.declared.call.AppCall.{AppCall}
use Rattle.cmd_run.specs.pam_library.specs.declared.outcome.Answer.{Answer}
use Rattle.cmd_login.specs.declared.calls.Accepted.{Accepted}
use Rattle.cmd_login.specs.declared.calls.Accepted.TheVariants.{Success, SuccessOrTooOld, Any}
use Rattle.cmd_login.specs.declared.calls.LoginCall.{LoginCall}
use Rattle.cmd_login.specs.Calls.{accepts, call_of, code_in, is_due}
use Rattle.cmd_login.specs.Ends.{IsDenial}
use Rattle.cmd_login.specs.Login.{GoesThrough, Judged, MakesCall, Part, Returns, Then, Turn}

-- a code that isn't accepted denies
pub not_accepted : (accepted : Accepted) (code : Code) → accepts accepted code ≡ false → IsDenial code
not_accepted Success code refuses e = let accepted : accepts Success code ≡ true = ap (accepts Success) e in cc
not_accepted SuccessOrTooOld code refuses e = let accepted : accepts SuccessOrTooOld code ≡ true = ap (accepts SuccessOrTooOld) e in cc
not_accepted Any code refuses e = cc

pub none_left : (all : List LoginCall) (last : Code) → all ≡ [] → Returns {T = Option Code} None ≡ GoesThrough all last
none_left all last e = ap (λ (l : List LoginCall). GoesThrough l last) (sym e)

module _ (all : List LoginCall) (c : LoginCall) (calls : List LoginCall) (last : Code) (e : all ≡ c ∷ calls) where
  turns : (due : Bool) → is_due c.when last ≡ due → Turn due c last (GoesThrough calls) ≡ GoesThrough all last
  turns due is = ap (λ (b : Bool). Turn b c last (GoesThrough calls)) (sym is) ∙ ap (λ (l : List LoginCall). GoesThrough l last) (sym e)

  -- the first call isn't made
  pub skips : is_due c.when last ≡ false → GoesThrough calls last ≡ GoesThrough all last
  skips is = turns false is

  -- it is made
  pub makes : (call : AppCall) → call ≡ call_of c → is_due c.when last ≡ true
      → Then (MakesCall c.place call) (λ (answer : Answer). Judged (accepts c.accepted (code_in answer)) (code_in answer) (GoesThrough calls))
      ≡ GoesThrough all last
  makes call same is =
      ap (λ (x : AppCall). Then (MakesCall c.place x) (λ (answer : Answer). Judged (accepts c.accepted (code_in answer)) (code_in answer) (GoesThrough calls))) same
      ∙ turns true is

-- how the login goes on after a code
module _ (accepted : Accepted) (Others : Code → Part (Option Code)) (code : Code) (answer : Answer) (code_is : code ≡ code_in answer) where
  judges : (goes : Bool) → accepts accepted code ≡ goes → Judged goes code Others ≡ Judged (accepts accepted (code_in answer)) (code_in answer) Others
  judges goes is = ap (λ (b : Bool). Judged b code Others) (sym is) ∙ ap (λ (x : Code). Judged (accepts accepted x) x Others) code_is

  pub goes_on : accepts accepted code ≡ true → Others code ≡ Judged (accepts accepted (code_in answer)) (code_in answer) Others
  goes_on is = judges true is

  pub is_denied : accepts accepted code ≡ false → Returns (Some code) ≡ Judged (accepts accepted (code_in answer)) (code_in answer) Others
  is_denied is = judges false is
