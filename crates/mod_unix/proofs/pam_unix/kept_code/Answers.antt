use Rattle.std.proofs.Common.{ap, sym, ◌∙◌, List, ℕ, Option}
use Rattle.mod_unix.specs.Authenticate.{setcred_return}
use Rattle.mod_unix.specs.Unix.{code_in}
use Rattle.mod_unix.proofs.SetcredDataFacts.{missing, there}
use Rattle.mod_unix.proofs.pam_unix.kept_code.Goals as goal

pub returns-in-Ok : goal.returns-in-Ok
returns-in-Ok c = c.code_in.ensures ∙ ap (λ (p : Option (List ℕ)). code_in p) (sym (there setcred_return c.args.datums.now.live _ c.in-Ok.ensures))

pub returns-in-Err : goal.returns-in-Err
returns-in-Err c = ap (λ (p : Option (List ℕ)). code_in p) (sym (missing setcred_return c.args.datums.now.live c.in-Err.ensures))
