-- A configuration that was loaded is the one that a check prints.
use Rattle.std.proofs.Common.{◌≡◌, ℕ, List, Result, ap, sym, ◌∙◌, subst}
use Rattle.std.proofs.Math.Path.{fun_ext}
use Rattle.std.specs.Str.{str_to_ascii_lowercase}
use Rattle.pam_outside.specs.Files.{VaultState}
use Rattle.service_print.specs.control_words.specs.Stack.{Stack}
use Rattle.service_print.specs.service_load.specs.declared.rule_type.RuleType.{RuleType}
use Rattle.service_print.specs.service_load.specs.declared.rule_type.RuleType.TheVariants.{Auth, Account, Password, Session}
use Rattle.service_print.specs.service_load.specs.Trees.{Trees}
use Rattle.service_print.specs.service_load.specs.FirstFault.{Counts, Stop}
use Rattle.service_print.specs.service_load.specs.Load.{AreTrees, LoadsTrees}
use Rattle.service_print.specs.Printed.{printed, stacks_in}
use Rattle.cmd_check.specs.declared.finding.Checked.TheVariants.{Configured}
use Rattle.cmd_check.specs.declared.finding.Finding.{Finding}
use Rattle.cmd_check.specs.Check.{IsCheck, check_by, files_text}

same_at : (trees : Trees) (stack : RuleType → Stack) → AreTrees trees stack → (type : RuleType) → stacks_in trees type ≡ stack type
same_at trees stack are Auth = are.auth
same_at trees stack are Account = are.account
same_at trees stack are Password = are.password
same_at trees stack are Session = are.session

pub configured : (trees : Trees) (looked : Result Counts Stop) (new : VaultState) (stack : RuleType → Stack) (service : List ℕ) (finding : Finding)
    → LoadsTrees trees looked new stack → finding.found ≡ Configured
    → finding.text.items ≡ files_text (printed (stacks_in trees) (str_to_ascii_lowercase service))
    → IsCheck finding (check_by stack service looked) new
configured trees looked new stack service finding loads found text =
    subst (λ r. IsCheck finding (check_by stack service r) new) (sym loads.no_fault) (record {
      found = found;
      text = text ∙ ap (λ s. files_text (printed s (str_to_ascii_lowercase service))) (fun_ext (same_at trees stack loads.trees_are));
      asked = loads.calls;
    })
