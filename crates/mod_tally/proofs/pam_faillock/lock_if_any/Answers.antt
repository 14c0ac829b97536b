use Rattle.std.proofs.Common.{ℕ, ◌<◌, ◌≤◌, List, [], ◌∷◌, length, Some, arith}
use Rattle.module_acts.specs.Accounts.{Known}
use Rattle.module_acts.specs.Act.{Act, Acts}
use Rattle.pam_base.specs.declared.code.Code.{Code}
use Rattle.pam_base.specs.declared.code.Code.TheVariants.{Success}
use Rattle.module_acts.specs.pam_room.specs.State.{Scene}
use Rattle.mod_tally.specs.declared.settings.Task.{Task}
use Rattle.mod_tally.specs.declared.tally.Failure.{Failure}
use Rattle.mod_tally.specs.Faillock.{if_any, locks_file}
use Rattle.mod_tally.specs.Settings.{PlainSettings, plain_settings}
use Rattle.mod_tally.proofs.pam_faillock.lock_if_any.Goals as goal

module _ (task : Task) (s : PlainSettings) (file lock : List ℕ) (act : Code → Act) (known : Known) (old : Scene) (code : Code) (new : Scene) where
  no_failures : (fs : List Failure) → length fs < 1 → Acts (act Success) known old code new → Acts (if_any task s file lock act (Some fs)) known old code new
  no_failures [] few a = a
  no_failures (f ∷ fs) few a = absurd (omega (arith, few))

  some_failures : (fs : List Failure) → 1 ≤ length fs → Acts (locks_file task s file lock act) known old code new → Acts (if_any task s file lock act (Some fs)) known old code new
  some_failures [] some a = absurd (omega (arith, some))
  some_failures (f ∷ fs) some a = a

pub returns-in-empty-clause-told : goal.returns-in-empty-clause-told
returns-in-empty-clause-told g c = λ tells clock ticks conv act known code end rest.
    no_failures c.args.job.now.task (plain_settings c.args.job.now.settings) c.args.job.now.file.now c.args.job.now.lock.now act known _ _ _ c.args.failures.now c.in-empty.len_below rest

pub returns-in_ok-code-in-len1-up-clause-told : goal.returns-in_ok-code-in-len1-up-clause-told
returns-in_ok-code-in-len1-up-clause-told g c = λ tells clock ticks conv act known code end rest.
    some_failures c.args.job.now.task (plain_settings c.args.job.now.settings) c.args.job.now.file.now c.args.job.now.lock.now act known _ _ _ c.args.failures.now c.in-len1-up.len_at_least (c.in_ok-code-in-len1-up.ensures.told tells clock ticks conv act known code end rest)
