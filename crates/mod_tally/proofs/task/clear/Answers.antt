use Rattle.std.proofs.Common.{ℕ, ◌<◌, ◌≤◌, List, [], ◌∷◌, length, arith}
use Rattle.module_acts.specs.Accounts.{Known}
use Rattle.module_acts.specs.Act.{Act, Acts}
use Rattle.pam_base.specs.declared.code.Code.{Code}
use Rattle.pam_base.specs.declared.code.Code.TheVariants.{Success}
use Rattle.module_acts.specs.pam_room.specs.State.{Scene}
use Rattle.mod_tally.specs.declared.tally.Failure.{Failure}
use Rattle.mod_tally.specs.Faillock.{clears, writes_tally}
use Rattle.mod_tally.proofs.task.clear.Goals as goal

none_stands : (name : List ℕ) (fs : List Failure) (act : Code → Act) (known : Known) (old : Scene) (code : Code) (new : Scene) → length fs < 1 → Acts (act Success) known old code new → Acts (clears name fs act) known old code new
none_stands name [] act known old code new few a = a
none_stands name (f ∷ fs) act known old code new few a = absurd (omega (arith, few))

some_stand : (name : List ℕ) (fs : List Failure) (act : Code → Act) (known : Known) (old : Scene) (code : Code) (new : Scene) → 1 ≤ length fs → Acts (writes_tally name [] Success act) known old code new → Acts (clears name fs act) known old code new
some_stand name [] act known old code new some a = absurd (omega (arith, some))
some_stand name (f ∷ fs) act known old code new some a = a

pub returns-in-empty-clause-told : goal.returns-in-empty-clause-told
returns-in-empty-clause-told g c = λ tells room clock act known code end rest.
    none_stands c.args.name.now c.args.failures.now act known _ _ _ c.in-empty.len_below rest

pub returns-in_ok-code-in-len1-up-clause-told : goal.returns-in_ok-code-in-len1-up-clause-told
returns-in_ok-code-in-len1-up-clause-told g c = λ tells room clock act known code end rest.
    some_stand c.args.name.now c.args.failures.now act known _ _ _ c.in-len1-up.len_at_least ((rw (c.bytes.ensures, c.in_ok-text-in-len1-up.ensures) at (c.in_ok-code-in-len1-up.ensures.told tells)) room clock act known code end rest)
