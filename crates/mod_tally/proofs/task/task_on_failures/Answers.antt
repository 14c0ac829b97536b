use Rattle.std.proofs.Common.{◌≡◌, ℕ, true, false, IsTrue, List, sym, ◌∙◌, true≢false}
use Rattle.mod_tally.specs.declared.settings.Task.{Task}
use Rattle.mod_tally.specs.declared.settings.Task.TheVariants.{AuthFail, AuthSucc, Clear, Preauth}
use Rattle.mod_tally.specs.declared.tally.Failure.{Failure}
use Rattle.mod_tally.specs.Faillock.{is_denied}
use Rattle.mod_tally.specs.Settings.{PlainSettings, plain_settings}
use Rattle.mod_tally.specs.Tally.{is_locked}
use Rattle.mod_tally.proofs.task.task_on_failures.Goals as goal

-- a user whom the failures don't lock isn't denied
not_denied : (task : Task) (s : PlainSettings) (now : ℕ) (fs : List Failure) → is_locked s.deny s.interval s.unlock now fs ≡ false → IsTrue (is_denied task s now fs) → ⊥
not_denied Clear s now fs free denied = cc
not_denied Preauth s now fs free denied = true≢false (sym denied ∙ free)
not_denied AuthFail s now fs free denied = true≢false (sym denied ∙ free)
not_denied AuthSucc s now fs free denied = true≢false (sym denied ∙ free)

pub returns-then-locked-clause-told : goal.returns-then-locked-clause-told
returns-then-locked-clause-told g c = λ tells clock ticks conv act known code end rest.
    let locked = rw (c.items.ensures, ticks) at (sym c.is_locked-locked.ensures ∙ c.if-locked.true) in
    rw c.in-Preauth.is (c.act_steps.ensures.timing _ _ _ _ _ (rw locked rest))

pub returns-then-locked-2-clause-told : goal.returns-then-locked-2-clause-told
returns-then-locked-2-clause-told g c = λ tells clock ticks conv act known code end rest.
    let locked = rw (c.items.ensures, ticks) at (sym c.is_locked-locked.ensures ∙ c.if-locked-2.true) in
    rw c.in-AuthSucc.is (c.act_steps.ensures.timing _ _ _ _ _ (rw locked rest))

pub returns-then-locked-3-clause-told : goal.returns-then-locked-3-clause-told
returns-then-locked-3-clause-told g c = λ tells clock ticks conv act known code end rest.
    let locked = rw (c.items.ensures, ticks) at (sym c.is_locked-locked.ensures ∙ c.if-locked-3.true) in
    rw c.in-AuthFail.is (c.act_steps.ensures.timing _ _ _ _ _ (rw locked rest))

pub returns-in_ok-code-in-Clear-clause-told : goal.returns-in_ok-code-in-Clear-clause-told
returns-in_ok-code-in-Clear-clause-told g c = λ tells clock ticks conv act known code end rest.
    rw c.in-Clear.is ((rw c.items-in-Clear.ensures at (c.in_ok-code-in-Clear.ensures.told tells)) _ _ act known _ _ rest)

pub returns-in_ok-code-in-Preauth-clause-told : goal.returns-in_ok-code-in-Preauth-clause-told
returns-in_ok-code-in-Preauth-clause-told g c = λ tells clock ticks conv act known code end rest.
    let locked = rw (c.items.ensures, ticks) at (sym c.is_locked-locked.ensures ∙ c.if-locked.false) in
    rw c.in-Preauth.is (c.act_steps.ensures.timing _ _ _ _ _ (rw locked (c.in_ok-code-in-Preauth.ensures.told tells _ _ act known _ _ rest)))

pub returns-in_ok-code-in-AuthSucc-clause-told : goal.returns-in_ok-code-in-AuthSucc-clause-told
returns-in_ok-code-in-AuthSucc-clause-told g c = λ tells clock ticks conv act known code end rest.
    let locked = rw (c.items.ensures, ticks) at (sym c.is_locked-locked.ensures ∙ c.if-locked-2.false) in
    rw c.in-AuthSucc.is (c.act_steps.ensures.timing _ _ _ _ _ (rw locked ((rw c.items-in-AuthSucc.ensures at (c.in_ok-code-in-AuthSucc.ensures.told tells)) _ _ act known _ _ rest)))

pub returns-in_ok-code-in-AuthFail-clause-told : goal.returns-in_ok-code-in-AuthFail-clause-told
returns-in_ok-code-in-AuthFail-clause-told g c = λ tells clock ticks conv act known code end rest.
    let locked = rw (c.items.ensures, ticks) at (sym c.is_locked-locked.ensures ∙ c.if-locked-3.false) in
    let recorded = (rw ticks at (c.in_ok-code-in-AuthFail.ensures.told tells)) _ clock act known _ _ rest in
    rw c.in-AuthFail.is (c.act_steps.ensures.timing _ _ _ _ _ (rw locked (c.act_steps.ensures.timing _ _ _ _ _ (c.act_steps.ensures.seeing _ _ _ _ _ recorded))))

pub returns-in_err-code-in-Preauth-clause-denied : goal.returns-in_err-code-in-Preauth-clause-denied
returns-in_err-code-in-Preauth-clause-denied g c = λ denied.
    let free = rw c.items.ensures at (sym c.is_locked-locked.ensures ∙ c.if-locked.false) in
    absurd (not_denied c.args.job.now.task (plain_settings c.args.job.now.settings) c.args.moment _ free denied)

pub returns-in_ok-code-in-Preauth-clause-denied : goal.returns-in_ok-code-in-Preauth-clause-denied
returns-in_ok-code-in-Preauth-clause-denied g c = λ denied.
    let free = rw c.items.ensures at (sym c.is_locked-locked.ensures ∙ c.if-locked.false) in
    absurd (not_denied c.args.job.now.task (plain_settings c.args.job.now.settings) c.args.moment _ free denied)

pub returns-in_err-code-in-AuthSucc-clause-denied : goal.returns-in_err-code-in-AuthSucc-clause-denied
returns-in_err-code-in-AuthSucc-clause-denied g c = λ denied.
    let free = rw c.items.ensures at (sym c.is_locked-locked.ensures ∙ c.if-locked-2.false) in
    absurd (not_denied c.args.job.now.task (plain_settings c.args.job.now.settings) c.args.moment _ free denied)

pub returns-in_ok-code-in-AuthSucc-clause-denied : goal.returns-in_ok-code-in-AuthSucc-clause-denied
returns-in_ok-code-in-AuthSucc-clause-denied g c = λ denied.
    let free = rw c.items.ensures at (sym c.is_locked-locked.ensures ∙ c.if-locked-2.false) in
    absurd (not_denied c.args.job.now.task (plain_settings c.args.job.now.settings) c.args.moment _ free denied)

pub returns-in_err-code-in-AuthFail-clause-denied : goal.returns-in_err-code-in-AuthFail-clause-denied
returns-in_err-code-in-AuthFail-clause-denied g c = λ denied.
    let free = rw c.items.ensures at (sym c.is_locked-locked.ensures ∙ c.if-locked-3.false) in
    absurd (not_denied c.args.job.now.task (plain_settings c.args.job.now.settings) c.args.moment _ free denied)

pub returns-in_ok-code-in-AuthFail-clause-denied : goal.returns-in_ok-code-in-AuthFail-clause-denied
returns-in_ok-code-in-AuthFail-clause-denied g c = λ denied.
    let free = rw c.items.ensures at (sym c.is_locked-locked.ensures ∙ c.if-locked-3.false) in
    absurd (not_denied c.args.job.now.task (plain_settings c.args.job.now.settings) c.args.moment _ free denied)
