use Rattle.laws_lockout.proofs.LockoutDenialFacts.{lock_out}
use Rattle.laws_lockout.proofs.laws.wrong_passwords_lock_out.Goals as goal

pub returns : goal.returns
returns c = lock_out c.recorded_failures_are_kept.ensures.one c.written_tallies_are_read.ensures.new c.steps_change_files_by_plays.ensures.asks
    c.steps_change_files_by_plays.ensures.step c.other_modules_leave_tallies.ensures.alone c.enough_failures_lock.ensures
    c.locked_user_is_denied.ensures c.locked_user_is_kept_out.ensures.call c.ends_leave_it.ensures
