use Rattle.std.proofs.Common.{ap}
use Rattle.pam_handle.specs.pam_room.specs.Plain.{plain_room}
use Rattle.pam_handle.specs.Plain.{plain_handle}
use Rattle.pam_library.proofs.SettingCallFacts.{puts_variable}
use Rattle.pam_library.proofs.Within.{failed_by}
use Rattle.pam_library.proofs.values.put_env.Goals as goal

pub returns-clause-goes : goal.returns-clause-goes
returns-clause-goes g c = puts_variable _ _ _ c.putenv.result _ c.coded.ensures
    (failed_by c.putenv.result _ _ (λ e. ap (plain_handle (plain_room (λ b. (goal.Conv-dyn g (b.vtable, b.value)).conv_holds b.value))) e) c.putenv.ensures.err)
    c.args.text.now (rw c.bytes.ensures at c.putenv.ensures.ok) (rw c.bytes.ensures at c.putenv.ensures.bad_item) (rw c.bytes.ensures at c.putenv.ensures.deletion)
