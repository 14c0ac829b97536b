use Rattle.std.proofs.Common.{ap, rules}
use Rattle.pam_handle.specs.pam_room.specs.Plain.{plain_room}
use Rattle.pam_handle.specs.Plain.{plain_handle}
use Rattle.pam_library.proofs.SettingCallFacts.{sets_item}
use Rattle.pam_library.proofs.Within.{failed_by}
use Rattle.pam_library.proofs.values.set_item.Goals as goal

pub returns-clause-goes : goal.returns-clause-goes
returns-clause-goes g c = sets_item _ _ _ c.set_item.result _ c.coded.ensures
    (failed_by c.set_item.result _ _ (λ e. ap (plain_handle (plain_room (λ b. (goal.Conv-dyn g (b.vtable, b.value)).conv_holds b.value))) e) c.set_item.ensures.err)
    c.args.item c.args.value.now (rw (← c.bytes_of.ensures) c.set_item.ensures.ok) c.set_item.ensures.bad_item
    (λ none. c.set_item.ensures.unset (search rules))
