use Rattle.std.specs.Prelude.{is_some}
use Rattle.cmd_login.specs.cmd_run.specs.pam_library.specs.Slots.{closed}
use Rattle.pam_session_cli.specs.Objects.{objects_of, slot_with}
use Rattle.pam_session_cli.proofs.SlotFacts.{AreSlots}
use Rattle.pam_session_cli.proofs.run_over_files.OwnLists.{own-5}
use Rattle.pam_session_cli.proofs.run_over_files.Given as goal

abbrev pub invariant-loop : goal.invariant-loop
invariant-loop g l = AreSlots (λ b. closed ((own-5.entry b.vtable).1.conv_holds b.value))
    (slot_with (objects_of l.fn.words).replies) l.convs.items l.counter (is_some l.day) (is_some l.fn.day)
