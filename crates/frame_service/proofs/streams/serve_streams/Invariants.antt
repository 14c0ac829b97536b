use Rattle.std.specs.declared.io.Stdin.{Stdin}
use Rattle.std.specs.declared.io.traits.Read.{remaining-default}
use Rattle.cmd_check.specs.pam_library.specs.Slots.{closed}
use Rattle.frame_service.specs.Streams.{asks_front, asks_nobody}
use Rattle.frame_service.proofs.FrontSlotFacts.{FrontFirst}
use Rattle.frame_service.proofs.streams.serve_streams.OwnLists.{own-5}
use Rattle.frame_service.proofs.streams.serve_streams.Given as goal

abbrev pub invariant-loop : goal.invariant-loop
invariant-loop g l = FrontFirst (λ b. closed ((own-5.entry b.vtable).1.conv_holds b.value))
    (closed (asks_front (remaining-default Stdin l.fn.front.reader))) (closed asks_nobody) l.convs.items l.counter
