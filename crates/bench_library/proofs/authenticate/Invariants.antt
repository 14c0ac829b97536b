use Rattle.std.proofs.Common.{List, map}
use Rattle.pam_room.specs.Module.{Player, player_of}
use Rattle.pam_room.specs.Plain.{plain_process, plain_room}
use Rattle.pam_handle.specs.Plain.{plain_handle}
use Rattle.pam_handle.specs.Ready.{IsReadyFor}
use Rattle.bench_library.proofs.authenticate.Given as goal

abbrev pub invariant-loop : goal.invariant-loop
invariant-loop g l =
    let players : List Player =
    map
    (player_of (λ b. (goal.Module-dyn g (b.vtable, b.value)).label b.value)
    (λ b. (goal.Module-dyn g (b.vtable, b.value)).plays b.value)
    (λ b. (goal.Module-dyn g (b.vtable, b.value)).note b.value) (λ b. (goal.Module-dyn g (b.vtable, b.value)).breaks b.value)) l.gear.mods.items in
    IsReadyFor players
    (plain_handle (plain_room (λ b. (goal.Conv-dyn g (b.vtable, b.value)).conv_holds b.value))
    l.handle) (plain_process l.world.process)
