use Rattle.std.proofs.Common.{map}
use Rattle.pam_room.specs.Module.{player_of}
use Rattle.pam_room.specs.Plain.{plain_room, plain_world}
use Rattle.pam_handle.specs.Plain.{plain_handle}
use Rattle.pam_handle.specs.Ready.{IsReadyFor}
use Rattle.tests_handle.proofs.tests.scene.call_all.Given as goal

abbrev pub invariant-loop-func : goal.invariant-loop-func
invariant-loop-func g l =
    let players = map (player_of (λ b. (goal.Module-dyn g (b.vtable, b.value)).label b.value) (λ b. (goal.Module-dyn g (b.vtable, b.value)).plays b.value) (λ b. (goal.Module-dyn g (b.vtable, b.value)).note b.value) (λ b. (goal.Module-dyn g (b.vtable, b.value)).breaks b.value)) l.gear.mods.items in
    let h = plain_handle (plain_room (λ b. (goal.Conv-dyn g (b.vtable, b.value)).conv_holds b.value)) l.handle in
    let w = plain_world (λ b. (goal.Vault-dyn g (b.vtable, b.value)).vault_holds b.value) (λ b. (goal.Clock-dyn g (b.vtable, b.value)).clock_holds b.value) (λ b. (goal.Nap-dyn g (b.vtable, b.value)).nap_holds b.value) l.world in
    IsReadyFor players h w.process
