use Rattle.std.proofs.Common.{◌≡◌, ◌++◌, List, length, map}
use Rattle.data_cleanup.specs.Cleanup.{AwaitCleanup, IsCleaningUp, data_replace}
use Rattle.pam_room.specs.Module.{Player, notes_of, player_of}
use Rattle.pam_room.proofs.sweep.sweep.Given as goal

abbrev pub invariant-loop-datum : goal.invariant-loop-datum
invariant-loop-datum g l =
    let players : List Player = map (player_of (λ b. (goal.Module-dyn g (b.vtable, b.value)).label b.value) (λ b. (goal.Module-dyn g (b.vtable, b.value)).plays b.value) (λ b. (goal.Module-dyn g (b.vtable, b.value)).note b.value) (λ b. (goal.Module-dyn g (b.vtable, b.value)).breaks b.value)) l.fn.mods in
    record {
      cleaning : IsCleaningUp (notes_of players) data_replace l.fn.ledger l.fn.datums.gone l.ledger l.datums.gone;
      live : l.datums.live ≡ l.fn.datums.live;
      handle : l.datums.handle ≡ l.fn.datums.handle;
      awaiting : AwaitCleanup (length l.fn.mods) l.ledger (l.datums.gone ++ l.datums.live);
    }

abbrev pub decreases-loop-datum : goal.decreases-loop-datum
decreases-loop-datum g l = length l.datums.gone
