-- The end of a transaction (pam_end(3)): the owners clean up its module data, the last name first.
use Rattle.std.specs.Prelude.{ℕ, reverse}
use Rattle.data_cleanup.specs.Cleanup.{Notes, ledger_after}
use Rattle.dispatch_core.specs.pam_room.specs.State.{PlainWorld, PlainProcess}
use Rattle.pam_handle.specs.Handle.{PlainHandle}

abbrev pub process_after_end : Notes → ℕ → PlainHandle → PlainProcess → PlainProcess
process_after_end note status h p =
    record p { ledger = ledger_after note status (reverse h.room.transaction.datums.live) p.ledger }

abbrev pub world_after_end : Notes → ℕ → PlainHandle → PlainWorld → PlainWorld
world_after_end note status h w = record w { process = process_after_end note status h w.process }
