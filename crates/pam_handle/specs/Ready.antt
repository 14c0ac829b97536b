-- What has to hold between two calls of a transaction (this project's own).
use Rattle.std.specs.Prelude.{◌≡◌, List, length}
use Rattle.dispatch_core.specs.Lines.{names_of}
use Rattle.dispatch_core.specs.pam_room.specs.Module.{Player}
use Rattle.dispatch_core.specs.pam_room.specs.State.{PlainProcess}
use Rattle.dispatch_core.specs.pam_room.specs.Stays.{IsReady}
use Rattle.pam_handle.specs.Handle.{PlainHandle}

-- a transaction may be called with these modules in this process: it was started with them, and its module data are
-- sound
abbrev pub IsReadyFor : List Player → PlainHandle → PlainProcess → Type 0
IsReadyFor players h process = (h.names ≡ names_of players)
    × IsReady (length players) h.room.transaction process
