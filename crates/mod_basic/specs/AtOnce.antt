-- A module that decides at once (this project's own).
use Rattle.std.specs.Prelude.{ℕ}
use Rattle.pam_base.specs.declared.code.Code.{Code}
use Rattle.pam_room.specs.item_store.specs.Items.{ItemTexts}
use Rattle.pam_room.specs.Call.{PlainCall}
use Rattle.pam_room.specs.Module.{Plays, answered}

-- a code by the call, the items and the caller's user ID is returned
abbrev pub plays_at_once : (PlainCall → ItemTexts → ℕ → Code) → Plays
plays_at_once code_of call room held sight =
    answered (code_of call room.items sight.caller) room sight
