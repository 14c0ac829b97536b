-- What the checker knows about a transaction, in terms of the calls (this project's own).
use Rattle.std.specs.Prelude.{Option, Some, None}
use Rattle.dispatch_core.specs.Calls as calls
use Rattle.dispatch_core.specs.Pending as calls_pending
use Rattle.pass_replay.specs.declared.held.Held.{Held}
use Rattle.pass_replay.specs.declared.held.Pending.{Pending}
use Rattle.pass_replay.specs.Kept.{kept_answers}

abbrev pub pending_of : Option Pending → Option calls_pending.Pending
pending_of None = None
pending_of (Some p) = Some (record { func = p.func; past = p.past; first = kept_answers p.first })

abbrev pub held_of : Held → calls.Held
held_of h = calls.held (kept_answers h.authenticated) (kept_answers h.opened) (pending_of h.pending)
