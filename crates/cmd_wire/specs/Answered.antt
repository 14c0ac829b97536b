-- Transactions that are ended and answered, and where that stops (this project's own).
use Rattle.std.specs.Prelude.{ℕ, List, Option, None, Result}
use Rattle.pam_base.specs.declared.code.Code.{Code}
use Rattle.pam_outside.specs.Streams.{SinkState}
use Rattle.cmd_run.specs.pam_room.specs.Module.{Player}
use Rattle.pam_wire.specs.Frame.{answer_of}
use Rattle.record_reader.specs.declared.ending.Ending.{Ending}
use Rattle.record_reader.specs.declared.ending.Stop.{Stop}
use Rattle.frame_stream.specs.declared.fault.FrameFault.{FrameFault}
use Rattle.cmd_run.specs.State.{RunState}
use Rattle.cmd_run.specs.Closings.{Closing}
use Rattle.cmd_run.specs.Reported.{Closes as ClosesAs, ClosesTo as ClosesAsTo, wrapped_closing, wrapped_closings}

-- a transaction that was ended, with its lines as an answer
abbrev pub answered_closing : Closing → Closing
answered_closing = wrapped_closing answer_of

abbrev pub closings : List Player → Code → RunState → List Closing
closings = wrapped_closings answer_of

-- all of them; or up to one that was ended and whose lines aren't whole
abbrev pub ClosesTo : List Player → Code → Result (Unit {0}) Stop → RunState → RunState
    → List Closing → List Closing → List ℕ → Type 0
ClosesTo = ClosesAsTo answer_of

-- what a modelled output shows of it
abbrev pub Closes : List Player → Code → Result (Unit {0}) Stop → RunState → RunState → SinkState
    → SinkState → Type 0
Closes = ClosesAs answer_of

-- nothing is written after these answers
abbrev pub nothing_last : Ending FrameFault → ℕ → Option (List ℕ)
nothing_last ending n = None
