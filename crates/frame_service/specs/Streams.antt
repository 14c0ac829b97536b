-- Frames of a front end at the other end of two streams: its calls, and its replies, come over the one reader, and all that
-- is written for it goes over the one writer (this project's own).
use Rattle.std.specs.Prelude.{◌≡◌, ℕ, Bool, true, false, List, [], ◌∷◌, ◌++◌, map, replicate, Option, Some}
use Rattle.pam_outside.specs.Streams.{SourceState, SinkState}
use Rattle.system_objects.specs.Adapter.{Adapter}
use Rattle.pam_room.specs.conv_port.specs.declared.offer.Offer.TheVariants.{Answer}
use Rattle.pam_room.specs.conv_port.specs.Conv.{ConvState}
use Rattle.front_conv.specs.Spelled.{texts_in}
use Rattle.cmd_check.specs.pam_library.specs.Slots.{PlainSlot, closed}
use Rattle.shipped_modules.specs.Shipped.{shipped_players}
use Rattle.cmd_all.specs.ByCommand.{Around, Object, Setup, object_of}
use Rattle.cmd_all.specs.Command.{Command}
use Rattle.frame_service.specs.Service.{served_wait}
use Rattle.frame_service.specs.Serving.{ServesFrames}

-- ---- the streams

-- a stream that hasn't failed yet
abbrev pub unread : {T : Type 0} → T → Adapter T
unread stream = record { inner = stream; faults = 0 }

-- the calls' source, before and after the run
abbrev pub read_by : {R : Type 0} → Adapter R → Adapter R → Object SourceState
read_by = object_of (λ _. false) (λ _. record { left = []; calls = 0; reads_at_end = 0 }) (λ s. s.faults)

-- the answers' sink, before and after the run
abbrev pub written_by : {W : Type 0} → Adapter W → Adapter W → Object SinkState
written_by = object_of (λ _. false) (λ _. record { written = []; calls = 0 }) (λ s. s.faults)

-- ---- the conversations

-- The one of transaction 1: its replies are those that the front end has still to send, by the bytes that the reader has
-- still to give, if they are known. It waits for them.
abbrev pub asks_front : Option (List ℕ) → ConvState
asks_front incoming = record { offers = map Answer (texts_in incoming ++ []); waits = true; handed = [] }

-- any other: it gets its replies by calls, and has none yet
abbrev pub asks_nobody : ConvState
asks_nobody = record { offers = []; waits = true; handed = [] }

abbrev pub slots_over : Option (List ℕ) → List PlainSlot
slots_over incoming = closed (asks_front incoming) ∷ replicate 15 (closed asks_nobody)

-- ---- a run

-- the shipped modules, with these conversations and with a time of day that gives these moments; whether the time is modelled is
-- left open
abbrev pub setup_over : Option (List ℕ) → (ℕ → ℕ) → Bool → Setup
setup_over incoming gives tells = record {
  players = shipped_players;
  slots = slots_over incoming;
  gives = λ number. number ≡ served_wait;
  moments = λ n. Some (gives n);
  tells = tells;
}

-- Frames are served, by the exit status: calls are read from the reader from which transaction 1 gets its replies, and
-- answered over the writer to which its exchanges go.
pub record ServesStreams {R W : Type 0} (asked : Option Command) (status : ℕ) (reader : R)
    (incoming : Option (List ℕ)) (writer : W) (gives : ℕ → ℕ) (world : Around) : Type 0 where
  pub tells : Bool
  pub reader_after : Adapter R
  pub writer_after : Adapter W
  pub served : ServesFrames asked status (setup_over incoming gives tells) world
      (read_by (unread reader) reader_after) (written_by (unread writer) writer_after)
