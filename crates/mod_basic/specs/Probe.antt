-- pam_probe, a module for trying out a stack (this project's own).
use Rattle.std.specs.Prelude.{◌≡◌, ℕ, ◌+◌, ◌*◌, ◌%◌, ◌^◌, max, Bool, true, false, not, is_ok, if◌then◌else◌, Option, None, Result, Ok, Err, List, [], ◌∷◌, ◌++◌, length, take, codes}
use Rattle.std.specs.Option.{unwrap_or, option_and_then}
use Rattle.std.specs.List.{filter_map, last_or}
use Rattle.conv_port.specs.declared.message.Message.{Message}
use Rattle.pam_base.specs.Code.{code_of_word}
use Rattle.pam_base.specs.declared.style.Style.{Style}
use Rattle.pam_base.specs.declared.code.Code.{Code}
use Rattle.pam_base.specs.declared.code.Code.TheVariants as returns
use Rattle.fail_delay.specs.Delay.{counted_request}
use Rattle.pam_room.specs.Call.{value_in}
use Rattle.pam_base.specs.declared.fault.ConvErr.{ConvErr}
use Rattle.pam_base.specs.declared.fault.Refuse.{Refuse}
use Rattle.pam_base.specs.declared.fault.Refuse.TheVariants as refusals
use Rattle.data_cleanup.specs.DataList.{PlainDataList}
use Rattle.data_cleanup.specs.Ledger.{PlainLedger}
use Rattle.pam_room.specs.Module.{HasSet, NamedData, Note, Played, Plays, SeenRoom, Sight, same_locks}
use Rattle.pam_room.specs.Say.{speak}
use Rattle.mod_basic.specs.Request.{PlainRequest, set_data, send, delay, nothing, request_of}

-- the state between two of its arguments: whether the conversation gave no reply, the room, and the
-- data set so far
pub record Probing : Type 0 where
  pub refused : Bool
  pub room : SeenRoom
  pub births : List NamedData

abbrev pub probing : Bool → SeenRoom → List NamedData → Probing
probing refused room births = record { refused = refused; room = room; births = births }

-- the data that a request sets
abbrev pub births_in : PlainRequest → List NamedData
births_in (set_data name payload) = record { name = name; payload = payload } ∷ []
births_in (send style text) = []
births_in (delay micros) = []
births_in nothing = []

-- the message that is sent: the first 512 bytes of its text count
abbrev pub message_of : Style → List ℕ → Message
message_of style text = record { style = style; text = take 512 text }

-- what a request does to the room, and whether the conversation gave no reply
abbrev pub refuses : PlainRequest → SeenRoom → Bool
refuses (send style text) room = not (is_ok (speak (message_of style text ∷ []) room).answer)
refuses (set_data name payload) room = false
refuses (delay micros) room = false
refuses nothing room = false

abbrev pub room_after : PlainRequest → SeenRoom → SeenRoom
room_after (send style text) room = (speak (message_of style text ∷ []) room).room
room_after (delay micros) room = record room { delay = max (counted_request micros) room.delay }
room_after (set_data name payload) room = room
room_after nothing room = room

abbrev pub probed : PlainRequest → Probing → Probing
probed request p = probing (refuses request p.room) (room_after request p.room) (p.births
    ++ births_in request)

-- all arguments in order, up to a message that got no reply
abbrev pub probed_all : List (List ℕ) → Probing → Probing
probed_all [] p = p
probed_all (arg ∷ args) p = if (probed (request_of arg) p).refused then probed (request_of arg) p
    else probed_all args (probed (request_of arg) p)

-- what one request does if the conversation is modelled; nothing is stated if an allocation fails
abbrev pub Probes : {T : Type 0} → Result T (Refuse ConvErr) → PlainRequest → SeenRoom → SeenRoom
    → Type 0
Probes (Ok v) request old new = (refuses request old ≡ false) × (new ≡ room_after request old)
Probes (Err (refusals.Named e)) request old new = (refuses request old ≡ true)
    × (new ≡ room_after request old)
Probes (Err refusals.NoMemory) request old new = Unit {0}

-- the result of all requests: how they ended, the room, and the data that were set
pub record ComesTo (refused : Bool) (p : Probing) (room : SeenRoom) (owner : ℕ)
    (list : PlainDataList) (ledger : PlainLedger) (later : PlainDataList)
    (after : PlainLedger) : Type 0 where
  pub refused_is : p.refused ≡ refused
  pub room_is : room ≡ p.room
  pub births_are : HasSet owner p.births list ledger later after

abbrev pub ProbesAll : {T : Type 0} → Result T (Refuse ConvErr) → Probing → SeenRoom → ℕ
    → PlainDataList → PlainLedger → PlainDataList → PlainLedger → Type 0
ProbesAll (Ok v) p room owner list ledger later after =
    ComesTo false p room owner list ledger later after
ProbesAll (Err (refusals.Named e)) p room owner list ledger later after =
    ComesTo true p room owner list ledger later after
ProbesAll (Err refusals.NoMemory) p room owner list ledger later after = Unit {0}

abbrev pub code_in : List ℕ → Option Code
code_in arg = option_and_then code_of_word (value_in (codes "answer=") arg)

-- the last answer=WORD whose word is a code's, or SUCCESS
abbrev pub fixed_answer : List (List ℕ) → Code
fixed_answer args = unwrap_or (last_or None (filter_map code_in args)) returns.Success

abbrev pub played_so : Probing → List (List ℕ) → Sight → Played
played_so p args sight = record {
  code = if p.refused then returns.ConvErr else fixed_answer args;
  room = p.room;
  births = p.births;
  files = sight.files;
  locks = same_locks;
  calls = 0;
  draws = 0;
}

abbrev pub probe_plays : Plays
probe_plays call room held sight =
    played_so (probed_all call.args (probing false room [])) call.args sight

-- the result of its cleanup is made from payload and status
abbrev pub probe_note : Note
probe_note payload status = (256 * length payload + status % 256) % 2 ^ 32
