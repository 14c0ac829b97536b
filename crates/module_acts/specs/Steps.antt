-- More of what modules do step by step (this project's own).
use Rattle.std.specs.Prelude.{ℕ, max, Bool, if◌then◌else◌, List, [], ◌∷◌, Some, Result, Ok, Err, unwrap_or}
use Rattle.pam_base.specs.declared.code.Code.{Code}
use Rattle.pam_base.specs.declared.code.Code.TheVariants.{ConvErr}
use Rattle.pam_base.specs.declared.item.ItemName.{ItemName}
use Rattle.pam_room.specs.item_store.specs.Items.{text_of, with_text}
use Rattle.conv_port.specs.declared.conv.ConvFault.{ConvFault}
use Rattle.conv_port.specs.declared.message.Message.{Message}
use Rattle.conv_port.specs.declared.message.Reply.{Reply}
use Rattle.pam_room.specs.fail_delay.specs.Delay.{counted_request}
use Rattle.pam_outside.specs.Time.{Time}
use Rattle.pam_room.specs.Module.{NamedData, SeenRoom, answered}
use Rattle.pam_room.specs.Say.{AfterPrompt, speak, token_asked, token_of}
use Rattle.module_acts.specs.Act.{Act, in_room}

-- ---- asking

-- the item is there, or CONV_ERR is returned at once
abbrev pub with_asked : ItemName → AfterPrompt → (List ℕ → Act) → Act
with_asked item asked act stage = if asked.refused then answered ConvErr asked.room stage.sight
    else act (unwrap_or (text_of asked.room.items item) []) (in_room asked.room stage)

-- a token is asked for, and set
unfoldable pub asks_token : Bool → List ℕ → (List ℕ → Act) → Act
asks_token old prompt act stage =
    with_asked (token_of old) (token_asked old prompt stage.room) act stage

abbrev pub with_replies : Result (List Reply) ConvFault → SeenRoom → (List Reply → Act) → Act
with_replies (Ok replies) room act stage = act replies (in_room room stage)
with_replies (Err fault) room act stage = answered ConvErr room stage.sight

-- messages are sent to the user at once, for as many replies (pam_conv(3)), or CONV_ERR is returned
unfoldable pub exchanges : List Message → (List Reply → Act) → Act
exchanges messages act stage =
    with_replies (speak messages stage.room).answer (speak messages stage.room).room act stage

-- ---- seeing

-- the data of the transaction are seen (pam_get_data(3))
unfoldable pub sees_data : (List NamedData → Act) → Act
sees_data act stage = act stage.held stage

-- the time and the random word are seen
unfoldable pub sees_clock : (Time → Act) → Act
sees_clock act stage = act stage.sight.clock stage

-- the caller of the process is seen
unfoldable pub sees_caller : (ℕ → Act) → Act
sees_caller act stage = act stage.sight.caller stage

-- ---- changing

-- a delay is requested, in microseconds (pam_fail_delay(3))
unfoldable pub requests_delay : ℕ → Act → Act
requests_delay micros act stage =
    let delay = max (counted_request micros) stage.room.delay in
    act (in_room (record stage.room { delay = delay }) stage)

-- an item is set (pam_set_item(3))
unfoldable pub sets_item : ItemName → List ℕ → Act → Act
sets_item item text act stage =
    let items = with_text stage.room.items item (Some text) in
    act (in_room (record stage.room { items = items }) stage)

-- module data is set (pam_set_data(3)), and a code returned
unfoldable pub answers_keeping : NamedData → Code → Act
answers_keeping datum code stage =
    record (answered code stage.room stage.sight) { births = datum ∷ [] }
