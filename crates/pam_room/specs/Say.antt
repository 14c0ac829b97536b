-- A module talks to the user (pam_conv(3), pam_get_user(3); the prompts, and that a conversation may leave a call
-- incomplete, are this project's own).
use Rattle.std.specs.Prelude.{◌≡◌, ◌⊎◌, ℕ, Bool, true, false, Option, Some, None, List, [], ◌∷◌, ◌++◌, Result, Ok, Err, is_ok, take, codes}
use Rattle.pam_base.specs.declared.fault.Refuse.{Refuse}
use Rattle.pam_base.specs.declared.fault.Refuse.TheVariants as refusals
use Rattle.pam_base.specs.declared.fault.ConvErr.{ConvErr}
use Rattle.pam_base.specs.declared.item.ItemName.{ItemName}
use Rattle.pam_base.specs.declared.item.ItemName.TheVariants.{User, AuthTok, OldAuthTok}
use Rattle.pam_base.specs.declared.style.Style.{Style}
use Rattle.pam_base.specs.declared.style.Style.TheVariants.{EchoOff, EchoOn}
use Rattle.item_store.specs.Items.{with_text}
use Rattle.pam_base.specs.Counts.{Rose}
use Rattle.conv_port.specs.Conv.{ConvState, answer_to, state_after}
use Rattle.conv_port.specs.declared.conv.ConvFault.{ConvFault}
use Rattle.conv_port.specs.declared.conv.ConvFault.TheVariants as faults
use Rattle.conv_port.specs.declared.message.Message.{Message}
use Rattle.conv_port.specs.declared.message.Reply.{Reply}
use Rattle.pam_room.specs.Module.{SeenRoom}

-- what the conversation returned, and the room after it
pub record Spoken : Type 0 where
  pub answer : Result (List Reply) ConvFault
  pub room : SeenRoom

-- whether the conversation asked to be called again later, or the call was incomplete before
abbrev pub is_put_off : Result (List Reply) ConvFault → Bool → Bool
is_put_off (Err faults.Again) before = true
is_put_off (Err faults.Gone) before = before
is_put_off (Err faults.NoMemory) before = before
is_put_off (Ok replies) before = before

-- messages are added to the transaction's messages and then sent to the conversation, which records
-- them
abbrev pub speak : List Message → SeenRoom → Spoken
speak messages room = record {
  answer = answer_to room.conv messages;
  room = record room {
    said = room.said ++ messages;
    conv = state_after room.conv messages;
    put_off = is_put_off (answer_to room.conv messages) room.put_off;
  };
}

-- the result of `say`, if the conversation is modelled; nothing is stated if an allocation fails
abbrev pub Says : Result (List Reply) (Refuse ConvErr) → Spoken → SeenRoom → Type 0
Says (Ok replies) spoken new = (spoken.answer ≡ Ok replies) × (new ≡ spoken.room)
Says (Err (refusals.Named e)) spoken new = (is_ok spoken.answer ≡ false) × (new ≡ spoken.room)
Says (Err refusals.NoMemory) spoken new = Unit {0}

-- the same for one message
abbrev pub Sends : Result Reply (Refuse ConvErr) → Spoken → SeenRoom → Type 0
Sends (Ok reply) spoken new = (spoken.answer ≡ Ok (reply ∷ [])) × (new ≡ spoken.room)
Sends (Err (refusals.Named e)) spoken new = (is_ok spoken.answer ≡ false) × (new ≡ spoken.room)
Sends (Err refusals.NoMemory) spoken new = Unit {0}

-- the counts of a conversation, and whether the call is incomplete
pub record Signs : Type 0 where
  pub faults : ℕ
  pub deferrals : ℕ
  pub put_off : Bool

abbrev pub signs : ℕ → ℕ → Bool → Signs
signs faults deferrals put_off = record {
  faults = faults;
  deferrals = deferrals;
  put_off = put_off;
}

-- the conversation returned Gone
pub record Failed (old new : Signs) : Type 0 where
  pub faults : Rose old.faults new.faults
  pub deferrals : new.deferrals ≡ old.deferrals
  pub put_off : new.put_off ≡ old.put_off

-- the conversation returned Again
pub record Deferred (old new : Signs) : Type 0 where
  pub faults : new.faults ≡ old.faults
  pub deferrals : Rose old.deferrals new.deferrals
  pub put_off : new.put_off ≡ true

-- With real objects too: CONV_ERR is returned if and only if the conversation returned Gone or
-- Again, and neither count rises otherwise.
abbrev pub ConvErrIsCounted : {T : Type 0} → Result T (Refuse ConvErr) → Signs → Signs → Type 0
ConvErrIsCounted (Ok v) old new = new ≡ old
ConvErrIsCounted (Err refusals.NoMemory) old new = new ≡ old
ConvErrIsCounted (Err (refusals.Named e)) old new = Failed old new ⊎ Deferred old new

-- ---- one prompt, whose reply becomes an item

-- whether it ended with CONV_ERR, and the room after it
pub record AfterPrompt : Type 0 where
  pub refused : Bool
  pub room : SeenRoom

abbrev pub asked : Bool → SeenRoom → AfterPrompt
asked refused room = record { refused = refused; room = room }

abbrev pub with_reply : ItemName → List Reply → SeenRoom → SeenRoom
with_reply item (reply ∷ replies) room =
    record room { items = with_text room.items item (Some reply.text) }
with_reply item [] room = room

abbrev pub asked_by : ItemName → Result (List Reply) ConvFault → SeenRoom → AfterPrompt
asked_by item (Ok replies) room = asked false (with_reply item replies room)
asked_by item (Err fault) room = asked true room

-- one message is sent, and an item set to its reply
abbrev pub ask_item : ItemName → Style → List ℕ → SeenRoom → AfterPrompt
ask_item item style prompt room =
    let spoken = speak (record { style = style; text = prompt } ∷ []) room in
    asked_by item spoken.answer spoken.room

-- the prompt for a user's name: USER_PROMPT, of which 512 bytes count, or the usual one
abbrev pub login_prompt : Option (List ℕ) → List ℕ
login_prompt (Some prompt) = take 512 prompt
login_prompt None = codes "login: "

abbrev pub user_or_ask : Option (List ℕ) → SeenRoom → AfterPrompt
user_or_ask (Some user) room = asked false room
user_or_ask None room = ask_item User EchoOn (login_prompt room.items.user_prompt) room

-- pam_get_user(3): if the user is set, nothing is asked
abbrev pub user_asked : SeenRoom → AfterPrompt
user_asked room = user_or_ask room.items.user room

abbrev pub token_of : Bool → ItemName
token_of true = OldAuthTok
token_of false = AuthTok

-- a token is asked for, hidden, and set
abbrev pub token_asked : Bool → List ℕ → SeenRoom → AfterPrompt
token_asked old prompt room = ask_item (token_of old) EchoOff prompt room

-- the result of such a call, if the conversation is modelled; nothing is stated if an allocation
-- fails
abbrev pub Asks : {T : Type 0} → Result T (Refuse ConvErr) → AfterPrompt → SeenRoom → Type 0
Asks (Ok v) a new = (a.refused ≡ false) × (new ≡ a.room)
Asks (Err (refusals.Named e)) a new = (a.refused ≡ true) × (new ≡ a.room)
Asks (Err refusals.NoMemory) a new = Unit {0}

-- a modelled conversation replied to this one prompt, and was asked nothing else
pub record Replied (style : Style) (prompt : List ℕ) (old new : ConvState) : Type 0 where
  pub reply : is_ok (answer_to old (record { style = style; text = prompt } ∷ [])) ≡ true
  pub after : new ≡ state_after old (record { style = style; text = prompt } ∷ [])

-- what such a call leaves of a modelled conversation if an allocation fails
abbrev pub RepliedAtMostOnce : Style → List ℕ → ConvState → ConvState → Type 0
RepliedAtMostOnce style prompt old new = (new ≡ old) ⊎ Replied style prompt old new
