-- The messages of an exchange and their replies (pam_conv(3); the limits are this project's own).
use Rattle.std.specs.Prelude.{◌≡◌, ℕ, ◌<◌, ◌≤◌, false, List, [], ◌∷◌, length, ◌+◌, if◌then◌else◌}
use Rattle.std.specs.List.{AllByRecursion}
use Rattle.pam_base.specs.Style.{is_prompt}
use Rattle.conv_port.specs.declared.message.Message.{Message}
use Rattle.conv_port.specs.declared.message.Reply.{Reply}

-- how many of the messages are prompts
abbrev pub prompt_count : List Message → ℕ
prompt_count [] = 0
prompt_count (m ∷ ms) = (if is_prompt m.style then 1 else 0) + prompt_count ms

abbrev pub HasPrompt : List Message → Type 0
HasPrompt messages = 0 < prompt_count messages

-- 1 to 32 messages, each of at most 512 bytes
pub record IsExchange (messages : List Message) : Type 0 where
  pub some : 0 < length messages
  pub few : length messages ≤ 32
  pub short : AllByRecursion (λ (m : Message). length m.text ≤ 512) messages

-- a reply to a message: at most 512 bytes, and the empty text if it isn't a prompt
pub record IsReply (m : Message) (r : Reply) : Type 0 where
  pub short : length r.text ≤ 512
  pub silent : is_prompt m.style ≡ false → r.text ≡ []

-- one reply for each message
abbrev pub AreReplies : List Message → List Reply → Type 0
AreReplies [] [] = Unit {0}
AreReplies (m ∷ ms) (r ∷ rs) = IsReply m r × AreReplies ms rs
AreReplies [] (r ∷ rs) = ⊥
AreReplies (m ∷ ms) [] = ⊥
