-- A conversation over a terminal (misc_conv(3); that a reply has at most 512 bytes is this project's own).
use Rattle.std.specs.Prelude.{◌≡◌, ℕ, ◌<◌, ◌==◌, ◌&&◌, nat_lt, Bool, true, if◌then◌else◌, Option, Some, None, ⊤, List, [], ◌∷◌, ◌++◌, length, take, drop}
use Rattle.std.specs.List.{before_first, after_first, flat_map}
use Rattle.conv_port.specs.declared.message.Message.{Message}
use Rattle.conv_port.specs.declared.message.Reply.{Reply}
use Rattle.pam_base.specs.Style.{is_prompt}

-- its reader, its writer, and its failures so far
pub record Terminal (R W : Type 0) : Type 0 where
  pub reader : R
  pub writer : W
  pub faults : ℕ

abbrev pub is_newline : ℕ → Bool
is_newline b = b == 10

-- the first reply in what was typed: the bytes before the newline, at most 512
abbrev pub typed_line : List ℕ → List ℕ
typed_line bytes = before_first is_newline (take 512 bytes)

-- what is left after it: its newline is dropped too, if it is among the first 512 bytes
abbrev pub past_line : List ℕ → List ℕ
past_line bytes = after_first is_newline (take 512 bytes) ++ drop 512 bytes

-- each prompt takes the next line, and any other message has the empty reply
abbrev pub typed_replies : List Message → List ℕ → List Reply
typed_replies [] bytes = []
typed_replies (m ∷ ms) bytes = if is_prompt m.style
    then record { text = typed_line bytes } ∷ typed_replies ms (past_line bytes)
    else record { text = [] } ∷ typed_replies ms bytes

-- what is left after them
abbrev pub after_replies : List Message → List ℕ → List ℕ
after_replies [] bytes = bytes
after_replies (m ∷ ms) bytes = if is_prompt m.style then after_replies ms (past_line bytes)
    else after_replies ms bytes

-- whether each prompt finds a byte
abbrev pub has_lines : List Message → List ℕ → Bool
has_lines [] bytes = true
has_lines (m ∷ ms) bytes = if is_prompt m.style then nat_lt 0 (length bytes)
    && has_lines ms (past_line bytes) else has_lines ms bytes

-- the text of a message as it is shown: one that isn't a prompt ends its line
abbrev pub shown : Message → List ℕ
shown m = if is_prompt m.style then m.text else m.text ++ 10 ∷ []

abbrev pub all_shown : List Message → List ℕ
all_shown messages = flat_map shown messages

-- the replies to an exchange are the first ones in what was typed, and what follows them is left
pub record IsTyped (messages : List Message) (replies : List Reply) (bytes left : List ℕ) : Type
    0 where
  pub replies_are : replies ≡ typed_replies messages bytes
  pub left_is : left ≡ after_replies messages bytes
  pub enough : has_lines messages bytes ≡ true

-- the same, if it is known what was typed
abbrev pub Types : List Message → List Reply → Option (List ℕ) → Option (List ℕ) → Type 0
Types messages replies None new = ⊤
Types messages replies (Some bytes) None = ⊥
Types messages replies (Some bytes) (Some left) = IsTyped messages replies bytes left

-- one line of what was typed
pub record IsLine (text bytes left : List ℕ) : Type 0 where
  pub some : 0 < length bytes
  pub text_is : text ≡ typed_line bytes
  pub left_is : left ≡ past_line bytes

abbrev pub TypesLine : List ℕ → Option (List ℕ) → Option (List ℕ) → Type 0
TypesLine text None new = ⊤
TypesLine text (Some bytes) None = ⊥
TypesLine text (Some bytes) (Some left) = IsLine text bytes left
