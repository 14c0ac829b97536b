-- What modules said and asked in a step (this project's own; the styles are those of pam_conv(3)).
use Rattle.std.specs.Prelude.{ℕ, List}
use Rattle.std.specs.List.{flat_map}
use Rattle.pam_library.specs.conv_port.specs.declared.message.Message.{Message}
use Rattle.report_lines.specs.Line as lines

-- the line of a message
abbrev pub message_text : ℕ → Message → List ℕ
message_text handle message = lines.message_text handle message.style message.text

-- a line for each message
abbrev pub messages_text : ℕ → List Message → List ℕ
messages_text handle messages = flat_map (message_text handle) messages
