use Rattle.std.proofs.Common.{◌≡◌, ◌++◌, take, string_bytes}
use Rattle.std.specs.List.{flat_map}
use Rattle.report_step.specs.Said.{message_text}
use Rattle.report_step.proofs.said.write_messages.Given as goal

abbrev pub invariant-loop-message : goal.invariant-loop-message
invariant-loop-message l = string_bytes l.text ≡ string_bytes l.fn.text ++ flat_map (message_text l.handle) (take l.message-index l.messages)
