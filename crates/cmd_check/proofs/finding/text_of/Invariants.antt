use Rattle.std.proofs.Common.{◌≡◌, take}
use Rattle.cmd_check.specs.Check.{files_text}
use Rattle.cmd_check.proofs.finding.text_of.Given as goal

abbrev pub invariant-loop-file : goal.invariant-loop-file
invariant-loop-file l = l.text.items ≡ files_text (take l.file-index l.files)
