use Rattle.std.proofs.Common.{◌≡◌, drop}
use Rattle.pam_outside.specs.Files.{file_at}
use Rattle.pam_outside.proofs.memory_vault.bytes_at.Given as goal

abbrev pub invariant-loop-file : goal.invariant-loop-file
invariant-loop-file l = file_at l.path (drop l.file-index l.files) ≡ file_at l.path l.files
