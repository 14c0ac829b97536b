use Rattle.std.proofs.Common.{ℕ, List, ap, ◌∙◌}
use Rattle.pam_outside.specs.Paths.{path_of}
use Rattle.service_load.proofs.OpenedFileFacts.{long_answers}
use Rattle.service_load.proofs.loader.Loader.read.Goals as goal

pub returns-in-Err-TooLong-clause-told : goal.returns-in-Err-TooLong-clause-told
returns-in-Err-TooLong-clause-told g c = λ tells.
    let path = c.bytes.ensures ∙ c.in_ok-path.ensures ∙ ap (λ (n : List ℕ). path_of c.args.root.now n) c.bytes-name.ensures in
    let told = rw c.in-Err-TooLong.field-0-is at (c.in-Err-TooLong.ensures.told tells) in
    long_answers _ _ _ _ _ _ _ told.0 (rw path at told.1) (rw c.bytes-name.ensures at c.refused-in-Err-TooLong.ensures)
