-- The return codes in an incomplete pass (this project's own).
use Rattle.std.specs.Prelude.{Option, Some, None, List, []}
use Rattle.pam_base.specs.declared.code.Code.{Code}

-- the codes to resume with; none if no pass is incomplete
abbrev pub past_of : Option (List Code) → List Code
past_of None = []
past_of (Some answers) = answers
