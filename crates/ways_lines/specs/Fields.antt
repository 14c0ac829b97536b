-- The fields of a line (this project's own): a tab is before each, and none in them.
use Rattle.std.specs.Prelude.{ℕ, List, ◌++◌, codes}
use Rattle.std.specs.Fmt.{decimal}
use Rattle.pam_base.specs.Quote.{quoted_text}

unfoldable pub field : List ℕ → List ℕ
field bytes = codes "\t" ++ quoted_text bytes

unfoldable pub number_field : ℕ → List ℕ
number_field number = codes "\t" ++ decimal number
