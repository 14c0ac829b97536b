-- Return codes cached for the lines of a stack (this project's own): nothing is held, or a cell for
-- each line.
use Rattle.std.specs.Prelude.{ℕ, Option, Some, None, List, length, slice_get, slice_set, replicate}
use Rattle.std.specs.Option.{option_flatten}
use Rattle.pam_base.specs.declared.code.Code.{Code}

abbrev pub Answers : Type 0
Answers = Option (List (Option Code))

-- the cells of n lines before any code is cached
abbrev pub empty_cells : ℕ → List (Option Code)
empty_cells lines = replicate lines None

-- how many lines have a cell
abbrev pub lines_kept : Answers → ℕ
lines_kept None = 0
lines_kept (Some cells) = length cells

-- the cells with the code of line i cached
abbrev pub kept_at : Answers → ℕ → Code → Answers
kept_at None i answer = None
kept_at (Some cells) i answer = Some (slice_set cells i (Some answer))

-- the code that is cached for line i
abbrev pub answer_at : Answers → ℕ → Option Code
answer_at None i = None
answer_at (Some cells) i = option_flatten (slice_get cells i)
