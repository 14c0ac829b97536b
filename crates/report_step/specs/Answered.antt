-- The result of a step (this project's own).
use Rattle.std.specs.Prelude.{ℕ, List, [], ◌++◌, length, codes}
use Rattle.std.specs.List.{flat_map}
use Rattle.pam_library.specs.declared.outcome.Answer.{Answer}
use Rattle.pam_library.specs.declared.outcome.Answer.TheVariants as answers
use Rattle.report_lines.specs.Line.{code_words, number_words, pending_words, refused_words, value_words, variable_text, words_text}

-- a line for each variable, and H envlist COUNT
abbrev pub environment_text : ℕ → List ℕ → List (List ℕ) → List ℕ
environment_text handle command variables = flat_map (variable_text handle) variables
    ++ words_text handle command (number_words (length variables))

-- the lines of a result
abbrev pub answer_text : ℕ → List ℕ → Answer → List ℕ
answer_text handle command (answers.Code code) = words_text handle command (code_words code)
answer_text handle command (answers.Refused fault) = words_text handle command (refused_words fault)
answer_text handle command (answers.Value value) = words_text handle command (value_words value)
answer_text handle command (answers.List variables) = environment_text handle command variables
answer_text handle command answers.NotOpen = words_text handle command (codes "not open")
answer_text handle command answers.AlreadyOpen = words_text handle command (codes "already open")
answer_text handle command answers.BadNumber = words_text handle command (codes "bad number")
answer_text handle command (answers.Pending func) = words_text handle command (pending_words func)
answer_text handle command answers.Nothing = []
