-- Cached return codes of lines, as cells (this project's own).
use Rattle.std.specs.Prelude.{List, [], ◌∷◌, Option, Some, None, slice_get}
use Rattle.std.specs.Option.{option_flatten}
use Rattle.pam_base.specs.declared.code.Code.{Code}
use Rattle.handler_chain.specs.Route.{KeptAnswers}
use Rattle.handler_chain.specs.Pass.{Visit, visit}
use Rattle.pass_replay.specs.declared.visited.Visited.{Visited}

-- a cell for each line from 0 on; after the last one nothing is cached
abbrev pub answers_in : List (Option Code) → KeptAnswers
answers_in cells place = option_flatten (slice_get cells place)

-- the codes in cells; None if nothing is held
abbrev pub kept_answers : Option (List (Option Code)) → Option KeptAnswers
kept_answers None = None
kept_answers (Some cells) = Some (answers_in cells)

-- the lines that a pass ran
abbrev pub visits_of : List Visited → List Visit
visits_of [] = []
visits_of (v ∷ vs) = visit v.place v.answer ∷ visits_of vs
