-- The recorded lines of a call: a line that was run, or another one, whose content doesn't matter
-- here (this project's own).
use Rattle.std.specs.Prelude.{ℕ, zero, suc, ◌+◌, Bool, List, [], ◌∷◌, Option, Some, None, drop}
use Rattle.handler_chain.specs.declared.seen.RecordedLine.{RecordedLine}
use Rattle.handler_chain.specs.Retell as retell
use Rattle.handler_chain.specs.Seen.{seen_of}

-- the lines that were run among recorded lines
abbrev pub visits_in : List (Option RecordedLine) → List retell.RecordedLine
visits_in [] = []
visits_in (None ∷ told) = visits_in told
visits_in (Some v ∷ told) = seen_of v ∷ visits_in told

-- how many recorded lines come before the run line with this number, from 0; all of them if there
-- is no such line
abbrev pub lines_before : ℕ → List (Option RecordedLine) → ℕ
lines_before i [] = 0
lines_before zero (Some v ∷ told) = 0
lines_before (suc i) (Some v ∷ told) = lines_before i told + 1
lines_before i (None ∷ told) = lines_before i told + 1

-- recorded lines from one on, and whether a line was run that isn't the next of them
abbrev pub telling_from : List (Option RecordedLine) → ℕ → Bool → retell.Telling
telling_from told next astray = record { left = visits_in (drop next told); astray = astray }
