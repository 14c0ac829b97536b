-- The lines of a stack that a step ran (this project's own).
use Rattle.std.specs.Prelude.{ℕ, List}
use Rattle.std.specs.List.{flat_map}
use Rattle.report_lines.specs.control_words.specs.Module.{name_of_module}
use Rattle.pam_library.specs.pam_room.specs.declared.visits.Visit.{Visit}
use Rattle.report_lines.specs.Line as lines
use Rattle.report_lines.specs.handler_chain.specs.Retell.{seen_at}

-- the line of the report for a line that was run
abbrev pub visit_text : ℕ → Visit → List ℕ
visit_text handle visit =
    lines.visit_text handle (seen_at visit.place (name_of_module visit.path) visit.answer)

-- a line for each of them
abbrev pub visits_text : ℕ → List Visit → List ℕ
visits_text handle visits = flat_map (visit_text handle) visits
