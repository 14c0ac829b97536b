use Rattle.std.proofs.Common.{◌≡◌, ◌++◌, take, string_bytes}
use Rattle.std.specs.List.{flat_map}
use Rattle.report_step.specs.Visited.{visit_text}
use Rattle.report_step.proofs.visited.write_visits.Given as goal

abbrev pub invariant-loop-visit : goal.invariant-loop-visit
invariant-loop-visit l = string_bytes l.text ≡ string_bytes l.fn.text ++ flat_map (visit_text l.handle) (take l.visit-index l.visits)
