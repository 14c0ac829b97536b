-- The fault for which a configuration is refused (this project's own).
use Rattle.std.specs.Prelude.{ℕ, List, ◌++◌, codes}
use Rattle.report_lines.specs.service_load.specs.declared.load_fault.LoadFault.{LoadFault}
use Rattle.report_lines.specs.Line.{refused_words}

-- the fault as a line of its own
abbrev pub refused_text : LoadFault → List ℕ
refused_text fault = refused_words fault ++ codes "\n"
