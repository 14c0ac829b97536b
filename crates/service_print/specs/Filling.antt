-- A file at its index, before it has its text (this project's own).
use Rattle.std.specs.Prelude.{[]}
use Rattle.service_print.specs.declared.file.File.{File}

-- a file that is still to be filled
abbrev pub empty_file : File
empty_file = record { name = []; text = [] }
