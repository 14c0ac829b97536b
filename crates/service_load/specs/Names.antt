-- The texts of files under a root (this project's own).
use Rattle.std.specs.Prelude.{ℕ, List, Option}
use Rattle.pam_outside.specs.Files.{File, file_at}
use Rattle.pam_outside.specs.Paths.{path_of}

-- the texts of the files under a root, by their names
abbrev pub texts_under : List ℕ → List File → List ℕ → Option (List ℕ)
texts_under root files name = file_at (path_of root name) files
