-- What the variables are, of the map that holds them.
use Rattle.std.specs.Prelude.{ℕ, List, map, Vec}
use Rattle.std.specs.Global.{Global}
use Rattle.env_list.specs.Environment.{Variable}

-- the variable that an entry holds
abbrev pub variable_of : Vec ℕ Global × List ℕ → Variable
variable_of entry = record { name = entry.0.items; value = entry.1 }

abbrev pub variables_of : List (Vec ℕ Global × List ℕ) → List Variable
variables_of entries = map variable_of entries
