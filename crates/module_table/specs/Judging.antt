-- What a module's SUCCESS says of the user, and whether it counts as a yes (this project's own).
use Rattle.std.specs.Prelude.{ℕ, Bool, true, false, List, [], ◌∷◌, Option, codes}
use Rattle.std.specs.List.{find}
use Rattle.std.specs.Str.{bytes_eq}
use Rattle.module_table.specs.declared.judging.Judging.{Judging}
use Rattle.module_table.specs.declared.judging.Judging.TheVariants.{Asks, Judges, Tests, Passes}

abbrev pub judging_word : Judging → List ℕ
judging_word Asks = codes "asks"
judging_word Judges = codes "judges"
judging_word Tests = codes "tests"
judging_word Passes = codes "passes"

abbrev pub all_judgings : List Judging
all_judgings = Asks ∷ Judges ∷ Tests ∷ Passes ∷ []

abbrev pub judging_of : List ℕ → Option Judging
judging_of word = find (λ j. bytes_eq (judging_word j) word) all_judgings

-- whether its SUCCESS counts as a yes
abbrev pub counts : Judging → Bool
counts Asks = true
counts Judges = true
counts Tests = false
counts Passes = false
