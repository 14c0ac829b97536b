use Rattle.std.proofs.Common.{◌≡◌, List, ◌++◌, map}
use Rattle.env_list.specs.Environment.{variable_text}
use Rattle.env_list.specs.Entries.{variables_of}
use Rattle.env_list.proofs.Entries.{Entry}
use Rattle.env_list.proofs.environment.EnvList.list.Given as goal

abbrev pub invariant-loop-name : goal.invariant-loop-name
invariant-loop-name l =
    (done : List Entry) × (variables_of (done ++ l.name-iterator) ≡ l.self) × (l.texts ≡ map variable_text (variables_of done))
