use Rattle.std.specs.Prelude.{codes}
use Rattle.explain_origins.proofs.PlacelessStackFacts.{places_each, tree_forgotten}
use Rattle.explain_origins.proofs.laws.places_are_of_the_stacks.Goals as goal
use Rattle.service_load.specs.Files.{service_file}

pub returns-clause-stacks : goal.returns-clause-stacks
returns-clause-stacks c = λ texts is_directory service type. tree_forgotten texts (service_file is_directory service) (service_file is_directory (codes "other")) type

pub returns-clause-each : goal.returns-clause-each
returns-clause-each c = places_each
