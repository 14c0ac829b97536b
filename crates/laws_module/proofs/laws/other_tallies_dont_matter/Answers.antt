use Rattle.laws_module.proofs.FaillockFileFacts.{other_files, other_tallies}
use Rattle.laws_module.proofs.laws.other_tallies_dont_matter.Goals as goal

pub returns-clause-same : goal.returns-clause-same
returns-clause-same c = other_tallies

pub returns-clause-others : goal.returns-clause-others
returns-clause-others c = other_files
