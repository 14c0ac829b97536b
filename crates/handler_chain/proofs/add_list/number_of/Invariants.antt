use Rattle.std.proofs.Common.{◌≡◌, drop}
use Rattle.handler_chain.specs.FlatLines.{number_of_name}
use Rattle.handler_chain.proofs.add_list.number_of.Given as goal

abbrev pub invariant-loop-i : goal.invariant-loop-i
invariant-loop-i l = number_of_name l.wanted l.i (drop l.i l.names) ≡ number_of_name l.wanted 0 l.names
