use Rattle.std.proofs.Common.{◌≡◌, length}
use Rattle.std.specs.List.{filter_map, last_or}
use Rattle.std.specs.Option.{option_copied}
use Rattle.pam_room.specs.Call.{value_among, value_in}
use Rattle.pam_room.proofs.call.Call.value.Given as goal

abbrev pub invariant-loop-rest : goal.invariant-loop-rest
invariant-loop-rest l = last_or (option_copied l.found) (filter_map (value_in l.key) l.rest) ≡ value_among l.key l.self.args.now

abbrev pub decreases-loop-rest : goal.decreases-loop-rest
decreases-loop-rest l = length l.rest
