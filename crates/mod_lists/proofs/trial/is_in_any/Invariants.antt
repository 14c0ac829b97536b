use Rattle.std.proofs.Common.{◌≡◌, Some, length}
use Rattle.mod_lists.specs.Condition.{items_of}
use Rattle.mod_lists.specs.SucceedIf.{is_in_any}
use Rattle.mod_lists.proofs.trial.is_in_any.Given as goal

abbrev pub invariant-loop-name : goal.invariant-loop-name
invariant-loop-name l = is_in_any l.parts l.user (Some l.entry) l.groups ≡ is_in_any (items_of l.names) l.user (Some l.entry) l.groups

abbrev pub decreases-loop-name : goal.decreases-loop-name
decreases-loop-name l = length l.parts
