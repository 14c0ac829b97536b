use Rattle.std.proofs.Common.{◌≡◌}
use Rattle.std.specs.List.{repeat}
use Rattle.sha_crypt.proofs.mixing.repeat_to.Given as goal

abbrev pub invariant-loop-i : goal.invariant-loop-i
invariant-loop-i l = l.filling.items ≡ repeat l.i l.text
