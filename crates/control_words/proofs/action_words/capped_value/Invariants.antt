use Rattle.std.proofs.Common.{◌≡◌, take, min}
use Rattle.pam_base.specs.Number.{value_of_digits}
use Rattle.control_words.proofs.action_words.capped_value.Given as goal

abbrev pub invariant-loop-digit : goal.invariant-loop-digit
invariant-loop-digit l = l.value ≡ min (value_of_digits (take l.digit-index l.digits)) 256
