use Rattle.std.proofs.Common.{◌≡◌, ◌<◌, ◌^◌, take}
use Rattle.pam_base.specs.Number.{value_of_digits}
use Rattle.mod_lists.proofs.condition.value_of_digits.Given as goal

abbrev pub invariant-loop-digit : goal.invariant-loop-digit
invariant-loop-digit l = record {
  so_far : l.value ≡ value_of_digits (take l.digit-index l.digits);
  bounded : l.value < 10 ^ l.digit-index;
}
