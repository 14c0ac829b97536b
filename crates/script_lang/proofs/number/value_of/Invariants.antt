use Rattle.std.proofs.Common.{◌≡◌, ◌<◌, ◌^◌, take}
use Rattle.script_lang.specs.Number.{value_of_digits}
use Rattle.script_lang.proofs.number.value_of.Given as goal

abbrev pub invariant-loop-digit : goal.invariant-loop-digit
invariant-loop-digit l = record {
  so_far : l.value ≡ value_of_digits l.radix (take l.digit-index l.digits);
  bounded : l.value < l.radix ^ l.digit-index;
}
