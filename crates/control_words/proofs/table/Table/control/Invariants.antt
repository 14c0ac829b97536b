use Rattle.std.proofs.Common.{◌≡◌, length, take, map}
use Rattle.std.specs.Option.{option_or, unwrap_or}
use Rattle.control_words.specs.declared.control.Action.TheVariants.{Bad}
use Rattle.control_words.proofs.table.Table.control.Given as goal

abbrev pub invariant-loop-place : goal.invariant-loop-place
invariant-loop-place l = record {
  long : length l.actions ≡ 32;
  so_far : take l.place l.actions ≡ map (λ action. unwrap_or (option_or action l.self.default) Bad) (take l.place l.self.named);
}
