use Rattle.std.proofs.Common.{◌≡◌, ◌+◌, ◌≤◌, ◌++◌, length, map, vec_capacity}
use Rattle.std.specs.Vec.Iter.{into_iter_items, into_iter_len}
use Rattle.pam_library.specs.declared.slot.Slot.TheVariants.{Closed}
use Rattle.pam_library.proofs.library.Library.new.Given as goal

abbrev pub invariant-loop-conv : goal.invariant-loop-conv
invariant-loop-conv g l = record {
  items : l.slots.items ++ map Closed (into_iter_items l.conv-iterator) ≡ map Closed (into_iter_items l.initial.conv-iterator);
  room : length l.slots.items + length (into_iter_items l.conv-iterator) ≤ vec_capacity l.slots;
  counted : into_iter_len l.conv-iterator ≡ length (into_iter_items l.conv-iterator);
}
