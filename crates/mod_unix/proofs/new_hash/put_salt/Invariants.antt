use Rattle.std.proofs.Common.{◌≡◌, ◌-◌, ◌++◌}
use Rattle.sha_crypt.specs.Characters.{characters}
use Rattle.mod_unix.proofs.new_hash.put_salt.Given as goal

abbrev pub invariant-loop-i : goal.invariant-loop-i
invariant-loop-i l = l.text.items ++ characters (8 - l.i) l.left ≡ l.initial.text.items ++ characters 8 l.word
