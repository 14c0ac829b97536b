use Rattle.std.proofs.Common.{◌≡◌, ◌≤◌, ◌&&◌, ℕ, Bool, true, false, List, [], ◌∷◌, length, codes, sym, arith}
use Rattle.mod_env.specs.declared.marks.Mark.{Mark}
use Rattle.mod_env.specs.Marks.{begins_with, is_byte}
use Rattle.mod_env.proofs.conf.at_key.Goals as goal

followed : (a b : Bool) → (a && b) ≡ true → b ≡ true
followed true b e = e
followed false b e = absurd cc

long_enough : (word : List ℕ) (marks : List Mark) → begins_with word marks ≡ true → length word ≤ length marks
long_enough [] marks e = omega arith
long_enough (c ∷ cs) [] e = absurd cc
long_enough (c ∷ cs) (m ∷ ms) e = let rest : length cs ≤ length ms = long_enough cs ms (followed (is_byte c m) (begins_with cs ms) e) in omega arith

pub at_default-requires : goal.at_default-requires
at_default-requires c = long_enough (codes "DEFAULT=") c.args.marks.now (sym c.if-begins_with.ensures)

pub at_override-requires : goal.at_override-requires
at_override-requires c = long_enough (codes "OVERRIDE=") c.args.marks.now (sym c.if-begins_with-2.ensures)

pub returns-then-begins_with : goal.returns-then-begins_with
returns-then-begins_with c = rw (← c.if-is_empty.ensures, ← c.if-begins_with.ensures) c.at_default.ensures

pub returns-then-begins_with-2 : goal.returns-then-begins_with-2
returns-then-begins_with-2 c = rw (← c.if-is_empty.ensures, ← c.if-begins_with.ensures, ← c.if-begins_with-2.ensures) c.at_override.ensures
