use Rattle.std.proofs.Common.{ℕ, List, ap, refl}
use Rattle.mod_env.specs.declared.expand.Expansion.TheVariants.{Puts}
use Rattle.mod_env.specs.Expand.{expansion_of}
use Rattle.mod_env.proofs.expand.expansion_of.Goals as goal

pub returns-in-None : goal.returns-in-None
unfolding expansion_of
returns-in-None c = rw (← c.in_ok-default.ensures, c.in-None.is) refl

pub returns-in-None-2 : goal.returns-in-None-2
unfolding expansion_of
returns-in-None-2 c = rw (← c.in_ok-default.ensures, c.in-Some.is, ← c.in_ok-overriding.ensures, c.in-None-2.is) refl

pub returns : goal.returns
unfolding expansion_of
returns c = rw (← c.in_ok-default.ensures, c.in-Some.is, ← c.in_ok-overriding.ensures, c.in-Some-2.is) (ap (λ (t : List ℕ). Puts t) (rw c.bytes.ensures at c.in_ok-text.ensures))
