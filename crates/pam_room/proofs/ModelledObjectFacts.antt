-- If several objects are modelled, so are some of them.
use Rattle.std.proofs.Common.{Bool, true, false, ◌&&◌, IsTrue, refl}

pub all_but_last : (a b c : Bool) → IsTrue (a && (b && c)) → IsTrue (a && b)
all_but_last true true c h = refl
all_but_last true false c h = h
all_but_last false b c h = h
