-- What is modelled before is modelled after.
use Rattle.std.proofs.Common.{◌≡◌, Bool, ◌&&◌, IsTrue}

pub both_tell : (a b c d : Bool) → a ≡ b → c ≡ d → IsTrue (b && d) → IsTrue (a && c)
both_tell a b c d e f h = rw (e, f) h
