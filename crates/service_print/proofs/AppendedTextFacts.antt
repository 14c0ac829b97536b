-- Parts of a text that are added one after another.
use Rattle.std.proofs.Common.{◌≡◌, List, [], ◌++◌, ◌∙◌, ap, append_assoc}

pub two : {A : Type 0} (old first new x y : List A) → first ≡ old ++ x → new ≡ first ++ y → new ≡ old ++ (x ++ y)
two {A = A} old first new x y one other = other ∙ ap (λ (a : List A). a ++ y) one ∙ append_assoc old x y

pub three : {A : Type 0} (old first second new x y z : List A) → first ≡ old ++ x → second ≡ first ++ y → new ≡ second ++ z → new ≡ old ++ (x ++ (y ++ z))
three old first second new x y z one other last = two old first new x _ one (two first second new y z other last)

pub from_empty : {A : Type 0} (empty text more : List A) → empty ≡ [] → text ≡ empty ++ more → text ≡ more
from_empty {A = A} empty text more none added = added ∙ ap (λ (a : List A). a ++ more) none
