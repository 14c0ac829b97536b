use Rattle.std.proofs.Common.{◌≡◌, List, [], ◌∷◌, Some, slice_get, drop, refl, sym, ap, ◌∙◌}
use Rattle.mod_env.specs.Conf.{counts, entry_at}
use Rattle.mod_env.proofs.FoundSoFarFacts.{line_taken}
use Rattle.mod_env.proofs.conf.conf_of.Goals as goal

taken : {A : Type 0} (xs : List A) (x : A) → Some x ≡ slice_get xs 0 → xs ≡ x ∷ drop 1 xs
taken [] x e = absurd cc
taken (y ∷ ys) x e = let same : x ≡ y = cc in rw same refl

pub loop-line-preserved-in-Continue-branch-3 : goal.loop-line-preserved-in-Continue-branch-3
loop-line-preserved-in-Continue-branch-3 c =
    let line = c.after_white-line.ensures in
    rw (c.in_ok-push-in-Some-2.ensures.ok, c.in-Some.ensures.left) (line_taken _ _ _ _ _ (taken _ _ c.in-Some.ensures.line) c.loop-line.invariant c.in-Some-2.entry
    (c.if-counts.ensures ∙ ap counts line) (sym c.in-Some-2.is ∙ c.in_ok-entry.ensures ∙ ap entry_at line))
