-- The slots of a list of equal conversations.
use Rattle.std.proofs.Common.{◌≡◌, refl, sym, ap, subst, ◌∙◌, ◌∷◌, [], ◌++◌, ◌+◌, ℕ, Bool, List, map, replicate}
use Rattle.std.proofs.lemmas.List.{map-append, replicate_more}

module _ {B S : Type 0} (holds : B → S) (slot : S) where
  -- so many equal ones, and what is kept beside them
  pub record AreSlots (items : List B) (counter : ℕ) (now before : Bool) : Type 0 where
    pub all : map holds items ≡ replicate counter slot
    pub kept : now ≡ before

  pub none : (items : List B) (before : Bool) → items ≡ [] → AreSlots items 0 before before
  none items before is = record { all = ap (map holds) is; kept = refl }

  pub more : (old new : List B) (b : B) (counter : ℕ) (now before : Bool) → new ≡ old ++ b ∷ [] → holds b ≡ slot
      → AreSlots old counter now before → AreSlots new (counter + 1) now before
  more old new b counter now before pushed is so = record {
    all = ap (map holds) pushed ∙ map-append holds old (b ∷ []) ∙ ap (λ s. map holds old ++ s ∷ []) is ∙ ap (λ ss. ss ++ slot ∷ []) so.all
        ∙ replicate_more counter slot;
    kept = so.kept;
  }
