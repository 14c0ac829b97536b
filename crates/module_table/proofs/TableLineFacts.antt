-- Reads the lines of a table one by one.
use Rattle.std.proofs.Common.{◌≡◌, ℕ, Bool, true, false, List, [], ◌∷◌, ◌++◌, drop, slice_get, Option, Some, None, Result, Ok, Err, refl, sym, ap, ◌∙◌}
use Rattle.module_table.specs.declared.entry.Entry.{Entry}
use Rattle.module_table.specs.Entries.{after_these, before_more, entries_in, entry_in, is_note}

taken_next : {A : Type 0} (xs next : List A) (x : A) → Some x ≡ slice_get xs 0 → next ≡ drop 1 xs → xs ≡ x ∷ next
taken_next [] next x e f = absurd cc
taken_next (y ∷ ys) next x e f = let same : x ≡ y = cc in rw (same, f) refl

none_left : {A : Type 0} (xs : List A) → ◌≡◌ {A = Option A} None (slice_get xs 0) → xs ≡ []
none_left [] e = refl
none_left (y ∷ ys) e = absurd cc

after_bad : (es : List Entry) (bad : List ℕ) → ◌≡◌ {A = Result (List Entry) (List ℕ)} (after_these es (Err bad)) (Err bad)
after_bad [] bad = refl
after_bad (e ∷ es) bad = rw (after_bad es bad) refl

after_all : (es : List Entry) → ◌≡◌ {A = Result (List Entry) (List ℕ)} (after_these es (Ok [])) (Ok es)
after_all [] = refl
after_all (e ∷ es) = rw (after_all es) refl

one_more : (line : List ℕ) (e : Entry) (more : Result (List Entry) (List ℕ)) → before_more [] (Some e) more ≡ before_more line (Some e) more
one_more line e (Ok more) = refl
one_more line e (Err bad) = refl

after_one : (es : List Entry) (line : List ℕ) (e : Entry) (more : Result (List Entry) (List ℕ))
    → after_these (es ++ e ∷ []) more ≡ after_these es (before_more line (Some e) more)
after_one [] line e more = one_more line e more
after_one (x ∷ es) line e more =
    ap (λ (r : Result (List Entry) (List ℕ)). before_more [] (Some x) r) (after_one es line e more)

module _ (left : List (List ℕ)) (table : List Entry) (whole : Result (List Entry) (List ℕ))
    (so_far : after_these table (entries_in left) ≡ whole) where
  -- no line is left
  pub ended : ◌≡◌ {A = Option (List ℕ)} None (slice_get left 0) → ◌≡◌ {A = Result (List Entry) (List ℕ)} whole (Ok table)
  ended none =
      sym so_far ∙ (ap (λ (ls : List (List ℕ)). after_these table (entries_in ls)) (none_left left none) ∙ after_all table)

  module _ (next : List (List ℕ)) (line : List ℕ) (here : Some line ≡ slice_get left 0) (the_rest : next ≡ drop 1 left)
      (note : is_note line ≡ false) where
    at_line : after_these table (entries_in (line ∷ next)) ≡ whole
    at_line = sym (ap (λ (ls : List (List ℕ)). after_these table (entries_in ls)) (taken_next left next line here the_rest)) ∙ so_far

    pub at_bad : ◌≡◌ {A = Option Entry} (entry_in line) None → ◌≡◌ {A = Result (List Entry) (List ℕ)} whole (Err line)
    at_bad none =
        let is : ◌≡◌ {A = Result (List Entry) (List ℕ)} (entries_in (line ∷ next)) (Err line) = rw (note, none) refl in
        sym at_line ∙ (ap (after_these table) is ∙ after_bad table line)

    pub gone_on : (e : Entry) (more : List Entry) → entry_in line ≡ Some e → more ≡ table ++ e ∷ []
        → after_these more (entries_in next) ≡ whole
    gone_on e more found added =
        let is : entries_in (line ∷ next) ≡ before_more line (Some e) (entries_in next) = rw (note, found) refl in
        ap (λ (es : List Entry). after_these es (entries_in next)) added
        ∙ (after_one table line e (entries_in next) ∙ (sym (ap (after_these table) is) ∙ at_line))
