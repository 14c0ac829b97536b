-- The rows of a list of which one node more was written.
use Rattle.std.proofs.Common.{◌≡◌, List, [], ◌∷◌, ◌++◌, sym, ◌∙◌, ap, append_assoc}
use Rattle.control_words.specs.declared.nodes.Rule.{Rule}
use Rattle.control_words.specs.Stack.{Stack, line, sub}
use Rattle.ways_lines.specs.declared.row.Row.{Row}
use Rattle.ways_lines.specs.declared.row.Row.TheVariants as kinds
use Rattle.ways_lines.specs.Rows.{rows_of}

pub after_line : (all here rest : Stack) (rule copy : Rule) (before rows new : List Row)
    → rows ++ rows_of here ≡ before ++ rows_of all → here ≡ line rule rest → copy ≡ rule → new ≡ rows ++ kinds.Rule copy ∷ []
    → new ++ rows_of rest ≡ before ++ rows_of all
after_line all here rest rule copy before rows new was is made adds =
    ap (λ (xs : List Row). xs ++ rows_of rest) (adds ∙ ap (λ (r : Rule). rows ++ kinds.Rule r ∷ []) made)
    ∙ append_assoc rows (kinds.Rule rule ∷ []) (rows_of rest)
    ∙ ap (λ (s : Stack). rows ++ rows_of s) (sym is) ∙ was

pub after_sub : (all here inner rest : Stack) (before rows begun inside new : List Row)
    → rows ++ rows_of here ≡ before ++ rows_of all → here ≡ sub inner rest
    → begun ≡ rows ++ kinds.Begin ∷ [] → inside ≡ begun ++ rows_of inner → new ≡ inside ++ kinds.End ∷ []
    → new ++ rows_of rest ≡ before ++ rows_of all
after_sub all here inner rest before rows begun inside new was is begins goes ends =
    let goes_on = goes ∙ ap (λ (xs : List Row). xs ++ rows_of inner) begins in
    let whole = ends ∙ ap (λ (xs : List Row). xs ++ kinds.End ∷ []) goes_on in
    ap (λ (xs : List Row). xs ++ rows_of rest) whole
    ∙ append_assoc ((rows ++ kinds.Begin ∷ []) ++ rows_of inner) (kinds.End ∷ []) (rows_of rest)
    ∙ append_assoc (rows ++ kinds.Begin ∷ []) (rows_of inner) (kinds.End ∷ rows_of rest)
    ∙ append_assoc rows (kinds.Begin ∷ []) (rows_of inner ++ kinds.End ∷ rows_of rest)
    ∙ ap (λ (s : Stack). rows ++ rows_of s) (sym is) ∙ was
