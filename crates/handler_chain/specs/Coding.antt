-- A stack is stored as a list of words that builds it up.
use Rattle.std.specs.Prelude.{◌≡◌, Option, Some, None, List, [], ◌∷◌, ◌++◌, refl}
use Rattle.std.specs.Coded.{Coded, code_by, coded_list, coded_option}
use Rattle.std.proofs.Common.{◌∙◌, ap, sym, append_assoc, append-nil}
use Rattle.control_words.specs.declared.nodes.Rule.{Rule}
use Rattle.control_words.specs.Stack.{Stack, none, line, sub}

-- None is an empty list, Some (Some rule) puts a line before it, Some None a substack
abbrev pub words : Stack → List (Option (Option Rule))
words none = None ∷ []
words (line rule rest) = words rest ++ Some (Some rule) ∷ []
words (sub inner rest) = words inner ++ (words rest ++ Some None ∷ [])

abbrev pub build : List (Option (Option Rule)) → List Stack → List Stack
build [] made = made
build (None ∷ more) made = build more (none ∷ made)
build (Some (Some rule) ∷ more) (rest ∷ made) = build more (line rule rest ∷ made)
build (Some None ∷ more) (rest ∷ inner ∷ made) = build more (sub inner rest ∷ made)
build (word ∷ more) made = build more made

abbrev pub first_made : List Stack → Stack
first_made [] = none
first_made (stack ∷ made) = stack

pub build-words : (stack : Stack) (more : List (Option (Option Rule))) (made : List Stack)
    → build (words stack ++ more) made ≡ build more (stack ∷ made)
build-words none more made = refl
build-words (line rule rest) more made =
    ap (λ (ws : List (Option (Option Rule))). build ws made)
    (append_assoc (words rest) (Some (Some rule) ∷ []) more)
    ∙ build-words rest (Some (Some rule) ∷ more) made
build-words (sub inner rest) more made =
    ap (λ (ws : List (Option (Option Rule))). build ws made)
    (append_assoc (words inner) (words rest ++ Some None ∷ []) more)
    ∙ build-words inner ((words rest ++ Some None ∷ []) ++ more) made
    ∙ ap (λ (ws : List (Option (Option Rule))). build ws (inner ∷ made))
    (append_assoc (words rest) (Some None ∷ []) more)
    ∙ build-words rest (Some None ∷ more) (inner ∷ made)

pub made-words : (stack : Stack) → first_made (build (words stack) []) ≡ stack
made-words stack = ap (λ (ws : List (Option (Option Rule))).
    first_made (build ws [])) (sym (append-nil (words stack)))
    ∙ ap first_made (build-words stack [] [])

abbrev pub stack_code : Coded Rule → Coded Stack
stack_code rule = code_by (List (Option (Option Rule)))
    (coded_list (coded_option (coded_option rule))) words (λ ws.
    first_made (build ws [])) made-words
