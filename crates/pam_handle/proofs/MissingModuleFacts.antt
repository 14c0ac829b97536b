-- The modules missing in a stack, line by line.
use Rattle.std.proofs.Common.{get_or, ◌≡◌, ℕ, zero, suc, ◌+◌, ◌<◌, ◌||◌, List, [], ◌∷◌, ◌++◌, Bool, true, false, Option, Some, None, is_some, if◌then◌else◌, length, drop, drop_of_length-le, ◌≤◌, refl, sym, ◌∙◌, ap, append_assoc, add-one, arith}
use Rattle.std.proofs.lemmas.List.{append-nil, drop_more, length-append}
use Rattle.dispatch_core.specs.control_words.specs.declared.nodes.Rule.{Rule}
use Rattle.dispatch_core.specs.control_words.specs.Module.{name_of_module}
use Rattle.dispatch_core.specs.control_words.specs.Stack.{Stack, none, line, sub, lines_in}
use Rattle.dispatch_core.specs.handler_chain.specs.FlatLines.{FlatLine, flat_lines, module_at, module_of, no_rule, of_first, pending, rule_at}
use Rattle.dispatch_core.specs.service_load.specs.declared.rule_type.RuleType.{RuleType}
use Rattle.dispatch_core.specs.service_load.specs.declared.rule_type.RuleType.TheVariants.{Session}
use Rattle.dispatch_core.specs.service_load.specs.RuleType.{all_types}
use Rattle.dispatch_core.specs.service_load.specs.Stacks.{stacks_of}
use Rattle.pam_handle.specs.Items.{missing_from, missing_in, missing_of}

-- the modules missing of some lines
abbrev pub missing_lines : List (List ℕ) → List FlatLine → List (List ℕ)
missing_lines names [] = []
missing_lines names (l ∷ ls) = missing_of names l.rule ++ missing_lines names ls

missing_lines-append : (names : List (List ℕ)) (a b : List FlatLine) → missing_lines names (a ++ b) ≡ missing_lines names a ++ missing_lines names b
missing_lines-append names [] b = refl
missing_lines-append names (l ∷ a) b = ap (λ (x : List (List ℕ)). missing_of names l.rule ++ x) (missing_lines-append names a b) ∙ sym (append_assoc (missing_of names l.rule) (missing_lines names a) (missing_lines names b))

pub missing_flat : (names : List (List ℕ)) (level opens : ℕ) (stack : Stack) → missing_lines names (flat_lines level opens stack) ≡ missing_in names stack
missing_flat names level opens none = refl
missing_flat names level opens (line rule rest) = ap (λ (x : List (List ℕ)). missing_of names rule ++ x) (missing_flat names level 0 rest)
missing_flat names level opens (sub inner rest) =
    missing_lines-append names (flat_lines (level + 1) (opens + 1) inner) (flat_lines level (pending (lines_in inner) opens) rest)
    ∙ ap (λ (x : List (List ℕ)). x ++ missing_lines names (flat_lines level (pending (lines_in inner) opens) rest)) (missing_flat names (level + 1) (opens + 1) inner)
    ∙ ap (λ (x : List (List ℕ)). missing_in names inner ++ x) (missing_flat names level (pending (lines_in inner) opens) rest)

pub flat_length : (level opens : ℕ) (stack : Stack) → length (flat_lines level opens stack) ≡ lines_in stack
flat_length level opens none = refl
flat_length level opens (line rule rest) = let h : length (flat_lines level 0 rest) ≡ lines_in rest = flat_length level 0 rest in omega (arith, h)
flat_length level opens (sub inner rest) =
    length-append (flat_lines (level + 1) (opens + 1) inner) (flat_lines level (pending (lines_in inner) opens) rest)
    ∙ ap (λ (n : ℕ). n + length (flat_lines level (pending (lines_in inner) opens) rest)) (flat_length (level + 1) (opens + 1) inner)
    ∙ ap (λ (n : ℕ). lines_in inner + n) (flat_length level (pending (lines_in inner) opens) rest)

-- the line at an index, and the lines after it
lines_from : (names : List (List ℕ)) (i : ℕ) (ls : List FlatLine) → i < length ls
    → (missing_lines names (drop i ls) ≡ missing_of names (of_first no_rule (λ (l : FlatLine). l.rule) (drop i ls)) ++ missing_lines names (drop (suc i) ls))
    × (of_first None (λ (l : FlatLine). module_of names l.rule) (drop i ls) ≡ module_of names (of_first no_rule (λ (l : FlatLine). l.rule) (drop i ls)))
lines_from names i [] within = absurd (omega (arith, within))
lines_from names zero (l ∷ ls) within = (refl, refl)
lines_from names (suc i) (l ∷ ls) within = lines_from names i ls (omega (arith, within))

pub module_is : (names : List (List ℕ)) (stack : Stack) (i : ℕ) → i < lines_in stack → module_at stack names i ≡ module_of names (rule_at stack i)
module_is names stack i within = (lines_from names i (flat_lines 0 0 stack) (omega (arith, flat_length 0 0 stack, within))).1

-- one more line
pub one_line : (names : List (List ℕ)) (stack : Stack) (i : ℕ) (now next all : List (List ℕ)) → i < lines_in stack
    → next ≡ now ++ missing_of names (rule_at stack i)
    → now ++ missing_lines names (drop i (flat_lines 0 0 stack)) ≡ all → next ++ missing_lines names (drop (i + 1) (flat_lines 0 0 stack)) ≡ all
one_line names stack i now next all within n e =
    ap (λ (x : List (List ℕ)). x ++ missing_lines names (drop (i + 1) (flat_lines 0 0 stack))) n
    ∙ append_assoc now (missing_of names (rule_at stack i)) (missing_lines names (drop (i + 1) (flat_lines 0 0 stack)))
    ∙ ap (λ (k : ℕ). now ++ (missing_of names (rule_at stack i) ++ missing_lines names (drop k (flat_lines 0 0 stack)))) (add-one i)
    ∙ ap (λ (x : List (List ℕ)). now ++ x) (sym (lines_from names i (flat_lines 0 0 stack) (omega (arith, flat_length 0 0 stack, within))).0) ∙ e

drop_all : (n : ℕ) (ls : List FlatLine) → n ≡ length ls → drop n ls ≡ []
drop_all n [] e = rw e refl
drop_all n (l ∷ ls) e = rw e (drop_all (length ls) ls refl)

pub all_lines : (names : List (List ℕ)) (stack : Stack) (n : ℕ) (now all : List (List ℕ)) → n ≡ lines_in stack
    → now ++ missing_lines names (drop n (flat_lines 0 0 stack)) ≡ all → now ≡ all
all_lines names stack n now all e m =
    sym (append-nil now) ∙ ap (λ (ls : List FlatLine). now ++ missing_lines names ls) (sym (drop_all n (flat_lines 0 0 stack) (e ∙ sym (flat_length 0 0 stack)))) ∙ m

false_true : false ≡ true → ⊥
false_true e = (cc)

none_there : (number : Option ℕ) → is_some number ≡ false → number ≡ None
none_there None e = refl
none_there (Some n) e = absurd (false_true (sym e))

-- a line adds its module if the line isn't silent and the module isn't there
pub adds_name : (names : List (List ℕ)) (rule : Rule) (silent : Bool) (number : Option ℕ) (name : List ℕ) → silent ≡ rule.silent → silent ≡ false
    → number ≡ module_of names rule → is_some number ≡ false
    → name ≡ name_of_module rule.path → name ∷ [] ≡ missing_of names rule
adds_name names rule silent number name s f m n e =
    ap (λ (x : List ℕ). x ∷ []) e
    ∙ sym (ap (λ (b : Bool). if b || is_some (module_of names rule) then [] else name_of_module rule.path ∷ []) (sym s ∙ f)
    ∙ ap (λ (o : Option ℕ). if is_some o then [] else name_of_module rule.path ∷ []) (sym m ∙ none_there number n))

-- the modules missing in the stacks of some types
abbrev pub missing_under : List (List ℕ) → (RuleType → Stack) → List RuleType → List (List ℕ)
missing_under names stack [] = []
missing_under names stack (type ∷ types) = missing_in names (stack type) ++ missing_under names stack types

pub under_all : (names : List (List ℕ)) (stack : RuleType → Stack) → missing_under names stack all_types ≡ missing_from names (stacks_of stack)
under_all names stack = rw (append-nil (missing_in names (stack Session))) refl

pub under_next : (names : List (List ℕ)) (stack : RuleType → Stack) (i : ℕ) (d : RuleType) (found new all : List (List ℕ))
    → i < length all_types → found ++ missing_under names stack (drop i all_types) ≡ all
    → new ≡ found ++ missing_in names (stack (get_or all_types i d))
    → new ++ missing_under names stack (drop (i + 1) all_types) ≡ all
under_next names stack i d found new all within was added =
    ap (λ (x : List (List ℕ)). x ++ missing_under names stack (drop (i + 1) all_types)) added
    ∙ append_assoc found (missing_in names (stack (get_or all_types i d))) (missing_under names stack (drop (i + 1) all_types))
    ∙ sym (ap (λ (types : List RuleType). found ++ missing_under names stack types) (drop_more all_types i d within))
    ∙ was

pub under_none : (names : List (List ℕ)) (stack : RuleType → Stack) (i : ℕ) (found all : List (List ℕ))
    → length all_types ≤ i → found ++ missing_under names stack (drop i all_types) ≡ all → found ≡ all
under_none names stack i found all past was =
    sym (append-nil found)
    ∙ sym (ap (λ (types : List RuleType). found ++ missing_under names stack types) (drop_of_length-le all_types past))
    ∙ was
