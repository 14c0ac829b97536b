-- A stack with places, without the places.
use Rattle.std.proofs.Common.{◌≡◌, ℕ, zero, suc, ◌+◌, Bool, true, false, cond, eqb, List, [], ◌∷◌, length, length-append, Option, refl, ap, ◌∙◌, arith}
use Rattle.std.proofs.lemmas.Bool.{eqb-true}
use Rattle.control_words.specs.Stack.{Stack, none, line, sub, joined, count, lines_in}
use Rattle.explain_origins.specs.Placed.{Placed, nothing, rule_at, within, appended, is_nothing, forgotten, places, content_placed, entry_placed, placed_of, placed, placed_from}
use Rattle.service_load.specs.declared.entry.RuleContent.{RuleContent}
use Rattle.service_load.specs.declared.entry.RuleContent.TheVariants.{Line, Include, Substack}
use Rattle.service_load.specs.declared.entry.ConfigEntry.{ConfigEntry}
use Rattle.service_load.specs.declared.rule_file.RuleFile.{RuleFile}
use Rattle.service_load.specs.declared.rule_type.RuleType.{RuleType}
use Rattle.service_load.specs.Files.{plain_file, held, rules_held, entries_of, is_in_directory}
use Rattle.service_load.specs.Tree.{serves, content_nodes, entry_nodes, nodes_of, nodes, tree_from, tree_of}

pub forgotten-appended : (a b : Placed) → forgotten (appended a b) ≡ joined (forgotten a) (forgotten b)
forgotten-appended nothing b = refl
forgotten-appended (rule_at origin rule rest) b = ap (line rule) (forgotten-appended rest b)
forgotten-appended (within inner rest) b = ap (sub (forgotten inner)) (forgotten-appended rest b)

-- each line has one place
pub places_each : (p : Placed) → length (places p) ≡ lines_in (forgotten p)
places_each nothing = refl
places_each (rule_at origin rule rest) = omega (arith, places_each rest)
places_each (within inner rest) = omega (arith, length-append (places inner) (places rest), places_each inner, places_each rest)

-- if the one list is empty, so is the other
not_true : (b : Bool) → (b ≡ true → ⊥) → b ≡ false
not_true true never = absurd (never refl)
not_true false never = refl

more_than_none : (n : ℕ) → eqb (n + 1) 0 ≡ false
more_than_none n = not_true (eqb (n + 1) 0) (λ is. omega (arith, eqb-true (n + 1) 0 is))

empty_too : (p : Placed) → eqb (count (forgotten p)) 0 ≡ is_nothing p
empty_too nothing = refl
empty_too (rule_at origin rule rest) = more_than_none (count (forgotten rest))
empty_too (within inner rest) = more_than_none (count (forgotten rest))

-- ---- a file

module _ (deeper : List ℕ → Placed) (stack : List ℕ → Stack) (same : (name : List ℕ) → forgotten (deeper name) ≡ stack name) where
  content_forgotten : (name : List ℕ) (number : ℕ) (content : RuleContent) → forgotten (content_placed deeper name number content) ≡ content_nodes stack content
  content_forgotten name number (Line rule) = refl
  content_forgotten name number (Include file) = same file
  content_forgotten name number (Substack file) = ap (λ (s : Stack). sub s none) (same file)

  if_forgotten : (b : Bool) (p : Placed) (s : Stack) → forgotten p ≡ s → forgotten (cond b p nothing) ≡ cond b s none
  if_forgotten true p s is = is
  if_forgotten false p s is = refl

  entry_forgotten : (type : RuleType) (name : List ℕ) (e : ConfigEntry) → forgotten (entry_placed deeper type name e) ≡ entry_nodes stack type e
  entry_forgotten type name e =
      if_forgotten (serves type e.rule_type) (content_placed deeper name e.line e.content) (content_nodes stack e.content) (content_forgotten name e.line e.content)

  all_forgotten : (type : RuleType) (name : List ℕ) (entries : List ConfigEntry) → forgotten (placed_of deeper type name entries) ≡ nodes_of stack type entries
  all_forgotten type name [] = refl
  all_forgotten type name (e ∷ es) =
      forgotten-appended (entry_placed deeper type name e) (placed_of deeper type name es)
      ∙ ap (λ (s : Stack). joined s (forgotten (placed_of deeper type name es))) (entry_forgotten type name e)
      ∙ ap (joined (entry_nodes stack type e)) (all_forgotten type name es)

module _ (texts : List ℕ → Option (List ℕ)) where
  file_forgotten : (levels : ℕ) (type : RuleType) (file : RuleFile) → forgotten (placed texts levels type file) ≡ nodes texts levels type file
  unfolding placed nodes
  file_forgotten zero type file = refl
  file_forgotten (suc levels) type file =
      all_forgotten (λ name. placed texts levels type (plain_file name)) (λ name. nodes texts levels type (plain_file name)) (λ name. file_forgotten levels type (plain_file name))
      type file.name (entries_of (is_in_directory file) (rules_held (held texts file)))

  if_empty : (b c : Bool) (own other : Placed) → c ≡ b → forgotten (cond b other own) ≡ cond c (forgotten other) (forgotten own)
  if_empty true c own other is = rw is refl
  if_empty false c own other is = rw is refl

  one_forgotten : (own other : Placed) → forgotten (cond (is_nothing own) other own) ≡ tree_of (forgotten own) (forgotten other)
  one_forgotten own other = if_empty (is_nothing own) (eqb (count (forgotten own)) 0) own other (empty_too own)

  pub tree_forgotten : (own other : RuleFile) (type : RuleType) → forgotten (placed_from texts own other type) ≡ tree_from texts own other type
  tree_forgotten own other type =
      one_forgotten (placed texts 17 type own) (placed texts 17 type other)
      ∙ ap (λ (s : Stack). tree_of s (forgotten (placed texts 17 type other))) (file_forgotten 17 type own)
      ∙ ap (tree_of (nodes texts 17 type own)) (file_forgotten 17 type other)
