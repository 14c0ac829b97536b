-- What the rules of a file add, one after another.
use Rattle.std.proofs.Common.{◌≡◌, ℕ, suc, ◌+◌, ◌-◌, ◌≤◌, ◌<◌, Bool, true, false, not, cond, ◌&&◌, ◌||◌, List, [], ◌∷◌, ◌++◌, append_assoc, append-nil, drop, length, get_or, Option, Some, None, Result, Ok, Err, refl, sym, ap, ◌∙◌, arith}
use Rattle.std.proofs.lemmas.List.{drop_more}
use Rattle.pam_base.specs.declared.fault.FaultKind.{FaultKind}
use Rattle.control_words.specs.conf_lex.specs.declared.token.RawRule.{RawRule}
use Rattle.control_words.specs.conf_lex.specs.declared.token.Token.{Token}
use Rattle.explain_lines.specs.declared.origin.Origin.{Origin}
use Rattle.explain_origins.specs.declared.step.Step.{Step}
use Rattle.explain_origins.specs.declared.step.Step.TheVariants.{Nothing, Line, File}
use Rattle.explain_origins.specs.Placed.{Placed, nothing, rule_at, within, appended, is_nothing, places, content_placed, entry_placed, placed_of, placed}
use Rattle.pam_base.specs.declared.fault.NoMemory.{NoMemory}
use Rattle.explain_origins.specs.declared.files.Inclusion.{Inclusion}
use Rattle.explain_origins.specs.Reading.{Adds, Takes, placed_at, step_at, step_by, step_of_rules}
use Rattle.service_load.specs.declared.entry.RuleContent.{RuleContent}
use Rattle.service_load.specs.declared.entry.RuleContent.TheVariants as contents
use Rattle.service_load.specs.declared.entry.ConfigEntry.{ConfigEntry}
use Rattle.service_load.specs.declared.rule_file.RuleFile.{RuleFile}
use Rattle.service_load.specs.declared.rule_type.RuleType.{RuleType}
use Rattle.service_load.specs.Entry.{entry_of}
use Rattle.service_load.specs.Files.{plain_file, held, rules_held, own_rule, own_rules, rule_without, entries_of, is_in_directory}
use Rattle.service_load.specs.RuleType.{is_word}
use Rattle.service_load.specs.Tree.{serves}

pub places-appended : (a b : Placed) → places (appended a b) ≡ places a ++ places b
places-appended nothing b = refl
places-appended (rule_at origin rule rest) b = ap (λ (os : List Origin). origin ∷ os) (places-appended rest b)
places-appended (within inner rest) b = ap (λ (os : List Origin). places inner ++ os) (places-appended rest b) ∙ sym (append_assoc (places inner) (places rest) (places b))

is_nothing-appended : (a b : Placed) → is_nothing (appended a b) ≡ is_nothing a && is_nothing b
is_nothing-appended nothing b = refl
is_nothing-appended (rule_at origin rule rest) b = refl
is_nothing-appended (within inner rest) b = refl

pub nothing_there : (p : Placed) → is_nothing p ≡ true → places p ≡ []
nothing_there nothing is = refl
nothing_there (rule_at origin rule rest) is = absurd cc
nothing_there (within inner rest) is = absurd cc

-- a file that is opened, at a level
pub placed_is : (texts : List ℕ → Option (List ℕ)) (level : ℕ) (type : RuleType) (file : RuleFile) (rules : List RawRule) → level ≤ 16
    → rules_held (held texts file) ≡ rules
    → placed_at texts level type file ≡ placed_of (λ name. placed_at texts (level + 1) type (plain_file name)) type file.name (entries_of (is_in_directory file) rules)
unfolding placed
placed_is texts level type file rules low are =
    let left : 17 - level ≡ suc (16 - level) = omega arith in
    let deeper : 16 - level ≡ 17 - (level + 1) = omega arith in
    ap (λ (n : ℕ). placed texts n type file) left
    ∙ ap (λ (n : ℕ). placed_of (λ name. placed texts n type (plain_file name)) type file.name (entries_of (is_in_directory file) (rules_held (held texts file)))) deeper
    ∙ ap (λ (rs : List RawRule). placed_of (λ name. placed_at texts (level + 1) type (plain_file name)) type file.name (entries_of (is_in_directory file) rs)) are

pub too_deep : (texts : List ℕ → Option (List ℕ)) (level : ℕ) (type : RuleType) (file : RuleFile) → 16 < level → level ≤ 17
    → placed_at texts level type file ≡ nothing
unfolding placed
too_deep texts level type file deep low =
    let none : 17 - level ≡ 0 = omega arith in
    ap (λ (n : ℕ). placed texts n type file) none

-- ---- one rule

module _ (deeper : List ℕ → Placed) (type : RuleType) (name : List ℕ) where
  -- the places that a step adds, and whether it adds nothing
  abbrev pub places_by : Step → List Origin
  places_by Nothing = []
  places_by (Line number) = record { file = name; line = number } ∷ []
  places_by (File inner as_substack) = places (deeper inner)

  abbrev pub nothing_by : Step → Bool
  nothing_by Nothing = true
  nothing_by (Line number) = false
  nothing_by (File inner as_substack) = not as_substack && is_nothing (deeper inner)

  content_places : (number : ℕ) (content : RuleContent) → places (content_placed deeper name number content) ≡ places_by (step_at number content)
  content_places number (contents.Line rule) = refl
  content_places number (contents.Include file) = refl
  content_places number (contents.Substack file) = append-nil (places (deeper file))

  content_nothing : (number : ℕ) (content : RuleContent) → is_nothing (content_placed deeper name number content) ≡ nothing_by (step_at number content)
  content_nothing number (contents.Line rule) = refl
  content_nothing number (contents.Include file) = refl
  content_nothing number (contents.Substack file) = refl

  if_places : (b : Bool) (p : Placed) (s : Step) → places p ≡ places_by s → places (cond b p nothing) ≡ places_by (cond b s Nothing)
  if_places true p s is = is
  if_places false p s is = refl

  if_nothing : (b : Bool) (p : Placed) (s : Step) → is_nothing p ≡ nothing_by s → is_nothing (cond b p nothing) ≡ nothing_by (cond b s Nothing)
  if_nothing true p s is = is
  if_nothing false p s is = refl

  -- the list of some rules
  abbrev pub of_rules : Bool → List RawRule → Placed
  of_rules in_directory rules = placed_of deeper type name (entries_of in_directory rules)

  rule_places : (in_directory : Bool) (rule : RawRule) (rest : List RawRule) (said : Result ConfigEntry FaultKind) → entry_of in_directory rule ≡ said
      → places (of_rules in_directory (rule ∷ rest)) ≡ places_by (step_by type said) ++ places (of_rules in_directory rest)
  rule_places in_directory rule rest (Ok e) is =
      rw is (places-appended (entry_placed deeper type name e) (of_rules in_directory rest)
      ∙ ap (λ (os : List Origin). os ++ places (of_rules in_directory rest)) (if_places (serves type e.rule_type) (content_placed deeper name e.line e.content) (step_at e.line e.content) (content_places e.line e.content)))
  rule_places in_directory rule rest (Err kind) is = rw is refl

  rule_nothing : (in_directory : Bool) (rule : RawRule) (rest : List RawRule) (said : Result ConfigEntry FaultKind) → entry_of in_directory rule ≡ said
      → is_nothing (of_rules in_directory (rule ∷ rest)) ≡ nothing_by (step_by type said) && is_nothing (of_rules in_directory rest)
  rule_nothing in_directory rule rest (Ok e) is =
      rw is (is_nothing-appended (entry_placed deeper type name e) (of_rules in_directory rest)
      ∙ ap (λ (b : Bool). b && is_nothing (of_rules in_directory rest)) (if_nothing (serves type e.rule_type) (content_placed deeper name e.line e.content) (step_at e.line e.content) (content_nothing e.line e.content)))
  rule_nothing in_directory rule rest (Err kind) is = rw is refl

  -- a rule of a text was asked for, or wasn't
  record IsStep (in_directory : Bool) (own rest : List RawRule) : Type 0 where
    pub adds : places (of_rules in_directory (own ++ rest)) ≡ places_by (step_of_rules type in_directory own) ++ places (of_rules in_directory rest)
    pub finds : is_nothing (of_rules in_directory (own ++ rest)) ≡ nothing_by (step_of_rules type in_directory own) && is_nothing (of_rules in_directory rest)

  none_meant : (in_directory : Bool) (rest : List RawRule) → IsStep in_directory [] rest
  none_meant in_directory rest = record { adds = refl; finds = refl }

  one_meant : (in_directory : Bool) (rule : RawRule) (rest : List RawRule) → IsStep in_directory (rule ∷ []) rest
  one_meant in_directory rule rest = record {
    adds = rule_places in_directory rule rest (entry_of in_directory rule) refl;
    finds = rule_nothing in_directory rule rest (entry_of in_directory rule) refl;
  }

  if_meant : (b in_directory : Bool) (rule : RawRule) (rest : List RawRule) → IsStep in_directory (cond b (rule ∷ []) []) rest
  if_meant true in_directory rule rest = one_meant in_directory rule rest
  if_meant false in_directory rule rest = none_meant in_directory rest

  of_service : (in_directory : Bool) (service : List ℕ) (line : ℕ) (tokens : List Token) (rest : List RawRule) → IsStep in_directory (rule_without service line tokens) rest
  of_service in_directory service line [] rest = none_meant in_directory rest
  of_service in_directory service line (t ∷ ts) rest = if_meant (is_word service t) in_directory (record { line = line; tokens = ts }) rest

  is_step : (in_directory : Bool) (service : Option (List ℕ)) (rule : RawRule) (rest : List RawRule) → IsStep in_directory (own_rule service rule) rest
  is_step in_directory None rule rest = one_meant in_directory rule rest
  is_step in_directory (Some service) rule rest = of_service in_directory service rule.line rule.tokens rest

  -- ---- the rules of a file so far

  -- what all rules of a text add is what was added so far and what those that are left add
  pub record Going (in_directory : Bool) (service : Option (List ℕ)) (all left : List RawRule) (before now : List Origin) (any : Bool) : Type 0 where
    pub added : before ++ places (of_rules in_directory (own_rules service all)) ≡ now ++ places (of_rules in_directory (own_rules service left))
    pub found : is_nothing (of_rules in_directory (own_rules service all)) ≡ not any && is_nothing (of_rules in_directory (own_rules service left))

  pub going_none : (in_directory : Bool) (service : Option (List ℕ)) (all : List RawRule) (before : List Origin) → Going in_directory service all all before before false
  going_none in_directory service all before = record { added = refl; found = refl }

  and-or : (any found rest : Bool) → not any && (not found && rest) ≡ not (any || found) && rest
  and-or true found rest = refl
  and-or false found rest = refl

  not-not : (b : Bool) → not (not b) ≡ b
  not-not true = refl
  not-not false = refl

  -- one more rule
  pub going_on : (in_directory : Bool) (service : Option (List ℕ)) (all : List RawRule) (i : ℕ) (rule : RawRule) (before now new : List Origin) (any found any' : Bool) (step : Step)
      → i < length all → rule ≡ get_or all i rule
      → step ≡ step_of_rules type in_directory (own_rule service rule) → new ≡ now ++ places_by step → nothing_by step ≡ not found → any' ≡ (any || found)
      → Going in_directory service all (drop i all) before now any → Going in_directory service all (drop (i + 1) all) before new any'
  going_on in_directory service all i rule before now new any found any' step inside is steps adds finds or was =
      let rest : List RawRule = drop (i + 1) all in
      let here : drop i all ≡ rule ∷ rest = drop_more all i rule inside ∙ ap (λ (r : RawRule). r ∷ rest) (sym is) in
      let one : IsStep in_directory (own_rule service rule) (own_rules service rest) = is_step in_directory service rule (own_rules service rest) in
      record {
        added = was.added
            ∙ ap (λ (rs : List RawRule). now ++ places (of_rules in_directory (own_rules service rs))) here
            ∙ ap (λ (os : List Origin). now ++ os) one.adds
            ∙ sym (append_assoc now (places_by (step_of_rules type in_directory (own_rule service rule))) (places (of_rules in_directory (own_rules service rest))))
            ∙ ap (λ (s : Step). (now ++ places_by s) ++ places (of_rules in_directory (own_rules service rest))) (sym steps)
            ∙ ap (λ (os : List Origin). os ++ places (of_rules in_directory (own_rules service rest))) (sym adds);
        found = was.found
            ∙ ap (λ (rs : List RawRule). not any && is_nothing (of_rules in_directory (own_rules service rs))) here
            ∙ ap (λ (b : Bool). not any && b) one.finds
            ∙ ap (λ (s : Step). not any && (nothing_by s && is_nothing (of_rules in_directory (own_rules service rest)))) (sym steps)
            ∙ ap (λ (b : Bool). not any && (b && is_nothing (of_rules in_directory (own_rules service rest)))) finds
            ∙ and-or any found (is_nothing (of_rules in_directory (own_rules service rest)))
            ∙ ap (λ (b : Bool). not b && is_nothing (of_rules in_directory (own_rules service rest))) (sym or);
      }

  -- no rule is left
  not_or : (any : Bool) (all : Bool) → all ≡ not any && true → any ≡ not all
  not_or true all is = rw is refl
  not_or false all is = rw is refl

  pub going_all : (in_directory : Bool) (service : Option (List ℕ)) (all left : List RawRule) (before now : List Origin) (any : Bool) (file : Placed)
      → Going in_directory service all left before now any → left ≡ [] → file ≡ of_rules in_directory (own_rules service all) → Adds any before now file
  going_all in_directory service all left before now any file was none is = record {
    added = sym (append-nil now)
        ∙ ap (λ (rs : List RawRule). now ++ places (of_rules in_directory (own_rules service rs))) (sym none)
        ∙ sym was.added ∙ ap (λ (p : Placed). before ++ places p) (sym is);
    found = not_or any (is_nothing file)
        (ap is_nothing is ∙ was.found ∙ ap (λ (rs : List RawRule). not any && is_nothing (of_rules in_directory (own_rules service rs))) none);
  }

-- ---- a rule that was taken

or_false : (b : Bool) → b ≡ (b || false)
or_false true = refl
or_false false = refl

or_true : (b : Bool) → true ≡ (b || true)
or_true true = refl
or_true false = refl

finds_file : (as_substack found empty : Bool) → found ≡ not empty → (not as_substack && empty) ≡ not (as_substack || found)
finds_file true found empty is = refl
finds_file false found true is = rw is refl
finds_file false found false is = rw is refl

module _ (at : RuleFile → Placed) (type : RuleType) (name : List ℕ) where
  abbrev deeper : List ℕ → Placed
  deeper inner = at (plain_file inner)

  -- one that includes no file
  pub going_taken : (in_directory : Bool) (service : Option (List ℕ)) (all : List RawRule) (i : ℕ) (rule : RawRule) (before now new : List Origin) (any any' : Bool) (step : Step)
      → i < length all → rule ≡ get_or all i rule → step ≡ step_of_rules type in_directory (own_rule service rule)
      → Takes {E = NoMemory} (Ok None) step name now new any any'
      → Going (λ inner. at (plain_file inner)) type name in_directory service all (drop i all) before now any
      → Going (λ inner. at (plain_file inner)) type name in_directory service all (drop (i + 1) all) before new any'
  going_taken in_directory service all i rule before now new any any' Nothing inside is steps takes was =
      going_on deeper type name in_directory service all i rule before now new any false any' Nothing inside is steps (takes.1 ∙ sym (append-nil now)) refl (takes.2 ∙ or_false any) was
  going_taken in_directory service all i rule before now new any any' (Line number) inside is steps takes was =
      going_on deeper type name in_directory service all i rule before now new any true any' (Line number) inside is steps takes.1 refl (takes.2 ∙ or_true any) was
  going_taken in_directory service all i rule before now new any any' (File inner as_substack) inside is steps takes was = absurd cc

  -- one that includes a file, which was added
  pub going_in : (in_directory : Bool) (service : Option (List ℕ)) (all : List RawRule) (i : ℕ) (rule : RawRule) (before now mid new : List Origin) (any half found any' : Bool) (step : Step) (inclusion : Inclusion)
      → i < length all → rule ≡ get_or all i rule → step ≡ step_of_rules type in_directory (own_rule service rule)
      → Takes {E = NoMemory} (Ok (Some inclusion)) step name now mid any half
      → Adds found mid new (at inclusion.file) → any' ≡ (half || (inclusion.as_substack || found))
      → Going (λ inner. at (plain_file inner)) type name in_directory service all (drop i all) before now any
      → Going (λ inner. at (plain_file inner)) type name in_directory service all (drop (i + 1) all) before new any'
  going_in in_directory service all i rule before now mid new any half found any' Nothing inclusion inside is steps takes adds or was = absurd cc
  going_in in_directory service all i rule before now mid new any half found any' (Line number) inclusion inside is steps takes adds or was = absurd cc
  going_in in_directory service all i rule before now mid new any half found any' (File inner as_substack) inclusion inside is steps takes adds or was =
      let same : inclusion ≡ record { file = plain_file inner; as_substack = as_substack } = cc in
      let file : at inclusion.file ≡ deeper inner = ap (λ (n : Inclusion). at n.file) same in
      going_on deeper type name in_directory service all i rule before now new any (as_substack || found) any' (File inner as_substack) inside is steps
      (adds.added ∙ ap (λ (os : List Origin). os ++ places (at inclusion.file)) takes.1 ∙ ap (λ (p : Placed). now ++ places p) file)
      (finds_file as_substack found (is_nothing (deeper inner)) (adds.found ∙ ap (λ (p : Placed). not (is_nothing p)) file))
      (or ∙ ap (λ (b : Bool). b || (inclusion.as_substack || found)) takes.2 ∙ ap (λ (n : Inclusion). any || (n.as_substack || found)) same)
      was

-- a file that adds nothing
pub adds_nothing : (before : List Origin) (file : Placed) → file ≡ nothing → Adds false before before file
adds_nothing before file is = record { added = rw is (sym (append-nil before)); found = rw is refl }
