-- The files are the same, however often they were read.
use Rattle.std.proofs.Common.{◌≡◌, ℕ, Bool, true, false, not, List, [], ◌++◌, Option, refl, sym, ap, subst, ◌∙◌}
use Rattle.std.specs.Prelude.{codes}
use Rattle.pam_outside.specs.Files.{VaultState}
use Rattle.explain_lines.specs.declared.origin.Origin.{Origin}
use Rattle.explain_lines.specs.Origins.{Sources}
use Rattle.explain_origins.specs.Placed.{Placed, is_nothing, places, placed_from, placed_if, sources_at}
use Rattle.explain_origins.specs.Reading.{Adds, placed_at}
use Rattle.explain_origins.proofs.FileRuleFacts.{nothing_there}
use Rattle.service_load.specs.declared.rule_file.RuleFile.{RuleFile}
use Rattle.service_load.specs.declared.rule_type.RuleType.{RuleType}
use Rattle.service_load.specs.declared.rule_type.RuleType.TheVariants.{Auth, Account, Password, Session}
use Rattle.service_load.specs.Files.{service_file}
use Rattle.service_load.specs.Load.{directory_exists}
use Rattle.service_load.specs.Loading.{OnlyCalls, texts_of}

pub same_texts : (root : List ℕ) (old new : VaultState) → OnlyCalls old new → texts_of root new ≡ texts_of root old
same_texts root old new only = ap (texts_of root) only

pub only_more : (a b c : VaultState) → OnlyCalls a b → OnlyCalls b c → OnlyCalls a c
only_more a b c one two = two ∙ ap (λ (v : VaultState). record v { calls = c.calls }) one

-- what a file adds, stated for the files as they were
pub adds_since : (found : Bool) (before after : List Origin) (root : List ℕ) (old new : VaultState) (level : ℕ) (type : RuleType) (file : RuleFile) → OnlyCalls old new
    → Adds found before after (placed_at (texts_of root new) level type file) → Adds found before after (placed_at (texts_of root old) level type file)
adds_since found before after root old new level type file only =
    subst (λ (texts : List ℕ → Option (List ℕ)). Adds found before after (placed_at texts level type file)) (same_texts root old new only)

-- ---- the service's own file, or that of `other`

not-true : (b : Bool) → true ≡ not b → b ≡ false
not-true true e = absurd cc
not-true false e = refl

not-false : (b : Bool) → false ≡ not b → b ≡ true
not-false true e = refl
not-false false e = absurd cc

pub own_alone : (own other : Placed) (any : Bool) (before after : List Origin) → any ≡ true → before ≡ [] → Adds any before after own
    → after ≡ places (placed_if own other)
own_alone own other any before after is empty adds =
    adds.added ∙ ap (λ (os : List Origin). os ++ places own) empty ∙ rw (not-true (is_nothing own) (sym is ∙ adds.found)) refl

pub other_then : (own other : Placed) (any more : Bool) (before mid after : List Origin) → any ≡ false → before ≡ [] → Adds any before mid own → Adds more mid after other
    → after ≡ places (placed_if own other)
other_then own other any more before mid after is empty adds then_adds =
    let none : is_nothing own ≡ true = not-false (is_nothing own) (sym is ∙ adds.found) in
    let still : mid ≡ [] = adds.added ∙ ap (λ (os : List Origin). os ++ places own) empty ∙ nothing_there own none in
    then_adds.added ∙ ap (λ (os : List Origin). os ++ places other) still ∙ rw none refl

-- ---- all types

one : (root : List ℕ) (first now : VaultState) (own other : RuleFile) (type : RuleType) (found : List Origin) → OnlyCalls first now
    → found ≡ places (placed_from (texts_of root now) own other type) → found ≡ places (placed_from (texts_of root first) own other type)
one root first now own other type found only is =
    is ∙ ap (λ (texts : List ℕ → Option (List ℕ)). places (placed_from texts own other type)) (same_texts root first now only)

pub all_sources : (root service : List ℕ) (v0 v1 v2 v3 v4 : VaultState) (folder : Bool) (own other : RuleFile) (auth account password session : List Origin)
    → OnlyCalls v0 v1 → OnlyCalls v1 v2 → OnlyCalls v2 v3 → OnlyCalls v3 v4
    → folder ≡ directory_exists v0 root → own ≡ service_file folder service → other ≡ service_file folder (codes "other")
    → auth ≡ places (placed_from (texts_of root v1) own other Auth) → account ≡ places (placed_from (texts_of root v2) own other Account)
    → password ≡ places (placed_from (texts_of root v3) own other Password) → session ≡ places (placed_from (texts_of root v4) own other Session)
    → ◌≡◌ {A = Sources} (record { auth = auth; account = account; password = password; session = session }) (sources_at (texts_of root v0) (directory_exists v0 root) service)
all_sources root service v0 v1 v2 v3 v4 folder own other auth account password session o1 o2 o3 o4 directory_is own_is other_is a b c d =
    let two : OnlyCalls v0 v2 = only_more v0 v1 v2 o1 o2 in
    let three : OnlyCalls v0 v3 = only_more v0 v2 v3 two o3 in
    let four : OnlyCalls v0 v4 = only_more v0 v3 v4 three o4 in
    rw (
      one root v0 v1 own other Auth auth o1 a,
      one root v0 v2 own other Account account two b,
      one root v0 v3 own other Password password three c,
      one root v0 v4 own other Session session four d,
      own_is,
      other_is,
      directory_is,
    ) refl
