-- Stacks that were loaded can be printed.
use Rattle.std.proofs.Common.{◌≡◌, ℕ, ◌+◌, ◌≤◌, Bool, true, false, cond, eqb, List, [], ◌∷◌, Option, Ok, refl, ap, ◌∙◌, subst, arith}
use Rattle.std.specs.Prelude.{codes}
use Rattle.std.specs.List.{flat_map}
use Rattle.pam_outside.specs.Files.{VaultState, is_failing}
use Rattle.control_words.specs.Stack.{Stack, depth, lines_in, count}
use Rattle.service_load.specs.declared.rule_type.RuleType.{RuleType}
use Rattle.service_load.specs.declared.rule_type.RuleType.TheVariants.{Auth, Account, Password, Session}
use Rattle.service_load.specs.Files.{service_file}
use Rattle.service_load.specs.FirstFault.{Counts, look}
use Rattle.service_load.specs.Load.{directory_exists, loaded_from}
use Rattle.service_load.specs.Loading.{texts_of}
use Rattle.service_load.specs.Order.{tree_items, order}
use Rattle.service_load.specs.RuleType.{all_types}
use Rattle.service_load.specs.Tree.{nodes, tree_of, tree}
use Rattle.service_print.specs.Reload.{LoadsTo}
use Rattle.service_print.proofs.Understood.{AllWritable}
use Rattle.service_print.proofs.Returned.{IsPrintable, openings_for, openings_of}
use Rattle.service_print.proofs.Taken.{Reading}
use Rattle.service_print.proofs.Known.{nodes_writable}
use Rattle.service_print.proofs.Brought.{split, past, nothing_met, tree_brings}

-- ---- all trees

abbrev BoundedAll : (RuleType → Stack) → List RuleType → Type 0
BoundedAll stack [] = Unit {0}
BoundedAll stack (type ∷ types) = (lines_in (stack type) ≤ 4096) × (depth (stack type) ≤ 16) × BoundedAll stack types

record Trees (before after : Counts) (stack : RuleType → Stack) (types : List RuleType) : Type 0 where
  openings : before.openings + openings_of stack types ≤ after.openings
  few : before.openings ≤ 256 → after.openings ≤ 256
  bounded : BoundedAll stack types

trees_bring : Reading → (texts : List ℕ → Option (List ℕ)) (fails : List ℕ) (own other : _) (types : List RuleType) (before after : Counts)
    → look texts fails before (flat_map (tree_items texts own other) types) ≡ Ok after
    → Trees before after (λ type. tree_of (nodes texts 17 type own) (nodes texts 17 type other)) types
trees_bring reading texts fails own other [] before after is =
    let same : before.openings ≡ after.openings = ap (λ (c : Counts). c.openings) (nothing_met texts fails before after is) in
    record { openings = omega (arith, same); few = λ h. omega (arith, same, h); bounded = tt }
trees_bring reading texts fails own other (type ∷ types) before after is =
    let parts = split texts fails before (tree_items texts own other type) (flat_map (tree_items texts own other) types) after is in
    let here = tree_brings reading texts fails own other type before parts.between parts.first in
    let more = trees_bring reading texts fails own other types parts.between after parts.second in
    record {
      openings = omega (arith, here.openings, more.openings);
      few = λ h. more.few (here.few h);
      bounded = (here.lines, here.deep, more.bounded);
    }

bounded_lines : (stack : RuleType → Stack) → BoundedAll stack all_types → (type : RuleType) → lines_in (stack type) ≤ 4096
bounded_lines stack all Auth = all.0
bounded_lines stack all Account = all.2.0
bounded_lines stack all Password = all.2.2.0
bounded_lines stack all Session = all.2.2.2.0

bounded_depth : (stack : RuleType → Stack) → BoundedAll stack all_types → (type : RuleType) → depth (stack type) ≤ 16
bounded_depth stack all Auth = all.1
bounded_depth stack all Account = all.2.1
bounded_depth stack all Password = all.2.2.1
bounded_depth stack all Session = all.2.2.2.1

tree_writable : Reading → (texts : List ℕ → Option (List ℕ)) (own other : _) (type : RuleType)
    → AllWritable (tree_of (nodes texts 17 type own) (nodes texts 17 type other))
tree_writable reading texts own other type =
    elim (eqb (count (nodes texts 17 type own)) 0) as (λ (b : Bool). AllWritable (cond b (nodes texts 17 type other) (nodes texts 17 type own))) [
      | true ↦ nodes_writable reading texts 17 type other
      | false ↦ nodes_writable reading texts 17 type own
    ]

same_openings : (one other : RuleType → Stack) (types : List RuleType) → ((type : RuleType) → one type ≡ other type)
    → openings_of one types ≡ openings_of other types
same_openings one other [] same = refl
same_openings one other (type ∷ types) same = ap (λ (s : Stack). openings_for s + openings_of one types) (same type) ∙ ap (λ n. openings_for (other type) + n) (same_openings one other types same)

-- what is loaded can be printed, and needs no more openings than are allowed
pub record IsLoadable (stack : RuleType → Stack) : Type 0 where
  pub printable : IsPrintable stack
  pub few : openings_of stack all_types ≤ 256

looked_loadable : Reading
    → (texts : List ℕ → Option (List ℕ)) (fails : List ℕ) (in_directory : Bool) (service : List ℕ) (calls : ℕ) (counts : Counts) (stack : RuleType → Stack)
    → look texts fails (record { calls = calls; openings = 0; lines = 0 }) (order texts in_directory service) ≡ Ok counts → ((type : RuleType) → tree texts in_directory service type ≡ stack type) → IsLoadable stack
looked_loadable reading texts fails in_directory service calls counts stack looked same =
    let own = service_file in_directory service in
    let other = service_file in_directory (codes "other") in
    let start : Counts = record { calls = calls; openings = 0; lines = 0 } in
    let all = trees_bring reading texts fails own other all_types start counts looked in
    let few = all.few (omega arith) in
    record {
      printable = record {
        writable = λ type. subst AllWritable (same type) (tree_writable reading texts own other type);
        deep = λ type. subst (λ (s : Stack). depth s ≤ 16) (same type) (bounded_depth (tree texts in_directory service) all.bounded type);
        few = λ type. subst (λ (s : Stack). lines_in s ≤ 4096) (same type) (bounded_lines (tree texts in_directory service) all.bounded type);
      };
      few = omega (arith, all.openings, few, same_openings (tree texts in_directory service) stack all_types same);
    }

pub loadable : Reading → (vault : VaultState) (root service : List ℕ) (stack : RuleType → Stack) → LoadsTo vault root service stack → IsLoadable stack
loadable reading vault root service stack is =
    let parts = past (is_failing vault) _ (loaded_from (directory_exists vault root) vault root service _) is.counts is.no_fault in
    looked_loadable reading (texts_of root vault) vault.fails (directory_exists vault root) service _ is.counts stack parts.1 is.stacks
