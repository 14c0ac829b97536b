-- What is loaded from files of bytes can be printed.
use Rattle.std.proofs.Common.{◌≡◌, ℕ, ◌<◌, ◌≤◌, Bool, true, false, cond, List, Result, Ok, Err, codes, sym, subst, arith}
use Rattle.std.specs.List.{AllByRecursion}
use Rattle.pam_outside.specs.Counts.{next_count}
use Rattle.pam_outside.specs.Files.{File, VaultState, is_failing}
use Rattle.control_words.specs.conf_lex.specs.Piece.{IsReading}
use Rattle.control_words.specs.conf_lex.specs.Reading.{pieces_of}
use Rattle.control_words.specs.Stack.{Stack, lines_in}
use Rattle.service_load.specs.Files.{service_file}
use Rattle.service_load.specs.FirstFault.{Counts, Stop}
use Rattle.service_load.specs.Load.{directory_exists, loaded, loaded_from}
use Rattle.service_load.specs.Loading.{texts_of}
use Rattle.service_load.specs.RuleType.{all_types}
use Rattle.service_load.specs.declared.rule_type.RuleType.{RuleType}
use Rattle.service_load.specs.declared.rule_type.RuleType.TheVariants.{Auth, Account, Password, Session}
use Rattle.pam_handle.specs.Start.{stacks_under}
use Rattle.session_audit.specs.Sound.{AreNamed, ArePrintable, IsPrintable}
use Rattle.laws_audit.specs.Loaded.{LoadedArePrintable}
use Rattle.laws_audit.proofs.ModuleNameFacts.{texts_of_bytes, tree_named}
use Rattle.laws_audit.proofs.LineLimitFacts.{trees_fit}

by_failing : (failing : Bool) (s : Stop) (more : Result Counts Stop) (counts : Counts) → cond failing (Err s) more ≡ Ok counts → more ≡ Ok counts
by_failing true s more counts e = absurd cc
by_failing false s more counts e = e

printable_by : (stack : Stack) → AreNamed stack → lines_in stack ≤ 4096 → IsPrintable stack
printable_by stack named few = record { named = named; placed = omega arith }

module _ (reading : (text : List ℕ) → IsReading text (pieces_of text)) where
  under_printable : (vault : VaultState) (root service : List ℕ) (counts : Counts)
      (of_bytes : AllByRecursion (λ (f : File). AllByRecursion (λ (b : ℕ). b < 256) f.bytes) vault.files)
      → loaded vault root service ≡ Ok counts → ArePrintable (stacks_under vault root service)
  under_printable vault root service counts of_bytes e =
      let own = service_file (directory_exists vault root) service in
      let other = service_file (directory_exists vault root) (codes "other") in
      let begun : Counts = record { calls = next_count vault.calls; openings = 0; lines = 0 } in
      let read : loaded_from (directory_exists vault root) vault root service (next_count vault.calls) ≡ Ok counts = by_failing (is_failing vault) _ _ counts e in
      let few = trees_fit (texts_of root vault) vault.fails own other all_types begun counts read in
      let named = λ (type : RuleType). tree_named reading (texts_of root vault) (texts_of_bytes root vault.files of_bytes) own other type in
      record {
        auth = printable_by _ (named Auth) few.0;
        account = printable_by _ (named Account) few.1.0;
        password = printable_by _ (named Password) few.1.1.0;
        session = printable_by _ (named Session) few.1.1.1.0;
      }

  pub loaded_printable : LoadedArePrintable
  loaded_printable stacks l = subst ArePrintable (sym l.stacks_are) (under_printable l.vault l.root l.service l.counts l.of_bytes l.no_fault)
