-- No generated file is refused for its length: each is read without a fault, so it has at most 65536 bytes.
use Rattle.std.proofs.Common.{◌≡◌, ℕ, suc, zero, ◌+◌, ◌≤◌, Bool, true, false, cond, List, [], ◌∷◌, ◌++◌, length, map, nat_lt, Result, Ok, Err, refl, arith}
use Rattle.std.specs.List.{AllByRecursion, range_with_len}
use Rattle.std.proofs.lemmas.Bool.{ltb-false}
use Rattle.pam_base.specs.declared.fault.FaultKind.TheVariants.{FileTooLong}
use Rattle.pam_outside.specs.declared.vault.TheConstants.{MAX_FILE}
use Rattle.random_config.specs.declared.files.RandomFile.{RandomFile}
use Rattle.random_config.specs.Files.{count_of, random_file, random_files, service}
use Rattle.service_load.specs.conf_lex.specs.declared.token.LexFault.{LexFault}
use Rattle.service_load.specs.conf_lex.specs.declared.token.RawRule.{RawRule}
use Rattle.service_load.specs.conf_lex.specs.Answer.{answer_to, answer_unless_nul}
use Rattle.service_load.specs.conf_lex.specs.Lexing.{nul_line}
use Rattle.service_load.specs.declared.entry.RuleContent.{RuleContent}
use Rattle.cmd_generate.specs.RandomRules.{HoldsRules, contents_of, service_contents}
use Rattle.cmd_generate.proofs.GeneratedRuleFacts.{holds_file, holds_service}

module _ (text : List ℕ) where
  abbrev too_long : Result (List RawRule) LexFault
  too_long = Err (record { line = 0; kind = FileTooLong })

  read_by : (long : Bool) → nat_lt 65536 (length text) ≡ long → (rules : List RawRule)
      → cond long too_long (answer_unless_nul (nul_line 1 text) text) ≡ Ok rules → length text ≤ 65536
  read_by true e rules is = absurd cc
  read_by false e rules is = ltb-false 65536 (length text) e

  -- a text that is read without a fault
  read_length : (contents : List RuleContent) → HoldsRules text contents → length text ≤ 65536
  unfolding answer_to
  read_length contents holds = read_by (nat_lt 65536 (length text)) refl holds.rules holds.text_is

-- it isn't refused for its length
abbrev pub IsShort : RandomFile → Type 0
IsShort file = length file.text ≤ MAX_FILE

module _ (seed lines : ℕ) (most : lines ≤ 4096) where
  short_file : (k : ℕ) → k ≤ count_of lines → IsShort (random_file seed lines k)
  short_file k to = omega (arith, read_length (random_file seed lines k).text (contents_of seed lines k) (holds_file seed lines k most to))

  short_service : IsShort (service (count_of lines))
  short_service = omega (arith, read_length (service (count_of lines)).text (service_contents (count_of lines)) (holds_service lines most))

  short_from : (a n : ℕ) → a + n ≤ count_of lines + 1 → AllByRecursion IsShort
      (map (random_file seed lines) (range_with_len a n) ++ service (count_of lines) ∷ [])
  short_from a zero to = (short_service, tt)
  short_from a (suc n) to = (short_file a (omega (arith, to)), short_from (a + 1) n (omega (arith, to)))

  pub all_short : AllByRecursion IsShort (random_files seed lines)
  all_short = short_from 1 (count_of lines) (omega arith)
