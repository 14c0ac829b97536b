-- Parts of a load that meet no fault, if no call is set to fail: how many files they open and lines
-- they make, at most.
use Rattle.std.proofs.Common.{◌≡◌, ℕ, suc, ◌+◌, ◌-◌, ◌≤◌, Bool, true, false, cond, List, [], ◌∷◌, ◌++◌, map, Option, Some, None, Result, Ok}
use Rattle.std.proofs.Common.{Err, nat_le, refl, sym, ap, ◌∙◌, subst, arith}
use Rattle.std.specs.Result.{is_ok}
use Rattle.std.proofs.lemmas.Bool.{and_parts, le-ltb, lt-leb}
use Rattle.pam_outside.specs.Counts.{fails_next}
use Rattle.pam_base.specs.declared.fault.FaultKind.{FaultKind}
use Rattle.pam_base.specs.declared.fault.FaultKind.TheVariants.{ReadFailed, TooDeep, TooManyFiles, TooManyLines}
use Rattle.service_load.specs.conf_lex.specs.declared.token.RawRule.{RawRule}
use Rattle.service_load.specs.declared.entry.RuleContent.{RuleContent}
use Rattle.service_load.specs.declared.entry.ConfigEntry.{ConfigEntry}
use Rattle.service_load.specs.declared.rule_file.RuleFile.{RuleFile}
use Rattle.service_load.specs.declared.rule_type.RuleType.{RuleType}
use Rattle.service_load.specs.declared.rule_type.RuleType.TheVariants.{Auth}
use Rattle.service_load.specs.Entry.{entry_of}
use Rattle.service_load.specs.Files.{FileContent, all_fine, entries_of, held, held_answer, held_text, holds, own_rules, plain_file, rules_held}
use Rattle.service_load.specs.FirstFault.{Counts, Stop, asked, take_one, checked_rule, going_on, held_file, look, opened, refused_opening, stop}
use Rattle.service_load.specs.Order.{Item, Opener, checked, content_items, file_items, items, items_of, made, opening}
use Rattle.cmd_generate.specs.RandomRules.{HoldsRules, entries_from}
use Rattle.cmd_generate.proofs.StoredFileFacts.{never}

module _ (texts : List ℕ → Option (List ℕ)) where
  -- from these counts on
  pub record Passed (c : Counts) (is : List Item) (opens lines : ℕ) : Type 0 where
    pub after : Counts
    pub looks : look texts [] c is ≡ Ok after
    pub openings_are : after.openings ≤ c.openings + opens
    pub lines_are : after.lines ≤ c.lines + lines

  -- from any counts on that leave room for it
  abbrev pub Passes : List Item → ℕ → ℕ → Type 0
  Passes is opens lines = (c : Counts) → c.openings + opens ≤ 256 → c.lines + lines ≤ 4096 → Passed c is opens lines

  pub passes_none : Passes [] 0 0
  unfolding look
  passes_none c opens lines = record { after = c; looks = refl; openings_are = omega arith; lines_are = omega arith }

  by_first : (xs ys : List Item) (d : Counts) (r : Result Counts Stop) →
      ((c : Counts) → look texts [] c xs ≡ Ok d → look texts [] c (xs ++ ys) ≡ look texts [] d ys)
      → going_on r (λ c. look texts [] c xs) ≡ Ok d → going_on r (λ c. look texts [] c (xs ++ ys)) ≡ look texts [] d ys
  by_first xs ys d (Ok c) more e = more c e
  by_first xs ys d (Err s) more e = absurd cc

  pub look_then : (xs ys : List Item) (c d : Counts) → look texts [] c xs ≡ Ok d → look texts [] c (xs ++ ys) ≡ look texts [] d ys
  unfolding look
  look_then [] ys c d e = ap (λ (r : Result Counts Stop). going_on r (λ (x : Counts). look texts [] x ys)) e
  look_then (i ∷ is) ys c d e = by_first is ys d (take_one texts [] c i) (λ b. look_then is ys b d) e

  pub passes_then : (xs ys : List Item) (a b m n : ℕ) → Passes xs a m → Passes ys b n → Passes (xs ++ ys) (a + b) (m + n)
  passes_then xs ys a b m n first second c opens lines =
      let p = first c (omega (arith, opens)) (omega (arith, lines)) in
      let q = second p.after (omega (arith, p.openings_are, opens)) (omega (arith, p.lines_are, lines)) in
      record {
        after = q.after;
        looks = look_then xs ys c p.after p.looks ∙ q.looks;
        openings_are = omega (arith, p.openings_are, q.openings_are);
        lines_are = omega (arith, p.lines_are, q.lines_are);
      }

  pub passes_within : (is : List Item) (a b m n : ℕ) → Passes is a m → a ≤ b → m ≤ n → Passes is b n
  passes_within is a b m n passes few short c opens lines =
      let p = passes c (omega (arith, opens, few)) (omega (arith, lines, short)) in
      record { after = p.after; looks = p.looks; openings_are = omega (arith, p.openings_are, few); lines_are = omega (arith, p.lines_are, short) }

  -- one item
  by_one : (c d : Counts) (i : Item) → take_one texts [] c i ≡ Ok d → look texts [] c (i ∷ []) ≡ Ok d
  unfolding look
  by_one c d i e = ap (λ (r : Result Counts Stop). going_on r (λ (x : Counts). look texts [] x [])) e

  pub passes_made : (name : List ℕ) (line : ℕ) → Passes (made name line ∷ []) 0 1
  passes_made name line c opens lines =
      let next : Counts = record c { lines = c.lines + 1 } in
      let fits : nat_le 4096 c.lines ≡ false = lt-leb 4096 c.lines (omega (arith, lines)) in
      let step : take_one texts [] c (made name line) ≡ Ok next = ap (λ (b : Bool). cond b (stop c name line TooManyLines) (Ok next)) fits in
      record { after = next; looks = by_one c next (made name line) step; openings_are = omega arith; lines_are = omega arith }

  -- a file that is opened
  pub passes_opening : (file : RuleFile) (level : ℕ) (opener : Opener) → level ≤ 16
      → ((c : Counts) → held_file (asked c) file opener (held texts file) ≡ Ok (asked c)) → Passes (opening file level opener ∷ []) 1 0
  passes_opening file level opener low fine c opens lines =
      let room : nat_le 256 c.openings ≡ false = lt-leb 256 c.openings (omega (arith, opens)) in
      let read : Result Counts Stop = held_file (asked c) file opener (held texts file) in
      let fails : Result Counts Stop = stop (asked c) file.name 0 ReadFailed in
      let step : opened texts [] c file level opener ≡ Ok (asked c) =
      ap (λ (b : Bool). cond b (refused_opening c file opener TooDeep) (cond (nat_le 256 c.openings) (refused_opening c file opener TooManyFiles)
      (cond (fails_next c.calls []) fails read))) (le-ltb 16 level low)
      ∙ ap (λ (b : Bool). cond b (refused_opening c file opener TooManyFiles) (cond (fails_next c.calls []) fails read)) room
      ∙ ap (λ (b : Bool). cond b fails read) (never c.calls) ∙ fine c in
      record { after = asked c; looks = by_one c (asked c) (opening file level opener) step; openings_are = omega arith; lines_are = omega arith }

  -- ---- a file of the directory

  module _ (name : List ℕ) where
    fine_rule : (c : Counts) (line : ℕ) (r : Result ConfigEntry FaultKind) → is_ok r ≡ true → checked_rule c name line r ≡ Ok c
    fine_rule c line (Ok entry) e = refl
    fine_rule c line (Err kind) e = absurd cc

    passes_checked : (rules : List RawRule) → all_fine true rules ≡ true → Passes (map (checked (plain_file name)) rules) 0 0
    passes_checked [] fine = passes_none
    passes_checked (r ∷ rules) fine =
        let parts = and_parts (is_ok (entry_of true r)) (all_fine true rules) fine in
        passes_then (checked (plain_file name) r ∷ []) (map (checked (plain_file name)) rules) 0 0 0 0
        (λ c opens lines. record {
          after = c;
          looks = by_one c c (checked (plain_file name) r) (fine_rule c r.line (entry_of true r) parts.0);
          openings_are = omega arith;
          lines_are = omega arith;
        })
        (passes_checked rules parts.1)

    own : (rules : List RawRule) → own_rules None rules ≡ rules
    own [] = refl
    own (r ∷ rules) = ap (λ (rs : List RawRule). r ∷ rs) (own rules)

    module _ (text : List ℕ) (contents : List RuleContent) (is : texts name ≡ Some text) (h : HoldsRules text contents) where
      pub held_is : held texts (plain_file name) ≡ holds h.rules
      held_is = ap (held_text None) is ∙ ap (held_answer None) h.text_is ∙ ap holds (own h.rules)

      -- what its entries add, after the file itself
      pub passes_file : (level : ℕ) (type : RuleType) (opener : Opener) (opens lines : ℕ)
          → Passes (items_of (items texts level type) type name (entries_from 1 contents)) opens lines
          → Passes (items texts (suc level) type opener (plain_file name)) (1 + opens) lines
      unfolding items
      passes_file level type opener opens lines inner =
          let deeper = items texts level type in
          let brought = items_of deeper type name (entries_from 1 contents) in
          let rest : file_items deeper type (plain_file name) (rules_held (held texts (plain_file name))) ≡ map (checked (plain_file name)) h.rules ++ brought =
          ap (λ (x : FileContent). file_items deeper type (plain_file name) (rules_held x)) held_is
          ∙ ap (λ (b : Bool). map (checked (plain_file name)) h.rules ++ cond b (items_of deeper type name (entries_of true h.rules)) []) h.fine
          ∙ ap (λ (es : List ConfigEntry). map (checked (plain_file name)) h.rules ++ items_of deeper type name es) h.entries in
          let all : Passes (opening (plain_file name) (16 - level) opener ∷ (map (checked (plain_file name)) h.rules ++ brought)) (1 + opens) lines =
          passes_within (opening (plain_file name) (16 - level) opener ∷ (map (checked (plain_file name)) h.rules ++ brought)) (1 + (0 + opens)) (1 + opens)
          (0 + (0 + lines)) lines
          (passes_then (opening (plain_file name) (16 - level) opener ∷ []) (map (checked (plain_file name)) h.rules ++ brought) 1 (0 + opens) 0 (0 + lines)
          (passes_opening (plain_file name) (16 - level) opener (omega arith) (λ c. ap (held_file (asked c) (plain_file name) opener) held_is))
          (passes_then (map (checked (plain_file name)) h.rules) brought 0 opens 0 lines (passes_checked h.rules h.fine) inner)) (omega arith) (omega arith) in
          subst (λ (xs : List Item). Passes (opening (plain_file name) (16 - level) opener ∷ xs) (1 + opens) lines) (sym rest) all

    -- ---- what its rules add, one after another

    module _ (deeper : Opener → RuleFile → List Item) where
      abbrev pub Brings : List RuleContent → ℕ → ℕ → Type 0
      Brings contents opens lines = (n : ℕ) → Passes (items_of deeper Auth name (entries_from n contents)) opens lines

      pub brings_none : Brings [] 0 0
      brings_none n = passes_none

      pub brings_more : (content : RuleContent) (contents : List RuleContent) (a b m n : ℕ) → ((line : ℕ) → Passes (content_items deeper name line content) a m)
          → Brings contents b n → Brings (content ∷ contents) (a + b) (m + n)
      brings_more content contents a b m n one more line =
          passes_then (content_items deeper name line content) (items_of deeper Auth name (entries_from (line + 1) contents)) a b m n (one line)
          (more (line + 1))
