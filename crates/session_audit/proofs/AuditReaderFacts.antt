-- A reader of lines finds exactly whether a text fits.
use Rattle.std.proofs.Common.{◌≡◌, ℕ, ◌<◌, ◌^◌, Bool, true, false, eqb, eqb-true, if◌then◌else◌, List, [], ◌∷◌, ◌++◌, map, Option, Some}
use Rattle.std.proofs.Common.{None, refl, sym, ◌∙◌, ap, subst, append_assoc, append-nil}
use Rattle.std.specs.Option.{option_map}
use Rattle.std.specs.List.{flat_map, AllByRecursion}
use Rattle.pam_base.specs.Bytes.{has_byte}
use Rattle.pam_base.specs.Lines.{Cut, onto, cut, cut-line}
use Rattle.service_load.specs.Stacks.{Stacks}
use Rattle.report_lines.specs.Line.{ToldLine, Block, Last, all_told_text, result_text, block_text, blocks_text, last_text, IsTold, AreBlocks, IsLast}
use Rattle.session_audit.specs.Fits.{Fits, all_shut}
use Rattle.report_lines.specs.Says.{Says, tells, results, says_text, IsSays, bare, IsLine, ReadAs, ReadsLines}
use Rattle.session_audit.specs.Differs.{last_lines, told_lines, report_lines, differs, LinesFit}
use Rattle.session_audit.specs.Whole.{formless, lines_read, ReadersAudit}
use Rattle.session_audit.proofs.DifferingLineFacts.{differs_exactly}
use Rattle.session_audit.proofs.FormatOnlyFacts.{differs-bare}

-- ---- a text is its lines

abbrev joined : List (List ℕ) → List ℕ
joined lines = flat_map (λ (l : List ℕ). l ++ 10 ∷ []) lines

onto_joins : (b : ℕ) (lines : List (List ℕ)) (rest : List ℕ) → b ∷ (joined lines ++ rest) ≡ joined (onto b lines rest).lines ++ (onto b lines rest).rest
onto_joins b [] rest = refl
onto_joins b (l ∷ lines) rest = refl

cut_if : (b : ℕ) (c : Cut) (x : Bool) → eqb b 10 ≡ x → b ∷ (joined c.lines ++ c.rest)
    ≡ joined (if x then record { lines = [] ∷ c.lines; rest = c.rest } else onto b c.lines c.rest).lines
    ++ (if x then record { lines = [] ∷ c.lines; rest = c.rest } else onto b c.lines c.rest).rest
cut_if b c true is = ap (λ (n : ℕ). n ∷ (joined c.lines ++ c.rest)) (eqb-true b 10 is)
cut_if b c false is = onto_joins b c.lines c.rest

cut_joins : (text : List ℕ) → text ≡ joined (cut text).lines ++ (cut text).rest
unfolding cut
cut_joins [] = refl
cut_joins (b ∷ bs) = ap (λ (t : List ℕ). b ∷ t) (cut_joins bs) ∙ cut_if b (cut bs) (eqb b 10) refl

-- ---- the text of blocks

told_texts : (number : ℕ) (told : List ToldLine) (rest : List Says) → flat_map says_text (told_lines number told rest)
    ≡ all_told_text number told ++ flat_map says_text rest
told_texts number [] rest = refl
told_texts number (t ∷ told) rest = ap (λ (x : List ℕ). says_text (tells number t) ++ x) (told_texts number told rest)
    ∙ sym (append_assoc (says_text (tells number t)) (all_told_text number told) (flat_map says_text rest))

report_text : (blocks : List Block) (last : Option Last) → flat_map says_text (report_lines blocks last) ≡ blocks_text blocks ++ last_text last
report_text [] None = refl
report_text [] (Some last) = append-nil (last_text (Some last))
report_text (b ∷ blocks) last =
    told_texts b.number b.told (results b.number b.result ∷ report_lines blocks last)
    ∙ ap (λ (x : List ℕ). all_told_text b.number b.told ++ (result_text b.number b.result ++ x)) (report_text blocks last)
    ∙ sym (append_assoc (all_told_text b.number b.told) (result_text b.number b.result) (blocks_text blocks ++ last_text last))
    ∙ sym (append_assoc (block_text b) (blocks_text blocks) (last_text last))

-- ---- ranges

told_formed : (number : ℕ) (told : List ToldLine) (rest : List Says) → AllByRecursion IsSays (told_lines number told rest) → AllByRecursion IsTold told
    × AllByRecursion IsSays rest
told_formed number [] rest all = (tt, all)
told_formed number (t ∷ told) rest all = let more = told_formed number told rest all.1 in ((all.0.1, more.0), more.1)

blocks_formed : (blocks : List Block) (last : Option Last) → AllByRecursion IsSays (report_lines blocks last) → AreBlocks blocks
blocks_formed [] last all = tt
blocks_formed (b ∷ blocks) last all =
    let split = told_formed b.number b.told (results b.number b.result ∷ report_lines blocks last) all in
    (record { number = split.1.0.0; told = split.0; result = split.1.0.1 }, blocks_formed blocks last split.1.1)

told_says : (number : ℕ) (told : List ToldLine) (rest : List Says) → number < 2 ^ 32 → AllByRecursion IsTold told → AllByRecursion IsSays rest
    → AllByRecursion IsSays (told_lines number told rest)
told_says number [] rest small all more = more
told_says number (t ∷ told) rest small all more = ((small, all.0), told_says number told rest small all.1 more)

last_says : (last : Option Last) → IsLast last → AllByRecursion IsSays (last_lines last)
last_says None is = tt
last_says (Some last) is = (is, tt)

last_formed : (blocks : List Block) (last : Option Last) → AllByRecursion IsSays (report_lines blocks last) → IsLast last
last_formed [] None all = tt
last_formed [] (Some last) all = all.0
last_formed (b ∷ blocks) last all = last_formed blocks last (told_formed b.number b.told (results b.number b.result ∷ report_lines blocks last) all).1.1

blocks_say : (blocks : List Block) (last : Option Last) → IsLast last → AreBlocks blocks → AllByRecursion IsSays (report_lines blocks last)
blocks_say [] last is all = last_says last is
blocks_say (b ∷ blocks) last is all = told_says b.number b.told _ all.0.number all.0.told ((all.0.number, all.0.result), blocks_say blocks last is all.1)

-- ---- what is read

no_formless : (xs : List (Option Says)) (ss : List Says) → xs ++ None ∷ [] ≡ map Some ss → ⊥
no_formless [] [] is = cc
no_formless [] (s ∷ ss) is = cc
no_formless (x ∷ xs) [] is = cc
no_formless (x ∷ xs) (s ∷ ss) is = no_formless xs ss (let e : xs ++ None ∷ [] ≡ map Some ss = cc in e)

module _ (read : List ℕ → Option Says) (reads : ReadsLines read) where
  all_read : (lines : List (List ℕ)) (ss : List Says) → map read lines ≡ map Some ss → (flat_map says_text ss ≡ joined lines) × AllByRecursion IsSays ss
  all_read [] [] is = (refl, tt)
  all_read [] (s ∷ ss) is = absurd (cc)
  all_read (l ∷ lines) [] is = absurd (cc)
  all_read (l ∷ lines) (s ∷ ss) is =
      let first : read l ≡ Some s = cc in
      let rest : map read lines ≡ map Some ss = cc in
      let one = reads.sound l s first in
      let more = all_read lines ss rest in
      (ap (λ (x : List ℕ). x ++ flat_map says_text ss) one.0 ∙ ap (λ (x : List ℕ). (l ++ 10 ∷ []) ++ x) more.0, (one.1, more.1))

  -- lines that are the same except for contents that don't count
  record Found (text : List ℕ) (ss : List Says) : Type 0 where
    found : List Says
    is : lines_read read text ≡ map Some found
    same : map bare found ≡ map bare ss

  found_first : (s : Says) (ss : List Says) (line rest : List ℕ) → has_byte 10 line ≡ false → ReadAs (read line) s → Found rest ss
      → Found (line ++ 10 ∷ rest) (s ∷ ss)
  found_first s ss line rest one r f = record {
    found = r.found ∷ f.found;
    is = ap (λ (c : Cut). map read c.lines ++ formless c.rest) (cut-line line rest one) ∙ ap (λ (x : Option Says). x ∷ lines_read read rest) r.is
        ∙ ap (λ (xs : List (Option Says)). Some r.found ∷ xs) f.is;
    same = ap (λ (x : Says). x ∷ map bare f.found) r.same ∙ ap (λ (xs : List Says). bare s ∷ xs) f.same;
  }

  nothing_read : lines_read read [] ≡ []
  unfolding cut
  nothing_read = refl

  all_found : (ss : List Says) → AllByRecursion IsSays ss → Found (flat_map says_text ss) ss
  all_found [] all = record { found = []; is = nothing_read; same = refl }
  all_found (s ∷ ss) all =
      let l : IsLine s = reads.lines s all.0 in
      let rest : List ℕ = flat_map says_text ss in
      let text : says_text s ++ rest ≡ l.line ++ 10 ∷ rest = ap (λ (x : List ℕ). x ++ rest) l.is ∙ append_assoc l.line (10 ∷ []) rest in
      subst (λ (x : List ℕ). Found x (s ∷ ss)) (sym text) (found_first s ss l.line rest l.one (reads.complete l.line s l.is all.0) (all_found ss all.1))

  bare_lines : (ss : List Says) → map (option_map bare) (map Some ss) ≡ map Some (map bare ss)
  bare_lines [] = refl
  bare_lines (s ∷ ss) = ap (λ (xs : List (Option Says)). Some (bare s) ∷ xs) (bare_lines ss)

  sound_by : (stacks : Stacks) (text : List ℕ) (rest : List ℕ) (lines : List (List ℕ)) → text ≡ joined lines ++ rest
      → LinesFit stacks all_shut (map read lines ++ formless rest) → Fits stacks text
  sound_by stacks text [] lines is f =
      let both = all_read lines (report_lines f.blocks f.last) (sym (append-nil (map read lines)) ∙ f.are) in
      record {
        blocks = f.blocks;
        last = f.last;
        printed = is ∙ append-nil (joined lines) ∙ sym both.0 ∙ report_text f.blocks f.last;
        formed = blocks_formed f.blocks f.last both.1;
        ended = last_formed f.blocks f.last both.1;
        places = f.places;
        fits = f.fits;
      }
  sound_by stacks text (b ∷ rest) lines is f = absurd (no_formless (map read lines) (report_lines f.blocks f.last) f.are)

  complete_by : (stacks : Stacks) (text : List ℕ) → Fits stacks text → differs stacks (lines_read read text) ≡ None
  complete_by stacks text f =
      let ss : List Says = report_lines f.blocks f.last in
      let found : Found (flat_map says_text ss) ss = all_found ss (blocks_say f.blocks f.last f.ended f.formed) in
      let fit : LinesFit stacks all_shut (map Some ss) = record { blocks = f.blocks; last = f.last; are = refl; places = f.places; fits = f.fits } in
      ap (λ (x : List ℕ). differs stacks (lines_read read x)) (f.printed ∙ sym (report_text f.blocks f.last)) ∙ ap (differs stacks) found.is
      ∙ sym (differs-bare stacks (map Some found.found)) ∙ ap (differs stacks) (bare_lines found.found ∙ ap (map Some) found.same ∙ sym (bare_lines ss))
      ∙ differs-bare stacks (map Some ss) ∙ differs_exactly.complete stacks (map Some ss) fit

pub readers_audit : ReadersAudit
readers_audit read reads = record {
  sound = λ stacks text is. sound_by read reads stacks text (cut text).rest (cut text).lines (cut_joins text)
      (differs_exactly.sound stacks (lines_read read text) is);
  complete = λ stacks text f. complete_by read reads stacks text f;
}
