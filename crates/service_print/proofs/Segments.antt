-- The four stacks in one file: each type has its own lines there.
use Rattle.std.proofs.Common.{◌≡◌, ℕ, ◌+◌, ◌≤◌, Bool, true, false, not, eqb, nat_le, List, [], ◌∷◌, ◌++◌, length, Option, Some, refl, sym, ap, ◌∙◌, subst, arith, append_assoc, append-nil, add-zero}
use Rattle.std.specs.List.{list_all}
use Rattle.std.proofs.lemmas.Bool.{and_parts, and_from, not-true, leb-true, or_from}
use Rattle.std.proofs.lemmas.List.Folds.{list_all-append}
use Rattle.pam_base.specs.Bytes.{has_byte}
use Rattle.pam_base.specs.Lines.{lines_of, lines_of-line}
use Rattle.control_words.specs.Stack.{Stack, none, line, sub, joined}
use Rattle.service_load.specs.declared.rule_type.RuleType.{RuleType}
use Rattle.service_load.specs.declared.rule_type.RuleType.TheVariants.{Auth, Account, Password, Session}
use Rattle.service_load.specs.Order.{Item}
use Rattle.service_load.specs.RuleType.{same_type, all_types}
use Rattle.service_print.specs.declared.file.File.{File}
use Rattle.service_print.specs.Tokens.{text_of}
use Rattle.service_print.specs.Printed.{subs_in, substack_file, substack_files, all_lines, all_substack_files}
use Rattle.service_print.specs.Printed.{list_lines}
use Rattle.service_print.specs.Reload.{is_short}
use Rattle.service_print.proofs.Spelled.{is_inner}
use Rattle.service_print.proofs.Lexed.{Fields, tokens_in, line_text, lines_text, closed_line, ended-closed, closed_all, inner_passes, all_sound_inner, is_sound_line, is_short_line, OneReading}
use Rattle.service_print.proofs.Meant.{Meaning, is_meant, meant_nodes, meant_items}
use Rattle.service_print.proofs.Understood.{AllWritable, IsServiceName, in_the_directory}
use Rattle.service_print.proofs.Stacked.{fields_from, meanings_from, AreLines, stack_lines, lines-append, stack_meant, meanings_nodes, meanings_items, lines_sound, lines_text_is, IsFile, is_file}
use Rattle.service_print.proofs.PrintedStackFacts.{Stand}
use Rattle.service_print.proofs.Found.{AllThere, there-parts}

-- ---- short files have short lines

no_newline_byte : (text : List ℕ) → list_all is_inner text ≡ true → has_byte 10 text ≡ false
no_newline_byte [] all = refl
no_newline_byte (b ∷ bs) all =
    let parts = and_parts (is_inner b) (list_all is_inner bs) all in
    or_from (eqb b 10) (has_byte 10 bs) (not-true (eqb b 10) parts.0) (no_newline_byte bs parts.1)

abbrev is_short_text : List ℕ → Bool
is_short_text text = nat_le (length text) 4096

lines_short : (fs : List Fields) → list_all is_sound_line fs ≡ true → list_all is_short_text (lines_of (lines_text fs)) ≡ true
    → list_all is_short_line fs ≡ true
lines_short [] sound short = refl
lines_short (f ∷ fs) sound short =
    let parts = and_parts (is_sound_line f) (list_all is_sound_line fs) sound in
    let inner : list_all is_inner (closed_line f) ≡ true = closed_all is_inner inner_passes f (all_sound_inner (tokens_in f) parts.0) in
    let cut : lines_of (lines_text (f ∷ fs)) ≡ closed_line f ∷ lines_of (lines_text fs) =
    ap (λ (t : List ℕ). lines_of (t ++ lines_text fs)) (ended-closed (line_text f))
    ∙ ap lines_of (append_assoc (closed_line f) (10 ∷ []) (lines_text fs))
    ∙ lines_of-line (closed_line f) (lines_text fs) (no_newline_byte (closed_line f) inner)
    in
    let shorts = and_parts (is_short_text (closed_line f)) (list_all is_short_text (lines_of (lines_text fs))) (ap (list_all is_short_text) (sym cut) ∙ short) in
    and_from (is_short_line f) (list_all is_short_line fs) shorts.0 (lines_short fs parts.1 shorts.1)

-- a file of such lines, if it exists and is short
pub short_file : OneReading → (texts : List ℕ → Option (List ℕ)) (file : File) (fs : List Fields) (ts : List (List ℕ)) (ms : List Meaning)
    → AreLines fs ts ms → list_all is_meant ms ≡ true → file.text ≡ text_of ts
    → is_short file ≡ true → texts (in_the_directory file.name) ≡ Some file.text → IsFile texts (in_the_directory file.name) ms
short_file only texts file fs ts ms are meant text short there =
    let parts = and_parts (nat_le (length file.text) 65536) (list_all is_short_text (lines_of file.text)) short in
    let same : file.text ≡ lines_text fs = text ∙ sym (lines_text_is fs ts ms are) in
    let lines : list_all is_short_text (lines_of (lines_text fs)) ≡ true = ap (λ (t : List ℕ). list_all is_short_text (lines_of t)) (sym same) ∙ parts.1 in
    is_file only texts (in_the_directory file.name) fs ts ms are meant (lines_short fs (lines_sound fs ts ms are) lines) (subst (λ (t : List ℕ). length t ≤ 65536) text (leb-true (length file.text) 65536 parts.0)) (there ∙ ap Some text)

-- ---- the files of the substacks

pub stack_files_stand : OneReading → (texts : List ℕ → Option (List ℕ)) (type : RuleType) (service : List ℕ) (number : ℕ) (stack : Stack)
    → IsServiceName service → AllWritable stack → number + subs_in stack ≤ 256
    → AllThere texts (substack_files service type number stack) → list_all is_short (substack_files service type number stack) ≡ true → Stand texts type service number stack
unfolding substack_files
stack_files_stand only texts type service number none is writable few there short = tt
stack_files_stand only texts type service number (line rule rest) is writable few there short = stack_files_stand only texts type service number rest is writable.1 few there short
stack_files_stand only texts type service number (sub inner rest) is writable few there short =
    let within = substack_files service type (number + 1) inner in
    let the_rest = substack_files service type (number + 1 + subs_in inner) rest in
    let theres = there-parts texts within the_rest there.1 in
    let first = and_parts (is_short (substack_file service type number inner)) (list_all is_short (within ++ the_rest)) short in
    let shorts = and_parts (list_all is_short within) (list_all is_short the_rest) (sym (list_all-append is_short within the_rest) ∙ first.1) in (
      short_file only texts (substack_file service type number inner) (fields_from type service (number + 1) inner) (list_lines service type (number + 1) inner) (meanings_from type service (number + 1) inner)
          (stack_lines type service (number + 1) inner is writable.0 (omega arith)) (stack_meant type service (number + 1) inner) refl first.0 there.0,
      stack_files_stand only texts type service (number + 1) inner is writable.0 (omega arith) theres.0 shorts.0,
      stack_files_stand only texts type service (number + 1 + subs_in inner) rest is writable.1 (omega arith) theres.1 shorts.1,
    )

-- ---- the lines of several stacks

module _ (stack : RuleType → Stack) (service : List ℕ) where
  abbrev pub all_fields : ℕ → List RuleType → List Fields
  all_fields number [] = []
  all_fields number (type ∷ types) = fields_from type service number (stack type) ++ all_fields (number + subs_in (stack type)) types

  abbrev pub all_meanings : ℕ → List RuleType → List Meaning
  all_meanings number [] = []
  all_meanings number (type ∷ types) = meanings_from type service number (stack type) ++ all_meanings (number + subs_in (stack type)) types

  -- how many substacks they have
  abbrev pub all_subs : List RuleType → ℕ
  all_subs [] = 0
  all_subs (type ∷ types) = subs_in (stack type) + all_subs types

  pub service_lines : (number : ℕ) (types : List RuleType) → IsServiceName service → ((type : RuleType) → AllWritable (stack type))
      → number + all_subs types ≤ 256
      → AreLines (all_fields number types) (all_lines stack service number types) (all_meanings number types)
  service_lines number [] is writable few = tt
  service_lines number (type ∷ types) is writable few =
      lines-append (fields_from type service number (stack type)) (all_fields (number + subs_in (stack type)) types) (list_lines service type number (stack type)) (all_lines stack service (number + subs_in (stack type)) types)
      (meanings_from type service number (stack type)) (all_meanings (number + subs_in (stack type)) types)
      (stack_lines type service number (stack type) is (writable type) (omega arith)) (service_lines (number + subs_in (stack type)) types is writable (omega arith))

  pub service_meant : (number : ℕ) (types : List RuleType) → list_all is_meant (all_meanings number types) ≡ true
  service_meant number [] = refl
  service_meant number (type ∷ types) =
      list_all-append is_meant (meanings_from type service number (stack type)) (all_meanings (number + subs_in (stack type)) types)
      ∙ and_from (list_all is_meant (meanings_from type service number (stack type))) (list_all is_meant (all_meanings (number + subs_in (stack type)) types)) (stack_meant type service number (stack type)) (service_meant (number + subs_in (stack type)) types)

-- ---- what the lines of other types add

foreign_nodes : (deeper : List ℕ → Stack) (own type : RuleType) (service : List ℕ) (number : ℕ) (stack : Stack) → same_type own type ≡ false
    → meanings_nodes deeper own (meanings_from type service number stack) ≡ none
foreign_nodes deeper own type service number none other = refl
foreign_nodes deeper own type service number (line rule rest) other = rw other (foreign_nodes deeper own type service number rest other)
foreign_nodes deeper own type service number (sub inner rest) other = rw other (foreign_nodes deeper own type service (number + 1 + subs_in inner) rest other)

foreign_items : (texts : List ℕ → Option (List ℕ)) (levels : ℕ) (own type : RuleType) (name : List ℕ) (first : ℕ) (service : List ℕ) (number : ℕ) (stack : Stack)
    → same_type own type ≡ false
    → meanings_items texts levels own name first (meanings_from type service number stack) ≡ []
foreign_items texts levels own type name first service number none other = refl
foreign_items texts levels own type name first service number (line rule rest) other = rw other (foreign_items texts levels own type name (first + 1) service number rest other)
foreign_items texts levels own type name first service number (sub inner rest) other = rw other (foreign_items texts levels own type name (first + 1) service (number + 1 + subs_in inner) rest other)

pub joined-assoc : (a b c : Stack) → joined (joined a b) c ≡ joined a (joined b c)
joined-assoc none b c = refl
joined-assoc (line rule rest) b c = ap (line rule) (joined-assoc rest b c)
joined-assoc (sub inner rest) b c = ap (sub inner) (joined-assoc rest b c)

pub joined-none : (a : Stack) → joined a none ≡ a
joined-none none = refl
joined-none (line rule rest) = ap (line rule) (joined-none rest)
joined-none (sub inner rest) = ap (sub inner) (joined-none rest)

nodes-append : (deeper : List ℕ → Stack) (type : RuleType) (ms ns : List Meaning)
    → meanings_nodes deeper type (ms ++ ns) ≡ joined (meanings_nodes deeper type ms) (meanings_nodes deeper type ns)
nodes-append deeper type [] ns = refl
nodes-append deeper type (m ∷ ms) ns = ap (joined (meant_nodes deeper type m)) (nodes-append deeper type ms ns) ∙ sym (joined-assoc (meant_nodes deeper type m) (meanings_nodes deeper type ms) (meanings_nodes deeper type ns))

items-append : (texts : List ℕ → Option (List ℕ)) (levels : ℕ) (type : RuleType) (name : List ℕ) (first : ℕ) (ms ns : List Meaning)
    → meanings_items texts levels type name first (ms ++ ns) ≡ meanings_items texts levels type name first ms ++ meanings_items texts levels type name (first + length ms) ns
items-append texts levels type name first [] ns = ap (λ n. meanings_items texts levels type name n ns) (sym (add-zero first))
items-append texts levels type name first (m ∷ ms) ns =
    let the_rest : first + 1 + length ms ≡ first + length (m ∷ ms) = omega arith in
    ap (λ (is : List Item). meant_items texts levels type name first m ++ is) (items-append texts levels type name (first + 1) ms ns ∙ ap (λ n. meanings_items texts levels type name (first + 1) ms ++ meanings_items texts levels type name n ns) the_rest)
    ∙ sym (append_assoc (meant_items texts levels type name first m) (meanings_items texts levels type name (first + 1) ms) (meanings_items texts levels type name (first + length (m ∷ ms)) ns))

-- ---- the part of a type

module _ (stack : RuleType → Stack) (service : List ℕ) where
  -- what a load meets in the lines of a type in the file, from some line on
  pub record SameItems (texts : List ℕ → Option (List ℕ)) (levels : ℕ) (own : RuleType) (name : List ℕ) (items : List Item) (number : ℕ) : Type 0 where
    pub first : ℕ
    pub same : items ≡ meanings_items texts levels own name first (meanings_from own service number (stack own))

  -- among these stacks, of which the first substack has this number, a type has its own part
  pub record IsPart (own : RuleType) (number : ℕ) (types : List RuleType) : Type 0 where
    pub start : ℕ
    pub nodes : (deeper : List ℕ → Stack)
        → meanings_nodes deeper own (all_meanings stack service number types) ≡ meanings_nodes deeper own (meanings_from own service start (stack own))
    pub items : (texts : List ℕ → Option (List ℕ)) (levels : ℕ) (name : List ℕ) (first : ℕ)
        → SameItems texts levels own name (meanings_items texts levels own name first (all_meanings stack service number types)) start
    pub within : start + subs_in (stack own) ≤ number + all_subs stack service types
    pub there : (texts : List ℕ → Option (List ℕ)) → AllThere texts (all_substack_files stack service number types)
        → AllThere texts (substack_files service own start (stack own))
    pub short : list_all is_short (all_substack_files stack service number types) ≡ true
        → list_all is_short (substack_files service own start (stack own)) ≡ true

  -- these are all the other types
  abbrev pub all_other : RuleType → List RuleType → Bool
  all_other own types = list_all (λ type. not (same_type own type)) types

  others_nodes : (deeper : List ℕ → Stack) (own : RuleType) (number : ℕ) (types : List RuleType) → all_other own types ≡ true
      → meanings_nodes deeper own (all_meanings stack service number types) ≡ none
  others_nodes deeper own number [] other = refl
  others_nodes deeper own number (type ∷ types) other =
      let parts = and_parts (not (same_type own type)) (all_other own types) other in
      nodes-append deeper own (meanings_from type service number (stack type)) (all_meanings stack service (number + subs_in (stack type)) types)
      ∙ rw (foreign_nodes deeper own type service number (stack type) (not-true (same_type own type) parts.0)) (others_nodes deeper own (number + subs_in (stack type)) types parts.1)

  others_items : (texts : List ℕ → Option (List ℕ)) (levels : ℕ) (own : RuleType) (name : List ℕ) (first number : ℕ) (types : List RuleType)
      → all_other own types ≡ true → meanings_items texts levels own name first (all_meanings stack service number types) ≡ []
  others_items texts levels own name first number [] other = refl
  others_items texts levels own name first number (type ∷ types) other =
      let parts = and_parts (not (same_type own type)) (all_other own types) other in
      let here = meanings_from type service number (stack type) in
      items-append texts levels own name first here (all_meanings stack service (number + subs_in (stack type)) types)
      ∙ rw (foreign_items texts levels own type name first service number (stack type) (not-true (same_type own type) parts.0)) (others_items texts levels own name (first + length here) (number + subs_in (stack type)) types parts.1)

  part_here : (own : RuleType) (number : ℕ) (types : List RuleType) → all_other own types ≡ true → IsPart own number (own ∷ types)
  part_here own number types other =
      let here = meanings_from own service number (stack own) in
      let later = all_meanings stack service (number + subs_in (stack own)) types in
      let files = substack_files service own number (stack own) in
      let more = all_substack_files stack service (number + subs_in (stack own)) types in
      record {
        start = number;
        nodes = λ deeper. nodes-append deeper own here later ∙ ap (joined (meanings_nodes deeper own here)) (others_nodes deeper own (number + subs_in (stack own)) types other) ∙ joined-none (meanings_nodes deeper own here);
        items = λ texts levels name first. record {
          first = first;
          same = items-append texts levels own name first here later
              ∙ ap (λ (is : List Item). meanings_items texts levels own name first here ++ is) (others_items texts levels own name (first + length here) (number + subs_in (stack own)) types other)
              ∙ append-nil (meanings_items texts levels own name first here);
        };
        within = omega arith;
        there = λ texts all. (there-parts texts files more all).0;
        short = λ all. (and_parts (list_all is_short files) (list_all is_short more) (sym (list_all-append is_short files more) ∙ all)).0;
      }

  part_later : (own type : RuleType) (number : ℕ) (types : List RuleType) → same_type own type ≡ false
      → IsPart own (number + subs_in (stack type)) types → IsPart own number (type ∷ types)
  part_later own type number types other part =
      let here = meanings_from type service number (stack type) in
      let later = all_meanings stack service (number + subs_in (stack type)) types in
      let files = substack_files service type number (stack type) in
      let more = all_substack_files stack service (number + subs_in (stack type)) types in
      record {
        start = part.start;
        nodes = λ deeper. nodes-append deeper own here later ∙ ap (λ (s : Stack). joined s (meanings_nodes deeper own later)) (foreign_nodes deeper own type service number (stack type) other) ∙ part.nodes deeper;
        items = λ texts levels name first.
            let the_rest = part.items texts levels name (first + length here) in
            record {
              first = the_rest.first;
              same = items-append texts levels own name first here later
                  ∙ ap (λ (is : List Item). is ++ meanings_items texts levels own name (first + length here) later) (foreign_items texts levels own type name first service number (stack type) other)
                  ∙ the_rest.same;
            };
        within = omega (arith, part.within);
        there = λ texts all. part.there texts (there-parts texts files more all).1;
        short = λ all. part.short (and_parts (list_all is_short files) (list_all is_short more) (sym (list_all-append is_short files more) ∙ all)).1;
      }

  pub part_of : (own : RuleType) → IsPart own 1 all_types
  part_of Auth = part_here Auth 1 (Account ∷ Password ∷ Session ∷ []) refl
  part_of Account = part_later Account Auth 1 (Account ∷ Password ∷ Session ∷ []) refl (part_here Account (1 + subs_in (stack Auth)) (Password ∷ Session ∷ []) refl)
  part_of Password = part_later Password Auth 1 (Account ∷ Password ∷ Session ∷ []) refl (part_later Password Account (1 + subs_in (stack Auth)) (Password ∷ Session ∷ []) refl (part_here Password (1 + subs_in (stack Auth) + subs_in (stack Account)) (Session ∷ []) refl))
  part_of Session =
      part_later Session Auth 1 (Account ∷ Password ∷ Session ∷ []) refl
      (part_later Session Account (1 + subs_in (stack Auth)) (Password ∷ Session ∷ []) refl
      (part_later Session Password (1 + subs_in (stack Auth) + subs_in (stack Account)) (Session ∷ []) refl (part_here Session (1 + subs_in (stack Auth) + subs_in (stack Account) + subs_in (stack Password)) [] refl)))
