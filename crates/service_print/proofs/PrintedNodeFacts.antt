-- The nodes of a list, printed one after another.
use Rattle.std.proofs.Common.{◌≡◌, ◌≤◌, ℕ, ◌+◌, List, [], ◌∷◌, ◌++◌, length, refl, sym, ap, ◌∙◌, append_assoc, append-nil, arith, length-append}
use Rattle.std.proofs.lemmas.List.{set_at}
use Rattle.std.proofs.Math.ListN.{set}
use Rattle.control_words.specs.declared.nodes.Rule.{Rule}
use Rattle.control_words.specs.Stack.{Stack, none, line, sub, depth}
use Rattle.service_load.specs.declared.rule_type.RuleType.{RuleType}
use Rattle.service_print.specs.declared.file.File.{File}
use Rattle.service_print.specs.Tokens.{ended, text_of}
use Rattle.service_print.specs.Printed.{rule_line, substack_line, numbered, subs_in, list_lines, substack_file, substack_files}

pub length-substack_files : (service : List ℕ) (type : RuleType) (number : ℕ) (stack : Stack)
    → length (substack_files service type number stack) ≡ subs_in stack
unfolding substack_files
length-substack_files service type number none = refl
length-substack_files service type number (line rule rest) = length-substack_files service type number rest
length-substack_files service type number (sub inner rest) =
    omega (arith, length-append (substack_files service type (number + 1) inner) (substack_files service type (number + 1 + subs_in inner) rest), length-substack_files service type (number + 1) inner, length-substack_files service type (number + 1 + subs_in inner) rest)

-- these nodes are left of a list whose text and files were begun
pub record IsAdding (service : List ℕ) (type : RuleType) (all : Stack) (old_text : List ℕ) (old_files : List File) (rest : Stack) (text : List ℕ) (files : List File) : Type 0 where
  pub texts : text ++ text_of (list_lines service type (length files) rest) ≡ old_text ++ text_of (list_lines service type (length old_files) all)
  pub filed : files ++ substack_files service type (length files) rest ≡ old_files ++ substack_files service type (length old_files) all
  pub shallow : depth rest ≤ depth all

pub adding_start : (service : List ℕ) (type : RuleType) (all : Stack) (text : List ℕ) (files : List File) → IsAdding service type all text files all text files
adding_start service type all text files = record { texts = refl; filed = refl; shallow = omega arith }

pub adding_line : (service : List ℕ) (type : RuleType) (all : Stack) (old_text : List ℕ) (old_files : List File) (here rest : Stack) (rule : Rule) (text new : List ℕ) (files : List File)
    → IsAdding service type all old_text old_files here text files → here ≡ line rule rest → new ≡ text ++ ended (rule_line type rule)
    → IsAdding service type all old_text old_files rest new files
unfolding list_lines substack_files
adding_line service type all old_text old_files here rest rule text new files was is added =
    let texts = rw is at was.texts in
    let filed = rw is at was.filed in
    record {
      texts = rw added (append_assoc text (ended (rule_line type rule)) (text_of (list_lines service type (length files) rest)) ∙ texts);
      filed = filed;
      shallow = omega (arith, ap depth is, was.shallow);
    }

-- a file that was added before those inside it
placed : (files inner : List File) (empty file : File) (number : ℕ) → number ≡ length files
    → set ((files ++ empty ∷ []) ++ inner) number file ≡ files ++ file ∷ inner
placed files inner empty file number is = ap (λ (fs : List File). set fs number file) (append_assoc files (empty ∷ []) inner) ∙ set_at files empty inner file number (sym is)

-- the file of a substack, made of its parts
whole : (service : List ℕ) (type : RuleType) (inner : Stack) (inner_text : List ℕ) (first number next_one : ℕ) (file : File) → number ≡ first
    → next_one ≡ first + 1 → inner_text ≡ text_of (list_lines service type next_one inner)
    → file ≡ record { name = numbered service number; text = inner_text } → file ≡ substack_file service type first inner
whole service type inner inner_text first number next_one file counted next inside is = is ∙ rw (counted, inside, next) refl

pub put_files : (service : List ℕ) (type : RuleType) (inner : Stack) (inner_text : List ℕ) (files begun filled put : List File) (number : ℕ) (empty file : File)
    → number ≡ length files → begun ≡ files ++ empty ∷ [] → inner_text ≡ text_of (list_lines service type (length begun) inner) → filled ≡ begun ++ substack_files service type (length begun) inner
    → file ≡ record { name = numbered service number; text = inner_text } → put ≡ set filled number file
    → put ≡ files ++ substack_file service type (length files) inner ∷ substack_files service type (length files + 1) inner
put_files service type inner inner_text files begun filled put number empty file counted pushed inside filled_is file_is put_is =
    let next : length begun ≡ length files + 1 = omega (arith, ap length pushed, length-append files (empty ∷ [])) in
    let is = whole service type inner inner_text (length files) number (length begun) file counted next inside file_is in
    put_is
    ∙ ap (λ (fs : List File). set fs number file) (filled_is ∙ ap (λ (b : List File). b ++ substack_files service type (length begun) inner) pushed)
    ∙ placed files (substack_files service type (length begun) inner) empty file number counted
    ∙ ap (λ (f : File). files ++ f ∷ substack_files service type (length begun) inner) is
    ∙ ap (λ (n : ℕ). files ++ substack_file service type (length files) inner ∷ substack_files service type n inner) next

pub adding_sub : (service : List ℕ) (type : RuleType) (all : Stack) (old_text : List ℕ) (old_files : List File) (here inner rest : Stack) (text new : List ℕ) (files put : List File) (number : ℕ)
    → IsAdding service type all old_text old_files here text files → here ≡ sub inner rest → number ≡ length files
    → new ≡ text ++ ended (substack_line type (numbered service number))
    → put ≡ files ++ substack_file service type (length files) inner ∷ substack_files service type (length files + 1) inner
    → IsAdding service type all old_text old_files rest new put
unfolding list_lines substack_files
adding_sub service type all old_text old_files here inner rest text new files put number was is counted added put_is =
    let texts = rw is at was.texts in
    let filed = rw is at was.filed in
    let inside = substack_file service type (length files) inner ∷ substack_files service type (length files + 1) inner in
    let put_length : length put ≡ length files + 1 + subs_in inner =
    omega (arith, ap length put_is, length-append files inside, length-substack_files service type (length files + 1) inner)
    in
    record {
      texts =
          ap (λ (n : ℕ). new ++ text_of (list_lines service type n rest)) put_length
          ∙ ap (λ (t : List ℕ). t ++ text_of (list_lines service type (length files + 1 + subs_in inner) rest)) (added ∙ ap (λ (n : ℕ). text ++ ended (substack_line type (numbered service n))) counted)
          ∙ append_assoc text (ended (substack_line type (numbered service (length files)))) (text_of (list_lines service type (length files + 1 + subs_in inner) rest))
          ∙ texts;
      filed =
          ap (λ (n : ℕ). put ++ substack_files service type n rest) put_length
          ∙ ap (λ (fs : List File). fs ++ substack_files service type (length files + 1 + subs_in inner) rest) put_is
          ∙ append_assoc files inside (substack_files service type (length files + 1 + subs_in inner) rest)
          ∙ filed;
      shallow = omega (arith, ap depth is, was.shallow);
    }

pub adding_end : (service : List ℕ) (type : RuleType) (all : Stack) (old_text : List ℕ) (old_files : List File) (here : Stack) (text : List ℕ) (files : List File)
    → IsAdding service type all old_text old_files here text files → here ≡ none
    → (text ≡ old_text ++ text_of (list_lines service type (length old_files) all)) × (files ≡ old_files ++ substack_files service type (length old_files) all)
unfolding list_lines substack_files
adding_end service type all old_text old_files here text files was is =
    let texts = rw is at was.texts in
    let filed = rw is at was.filed in
    (sym (append-nil text) ∙ texts, sym (append-nil files) ∙ filed)
