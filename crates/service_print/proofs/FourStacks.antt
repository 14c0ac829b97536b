-- The four stacks, printed one after another.
use Rattle.std.proofs.Common.{◌≡◌, ℕ, ◌+◌, List, [], ◌∷◌, ◌++◌, length, refl, sym, ap, ◌∙◌, append_assoc, append-nil, arith, length-append, ◌<◌, ◌≤◌, drop, drop_of_length-le, get_or, subst}
use Rattle.std.proofs.Math.ListN.{set}
use Rattle.std.proofs.lemmas.List.{drop_more}
use Rattle.control_words.specs.Stack.{Stack}
use Rattle.service_load.specs.declared.rule_type.RuleType.{RuleType}
use Rattle.service_load.specs.RuleType.{all_types}
use Rattle.service_print.specs.declared.file.File.{File}
use Rattle.service_print.specs.Tokens.{ended, text_of}
use Rattle.service_print.specs.Printed.{subs_in, list_lines, substack_files, all_lines, all_substack_files, service_text, printed}
use Rattle.service_print.specs.Filling.{empty_file}
use Rattle.service_print.proofs.PrintedNodeFacts.{length-substack_files}

pub text_of-append : (lines more : List (List ℕ)) → text_of (lines ++ more) ≡ text_of lines ++ text_of more
text_of-append [] more = refl
text_of-append (line ∷ lines) more = ap (λ (t : List ℕ). ended line ++ t) (text_of-append lines more) ∙ sym (append_assoc (ended line) (text_of lines) (text_of more))

-- these types are left; the service's own file is filled last
pub record IsPrinting (stack : RuleType → Stack) (service : List ℕ) (types : List RuleType) (text : List ℕ) (files : List File) : Type 0 where
  pub texts : text ++ text_of (all_lines stack service (length files) types) ≡ service_text stack service
  pub filed : files ++ all_substack_files stack service (length files) types ≡ empty_file ∷ all_substack_files stack service 1 all_types

pub printing_start : (stack : RuleType → Stack) (service text : List ℕ) (none files : List File) (empty : File) → text ≡ [] → none ≡ []
    → empty ≡ empty_file → files ≡ none ++ empty ∷ [] → IsPrinting stack service all_types text files
printing_start stack service text none files empty text_is none_is empty_is files_is = rw (text_is, files_is, none_is, empty_is) (record { texts = refl; filed = refl })

pub printing_step : (stack : RuleType → Stack) (service : List ℕ) (type : RuleType) (types : List RuleType) (text new : List ℕ) (files more : List File)
    → IsPrinting stack service (type ∷ types) text files
    → new ≡ text ++ text_of (list_lines service type (length files) (stack type)) → more ≡ files ++ substack_files service type (length files) (stack type) → IsPrinting stack service types new more
printing_step stack service type types text new files more was added filed =
    let number : length more ≡ length files + subs_in (stack type) = omega (arith, ap length filed, length-append files (substack_files service type (length files) (stack type)), length-substack_files service type (length files) (stack type)) in
    let lines = list_lines service type (length files) (stack type) in
    let later = all_lines stack service (length files + subs_in (stack type)) types in
    let inside = substack_files service type (length files) (stack type) in
    let last = all_substack_files stack service (length files + subs_in (stack type)) types in
    record {
      texts =
          ap (λ (n : ℕ). new ++ text_of (all_lines stack service n types)) number
          ∙ ap (λ (t : List ℕ). t ++ text_of later) added
          ∙ append_assoc text (text_of lines) (text_of later)
          ∙ ap (λ (t : List ℕ). text ++ t) (sym (text_of-append lines later))
          ∙ was.texts;
      filed =
          ap (λ (n : ℕ). more ++ all_substack_files stack service n types) number
          ∙ ap (λ (fs : List File). fs ++ last) filed
          ∙ append_assoc files inside last
          ∙ was.filed;
    }

-- the next type
pub printing_next : (stack : RuleType → Stack) (service : List ℕ) (i : ℕ) (d : RuleType) (text new : List ℕ) (files more : List File)
    → i < length all_types → IsPrinting stack service (drop i all_types) text files
    → new ≡ text ++ text_of (list_lines service (get_or all_types i d) (length files) (stack (get_or all_types i d)))
    → more ≡ files ++ substack_files service (get_or all_types i d) (length files) (stack (get_or all_types i d))
    → IsPrinting stack service (drop (i + 1) all_types) new more
printing_next stack service i d text new files more within was added filed =
    let here = subst (λ (types : List RuleType). IsPrinting stack service types text files) (drop_more all_types i d within) was in
    printing_step stack service (get_or all_types i d) (drop (i + 1) all_types) text new files more here added filed

pub printing_end : (stack : RuleType → Stack) (service text name : List ℕ) (files : List File) → IsPrinting stack service [] text files
    → name ≡ service → set files 0 (record { name = name; text = text }) ≡ printed stack service
unfolding printed
printing_end stack service text name files was named =
    let texts = sym (append-nil text) ∙ was.texts in
    let filed = sym (append-nil files) ∙ was.filed in
    rw (filed, texts, named) refl

-- all types are printed
pub printing_done : (stack : RuleType → Stack) (service : List ℕ) (i : ℕ) (text name : List ℕ) (files : List File) → length all_types ≤ i
    → IsPrinting stack service (drop i all_types) text files → name ≡ service
    → set files 0 (record { name = name; text = text }) ≡ printed stack service
printing_done stack service i text name files past was named =
    printing_end stack service text name files
    (subst (λ (types : List RuleType). IsPrinting stack service types text files) (drop_of_length-le all_types past) was) named
