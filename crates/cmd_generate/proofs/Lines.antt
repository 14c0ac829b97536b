-- The lines of generated files, each as one rule.
use Rattle.std.proofs.Common.{◌≡◌, ℕ, suc, zero, ◌+◌, ◌-◌, ◌*◌, ◌%◌, ◌<◌, ◌≤◌, ◌^◌, Bool, true, false, List, [], ◌∷◌, ◌++◌, codes, get_or}
use Rattle.std.proofs.Common.{length, map, Some, Ok, refl, sym, ap, ◌∙◌, subst, arith, append_assoc, length-append}
use Rattle.std.specs.Fmt.{decimal}
use Rattle.std.specs.List.{AllByRecursion, list_any}
use Rattle.std.proofs.lemmas.Bool.{leb-true}
use Rattle.std.proofs.lemmas.Fmt.{decimal_by_steps, length-decimal-le}
use Rattle.std.proofs.lemmas.List.Folds.{list_any-append}
use Rattle.std.proofs.lemmas.Nat.{mod_below}
use Rattle.random_config.specs.Generator.{random_number}
use Rattle.random_config.specs.Files.{name_of, substack_line}
use Rattle.random_config.specs.Line.{answer_words, default_words, random_line, line_text, picked, success_words}
use Rattle.service_load.specs.conf_lex.specs.declared.token.Token.{Token}
use Rattle.service_load.specs.conf_lex.specs.Piece.{Piece, bracket, goes_on, newline, plain, single, spelling, units_bytes, units_text, white}
use Rattle.service_load.specs.conf_lex.specs.Reading.{first_piece, pieces_after, pieces_of, run_of, units_after}
use Rattle.service_load.specs.control_words.specs.declared.control.Action.{Action}
use Rattle.service_load.specs.control_words.specs.declared.control.Action.TheVariants as actions
use Rattle.service_load.specs.control_words.specs.Entries.{entries_after, entries_in}
use Rattle.service_load.specs.declared.entry.RuleContent.TheVariants.{Line}
use Rattle.service_load.specs.declared.rule_type.RuleType.TheVariants.{Auth}
use Rattle.service_load.specs.Entry.{entry_of}
use Rattle.cmd_generate.specs.RandomRules.{action_picked, default_actions, random_content, random_rule, substack_content, success_actions}
use Rattle.cmd_generate.proofs.RuleLineFacts.{Ruled, is_feed, is_nul}

-- ---- the words of a line

module _ (P : List ℕ → Action → Type 0) where
  pick_success : P (codes "ok") actions.Ok → P (codes "done") actions.Done → P (codes "ignore") actions.Ignore → P (codes "reset") actions.Reset
      → P (codes "1") (actions.Jump 1) → P (codes "2") (actions.Jump 2) → P (codes "3") (actions.Jump 3) → (n : ℕ)
      → P (picked success_words n) (action_picked success_actions n)
  pick_success ok done ignore reset one two three n = by (n % 8) (mod_below n 8 (omega arith))
    where
      by : (m : ℕ) → m < 8 → P (get_or success_words m []) (get_or success_actions m actions.Bad)
      by zero l = ok
      by (suc zero) l = ok
      by (suc (suc zero)) l = done
      by (suc (suc (suc zero))) l = ignore
      by (suc (suc (suc (suc zero)))) l = reset
      by (suc (suc (suc (suc (suc zero))))) l = one
      by (suc (suc (suc (suc (suc (suc zero)))))) l = two
      by (suc (suc (suc (suc (suc (suc (suc zero))))))) l = three
      by (suc (suc (suc (suc (suc (suc (suc (suc m)))))))) l = absurd (omega (arith, l))

  pick_default : P (codes "ignore") actions.Ignore → P (codes "bad") actions.Bad → P (codes "die") actions.Die → P (codes "reset") actions.Reset
      → (n : ℕ) → P (picked default_words n) (action_picked default_actions n)
  pick_default ignore bad die reset n = by (n % 4) (mod_below n 4 (omega arith))
    where
      by : (m : ℕ) → m < 4 → P (get_or default_words m []) (get_or default_actions m actions.Bad)
      by zero l = ignore
      by (suc zero) l = bad
      by (suc (suc zero)) l = die
      by (suc (suc (suc zero))) l = reset
      by (suc (suc (suc (suc m)))) l = absurd (omega (arith, l))

pick_answer : (P : List ℕ → Type 0) → P (codes "success") → P (codes "auth_err") → P (codes "ignore") → (n : ℕ) → P (picked answer_words n)
pick_answer P success error ignore n = by (n % 4) (mod_below n 4 (omega arith))
  where
    by : (m : ℕ) → m < 4 → P (get_or answer_words m [])
    by zero l = success
    by (suc zero) l = success
    by (suc (suc zero)) l = error
    by (suc (suc (suc zero))) l = ignore
    by (suc (suc (suc (suc m)))) l = absurd (omega (arith, l))

-- what is known of each word
record Word (w : List ℕ) : Type 0 where
  pub short : length w ≤ 8
  pub no_nul : list_any is_nul w ≡ false
  pub no_feed : list_any is_feed w ≡ false

success_word : (n : ℕ) → Word (picked success_words n)
success_word n = pick_success (λ w x. Word w) (record { short = leb-true _ 8 refl; no_nul = refl; no_feed = refl })
    (record { short = leb-true _ 8 refl; no_nul = refl; no_feed = refl }) (record { short = leb-true _ 8 refl; no_nul = refl; no_feed = refl })
    (record { short = leb-true _ 8 refl; no_nul = refl; no_feed = refl }) (record { short = leb-true _ 8 refl; no_nul = refl; no_feed = refl })
    (record { short = leb-true _ 8 refl; no_nul = refl; no_feed = refl }) (record { short = leb-true _ 8 refl; no_nul = refl; no_feed = refl }) n

default_word : (n : ℕ) → Word (picked default_words n)
default_word n = pick_default (λ w x. Word w) (record { short = leb-true _ 8 refl; no_nul = refl; no_feed = refl })
    (record { short = leb-true _ 8 refl; no_nul = refl; no_feed = refl }) (record { short = leb-true _ 8 refl; no_nul = refl; no_feed = refl })
    (record { short = leb-true _ 8 refl; no_nul = refl; no_feed = refl }) n

answer_word : (n : ℕ) → Word (picked answer_words n)
answer_word n = pick_answer Word (record { short = leb-true _ 8 refl; no_nul = refl; no_feed = refl })
    (record { short = leb-true _ 8 refl; no_nul = refl; no_feed = refl }) (record { short = leb-true _ 8 refl; no_nul = refl; no_feed = refl }) n

-- ---- a line up to its bracket's end, and from there on

abbrev inside : List ℕ → List ℕ → List ℕ
inside s d = codes "success=" ++ (s ++ (codes " new_authtok_reqd=ok default=" ++ d))

abbrev head : List ℕ → List ℕ → List Piece
head s d = plain (codes "auth") ∷ white 32 ∷ bracket (map single (inside s d)) ∷ []

abbrev tail_text : List ℕ → List ℕ
tail_text a = codes " pam_debug.so auth=" ++ (a ++ codes "\n")

abbrev tail : List ℕ → List Piece
tail a = white 32 ∷ plain (codes "pam_debug.so") ∷ white 32 ∷ plain (codes "auth=" ++ a) ∷ []

abbrev word : List ℕ → Token
word text = record { bracketed = false; text = text }

-- what follows the type
abbrev others : List ℕ → List ℕ → List ℕ → List Token
others s d a = record { bracketed = true; text = units_text (map single (inside s d)) } ∷ word (codes "pam_debug.so") ∷ word (codes "auth=" ++ a) ∷ []

-- the text of the line up to the bracket's end, and more
abbrev opened : List ℕ → List ℕ → List ℕ → List ℕ
opened s d more = codes "auth [success=" ++ (s ++ (codes " new_authtok_reqd=ok default=" ++ (d ++ 93 ∷ more)))

line_opened : (s d a rest : List ℕ) → line_text s d a ++ rest ≡ opened s d (tail_text a ++ rest)
line_opened s d a rest =
    ap (λ (z : List ℕ). codes "auth [success=" ++ z) (append_assoc s (codes " new_authtok_reqd=ok default=" ++ (d ++ 93 ∷ tail_text a)) rest)
    ∙ ap (λ (z : List ℕ). codes "auth [success=" ++ (s ++ (codes " new_authtok_reqd=ok default=" ++ z))) (append_assoc d (93 ∷ tail_text a) rest)

record Head (s d : List ℕ) (x y : Action) : Type 0 where
  pub reads : (more : List ℕ) → pieces_of (opened s d more) ≡ head s d ++ pieces_of more
  pub says : (n : ℕ) (a : List ℕ) → entry_of true (record { line = n; tokens = word (codes "auth") ∷ others s d a })
      ≡ Ok (record { line = n; rule_type = Some Auth; content = Line (random_rule x y a) })

heads_ok : (m : ℕ) → Head (codes "ok") (picked default_words m) actions.Ok (action_picked default_actions m)
unfolding entry_of entries_in entries_after first_piece pieces_after units_after
heads_ok m = pick_default (λ d y. Head (codes "ok") d actions.Ok y) (record { reads = λ more. refl; says = λ n a. refl })
    (record { reads = λ more. refl; says = λ n a. refl }) (record { reads = λ more. refl; says = λ n a. refl })
    (record { reads = λ more. refl; says = λ n a. refl }) m

heads_done : (m : ℕ) → Head (codes "done") (picked default_words m) actions.Done (action_picked default_actions m)
unfolding entry_of entries_in entries_after first_piece pieces_after units_after
heads_done m = pick_default (λ d y. Head (codes "done") d actions.Done y) (record { reads = λ more. refl; says = λ n a. refl })
    (record { reads = λ more. refl; says = λ n a. refl }) (record { reads = λ more. refl; says = λ n a. refl })
    (record { reads = λ more. refl; says = λ n a. refl }) m

heads_ignore : (m : ℕ) → Head (codes "ignore") (picked default_words m) actions.Ignore (action_picked default_actions m)
unfolding entry_of entries_in entries_after first_piece pieces_after units_after
heads_ignore m = pick_default (λ d y. Head (codes "ignore") d actions.Ignore y) (record { reads = λ more. refl; says = λ n a. refl })
    (record { reads = λ more. refl; says = λ n a. refl }) (record { reads = λ more. refl; says = λ n a. refl })
    (record { reads = λ more. refl; says = λ n a. refl }) m

heads_reset : (m : ℕ) → Head (codes "reset") (picked default_words m) actions.Reset (action_picked default_actions m)
unfolding entry_of entries_in entries_after first_piece pieces_after units_after
heads_reset m = pick_default (λ d y. Head (codes "reset") d actions.Reset y) (record { reads = λ more. refl; says = λ n a. refl })
    (record { reads = λ more. refl; says = λ n a. refl }) (record { reads = λ more. refl; says = λ n a. refl })
    (record { reads = λ more. refl; says = λ n a. refl }) m

heads_1 : (m : ℕ) → Head (codes "1") (picked default_words m) (actions.Jump 1) (action_picked default_actions m)
unfolding entry_of entries_in entries_after first_piece pieces_after units_after
heads_1 m = pick_default (λ d y. Head (codes "1") d (actions.Jump 1) y) (record { reads = λ more. refl; says = λ n a. refl })
    (record { reads = λ more. refl; says = λ n a. refl }) (record { reads = λ more. refl; says = λ n a. refl })
    (record { reads = λ more. refl; says = λ n a. refl }) m

heads_2 : (m : ℕ) → Head (codes "2") (picked default_words m) (actions.Jump 2) (action_picked default_actions m)
unfolding entry_of entries_in entries_after first_piece pieces_after units_after
heads_2 m = pick_default (λ d y. Head (codes "2") d (actions.Jump 2) y) (record { reads = λ more. refl; says = λ n a. refl })
    (record { reads = λ more. refl; says = λ n a. refl }) (record { reads = λ more. refl; says = λ n a. refl })
    (record { reads = λ more. refl; says = λ n a. refl }) m

heads_3 : (m : ℕ) → Head (codes "3") (picked default_words m) (actions.Jump 3) (action_picked default_actions m)
unfolding entry_of entries_in entries_after first_piece pieces_after units_after
heads_3 m = pick_default (λ d y. Head (codes "3") d (actions.Jump 3) y) (record { reads = λ more. refl; says = λ n a. refl })
    (record { reads = λ more. refl; says = λ n a. refl }) (record { reads = λ more. refl; says = λ n a. refl })
    (record { reads = λ more. refl; says = λ n a. refl }) m

head_at : (n m : ℕ) → Head (picked success_words n) (picked default_words m) (action_picked success_actions n) (action_picked default_actions m)
head_at n m = pick_success (λ s x. Head s (picked default_words m) x (action_picked default_actions m)) (heads_ok m) (heads_done m) (heads_ignore m)
    (heads_reset m) (heads_1 m) (heads_2 m) (heads_3 m) n

record Tail (a : List ℕ) : Type 0 where
  pub reads : (rest : List ℕ) → pieces_of (tail_text a ++ rest) ≡ tail a ++ newline ∷ pieces_of rest

tail_at : (n : ℕ) → Tail (picked answer_words n)
unfolding first_piece pieces_after
tail_at n = pick_answer Tail (record { reads = λ rest. refl }) (record { reads = λ rest. refl }) (record { reads = λ rest. refl }) n

-- ---- texts one after another

record Free (p : ℕ → Bool) (text : List ℕ) : Type 0 where
  pub none : list_any p text ≡ false

free : (p : ℕ → Bool) (text : List ℕ) → list_any p text ≡ false → Free p text
free p text e = record { none = e }

none_in : (p : ℕ → Bool) (xs ys : List ℕ) → Free p xs → Free p ys → Free p (xs ++ ys)
none_in p xs ys e f = record { none = list_any-append p xs ys ∙ rw (e.none, f.none) refl }

at_most : (xs ys : List ℕ) (m n : ℕ) → length xs ≤ m → length ys ≤ n → length (xs ++ ys) ≤ m + n
at_most xs ys m n e f = omega (arith, length-append xs ys, e, f)

-- ---- the whole line

singles : (text : List ℕ) → units_bytes (map single text) ≡ text
singles [] = refl
singles (b ∷ bs) = ap (λ (x : List ℕ). b ∷ x) (singles bs)

module _ (s d a : List ℕ) (x y : Action) (of_s : Word s) (of_d : Word d) (of_a : Word a) (h : Head s d x y) (t : Tail a) where
  spelled : spelling (head s d ++ tail a) ≡ codes "auth [" ++ ((inside s d ++ codes "]") ++ (codes " pam_debug.so auth=" ++ (a ++ [])))
  spelled = ap (λ (z : List ℕ). codes "auth [" ++ ((z ++ codes "]") ++ (codes " pam_debug.so auth=" ++ (a ++ [])))) (singles (inside s d))

  no_feed : list_any is_feed (spelling (head s d ++ tail a)) ≡ false
  no_feed =
      let c : (text : List ℕ) → list_any is_feed text ≡ false → Free is_feed text = free is_feed in
      let none : Free is_feed (codes "auth [" ++ ((inside s d ++ codes "]") ++ (codes " pam_debug.so auth=" ++ (a ++ [])))) =
      none_in is_feed (codes "auth [") _ (c (codes "auth [") refl)
      (none_in is_feed (inside s d ++ codes "]") _
      (none_in is_feed (inside s d) _
      (none_in is_feed (codes "success=") _ (c (codes "success=") refl) (none_in is_feed s _ (c s of_s.no_feed)
      (none_in is_feed (codes " new_authtok_reqd=ok default=") _ (c (codes " new_authtok_reqd=ok default=") refl) (c d of_d.no_feed)))) (c (codes "]") refl))
      (none_in is_feed (codes " pam_debug.so auth=") _ (c (codes " pam_debug.so auth=") refl) (none_in is_feed a _ (c a of_a.no_feed) (c [] refl)))) in
      ap (list_any is_feed) spelled ∙ none.none

  no_nul : list_any is_nul (line_text s d a) ≡ false
  no_nul =
      let c : (text : List ℕ) → list_any is_nul text ≡ false → Free is_nul text = free is_nul in
      let none : Free is_nul (line_text s d a) =
      none_in is_nul (codes "auth [success=") _ (c (codes "auth [success=") refl) (none_in is_nul s _ (c s of_s.no_nul)
      (none_in is_nul (codes " new_authtok_reqd=ok default=") _ (c (codes " new_authtok_reqd=ok default=") refl) (none_in is_nul d _ (c d of_d.no_nul)
      (none_in is_nul (codes "] pam_debug.so auth=") _ (c (codes "] pam_debug.so auth=") refl)
      (none_in is_nul a (codes "\n") (c a of_a.no_nul) (c (codes "\n") refl)))))) in
      none.none

  inside_short : length (inside s d) ≤ 8 + (8 + (29 + 8))
  inside_short = at_most (codes "success=") _ 8 _ (leb-true _ 8 refl) (at_most s _ 8 _ of_s.short
      (at_most (codes " new_authtok_reqd=ok default=") _ 29 8 (leb-true _ 29 refl) of_d.short))

  short : length (spelling (head s d ++ tail a)) ≤ 128
  short = subst (λ (z : List ℕ). length z ≤ 128) (sym spelled) (
      let l : length (codes "auth [" ++ ((inside s d ++ codes "]") ++ (codes " pam_debug.so auth=" ++ (a ++ [])))) ≤ 6
      + (8 + (8 + (29 + 8)) + 1 + (19 + (8 + 0))) =
      at_most (codes "auth [") ((inside s d ++ codes "]") ++ (codes " pam_debug.so auth=" ++ (a ++ []))) 6 _ (leb-true _ 6 refl)
      (at_most (inside s d ++ codes "]") (codes " pam_debug.so auth=" ++ (a ++ [])) _ _ (at_most (inside s d) (codes "]") _ 1 inside_short (leb-true _ 1 refl))
      (at_most (codes " pam_debug.so auth=") (a ++ []) 19 _ (leb-true _ 19 refl) (at_most a [] 8 0 of_a.short (leb-true _ 0 refl)))) in
      omega (arith, l))

  small : length (line_text s d a) ≤ 128
  small =
      let l : length (line_text s d a) ≤ 14 + (8 + (29 + (8 + (20 + (8 + 1))))) =
      at_most (codes "auth [success=") _ 14 _ (leb-true _ 14 refl) (at_most s _ 8 _ of_s.short
      (at_most (codes " new_authtok_reqd=ok default=") _ 29 _ (leb-true _ 29 refl) (at_most d _ 8 _ of_d.short
      (at_most (codes "] pam_debug.so auth=") _ 20 _ (leb-true _ 20 refl) (at_most a (codes "\n") 8 1 of_a.short (leb-true _ 1 refl)))))) in
      omega (arith, l)

  ruled : Ruled
  ruled = record {
    text = line_text s d a;
    content = Line (random_rule x y a);
    pieces = head s d ++ tail a;
    reads = λ rest. ap pieces_of (line_opened s d a rest) ∙ h.reads (tail_text a ++ rest) ∙ ap (λ (z : List Piece). head s d ++ z) (t.reads rest);
    inner = refl;
    closed = refl;
    one = no_feed;
    short = short;
    token = word (codes "auth");
    tokens = others s d a;
    tokens_are = refl;
    no_nul = no_nul;
    small = small;
    says = λ n. h.says n a;
  }

-- the line after n others
pub random : ℕ → ℕ → Ruled
random seed n =
    let i = random_number seed (3 * n) in
    let j = random_number seed (3 * n + 1) in
    let k = random_number seed (3 * n + 2) in
    ruled (picked success_words i) (picked default_words j) (picked answer_words k) (action_picked success_actions i) (action_picked default_actions j)
    (success_word i) (default_word j) (answer_word k) (head_at i j) (tail_at k)

pub random_reads : (seed n : ℕ) → (random seed n).text ≡ random_line seed n
unfolding random ruled
random_reads seed n = refl

pub random_says : (seed n : ℕ) → (random seed n).content ≡ random_content seed n
unfolding random ruled
random_says seed n = refl

-- ---- a line that names a file

-- a byte of a word
record Mild (b : ℕ) : Type 0 where
  pub goes : (rest : List ℕ) → goes_on (b ∷ rest) ≡ true
  pub no_nul : is_nul b ≡ false
  pub no_feed : is_feed b ≡ false

digit : (n : ℕ) → n < 10 → Mild (48 + n)
digit zero l = record { goes = λ rest. refl; no_nul = refl; no_feed = refl }
digit (suc zero) l = record { goes = λ rest. refl; no_nul = refl; no_feed = refl }
digit (suc (suc zero)) l = record { goes = λ rest. refl; no_nul = refl; no_feed = refl }
digit (suc (suc (suc zero))) l = record { goes = λ rest. refl; no_nul = refl; no_feed = refl }
digit (suc (suc (suc (suc zero)))) l = record { goes = λ rest. refl; no_nul = refl; no_feed = refl }
digit (suc (suc (suc (suc (suc zero))))) l = record { goes = λ rest. refl; no_nul = refl; no_feed = refl }
digit (suc (suc (suc (suc (suc (suc zero)))))) l = record { goes = λ rest. refl; no_nul = refl; no_feed = refl }
digit (suc (suc (suc (suc (suc (suc (suc zero))))))) l = record { goes = λ rest. refl; no_nul = refl; no_feed = refl }
digit (suc (suc (suc (suc (suc (suc (suc (suc zero)))))))) l = record { goes = λ rest. refl; no_nul = refl; no_feed = refl }
digit (suc (suc (suc (suc (suc (suc (suc (suc (suc zero))))))))) l = record { goes = λ rest. refl; no_nul = refl; no_feed = refl }
digit (suc (suc (suc (suc (suc (suc (suc (suc (suc (suc n)))))))))) l = absurd (omega (arith, l))

abbrev AreMild : List ℕ → Type 0
AreMild bs = AllByRecursion Mild bs

one_more : (bs : List ℕ) (b : ℕ) → AreMild bs → Mild b → AreMild (bs ++ b ∷ [])
one_more [] b all mild = (mild, tt)
one_more (c ∷ bs) b all mild = (all.0, one_more bs b all.1 mild)

digits_mild : (k : ℕ) → k < 2 ^ 64 → AreMild (decimal k)
digits_mild k l = decimal_by_steps (λ n ds. AreMild ds) (λ n small. (digit n small, tt))
    (λ n ds big all. one_more ds (48 + n % 10) all (digit (n % 10) (mod_below n 10 (omega arith)))) k l

runs : (ds rest : List ℕ) → AreMild ds → run_of (ds ++ 10 ∷ rest) ≡ ds
runs [] rest all = refl
runs (d ∷ ds) rest all = rw (all.0.goes (ds ++ 10 ∷ rest)) (ap (λ (z : List ℕ). d ∷ z) (runs ds rest all.1))

mild_nul : (ds : List ℕ) → AreMild ds → list_any is_nul ds ≡ false
mild_nul [] all = refl
mild_nul (d ∷ ds) all = rw (all.0.no_nul, mild_nul ds all.1) refl

mild_feed : (ds : List ℕ) → AreMild ds → list_any is_feed ds ≡ false
mild_feed [] all = refl
mild_feed (d ∷ ds) all = rw (all.0.no_feed, mild_feed ds all.1) refl

-- the pieces after a run
passed : (ds rest : List ℕ) → pieces_after (length ds) (ds ++ 10 ∷ rest) ≡ newline ∷ pieces_of rest
unfolding pieces_after first_piece
passed [] rest = refl
passed (d ∷ ds) rest = passed ds rest

module _ (k : ℕ) (few : k < 1000) where
  abbrev ds : List ℕ
  ds = decimal k

  mild : AreMild ds
  mild = digits_mild k (omega (arith, few))

  abbrev naming : List Piece
  naming = plain (codes "auth") ∷ white 32 ∷ plain (codes "substack") ∷ white 32 ∷ plain (name_of k) ∷ []

  run_read : (text run : List ℕ) → run_of text ≡ run
      → pieces_of (codes "auth substack gen." ++ text)
      ≡ plain (codes "auth") ∷ white 32 ∷ plain (codes "substack") ∷ white 32 ∷ plain (codes "gen." ++ run)
      ∷ pieces_after (length (codes "gen." ++ run) - 1) (codes "en." ++ text)
  unfolding pieces_after first_piece
  run_read text run e = subst (λ (r : List ℕ). pieces_of (codes "auth substack gen." ++ text)
      ≡ plain (codes "auth") ∷ white 32 ∷ plain (codes "substack") ∷ white 32 ∷ plain (codes "gen." ++ r)
      ∷ pieces_after (length (codes "gen." ++ r) - 1) (codes "en." ++ text)) e refl

  named_read : (rest : List ℕ) → pieces_of (substack_line k ++ rest) ≡ naming ++ newline ∷ pieces_of rest
  named_read rest =
      let text : (ds ++ codes "\n") ++ rest ≡ ds ++ 10 ∷ rest = append_assoc ds (codes "\n") rest in
      let count : length (codes "gen." ++ ds) - 1 ≡ length (codes "en." ++ ds) = omega arith in
      ap (λ (z : List ℕ). pieces_of (codes "auth substack gen." ++ z)) text
      ∙ run_read (ds ++ 10 ∷ rest) ds (runs ds rest mild)
      ∙ ap (λ (z : List Piece). naming ++ z) (ap (λ (n : ℕ). pieces_after n (codes "en." ++ (ds ++ 10 ∷ rest))) count ∙ passed (codes "en." ++ ds) rest)

  named_says : (n : ℕ) → entry_of true (record { line = n; tokens = word (codes "auth") ∷ word (codes "substack") ∷ word (name_of k) ∷ [] })
      ≡ Ok (record { line = n; rule_type = Some Auth; content = substack_content k })
  unfolding entry_of
  named_says n = refl

  at_most_three : length ds ≤ 3
  at_most_three = length-decimal-le 3 k (omega arith) few (omega (arith, few))

  spelled_short : length (spelling naming) ≤ 128
  spelled_short =
      let l : length (codes "auth substack gen." ++ (ds ++ [])) ≤ 18 + (3 + 0) =
      at_most (codes "auth substack gen.") (ds ++ []) 18 _ (leb-true _ 18 refl) (at_most ds [] 3 0 at_most_three (leb-true _ 0 refl)) in
      omega (arith, l)

  text_short : length (substack_line k) ≤ 128
  text_short =
      let l : length (codes "auth substack gen." ++ (ds ++ codes "\n")) ≤ 18 + (3 + 1) =
      at_most (codes "auth substack gen.") (ds ++ codes "\n") 18 _ (leb-true _ 18 refl) (at_most ds (codes "\n") 3 1 at_most_three (leb-true _ 1 refl)) in
      omega (arith, l)

  -- the line with the file of this number as a substack
  pub named : Ruled
  named = record {
    text = substack_line k;
    content = substack_content k;
    pieces = naming;
    reads = named_read;
    inner = refl;
    closed = refl;
    one = (none_in is_feed (codes "auth substack gen.") (ds ++ []) (free is_feed (codes "auth substack gen.") refl)
        (none_in is_feed ds [] (free is_feed ds (mild_feed ds mild)) (free is_feed [] refl))).none;
    short = spelled_short;
    token = word (codes "auth");
    tokens = word (codes "substack") ∷ word (name_of k) ∷ [];
    tokens_are = refl;
    no_nul = (none_in is_nul (codes "auth substack gen.") (ds ++ codes "\n") (free is_nul (codes "auth substack gen.") refl)
        (none_in is_nul ds (codes "\n") (free is_nul ds (mild_nul ds mild)) (free is_nul (codes "\n") refl))).none;
    small = text_short;
    says = named_says;
  }

  pub named_reads : named.text ≡ substack_line k
  unfolding named
  named_reads = refl

  pub named_holds : named.content ≡ substack_content k
  unfolding named
  named_holds = refl
