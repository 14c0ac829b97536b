-- The names of the modules of a stack that is loaded from files of bytes are of bytes.
use Rattle.std.proofs.Common.{ℕ, zero, suc, ◌+◌, ◌-◌, ◌<◌, Bool, true, false, cond, List, [], ◌∷◌, ◌++◌, length, take, nat_eq}
use Rattle.std.proofs.Common.{nat_lt, Option, Some, None, Result, Ok, Err, codes, subst, arith, ◌==◌}
use Rattle.std.specs.List.{AllByRecursion, cons_option, ends_with, flat_map}
use Rattle.std.specs.Result.{result_ok}
use Rattle.pam_base.specs.Bytes.{has_byte}
use Rattle.pam_outside.specs.Files.{File, file_at, file_put}
use Rattle.pam_outside.specs.Paths.{path_of}
use Rattle.std.specs.Str.{bytes_eq}
use Rattle.control_words.specs.conf_lex.specs.Answer.{answer_to, answer_unless_nul}
use Rattle.control_words.specs.conf_lex.specs.Lexing.{answer_at, given, nul_line}
use Rattle.control_words.specs.conf_lex.specs.Piece.{BracketUnit, escaped, joined, single, units_bytes, units_text, Piece, newline, white}
use Rattle.control_words.specs.conf_lex.specs.Piece.{join, plain, bracket, open_bracket, comment, IsReading, is_newline, piece_bytes}
use Rattle.control_words.specs.conf_lex.specs.Piece.{piece_tokens, spelling, tokens_of}
use Rattle.control_words.specs.conf_lex.specs.Piece as pieces
use Rattle.control_words.specs.conf_lex.specs.Reading.{pieces_of}
use Rattle.control_words.specs.conf_lex.specs.Rules.{JoinedLine, first_fault, put_before, line_rules, lines_of_pieces, newlines, numbered, rule_at}
use Rattle.control_words.specs.conf_lex.specs.declared.token.LexFault.{LexFault}
use Rattle.control_words.specs.conf_lex.specs.declared.token.RawRule.{RawRule}
use Rattle.control_words.specs.conf_lex.specs.declared.token.Token.{Token}
use Rattle.control_words.specs.Bracket.{control_of}
use Rattle.control_words.specs.Module.{last_part, name_of_module}
use Rattle.control_words.specs.Stack as stack
use Rattle.control_words.specs.Stack.{Stack, count, none, line, sub}
use Rattle.control_words.specs.declared.bracket.ControlFault.{ControlFault}
use Rattle.control_words.specs.declared.control.Action.{Action}
use Rattle.service_load.specs.Entry.{after_type, entry_at, entry_of, entry_of_tokens, named_file, with_control, with_type}
use Rattle.service_load.specs.Files.{entries_of, held, held_answer, held_for, held_in_conf, held_text}
use Rattle.service_load.specs.Files.{is_in_directory, own_rule, own_rules, plain_file, rule_without, rules_held}
use Rattle.service_load.specs.RuleType.{is_word, type_field_of}
use Rattle.service_load.specs.Tree.{content_nodes, entry_nodes, nodes, nodes_of, serves, tree_from}
use Rattle.service_load.specs.declared.rule_type.RuleType.{RuleType}
use Rattle.report_lines.specs.Line.{AreBytes}
use Rattle.session_audit.specs.Sound.{AreNamed}
use Rattle.laws_audit.specs.Loaded.{AreOfBytes}

-- ---- lists

module _ {A : Type 0} (P : A → Type 0) where
  pub both_all : (xs ys : List A) → AllByRecursion P xs → AllByRecursion P ys → AllByRecursion P (xs ++ ys)
  both_all [] ys a b = b
  both_all (x ∷ xs) ys a b = (a.0, both_all xs ys a.1 b)

  left_all : (xs ys : List A) → AllByRecursion P (xs ++ ys) → AllByRecursion P xs
  left_all [] ys a = tt
  left_all (x ∷ xs) ys a = (a.0, left_all xs ys a.1)

  right_all : (xs ys : List A) → AllByRecursion P (xs ++ ys) → AllByRecursion P ys
  right_all [] ys a = a
  right_all (x ∷ xs) ys a = right_all xs ys a.1

  take_all : (n : ℕ) (xs : List A) → AllByRecursion P xs → AllByRecursion P (take n xs)
  take_all zero xs a = tt
  take_all (suc n) [] a = tt
  take_all (suc n) (x ∷ xs) a = (a.0, take_all n xs a.1)

module _ {A B : Type 0} (P : A → Type 0) (Q : B → Type 0) (f : A → List B) (each : (x : A) → P x → AllByRecursion Q (f x)) where
  flat_all : (xs : List A) → AllByRecursion P xs → AllByRecursion Q (flat_map f xs)
  flat_all [] a = tt
  flat_all (x ∷ xs) a = both_all Q (f x) (flat_map f xs) (each x a.0) (flat_all xs a.1)

-- ---- the tokens of a text of bytes

abbrev pub IsToken : Token → Type 0
IsToken t = AreBytes t.text

abbrev pub IsRule : RawRule → Type 0
IsRule r = AllByRecursion IsToken r.tokens

abbrev pub IsPiece : Piece → Type 0
IsPiece p = AllByRecursion IsToken (piece_tokens p)

units_of_bytes : (us : List BracketUnit) → AreBytes (units_bytes us) → AreBytes (units_text us)
units_of_bytes [] a = tt
units_of_bytes (escaped ∷ us) a = (omega arith, units_of_bytes us a.1.1)
units_of_bytes (joined pieces.feed ∷ us) a = (omega arith, units_of_bytes us a.1.1)
units_of_bytes (joined pieces.return_feed ∷ us) a = (omega arith, units_of_bytes us a.1.1.1)
units_of_bytes (single b ∷ us) a = (a.0, units_of_bytes us a.1)

piece_of_bytes : (p : Piece) → AreBytes (piece_bytes p) → IsPiece p
piece_of_bytes newline a = tt
piece_of_bytes (white b) a = tt
piece_of_bytes (join j) a = tt
piece_of_bytes (plain run) a = (a, tt)
piece_of_bytes (bracket us) a = (units_of_bytes us (left_all (λ (b : ℕ). b < 256) (units_bytes us) (93 ∷ []) a.1), tt)
piece_of_bytes (open_bracket us) a = tt
piece_of_bytes (comment text) a = tt

pieces_of_bytes : (ps : List Piece) → AreBytes (spelling ps) → AllByRecursion IsPiece ps
pieces_of_bytes [] a = tt
pieces_of_bytes (p ∷ ps) a = (
  piece_of_bytes p (left_all (λ (b : ℕ). b < 256) (piece_bytes p) (spelling ps) a),
  pieces_of_bytes ps (right_all (λ (b : ℕ). b < 256) (piece_bytes p) (spelling ps) a),
)

abbrev pub IsLine : JoinedLine → Type 0
IsLine l = AllByRecursion IsPiece l.pieces

front_of_bytes : (p : Piece) (ls : List (List Piece)) → IsPiece p → AllByRecursion (AllByRecursion IsPiece) ls
    → AllByRecursion (AllByRecursion IsPiece) (put_before p ls)
front_of_bytes p [] a b = ((a, tt), tt)
front_of_bytes p (l ∷ ls) a b = ((a, b.0), b.1)

line_if : (b : Bool) (p : Piece) (ls : List (List Piece)) → IsPiece p → AllByRecursion (AllByRecursion IsPiece) ls
    → AllByRecursion (AllByRecursion IsPiece) (cond b ([] ∷ ls) (put_before p ls))
line_if true p ls a c = (tt, c)
line_if false p ls a c = front_of_bytes p ls a c

lines_of_bytes : (ps : List Piece) → AllByRecursion IsPiece ps → AllByRecursion (AllByRecursion IsPiece) (lines_of_pieces ps)
lines_of_bytes [] a = (tt, tt)
lines_of_bytes (p ∷ ps) a = line_if (is_newline p) p (lines_of_pieces ps) a.0 (lines_of_bytes ps a.1)

numbered_of_bytes : (n : ℕ) (ls : List (List Piece)) → AllByRecursion (AllByRecursion IsPiece) ls → AllByRecursion IsLine (numbered n ls)
numbered_of_bytes n [] a = tt
numbered_of_bytes n (l ∷ ls) a = (a.0, numbered_of_bytes (n + newlines (spelling l) + 1) ls a.1)

rule_of_bytes : (n : ℕ) (ts : List Token) → AllByRecursion IsToken ts → AllByRecursion IsRule (rule_at n ts)
rule_of_bytes n [] a = tt
rule_of_bytes n (t ∷ ts) a = (a, tt)

line_of_bytes : (l : JoinedLine) → IsLine l → AllByRecursion IsRule (line_rules l)
line_of_bytes l a = rule_of_bytes l.first (tokens_of l.pieces) (flat_all IsPiece IsToken piece_tokens (λ p b. b) l.pieces a)

-- the rules of a text, if it has no fault
abbrev pub AreRules : Result (List RawRule) LexFault → Type 0
AreRules (Ok rules) = AllByRecursion IsRule rules
AreRules (Err fault) = Unit {0}

given_of_bytes : (fault : Option LexFault) (rules : List RawRule) → AllByRecursion IsRule rules → AreRules (given fault rules)
given_of_bytes None rules a = a
given_of_bytes (Some f) rules a = tt

module _ (reading : (text : List ℕ) → IsReading text (pieces_of text)) where
  text_pieces : (text : List ℕ) → AreBytes text → AllByRecursion IsPiece (pieces_of text)
  text_pieces text a =
      let spelled = (reading text).spelled in
      pieces_of_bytes (pieces_of text) (left_all (λ (b : ℕ). b < 256) (spelling (pieces_of text)) [] (subst AreBytes spelled a))

  answer_of_bytes : (n : ℕ) (text : List ℕ) → AreBytes text → AreRules (answer_at n text)
  unfolding answer_at
  answer_of_bytes n text a =
      let lines = numbered_of_bytes n (lines_of_pieces (pieces_of text)) (lines_of_bytes (pieces_of text) (text_pieces text a)) in
      given_of_bytes (first_fault (numbered n (lines_of_pieces (pieces_of text)))) (flat_map line_rules (numbered n (lines_of_pieces (pieces_of text))))
      (flat_all IsLine IsRule line_rules line_of_bytes (numbered n (lines_of_pieces (pieces_of text))) lines)

  by_nul : (nul : Option ℕ) (text : List ℕ) → AreBytes text → AreRules (answer_unless_nul nul text)
  by_nul (Some n) text a = tt
  by_nul None text a = answer_of_bytes 1 text a

  by_length : (long : Bool) (f : LexFault) (text : List ℕ) → AreBytes text → AreRules (cond long (Err f) (answer_unless_nul (nul_line 1 text) text))
  by_length true f text a = tt
  by_length false f text a = by_nul (nul_line 1 text) text a

  rules_of_bytes : (text : List ℕ) → AreBytes text → AreRules (answer_to text)
  unfolding answer_to
  rules_of_bytes text a = by_length (nat_lt 65536 (length text)) _ text a

  -- ---- the rules of a file

  without_service : (is : Bool) (n : ℕ) (ts : List Token) → AllByRecursion IsToken ts
      → AllByRecursion IsRule (cond is (record { line = n; tokens = ts } ∷ []) [])
  without_service true n ts a = (a, tt)
  without_service false n ts a = tt

  rule_without_service : (service : List ℕ) (n : ℕ) (ts : List Token) → AllByRecursion IsToken ts → AllByRecursion IsRule (rule_without service n ts)
  rule_without_service service n [] a = tt
  rule_without_service service n (t ∷ ts) a = without_service (is_word service t) n ts a.1

  own_of_bytes : (service : Option (List ℕ)) (r : RawRule) → IsRule r → AllByRecursion IsRule (own_rule service r)
  own_of_bytes None r a = (a, tt)
  own_of_bytes (Some service) r a = rule_without_service service r.line r.tokens a

  all_own : (service : Option (List ℕ)) (rules : List RawRule) → AllByRecursion IsRule rules → AllByRecursion IsRule (own_rules service rules)
  all_own service rules a = flat_all IsRule IsRule (own_rule service) (own_of_bytes service) rules a

  in_conf : (rules : List RawRule) → AllByRecursion IsRule rules → AllByRecursion IsRule (rules_held (held_in_conf rules))
  in_conf [] a = tt
  in_conf (r ∷ rs) a = a

  held_rules : (service : Option (List ℕ)) (rules : List RawRule) → AllByRecursion IsRule rules → AllByRecursion IsRule (rules_held (held_for service rules))
  held_rules None rules a = all_own None rules a
  held_rules (Some service) rules a = in_conf (own_rules (Some service) rules) (all_own (Some service) rules a)

  held_by : (service : Option (List ℕ)) (answer : Result (List RawRule) LexFault) → AreRules answer
      → AllByRecursion IsRule (rules_held (held_answer service answer))
  held_by service (Ok rules) a = held_rules service rules a
  held_by service (Err fault) a = tt

-- a text that is there is of bytes
abbrev pub IsText : Option (List ℕ) → Type 0
IsText None = Unit {0}
IsText (Some text) = AreBytes text

module _ (reading : (text : List ℕ) → IsReading text (pieces_of text)) where
  by_text : (service found : Option (List ℕ)) → IsText found → AllByRecursion IsRule (rules_held (held_text service found))
  by_text service None a = tt
  by_text service (Some text) a = held_by reading service (answer_to text) (rules_of_bytes reading text a)

file_if : (b : Bool) (f : File) (more : Option (List ℕ)) → AreBytes f.bytes → IsText more → IsText (cond b (Some f.bytes) more)
file_if true f more a c = a
file_if false f more a c = c

file_of_bytes : (path : List ℕ) (files : List File) → AreOfBytes files → IsText (file_at path files)
file_of_bytes path [] a = tt
file_of_bytes path (f ∷ fs) a = file_if (bytes_eq f.path path) f (file_at path fs) a.0 (file_of_bytes path fs a.1)

-- ---- the nodes of a file

part_if : (b : Bool) (x y : List ℕ) → AreBytes x → AreBytes y → AreBytes (cond b x y)
part_if true x y a b = a
part_if false x y a b = b

last_of_bytes : (path : List ℕ) → AreBytes path → AreBytes (last_part path)
last_of_bytes [] a = tt
last_of_bytes (b ∷ bs) a = part_if (has_byte 47 (b ∷ bs)) (last_part bs) (b ∷ bs) (last_of_bytes bs a.1) a

name_of_bytes : (path : List ℕ) → AreBytes path → AreBytes (name_of_module path)
name_of_bytes path a =
    let last = last_of_bytes path a in
    part_if (ends_with nat_eq (last_part path) (codes ".so")) _ _
    (take_all (λ (b : ℕ). b < 256) (length (last_part path) - length (codes ".so")) (last_part path) last) last

joined_named : (one more : Stack) → AreNamed one → AreNamed more → AreNamed (stack.joined one more)
joined_named none more a b = b
joined_named (line rule rest) more a b = (a.0, joined_named rest more a.1 b)
joined_named (sub inner rest) more a b = (a.0, joined_named rest more a.1 b)

named_if : (b : Bool) (x y : Stack) → AreNamed x → AreNamed y → AreNamed (cond b x y)
named_if true x y a b = a
named_if false x y a b = b

-- what holds of a result that isn't a fault
abbrev pub OnGood : {A E : Type 0} → (A → Type 0) → Result A E → Type 0
OnGood P (Ok x) = P x
OnGood P (Err e) = Unit {0}

pub good_if : {A E : Type 0} (P : A → Type 0) (b : Bool) (x y : Result A E) → OnGood P x → OnGood P y → OnGood P (cond b x y)
good_if P true x y a b = a
good_if P false x y a b = b

pub kept_good : {A E : Type 0} (P : A → Type 0) (found : Result A E) (more : List A) → OnGood P found → AllByRecursion P more
    → AllByRecursion P (cons_option (result_ok found) more)
kept_good P (Ok x) more a b = (a, b)
kept_good P (Err e) more a b = b

-- ---- the entry of a rule, and what it adds

module _ (deeper : List ℕ → Stack) (named : (name : List ℕ) → AreNamed (deeper name)) (type : RuleType) where
  control_named : (silent : Bool) (control : Result (List Action) ControlFault) (ts : List Token) → AllByRecursion IsToken ts
      → OnGood (λ c. AreNamed (content_nodes deeper c)) (with_control silent control ts)
  control_named silent (Ok control) [] a = tt
  control_named silent (Ok control) (t ∷ ts) a = (name_of_bytes t.text a.0, tt)
  control_named silent (Err fault) ts a = tt

  after_named : (silent : Bool) (ts : List Token) → AllByRecursion IsToken ts → OnGood (λ c. AreNamed (content_nodes deeper c)) (after_type silent ts)
  after_named silent [] a = tt
  after_named silent (t ∷ []) a =
      good_if (λ c. AreNamed (content_nodes deeper c)) (is_word (codes "include") t) _ _ tt
      (good_if (λ c. AreNamed (content_nodes deeper c)) (is_word (codes "substack") t) _ _ tt (control_named silent (control_of t.bracketed t.text) [] tt))
  after_named silent (t ∷ u ∷ us) a =
      good_if (λ c. AreNamed (content_nodes deeper c)) (is_word (codes "include") t) _ _ (named (named_file u.text))
      (good_if (λ c. AreNamed (content_nodes deeper c)) (is_word (codes "substack") t) _ _ (named (named_file u.text), tt)
      (control_named silent (control_of t.bracketed t.text) (u ∷ us) a.1))

  entry_named : (n : ℕ) (own : Option RuleType) (content : _) → OnGood (λ c. AreNamed (content_nodes deeper c)) content
      → OnGood (λ e. AreNamed (entry_nodes deeper type e)) (entry_at n own content)
  entry_named n own (Ok c) a = named_if (serves type own) _ _ a tt
  entry_named n own (Err kind) a = tt

  typed_named : (n : ℕ) (field : Option _) (ts : List Token) → AllByRecursion IsToken ts
      → OnGood (λ e. AreNamed (entry_nodes deeper type e)) (with_type n field ts)
  typed_named n None ts a = tt
  typed_named n (Some field) ts a = entry_named n (Some field.rule_type) (after_type field.silent ts) (after_named field.silent ts a)

  tokens_named : (n : ℕ) (in_directory : Bool) (ts : List Token) → AllByRecursion IsToken ts
      → OnGood (λ e. AreNamed (entry_nodes deeper type e)) (entry_of_tokens n in_directory ts)
  tokens_named n in_directory [] a = tt
  tokens_named n true (t ∷ []) a = good_if (λ e. AreNamed (entry_nodes deeper type e)) (is_word (codes "@include") t) _ _ tt
      (typed_named n (type_field_of t) [] tt)
  tokens_named n true (t ∷ u ∷ us) a =
      good_if (λ e. AreNamed (entry_nodes deeper type e)) (is_word (codes "@include") t) _ _ (named (named_file u.text))
      (typed_named n (type_field_of t) (u ∷ us) a.1)
  tokens_named n false (t ∷ ts) a = typed_named n (type_field_of t) ts a.1

  rule_named : (in_directory : Bool) (r : RawRule) → IsRule r → OnGood (λ e. AreNamed (entry_nodes deeper type e)) (entry_of in_directory r)
  unfolding entry_of
  rule_named in_directory r a = tokens_named r.line in_directory r.tokens a

  rules_named : (in_directory : Bool) (rules : List RawRule) → AllByRecursion IsRule rules
      → AllByRecursion (λ e. AreNamed (entry_nodes deeper type e)) (entries_of in_directory rules)
  rules_named in_directory [] a = tt
  rules_named in_directory (r ∷ rs) a =
      kept_good (λ e. AreNamed (entry_nodes deeper type e)) (entry_of in_directory r) (entries_of in_directory rs) (rule_named in_directory r a.0)
      (rules_named in_directory rs a.1)

  entries_named : (es : _) → AllByRecursion (λ e. AreNamed (entry_nodes deeper type e)) es → AreNamed (nodes_of deeper type es)
  entries_named [] a = tt
  entries_named (e ∷ es) a = joined_named (entry_nodes deeper type e) (nodes_of deeper type es) a.0 (entries_named es a.1)

module _ (reading : (text : List ℕ) → IsReading text (pieces_of text)) (texts : List ℕ → Option (List ℕ))
    (of_bytes : (name : List ℕ) → IsText (texts name)) where
  nodes_named : (levels : ℕ) (type : RuleType) (file : _) → AreNamed (nodes texts levels type file)
  unfolding nodes
  nodes_named zero type file = tt
  nodes_named (suc levels) type file =
      let deeper : List ℕ → Stack = λ name. nodes texts levels type (plain_file name) in
      let named : (name : List ℕ) → AreNamed (deeper name) = λ name. nodes_named levels type (plain_file name) in
      let rules : List RawRule = rules_held (held texts file) in
      entries_named deeper named type (entries_of (is_in_directory file) rules)
      (rules_named deeper named type (is_in_directory file) rules (by_text reading file.service (texts file.name) (of_bytes file.name)))

  pub tree_named : (own : _) (other : _) (type : RuleType) → AreNamed (tree_from texts own other type)
  tree_named own other type = named_if (count (nodes texts 17 type own) == 0) _ _ (nodes_named 17 type other) (nodes_named 17 type own)

pub texts_of_bytes : (root : List ℕ) (files : List File) → AreOfBytes files → (name : List ℕ) → IsText (file_at (path_of root name) files)
texts_of_bytes root files a name = file_of_bytes (path_of root name) files a

put_if : (b : Bool) (path bytes : List ℕ) (f : File) (fs more : List File) → AreBytes bytes → AreBytes f.bytes → AreOfBytes fs → AreOfBytes more
    → AreOfBytes (cond b (record { path = path; bytes = bytes } ∷ fs) (f ∷ more))
put_if true path bytes f fs more a b c d = (a, c)
put_if false path bytes f fs more a b c d = (b, d)

pub put_of_bytes : (path bytes : List ℕ) (files : List File) → AreBytes bytes → AreOfBytes files → AreOfBytes (file_put path bytes files)
put_of_bytes path bytes [] a b = (a, tt)
put_of_bytes path bytes (f ∷ fs) a b = put_if (bytes_eq f.path path) path bytes f fs (file_put path bytes fs) a b.0 b.1 (put_of_bytes path bytes fs a b.1)
