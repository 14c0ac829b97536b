-- A text in which each line is one rule is read line by line.
use Rattle.std.proofs.Common.{◌≡◌, ℕ, ◌+◌, ◌*◌, ◌≤◌, Bool, true, false, ◌==◌, ◌||◌, cond, List, [], ◌∷◌, ◌++◌, length, map, Option, Some}
use Rattle.std.proofs.Common.{None, Result, Ok, Err, nat_lt, refl, ap, ◌∙◌, arith, length-append}
use Rattle.std.specs.List.{flat_map, filter_map, list_all, list_any}
use Rattle.std.specs.Result.{is_ok, result_ok}
use Rattle.std.proofs.lemmas.Bool.{le-ltb, true≢false}
use Rattle.std.proofs.lemmas.List.Folds.{list_any-append}
use Rattle.std.proofs.lemmas.List.Sums.{sum_by-append}
use Rattle.service_load.specs.conf_lex.specs.declared.token.LexFault.{LexFault}
use Rattle.service_load.specs.conf_lex.specs.declared.token.RawRule.{RawRule}
use Rattle.service_load.specs.conf_lex.specs.declared.token.Token.{Token}
use Rattle.service_load.specs.conf_lex.specs.Answer.{answer_to}
use Rattle.service_load.specs.conf_lex.specs.Lexing.{answer_at, answer_of, given, nul_line}
use Rattle.service_load.specs.conf_lex.specs.Piece.{Piece, is_newline, is_open, newline, spelling, tokens_of}
use Rattle.service_load.specs.conf_lex.specs.Reading.{pieces_after, pieces_of}
use Rattle.service_load.specs.conf_lex.specs.Rules.{JoinedLine, first_fault, put_before, line_fault, line_rules, lines_of_pieces, newlines, numbered}
use Rattle.service_load.specs.declared.entry.RuleContent.{RuleContent}
use Rattle.service_load.specs.declared.rule_type.RuleType.TheVariants.{Auth}
use Rattle.service_load.specs.Entry.{entry_of}
use Rattle.cmd_generate.specs.RandomRules.{HoldsRules, entries_from}

abbrev pub is_nul : ℕ → Bool
is_nul b = b == 0

abbrev pub is_feed : ℕ → Bool
is_feed b = b == 10

-- a line, with its newline, and what its rule says, whatever follows it
pub record Ruled : Type 0 where
  pub text : List ℕ
  pub content : RuleContent
  pub pieces : List Piece
  pub reads : (rest : List ℕ) → pieces_of (text ++ rest) ≡ pieces ++ newline ∷ pieces_of rest
  pub inner : list_any is_newline pieces ≡ false
  pub closed : list_any is_open pieces ≡ false
  pub one : list_any is_feed (spelling pieces) ≡ false
  pub short : length (spelling pieces) ≤ 128
  pub token : Token
  pub tokens : List Token
  pub tokens_are : tokens_of pieces ≡ token ∷ tokens
  pub no_nul : list_any is_nul text ≡ false
  pub small : length text ≤ 128
  pub says : (n : ℕ) → entry_of true (record { line = n; tokens = token ∷ tokens }) ≡ Ok (record { line = n; rule_type = Some Auth; content = content })

abbrev pub text_in : List Ruled → List ℕ
text_in ls = flat_map (λ (l : Ruled). l.text) ls

abbrev pub contents_in : List Ruled → List RuleContent
contents_in ls = map (λ (l : Ruled). l.content) ls

-- ---- lines of pieces

first_false : (a b : Bool) → (a || b) ≡ false → a ≡ false
first_false true b e = e
first_false false b e = refl

second_false : (a b : Bool) → (a || b) ≡ false → b ≡ false
second_false true b e = absurd (true≢false e)
second_false false b e = e

line_of : (ps qs : List Piece) → list_any is_newline ps ≡ false → lines_of_pieces (ps ++ newline ∷ qs) ≡ ps ∷ lines_of_pieces qs
line_of [] qs inner = refl
line_of (p ∷ ps) qs inner =
    let e : is_newline p ≡ false = first_false (is_newline p) (list_any is_newline ps) inner in
    let rest : list_any is_newline ps ≡ false = second_false (is_newline p) (list_any is_newline ps) inner in
    let lines = lines_of_pieces (ps ++ newline ∷ qs) in
    ap (λ (b : Bool). cond b ([] ∷ lines) (put_before p lines)) e ∙ ap (put_before p) (line_of ps qs rest)

no_feeds : (text : List ℕ) → list_any is_feed text ≡ false → newlines text ≡ 0
no_feeds [] e = refl
no_feeds (b ∷ bs) e =
    let parts : newlines (b ∷ bs) ≡ newlines (b ∷ []) + newlines bs = sum_by-append (λ (x : ℕ). cond (x == 10) 1 0) (b ∷ []) bs in
    let one : newlines (b ∷ []) ≡ 0 = ap (λ (x : Bool). 0 + cond x 1 0) (first_false (is_feed b) (list_any is_feed bs) e) in
    let others : newlines bs ≡ 0 = no_feeds bs (second_false (is_feed b) (list_any is_feed bs) e) in
    omega (arith, parts, one, others)

fault_free : (n : ℕ) (l : Ruled) → line_fault (record { first = n; pieces = l.pieces }) ≡ None
fault_free n l =
    let fits : nat_lt 4096 (length (spelling l.pieces)) ≡ false = le-ltb 4096 (length (spelling l.pieces)) (omega (arith, l.short)) in
    rw (fits, l.closed) refl

abbrev with_rule : RawRule → Result (List RawRule) LexFault → Result (List RawRule) LexFault
with_rule r (Ok rules) = Ok (r ∷ rules)
with_rule r (Err f) = Err f

more_given : (f : Option LexFault) (r : RawRule) (rules more : List RawRule) → given f more ≡ Ok rules → given f (r ∷ more) ≡ Ok (r ∷ rules)
more_given None r rules more e = ap (λ (x : Result (List RawRule) LexFault). with_rule r x) e
more_given (Some f) r rules more e = absurd cc

-- what is read of some lines, the first of which is in line n
record Given (n : ℕ) (ls : List Ruled) : Type 0 where
  pub rules : List RawRule
  pub are : answer_of (numbered n (lines_of_pieces (pieces_of (text_in ls)))) ≡ Ok rules
  pub fine : list_all (λ (r : RawRule). is_ok (entry_of true r)) rules ≡ true
  pub entries : filter_map (λ (r : RawRule). result_ok (entry_of true r)) rules ≡ entries_from n (contents_in ls)

lines_given : (n : ℕ) (ls : List Ruled) → Given n ls
unfolding pieces_after
lines_given n [] = record { rules = []; are = refl; fine = refl; entries = refl }
lines_given n (l ∷ ls) =
    let more = lines_given (n + 1) ls in
    let rule : RawRule = record { line = n; tokens = l.token ∷ l.tokens } in
    let others = lines_of_pieces (pieces_of (text_in ls)) in
    let lines : lines_of_pieces (pieces_of (text_in (l ∷ ls))) ≡ l.pieces ∷ others =
    ap lines_of_pieces (l.reads (text_in ls)) ∙ line_of l.pieces (pieces_of (text_in ls)) l.inner in
    let next : n + newlines (spelling l.pieces) + 1 ≡ n + 1 = ap (λ (x : ℕ). n + x + 1) (no_feeds (spelling l.pieces) l.one) ∙ omega arith in
    let first : JoinedLine = record { first = n; pieces = l.pieces } in
    let numbers : numbered n (l.pieces ∷ others) ≡ first ∷ numbered (n + 1) others =
    ap (λ (x : ℕ). first ∷ numbered x others) next in
    let rest = numbered (n + 1) others in
    let whole : answer_of (first ∷ rest) ≡ given (first_fault rest) (rule ∷ flat_map line_rules rest) =
    rw (fault_free n l, l.tokens_are) refl in
    record {
      rules = rule ∷ more.rules;
      are = ap (λ (x : List JoinedLine). answer_of x) (ap (numbered n) lines ∙ numbers) ∙ whole
          ∙ more_given (first_fault rest) rule more.rules (flat_map line_rules rest) more.are;
      fine = rw (l.says n, more.fine) refl;
      entries = rw (l.says n, more.entries) refl;
    }

-- ---- no NUL byte, and not too long

nul_free : (n : ℕ) (text : List ℕ) → list_any is_nul text ≡ false → nul_line n text ≡ None
nul_free n [] e = refl
nul_free n (b ∷ bs) e =
    let m = n + newlines (b ∷ []) in
    ap (λ (x : Bool). cond x (Some n) (nul_line m bs)) (first_false (is_nul b) (list_any is_nul bs) e)
    ∙ nul_free m bs (second_false (is_nul b) (list_any is_nul bs) e)

none_nul : (ls : List Ruled) → list_any is_nul (text_in ls) ≡ false
none_nul [] = refl
none_nul (l ∷ ls) = list_any-append is_nul l.text (text_in ls) ∙ rw (l.no_nul, none_nul ls) refl

all_small : (ls : List Ruled) → length (text_in ls) ≤ 128 * length ls
all_small [] = omega arith
all_small (l ∷ ls) = omega (arith, length-append l.text (text_in ls), l.small, all_small ls)

-- ---- the whole

pub reads_as : (text : List ℕ) (contents : List RuleContent) (ls : List Ruled) → text ≡ text_in ls → contents ≡ contents_in ls → length ls ≤ 512
    → HoldsRules text contents
unfolding answer_to answer_at
reads_as text contents ls is are few =
    let r = lines_given 1 ls in
    let short : length (text_in ls) ≤ 65536 = omega (arith, all_small ls, few) in
    record {
      rules = r.rules;
      text_is = rw (is, le-ltb 65536 (length (text_in ls)) short, nul_free 1 (text_in ls) (none_nul ls)) r.are;
      fine = r.fine;
      entries = rw are r.entries;
    }
