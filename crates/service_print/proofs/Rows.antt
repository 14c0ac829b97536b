-- Test cases: stacks, printed by the definitions.
use Rattle.std.proofs.Common.{◌≡◌, ℕ, true, false, List, [], ◌∷◌, refl, Ok, Err}
use Rattle.std.specs.Prelude.{codes, ◌++◌, map, replicate}
use Rattle.std.specs.List.{list_all}
use Rattle.std.specs.Fmt.{digits}
use Rattle.control_words.specs.declared.control.Action.{Action}
use Rattle.control_words.specs.declared.nodes.Rule.{Rule}
use Rattle.pam_base.specs.Lines.{cut, lines_of}
use Rattle.pam_outside.specs.Paths.{path_of}
use Rattle.pam_outside.specs.Files.{VaultState, no_locks}
use Rattle.conf_lex.specs.Answer.{answer_to}
use Rattle.conf_lex.specs.Lexing.{answer_at}
use Rattle.conf_lex.specs.Reading.{units_after, first_piece, pieces_after}
use Rattle.control_words.specs.Bracket.{control_of}
use Rattle.control_words.specs.Entries.{entries_in, entries_after}
use Rattle.control_words.specs.Keyword.{required, optional}
use Rattle.control_words.specs.Stack.{Stack, none, line, sub}
use Rattle.service_load.specs.declared.rule_type.RuleType.{RuleType}
use Rattle.service_load.specs.declared.rule_type.RuleType.TheVariants.{Auth, Session}
use Rattle.service_load.specs.Entry.{entry_of}
use Rattle.service_load.specs.FirstFault.{look}
use Rattle.service_load.specs.Load.{loaded}
use Rattle.service_load.specs.Loading.{texts_of}
use Rattle.service_load.specs.Order.{items}
use Rattle.service_load.specs.Tree.{nodes, tree}
use Rattle.service_print.specs.declared.file.File.{File}
use Rattle.service_print.specs.Tokens.{token_text, ended}
use Rattle.service_print.specs.Controls.{same_control, entries_among, control_text}
use Rattle.service_print.specs.Reload.{placed_file, is_short}
use Rattle.service_print.specs.Printed.{rule_line, substack_line, numbered, list_lines, substack_files, printed}

-- the control of some entries
control : List ℕ → List Action
control entries = elim (control_of true entries) [ Ok actions ↦ actions | Err fault ↦ [] ]

-- a rule that isn't silent
rule : List Action → List ℕ → List (List ℕ) → Rule
rule actions path args = record { silent = false; control = actions; path = path; args = args }

-- a list of one required module
one : List ℕ → Stack → Stack
one path more = line (rule required path []) more

file : List ℕ → List ℕ → File
file name text = record { name = name; text = text }

-- one stack that has nodes
of_auth : Stack → RuleType → Stack
of_auth stack Auth = stack
of_auth stack type = none

-- two of them
two_stacks : RuleType → Stack
two_stacks Auth = sub (sub (one (codes "a") none) (one (codes "b") none)) (one (codes "c") none)
two_stacks Session = sub (one (codes "d") none) none
two_stacks type = none

-- one line of the stack of auth
written : Rule → List ℕ → Type 0
written rule text = printed (of_auth (line rule none)) (codes "t") ≡ file (codes "t") text ∷ []

-- a line with an argument, and a substack, with a control that isn't a keyword's
with_substack :
    printed (of_auth (line (rule required (codes "pam_permit.so") (codes "a" ∷ [])) (sub (line (rule (control (codes "success=ok")) (codes "pam_deny.so") (codes "x y" ∷ [])) none) none))) (codes "t")
    ≡ file (codes "t") (codes "auth required pam_permit.so a\nauth substack t.1\n") ∷ file (codes "t.1") (codes "auth [success=ok] pam_deny.so [x y]\n") ∷ []
unfolding control rule one file of_auth two_stacks written printed list_lines substack_files numbered substack_line rule_line token_text ended same_control entries_among control_text digits entries_in entries_after
with_substack = refl

-- substacks in one another and in two types: each is numbered before those inside it, and these
-- before the next one of its list
numbered_depth_first :
    printed two_stacks (codes "t")
    ≡ file (codes "t") (codes "auth substack t.1\nauth required c\nsession substack t.3\n")
    ∷ file (codes "t.1") (codes "auth substack t.2\nauth required b\n")
    ∷ file (codes "t.2") (codes "auth required a\n")
    ∷ file (codes "t.3") (codes "session required d\n")
    ∷ []
unfolding control rule one file of_auth two_stacks written printed list_lines substack_files numbered substack_line rule_line token_text ended same_control entries_among control_text digits entries_in entries_after
numbered_depth_first = refl

-- a substack without nodes has an empty file
empty_substack : printed (of_auth (sub none none)) (codes "t") ≡ file (codes "t") (codes "auth substack t.1\n") ∷ file (codes "t.1") [] ∷ []
unfolding control rule one file of_auth two_stacks written printed list_lines substack_files numbered substack_line rule_line token_text ended same_control entries_among control_text digits entries_in entries_after
empty_substack = refl

-- a service without nodes
nothing : printed (of_auth none) (codes "t") ≡ file (codes "t") [] ∷ []
unfolding control rule one file of_auth two_stacks written printed list_lines substack_files numbered substack_line rule_line token_text ended same_control entries_among control_text digits entries_in entries_after
nothing = refl

-- a silent rule
silent : written (record { silent = true; control = optional; path = codes "m"; args = [] }) (codes "-auth optional m\n")
unfolding control rule one file of_auth two_stacks written printed list_lines substack_files numbered substack_line rule_line token_text ended same_control entries_among control_text digits entries_in entries_after
silent = refl

-- the entries of a keyword are the keyword, whatever their order
as_keyword : written (rule (control (codes "default=die ignore=ignore new_authtok_reqd=ok success=ok")) (codes "m") []) (codes "auth requisite m\n")
unfolding control rule one file of_auth two_stacks written printed list_lines substack_files numbered substack_line rule_line token_text ended same_control entries_among control_text digits entries_in entries_after
as_keyword = refl

-- if one action differs from a keyword's, all entries whose action isn't bad are written, in the
-- order of the codes
one_code_off : written (rule (control (codes "abort=die success=ok new_authtok_reqd=ok ignore=ignore default=bad")) (codes "m") []) (codes "auth [success=ok new_authtok_reqd=ok ignore=ignore abort=die] m\n")
unfolding control rule one file of_auth two_stacks written printed list_lines substack_files numbered substack_line rule_line token_text ended same_control entries_among control_text digits entries_in entries_after
one_code_off = refl

-- a control that is bad for every code, and one with jumps; code 21 has the word of pam.conf(5)
all_bad : written (rule (control []) (codes "m") []) (codes "auth [] m\n")
unfolding control rule one file of_auth two_stacks written printed list_lines substack_files numbered substack_line rule_line token_text ended same_control entries_among control_text digits entries_in entries_after
all_bad = refl

jumps : written (rule (control (codes "AUTHTOK_RECOVERY_ERR=007 auth_err=255 ignore=reset")) (codes "m") []) (codes "auth [auth_err=255 authtok_recover_err=7 ignore=reset] m\n")
unfolding control rule one file of_auth two_stacks written printed list_lines substack_files numbered substack_line rule_line token_text ended same_control entries_among control_text digits entries_in entries_after
jumps = refl

-- what would not be read as one token is in brackets, in which `]` is escaped
brackets : written (rule required (codes "[m") ([] ∷ codes "a]b" ∷ codes "a] b" ∷ codes "a#b" ∷ codes "a\tb" ∷ [])) (codes "auth required [[m] [] a]b [a\\] b] [a#b] [a\tb]\n")
unfolding control rule one file of_auth two_stacks written printed list_lines substack_files numbered substack_line rule_line token_text ended same_control entries_among control_text digits entries_in entries_after
brackets = refl

-- a backslash at the end of the last token gets a space after it; at the end of another token the
-- separating space is enough
last_backslash : written (rule required (codes "m\\") (codes "a\\" ∷ codes "b\\" ∷ [])) (codes "auth required m\\ a\\ b\\ \n")
unfolding control rule one file of_auth two_stacks written printed list_lines substack_files numbered substack_line rule_line token_text ended same_control entries_among control_text digits entries_in entries_after
last_backslash = refl

path_backslash : written (rule required (codes "m\\") []) (codes "auth required m\\ \n")
unfolding control rule one file of_auth two_stacks written printed list_lines substack_files numbered substack_line rule_line token_text ended same_control entries_among control_text digits entries_in entries_after
path_backslash = refl

-- ---- a configuration, the stacks that it loads to, and what is printed for them

-- the stack of auth of the first test case
first_row : Stack
first_row = line (rule required (codes "pam_permit.so") (codes "a" ∷ [])) (sub (line (rule (control (codes "success=ok")) (codes "pam_deny.so") (codes "x y" ∷ [])) none) none)

vault_of : List File → VaultState
vault_of files = record { files = map (placed_file (codes "/r")) files; locks = no_locks; calls = 0; fails = [] }

-- as it was written by hand, and as it is printed
by_hand : List File
by_hand = file (codes "t") (codes "AUTH Required pam_permit.so  a\nauth substack inner\n") ∷ file (codes "inner") (codes "auth [success=ok] pam_deny.so [x y]\n") ∷ []

as_printed : List File
as_printed = file (codes "t") (codes "auth required pam_permit.so a\nauth substack t.1\n") ∷ file (codes "t.1") (codes "auth [success=ok] pam_deny.so [x y]\n") ∷ []

-- both load to that stack alone, with two openings for it and two for each empty one
loads_by_hand : loaded (vault_of by_hand) (codes "/r") (codes "t") ≡ Ok (record { calls = 9; openings = 8; lines = 0 })
unfolding vault_of by_hand file look items nodes answer_to answer_at pieces_after first_piece units_after entry_of entries_in entries_after path_of
loads_by_hand = refl

loads_as_printed : loaded (vault_of as_printed) (codes "/r/") (codes "t") ≡ Ok (record { calls = 9; openings = 8; lines = 0 })
unfolding vault_of as_printed file look items nodes answer_to answer_at pieces_after first_piece units_after entry_of entries_in entries_after path_of
loads_as_printed = refl

stacks_by_hand : (type : RuleType) → tree (texts_of (codes "/r") (vault_of by_hand)) true (codes "t") type ≡ of_auth first_row type
unfolding vault_of by_hand of_auth first_row rule control file items nodes answer_to answer_at pieces_after first_piece units_after entry_of entries_in entries_after path_of
stacks_by_hand Auth = refl
stacks_by_hand type = refl

stacks_as_printed : (type : RuleType) → tree (texts_of (codes "/r") (vault_of as_printed)) true (codes "t") type ≡ of_auth first_row type
unfolding vault_of as_printed of_auth first_row rule control file items nodes answer_to answer_at pieces_after first_piece units_after entry_of entries_in entries_after path_of
stacks_as_printed Auth = refl
stacks_as_printed type = refl

-- the printed files are short, and a line of 4,097 bytes isn't
short_as_printed : list_all is_short as_printed ≡ true
unfolding as_printed file lines_of cut
short_as_printed = refl

long_line : is_short (file (codes "t") (replicate 4097 97 ++ codes "\n")) ≡ false
unfolding file lines_of cut
long_line = refl
