-- Test cases: configurations, computed on the definitions.
use Rattle.std.proofs.Common.{◌≡◌, ℕ, true, false, cond, List, [], ◌∷◌, ◌++◌, Option, Some, None, Ok, Err, refl, ◌+◌}
use Rattle.std.specs.Prelude.{codes}
use Rattle.std.specs.Str.{bytes_eq}
use Rattle.pam_base.specs.declared.fault.FaultKind.{FaultKind}
use Rattle.pam_base.specs.declared.fault.FaultKind.TheVariants.{OpenBracket, BadReturnName, BadAction, ZeroJump, BadType, MissingField, IncludeAbsent, TooDeep, TooManyFiles, NoService, ReadFailed}
use Rattle.control_words.specs.declared.control.Action.{Action}
use Rattle.control_words.specs.Entries.{entries_after, entries_in}
use Rattle.control_words.specs.Keyword.{required, optional}
use Rattle.control_words.specs.Stack.{Stack, none, line, sub}
use Rattle.control_words.specs.conf_lex.specs.Reading.{units_after, first_piece, pieces_after}
use Rattle.control_words.specs.conf_lex.specs.Lexing.{answer_at}
use Rattle.control_words.specs.conf_lex.specs.Answer.{answer_to}
use Rattle.service_load.specs.declared.rule_type.RuleType.TheVariants.{Auth, Account}
use Rattle.service_load.specs.Entry.{entry_of}
use Rattle.service_load.specs.Tree.{nodes, tree}
use Rattle.service_load.specs.Order.{items, order}
use Rattle.service_load.specs.FirstFault.{Counts, look, fault_at}

-- the files by their names
abbrev Texts : Type 0
Texts = List ℕ → Option (List ℕ)

-- no file
empty : Texts
empty name = None

-- one more file
with_file : List ℕ → List ℕ → Texts → Texts
with_file name text others other = cond (bytes_eq other name) (Some text) (others other)

-- one more file in the directory
with_service : List ℕ → List ℕ → Texts → Texts
with_service name text others = with_file (codes "/etc/pam.d/" ++ name) text others

start : Counts
start = record { calls = 1; openings = 0; lines = 0 }

-- the service t of this file alone
alone : List ℕ → Texts
alone text = with_service (codes "t") text empty

-- the load of t is refused, after n calls of `Vault`
IsRefused : Texts → List ℕ → List ℕ → ℕ → ℕ → FaultKind → Type 0
IsRefused texts fails file calls number kind = look texts fails start (order texts true (codes "t")) ≡ Err (record { fault = fault_at file number kind; calls = calls })

-- the load of t isn't refused, and has asked for n openings
IsLoaded : Texts → ℕ → Type 0
IsLoaded texts openings = look texts [] start (order texts true (codes "t")) ≡ Ok (record { calls = openings + 1; openings = openings; lines = 0 })

-- a line of one module without arguments
one : List Action → List ℕ → Stack → Stack
one control path more = line (record { silent = false; control = control; path = path; args = [] }) more

-- files that each include the next, from l1 on, the last of which has this text
chain : List ℕ → Texts
chain last =
    with_service (codes "t") (codes "auth include l1") (with_service (codes "l1") (codes "auth include l2") (with_service (codes "l2") (codes "auth include l3") (with_service (codes "l3") (codes "auth include l4") (
    with_service (codes "l4") (codes "auth include l5") (with_service (codes "l5") (codes "auth include l6") (with_service (codes "l6") (codes "auth include l7") (with_service (codes "l7") (codes "auth include l8") (
    with_service (codes "l8") (codes "auth include l9") (with_service (codes "l9") (codes "auth include l10") (with_service (codes "l10") (codes "auth include l11") (with_service (codes "l11") (codes "auth include l12") (
    with_service (codes "l12") (codes "auth include l13") (with_service (codes "l13") (codes "auth include l14") (with_service (codes "l14") (codes "auth include l15") (with_service (codes "l15") (codes "auth include l16") (
    with_service (codes "l16") last empty))))))))))))))))

-- files that each include the next twice, from l1 to l8, which is empty
doubled : Texts
doubled =
    with_service (codes "t") (codes "auth include l1\nauth include l1\n") (with_service (codes "l1") (codes "auth include l2\nauth include l2\n") (
    with_service (codes "l2") (codes "auth include l3\nauth include l3\n") (with_service (codes "l3") (codes "auth include l4\nauth include l4\n") (
    with_service (codes "l4") (codes "auth include l5\nauth include l5\n") (with_service (codes "l5") (codes "auth include l6\nauth include l6\n") (
    with_service (codes "l6") (codes "auth include l7\nauth include l7\n") (with_service (codes "l7") (codes "auth include l8\nauth include l8\n") (
    with_service (codes "l8") [] empty))))))))

-- a jump over no node
zero_jump : IsRefused (alone (codes "auth [success=0] pam_permit.so")) [] (codes "/etc/pam.d/t") 2 1 ZeroJump
unfolding IsRefused IsLoaded alone with_service with_file empty start one chain doubled look items nodes answer_to answer_at pieces_after first_piece units_after entry_of entries_in entries_after
zero_jump = refl

-- a name that isn't a code's
bad_name : IsRefused (alone (codes "auth [succes=ok] pam_permit.so")) [] (codes "/etc/pam.d/t") 2 1 BadReturnName
unfolding IsRefused IsLoaded alone with_service with_file empty start one chain doubled look items nodes answer_to answer_at pieces_after first_piece units_after entry_of entries_in entries_after
bad_name = refl

-- a bracket that is open at the file's end
open_bracket : IsRefused (alone (codes "auth [success=ok")) [] (codes "/etc/pam.d/t") 2 1 OpenBracket
unfolding IsRefused IsLoaded alone with_service with_file empty start one chain doubled look items nodes answer_to answer_at pieces_after first_piece units_after entry_of entries_in entries_after
open_bracket = refl

-- a type alone
no_control : IsRefused (alone (codes "-auth")) [] (codes "/etc/pam.d/t") 2 1 MissingField
unfolding IsRefused IsLoaded alone with_service with_file empty start one chain doubled look items nodes answer_to answer_at pieces_after first_piece units_after entry_of entries_in entries_after
no_control = refl

-- a number above 255
too_far : IsRefused (alone (codes "auth [success=256] p")) [] (codes "/etc/pam.d/t") 2 1 BadAction
unfolding IsRefused IsLoaded alone with_service with_file empty start one chain doubled look items nodes answer_to answer_at pieces_after first_piece units_after entry_of entries_in entries_after
too_far = refl

-- a file that includes itself
itself : IsRefused (alone (codes "auth include t")) [] (codes "/etc/pam.d/t") 18 1 TooDeep
unfolding IsRefused IsLoaded alone with_service with_file empty start one chain doubled look items nodes answer_to answer_at pieces_after first_piece units_after entry_of entries_in entries_after
itself = refl

-- an included file that doesn't exist
no_include : IsRefused (alone (codes "\nauth include u")) [] (codes "/etc/pam.d/t") 3 2 IncludeAbsent
unfolding IsRefused IsLoaded alone with_service with_file empty start one chain doubled look items nodes answer_to answer_at pieces_after first_piece units_after entry_of entries_in entries_after
no_include = refl

-- no service, and no `other`
no_service : IsRefused (with_service (codes "x") [] empty) [] (codes "/etc/pam.d/t") 3 0 NoService
unfolding IsRefused IsLoaded alone with_service with_file empty start one chain doubled look items nodes answer_to answer_at pieces_after first_piece units_after entry_of entries_in entries_after
no_service = refl

-- the faults of all rules come before what a rule includes
checked_first : IsRefused (alone (codes "auth include u\nauht")) [] (codes "/etc/pam.d/t") 2 2 BadType
unfolding IsRefused IsLoaded alone with_service with_file empty start one chain doubled look items nodes answer_to answer_at pieces_after first_piece units_after entry_of entries_in entries_after
checked_first = refl

-- the opening of the service fails
service_unread : IsRefused (alone (codes "auth required pam_permit.so")) (2 ∷ []) (codes "/etc/pam.d/t") 2 0 ReadFailed
unfolding IsRefused IsLoaded alone with_service with_file empty start one chain doubled look items nodes answer_to answer_at pieces_after first_piece units_after entry_of entries_in entries_after
service_unread = refl

-- the second opening for the type account fails: that of `other`
other_unread : IsRefused (alone (codes "auth required pam_permit.so")) (4 ∷ []) (codes "/etc/pam.d/other") 4 0 ReadFailed
unfolding IsRefused IsLoaded alone with_service with_file empty start one chain doubled look items nodes answer_to answer_at pieces_after first_piece units_after entry_of entries_in entries_after
other_unread = refl

-- this load makes no ninth call
eight_calls : IsLoaded (alone (codes "auth required pam_permit.so")) 7
unfolding IsRefused IsLoaded alone with_service with_file empty start one chain doubled look items nodes answer_to answer_at pieces_after first_piece units_after entry_of entries_in entries_after
eight_calls = refl

-- one line of the type auth
one_line : tree (alone (codes "auth required pam_permit.so")) true (codes "t") Auth ≡ one required (codes "pam_permit.so") none
unfolding IsRefused IsLoaded alone with_service with_file empty start one chain doubled look items nodes answer_to answer_at pieces_after first_piece units_after entry_of entries_in entries_after
one_line = refl

-- a join in the control, and a comment
join_in_control : tree (alone (codes "auth [success=ok new_authtok_reqd=ok\\\n default=ignore] pam_permit.so # x")) true (codes "T") Auth ≡ one optional (codes "pam_permit.so") none
unfolding IsRefused IsLoaded alone with_service with_file empty start one chain doubled look items nodes answer_to answer_at pieces_after first_piece units_after entry_of entries_in entries_after
join_in_control = refl

-- sixteen levels
sixteen_levels : IsLoaded (chain (codes "auth required pam_permit.so")) 23
unfolding IsRefused IsLoaded alone with_service with_file empty start one chain doubled look items nodes answer_to answer_at pieces_after first_piece units_after entry_of entries_in entries_after
sixteen_levels = refl

-- and their result
sixteen_deep : tree (chain (codes "auth required pam_permit.so")) true (codes "t") Auth ≡ one required (codes "pam_permit.so") none
unfolding IsRefused IsLoaded alone with_service with_file empty start one chain doubled look items nodes answer_to answer_at pieces_after first_piece units_after entry_of entries_in entries_after
sixteen_deep = refl

-- a seventeenth level
seventeen_levels : IsRefused (chain (codes "auth include l17")) [] (codes "/etc/pam.d/l16") 18 1 TooDeep
unfolding IsRefused IsLoaded alone with_service with_file empty start one chain doubled look items nodes answer_to answer_at pieces_after first_piece units_after entry_of entries_in entries_after
seventeen_levels = refl

-- `other` for the type that the service lacks
other_for_account : tree (with_service (codes "t") (codes "auth required a") (with_service (codes "other") (codes "account required b\nauth required c") empty)) true (codes "t") Account ≡ one required (codes "b") none
unfolding IsRefused IsLoaded alone with_service with_file empty start one chain doubled look items nodes answer_to answer_at pieces_after first_piece units_after entry_of entries_in entries_after
other_for_account = refl

-- a substack, in mixed case
substack : tree (with_service (codes "t") (codes "AUTH Required pam_permit.so\nauth substack inner") (with_service (codes "inner") (codes "auth required pam_deny.so") empty)) true (codes "t") Auth ≡ one required (codes "pam_permit.so") (sub (one required (codes "pam_deny.so") none) none)
unfolding IsRefused IsLoaded alone with_service with_file empty start one chain doubled look items nodes answer_to answer_at pieces_after first_piece units_after entry_of entries_in entries_after
substack = refl

-- pam.conf, and its service in mixed case
conf_service : tree (with_file (codes "/etc/pam.conf") (codes "T auth required pam_permit.so\nother auth required pam_deny.so") empty) false (codes "t") Auth ≡ one required (codes "pam_permit.so") none
unfolding IsRefused IsLoaded alone with_service with_file empty start one chain doubled look items nodes answer_to answer_at pieces_after first_piece units_after entry_of entries_in entries_after
conf_service = refl

-- pam.conf, and `other` in it
conf_other : tree (with_file (codes "/etc/pam.conf") (codes "T auth required pam_permit.so\nother auth required pam_deny.so") empty) false (codes "zz") Auth ≡ one required (codes "pam_deny.so") none
unfolding IsRefused IsLoaded alone with_service with_file empty start one chain doubled look items nodes answer_to answer_at pieces_after first_piece units_after entry_of entries_in entries_after
conf_other = refl

-- the 257th opening
too_many_files : IsRefused doubled [] (codes "/etc/pam.d/t") 257 2 TooManyFiles
unfolding IsRefused IsLoaded alone with_service with_file empty start one chain doubled look items nodes answer_to answer_at pieces_after first_piece units_after entry_of entries_in entries_after
too_many_files = refl
