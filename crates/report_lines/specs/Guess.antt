-- How a line of a report is read (this project's own): what it may say is guessed from its words,
-- and is returned if that is printed as the line.
use Rattle.std.specs.Prelude.{ℕ, ◌^◌, Bool, true, nat_lt, if◌then◌else◌, List, [], ◌∷◌, ◌++◌, codes, Option, Some, None}
use Rattle.std.specs.Char.{is_ascii_digit}
use Rattle.std.specs.List.{list_all}
use Rattle.std.specs.Str.{bytes_eq}
use Rattle.pam_base.specs.Bytes.{has_byte}
use Rattle.service_load.specs.declared.load_fault.LoadFault.{LoadFault}
use Rattle.service_load.specs.FirstFault.{fault_at}
use Rattle.handler_chain.specs.Retell.{RecordedLine, seen_at}
use Rattle.report_lines.specs.Line.{Cleanup, ToldLine, told_message, told_visit, told_cleanup, told_wait, told_missing, told_variable, Shown, shows_code, shows_fault, shows_value, shows_count, shows_not_open, shows_already_open, shows_bad_number, shows_pending, Result, answered, closed_by_program, Last, unread, refused_at}
use Rattle.report_lines.specs.Says.{Says, tells, results, lasts, says_text}
use Rattle.report_lines.specs.Words.{before_space, after_space, last_word, before_last, guessed_number, guessed_status, unquoted, guessed_code, guessed_style, guessed_fault, guessed_script_fault, guessed_func, guessed_command}

-- ---- what is reported before a result, after H and the line's word

-- STYLE TEXT
abbrev pub guessed_message : List ℕ → ToldLine
guessed_message words = told_message (guessed_style (guessed_number (before_space words)))
    (unquoted (after_space words))

-- RULE MODULE NAME NUMBER; the module's name may hold spaces, so what follows it is cut off from the end
abbrev pub guessed_seen : List ℕ → RecordedLine
guessed_seen words =
    let named = before_last (after_space words) in
    seen_at (guessed_number (before_space words)) (unquoted (before_last named))
    (guessed_code (last_word named))

-- ID STATUS NOTE MODULE DATA; if a name has spaces, any of them may separate the two
abbrev pub guessed_cleanup : List ℕ → Cleanup
guessed_cleanup words =
    let after_id = after_space words in
    let after_status = after_space after_id in
    let names = unquoted (after_space after_status) in
    record {
      id = guessed_number (before_space words);
      status = guessed_status (before_space after_id);
      note = guessed_number (before_space after_status);
      owner = before_space names;
      datum = after_space names;
    }

-- NAME NUMBER ASKED WAIT
abbrev pub guessed_wait : List ℕ → ToldLine
guessed_wait words =
    let past_code = after_space (after_space words) in
    told_wait (guessed_code (before_space words)) (guessed_number (before_space past_code))
    (guessed_number (after_space past_code))

-- by the line's word; None if it is the word of a result
abbrev pub guessed_told : List ℕ → List ℕ → Option ToldLine
guessed_told word words =
    if bytes_eq word (codes "say") then Some (guessed_message words)
    else if bytes_eq word (codes "line") then Some (told_visit (guessed_seen words))
    else if bytes_eq word (codes "clean") then Some (told_cleanup (guessed_cleanup words))
    else if bytes_eq word (codes "wait") then Some (guessed_wait words)
    else if bytes_eq word (codes "note") then Some (told_missing (unquoted (after_space words)))
    else if bytes_eq word (codes "env") then Some (told_variable (unquoted words))
    else None

-- ---- results, after H and the command

-- refused FILE LINE NAME NUMBER, its first word left out
abbrev pub guessed_refusal : List ℕ → LoadFault
guessed_refusal words =
    let named = before_last words in
    let placed = before_last named in
    fault_at (unquoted (before_last placed)) (guessed_number (last_word placed))
    (guessed_fault (last_word named))

-- NAME NUMBER, or ABORT 26 pending NAME
abbrev pub answer_by : List ℕ → List ℕ → Shown
answer_by words past_code =
    if bytes_eq (before_space past_code) (codes "pending")
    then shows_pending (guessed_func (after_space past_code))
    else shows_code (guessed_code (before_space words))

abbrev pub guessed_answer : List ℕ → Shown
guessed_answer words = answer_by words (after_space (after_space words))

abbrev pub by_keyword : List ℕ → List ℕ → Shown
by_keyword word words =
    if bytes_eq word (codes "refused") then shows_fault (guessed_refusal (after_space words))
    else if bytes_eq word (codes "set") then shows_value (Some (unquoted (after_space words)))
    else if bytes_eq word (codes "unset") then shows_value None
    else if bytes_eq word (codes "not") then shows_not_open
    else if bytes_eq word (codes "already") then shows_already_open
    else if bytes_eq word (codes "bad") then shows_bad_number
    else guessed_answer words

abbrev pub guessed_by : List ℕ → List ℕ → Shown
guessed_by word words =
    if list_all is_ascii_digit word then shows_count (guessed_number word)
    else by_keyword word words

abbrev pub guessed_shown : List ℕ → Shown
guessed_shown words = guessed_by (before_space words) words

-- by the line's word
abbrev pub guessed_result : List ℕ → List ℕ → Result
guessed_result word words =
    if bytes_eq word (codes "closed") then closed_by_program (guessed_code (before_space words))
    else answered (guessed_command word) (guessed_shown words)

-- ---- the last line of a run that couldn't go on

abbrev pub guessed_last : List ℕ → Last
guessed_last line =
    if bytes_eq line (codes "read fault") then unread
    else (let words = after_space line in refused_at (guessed_number (before_space words))
    (guessed_script_fault (before_space (after_space words))))

-- ---- a line, without its newline

-- what was guessed, if it is printed as the line
unfoldable pub if_printed : List ℕ → Says → Option Says
if_printed line s = if bytes_eq (says_text s) (line ++ 10 ∷ []) then Some s else None

-- a variable has a `=`; everything else is in its range because of how it is guessed
abbrev pub has_form : ToldLine → Bool
has_form (told_variable text) = has_byte 61 text
has_form t = true

abbrev pub told_or : List ℕ → ℕ → Option ToldLine → Result → Option Says
told_or line number (Some t) result = if has_form t then if_printed line (tells number t) else None
told_or line number None result = if_printed line (results number result)

abbrev pub read_numbered : List ℕ → ℕ → List ℕ → List ℕ → Option Says
read_numbered line number word words =
    if nat_lt number (2 ^ 32)
    then told_or line number (guessed_told word words) (guessed_result word words) else None

abbrev pub read_line : List ℕ → Option Says
read_line line =
    let after_number = after_space line in
    if list_all is_ascii_digit (before_space line)
    then read_numbered line (guessed_number (before_space line)) (before_space after_number)
    (after_space after_number)
    else if_printed line (lasts (guessed_last line))
