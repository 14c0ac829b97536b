-- pam_securetty(8): whether root logs in at a terminal that is listed as secure (securetty(5)).
--
-- Its steps, from the entry point on:
--   `securetty_act`, `checks_terminal`: the user is asked for, and looked up
--   `terminal_for_account`, `checks_if_root`: only root is tested
--   `checks_root`, `looks_up_terminal`: the list is read
--   `terminal_code`: whether the terminal is listed
use Rattle.std.specs.Prelude.{ℕ, Bool, true, false, ◌==◌, if◌then◌else◌, List, [], ◌∷◌, Option, Some, None, codes, unwrap_or}
use Rattle.std.specs.List.{list_any}
use Rattle.std.specs.Str.{bytes_eq}
use Rattle.pam_base.specs.Lines.{lines_of}
use Rattle.pam_base.specs.declared.code.Code.{Code}
use Rattle.pam_base.specs.declared.code.Code.TheVariants.{Success, ServiceErr, AuthErr, UserUnknown}
use Rattle.pam_room.specs.Call.{PlainCall, value_in}
use Rattle.pam_room.specs.Module.{Plays}
use Rattle.account_db.specs.Shells.{without_end}
use Rattle.module_acts.specs.declared.content.Content.{Content}
use Rattle.module_acts.specs.declared.content.Content.TheVariants.{Absent, Unreadable, Holds}
use Rattle.module_acts.specs.Accounts.{Account, account_limit, found, missing, unreadable}
use Rattle.module_acts.specs.Act.{Act, answers, asks_user, finds_account, plays_by, reads_file, sees_items, unless_answered}
use Rattle.module_acts.specs.Uncheck.{code_unchecked}

-- a terminal's name, without a leading /dev/
abbrev pub terminal_name : List ℕ → List ℕ
terminal_name tty = unwrap_or (value_in (codes "/dev/") tty) tty

-- whether a line names the terminal; an empty line names none
abbrev pub is_terminal : List ℕ → List ℕ → Bool
is_terminal name [] = false
is_terminal name (b ∷ bs) = bytes_eq (b ∷ bs) name

-- a line counts without white space at its end
unfoldable pub is_secure : List ℕ → List ℕ → Bool
is_secure name text = list_any (λ line. is_terminal name (without_end line)) (lines_of text)

-- if there is no list, every terminal is secure
abbrev pub terminal_code : List ℕ → Content → Code
terminal_code name Absent = Success
terminal_code name Unreadable = ServiceErr
terminal_code name (Holds text) = if is_secure name text then Success else AuthErr

abbrev pub looks_up_terminal : Option (List ℕ) → Act
looks_up_terminal None = answers ServiceErr
looks_up_terminal (Some tty) = reads_file (codes "/etc/securetty") account_limit (λ content.
    answers (terminal_code (terminal_name tty) content))

abbrev pub checks_root : Act
checks_root = sees_items (λ items. looks_up_terminal items.tty)

-- every user except root may log in anywhere
abbrev pub checks_if_root : Bool → Act
checks_if_root true = checks_root
checks_if_root false = answers Success

abbrev pub terminal_for_account : Account → Act
terminal_for_account unreadable = answers ServiceErr
terminal_for_account missing = answers UserUnknown
terminal_for_account (found entry) = checks_if_root (entry.uid == 0)

-- the user is asked for, and looked up
abbrev pub checks_terminal : Act
checks_terminal = asks_user (λ user. finds_account user terminal_for_account)

-- setcred returns SUCCESS at once
abbrev pub securetty_act : PlainCall → Act
securetty_act call = unless_answered (code_unchecked call.func Success) checks_terminal

abbrev pub securetty_plays : Plays
securetty_plays = plays_by securetty_act
