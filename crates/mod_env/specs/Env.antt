-- pam_env(8): variables are set by two files, pam_env.conf(5) and environment(5).
--
-- Its steps, from the entry point on:
--   `env_act`, `reads_first`, `after_conf`: pam_env.conf is read
--   `reads_second`: and the other file
--   `sets_by_texts`, `sets_if_well_formed`: nothing is set if a line is malformed
--   `sets_all`, `sets_variable`: the variables of pam_env.conf
--   `looks_if`, `finds_entry`: the user's entry, if a value needs it
--   `sets_by`, `puts_expansion`: unless the value is too long
--   `puts_if_all_fit`, `puts_all`: those of the other file
use Rattle.std.specs.Prelude.{ℕ, Bool, true, false, if◌then◌else◌, List, [], ◌∷◌, Option, Some, None, unwrap_or, codes}
use Rattle.std.specs.Str.{bytes_eq}
use Rattle.pam_base.specs.declared.code.Code.{Code}
use Rattle.pam_base.specs.declared.code.Code.TheVariants as returns
use Rattle.pam_base.specs.declared.call.Func.{Func}
use Rattle.pam_base.specs.declared.call.Func.TheVariants.{Authenticate, SetCred, AcctMgmt, OpenSession, CloseSession, ChAuthTok}
use Rattle.env_list.specs.Environment.{Variable, after_put, is_refused}
use Rattle.module_acts.specs.pam_room.specs.Call.{PlainCall, value_among}
use Rattle.module_acts.specs.pam_room.specs.Module.{Plays}
use Rattle.account_db.specs.declared.passwd.Passwd.{Passwd}
use Rattle.module_acts.specs.declared.content.Content.{Content}
use Rattle.module_acts.specs.declared.content.Content.TheVariants.{Absent, Unreadable, Holds}
use Rattle.module_acts.specs.Accounts.{Account, Known, account_in, found, known_passwds, missing, unreadable}
use Rattle.module_acts.specs.Act.{Act, answers, finds_account, in_room, plays_by, reads_file, sees_items, unless_answered}
use Rattle.mod_env.specs.declared.conf.EnvLine.{EnvLine}
use Rattle.mod_env.specs.declared.expand.Expansion.{Expansion}
use Rattle.mod_env.specs.declared.expand.Expansion.TheVariants.{TooLong, Puts}
use Rattle.mod_env.specs.Conf.{conf_of}
use Rattle.mod_env.specs.EnvFile.{assignments_of}
use Rattle.mod_env.specs.Expand.{Sources, asks_account, expansion_of}

-- ---- the environment

-- the environment of the transaction is seen
unfoldable pub sees_env : (List Variable → Act) → Act
sees_env act stage = act stage.room.env stage

-- the environment after a text is put (pam_putenv(3)); it is unchanged if the text is refused
unfoldable pub put_in : List ℕ → List Variable → List Variable
put_in text env = if is_refused text env then env else after_put text env

unfoldable pub puts_env : List ℕ → Act → Act
puts_env text act stage =
    act (in_room (record stage.room { env = put_in text stage.room.env }) stage)

-- ---- one variable of pam_env.conf

abbrev pub entry_in : Account → Option Passwd
entry_in (found entry) = Some entry
entry_in missing = None
entry_in unreadable = None

-- the user's entry is looked up if USER is set
abbrev pub finds_entry : Option (List ℕ) → (Option Passwd → Act) → Act
finds_entry (Some user) act = finds_account user (λ account. act (entry_in account))
finds_entry None act = act None

-- what is known of the entry then
abbrev pub entry_known : Option (List ℕ) → Known → Option Passwd
entry_known (Some user) known = entry_in (account_in user (known_passwds known))
entry_known None known = None

abbrev pub entry_seen : Bool → Option (List ℕ) → Known → Option Passwd
entry_seen true user known = entry_known user known
entry_seen false user known = None

-- the entry is looked up if a value needs it
abbrev pub looks_if : Bool → (Option Passwd → Act) → Act
looks_if true act = sees_items (λ items. finds_entry items.user act)
looks_if false act = act None

-- whether the variable was set: a value that is too long isn't
abbrev pub puts_expansion : Expansion → (Bool → Act) → Act
puts_expansion (Puts text) act = puts_env text (act true)
puts_expansion TooLong act = act false

abbrev pub sees_sources : Option Passwd → (Sources → Act) → Act
sees_sources entry act =
    sees_items (λ items. sees_env (λ env. act (record { items = items; env = env; entry = entry })))

unfoldable pub sets_by : EnvLine → Option Passwd → (Bool → Act) → Act
sets_by entry account act = sees_sources account (λ from. puts_expansion (expansion_of entry from) act)

unfoldable pub sets_variable : EnvLine → (Bool → Act) → Act
sets_variable entry act = looks_if (asks_account entry) (λ account. sets_by entry account act)

-- ---- both files

-- the variables are set in order, up to one whose value is too long: whether all were
abbrev pub sets_all : List EnvLine → (Bool → Act) → Act
sets_all [] act = act true
sets_all (entry ∷ entries) act =
    sets_variable entry (λ fits. if fits then sets_all entries act else act false)

abbrev pub puts_all : List (List ℕ) → Act → Act
puts_all [] act = act
puts_all (text ∷ texts) act = puts_env text (puts_all texts act)

-- the text of a file; one that doesn't exist counts as empty
abbrev pub text_in : Content → Option (List ℕ)
text_in Absent = Some []
text_in Unreadable = None
text_in (Holds text) = Some text

-- if a value is too long, BUF_ERR is returned at once, and the second file sets nothing
abbrev pub puts_if_all_fit : List (List ℕ) → Bool → Act
puts_if_all_fit assignments true = puts_all assignments (answers returns.Success)
puts_if_all_fit assignments false = answers returns.BufErr

-- if a line of pam_env.conf is malformed, SERVICE_ERR is returned, and nothing is set
abbrev pub sets_if_well_formed : Option (List EnvLine) → List (List ℕ) → Act
sets_if_well_formed (Some entries) assignments = sets_all entries (puts_if_all_fit assignments)
sets_if_well_formed None assignments = answers returns.ServiceErr

abbrev pub sets_by_texts : List ℕ → Option (List ℕ) → Act
sets_by_texts conf (Some env) = sets_if_well_formed (conf_of conf) (assignments_of env)
sets_by_texts conf None = answers returns.ServiceErr

-- the maximum number of bytes of either file
abbrev pub env_limit : ℕ
env_limit = 65536

abbrev pub is_zero : Option (List ℕ) → Bool
is_zero (Some word) = bytes_eq word (codes "0")
is_zero None = false

-- with `readenv=0` the second file isn't read
abbrev pub reads_second : Bool → List (List ℕ) → List ℕ → Act
reads_second true args conf = sets_by_texts conf (Some [])
reads_second false args conf =
    reads_file (unwrap_or (value_among (codes "envfile=") args) (codes "/etc/environment"))
    env_limit (λ content. sets_by_texts conf (text_in content))

abbrev pub after_conf : List (List ℕ) → Option (List ℕ) → Act
after_conf args (Some conf) = reads_second (is_zero (value_among (codes "readenv=") args)) args conf
after_conf args None = answers returns.ServiceErr

abbrev pub reads_first : List (List ℕ) → Act
reads_first args =
    reads_file
    (unwrap_or (value_among (codes "conffile=") args) (codes "/etc/security/pam_env.conf"))
    env_limit (λ content. after_conf args (text_in content))

-- ---- the module

-- only setcred and open_session set variables
abbrev pub at_once : Func → Option Code
at_once Authenticate = Some returns.Ignore
at_once SetCred = None
at_once AcctMgmt = Some returns.ServiceErr
at_once OpenSession = None
at_once CloseSession = Some returns.Success
at_once ChAuthTok = Some returns.ServiceErr

abbrev pub env_act : PlainCall → Act
env_act call = unless_answered (at_once call.func) (reads_first call.args)

abbrev pub env_plays : Plays
env_plays = plays_by env_act
