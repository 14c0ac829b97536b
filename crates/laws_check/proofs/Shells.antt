-- Whom pam_shells lets in.
use Rattle.std.proofs.Common.{◌≡◌, ◌≢◌, ℕ, Bool, true, false, if◌then◌else◌, List, Some, codes, refl}
use Rattle.pam_base.specs.declared.call.Func.{Func}
use Rattle.pam_base.specs.declared.call.Func.TheVariants.{Authenticate, SetCred, AcctMgmt, OpenSession, CloseSession, ChAuthTok}
use Rattle.pam_base.specs.declared.code.Code.TheVariants as returns
use Rattle.pam_outside.specs.Files.{file_at}
use Rattle.pam_outside.specs.Paths.{path_of}
use Rattle.pam_room.specs.Module.{NamedData, SeenRoom, Sight}
use Rattle.pam_room.specs.Say.{user_asked}
use Rattle.account_db.specs.declared.passwd.Passwd.{Passwd}
use Rattle.account_db.specs.Shells.{shells_of}
use Rattle.module_acts.specs.declared.content.Content.{Content}
use Rattle.module_acts.specs.declared.content.Content.TheVariants as content
use Rattle.module_acts.specs.Accounts.{Known, account_limit, found, missing, nothing_known, shells_in, unreadable}
use Rattle.module_acts.specs.Act.{Stage, answers, content_seen, finds_account, later, reads_file, reads_shells, unless_answered}
use Rattle.module_acts.specs.Uncheck.{code_unchecked}
use Rattle.mod_lists.specs.Shells.{checks_login_shell, checks_shell, is_listed, list_code, login_shell}
use Rattle.laws_check.specs.Account.{HasAccount}
use Rattle.laws_check.specs.Shells.{HasListedShell, ShellIsListed}
use Rattle.laws_check.proofs.UserLookupFacts.{account_found, holds, user_given}

listed_by : (b : Bool) → (if b then returns.Success else returns.AuthErr) ≡ returns.Success → b ≡ true
listed_by true e = refl
listed_by false e = absurd cc

module _ (room : SeenRoom) (held : List NamedData) (sight : Sight) where
  module _ (user : List ℕ) (user_is : (user_asked room).room.items.user ≡ Some user) where
    by_content : (account : Passwd) (c : Content) → HasAccount sight.root sight.files user account
        → ((text : List ℕ) → c ≡ content.Holds text → file_at (path_of sight.root (codes "/etc/shells")) sight.files ≡ Some text)
        → list_code (login_shell account.shell) (shells_in c) ≡ returns.Success → HasListedShell sight.root sight.files room
    by_content account content.Absent h is e = absurd cc
    by_content account content.Unreadable h is e = absurd cc
    by_content account (content.Holds text) h is e = record {
      user = user;
      user_is = user_is;
      account = account;
      has_account = h;
      shells = text;
      shells_is = is text refl;
      listed = listed_by (is_listed (login_shell account.shell) (shells_of text)) e;
    }

    shells_read : (account : Passwd) (known : Known) → HasAccount sight.root sight.files user account
        → (checks_login_shell (found account) (record { room = (user_asked room).room; held = held; known = known; sight = later sight })).code
        ≡ returns.Success → HasListedShell sight.root sight.files room
    unfolding reads_shells reads_file answers
    shells_read account known h e =
        by_content account (content_seen (codes "/etc/shells") account_limit (later sight)) h
        (λ text k. holds (sight.failing 1) account_limit (file_at (path_of sight.root (codes "/etc/shells")) sight.files) text k) e

    not_missing : (known : Known) → (checks_login_shell missing (record {
      room = (user_asked room).room;
      held = held;
      known = known;
      sight = later sight;
    })).code ≡ returns.Success → ⊥
    unfolding answers
    not_missing known e = absurd cc

    not_unreadable : (known : Known) → (checks_login_shell unreadable (record {
      room = (user_asked room).room;
      held = held;
      known = known;
      sight = later sight;
    })).code ≡ returns.Success → ⊥
    unfolding answers
    not_unreadable known e = absurd cc

    looked : (finds_account user checks_login_shell (record { room = (user_asked room).room; held = held; known = nothing_known; sight = sight })).code
        ≡ returns.Success → HasListedShell sight.root sight.files room
    looked e = account_found returns.Success (HasListedShell sight.root sight.files room) user checks_login_shell (user_asked room).room held sight shells_read
        not_missing not_unreadable e

  abbrev start : Stage
  start = record { room = room; held = held; known = nothing_known; sight = sight }

  not_conv : returns.ConvErr ≡ returns.Success → ⊥
  not_conv e = absurd cc

  checked : (checks_shell start).code ≡ returns.Success → HasListedShell sight.root sight.files room
  checked e = user_given returns.Success (HasListedShell sight.root sight.files room) (λ user. finds_account user checks_login_shell) start not_conv e looked

  by_func : (f : Func) → f ≢ SetCred → (unless_answered (code_unchecked f returns.Success) checks_shell start).code ≡ returns.Success
      → HasListedShell sight.root sight.files room
  unfolding answers
  by_func Authenticate n e = checked e
  by_func AcctMgmt n e = checked e
  by_func SetCred n e = absurd (n refl)
  by_func OpenSession n e = absurd cc
  by_func CloseSession n e = absurd cc
  by_func ChAuthTok n e = absurd cc

pub shell_is_listed : ShellIsListed
shell_is_listed call room held sight n e = by_func room held sight call.func n e
