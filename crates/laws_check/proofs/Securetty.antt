-- Where pam_securetty lets root in.
use Rattle.std.proofs.Common.{◌≡◌, ◌≢◌, inl, inr, ℕ, Bool, true, false, true≢false, ◌==◌, ◌||◌, if◌then◌else◌, List, [], ◌∷◌, Option, Some}
use Rattle.std.proofs.Common.{None, Ok, Err, codes, refl, sym, ap, ◌∙◌}
use Rattle.pam_base.specs.declared.call.Func.{Func}
use Rattle.pam_base.specs.declared.call.Func.TheVariants.{Authenticate, SetCred, AcctMgmt, OpenSession, CloseSession, ChAuthTok}
use Rattle.pam_base.specs.declared.code.Code.TheVariants as returns
use Rattle.pam_base.specs.declared.item.ItemName.TheVariants.{User}
use Rattle.pam_base.specs.declared.style.Style.TheVariants.{EchoOn}
use Rattle.pam_outside.specs.Files.{file_at}
use Rattle.pam_outside.specs.Paths.{path_of}
use Rattle.conv_port.specs.Conv.{first_text, has_replies, ready_replies, starts_with_mark}
use Rattle.conv_port.specs.declared.conv.ConvFault.TheVariants as faults
use Rattle.pam_room.specs.Module.{NamedData, SeenRoom, Sight}
use Rattle.pam_room.specs.Say.{asked_by, login_prompt, speak, user_asked, user_or_ask}
use Rattle.account_db.specs.declared.passwd.Passwd.{Passwd}
use Rattle.module_acts.specs.declared.content.Content.{Content}
use Rattle.module_acts.specs.declared.content.Content.TheVariants as content
use Rattle.module_acts.specs.Accounts.{Known, account_limit, found, missing, nothing_known, unreadable}
use Rattle.module_acts.specs.Act.{Stage, answers, content_seen, finds_account, later, reads_file, sees_items, unless_answered}
use Rattle.module_acts.specs.Uncheck.{code_unchecked}
use Rattle.mod_history.specs.Securetty.{terminal_for_account, terminal_code, checks_if_root, looks_up_terminal, checks_terminal, is_secure, terminal_name}
use Rattle.laws_check.specs.Account.{HasAccount}
use Rattle.laws_check.specs.Securetty.{IsSecure, MayLogIn, RootIsThere}
use Rattle.laws_check.proofs.UserLookupFacts.{absent, account_found, holds, user_given}

-- ---- a prompt leaves TTY as it is

tty_by : (has again : Bool) (text : List ℕ) (room : SeenRoom)
    → (asked_by User (if has then Ok (record { text = text } ∷ []) else if again then Err faults.Again else Err faults.Gone) room).room.items.tty
    ≡ room.items.tty
tty_by true again text room = refl
tty_by false true text room = refl
tty_by false false text room = refl

tty_stays : (name : Option (List ℕ)) (room : SeenRoom) → (user_or_ask name room).room.items.tty ≡ room.items.tty
tty_stays (Some user) room = refl
tty_stays None room =
    let messages = record { style = EchoOn; text = login_prompt room.items.user_prompt } ∷ [] in
    tty_by (has_replies room.conv messages) (room.conv.waits || starts_with_mark room.conv.offers) (first_text (ready_replies room.conv.offers))
    (speak messages room).room

-- ---- the account

listed_by : (b : Bool) → (if b then returns.Success else returns.AuthErr) ≡ returns.Success → b ≡ true
listed_by true e = refl
listed_by false e = absurd cc

module _ (room : SeenRoom) (held : List NamedData) (sight : Sight) where
  module _ (user : List ℕ) (user_is : (user_asked room).room.items.user ≡ Some user) where
    abbrev at : Known → Stage
    at known = record { room = (user_asked room).room; held = held; known = known; sight = later sight }

    by_content : (tty : List ℕ) (c : Content) → room.items.tty ≡ Some tty
        → (c ≡ content.Absent → file_at (path_of sight.root (codes "/etc/securetty")) sight.files ≡ None)
        → ((text : List ℕ) → c ≡ content.Holds text → file_at (path_of sight.root (codes "/etc/securetty")) sight.files ≡ Some text)
        → terminal_code (terminal_name tty) c ≡ returns.Success → IsSecure sight.root sight.files room
    by_content tty content.Absent is none some e = record { tty = tty; tty_is = is; secure = inl (none refl) }
    by_content tty content.Unreadable is none some e = absurd cc
    by_content tty (content.Holds text) is none some e =
        record {
          tty = tty;
          tty_is = is;
          secure = inr (record {
            list = text;
            list_is = some text refl;
            listed = listed_by (is_secure (terminal_name tty) text) e;
          });
        }

    at_terminal : (name : Option (List ℕ)) (known : Known) → room.items.tty ≡ name → (looks_up_terminal name (at known)).code ≡ returns.Success
        → IsSecure sight.root sight.files room
    unfolding reads_file answers
    at_terminal None known is e = absurd cc
    at_terminal (Some tty) known is e =
        by_content tty (content_seen (codes "/etc/securetty") account_limit (later sight)) is
        (λ k. absent (sight.failing 1) account_limit (file_at (path_of sight.root (codes "/etc/securetty")) sight.files) k)
        (λ text k. holds (sight.failing 1) account_limit (file_at (path_of sight.root (codes "/etc/securetty")) sight.files) text k) e

    root_secure : (b : Bool) (account : Passwd) (known : Known) → (account.uid == 0) ≡ b → (checks_if_root b (at known)).code ≡ returns.Success
        → account.uid ≡ 0 → IsSecure sight.root sight.files room
    unfolding sees_items
    root_secure true account known is e z = at_terminal (user_asked room).room.items.tty known (sym (tty_stays room.items.user room)) e
    root_secure false account known is e z =
        let same : (account.uid == 0) ≡ true = ap (λ (n : ℕ). n == 0) z in
        absurd (true≢false (sym same ∙ is))

    is_found : (account : Passwd) (known : Known) → HasAccount sight.root sight.files user account
        → (terminal_for_account (found account) (at known)).code ≡ returns.Success → MayLogIn sight.root sight.files room
    is_found account known h e = record {
      user = user;
      user_is = user_is;
      account = account;
      has_account = h;
      root_is_there = root_secure (account.uid == 0) account known refl e;
    }

    not_missing : (known : Known) → (terminal_for_account missing (at known)).code ≡ returns.Success → ⊥
    unfolding answers
    not_missing known e = absurd cc

    not_unreadable : (known : Known) → (terminal_for_account unreadable (at known)).code ≡ returns.Success → ⊥
    unfolding answers
    not_unreadable known e = absurd cc

    looked : (finds_account user terminal_for_account (record { room = (user_asked room).room; held = held; known = nothing_known; sight = sight })).code
        ≡ returns.Success → MayLogIn sight.root sight.files room
    looked e = account_found returns.Success (MayLogIn sight.root sight.files room) user terminal_for_account (user_asked room).room held sight is_found
        not_missing not_unreadable e

  abbrev start : Stage
  start = record { room = room; held = held; known = nothing_known; sight = sight }

  not_conv : returns.ConvErr ≡ returns.Success → ⊥
  not_conv e = absurd cc

  checked : (checks_terminal start).code ≡ returns.Success → MayLogIn sight.root sight.files room
  checked e = user_given returns.Success (MayLogIn sight.root sight.files room) (λ user. finds_account user terminal_for_account) start not_conv e looked

  by_func : (f : Func) → f ≢ SetCred → (unless_answered (code_unchecked f returns.Success) checks_terminal start).code ≡ returns.Success
      → MayLogIn sight.root sight.files room
  unfolding answers
  by_func Authenticate n e = checked e
  by_func AcctMgmt n e = checked e
  by_func SetCred n e = absurd (n refl)
  by_func OpenSession n e = absurd cc
  by_func CloseSession n e = absurd cc
  by_func ChAuthTok n e = absurd cc

pub root_is_there : RootIsThere
root_is_there call room held sight n e = by_func room held sight call.func n e
