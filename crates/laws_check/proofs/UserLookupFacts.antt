-- A user who is asked for, and looked up in passwd.
use Rattle.std.proofs.Common.{◌≡◌, ℕ, Bool, true, false, true≢false, ◌||◌, nat_lt, cond, if◌then◌else◌, List, [], ◌∷◌, length, Option, Some}
use Rattle.std.proofs.Common.{None, Result, Ok, Err, codes, unwrap_or, refl, sym, ap, ◌∙◌}
use Rattle.std.specs.Result.{result_ok}
use Rattle.pam_base.specs.declared.code.Code.{Code}
use Rattle.pam_base.specs.declared.code.Code.TheVariants as returns
use Rattle.pam_base.specs.declared.item.ItemName.TheVariants.{User}
use Rattle.pam_base.specs.declared.style.Style.TheVariants.{EchoOn}
use Rattle.pam_outside.specs.Files.{file_at}
use Rattle.pam_outside.specs.Paths.{path_of}
use Rattle.conv_port.specs.Conv.{first_text, has_replies, ready_replies, starts_with_mark}
use Rattle.conv_port.specs.declared.conv.ConvFault.TheVariants as faults
use Rattle.pam_room.specs.Module.{NamedData, SeenRoom, Sight, answered}
use Rattle.pam_room.specs.Say.{AfterPrompt, asked_by, login_prompt, speak, user_asked, user_or_ask}
use Rattle.account_db.specs.declared.fault.DbFault.{DbFault}
use Rattle.account_db.specs.declared.passwd.Passwd.{Passwd}
use Rattle.account_db.specs.Passwd.{entry_of, passwds_of}
use Rattle.module_acts.specs.declared.content.Content.{Content}
use Rattle.module_acts.specs.declared.content.Content.TheVariants as content
use Rattle.module_acts.specs.Accounts.{Account, Known, account_in, account_limit, account_or_missing, found, missing, nothing_known, passwds_in, unreadable}
use Rattle.module_acts.specs.Act.{Act, Stage, asks_user, content_seen, finds_account, in_room, later, reads_passwds}
use Rattle.module_acts.specs.Content.{content_of}
use Rattle.laws_check.specs.Account.{HasAccount}

-- ---- what a file holds

holds_by : (long : Bool) (text old : List ℕ) → (if long then content.Unreadable else content.Holds text) ≡ content.Holds old → Some text ≡ Some old
holds_by true text old e = absurd cc
holds_by false text old e = cc

pub holds : (failing : Bool) (limit : ℕ) (read : Option (List ℕ)) (old : List ℕ) → content_of failing limit read ≡ content.Holds old → read ≡ Some old
unfolding content_of
holds true limit read old e = absurd cc
holds false limit None old e = absurd cc
holds false limit (Some text) old e = holds_by (nat_lt limit (length text)) text old e

there_by : (long : Bool) (text : List ℕ) → (if long then content.Unreadable else content.Holds text) ≡ content.Absent → ⊥
there_by true text e = absurd cc
there_by false text e = absurd cc

pub absent : (failing : Bool) (limit : ℕ) (read : Option (List ℕ)) → content_of failing limit read ≡ content.Absent → read ≡ None
unfolding content_of
absent true limit read e = absurd cc
absent false limit None e = refl
absent false limit (Some text) e = absurd (there_by (nat_lt limit (length text)) text e)

-- ---- the user is asked for

filled : (read : Option (List ℕ)) (text : List ℕ) → read ≡ Some text → read ≡ Some (unwrap_or read [])
filled read text is = is ∙ ap (λ (o : Option (List ℕ)). Some (unwrap_or o [])) (sym is)

user_by : (has again : Bool) (text : List ℕ) (room : SeenRoom)
    → (asked_by User (if has then Ok (record { text = text } ∷ []) else if again then Err faults.Again else Err faults.Gone) room).refused ≡ false
    → (asked_by User (if has then Ok (record { text = text } ∷ []) else if again then Err faults.Again else Err faults.Gone) room).room.items.user ≡ Some text
user_by true again text room e = refl
user_by false true text room e = absurd (true≢false e)
user_by false false text room e = absurd (true≢false e)

user_or : (found : Option (List ℕ)) (room : SeenRoom) → room.items.user ≡ found → (user_or_ask found room).refused ≡ false
    → (user_or_ask found room).room.items.user ≡ Some (unwrap_or (user_or_ask found room).room.items.user [])
user_or (Some user) room is e = filled room.items.user user is
user_or None room is e =
    let messages = record { style = EchoOn; text = login_prompt room.items.user_prompt } ∷ [] in
    let text = first_text (ready_replies room.conv.offers) in
    filled (user_or_ask None room).room.items.user text (user_by (has_replies room.conv messages) (room.conv.waits || starts_with_mark room.conv.offers) text
    (speak messages room).room e)

by_refused : (code : Code) (G : Type 0) (act : List ℕ → Act) (refused : Bool) (a : AfterPrompt) (stage : Stage) → (returns.ConvErr ≡ code → ⊥) → a.refused ≡ refused
    → (cond refused (answered returns.ConvErr a.room stage.sight) (act (unwrap_or a.room.items.user []) (in_room a.room stage))).code ≡ code
    → (a.refused ≡ false → (act (unwrap_or a.room.items.user []) (in_room a.room stage)).code ≡ code → G) → G
by_refused code G act true a stage not is e then_so = absurd (not e)
by_refused code G act false a stage not is e then_so = then_so is e

pub user_given : (code : Code) (G : Type 0) (act : List ℕ → Act) (stage : Stage) → (returns.ConvErr ≡ code → ⊥) → (asks_user act stage).code ≡ code
    → ((user : List ℕ) → (user_asked stage.room).room.items.user ≡ Some user → (act user (in_room (user_asked stage.room).room stage)).code ≡ code → G) → G
unfolding asks_user
user_given code G act stage not e then_so =
    let a = user_asked stage.room in
    by_refused code G act a.refused a stage not refl e (λ is k. then_so (unwrap_or a.room.items.user []) (user_or stage.room.items.user stage.room refl is) k)

-- ---- the user's account

module _ (code : Code) (G : Type 0) (user : List ℕ) (act : Account → Act) (room : SeenRoom) (held : List NamedData) (sight : Sight)
    (yes : (account : Passwd) (known : Known) → HasAccount sight.root sight.files user account
    → (act (found account) (record { room = room; held = held; known = known; sight = later sight })).code ≡ code → G)
    (no : (known : Known) → (act missing (record { room = room; held = held; known = known; sight = later sight })).code ≡ code → ⊥)
    (bad : (known : Known) → (act unreadable (record { room = room; held = held; known = known; sight = later sight })).code ≡ code → ⊥) where
  abbrev at : Known → Stage
  at known = record { room = room; held = held; known = known; sight = later sight }

  by_entry : (o : Option Passwd) (es : List Passwd) (text : List ℕ) (known : Known) → file_at (path_of sight.root (codes "/etc/passwd")) sight.files ≡ Some text
      → passwds_of text ≡ Ok es → entry_of user es ≡ o
      → (act (account_or_missing o) (at known)).code ≡ code → G
  by_entry None es text known is are there e = absurd (no known e)
  by_entry (Some account) es text known is are there e = yes account known
      (record { passwd = text; passwd_is = is; accounts = es; accounts_are = are; account_is = there }) e

  by_entries : (r : Result (List Passwd) DbFault) (text : List ℕ) (known : Known) → file_at (path_of sight.root (codes "/etc/passwd")) sight.files ≡ Some text
      → passwds_of text ≡ r
      → (act (account_in user (result_ok r)) (at known)).code ≡ code → G
  by_entries (Err fault) text known is are e = absurd (bad known e)
  by_entries (Ok es) text known is are e = by_entry (entry_of user es) es text known is are refl e

  by_content : (c : Content) (known : Known) → ((text : List ℕ) → c ≡ content.Holds text
      → file_at (path_of sight.root (codes "/etc/passwd")) sight.files ≡ Some text)
      → (act (account_in user (passwds_in c)) (at known)).code ≡ code → G
  by_content content.Absent known is e = absurd (bad known e)
  by_content content.Unreadable known is e = absurd (bad known e)
  by_content (content.Holds text) known is e = by_entries (passwds_of text) text known (is text refl) refl e

  pub account_found : (finds_account user act (record { room = room; held = held; known = nothing_known; sight = sight })).code ≡ code → G
  unfolding reads_passwds
  account_found e =
      let c = content_seen (codes "/etc/passwd") account_limit sight in
      by_content c (record { passwds = Some (passwds_in c); groups = None })
      (λ text h. holds (sight.failing 0) account_limit (file_at (path_of sight.root (codes "/etc/passwd")) sight.files) text h) e
