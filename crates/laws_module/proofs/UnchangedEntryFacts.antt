-- No call of pam_unix changes another user's entry of shadow, or another file, or USER if it is set.
use Rattle.std.proofs.Common.{◌≡◌, ◌≢◌, ℕ, ◌<◌, ◌≤◌, ◌^◌, Bool, true, false, not, ◌||◌, ◌==◌, nat_lt, cond, List, [], ◌∷◌, length, Option, Some, None, Result, Ok, Err, codes, unwrap_or, refl, sym, ap, ◌∙◌, subst}
use Rattle.std.proofs.lemmas.Bool.{ltb-false}
use Rattle.pam_base.specs.Bytes.{has_byte}
use Rattle.pam_base.specs.Code.{number_of}
use Rattle.pam_base.specs.declared.call.Func.{Func}
use Rattle.pam_base.specs.declared.call.Func.TheVariants.{Authenticate, SetCred, AcctMgmt, OpenSession, CloseSession, ChAuthTok}
use Rattle.pam_base.specs.declared.code.Code.{Code}
use Rattle.pam_base.specs.declared.code.Code.TheVariants as returns
use Rattle.pam_base.specs.declared.item.ItemName.TheVariants.{AuthTok}
use Rattle.pam_base.specs.declared.style.Style.TheVariants.{EchoOff}
use Rattle.conv_port.specs.declared.conv.ConvFault.{ConvFault}
use Rattle.conv_port.specs.declared.message.Message.{Message}
use Rattle.conv_port.specs.declared.message.Reply.{Reply}
use Rattle.pam_outside.specs.declared.held.LockKind.{LockKind}
use Rattle.pam_outside.specs.declared.held.LockKind.TheVariants.{Record}
use Rattle.pam_outside.specs.declared.vault.TheConstants.{MAX_FILE}
use Rattle.pam_outside.specs.Files.{File, file_at, file_put}
use Rattle.pam_outside.specs.Paths.{path_of}
use Rattle.pam_outside.specs.Time.{Time}
use Rattle.pam_room.specs.item_store.specs.Items.{ItemTexts, text_of}
use Rattle.pam_room.specs.Call.{PlainCall, has_flag, prelim_check}
use Rattle.pam_room.specs.Module.{NamedData, Played, SeenRoom, answered}
use Rattle.pam_room.specs.Say.{AfterPrompt, asked_by, speak, token_asked, token_of, user_asked}
use Rattle.account_db.specs.declared.fault.DbFault.{DbFault}
use Rattle.account_db.specs.declared.passwd.Passwd.{Passwd}
use Rattle.account_db.specs.Passwd.{entry_of, passwds_of}
use Rattle.account_db.specs.declared.shadow.Shadow.{Shadow}
use Rattle.account_db.specs.Replace.{changed_entries, unless_faulty_file, with_hash}
use Rattle.account_db.specs.Shadow.{shadow_of, shadows_of}
use Rattle.module_acts.specs.declared.content.Content.{Content}
use Rattle.module_acts.specs.declared.content.Content.TheVariants as content
use Rattle.module_acts.specs.Accounts.{account_limit, nothing_known}
use Rattle.module_acts.specs.Act.{Act, Stage, answers, asks_user, called, content_seen, draws_word, drew, holds_if, holds_lock, holds_unless, in_room, later, lets_go, reads_file, replaced, replaces_file, sees_items}
use Rattle.module_acts.specs.Arguments.{has_argument}
use Rattle.module_acts.specs.Content.{content_of, is_rooted}
use Rattle.module_acts.specs.Steps.{answers_keeping, asks_token, exchanges, requests_delay, sees_caller, sees_clock, sees_data, sets_item, with_replies}
use Rattle.mod_unix.specs.declared.look.KnownPassword.{KnownPassword}
use Rattle.mod_unix.specs.declared.look.KnownPassword.TheVariants.{Unknown, Unavailable, Plain, Shadowed}
use Rattle.mod_unix.specs.Account.{account_by, checks_account}
use Rattle.mod_unix.specs.Aging.{aged, day_of}
use Rattle.mod_unix.specs.Authenticate.{asks_password, authenticates, unless_open, first_pass_or_asks, delays, is_empty, is_open, is_success, judge_account, keeps_for_setcred, setcred_return, try_first, unless_success, verifies_token, with_first}
use Rattle.mod_unix.specs.Change.{asks_old, authtok_or_asks, unless_too_early, asks_old_unless_empty, unless_token_is_kept, checks_or_changes, unless_caller_is_root, replaces_shadow, stores_if_taken, change_by, changed_by, changed_shadow, changes_entry, changes_locked, changes_shadow, changes_token, if_locked, is_kept, is_too_early, new_prompts, same_reply, sets_new, stores_token, takes_token, tries_change, usable, write_result}
use Rattle.mod_unix.specs.Look.{after_passwd, shadow_if_x, field_among, field_in, field_or_missing, is_x, looks, shadow_among, shadow_in, shadowed}
use Rattle.mod_unix.specs.NewHash.{hashed_token}
use Rattle.mod_unix.specs.Unix.{act_of_func, kept_code}
use Rattle.mod_unix.specs.Verify.{hash_verified, verified}
use Rattle.laws_module.specs.Others.{IsShadow}
use Rattle.laws_module.specs.OwnEntry.{FilesStayUnlessChanged, OtherEntriesStay, OthersIn, OthersStay}
use Rattle.laws_module.proofs.UnixChangeFacts.{HashesFit, ReadsAgain, few_days, token_fits}
use Rattle.laws_module.proofs.ReplacedShadowFacts.{elsewhere_put, put_there}
use Rattle.laws_module.proofs.Steps.{on, with_files}

record Left (Q : List ℕ → List File → List File → Type 0) (user root : List ℕ) (files : List File) (p : Played) : Type 0 where
  others : Q root files p.files
  user_is : p.room.items.user ≡ Some user

-- ---- shadow, except for the user's entry, and the other files

module _ (user : List ℕ) where
  all_stay : (root : List ℕ) (files : List File) → OthersStay user root files files
  all_stay root files = record { files = λ path other. refl; entries = λ es s. record { changed = es; shadow_is = s; stay = λ other differs. refl } }

  first_then : (root : List ℕ) (before middle after : List File) → OthersStay user root before middle → OthersStay user root middle after
      → OthersStay user root before after
  first_then root before middle after a b = record {
    files = λ path other. b.files path other ∙ a.files path other;
    entries = λ es s.
        let m = a.entries es s in
        let e = b.entries m.changed m.shadow_is in
        record { changed = e.changed; shadow_is = e.shadow_is; stay = λ other differs. e.stay other differs ∙ m.stay other differs };
  }

-- ---- one step; `T` says what is known of the time, and `Q` how files are afterwards

module _ (T : ℕ → Type 0) (Q : List ℕ → List File → List File → Type 0) (stays : (root : List ℕ) (files : List File) → Q root files files)
    (user : List ℕ) where
  -- USER stays, and files do so, in what follows
  abbrev Spares : Act → Type 0
  Spares act =
      (stage : Stage) → T stage.sight.clock.moment → stage.room.items.user ≡ Some user → Left Q user stage.sight.root stage.sight.files (act stage)

  answering : (code : Code) → Spares (answers code)
  unfolding answers
  answering code stage time is = record { others = stays stage.sight.root stage.sight.files; user_is = is }

  keeping : (datum : NamedData) (code : Code) → Spares (answers_keeping datum code)
  unfolding answers_keeping
  keeping datum code stage time is = record { others = stays stage.sight.root stage.sight.files; user_is = is }

  refused_so : (code : Code) (room : SeenRoom) (stage : Stage) → room.items.user ≡ Some user
      → Left Q user stage.sight.root stage.sight.files (answered code room stage.sight)
  refused_so code room stage is = record { others = stays stage.sight.root stage.sight.files; user_is = is }

  seeing_items : (act : ItemTexts → Act) → ((items : ItemTexts) → Spares (act items)) → Spares (sees_items act)
  unfolding sees_items
  seeing_items act next stage time is = next stage.room.items stage time is

  seeing_data : (act : List NamedData → Act) → ((held : List NamedData) → Spares (act held)) → Spares (sees_data act)
  unfolding sees_data
  seeing_data act next stage time is = next stage.held stage time is

  seeing_clock : (act : Time → Act) → ((clock : Time) → Spares (act clock)) → Spares (sees_clock act)
  unfolding sees_clock
  seeing_clock act next stage time is = next stage.sight.clock stage time is

  seeing_caller : (act : ℕ → Act) → ((caller : ℕ) → Spares (act caller)) → Spares (sees_caller act)
  unfolding sees_caller
  seeing_caller act next stage time is = next stage.sight.caller stage time is

  -- ---- asking and setting

  by_asking : (act : List ℕ → Act) → Spares (act user) → (refused : Bool) (a : AfterPrompt) (stage : Stage) → T stage.sight.clock.moment
      → a.room.items.user ≡ Some user
      → Left Q user stage.sight.root stage.sight.files
      (cond refused (answered returns.ConvErr a.room stage.sight) (act (unwrap_or a.room.items.user []) (in_room a.room stage)))
  by_asking act next true a stage time is = refused_so returns.ConvErr a.room stage is
  by_asking act next false a stage time is =
      let who : unwrap_or a.room.items.user [] ≡ user = ap (λ (o : Option (List ℕ)). unwrap_or o []) is in
      subst (λ (u : List ℕ). Left Q user stage.sight.root stage.sight.files (act u (in_room a.room stage))) (sym who)
      (next (in_room a.room stage) time is)

  asking : (act : List ℕ → Act) → Spares (act user) → (stage : Stage) → T stage.sight.clock.moment
      → (user_asked stage.room).room.items.user ≡ Some user → Left Q user stage.sight.root stage.sight.files (asks_user act stage)
  unfolding asks_user
  asking act next stage time is = by_asking act next (user_asked stage.room).refused (user_asked stage.room) stage time is

  asked_stays : (old : Bool) (r : Result (List Reply) ConvFault) (room : SeenRoom) → room.items.user ≡ Some user
      → (asked_by (token_of old) r room).room.items.user ≡ Some user
  asked_stays old (Err fault) room is = is
  asked_stays old (Ok []) room is = is
  asked_stays true (Ok (reply ∷ replies)) room is = is
  asked_stays false (Ok (reply ∷ replies)) room is = is

  token_by : (refused old : Bool) (a : AfterPrompt) (act : List ℕ → Act) → ((token : List ℕ) → Spares (act token)) → (stage : Stage)
      → T stage.sight.clock.moment → a.room.items.user ≡ Some user
      → Left Q user stage.sight.root stage.sight.files
      (cond refused (answered returns.ConvErr a.room stage.sight) (act (unwrap_or (text_of a.room.items (token_of old)) []) (in_room a.room stage)))
  token_by true old a act next stage time is = refused_so returns.ConvErr a.room stage is
  token_by false old a act next stage time is = next (unwrap_or (text_of a.room.items (token_of old)) []) (in_room a.room stage) time is

  asking_token : (old : Bool) (prompt : List ℕ) (act : List ℕ → Act) → ((token : List ℕ) → Spares (act token)) → Spares (asks_token old prompt act)
  unfolding asks_token
  asking_token old prompt act next stage time is =
      let a = token_asked old prompt stage.room in
      let spoken = speak (record { style = EchoOff; text = prompt } ∷ []) stage.room in
      token_by a.refused old a act next stage time (asked_stays old spoken.answer spoken.room is)

  replied : (answer : Result (List Reply) ConvFault) (room : SeenRoom) (act : List Reply → Act) → ((replies : List Reply) → Spares (act replies))
      → (stage : Stage) → T stage.sight.clock.moment → room.items.user ≡ Some user
      → Left Q user stage.sight.root stage.sight.files (with_replies answer room act stage)
  replied (Ok replies) room act next stage time is = next replies (in_room room stage) time is
  replied (Err fault) room act next stage time is = refused_so returns.ConvErr room stage is

  exchanging : (messages : List Message) (act : List Reply → Act) → ((replies : List Reply) → Spares (act replies)) → Spares (exchanges messages act)
  unfolding exchanges
  exchanging messages act next stage time is = replied (speak messages stage.room).answer (speak messages stage.room).room act next stage time is

  setting : (text : List ℕ) (act : Act) → Spares act → Spares (sets_item AuthTok text act)
  unfolding sets_item
  setting text act next stage time is = next _ time is

  delaying : (micros : ℕ) (act : Act) → Spares act → Spares (requests_delay micros act)
  unfolding requests_delay
  delaying micros act next stage time is = next _ time is

  -- ---- files and locks

  once_more : (root : List ℕ) (files : List File) (p : Played) → Left Q user root files p → Left Q user root files (called p)
  once_more root files p left = record { others = left.others; user_is = left.user_is }

  letting_go : (held : Bool) (act : Act) → Spares act → Spares (lets_go held act)
  unfolding lets_go
  letting_go held act next stage time is = let left = next stage time is in record { others = left.others; user_is = left.user_is }

  hold_unless : (fails : Bool) (path : List ℕ) (kind : LockKind) (act : Bool → Act) → ((b : Bool) → Spares (act b)) → Spares (holds_unless fails path kind act)
  hold_unless true path kind act next stage time is =
      let left = next false (on stage) time is in record { others = left.others; user_is = left.user_is }
  hold_unless false path kind act next stage time is =
      let left = next true (on stage) time is in record { others = left.others; user_is = left.user_is }

  hold_if : (rooted : Bool) (lock : List ℕ) (kind : LockKind) (act : Bool → Act) → ((b : Bool) → Spares (act b)) → Spares (holds_if rooted lock kind act)
  hold_if true lock kind act next stage time is = hold_unless (stage.sight.failing 0) (path_of stage.sight.root lock) kind act next stage time is
  hold_if false lock kind act next stage time is = next true stage time is

  holding : (lock : List ℕ) (kind : LockKind) (act : Bool → Act) → ((b : Bool) → Spares (act b)) → Spares (holds_lock lock kind act)
  unfolding holds_lock
  holding lock kind act next stage time is = hold_if (is_rooted lock) lock kind act next stage time is

  -- ---- the look-up

  module _ (act : KnownPassword → Act) (next : (look : KnownPassword) → Spares (act look)) where
    hash_known : (x : Bool) (hash : List ℕ) → Spares (shadow_if_x x user hash act)
    unfolding reads_file
    hash_known true hash stage time is =
        let here = shadow_in user (content_seen (codes "/etc/shadow") account_limit stage.sight) in
        once_more stage.sight.root stage.sight.files (act here (on stage)) (next here (on stage) time is)
    hash_known false hash stage time is = next (Plain hash) stage time is

    entry_known : (found : Option Passwd) → Spares (after_passwd user (field_or_missing found) act)
    entry_known None = next Unknown
    entry_known (Some entry) = hash_known (is_x entry.password) entry.password

    entries_known : (found : Result (List Passwd) DbFault) → Spares (after_passwd user (field_among user found) act)
    entries_known (Err fault) = next Unavailable
    entries_known (Ok entries) = entry_known (entry_of user entries)

    passwd_known : (c : Content) → Spares (after_passwd user (field_in user c) act)
    passwd_known content.Absent = next Unavailable
    passwd_known content.Unreadable = next Unavailable
    passwd_known (content.Holds text) = entries_known (passwds_of text)

    looking : Spares (looks user act)
    unfolding looks reads_file
    looking stage time is =
        let here = content_seen (codes "/etc/passwd") account_limit stage.sight in
        once_more stage.sight.root stage.sight.files (after_passwd user (field_in user here) act (on stage)) (passwd_known here (on stage) time is)

  -- ---- authenticate

  -- the code is kept for setcred
  abbrev keeps : Code → Act
  keeps code = answers_keeping (record { name = setcred_return; payload = number_of code ∷ [] }) code

  kept : (code : Code) → Spares (keeps code)
  kept code = keeping (record { name = setcred_return; payload = number_of code ∷ [] }) code

  module _ (look : KnownPassword) where
    asked : Spares (asks_password look keeps_for_setcred)
    unfolding asks_password keeps_for_setcred
    asked = asking_token false (codes "Password: ") (λ token. keeps (verified look token)) (λ token. kept (verified look token))

    first : (token : Option (List ℕ)) → Spares (with_first look token keeps_for_setcred)
    unfolding keeps_for_setcred
    first (Some token) = kept (verified look token)
    first None = answering returns.AuthErr

    asked_unless : (done : Bool) → Spares (unless_success done look keeps_for_setcred)
    unfolding keeps_for_setcred
    asked_unless true = kept returns.Success
    asked_unless false = asked

    tried : (token : Option (List ℕ)) → Spares (try_first look token keeps_for_setcred)
    tried (Some token) = asked_unless (is_success (verified look token))
    tried None = asked

    passed : (given try : Bool) → Spares (first_pass_or_asks given try look keeps_for_setcred)
    passed true try = seeing_items (λ items. with_first look items.auth_tok keeps_for_setcred) (λ items. first items.auth_tok)
    passed false true = seeing_items (λ items. try_first look items.auth_tok keeps_for_setcred) (λ items. tried items.auth_tok)
    passed false false = asked

    module _ (call : PlainCall) where
      verifying : Spares (verifies_token call look keeps_for_setcred)
      unfolding verifies_token
      verifying = passed (has_argument (codes "use_first_pass") call.args) (has_argument (codes "try_first_pass") call.args)

      delayed : (none : Bool) → Spares (delays none (verifies_token call look keeps_for_setcred))
      delayed true = verifying
      delayed false = delaying 2000000 (verifies_token call look keeps_for_setcred) verifying

      opened : (empty : Bool) → Spares (unless_open empty call look keeps_for_setcred)
      unfolding keeps_for_setcred
      opened true = kept returns.Success
      opened false = delayed (has_argument (codes "nodelay") call.args)

      judged : Spares (judge_account call look keeps_for_setcred)
      unfolding judge_account
      judged = opened (is_open call look)

  -- ---- acct_mgmt

  account_known : (look : KnownPassword) → Spares (account_by look answers)
  unfolding account_by
  account_known Unknown = answering returns.UserUnknown
  account_known Unavailable = answering returns.AuthinfoUnavail
  account_known (Plain hash) = answering returns.Success
  account_known (Shadowed entry) = seeing_clock (λ clock. answers (aged (day_of clock.moment) entry)) (λ clock. answering (aged (day_of clock.moment) entry))

-- ---- chauthtok

holds_by : (b : Bool) (text old : List ℕ) → cond b content.Unreadable (content.Holds text) ≡ content.Holds old → Some text ≡ Some old
holds_by true text old e = absurd cc
holds_by false text old e = let same : text ≡ old = cc in ap (λ (t : List ℕ). Some t) same

holds : (failing : Bool) (limit : ℕ) (found : Option (List ℕ)) (old : List ℕ) → content_of failing limit found ≡ content.Holds old → found ≡ Some old
unfolding content_of
holds true limit found old e = absurd cc
holds false limit None old e = absurd cc
holds false limit (Some text) old e = holds_by (nat_lt limit (length text)) text old e

some_same : (a b : List ℕ) → Some a ≡ Some b → a ≡ b
some_same a b e = cc

part_false : (a b : Bool) → (a || b) ≡ false → b ≡ false
part_false true b e = absurd cc
part_false false b e = e

-- what account_db says of the others in shadow with a new hash
abbrev pub OthersUnchanged : Type 0
OthersUnchanged =
    (user hash : List ℕ) (day : ℕ) (other : List ℕ) (entries : List Shadow) → other ≢ user
    → shadow_of other (changed_entries user hash day entries) ≡ shadow_of other entries

module _ (read : ReadsAgain) (others_same : OthersUnchanged) (user : List ℕ) where
  abbrev T : ℕ → Type 0
  T moment = moment ≤ 1000000000000

  abbrev Q : List ℕ → List File → List File → Type 0
  Q root before after = OthersStay user root before after

  abbrev AllSpare : (Code → Act) → Type 0
  AllSpare act = (code : Code) → Spares T Q (all_stay user) user (act code)

  module _ (hash : List ℕ) (today : ℕ) (plain : (has_byte 58 hash ≡ false) × (has_byte 10 hash ≡ false)) (few : today < 10 ^ 9) where
    -- a text of shadow that is read, and the new one made of it
    record From (root : List ℕ) (files : List File) (text : List ℕ) : Type 0 where
      old : List ℕ
      text_is : with_hash user hash today old ≡ text
      at : file_at (path_of root (codes "/etc/shadow")) files ≡ Some old

    new_shadow : (root : List ℕ) (files : List File) (text : List ℕ) → From root files text → length text ≤ account_limit → (es : List Shadow)
        → IsShadow root files es → OthersIn user root es (file_put (path_of root (codes "/etc/shadow")) text files)
    new_shadow root files text f fits es s =
        let same : s.text ≡ f.old = some_same s.text f.old (sym s.text_is ∙ f.at) in
        let are : shadows_of (with_hash user hash today f.old) ≡ Ok (changed_entries user hash today es) =
        read user hash today f.old es plain.0 plain.1 few (ap shadows_of (sym same) ∙ s.entries_are) in
        record {
          changed = changed_entries user hash today es;
          shadow_is = record {
            text = text;
            text_is = put_there (path_of root (codes "/etc/shadow")) text files;
            entries_are = ap shadows_of (sym f.text_is) ∙ are;
            fits = fits;
          };
          stay = λ other differs. others_same user hash today other es differs;
        }

    put_stays : (root : List ℕ) (files : List File) (text : List ℕ) → From root files text → length text ≤ account_limit
        → OthersStay user root files (file_put (path_of root (codes "/etc/shadow")) text files)
    put_stays root files text f fits = record {
      files = λ path other. elsewhere_put (path_of root (codes "/etc/shadow")) text path files (λ e. other (sym e));
      entries = λ es s. new_shadow root files text f fits es s;
    }

    set_by : (fails : Bool) (text : List ℕ) (act : Bool → Act) → ((done : Bool) → Spares T Q (all_stay user) user (act done)) → (stage : Stage)
        → (stage.sight.failing 0 || nat_lt MAX_FILE (length text)) ≡ fails → From stage.sight.root stage.sight.files text
        → stage.sight.clock.moment ≤ 1000000000000 → stage.room.items.user ≡ Some user
        → Left Q user stage.sight.root stage.sight.files
        (called (act (not fails) (record stage { sight = replaced fails (path_of stage.sight.root (codes "/etc/shadow")) text stage.sight })))
    set_by true text act next stage so f time is = once_more T Q (all_stay user) user stage.sight.root stage.sight.files (act false (on stage)) (next false (on stage) time is)
    set_by false text act next stage so f time is =
        let fits : length text ≤ account_limit = ltb-false MAX_FILE (length text) (part_false (stage.sight.failing 0) (nat_lt MAX_FILE (length text)) so) in
        let put : List File = file_put (path_of stage.sight.root (codes "/etc/shadow")) text stage.sight.files in
        let left = next true (with_files put (on stage)) time is in
        record {
          others = first_then user stage.sight.root stage.sight.files put (act true (with_files put (on stage))).files
              (put_stays stage.sight.root stage.sight.files text f fits) left.others;
          user_is = left.user_is;
        }

    written : (act : Code → Act) → AllSpare act → (new : Option (List ℕ)) (stage : Stage)
        → ((text : List ℕ) → new ≡ Some text → From stage.sight.root stage.sight.files text)
        → stage.sight.clock.moment ≤ 1000000000000 → stage.room.items.user ≡ Some user
        → Left Q user stage.sight.root stage.sight.files (replaces_shadow new act stage)
    unfolding replaces_file
    written act all None stage from time is = all returns.AuthtokErr stage time is
    written act all (Some text) stage from time is =
        set_by (stage.sight.failing 0 || nat_lt MAX_FILE (length text)) text (λ done. act (write_result done)) (λ done. all (write_result done)) stage refl
        (from text refl) time is

    entry_there : (found : Option Shadow) (new text : List ℕ) → changed_by (shadowed found) (Ok new) ≡ Some text → new ≡ text
    entry_there None new text e = absurd cc
    entry_there (Some entry) new text e = some_same new text e

    entries_there : (r : Result (List Shadow) DbFault) (new text : List ℕ) → changed_by (shadow_among user r) (unless_faulty_file r new) ≡ Some text → new ≡ text
    entries_there (Err fault) new text e = absurd cc
    entries_there (Ok es) new text e = entry_there (shadow_of user es) new text e

    made_from : (c : Content) (root : List ℕ) (files : List File)
        → ((old : List ℕ) → c ≡ content.Holds old → file_at (path_of root (codes "/etc/shadow")) files ≡ Some old)
        → (text : List ℕ) → changed_shadow user hash today c ≡ Some text → From root files text
    unfolding changed_shadow
    made_from content.Absent root files at text e = absurd cc
    made_from content.Unreadable root files at text e = absurd cc
    made_from (content.Holds old) root files at text e =
        record { old = old; text_is = entries_there (shadows_of old) (with_hash user hash today old) text e; at = at old refl }

    read_again : (act : Code → Act) → AllSpare act → Spares T Q (all_stay user) user (changes_locked user hash today act)
    unfolding changes_locked reads_file
    read_again act all stage time is =
        let c = content_seen (codes "/etc/shadow") account_limit stage.sight in
        once_more T Q (all_stay user) user stage.sight.root stage.sight.files (replaces_shadow (changed_shadow user hash today c) act (on stage))
        (written act all (changed_shadow user hash today c) (on stage)
        (made_from c stage.sight.root stage.sight.files
        (λ old h. holds (stage.sight.failing 0) account_limit (file_at (path_of stage.sight.root (codes "/etc/shadow")) stage.sight.files) old h)) time is)

    if_held : (act : Code → Act) → AllSpare act → (b : Bool) → Spares T Q (all_stay user) user (if_locked user hash today act b)
    if_held act all true = read_again (λ code. lets_go true (act code)) (λ code. letting_go T Q (all_stay user) user true (act code) (all code))
    if_held act all false = all returns.AuthtokErr

    changing : (act : Code → Act) → AllSpare act → Spares T Q (all_stay user) user (changes_shadow user hash today act)
    unfolding changes_shadow
    changing act all = holding T Q (all_stay user) user (codes "/etc/.pwd.lock") Record (if_locked user hash today act) (if_held act all)

  module _ (fits : HashesFit) (call : PlainCall) (act : Code → Act) (all : AllSpare act) where
    hashed : (token : List ℕ) → Spares T Q (all_stay user) user (stores_if_taken call user (Some token) act)
    unfolding sees_clock draws_word
    hashed token stage time is =
        let left = changing (hashed_token call.args stage.sight.clock.word token) (day_of stage.sight.clock.moment)
        (token_fits fits call.args stage.sight.clock.word token) (few_days stage.sight.clock.moment time) act all stage time is in
        record { others = left.others; user_is = left.user_is }

    stored : (token : Option (List ℕ)) → Spares T Q (all_stay user) user (stores_token call user token act)
    unfolding stores_token
    stored None = all returns.AuthtokErr
    stored (Some token) = hashed token

    token_set : (token : Option (List ℕ)) → Spares T Q (all_stay user) user (sets_new token (λ t. stores_token call user t act))
    token_set None = stored None
    token_set (Some token) = setting T Q (all_stay user) user token (stores_token call user (Some token) act) (stored (Some token))

    token_taken : (given : Bool) → Spares T Q (all_stay user) user (authtok_or_asks given (λ t. stores_token call user t act))
    token_taken true = seeing_items T Q (all_stay user) user (λ items. stores_token call user (usable items.auth_tok) act) (λ items. stored (usable items.auth_tok))
    token_taken false =
        exchanging T Q (all_stay user) user new_prompts (λ replies. sets_new (same_reply replies) (λ t. stores_token call user t act)) (λ replies. token_set (same_reply replies))

    second : Spares T Q (all_stay user) user (takes_token call (λ t. stores_token call user t act))
    unfolding takes_token
    second = token_taken (has_argument (codes "use_authtok") call.args)

    module _ (today : ℕ) (entry : Shadow) where
      old_asked : Spares T Q (all_stay user) user (asks_old entry act)
      unfolding asks_old
      old_asked = asking_token T Q (all_stay user) user true (codes "Password: ") (λ token. act (hash_verified entry.hash token)) (λ token. all (hash_verified entry.hash token))

      unless_none : (none : Bool) → Spares T Q (all_stay user) user (asks_old_unless_empty none entry act)
      unless_none true = all returns.Success
      unless_none false = old_asked

      unless_early : (early : Bool) → Spares T Q (all_stay user) user (unless_too_early early entry act)
      unless_early true = all returns.AuthtokErr
      unless_early false = unless_none (is_empty entry.hash)

      unless_root : (root : Bool) → Spares T Q (all_stay user) user (unless_caller_is_root root today entry act)
      unless_root true = all returns.Success
      unless_root false = unless_early (is_too_early today entry.last_change entry.min)

      first_pass : Spares T Q (all_stay user) user (tries_change today entry act)
      unfolding tries_change
      first_pass = seeing_caller T Q (all_stay user) user (λ caller. unless_caller_is_root (caller == 0) today entry act) (λ caller. unless_root (caller == 0))

      pass : (check : Bool) → Spares T Q (all_stay user) user (checks_or_changes check call user today entry act)
      pass true = first_pass
      pass false = second

      unless_kept : (kept : Bool) → Spares T Q (all_stay user) user (unless_token_is_kept kept call user today entry act)
      unless_kept true = all returns.Success
      unless_kept false = pass (has_flag call.flags prelim_check)

    entry_changed : (entry : Shadow) → Spares T Q (all_stay user) user (changes_entry call user entry act)
    unfolding changes_entry
    entry_changed entry =
        seeing_clock T Q (all_stay user) user (λ clock. unless_token_is_kept (is_kept call (day_of clock.moment) entry) call user (day_of clock.moment) entry act)
        (λ clock. unless_kept (day_of clock.moment) entry (is_kept call (day_of clock.moment) entry))

    known : (look : KnownPassword) → Spares T Q (all_stay user) user (change_by call user look act)
    unfolding change_by
    known Unknown = all returns.UserUnknown
    known Unavailable = all returns.AuthinfoUnavail
    known (Plain hash) = all returns.AuthtokErr
    known (Shadowed entry) = entry_changed entry

  changed : HashesFit → (call : PlainCall) → Spares T Q (all_stay user) user (looks user (λ look. change_by call user look answers))
  changed fits call =
      looking T Q (all_stay user) user (λ look. change_by call user look answers) (known fits call answers (answering T Q (all_stay user) user))

-- ---- the other functions

module _ (T : ℕ → Type 0) (Q : List ℕ → List File → List File → Type 0) (stays : (root : List ℕ) (files : List File) → Q root files files)
    (user : List ℕ) (call : PlainCall) where
  authenticating : Spares T Q stays user (looks user (λ look. judge_account call look keeps_for_setcred))
  authenticating = looking T Q stays user (λ look. judge_account call look keeps_for_setcred) (λ look. judged T Q stays user look call)

  checking : Spares T Q stays user (looks user (λ look. account_by look answers))
  checking = looking T Q stays user (λ look. account_by look answers) (account_known T Q stays user)

-- ---- all six

-- how files are, and USER still is this user, if it was set
record Past (Q : List ℕ → List File → List File → Type 0) (user root : List ℕ) (files : List File) (room : SeenRoom) (p : Played) : Type 0 where
  others : Q root files p.files
  user_is : room.items.user ≡ Some user → p.room.items.user ≡ Some user

module _ (T : ℕ → Type 0) (Q : List ℕ → List File → List File → Type 0) (stays : (root : List ℕ) (files : List File) → Q root files files)
    (user : List ℕ) where
  abbrev AfterFrom : Stage → Played → Type 0
  AfterFrom stage p = Past Q user stage.sight.root stage.sight.files stage.room p

  set_or_not : (stage : Stage) (p : Played) → Left Q user stage.sight.root stage.sight.files p → AfterFrom stage p
  set_or_not stage p left = record { others = left.others; user_is = λ set. left.user_is }

  untouched : (code : Code) (stage : Stage) → AfterFrom stage (answers code stage)
  unfolding answers
  untouched code stage = record { others = stays stage.sight.root stage.sight.files; user_is = λ set. set }

  by_function : (f : Func) (call : PlainCall) (stage : Stage) → T stage.sight.clock.moment → (user_asked stage.room).room.items.user ≡ Some user
      → (f ≡ ChAuthTok → AfterFrom stage (changes_token call answers stage)) → AfterFrom stage (act_of_func f call stage)
  unfolding authenticates checks_account sees_data
  by_function Authenticate call stage time is change =
      set_or_not stage (act_of_func Authenticate call stage)
      (asking T Q stays user (λ name. looks name (λ look. judge_account call look keeps_for_setcred)) (authenticating T Q stays user call) stage time is)
  by_function SetCred call stage time is change = untouched (kept_code stage.held) stage
  by_function AcctMgmt call stage time is change =
      set_or_not stage (act_of_func AcctMgmt call stage)
      (asking T Q stays user (λ name. looks name (λ look. account_by look answers)) (checking T Q stays user call) stage time is)
  by_function OpenSession call stage time is change = untouched returns.Success stage
  by_function CloseSession call stage time is change = untouched returns.Success stage
  by_function ChAuthTok call stage time is change = change refl

abbrev is_time : ℕ → Type 0
is_time moment = moment ≤ 1000000000000

change_first : (read : ReadsAgain) (others_same : OthersUnchanged) (fits : HashesFit) (user : List ℕ) (call : PlainCall) (stage : Stage)
    → stage.sight.clock.moment ≤ 1000000000000 → (user_asked stage.room).room.items.user ≡ Some user
    → Past (λ root before after. OthersStay user root before after) user stage.sight.root stage.sight.files stage.room (changes_token call answers stage)
unfolding changes_token
change_first read others_same fits user call stage time is =
    let Q : List ℕ → List File → List File → Type 0 = λ root before after. OthersStay user root before after in
    set_or_not is_time Q (all_stay user) user stage (changes_token call answers stage)
    (asking is_time Q (all_stay user) user (λ name. looks name (λ look. change_by call name look answers)) (changed read others_same user fits call) stage time is)

pub other_entries_stay : ReadsAgain → OthersUnchanged → HashesFit → OtherEntriesStay
other_entries_stay read others_same fits call room held sight user is time =
    let stage : Stage = record { room = room; held = held; known = nothing_known; sight = sight } in
    let b = by_function is_time (λ root before after. OthersStay user root before after) (all_stay user) user call.func call stage time is
    (λ func. change_first read others_same fits user call stage time is) in
    record { others = b.others; user_is = b.user_is }

pub files_stay : FilesStayUnlessChanged
files_stay call room held sight user not is =
    let stage : Stage = record { room = room; held = held; known = nothing_known; sight = sight } in
    let b = by_function (λ moment. Unit {0}) (λ root before after. after ≡ before) (λ root files. refl) user call.func call stage tt is
    (λ func. absurd (not func)) in
    record { files_are = b.others; user_is = b.user_is }
