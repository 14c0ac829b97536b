-- Steps of pam_unix over other files that agree for the user.
use Rattle.std.proofs.Common.{◌≡◌, ℕ, ◌≤◌, Bool, true, false, cond, List, [], length, Option, Some, None, Result, Ok, Err, codes, unwrap_or, refl, sym, ap, ◌∙◌, subst}
use Rattle.std.proofs.lemmas.Bool.{le-ltb}
use Rattle.pam_base.specs.declared.code.Code.{Code}
use Rattle.pam_base.specs.declared.code.Code.TheVariants as returns
use Rattle.pam_base.specs.declared.item.ItemName.{ItemName}
use Rattle.conv_port.specs.declared.conv.ConvFault.{ConvFault}
use Rattle.conv_port.specs.declared.message.Message.{Message}
use Rattle.conv_port.specs.declared.message.Reply.{Reply}
use Rattle.pam_outside.specs.declared.held.LockKind.{LockKind}
use Rattle.pam_outside.specs.Files.{File, file_at}
use Rattle.pam_outside.specs.Paths.{path_of}
use Rattle.pam_outside.specs.Time.{Time}
use Rattle.pam_room.specs.item_store.specs.Items.{ItemTexts, text_of}
use Rattle.pam_room.specs.Module.{NamedData, Played, SeenRoom, answered}
use Rattle.pam_room.specs.Say.{AfterPrompt, speak, token_asked, token_of, user_asked}
use Rattle.account_db.specs.declared.fault.DbFault.{DbFault}
use Rattle.account_db.specs.declared.passwd.Passwd.{Passwd}
use Rattle.account_db.specs.Passwd.{entry_of, passwds_of}
use Rattle.account_db.specs.declared.shadow.Shadow.{Shadow}
use Rattle.account_db.specs.Shadow.{shadow_of}
use Rattle.module_acts.specs.declared.content.Content.{Content}
use Rattle.module_acts.specs.declared.content.Content.TheVariants as content
use Rattle.module_acts.specs.Accounts.{account_limit}
use Rattle.module_acts.specs.Act.{Act, Stage, after_letting_go, answers, asks_user, called, content_seen, draws_word, drew, holds_if, holds_lock, holds_unless, in_room, later, lets_go, reads_file, sees_items, took}
use Rattle.module_acts.specs.Content.{content_of, is_rooted}
use Rattle.module_acts.specs.Steps.{answers_keeping, asks_token, exchanges, requests_delay, sees_caller, sees_clock, sees_data, sets_item, with_replies}
use Rattle.mod_unix.specs.declared.look.KnownPassword.{KnownPassword}
use Rattle.mod_unix.specs.declared.look.KnownPassword.TheVariants.{Unknown, Unavailable, Plain}
use Rattle.mod_unix.specs.Look.{after_passwd, shadow_if_x, field_among, field_in, field_or_missing, is_x, looks, shadow_among, shadow_in, shadowed}
use Rattle.laws_module.specs.Others.{AgreeFor, IsShadow, apart}

abbrev pub with_files : List File → Stage → Stage
with_files files stage = record stage { sight = record stage.sight { files = files } }

abbrev pub on : Stage → Stage
on stage = record stage { sight = later stage.sight }

-- ---- what is read

pub within : (limit : ℕ) (text : List ℕ) → length text ≤ limit → content_of false limit (Some text) ≡ content.Holds text
unfolding content_of
within limit text fits = rw (le-ltb limit (length text) fits) refl

module _ (user root : List ℕ) where
  read_so : (entries : List Shadow) (files : List File) (s : IsShadow root files entries)
      → shadow_in user (content_of false account_limit (file_at (path_of root (codes "/etc/shadow")) files)) ≡ shadowed (shadow_of user entries)
  read_so entries files s =
      ap (λ (o : Option (List ℕ)). shadow_in user (content_of false account_limit o)) s.text_is
      ∙ ap (shadow_in user) (within account_limit s.text s.fits)
      ∙ ap (shadow_among user) s.entries_are

  same_look : (failing : Bool) (files others : List File) → AgreeFor user root files others
      → shadow_in user (content_of failing account_limit (file_at (path_of root (codes "/etc/shadow")) others))
      ≡ shadow_in user (content_of failing account_limit (file_at (path_of root (codes "/etc/shadow")) files))
  unfolding content_of
  same_look true files others agree = refl
  same_look false files others agree =
      read_so agree.later others agree.second ∙ ap shadowed agree.entry ∙ sym (read_so agree.entries files agree.first)

-- ---- one step; `R` says by root and time how other files agree with files

module _ (R : List ℕ → ℕ → List File → List File → Type 0) where
  -- other files agree with those that are seen
  abbrev pub Agrees : Stage → List File → Type 0
  Agrees stage others = R stage.sight.root stage.sight.clock.moment stage.sight.files others

  -- the same was done over them, and the files that were left agree
  pub record Same (root : List ℕ) (moment : ℕ) (p q : Played) : Type 0 where
    pub rest : apart p ≡ apart q
    pub left : R root moment q.files p.files

  abbrev pub SameFrom : Stage → Played → Played → Type 0
  SameFrom stage p q = Same stage.sight.root stage.sight.clock.moment p q

  abbrev pub Alike : Act → Type 0
  Alike act = (stage : Stage) (others : List File) → Agrees stage others → SameFrom stage (act (with_files others stage)) (act stage)

  pub answering : (code : Code) → Alike (answers code)
  unfolding answers
  answering code stage others r = record { rest = refl; left = r }

  pub keeping : (datum : NamedData) (code : Code) → Alike (answers_keeping datum code)
  unfolding answers_keeping
  keeping datum code stage others r = record { rest = refl; left = r }

  -- ---- what is seen

  pub seeing_items : (act : ItemTexts → Act) → ((items : ItemTexts) → Alike (act items)) → Alike (sees_items act)
  unfolding sees_items
  seeing_items act next stage others r = next stage.room.items stage others r

  pub seeing_data : (act : List NamedData → Act) → ((held : List NamedData) → Alike (act held)) → Alike (sees_data act)
  unfolding sees_data
  seeing_data act next stage others r = next stage.held stage others r

  pub seeing_clock : (act : Time → Act) → ((clock : Time) → Alike (act clock)) → Alike (sees_clock act)
  unfolding sees_clock
  seeing_clock act next stage others r = next stage.sight.clock stage others r

  pub seeing_caller : (act : ℕ → Act) → ((caller : ℕ) → Alike (act caller)) → Alike (sees_caller act)
  unfolding sees_caller
  seeing_caller act next stage others r = next stage.sight.caller stage others r

  pub drawing : (act : ℕ → Act) → ((word : ℕ) → Alike (act word)) → Alike (draws_word act)
  unfolding draws_word
  drawing act next stage others r =
      let s = next stage.sight.clock.word stage others r in
      record { rest = ap drew s.rest; left = s.left }

  -- ---- what is asked and set

  by_asking : (user : List ℕ) (act : List ℕ → Act) → Alike (act user) → (refused : Bool) (a : AfterPrompt) (stage : Stage) (others : List File)
      → a.room.items.user ≡ Some user → Agrees stage others
      → SameFrom stage
      (cond refused (answered returns.ConvErr a.room (record stage.sight { files = others })) (act (unwrap_or a.room.items.user []) (in_room a.room (with_files others stage))))
      (cond refused (answered returns.ConvErr a.room stage.sight) (act (unwrap_or a.room.items.user []) (in_room a.room stage)))
  by_asking user act next true a stage others is r = record { rest = refl; left = r }
  by_asking user act next false a stage others is r =
      let who : unwrap_or a.room.items.user [] ≡ user = ap (λ (o : Option (List ℕ)). unwrap_or o []) is in
      subst (λ (u : List ℕ). SameFrom stage (act u (in_room a.room (with_files others stage))) (act u (in_room a.room stage))) (sym who)
      (next (in_room a.room stage) others r)

  pub asking : (user : List ℕ) (act : List ℕ → Act) → Alike (act user) → (stage : Stage) (others : List File) → (user_asked stage.room).room.items.user ≡ Some user
      → Agrees stage others → SameFrom stage (asks_user act (with_files others stage)) (asks_user act stage)
  unfolding asks_user
  asking user act next stage others is r = by_asking user act next (user_asked stage.room).refused (user_asked stage.room) stage others is r

  token_by : (item : ItemName) (act : List ℕ → Act) → ((token : List ℕ) → Alike (act token)) → (refused : Bool) (a : AfterPrompt) (stage : Stage) (others : List File)
      → Agrees stage others
      → SameFrom stage
      (cond refused (answered returns.ConvErr a.room (record stage.sight { files = others })) (act (unwrap_or (text_of a.room.items item) []) (in_room a.room (with_files others stage))))
      (cond refused (answered returns.ConvErr a.room stage.sight) (act (unwrap_or (text_of a.room.items item) []) (in_room a.room stage)))
  token_by item act next true a stage others r = record { rest = refl; left = r }
  token_by item act next false a stage others r = next (unwrap_or (text_of a.room.items item) []) (in_room a.room stage) others r

  pub asking_token : (old : Bool) (prompt : List ℕ) (act : List ℕ → Act) → ((token : List ℕ) → Alike (act token)) → Alike (asks_token old prompt act)
  unfolding asks_token
  asking_token old prompt act next stage others r =
      let a = token_asked old prompt stage.room in
      token_by (token_of old) act next a.refused a stage others r

  replied : (answer : Result (List Reply) ConvFault) (room : SeenRoom) (act : List Reply → Act) → ((replies : List Reply) → Alike (act replies))
      → Alike (with_replies answer room act)
  replied (Ok replies) room act next stage others r = next replies (in_room room stage) others r
  replied (Err fault) room act next stage others r = record { rest = refl; left = r }

  pub exchanging : (messages : List Message) (act : List Reply → Act) → ((replies : List Reply) → Alike (act replies)) → Alike (exchanges messages act)
  unfolding exchanges
  exchanging messages act next stage others r = replied (speak messages stage.room).answer (speak messages stage.room).room act next stage others r

  pub setting : (item : ItemName) (text : List ℕ) (act : Act) → Alike act → Alike (sets_item item text act)
  unfolding sets_item
  setting item text act next stage others r = next _ others r

  pub delaying : (micros : ℕ) (act : Act) → Alike act → Alike (requests_delay micros act)
  unfolding requests_delay
  delaying micros act next stage others r = next _ others r

  -- ---- locks

  pub once_more : (root : List ℕ) (moment : ℕ) (p q : Played) → Same root moment p q → Same root moment (called p) (called q)
  once_more root moment p q s = record { rest = ap called s.rest; left = s.left }

  hold_unless : (fails : Bool) (path : List ℕ) (kind : LockKind) (act : Bool → Act) → ((b : Bool) → Alike (act b)) → Alike (holds_unless fails path kind act)
  hold_unless true path kind act next stage others r =
      once_more stage.sight.root stage.sight.clock.moment (act false (with_files others (on stage))) (act false (on stage)) (next false (on stage) others r)
  hold_unless false path kind act next stage others r =
      let s = next true (on stage) others r in
      record { rest = ap (λ (p : Played). called (took path kind p)) s.rest; left = s.left }

  hold_if : (rooted : Bool) (lock : List ℕ) (kind : LockKind) (act : Bool → Act) → ((b : Bool) → Alike (act b)) → Alike (holds_if rooted lock kind act)
  hold_if true lock kind act next stage others r = hold_unless (stage.sight.failing 0) (path_of stage.sight.root lock) kind act next stage others r
  hold_if false lock kind act next stage others r = next true stage others r

  pub holding : (lock : List ℕ) (kind : LockKind) (act : Bool → Act) → ((b : Bool) → Alike (act b)) → Alike (holds_lock lock kind act)
  unfolding holds_lock
  holding lock kind act next stage others r = hold_if (is_rooted lock) lock kind act next stage others r

  abbrev let_gone : Bool → Played → Played
  let_gone held p = record p { locks = after_letting_go held p.locks }

  pub letting_go : (held : Bool) (act : Act) → Alike act → Alike (lets_go held act)
  unfolding lets_go
  letting_go held act next stage others r =
      let s = next stage others r in
      record { rest = ap (let_gone held) s.rest; left = s.left }

  -- ---- the look-up

  module _ (user : List ℕ) (agrees : (root : List ℕ) (moment : ℕ) (files others : List File) → R root moment files others → AgreeFor user root files others)
      (act : KnownPassword → Act) (next : (look : KnownPassword) → Alike (act look)) where
    hash_known : (x : Bool) (hash : List ℕ) → Alike (shadow_if_x x user hash act)
    unfolding reads_file
    hash_known true hash stage others r =
        let here = shadow_in user (content_seen (codes "/etc/shadow") account_limit stage.sight) in
        let there = shadow_in user (content_seen (codes "/etc/shadow") account_limit (record stage.sight { files = others })) in
        let is : there ≡ here = same_look user stage.sight.root (stage.sight.failing 0) stage.sight.files others
        (agrees stage.sight.root stage.sight.clock.moment stage.sight.files others r) in
        subst (λ (k : KnownPassword). SameFrom stage (called (act k (with_files others (on stage)))) (called (act here (on stage)))) (sym is)
        (once_more stage.sight.root stage.sight.clock.moment (act here (with_files others (on stage))) (act here (on stage)) (next here (on stage) others r))
    hash_known false hash stage others r = next (Plain hash) stage others r

    entry_known : (found : Option Passwd) → Alike (after_passwd user (field_or_missing found) act)
    entry_known None = next Unknown
    entry_known (Some entry) = hash_known (is_x entry.password) entry.password

    entries_known : (found : Result (List Passwd) DbFault) → Alike (after_passwd user (field_among user found) act)
    entries_known (Err fault) = next Unavailable
    entries_known (Ok entries) = entry_known (entry_of user entries)

    passwd_known : (c : Content) → Alike (after_passwd user (field_in user c) act)
    passwd_known content.Absent = next Unavailable
    passwd_known content.Unreadable = next Unavailable
    passwd_known (content.Holds text) = entries_known (passwds_of text)

    pub looking : Alike (looks user act)
    unfolding looks reads_file
    looking stage others r =
        let here = content_seen (codes "/etc/passwd") account_limit stage.sight in
        let there = content_seen (codes "/etc/passwd") account_limit (record stage.sight { files = others }) in
        let agree = agrees stage.sight.root stage.sight.clock.moment stage.sight.files others r in
        let is : there ≡ here = ap (content_of (stage.sight.failing 0) account_limit) agree.passwd in
        subst (λ (c : Content). SameFrom stage (called (after_passwd user (field_in user c) act (with_files others (on stage))))
        (called (after_passwd user (field_in user here) act (on stage)))) (sym is)
        (once_more stage.sight.root stage.sight.clock.moment (after_passwd user (field_in user here) act (with_files others (on stage)))
        (after_passwd user (field_in user here) act (on stage)) (passwd_known here (on stage) others r))
