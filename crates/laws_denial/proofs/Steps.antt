-- Which steps of a module leave USER, if it is set, and all files.
use Rattle.std.proofs.Common.{◌≡◌, ℕ, Bool, true, false, cond, List, [], ◌∷◌, Option, Some, None, Result, Ok, Err, unwrap_or, codes, refl}
use Rattle.pam_base.specs.declared.code.Code.{Code}
use Rattle.pam_base.specs.declared.call.Func.TheVariants.{Authenticate}
use Rattle.pam_base.specs.declared.code.Code.TheVariants as returns
use Rattle.pam_base.specs.declared.style.Style.{Style}
use Rattle.pam_base.specs.declared.style.Style.TheVariants.{EchoOff}
use Rattle.pam_room.specs.Call.{PlainCall}
use Rattle.pam_room.specs.Module.{NamedData, Played, SeenRoom, answered}
use Rattle.pam_room.specs.Say.{AfterPrompt, asked_by, speak, token_asked, token_of, user_or_ask}
use Rattle.pam_room.specs.item_store.specs.Items.{ItemTexts, text_of}
use Rattle.pam_room.specs.conv_port.specs.declared.conv.ConvFault.{ConvFault}
use Rattle.pam_room.specs.conv_port.specs.declared.message.Reply.{Reply}
use Rattle.account_db.specs.declared.passwd.Passwd.{Passwd}
use Rattle.account_db.specs.declared.group.Group.{Group}
use Rattle.module_acts.specs.declared.content.Content.{Content}
use Rattle.module_acts.specs.declared.content.Content.TheVariants.{Absent}
use Rattle.module_acts.specs.Content.{is_rooted}
use Rattle.module_acts.specs.Accounts.{Account, account_in, account_limit, groups_in, nothing_known, passwds_in, shells_in}
use Rattle.module_acts.specs.Act.{Act, Stage, answers, asks_user, called, content_seen, finds_account, groups_by, in_room, later, passwds_by, plays_by, reads_file, reads_groups, reads_if, reads_passwds, reads_shells, sees_items, shown, shows, unless_answered, with_user}
use Rattle.module_acts.specs.Steps.{answers_keeping, asks_token, requests_delay, sees_caller}
use Rattle.laws_denial.specs.Leaving.{LeavesUserAndFiles, LeftAlone}

module _ (user : List ℕ) where
  abbrev pub Still : Act → Type 0
  Still act = (stage : Stage) → stage.room.items.user ≡ Some user → LeftAlone user stage.sight (act stage)

  -- ---- answers

  at_once : (code : Code) (stage : Stage) → stage.room.items.user ≡ Some user → LeftAlone user stage.sight (answered code stage.room stage.sight)
  at_once code stage is = record { user_is = is; files_are = refl }

  pub answering : (code : Code) → Still (answers code)
  unfolding answers
  answering code stage is = at_once code stage is

  pub keeping : (datum : NamedData) (code : Code) → Still (answers_keeping datum code)
  unfolding answers_keeping
  keeping datum code stage is = record { user_is = is; files_are = refl }

  pub unless : (o : Option Code) (act : Act) → Still act → Still (unless_answered o act)
  unless (Some code) act leaves = answering code
  unless None act leaves = leaves

  -- ---- asking and showing

  user_there : (found : Option (List ℕ)) (act : List ℕ → Act) → ((name : List ℕ) → Still (act name)) → (stage : Stage) → found ≡ Some user
      → stage.room.items.user ≡ Some user
      → LeftAlone user stage.sight (with_user (user_or_ask found stage.room) act stage)
  user_there None act next stage there is = absurd cc
  user_there (Some name) act next stage there is = next (unwrap_or stage.room.items.user []) stage is

  pub asking : (act : List ℕ → Act) → ((name : List ℕ) → Still (act name)) → Still (asks_user act)
  unfolding asks_user
  asking act next stage is = user_there stage.room.items.user act next stage is is

  asked_stays : (old : Bool) (r : Result (List Reply) ConvFault) (room : SeenRoom) → room.items.user ≡ Some user
      → (asked_by (token_of old) r room).room.items.user ≡ Some user
  asked_stays old (Err fault) room is = is
  asked_stays old (Ok []) room is = is
  asked_stays true (Ok (reply ∷ replies)) room is = is
  asked_stays false (Ok (reply ∷ replies)) room is = is

  token_by : (refused old : Bool) (a : AfterPrompt) (act : List ℕ → Act) → ((token : List ℕ) → Still (act token)) → (stage : Stage) → a.room.items.user ≡ Some user
      → LeftAlone user stage.sight
      (cond refused (answered returns.ConvErr a.room stage.sight) (act (unwrap_or (text_of a.room.items (token_of old)) []) (in_room a.room stage)))
  token_by true old a act next stage is = record { user_is = is; files_are = refl }
  token_by false old a act next stage is = next (unwrap_or (text_of a.room.items (token_of old)) []) (in_room a.room stage) is

  pub asking_token : (old : Bool) (prompt : List ℕ) (act : List ℕ → Act) → ((token : List ℕ) → Still (act token)) → Still (asks_token old prompt act)
  unfolding asks_token
  asking_token old prompt act next stage is =
      let a = token_asked old prompt stage.room in
      let spoken = speak (record { style = EchoOff; text = prompt } ∷ []) stage.room in
      token_by a.refused old a act next stage (asked_stays old spoken.answer spoken.room is)

  shown_stays : (style : Style) (text : List ℕ) (room : SeenRoom) → room.items.user ≡ Some user → (shown style text room).items.user ≡ Some user
  shown_stays style [] room is = is
  shown_stays style (b ∷ bs) room is = is

  pub showing : (style : Style) (text : List ℕ) (act : Act) → Still act → Still (shows style text act)
  unfolding shows
  showing style text act next stage is = next (in_room (shown style text stage.room) stage) (shown_stays style text stage.room is)

  -- ---- seeing

  pub seeing_items : (act : ItemTexts → Act) → ((items : ItemTexts) → Still (act items)) → Still (sees_items act)
  unfolding sees_items
  seeing_items act next stage is = next stage.room.items stage is

  pub seeing_caller : (act : ℕ → Act) → ((caller : ℕ) → Still (act caller)) → Still (sees_caller act)
  unfolding sees_caller
  seeing_caller act next stage is = next stage.sight.caller stage is

  pub delaying : (micros : ℕ) (act : Act) → Still act → Still (requests_delay micros act)
  unfolding requests_delay
  delaying micros act next stage is = next _ is

  -- ---- files

  -- after one more call of `Vault`
  once_more : (stage : Stage) (p : Played) → LeftAlone user stage.sight p → LeftAlone user stage.sight (called p)
  once_more stage p left = record { user_is = left.user_is; files_are = left.files_are }

  read_by : (rooted : Bool) (name : List ℕ) (limit : ℕ) (act : Content → Act) → ((content : Content) → Still (act content))
      → Still (reads_if rooted name limit act)
  read_by true name limit act next stage is =
      let content = content_seen name limit stage.sight in
      let now : Stage = record stage { sight = later stage.sight } in
      let left = next content now is in
      once_more stage (act content now) (record { user_is = left.user_is; files_are = left.files_are })
  read_by false name limit act next stage is = next Absent stage is

  pub reading : (name : List ℕ) (limit : ℕ) (act : Content → Act) → ((content : Content) → Still (act content)) → Still (reads_file name limit act)
  unfolding reads_file
  reading name limit act next stage is = read_by (is_rooted name) name limit act next stage is

  by_passwds : (known : Option (Option (List Passwd))) (act : Option (List Passwd) → Act) → ((e : Option (List Passwd)) → Still (act e))
      → Still (passwds_by known act)
  by_passwds (Some e) act next stage is = next e stage is
  by_passwds None act next stage is =
      let found = passwds_in (content_seen (codes "/etc/passwd") account_limit stage.sight) in
      let now : Stage = record stage { known = record stage.known { passwds = Some found }; sight = later stage.sight } in
      let left = next found now is in
      once_more stage (act found now) (record { user_is = left.user_is; files_are = left.files_are })

  pub reading_passwds : (act : Option (List Passwd) → Act) → ((e : Option (List Passwd)) → Still (act e)) → Still (reads_passwds act)
  unfolding reads_passwds
  reading_passwds act next stage is = by_passwds stage.known.passwds act next stage is

  by_groups : (known : Option (Option (List Group))) (act : Option (List Group) → Act) → ((e : Option (List Group)) → Still (act e))
      → Still (groups_by known act)
  by_groups (Some e) act next stage is = next e stage is
  by_groups None act next stage is =
      let found = groups_in (content_seen (codes "/etc/group") account_limit stage.sight) in
      let now : Stage = record stage { known = record stage.known { groups = Some found }; sight = later stage.sight } in
      let left = next found now is in
      once_more stage (act found now) (record { user_is = left.user_is; files_are = left.files_are })

  pub reading_groups : (act : Option (List Group) → Act) → ((e : Option (List Group)) → Still (act e)) → Still (reads_groups act)
  unfolding reads_groups
  reading_groups act next stage is = by_groups stage.known.groups act next stage is

  pub finding : (name : List ℕ) (act : Account → Act) → ((a : Account) → Still (act a)) → Still (finds_account name act)
  finding name act next = reading_passwds (λ entries. act (account_in name entries)) (λ entries. next (account_in name entries))

  pub reading_shells : (act : Option (List (List ℕ)) → Act) → ((shells : Option (List (List ℕ))) → Still (act shells)) → Still (reads_shells act)
  unfolding reads_shells
  reading_shells act next = reading (codes "/etc/shells") account_limit (λ content. act (shells_in content)) (λ content. next (shells_in content))

-- a call of authenticate
abbrev pub calls : ℕ → List (List ℕ) → PlainCall
calls flags args = record { func = Authenticate; flags = flags; args = args }

-- a module leaves them if each call of its authenticate does
pub by_act : (act : PlainCall → Act) → ((user : List ℕ) (flags : ℕ) (args : List (List ℕ)) → Still user (act (calls flags args)))
    → LeavesUserAndFiles (plays_by act)
by_act act leaves flags args room held sight user is =
    leaves user flags args (record { room = room; held = held; known = nothing_known; sight = sight }) is
