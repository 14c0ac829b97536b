-- Which steps of a module leave a file as it was.
use Rattle.std.proofs.Common.{◌≡◌, ℕ, Bool, true, false, not, cond, ◌||◌, nat_lt, length, List, [], ◌∷◌, Option, Some, None, Result, Ok}
use Rattle.std.proofs.Common.{Err, codes, refl, ap, ◌∙◌}
use Rattle.std.specs.Str.{bytes_eq}
use Rattle.std.proofs.lemmas.Slice.Eq.{bytes_eq-Decides}
use Rattle.pam_base.specs.declared.code.Code.{Code}
use Rattle.pam_base.specs.declared.item.ItemName.{ItemName}
use Rattle.pam_base.specs.declared.style.Style.{Style}
use Rattle.pam_outside.specs.declared.held.LockKind.{LockKind}
use Rattle.pam_outside.specs.declared.vault.TheConstants.{MAX_FILE}
use Rattle.pam_outside.specs.Files.{File, file_at, file_put}
use Rattle.pam_outside.specs.Paths.{path_of}
use Rattle.pam_outside.specs.Time.{Time}
use Rattle.pam_room.specs.Call.{PlainCall}
use Rattle.pam_room.specs.Module.{NamedData, Played, SeenRoom, Sight}
use Rattle.pam_room.specs.Say.{speak, token_asked, user_asked}
use Rattle.pam_room.specs.item_store.specs.Items.{ItemTexts}
use Rattle.pam_room.specs.conv_port.specs.declared.conv.ConvFault.{ConvFault}
use Rattle.pam_room.specs.conv_port.specs.declared.message.Message.{Message}
use Rattle.pam_room.specs.conv_port.specs.declared.message.Reply.{Reply}
use Rattle.mod_unix.specs.module_acts.specs.account_db.specs.declared.passwd.Passwd.{Passwd}
use Rattle.mod_unix.specs.module_acts.specs.account_db.specs.declared.group.Group.{Group}
use Rattle.mod_unix.specs.module_acts.specs.declared.content.Content.{Content}
use Rattle.mod_unix.specs.module_acts.specs.declared.content.Content.TheVariants.{Absent}
use Rattle.mod_unix.specs.module_acts.specs.Content.{is_rooted}
use Rattle.mod_unix.specs.module_acts.specs.Accounts.{Account, account_in, account_limit, nothing_known, shells_in}
use Rattle.mod_unix.specs.module_acts.specs.Act.{Act, Stage, answers, asks_user, called, draws_word, finds_account, groups_by, holds_if}
use Rattle.mod_unix.specs.module_acts.specs.Act.{holds_lock, holds_unless, in_room, later, lets_go, passwds_by, plays_by, reads_file}
use Rattle.mod_unix.specs.module_acts.specs.Act.{reads_groups, reads_if, reads_passwds, reads_shells, replaced, replaces_file, sees_items}
use Rattle.mod_unix.specs.module_acts.specs.Act.{shown, shows, unless_answered}
use Rattle.mod_unix.specs.module_acts.specs.Steps.{answers_keeping, asks_token, exchanges, requests_delay, sees_caller, sees_clock}
use Rattle.mod_unix.specs.module_acts.specs.Steps.{sees_data, sets_item, with_replies}
use Rattle.laws_audit.specs.Tallied.{LeavesFile}

-- ---- a file that is set

is_not : (a b : List ℕ) → (a ≡ b → ⊥) → (t : Bool) → bytes_eq a b ≡ t → bytes_eq a b ≡ false
is_not a b other true e = absurd (other ((bytes_eq-Decides a b).0 e))
is_not a b other false e = e

module _ (path bytes other : List ℕ) (differs : path ≡ other → ⊥) where
  is_other : bytes_eq path other ≡ false
  is_other = is_not path other differs (bytes_eq path other) refl

  past_by : (f : File) (fs : List File) (b : Bool) → bytes_eq f.path path ≡ b → file_at other (file_put path bytes fs) ≡ file_at other fs
      → file_at other (cond b (record { path = path; bytes = bytes } ∷ fs) (f ∷ file_put path bytes fs)) ≡ file_at other (f ∷ fs)
  past_by f fs true e below =
      let passed : bytes_eq f.path other ≡ false = ap (λ (p : List ℕ). bytes_eq p other) ((bytes_eq-Decides f.path path).0 e) ∙ is_other in
      rw (is_other, passed) refl
  past_by f fs false e below = rw below refl

  put_past : (files : List File) → file_at other (file_put path bytes files) ≡ file_at other files
  put_past [] = rw is_other refl
  put_past (f ∷ fs) = past_by f fs (bytes_eq f.path path) refl (put_past fs)

module _ (path : List ℕ) where
  -- what the module did left the file as it was
  abbrev pub Left : Sight → Played → Type 0
  Left sight p = file_at path p.files ≡ file_at path sight.files

  abbrev pub Leaves : Act → Type 0
  Leaves act = (stage : Stage) → Left stage.sight (act stage)

  pub by_act : (act : PlainCall → Act) → ((call : PlainCall) → Leaves (act call)) → LeavesFile path (plays_by act)
  by_act act leaves call room held sight = leaves call (record { room = room; held = held; known = nothing_known; sight = sight })

  -- ---- answers

  pub answering : (code : Code) → Leaves (answers code)
  unfolding answers
  answering code stage = refl

  pub keeping : (datum : NamedData) (code : Code) → Leaves (answers_keeping datum code)
  unfolding answers_keeping
  keeping datum code stage = refl

  pub unless : (o : Option Code) (act : Act) → Leaves act → Leaves (unless_answered o act)
  unless (Some code) act leaves = answering code
  unless None act leaves = leaves

  -- ---- asking and showing

  picked : (sight : Sight) (b : Bool) (x y : Played) → Left sight x → Left sight y → Left sight (cond b x y)
  picked sight true x y l r = l
  picked sight false x y l r = r

  pub asking : (act : List ℕ → Act) → ((user : List ℕ) → Leaves (act user)) → Leaves (asks_user act)
  unfolding asks_user
  asking act next stage = picked stage.sight (user_asked stage.room).refused _ _ refl (next _ (in_room (user_asked stage.room).room stage))

  pub asking_token : (old : Bool) (prompt : List ℕ) (act : List ℕ → Act) → ((token : List ℕ) → Leaves (act token)) → Leaves (asks_token old prompt act)
  unfolding asks_token
  asking_token old prompt act next stage =
      let asked = token_asked old prompt stage.room in
      picked stage.sight asked.refused _ _ refl (next _ (in_room asked.room stage))

  replied : (r : Result (List Reply) ConvFault) (room : SeenRoom) (act : List Reply → Act) → ((replies : List Reply) → Leaves (act replies))
      → Leaves (with_replies r room act)
  replied (Ok replies) room act next stage = next replies (in_room room stage)
  replied (Err fault) room act next stage = refl

  pub exchanging : (messages : List Message) (act : List Reply → Act) → ((replies : List Reply) → Leaves (act replies)) → Leaves (exchanges messages act)
  unfolding exchanges
  exchanging messages act next stage = replied (speak messages stage.room).answer (speak messages stage.room).room act next stage

  pub showing : (style : Style) (text : List ℕ) (act : Act) → Leaves act → Leaves (shows style text act)
  unfolding shows
  showing style text act next stage = next (in_room (shown style text stage.room) stage)

  -- ---- seeing

  pub seeing_items : (act : ItemTexts → Act) → ((items : ItemTexts) → Leaves (act items)) → Leaves (sees_items act)
  unfolding sees_items
  seeing_items act next stage = next stage.room.items stage

  pub seeing_data : (act : List NamedData → Act) → ((held : List NamedData) → Leaves (act held)) → Leaves (sees_data act)
  unfolding sees_data
  seeing_data act next stage = next stage.held stage

  pub seeing_clock : (act : Time → Act) → ((clock : Time) → Leaves (act clock)) → Leaves (sees_clock act)
  unfolding sees_clock
  seeing_clock act next stage = next stage.sight.clock stage

  pub seeing_caller : (act : ℕ → Act) → ((caller : ℕ) → Leaves (act caller)) → Leaves (sees_caller act)
  unfolding sees_caller
  seeing_caller act next stage = next stage.sight.caller stage

  pub drawing : (act : ℕ → Act) → ((word : ℕ) → Leaves (act word)) → Leaves (draws_word act)
  unfolding draws_word
  drawing act next stage = next stage.sight.clock.word stage

  -- ---- the room

  pub delaying : (micros : ℕ) (act : Act) → Leaves act → Leaves (requests_delay micros act)
  unfolding requests_delay
  delaying micros act next stage = next _

  pub setting_item : (item : ItemName) (text : List ℕ) (act : Act) → Leaves act → Leaves (sets_item item text act)
  unfolding sets_item
  setting_item item text act next stage = next _

  -- ---- files

  read_by : (rooted : Bool) (name : List ℕ) (limit : ℕ) (act : Content → Act) → ((content : Content) → Leaves (act content))
      → Leaves (reads_if rooted name limit act)
  read_by true name limit act next stage = next _ (record stage { sight = later stage.sight })
  read_by false name limit act next stage = next Absent stage

  pub reading : (name : List ℕ) (limit : ℕ) (act : Content → Act) → ((content : Content) → Leaves (act content)) → Leaves (reads_file name limit act)
  unfolding reads_file
  reading name limit act next stage = read_by (is_rooted name) name limit act next stage

  by_passwds : (known : Option (Option (List Passwd))) (act : Option (List Passwd) → Act) → ((e : Option (List Passwd)) → Leaves (act e))
      → Leaves (passwds_by known act)
  by_passwds (Some e) act next stage = next e stage
  by_passwds None act next stage = next _ _

  pub reading_passwds : (act : Option (List Passwd) → Act) → ((e : Option (List Passwd)) → Leaves (act e)) → Leaves (reads_passwds act)
  unfolding reads_passwds
  reading_passwds act next stage = by_passwds stage.known.passwds act next stage

  by_groups : (known : Option (Option (List Group))) (act : Option (List Group) → Act) → ((e : Option (List Group)) → Leaves (act e))
      → Leaves (groups_by known act)
  by_groups (Some e) act next stage = next e stage
  by_groups None act next stage = next _ _

  pub reading_groups : (act : Option (List Group) → Act) → ((e : Option (List Group)) → Leaves (act e)) → Leaves (reads_groups act)
  unfolding reads_groups
  reading_groups act next stage = by_groups stage.known.groups act next stage

  pub finding : (user : List ℕ) (act : Account → Act) → ((a : Account) → Leaves (act a)) → Leaves (finds_account user act)
  finding user act next = reading_passwds (λ entries. act (account_in user entries)) (λ entries. next (account_in user entries))

  pub reading_shells : (act : Option (List (List ℕ)) → Act) → ((shells : Option (List (List ℕ))) → Leaves (act shells)) → Leaves (reads_shells act)
  unfolding reads_shells
  reading_shells act next = reading (codes "/etc/shells") account_limit (λ content. act (shells_in content)) (λ content. next (shells_in content))

  -- another file is set, if the call doesn't fail
  put_by : (fails : Bool) (name bytes : List ℕ) (act : Bool → Act) → ((root : List ℕ) → path_of root name ≡ path → ⊥) → ((done : Bool) → Leaves (act done))
      → (stage : Stage) → Left stage.sight (called (act (not fails) (record stage
      { sight = replaced fails (path_of stage.sight.root name) bytes stage.sight })))
  put_by true name bytes act apart next stage = next false (record stage { sight = replaced true (path_of stage.sight.root name) bytes stage.sight })
  put_by false name bytes act apart next stage =
      next true (record stage { sight = replaced false (path_of stage.sight.root name) bytes stage.sight })
      ∙ put_past (path_of stage.sight.root name) bytes path (apart stage.sight.root) stage.sight.files

  pub replacing : (name bytes : List ℕ) (act : Bool → Act) → ((root : List ℕ) → path_of root name ≡ path → ⊥) → ((done : Bool) → Leaves (act done))
      → Leaves (replaces_file name bytes act)
  unfolding replaces_file
  replacing name bytes act apart next stage = put_by (stage.sight.failing 0 || nat_lt MAX_FILE (length bytes)) name bytes act apart next stage

  -- ---- locks

  held_unless : (fails : Bool) (place : List ℕ) (kind : LockKind) (act : Bool → Act) → ((held : Bool) → Leaves (act held))
      → Leaves (holds_unless fails place kind act)
  held_unless true place kind act next stage = next false (record stage { sight = later stage.sight })
  held_unless false place kind act next stage = next true (record stage { sight = later stage.sight })

  held_by : (rooted : Bool) (name : List ℕ) (kind : LockKind) (act : Bool → Act) → ((held : Bool) → Leaves (act held)) → Leaves (holds_if rooted name kind act)
  held_by true name kind act next stage = held_unless (stage.sight.failing 0) (path_of stage.sight.root name) kind act next stage
  held_by false name kind act next stage = next true stage

  pub holding : (name : List ℕ) (kind : LockKind) (act : Bool → Act) → ((held : Bool) → Leaves (act held)) → Leaves (holds_lock name kind act)
  unfolding holds_lock
  holding name kind act next stage = held_by (is_rooted name) name kind act next stage

  pub letting_go : (held : Bool) (act : Act) → Leaves act → Leaves (lets_go held act)
  unfolding lets_go
  letting_go held act next stage = next stage
