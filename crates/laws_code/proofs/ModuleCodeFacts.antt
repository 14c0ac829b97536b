-- What holds for the code of a module, step by step: it holds for each code in which the rest may end.
use Rattle.std.proofs.Common.{ℕ, Bool, true, false, List, [], Option, Some, None, unwrap_or, cond, Result, Ok, Err}
use Rattle.pam_base.specs.declared.code.Code.{Code}
use Rattle.pam_base.specs.declared.code.Code.TheVariants as returns
use Rattle.pam_base.specs.declared.style.Style.{Style}
use Rattle.pam_room.specs.item_store.specs.Items.{ItemTexts, text_of}
use Rattle.pam_room.specs.Module.{NamedData, SeenRoom, answered}
use Rattle.pam_room.specs.Say.{AfterPrompt, speak, token_asked, token_of, user_asked}
use Rattle.account_db.specs.declared.passwd.Passwd.{Passwd}
use Rattle.account_db.specs.declared.group.Group.{Group}
use Rattle.module_acts.specs.declared.content.Content.{Content}
use Rattle.module_acts.specs.Accounts.{Account, account_in, shells_in}
use Rattle.module_acts.specs.Act.{Act, Stage, answers, asks_user, draws_word, finds_account, groups_by, holds_if, holds_lock, holds_unless}
use Rattle.module_acts.specs.Act.{in_room, lets_go, passwds_by, reads_file, reads_groups, reads_if, reads_passwds, reads_shells}
use Rattle.module_acts.specs.Act.{replaces_file, sees_items, sees_moment, shows, unless_answered}
use Rattle.module_acts.specs.Content.{is_rooted}
use Rattle.module_acts.specs.Steps.{answers_keeping, asks_token, exchanges, requests_delay, sees_caller, sees_clock, sees_data, sets_item, with_replies}
use Rattle.conv_port.specs.declared.conv.ConvFault.{ConvFault}
use Rattle.conv_port.specs.declared.message.Message.{Message}
use Rattle.conv_port.specs.declared.message.Reply.{Reply}
use Rattle.pam_base.specs.declared.item.ItemName.{ItemName}
use Rattle.pam_outside.specs.declared.held.LockKind.{LockKind}
use Rattle.pam_outside.specs.Paths.{path_of}
use Rattle.pam_outside.specs.Time.{Time}

abbrev pub Gives : (Code → Type 0) → Act → Type 0
Gives P act = (stage : Stage) → P (act stage).code

module _ (P : Code → Type 0) where
  pub answering : (code : Code) → P code → Gives P (answers code)
  unfolding answers
  answering code p stage = p

  -- a code that may be decided already
  abbrev pub IfSome : Option Code → Type 0
  IfSome None = Unit {0}
  IfSome (Some code) = P code

  pub unless : (found : Option Code) (act : Act) → IfSome found → Gives P act → Gives P (unless_answered found act)
  unless None act p rest stage = rest stage
  unless (Some code) act p rest stage = answering code p stage

  user_of : (refused : Bool) (a : AfterPrompt) (act : List ℕ → Act) (stage : Stage) → P returns.ConvErr → ((user : List ℕ) → Gives P (act user))
      → P (cond refused (answered returns.ConvErr a.room stage.sight) (act (unwrap_or a.room.items.user []) (in_room a.room stage))).code
  user_of true a act stage p rest = p
  user_of false a act stage p rest = rest (unwrap_or a.room.items.user []) (in_room a.room stage)

  pub asking : (act : List ℕ → Act) → P returns.ConvErr → ((user : List ℕ) → Gives P (act user)) → Gives P (asks_user act)
  unfolding asks_user
  asking act p rest stage = user_of (user_asked stage.room).refused (user_asked stage.room) act stage p rest

  pub showing : (style : Style) (text : List ℕ) (act : Act) → Gives P act → Gives P (shows style text act)
  unfolding shows
  showing style text act rest stage = rest _

  pub seeing_items : (act : ItemTexts → Act) → ((items : ItemTexts) → Gives P (act items)) → Gives P (sees_items act)
  unfolding sees_items
  seeing_items act rest stage = rest stage.room.items stage

  pub seeing_caller : (act : ℕ → Act) → ((caller : ℕ) → Gives P (act caller)) → Gives P (sees_caller act)
  unfolding sees_caller
  seeing_caller act rest stage = rest stage.sight.caller stage

  read_if : (r : Bool) (name : List ℕ) (limit : ℕ) (act : Content → Act) → ((c : Content) → Gives P (act c)) → Gives P (reads_if r name limit act)
  read_if true name limit act rest stage = rest _ _
  read_if false name limit act rest stage = rest _ stage

  pub reading : (name : List ℕ) (limit : ℕ) (act : Content → Act) → ((c : Content) → Gives P (act c)) → Gives P (reads_file name limit act)
  unfolding reads_file
  reading name limit act rest stage = read_if (is_rooted name) name limit act rest stage

  passwds_so : (known : Option (Option (List Passwd))) (act : Option (List Passwd) → Act) → ((es : Option (List Passwd)) → Gives P (act es))
      → Gives P (passwds_by known act)
  passwds_so (Some found) act rest stage = rest found stage
  passwds_so None act rest stage = rest _ _

  pub reading_passwds : (act : Option (List Passwd) → Act) → ((es : Option (List Passwd)) → Gives P (act es)) → Gives P (reads_passwds act)
  unfolding reads_passwds
  reading_passwds act rest stage = passwds_so stage.known.passwds act rest stage

  groups_so : (known : Option (Option (List Group))) (act : Option (List Group) → Act) → ((gs : Option (List Group)) → Gives P (act gs))
      → Gives P (groups_by known act)
  groups_so (Some found) act rest stage = rest found stage
  groups_so None act rest stage = rest _ _

  pub reading_groups : (act : Option (List Group) → Act) → ((gs : Option (List Group)) → Gives P (act gs)) → Gives P (reads_groups act)
  unfolding reads_groups
  reading_groups act rest stage = groups_so stage.known.groups act rest stage

  pub finding : (user : List ℕ) (act : Account → Act) → ((a : Account) → Gives P (act a)) → Gives P (finds_account user act)
  finding user act rest = reading_passwds (λ es. act (account_in user es)) (λ es. rest (account_in user es))

  pub reading_shells : (act : Option (List (List ℕ)) → Act) → ((s : Option (List (List ℕ))) → Gives P (act s)) → Gives P (reads_shells act)
  unfolding reads_shells
  reading_shells act rest = reading _ _ (λ c. act (shells_in c)) (λ c. rest (shells_in c))

  pub replacing : (name bytes : List ℕ) (act : Bool → Act) → ((b : Bool) → Gives P (act b)) → Gives P (replaces_file name bytes act)
  unfolding replaces_file
  replacing name bytes act rest stage = rest _ _

  hold_unless : (b : Bool) (path : List ℕ) (kind : LockKind) (act : Bool → Act) → ((b : Bool) → Gives P (act b)) → Gives P (holds_unless b path kind act)
  hold_unless true path kind act rest stage = rest false _
  hold_unless false path kind act rest stage = rest true _

  hold_if : (b : Bool) (name : List ℕ) (kind : LockKind) (act : Bool → Act) → ((b : Bool) → Gives P (act b)) → Gives P (holds_if b name kind act)
  hold_if true name kind act rest stage = hold_unless (stage.sight.failing 0) (path_of stage.sight.root name) kind act rest stage
  hold_if false name kind act rest stage = rest true stage

  pub holding : (name : List ℕ) (kind : LockKind) (act : Bool → Act) → ((b : Bool) → Gives P (act b)) → Gives P (holds_lock name kind act)
  unfolding holds_lock
  holding name kind act rest stage = hold_if (is_rooted name) name kind act rest stage

  pub letting_go : (held : Bool) (act : Act) → Gives P act → Gives P (lets_go held act)
  unfolding lets_go
  letting_go held act rest stage = rest stage

  pub seeing_moment : (act : ℕ → Act) → ((now : ℕ) → Gives P (act now)) → Gives P (sees_moment act)
  unfolding sees_moment
  seeing_moment act rest stage = rest stage.sight.clock.moment stage

  pub drawing : (act : ℕ → Act) → ((word : ℕ) → Gives P (act word)) → Gives P (draws_word act)
  unfolding draws_word
  drawing act rest stage = rest stage.sight.clock.word stage

  pub seeing_clock : (act : Time → Act) → ((t : Time) → Gives P (act t)) → Gives P (sees_clock act)
  unfolding sees_clock
  seeing_clock act rest stage = rest stage.sight.clock stage

  pub seeing_data : (act : List NamedData → Act) → ((ds : List NamedData) → Gives P (act ds)) → Gives P (sees_data act)
  unfolding sees_data
  seeing_data act rest stage = rest stage.held stage

  pub delaying : (micros : ℕ) (act : Act) → Gives P act → Gives P (requests_delay micros act)
  unfolding requests_delay
  delaying micros act rest stage = rest _

  pub setting : (item : ItemName) (text : List ℕ) (act : Act) → Gives P act → Gives P (sets_item item text act)
  unfolding sets_item
  setting item text act rest stage = rest _

  pub keeping : (datum : NamedData) (code : Code) → P code → Gives P (answers_keeping datum code)
  unfolding answers_keeping
  keeping datum code p stage = p

  token_of_asked : (refused : Bool) (item : ItemName) (a : AfterPrompt) (act : List ℕ → Act) (stage : Stage) → P returns.ConvErr
      → ((text : List ℕ) → Gives P (act text))
      → P (cond refused (answered returns.ConvErr a.room stage.sight) (act (unwrap_or (text_of a.room.items item) []) (in_room a.room stage))).code
  token_of_asked true item a act stage p rest = p
  token_of_asked false item a act stage p rest = rest _ _

  pub asking_token : (old : Bool) (prompt : List ℕ) (act : List ℕ → Act) → P returns.ConvErr → ((text : List ℕ) → Gives P (act text))
      → Gives P (asks_token old prompt act)
  unfolding asks_token
  asking_token old prompt act p rest stage = token_of_asked (token_asked old prompt stage.room).refused (token_of old) (token_asked old prompt stage.room) act
      stage p rest

  replied : (r : Result (List Reply) ConvFault) (room : SeenRoom) (act : List Reply → Act) → P returns.ConvErr → ((rs : List Reply) → Gives P (act rs))
      → Gives P (with_replies r room act)
  replied (Ok replies) room act p rest stage = rest replies _
  replied (Err fault) room act p rest stage = p

  pub exchanging : (messages : List Message) (act : List Reply → Act) → P returns.ConvErr → ((rs : List Reply) → Gives P (act rs))
      → Gives P (exchanges messages act)
  unfolding exchanges
  exchanging messages act p rest stage = replied (speak messages stage.room).answer (speak messages stage.room).room act p rest stage

-- a code that is one of two, by a test
pub either : (P : Code → Type 0) (b : Bool) (c d : Code) → P c → P d → P (cond b c d)
either P true c d p q = p
either P false c d p q = q
