-- pam_succeed_if(8): whether all conditions on the user's account, and on items of the transaction, are met.
--
-- Its steps, from the entry point on:
--   `succeed_if_act`, `checks_conditions`, `unless_use_uid`: the user is asked for; `use_uid` isn't supported
--   `meets_all`, `rest_if_holds`: the conditions in order, up to one that doesn't hold
--   `tries_words`, `tries`: one condition
--   `tests_field`: .. on an item, or on the user's entry
--   `tries_after_passwds`, `tried_in_groups`, `tried_with_entry`: .. on the user's groups
use Rattle.std.specs.Prelude.{ℕ, Bool, true, false, not, List, [], ◌∷◌, filter, Option, Some, None, unwrap_or, codes}
use Rattle.std.specs.Option.{option_or}
use Rattle.std.specs.List.{list_any}
use Rattle.std.specs.Str.{bytes_eq}
use Rattle.pam_base.specs.declared.code.Code.{Code}
use Rattle.pam_base.specs.declared.code.Code.TheVariants as returns
use Rattle.pam_base.specs.declared.call.Func.{Func}
use Rattle.pam_base.specs.declared.call.Func.TheVariants.{SetCred}
use Rattle.item_store.specs.Items.{ItemTexts}
use Rattle.pam_room.specs.Call.{PlainCall}
use Rattle.pam_room.specs.Module.{Plays}
use Rattle.account_db.specs.declared.passwd.Passwd.{Passwd}
use Rattle.account_db.specs.declared.group.Group.{Group}
use Rattle.account_db.specs.Members.{is_in_group}
use Rattle.account_db.specs.Passwd.{entry_of}
use Rattle.module_acts.specs.Accounts.{Account, found, missing, unreadable}
use Rattle.module_acts.specs.Act.{Act, answers, asks_user, finds_account, plays_by, reads_groups, reads_passwds, sees_items, unless_answered}
use Rattle.mod_lists.specs.declared.condition.AccountField.{AccountField}
use Rattle.mod_lists.specs.declared.condition.AccountField.TheVariants.{Uid, Gid, Shell, Home}
use Rattle.mod_lists.specs.declared.condition.ItemField.{ItemField}
use Rattle.mod_lists.specs.declared.condition.ItemField.TheVariants as item_fields
use Rattle.mod_lists.specs.declared.condition.Field.{Field}
use Rattle.mod_lists.specs.declared.condition.Field.TheVariants as fields
use Rattle.mod_lists.specs.declared.truth.Truth.{Truth}
use Rattle.mod_lists.specs.declared.truth.Truth.TheVariants.{Holds, Fails, NoUser, Faulty}
use Rattle.mod_lists.specs.Condition.{PlainCondition, on, grouped, PlainTest, condition_of, in_sense, on_number, on_text}

-- ---- one condition

-- a field of the user's entry
abbrev pub on_entry : PlainTest → AccountField → Passwd → Truth
on_entry test Uid entry = on_number test entry.uid
on_entry test Gid entry = on_number test entry.gid
on_entry test Shell entry = on_text test entry.shell
on_entry test Home entry = on_text test entry.home

abbrev pub on_account : PlainTest → AccountField → Account → Truth
on_account test field (found entry) = on_entry test field entry
on_account test field missing = NoUser
on_account test field unreadable = Faulty

-- the user is in one of the groups with these names
abbrev pub is_in_any : List (List ℕ) → List ℕ → Option Passwd → List Group → Bool
is_in_any names user entry groups = list_any (λ name. is_in_group name user entry groups) names

abbrev pub tried_with_entry : Bool → List (List ℕ) → List ℕ → Option Passwd → List Group → Truth
tried_with_entry sense names user (Some entry) groups =
    in_sense sense (is_in_any names user (Some entry) groups)
tried_with_entry sense names user None groups = NoUser

abbrev pub tried_in_groups : Bool → List (List ℕ) → List ℕ → Option Passwd → Option (List Group) → Truth
tried_in_groups sense names user entry (Some groups) = tried_with_entry sense names user entry groups
tried_in_groups sense names user entry None = Faulty

-- the group file is read even if the user has no entry, but not if passwd can't be read
abbrev pub tries_after_passwds : Bool → List (List ℕ) → List ℕ → (Truth → Act) → Option (List Passwd) → Act
tries_after_passwds sense names user act None = act Faulty
tries_after_passwds sense names user act (Some entries) =
    reads_groups (λ groups. act (tried_in_groups sense names user (entry_of user entries) groups))

-- an item that is unset reads as the empty text
abbrev pub item_text : ItemField → ItemTexts → List ℕ
item_text item_fields.User items = unwrap_or items.user []
item_text item_fields.Tty items = unwrap_or items.tty []
item_text item_fields.Rhost items = unwrap_or items.rhost []
item_text item_fields.Ruser items = unwrap_or items.ruser []
item_text item_fields.Service items = unwrap_or items.service []

abbrev pub tests_field : Field → PlainTest → List ℕ → (Truth → Act) → Act
tests_field (fields.Item item) test user act =
    sees_items (λ items. act (on_text test (item_text item items)))
tests_field (fields.Account field) test user act =
    finds_account user (λ account. act (on_account test field account))

abbrev pub tries : PlainCondition → List ℕ → (Truth → Act) → Act
tries (on field test) user act = tests_field field test user act
tries (grouped sense names) user act = reads_passwds (tries_after_passwds sense names user act)

-- three words that aren't a condition are an error, and nothing is read for them
abbrev pub tries_words : Option PlainCondition → List ℕ → (Truth → Act) → Act
tries_words (Some condition) user act = tries condition user act
tries_words None user act = act Faulty

-- ---- all conditions

-- the first condition that doesn't hold decides
abbrev pub rest_if_holds : Act → Truth → Act
rest_if_holds rest Holds = rest
rest_if_holds rest Fails = answers returns.AuthErr
rest_if_holds rest NoUser = answers returns.UserUnknown
rest_if_holds rest Faulty = answers returns.ServiceErr

-- conditions are taken in order, three words each; without any the result is SUCCESS
abbrev pub meets_all : List (List ℕ) → List ℕ → Act
meets_all [] user = answers returns.Success
meets_all (field ∷ []) user = answers returns.ServiceErr
meets_all (field ∷ word ∷ []) user = answers returns.ServiceErr
meets_all (field ∷ word ∷ value ∷ rest) user =
    tries_words (condition_of field word value) user (rest_if_holds (meets_all rest user))

-- ---- the module

-- the arguments about messages to the system's log, to which nothing is written
abbrev pub is_about_log : List ℕ → Bool
is_about_log arg = list_any (λ w. bytes_eq w arg) (codes "debug" ∷ codes "audit" ∷ codes "quiet" ∷
    codes "quiet_fail" ∷ codes "quiet_success" ∷ [])

abbrev pub conditions_in : List (List ℕ) → List (List ℕ)
conditions_in args = filter (λ arg. not (is_about_log arg)) args

-- `use_uid` isn't supported
abbrev pub uses_uid : List (List ℕ) → Bool
uses_uid args = list_any (λ arg. bytes_eq arg (codes "use_uid")) args

abbrev pub unless_use_uid : Bool → List (List ℕ) → Act
unless_use_uid true args = answers returns.ServiceErr
unless_use_uid false args = asks_user (meets_all (conditions_in args))

abbrev pub checks_conditions : List (List ℕ) → Act
checks_conditions args = unless_use_uid (uses_uid args) args

-- it has all six functions; setcred returns IGNORE at once
abbrev pub at_once : Func → Option Code
at_once SetCred = Some returns.Ignore
at_once other = None

-- the code of a call in which the user isn't asked for
abbrev pub unsupported : Bool → Option Code
unsupported true = Some returns.ServiceErr
unsupported false = None

abbrev pub before_user : PlainCall → Option Code
before_user call = option_or (at_once call.func) (unsupported (uses_uid call.args))

abbrev pub succeed_if_act : PlainCall → Act
succeed_if_act call = unless_answered (at_once call.func) (checks_conditions call.args)

abbrev pub succeed_if_plays : Plays
succeed_if_plays = plays_by succeed_if_act
