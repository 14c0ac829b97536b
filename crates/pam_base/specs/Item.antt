-- The items of a transaction, by the table of numbers in pam_set_item(3) and _pam_types.h.
use Rattle.std.specs.Prelude.{ℕ, List, [], ◌∷◌, Option, codes}
use Rattle.std.specs.Str.{bytes_eq}
use Rattle.std.specs.List.{find}
use Rattle.pam_base.specs.declared.item.ItemName.{ItemName}
use Rattle.pam_base.specs.declared.item.ItemName.TheVariants.{Service, User, Tty, Rhost, Conv, AuthTok, OldAuthTok, Ruser, UserPrompt, FailDelay, XDisplay, XAuthData, AuthTokType}

-- the number of an item
abbrev pub item_number : ItemName → ℕ
item_number Service = 1
item_number User = 2
item_number Tty = 3
item_number Rhost = 4
item_number Conv = 5
item_number AuthTok = 6
item_number OldAuthTok = 7
item_number Ruser = 8
item_number UserPrompt = 9
item_number FailDelay = 10
item_number XDisplay = 11
item_number XAuthData = 12
item_number AuthTokType = 13

-- the word for an item in a script: its name without PAM_, in lower case
abbrev pub item_word : ItemName → List ℕ
item_word Service = codes "service"
item_word User = codes "user"
item_word Tty = codes "tty"
item_word Rhost = codes "rhost"
item_word Conv = codes "conv"
item_word AuthTok = codes "authtok"
item_word OldAuthTok = codes "oldauthtok"
item_word Ruser = codes "ruser"
item_word UserPrompt = codes "user_prompt"
item_word FailDelay = codes "fail_delay"
item_word XDisplay = codes "xdisplay"
item_word XAuthData = codes "xauthdata"
item_word AuthTokType = codes "authtok_type"

-- all items, in the order of their numbers
abbrev pub all_items : List ItemName
all_items = Service ∷ User ∷ Tty ∷ Rhost ∷ Conv ∷ AuthTok ∷ OldAuthTok ∷ Ruser ∷ UserPrompt
    ∷ FailDelay ∷ XDisplay ∷ XAuthData ∷ AuthTokType ∷ []

-- the item that a word names
abbrev pub item_of_word : List ℕ → Option ItemName
item_of_word word = find (λ item. bytes_eq (item_word item) word) all_items
