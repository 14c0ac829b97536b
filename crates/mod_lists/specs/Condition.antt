-- The conditions of pam_succeed_if(8): three words each, a field, a test, and a value to test for.
--
-- Its steps:
--   `condition_of`, `groups_or_field`: of the user's groups, or of a field
--   `test_of`, `number_or_text_test`: of a number, or of a text
use Rattle.std.specs.Prelude.{ℕ, Bool, true, false, not, ◌==◌, ◌&&◌, ◌||◌, nat_lt, nat_le, if◌then◌else◌, decimal, List, [], ◌∷◌, length, Option, Some, None, option_map, codes}
use Rattle.std.specs.Char.{is_ascii_digit}
use Rattle.std.specs.List.{find, list_all, list_any}
use Rattle.std.specs.Str.{bytes_eq}
use Rattle.pam_base.specs.Number.{value_of_digits}
use Rattle.pam_base.specs.Parts.{parts_of}
use Rattle.mod_lists.specs.declared.condition.AccountField.{AccountField}
use Rattle.mod_lists.specs.declared.condition.AccountField.TheVariants.{Uid, Gid, Shell, Home}
use Rattle.mod_lists.specs.declared.condition.ItemField.{ItemField}
use Rattle.mod_lists.specs.declared.condition.ItemField.TheVariants as items
use Rattle.mod_lists.specs.declared.condition.Field.{Field}
use Rattle.mod_lists.specs.declared.condition.Field.TheVariants.{Item, Account}
use Rattle.mod_lists.specs.declared.condition.Order.{Order}
use Rattle.mod_lists.specs.declared.condition.Order.TheVariants.{Less, AtMost, Equal, Unequal, AtLeast, Greater}
use Rattle.mod_lists.specs.declared.condition.Test.{Test}
use Rattle.mod_lists.specs.declared.condition.Test.TheVariants as borrowed_test
use Rattle.mod_lists.specs.declared.condition.Condition.{Condition}
use Rattle.mod_lists.specs.declared.condition.Condition.TheVariants as borrowed
use Rattle.mod_lists.specs.declared.truth.Truth.{Truth}
use Rattle.mod_lists.specs.declared.truth.Truth.TheVariants.{Holds, Fails, Faulty}

-- ---- fields

abbrev pub item_word : ItemField → List ℕ
item_word items.User = codes "user"
item_word items.Tty = codes "tty"
item_word items.Rhost = codes "rhost"
item_word items.Ruser = codes "ruser"
item_word items.Service = codes "service"

abbrev pub account_word : AccountField → List ℕ
account_word Uid = codes "uid"
account_word Gid = codes "gid"
account_word Shell = codes "shell"
account_word Home = codes "home"

abbrev pub item_or_account : Option ItemField → Option AccountField → Option Field
item_or_account (Some item) account = Some (Item item)
item_or_account None account = option_map Account account

-- the field that a word names
abbrev pub field_of : List ℕ → Option Field
field_of word =
    item_or_account
    (find (λ item. bytes_eq (item_word item) word)
    (items.User ∷ items.Tty ∷ items.Rhost ∷ items.Ruser ∷ items.Service ∷ []))
    (find (λ field. bytes_eq (account_word field) word) (Uid ∷ Gid ∷ Shell ∷ Home ∷ []))

-- ---- numbers

-- a number has 1 to 18 decimal digits
abbrev pub is_count : List ℕ → Bool
is_count word = nat_lt 0 (length word) && nat_le (length word) 18 && list_all is_ascii_digit word

abbrev pub count_of : List ℕ → Option ℕ
count_of word = if is_count word then Some (value_of_digits word) else None

abbrev pub order_of : List ℕ → Option Order
order_of word =
    if bytes_eq word (codes "lt") || bytes_eq word (codes "<") then Some Less
    else if bytes_eq word (codes "le") || bytes_eq word (codes "<=") then Some AtMost
    else if bytes_eq word (codes "eq") then Some Equal
    else if bytes_eq word (codes "ne") then Some Unequal
    else if bytes_eq word (codes "ge") || bytes_eq word (codes ">=") then Some AtLeast
    else if bytes_eq word (codes "gt") || bytes_eq word (codes ">") then Some Greater
    else None

abbrev pub is_so : Order → ℕ → ℕ → Bool
is_so Less a b = nat_lt a b
is_so AtMost a b = nat_le a b
is_so Equal a b = a == b
is_so Unequal a b = not (a == b)
is_so AtLeast a b = nat_le b a
is_so Greater a b = nat_lt b a

-- ---- tests

-- a field is compared as a number with one, or as a text with one or with some; `true` is `=` and `in`, `false` their
-- opposites
pub data PlainTest : Type 0 where
  compares : Order → ℕ → PlainTest
  equals : Bool → List ℕ → PlainTest
  is_among : Bool → List (List ℕ) → PlainTest

-- the items of a list are separated by colons
abbrev pub items_of : List ℕ → List (List ℕ)
items_of list = parts_of 58 list

abbrev pub text_test : List ℕ → List ℕ → Option PlainTest
text_test word value =
    if bytes_eq word (codes "=") then Some (equals true value)
    else if bytes_eq word (codes "!=") then Some (equals false value)
    else if bytes_eq word (codes "in") then Some (is_among true (items_of value))
    else if bytes_eq word (codes "notin") then Some (is_among false (items_of value))
    else None

abbrev pub number_or_text_test : Option Order → List ℕ → List ℕ → Option PlainTest
number_or_text_test (Some order) word value = option_map (compares order) (count_of value)
number_or_text_test None word value = text_test word value

-- the test of a word and a value, if it is one
abbrev pub test_of : List ℕ → List ℕ → Option PlainTest
test_of word value = number_or_text_test (order_of word) word value

-- ---- conditions

-- a test of a field, or whether the user is in one of some groups (`false`: in none of them)
pub data PlainCondition : Type 0 where
  on : Field → PlainTest → PlainCondition
  grouped : Bool → List (List ℕ) → PlainCondition

abbrev pub group_sense : List ℕ → Option Bool
group_sense word = if bytes_eq word (codes "ingroup") then Some true
    else if bytes_eq word (codes "notingroup") then Some false else None

abbrev pub with_test : Option Field → Option PlainTest → Option PlainCondition
with_test (Some field) (Some test) = Some (on field test)
with_test (Some field) None = None
with_test None test = None

abbrev pub groups_or_field : Option Bool → List ℕ → List ℕ → List ℕ → Option PlainCondition
groups_or_field (Some sense) field word value =
    if bytes_eq field (codes "user") then Some (grouped sense (items_of value)) else None
groups_or_field None field word value = with_test (field_of field) (test_of word value)

-- the condition of three words, if it is one; a test of groups is one of the field `user` alone
unfoldable pub condition_of : List ℕ → List ℕ → List ℕ → Option PlainCondition
condition_of field word value = groups_or_field (group_sense word) field word value

-- ---- whether a test holds

abbrev pub holds_if : Bool → Truth
holds_if true = Holds
holds_if false = Fails

-- a test and its opposite
abbrev pub in_sense : Bool → Bool → Truth
in_sense true holds = holds_if holds
in_sense false holds = holds_if (not holds)

abbrev pub compared : Order → ℕ → Option ℕ → Truth
compared order n (Some m) = holds_if (is_so order m n)
compared order n None = Faulty

-- of a text, which is compared as a number if it is one
abbrev pub on_text : PlainTest → List ℕ → Truth
on_text (compares order n) text = compared order n (count_of text)
on_text (equals sense wanted) text = in_sense sense (bytes_eq wanted text)
on_text (is_among sense wanted) text = in_sense sense (list_any (λ w. bytes_eq w text) wanted)

-- of a number, which as a text is its decimal digits without leading zeros
abbrev pub on_number : PlainTest → ℕ → Truth
on_number (compares order n) m = holds_if (is_so order m n)
on_number (equals sense wanted) m = on_text (equals sense wanted) (decimal m)
on_number (is_among sense wanted) m = on_text (is_among sense wanted) (decimal m)

-- ---- the plain values of the code's types

abbrev pub plain_test : Test → PlainTest
plain_test (borrowed_test.Compares order n) = compares order n
plain_test (borrowed_test.Equals sense wanted) = equals sense wanted.now
plain_test (borrowed_test.IsAmong sense wanted) = is_among sense (items_of wanted.now)

abbrev pub plain_condition : Condition → PlainCondition
plain_condition (borrowed.On field test) = on field (plain_test test)
plain_condition (borrowed.Grouped sense names) = grouped sense (items_of names.now)
