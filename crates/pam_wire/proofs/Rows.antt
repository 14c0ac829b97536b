-- Test cases: frames of each kind, and bytes that aren't a frame, each limit from both sides.
use Rattle.std.proofs.Common.{◌≡◌, ℕ, true, false, List, [], ◌∷◌, ◌++◌, length, map, replicate, Some, None, codes, refl}
use Rattle.pam_base.specs.declared.call.AppCall.{AppCall}
use Rattle.pam_base.specs.declared.call.AppCall.TheVariants as calls
use Rattle.pam_base.specs.declared.call.Step.{Step}
use Rattle.pam_base.specs.declared.item.ItemName.TheVariants as items
use Rattle.pam_wire.specs.declared.prefix.FirstFrame.TheVariants.{Open, OutOfRange, Whole}
use Rattle.pam_wire.specs.Frame.{frame_of, answer_of, has_frame}
use Rattle.pam_wire.specs.Read.{first_frame_of, step_of}

-- a step of transaction 1
abbrev first : AppCall → Step
first call = record { number = 1; call = call }

-- the frame of a step of transaction 1 is these bytes, and they are read as that step
abbrev Is : AppCall → List ℕ → Type 0
Is call bytes = (frame_of (first call) ≡ bytes) × (step_of bytes ≡ Some (first call))

-- byte strings that are whole frames by their lengths, but not calls
abbrev AreNone : List (List ℕ) → Type 0
AreNone all = (map first_frame_of all ≡ map (λ bytes. Whole (length bytes)) all)
    × (map step_of all ≡ replicate (length all) None)

-- ---- a frame of each kind

start : Is (calls.Start (codes "t") (Some (codes "joe")))
    (0 ∷ 8 ∷ 1 ∷ 1 ∷ 1 ∷ 116 ∷ 1 ∷ 106 ∷ 111 ∷ 101 ∷ [])
start = (refl, refl)

start_without_user : Is (calls.Start (codes "t") None) (0 ∷ 5 ∷ 1 ∷ 1 ∷ 1 ∷ 116 ∷ 0 ∷ [])
start_without_user = (refl, refl)

end : Is (calls.End 0) (0 ∷ 6 ∷ 1 ∷ 2 ∷ 0 ∷ 0 ∷ 0 ∷ 0 ∷ [])
end = (refl, refl)

-- a number is big-endian
end_with_flags : Is (calls.End 1073741831) (0 ∷ 6 ∷ 1 ∷ 2 ∷ 64 ∷ 0 ∷ 0 ∷ 7 ∷ [])
end_with_flags = (refl, refl)

authenticate : Is (calls.Authenticate 16909060) (0 ∷ 6 ∷ 1 ∷ 3 ∷ 1 ∷ 2 ∷ 3 ∷ 4 ∷ [])
authenticate = (refl, refl)

setcred : Is (calls.SetCred 16909060) (0 ∷ 6 ∷ 1 ∷ 4 ∷ 1 ∷ 2 ∷ 3 ∷ 4 ∷ [])
setcred = (refl, refl)

acct_mgmt : Is (calls.AcctMgmt 16909060) (0 ∷ 6 ∷ 1 ∷ 5 ∷ 1 ∷ 2 ∷ 3 ∷ 4 ∷ [])
acct_mgmt = (refl, refl)

open_session : Is (calls.OpenSession 16909060) (0 ∷ 6 ∷ 1 ∷ 6 ∷ 1 ∷ 2 ∷ 3 ∷ 4 ∷ [])
open_session = (refl, refl)

close_session : Is (calls.CloseSession 16909060) (0 ∷ 6 ∷ 1 ∷ 7 ∷ 1 ∷ 2 ∷ 3 ∷ 4 ∷ [])
close_session = (refl, refl)

chauthtok : Is (calls.ChAuthTok 16909060) (0 ∷ 6 ∷ 1 ∷ 8 ∷ 1 ∷ 2 ∷ 3 ∷ 4 ∷ [])
chauthtok = (refl, refl)

set_item : Is (calls.SetItem items.Tty (Some (codes "p/1")))
    (0 ∷ 7 ∷ 1 ∷ 9 ∷ 3 ∷ 1 ∷ 112 ∷ 47 ∷ 49 ∷ [])
set_item = (refl, refl)

set_item_to_nothing : Is (calls.SetItem items.Tty (Some [])) (0 ∷ 4 ∷ 1 ∷ 9 ∷ 3 ∷ 1 ∷ [])
set_item_to_nothing = (refl, refl)

unset_item : Is (calls.SetItem items.AuthTokType None) (0 ∷ 4 ∷ 1 ∷ 9 ∷ 13 ∷ 0 ∷ [])
unset_item = (refl, refl)

get_item : Is (calls.GetItem items.Ruser) (0 ∷ 3 ∷ 1 ∷ 10 ∷ 8 ∷ [])
get_item = (refl, refl)

putenv : Is (calls.PutEnv (codes "A=b")) (0 ∷ 5 ∷ 1 ∷ 11 ∷ 65 ∷ 61 ∷ 98 ∷ [])
putenv = (refl, refl)

putenv_of_nothing : Is (calls.PutEnv []) (0 ∷ 2 ∷ 1 ∷ 11 ∷ [])
putenv_of_nothing = (refl, refl)

getenv : Is (calls.GetEnv (codes "A")) (0 ∷ 3 ∷ 1 ∷ 12 ∷ 65 ∷ [])
getenv = (refl, refl)

-- the minimum length, 2
envlist : Is calls.EnvList (0 ∷ 2 ∷ 1 ∷ 13 ∷ [])
envlist = (refl, refl)

fail_delay : Is (calls.FailDelay 2000000) (0 ∷ 6 ∷ 1 ∷ 14 ∷ 0 ∷ 30 ∷ 132 ∷ 128 ∷ [])
fail_delay = (refl, refl)

delay_off : Is (calls.DelayFn false) (0 ∷ 3 ∷ 1 ∷ 15 ∷ 0 ∷ [])
delay_off = (refl, refl)

delay_on : Is (calls.DelayFn true) (0 ∷ 3 ∷ 1 ∷ 15 ∷ 1 ∷ [])
delay_on = (refl, refl)

reply : Is (calls.Reply (codes "n")) (0 ∷ 3 ∷ 1 ∷ 16 ∷ 110 ∷ [])
reply = (refl, refl)

empty_reply : Is (calls.Reply []) (0 ∷ 2 ∷ 1 ∷ 16 ∷ [])
empty_reply = (refl, refl)

-- the thirteen items by their numbers
abbrev question : ℕ → List ℕ
question item = 0 ∷ 3 ∷ 1 ∷ 10 ∷ item ∷ []

items_by_number : map step_of (map question (1 ∷ 2 ∷ 3 ∷ 4 ∷ 5 ∷ 6 ∷ 7 ∷ 8 ∷ 9 ∷ 10 ∷ 11 ∷ 12
    ∷ 13 ∷ []))
    ≡ map (λ item. Some (first (calls.GetItem item))) (items.Service ∷ items.User ∷ items.Tty
    ∷ items.Rhost ∷ items.Conv ∷ items.AuthTok ∷ items.OldAuthTok ∷ items.Ruser
    ∷ items.UserPrompt ∷ items.FailDelay ∷ items.XDisplay ∷ items.XAuthData
    ∷ items.AuthTokType ∷ [])
items_by_number = refl

-- ---- whole frames that aren't a call

-- kinds are 1 to 16
kinds_of_none : AreNone ((0 ∷ 2 ∷ 1 ∷ 0 ∷ [])
    ∷ (0 ∷ 2 ∷ 1 ∷ 17 ∷ [])
    ∷ (0 ∷ 6 ∷ 1 ∷ 0 ∷ 0 ∷ 0 ∷ 0 ∷ 0 ∷ [])
    ∷ (0 ∷ 6 ∷ 1 ∷ 17 ∷ 0 ∷ 0 ∷ 0 ∷ 0 ∷ [])
    ∷ (0 ∷ 2 ∷ 1 ∷ 255 ∷ []) ∷ [])
kinds_of_none = (refl, refl)

-- a number has four bytes, neither three nor five
abbrev numbered : List ℕ
numbered = 2 ∷ 3 ∷ 4 ∷ 5 ∷ 6 ∷ 7 ∷ 8 ∷ 14 ∷ []

three_bytes : AreNone (map (λ kind. 0 ∷ 5 ∷ 1 ∷ kind ∷ 0 ∷ 0 ∷ 0 ∷ []) numbered)
three_bytes = (refl, refl)

five_bytes : AreNone (map (λ kind. 0 ∷ 7 ∷ 1 ∷ kind ∷ 0 ∷ 0 ∷ 0 ∷ 0 ∷ 0 ∷ []) numbered)
five_bytes = (refl, refl)

-- items are 1 to 13
items_of_none : AreNone ((0 ∷ 3 ∷ 1 ∷ 10 ∷ 0 ∷ [])
    ∷ (0 ∷ 3 ∷ 1 ∷ 10 ∷ 14 ∷ [])
    ∷ (0 ∷ 4 ∷ 1 ∷ 9 ∷ 0 ∷ 0 ∷ [])
    ∷ (0 ∷ 4 ∷ 1 ∷ 9 ∷ 14 ∷ 0 ∷ [])
    ∷ (0 ∷ 5 ∷ 1 ∷ 9 ∷ 14 ∷ 1 ∷ 97 ∷ []) ∷ [])
items_of_none = (refl, refl)

-- after the item there is 0 and nothing, or 1 and the text
settings_of_none : AreNone ((0 ∷ 2 ∷ 1 ∷ 9 ∷ [])
    ∷ (0 ∷ 3 ∷ 1 ∷ 9 ∷ 3 ∷ [])
    ∷ (0 ∷ 5 ∷ 1 ∷ 9 ∷ 3 ∷ 0 ∷ 97 ∷ [])
    ∷ (0 ∷ 4 ∷ 1 ∷ 9 ∷ 3 ∷ 2 ∷ [])
    ∷ (0 ∷ 5 ∷ 1 ∷ 9 ∷ 3 ∷ 2 ∷ 97 ∷ []) ∷ [])
settings_of_none = (refl, refl)

questions_of_none : AreNone ((0 ∷ 2 ∷ 1 ∷ 10 ∷ [])
    ∷ (0 ∷ 4 ∷ 1 ∷ 10 ∷ 3 ∷ 0 ∷ []) ∷ [])
questions_of_none = (refl, refl)

names_of_none : AreNone ((0 ∷ 2 ∷ 1 ∷ 12 ∷ []) ∷ [])
names_of_none = (refl, refl)

lists_of_none : AreNone ((0 ∷ 3 ∷ 1 ∷ 13 ∷ 0 ∷ []) ∷ [])
lists_of_none = (refl, refl)

switches_of_none : AreNone ((0 ∷ 2 ∷ 1 ∷ 15 ∷ [])
    ∷ (0 ∷ 3 ∷ 1 ∷ 15 ∷ 2 ∷ [])
    ∷ (0 ∷ 4 ∷ 1 ∷ 15 ∷ 1 ∷ 0 ∷ []) ∷ [])
switches_of_none = (refl, refl)

-- a start: a size from 1 to 64, a name of that size with no slash, and neither . nor .., then 0 and
-- nothing, or 1 and the user
starts_of_none : AreNone ((0 ∷ 2 ∷ 1 ∷ 1 ∷ [])
    ∷ (0 ∷ 4 ∷ 1 ∷ 1 ∷ 0 ∷ 0 ∷ [])
    ∷ (0 ∷ 4 ∷ 1 ∷ 1 ∷ 1 ∷ 116 ∷ [])
    ∷ (0 ∷ 3 ∷ 1 ∷ 1 ∷ 1 ∷ [])
    ∷ (0 ∷ 5 ∷ 1 ∷ 1 ∷ 3 ∷ 116 ∷ 0 ∷ [])
    ∷ (0 ∷ 6 ∷ 1 ∷ 1 ∷ 1 ∷ 116 ∷ 0 ∷ 97 ∷ [])
    ∷ (0 ∷ 6 ∷ 1 ∷ 1 ∷ 1 ∷ 116 ∷ 2 ∷ 97 ∷ [])
    ∷ (0 ∷ 6 ∷ 1 ∷ 1 ∷ 2 ∷ 97 ∷ 47 ∷ 0 ∷ [])
    ∷ (0 ∷ 5 ∷ 1 ∷ 1 ∷ 1 ∷ 46 ∷ 0 ∷ [])
    ∷ (0 ∷ 6 ∷ 1 ∷ 1 ∷ 2 ∷ 46 ∷ 46 ∷ 0 ∷ []) ∷ [])
starts_of_none = (refl, refl)

-- ---- texts of 512 bytes, and names of 64

putenv_of_512 : Is (calls.PutEnv (replicate 512 97)) (2 ∷ 2 ∷ 1 ∷ 11 ∷ replicate 512 97)
putenv_of_512 = (refl, refl)

getenv_of_512 : Is (calls.GetEnv (replicate 512 97)) (2 ∷ 2 ∷ 1 ∷ 12 ∷ replicate 512 97)
getenv_of_512 = (refl, refl)

reply_of_512 : Is (calls.Reply (replicate 512 97)) (2 ∷ 2 ∷ 1 ∷ 16 ∷ replicate 512 97)
reply_of_512 = (refl, refl)

set_item_to_512 : Is (calls.SetItem items.User (Some (replicate 512 97)))
    (2 ∷ 4 ∷ 1 ∷ 9 ∷ 2 ∷ 1 ∷ replicate 512 97)
set_item_to_512 = (refl, refl)

-- the maximum length, 580
start_of_64_and_512 : Is (calls.Start (replicate 64 97) (Some (replicate 512 97)))
    (2 ∷ 68 ∷ 1 ∷ 1 ∷ 64 ∷ replicate 64 97 ++ 1 ∷ replicate 512 97)
start_of_64_and_512 = (refl, refl)

texts_of_513 : AreNone ((2 ∷ 3 ∷ 1 ∷ 11 ∷ replicate 513 97)
    ∷ (2 ∷ 3 ∷ 1 ∷ 12 ∷ replicate 513 97)
    ∷ (2 ∷ 3 ∷ 1 ∷ 16 ∷ replicate 513 97)
    ∷ (2 ∷ 5 ∷ 1 ∷ 9 ∷ 2 ∷ 1 ∷ replicate 513 97)
    ∷ (2 ∷ 6 ∷ 1 ∷ 1 ∷ 1 ∷ 116 ∷ 1 ∷ replicate 513 97) ∷ [])
texts_of_513 = (refl, refl)

name_of_65 : AreNone ((0 ∷ 69 ∷ 1 ∷ 1 ∷ 65 ∷ replicate 65 97 ++ 0 ∷ []) ∷ [])
name_of_65 = (refl, refl)

-- ---- lengths, from 2 to 580

no_bytes : first_frame_of [] ≡ Open
no_bytes = refl

length_of_1 : first_frame_of (0 ∷ 1 ∷ 1 ∷ []) ≡ OutOfRange
length_of_1 = refl

length_of_0 : first_frame_of (0 ∷ 0 ∷ []) ≡ OutOfRange
length_of_0 = refl

length_of_2 : first_frame_of (0 ∷ 2 ∷ 1 ∷ 13 ∷ []) ≡ Whole 4
length_of_2 = refl

length_of_580 : first_frame_of (2 ∷ 68 ∷ []) ≡ Open
length_of_580 = refl

length_of_581 : first_frame_of (2 ∷ 69 ∷ []) ≡ OutOfRange
length_of_581 = refl

-- one byte of a length
two_may_go_on : first_frame_of (2 ∷ []) ≡ Open
two_may_go_on = refl

three_may_not : first_frame_of (3 ∷ []) ≡ OutOfRange
three_may_not = refl

-- a frame that is cut off, and one with a byte after it
cut_frame_is_open : first_frame_of (0 ∷ 6 ∷ 1 ∷ 3 ∷ 0 ∷ []) ≡ Open
cut_frame_is_open = refl

cut_frame_is_no_call : step_of (0 ∷ 6 ∷ 1 ∷ 3 ∷ 0 ∷ []) ≡ None
cut_frame_is_no_call = refl

frame_is_cut_off : first_frame_of (0 ∷ 2 ∷ 1 ∷ 13 ∷ 0 ∷ []) ≡ Whole 4
frame_is_cut_off = refl

frame_and_more_is_no_call : step_of (0 ∷ 2 ∷ 1 ∷ 13 ∷ 0 ∷ []) ≡ None
frame_and_more_is_no_call = refl

-- ---- which steps have a frame

-- any number of a transaction has one byte
numbers : map (λ n. step_of (0 ∷ 2 ∷ n ∷ 13 ∷ [])) (0 ∷ 17 ∷ 255 ∷ [])
    ≡ map (λ n. Some (record { number = n; call = calls.EnvList })) (0 ∷ 17 ∷ 255 ∷ [])
numbers = refl

number_255 : has_frame (record { number = 255; call = calls.EnvList }) ≡ true
number_255 = refl

number_256 : has_frame (record { number = 256; call = calls.EnvList }) ≡ false
number_256 = refl

greatest_status : has_frame (first (calls.End 4294967295)) ≡ true
greatest_status = refl

status_too_great : has_frame (first (calls.End 4294967296)) ≡ false
status_too_great = refl

user_of_513 : has_frame (first (calls.Start (codes "t") (Some (replicate 513 97)))) ≡ false
user_of_513 = refl

name_with_slash : has_frame (first (calls.Start (codes "a/b") None)) ≡ false
name_with_slash = refl

-- ---- answers: a length of eight bytes

empty_answer : answer_of [] ≡ 0 ∷ 0 ∷ 0 ∷ 0 ∷ 0 ∷ 0 ∷ 0 ∷ 0 ∷ []
empty_answer = refl

start_answer : answer_of (codes "1 start SUCCESS 0\n")
    ≡ 0 ∷ 0 ∷ 0 ∷ 0 ∷ 0 ∷ 0 ∷ 0 ∷ 18 ∷ codes "1 start SUCCESS 0\n"
start_answer = refl

answer_of_258 : answer_of (replicate 258 97) ≡ 0 ∷ 0 ∷ 0 ∷ 0 ∷ 0 ∷ 0 ∷ 1 ∷ 2 ∷ replicate 258 97
answer_of_258 = refl
