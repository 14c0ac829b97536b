-- Actions and codes, read back from their words.
use Rattle.std.proofs.Common.{◌≡◌, ℕ, ◌<◌, Bool, true, false, not, ◌||◌, ◌&&◌, eqb, nat_le, nat_lt, List, [], ◌∷◌, get_or, Some, Result, Ok, Err, refl, ap, arith}
use Rattle.std.specs.Fmt.{digits}
use Rattle.std.specs.List.{list_all}
use Rattle.std.proofs.lemmas.Bool.{agree_below_at, and_parts, leb-true, eqb-true, lt-leb}
use Rattle.pam_base.specs.White.{is_white}
use Rattle.pam_base.specs.Code.{all_codes, code_of_word, code_word, number_of}
use Rattle.pam_base.specs.declared.code.Code.{Code}
use Rattle.pam_base.specs.declared.code.Code.TheVariants.{Success}
use Rattle.control_words.specs.declared.control.Action.{Action}
use Rattle.control_words.specs.declared.control.Action.TheVariants as actions
use Rattle.control_words.specs.declared.bracket.ControlFault.{ControlFault}
use Rattle.control_words.specs.Bracket.{action_of_word, is_default}
use Rattle.control_words.specs.Entries.{ends_name}
use Rattle.service_print.specs.Controls.{action_word, same_action}

pub same_action-equal : (a b : Action) → same_action a b ≡ true → a ≡ b
same_action-equal actions.Ignore actions.Ignore is = refl
same_action-equal actions.Bad actions.Bad is = refl
same_action-equal actions.Die actions.Die is = refl
same_action-equal actions.Ok actions.Ok is = refl
same_action-equal actions.Done actions.Done is = refl
same_action-equal actions.Reset actions.Reset is = refl
same_action-equal (actions.Jump n) (actions.Jump m) is = ap actions.Jump (eqb-true n m is)
same_action-equal a b is = absurd cc

-- ---- bytes of words

-- a byte of a name: not white space, and not `=`
abbrev pub is_name : ℕ → Bool
is_name b = not (ends_name b)

-- a byte of an action
abbrev pub is_action : ℕ → Bool
is_action b = not (is_white b)

-- a byte that means itself in a control
abbrev pub is_word_byte : ℕ → Bool
is_word_byte b = not (eqb b 93 || eqb b 92 || eqb b 10 || eqb b 0)

-- ---- codes

pub code_at : (code : Code) → get_or all_codes (number_of code) Success ≡ code
code_at Success = refl
code_at code = refl

pub code_below : (code : Code) → nat_lt (number_of code) 32 ≡ true
code_below Success = refl
code_below code = refl

pub code_word-named : (code : Code) → code_of_word (code_word code) ≡ Some code
code_word-named Success = refl
code_word-named code = refl

pub code_word-name : (code : Code) → list_all is_name (code_word code) ≡ true
code_word-name Success = refl
code_word-name code = refl

pub code_word-bytes : (code : Code) → list_all is_word_byte (code_word code) ≡ true
code_word-bytes Success = refl
code_word-bytes code = refl

pub code_word-other : (code : Code) → is_default (code_word code) ≡ false
code_word-other Success = refl
code_word-other code = refl

-- a text that isn't empty, with its first byte
abbrev pub begins_some : (ℕ → Bool) → List ℕ → Bool
begins_some test [] = false
begins_some test (b ∷ bs) = test b

pub code_word-some : (code : Code) → begins_some is_name (code_word code) ≡ true
code_word-some Success = refl
code_word-some code = refl

-- ---- actions

-- whether an action can be read: a jump is over 1 to 255 nodes
abbrev pub is_fine : Action → Bool
is_fine (actions.Jump n) = nat_le 1 n && nat_le n 255
is_fine action = true

abbrev reads_as : Result Action ControlFault → Action → Bool
reads_as (Ok action) other = same_action action other
reads_as (Err fault) other = false

reads_as-equal : (result : Result Action ControlFault) (action : Action) → reads_as result action ≡ true → result ≡ Ok action
reads_as-equal (Ok read) action is = ap Ok (same_action-equal read action is)
reads_as-equal (Err fault) action is = absurd cc

-- what has to hold for the word of an action
abbrev is_read : Action → Bool
is_read action = reads_as (action_of_word (action_word action)) action && list_all is_action (action_word action) && list_all is_word_byte (action_word action) && begins_some is_action (action_word action)

jump_read : (n : ℕ) → n < 256 → (nat_le n 0 || is_read (actions.Jump n)) ≡ true
unfolding digits
jump_read n few = agree_below_at (λ n. nat_le n 0 || is_read (actions.Jump n)) (λ n. true) 256 n refl few

action_read : (action : Action) → is_fine action ≡ true → is_read action ≡ true
action_read actions.Ignore fine = refl
action_read actions.Bad fine = refl
action_read actions.Die fine = refl
action_read actions.Ok fine = refl
action_read actions.Done fine = refl
action_read actions.Reset fine = refl
action_read (actions.Jump n) fine =
    let parts = and_parts (nat_le 1 n) (nat_le n 255) fine in
    let few : n < 256 = omega (arith, leb-true n 255 parts.1) in
    let some : nat_le n 0 ≡ false = lt-leb n 0 (omega (arith, leb-true 1 n parts.0)) in
    rw some at (jump_read n few)

pub record ActionRead (action : Action) : Type 0 where
  pub reads : action_of_word (action_word action) ≡ Ok action
  pub bytes : list_all is_action (action_word action) ≡ true
  pub word : list_all is_word_byte (action_word action) ≡ true
  pub some : begins_some is_action (action_word action) ≡ true

pub action_reads : (action : Action) → is_fine action ≡ true → ActionRead action
action_reads action fine =
    let word = action_word action in
    let last = and_parts (reads_as (action_of_word word) action && list_all is_action word && list_all is_word_byte word) (begins_some is_action word) (action_read action fine) in
    let third = and_parts (reads_as (action_of_word word) action && list_all is_action word) (list_all is_word_byte word) last.0 in
    let second = and_parts (reads_as (action_of_word word) action) (list_all is_action word) third.0 in
    record { reads = reads_as-equal (action_of_word word) action second.0; bytes = second.1; word = third.1; some = last.1 }
