-- The faults of a text, of a control and of a rule don't come from `Vault`.
use Rattle.std.proofs.Common.{◌≡◌, ℕ, Bool, true, false, cond, not, ◌&&◌, ◌||◌, eqb, leb, length, List, [], ◌∷◌, Option, Some, None, Result, Ok, Err, refl}
use Rattle.std.specs.List.{filter_map, cons_option, list_all}
use Rattle.std.specs.Char.{is_ascii_digit}
use Rattle.pam_base.specs.Number.{value_of_digits}
use Rattle.pam_base.specs.Code.{code_of_word}
use Rattle.std.specs.Option.{ok_or, is_some}
use Rattle.std.specs.Result.{result_err}
use Rattle.pam_base.specs.declared.fault.FaultKind.TheVariants.{BadControl, BadReturnName, BadAction, ZeroJump}
use Rattle.control_words.specs.declared.control.Action.{Action}
use Rattle.control_words.specs.declared.control.Action.TheVariants as actions
use Rattle.control_words.specs.declared.bracket.ControlFault.{ControlFault}
use Rattle.control_words.specs.Bracket.{named_action, jump_of, is_default, action_of_word, fault_of_entry, control_unless, control_of}
use Rattle.control_words.specs.Entries.{ControlPair, entries_in}
use Rattle.control_words.specs.Keyword.{control_of_word}
use Rattle.service_load.specs.Kinds.{is_read_failed}

-- a fault, if there is one, doesn't come from `Vault`
abbrev is_other : Option ControlFault → Bool
is_other None = true
is_other (Some f) = not (is_read_failed f.kind)

if_other : (b : Bool) (x y : Option ControlFault) → is_other x ≡ true → is_other y ≡ true → is_other (cond b x y) ≡ true
if_other true x y e f = e
if_other false x y e f = f

if_action : (b : Bool) (x y : Result Action ControlFault) → is_other (result_err x) ≡ true → is_other (result_err y) ≡ true
    → is_other (result_err (cond b x y)) ≡ true
if_action true x y e f = e
if_action false x y e f = f

jump_other : (n : ℕ) → is_other (result_err (jump_of n)) ≡ true
jump_other n = if_action (eqb n 0) (Err (record { kind = ZeroJump })) (cond (leb n 255) (Ok (actions.Jump n)) (Err (record { kind = BadAction }))) refl (if_action (leb n 255) (Ok (actions.Jump n)) (Err (record { kind = BadAction })) refl refl)

named_other : (o : Option Action) (b : Bool) (n : ℕ)
    → is_other (result_err (elim o [ Some action ↦ Ok action | None ↦ cond b (jump_of n) (Err (record { kind = BadAction })) ])) ≡ true
named_other (Some action) b n = refl
named_other None b n = if_action b (jump_of n) (Err (record { kind = BadAction })) (jump_other n) refl

word_other : (word : List ℕ) → is_other (result_err (action_of_word word)) ≡ true
word_other word = named_other (named_action word) (not (eqb (length word) 0) && list_all is_ascii_digit word) (value_of_digits word)

entry_other : (entry : ControlPair) → is_other (fault_of_entry entry) ≡ true
entry_other entry =
    if_other (eqb (length entry.name) 0 || eqb (length entry.action) 0) (Some (record { kind = BadControl })) _ refl
    (if_other (is_default entry.name || is_some (code_of_word entry.name)) (result_err (action_of_word entry.action)) (Some (record { kind = BadReturnName })) (word_other entry.action) refl)

not-true : (b : Bool) → not b ≡ true → b ≡ false
not-true true e = absurd cc
not-true false e = refl

same_fault : (g f : ControlFault) → ◌≡◌ {A = Result (List Action) ControlFault} (Err g) (Err f) → g ≡ f
same_fault g f e = cc

first_other : (o : Option ControlFault) (rest : List ControlFault) (all : List ControlPair) (f : ControlFault) → is_other o ≡ true
    → (control_unless rest all ≡ Err f → is_read_failed f.kind ≡ false) → control_unless (cons_option o rest) all ≡ Err f
    → is_read_failed f.kind ≡ false
first_other None rest all f other more e = more e
first_other (Some g) rest all f other more e = rw (← same_fault g f e) (not-true (is_read_failed g.kind) other)

unless_other : (all entries : List ControlPair) (f : ControlFault) → control_unless (filter_map fault_of_entry entries) all ≡ Err f → is_read_failed f.kind ≡ false
unless_other all [] f e = absurd cc
unless_other all (entry ∷ entries) f e = first_other (fault_of_entry entry) (filter_map fault_of_entry entries) all f (entry_other entry) (unless_other all entries f) e

word_kind : (o : Option (List Action)) (f : ControlFault) → ok_or o (record { kind = BadControl }) ≡ Err f → is_read_failed f.kind ≡ false
word_kind (Some control) f e = absurd cc
word_kind None f e = rw (← same_fault (record { kind = BadControl }) f e) refl

-- the faults of a control
pub control_kind : (bracketed : Bool) (text : List ℕ) (f : ControlFault) → control_of bracketed text ≡ Err f → is_read_failed f.kind ≡ false
control_kind true text f e = unless_other (entries_in text) (entries_in text) f e
control_kind false text f e = word_kind (control_of_word text) f e
