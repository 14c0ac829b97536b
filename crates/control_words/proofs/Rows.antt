-- The definition of controls, computed on test cases.
use Rattle.std.proofs.Common.{◌≡◌, true, false, Ok, Err, refl}
use Rattle.std.specs.Prelude.{codes}
use Rattle.pam_base.specs.declared.fault.FaultKind.TheVariants.{BadControl, BadReturnName, BadAction, ZeroJump}
use Rattle.control_words.specs.declared.control.Action.TheVariants as actions
use Rattle.control_words.specs.Bracket.{control_of, fault}
use Rattle.control_words.specs.Control.{usual}
use Rattle.control_words.specs.Entries.{entries_in, entries_after}
use Rattle.control_words.specs.Keyword.{required, requisite, sufficient, optional}

unknown_name_before_bad_action : control_of true (codes "x=0") ≡ Err (fault BadReturnName)
unfolding entries_in entries_after
unknown_name_before_bad_action = refl

number_above_255 : control_of true (codes "success=256") ≡ Err (fault BadAction)
unfolding entries_in entries_after
number_above_255 = refl

zero : control_of true (codes "success=0") ≡ Err (fault ZeroJump)
unfolding entries_in entries_after
zero = refl

zero_of_many_digits : control_of true (codes "success=000") ≡ Err (fault ZeroJump)
unfolding entries_in entries_after
zero_of_many_digits = refl

name_alone : control_of true (codes "success") ≡ Err (fault BadControl)
unfolding entries_in entries_after
name_alone = refl

empty_name : control_of true (codes "=ok") ≡ Err (fault BadControl)
unfolding entries_in entries_after
empty_name = refl

empty_action : control_of true (codes "success=") ≡ Err (fault BadControl)
unfolding entries_in entries_after
empty_action = refl

empty_action_before_space : control_of true (codes "success = ") ≡ Err (fault BadControl)
unfolding entries_in entries_after
empty_action_before_space = refl

second_entry_without_equals : control_of true (codes "success=ok x") ≡ Err (fault BadControl)
unfolding entries_in entries_after
second_entry_without_equals = refl

no_equals_between_words : control_of true (codes "success ok") ≡ Err (fault BadControl)
unfolding entries_in entries_after
no_equals_between_words = refl

name_of_an_action : control_of true (codes "ok=x =") ≡ Err (fault BadReturnName)
unfolding entries_in entries_after
name_of_an_action = refl

name_misspelled : control_of true (codes "succes=ok") ≡ Err (fault BadReturnName)
unfolding entries_in entries_after
name_misspelled = refl

action_misspelled : control_of true (codes "success=okay") ≡ Err (fault BadAction)
unfolding entries_in entries_after
action_misspelled = refl

sign_before_a_number : control_of true (codes "success=+1") ≡ Err (fault BadAction)
unfolding entries_in entries_after
sign_before_a_number = refl

second_equals_begins_the_action : control_of true (codes "success==ok") ≡ Err (fault BadAction)
unfolding entries_in entries_after
second_equals_begins_the_action = refl

number_of_40_digits : control_of true (codes "success=ok default=1000000000000000000000000000000000000000") ≡ Err (fault BadAction)
unfolding entries_in entries_after
number_of_40_digits = refl

second_equals_in_the_action : control_of true (codes "success=ok=ok") ≡ Err (fault BadAction)
unfolding entries_in entries_after
second_equals_in_the_action = refl

fault_of_the_first_entry : control_of true (codes "auth_err=0 =") ≡ Err (fault ZeroJump)
unfolding entries_in entries_after
fault_of_the_first_entry = refl

fault_of_the_name_first : control_of true (codes "x=ok auth_err=0") ≡ Err (fault BadReturnName)
unfolding entries_in entries_after
fault_of_the_name_first = refl

fault_of_the_form_first : control_of true (codes "x=") ≡ Err (fault BadControl)
unfolding entries_in entries_after
fault_of_the_form_first = refl

required_spelled_out : control_of true (codes "success=ok new_authtok_reqd=ok ignore=ignore default=bad") ≡ Ok (required)
unfolding entries_in entries_after
required_spelled_out = refl

requisite_in_any_case : control_of true (codes "\tSUCCESS = OK  New_authtok_reqd =ok ignore= Ignore default=DIE ") ≡ Ok (requisite)
unfolding entries_in entries_after
requisite_in_any_case = refl

sufficient_with_a_name_twice : control_of true (codes "default=ignore new_authtok_reqd=die success=done new_authtok_reqd=done") ≡ Ok (sufficient)
unfolding entries_in entries_after
sufficient_with_a_name_twice = refl

optional_with_default_twice : control_of true (codes "success=bad default=die default=ignore success=ok new_authtok_reqd=ok") ≡ Ok (optional)
unfolding entries_in entries_after
optional_with_default_twice = refl

empty_list : control_of true (codes "") ≡ Ok (usual actions.Bad actions.Bad actions.Bad)
unfolding entries_in entries_after
empty_list = refl

white_space_alone : control_of true (codes "  ") ≡ Ok (usual actions.Bad actions.Bad actions.Bad)
unfolding entries_in entries_after
white_space_alone = refl

leading_zeros : control_of true (codes "ignore=00255 default=1") ≡ Ok (usual (actions.Jump 1) (actions.Jump 255) (actions.Jump 1))
unfolding entries_in entries_after
leading_zeros = refl

keyword_required : control_of false (codes "Required") ≡ Ok required
keyword_required = refl

keyword_requisite : control_of false (codes "requisite") ≡ Ok requisite
keyword_requisite = refl

keyword_sufficient : control_of false (codes "SUFFICIENT") ≡ Ok sufficient
keyword_sufficient = refl

keyword_optional : control_of false (codes "optionaL") ≡ Ok optional
keyword_optional = refl

keyword_include : control_of false (codes "include") ≡ Err (fault BadControl)
keyword_include = refl

keyword_empty : control_of false (codes "") ≡ Err (fault BadControl)
keyword_empty = refl
