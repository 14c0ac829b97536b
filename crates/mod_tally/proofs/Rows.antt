-- Test cases, computed on the definitions.
use Rattle.std.proofs.Common.{◌≡◌, true, false, List, [], ◌∷◌, ◌++◌, length, codes, Some, None, refl}
use Rattle.std.specs.Fmt.{digits}
use Rattle.pam_base.specs.Lines.{cut, lines_of}
use Rattle.item_store.specs.Items.{no_texts}
use Rattle.mod_tally.specs.declared.tally.Failure.{Failure}
use Rattle.mod_tally.specs.Source.{spelled, unspelled}
use Rattle.mod_tally.specs.Tally.{counting, failures_of, is_locked, tally_text, unknown_at}
use Rattle.mod_tally.specs.Faillock.{new_failure}

-- ---- a file of version 1, and a failure from the terminal pts/1

two : List Failure
two = unknown_at 100 ∷ unknown_at 110 ∷ []

at_terminal : Failure
at_terminal = new_failure 120 (record no_texts { service = Some (codes "t"); tty = Some (codes "pts/1") })

read : failures_of (codes "faillock 1\n100\n110\n") ≡ Some two
unfolding failures_of lines_of cut two
read = refl

written : tally_text (counting 900 (two ++ at_terminal ∷ [])) ≡ codes "faillock 2\n100 U\n110 U\n120 T pts/1\n"
unfolding tally_text two at_terminal digits
written = refl

bytes : length (codes "faillock 2\n100 U\n110 U\n120 T pts/1\n") ≡ 35
bytes = refl

-- ---- damaged texts

no_source : failures_of (codes "faillock 2\n120 T \n") ≡ None
unfolding failures_of lines_of cut unspelled
no_source = refl

no_newline : failures_of (codes "faillock 2\n120 U") ≡ None
unfolding failures_of lines_of cut
no_newline = refl

other_version : failures_of (codes "faillock 3\n") ≡ None
unfolding failures_of lines_of cut
other_version = refl

-- a printed byte isn't spelled by its digits
digits_of_a : unspelled (codes "\\x61") ≡ None
unfolding unspelled
digits_of_a = refl

space_and_slash : spelled (codes "a b\\") ≡ codes "a\\x20b\\\\"
space_and_slash = refl

-- ---- three failures lock until 600 seconds after the latest

three : List Failure
three = unknown_at 100 ∷ unknown_at 110 ∷ unknown_at 120 ∷ []

locked_at_719 : is_locked 3 900 600 719 three ≡ true
unfolding three
locked_at_719 = refl

open_at_720 : is_locked 3 900 600 720 three ≡ false
unfolding three
open_at_720 = refl
