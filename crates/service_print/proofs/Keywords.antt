-- The keyword that is short for a control is one of the four.
use Rattle.std.proofs.Common.{◌≡◌, Bool, true, false, cond, List, Option, Some, None, refl}
use Rattle.std.specs.Prelude.{codes, option_map}
use Rattle.std.specs.List.{find}
use Rattle.control_words.specs.declared.control.Action.{Action}
use Rattle.control_words.specs.declared.keywords.Keyword.TheVariants.{Required, Requisite, Sufficient, Optional}
use Rattle.control_words.specs.Keyword.{all_keywords, keyword_word}
use Rattle.service_print.specs.Controls.{keyword_of, is_keyword_for}

four : (a b c d : Bool) → option_map keyword_word (cond a (Some Required) (cond b (Some Requisite) (cond c (Some Sufficient) (cond d (Some Optional) None))))
    ≡ cond a (Some (codes "required")) (cond b (Some (codes "requisite")) (cond c (Some (codes "sufficient")) (cond d (Some (codes "optional")) None)))
four true b c d = refl
four false true c d = refl
four false false true d = refl
four false false false true = refl
four false false false false = refl

pub keyword_words : (control : List Action)
    → option_map keyword_word (find (λ keyword. is_keyword_for (keyword_word keyword) control) all_keywords) ≡ keyword_of control
keyword_words control = four (is_keyword_for (codes "required") control) (is_keyword_for (codes "requisite") control) (is_keyword_for (codes "sufficient") control) (is_keyword_for (codes "optional") control)
