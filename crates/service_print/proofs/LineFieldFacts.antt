-- The fields of a line, one after another.
use Rattle.std.proofs.Common.{◌≡◌, ℕ, List, [], ◌∷◌, ◌++◌, map, append_assoc}
use Rattle.std.specs.List.{flat_map}
use Rattle.control_words.specs.declared.nodes.Rule.{Rule}
use Rattle.service_load.specs.declared.rule_type.RuleType.{RuleType}
use Rattle.service_print.specs.Tokens.{after_space, token_text}
use Rattle.service_print.specs.Controls.{control_text}
use Rattle.service_print.specs.Printed.{type_field, rule_line}

pub fields_begun : (type : RuleType) (rule : Rule) (field first second third line : List ℕ)
    → field ≡ type_field rule.silent type → first ≡ field ++ 32 ∷ [] → second ≡ first ++ control_text rule.control → third ≡ second ++ 32 ∷ [] → line ≡ third ++ token_text rule.path
    → line ++ flat_map after_space (map token_text rule.args) ≡ rule_line type rule
unfolding rule_line
fields_begun type rule field first second third line field_is one two three four = rw (four, three, two, one, field_is) (simp append_assoc)
