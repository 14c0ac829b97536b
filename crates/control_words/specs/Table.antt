-- The table that is filled with what the entries of a bracketed control say, one after another (this
-- project's own).
use Rattle.std.specs.Prelude.{List, map, slice_set, Option, Some, None, if◌then◌else◌}
use Rattle.std.specs.Option.{option_or, unwrap_or}
use Rattle.std.specs.Result.{result_ok}
use Rattle.pam_base.specs.Code.{all_codes, code_of_word, number_of}
use Rattle.pam_base.specs.declared.code.Code.{Code}
use Rattle.control_words.specs.declared.table.Table.{Table}
use Rattle.control_words.specs.declared.control.Action.{Action}
use Rattle.control_words.specs.declared.control.Action.TheVariants.{Bad}
use Rattle.control_words.specs.Bracket.{action_of_word, is_default, last_action, names}
use Rattle.control_words.specs.Entries.{ControlPair}

-- the table of some entries: what the last entry of each name says
abbrev pub table_of : List ControlPair → Table
table_of entries = record {
  named = map (λ code. last_action (names code) entries) all_codes;
  default = last_action is_default entries;
}

-- the table with an action at a code's index
abbrev pub named_with : Option Code → Option Action → List (Option Action) → List (Option Action)
named_with None action named = named
named_with (Some code) action named = slice_set named (number_of code) action

-- the table after one more entry
abbrev pub filled : Table → ControlPair → Table
filled table entry =
    if is_default entry.name then record {
      named = table.named;
      default = result_ok (action_of_word entry.action);
    }
    else record {
      named = named_with (code_of_word entry.name)
          (result_ok (action_of_word entry.action)) table.named;
      default = table.default;
    }

-- the control that a table gives
abbrev pub all_actions : Table → List Action
all_actions table = map (λ action. unwrap_or (option_or action table.default) Bad) table.named
