use Rattle.std.proofs.Common.{rules, ◌≡◌, Some, Ok, false}
use Rattle.pam_base.specs.Code.{code_of_word}
use Rattle.control_words.specs.Bracket.{action_of_word, is_default}
use Rattle.control_words.proofs.ControlTableFacts.{filled-code}
use Rattle.control_words.proofs.table.Table.fill.Goals as goal

pub returns-in_ok-action_named-2-clause-filled : goal.returns-in_ok-action_named-2-clause-filled
returns-in_ok-action_named-2-clause-filled c =
    let other : is_default c.args.name.now ≡ false = search rules in
    let named : code_of_word c.args.name.now ≡ Some c.in-Some.code = search rules in
    let action : action_of_word c.args.action.now ≡ Ok c.in_ok-action_named-2.field-0 = search rules in
    filled-code c.args.self.now c.args.name.now c.args.action.now c.in-Some.code c.in_ok-action_named-2.field-0 c.place_of-place.result other named action c.place_of-place.ensures.number
