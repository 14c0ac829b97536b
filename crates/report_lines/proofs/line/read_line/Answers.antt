use Rattle.std.proofs.Common.{◌≡◌, true, sym, subst, Option}
use Rattle.std.specs.Char.{is_ascii_digit}
use Rattle.std.specs.List.{list_all}
use Rattle.report_lines.specs.Form.{Reads}
use Rattle.report_lines.specs.Says.{Says}
use Rattle.report_lines.proofs.Tested.{numbered}
use Rattle.report_lines.proofs.line.read_line.Goals as goal

pub returns : goal.returns
returns c =
    let digits : list_all is_ascii_digit c.before_space.result.now ≡ true = cc in
    subst (λ (s : Option Says). Reads c.read_numbered.result s)
    (sym (numbered c.args.line.now c.before_space.result.now c.before_space-2.result.now c.number_of-number.result c.after_space-after_number.result.now
    c.before_space-3.result.now c.after_space.result.now c.before_space.ensures digits c.before_space-2.ensures c.number_of-number.ensures
    c.after_space-after_number.ensures c.before_space-3.ensures c.after_space.ensures)) c.read_numbered.ensures
