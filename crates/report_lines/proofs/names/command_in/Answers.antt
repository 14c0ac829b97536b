use Rattle.std.proofs.Common.{◌∙◌, ap, unwrap_or, Option}
use Rattle.std.specs.Str.{bytes_eq}
use Rattle.report_lines.specs.Line.{Command, command_word}
use Rattle.pam_base.specs.declared.call.CallName.{CallName}
use Rattle.pam_base.specs.declared.call.CallName.TheVariants.{Start}
use Rattle.report_lines.specs.Form.{command_of}
use Rattle.report_lines.proofs.Commands.{named_is}
use Rattle.report_lines.proofs.names.command_in.Goals as goal

pub returns : goal.returns
returns c =
    ap command_of c.unwrap_or.ensures ∙ ap (λ (o : Option CallName). command_of (unwrap_or o Start)) c.find_word.ensures ∙ named_is (λ (x : Command). bytes_eq (command_word x) c.args.word.now)
