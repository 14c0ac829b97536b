use Rattle.std.proofs.Common.{rules}
use Rattle.conf_lex.proofs.NulByteFacts.{escape_before}
use Rattle.conf_lex.proofs.prefix.is_escape.Goals as goal

pub returns-in_default : goal.returns-in_default
returns-in_default c = rw (escape_before c.args.text.now) (search rules)
