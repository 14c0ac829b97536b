use Rattle.script_lang.proofs.Words.{after_alone, past_first}
use Rattle.script_lang.proofs.cut.after_word.Goals as goal

pub returns-in_err-end : goal.returns-in_err-end
returns-in_err-end c = rw c.from_residual.ensures (after_alone c.args.line.now c.in_err-end.ensures)

pub returns : goal.returns
returns c = past_first c.args.line.now c.in_ok-end.end c.in_ok-end.ensures
