use Rattle.script_lang.proofs.Words.{words_of-first, words_of-alone}
use Rattle.script_lang.proofs.cut.first_word.Goals as goal

pub returns-in-Some : goal.returns-in-Some
returns-in-Some c = rw (words_of-first c.args.line.now c.in-Some.end c.in-Some.ensures)

pub returns-in-None : goal.returns-in-None
returns-in-None c = rw (words_of-alone c.args.line.now c.in-None.ensures)
