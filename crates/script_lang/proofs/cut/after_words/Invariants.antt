use Rattle.std.proofs.Common.{◌≡◌, drop}
use Rattle.pam_base.specs.Words.{words_of}
use Rattle.script_lang.proofs.cut.after_words.Given as goal

abbrev pub invariant-loop : goal.invariant-loop
invariant-loop l = words_of l.rest ≡ drop l.counter (words_of l.line)
