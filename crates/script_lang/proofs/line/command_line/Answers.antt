use Rattle.std.proofs.Common.{◌≡◌, ℕ, true, List, Option, Some, Result, Ok, Err, refl, sym, ap, ◌∙◌, rules}
use Rattle.std.specs.Result.{IfErr, IsErrAnd}
use Rattle.pam_base.specs.declared.fault.Refuse.{Refuse}
use Rattle.pam_base.specs.declared.fault.Refuse.TheVariants as refusals
use Rattle.pam_base.specs.declared.fault.ScriptKind.{ScriptKind}
use Rattle.pam_base.specs.Words.{words_of}
use Rattle.script_lang.specs.declared.command.Command.{Command}
use Rattle.script_lang.specs.declared.line.Line.{Line}
use Rattle.script_lang.specs.Call.{line_made}
use Rattle.script_lang.specs.Command.{command_of_word, places_of}
use Rattle.script_lang.specs.Cut.{first_word, has_its_words}
use Rattle.script_lang.specs.Value.{Meanings, carried_all, meanings_at, meanings_of}
use Rattle.script_lang.specs.Line.{IsRefusal, command_line, line_of_command}
use Rattle.script_lang.proofs.line.command_line.Goals as goal

no_memory : (r : Result Line (Refuse ScriptKind)) (answer : Result Line ScriptKind) (line : Line) → IsErrAnd r (λ e. e ≡ refusals.NoMemory)
    → answer ≡ Ok line → IfErr r (λ refusal. IsRefusal refusal answer)
no_memory (Ok l) answer line none e = absurd none
no_memory (Err refusal) answer line none e = rw none (line, e)

pub returns-in_err-line_made-in-Ok-clause-err : goal.returns-in_err-line_made-in-Ok-clause-err
returns-in_err-line_made-in-Ok-clause-err c =
    let made : command_line c.args.line.now ≡ Ok (line_made c.in-Some.command (meanings_of c.in-Ok.values)) = search rules in
    no_memory c.from_residual.result (command_line c.args.line.now) _ c.from_residual.ensures.1 made

-- a line by its command, the number of its words and their values
by_steps : (o : Option Command) (command : Command) (words : List (List ℕ)) (said : Meanings) → o ≡ Some command
    → has_its_words (places_of command) words ≡ true → meanings_at (places_of command) words ≡ Ok said
    → line_of_command o words ≡ Ok (line_made command said)
by_steps o command words said named has means = rw (named, has, means) refl

pub returns-in_ok-line_made-in-Ok-clause-ok : goal.returns-in_ok-line_made-in-Ok-clause-ok
returns-in_ok-line_made-in-Ok-clause-ok c =
    let named : command_of_word (first_word c.args.line.now) ≡ Some c.in-Some.command =
    ap command_of_word (sym c.first_word.ensures) ∙ sym c.command_named.ensures ∙ c.in-Some.is in
    let has : has_its_words (places_of c.in-Some.command) (words_of c.args.line.now) ≡ true = search rules in
    let values : carried_all (Ok c.in-Ok.values) ≡ meanings_at c.places-places.result (words_of c.args.line.now) = rw c.in-Ok.is at c.values_at.ensures in
    let means : meanings_at (places_of c.in-Some.command) (words_of c.args.line.now) ≡ Ok (meanings_of c.in-Ok.values) =
    sym (rw c.places-places.ensures at values) in
    rw c.in_ok-line_made-in-Ok.ensures (by_steps _ c.in-Some.command _ (meanings_of c.in-Ok.values) named has means)
