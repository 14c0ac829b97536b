use Rattle.std.proofs.Common.{refl, Ok, ◌∙◌}
use Rattle.module_acts.proofs.TransactionStepFacts.{showing, shown_cut, shown_empty, with_items}
use Rattle.module_acts.proofs.Talks_on.{said_some, spoken}
use Rattle.module_acts.proofs.speech.show.Goals as goal
use Rattle.module_acts.proofs.speech.show.Goals.{in-Ok, in-Err-NoMemory, in-Err-Named}

pub returns-then-is_empty-clause-told : goal.returns-then-is_empty-clause-told
returns-then-is_empty-clause-told g c = λ talks vault clock process.
    showing c.args.transaction.now c.args.transaction.now _ _ vault clock process refl (Ok (tt {0})) c.args.style c.args.text.now (shown_empty c.args.style c.args.text.now _ c.if-is_empty.ensures)

pub returns-clause-told : goal.returns-clause-told
returns-clause-told g c = λ talks vault clock process.
    showing c.args.transaction.now c.send.new.transaction _ _ vault clock process (with_items c.args.transaction.now c.send.new.transaction c.send.ensures.others) c.match-send.result c.args.style c.args.text.now
    (let told = c.send.ensures.told talks in
    let cut = c.in_ok-text.ensures ∙ c.first_bytes.ensures.front in
    elim c.match-send.branch [
      | in-Ok w ↦ rw w.result-is (shown_cut _ _ _ _ _ c.if-is_empty.ensures cut (rw w.in-Ok.is at told).1)
      | in-Err-NoMemory w ↦ rw w.result-is tt
      | in-Err-Named w ↦ rw w.result-is (shown_cut _ _ _ _ _ c.if-is_empty.ensures cut (rw (w.in-Err-Named.is, w.in-Err-Named.field-0-is) at told).1)
    ])

pub returns-clause-talks : goal.returns-clause-talks
returns-clause-talks g c = spoken _ _ (said_some _ _ _ c.send.ensures.all_or_none) c.send.ensures.others
