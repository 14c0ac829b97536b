use Rattle.std.proofs.Common.{◌≡◌, nat_le, length, true, false, arith}
use Rattle.std.proofs.lemmas.Bool.Decides.{nat_tests}
use Rattle.mod_history.specs.Pwhistory.{history_limit}
use Rattle.mod_history.proofs.SecondPassFacts.{short, too_long}
use Rattle.mod_history.proofs.file.store_text.Goals as goal

pub returns-then-text-clause-told : goal.returns-then-text-clause-told
returns-then-text-clause-told g c = λ tells room clock.
    let long : nat_le (length c.args.text.now) history_limit ≡ false = grind (arith, nat_tests) in
    too_long c.args.text.now _ long

pub returns-clause-told : goal.returns-clause-told
returns-clause-told g c = λ tells room clock.
    let few : nat_le (length c.args.text.now) history_limit ≡ true = grind (arith, nat_tests) in
    short c.args.text.now _ c.in_ok-done.done _ _ few (c.in_ok-done.ensures.told tells room clock) c.write_result.ensures
