use Rattle.std.proofs.Common.{rules, ◌≡◌, ◌<◌, length, sym, ap, ◌∙◌, arith, Err, ◌∷◌}
use Rattle.std.proofs.lemmas.Bool.{eqb-true}
use Rattle.std.proofs.lemmas.Bool.Decides.{nat_tests}
use Rattle.control_words.specs.Bracket.{fault_of_entry}
use Rattle.control_words.specs.Entries.{ControlPair, after_space, entries_in, first_entry}
use Rattle.control_words.proofs.FirstEntryFacts.{entries-after_space, entries-first, none-left, rest-shorter, starts, starts-after_space}
use Rattle.control_words.proofs.ControlTableFacts.{filled-all, filled-fault, filled-more, filled-none}
use Rattle.control_words.proofs.bracket.control_in_bracket.Goals as goal

pub loop-rest-init : goal.loop-rest-init
loop-rest-init c = record {
  filled = filled-none _ _ _ (entries-after_space c.args.text.now ∙ ap entries_in (sym c.after_space-rest.ensures)) c.new-table.ensures;
  starts = ap starts c.after_space-rest.ensures ∙ starts-after_space c.args.text.now;
}

pub returns-in_err-fill : goal.returns-in_err-fill
returns-in_err-fill c =
    let some : 0 < length c.loop-rest.rest.now = grind (arith, nat_tests) in
    let cut = entries-first c.loop-rest.rest.now some c.loop-rest.invariant.starts in
    let entry : ControlPair = record { name = c.first_entry-entry.result.name.now; action = c.first_entry-entry.result.action.now } in
    let same : entry ≡ (first_entry c.loop-rest.rest.now).entry = λ i. record { name = c.first_entry-entry.ensures.name i; action = c.first_entry-entry.ensures.action i } in
    let answered : c.from_residual.result ≡ Err c.in_err-fill.field-0.0 = search rules in
    answered ∙ filled-fault (entries_in c.args.text.now) (entries_in c.loop-rest.rest.now) c.loop-rest.table c.loop-rest.invariant.filled (first_entry c.loop-rest.rest.now).entry (entries_in (after_space (first_entry c.loop-rest.rest.now).rest)) cut
    c.in_err-fill.field-0.0 (sym (ap fault_of_entry same) ∙ c.in_err-fill.ensures.fault)

pub loop-rest-smaller : goal.loop-rest-smaller
loop-rest-smaller c =
    let some : 0 < length c.loop-rest.rest.now = grind (arith, nat_tests) in
    let shorter = rest-shorter c.loop-rest.rest.now some c.loop-rest.invariant.starts in
    let same : c.after_space-rest-in-loop-rest.result.now ≡ after_space (first_entry c.loop-rest.rest.now).rest = c.after_space-rest-in-loop-rest.ensures ∙ ap after_space c.first_entry-entry.ensures.rest in
    omega (arith, shorter, ap length same)

pub loop-rest-preserved : goal.loop-rest-preserved
loop-rest-preserved c =
    let some : 0 < length c.loop-rest.rest.now = grind (arith, nat_tests) in
    let rest : c.after_space-rest-in-loop-rest.result.now ≡ after_space (first_entry c.loop-rest.rest.now).rest = c.after_space-rest-in-loop-rest.ensures ∙ ap after_space c.first_entry-entry.ensures.rest in
    let cut = entries-first c.loop-rest.rest.now some c.loop-rest.invariant.starts in
    let entry : ControlPair = record { name = c.first_entry-entry.result.name.now; action = c.first_entry-entry.result.action.now } in
    let same : (first_entry c.loop-rest.rest.now).entry ≡ entry = λ i. record { name = sym c.first_entry-entry.ensures.name i; action = sym c.first_entry-entry.ensures.action i } in
    let parts : entries_in c.loop-rest.rest.now ≡ entry ∷ entries_in c.after_space-rest-in-loop-rest.result.now = cut ∙ (λ i. same i ∷ entries_in (sym rest i)) in
    record {
      filled = filled-more (entries_in c.args.text.now) (entries_in c.loop-rest.rest.now) c.loop-rest.table c.loop-rest.invariant.filled entry (entries_in c.after_space-rest-in-loop-rest.result.now) parts c.fill.new.self c.in_ok-fill.ensures.fine c.in_ok-fill.ensures.filled;
      starts = ap starts c.after_space-rest-in-loop-rest.ensures ∙ starts-after_space c.first_entry-entry.result.rest.now;
    }

pub returns : goal.returns
returns c =
    let none : length c.loop-rest.rest.now ≡ 0 = eqb-true _ _ (sym c.is_empty.ensures ∙ c.loop-rest-test.false) in
    filled-all (entries_in c.args.text.now) (entries_in c.loop-rest.rest.now) c.loop-rest.table c.loop-rest.invariant.filled c.control.result (none-left c.loop-rest.rest.now none) c.control.ensures
