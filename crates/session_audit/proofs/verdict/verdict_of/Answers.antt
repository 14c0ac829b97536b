use Rattle.std.proofs.Common.{◌≡◌, ◌<◌, ◌+◌, ℕ, List, ◌∷◌, length, drop, take, arith, sym, ◌∙◌, ap, subst, length-drop}
use Rattle.std.specs.Option.{option_map}
use Rattle.pass_replay.specs.Retold.{stacks_in}
use Rattle.report_lines.specs.Guess.{read_line}
use Rattle.report_lines.specs.Says.{bare}
use Rattle.session_audit.specs.Checked.{IsAfter, bare_lines, differs_at}
use Rattle.session_audit.specs.Fits.{is_none}
use Rattle.session_audit.proofs.RestOfTextFacts.{line_left, part_left, end_is, none_is}
use Rattle.session_audit.proofs.verdict.verdict_of.Goals as goal

pub returns-in-Some-named : goal.returns-in-Some-named
returns-in-Some-named c =
    let stacks = stacks_in c.args.trees.now in
    let rest = c.loop-n.rest.now in
    let after = c.after_newline-after.result.now in
    let taken = rw c.in-Some-named.is at c.in_ok-named.ensures in
    let last : is_none (bare_lines after) ≡ c.is_empty.result = end_is after ∙ sym c.is_empty.ensures in
    let lines : option_map bare (read_line (take c.in-Some.n rest)) ∷ bare_lines after ≡ bare_lines rest =
    ap (λ (x : List ℕ). option_map bare (read_line (take c.in-Some.n rest)) ∷ bare_lines x) c.after_newline-after.ensures
    ∙ sym (line_left rest c.in-Some.n c.in-Some.ensures) in
    sym (taken (bare_lines after) last) ∙ ap (differs_at stacks c.loop-n.checker) lines ∙ c.loop-n.invariant.left

pub loop-n-preserved : goal.loop-n-preserved
loop-n-preserved c =
    let stacks = stacks_in c.args.trees.now in
    let rest = c.loop-n.rest.now in
    let after = c.after_newline-after.result.now in
    let taken = rw c.in_default-named.is at c.in_ok-named.ensures in
    let last : is_none (bare_lines after) ≡ c.is_empty.result = end_is after ∙ sym c.is_empty.ensures in
    let lines : option_map bare (read_line (take c.in-Some.n rest)) ∷ bare_lines after ≡ bare_lines rest =
    ap (λ (x : List ℕ). option_map bare (read_line (take c.in-Some.n rest)) ∷ bare_lines x) c.after_newline-after.ensures
    ∙ sym (line_left rest c.in-Some.n c.in-Some.ensures) in
    let short : length after ≡ length (drop (c.in-Some.n + 1) rest) = ap length c.after_newline-after.ensures in
    let first : c.in-Some.n < length rest = c.in-Some.ensures.0 in
    record {
      is_after = subst (IsAfter c.take_line.new.self) (sym taken.0.lines_are) taken.0;
      left = sym (taken.1 (bare_lines after) last) ∙ ap (differs_at stacks c.loop-n.checker) lines ∙ c.loop-n.invariant.left;
      room = omega (arith, taken.0.lines_are, short, length-drop (c.in-Some.n + 1) rest, first, c.loop-n.invariant.room);
    }

pub returns : goal.returns
returns c =
    let stacks = stacks_in c.args.trees.now in
    let rest = c.loop-n.rest.now in
    c.end.ensures stacks rest (none_is rest ∙ sym c.is_empty-2.ensures)
    ∙ ap (differs_at stacks c.loop-n.checker) (sym (part_left rest c.in_default.ensures)) ∙ c.loop-n.invariant.left
