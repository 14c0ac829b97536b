use Rattle.std.proofs.Common.{◌≡◌, ◌+◌, ℕ, Bool, true, false, List, [], ◌∷◌, ◌++◌, take, drop, Option, sym, ◌∙◌, ap, subst, append-nil}
use Rattle.std.specs.Prelude.{string_bytes}
use Rattle.std.specs.Option.{option_map}
use Rattle.service_load.specs.Stacks.{Stacks}
use Rattle.pass_replay.specs.Retold.{stacks_in}
use Rattle.report_lines.specs.Guess.{read_line}
use Rattle.report_lines.specs.Says.{Says, bare}
use Rattle.session_audit.specs.Checked.{bare_lines}
use Rattle.session_audit.proofs.RestOfTextFacts.{line_left, part_left}
use Rattle.explain_report.specs.Report.{Takes, left_of}
use Rattle.explain_report.proofs.ReportTextFacts.{nothing_left}
use Rattle.explain_report.proofs.report.explain_report.Goals as goal

pub returns-then-not-goes_on : goal.returns-then-not-goes_on
returns-then-not-goes_on c =
    let stacks : Stacks = stacks_in c.args.trees.now in
    let sources = c.args.sources.now in
    let rest = c.loop-n.rest.now in
    let old = c.loop-n.explainer in
    let new = c.take_line.new.self in
    let line : Option Says = option_map bare (read_line (take c.in-Some.n rest)) in
    let taken : Takes stacks sources old line false new = subst (λ (b : Bool). Takes stacks sources old line b new) c.if-not-goes_on.true
    c.in_ok-goes_on.ensures in
    let lines : line ∷ bare_lines (drop (c.in-Some.n + 1) rest) ≡ bare_lines rest = sym (line_left rest c.in-Some.n c.in-Some.ensures) in
    sym (taken (bare_lines (drop (c.in-Some.n + 1) rest)))
    ∙ ap (λ (ls : List (Option Says)). string_bytes old.text ++ left_of stacks sources old ls) lines ∙ c.loop-n.invariant

pub loop-n-preserved : goal.loop-n-preserved
loop-n-preserved c =
    let stacks : Stacks = stacks_in c.args.trees.now in
    let sources = c.args.sources.now in
    let rest = c.loop-n.rest.now in
    let after = c.after_newline-after.result.now in
    let old = c.loop-n.explainer in
    let new = c.take_line.new.self in
    let line : Option Says = option_map bare (read_line (take c.in-Some.n rest)) in
    let taken : Takes stacks sources old line true new = subst (λ (b : Bool). Takes stacks sources old line b new) c.if-not-goes_on.false
    c.in_ok-goes_on.ensures in
    let lines : line ∷ bare_lines after ≡ bare_lines rest =
    ap (λ (x : List ℕ). line ∷ bare_lines x) c.after_newline-after.ensures ∙ sym (line_left rest c.in-Some.n c.in-Some.ensures) in
    sym (taken (bare_lines after))
    ∙ ap (λ (ls : List (Option Says)). string_bytes old.text ++ left_of stacks sources old ls) lines ∙ c.loop-n.invariant

pub returns : goal.returns
returns c =
    let stacks : Stacks = stacks_in c.args.trees.now in
    let sources = c.args.sources.now in
    let rest = c.loop-n.rest.now in
    let e = c.loop-n.explainer in
    sym (append-nil (string_bytes e.text))
    ∙ ap (λ (xs : List ℕ). string_bytes e.text ++ xs) (sym (nothing_left stacks sources e rest)
    ∙ ap (left_of stacks sources e) (sym (part_left rest c.in_default.ensures)))
    ∙ c.loop-n.invariant
