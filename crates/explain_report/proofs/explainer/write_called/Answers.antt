use Rattle.std.proofs.Common.{◌≡◌, ◌++◌, List, ℕ, sym, ◌∙◌, subst}
use Rattle.std.specs.Prelude.{OnOk, string_bytes}
use Rattle.pass_replay.specs.Held.{held_of}
use Rattle.pass_replay.specs.Retold.{stacks_in}
use Rattle.session_audit.specs.Checked.{told_in}
use Rattle.session_audit.specs.Fits.{visits_told}
use Rattle.explain_report.proofs.ReportTextFacts.{call_goes, call_refused}
use Rattle.explain_report.proofs.explainer.write_called.Goals as goal

pub returns-then-is_refused_change : goal.returns-then-is_refused_change
returns-then-is_refused_change c =
    subst (λ (x : List ℕ). OnOk c.write_refused.result (string_bytes c.write_refused.new.text ≡ string_bytes c.args.text.now ++ x))
    (call_refused (stacks_in c.args.block.now.trees.now) c.args.block.now.sources.now c.args.block.now.number c.args.func c.args.code (held_of c.args.held.now)
    (visits_told (told_in c.args.block.now.told.now)) (sym c.is_refused_change.ensures ∙ c.if-is_refused_change.true))
    c.write_refused.ensures

pub returns-else-is_refused_change : goal.returns-else-is_refused_change
returns-else-is_refused_change c =
    subst (λ (x : List ℕ). OnOk c.write_call.result (string_bytes c.write_call.new.text ≡ string_bytes c.args.text.now ++ x))
    (call_goes (stacks_in c.args.block.now.trees.now) c.args.block.now.sources.now c.args.block.now.number c.args.func c.args.code (held_of c.args.held.now)
    c.args.block.now.told.now (sym c.is_refused_change.ensures ∙ c.if-is_refused_change.false))
    c.write_call.ensures
