use Rattle.std.proofs.Common.{◌++◌, ◌∷◌, [], ◌∙◌, ap, List, ℕ}
use Rattle.std.specs.Str.{bytes_eq}
use Rattle.report_lines.proofs.NewlineFacts.{is_line_some, is_line_none}
use Rattle.report_lines.proofs.printed.is_line.Goals as goal

pub returns-in-Some : goal.returns-in-Some
returns-in-Some c =
    c.eq.ensures ∙ is_line_some c.as_bytes.result.now c.in-Some.front.now c.args.line.now c.in-Some.ensures.cases.0 c.in-Some.ensures.cases.1
    ∙ ap (λ (x : List ℕ). bytes_eq x (c.args.line.now ++ 10 ∷ [])) c.as_bytes.ensures.value

pub returns-in-None : goal.returns-in-None
returns-in-None c =
    is_line_none c.as_bytes.result.now c.args.line.now c.in-None.ensures.cases ∙ ap (λ (x : List ℕ). bytes_eq x (c.args.line.now ++ 10 ∷ [])) c.as_bytes.ensures.value
