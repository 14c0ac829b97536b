use Rattle.std.proofs.Common.{◌≡◌, ◌-◌, length, ap, ◌∙◌, arith}
use Rattle.conf_lex.specs.Lexing.{before_nul, fault_at}
use Rattle.conf_lex.proofs.JoinedLineFacts.{line_refused, line_given}
use Rattle.conf_lex.proofs.lexer.Lexer.rule.Goals as goal

pub returns-in-Some-clause-given : goal.returns-in-Some-clause-given
returns-in-Some-clause-given c =
    let p = c.in_ok-line.ensures.taken in
    let same : length c.args.self.now.rest.now - length c.pieces.new.self.rest.now ≡ length (before_nul c.args.self.now.rest.now) - length (before_nul c.pieces.new.self.rest.now) = omega (arith, c.in_ok-line.ensures.moves.nul_kept) in
    line_refused _ _ p.pieces p.within _ _ _ p.reads c.in_ok-line.ensures.ends p.opened (c.in-Some.ensures ∙ ap (λ k. fault_at c.args.self.now.line k c.in_ok-line.line.opened) same)

pub returns-in-None-clause-given : goal.returns-in-None-clause-given
returns-in-None-clause-given c =
    let p = c.in_ok-line.ensures.taken in
    let same : length c.args.self.now.rest.now - length c.pieces.new.self.rest.now ≡ length (before_nul c.args.self.now.rest.now) - length (before_nul c.pieces.new.self.rest.now) = omega (arith, c.in_ok-line.ensures.moves.nul_kept) in
    line_given _ _ _ _ p.pieces p.within _ _ _ _ p.reads p.opened (c.in-None.ensures ∙ ap (λ k. fault_at c.args.self.now.line k c.in_ok-line.line.opened) same) p.tokens p.lines c.newline.ensures.taken
