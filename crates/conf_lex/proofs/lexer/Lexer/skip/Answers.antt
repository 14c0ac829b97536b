use Rattle.std.proofs.Common.{arith, ◌∙◌, ap}
use Rattle.conf_lex.specs.Lexing.{before_nul}
use Rattle.conf_lex.proofs.NulByteFacts.{before_short, before_drop, rest_is, lines_most, skip_fits, skip_keeps, skip_nul}
use Rattle.conf_lex.proofs.lexer.Lexer.skip.Goals as goal

pub slice_bounds-self-count : goal.slice_bounds-self-count
slice_bounds-self-count c = omega (arith, c.requires.within, before_short c.args.self.now.rest.now)

pub slice_bounds-self-start : goal.slice_bounds-self-start
slice_bounds-self-start c = omega (arith, c.requires.within, before_short c.args.self.now.rest.now)

pub overflow_add-self : goal.overflow_add-self
overflow_add-self c = omega (arith, c.requires.within, c.requires.lines, c.args.self.now.fits, lines_most c.args.n c.args.self.now.rest.now c.requires.within, before_short c.args.self.now.rest.now)

pub invariant_of-self : goal.invariant_of-self
invariant_of-self c = record {
  fits = skip_fits c.args.n _ _ _ _ c.requires.within c.requires.lines (rest_is c.args.n c.args.self.now.rest.now c.requires.within) c.args.self.now.fits;
}

pub returns-clause-rest : goal.returns-clause-rest
returns-clause-rest c = ap before_nul (rest_is c.args.n c.args.self.now.rest.now c.requires.within) ∙ before_drop c.args.n c.args.self.now.rest.now c.requires.within

pub returns-clause-moves : goal.returns-clause-moves
returns-clause-moves c =
    let to = rest_is c.args.n c.args.self.now.rest.now c.requires.within in record {
      nul = skip_nul c.args.n _ _ _ _ c.requires.within c.requires.lines to;
      nul_kept = skip_keeps c.args.n _ _ _ c.args.self.now.line c.requires.within c.requires.lines to;
    }
