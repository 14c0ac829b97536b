use Rattle.std.proofs.Common.{Option, unwrap_or, ◌+◌, ◌∙◌, sym, ap}
use Rattle.pam_base.specs.declared.code.Code.{Code}
use Rattle.handler_chain.specs.declared.pass_kind.PassKind.{PassKind}
use Rattle.handler_chain.specs.Pass.{decides}
use Rattle.dispatch_core.specs.Passes.{by_place}
use Rattle.dispatch_core.proofs.CachedCodeFacts.{by_place-next}
use Rattle.dispatch_core.proofs.turn.decide.Goals as goal

pub returns-in-Follow : goal.returns-in-Follow
returns-in-Follow c =
    c.unwrap_or-kept_answer.ensures ∙ ap (λ (o : Option Code). unwrap_or o c.args.answer) (c.at.ensures ∙ sym (by_place-next c.args.kept.now c.args.i))
    ∙ sym (ap (λ (k : PassKind). decides k (by_place c.args.kept.now) (c.args.i + 1) c.args.answer) c.in-Follow.is)
