use Rattle.std.proofs.Common.{List, ℕ, ◌++◌, not, ◌∙◌, ap}
use Rattle.dispatch_core.specs.control_words.specs.Module.{name_of_module}
use Rattle.dispatch_core.specs.handler_chain.specs.FlatLines.{rule_at}
use Rattle.pam_handle.proofs.MissingModuleFacts.{adds_name, module_is}
use Rattle.pam_handle.proofs.missing.add_if_missing.Goals as goal

pub returns-in_ok-push : goal.returns-in_ok-push
returns-in_ok-push c =
    c.in_ok-push.ensures.ok
    ∙ ap (λ (more : List (List ℕ)). c.args.names.now ++ more)
    (adds_name c.args.chain.now.names (rule_at c.args.chain.now.nodes c.args.i) c.silent.result c.module.result c.in_ok-from_bytes.field-0 c.silent.ensures c.if-not-silent.true
    (c.module.ensures ∙ module_is c.args.chain.now.names c.args.chain.now.nodes c.args.i c.requires) (c.is_none.ensures ∙ ap not c.if-is_none.true)
    (c.in_ok-from_bytes.ensures ∙ c.module_name-name.ensures ∙ ap name_of_module (c.bytes.ensures ∙ c.path.ensures)))
