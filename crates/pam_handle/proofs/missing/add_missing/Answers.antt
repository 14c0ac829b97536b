use Rattle.std.proofs.Common.{◌++◌, ap, arith}
use Rattle.pam_handle.proofs.MissingModuleFacts.{all_lines, missing_flat, one_line}
use Rattle.pam_handle.proofs.missing.add_missing.Goals as goal

pub loop-i-init : goal.loop-i-init
loop-i-init c = ap (λ more. c.args.names.now ++ more) (missing_flat c.args.chain.now.names 0 0 c.args.chain.now.nodes)

pub loop-i-preserved : goal.loop-i-preserved
loop-i-preserved c = one_line c.args.chain.now.names c.args.chain.now.nodes c.loop-i.i c.loop-i.names _ _ (omega (arith, c.len-i-end.ensures.counted)) c.in_ok-add_if_missing.ensures c.loop-i.invariant

pub returns : goal.returns
returns c = all_lines c.args.chain.now.names c.args.chain.now.nodes c.loop-i.i c.loop-i.names _ (omega (arith, c.len-i-end.ensures.counted)) c.loop-i.invariant
