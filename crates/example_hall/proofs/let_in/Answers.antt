use Rattle.std.proofs.Common.{◌≡◌, Ok, ap}
use Rattle.pam_base.specs.declared.code.Code.TheVariants as Code
use Rattle.example_hall.proofs.let_in.Goals as goal

pub returns-clause-let_in : goal.returns-clause-let_in
returns-clause-let_in g c = λ is.
    let first : c.in_ok-code.code ≡ Code.Success = c.in-Success.is in
    let second : c.in_ok-code-2.code ≡ Code.Success = c.in-Success-2.is in
    record {
      started = c.make.new.library;
      at_first = c.make.new.world;
      authenticated = c.make-2.new.library;
      at_second = c.make-2.new.world;
      start = rw c.in_ok-service.ensures at (rw c.in_ok-from_bytes.ensures at (c.in_ok-code.ensures.succeeds (ap Ok first)));
      authenticate = c.in_ok-code-2.ensures.succeeds (ap Ok second);
      acct_mgmt = c.make-3.ensures.succeeds is;
    }
