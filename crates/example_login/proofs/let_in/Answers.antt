use Rattle.std.proofs.Common.{◌≡◌}
use Rattle.pam_base.specs.declared.code.Code.TheVariants as Code
use Rattle.example_login.proofs.let_in.Goals as goal

pub returns-clause-let_in : goal.returns-clause-let_in
returns-clause-let_in g c = λ is.
    let first : c.in_ok-code.code ≡ Code.Success = c.in-Success.is in
    let second : c.in_ok-code-2.code ≡ Code.Success = c.in-Success-2.is in
    record {
      authenticated = c.authenticate.new.self;
      checked = c.acct_mgmt.new.self;
      at_first = c.set_time.new.world;
      after_first = c.authenticate.new.world;
      at_second = c.set_time-2.new.world;
      after_second = c.acct_mgmt.new.world;
      at_third = c.set_time-3.new.world;
      authenticate = rw first at c.in_ok-code.ensures;
      acct_mgmt = rw second at c.in_ok-code-2.ensures;
      setcred = rw is at c.setcred.ensures;
      first = c.set_time.ensures;
      second = c.set_time-2.ensures;
      third = c.set_time-3.ensures;
    }
